-- What a case holds.
use Rattle.std.specs.Prelude.{◌≡◌, ℕ, ◌≤◌, true, List, [], sum, Vec, vec_items, vec_len, vec_capacity}
use Rattle.judge.specs.Stages.{Stage, draft, stage_of, ends_held}
use Rattle.judge.specs.declared.stages.Stage as declared
use Rattle.task.specs.declared.edges.Edge.{Edge}
use Rattle.task.specs.Rows.{Row}

-- all that a caller can tell of a case
pub record Contents : Type 0 where
  pub stage : Stage
  pub edges : List Edge
  pub rows : List Row

module _ {Y : Type 0} (stage : declared.Stage) (edges : Vec Edge Y) (rows : Vec Row Y) (exits left : List ℕ) where
  abbrev pub contents : Contents
  contents = record { stage = stage_of stage exits left; edges = vec_items edges; rows = vec_items rows }

  -- the lists are within their limits and have room up to them; past the draft, the ends are those of the graph
  pub record IsCase : Type 0 where
    pub few_edges : vec_len edges ≤ 64
    pub edge_room : 64 ≤ vec_capacity edges
    pub few_rows : vec_len rows ≤ 24
    pub row_room : 24 ≤ vec_capacity rows
    pub few_left : sum left ≤ 67108800
    pub ends_hold : ends_held (stage_of stage exits left) (vec_items edges) ≡ true

abbrev pub fresh : Contents
fresh = record { stage = draft; edges = []; rows = [] }
