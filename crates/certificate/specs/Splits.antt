-- The splits on the path from the root to a leaf. To compute with.
use Rattle.std.specs.Prelude.{ℕ, Bool, true, false, cond, not, ◌||◌, List, [], ◌∷◌, ◌++◌, map}
use Rattle.certificate.specs.declared.branches.Path.{Path}
use Rattle.certificate.specs.declared.branches.Branch as declared
use Rattle.certificate.specs.declared.branches.Branch.TheVariants.{AtMost, MoreThan}
use Rattle.certificate.specs.Lines.{Line, case_lines, at_most, at_least}
use Rattle.certificate.specs.Tasks.{Task}

-- a split on the path, and whether its second tree is being judged
pub record Branch : Type 0 where
  pub edge : ℕ
  pub m : ℕ
  pub second : Bool

abbrev pub first_of : ℕ → ℕ → Branch
first_of e m = record { edge = e; m = m; second = false }

abbrev pub second_of : ℕ → ℕ → Branch
second_of e m = record { edge = e; m = m; second = true }

abbrev pub path_line : Branch → Line
path_line t = cond t.second (at_least t.edge t.m) (at_most t.edge t.m)

-- the rows of a leaf under these splits
abbrev pub lines_at : Task → List Branch → List Line
lines_at task ts = case_lines task ++ map path_line ts

abbrev pub unfinished : List Branch → Bool
unfinished [] = false
unfinished (t ∷ ts) = not t.second || unfinished ts

-- behind a leaf: the last split whose first tree was being judged goes on to its second, and those below it are done
abbrev pub onward : List Branch → List Branch
onward [] = []
onward (t ∷ ts) = cond (unfinished ts) (t ∷ onward ts) (cond t.second [] (second_of t.edge t.m ∷ []))

-- what the types of the code mean
abbrev pub branch_of : declared.Branch → Branch
branch_of (AtMost edge most) = first_of edge most.count
branch_of (MoreThan edge most) = second_of edge most.count

abbrev pub branches_of : Path → List Branch
branches_of p = map branch_of p.branches.items
