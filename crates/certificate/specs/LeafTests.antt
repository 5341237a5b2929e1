-- The three questions of a leaf.
use Rattle.std.specs.Prelude.{ℕ, Bool, true, List, pos}
use Rattle.price.specs.Laws.{cheaper}
use Rattle.price.specs.Pairs.{Pair, zero, ◌⊕◌, times}
use Rattle.price.specs.declared.senses.Sense.{Sense}
use Rattle.task.specs.declared.edges.Edge.{Edge}
use Rattle.task.specs.declared.rows.Relation.{Relation}
use Rattle.task.specs.declared.rows.Relation.TheVariants.{Below, AtMost, Equal}
use Rattle.task.specs.Turns.{edge_price}
use Rattle.certificate.specs.Lines.{Line, Leaf, multiplier, allowance, bound}
use Rattle.certificate.specs.Tasks.{Task}

module _ (le : Pair → Pair → Bool) where
  -- (0, 0) is no dearer than the multiplier of a row, unless the row wants equality
  abbrev pub sign_ok : Relation → Pair → Bool
  sign_ok Below m = le zero m
  sign_ok AtMost m = le zero m
  sign_ok Equal m = true

  -- the sign of the multiplier of row i
  abbrev pub row_ok : Leaf → ℕ → Line → Bool
  row_ok l i r = sign_ok r.relation (multiplier l i)

  -- D × the price of edge x that counts is no dearer than its allowance
  abbrev pub edge_ok : Sense → List Line → Leaf → ℕ → Edge → Bool
  edge_ok sense lines l x e = le (times (pos l.scale) (edge_price sense e)) (allowance lines l x e)

module _ (le : Pair → Pair → Bool) (unit : Pair) (task : Task) (c : Pair) where
  -- the bound is cheaper than D × (C + unit), which is (0, 0) where D is 0
  abbrev pub bound_ok : List Line → Leaf → Bool
  bound_ok lines l = cheaper le (bound task.start task.end lines l) (times (pos l.scale) (c ⊕ unit))
