-- What the tests of turns say of balance, of the way to the end and of rows.
use Rattle.std.proofs.Common.{◌≡◌, ℕ, ◌<◌, ◌≤◌, true, not, List, [], ◌∷◌, length, get_or, ℤ, ⊎_elim, arith}
use Rattle.std.proofs.lemmas.Int.{ints}
use Rattle.std.specs.Bool.{Decides}
use Rattle.std.specs.List.{All}
use Rattle.std.proofs.lemmas.List.Elements.{All-nil, All-cons, All-weaker}
use Rattle.std.proofs.lemmas.List.{get_or_default, get_or_past}
use Rattle.std.proofs.lemmas.Bool.{ltb-true, not-true, not-false, not_from_true, not_from_false, cases_lt, cases_Bool}
use Rattle.std.proofs.lemmas.Bool.Decides.{nat_tests}
use Rattle.task.specs.declared.edges.Edge.{Edge}
use Rattle.task.specs.declared.edges.Side.{Side}
use Rattle.task.specs.declared.edges.Side.TheVariants.{Tail, Head}
use Rattle.task.specs.declared.rows.Relation.{Relation}
use Rattle.task.specs.declared.rows.Relation.TheVariants.{Below, AtMost, Equal}
use Rattle.task.specs.Graph.{head_of}
use Rattle.task.specs.Rows.{Row, Meets, Keeps}
use Rattle.task.specs.Sealing.{Ends}
use Rattle.task.specs.Sides.{end_at, is_live, node_count, reaches}
use Rattle.task.specs.Sound.{Balanced, Reaches, Onward, row_at, Sound, Walkable}
use Rattle.task.specs.TurnsAnswer.{turns_at, unbalanced, stranded, meets, broken}
use Rattle.task.proofs.Seals.{node_below, below_node, Forth, forth_path, path_forth, every_edge}
use Rattle.task.proofs.Marks.{reached_way, way_reached}

-- ---- balance

pub balanced_tells : (es : List Edge) (start end : ℕ) (ts : List ℕ) (v : ℕ) → Decides (not (unbalanced es start end ts v)) (Balanced es start end ts v)
balanced_tells es start end ts v = (λ h. grind (arith, nat_tests), λ h. grind (arith, nat_tests))

side_low : (side : Side) (e : Edge) (es : List Edge) → end_at side e < node_count (e ∷ es)
side_low Tail e es = omega arith
side_low Head e es = omega arith

-- no turns enter or leave what is no node
none_past : (side : Side) (v : ℕ) (es : List Edge) (ts : List ℕ) → node_count es ≤ v → turns_at side v es ts ≡ 0
none_past side v [] ts h = omega arith
none_past side v (e ∷ es) [] h = omega arith
none_past side v (e ∷ es) (t ∷ ts) h = grind (arith, nat_tests, side_low side e es, none_past side v es ts (omega arith))

-- ---- the way to the end over edges with turns

module _ (es : List Edge) (ts : List ℕ) (sized : length ts ≡ length es) where
  live_some : (x : ℕ) → x < length es → is_live ts x ≡ true → 0 < get_or ts x 0
  live_some x low on = omega (arith, ltb-true 0 (get_or ts x 1) on, get_or_default ts x 0 1 (omega arith))

  some_live : (x : ℕ) → 0 < get_or ts x 0 → is_live ts x ≡ true
  some_live x some = grind (arith, nat_tests, get_or_default ts x 0 1, get_or_past ts x 0)

  forth_all : (xs : List ℕ) (v e : ℕ) → Forth es ts v e xs → All (λ x. 0 < get_or ts x 0) xs
  forth_all [] v e w = All-nil (λ y. 0 < get_or ts y 0)
  forth_all (x ∷ xs) v e w = All-cons (λ y. 0 < get_or ts y 0) x xs (live_some x w.0 w.2) (forth_all xs (head_of es x) e w.3)

  reached : (e v : ℕ) → reaches es ts Tail e v ≡ true → Reaches es ts e v
  reached e v h = let way = reached_way es ts Tail e v h in (way.0, forth_path es ts way.0 v e way.1, forth_all way.0 v e way.1)

  reaching : (e v : ℕ) → Reaches es ts e v → reaches es ts Tail e v ≡ true
  reaching e v r = way_reached es ts Tail e v r.0 (path_forth es ts r.0 v e r.1 (All-weaker (λ x. 0 < get_or ts x 0) (λ x. is_live ts x ≡ true) some_live r.0 r.2))

  pub onward_tells : (e x : ℕ) → x < length es → Decides (not (stranded es e ts x)) (Onward es e ts x)
  onward_tells e x low = (
    λ h some. reached e (head_of es x) (grind (arith, some_live x some)),
    λ goes. ⊎_elim
        (λ on. let near = reaching e (head_of es x) (goes (live_some x low on)) in grind (arith))
        (λ off. grind (arith))
        (cases_Bool (is_live ts x)),
  )

-- ---- rows

meets_tells : (r : Relation) (sum k : ℤ) → Decides (meets r sum k) (Meets r sum k)
meets_tells Below sum k = (λ h. grind (arith, ints), λ h. grind (arith, ints))
meets_tells AtMost sum k = (λ h. grind (arith, ints), λ h. grind (arith, ints))
meets_tells Equal sum k = (λ h. grind (arith, ints), λ h. grind (arith, ints))

pub keeps_tells : (es : List Edge) (rows : List Row) (ts : List ℕ) (i : ℕ) → Decides (not (broken es rows ts i)) (Keeps es ts (row_at rows i))
keeps_tells es rows ts i = let tells = meets_tells _ _ _ in (λ h. tells.0 (not-false _ (not-true _ h)), λ h. not_from_false _ (not_from_true _ (tells.1 h)))

-- ---- between the ends of a graph, sound turns are what a claim has to show

module _ (es : List Edge) (rows : List Row) (start end : ℕ) (ts : List ℕ) (sound : Sound es rows start end ts) (ends : Ends es start end) where
  all_balanced : (v : ℕ) → Balanced es start end ts v
  all_balanced v = ⊎_elim
      (λ low. sound.balanced v (below_node es v low))
      (λ high. grind (arith, nat_tests, node_below es start ends.start.is.node, node_below es end ends.end.is.node, none_past Head v es ts high, none_past Tail v es ts high))
      (cases_lt v (node_count es))

  pub claims : Walkable es start end ts
  claims = record {
    apart = (every_edge es start end ends).apart;
    no_way_on = ends.end.is.not_left;
    sized = sound.sized;
    balanced = all_balanced;
    reaches = sound.onward;
  }
