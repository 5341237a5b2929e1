-- The reader finds a tree exactly where one is spelled.
use Rattle.std.proofs.Common.{◌≡◌, ℕ, zero, suc, ◌+◌, ◌*◌, ◌≤◌, leb, List, [], ◌∷◌, ◌++◌, length, take, drop, ℤ, pos, negsuc, Some, None, Option, sym, refl, ap, ◌∙◌, subst, append_assoc, arith, length-append, length-drop}
use Rattle.std.proofs.lemmas.List.{take-append-drop, drop-drop, length-take-le, take_at, drop_at}
use Rattle.std.proofs.lemmas.Bool.{le-leb, leb-true, cond-true}
use Rattle.std.proofs.lemmas.Option.{none-some, same_Some, cond_some, option_and_then_some}
use Rattle.std.specs.Option.{option_and_then}
use Rattle.certificate.specs.Ahead.{numbers}
use Rattle.certificate.specs.Reading.{leaf_after, first_record, joined, tree_from, read_tree}
use Rattle.certificate.specs.Trees.{Tree, leaf, split, TreeRecord, leaf_record, split_record, spelled, Fits}

-- ---- what is spelled is read

pub leaf_whole : (nodes rows : ℕ) (d : ℤ) (ps ms rest : List ℤ) → length ps ≡ 2 * nodes → length ms ≡ 2 * rows →
    leaf_after nodes rows (d ∷ ((ps ++ ms) ++ rest)) ≡ Some (leaf_record d ps ms, rest)
leaf_whole nodes rows d ps ms rest p q =
    let whole : length (ps ++ ms) ≡ 2 * nodes + 2 * rows = simp length-append (omega arith) in
    let long : 2 * nodes + 2 * rows ≤ length ((ps ++ ms) ++ rest) = simp length-append (omega arith) in
    let first : take (2 * nodes) ((ps ++ ms) ++ rest) ≡ ps = rw append_assoc (take_at ps (ms ++ rest) (2 * nodes) p) in
    let after : drop (2 * nodes) ((ps ++ ms) ++ rest) ≡ ms ++ rest = rw append_assoc (drop_at ps (ms ++ rest) (2 * nodes) p) in
    let second : take (2 * rows) (ms ++ rest) ≡ ms = take_at ms rest (2 * rows) q in
    let end : drop (2 * nodes + 2 * rows) ((ps ++ ms) ++ rest) ≡ rest = drop_at (ps ++ ms) rest (2 * nodes + 2 * rows) whole in
    cond-true (leb (2 * nodes + 2 * rows) (length ((ps ++ ms) ++ rest))) _ _ (le-leb _ _ long) ∙ rw (first, after, second, end)

pub complete : (splits nodes rows : ℕ) (t : Tree) (rest : List ℤ) → Fits splits nodes rows t → read_tree splits nodes rows (spelled t ++ rest) ≡ Some (t, rest)
complete zero nodes rows (leaf d ps ms) rest f = rw (leaf_whole nodes rows d ps ms rest f.0 f.1)
complete zero nodes rows (split e m s t) rest f = absurd f
complete (suc k) nodes rows (leaf d ps ms) rest f = rw (leaf_whole nodes rows d ps ms rest f.0 f.1)
complete (suc k) nodes rows (split e m s t) rest f =
    rw (append_assoc (spelled s) (spelled t) rest, complete k nodes (rows + 1) s (spelled t ++ rest) f.0, complete k nodes (rows + 1) t rest f.1)

-- ---- what is read is spelled

pieces : {X : Type 0} (a b : ℕ) (xs : List X) → (take a xs ++ take b (drop a xs)) ++ drop (a + b) xs ≡ xs
pieces a b xs =
    append_assoc (take a xs) (take b (drop a xs)) (drop (a + b) xs)
    ∙ ap (λ ys. take a xs ++ (take b (drop a xs) ++ ys)) (sym (drop-drop b a xs))
    ∙ ap (λ ys. take a xs ++ ys) (take-append-drop b (drop a xs))
    ∙ take-append-drop a xs

-- a leaf has two numbers for each node and each row
abbrev Shaped : ℕ → ℕ → TreeRecord → Type 0
Shaped nodes rows (leaf_record d ps ms) = (length ps ≡ 2 * nodes) × (length ms ≡ 2 * rows)
Shaped nodes rows (split_record e m) = Unit {0}

record_sound : (nodes rows : ℕ) (xs : List ℤ) (w : TreeRecord × List ℤ) → first_record nodes rows xs ≡ Some w → Shaped nodes rows w.0 × (numbers w.0 ++ w.1 ≡ xs)
record_sound nodes rows [] w h = cc
record_sound nodes rows (pos zero ∷ []) w h = cc
record_sound nodes rows (pos zero ∷ d ∷ xs) w h =
    let s = cond_some (leb (2 * nodes + 2 * rows) (length xs)) (leaf_record d (take (2 * nodes) xs) (take (2 * rows) (drop (2 * nodes) xs)), drop (2 * nodes + 2 * rows) xs) w h in
    let long : 2 * nodes + 2 * rows ≤ length xs = leb-true _ _ s.0 in
    subst (λ v. Shaped nodes rows v.0 × (numbers v.0 ++ v.1 ≡ pos 0 ∷ d ∷ xs)) s.1 (
      (length-take-le (2 * nodes) xs (omega arith), length-take-le (2 * rows) (drop (2 * nodes) xs) (simp length-drop (omega arith))),
      ap (λ ys. pos 0 ∷ d ∷ ys) (pieces (2 * nodes) (2 * rows) xs),
    )
record_sound nodes rows (pos (suc zero) ∷ []) w h = cc
record_sound nodes rows (pos (suc zero) ∷ e ∷ []) w h = cc
record_sound nodes rows (pos (suc zero) ∷ e ∷ m ∷ xs) w h = subst (λ v. Shaped nodes rows v.0 × (numbers v.0 ++ v.1 ≡ pos 1 ∷ e ∷ m ∷ xs)) (same_Some (split_record e m, xs) w h) (tt, refl)
record_sound nodes rows (pos (suc (suc n)) ∷ xs) w h = cc
record_sound nodes rows (negsuc n ∷ xs) w h = cc

-- a tree of the kind P, and the list behind it
abbrev Back : (Tree → Type 0) → List ℤ → Tree × List ℤ → Type 0
Back P xs w = P w.0 × (spelled w.0 ++ w.1 ≡ xs)

-- trees of the kind Q stand under a split of the kind P
module _ (nodes rows : ℕ) (subtree : List ℤ → Option (Tree × List ℤ)) (P Q : Tree → Type 0)
    (leaves : (d : ℤ) (ps ms : List ℤ) → length ps ≡ 2 * nodes → length ms ≡ 2 * rows → P (leaf d ps ms))
    (splits : (e m : ℤ) (s t : Tree) → Q s → Q t → P (split e m s t))
    (each : (xs : List ℤ) (w : Tree × List ℤ) → subtree xs ≡ Some w → Back Q xs w) where
  from_record : (r : TreeRecord) (xs : List ℤ) (w : Tree × List ℤ) → Shaped nodes rows r → tree_from subtree r xs ≡ Some w → Back P (numbers r ++ xs) w
  from_record (leaf_record d ps ms) xs w s h = subst (Back P (pos 0 ∷ d ∷ ((ps ++ ms) ++ xs))) (same_Some (leaf d ps ms, xs) w h) (leaves d ps ms s.0 s.1, refl)
  from_record (split_record e m) xs w s h =
      option_and_then_some (joined e m subtree) (subtree xs) w h (λ a p q.
      option_and_then_some (λ b. Some (split e m a.0 b.0, b.1)) (subtree a.1) w q (λ b r t.
      let first = each xs a p in
      let second = each a.1 b r in
      subst (Back P (pos 1 ∷ e ∷ m ∷ xs)) (same_Some (split e m a.0 b.0, b.1) w t) (
        splits e m a.0 b.0 first.0 second.0,
        ap (λ ys. pos 1 ∷ e ∷ m ∷ ys) (append_assoc (spelled a.0) (spelled b.0) b.1 ∙ ap (λ ys. spelled a.0 ++ ys) second.1 ∙ first.1),
      )))

  from_list : (xs : List ℤ) (w : Tree × List ℤ) → option_and_then (λ p. tree_from subtree p.0 p.1) (first_record nodes rows xs) ≡ Some w → Back P xs w
  from_list xs w h = option_and_then_some (λ p. tree_from subtree p.0 p.1) (first_record nodes rows xs) w h (λ p e q.
      let s = record_sound nodes rows xs p e in subst (λ ys. Back P ys w) s.1 (from_record p.0 p.1 w s.0 q))

pub sound : (splits nodes rows : ℕ) (xs : List ℤ) (w : Tree × List ℤ) → read_tree splits nodes rows xs ≡ Some w → Fits splits nodes rows w.0 × (spelled w.0 ++ w.1 ≡ xs)
sound zero nodes rows xs w h =
    from_list nodes rows (λ ys. None) (Fits zero nodes rows) (λ t. ⊥) (λ d ps ms p q. (p, q)) (λ e m s t f g. f) (λ ys v k. absurd (none-some v k)) xs w h
sound (suc k) nodes rows xs w h =
    from_list nodes rows (read_tree k nodes (rows + 1)) (Fits (suc k) nodes rows) (Fits k nodes (rows + 1)) (λ d ps ms p q. (p, q)) (λ e m s t f g. (f, g)) (sound k nodes (rows + 1)) xs w h
