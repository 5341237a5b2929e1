-- A list that is exactly one tree.
use Rattle.std.proofs.Common.{◌≡◌, ℕ, Bool, true, false, eqb, List, [], length, ℤ, Some, None, Option, sym, refl, ap, ◌∙◌}
use Rattle.std.proofs.lemmas.List.{append-nil, nil_from_length}
use Rattle.std.proofs.lemmas.Bool.{eqb-true, cond-true, cond-false}
use Rattle.std.proofs.lemmas.Option.{cond_some}
use Rattle.task.specs.Sides.{node_count}
use Rattle.certificate.specs.declared.shapes.Shape.{Shape}
use Rattle.certificate.specs.Held.{rest_of, ends}
use Rattle.certificate.specs.Reading.{whole, read_tree}
use Rattle.certificate.specs.Tasks.{Task}
use Rattle.certificate.specs.Trees.{Tree, Spells, spelled}
use Rattle.certificate.proofs.Spellings.{sound, complete}

whole_tree : (o : Option (Tree × List ℤ)) (t : Tree) → whole o ≡ Some t → o ≡ Some (t, [])
whole_tree None t h = cc
whole_tree (Some p) t h = let s = cond_some (eqb (length p.1) 0) p.0 t h in λ i. Some (s.1 i, nil_from_length p.1 (eqb-true _ _ s.0) i)

module _ (nodes rows : ℕ) (xs : List ℤ) (t : Tree) where
  pub whole_spelled : Spells nodes rows xs t → whole (read_tree 12 nodes rows xs) ≡ Some t
  whole_spelled s = ap (λ ys. whole (read_tree 12 nodes rows ys)) (sym (append-nil (spelled t) ∙ s.is)) ∙ ap whole (complete 12 nodes rows t [] s.fits)

  pub spells_it : whole (read_tree 12 nodes rows xs) ≡ Some t → Spells nodes rows xs t
  spells_it e = let s = sound 12 nodes rows xs (t, []) (whole_tree _ t e) in record { fits = s.0; is = sym (append-nil (spelled t)) ∙ s.1 }

-- what an answer to the question of the shape tells; `shape` is that of a tree that may prove a claim about the task
module _ (task : Task) (shape : Shape) (e : record { nodes : shape.nodes ≡ node_count task.edges; rows : shape.rows ≡ length task.rows; splits : shape.splits ≡ 12 }) (xs : List ℤ)
    {yes! : Bool} (is : yes! ≡ ends (rest_of (read_tree shape.splits shape.nodes shape.rows xs))) where
  asked : yes! ≡ ends (rest_of (read_tree 12 (node_count task.edges) (length task.rows) xs))
  asked = simp (e.splits, e.nodes, e.rows) at is

  pub is_tree : yes! ≡ true → (t : Tree) × Spells shape.nodes shape.rows xs t × (whole (read_tree 12 (node_count task.edges) (length task.rows) xs) ≡ Some t)
  is_tree h = go (read_tree 12 (node_count task.edges) (length task.rows) xs) refl (sym asked ∙ h)
    where
      go : (o : Option (Tree × List ℤ)) → read_tree 12 (node_count task.edges) (length task.rows) xs ≡ o → ends (rest_of o) ≡ true → (t : Tree) × Spells shape.nodes shape.rows xs t × (whole (read_tree 12 (node_count task.edges) (length task.rows) xs) ≡ Some t)
      go None o k = cc
      go (Some p) o k =
          let same = ap whole o ∙ cond-true (eqb (length p.1) 0) (Some p.0) None k in
          (p.0, rw (e.nodes, e.rows) (spells_it (node_count task.edges) (length task.rows) xs p.0 same), same)

  pub no_tree : yes! ≡ false → whole (read_tree 12 (node_count task.edges) (length task.rows) xs) ≡ None
  no_tree h = go (read_tree 12 (node_count task.edges) (length task.rows) xs) (sym asked ∙ h)
    where
      go : (o : Option (Tree × List ℤ)) → ends (rest_of o) ≡ false → whole o ≡ None
      go None k = refl
      go (Some p) k = cond-false (eqb (length p.1) 0) (Some p.0) None k
