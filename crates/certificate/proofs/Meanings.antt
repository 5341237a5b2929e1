-- What the answers mean.
use Rattle.std.proofs.Common.{◌≡◌, ℕ, ◌+◌, ◌^◌, Bool, true, List, [], ◌∷◌, ◌++◌, length, ℤ, Some, None, Ok, Option, sym, refl, ap, ◌∙◌, subst, arith}
use Rattle.std.specs.Bool.{IsTrue}
use Rattle.std.specs.List.{All}
use Rattle.std.proofs.lemmas.Bool.{leb-true, leb-false, and_parts}
use Rattle.std.proofs.lemmas.List.Elements.{All-nil, All-cons, All-from_get_or}
use Rattle.std.proofs.lemmas.Option.{none-some}
use Rattle.price.specs.Pairs.{Pair}
use Rattle.price.specs.declared.senses.Sense.{Sense}
use Rattle.task.specs.Coefficients.{in_range}
use Rattle.task.specs.Graph.{no_edge}
use Rattle.task.specs.Sides.{node_count}
use Rattle.task.proofs.Smalls.{within_is, outside_is}
use Rattle.certificate.specs.declared.faults.TreeFault.TheVariants.{Range, MultiplierSign, AllowanceShort}
use Rattle.certificate.specs.TreeJudged.{TreeJudged, Passes, Fails, sign, allowance, bound, OfList, not_one_tree, out_of_range, leaf_fails, proved, too_many_edges, too_many_rows, price_range, of_list}
use Rattle.certificate.specs.LeafTests.{row_ok, edge_ok}
use Rattle.certificate.specs.Lines.{Line, Leaf, leaves, case_lines, no_line}
use Rattle.certificate.specs.RangeTests.{tests}
use Rattle.certificate.specs.Reading.{read_tree, whole}
use Rattle.certificate.specs.Tasks.{Task, Answer}
use Rattle.certificate.specs.Trees.{Tree}
use Rattle.certificate.specs.Verdicts.{before, leaf_answer, leaves_answer, found_answer, list_answer, task_answer}
use Rattle.certificate.proofs.ByQuestions.{by_ask, by_first}
use Rattle.certificate.proofs.OneTree.{whole_spelled, spells_it}

module _ (le : Pair → Pair → Bool) (unit : Pair) (task : Task) (sense : Sense) (c : Pair) where
  abbrev Passing : List Line × Leaf → Type 0
  Passing x = Passes le unit task sense c x.0 x.1

  module _ (P : Answer → Type 0) where
    by_leaf : (lines : List Line) (l : Leaf) (n : ℕ) (rest : Answer) → ((a : Answer) → Fails le unit task sense c lines l n a → P a) → (Passes le unit task sense c lines l → P rest) →
        P (before (leaf_answer le unit task sense c lines l n) rest)
    by_leaf lines l n rest failing passing =
        by_first (λ a. P (before a rest)) (row_ok le l) (MultiplierSign n) no_line lines (λ k f. failing _ (sign k refl f)) (λ s.
        by_first (λ a. P (before a rest)) (edge_ok le sense lines l) (AllowanceShort n) no_edge task.edges (λ k f. failing _ (allowance k refl s f)) (λ e.
        by_ask (λ a. P (before a rest)) (λ u. failing _ (bound refl s e u)) (λ u. passing (record { signs = s; allowances = e; under = u }))))

    -- leaves that are numbered from n
    by_leaves : (n : ℕ) (xs : List (List Line × Leaf)) →
        ((passed rest : List (List Line × Leaf)) (lines : List Line) (l : Leaf) → xs ≡ passed ++ ((lines, l) ∷ rest) → All Passing passed → (k : ℕ) → k ≡ n + length passed → (a : Answer) → Fails le unit task sense c lines l k a → P a) →
        (All Passing xs → P (Ok tt)) → P (leaves_answer le unit task sense c n xs)
    by_leaves n [] failing passing = passing (All-nil Passing)
    by_leaves n (x ∷ xs) failing passing = by_leaf x.0 x.1 n _
        (failing [] xs x.0 x.1 refl (All-nil Passing) n (omega arith))
        (λ ok. by_leaves (n + 1) xs
        (λ passed rest lines l is ps k e. failing (x ∷ passed) rest lines l (ap (λ ys. x ∷ ys) is) (All-cons Passing x passed ok ps) k (omega arith))
        (λ ps. passing (All-cons Passing x xs ok ps)))

  module _ (top : ℤ) (xs : List ℤ) where
    list_means : OfList le unit task sense c top xs (list_answer le unit task sense c top xs)
    list_means = go (whole (read_tree 12 (node_count task.edges) (length task.rows) xs)) refl
      where
        go : (o : Option Tree) → whole (read_tree 12 (node_count task.edges) (length task.rows) xs) ≡ o → OfList le unit task sense c top xs (found_answer le unit task sense c top o)
        go None e = not_one_tree refl (λ t s. none-some t (sym e ∙ whole_spelled (node_count task.edges) (length task.rows) xs t s))
        go (Some t) e =
            let s = spells_it (node_count task.edges) (length task.rows) xs t e in
            let near = All-from_get_or IsTrue (tests (length task.edges) top t) true in
            by_first (OfList le unit task sense c top xs) (λ i b. b) Range true (tests (length task.edges) top t) (λ k f. out_of_range t s k refl f) (λ r.
            by_leaves (OfList le unit task sense c top xs) 0 (leaves (case_lines task) t)
            (λ passed rest lines l is ps k e a f. let same : k ≡ length passed = omega arith in leaf_fails t s (near r) passed rest lines l is ps (subst (λ (n : ℕ). Fails le unit task sense c lines l n a) same f))
            (λ ps. proved refl t s (near r) ps))

    pub judged : TreeJudged le unit task sense c top xs (task_answer le unit task sense c top xs)
    judged =
        by_ask (TreeJudged le unit task sense c top xs) (λ e. too_many_edges refl (leb-false _ _ e)) (λ es.
        by_ask (TreeJudged le unit task sense c top xs) (λ e. too_many_rows refl (leb-true _ _ es) (leb-false _ _ e)) (λ rs.
        by_ask (TreeJudged le unit task sense c top xs) (λ e. price_range refl (leb-true _ _ es) (leb-true _ _ rs) (λ f. outside_is (2 ^ 42) c.0 c.1 f e)) (λ e.
        let t = and_parts (in_range (2 ^ 42) c.0) (in_range (2 ^ 42) c.1) e in
        of_list (leb-true _ _ es) (leb-true _ _ rs) (within_is (2 ^ 42) c.0 t.0, within_is (2 ^ 42) c.1 t.1) list_means)))
