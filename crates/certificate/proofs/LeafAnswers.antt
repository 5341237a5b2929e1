-- The leaves of the records ahead, and their answer.
use Rattle.std.proofs.Common.{◌≡◌, ℕ, Bool, List, [], ◌∷◌, ◌++◌, nat_abs, sym, refl, ap, ◌∙◌, append_assoc}
use Rattle.std.specs.List.{All}
use Rattle.std.proofs.lemmas.List.{append-nil, map_push}
use Rattle.price.specs.Pairs.{Pair}
use Rattle.price.specs.declared.senses.Sense.{Sense}
use Rattle.certificate.specs.declared.branches.Path.{Path}
use Rattle.certificate.specs.declared.records.Records.{Records}
use Rattle.certificate.specs.Ahead.{records, after, leaves_after}
use Rattle.certificate.specs.Lines.{Line, Leaf, leaf_of, leaves, case_lines}
use Rattle.certificate.specs.Ready.{Bounded}
use Rattle.certificate.specs.Splits.{Branch, branches_of, first_of, second_of, path_line, lines_at, onward}
use Rattle.certificate.specs.Tasks.{Task, Answer}
use Rattle.certificate.specs.Trees.{Tree, leaf, split, TreeRecord, leaf_record, split_record}
use Rattle.certificate.specs.Verdicts.{before, record_answer, leaves_answer}
use Rattle.certificate.proofs.FirstOfTwo.{FirstOf}
use Rattle.certificate.proofs.FirstOfTwo.{first_of as first_or_rest}
use Rattle.certificate.proofs.Onward.{onward_first, onward_second}

module _ (task : Task) where
  -- the leaves of the records ahead, of which the first stands under these splits
  abbrev pub left : List Branch → List TreeRecord → List (List Line × Leaf)
  left ts [] = []
  left ts (leaf_record d ps ms ∷ rs) = (lines_at task ts, leaf_of d ps ms) ∷ left (onward ts) rs
  left ts (split_record e m ∷ rs) = left (ts ++ (first_of (nat_abs e) (nat_abs m) ∷ [])) rs

  lines_push : (ts : List Branch) (t : Branch) → lines_at task (ts ++ (t ∷ [])) ≡ lines_at task ts ++ (path_line t ∷ [])
  lines_push ts t = rw (map_push, append_assoc) refl

  left_tree : (t : Tree) (ts : List Branch) (rs : List TreeRecord) → left ts (records t ++ rs) ≡ leaves (lines_at task ts) t ++ left (onward ts) rs
  left_tree (leaf d ps ms) ts rs = refl
  left_tree (split e m a b) ts rs =
      let low : Branch = first_of (nat_abs e) (nat_abs m) in
      let high : Branch = second_of (nat_abs e) (nat_abs m) in
      ap (left (ts ++ (low ∷ []))) (append_assoc (records a) (records b) rs)
      ∙ left_tree a (ts ++ (low ∷ [])) (records b ++ rs)
      ∙ (λ i. leaves (lines_push ts low i) a ++ left (onward_first ts (nat_abs e) (nat_abs m) i) (records b ++ rs))
      ∙ ap (λ l. leaves (lines_at task ts ++ (path_line low ∷ [])) a ++ l) (left_tree b (ts ++ (high ∷ [])) rs
      ∙ (λ i. leaves (lines_push ts high i) b ++ left (onward_second ts (nat_abs e) (nat_abs m) i) rs))
      ∙ sym (append_assoc (leaves (lines_at task ts ++ (path_line low ∷ [])) a) (leaves (lines_at task ts ++ (path_line high ∷ [])) b) (left (onward ts) rs))

  pub left_all : (t : Tree) → left [] (records t) ≡ leaves (case_lines task) t
  left_all t = rw (← append-nil (records t), left_tree, append-nil (leaves (lines_at task []) t), append-nil (case_lines task)) refl

-- the answer is that of the leaves of the records ahead, whose numbers are in range
pub record Judging (le : Pair → Pair → Bool) (unit : Pair) (task : Task) (sense : Sense) (c : Pair) (all : Answer) (r : Records) (rs : List TreeRecord) : Type 0 where
  pub bounded : All Bounded rs
  pub same : all ≡ leaves_answer le unit task sense c r.leaves (left task (branches_of r.path) rs)

judged : (le : Pair → Pair → Bool) (unit : Pair) (task : Task) (sense : Sense) (c : Pair) (n : ℕ) (ts : List Branch) (q : TreeRecord) (qs : List TreeRecord) →
    leaves_answer le unit task sense c n (left task ts (q ∷ qs)) ≡ before (record_answer le unit task sense c (lines_at task ts) q n) (leaves_answer le unit task sense c (leaves_after q n) (left task (after q ts) qs))
judged le unit task sense c n ts (leaf_record d ps ms) qs = refl
judged le unit task sense c n ts (split_record e m) qs = refl

-- the record in front, and the leaves behind it
pub first_judged : {le : Pair → Pair → Bool} {unit : Pair} {task : Task} {sense : Sense} {c : Pair} {all : Answer} {r : Records} {q : TreeRecord} {qs : List TreeRecord} {p : Path} {n : ℕ} →
    Judging le unit task sense c all r (q ∷ qs) → p ≡ r.path → n ≡ r.leaves →
    FirstOf all (record_answer le unit task sense c (lines_at task (branches_of p)) q n) (leaves_answer le unit task sense c (leaves_after q r.leaves) (left task (after q (branches_of r.path)) qs))
first_judged {le} {unit} {task} {sense} {c} {all} {r} {q} {qs} j path number =
    first_or_rest all _ _ (j.same ∙ judged le unit task sense c r.leaves (branches_of r.path) q qs
    ∙ (λ i. before (record_answer le unit task sense c (lines_at task (branches_of (sym path i))) q (sym number i)) (leaves_answer le unit task sense c (leaves_after q r.leaves) (left task (after q (branches_of r.path)) qs))))
