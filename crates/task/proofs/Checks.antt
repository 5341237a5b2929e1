-- What the answer of `check_turns` says.
use Rattle.std.proofs.Common.{◌≡◌, ℕ, ◌<◌, Bool, true, false, ◌↔◌, List, length, Ok, Err, Option, Result, sym, refl, subst, arith}
use Rattle.price.specs.Questions.{ask}
use Rattle.task.specs.declared.faults.TurnsFault.{TurnsFault}
use Rattle.task.specs.declared.faults.TurnsFault.TheVariants.{Count, Range, Unbalanced, Stranded, RowBroken}
use Rattle.std.proofs.lemmas.List.Elements.{All-get_or, All-from_get_or}
use Rattle.std.proofs.lemmas.Bool.{eqb-true, eqb-false}
use Rattle.std.proofs.lemmas.Bool.Decides.{nat_tests}
use Rattle.task.specs.declared.edges.Edge.{Edge}
use Rattle.task.specs.Graph.{Node}
use Rattle.task.specs.Rows.{Row, Keeps}
use Rattle.task.specs.Sides.{node_count}
use Rattle.task.specs.Sound.{InRange, Balanced, Onward, no_row, row_at, Sound, Counted, Flowing, Checked, turns_count, turns_range, node_unbalanced, edge_stranded, row_broken, turns_sound}
use Rattle.task.specs.TurnsAnswer.{over, unbalanced, stranded, broken, unless, turns_answer}
use Rattle.task.proofs.Lowest.{first_says}
use Rattle.task.proofs.Seals.{node_below, below_node}
use Rattle.task.proofs.Flows.{balanced_tells, onward_tells, keeps_tells}

abbrev Answer : Type 0
Answer = Result (Unit {0}) TurnsFault

-- ---- one question

by_ask : (P : Answer → Type 0) (b : Bool) (fault : TurnsFault) (rest : Answer) → (b ≡ false → P (Err fault)) → (b ≡ true → P rest) → P (ask b fault rest)
by_ask P true fault rest failed passed = passed refl
by_ask P false fault rest failed passed = failed refl

-- ---- the questions in their order

module _ (es : List Edge) (rows : List Row) (start end : ℕ) (ts : List ℕ) where
  abbrev Says : Answer → Type 0
  Says = Checked es rows start end ts

  abbrev asked : (ℕ → TurnsFault) → Answer → Option ℕ → Type 0
  asked fault rest place = Says (unless fault place rest)

  checked : Says (turns_answer es rows start end ts)
  checked =
      by_ask Says _ Count _ (λ off. turns_count refl (eqb-false _ _ off)) (λ same.
      let sized = eqb-true (length ts) (length es) same in
      first_says (asked Range _) (λ x. x < length es) (InRange ts) (over ts) (length es) (λ x low. low) (λ x low. low)
      (λ x low. (λ h. grind (arith, nat_tests), λ h. grind (arith, nat_tests))) (λ x. turns_range x refl sized) (λ few.
      let counted : Counted es ts = record { sized = sized; few = few } in
      first_says (asked Unbalanced _) (Node es) (Balanced es start end ts) (unbalanced es start end ts) (node_count es) (node_below es) (below_node es)
      (λ v low. balanced_tells es start end ts v) (λ v. node_unbalanced v refl counted) (λ balanced.
      let flowing : Flowing es start end ts = record { counted = counted; balanced = balanced } in
      first_says (asked Stranded _) (λ x. x < length es) (Onward es end ts) (stranded es end ts) (length es) (λ x low. low) (λ x low. low)
      (onward_tells es ts sized end) (λ x. edge_stranded x refl flowing) (λ on.
      first_says (asked RowBroken _) (λ i. i < length rows) (λ i. Keeps es ts (row_at rows i)) (broken es rows ts) (length rows) (λ i low. low) (λ i low. low)
      (λ i low. keeps_tells es rows ts i) (λ i. row_broken i refl (record { flowing = flowing; onward = on })) (λ keep.
      turns_sound refl (record { sized = sized; few = few; balanced = balanced; onward = on; keeps = All-from_get_or (Keeps es ts) rows no_row keep }))))))

  pub answers : (r : Result (Unit {0}) TurnsFault) → r ≡ turns_answer es rows start end ts → Checked es rows start end ts r
  answers r is = subst (Checked es rows start end ts) (sym is) checked

  -- ---- sound turns are accepted, and nothing else

  module _ (r : Result (Unit {0}) TurnsFault) where
    pub exactly : Checked es rows start end ts r → (r ≡ Ok tt) ↔ Sound es rows start end ts
    exactly (turns_count is off) = (λ ok. cc, λ want. absurd (off want.sized))
    exactly (turns_range x is sized low) = (λ ok. cc, λ want. absurd (low.fails (want.few x low.place)))
    exactly (node_unbalanced v is so low) = (λ ok. cc, λ want. absurd (low.fails (want.balanced v low.place)))
    exactly (edge_stranded x is so low) = (λ ok. cc, λ want. absurd (low.fails (want.onward x low.place)))
    exactly (row_broken i is so low) = (λ ok. cc, λ want. absurd (low.fails (All-get_or (Keeps es ts) rows i no_row low.place want.keeps)))
    exactly (turns_sound is sound) = (λ ok. sound, λ want. is)
