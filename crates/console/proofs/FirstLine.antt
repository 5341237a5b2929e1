-- A piece of a text, up to its first feed and with it or up to its end, is the first of the lines.
use Rattle.std.proofs.Common.{◌≡◌, ℕ, zero, suc, ◌+◌, ◌<◌, ◌≤◌, Bool, true, false, cond, eqb, List, [], ◌∷◌, ◌++◌, length, get_or, take, drop, min, Some, None, Option, MatchOption, Bor, inl, inr, sym, refl, ap, ◌∙◌, append_assoc, append-nil, add-one, drop-cons, length-append, arith, ◌≢◌}
use Rattle.std.specs.Option.{unwrap_or}
use Rattle.std.specs.List.{AllWithin, HoldsAt}
use Rattle.std.proofs.Math.Seq.{take-append_seam, drop-append_seam, get_or-append_seam}
use Rattle.std.proofs.lemmas.Bool.{cases_lt, cond-false, eqb-true}
use Rattle.std.proofs.lemmas.List.{take_all, take_more, drop_all, nil_from_length, append_cancel_right}
use Rattle.console.specs.Lines.{lines_on, lines}

abbrev pub is_feed : ℕ → Bool
is_feed c = eqb c 10

lines_from : (start : List ℕ) (c : ℕ) (cs : List ℕ) → lines_on start (c ∷ cs) ≡ cond (is_feed c) (start ∷ lines cs) (lines_on (start ++ (c ∷ [])) cs)
lines_from [] c cs = refl
lines_from (b ∷ start) c cs = refl

-- bytes that are no feeds belong to the line
lines_past : (start text : List ℕ) (i : ℕ) → i ≤ length text → AllWithin (λ c. is_feed c ≡ false) text 0 i → lines_on start text ≡ lines_on (start ++ take i text) (drop i text)
lines_past start text zero h none = ap (λ l. lines_on l text) (sym (append-nil start))
lines_past start [] (suc i) h none = absurd (omega arith)
lines_past start (c ∷ cs) (suc i) h none =
    lines_from start c cs ∙ cond-false (is_feed c) _ _ (none 0 0 (omega arith) (omega arith))
    ∙ lines_past (start ++ (c ∷ [])) cs i (omega arith) (λ k d low high. none (suc k) d (omega arith) (omega arith))
    ∙ ap (λ l. lines_on l (drop i cs)) (append_assoc start (c ∷ []) (take i cs))

last_line : (text : List ℕ) → 1 ≤ length text → lines_on text [] ≡ text ∷ []
last_line [] some = absurd (omega arith)
last_line (c ∷ cs) some = refl

-- `line` is the piece without its feed, where it has one
module _ (text piece more line : List ℕ) (i : ℕ) (whole : text ≡ piece ++ more) (long : length piece ≡ min (i + 1) (length text))
    (none : AllWithin (λ c. is_feed c ≡ false) text 0 i) (here : i < length text → HoldsAt (λ c. is_feed c ≡ true) text i) (some : 1 ≤ length text)
    (fed : (front : List ℕ) → piece ≡ front ++ (10 ∷ []) → line ≡ front) (unfed : ((front : List ℕ) → piece ≢ front ++ (10 ∷ [])) → line ≡ piece) where
  front_is : take (length piece) text ≡ piece
  front_is = rw whole (take-append_seam piece more)

  rest_is : drop (length piece) text ≡ more
  rest_is = rw whole (drop-append_seam piece more)

  with_feed : i < length text → lines text ≡ line ∷ lines more
  with_feed h =
      let size : length piece ≡ i + 1 = omega arith in
      let feed : get_or text i 0 ≡ 10 = eqb-true _ 10 (here h 0) in
      let front : piece ≡ take i text ++ (10 ∷ []) = sym (rw size at front_is) ∙ take_more text i 0 h ∙ ap (λ c. take i text ++ (c ∷ [])) feed in
      let rest : drop i text ≡ 10 ∷ more = drop-cons text i 0 h ∙ rw (← add-one i, feed, ← size, rest_is) in
      lines_past [] text i (omega arith) none ∙ ap (lines_on (take i text)) rest ∙ lines_from (take i text) 10 more
      ∙ ap (λ l. l ∷ lines more) (sym (fed (take i text) front))

  without_feed : length text ≤ i → lines text ≡ line ∷ lines more
  without_feed h =
      let size : length piece ≡ length text = omega arith in
      let same : piece ≡ text = sym (rw size at front_is) ∙ take_all (length text) text (omega arith) in
      let nothing : more ≡ [] = nil_from_length more (omega (arith, ap length whole, length-append piece more)) in
      let open_end = λ (front : List ℕ) (ends : piece ≡ front ++ (10 ∷ [])).
      let last : get_or text (length front) 0 ≡ 10 = ap (λ l. get_or l (length front) 0) (sym same ∙ ends) ∙ get_or-append_seam front 10 [] 0 in
      let inside : length front < length text = omega (arith, ap length ends, length-append front (10 ∷ [])) in
      let no : is_feed (get_or text (length front) 0) ≡ false = none (length front) 0 (omega arith) (omega arith) in
      let yes : is_feed (get_or text (length front) 0) ≡ true = ap is_feed last in
      let never : ⊥ = cc in never in
      let all = lines_past [] text (length text) (omega arith) (λ k d low high. none k d low (omega arith)) in
      rw (take_all (length text) text (omega arith), drop_all (length text) text (omega arith)) at all ∙ last_line text some
      ∙ cc (unfed open_end)

  pub next_line : lines text ≡ line ∷ lines more
  next_line = elim (cases_lt i (length text)) [ inl h ↦ with_feed h | inr h ↦ without_feed h ]

-- what `strip_suffix` says
pub stripped : (own : Bor (List ℕ)) (r : Option (Bor (List ℕ))) →
    MatchOption r ((front : List ℕ) → own.now ≢ front ++ (10 ∷ [])) (λ x. own.now ≡ x.now ++ (10 ∷ [])) →
    ((front : List ℕ) → own.now ≡ front ++ (10 ∷ []) → (unwrap_or r own).now ≡ front)
    × (((front : List ℕ) → own.now ≢ front ++ (10 ∷ [])) → (unwrap_or r own).now ≡ own.now)
stripped own None h = (λ front e. absurd (h front e), λ none. refl)
stripped own (Some x) h = (λ front e. append_cancel_right x.now front (10 ∷ []) (sym h ∙ e), λ none. absurd (none x.now h))
