-- Turns added up over edges, and over the places of a run.
use Rattle.std.proofs.Common.{map, sym, add-one, ◌≡◌, ℕ, zero, suc, ◌+◌, ◌-◌, ◌<◌, ◌≤◌, Bool, true, cond, eqb, ◌⊎◌, List, [], ◌∷◌, length, get_or, sum, refl, ap, ◌∙◌, ⊎_elim, le_of_suc-le-suc, not-suc-le-zero, arith}
use Rattle.std.specs.List.{range_with_len}
use Rattle.std.proofs.lemmas.Bool.Decides.{nat_tests}
use Rattle.std.proofs.lemmas.List.{get_or-set_other, get_or-set_same, get_or_past}
use Rattle.std.proofs.lemmas.List.FromFn.{fill_by_all}
use Rattle.std.proofs.lemmas.List.Sums.{sum_by-set}
use Rattle.task.specs.declared.edges.Edge.{Edge}
use Rattle.task.specs.Graph.{edge_at}
use Rattle.task.specs.Lowest.{one_if}
use Rattle.task.specs.Turns.{turns, turns_from, turns_in, turns_by}
use Rattle.walk.specs.Walks.{one_less}

-- ---- one turn of edge x less: of x itself, of the edges that pass a test, and of all

pub one_less_at : (ts : List ℕ) (x y : ℕ) → 0 < get_or ts x 0 → get_or (one_less ts x) y 0 + one_if (eqb x y) ≡ get_or ts y 0
one_less_at ts x y h =
    grind (arith, nat_tests, get_or-set_same ts x (get_or ts x 0 - 1) 0, get_or-set_other ts x y (get_or ts x 0 - 1) 0, get_or_past ts x 0)

one_less_here : (b : Bool) (t rest : ℕ) → 0 < t → cond b (t - 1) 0 + rest + one_if b ≡ cond b t 0 + rest
one_less_here b t rest h = grind arith

pub by_one_less : (p : Edge → Bool) (es : List Edge) (ts : List ℕ) (x : ℕ) → x < length es → 0 < get_or ts x 0 →
    turns_by p es (one_less ts x) + one_if (p (edge_at es x)) ≡ turns_by p es ts
by_one_less p [] ts x low h = absurd (not-suc-le-zero low)
by_one_less p (e ∷ es) [] x low h = absurd (not-suc-le-zero h)
by_one_less p (e ∷ es) (t ∷ ts) zero low h = one_less_here (p e) t (turns_by p es ts) h
by_one_less p (e ∷ es) (t ∷ ts) (suc x) low h = omega (arith, by_one_less p es ts x (le_of_suc-le-suc low) h)

pub sum_one_less : (ts : List ℕ) (x : ℕ) → x < length ts → 0 < get_or ts x 0 → sum (one_less ts x) + 1 ≡ sum ts
sum_one_less ts x low h = omega (arith, sum_by-set (λ t. t) ts x (get_or ts x 0 - 1) 0 low)

-- ---- an edge that passes a test and has a turn

pub record SomeTurn (p : Edge → Bool) (es : List Edge) (ts : List ℕ) : Type 0 where
  pub number : ℕ
  pub edge : number < length es
  pub passes : p (edge_at es number) ≡ true
  pub held : 0 < get_or ts number 0

here_or_later : (b : Bool) (t rest : ℕ) → 0 < cond b t 0 + rest → ((b ≡ true) × (0 < t)) ⊎ (0 < rest)
here_or_later b t rest h = grind arith

pub by_some : (p : Edge → Bool) (es : List Edge) (ts : List ℕ) → 0 < turns_by p es ts → SomeTurn p es ts
by_some p [] ts h = absurd (not-suc-le-zero h)
by_some p (e ∷ es) [] h = absurd (not-suc-le-zero h)
by_some p (e ∷ es) (t ∷ ts) h = ⊎_elim
    (λ here. record { number = 0; edge = omega arith; passes = here.0; held = here.1 })
    (λ later. let s = by_some p es ts later in record { number = suc s.number; edge = omega (arith, s.edge); passes = s.passes; held = s.held })
    (here_or_later (p e) t (turns_by p es ts) h)

pub by_at : (p : Edge → Bool) (es : List Edge) (ts : List ℕ) (x : ℕ) → x < length es → p (edge_at es x) ≡ true → get_or ts x 0 ≤ turns_by p es ts
by_at p [] ts x low q = absurd (not-suc-le-zero low)
by_at p (e ∷ es) [] x low q = omega arith
by_at p (e ∷ es) (t ∷ ts) zero low q = rw q (omega arith)
by_at p (e ∷ es) (t ∷ ts) (suc x) low q = omega (arith, by_at p es ts x (le_of_suc-le-suc low) q)

-- ---- the turns of a run, edge by edge

by_number : (i : ℕ) (es : List Edge) (run : List ℕ) → turns_from i es run ≡ map (λ x. turns x run) (range_with_len i (length es))
by_number i [] run = refl
by_number i (e ∷ es) run = rw add-one (ap (λ ts. turns i run ∷ ts) (by_number (suc i) es run))

pub turns_each : (es : List Edge) (run ts : List ℕ) → length ts ≡ length es → ((x : ℕ) → x < length es → turns x run ≡ get_or ts x 0) → turns_in es run ≡ ts
turns_each es run ts e all = by_number 0 es run ∙ sym (fill_by_all (λ x. turns x run) ts (length es) 0 e (λ x h. sym (all x h)))
