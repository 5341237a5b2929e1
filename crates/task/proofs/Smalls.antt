-- Numbers in range: one, those of a list, and those of a list with zeros after it.
use Rattle.std.proofs.Common.{◌≡◌, ℕ, ◌-◌, ◌≤◌, true, false, ◌&&◌, List, length, get_or, replicate, ℤ, pos, refl, ◌∙◌, ⊎_elim, arith}
use Rattle.std.specs.Bool.{Decides}
use Rattle.std.specs.List.{All}
use Rattle.std.proofs.lemmas.Int.{ints}
use Rattle.std.proofs.lemmas.Bool.{both_ways, and_from, cases_lt}
use Rattle.std.proofs.lemmas.Bool.Decides.{nat_tests, Decides-by_and}
use Rattle.std.proofs.lemmas.List.{get_or_past, length-append, length-replicate}
use Rattle.std.proofs.lemmas.List.Elements.{All-get_or, All-append, All-replicate}
use Rattle.price.specs.Ranges.{Within, Both}
use Rattle.task.specs.Coefficients.{in_range, all_small}
use Rattle.task.specs.NewRows.{padded}

within_tells : (h : ℕ) (z : ℤ) → Decides (in_range h z) (Within h z)
within_tells h z = (λ e. (grind (arith, ints, nat_tests), grind (arith, ints, nat_tests)), λ f. grind (arith, ints, nat_tests))

pub within_is : (h : ℕ) (z : ℤ) → in_range h z ≡ true → Within h z
within_is h z = (within_tells h z).0

pub outside_is : (h : ℕ) (a b : ℤ) → Both h (a, b) → in_range h a && in_range h b ≡ false → ⊥
outside_is h a b f e = both_ways _ e (and_from (in_range h a) (in_range h b) ((within_tells h a).1 f.0) ((within_tells h b).1 f.1))

small_tells : (cs : List ℤ) → Decides (all_small cs) (All (Within 1000) cs)
small_tells cs = Decides-by_and (in_range 1000) (Within 1000) all_small (within_tells 1000) refl (λ c cs. refl) cs

-- past the end stands 0, which is in every range
pub all_small_at : (cs : List ℤ) (b : ℕ) → all_small cs ≡ true → Within 1000 (get_or cs b (pos 0))
all_small_at cs b small = ⊎_elim
    (λ low. All-get_or (Within 1000) cs b (pos 0) low ((small_tells cs).0 small))
    (λ high. rw (get_or_past cs b (pos 0) high) (omega (arith, ints)))
    (cases_lt b (length cs))

pub length_padded : (cs : List ℤ) → length cs ≤ 64 → length (padded cs) ≡ 64
length_padded cs few = length-append cs (replicate (64 - length cs) (pos 0)) ∙ omega (arith, length-replicate (64 - length cs) (pos 0))

pub padded_small : (cs : List ℤ) → all_small cs ≡ true → all_small (padded cs) ≡ true
padded_small cs small =
    let zeros = replicate (64 - length cs) (pos 0) in
    (small_tells (padded cs)).1 (All-append (Within 1000) cs zeros ((small_tells cs).0 small) (All-replicate (Within 1000) (64 - length cs) (pos 0) (omega (arith, ints))))
