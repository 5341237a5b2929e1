-- The readers of lists take just what is written of a list.
use Rattle.std.proofs.Common.{◌≡◌, ℕ, zero, suc, ◌≤◌, List, [], ◌∷◌, ◌++◌, length, ℤ, Some, decimal, refl, ap, append_assoc, arith}
use Rattle.std.specs.Fmt.{signed_decimal}
use Rattle.std.specs.List.{All}
use Rattle.std.specs.Option.{IfSome}
use Rattle.std.proofs.lemmas.List.Elements.{All-nil, All-cons, All-head, All-tail}
use Rattle.grammar.specs.Numbers.{natural_front, integer_front, natural_after, integer_after}
use Rattle.grammar.specs.Reading.{naturals_front, integers_in}
use Rattle.grammar.specs.Spelling.{naturals, integers, Natural, Integer}
use Rattle.grammar.proofs.Chains.{and_then_holds, map_holds}
use Rattle.grammar.proofs.Readers.{Ends, Reads, reads_after}
use Rattle.grammar.proofs.Decimals.{reads_natural, reads_integer}

pub one_natural : Reads natural_after (λ n. 32 ∷ decimal n) Natural
one_natural = reads_after natural_front decimal Natural reads_natural

one_integer : Reads integer_after (λ z. 32 ∷ signed_decimal z) Integer
one_integer = reads_after integer_front signed_decimal Integer reads_integer

-- ---- just so many naturals

abbrev pub FoundNaturals : ℕ → List ℕ → List ℕ × List ℕ → Type 0
FoundNaturals n text p = (naturals p.0 ++ p.1 ≡ text) × All Natural p.0 × (length p.0 ≡ n)

pub naturals_sound : (k : ℕ) (text : List ℕ) → IfSome (naturals_front k text) (FoundNaturals k text)
naturals_sound zero text = (refl, All-nil Natural, refl)
naturals_sound (suc k) text =
    and_then_holds _ (natural_after text) _ (one_natural.sound text) (λ n s.
    map_holds _ (naturals_front k n.1) _ (naturals_sound k n.1) (λ q t. (
      cc (append_assoc (decimal n.0) (naturals q.0) q.1),
      All-cons Natural n.0 q.0 s.1 t.1,
      ap suc t.2,
    )))

pub ends_naturals : (ns rest : List ℕ) → Ends rest → Ends (naturals ns ++ rest)
ends_naturals [] rest ends = ends
ends_naturals (n ∷ ns) rest ends = refl

pub naturals_complete : (ns rest : List ℕ) → All Natural ns → Ends rest → naturals_front (length ns) (naturals ns ++ rest) ≡ Some (ns, rest)
naturals_complete [] rest small ends = refl
naturals_complete (n ∷ ns) rest small ends =
    rw (
      append_assoc (decimal n) (naturals ns) rest,
      one_natural.complete n (naturals ns ++ rest) (All-head Natural n ns small) (ends_naturals ns rest ends),
      naturals_complete ns rest (All-tail Natural n ns small) ends,
    )

-- ---- integers up to the end

abbrev pub FoundIntegers : ℕ → List ℕ → List ℤ → Type 0
FoundIntegers room text zs = (integers zs ≡ text) × All Integer zs × (length zs ≤ room)

pub integers_sound : (room : ℕ) (text : List ℕ) → IfSome (integers_in room text) (FoundIntegers room text)
integers_sound room [] = (refl, All-nil Integer, omega arith)
integers_sound zero (c ∷ cs) = tt
integers_sound (suc room) (c ∷ cs) =
    and_then_holds _ (integer_after (c ∷ cs)) _ (one_integer.sound (c ∷ cs)) (λ z s.
    map_holds _ (integers_in room z.1) _ (integers_sound room z.1) (λ zs t.
    (cc, All-cons Integer z.0 zs s.1 t.1, omega (arith, t.2))))

pub ends_integers : (zs : List ℤ) → Ends (integers zs)
ends_integers [] = tt
ends_integers (z ∷ zs) = refl

pub integers_complete : (room : ℕ) (zs : List ℤ) → All Integer zs → length zs ≤ room → integers_in room (integers zs) ≡ Some zs
integers_complete room [] small long = refl
integers_complete zero (z ∷ zs) small long = absurd (omega arith)
integers_complete (suc room) (z ∷ zs) small long =
    rw (one_integer.complete z (integers zs) (All-head Integer z zs small) (ends_integers zs), integers_complete room zs (All-tail Integer z zs small) (omega arith))
