-- The record in front of those ahead.
use Rattle.std.proofs.Common.{◌≡◌, ℕ, ◌+◌, List, [], ◌∷◌, ◌++◌, length, ℤ, Some, None, Option, sym, refl, ap, subst}
use Rattle.std.proofs.lemmas.Option.{same_Some}
use Rattle.certificate.specs.declared.records.Records.{Records}
use Rattle.certificate.specs.Ahead.{Ahead, numbers, written, first_and_rest, HasPlace, AllHavePlace}
use Rattle.certificate.specs.Reading.{first_record}
use Rattle.certificate.specs.Splits.{Branch}
use Rattle.certificate.specs.Trees.{TreeRecord, leaf_record, split_record}
use Rattle.certificate.proofs.Spellings.{leaf_whole}

module _ (nodes rows : ℕ) (ts : List Branch) where
  first_is : (r : TreeRecord) (zs : List ℤ) → HasPlace nodes rows ts r → first_record nodes (rows + length ts) (numbers r ++ zs) ≡ Some (r, zs)
  first_is (leaf_record d ps ms) zs s = leaf_whole nodes (rows + length ts) d ps ms zs s.0 s.1
  first_is (split_record e m) zs s = refl

  pub front_is : (rs : List TreeRecord) → AllHavePlace nodes rows ts rs → first_record nodes (rows + length ts) (written rs) ≡ first_and_rest rs
  front_is [] s = refl
  front_is (r ∷ rs) s = first_is r (written rs) s.0

-- what holds of the records ahead, once it is known what is in front
module _ {r : Records} {Holds : List TreeRecord → Type 0} where
  pub in_front : {w : TreeRecord × List ℤ} → (rs : List TreeRecord) × (Ahead r rs × Holds rs) → ((rs : List TreeRecord) → Ahead r rs → ◌≡◌ {A = Option (TreeRecord × List ℤ)} (Some w) (first_and_rest rs)) →
      (qs : List TreeRecord) × Ahead r (w.0 ∷ qs) × Holds (w.0 ∷ qs) × (written qs ≡ w.1)
  in_front {w} ahead front = go ahead.0 ahead.1.0 ahead.1.1 (front ahead.0 ahead.1.0)
    where
      go : (rs : List TreeRecord) → Ahead r rs → Holds rs → ◌≡◌ {A = Option (TreeRecord × List ℤ)} (Some w) (first_and_rest rs) → (qs : List TreeRecord) × Ahead r (w.0 ∷ qs) × Holds (w.0 ∷ qs) × (written qs ≡ w.1)
      go [] a h e = cc
      go (q ∷ qs) a h e =
          let same = same_Some w (q, written qs) e in
          (qs, subst (λ v. Ahead r (v.0 ∷ qs)) (sym same) a, subst (λ v. Holds (v.0 ∷ qs)) (sym same) h, sym (ap (λ v. v.1) same))

  pub none_in_front : (rs : List TreeRecord) × (Ahead r rs × Holds rs) → ((rs : List TreeRecord) → Ahead r rs → ◌≡◌ {A = Option (TreeRecord × List ℤ)} None (first_and_rest rs)) → Holds []
  none_in_front ahead front = go ahead.0 ahead.1.1 (front ahead.0 ahead.1.0)
    where
      go : (rs : List TreeRecord) → Holds rs → ◌≡◌ {A = Option (TreeRecord × List ℤ)} None (first_and_rest rs) → Holds []
      go [] h e = h
      go (q ∷ qs) h e = cc
