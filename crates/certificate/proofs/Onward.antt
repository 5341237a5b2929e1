-- The way of the path table behind a leaf.
use Rattle.std.proofs.Common.{◌≡◌, ℕ, true, cond, not, ◌||◌, List, [], ◌∷◌, ◌++◌, map, refl, ap, ◌∙◌}
use Rattle.std.proofs.Math.Bool.{or-true}
use Rattle.std.proofs.lemmas.List.{map-append}
use Rattle.certificate.specs.declared.branches.Branch as declared
use Rattle.certificate.specs.declared.branches.Branch.TheVariants.{AtMost, MoreThan}
use Rattle.certificate.specs.declared.branches.Most.{Most}
use Rattle.certificate.specs.Splits.{Branch, branch_of, first_of, second_of, unfinished, onward}

unfinished_first : (ts : List Branch) (e m : ℕ) → unfinished (ts ++ (first_of e m ∷ [])) ≡ true
unfinished_first [] e m = refl
unfinished_first (t ∷ ts) e m = ap (λ b. not t.second || b) (unfinished_first ts e m) ∙ or-true (not t.second)

-- the last split was in its first tree
pub onward_first : (ts : List Branch) (e m : ℕ) → onward (ts ++ (first_of e m ∷ [])) ≡ ts ++ (second_of e m ∷ [])
onward_first [] e m = refl
onward_first (t ∷ ts) e m =
    ap (λ b. cond b (t ∷ onward (ts ++ (first_of e m ∷ []))) (cond t.second [] (second_of t.edge t.m ∷ []))) (unfinished_first ts e m)
    ∙ ap (λ l. t ∷ l) (onward_first ts e m)

unfinished_second : (ts : List Branch) (e m : ℕ) → unfinished (ts ++ (second_of e m ∷ [])) ≡ unfinished ts
unfinished_second [] e m = refl
unfinished_second (t ∷ ts) e m = ap (λ b. not t.second || b) (unfinished_second ts e m)

-- the last split was in its second tree
pub onward_second : (ts : List Branch) (e m : ℕ) → onward (ts ++ (second_of e m ∷ [])) ≡ onward ts
onward_second [] e m = refl
onward_second (t ∷ ts) e m =
    λ i. cond (unfinished_second ts e m i) (t ∷ onward_second ts e m i) (cond t.second [] (second_of t.edge t.m ∷ []))

-- the last branch of the path table
module _ (ts us : List declared.Branch) (e : ℕ) (most : Most) where
  pub from_first : ts ≡ us ++ (AtMost e most ∷ []) → onward (map branch_of ts) ≡ map branch_of us ++ (second_of e most.count ∷ [])
  from_first h = ap (λ l. onward (map branch_of l)) h ∙ ap onward (map-append branch_of us (AtMost e most ∷ [])) ∙ onward_first (map branch_of us) e most.count

  pub from_second : ts ≡ us ++ (MoreThan e most ∷ []) → onward (map branch_of ts) ≡ onward (map branch_of us)
  from_second h = ap (λ l. onward (map branch_of l)) h ∙ ap onward (map-append branch_of us (MoreThan e most ∷ [])) ∙ onward_second (map branch_of us) e most.count
