use Rattle.std.proofs.Common.{◌≡◌, not, pos, ◌+ℤ◌, sym, ap, ◌∙◌, subst, arith, w64, SFits, rules}
use Rattle.std.proofs.lemmas.Int.{ints, to_z-of_z}
use Rattle.price.specs.Pairs.{◌⊕◌, times}
use Rattle.price.specs.Ranges.{Both}
use Rattle.certificate.proofs.leaf.Leaf.bound_passes.Goals as goal

pub multiple-past-requires : goal.multiple-past-requires
multiple-past-requires g c =
    let small = subst (Both 1000) (sym c.unit-step.ensures) (g.met.T.Tariff.laws c.args.tariff.now).small in
    (omega (arith, ints, small), omega (arith, ints, small))

pub returns : goal.returns
returns g c =
    let small = subst (Both 1000) (sym c.unit-step.ensures) (g.met.T.Tariff.laws c.args.tariff.now).small in
    let f : SFits w64 c.cycles.result = search rules in
    let f' : SFits w64 c.cycles-2.result = search rules in
    let h : SFits w64 c.reads.result = search rules in
    let h' : SFits w64 c.reads-2.result = search rules in
    let cycles : SFits w64 (c.cycles.result +ℤ c.cycles-2.result) = omega (arith, ints, small) in
    let reads : SFits w64 (c.reads.result +ℤ c.reads-2.result) = omega (arith, ints, small) in
    let a : c.cycles.result +ℤ c.cycles-2.result ≡ (c.args.self.now.claim.price.now ⊕ g.T.Tariff.unit c.args.tariff.now).0 =
    λ j. c.cycles.ensures.value j +ℤ (c.cycles-2.ensures.value ∙ ap (λ p. p.0) c.unit-step.ensures) j in
    let b : c.reads.result +ℤ c.reads-2.result ≡ (c.args.self.now.claim.price.now ⊕ g.T.Tariff.unit c.args.tariff.now).1 =
    λ j. c.reads.ensures.value j +ℤ (c.reads-2.ensures.value ∙ ap (λ p. p.1) c.unit-step.ensures) j in
    let past : c.multiple-past.result ≡ times (pos c.args.self.now.scale) (c.args.self.now.claim.price.now ⊕ g.T.Tariff.unit c.args.tariff.now) =
    (simp to_z-of_z at c.multiple-past.ensures) ∙ (λ j. times (pos c.args.self.now.scale) (a j, b j)) in
    ap not (c.compare.ensures ∙ (λ j. g.T.Tariff.le c.args.tariff.now (past j) (c.bound.ensures j)))
