use Rattle.std.proofs.Common.{◌≡◌, ◌+◌, ◌^◌, pos, ◌*ℤ◌, sym, subst, arith, w64, SFits, rules}
use Rattle.price.specs.Ranges.{Part}
use Rattle.price.specs.Integers.{scaled}
use Rattle.std.proofs.lemmas.Int.{ints, to_z-of_z}
use Rattle.certificate.proofs.leaf.Leaf.scaled.Goals as goal

small : (c : goal.After-from) → Part (pos c.args.self.now.scale *ℤ c.args.part)
small c =
    let s = scaled c.args.self.now.scale 1000 (2 ^ 42 + 1000) c.args.part c.args.self.now.scale_fits c.requires in
    omega (arith, ints, s)

same : (c : goal.After-from) → c.from.result *ℤ c.args.part ≡ pos c.args.self.now.scale *ℤ c.args.part
same c =
    let a : c.from.result ≡ pos c.args.self.now.scale = omega (arith, ints) in
    λ i. a i *ℤ c.args.part

fits : (c : goal.After-from) → SFits w64 (c.from.result *ℤ c.args.part)
fits c = subst (SFits w64) (sym (same c)) (omega (arith, ints, small c))

pub overflow_mul-result : goal.overflow_mul-result
overflow_mul-result c =
    let f : SFits w64 c.from.result = search rules in
    let g = c.ranges.part in
    simp to_z-of_z (fits c)

pub returns : goal.returns
returns c =
    let f : SFits w64 c.from.result = search rules in
    let g = c.ranges.part in
    let h = fits c in
    simp to_z-of_z (record { value = same c; small = subst Part (sym (same c)) (small c) })
