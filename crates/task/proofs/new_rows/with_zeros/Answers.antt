use Rattle.std.proofs.Common.{◌≡◌, pos, length, rules}
use Rattle.std.proofs.lemmas.List.{drop-replicate}
use Rattle.task.proofs.new_rows.with_zeros.Goals as goal

pub returns : goal.returns
returns c =
    let front : c.copy_from_slice.new.self ≡ c.args.coefficients.now = search rules in
    simp (front, drop-replicate (length c.args.coefficients.now) 64 (pos 0))
