use Rattle.std.proofs.Common.{◌≡◌, ℕ, ◌+◌, [], ◌∙◌, subst, arith}
use Rattle.std.proofs.lemmas.List.{append-nil}
use Rattle.certificate.specs.Ahead.{records}
use Rattle.certificate.specs.Trees.{Fits}
use Rattle.certificate.proofs.TreeRecords.{written_tree, stand}
use Rattle.certificate.proofs.records.Records.new.Goals as goal

pub returns-clause-ahead : goal.returns-clause-ahead
returns-clause-ahead c t s =
    let none : c.args.shape.rows ≡ c.args.shape.rows + 0 = omega arith in
    let fits = subst (λ (n : ℕ). Fits 12 c.args.shape.nodes n t) none s.fits in
    record {
      stand = rw (c.new.ensures, ← append-nil (records t)) (stand c.args.shape.nodes c.args.shape.rows 12 t [] [] fits (omega arith) tt);
      is = written_tree t ∙ s.is;
      counted = omega arith;
    }
