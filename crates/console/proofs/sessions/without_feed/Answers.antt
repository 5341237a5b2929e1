use Rattle.std.proofs.Common.{[], ◌∷◌}
use Rattle.std.proofs.lemmas.Bool.Decides.{Decides-eqb}
use Rattle.std.proofs.lemmas.Slice.Eq.{strip_suffix_is}
use Rattle.console.proofs.FirstLine.{stripped}
use Rattle.console.proofs.sessions.without_feed.Goals as goal

pub returns : goal.returns
returns c =
    let s = stripped c.args.line c.strip_suffix.result (strip_suffix_is Decides-eqb c.args.line.now (10 ∷ []) c.strip_suffix.result c.strip_suffix.ensures.cases) in
    record { fed = rw c.unwrap_or.ensures s.0; unfed = rw c.unwrap_or.ensures s.1 }
