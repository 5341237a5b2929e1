use Rattle.std.proofs.Common.{sym, ◌∙◌}
use Rattle.grammar.proofs.Requests.{request_sound, request_complete, spelled_once}
use Rattle.grammar.proofs.reader.read.Goals as goal

pub returns : goal.returns
returns c = record {
  only = λ q h. request_sound c.args.line.now q (sym c.call_of.ensures ∙ h);
  all = λ q h. c.call_of.ensures ∙ request_complete c.args.line.now q h;
  one = spelled_once c.args.line.now;
}
