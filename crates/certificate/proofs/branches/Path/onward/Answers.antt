use Rattle.std.proofs.Common.{[], ◌∷◌, ◌++◌, map, sym, ap, ◌∙◌}
use Rattle.std.proofs.lemmas.List.{map-append}
use Rattle.certificate.specs.Splits.{branch_of}
use Rattle.certificate.proofs.Onward.{from_first, from_second}
use Rattle.certificate.proofs.branches.Path.onward.Goals as goal

pub returns-in-AtMost : goal.returns-in-AtMost
returns-in-AtMost c =
    let left = c.pop.new.self.items in
    let was = c.in-Some.ensures.items ∙ ap (λ t. left ++ (t ∷ [])) c.in-AtMost.is in
    ap (map branch_of) c.push.ensures.items ∙ map-append branch_of left _
    ∙ sym (from_first c.loop-last.self.branches.items left c.in-AtMost.edge c.in-AtMost.most was) ∙ c.loop-last.invariant

pub loop-last-preserved : goal.loop-last-preserved
loop-last-preserved c =
    let left = c.pop.new.self.items in
    let was = c.in-Some.ensures.items ∙ ap (λ t. left ++ (t ∷ [])) c.in_default-last.is in
    sym (from_second c.loop-last.self.branches.items left c.in_default-last.field-0 c.in_default-last.field-1 was) ∙ c.loop-last.invariant
