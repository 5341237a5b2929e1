use Rattle.console.proofs.ShortParts.{part_fits}
use Rattle.std.proofs.lemmas.Int.{to_z-of_z}
use Rattle.console.proofs.answers.Reply.part.Goals as goal

pub returns-clause-short : goal.returns-clause-short
returns-clause-short c =
    let fit = c.ranges.part in
    part_fits c.args.self.now.text.bytes _ c.args.part c.requires.1 (simp to_z-of_z at c.number.ensures.text)
