-- What a call answers, and what the case then holds.
use Rattle.std.specs.Prelude.{Bool}
use Rattle.history.specs.Answers.{Said, numbered, ended, priced, stepped, unless_refused, told as tells}
use Rattle.history.specs.Calls.{Request, edge, row, seal, claim, void, step, withdraw, told}
use Rattle.judge.specs.Cases.{Contents}
use Rattle.judge.specs.Claiming.{claim_answer, claim_kept, void_answer, void_kept}
use Rattle.judge.specs.Drafting.{edge_answer, edge_kept, row_answer, row_kept, seal_answer, seal_kept}
use Rattle.judge.specs.Handing.{step_answer, step_kept, withdraw_answer, withdraw_kept, told_answer}
use Rattle.price.specs.Pairs.{Pair}
use Rattle.price.specs.declared.senses.Sense.TheVariants.{Longest}

module _ (le : Pair → Pair → Bool) (unit : Pair) where
  abbrev pub answered : Contents → Request → Said
  answered c (edge new) = numbered (edge_answer c new)
  answered c (row relation k coefficients) = numbered (row_answer c relation k coefficients)
  answered c seal = ended (seal_answer c)
  answered c (claim turns tree) = priced (claim_answer Longest le unit c turns tree)
  answered c (void tree) = unless_refused (void_answer le unit c tree)
  answered c step = stepped (step_answer c)
  answered c withdraw = unless_refused (withdraw_answer c)
  answered c told = tells (told_answer c)

  abbrev pub after : Contents → Request → Contents
  after c (edge new) = edge_kept (edge_answer c new) c new
  after c (row relation k coefficients) = row_kept (row_answer c relation k coefficients) c relation k coefficients
  after c seal = seal_kept (seal_answer c) c
  after c (claim turns tree) = claim_kept Longest (claim_answer Longest le unit c turns tree) c turns
  after c (void tree) = void_kept (void_answer le unit c tree) c
  after c step = step_kept (step_answer c) c
  after c withdraw = withdraw_kept c
  after c told = c
