use Rattle.std.proofs.Common.{length, sym, ap, arith}
use Rattle.std.proofs.lemmas.Bool.{ltb-false}
use Rattle.group_queues.specs.Block.{steps_told}
use Rattle.group_exchange.proofs.Ends.{no-words}
use Rattle.group_exchange.proofs.group.Group.has_block.Goals as goal

pub returns-clause-none : goal.returns-clause-none
returns-clause-none g c = rw (sym c.self.view_is)
    (λ none. no-words c.self.inside.hand.flow.words
    (omega (arith, ltb-false 0 c.steps-steps.result none, c.steps-steps.ensures, ap (λ ws. length (steps_told ws)) c.block.ensures.words)))
