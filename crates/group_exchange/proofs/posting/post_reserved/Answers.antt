use Rattle.group_exchange.proofs.posting.post_reserved.Goals as goal

pub returns-clause-stands : goal.returns-clause-stands
returns-clause-stands g c = λ x v s. c.clear_abroad.ensures.stands x v (c.next_block-words.ensures.stands x v s)
