use Rattle.std.proofs.Common.{ap, ◌∙◌}
use Rattle.group_hand.specs.Hands.{is_ours}
use Rattle.group_hand.proofs.Still.{stands-still}
use Rattle.group_hand.proofs.hand.Hand.deliver.Goals as goal

pub deliver_reserved-requires-clause-ours : goal.deliver_reserved-requires-clause-ours
deliver_reserved-requires-clause-ours g c = ap (λ h. is_ours h.members c.args.letter.message.receiver) c.reserve_letters.ensures.same ∙ c.requires

pub returns-clause-delivered : goal.returns-clause-delivered
returns-clause-delivered g c = λ x v soon s.
    c.deliver_reserved.ensures.delivered x v soon
    (stands-still g.R.Reversible.plain g.R.Reversible.is_value c.actor_rules_law.ensures.order c.actor_rules_law.ensures.undoes c.args.self.now c.reserve_letters.new.self c.reserve_letters.ensures.same x v s)

pub returns-clause-members : goal.returns-clause-members
returns-clause-members g c = ap (λ h. h.members) c.deliver_reserved.ensures.told ∙ ap (λ h. h.members) c.reserve_letters.ensures.same

pub returns-clause-words : goal.returns-clause-words
returns-clause-words g c = ap (λ h. h.flow.words) c.deliver_reserved.ensures.told ∙ ap (λ h. h.flow.words) c.reserve_letters.ensures.same
