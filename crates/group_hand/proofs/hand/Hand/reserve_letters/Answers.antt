use Rattle.std.proofs.Common.{refl}
use Rattle.group_hand.proofs.Still.{as-roomy}
use Rattle.group_hand.proofs.hand.Hand.reserve_letters.Goals as goal

pub returns-clause-same : goal.returns-clause-same
returns-clause-same g c =
    as-roomy c.args.self.now c.self.inside.members.items c.self.inside.done.events c.self.inside.done.events c.self.inside.rows c.self.inside.letters c.reserve.new.self c.self.view_is refl c.reserve.ensures.same
