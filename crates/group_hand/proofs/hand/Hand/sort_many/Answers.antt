use Rattle.std.proofs.Common.{refl}
use Rattle.group_hand.proofs.Still.{as-roomy}
use Rattle.group_hand.proofs.hand.Hand.sort_many.Goals as goal

pub returns : goal.returns
returns g c =
    as-roomy c.args.self.now c.self.inside.members.items c.self.inside.done.events c.self.inside.done.events c.self.inside.rows c.self.inside.letters c.sort_many.new.self c.self.view_is refl c.sort_many.ensures
