use Rattle.group_turns.proofs.UsedUp.{used-up}
use Rattle.group_turns.proofs.shared.Shared.fault_of.Goals as goal

pub new-requires-clause-numbers : goal.new-requires-clause-numbers
new-requires-clause-numbers g c = λ exhausted.
    used-up g.J.NetworkRun.plan g.J.NetworkRun.owners c.groups-groups.result c.groups-groups.ensures.grouped _ c.args.group.now c.fits-fits.ensures.parts (c.requires.numbers exhausted)
