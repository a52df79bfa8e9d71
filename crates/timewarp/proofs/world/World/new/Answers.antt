use Rattle.std.proofs.Common.{[]}
use Rattle.timewarp.proofs.world.World.new.Goals as goal

pub invariant_of-result : goal.invariant_of-result
invariant_of-result c = ([], c.in_ok-actors.ensures.opens)
