use Rattle.std.proofs.Common.{length}
use Rattle.reverse.proofs.events.+forth_and_back.Given as goal

abbrev pub decreases-forth_and_back : goal.decreases-forth_and_back
decreases-forth_and_back g l = length l.events.now
