use Rattle.std.proofs.Common.{length}
use Rattle.reverse.proofs.events.+act_and_undo.Given as goal

abbrev pub decreases-act_and_undo : goal.decreases-act_and_undo
decreases-act_and_undo g l = length l.messages.now
