use Rattle.std.proofs.Common.{subst}
use Rattle.netdesc.specs.Words.{HasNoFault}
use Rattle.commands.proofs.reading.network_in.Goals as goal

pub returns-clause-sound : goal.returns-clause-sound
returns-clause-sound c = subst HasNoFault c.in_ok-text_in.ensures.text c.in_ok-read.ensures.sound
