use Rattle.std.proofs.Common.{codes}
use Rattle.command_line.specs.Program.{network_app}
use Rattle.command_line.proofs.program.seq.Goals as goal

pub returns : goal.returns
returns c = c.with_outputs.ensures (network_app (codes "seq")) c.of_network-command.ensures
