use Rattle.std.proofs.Common.{codes}
use Rattle.command_line.specs.Program.{network_app, path_rule}
use Rattle.command_line.proofs.program.replay.Goals as goal

pub returns : goal.returns
returns c = c.with_arg.ensures (network_app (codes "replay")) (path_rule (codes "STEPS")) c.of_network-command.ensures c.path.ensures.rule c.path.ensures.local
