use Rattle.std.proofs.Common.{codes}
use Rattle.command_line.specs.Program.{flag_rule, network_app}
use Rattle.command_line.proofs.program.bounds.Goals as goal

pub returns : goal.returns
returns c = c.with_arg.ensures (network_app (codes "bounds")) (flag_rule (codes "contract")) c.of_network-command.ensures c.flag.ensures.rule c.flag.ensures.local
