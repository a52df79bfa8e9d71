use Rattle.std.proofs.Common.{codes}
use Rattle.clap.specs.Words.{with_rule}
use Rattle.command_line.specs.Program.{file_rule, network_app, with_paces}
use Rattle.command_line.proofs.program.run.Goals as goal

pub returns : goal.returns
returns c =
    let known = network_app (codes "run") in
    let journal = file_rule (codes "journal") in
    let paced = c.with_paces.ensures known c.of_network-command.ensures in
    c.with_outputs.ensures (with_rule (with_paces known) journal) (c.with_arg-journals.ensures (with_paces known) journal paced c.file.ensures.rule c.file.ensures.local)
