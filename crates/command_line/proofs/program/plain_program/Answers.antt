use Rattle.clap.specs.Words.{with_subcommand}
use Rattle.command_line.specs.Program.{bare_program, check_app, seq_app}
use Rattle.command_line.proofs.program.plain_program.Goals as goal

pub returns : goal.returns
returns c =
    let checks = c.with_command-checks.ensures bare_program check_app c.bare_program.ensures c.check.ensures in
    c.with_command.ensures (with_subcommand bare_program check_app.top) seq_app checks c.seq.ensures
