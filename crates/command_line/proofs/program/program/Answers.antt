use Rattle.std.proofs.lemmas.Result.{IfOk-weaker}
use Rattle.clap.specs.Words.{with_subcommand}
use Rattle.command_line.specs.Program.{bare_program, bounds_app, check_app, replay_app, run_app, seq_app}
use Rattle.command_line.proofs.program.program.Goals as goal

pub returns : goal.returns
returns c =
    let two = with_subcommand (with_subcommand bare_program check_app.top) seq_app.top in
    let runs = c.with_command-runs.ensures two run_app c.plain_program.ensures c.run.ensures in
    let three = with_subcommand two run_app.top in
    let replays = c.with_command-replays.ensures three replay_app runs c.replay.ensures in
    IfOk-weaker c.with_command.result _ _ (λ command is. is.app) (c.with_command.ensures (with_subcommand three replay_app.top) bounds_app replays c.bounds.ensures)
