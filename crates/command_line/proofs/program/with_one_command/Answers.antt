use Rattle.std.proofs.Common.{IfOk, subst}
use Rattle.std.proofs.lemmas.Result.{IfOk-weaker}
use Rattle.command_line.specs.Program.{Knows}
use Rattle.command_line.proofs.Adding.{gains}
use Rattle.command_line.proofs.program.with_one_command.Goals as goal

pub returns-in-Ok : goal.returns-in-Ok
returns-in-Ok c = λ known added before one.
    IfOk-weaker c.subcommand.result _ _ (λ new adds. gains c.args.program c.in-Ok.command new known added adds before
    (subst (λ it. IfOk it (λ z. Knows z added)) c.in-Ok.is one)) c.subcommand.ensures
