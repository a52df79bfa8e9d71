use Rattle.std.proofs.Common.{IfOk, subst}
use Rattle.command_line.specs.Program.{Knows}
use Rattle.command_line.proofs.program.with_command.Goals as goal

pub returns-in-Ok : goal.returns-in-Ok
returns-in-Ok c = λ known added before one.
    c.with_one_command.ensures known added (subst (λ it. IfOk it (λ z. Knows z known)) c.in-Ok.is before) one
