use Rattle.std.proofs.Common.{IfOk, subst}
use Rattle.std.proofs.lemmas.Result.{IfOk-weaker}
use Rattle.command_line.specs.Program.{Knows}
use Rattle.command_line.proofs.Adding.{grows}
use Rattle.command_line.proofs.program.with_arg.Goals as goal

pub returns-in-Ok : goal.returns-in-Ok
returns-in-Ok c = λ known rule before is local.
    IfOk-weaker c.arg.result _ _ (λ new adds. grows c.in-Ok.command new c.args.arg known rule adds (subst (λ one. IfOk one (λ it. Knows it known)) c.in-Ok.is before) is local) c.arg.ensures
