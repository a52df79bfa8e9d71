use Rattle.std.proofs.Common.{codes}
use Rattle.std.proofs.lemmas.Result.{IfOk-weaker}
use Rattle.command_line.specs.Program.{path_rule}
use Rattle.command_line.proofs.Adding.{grows}
use Rattle.command_line.proofs.program.of_network.Goals as goal

pub returns : goal.returns
returns c =
    IfOk-weaker c.arg.result _ _ (λ command adds. grows c.titled.result command c.path.result _ (path_rule (codes "NET")) adds c.titled.ensures c.path.ensures.rule c.path.ensures.local) c.arg.ensures
