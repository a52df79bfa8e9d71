use Rattle.std.proofs.Common.{string_bytes}
use Rattle.commands.proofs.Conclusions.{summary}
use Rattle.commands.proofs.conclusion.summary_of.Goals as goal

pub returns : goal.returns
returns c steps is =
    summary c.args.found.now steps c.ns-gvt.result c.is_finished-is_finished.result (string_bytes c.in_ok-line.line) is
    (let a = c.ns-gvt.ensures.value in let b = c.gvt.ensures steps is.after in cc)
    (c.is_finished-is_finished.ensures steps is.after)
    c.in_ok-line.ensures
