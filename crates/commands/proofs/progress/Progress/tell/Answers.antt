use Rattle.std.proofs.Common.{◌≡◌, true, sym, subst}
use Rattle.commands.specs.MoreProgress.{one_line}
use Rattle.commands.specs.Progress.{HearsAsked, IsProgressLine}
use Rattle.commands.proofs.progress.Progress.tell.Goals as goal

pub returns-clause-heard : goal.returns-clause-heard
returns-clause-heard g c =
    let until = c.args.self.now.until in
    let asked : c.args.self.now.asked.is_asked ≡ true = search (c.if-not-self) in
    subst (λ is_asked. HearsAsked g.E.Sink.taken g.E.Sink.failures is_asked (IsProgressLine until) c.args.self.now.errors.now c.say.new.errors) (sym asked)
    (one_line g.E.Sink.taken g.E.Sink.failures (IsProgressLine until) c.args.self.now.errors.now c.say.new.errors c.as_str.result.now
    c.say.ensures.failed (subst (IsProgressLine until) (sym c.as_str.ensures.value) c.in-Ok.ensures) c.say.ensures.took)
