use Rattle.std.proofs.Common.{◌∙◌, rules}
use Rattle.commands.specs.MoreProgress.{one_behind_another}
use Rattle.afdxsim.proofs.workers.found_at.Goals as goal

pub returns-clause-heard : goal.returns-clause-heard
returns-clause-heard g c =
    let began = c.new-progress.ensures in
    let ran = c.in_ok-found.ensures.watched in
    one_behind_another g.E.Sink.taken g.E.Sink.failures c.args.network.now.until c.args.asked.is_asked c.args.errors.now c.new-progress.result.errors.now
    c.run_summary.new.watch.errors.now c.end.new.self.errors.now _
    c.new-progress.result.asked.is_asked c.run_summary.new.watch.asked.is_asked c.new-progress.result.until c.run_summary.new.watch.until
    began.asked (began.until ∙ c.until.ensures.value) began.errors ran.3 ran.1 ran.2 c.end.ensures.heard (search rules)
