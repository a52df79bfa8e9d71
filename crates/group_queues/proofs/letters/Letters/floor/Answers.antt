use Rattle.std.proofs.Common.{sym, ap, ◌∙◌}
use Rattle.vlink.specs.Order.{message_order}
use Rattle.virtual_time.specs.Law.{lowest, times_of}
use Rattle.group_queues.specs.Flow.{floor_in}
use Rattle.group_queues.proofs.Lowest.{lowest-of}
use Rattle.group_queues.proofs.letters.Letters.floor.Goals as goal

pub returns-clause-least : goal.returns-clause-least
returns-clause-least c =
    let law = c.order_law.ensures in
    let soonest = lowest-of (record { irreflexive = law.irreflexive; transitive = law.transitive; total = law.total; by_time = law.by_time }) c.first-first.result c.time_or.result c.args.end
    c.self.inside.queue.messages c.first-first.ensures.among c.first-first.ensures.first c.first-first.ensures.none c.time_or.ensures.some c.time_or.ensures.none in
    c.earliest_in.ensures ∙ (ap (λ n. lowest n (times_of message_order c.self.inside.tray.items)) (sym soonest) ∙ ap (floor_in message_order c.args.end) c.self.view_is)
