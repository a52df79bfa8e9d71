use Rattle.std.proofs.Common.{take, ap, ◌∙◌}
use Rattle.reverse.specs.Rules.{rules_of}
use Rattle.process_queues.specs.Queues.{rows_there}
use Rattle.process_queues.proofs.Reading.{sealed-rows}
use Rattle.process_queues.proofs.process.Process.sealed.Goals as goal

pub returns : goal.returns
returns g c opening part h =
    let k = rw (← c.self.view_is) at h in
    ap (take c.self.inside.sealed) c.rows.ensures ∙
    (sealed-rows k ∙ ap (λ q. rows_there (rules_of g.R.Reversible.plain) opening part q.queues) c.self.view_is)
