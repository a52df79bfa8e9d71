use Rattle.std.proofs.Common.{[], map, ap, ◌∙◌}
use Rattle.virtual_time.specs.Law.{lowest, times_of, floor_of}
use Rattle.reverse.specs.Rules.{rules_of}
use Rattle.process_queues.proofs.process.Process.floor.Goals as goal

pub returns : goal.returns
returns g c opening part h =
    let r = rules_of g.R.Reversible.plain in
    let k = rw (← c.self.view_is) at h in
    c.floor_of_tray.ensures ∙ (ap (λ d. lowest d (map (λ l. l.message.time) c.self.inside.tray.items)) (c.floor_of_messages.ensures opening part h) ∙
    ap (lowest (floor_of r.order (g.R.Actor.end c.args.self.now.queues.past.state) (record part { tray = [] }))) (ap (times_of r.order) k.tray))
