use Rattle.std.proofs.Common.{sym, ◌∙◌}
use Rattle.reverse.specs.Rules.{rules_of}
use Rattle.reverse.specs.Setting.{simulation_of}
use Rattle.row_times.proofs.Between.{rest-in-time}
use Rattle.row_times.proofs.EarlyRows.{early-rows}
use Rattle.row_times.proofs.RowTimes.{committed-in-time}
use Rattle.process_exchange.proofs.Gone.{gone-later, none-gone}
use Rattle.process_exchange.proofs.held.Held.rows_between.Goals as goal

pub rows_in_time-requires : goal.rows_in_time-requires
rows_in_time-requires g c =
    let h = c.self.invariant.0 in
    let f = simulation_of (rules_of g.R.Reversible.plain) g.J.ActorRun.setting in
    rest-in-time c.sealed.result.now c.self.inside.process.queues.left _ (c.sealed.ensures _ _ h.stands)
    (committed-in-time f (c.actor_law.ensures g.J.ActorRun.setting h.laid) c.self.inside.number c.self.inside.standing.seen _ h.safe)

pub returns-clause-rows : goal.returns-clause-rows
returns-clause-rows g c =
    let h = c.self.invariant.0 in
    let r = rules_of g.R.Reversible.plain in
    let not_later = rw (sym c.self.view_is) at c.requires in
    rw (sym c.self.view_is)
    (none-gone r c.args.from c.args.to c.self.inside.process.queues.left _ c.sealed.result.now c.rows_in_time.result.now (c.sealed.ensures _ _ h.stands) c.rows_in_time.ensures
    (gone-later r c.self.inside.gone c.args.from not_later c.self.inside.process.queues.left _ h.gone_early))

pub returns-clause-whole : goal.returns-clause-whole
returns-clause-whole g c =
    let h = c.self.invariant.0 in
    let f = simulation_of (rules_of g.R.Reversible.plain) g.J.ActorRun.setting in
    let not_later = rw (sym c.self.view_is) at c.requires in
    let early = gone-later f.rules c.self.inside.gone c.args.from not_later c.self.inside.process.queues.left _ h.gone_early in
    rw (sym c.self.view_is) (λ low none event_count ended.
    none-gone f.rules c.args.from c.args.to c.self.inside.process.queues.left _ c.sealed.result.now c.rows_in_time.result.now (c.sealed.ensures _ _ h.stands) c.rows_in_time.ensures early
    ∙ sym (early-rows f (c.actor_law.ensures g.J.ActorRun.setting h.laid) c.self.inside.number c.self.inside.standing.seen c.args.from c.args.to _ h.safe low none event_count ended))
