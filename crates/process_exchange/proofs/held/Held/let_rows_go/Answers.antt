use Rattle.std.proofs.Common.{sym, ap}
use Rattle.reverse.specs.Rules.{rules_of}
use Rattle.reverse.specs.Setting.{simulation_of}
use Rattle.row_times.proofs.Between.{rest-in-time}
use Rattle.row_times.proofs.RowTimes.{committed-in-time}
use Rattle.process_exchange.specs.Views.{place_of, own_of}
use Rattle.process_exchange.proofs.Gone.{gone-later, gone-max, gone-more}
use Rattle.process_exchange.proofs.Holding.{holds-gone}
use Rattle.process_exchange.proofs.Moves.{in_hand}
use Rattle.process_exchange.proofs.held.Held.let_rows_go.Goals as goal

pub count_before-count-requires : goal.count_before-count-requires
count_before-count-requires g c =
    let h = c.self.invariant.0 in
    let f = simulation_of (rules_of g.R.Reversible.plain) g.J.ActorRun.setting in
    rest-in-time c.sealed.result.now c.self.inside.process.queues.left _ (c.sealed.ensures _ _ h.stands)
    (committed-in-time f (c.actor_law.ensures g.J.ActorRun.setting h.laid) c.self.inside.number c.self.inside.standing.seen _ h.safe)

pub invariant_of-self : goal.invariant_of-self
invariant_of-self g c =
    let r = rules_of g.R.Reversible.plain in
    let h = c.self.invariant.0 in
    let gone = c.later_of-self-inside.result in
    let late = gone-max r c.self.inside.gone c.args.moment gone c.later_of-self-inside.ensures in (
      holds-gone h c.let_rows_go-gone.new.self.queues c.let_rows_go-gone.ensures.stands gone
          (gone-more c.args.moment c.self.inside.process.queues.left c.count_before-count.result _ c.sealed.result.now (c.sealed.ensures _ _ h.stands) c.count_before-count.ensures.point
          c.let_rows_go-gone.result c.self.inside.process.queues.sealed _ c.let_rows_go-gone.new.self.queues.left c.let_rows_go-gone.ensures.count c.let_rows_go-gone.ensures.left
          gone late.1 (gone-later r c.self.inside.gone gone late.0 _ _ h.gone_early)),
      c.self.invariant.1,
    )

pub returns : goal.returns
returns g c =
    let h = c.self.inside in
    let f = simulation_of (rules_of g.R.Reversible.plain) g.J.ActorRun.setting in
    rw (sym c.self.view_is) (ap (λ n. in_hand f h.number (own_of h.number h.standing.last) (place_of h.standing.last) h.standing.seen n h.block) c.later_of-self-inside.ensures)
