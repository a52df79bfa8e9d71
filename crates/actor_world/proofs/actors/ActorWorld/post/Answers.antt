use Rattle.std.proofs.Common.{◌≡◌, map, slice_get, Some, Err, sym, ap, ◌∙◌, subst}
use Rattle.std.proofs.lemmas.Result.{err_from_is_err_and}
use Rattle.vlink.specs.declared.message.Message.{Message}
use Rattle.virtual_time.specs.Law.{Part, floor_of}
use Rattle.reverse.specs.Rules.{rules_of}
use Rattle.process_queues.specs.Queues.{Queues, InHand, StandsFor}
use Rattle.actor_world.specs.Faults.{fault_of}
use Rattle.actor_world.proofs.Holding.{queues-at, queues-set, queues-same, read-written}
use Rattle.actor_world.proofs.Exchanging.{post-did, post-refused, outbox-goes, floors-within}
use Rattle.actor_world.proofs.actors.ActorWorld.post.Given.{Over}
use Rattle.actor_world.proofs.actors.ActorWorld.post.Goals.{After-index_mut}
use Rattle.actor_world.proofs.actors.ActorWorld.post.Goals as goal

-- the process in hand
here : (g : Over) (c : After-index_mut g) →
    slice_get (map (λ (u : InHand g.row.R.Denot g.row.R-Record.Denot). u.queues) c.self.inside.processes.items) c.args.process ≡ Some c.index_mut.result.now.queues
here g c =
    queues-at c.self.inside.processes.items c.args.process c.from.result c.index_mut.result.now c.from.ensures
    (rw (sym c.self.view_is) at c.requires.there) c.index_mut.ensures.value

pub post-requires : goal.post-requires
post-requires g c = outbox-goes _ _ _ _ _ _ _ _ (here g (goal.at.post-requires g c).After-index_mut) (λ x laid. c.actor_law.ensures x laid) (rw (sym c.self.view_is) at c.requires.world)

pub returns-in_err-post : goal.returns-in_err-post
returns-in_err-post g c =
    let e = err_from_is_err_and c.from_residual.result c.from_residual.ensures.1 in
    let unchanged = queues-same c.self.inside.processes.items c.from.result c.index_mut.result.now c.post.new.self c.index_mut.ensures.value c.in_err-post.ensures.unchanged in
    rw (sym c.self.view_is)
    (post-refused _ _ _ _ _ _ _ _ (here g (goal.at.returns-in_err-post g c).After-index_mut) _ unchanged c.post.new.mail c.in_err-post.ensures.processes c.in_err-post.ensures.mail_unchanged _
    (e.1 ∙ ap (λ z. Err z) (e.2 ∙ ap fault_of c.in_err-post.ensures.memory)))

pub set-requires : goal.set-requires
set-requires g c = rw (sym c.self.view_is) at (floors-within _ _ _ _ _ _ c.requires.world c.args.process c.requires.there)

pub returns : goal.returns
returns g c =
    let r = rules_of g.R.Reversible.plain in
    let vs = c.self.inside.processes.items in
    let read = read-written vs c.args.process c.from.result c.from-2.result c.index.result.now c.post.new.self c.from.ensures c.from-2.ensures (rw (sym c.self.view_is) at c.requires.there) c.index.ensures in
    let floor = subst (λ (u : InHand g.row.R.Denot g.row.R-Record.Denot). (opening : g.row.R.Denot) (part : Part Message g.row.R.Denot) →
    StandsFor r g.R.Reversible.is_value opening part u.queues → c.floor-floor.result ≡ floor_of r.order (g.R.Actor.end u.queues.past.state) part) read c.floor-floor.ensures in
    rw (sym c.self.view_is)
    (post-did _ _ _ _ _ _ _ _ (here g (goal.at.returns g c).After-index_mut) c.post.new.self.queues _ (queues-set vs c.args.process c.from.result c.post.new.self c.from.ensures)
    c.post.new.mail c.in_ok-post.ensures.processes
    c.set.new.self.floors c.set.ensures.processes c.set.ensures.others
    c.set.new.self.until c.set.ensures.until
    (c.actor_law.ensures c.requires.world.0 c.requires.world.1).order (λ s m. g.met.R.Actor.end_stays s m) c.in_ok-post.ensures.emptied
    (ap (λ (z : Queues g.row.R.Denot g.row.R-Record.Denot). z.left) c.in_ok-post.ensures.queues) c.in_ok-post.ensures.posted
    (ap (λ (z : Queues g.row.R.Denot g.row.R-Record.Denot). z.past) c.in_ok-post.ensures.queues)
    c.floor-floor.result floor c.set.ensures.here)
