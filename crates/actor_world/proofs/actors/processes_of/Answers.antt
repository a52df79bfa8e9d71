use Rattle.std.proofs.Common.{[], ◌∷◌, ◌++◌, map, map-id, sym, ap, ◌∙◌, subst}
use Rattle.std.proofs.lemmas.Iterator.Adapters.{YieldsList-from_vec}
use Rattle.std.proofs.lemmas.Iterator.Consumers.{YieldsList-end}
use Rattle.std.proofs.lemmas.List.{map-append}
use Rattle.reverse.specs.Rules.{rules_of}
use Rattle.process_queues.specs.Queues.{InHand}
use Rattle.actor_world.specs.Worlds.{AreOpened}
use Rattle.actor_world.proofs.Opening.{opened-more}
use Rattle.actor_world.proofs.actors.processes_of.Goals as goal

pub loop-actor-init : goal.loop-actor-init
loop-actor-init g c = record {
  can = tt;
  ends = tt;
  made = subst (λ ps. AreOpened (rules_of g.R.Reversible.plain) g.R.Reversible.is_value [] (map (λ (process : InHand g.row.R.Denot g.row.R-Record.Denot). process.queues) ps))
      (sym c.new-processes.ensures.items) tt;
}

pub loop-actor-preserved : goal.loop-actor-preserved
loop-actor-preserved g c =
    let r = rules_of g.R.Reversible.plain in
    let v = g.R.Reversible.is_value in
    let queues = λ (process : InHand g.row.R.Denot g.row.R-Record.Denot). process.queues in
    record {
      can = tt;
      ends = tt;
      made = subst (λ qs. AreOpened r v (c.loop-actor.yielded ++ c.in-Some.actor ∷ []) qs)
          (sym (ap (map queues) c.in_ok-push.ensures.items ∙ map-append queues c.loop-actor.processes.items (c.in_ok-new.field-0 ∷ [])))
          (opened-more r v c.loop-actor.yielded (map queues c.loop-actor.processes.items) c.in-Some.actor (c.in_ok-new.field-0).queues
          c.loop-actor.invariant.made c.in_ok-new.ensures.stands);
    }

pub returns-clause-processes : goal.returns-clause-processes
returns-clause-processes g c =
    let given = c.into_iter-actor-iterator.ensures.into_iter_gives in
    let road = YieldsList-from_vec {s = c.into_iter-actor-iterator.result} c.args.actors.items given.0 (given.1 ∙ c.args.actors.ok.0) in
    let end = YieldsList-end road c.loop-actor.yielded c.loop-actor.actor-iterator c.loop-actor.yielded_by c.next.result c.next.new.self c.in-None.is c.next.ensures.steps in
    subst (λ actors. AreOpened (rules_of g.R.Reversible.plain) g.R.Reversible.is_value actors
    (map (λ (process : InHand g.row.R.Denot g.row.R-Record.Denot). process.queues) c.loop-actor.processes.items)) (sym (map-id c.loop-actor.yielded) ∙ end.0) c.loop-actor.invariant.made
