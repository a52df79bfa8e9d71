use Rattle.std.proofs.Common.{refl, arith}
use Rattle.process_queues.proofs.Pasts.{came-from, has-last, left-less, left-none}
use Rattle.process_queues.proofs.past.Past.undo_all.Goals as goal

pub loop-event-init : goal.loop-event-init
loop-event-init g c = record {
  left = λ start ms earlier h.
      let k = rw (← c.self.view_is) at h in
      (ms, record { state = k.state; done = k.done; values = k.values; sends = refl; rows = refl });
  some = c.requires;
}

pub undo-requires : goal.undo-requires
undo-requires g c =
    let i = c.loop-event.invariant.some in
    let k = c.loop-event.invariant.left i.0 i.1 i.2 i.3 in
    came-from (has-last c.pop_back.new.self.items c.in-Some.event c.in-Some.ensures.items k.1).2

pub loop-event-preserved : goal.loop-event-preserved
loop-event-preserved g c = record {
  left = λ start ms earlier h.
      let k = c.loop-event.invariant.left start ms earlier h in
      let l = has-last c.pop_back.new.self.items c.in-Some.event c.in-Some.ensures.items k.1 in
      (l.0, left-less l.2 (λ z. c.actor_rules_law.ensures.undoes z l.1) c.undo.new.self c.undo.ensures);
  some = c.loop-event.invariant.some;
}

pub returns : goal.returns
returns g c = λ start ms earlier h.
    let k = c.loop-event.invariant.left start ms earlier h in
    left-none k.0 k.1 (let z = c.in_default.ensures.cases in omega arith)
