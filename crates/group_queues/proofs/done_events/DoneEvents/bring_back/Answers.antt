use Rattle.std.proofs.Common.{◌++◌, ◌∷◌, [], length, reverse, sym, ap, ◌∙◌, arith, append_assoc, append-nil, length-append}
use Rattle.std.proofs.lemmas.List.{reverse-append}
use Rattle.group_queues.proofs.FromFirst.{none-long}
use Rattle.group_queues.proofs.done_events.DoneEvents.bring_back.Goals as goal

pub events-preserved : goal.events-preserved
events-preserved g c =
    let m = c.move_newest.ensures.moved in
    record {
      done = ap (λ z. z ++ reverse c.move_newest.new.self.events) m.2 ∙ (append_assoc c.events.self.events (m.0 ∷ []) (reverse c.move_newest.new.self.events) ∙
          (ap (λ z. c.events.self.events ++ z) (sym (ap reverse m.1 ∙ reverse-append c.move_newest.new.self.events (m.0 ∷ []))) ∙ c.events.invariant.done));
      room = c.move_newest.ensures.room;
    }

pub events-smaller : goal.events-smaller
events-smaller g c = let m = c.move_newest.ensures.moved in let a = ap length m.1 ∙ length-append c.move_newest.new.self.events (m.0 ∷ []) in omega arith

pub returns-clause-done : goal.returns-clause-done
returns-clause-done g c =
    let none = none-long c.events.aside.events (let l = c.len.ensures in let t = c.events-test.false in omega arith) in
    sym (append-nil c.events.self.events) ∙ (ap (λ z. c.events.self.events ++ reverse z) (sym none) ∙ c.events.invariant.done)
