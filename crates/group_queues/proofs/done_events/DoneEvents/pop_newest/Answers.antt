use Rattle.std.proofs.Common.{◌≡◌, ◌≤◌, ◌+◌, ◌-◌, ◌++◌, ◌∷◌, [], length, drop, reverse, refl, sym, ap, ◌∙◌, arith, length-append, length-drop}
use Rattle.std.proofs.lemmas.List.{length-take-le, length-reverse}
use Rattle.group_queues.specs.DoneEvents.{DoneEvent, done_events_in, all_sent, all_noted, sent_in}
use Rattle.group_queues.proofs.NewestDone.{newest-share, how-much_sent, sent_in-push}
use Rattle.group_queues.proofs.Shares.{sent-more, noted-more}
use Rattle.group_queues.proofs.done_events.DoneEvents.pop_newest.Given.{Over}
use Rattle.group_queues.proofs.done_events.DoneEvents.pop_newest.Goals.{After-truncate}
use Rattle.group_queues.proofs.done_events.DoneEvents.pop_newest.Goals as goal

pub take_back-requires-clause-enough : goal.take_back-requires-clause-enough
take_back-requires-clause-enough g c =
    let i = c.self.invariant.0 in
    let a = ap all_sent c.in-Some.ensures.items in
    let b = sent-more c.pop_back.new.self.items c.in-Some.event in
    omega arith

pub take_back-requires-clause-room : goal.take_back-requires-clause-room
take_back-requires-clause-room g c =
    let i = c.self.invariant.0 in
    let a = ap all_sent c.in-Some.ensures.items in
    let b = sent-more c.pop_back.new.self.items c.in-Some.event in
    let s = sym (ap (λ z. sent_in z.events) c.self.view_is) ∙ how-much_sent c.self.inside.events.items c.self.inside.sends.items c.self.inside.rows.items c.self.invariant.0 in
    let h = c.requires.room in
    omega arith

pub overflow_sub-left : goal.overflow_sub-left
overflow_sub-left g c =
    let i = c.self.invariant.1 in
    let a = ap all_noted c.in-Some.ensures.items in
    let b = noted-more c.pop_back.new.self.items c.in-Some.event in
    let l = c.len.ensures in
    omega arith

-- what the newest one sent, and noted, is part of what all did
sent-part : (g : Over) (c : After-truncate g) → c.in-Some.event.sent ≤ length c.self.inside.sends.items
sent-part g c =
    let i = c.self.invariant.0 in
    let a = ap all_sent c.in-Some.ensures.items in
    let b = sent-more c.pop_back.new.self.items c.in-Some.event in
    omega arith

noted-part : (g : Over) (c : After-truncate g) → c.in-Some.event.noted ≤ length c.self.inside.rows.items
noted-part g c =
    let i = c.self.invariant.1 in
    let a = ap all_noted c.in-Some.ensures.items in
    let b = noted-more c.pop_back.new.self.items c.in-Some.event in
    omega arith

pub invariant_of-self : goal.invariant_of-self
invariant_of-self g c =
    let p = sent-part g (goal.at.invariant_of-self g c).After-truncate in
    let q = noted-part g (goal.at.invariant_of-self g c).After-truncate in
    let sends = c.self.inside.sends in
    let rows = c.self.inside.rows in (
      (let i = c.self.invariant.0 in let a = ap all_sent c.in-Some.ensures.items in let b = sent-more c.pop_back.new.self.items c.in-Some.event in
          let t = ap length c.take_back.ensures.sends ∙ length-take-le (length sends.items - c.in-Some.event.sent) sends.items (omega arith) in omega arith),
      (let i = c.self.invariant.1 in let a = ap all_noted c.in-Some.ensures.items in let b = noted-more c.pop_back.new.self.items c.in-Some.event in
          let l = c.len.ensures in
          let t = ap length c.truncate.ensures.items ∙ length-take-le (c.len.result - c.in-Some.event.noted) rows.items (omega arith) in omega arith),
      (let r = c.self.invariant.2 in let k = c.in-Some.ensures.room in omega (arith, r, k)),
      (let r = c.self.invariant.3 in let k = c.take_back.ensures.sends_capacity in omega (arith, r, k)),
      (let r = c.self.invariant.4 in let k = c.truncate.ensures.room in let l = c.len.ensures in omega (arith, r, k, l)),
    )

-- the newest event with its shares
newest : (g : Over) (c : After-truncate g) → DoneEvent g.row.K.Denot
newest g c = record {
  message = c.in-Some.event.message;
  kept = c.in-Some.event.kept;
  sent = drop (length c.self.inside.sends.items - c.in-Some.event.sent) c.self.inside.sends.items;
  rows = drop (c.len.result - c.in-Some.event.noted) c.self.inside.rows.items;
}

out : (g : Over) (c : After-truncate g) → c.args.self.now.events ≡ done_events_in c.pop_back.new.self.items c.take_back.new.sends.items c.truncate.new.self.items ++ newest g c ∷ []
unfolding newest
out g c =
    let inside = c.self.inside in
    let p = sent-part g c in
    let q = noted-part g c in
    let l = c.len.ensures in
    sym (ap (λ z. z.events) c.self.view_is) ∙ (ap (λ es. done_events_in es inside.sends.items inside.rows.items) c.in-Some.ensures.items ∙
    (newest-share c.pop_back.new.self.items c.in-Some.event inside.sends.items inside.rows.items (length inside.sends.items - c.in-Some.event.sent) (c.len.result - c.in-Some.event.noted)
    (c.self.invariant.0 ∙ ap all_sent c.in-Some.ensures.items) (c.self.invariant.1 ∙ ap all_noted c.in-Some.ensures.items) (omega arith) (omega arith) ∙
    (λ j. done_events_in c.pop_back.new.self.items (sym c.take_back.ensures.sends j) (sym c.truncate.ensures.items j) ++ newest g c ∷ [])))

pub returns-clause-popped : goal.returns-clause-popped
unfolding newest
returns-clause-popped g c =
    let at = (goal.at.returns-clause-popped g c).After-truncate in
    (newest g at, out g at, c.take_back.ensures.back, refl, refl)

pub returns-clause-room : goal.returns-clause-room
unfolding newest
returns-clause-room g c =
    let at = (goal.at.returns-clause-room g c).After-truncate in
    let p = sent-part g at in
    let left = done_events_in c.pop_back.new.self.items c.take_back.new.sends.items c.truncate.new.self.items in
    let a = ap sent_in (out g at) ∙ sent_in-push left (newest g at) in
    let d = length-drop (length c.self.inside.sends.items - c.in-Some.event.sent) c.self.inside.sends.items in
    let b = ap length c.take_back.ensures.back ∙ (length-append c.args.back.now.items (reverse (newest g at).sent) ∙ ap (λ n. length c.args.back.now.items + n) (length-reverse (newest g at).sent)) in
    let k = c.take_back.ensures.capacity in
    let h = c.requires.room in
    omega arith
