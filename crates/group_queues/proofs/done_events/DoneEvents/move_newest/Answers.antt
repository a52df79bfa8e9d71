use Rattle.std.proofs.Common.{◌≡◌, ◌≤◌, ◌-◌, ◌++◌, ◌∷◌, [], length, drop, sym, ap, ◌∙◌, arith, length-append, length-drop}
use Rattle.std.proofs.lemmas.List.{length-take-le}
use Rattle.group_queues.specs.DoneEvents.{DoneEvent, done_events_in, all_sent, all_noted, sent_in, noted_in}
use Rattle.group_queues.proofs.NewestDone.{newest-share, how-much_sent, how-much_noted, sent_in-push, noted_in-push}
use Rattle.group_queues.proofs.Shares.{events-more, sent-more, noted-more}
use Rattle.group_queues.proofs.done_events.DoneEvents.move_newest.Given.{Over}
use Rattle.group_queues.proofs.done_events.DoneEvents.move_newest.Goals.{After-push_back_reserved, After-move_last-2}
use Rattle.group_queues.proofs.done_events.DoneEvents.move_newest.Goals as goal

-- what the newest one sent, and noted, is part of what all did
sent-part : (g : Over) (c : After-push_back_reserved g) → c.in-Some.event.sent ≤ length c.self.inside.sends.items
sent-part g c =
    let i = c.self.invariant.0 in
    let a = ap all_sent c.in-Some.ensures.items in
    let b = sent-more c.pop_back.new.self.items c.in-Some.event in
    omega arith

noted-part : (g : Over) (c : After-push_back_reserved g) → c.in-Some.event.noted ≤ length c.self.inside.rows.items
noted-part g c =
    let i = c.self.invariant.1 in
    let a = ap all_noted c.in-Some.ensures.items in
    let b = noted-more c.pop_back.new.self.items c.in-Some.event in
    omega arith

pub move_last-requires-clause-enough : goal.move_last-requires-clause-enough
move_last-requires-clause-enough g c = let p = sent-part g (goal.at.move_last-requires-clause-enough g c).After-push_back_reserved in omega arith

pub move_last-requires-clause-room : goal.move_last-requires-clause-room
move_last-requires-clause-room g c =
    let p = sent-part g (goal.at.move_last-requires-clause-room g c).After-push_back_reserved in
    let s = sym (ap (λ z. sent_in z.events) c.self.view_is) ∙ how-much_sent c.self.inside.events.items c.self.inside.sends.items c.self.inside.rows.items c.self.invariant.0 in
    let r = ap (λ z. z.sends_room) c.other.view_is in
    let h = c.requires.room.sends in
    omega arith

pub move_last-requires-2-clause-enough : goal.move_last-requires-2-clause-enough
move_last-requires-2-clause-enough g c = let p = noted-part g (goal.at.move_last-requires-2-clause-enough g c).After-push_back_reserved in omega arith

pub move_last-requires-2-clause-room : goal.move_last-requires-2-clause-room
move_last-requires-2-clause-room g c =
    let p = noted-part g (goal.at.move_last-requires-2-clause-room g c).After-push_back_reserved in
    let s = sym (ap (λ z. noted_in z.events) c.self.view_is) ∙ how-much_noted c.self.inside.events.items c.self.inside.sends.items c.self.inside.rows.items c.self.invariant.1 in
    let r = ap (λ z. z.rows_room) c.other.view_is in
    let h = c.requires.room.rows in
    omega arith

pub invariant_of-self : goal.invariant_of-self
invariant_of-self g c =
    let p = sent-part g (goal.at.invariant_of-self g c).After-push_back_reserved in
    let q = noted-part g (goal.at.invariant_of-self g c).After-push_back_reserved in
    let sends = c.self.inside.sends in
    let rows = c.self.inside.rows in (
      (let i = c.self.invariant.0 in let a = ap all_sent c.in-Some.ensures.items in let b = sent-more c.pop_back.new.self.items c.in-Some.event in
          let t = ap length c.move_last.ensures.items ∙ length-take-le (length sends.items - c.in-Some.event.sent) sends.items (omega arith) in omega arith),
      (let i = c.self.invariant.1 in let a = ap all_noted c.in-Some.ensures.items in let b = noted-more c.pop_back.new.self.items c.in-Some.event in
          let t = ap length c.move_last-2.ensures.items ∙ length-take-le (length rows.items - c.in-Some.event.noted) rows.items (omega arith) in omega arith),
      (let r = c.self.invariant.2 in let k = c.in-Some.ensures.room in omega (arith, r, k)),
      (let r = c.self.invariant.3 in let k = c.move_last.ensures.items_capacity in omega (arith, r, k)),
      (let r = c.self.invariant.4 in let k = c.move_last-2.ensures.items_capacity in omega (arith, r, k)),
    )

pub invariant_of-other : goal.invariant_of-other
invariant_of-other g c =
    let p = sent-part g (goal.at.invariant_of-other g c).After-push_back_reserved in
    let q = noted-part g (goal.at.invariant_of-other g c).After-push_back_reserved in
    let sends = c.self.inside.sends in
    let rows = c.self.inside.rows in
    let there = c.other.inside in (
      (let i = c.other.invariant.0 in let a = ap all_sent c.push_back_reserved.ensures.items in let b = sent-more there.events.items c.in-Some.event in
          let t = ap length c.move_last.ensures.taken ∙ length-append there.sends.items (drop (length sends.items - c.in-Some.event.sent) sends.items) in
          let d = length-drop (length sends.items - c.in-Some.event.sent) sends.items in omega arith),
      (let i = c.other.invariant.1 in let a = ap all_noted c.push_back_reserved.ensures.items in let b = noted-more there.events.items c.in-Some.event in
          let t = ap length c.move_last-2.ensures.taken ∙ length-append there.rows.items (drop (length rows.items - c.in-Some.event.noted) rows.items) in
          let d = length-drop (length rows.items - c.in-Some.event.noted) rows.items in omega arith),
      omega arith,
      omega arith,
      omega arith,
    )

-- the newest event with its shares
newest : (g : Over) (c : After-move_last-2 g) → DoneEvent g.row.K.Denot
newest g c = record {
  message = c.in-Some.event.message;
  kept = c.in-Some.event.kept;
  sent = drop (length c.self.inside.sends.items - c.in-Some.event.sent) c.self.inside.sends.items;
  rows = drop (length c.self.inside.rows.items - c.in-Some.event.noted) c.self.inside.rows.items;
}

out : (g : Over) (c : After-move_last-2 g) → c.in-Some.event.sent ≤ length c.self.inside.sends.items → c.in-Some.event.noted ≤ length c.self.inside.rows.items →
    c.args.self.now.events ≡ done_events_in c.pop_back.new.self.items c.move_last.new.items.items c.move_last-2.new.items.items ++ newest g c ∷ []
unfolding newest
out g c p q =
    let inside = c.self.inside in
    sym (ap (λ z. z.events) c.self.view_is) ∙ (ap (λ es. done_events_in es inside.sends.items inside.rows.items) c.in-Some.ensures.items ∙
    (newest-share c.pop_back.new.self.items c.in-Some.event inside.sends.items inside.rows.items (length inside.sends.items - c.in-Some.event.sent) (length inside.rows.items - c.in-Some.event.noted)
    (c.self.invariant.0 ∙ ap all_sent c.in-Some.ensures.items) (c.self.invariant.1 ∙ ap all_noted c.in-Some.ensures.items) (omega arith) (omega arith) ∙
    (λ j. done_events_in c.pop_back.new.self.items (sym c.move_last.ensures.items j) (sym c.move_last-2.ensures.items j) ++ newest g c ∷ [])))

into : (g : Over) (c : After-move_last-2 g) → c.in-Some.event.sent ≤ length c.self.inside.sends.items → c.in-Some.event.noted ≤ length c.self.inside.rows.items →
    done_events_in c.push_back_reserved.new.self.items c.move_last.new.taken.items c.move_last-2.new.taken.items ≡ c.args.other.now.events ++ newest g c ∷ []
unfolding newest
into g c p q =
    let inside = c.self.inside in
    let there = c.other.inside in
    let s = length-drop (length inside.sends.items - c.in-Some.event.sent) inside.sends.items in
    let t = length-drop (length inside.rows.items - c.in-Some.event.noted) inside.rows.items in
    (λ j. done_events_in (c.push_back_reserved.ensures.items j) (c.move_last.ensures.taken j) (c.move_last-2.ensures.taken j)) ∙
    (events-more there.events.items c.in-Some.event there.sends.items (newest g c).sent there.rows.items (newest g c).rows c.other.invariant.0 c.other.invariant.1 (omega arith) (omega arith) ∙
    ap (λ z. z.events ++ newest g c ∷ []) c.other.view_is)

pub returns-clause-moved : goal.returns-clause-moved
unfolding newest
returns-clause-moved g c =
    let at = (goal.at.returns-clause-moved g c).After-move_last-2 in
    let p = sent-part g (goal.at.returns-clause-moved g c).After-push_back_reserved in
    let q = noted-part g (goal.at.returns-clause-moved g c).After-push_back_reserved in (
      newest g at,
      out g at p q,
      into g at p q,
      λ ds h. record {
        events = let r = ap (λ z. z.events_room) c.self.view_is in let b = h.events in
            let l = ap length c.in-Some.ensures.items ∙ length-append c.pop_back.new.self.items (c.in-Some.event ∷ []) in let k = c.in-Some.ensures.room in omega arith;
        sends = let r = ap (λ z. z.sends_room) c.self.view_is in let b = h.sends in
            let d = length-drop (length c.self.inside.sends.items - c.in-Some.event.sent) c.self.inside.sends.items in
            let l = ap length c.move_last.ensures.items ∙ length-take-le (length c.self.inside.sends.items - c.in-Some.event.sent) c.self.inside.sends.items (omega arith) in
            let k = c.move_last.ensures.items_capacity in omega arith;
        rows = let r = ap (λ z. z.rows_room) c.self.view_is in let b = h.rows in
            let d = length-drop (length c.self.inside.rows.items - c.in-Some.event.noted) c.self.inside.rows.items in
            let l = ap length c.move_last-2.ensures.items ∙ length-take-le (length c.self.inside.rows.items - c.in-Some.event.noted) c.self.inside.rows.items (omega arith) in
            let k = c.move_last-2.ensures.items_capacity in omega arith;
      },
    )

pub returns-clause-room : goal.returns-clause-room
unfolding newest
returns-clause-room g c =
    let at = (goal.at.returns-clause-room g c).After-move_last-2 in
    let p = sent-part g (goal.at.returns-clause-room g c).After-push_back_reserved in
    let q = noted-part g (goal.at.returns-clause-room g c).After-push_back_reserved in
    let split = out g at p q in
    let left = done_events_in c.pop_back.new.self.items c.move_last.new.items.items c.move_last-2.new.items.items in
    let h = c.requires.room in
    record {
      events = let a = ap length split ∙ length-append left (newest g at ∷ []) in let r = ap (λ z. z.events_room) c.other.view_is in let b = h.events in
          let k = c.push_back_reserved.ensures.room in omega arith;
      sends = let a = ap sent_in split ∙ sent_in-push left (newest g at) in let r = ap (λ z. z.sends_room) c.other.view_is in let b = h.sends in
          let d = length-drop (length c.self.inside.sends.items - c.in-Some.event.sent) c.self.inside.sends.items in
          let l = ap length c.move_last.ensures.taken ∙ length-append c.other.inside.sends.items (newest g at).sent in let k = c.move_last.ensures.taken_capacity in omega arith;
      rows = let a = ap noted_in split ∙ noted_in-push left (newest g at) in let r = ap (λ z. z.rows_room) c.other.view_is in let b = h.rows in
          let d = length-drop (length c.self.inside.rows.items - c.in-Some.event.noted) c.self.inside.rows.items in
          let l = ap length c.move_last-2.ensures.taken ∙ length-append c.other.inside.rows.items (newest g at).rows in let k = c.move_last-2.ensures.taken_capacity in omega arith;
    }

pub returns-clause-back : goal.returns-clause-back
unfolding newest
returns-clause-back g c = λ h.
    let at = (goal.at.returns-clause-back g c).After-move_last-2 in
    let p = sent-part g (goal.at.returns-clause-back g c).After-push_back_reserved in
    let q = noted-part g (goal.at.returns-clause-back g c).After-push_back_reserved in
    let joined = into g at p q in
    let there = c.args.other.now.events in
    record {
      events = let a = ap length joined ∙ length-append there (newest g at ∷ []) in let r = ap (λ z. z.events_room) c.self.view_is in let b = h.events in
          let l = ap length c.in-Some.ensures.items ∙ length-append c.pop_back.new.self.items (c.in-Some.event ∷ []) in let k = c.in-Some.ensures.room in omega arith;
      sends = let a = ap sent_in joined ∙ sent_in-push there (newest g at) in let r = ap (λ z. z.sends_room) c.self.view_is in let b = h.sends in
          let d = length-drop (length c.self.inside.sends.items - c.in-Some.event.sent) c.self.inside.sends.items in
          let l = ap length c.move_last.ensures.items ∙ length-take-le (length c.self.inside.sends.items - c.in-Some.event.sent) c.self.inside.sends.items (omega arith) in
          let k = c.move_last.ensures.items_capacity in omega arith;
      rows = let a = ap noted_in joined ∙ noted_in-push there (newest g at) in let r = ap (λ z. z.rows_room) c.self.view_is in let b = h.rows in
          let d = length-drop (length c.self.inside.rows.items - c.in-Some.event.noted) c.self.inside.rows.items in
          let l = ap length c.move_last-2.ensures.items ∙ length-take-le (length c.self.inside.rows.items - c.in-Some.event.noted) c.self.inside.rows.items (omega arith) in
          let k = c.move_last-2.ensures.items_capacity in omega arith;
    }
