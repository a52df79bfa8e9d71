use Rattle.std.proofs.Common.{◌≡◌, ◌+◌, ◌++◌, ◌∷◌, [], length, refl, sym, ap, ◌∙◌, length-append, arith}
use Rattle.std.proofs.lemmas.List.{length-map}
use Rattle.vlink.specs.Order.{message_order}
use Rattle.virtual_time.specs.Law.{rows_of}
use Rattle.group_queues.specs.DoneEvents.{done_events_in, all_sent, all_noted}
use Rattle.group_queues.proofs.Shares.{events-more, sent-more, noted-more}
use Rattle.group_queues.proofs.done_events.DoneEvents.push_reserved.Goals as goal

pub invariant_of-self : goal.invariant_of-self
invariant_of-self g c =
    let inside = c.self.inside in
    let e = ap all_sent c.push_back_reserved.ensures.items ∙ sent-more inside.events.items _ in
    let n = ap all_noted c.push_back_reserved.ensures.items ∙ noted-more inside.events.items _ in
    let s = ap length c.send_all.ensures.sends ∙ length-append inside.sends.items c.args.sends.now in
    let r = ap length c.note_all.ensures.rows ∙ length-append inside.rows.items (rows_of message_order c.args.message.now c.args.notes.now) in
    let k = length-map c.args.notes.now (λ n. record { message = c.args.message.now; place = c.args.message.now.receiver; note = n }) in (
      s ∙ (ap (λ z. z + length c.args.sends.now) c.self.invariant.0 ∙ sym e),
      r ∙ (ap (λ z. z + length (rows_of message_order c.args.message.now c.args.notes.now)) c.self.invariant.1 ∙ (ap (λ z. all_noted inside.events.items + z) k ∙ sym n)),
      (let a = c.push_back_reserved.ensures.room in let b = c.self.invariant.2 in omega (arith, a, b)),
      (let a = c.send_all.ensures.capacity in let b = c.self.invariant.3 in let l = c.requires.sends.0 in omega (arith, a, b, l)),
      (let a = c.note_all.ensures.capacity in let b = c.self.invariant.4 in let l = c.requires.rows.0 in omega (arith, a, b, l)),
    )

pub returns-clause-events : goal.returns-clause-events
returns-clause-events g c =
    let inside = c.self.inside in
    let k = length-map c.args.notes.now (λ n. record { message = c.args.message.now; place = c.args.message.now.receiver; note = n }) in
    (λ j. done_events_in (c.push_back_reserved.ensures.items j) (c.send_all.ensures.sends j) (c.note_all.ensures.rows j)) ∙
    (events-more inside.events.items _ inside.sends.items c.args.sends.now inside.rows.items (rows_of message_order c.args.message.now c.args.notes.now)
    c.self.invariant.0 c.self.invariant.1 refl (sym k) ∙
    ap (λ z. z.events ++ record { message = c.args.message.now; kept = c.args.kept; sent = c.args.sends.now; rows = rows_of message_order c.args.message.now c.args.notes.now } ∷ []) c.self.view_is)

pub returns-clause-left : goal.returns-clause-left
returns-clause-left g c = λ ds h.
    let inside = c.self.inside in
    let k : length (rows_of message_order c.args.message.now c.args.notes.now) ≡ length c.args.notes.now = length-map c.args.notes.now (λ n. record { message = c.args.message.now; place = c.args.message.now.receiver; note = n }) in
    record {
      events = let a = h.events in let r = ap (λ z. z.events_room) c.self.view_is in let b = c.push_back_reserved.ensures.room in omega arith;
      sends = let a = h.sends in let r = ap (λ z. z.sends_room) c.self.view_is in let b = c.send_all.ensures.capacity in
          let l = ap length c.send_all.ensures.sends ∙ length-append inside.sends.items c.args.sends.now in omega arith;
      rows = let a = h.rows in let r = ap (λ z. z.rows_room) c.self.view_is in let b = c.note_all.ensures.capacity in
          let l = ap length c.note_all.ensures.rows ∙ length-append inside.rows.items (rows_of message_order c.args.message.now c.args.notes.now) in omega arith;
    }
