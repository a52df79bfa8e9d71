use Rattle.std.proofs.Common.{◌≡◌, ℕ, ◌∷◌, [], ◌++◌, Some, inl, inr, length, map, reverse, set, subst, sym, ap, ◌∙◌, arith, rules, refl}
use Rattle.std.proofs.lemmas.List.{length-map}
use Rattle.std.proofs.lemmas.Option.{slice_get_within}
use Rattle.vlink.specs.Order.{message_order}
use Rattle.virtual_time.specs.Law.{rows_of, plus_of}
use Rattle.reverse.specs.Rules.{rules_of}
use Rattle.group_hand.specs.Arriving.{WentOn, to_members}
use Rattle.group_queues.specs.declared.block.Word.TheVariants.{Ran}
use Rattle.group_queues.specs.DoneEvents.{DoneEvent, done_event_of, messages_of, HasRoomFor}
use Rattle.group_hand.specs.Hands.{DoesSent}
use Rattle.group_hand.specs.Passing.{held}
use Rattle.group_hand.specs.Undoing.{CameTo}
use Rattle.group_hand.proofs.Adding.{adds-run-taken}
use Rattle.group_queues.proofs.Among.{none-among}
use Rattle.group_hand.proofs.LateEvent.{set-back, late-came, late-handles}
use Rattle.group_hand.proofs.NotLater.{has-later, one-more}
use Rattle.group_hand.proofs.Telling.{does-nothing}
use Rattle.group_hand.proofs.out_of_order.handle_out_of_order.Given.{Over}
use Rattle.group_hand.proofs.out_of_order.handle_out_of_order.Goals.{After-notes, After-bring_back-2}
use Rattle.group_hand.proofs.out_of_order.handle_out_of_order.Goals as goal

pub returns-then-not-is_before-clause-did : goal.returns-then-not-is_before-clause-did
returns-then-not-is_before-clause-did g c = λ rows.
    let r = rules_of g.R.Reversible.plain in
    let V = g.R.Reversible.is_value in
    let e = set-back message_order c.args.message.now c.args.done.now.events c.set_aside.new.done.events c.set_aside.new.aside.events c.bring_back.new.self.events c.set_aside.ensures.aside c.bring_back.ensures.done in
    subst (λ ds. DoesSent r V (held c.args.members.now c.args.done.now.events rows c.args.letters.now) [] (held c.args.members.now ds rows c.args.letters.now) []) (sym e)
    (does-nothing r V (held c.args.members.now c.args.done.now.events rows c.args.letters.now) [])

pub returns-then-not-is_before-clause-came : goal.returns-then-not-is_before-clause-came
returns-then-not-is_before-clause-came g c =
    let r = rules_of g.R.Reversible.plain in
    let V = g.R.Reversible.is_value in
    let e = set-back message_order c.args.message.now c.args.done.now.events c.set_aside.new.done.events c.set_aside.new.aside.events c.bring_back.new.self.events c.set_aside.ensures.aside c.bring_back.ensures.done in
    subst (λ ds. (p : ℕ) → CameTo r V c.args.members.now ds p) (sym e) c.requires.came

pub bring_back-requires : goal.bring_back-requires
bring_back-requires g c = c.set_aside.ensures.again [] (record { events = omega arith; sends = omega arith; rows = omega arith })

pub act-kept-requires-clause-within : goal.act-kept-requires-clause-within
act-kept-requires-clause-within g c = slice_get_within c.args.members.now c.args.message.now.receiver (Some c.requires.able.0) c.requires.able.1

-- the event, as it is kept
event : (g : Over) (c : After-notes g) → DoneEvent g.row.R-Record.Denot
event g c = record {
  message = c.args.message.now;
  kept = c.act-kept.result;
  sent = c.messages.result.now;
  rows = rows_of message_order c.args.message.now c.notes.result.now;
}

roomy : (g : Over) (c : After-notes g) → HasRoomFor (event g c ∷ c.set_aside.new.aside.events) c.set_aside.new.done
unfolding event
roomy g c =
    let k : length (rows_of message_order c.args.message.now c.notes.result.now) ≡ length c.notes.result.now =
    length-map c.notes.result.now (λ n. record { message = c.args.message.now; place = c.args.message.now.receiver; note = n }) in
    c.set_aside.ensures.again (event g c ∷ []) (record {
      events = let a = c.requires.events in omega arith;
      sends = let a = c.requires.sends in let f = c.messages.ensures.few in omega arith;
      rows = let a = c.requires.rows in let f = c.notes.ensures.few in omega arith;
    })

pub push_reserved-requires-clause-events : goal.push_reserved-requires-clause-events
push_reserved-requires-clause-events g c = let h = (roomy g (goal.at.push_reserved-requires-clause-events g c).After-notes).events in omega arith

pub push_reserved-requires-clause-sends : goal.push_reserved-requires-clause-sends
unfolding event
push_reserved-requires-clause-sends g c = (c.messages.ensures.few, let h = (roomy g (goal.at.push_reserved-requires-clause-sends g c).After-notes).sends in omega arith)

pub push_reserved-requires-clause-rows : goal.push_reserved-requires-clause-rows
unfolding event
push_reserved-requires-clause-rows g c =
    let k : length (rows_of message_order c.args.message.now c.notes.result.now) ≡ length c.notes.result.now =
    length-map c.notes.result.now (λ n. record { message = c.args.message.now; place = c.args.message.now.receiver; note = n }) in
    (c.notes.ensures.few, let h = (roomy g (goal.at.push_reserved-requires-clause-rows g c).After-notes).rows in omega arith)

pub bring_back-requires-2 : goal.bring_back-requires-2
unfolding event
bring_back-requires-2 g c = c.push_reserved.ensures.left c.set_aside.new.aside.events (roomy g (goal.at.bring_back-requires-2 g c).After-notes)

-- what is done afterwards
now-done : (g : Over) (c : After-bring_back-2 g) →
    c.bring_back-2.new.self.events ≡ (c.set_aside.new.done.events ++ done_event_of (rules_of g.R.Reversible.plain) c.requires.able.0 c.args.message.now ∷ []) ++ reverse c.set_aside.new.aside.events
now-done g c =
    let m = c.args.message.now in
    let s = c.requires.able.0 in
    let at = c.requires.able.1 in
    let sends = c.messages.ensures.messages ∙ c.act-kept.ensures.messages s at in
    let notes = c.notes.ensures.notes ∙ c.act-kept.ensures.notes s at in
    c.bring_back-2.ensures.done ∙ ap (λ z. z ++ reverse c.set_aside.new.aside.events) (c.push_reserved.ensures.events ∙
    (λ j. c.set_aside.new.done.events ++ record { message = m; kept = c.act-kept.ensures.saved s at j; sent = sends j; rows = rows_of message_order m (notes j) } ∷ []))

pub returns-clause-came : goal.returns-clause-came
returns-clause-came g c =
    let plain = g.R.Reversible.plain in
    let V = g.R.Reversible.is_value in
    let m = c.args.message.now in
    let s = c.requires.able.0 in
    let at = c.requires.able.1 in
    subst (λ ms. (p : ℕ) → CameTo (rules_of plain) V ms c.bring_back-2.new.self.events p) (sym (c.act-kept.ensures.members s at))
    (late-came plain V c.actor_rules_law.ensures.order c.actor_rules_law.ensures.undoes c.args.members.now c.args.done.now.events c.set_aside.new.done.events c.set_aside.new.aside.events c.bring_back-2.new.self.events (record { all = []; left = 0 })
    c.args.letters.now c.take_first.new.self c.tell.new.self c.send_later.new.letters m s at (c.act-kept.ensures.valid s at) c.set_aside.ensures.aside (search rules)
    (now-done g (goal.at.returns-clause-came g c).After-bring_back-2) c.requires.came)

pub returns-clause-did : goal.returns-clause-did
returns-clause-did g c = λ rows.
    let plain = g.R.Reversible.plain in
    let V = g.R.Reversible.is_value in
    let r = rules_of plain in
    let m = c.args.message.now in
    let s = c.requires.able.0 in
    let at = c.requires.able.1 in
    let O = c.actor_rules_law.ensures.order in
    let members = c.act-kept.ensures.members s at in
    let again = c.messages-2.ensures.messages ∙ c.act-kept.ensures.messages s at in
    let went = subst (λ xs. WentOn (set c.args.members.now m.receiver (Some (plain.after s m))) (map plus_of xs) c.tell.new.self c.send_later.new.letters) again
    (subst (λ ms. WentOn ms (map plus_of c.messages-2.result.now) c.tell.new.self c.send_later.new.letters) members c.send_later.ensures.went) in
    subst (λ ms. DoesSent r V (held c.args.members.now c.args.done.now.events rows c.args.letters.now) [] (held ms c.bring_back-2.new.self.events rows c.send_later.new.letters) []) (sym members)
    (late-handles plain V O c.actor_rules_law.ensures.undoes c.args.members.now c.args.done.now.events c.set_aside.new.done.events c.set_aside.new.aside.events c.bring_back-2.new.self.events rows
    c.args.letters.now c.take_first.new.self c.tell.new.self c.send_later.new.letters m s at (c.act-kept.ensures.valid s at) c.set_aside.ensures.aside (search rules)
    (now-done g (goal.at.returns-clause-did g c).After-bring_back-2) c.requires.first (λ up. none-among O (messages_of c.args.done.now.events) m (c.requires.not_done up))
    c.take_first.ensures.taken c.take_first.ensures.others c.tell.ensures.told went c.send_later.ensures.queue c.send_later.ensures.extra)

pub returns-then-not-is_before-clause-handled : goal.returns-then-not-is_before-clause-handled
returns-then-not-is_before-clause-handled g c =
    inr (has-later c.actor_rules_law.ensures.order c.args.message.now c.args.done.now.events c.set_aside.new.done.events c.set_aside.new.aside.events c.set_aside.ensures.aside
    c.set_aside.ensures.stops (search rules))

pub returns-clause-handled : goal.returns-clause-handled
returns-clause-handled g c =
    inl (one-more c.actor_rules_law.ensures.order c.args.message.now c.args.done.now.events c.set_aside.new.done.events c.set_aside.new.aside.events c.set_aside.ensures.aside
    c.bring_back-2.new.self.events (done_event_of (rules_of g.R.Reversible.plain) c.requires.able.0 c.args.message.now)
    (now-done g (goal.at.returns-clause-handled g c).After-bring_back-2))

-- what each call asks for, and what stays
pub returns-then-not-is_before-clause-len : goal.returns-then-not-is_before-clause-len
returns-then-not-is_before-clause-len g c = refl

pub returns-then-not-is_before-clause-empty : goal.returns-then-not-is_before-clause-empty
returns-then-not-is_before-clause-empty g c = c.bring_back.ensures.aside

pub returns-clause-len : goal.returns-clause-len
returns-clause-len g c = c.act-kept.ensures.len

pub returns-clause-empty : goal.returns-clause-empty
returns-clause-empty g c = c.bring_back-2.ensures.aside

pub take_first-requires-clause-among : goal.take_first-requires-clause-among
take_first-requires-clause-among g c = c.requires.among

pub take_first-requires-clause-first : goal.take_first-requires-clause-first
take_first-requires-clause-first g c = c.requires.first

pub act-kept-requires-clause-able : goal.act-kept-requires-clause-able
act-kept-requires-clause-able g c = c.requires.able

pub tell-requires : goal.tell-requires
tell-requires g c = omega (arith, c.requires.room, c.take_first.ensures.room)

pub send_later-requires : goal.send_later-requires
send_later-requires g c = omega (arith, c.requires.room, c.take_first.ensures.room, c.tell.ensures.room, c.messages-2.ensures.few)

pub returns-then-not-is_before-clause-words : goal.returns-then-not-is_before-clause-words
returns-then-not-is_before-clause-words g c =
    inr (has-later c.actor_rules_law.ensures.order c.args.message.now c.args.done.now.events c.set_aside.new.done.events c.set_aside.new.aside.events c.set_aside.ensures.aside
    c.set_aside.ensures.stops (search rules))

pub returns-clause-words : goal.returns-clause-words
returns-clause-words g c =
    inl (adds-run-taken c.args.message.now.receiver c.args.letters.now.words c.tell.new.self.words c.send_later.new.letters.words
    (to_members c.act-kept.new.members (map plus_of c.messages-2.result.now))
    (ap (λ z. z.words) c.tell.ensures.told ∙ ap (λ z. z.words ++ Ran c.args.message.now.receiver ∷ []) c.take_first.ensures.others) c.send_later.ensures.went.words)
