use Rattle.std.proofs.Common.{ℕ, ◌∷◌, [], ◌++◌, Some, set, IsPermutation, refl, subst, sym, ap, ◌∙◌}
use Rattle.std.proofs.lemmas.List.Sorted.{IsPermutation-refl}
use Rattle.vlink.specs.Order.{message_order}
use Rattle.virtual_time.specs.Law.{rows_of}
use Rattle.reverse.specs.Rules.{rules_of}
use Rattle.group_hand.specs.Hands.{DoesSent}
use Rattle.group_hand.specs.Passing.{GoesOn, held}
use Rattle.group_hand.specs.Undoing.{CameTo}
use Rattle.group_hand.proofs.Adding.{adds-run}
use Rattle.group_hand.proofs.Came.{pushed-came}
use Rattle.group_hand.proofs.FirstEvent.{handles}
use Rattle.std.proofs.lemmas.Option.{slice_get_within}
use Rattle.group_hand.proofs.in_order.handle_in_order.Goals as goal

pub returns-clause-did : goal.returns-clause-did
returns-clause-did g c = λ rows before took.
    let plain = g.R.Reversible.plain in
    let V = g.R.Reversible.is_value in
    let r = rules_of plain in
    let m = c.args.message.now in
    let s = c.requires.able.0 in
    let at = c.requires.able.1 in
    let sends = c.messages.ensures.messages ∙ c.act-kept.ensures.messages s at in
    let again = c.messages-2.ensures.messages ∙ c.act-kept.ensures.messages s at in
    let notes = c.notes.ensures.notes ∙ c.act-kept.ensures.notes s at in
    let members = c.act-kept.ensures.members s at in
    let later = c.push_reserved.ensures.events ∙ (λ j. c.args.done.now.events ++ record { message = m; kept = c.act-kept.ensures.saved s at j; sent = sends j; rows = rows_of message_order m (notes j) } ∷ []) in
    let gone = subst (λ xs. GoesOn r V (set c.args.members.now m.receiver (Some (plain.after s m))) xs c.tell.new.self xs c.send_all.new.letters []) again
    (subst (λ ms. GoesOn r V ms c.messages-2.result.now c.tell.new.self c.messages-2.result.now c.send_all.new.letters []) members c.send_all.ensures.went) in
    subst (λ ms. DoesSent r V (held c.args.members.now c.args.done.now.events rows before) [] (held ms c.push_reserved.new.self.events rows c.send_all.new.letters) []) (sym members)
    (handles plain V c.actor_rules_law.ensures.order c.actor_rules_law.ensures.undoes c.args.members.now c.args.done.now.events c.push_reserved.new.self.events rows
    before c.args.letters.now c.tell.new.self c.send_all.new.letters m s at (c.act-kept.ensures.valid s at) took.first c.requires.early
    (subst (IsPermutation before.queue) took.taken (IsPermutation-refl before.queue)) (ap (λ z. z.extra) took.others) (ap (λ z. z.tray) took.others) (ap (λ z. z.abroad) took.others)
    (ap (λ z. z.words) took.others) (ap (λ z. z.keeps) took.others) c.tell.ensures.told later gone)

pub returns-clause-came : goal.returns-clause-came
returns-clause-came g c = λ came.
    let plain = g.R.Reversible.plain in
    let V = g.R.Reversible.is_value in
    let m = c.args.message.now in
    let s = c.requires.able.0 in
    let at = c.requires.able.1 in
    let sends = c.messages.ensures.messages ∙ c.act-kept.ensures.messages s at in
    let notes = c.notes.ensures.notes ∙ c.act-kept.ensures.notes s at in
    let later = c.push_reserved.ensures.events ∙ (λ j. c.args.done.now.events ++ record { message = m; kept = c.act-kept.ensures.saved s at j; sent = sends j; rows = rows_of message_order m (notes j) } ∷ []) in
    subst (λ ms. (p : ℕ) → CameTo (rules_of plain) V ms c.push_reserved.new.self.events p) (sym (c.act-kept.ensures.members s at))
    (subst (λ ds. (p : ℕ) → CameTo (rules_of plain) V (set c.args.members.now m.receiver (Some (plain.after s m))) ds p) (sym later)
    (pushed-came (rules_of plain) c.actor_rules_law.ensures.order V c.args.members.now c.args.done.now.events m s at (c.act-kept.ensures.valid s at) came))

pub returns-clause-done : goal.returns-clause-done
returns-clause-done g c = (
  record { message = c.args.message.now; kept = c.act-kept.result; sent = c.messages.result.now; rows = rows_of message_order c.args.message.now c.notes.result.now },
  c.push_reserved.ensures.events,
  refl,
)

pub act-kept-requires-clause-within : goal.act-kept-requires-clause-within
act-kept-requires-clause-within g c = slice_get_within c.args.members.now c.args.message.now.receiver (Some c.requires.able.0) c.requires.able.1

pub act-kept-requires-clause-able : goal.act-kept-requires-clause-able
act-kept-requires-clause-able g c = c.requires.able

-- the word of the run, and then those of what it sent
pub returns-clause-words : goal.returns-clause-words
returns-clause-words g c =
    let went = c.send_all.ensures.went in
    adds-run c.args.message.now.receiver c.args.letters.now.words c.tell.new.self.words c.send_all.new.letters.words went.did (ap (λ z. z.words) c.tell.ensures.told) went.words went.no_run went.no_commit
