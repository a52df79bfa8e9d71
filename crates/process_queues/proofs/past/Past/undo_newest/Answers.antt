use Rattle.std.proofs.Common.{◌≡◌, ◌++◌, map, take, drop, reverse, sym, ap, ◌∙◌, arith, vec_len}
use Rattle.virtual_time.specs.Law.{minus_of}
use Rattle.process_queues.proofs.Pasts.{came-last, came-from, last-sends, past-less, some-done}
use Rattle.process_queues.proofs.Taking.{snoc-equal}
use Rattle.process_queues.proofs.past.Past.undo_newest.Goals as goal

pub take_newest-event-requires : goal.take_newest-event-requires
take_newest-event-requires g c =
    let i = c.requires.some in
    let past = rw (← c.self.view_is) at i.4 in
    let some = some-done i.1 i.2 past in
    omega arith

pub undo-requires : goal.undo-requires
undo-requires g c =
    let i = c.requires.some in
    let past = rw (← c.self.view_is) at i.4 in
    came-from (came-last i.1 i.2 c.take_newest-event.new.done.items c.take_newest-event.result c.take_newest-event.ensures past)

pub take_back-requires-clause-enough : goal.take_back-requires-clause-enough
take_back-requires-clause-enough g c =
    let i = c.requires.some in
    let past = rw (← c.self.view_is) at i.4 in
    let sent = (came-last i.1 i.2 c.take_newest-event.new.done.items c.take_newest-event.result c.take_newest-event.ensures past).sent in
    let n : c.from.result ≡ c.take_newest-event.result.sent = c.from.ensures in
    omega arith

pub take_back-requires-clause-room : goal.take_back-requires-clause-room
take_back-requires-clause-room g c =
    let n : c.from.result ≡ c.take_newest-event.result.sent = c.from.ensures in
    let room = c.requires.room c.take_newest-event.new.done.items c.take_newest-event.result (sym (ap (λ p. p.done) c.self.view_is) ∙ c.take_newest-event.ensures) in
    omega arith

pub overflow_sub-rows : goal.overflow_sub-rows
overflow_sub-rows g c =
    let i = c.requires.some in
    let past = rw (← c.self.view_is) at i.4 in
    let noted = (came-last i.1 i.2 c.take_newest-event.new.done.items c.take_newest-event.result c.take_newest-event.ensures past).noted in
    let n : c.from-2.result ≡ c.take_newest-event.result.noted = c.from-2.ensures in
    let k : c.len.result ≡ vec_len c.self.inside.rows = c.len.ensures in
    omega arith

pub returns-clause-undone : goal.returns-clause-undone
returns-clause-undone g c start ms e earlier h =
    let past = rw (← c.self.view_is) at h in
    let k : c.len.result ≡ vec_len c.self.inside.rows = c.len.ensures in
    let n : c.from-2.result ≡ c.take_newest-event.result.noted = c.from-2.ensures in
    let s : c.from.result ≡ c.take_newest-event.result.sent = c.from.ensures in
    past-less (came-last ms e c.take_newest-event.new.done.items c.take_newest-event.result c.take_newest-event.ensures past) (λ z. c.actor_rules_law.ensures.undoes z e) _ c.undo.ensures _ _
    (c.take_back.ensures.sends ∙ ap (λ x. take x c.self.inside.sends.items) (omega arith))
    (c.truncate.ensures.items ∙ ap (λ x. take x c.self.inside.rows.items) (omega arith))

pub returns-clause-sent : goal.returns-clause-sent
returns-clause-sent g c start ms e earlier h =
    let past = rw (← c.self.view_is) at h in
    let s : c.from.result ≡ c.take_newest-event.result.sent = c.from.ensures in
    c.take_back.ensures.outbox ∙ ap (λ z. c.args.outbox.now.letters ++ map minus_of (reverse z))
    (ap (λ x. drop x c.self.inside.sends.items) (omega arith) ∙ last-sends (came-last ms e c.take_newest-event.new.done.items c.take_newest-event.result c.take_newest-event.ensures past))

pub returns-clause-room : goal.returns-clause-room
returns-clause-room g c front event d =
    let n : c.from.result ≡ c.take_newest-event.result.sent = c.from.ensures in
    let both = snoc-equal c.take_newest-event.new.done.items front c.take_newest-event.result event (sym c.take_newest-event.ensures ∙ (ap (λ p. p.done) c.self.view_is ∙ d)) in
    let same : c.take_newest-event.result.sent ≡ event.sent = ap (λ x. x.sent) both.1 in
    (both.0, omega (arith, same, c.take_back.ensures.room))
