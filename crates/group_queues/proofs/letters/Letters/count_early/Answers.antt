use Rattle.std.proofs.Common.{◌≡◌, ◌+◌, ◌≤◌, ◌∙◌, Some, IfSome, length, get_or, slice_get, take, subst, sym, ap, refl, arith}
use Rattle.std.proofs.lemmas.List.{length-map}
use Rattle.group_queues.specs.DoneEvents.{messages_of, sent_in, noted_in}
use Rattle.group_queues.specs.Sealing.{CanCommit, Stays}
use Rattle.group_queues.proofs.Forgetting.{as-seen, seen-at, sent-with, noted-with, one-more, none-past}
use Rattle.group_queues.proofs.Early.{limit-within}
use Rattle.group_queues.proofs.letters.Letters.count_early.Given.{Over}
use Rattle.group_queues.proofs.letters.Letters.count_early.Goals.{After-as_slice-events, After-index-events-count}
use Rattle.group_queues.proofs.letters.Letters.count_early.Goals as goal

-- how many events there are
many : (g : Over) (c : After-as_slice-events g) → length c.as_slice-events.result.now ≡ length c.args.done.now.events
many g c =
    as-seen c.done.inside.events.items c.done.inside.sends.items c.done.inside.rows.items c.args.done.now.events c.as_slice-events.result.now (ap (λ z. z.events) c.done.view_is) c.as_slice-events.ensures

pub can_commit-requires-clause-limit : goal.can_commit-requires-clause-limit
can_commit-requires-clause-limit g c = limit-within c.time_or-limit.result c.args.moment c.args.first.now c.time_or-limit.ensures.some c.time_or-limit.ensures.none

pub returns-then-not-can_commit-clause-within : goal.returns-then-not-can_commit-clause-within
returns-then-not-can_commit-clause-within g c =
    let all = many g (goal.at.returns-then-not-can_commit-clause-within g c).After-as_slice-events in
    let l = c.loop-count-test.true in
    omega (arith, all, l)

pub returns-then-not-can_commit-clause-early : goal.returns-then-not-can_commit-clause-early
returns-then-not-can_commit-clause-early g c = c.loop-count.invariant.early

-- the message of the event that was looked at
at : (g : Over) (c : After-index-events-count g) →
    slice_get (messages_of c.args.done.now.events) c.loop-count.count ≡ Some c.index-events-count.result.message
at g c =
    seen-at c.done.inside.events.items c.done.inside.sends.items c.done.inside.rows.items c.args.done.now.events c.as_slice-events.result.now c.loop-count.count c.index-events-count.result
    (ap (λ z. z.events) c.done.view_is) c.as_slice-events.ensures (let l = c.loop-count-test.true in omega (arith, l))
    ∙ ap (λ z. Some z.message) (sym c.index-events-count.is)

pub returns-then-not-can_commit-clause-left : goal.returns-then-not-can_commit-clause-left
returns-then-not-can_commit-clause-left g c =
    subst (λ o. IfSome o (Stays c.args.moment c.args.self.now)) (sym (at g (goal.at.returns-then-not-can_commit-clause-left g c).After-index-events-count)) (c.if-not-can_commit.ensures.no refl)

-- what it sent, and its rows, are counted besides
sent : (g : Over) (c : After-index-events-count g) →
    (sent_in (take (c.loop-count.count + 1) c.args.done.now.events)
    ≡ sent_in (take c.loop-count.count c.args.done.now.events) + (get_or c.as_slice-events.result.now c.loop-count.count c.index-events-count.result).sent)
    × (sent_in (take (c.loop-count.count + 1) c.args.done.now.events) ≤ length c.done.inside.sends.items)
sent g c =
    sent-with c.loop-count.count c.done.inside.events.items c.done.inside.sends.items c.done.inside.rows.items c.args.done.now.events c.as_slice-events.result.now c.index-events-count.result
    (ap (λ z. z.events) c.done.view_is) c.as_slice-events.ensures c.done.invariant.0 (let l = c.loop-count-test.true in omega (arith, l))

noted : (g : Over) (c : After-index-events-count g) →
    (noted_in (take (c.loop-count.count + 1) c.args.done.now.events)
    ≡ noted_in (take c.loop-count.count c.args.done.now.events) + (get_or c.as_slice-events.result.now c.loop-count.count c.index-events-count.result).noted)
    × (noted_in (take (c.loop-count.count + 1) c.args.done.now.events) ≤ length c.done.inside.rows.items)
noted g c =
    noted-with c.loop-count.count c.done.inside.events.items c.done.inside.sends.items c.done.inside.rows.items c.args.done.now.events c.as_slice-events.result.now c.index-events-count.result
    (ap (λ z. z.events) c.done.view_is) c.as_slice-events.ensures c.done.invariant.1 (let l = c.loop-count-test.true in omega (arith, l))

pub overflow_add-sent : goal.overflow_add-sent
overflow_add-sent g c =
    let s = sent g (goal.at.overflow_add-sent g c).After-index-events-count in
    let here = ap (λ z. z.sent) c.index-events-count.is in
    omega (arith, c.loop-count.invariant.sent, here, s.0, s.1, c.len.ensures, c.len.type_inv)

pub overflow_add-noted : goal.overflow_add-noted
overflow_add-noted g c =
    let n = noted g (goal.at.overflow_add-noted g c).After-index-events-count in
    let here = ap (λ z. z.noted) c.index-events-count.is in
    omega (arith, c.loop-count.invariant.noted, here, n.0, n.1, c.len-2.ensures, c.len-2.type_inv)

pub loop-count-preserved : goal.loop-count-preserved
loop-count-preserved g c =
    let looked = (goal.at.loop-count-preserved g c).After-index-events-count in
    let s = sent g looked in
    let n = noted g looked in
    let sends = ap (λ z. z.sent) c.index-events-count.is in
    let rows = ap (λ z. z.noted) c.index-events-count.is in
    record {
      early =
          one-more (CanCommit c.args.moment c.args.self.now) c.loop-count.count (messages_of c.args.done.now.events)
          c.index-events-count.result.message (at g looked) (c.if-not-can_commit.ensures.yes refl) c.loop-count.invariant.early;
      sent = omega (arith, c.loop-count.invariant.sent, sends, s.0);
      noted = omega (arith, c.loop-count.invariant.noted, rows, n.0);
    }

pub returns-clause-within : goal.returns-clause-within
returns-clause-within g c =
    let all = as-seen c.done.inside.events.items c.done.inside.sends.items c.done.inside.rows.items c.args.done.now.events c.as_slice-events.result.now (ap (λ z. z.events) c.done.view_is)
    c.as_slice-events.ensures in
    omega (arith, all)

pub returns-clause-left : goal.returns-clause-left
returns-clause-left g c =
    let all = as-seen c.done.inside.events.items c.done.inside.sends.items c.done.inside.rows.items c.args.done.now.events c.as_slice-events.result.now (ap (λ z. z.events) c.done.view_is)
    c.as_slice-events.ensures in
    let messages = length-map c.args.done.now.events (λ d. d.message) in
    none-past (Stays c.args.moment c.args.self.now) (length c.as_slice-events.result.now) (messages_of c.args.done.now.events) (omega (arith, all, messages))
