use Rattle.std.proofs.Common.{◌≡◌, ◌+◌, ◌-◌, cond, take, reverse, sym, ap, arith, length}
use Rattle.process_queues.specs.Past.{sent_since}
use Rattle.process_queues.proofs.Since.{since-all, since-next}
use Rattle.process_queues.proofs.past.Past.sent_since.Goals as goal

pub overflow_add-sent : goal.overflow_add-sent
overflow_add-sent g c =
    let m = c.args.message.now in
    let e = c.index-event.result.now in
    let test = c.loop-undone-test.true in
    let events = c.len-events.ensures in
    let done = ap (λ p. length p.done) c.self.view_is in
    let sends = ap (λ p. length p.sends) c.self.view_is in
    let k = c.len-events.result - 1 - c.loop-undone.undone in
    let all = since-all c.requires.3.past_of m in
    let next = since-next m c.self.inside.done.items (c.len-events.result - c.loop-undone.undone) k e (omega arith) (omega arith) c.index-event.ensures in
    let late = ap (λ b. cond b 0 (e.sent + sent_since m (reverse (take k c.self.inside.done.items)))) (sym c.if-is_before.ensures) in
    let same = ap (λ p. sent_since m (reverse (take (c.len-events.result - c.loop-undone.undone) p.done))) c.self.view_is in
    let i = c.loop-undone.invariant in
    let n : c.from-sent.result ≡ e.sent = c.from-sent.ensures in
    omega (arith, all, next, late, same, i, n, sends)
