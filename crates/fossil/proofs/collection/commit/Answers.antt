use Rattle.std.proofs.Common.{◌≡◌, ◌<◌, sym, ap, ◌∙◌, subst, arith}
use Rattle.virtual_time.specs.Law.{commit_oldest}
use Rattle.reverse.specs.Rules.{rules_of}
use Rattle.process_queues.specs.Queues.{StandsFor, Does}
use Rattle.fossil.specs.Committed.{committed_times, committed_below}
use Rattle.fossil.proofs.Counts.{on_ok-room, on_err-is, committed-last, once-part, committable-below}
use Rattle.fossil.proofs.collection.commit.Goals as goal

pub loop-committed-preserved : goal.loop-committed-preserved
loop-committed-preserved g c =
    let r = rules_of g.R.Reversible.plain in
    let v = g.R.Reversible.is_value in
    let i = c.loop-committed.invariant in
    let some : 0 < c.loop-committed.process.committed_room = omega arith in
    let seals = on_ok-room (Does r v (λ opening. commit_oldest r) c.loop-committed.process.queues c.seal_oldest-done.new.self.queues) c.seal_oldest-done.result
    c.loop-committed.process.committed_room c.seal_oldest-done.ensures.sealed c.seal_oldest-done.ensures.reserved some in
    record {
      committed = λ opening part h. subst (λ z. StandsFor r v opening z c.seal_oldest-done.new.self.queues) (sym (committed-last r c.loop-committed.committed part))
          (seals opening (committed_times r c.loop-committed.committed part) (i.committed opening part h));
      room = let room = c.seal_oldest-done.ensures.room in omega arith;
      none = λ e. absurd (omega arith);
      tray = c.seal_oldest-done.ensures.tray ∙ i.tray;
      left = c.seal_oldest-done.ensures.left ∙ i.left;
      outbox = c.seal_oldest-done.ensures.outbox ∙ i.outbox;
    }

pub returns-clause-answer : goal.returns-clause-answer
returns-clause-answer g c opening part h =
    c.committable-count.ensures.stands opening part h ∙
    committable-below (rules_of g.R.Reversible.plain) c.actor_rules_law.ensures.order c.args.gvt c.args.n part h.past.ascending

pub returns-clause-one_part : goal.returns-clause-one_part
returns-clause-one_part g c one opening part h =
    let r = rules_of g.R.Reversible.plain in
    let v = g.R.Reversible.is_value in
    let all : c.loop-committed.committed ≡ c.committable-count.result = omega arith in
    let count : c.loop-committed.committed ≡ committed_below r c.args.gvt 1 part =
    all ∙ (returns-clause-answer g c opening part h ∙ ap (λ n. committed_below r c.args.gvt n part) one) in
    subst (λ z. StandsFor r v opening z c.loop-committed.process.queues) (ap (λ n. committed_times r n part) count ∙ once-part r c.args.gvt part)
    (c.loop-committed.invariant.committed opening part h)

pub returns-then-is_err-clause-reserved : goal.returns-then-is_err-clause-reserved
returns-then-is_err-clause-reserved g c opening part h =
    subst (λ z. c.args.process.now.committed_room < z) (c.committable-count.ensures.stands opening part h ∙
    committable-below (rules_of g.R.Reversible.plain) c.actor_rules_law.ensures.order c.args.gvt c.args.n part h.past.ascending)
    (on_err-is (c.args.process.now.committed_room < c.committable-count.result) c.reserve_rows.result c.reserve_rows.ensures.reserved (sym c.if-is_err.ensures.value))
