use Rattle.std.proofs.Common.{reverse, refl, sym, ap, ◌∙◌, subst, arith}
use Rattle.virtual_time.specs.Law.{rolled_back}
use Rattle.reverse.specs.Rules.{rules_of}
use Rattle.process_queues.specs.Past.{BelongsTo, sent_since}
use Rattle.process_queues.proofs.Rolls.{rolls-none, rolls-more, rolls-end, is-late, late-last}
use Rattle.process_queues.proofs.Since.{since-last}
use Rattle.process_queues.proofs.Taking.{split-last}
use Rattle.process_queues.proofs.past.Past.roll_back.Goals as goal

pub loop-self-init : goal.loop-self-init
loop-self-init g c = record {
  rolls = λ opening there part b. rolls-none (record { past_of = b.past_of; state = b.state; ascending = b.ascending }) refl;
  some = c.requires.some;
  room = c.requires.room;
  fewer = omega arith;
}

pub undo_newest-requires-clause-some : goal.undo_newest-requires-clause-some
undo_newest-requires-clause-some g c =
    let i = c.loop-self.invariant.some in
    let h = c.loop-self.invariant.rolls i.0 i.1 i.2 i.3 in
    late-last (is-late c.actor_rules_law.ensures.order h.belongs (sym c.is_before.ensures ∙ c.loop-self-test.true))

pub loop-self-preserved : goal.loop-self-preserved
loop-self-preserved g c = record {
  rolls = λ opening there part b.
      let h = c.loop-self.invariant.rolls opening there part b in
      let l = is-late c.actor_rules_law.ensures.order h.belongs (sym c.is_before.ensures ∙ c.loop-self-test.true) in
      rolls-more c.actor_rules_law.ensures.order c.actor_rules_law.ensures.undoes h l
      (c.undo_newest.ensures.undone _ l.front l.event _ l.past_of) (c.undo_newest.ensures.sent _ l.front l.event _ l.past_of);
  some = c.loop-self.invariant.some;
  room =
      let fewer = c.undo_newest.ensures.fewer in
      let last = split-last c.loop-self.self.done (omega arith) in
      let k = c.undo_newest.ensures.room last.0 last.1 last.2 in
      let s = since-last c.args.message.now c.loop-self.self.done last.0 last.1 last.2 (sym c.is_before.ensures ∙ c.loop-self-test.true) in
      let n = ap (λ ds. sent_since c.args.message.now (reverse ds)) k.0 in
      let i = c.loop-self.invariant.room in
      omega (arith, k.1);
  fewer = let f = c.undo_newest.ensures.fewer in let i = c.loop-self.invariant.fewer in omega arith;
}

pub returns-clause-rolled : goal.returns-clause-rolled
returns-clause-rolled g c opening there part b =
    let h = c.loop-self.invariant.rolls opening there part b in
    let e = rolls-end c.actor_rules_law.ensures.order h (sym c.is_before.ensures ∙ c.loop-self-test.false) in
    let k = subst (λ p. BelongsTo (rules_of g.R.Reversible.plain) g.R.Reversible.is_value opening there p c.loop-self.self) e h.belongs in
    record { past_of = k.past_of; state = k.state; ascending = k.ascending }

pub returns-clause-posted : goal.returns-clause-posted
returns-clause-posted g c opening there part b o =
    let h = c.loop-self.invariant.rolls opening there part b in
    let e = rolls-end c.actor_rules_law.ensures.order h (sym c.is_before.ensures ∙ c.loop-self-test.false) in
    h.outbox ∙ (ap (λ p. p.outbox) e ∙
    ap (λ ls. (rolled_back (rules_of g.R.Reversible.plain) opening c.args.message.now (record part { outbox = ls })).outbox) o)

pub undo_newest-requires-clause-room : goal.undo_newest-requires-clause-room
undo_newest-requires-clause-room g c front event d =
    let s = since-last c.args.message.now c.loop-self.self.done front event d (sym c.is_before.ensures ∙ c.loop-self-test.true) in
    let i = c.loop-self.invariant.room in
    omega arith
