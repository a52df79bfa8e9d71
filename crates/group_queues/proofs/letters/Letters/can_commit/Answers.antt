use Rattle.std.proofs.Common.{◌≡◌, pos, subst, refl}
use Rattle.vlink.specs.Order.{message_order}
use Rattle.antimessages.specs.Counting.{signed_count}
use Rattle.group_queues.proofs.Early.{late-stays, none-in}
use Rattle.group_queues.proofs.letters.Letters.can_commit.Goals as goal

pub returns-clause-yes : goal.returns-clause-yes
returns-clause-yes c = λ e.
    let m = c.args.message.now in
    let law = c.order_law.ensures in
    let zero : signed_count message_order m c.args.self.now.extra ≡ pos 0 = subst (λ z. signed_count message_order m z.extra ≡ pos 0) c.self.view_is (c.is_zero.ensures.0 e) in
    record {
      early = c.if-not-is_early.ensures.early refl;
      zero = zero;
      none = none-in (record { irreflexive = law.irreflexive; transitive = law.transitive; total = law.total; by_time = law.by_time }) m c.args.first.now c.args.self.now.queue
          c.requires.first (c.if-not-is_early.ensures.before refl);
    }

pub returns-then-not-is_early-clause-no : goal.returns-then-not-is_early-clause-no
returns-then-not-is_early-clause-no c = λ _.
    late-stays c.args.moment c.args.self.now c.args.message.now c.args.first.now c.requires.first (c.if-not-is_early.ensures.no refl)
