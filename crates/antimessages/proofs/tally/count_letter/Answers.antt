use Rattle.std.proofs.Common.{refl}
use Rattle.vlink.specs.Order.{message_order}
use Rattle.vlink.specs.Letters.{Letter}
use Rattle.antimessages.specs.Occurrences.{letters_of}
use Rattle.antimessages.proofs.Counts.{one-more, one-less, where-ok}
use Rattle.antimessages.proofs.tally.count_letter.Goals as goal

pub returns-in_default-clause-counted : goal.returns-in_default-clause-counted
returns-in_default-clause-counted c =
    let l : Letter = record { message = c.args.message.now; sign = c.args.sign } in
    where-ok c.put.result (one-more message_order c.occurrence_order_law.ensures.messages l (letters_of c.put.new.signs.entries) refl) c.put.ensures.counts

pub returns-then-is_equal-clause-counted : goal.returns-then-is_equal-clause-counted
returns-then-is_equal-clause-counted c =
    let l : Letter = record { message = c.args.message.now; sign = c.args.sign } in
    where-ok c.put-then-is_equal.result (one-more message_order c.occurrence_order_law.ensures.messages l (letters_of c.put-then-is_equal.new.signs.entries) refl)
    c.put-then-is_equal.ensures.counts

pub returns-clause-counted : goal.returns-clause-counted
returns-clause-counted c =
    let l : Letter = record { message = c.args.message.now; sign = c.args.sign } in
    let old = letters_of c.args.signs.now.entries in
    one-less message_order c.occurrence_order_law.ensures.messages l c.in-Some.tallied (letters_of c.take.new.signs.entries) {inside = old} {old = old} refl
    (c.if-is_equal.ensures.opposite refl) c.take.ensures.counts
