use Rattle.vlink.specs.Order.{message_order}
use Rattle.antimessages.specs.Occurrences.{letters_of}
use Rattle.antimessages.proofs.Counts.{one-more}
use Rattle.antimessages.proofs.tally.Tally.add.Goals as goal

pub returns-then-branch-clause-count : goal.returns-then-branch-clause-count
returns-then-branch-clause-count c =
    (one-more message_order c.occurrence_order_law.ensures.messages c.args.letter (letters_of c.put_first.new.signs.entries) c.self.view_is
    (c.in_ok-put_first.ensures.counts c.if-branch.true)).0

pub returns-then-branch-clause-others : goal.returns-then-branch-clause-others
returns-then-branch-clause-others c =
    (one-more message_order c.occurrence_order_law.ensures.messages c.args.letter (letters_of c.put_first.new.signs.entries) c.self.view_is
    (c.in_ok-put_first.ensures.counts c.if-branch.true)).1
