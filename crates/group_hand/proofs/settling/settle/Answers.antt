use Rattle.std.proofs.Common.{[], ◌∙◌, arith}
use Rattle.group_hand.proofs.settling.settle.Goals as goal

-- nothing is done
pub returns-in-Beside-clause-settled : goal.returns-in-Beside-clause-settled
returns-in-Beside-clause-settled g c =
    rw c.in-Beside.is (λ j. record { members = c.args.members.now; done = c.args.done.now.events; aside = []; queue = c.args.letters.now.queue; back = c.requires.none_back j })

pub returns-in-Beside-clause-came : goal.returns-in-Beside-clause-came
returns-in-Beside-clause-came g c = c.requires.came

pub returns-in-Leaves-clause-settled : goal.returns-in-Leaves-clause-settled
returns-in-Leaves-clause-settled g c =
    rw c.in-Leaves.is (λ j. record { members = c.args.members.now; done = c.args.done.now.events; aside = []; queue = c.args.letters.now.queue; back = c.requires.none_back j })

pub returns-in-Leaves-clause-came : goal.returns-in-Leaves-clause-came
returns-in-Leaves-clause-came g c = c.requires.came

-- the receiver rolled back, and then the message joins the queue or leaves it
pub returns-in-Joins-clause-settled : goal.returns-in-Joins-clause-settled
returns-in-Joins-clause-settled g c = rw c.in-Joins.is (c.roll_back.new.letters.queue, c.roll_back.ensures.rolled, c.wait_again.ensures.waits)

pub returns-in-Joins-clause-came : goal.returns-in-Joins-clause-came
returns-in-Joins-clause-came g c = c.roll_back.ensures.came

pub returns-in-Joins-clause-others : goal.returns-in-Joins-clause-others
returns-in-Joins-clause-others g c =
    c.wait_again.ensures.others ∙ (λ j. record (c.roll_back.ensures.others j) { queue = c.wait_again.new.self.queue; room = c.wait_again.new.self.room })

pub returns-in-Joins-clause-room : goal.returns-in-Joins-clause-room
returns-in-Joins-clause-room g c = omega (arith, c.roll_back.ensures.room, c.wait_again.ensures.room)

pub returns-in-Undoes-clause-settled : goal.returns-in-Undoes-clause-settled
returns-in-Undoes-clause-settled g c = rw c.in-Undoes.is (c.roll_back-in-Undoes.new.letters.queue, c.roll_back-in-Undoes.ensures.rolled, c.take_out.ensures.taken)

pub returns-in-Undoes-clause-came : goal.returns-in-Undoes-clause-came
returns-in-Undoes-clause-came g c = c.roll_back-in-Undoes.ensures.came

pub returns-in-Undoes-clause-others : goal.returns-in-Undoes-clause-others
returns-in-Undoes-clause-others g c =
    c.take_out.ensures.others ∙ (λ j. record (c.roll_back-in-Undoes.ensures.others j) { queue = c.take_out.new.self.queue; room = c.take_out.new.self.room })

pub returns-in-Undoes-clause-room : goal.returns-in-Undoes-clause-room
returns-in-Undoes-clause-room g c = omega (arith, c.roll_back-in-Undoes.ensures.room, c.take_out.ensures.room)

-- what the rollback asks for
pub roll_back-requires-clause-came : goal.roll_back-requires-clause-came
roll_back-requires-clause-came g c = c.requires.came

pub roll_back-requires-in-Undoes-clause-came : goal.roll_back-requires-in-Undoes-clause-came
roll_back-requires-in-Undoes-clause-came g c = c.requires.came
