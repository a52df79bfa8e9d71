use Rattle.group_queues.proofs.Offers.{first-out}
use Rattle.group_queues.proofs.queue.Queue.take_first.Goals as goal

pub returns-clause-taken : goal.returns-clause-taken
returns-clause-taken c =
    first-out c.order_law.ensures c.args.self.now.messages c.pop-first.new.self.messages c.args.message.now c.pop-first.result c.requires.among c.requires.first
    c.pop-first.ensures.one c.pop-first.ensures.first c.pop-first.ensures.none
