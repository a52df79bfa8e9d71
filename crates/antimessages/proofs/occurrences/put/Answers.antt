use Rattle.antimessages.proofs.Entering.{put-both}
use Rattle.antimessages.proofs.occurrences.put.Goals as goal

pub returns-clause-tallied : goal.returns-clause-tallied
returns-clause-tallied c =
    let w = c.occurrence_order_law.ensures in
    (put-both w.total w.exact w.messages c.args.message.now c.args.ordinal c.args.sign c.args.signs.now.entries c.insert.new.self.entries
    w.written c.requires.tallied c.requires.last c.in_ok-insert.ensures.entries c.in_ok-insert.ensures.updates.0).0

pub returns-clause-counts : goal.returns-clause-counts
returns-clause-counts c =
    let w = c.occurrence_order_law.ensures in
    (put-both w.total w.exact w.messages c.args.message.now c.args.ordinal c.args.sign c.args.signs.now.entries c.insert.new.self.entries
    w.written c.requires.tallied c.requires.last c.in_ok-insert.ensures.entries c.in_ok-insert.ensures.updates.0).1
