use Rattle.antimessages.proofs.Entering.{take-both}
use Rattle.antimessages.proofs.occurrences.take.Goals as goal

pub returns-clause-tallied : goal.returns-clause-tallied
returns-clause-tallied c =
    let w = c.occurrence_order_law.ensures in
    (take-both w.total w.exact w.messages c.args.message.now c.args.ordinal c.args.sign c.remove-sign.new.self.entries c.args.signs.now.entries
    w.written c.requires.tallied c.requires.last c.remove-sign.ensures.entries c.remove-sign.ensures.updates.0).0

pub returns-clause-counts : goal.returns-clause-counts
returns-clause-counts c =
    let w = c.occurrence_order_law.ensures in
    (take-both w.total w.exact w.messages c.args.message.now c.args.ordinal c.args.sign c.remove-sign.new.self.entries c.args.signs.now.entries
    w.written c.requires.tallied c.requires.last c.remove-sign.ensures.entries c.remove-sign.ensures.updates.0).1
