use Rattle.std.proofs.Common.{refl}
use Rattle.halves.proofs.InLists.{names-set, values-set}
use Rattle.process_exchange.proofs.mark.tell_both.Goals as goal

pub returns-clause-marks : goal.returns-clause-marks
returns-clause-marks c = values-set c.args.marks.now.items c.from.result c.args.process c.from.ensures c.tell.new.left c.args.mark.now c.tell.ensures.left

pub returns-clause-names : goal.returns-clause-names
returns-clause-names c =
    names-set c.args.marks.now.items c.from.result c.from.result refl c.index_mut-own.result.now c.tell.new.left c.index_mut-own.ensures.value c.tell.ensures.name
