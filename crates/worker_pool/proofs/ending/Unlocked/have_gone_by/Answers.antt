use Rattle.std.proofs.Common.{arith}
use Rattle.worker_pool.proofs.Ended.{HasGoneBy}
use Rattle.worker_pool.proofs.Places.{below-more, below-all, read-at}
use Rattle.worker_pool.proofs.ending.Unlocked.have_gone_by.Goals as goal

pub loop-place-preserved : goal.loop-place-preserved
loop-place-preserved g c =
    let items = c.args.self.now.groups.items in
    let group = c.index-group.result.now in
    let at = read-at items c.loop-place.place group (omega arith) c.index-group.ensures in
    below-more (HasGoneBy c.args.own.now c.args.end) items c.loop-place.place group at (omega arith) c.loop-place.invariant

pub returns-clause-by : goal.returns-clause-by
returns-clause-by g c = λ yes.
    let items = c.args.self.now.groups.items in
    below-all (HasGoneBy c.args.own.now c.args.end) items c.loop-place.place (omega arith) c.loop-place.invariant
