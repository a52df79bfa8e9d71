use Rattle.std.proofs.Common.{subst, arith}
use Rattle.network.specs.Words.{process_count}
use Rattle.group_exchange.specs.Keeps.{AreGrouped}
use Rattle.group_exchange.specs.Views.{Ledger}
use Rattle.worker_pool.specs.Runs.{IsOfWorld}
use Rattle.worker_pool.proofs.Ended.{of-world}
use Rattle.worker_pool.proofs.Places.{below-more, below-all, read-at}
use Rattle.worker_pool.proofs.ending.Unlocked.are_of_world.Goals as goal

pub loop-place-preserved : goal.loop-place-preserved
loop-place-preserved g c =
    let plan = g.J.NetworkRun.plan in
    let owners = g.J.NetworkRun.owners in
    let steps = c.args.self.now.exchange.steps in
    let items = c.args.self.now.groups.items in
    let group = c.index-group.result.now in
    let at = read-at items c.loop-place.place group (omega arith) c.index-group.ensures in
    let over = c.requires.over c.loop-place.place group at in
    below-more (IsOfWorld plan owners steps) items c.loop-place.place group at
    (subst (λ (ledger : Ledger). IsOfWorld plan owners ledger.steps c.loop-place.place group) c.as_exchange-in-loop-place.ensures
    (of-world plan owners c.as_exchange-in-loop-place.result.now c.loop-place.place group (c.requires.in_place c.loop-place.place group at) over.seen over.words c.fits-fits.ensures.parts))
    c.loop-place.invariant

pub returns-clause-each : goal.returns-clause-each
returns-clause-each g c =
    let items = c.args.self.now.groups.items in
    below-all (IsOfWorld g.J.NetworkRun.plan g.J.NetworkRun.owners c.args.self.now.exchange.steps) items c.loop-place.place
    (omega arith) c.loop-place.invariant

pub returns-clause-grouped : goal.returns-clause-grouped
returns-clause-grouped g c = subst (λ n. AreGrouped (process_count g.J.NetworkRun.plan) n g.J.NetworkRun.owners) c.groups-groups.ensures.count c.groups-groups.ensures.grouped
