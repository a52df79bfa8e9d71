use Rattle.std.proofs.Common.{sym, subst, arith}
use Rattle.virtual_time.specs.Law.{Laws}
use Rattle.nodes.specs.Words.{simulation_of}
use Rattle.worker_pool.proofs.Ended.{AreCommittedOf, rows-of-none, rows-next, rows-complete}
use Rattle.worker_pool.proofs.Places.{read-at}
use Rattle.worker_pool.proofs.ending.Unlocked.gathered_rows.Goals as goal

pub loop-place-init : goal.loop-place-init
loop-place-init g c =
    let plan = g.J.NetworkRun.plan in
    let owners = g.J.NetworkRun.owners in
    let steps = c.args.self.now.exchange.steps in
    subst (AreCommittedOf plan owners steps 0) (sym c.new-rows.ensures.items) (rows-of-none plan owners steps)

pub loop-place-preserved : goal.loop-place-preserved
loop-place-preserved g c =
    let plan = g.J.NetworkRun.plan in
    let owners = g.J.NetworkRun.owners in
    let items = c.args.self.now.groups.items in
    let group = c.index-group.result.now in
    let n = c.loop-place.place in
    let at = read-at items n group (omega arith) c.index-group.ensures in
    rows-next plan owners c.args.self.now.exchange.steps items c.requires.ended n group at
    c.loop-place.rows.items c.sealed.result.now _ c.in_ok-extend_from_slice.ensures.items
    (c.sealed.ensures.each (let low = c.requires.kept n group at in omega arith)) c.sealed.ensures.others c.loop-place.invariant

pub returns : goal.returns
returns g c =
    let plan = g.J.NetworkRun.plan in
    let L = subst (λ z. Laws (simulation_of z)) c.args.self.now.planned c.network_law.ensures in
    rows-complete plan g.J.NetworkRun.owners c.args.self.now.exchange.steps c.args.self.now.groups.items c.requires.ended L c.loop-place.place
    (omega arith) c.loop-place.rows.items c.loop-place.invariant
