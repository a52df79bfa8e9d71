use denote.Param.Send.{IsSync, param_send, param_sync, sendable}
use Rattle.std.proofs.Crossing.{crosses}
use Rattle.nodes.proofs.node.Node.TheSendSync as node
use Rattle.nodes.proofs.node.NodeRecord.TheSendSync as node_record
use Rattle.worker_pool.proofs.Crossing.{group-send, tasks-sync}
use Rattle.worker_pool.proofs.Spawning.{spawned}
use Rattle.worker_pool.proofs.workers.groups_worked.Goals as goal
use Rattle.worker_pool.proofs.workers.groups_worked.Lts.{arg-0-0, arg-0-3}

pub returns-clause-spawn : goal.returns-clause-spawn
returns-clause-spawn g c = spawned _ c.unlocked_of.result c.work_all-worked.result.0 c.unlocked_of.ensures.spawn c.work_all-worked.ensures.some

pub returns-clause-told : goal.returns-clause-told
returns-clause-told g c = record { worked = c.work_all-worked.result.0; least = c.work_all-worked.ensures.told; handed_on = c.unlocked_of.ensures.told }

-- a group may be sent, and what workers do with groups is shared: the gate and the runtime by their bounds, all else by its type
pub work_all-worked-requires-send-G : goal.work_all-worked-requires-send-G
work_all-worked-requires-send-G g c κs within =
    param_send 0 (arg-0-0 g.row.J g.row.G g.row.T g.row.W g.J.laws g.G.laws g.T.laws g.W.laws g.J.NetworkRun g.J.NetworkRun-dict g.G.Gate g.G.Gate-dict g.T.Threads g.T.Threads-dict g.T.Wait g.T.Wait-dict g.W.Watch g.W.Watch-dict κs)
    (search (group-send, node.the_send, node_record.the_send, sendable, crosses) depth 20)

pub work_all-worked-requires-sync-K : goal.work_all-worked-requires-sync-K
work_all-worked-requires-sync-K g c κs within =
    let gate : IsSync g.row.G = record { shared = c.type_bounds.sync-G.shared } in
    let runtime : IsSync g.row.T = record { shared = c.type_bounds.sync-T.shared } in
    param_sync 3 (arg-0-3 g.row.J g.row.G g.row.T g.row.W g.J.laws g.G.laws g.T.laws g.W.laws g.J.NetworkRun g.J.NetworkRun-dict g.G.Gate g.G.Gate-dict g.T.Threads g.T.Threads-dict g.T.Wait g.T.Wait-dict g.W.Watch g.W.Watch-dict κs)
    (search (tasks-sync, sendable, crosses) depth 20)
