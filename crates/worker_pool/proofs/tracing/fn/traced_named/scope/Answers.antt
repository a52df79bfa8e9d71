use contract.Lifetimes.{Lfts}
use denote.Param.Send.{IsSend, IsSync, param_send, sendable}
use Rattle.std.proofs.Common.{rules}
use Rattle.std.proofs.Crossing.{crosses}
use Rattle.crossbeam_channel.proofs.channel.Receiver.TheSendSync as receiver
use Rattle.network.proofs.network.Network.TheSendSync as network
use Rattle.worker_pool.proofs.Crossing.{counted-send}
use Rattle.worker_pool.proofs.Told.{before-start}
use Rattle.worker_pool.specs.contracts.tracing.fn.traced_named.scope.{S-row, T-row}
use Rattle.run_rows.proofs.run_batch.RunBatch.TheSendSync as batch
use Rattle.run_rows.proofs.writing.Writing.TheSendSync as writing
use Rattle.worker_pool.proofs.tracing.fn.traced_named.scope.Given.{Over}
use Rattle.worker_pool.proofs.tracing.fn.traced_named.scope.Goals as goal
use Rattle.worker_pool.proofs.tracing.fn.traced_named.scope.Lts.{arg-0-1, arg-0-2}

-- what the writer's thread takes with it may be sent: the trace, the tables and the batches by their types, the sink and the runtime by their bounds
captures-send : (g : Over) (κs : Lfts 8) → IsSend (S-row g.row.J g.row.K g.row.S g.row.G g.row.T g.row.W) → IsSync (T-row g.row.J g.row.K g.row.S g.row.G g.row.T g.row.W)
    → IsSend (arg-0-1 g.row.J g.row.K g.row.S g.row.G g.row.T g.row.W g.J.laws g.K.laws g.S.laws g.G.laws g.T.laws g.W.laws g.J.NetworkRun g.J.NetworkRun-dict g.K.TraceRun g.K.TraceRun-dict g.S.Sink g.S.Sink-dict g.G.Gate g.G.Gate-dict g.T.Threads g.T.Threads-dict g.T.Wait g.T.Wait-dict g.W.Watch g.W.Watch-dict g.S.Destruct-dict g.W.Destruct-dict κs)
captures-send g κs sink runtime = search (counted-send, writing.the_send, batch.the_send, receiver.the_send, network.the_sync, sendable, crosses) depth 20

-- and so may what it gives back
given-send : (g : Over) (κs : Lfts 8) → IsSend (S-row g.row.J g.row.K g.row.S g.row.G g.row.T g.row.W)
    → IsSend (arg-0-2 g.row.J g.row.K g.row.S g.row.G g.row.T g.row.W g.J.laws g.K.laws g.S.laws g.G.laws g.T.laws g.W.laws g.J.NetworkRun g.J.NetworkRun-dict g.K.TraceRun g.K.TraceRun-dict g.S.Sink g.S.Sink-dict g.G.Gate g.G.Gate-dict g.T.Threads g.T.Threads-dict g.T.Wait g.T.Wait-dict g.W.Watch g.W.Watch-dict g.S.Destruct-dict g.W.Destruct-dict κs)
given-send g κs sink = search (counted-send, writing.the_send, sendable, crosses) depth 20

pub spawn-requires-send-F : goal.spawn-requires-send-F
spawn-requires-send-F g c κs within =
    param_send 1 _ (captures-send g κs (search (rules, c.requires-raw) parts 20) (search (rules, c.requires-raw) parts 20))

pub spawn-requires-send-T : goal.spawn-requires-send-T
spawn-requires-send-T g c κs within = param_send 2 _ (given-send g κs (search (rules, c.requires-raw) parts 20))

-- where no thread could be started, the watch was shown nothing
pub returns : goal.returns
returns g c = record { found = tt; pace = tt; told = before-start _; written = tt; exhausted = λ e. absurd (cc); full = λ e. absurd (cc); watched = g.met.W.Watch.stays c.captures.watch }
