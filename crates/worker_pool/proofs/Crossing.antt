-- What a worker shares may cross threads. The types are too many for one `search`, so each has a lemma, from those of its fields.
-- A type that holds a snapshot, or that reaches itself, has no `TheSendSync` of its own, and no type that holds it: such are those below.
use denote.RattleType.{RattleType}
use denote.Ref.{NamedLft}
use denote.Param.Send.{IsSend, IsSync, view_send, sendable}
use denote.Param.SendFields.{declared_send, declared_sync, variants_sync}
use Rattle.std.proofs.Crossing.{crosses}
use Rattle.std.proofs.option.Option.TheSendSync as option
use Rattle.virtual_time.proofs.letter.Letter.TheSendSync as letter
use Rattle.virtual_time.proofs.row.Row.TheSendSync as row
use Rattle.vlink.specs.declared.message.Message.{Message}
use Rattle.vlink.proofs.message.Message.TheSendSync as message
use Rattle.vlink.proofs.note.Note.TheSendSync as note
use Rattle.vlink.proofs.time.Time.TheSendSync as time
use Rattle.reverse.specs.declared.actor.Actor.{Ghosts as ActorGhosts}
use Rattle.reverse.specs.declared.reversible.Reversible.{Ghosts as ReversibleGhosts}
use Rattle.reverse.specs.declared.sends.Sends.{Sends}
use Rattle.reverse.proofs.outbound.Outbound.TheSendSync as outbound
use Rattle.antimessages.proofs.tally.Tally.TheSendSync as tally
use Rattle.gvt.proofs.floors.Floors.TheSendSync as floors
use Rattle.group_queues.proofs.done_events.DoneEvents.TheSendSync as done_events
use Rattle.group_queues.proofs.queue.Queue.TheSendSync as queue
use Rattle.group_hand.proofs.rollback.Undoing.TheSendSync as undoing
use Rattle.group_queues.specs.contracts.block.Words as Words
use Rattle.group_queues.specs.contracts.block.Words.TheInside as WordsIn
use Rattle.group_hand.specs.contracts.hand.Hand as Hand
use Rattle.group_hand.specs.contracts.hand.Hand.TheInside as HandIn
use Rattle.group_queues.specs.contracts.letters.Letters as Letters
use Rattle.group_queues.specs.contracts.letters.Letters.TheInside as LettersIn
use Rattle.group_queues.specs.contracts.rows.Rows as Rows
use Rattle.group_queues.specs.contracts.rows.Rows.TheInside as RowsIn
use Rattle.group_exchange.specs.declared.run_of.GroupRun.{Ghosts as RunGhosts}
use Rattle.group_exchange.specs.contracts.groups.GroupExchange as Exchange
use Rattle.group_exchange.specs.contracts.groups.GroupExchange.TheInside as ExchangeIn
use Rattle.group_exchange.specs.contracts.group.Group as Group
use Rattle.group_exchange.specs.contracts.group.Group.TheInside as GroupIn
use Rattle.group_exchange.specs.contracts.mark.Standing as Standing
use Rattle.group_exchange.specs.contracts.steps.Steps as Steps
use Rattle.group_exchange.specs.contracts.steps.Steps.TheInside as StepsIn
use Rattle.group_boxes.proofs.boxes.Boxes.TheSendSync as boxes
use Rattle.virtual_time.proofs.step.Step.TheSendSync as step
use Rattle.halves.proofs.LeftHalf.TheSendSync as left
use Rattle.halves.proofs.RightHalf.TheSendSync as right
use Rattle.network.proofs.network.Network.TheSendSync as network
use Rattle.network_runs.specs.declared.network_run.NetworkRun.{Ghosts as NetworkGhosts}
use Rattle.trace_tables.proofs.so_far.TablesSoFar.TheSendSync as so_far
use Rattle.run_rows.specs.contracts.counted.Counted as Counted
use Rattle.worker_pool.specs.contracts.leaving.Leaving as Leaving
use Rattle.run_rows.specs.contracts.row_tables.RowTables as RowTables
use Rattle.run_rows.specs.contracts.row_tables.RowTables.TheInside as RowTablesIn
use Rattle.worker_pool.specs.contracts.tasks.NetworkTasks as Tasks
use Rattle.group_turns.specs.contracts.shared.Shared as Shared
use Rattle.group_turns.specs.contracts.shared.Shared.TheInside as SharedIn
use Rattle.worker_pool.proofs.desk.TraceLock.TheSendSync as trace
use Rattle.turns.proofs.apart.Apart.TheSendSync as apart

-- ---- a hand
words-send : IsSend Words.the_row
words-send = view_send _ _ _ _ _ (declared_send WordsIn.the_type (search (option.the_send, sendable, crosses) depth 20))

letters-send : IsSend Letters.the_row
letters-send = view_send _ _ _ _ _ (declared_send LettersIn.the_type (search (queue.the_send, tally.the_send, letter.the_send, message.the_send, words-send, sendable, crosses) depth 20))

rows-send : IsSend Rows.the_row
rows-send = view_send _ _ _ _ _ (declared_send RowsIn.the_type (search (row.the_send, message.the_send, note.the_send, sendable, crosses) depth 20))

hand-send : (R K : RattleType) (g : ActorGhosts R.Denot K.Denot) (h : ReversibleGhosts R.Denot Message Sends K.Denot)
    → IsSend R → IsSend K → IsSend (Hand.the_row R K g h)
hand-send R K g h s t = view_send _ _ _ _ _ (declared_send (HandIn.the_type R K g h)
    (search (option.the_send, done_events.the_send, undoing.the_send, rows-send, letters-send, outbound.the_send, sendable, crosses) depth 20))

-- ---- a group in hand, and what the groups share
steps-send : IsSend Steps.the_row
steps-send = view_send _ _ _ _ _ (declared_send StepsIn.the_type (search (step.the_send, option.the_send, sendable, crosses) depth 20))

standing-send : IsSend Standing.the_row
standing-send = declared_send Standing.the_type (search (time.the_send, sendable, crosses) depth 20)

pub group-send : (R J K : RattleType) (g : ActorGhosts R.Denot K.Denot) (h : ReversibleGhosts R.Denot Message Sends K.Denot) (k : RunGhosts J.Denot R.Denot K.Denot)
    → IsSend R → IsSend K → IsSend (Group.the_row R J K g h k)
group-send R J K g h k s t = view_send _ _ _ _ _ (declared_send (GroupIn.the_type R J K g h k)
    (search (hand-send, standing-send, right.the_send, time.the_send, sendable, crosses) depth 20))

exchange-send : (R J K : RattleType) (g : ActorGhosts R.Denot K.Denot) (h : ReversibleGhosts R.Denot Message Sends K.Denot) (k : RunGhosts J.Denot R.Denot K.Denot)
    → IsSend (Exchange.the_row R J K g h k)
exchange-send R J K g h k = view_send _ _ _ _ _ (declared_send (ExchangeIn.the_type R J K g h k)
    (search (steps-send, left.the_send, boxes.the_send, floors.the_send, time.the_send, sendable, crosses) depth 20))

-- ---- what workers share
shared-send : (J : RattleType) (g : NetworkGhosts J.Denot) → IsSend (Shared.the_row J g)
shared-send J g = view_send _ _ _ _ _ (declared_send (SharedIn.the_type J g) (search (exchange-send, sendable, crosses) depth 10))

tables-send : (J : RattleType) (g : NetworkGhosts J.Denot) → IsSend (RowTables.the_row J g)
tables-send J g = view_send _ _ _ _ _ (declared_send (RowTablesIn.the_type J g) (search (so_far.the_send, sendable, crosses) depth 20))

pub counted-send : (J : RattleType) (g : NetworkGhosts J.Denot) → IsSend (Counted.the_row J g)
counted-send J g = declared_send (Counted.the_type J g) (search (tables-send, option.the_send, time.the_send, sendable, crosses) depth 20)

leaving-sync : (κ : NamedLft) (J : RattleType) (g : NetworkGhosts J.Denot) → IsSync (Leaving.the_row κ J g)
leaving-sync κ J g = variants_sync (Leaving.enum κ J g) (
  tt,
  ((search (counted-send, sendable, crosses) depth 20, tt), ((search (trace.the_sync, sendable, crosses) depth 20, tt), tt)),
)

pub tasks-sync : (κ ι : NamedLft) (J G T : RattleType) (g : NetworkGhosts J.Denot) → IsSync G → IsSync T → IsSync (Tasks.the_row κ ι J G T g)
tasks-sync κ ι J G T g gate runtime = declared_sync (Tasks.the_type κ ι J G T g)
    (search (leaving-sync, shared-send, network.the_sync, apart.the_send, sendable, crosses) depth 20)
