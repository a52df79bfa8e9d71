-- What a call that handles the first message makes of a group, for each answer.
use Rattle.std.specs.Prelude.{◌≡◌, ℕ, ◌<◌, ◌≤◌, ◌++◌, ◌∷◌, [], true, false, Bool, Result, Ok, Err, All, Contains}
use Rattle.vlink.specs.declared.message.Message.{Message}
use Rattle.vlink.specs.declared.note.Note.{Note}
use Rattle.vlink.specs.Order.{message_order}
use Rattle.virtual_time.specs.Law.{Rules, World, IsAscending}
use Rattle.reverse.specs.Rules.{is_before}
use Rattle.reverse.specs.Setting.{Setting}
use Rattle.antimessages.specs.Counting.{is_after, newest_of}
use Rattle.group_queues.specs.DoneEvents.{DoneEvent, messages_of}
use Rattle.group_hand.specs.Handling.{FirstLacksNumbers, IsHandled, RanFirst}
use Rattle.group_hand.specs.Hands.{Held, FirstWaits, IsAsBefore, StandsForGroup}
use Rattle.group_hand.specs.declared.fault.HandFault.{HandFault}
use Rattle.group_hand.specs.declared.fault.HandFault.TheVariants.{Exhausted, OutOfMemory}
use Rattle.group_hand.specs.declared.in_order.InOrder.{InOrder}
use Rattle.group_hand.specs.declared.in_order.InOrder.TheVariants.{Ran, Idle, Late}

-- the first message of the queue is earlier than the limit, and some done event does not come before it
abbrev pub IsLateBefore : {S K : Type 0} → ℕ → Held S K → Type 0
IsLateBefore limit h =
    (m : Message) × Contains h.flow.queue m × All (λ x. is_before x m ≡ false) h.flow.queue × (m.time < limit) × (is_after message_order (newest_of (messages_of h.done)) m ≡ false)

-- some message of the queue is earlier than the limit
abbrev pub WaitsBefore : {S K : Type 0} → ℕ → Held S K → Type 0
WaitsBefore limit h = (m : Message) × Contains h.flow.queue m × (m.time < limit)

module _ {S K : Type 0} where
  -- a refusal changed nothing; for numbers it comes only where the first message is to be handled by a member that lacks them
  abbrev pub RefusesFirst : (S → ℕ) → Held S K → Held S K → HandFault → Type 0
  RefusesFirst counter old new OutOfMemory = IsAsBefore old new
  RefusesFirst counter old new Exhausted = IsAsBefore old new × FirstLacksNumbers counter old

  -- and that message is earlier than the limit
  abbrev pub RefusesBefore : (S → ℕ) → ℕ → Held S K → Held S K → HandFault → Type 0
  RefusesBefore counter limit old new fault = RefusesFirst counter old new fault × (fault ≡ Exhausted → WaitsBefore limit old)

  -- nothing changed where none was handled; the first message was, it was earlier than the limit, and its event is the newest
  abbrev pub RunsInOrder : (S → ℕ) → ℕ → Held S K → Held S K → Result InOrder HandFault → Type 0
  RunsInOrder counter limit old new (Ok Ran) =
      (m : Message) × (m.time < limit) × RanFirst m old new × ((d : DoneEvent K) × (d.message ≡ m) × (new.done ≡ old.done ++ d ∷ []))
  RunsInOrder counter limit old new (Ok Idle) = IsAsBefore old new × All (λ m. limit ≤ m.time) old.flow.queue
  RunsInOrder counter limit old new (Ok Late) = IsAsBefore old new × IsLateBefore limit old
  RunsInOrder counter limit old new (Err fault) = RefusesBefore counter limit old new fault

module _ {S K : Type 0} (r : Rules Message S K Note) (V : S → Message → Type 0) where
  -- a message of the queue of which this holds was handled, where it was not done; where that was the first of the queue, it is this one
  abbrev pub HandlesOne : (Message → Type 0) → Held S K → Held S K → Type 0
  HandlesOne P old new =
      (x : Setting S) (v : World Message S) → StandsForGroup r V x v old →
      (m : Message) × P m × Contains old.flow.queue m × IsHandled m old new
      × ((IsAscending message_order (messages_of old.done) → FirstWaits message_order old) → RanFirst m old new)

  -- the same in whatever order the events of the members come
  abbrev pub RunsNext : (S → ℕ) → ℕ → Held S K → Held S K → Result Bool HandFault → Type 0
  RunsNext counter limit old new (Ok true) = HandlesOne (λ m. m.time < limit) old new
  RunsNext counter limit old new (Ok false) = IsAsBefore old new × All (λ m. limit ≤ m.time) old.flow.queue
  RunsNext counter limit old new (Err fault) = RefusesBefore counter limit old new fault

  abbrev pub RunsOutOfOrder : {X : Type 0} → (S → ℕ) → Held S K → Held S K → Result X HandFault → Type 0
  RunsOutOfOrder counter old new (Ok done) = HandlesOne (λ m. All (λ y. is_before y m ≡ false) old.flow.queue) old new
  RunsOutOfOrder counter old new (Err fault) = RefusesFirst counter old new fault
