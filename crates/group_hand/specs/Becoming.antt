-- The result for the first message of a group.
use Rattle.std.specs.Prelude.{◌≡◌, ℕ, ◌+◌, ◌<◌, ◌≤◌, true, false, List, Option, Some, Result, Ok, Err, slice_get}
use Rattle.vlink.specs.declared.message.Message.{Message}
use Rattle.vlink.specs.Numbering.{greatest_number}
use Rattle.vlink.specs.Order.{message_order}
use Rattle.antimessages.specs.Counting.{is_after, newest_of}
use Rattle.reverse.specs.declared.sends.TheConstants.{MOST_SENT}
use Rattle.group_hand.specs.declared.in_order.InOrder.{InOrder}
use Rattle.group_hand.specs.declared.in_order.InOrder.TheVariants.{Ran, Idle, Late}
use Rattle.group_hand.specs.declared.fault.HandFault.{HandFault}
use Rattle.group_hand.specs.declared.fault.HandFault.TheVariants.{Exhausted}
use Rattle.group_queues.specs.DoneEvents.{DoneEvent, messages_of}

-- its receiver is a member with numbers left for what one event can send; or it is none
abbrev pub CanSend : {S : Type 0} → (S → ℕ) → List (Option S) → ℕ → Type 0
CanSend {S} counter members p = (s : S) × (slice_get members p ≡ Some (Some s)) × (counter s + MOST_SENT ≤ greatest_number)

abbrev pub CannotSend : {S : Type 0} → (S → ℕ) → List (Option S) → ℕ → Type 0
CannotSend {S} counter members p = (s : S) → slice_get members p ≡ Some (Some s) → greatest_number < counter s + MOST_SENT

-- whether it is earlier than the limit, comes after all that is done, and its receiver can send
abbrev pub Becomes : {S K : Type 0} → (S → ℕ) → List (Option S) → List (DoneEvent K) → Message → ℕ → Result InOrder HandFault → Type 0
Becomes counter members done m limit (Ok Idle) = limit ≤ m.time
Becomes counter members done m limit (Ok Late) = (m.time < limit) × (is_after message_order (newest_of (messages_of done)) m ≡ false)
Becomes counter members done m limit (Ok Ran) =
    (m.time < limit) × (is_after message_order (newest_of (messages_of done)) m ≡ true) × CanSend counter members m.receiver
Becomes counter members done m limit (Err fault) =
    (fault ≡ Exhausted) × (m.time < limit) × (is_after message_order (newest_of (messages_of done)) m ≡ true) × CannotSend counter members m.receiver
