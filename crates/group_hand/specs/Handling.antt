-- The first message of the queue, where members may have done later events than it: it is handled, or counts beside.
use Rattle.std.specs.Prelude.{◌≡◌, ◌≢◌, ℕ, ◌+◌, ◌==◌, ◌⊎◌, true, false, List, ◌∷◌, ◌++◌, length, reverse, slice_get, Some, All, Contains, IsPermutation}
use Rattle.vlink.specs.declared.message.Message.{Message}
use Rattle.vlink.specs.declared.note.Note.{Note}
use Rattle.vlink.specs.Order.{message_order}
use Rattle.virtual_time.specs.Law.{Order, Rules, IsAscending, IsIn, times_in, plus_of}
use Rattle.reverse.specs.Rules.{is_before}
use Rattle.antimessages.specs.Counting.{HaveSameCounts, is_after, newest_of}
use Rattle.group_hand.specs.Becoming.{CannotSend}
use Rattle.group_queues.specs.Block.{AddsRun}
use Rattle.group_queues.specs.DoneEvents.{DoneEvent, done_event_of, messages_of}
use Rattle.group_queues.specs.Flow.{Flow}
use Rattle.group_hand.specs.Hands.{Held}

module _ {S K : Type 0} (r : Rules Message S K Note) (is_value : S → Message → Type 0) where
  -- the message was handled by its receiver, which was in the state s; and what it sent is to go on
  pub record FirstHandled (m : Message) (s : S) (old new : Held S K) : Type 0 where
    -- it is the first that waits, and not done
    pub first : All (λ y. r.order.less y m ≡ false) old.flow.queue
    pub not_done : times_in r.order m (messages_of old.done) ≡ 0
    pub queue : IsPermutation old.flow.queue (m ∷ new.flow.queue)
    pub extra : new.flow.extra ≡ old.flow.extra
    -- the receiver is in the state after it, and no other member changed
    pub before : slice_get old.members (r.order.receiver m) ≡ Some (Some s)
    pub value : is_value s m
    pub state : slice_get new.members (r.order.receiver m) ≡ Some (Some (r.after s m))
    pub others : (q : ℕ) → (q ≡ r.order.receiver m → ⊥) → slice_get new.members q ≡ slice_get old.members q
    pub count : length new.members ≡ length old.members
    -- its event is behind those that come before it
    pub front : List (DoneEvent K)
    pub behind : List (DoneEvent K)
    pub was : old.done ≡ front ++ behind
    pub done : new.done ≡ front ++ done_event_of r s m ∷ behind
    pub early : is_after r.order (newest_of (messages_of front)) m ≡ true
    pub late : All (λ y. r.order.less y m ≡ false) (messages_of behind)
    pub rows : new.rows ≡ old.rows

-- the newest events, which do not come before m and are of other members, were set aside
pub record SetAside {K : Type 0} (o : Order Message) (m : Message) (done front aside : List (DoneEvent K)) : Type 0 where
  pub behind : List (DoneEvent K)
  pub was : done ≡ front ++ behind
  pub late : All (λ y. o.less y m ≡ false) (messages_of behind)
  pub others : All (λ y. (o.receiver y == o.receiver m) ≡ false) (messages_of behind)
  pub is_aside : aside ≡ reverse behind

-- the newest event comes before m, or is of its receiver
abbrev pub StopsAt : {K : Type 0} → Order Message → Message → List (DoneEvent K) → Type 0
StopsAt o m front = (y : Message) → newest_of (messages_of front) ≡ Some y → o.less y m ≡ false → o.receiver y ≡ o.receiver m

-- the receiver of m has done a message that does not come before it
pub record HasLater {K : Type 0} (o : Order Message) (m : Message) (done : List (DoneEvent K)) : Type 0 where
  pub later : Message
  pub is_done : IsIn o later (messages_of done)
  pub of_receiver : o.receiver later ≡ o.receiver m
  pub not_before : o.less later m ≡ false

-- one event more is done; or this message, which was done already, left the queue
abbrev pub IsHandled : {S K : Type 0} → Message → Held S K → Held S K → Type 0
IsHandled m old new = (length new.done ≡ length old.done + 1) ⊎ IsPermutation old.flow.queue (m ∷ new.flow.queue)

-- the first message of the queue is not done, and its receiver has too few numbers left for what one event can send, if it is a member
abbrev pub FirstLacksNumbers : {S K : Type 0} → (S → ℕ) → Held S K → Type 0
FirstLacksNumbers counter h =
    (m : Message) × Contains h.flow.queue m × All (λ x. is_before x m ≡ false) h.flow.queue
    × (IsAscending message_order (messages_of h.done) → All (λ x. x ≢ m) (messages_of h.done)) × CannotSend counter h.members m.receiver

-- this message, which is the first of the queue and is not done, was handled
pub record RanFirst {S K : Type 0} (m : Message) (old new : Held S K) : Type 0 where
  pub among : Contains old.flow.queue m
  pub first : All (λ x. is_before x m ≡ false) old.flow.queue
  pub not_done : IsAscending message_order (messages_of old.done) → All (λ x. x ≢ m) (messages_of old.done)
  pub words : AddsRun m.receiver old.flow.words new.flow.words

-- a message of the queue is done already: it leaves the queue and counts beside
pub record CountsAgain {K : Type 0} (o : Order Message) (m : Message) (done : List (DoneEvent K)) (old new : Flow) : Type 0 where
  pub is_done : IsIn o m (messages_of done)
  pub queue : IsPermutation old.queue (m ∷ new.queue)
  pub extra : HaveSameCounts o new.extra (plus_of m ∷ old.extra)
  pub tray : new.tray ≡ old.tray
  pub abroad : new.abroad ≡ old.abroad
  pub words : new.words ≡ old.words
  pub keeps : new.keeps ≡ old.keeps
