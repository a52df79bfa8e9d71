-- What a process has in hand, and when that represents a part of the laws of virtual time.
use Rattle.std.specs.Prelude.{◌≡◌, ℕ, ◌+◌, drop, List, [], ◌∷◌, ◌++◌, length, map, Option, ⊤}
use Rattle.vlink.specs.declared.message.Message.{Message}
use Rattle.vlink.specs.declared.note.Note.{Note}
use Rattle.virtual_time.specs.Law.{Rules, rowed, plus_of, Part, delivered, IsWell}
use Rattle.vlink.specs.Order.{message_order}
use Rattle.vlink.specs.Letters.{Letter}
use Rattle.antimessages.specs.Counting.{HaveSameCounts, present_after, newest_of}
use Rattle.process_steps.specs.declared.event.Event.{Event}
use Rattle.process_queues.specs.Past.{Past, Rows, BelongsTo}

-- the letters that count: those that are tallied beside the done events, and for each of these the letter that brought its message
abbrev pub with_done : {K : Type 0} → List Letter → List (Event K) → List Letter
with_done beside done = beside ++ map (λ e. plus_of e.message) done

-- the past, how many rows of committed events have left it and how many are still there, how many events are committed, the letters that
-- were tallied, the tray and the outbox
pub record Queues (S K : Type 0) : Type 0 where
  pub past : Past S K
  pub left : ℕ
  pub sealed : ℕ
  pub committed : ℕ
  pub tally : List Letter
  pub tray : List Letter
  pub outbox : List Letter

-- the queues, for how many more letters the tray has room, and how many more events can be committed
pub record InHand (S K : Type 0) : Type 0 where
  pub queues : Queues S K
  pub room : ℕ
  pub committed_room : ℕ

-- the rows of the committed events of this part, but those that have left, the oldest
abbrev pub rows_there : {S K : Type 0} → Rules Message S K Note → S → Part Message S → Queues S K → Rows
rows_there r opening part q = drop q.left (rowed r opening part.committed)

-- the queues are those of this part of a process that opened in this state
pub record StandsFor {S K : Type 0} (r : Rules Message S K Note) (is_value : S → Message → Type 0) (opening : S) (part : Part Message S) (q : Queues S K) : Type 0 where
  -- the state, the done events with what is kept of them, what they sent, and the rows that are there
  pub past : BelongsTo r is_value opening (rows_there r opening part q) part q.past
  -- what is committed
  pub sealed : q.left + q.sealed ≡ length (rowed r opening part.committed)
  pub committed : q.committed ≡ length part.committed
  -- the letters
  pub counts : HaveSameCounts message_order part.tally q.tally
  pub tray : q.tray ≡ part.tray
  pub outbox : q.outbox ≡ part.outbox
  -- the part is one that the law of a process speaks of
  pub well : IsWell r (λ s. ⊤) opening part

-- what holds of each part that the queues stand for, in whatever state it opened
abbrev pub AtEachPart : {S K : Type 0} → Rules Message S K Note → (S → Message → Type 0) → Queues S K → (S → Part Message S → Type 0) → Type 0
AtEachPart {S} r is_value q holds = (opening : S) (part : Part Message S) → StandsFor r is_value opening part q → holds opening part

-- whatever the queues stood for before, they stand for what this act makes of it afterwards
abbrev pub Does : {S K : Type 0} → Rules Message S K Note → (S → Message → Type 0) → (S → Part Message S → Part Message S) → Queues S K → Queues S K → Type 0
Does r is_value act old new = AtEachPart r is_value old (λ opening part. StandsFor r is_value opening (act opening part) new)

-- the state of the actor
abbrev pub state_in : {S K : Type 0} → Queues S K → S
state_in q = q.past.state

-- the message that is handled next: the first present one of those that come after the newest done event
abbrev pub next_in : {S K : Type 0} → Queues S K → Option Message
next_in q = present_after message_order (newest_of (map (λ e. e.message) q.past.done)) q.tally

-- what always holds of a process: its queues stand for some part, and the message that it keeps is the next one
abbrev pub IsStanding : {S K : Type 0} → Rules Message S K Note → (S → Message → Type 0) → Option Message → Queues S K → Type 0
IsStanding {S} r is_value next q = (opening : S) × (part : Part Message S) × StandsFor r is_value opening part q × (next ≡ next_in q)

-- these letters come to the back of the tray, one after another
abbrev pub delivered_all : {S : Type 0} → List Letter → Part Message S → Part Message S
delivered_all [] part = part
delivered_all (l ∷ ls) part = delivered_all ls (delivered l part)
