-- What a process has done and not committed, and when that is the past of given events.
use Rattle.std.specs.Prelude.{◌≡◌, ℕ, ◌+◌, if◌then◌else◌, List, [], ◌∷◌, ◌++◌, length}
use Rattle.vlink.specs.declared.message.Message.{Message}
use Rattle.vlink.specs.declared.note.Note.{Note}
use Rattle.vlink.specs.Order.{message_order}
use Rattle.vlink.specs.Letters.{Row}
use Rattle.reverse.specs.Rules.{AreValues, is_before}
use Rattle.virtual_time.specs.Law.{Rules, reached, sent, rowed, rows_of, IsAscending, Part}
use Rattle.process_steps.specs.declared.event.Event.{Event}

-- notes with their messages and places, as the law of virtual time sees them
abbrev pub Rows : Type 0
Rows = List Row

-- the state of the actor, the done events, all that they sent, and the rows of the committed events that are still there and then of the done ones
pub record Past (S K : Type 0) : Type 0 where
  pub state : S
  pub done : List (Event K)
  pub sends : List Message
  pub rows : Rows

-- how many messages these events sent, the newest event first, up to the first one that comes before this message
abbrev pub sent_since : {K : Type 0} → Message → List (Event K) → ℕ
sent_since m [] = 0
sent_since m (e ∷ es) = if is_before e.message m then 0 else (e.sent + sent_since m es)

module _ {S K : Type 0} (r : Rules Message S K Note) where
  -- what is kept of an event at a state
  abbrev pub event_of : S → Message → Event K
  event_of s m = record { message = m; kept = r.kept s m; sent = length (r.sends s m); noted = length (r.notes s m) }

  -- what is kept of these events, handled from the state s on, oldest first
  abbrev pub events_of : S → List Message → List (Event K)
  events_of s [] = []
  events_of s (m ∷ ms) = event_of s m ∷ events_of (r.after s m) ms

  -- one event more
  abbrev pub handled_past : Past S K → Message → Past S K
  handled_past past m = record {
    state = r.after past.state m;
    done = past.done ++ event_of past.state m ∷ [];
    sends = past.sends ++ r.sends past.state m;
    rows = past.rows ++ rows_of message_order m (r.notes past.state m);
  }

  -- the past is that of these events, handled from the state start on, behind the rows of earlier ones
  pub record IsPastOf (is_value : S → Message → Type 0) (start : S) (ms : List Message) (earlier : Rows) (past : Past S K) : Type 0 where
    pub state : past.state ≡ reached r start ms
    pub done : past.done ≡ events_of start ms
    pub values : AreValues r is_value start ms
    pub sends : past.sends ≡ sent r start ms
    pub rows : past.rows ≡ earlier ++ rowed r start ms

  -- something was done: there is a newest event, and an oldest
  abbrev pub LastDone : (S → Message → Type 0) → Past S K → Type 0
  LastDone is_value past =
      (start : S) × (ms : List Message) × (e : Message) × (earlier : Rows) × IsPastOf is_value start (ms ++ e ∷ []) earlier past

  abbrev pub FirstDone : (S → Message → Type 0) → Past S K → Type 0
  FirstDone is_value past =
      (start : S) × (ms : List Message) × (e : Message) × (earlier : Rows) × IsPastOf is_value start (e ∷ ms) earlier past

  -- the past is that of a part of a process that opened in this state, behind the rows of committed events that are still there
  pub record BelongsTo (is_value : S → Message → Type 0) (opening : S) (there : Rows) (part : Part Message S) (past : Past S K) : Type 0 where
    pub past_of : IsPastOf is_value (reached r opening part.committed) part.done there past
    pub state : part.state ≡ past.state
    pub ascending : IsAscending r.order part.done
