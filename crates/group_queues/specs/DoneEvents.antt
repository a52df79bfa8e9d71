-- Done events with all that came of them.
use Rattle.std.specs.Prelude.{ℕ, ◌+◌, ◌≤◌, ◌==◌, take, drop, filter, length, map, List, [], ◌∷◌}
use Rattle.vlink.specs.declared.message.Message.{Message}
use Rattle.vlink.specs.declared.note.Note.{Note}
use Rattle.vlink.specs.Letters.{Row}
use Rattle.virtual_time.specs.Law.{Order, Rules, rows_of}
use Rattle.group_queues.specs.declared.done_events.Event.{Event}

-- a done event: its message, the record by which it is undone, what it sent, and its rows
pub record DoneEvent (K : Type 0) : Type 0 where
  pub message : Message
  pub kept : K
  pub sent : List Message
  pub rows : List Row

-- the events with their shares of all that was sent and of all rows, which are in the same order
abbrev pub done_events_in : {K : Type 0} → List (Event K) → List Message → List Row → List (DoneEvent K)
done_events_in [] sends rows = []
done_events_in (e ∷ es) sends rows =
    record { message = e.message; kept = e.kept; sent = take e.sent sends; rows = take e.noted rows } ∷ done_events_in es (drop e.sent sends) (drop e.noted rows)

-- how many messages these events sent, and how many rows they gave
abbrev pub all_sent : {K : Type 0} → List (Event K) → ℕ
all_sent [] = 0
all_sent (e ∷ es) = e.sent + all_sent es

abbrev pub all_noted : {K : Type 0} → List (Event K) → ℕ
all_noted [] = 0
all_noted (e ∷ es) = e.noted + all_noted es

-- done events, and for how many more events, messages that they send and rows there is room
pub record Done (K : Type 0) : Type 0 where
  pub events : List (DoneEvent K)
  pub events_room : ℕ
  pub sends_room : ℕ
  pub rows_room : ℕ

-- how many messages these events sent, and how many rows they gave
abbrev pub sent_in : {K : Type 0} → List (DoneEvent K) → ℕ
sent_in [] = 0
sent_in (d ∷ ds) = length d.sent + sent_in ds

abbrev pub noted_in : {K : Type 0} → List (DoneEvent K) → ℕ
noted_in [] = 0
noted_in (d ∷ ds) = length d.rows + noted_in ds

-- there is room for these events too
pub record HasRoomFor {K : Type 0} (ds : List (DoneEvent K)) (there : Done K) : Type 0 where
  pub events : length ds ≤ there.events_room
  pub sends : sent_in ds ≤ there.sends_room
  pub rows : noted_in ds ≤ there.rows_room

-- the messages of the done events
abbrev pub messages_of : {K : Type 0} → List (DoneEvent K) → List Message
messages_of = map (λ d. d.message)

-- those of process p
abbrev pub done_events_at : {K : Type 0} → Order Message → ℕ → List (DoneEvent K) → List (DoneEvent K)
done_events_at o p ds = filter (λ d. o.receiver d.message == p) ds

module _ {S K : Type 0} (r : Rules Message S K Note) where
  abbrev pub done_event_of : S → Message → DoneEvent K
  done_event_of s m = record { message = m; kept = r.kept s m; sent = r.sends s m; rows = rows_of r.order m (r.notes s m) }

  -- these messages were handled by one process from the state s on
  abbrev pub done_events_of : S → List Message → List (DoneEvent K)
  done_events_of s [] = []
  done_events_of s (m ∷ ms) = done_event_of s m ∷ done_events_of (r.after s m) ms
