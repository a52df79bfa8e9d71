-- What a group holds, when it represents its processes in a small world of the laws of virtual time, and what its calls do there.
use Rattle.std.specs.Prelude.{◌≡◌, ℕ, suc, ◌<◌, ◌≤◌, Bool, true, false, List, [], ◌++◌, map, length, slice_get, Option, Some, None, All, IfSome, min, ⊤}
use Rattle.vlink.specs.declared.message.Message.{Message}
use Rattle.vlink.specs.declared.note.Note.{Note}
use Rattle.vlink.specs.Letters.{Letter}
use Rattle.virtual_time.specs.Law.{Order, Rules, Laws, World, Part, opened, reached, rowed, rows_at, least, times_in, pluses, minuses, plus_of, IsIn, received_by, floor_of, IsAscending, IsWell, AreBy, AreDone, done_by, put, delivered}
use Rattle.reverse.specs.Setting.{Setting, simulation_of}
use Rattle.antimessages.specs.Counting.{HaveSameCounts}
use Rattle.reverse.specs.Rules.{AreValues}
use Rattle.group_queues.specs.declared.block.Word.{Word}
use Rattle.group_queues.specs.Block.{steps_told}
use Rattle.group_queues.specs.DoneEvents.{DoneEvent, done_events_at, done_events_of, messages_of}
use Rattle.group_queues.specs.Flow.{Flow}
use Rattle.group_queues.specs.Rows.{Sealed}
use Rattle.group_queues.specs.Sealing.{Stays}

pub record Held (S K : Type 0) : Type 0 where
  -- the actors by their numbers; none where the process is elsewhere
  pub members : List (Option S)
  -- the done events of all members, in the order of their messages
  pub done : List (DoneEvent K)
  -- the rows of committed events
  pub rows : Sealed
  -- what is present and not done, what counts beside, the letters, and what was done
  pub flow : Flow

-- the process is in hand
abbrev pub is_held : {S : Type 0} → Option (Option S) → Bool
is_held (Some (Some s)) = true
is_held (Some None) = false
is_held None = false

abbrev pub is_ours : {S : Type 0} → List (Option S) → ℕ → Bool
is_ours members p = is_held (slice_get members p)

-- these words are all of members, which stay members
pub record AreOfMembers {S : Type 0} (old new : List (Option S)) (did : List Word) : Type 0 where
  pub by : AreBy (is_ours old) (steps_told did)
  pub same : (p : ℕ) → is_ours new p ≡ is_ours old p

-- all letters that count: one for each message of the queue and each done event, and what counts beside
abbrev pub counted : {S K : Type 0} → Held S K → List Letter
counted h = map plus_of h.flow.queue ++ (map plus_of (messages_of h.done) ++ h.flow.extra)

-- what counts beside counts more of a message that is there, and less of one that is not
pub record CountsBeside {S K : Type 0} (o : Order Message) (h : Held S K) (m : Message) : Type 0 where
  pub more : minuses o m h.flow.extra < pluses o m h.flow.extra → 0 < times_in o m (h.flow.queue ++ messages_of h.done)
  pub less : pluses o m h.flow.extra < minuses o m h.flow.extra → times_in o m (h.flow.queue ++ messages_of h.done) ≡ 0

module _ {S K : Type 0} (r : Rules Message S K Note) (is_value : S → Message → Type 0) where
  -- a member in this state is this part of a process that opened in that one
  pub record IsMember (opening : S) (p : ℕ) (part : Part Message S) (s : S) (h : Held S K) : Type 0 where
    pub state : part.state ≡ s
    pub done : done_events_at r.order p h.done ≡ done_events_of r (reached r opening part.committed) part.done
    -- each done event was handled at a value of its type
    pub values : AreValues r is_value (reached r opening part.committed) part.done
    pub counts : HaveSameCounts r.order part.tally (received_by r.order p (counted h))
    pub tray : part.tray ≡ received_by r.order p h.flow.tray
    pub outbox : part.outbox ≡ []
    pub rows : rows_at p h.rows.all ≡ rowed r opening part.committed
    pub well : IsWell r (λ s. ⊤) opening part

  module _ (x : Setting S) where
    -- what is held is that of a group in this small world, where besides the letters for others these were posted, and have not gone on
    pub record StandsForSent (v : World Message S) (h : Held S K) (sent : List Letter) : Type 0 where
      pub count : length h.members ≡ x.processes
      pub members : (p : ℕ) (s : S) → slice_get h.members p ≡ Some (Some s) → IsMember (x.opening p) p (v.parts p) s h
      pub mail : (q : ℕ) → v.mail q ≡ received_by r.order q (h.flow.abroad ++ sent)
      pub elsewhere : All (λ l. is_ours h.members (r.order.receiver l.message) ≡ false) h.flow.abroad
      pub tray_home : All (λ l. is_ours h.members (r.order.receiver l.message) ≡ true) h.flow.tray
      pub tray_in_time : All (λ l. r.order.time l.message ≤ x.until) h.flow.tray
      -- what waits or is done is for members, and not after the end
      pub home : (m : Message) → IsIn r.order m (h.flow.queue ++ messages_of h.done) → is_ours h.members (r.order.receiver m) ≡ true
      pub in_time : (m : Message) → IsIn r.order m (h.flow.queue ++ messages_of h.done) → r.order.time m ≤ x.until
      pub beside : (m : Message) → CountsBeside r.order h m
      pub ascending : IsAscending r.order (messages_of h.done)
      -- the floor of each member is what it has in hand
      pub settled : (p : ℕ) → is_ours h.members p ≡ true → v.floors p ≡ floor_of r.order x.until (v.parts p)

    -- the same between calls, where all that was posted went on
    abbrev pub StandsForGroup : World Message S → Held S K → Type 0
    StandsForGroup v h = StandsForSent v h []

  -- whatever group this stood for, the steps that joined the block could be done there, it stands for what they make of it, and they are all of
  -- members, which stay members
  pub record DoesSent (old : Held S K) (sent : List Letter) (new : Held S K) (left : List Letter) : Type 0 where
    pub did : List Word
    pub block : new.flow.words ≡ old.flow.words ++ did
    pub keeps : new.flow.keeps ≡ old.flow.keeps
    pub rows : new.rows ≡ old.rows
    pub stands : (x : Setting S) → Laws (simulation_of r x) → (v : World Message S) → StandsForSent x v old sent →
        AreDone (simulation_of r x) (steps_told did) v × StandsForSent x (done_by (simulation_of r x) (steps_told did) v) new left
        × AreOfMembers old.members new.members did

  abbrev pub DoesTold : Held S K → Held S K → Type 0
  DoesTold old new = DoesSent old [] new []

-- a letter is taken from the mail of the run
abbrev pub with_letter : {S : Type 0} → Order Message → Letter → World Message S → World Message S
with_letter o l v =
    record {
      parts = put (o.receiver l.message) (delivered l (v.parts (o.receiver l.message))) v.parts;
      mail = v.mail;
      floors = put (o.receiver l.message) (min (o.time l.message) (v.floors (o.receiver l.message))) v.floors;
      gvt = v.gvt;
    }

-- no letter waits to arrive
abbrev pub IsQuiet : {S K : Type 0} → Held S K → Type 0
IsQuiet h = h.flow.tray ≡ []

-- the first message of the queue, if there is one, is not done
abbrev pub FirstWaits : {S K : Type 0} → Order Message → Held S K → Type 0
FirstWaits o h = IfSome (least o h.flow.queue) (λ m. times_in o m (messages_of h.done) ≡ 0)

-- a group that has done nothing, and for which nothing waits
pub record HasDoneNothing {S K : Type 0} (h : Held S K) : Type 0 where
  pub done : h.done ≡ []
  pub rows : h.rows.all ≡ []
  pub queue : h.flow.queue ≡ []
  pub extra : h.flow.extra ≡ []
  pub tray : h.flow.tray ≡ []
  pub abroad : h.flow.abroad ≡ []

-- its members are in their opening states, here and in the small world, where they have done nothing, their floors are the moment after the end, and
-- no letter is on its way
pub record IsOpened {S K : Type 0} (x : Setting S) (v : World Message S) (h : Held S K) : Type 0 where
  pub count : length h.members ≡ x.processes
  pub state : (p : ℕ) (s : S) → slice_get h.members p ≡ Some (Some s) → s ≡ x.opening p
  pub part : (p : ℕ) → is_ours h.members p ≡ true → v.parts p ≡ opened (x.opening p)
  pub floor : (p : ℕ) → is_ours h.members p ≡ true → v.floors p ≡ suc x.until
  pub mail : (q : ℕ) → v.mail q ≡ []

-- nothing changed but for how much more there is room
abbrev pub IsAsBefore : {S K : Type 0} → Held S K → Held S K → Type 0
IsAsBefore old new = new ≡ record old { flow = record old.flow { room = new.flow.room } }

-- the same where GVT stands at this moment or later; GVT stays
pub record CommitsTold {S K : Type 0} (r : Rules Message S K Note) (is_value : S → Message → Type 0) (moment : ℕ) (old new : Held S K) : Type 0 where
  pub did : List Word
  pub block : new.flow.words ≡ old.flow.words ++ did
  pub keeps : new.flow.keeps ≡ old.flow.keeps
  pub stands : (x : Setting S) → Laws (simulation_of r x) → (v : World Message S) → moment ≤ v.gvt → StandsForGroup r is_value x v old →
      AreDone (simulation_of r x) (steps_told did) v × StandsForGroup r is_value x (done_by (simulation_of r x) (steps_told did) v) new
      × ((done_by (simulation_of r x) (steps_told did) v).gvt ≡ v.gvt) × AreOfMembers old.members new.members did

-- the oldest done event, if there is one, stays
abbrev pub StaysDone : {S K : Type 0} → ℕ → Held S K → Type 0
StaysDone moment h = IfSome (slice_get (messages_of h.done) 0) (Stays moment h.flow)
