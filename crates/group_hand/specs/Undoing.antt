-- Done events that are undone or set aside, the newest first.
use Rattle.std.specs.Prelude.{◌≡◌, ℕ, ◌==◌, ◌++◌, true, false, not, List, ◌∷◌, Option, Some, All, Contains, filter, length, reverse, slice_get, IsPermutation}
use Rattle.vlink.specs.declared.message.Message.{Message}
use Rattle.vlink.specs.declared.note.Note.{Note}
use Rattle.virtual_time.specs.Law.{Order, Rules, reached}
use Rattle.antimessages.specs.Counting.{is_after, newest_of}
use Rattle.reverse.specs.Rules.{AreValues}
use Rattle.group_hand.specs.Arriving.{sent_by, undone_events}
use Rattle.group_queues.specs.DoneEvents.{DoneEvent, done_events_at, done_events_of, messages_of}
use Rattle.group_hand.specs.Hands.{is_ours}
use Rattle.group_queues.specs.declared.tray.Way.{Way}
use Rattle.group_queues.specs.declared.tray.Way.TheVariants.{Beside, Joins, Leaves, Undoes}

-- those of other processes than p
abbrev pub others_at : {K : Type 0} → Order Message → ℕ → List (DoneEvent K) → List (DoneEvent K)
others_at o p ds = filter (λ d. not (o.receiver d.message == p)) ds

module _ {S K : Type 0} (r : Rules Message S K Note) (is_value : S → Message → Type 0) where
  -- these are all that was done since some state, each handled at a value of its type, and they led to this state
  pub record CameBy (s : S) (ds : List (DoneEvent K)) : Type 0 where
    pub base : S
    pub messages : List Message
    pub events : ds ≡ done_events_of r base messages
    pub values : AreValues r is_value base messages
    pub state : s ≡ reached r base messages

  -- process p, if it is a member, came to its state by what it has done
  abbrev pub CameTo : List (Option S) → List (DoneEvent K) → ℕ → Type 0
  CameTo members done p = (s : S) → slice_get members p ≡ Some (Some s) → CameBy s (done_events_at r.order p done)

-- the members, the done events, those that were set aside, the messages that wait, and what undone events sent
pub record Retreat (S K : Type 0) : Type 0 where
  pub members : List (Option S)
  pub done : List (DoneEvent K)
  pub aside : List (DoneEvent K)
  pub queue : List Message
  pub back : List Message

module _ {S K : Type 0} (r : Rules Message S K Note) (m : Message) (start : Retreat S K) where
  -- from the start on the newest events, `behind`, which do not come before m, were undone where they are of its receiver, and else set aside
  pub record RollsBack (now : Retreat S K) : Type 0 where
    pub behind : List (DoneEvent K)
    pub done : start.done ≡ now.done ++ behind
    pub late : All (λ x. r.order.less x m ≡ false) (messages_of behind)
    pub aside : now.aside ≡ reverse (others_at r.order (r.order.receiver m) behind)
    pub queue : IsPermutation (messages_of (done_events_at r.order (r.order.receiver m) behind) ++ start.queue) now.queue
    pub back : now.back ≡ reverse (sent_by (done_events_at r.order (r.order.receiver m) behind))
    pub count : length now.members ≡ length start.members
    pub ours : (q : ℕ) → is_ours now.members q ≡ is_ours start.members q
    pub state : (s : S) → slice_get start.members (r.order.receiver m) ≡ Some (Some s) →
        slice_get now.members (r.order.receiver m) ≡ Some (Some (undone_events r (done_events_at r.order (r.order.receiver m) behind) s))
    pub others : (q : ℕ) → (q ≡ r.order.receiver m → ⊥) → slice_get now.members q ≡ slice_get start.members q

  -- the same of all that do not come before m; those that were set aside are back
  pub record RolledBack (now : Retreat S K) : Type 0 where
    pub front : List (DoneEvent K)
    pub aside : List (DoneEvent K)
    pub rolled : RollsBack (record now { done = front; aside = aside })
    pub done : now.done ≡ front ++ reverse aside
    pub newest : is_after r.order (newest_of (messages_of front)) m ≡ true

module _ {S K : Type 0} (r : Rules Message S K Note) (m : Message) (old now : Retreat S K) where
  -- what became of the message of a letter: where it joins the queue or is undone, its receiver rolled back to it before
  abbrev pub Settled : Way → Type 0
  Settled Beside = now ≡ old
  Settled Leaves = now ≡ old
  Settled Joins = (queue : List Message) × RolledBack r m old (record now { queue = queue }) × IsPermutation (m ∷ queue) now.queue
  Settled Undoes = (queue : List Message) × RolledBack r m old (record now { queue = queue }) × (Contains queue m → IsPermutation queue (m ∷ now.queue))
