-- A letter arrives, the first of the tray. Where it comes late, done events of its receiver are undone and wait again, and what they sent is
-- taken back. All is said of lists, and nothing of the order in which code changes them.
use Rattle.std.specs.Prelude.{◌≡◌, ℕ, ◌⊎◌, true, false, not, List, [], ◌∷◌, ◌++◌, map, filter, reverse, length, slice_get, Option, Some, pos, ◌≤ℤ◌, ◌<ℤ◌, IsPermutation}
use Rattle.vlink.specs.declared.message.Message.{Message}
use Rattle.vlink.specs.declared.note.Note.{Note}
use Rattle.vlink.specs.Letters.{Letter}
use Rattle.virtual_time.specs.Law.{Order, Rules, IsAscending, IsIn, times_in, minus_of}
use Rattle.virtual_time.specs.declared.letter.Sign.TheVariants.{Plus, Minus}
use Rattle.antimessages.specs.Counting.{HaveSameCounts, signed_count}
use Rattle.group_queues.specs.declared.block.Word.{Word}
use Rattle.group_queues.specs.declared.block.Word.TheVariants.{Taken}
use Rattle.group_queues.specs.DoneEvents.{DoneEvent, done_events_at, messages_of}
use Rattle.group_queues.specs.Flow.{Flow}
use Rattle.group_hand.specs.Hands.{Held, is_ours}

-- all that these events sent, in order
abbrev pub sent_by : {K : Type 0} → List (DoneEvent K) → List Message
sent_by [] = []
sent_by (d ∷ ds) = d.sent ++ sent_by ds

-- the antimessages of all that, the last sent first
abbrev pub taken_back : {K : Type 0} → List (DoneEvent K) → List Letter
taken_back ds = map minus_of (reverse (sent_by ds))

-- the state that is left when these events are undone, the newest first, each by its record
abbrev pub undone_events : {S K : Type 0} → Rules Message S K Note → List (DoneEvent K) → S → S
undone_events r [] now = now
undone_events r (d ∷ ds) now = r.undo (undone_events r ds now) d.message d.kept

-- of these letters those to members, and those to others
abbrev pub to_members : {S : Type 0} → List (Option S) → List Letter → List Letter
to_members members ls = filter (λ l. is_ours members l.message.receiver) ls

abbrev pub to_others : {S : Type 0} → List (Option S) → List Letter → List Letter
to_others members ls = filter (λ l. not (is_ours members l.message.receiver)) ls

-- the words that these were taken
abbrev pub words_taken : List Letter → List Word
words_taken ls = map (λ l. Taken l.message.receiver) ls

-- these letters, which were just posted, went on: those to members were taken to the back of the tray, the rest joined the letters for others
pub record WentOn {S : Type 0} (members : List (Option S)) (sent : List Letter) (old new : Flow) : Type 0 where
  pub tray : new.tray ≡ old.tray ++ to_members members sent
  pub abroad : new.abroad ≡ old.abroad ++ to_others members sent
  pub words : new.words ≡ old.words ++ words_taken (to_members members sent)
  pub keeps : new.keeps ≡ old.keeps

module _ {S K : Type 0} (o : Order Message) (l : Letter) (late : List (DoneEvent K)) (old new : Held S K) where
  -- those that were undone do not come before the message, and those that its receiver has still done do
  pub record AreLate : Type 0 where
    pub not_before : (m : Message) → IsIn o m (messages_of late) → o.less m l.message ≡ false
    pub before : (m : Message) → IsIn o m (messages_of (done_events_at o (o.receiver l.message) new.done)) → o.less m l.message ≡ true

  -- a plus of a message that counts less beside or is done; or a minus of one that counts more beside, or that is neither there nor counts more
  abbrev pub StaysBeside : Type 0
  StaysBeside =
      ((l.sign ≡ Plus) × ((signed_count o l.message old.flow.extra <ℤ pos 0) ⊎ IsIn o l.message (messages_of old.done)))
      ⊎ ((l.sign ≡ Minus) × ((pos 0 <ℤ signed_count o l.message old.flow.extra)
      ⊎ ((signed_count o l.message old.flow.extra ≤ℤ pos 0) × (times_in o l.message old.flow.queue ≡ 0) × (times_in o l.message (messages_of old.done) ≡ 0))))

  -- the letter counts beside, and nothing is undone
  pub record CountsMore : Type 0 where
    pub why : StaysBeside
    pub none : late ≡ []
    pub queue : IsPermutation old.flow.queue new.flow.queue
    pub extra : HaveSameCounts o new.flow.extra (l ∷ old.flow.extra)

  -- its message joins the queue, and so do those that were undone
  pub record JoinsQueue : Type 0 where
    pub sign : l.sign ≡ Plus
    pub beside : pos 0 ≤ℤ signed_count o l.message old.flow.extra
    pub not_done : times_in o l.message (messages_of old.done) ≡ 0
    pub undone : AreLate
    pub queue : IsPermutation (l.message ∷ (messages_of late ++ old.flow.queue)) new.flow.queue
    pub extra : HaveSameCounts o new.flow.extra old.flow.extra

  -- its message leaves the queue, and nothing is undone
  pub record LeavesQueue : Type 0 where
    pub sign : l.sign ≡ Minus
    pub beside : signed_count o l.message old.flow.extra ≤ℤ pos 0
    pub none : late ≡ []
    pub queue : IsPermutation old.flow.queue (l.message ∷ new.flow.queue)
    pub extra : HaveSameCounts o new.flow.extra old.flow.extra

  -- its message was done, and is undone; the others that were undone join the queue
  pub record IsUndone : Type 0 where
    pub sign : l.sign ≡ Minus
    pub beside : signed_count o l.message old.flow.extra ≤ℤ pos 0
    pub not_waiting : times_in o l.message old.flow.queue ≡ 0
    pub was_done : IsIn o l.message (messages_of old.done)
    pub undone : AreLate
    pub queue : IsPermutation (messages_of late ++ old.flow.queue) (l.message ∷ new.flow.queue)
    pub extra : HaveSameCounts o new.flow.extra old.flow.extra

module _ {S K : Type 0} (r : Rules Message S K Note) where
  -- the letter arrived, which was the first of the tray, with the rest behind it; and late events of its receiver were undone. What they sent is
  -- to go on as antimessages, `taken_back late`.
  pub record FrontArrived (l : Letter) (rest : List Letter) (late : List (DoneEvent K)) (old new : Held S K) : Type 0 where
    pub tray : old.flow.tray ≡ l ∷ rest
    -- the late ones are the last that the receiver had done; what others had done stays, and all is in order
    pub undone : done_events_at r.order (r.order.receiver l.message) old.done ≡ done_events_at r.order (r.order.receiver l.message) new.done ++ late
    pub kept : (q : ℕ) → (q ≡ r.order.receiver l.message → ⊥) → done_events_at r.order q new.done ≡ done_events_at r.order q old.done
    pub ascending : IsAscending r.order (messages_of old.done) → IsAscending r.order (messages_of new.done)
    -- the receiver is in the state in which they are undone, and no other member changed
    pub state : (s : S) → slice_get old.members (r.order.receiver l.message) ≡ Some (Some s) →
        slice_get new.members (r.order.receiver l.message) ≡ Some (Some (undone_events r late s))
    pub others : (q : ℕ) → (q ≡ r.order.receiver l.message → ⊥) → slice_get new.members q ≡ slice_get old.members q
    pub count : length new.members ≡ length old.members
    pub rows : new.rows ≡ old.rows
    -- how the letter counts
    pub counts : CountsMore r.order l late old new ⊎ (JoinsQueue r.order l late old new ⊎ (LeavesQueue r.order l late old new ⊎ IsUndone r.order l late old new))
