-- What each call does to an Exchange and to a Held.
use Rattle.std.specs.Prelude.{◌≡◌, ◌≢◌, ◌↔◌, ℕ, zero, suc, ◌+◌, ◌<◌, ◌≤◌, ◌==◌, ◌⊎◌, Bool, true, false, List, [], ◌∷◌, ◌++◌, take, length, replicate, set, Option, Some, None, ⊤, MatchOption}
use Rattle.vlink.specs.declared.message.Message.{Message}
use Rattle.vlink.specs.declared.note.Note.{Note}
use Rattle.vlink.specs.Numbering.{greatest_number}
use Rattle.vlink.specs.Letters.{Letter}
use Rattle.virtual_time.specs.Law.{earlier, Part, emptied, next_of, run_one, Simulation, gvt_over, local, after_moves, Collected, Posted, Published, acts_of, reach}
use Rattle.virtual_time.specs.declared.moved.Move.{Move}
use Rattle.virtual_time.specs.declared.moved.Move.TheVariants.{Arrived, Ran, Committed}
use Rattle.journal.specs.Deeds.{entry_by}
use Rattle.journal.specs.declared.fault.PoolFault.{PoolFault}
use Rattle.journal.specs.declared.fault.PoolFault.TheVariants.{OutOfMemory, Exhausted}
use Rattle.process_exchange.specs.declared.mark.Mark.{Mark}
use Rattle.process_exchange.specs.Views.{Ledger, HeldState}
use Rattle.reverse.specs.declared.sends.TheConstants.{MOST_SENT}

-- the last entry stands here, and GVT was seen at this moment
abbrev pub mark_at : Option ℕ → ℕ → Mark
mark_at place seen = record { place = place; seen = seen }

-- so many arrivals, then so many runs, then so many commits
abbrev pub turn : ℕ → ℕ → ℕ → List Move
turn arrivals runs commits = replicate arrivals Arrived ++ replicate runs Ran ++ replicate commits Committed

module _ {S K : Type 0} (f : Simulation Message S K Note) where
  -- these letters go from the front of the mail to the tray, and both marks note the GVT of the Exchange; none makes no entry
  abbrev pub collects : List Letter → Ledger → HeldState S → Ledger → HeldState S → Type 0
  collects [] x h y k =
      (y ≡ record {
        entries = x.entries;
        marks = set x.marks h.number (mark_at h.mark.place (reach f x.entries).gvt);
        shared = x.shared;
        limit = x.limit;
      })
      × (k ≡ record h { mark = mark_at h.mark.place (reach f x.entries).gvt })
  collects (a ∷ more) x h y k =
      (y ≡ record {
        entries = x.entries ++ entry_by h.number h.mark.place (Collected (a ∷ more)) ∷ [];
        marks = set x.marks h.number (mark_at (Some (length x.entries)) (reach f x.entries).gvt);
        shared = x.shared;
        limit = x.limit;
      })
      × (k ≡ record h {
        part = local f.rules (f.opening h.number) (acts_of (Collected (a ∷ more))) h.part;
        block = [];
        own = h.own ++ acts_of (Collected (a ∷ more));
        mark = mark_at (Some (length x.entries)) (reach f x.entries).gvt;
      })

  -- the first letters of its mail, so many or all where there are fewer, are collected
  abbrev pub Collects : ℕ → Ledger → HeldState S → Ledger → HeldState S → ℕ → Type 0
  Collects most x h y k count =
      (count ≡ length (take most ((reach f x.entries).mail h.number)))
      × collects (take most ((reach f x.entries).mail h.number)) x h y k

  -- the block goes to the journal, and the outbox to the mail; an empty block changes nothing
  abbrev pub posts : List Move → Ledger → HeldState S → Ledger → HeldState S → Type 0
  posts [] x h y k = (y ≡ x) × (k ≡ h)
  posts (m ∷ ms) x h y k =
      (y ≡ record {
        entries = x.entries ++ entry_by h.number h.mark.place (Posted (m ∷ ms)) ∷ [];
        marks = set x.marks h.number (mark_at (Some (length x.entries)) h.mark.seen);
        shared = x.shared;
        limit = x.limit;
      })
      × (k ≡ record h {
        part = emptied h.part;
        block = [];
        own = h.own ++ acts_of (Posted (m ∷ ms));
        mark = mark_at (Some (length x.entries)) h.mark.seen;
      })

  abbrev pub Posts : Ledger → HeldState S → Ledger → HeldState S → Type 0
  Posts x h y k = posts h.block x h y k

  -- GVT is set; where it is the one of before there is no entry
  abbrev pub publishes : Bool → Ledger → Ledger → Type 0
  publishes true x y = y ≡ x
  publishes false x y = y ≡ record { entries = x.entries ++ entry_by 0 None Published ∷ []; marks = x.marks; shared = x.shared; limit = x.limit }

  -- GVT is not what floors and mail tell
  abbrev pub IsHeldBack : Ledger → Type 0
  IsHeldBack x = gvt_over f f.processes (reach f x.entries) ≢ (reach f x.entries).gvt

  abbrev pub Publishes : Ledger → Ledger → ℕ → Type 0
  Publishes x y t =
      (t ≡ gvt_over f f.processes (reach f x.entries))
      × publishes (t == (reach f x.entries).gvt) x y

  -- the process did these steps, and they joined the block
  abbrev pub moved_by : List Move → HeldState S → HeldState S
  moved_by ms h = record h { part = after_moves f.rules (f.opening h.number) ms h.part; block = h.block ++ ms }

  -- a message that is earlier than the limit is handled next
  abbrev pub IsDueBefore : ℕ → Part Message S → Type 0
  IsDueBefore limit part = (m : Message) × (next_of f.rules.order part ≡ Some m) × (f.rules.order.time m < limit)

  -- its actor has not enough numbers left for all that one event can send
  abbrev pub WantsNumbers : Part Message S → Type 0
  WantsNumbers part = greatest_number < f.rules.counter part.state + MOST_SENT

  -- each of so many runs handles a message that is earlier than the limit
  abbrev pub RanEarly : ℕ → ℕ → Part Message S → Type 0
  RanEarly limit zero part = ⊤
  RanEarly limit (suc runs) part = (m : Message) × (next_of f.rules.order part ≡ Some m) × (f.rules.order.time m < limit) × RanEarly limit runs (run_one f.rules part)

  -- no message that can be handled is earlier than the limit
  abbrev pub IsIdleBefore : ℕ → Part Message S → Type 0
  IsIdleBefore limit part = MatchOption (next_of f.rules.order part) ⊤ (λ m. limit ≤ f.rules.order.time m)

  -- all letters of the tray arrive; then messages are handled that are earlier than the GVT seen and the window, `turn` at most, as long as
  -- there are any; then all done events below the GVT seen are committed
  pub record Works (most window : ℕ) (h k : HeldState S) (count : ℕ) : Type 0 where
    pub runs : ℕ
    pub commits : ℕ
    pub did : k ≡ moved_by (turn (length h.part.tray) runs commits) h
    pub told_count : count ≡ length h.part.tray + runs + commits
    pub within : runs ≤ most
    pub early : RanEarly (h.mark.seen + window) runs (moved_by (replicate (length h.part.tray) Arrived) h).part
    pub idle : (runs ≡ most) ⊎ IsIdleBefore (h.mark.seen + window) (moved_by (turn (length h.part.tray) runs 0) h).part
    pub committed_below : earlier f.rules.order h.mark.seen k.part.done ≡ []

  -- messages that are earlier than the limit are handled, so many at most, as long as there are any
  pub record Runs (most limit : ℕ) (h k : HeldState S) : Type 0 where
    pub runs : ℕ
    pub did : k ≡ moved_by (replicate runs Ran) h
    pub within : runs ≤ most
    pub early : RanEarly limit runs h.part
    pub idle : (runs ≡ most) ⊎ IsIdleBefore limit k.part

  -- refused as a letter of the tray was to arrive: only some letters arrived
  pub record StopsAtArrival (h k : HeldState S) (fault : PoolFault) : Type 0 where
    pub arrivals : ℕ
    pub did : k ≡ moved_by (replicate arrivals Arrived) h
    pub left : arrivals < length h.part.tray
    pub memory : fault ≡ OutOfMemory

  -- refused as a message was to be handled: fewer were handled than can be, each of them earlier than the limit, as the next one is.
  -- That numbers are wanting is told exactly where they are
  pub record StopsAtRun (most limit : ℕ) (h k : HeldState S) (fault : PoolFault) : Type 0 where
    pub runs : ℕ
    pub did : k ≡ moved_by (replicate runs Ran) h
    pub within : runs < most
    pub early : RanEarly limit runs h.part
    pub due : IsDueBefore limit k.part
    pub numbers : (fault ≡ Exhausted) ↔ WantsNumbers k.part

  -- refused as an event was to be committed: there is one that is earlier than the GVT seen
  pub record StopsAtCommit (h k : HeldState S) (fault : PoolFault) : Type 0 where
    pub commits : ℕ
    pub did : k ≡ moved_by (replicate commits Committed) h
    pub left : earlier f.rules.order h.mark.seen k.part.done ≢ []
    pub memory : fault ≡ OutOfMemory

  -- all letters of the tray arrive
  abbrev pub all_arrived : HeldState S → HeldState S
  all_arrived h = moved_by (replicate (length h.part.tray) Arrived) h

  -- a refusal comes at a step of `Works` that was to be done, and all before it were done: an arrival, a run, or a commit
  abbrev pub WorksSome : ℕ → ℕ → HeldState S → HeldState S → PoolFault → Type 0
  WorksSome most window h k fault =
      StopsAtArrival h k fault ⊎
      (StopsAtRun most (h.mark.seen + window) (all_arrived h) k fault ⊎
      ((ran : HeldState S) × Runs most (h.mark.seen + window) (all_arrived h) ran × StopsAtCommit ran k fault))
