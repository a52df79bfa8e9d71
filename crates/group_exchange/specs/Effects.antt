-- What each call does to an exchange of groups and to a group.
use Rattle.std.specs.Prelude.{◌≡◌, ◌≢◌, ℕ, ◌+◌, ◌<◌, ◌≤◌, ◌==◌, ◌⊎◌, Bool, true, false, List, [], ◌∷◌, ◌++◌, map, length, set, All, IsSome, Some, ⊤}
use Rattle.vlink.specs.declared.message.Message.{Message}
use Rattle.vlink.specs.declared.note.Note.{Note}
use Rattle.vlink.specs.Numbering.{greatest_number}
use Rattle.vlink.specs.Letters.{Letter}
use Rattle.virtual_time.specs.Law.{Order, Simulation, Part, World, next_of, received_by, gvt_over, AreBy, AreDone, behind, done_by, start, waiting_in}
use Rattle.virtual_time.specs.declared.step.Step.{Step}
use Rattle.virtual_time.specs.declared.step.Step.TheVariants.{Take, Arrive, Run, Post, Gvt, Commit}
use Rattle.journal.specs.declared.fault.PoolFault.{PoolFault}
use Rattle.journal.specs.declared.fault.PoolFault.TheVariants.{OutOfMemory, Exhausted}
use Rattle.group_queues.specs.declared.block.Word.{Word}
use Rattle.group_queues.specs.Block.{commits_in, runs_in, steps_told}
use Rattle.group_queues.specs.DoneEvents.{messages_of}
use Rattle.group_hand.specs.Answered.{WaitsBefore}
use Rattle.group_hand.specs.Hands.{Held}
use Rattle.group_exchange.specs.Views.{Ledger, GroupState, is_of, mark_at, block_of, world_after, in_group}
use Rattle.reverse.specs.declared.sends.TheConstants.{MOST_SENT}

-- each letter is taken by its receiver, the first of its mail
abbrev pub takes_of : Order Message → List Letter → List Step
takes_of o ls = map (λ l. Take (o.receiver l.message) 0) ls

-- these letters came to the back of the tray. Here and below, for how much more there is room may change too
abbrev pub TookLetters : {S K : Type 0} → List Letter → Held S K → Held S K → Type 0
TookLetters letters old new = new ≡ record old { flow = record old.flow { tray = old.flow.tray ++ letters; room = new.flow.room } }

-- its letters to others and its block left; messages that are done already may count beside in place of waiting
abbrev pub LeftBlock : {S K : Type 0} → Held S K → Held S K → Type 0
LeftBlock old new = new ≡ record old { flow = record old.flow { queue = new.flow.queue; extra = new.flow.extra; abroad = []; words = []; room = new.flow.room } }

-- nothing changed
abbrev pub IsGroupAsBefore : {S K : Type 0} → GroupState S K → GroupState S K → Type 0
IsGroupAsBefore old new = new ≡ record old { held = record old.held { flow = record old.held.flow { room = new.held.flow.room } } }

-- nothing changed but that messages that are done already may count beside in place of waiting
abbrev pub CountsDone : {S K : Type 0} → GroupState S K → GroupState S K → Type 0
CountsDone old new =
    new ≡ record old { held = record old.held { flow = record old.held.flow { queue = new.held.flow.queue; extra = new.held.flow.extra; room = new.held.flow.room } } }

module _ {S K : Type 0} (f : Simulation Message S K Note) where
  -- more than so many steps can be done, one after another
  pub record CanDoMore (most : ℕ) : Type 0 where
    pub steps : List Step
    pub enabled : AreDone f steps (start f)
    pub many : most < length steps

  -- a step that handles a message handles one that is earlier than the limit, and before which none of these processes has one to handle, where no
  -- letter waits to arrive at them
  abbrev pub IsTimely : ℕ → (ℕ → Bool) → Step → World Message S → Type 0
  IsTimely limit ours (Take p i) v = ⊤
  IsTimely limit ours (Arrive p) v = ⊤
  IsTimely limit ours (Run p) v =
      ((m : Message) × (next_of f.rules.order (v.parts p) ≡ Some m) × (f.rules.order.time m < limit)
      × ((q : ℕ) → ours q ≡ true → (y : Message) → next_of f.rules.order (v.parts q) ≡ Some y → f.rules.order.less y m ≡ false))
      × ((q : ℕ) → ours q ≡ true → (v.parts q).tray ≡ [])
  IsTimely limit ours (Post p) v = ⊤
  IsTimely limit ours Gvt v = ⊤
  IsTimely limit ours (Commit p) v = ⊤

  -- so does each of these steps, one after another
  abbrev pub AreTimely : ℕ → (ℕ → Bool) → List Step → World Message S → Type 0
  AreTimely limit ours [] v = ⊤
  AreTimely limit ours (x ∷ xs) v = IsTimely limit ours x v × AreTimely limit ours xs (done_by f (x ∷ []) v)

module _ {S K : Type 0} (f : Simulation Message S K Note) (owners : List ℕ) where
  -- all letters that wait for processes of the group were taken, so many; both marks note the steps of the journal then, and the GVT of the exchange
  pub record Collects (x : Ledger) (h : GroupState S K) (y : Ledger) (k : GroupState S K) (count : ℕ) : Type 0 where
    pub letters : List Letter
    pub count_is : count ≡ length letters
    pub home : All (λ l. is_of owners h.number (f.rules.order.receiver l.message) ≡ true) letters
    pub whole : (p : ℕ) → is_of owners h.number p ≡ true → (world_after f x.steps).mail p ≡ received_by f.rules.order p letters
    pub exchange : y ≡ record { steps = x.steps ++ takes_of f.rules.order letters; marks = set x.marks h.number (mark_at k); limit = x.limit }
    pub group : k ≡ record h { held = k.held; last = y.steps; seen = (world_after f x.steps).gvt }
    pub held : TookLetters letters h.held k.held

  -- these letters are all that wait for the group
  pub record AreWaiting (x : Ledger) (h : GroupState S K) (letters : List Letter) : Type 0 where
    pub home : All (λ l. is_of owners h.number (f.rules.order.receiver l.message) ≡ true) letters
    pub whole : (p : ℕ) → is_of owners h.number p ≡ true → (world_after f x.steps).mail p ≡ received_by f.rules.order p letters

  -- the steps of the block as they are in the journal: each Take is behind the letters that wait there
  abbrev pub block_in : Ledger → GroupState S K → List Step
  block_in x h = map (behind (waiting_in f (world_after f x.steps))) (block_of h)

  -- the block went to the journal, and the letters to others on their way
  pub record PostsBlock (x : Ledger) (h : GroupState S K) (y : Ledger) (k : GroupState S K) : Type 0 where
    pub exchange : y ≡ record { steps = x.steps ++ block_in x h; marks = set x.marks h.number (mark_at k); limit = x.limit }
    pub group : k ≡ record h { held = k.held; last = y.steps }
    pub held : LeftBlock h.held k.held

  -- an empty block changes nothing
  abbrev pub posts : List Word → Ledger → GroupState S K → Ledger → GroupState S K → Type 0
  posts [] x h y k = (y ≡ x) × IsGroupAsBefore h k
  posts (d ∷ ds) x h y k = PostsBlock x h y k

  abbrev pub Posts : Ledger → GroupState S K → Ledger → GroupState S K → Type 0
  Posts x h y k = posts h.held.flow.words x h y k

  -- GVT is set; where it is the one of before there is no step
  abbrev pub publishes : Bool → Ledger → Ledger → Type 0
  publishes true x y = y ≡ x
  publishes false x y = y ≡ record { steps = x.steps ++ Gvt ∷ []; marks = x.marks; limit = x.limit }

  -- GVT is not what floors and letters on their way tell
  abbrev pub IsHeldBack : Ledger → Type 0
  IsHeldBack x = gvt_over f f.processes (world_after f x.steps) ≢ (world_after f x.steps).gvt

  abbrev pub Publishes : Ledger → Ledger → ℕ → Type 0
  Publishes x y t =
      (t ≡ gvt_over f f.processes (world_after f x.steps))
      × publishes (t == (world_after f x.steps).gvt) x y

  -- the group did these words, which joined the block: each of their steps could be done, and is one of its own processes
  pub record Went (did : List Word) (h k : GroupState S K) : Type 0 where
    pub words : k.held.flow.words ≡ h.held.flow.words ++ did
    pub by : AreBy (is_of owners h.number) (steps_told did)
    pub enabled : AreDone f (steps_told did) (in_group f h)
    pub ends : in_group f k ≡ done_by f (steps_told did) (in_group f h)
    pub others : k ≡ record h { held = k.held }

  -- some words joined the block: letters arrived, and messages were handled that are earlier than the limit, each where no letter waited
  pub record Goes (limit : ℕ) (h k : GroupState S K) : Type 0 where
    pub did : List Word
    pub went : Went did h k
    pub timely : AreTimely f limit (is_of owners h.number) (steps_told did) (in_group f h)
    pub no_commit : commits_in did ≡ 0

  -- words of committed events joined the block
  pub record Ends (h k : GroupState S K) : Type 0 where
    pub did : List Word
    pub went : Went did h k
    pub commits : commits_in did ≡ length did

  -- a message that is earlier than the limit waits at no process of the group
  abbrev pub IsIdleBefore : ℕ → GroupState S K → Type 0
  IsIdleBefore limit k = All (λ m. limit ≤ f.rules.order.time m) k.held.flow.queue

  -- all letters of the tray arrive; then messages are handled that are earlier than the GVT seen and the window, `most` at most, as long as there are
  -- any; then all done events below the GVT seen are committed
  pub record Works (most window : ℕ) (h k : GroupState S K) (count : ℕ) : Type 0 where
    pub did : List Word
    pub went : Went did h k
    -- words of letters and of messages that were handled, and then those of committed events
    pub worked : List Word
    pub ended : List Word
    pub parts : did ≡ worked ++ ended
    pub no_commit : commits_in worked ≡ 0
    pub commits : commits_in ended ≡ length ended
    -- so many messages were handled, each earlier than the GVT seen and the window, where no letter waited
    pub counted : runs_in worked ≡ count
    pub within : count ≤ most
    pub timely : AreTimely f (h.seen + window) (is_of owners h.number) (steps_told worked) (in_group f h)
    -- there were no more of them, unless there were as many as could be
    pub idle : (count ≡ most) ⊎ IsIdleBefore (h.seen + window) k
    pub arrived : k.held.flow.tray ≡ []
    pub committed_below : All (λ m. h.seen ≤ f.rules.order.time m) (messages_of k.held.done)

  -- its actor has not enough numbers left for all that one event can send, and a message to handle
  abbrev pub WantsNumbers : Part Message S → Type 0
  WantsNumbers part = IsSome (next_of f.rules.order part) × (greatest_number < f.rules.counter part.state + MOST_SENT)

  -- a process of the group has a message to handle, and too few numbers left
  abbrev pub IsShort : GroupState S K → Type 0
  IsShort k = (p : ℕ) × (is_of owners k.number p ≡ true) × WantsNumbers ((in_group f k).parts p)

  -- and some message of the group is earlier than the limit
  abbrev pub IsShortBefore : ℕ → GroupState S K → Type 0
  IsShortBefore limit k = IsShort k × WaitsBefore limit k.held

  -- a refusal leaves what was done before it. That numbers are wanting is reported only where they are, for a message within the window
  pub record WorksSome (window : ℕ) (h k : GroupState S K) (fault : PoolFault) : Type 0 where
    pub did : List Word
    pub went : Went did h k
    -- each message that was handled is earlier than the GVT seen and the window, and no letter waited
    pub timely : AreTimely f (h.seen + window) (is_of owners h.number) (steps_told did) (in_group f h)
    pub numbers : fault ≡ Exhausted → (p : ℕ) × (is_of owners h.number p ≡ true) × WantsNumbers ((in_group f k).parts p)
    pub early : fault ≡ Exhausted → WaitsBefore (h.seen + window) k.held
    pub faults : (fault ≡ OutOfMemory) ⊎ (fault ≡ Exhausted)
