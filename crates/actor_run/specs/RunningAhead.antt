-- The one-thread run of a list of actors of which some run ahead: when actors, waiting messages and rows are those of the run.
use Rattle.std.specs.Prelude.{◌≡◌, ℕ, ◌+◌, ◌<◌, ◌≤◌, Bool, true, false, nat_le, List, [], ◌∷◌, ◌++◌, length, slice_get, unwrap_or, IsPermutation, Some}
use Rattle.vlink.specs.declared.message.Message.{Message}
use Rattle.vlink.specs.declared.note.Note.{Note}
use Rattle.vlink.specs.declared.time.TheConstants.{GREATEST_NS}
use Rattle.vlink.specs.Numbering.{greatest_number}
use Rattle.vlink.specs.Letters.{Row}
use Rattle.virtual_time.specs.Law.{Rules, Simulation, Laws, least, times_in}
use Rattle.reverse.specs.Setting.{Setting, simulation_of, AreInStates}
use Rattle.reverse.specs.declared.sends.TheConstants.{MOST_SENT}
use Rattle.runs_ahead.specs.Ahead.{in_place_of, one_ahead, passed_all}
use Rattle.runs_ahead.specs.Standing.{AnswersGood, IsGoodEvent, RunAhead}
use Rattle.actor_run.specs.Load.{load}
use Rattle.actor_run.specs.Running.{StandsAt}

-- the actor with this number is marked
abbrev pub is_marked : List Bool → ℕ → Bool
is_marked marks p = unwrap_or (slice_get marks p) false

-- the actor has numbers left for all that one event can send
abbrev pub has_room : {S K : Type 0} → Rules Message S K Note → S → Bool
has_room r s = nat_le (r.counter s + MOST_SENT) greatest_number

module _ {S K : Type 0} (f : Simulation Message S K Note) (ahead : ℕ → Bool) where
  -- the actors, the messages in the heap and the rows are those of the run after n events
  pub record StandsAhead (n : ℕ) (actors : List S) (heap : List Message) (rows : List Row) : Type 0 where
    pub states : AreInStates f.processes (one_ahead f ahead n).states actors
    pub waiting : (m : Message) → times_in f.rules.order m heap ≡ times_in f.rules.order m (one_ahead f ahead n).waiting
    pub rows_are : rows ≡ (one_ahead f ahead n).rows

  -- in the event after n events, and in its answers, no actor wants numbers
  abbrev pub HasRoomAt : ℕ → Type 0
  HasRoomAt n = (m : Message) → least f.rules.order (one_ahead f ahead n).waiting ≡ Some m → IsGoodEvent f ahead (has_room f.rules) (one_ahead f ahead n) m

module _ {S K : Type 0} (r : Rules Message S K Note) (ahead : ℕ → Bool) where
  -- the actors, messages and rows are those of some simulation in which these actors can run ahead, after some events
  abbrev pub IsRunningAhead : List S → List Message → List Row → Type 0
  IsRunningAhead actors heap rows =
      (x : Setting S) × Laws (simulation_of r x) × (from : ℕ → ℕ) × RunAhead (simulation_of r x) ahead from × (n : ℕ) × StandsAhead (simulation_of r x) ahead n actors heap rows

  -- P holds of each such simulation, and each number of events after which these are its actors, messages and rows
  abbrev pub AtEachAhead : List S → List Message → List Row → (Simulation Message S K Note → ℕ → Type 0) → Type 0
  AtEachAhead actors heap rows P =
      (x : Setting S) → Laws (simulation_of r x) → (from : ℕ → ℕ) → RunAhead (simulation_of r x) ahead from → (n : ℕ) → StandsAhead (simulation_of r x) ahead n actors heap rows →
      P (simulation_of r x) n

  -- the actors and messages open some simulation in which these actors can run ahead
  abbrev pub CanRunAhead : List S → List Message → Type 0
  CanRunAhead actors heap =
      (x : Setting S) × Laws (simulation_of r x) × (from : ℕ → ℕ) × RunAhead (simulation_of r x) ahead from × StandsAt (simulation_of r x) 0 actors heap []

  -- P holds of each simulation that they open, and in which these actors can run ahead
  abbrev pub OfEachOpened : List S → List Message → (Simulation Message S K Note → Type 0) → Type 0
  OfEachOpened actors heap P =
      (x : Setting S) → Laws (simulation_of r x) → (from : ℕ → ℕ) → RunAhead (simulation_of r x) ahead from → StandsAt (simulation_of r x) 0 actors heap [] → P (simulation_of r x)

  -- what was sent has been passed on: actors that run ahead have handled it, and what waits now are the messages of the heap, and what waits
  -- in the place of each message that was sent
  pub record HavePassed (actors : List S) (heap ms : List Message) (later : List S) (more : List Message) : Type 0 where
    pub count : length later ≡ length actors
    pub states : (x : Setting S) (g : ℕ → S) → AreInStates x.processes g actors → AreInStates x.processes (passed_all (simulation_of r x) ahead g ms) later
    pub waiting : (x : Setting S) (g : ℕ → S) → AreInStates x.processes g actors → IsPermutation (heap ++ in_place_of (simulation_of r x) ahead g ms) more
    pub numbers : (x : Setting S) (g : ℕ → S) → AreInStates x.processes g actors → AnswersGood (simulation_of r x) ahead (has_room r) g ms
    pub lighter : load GREATEST_NS more ≤ load GREATEST_NS heap + load GREATEST_NS ms

  -- the message is for an actor that runs ahead and that wants numbers
  abbrev pub IsStuck : List S → Message → Type 0
  IsStuck actors m =
      (x : Setting S) (g : ℕ → S) → AreInStates x.processes g actors → (ahead (r.order.receiver m) ≡ true) × (greatest_number < r.counter (g (r.order.receiver m)) + MOST_SENT)

  -- so is one of these messages, when those before it have been passed on
  pub record AreStuckAt (ms : List Message) (x : Setting S) (g : ℕ → S) : Type 0 where
    pub before : List Message
    pub stuck : Message
    pub behind : List Message
    pub split : ms ≡ before ++ stuck ∷ behind
    pub runs : ahead (r.order.receiver stuck) ≡ true
    pub wants : greatest_number < r.counter (passed_all (simulation_of r x) ahead g before (r.order.receiver stuck)) + MOST_SENT

  abbrev pub AreStuck : List S → List Message → Type 0
  AreStuck actors ms = (x : Setting S) (g : ℕ → S) → AreInStates x.processes g actors → AreStuckAt ms x g
