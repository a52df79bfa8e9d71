-- The one-thread run of a list of actors: when actors, waiting messages and rows are those of the run.
use Rattle.std.specs.Prelude.{◌≡◌, ℕ, suc, ◌+◌, ◌<◌, ◌≤◌, List, [], Some}
use Rattle.vlink.specs.declared.message.Message.{Message}
use Rattle.vlink.specs.declared.note.Note.{Note}
use Rattle.vlink.specs.Numbering.{greatest_number}
use Rattle.vlink.specs.Letters.{Row}
use Rattle.virtual_time.specs.Law.{Rules, least, times_in, Simulation, Laws, one}
use Rattle.reverse.specs.Setting.{Setting, simulation_of, AreInStates, Opens}
use Rattle.reverse.specs.declared.sends.TheConstants.{MOST_SENT}

module _ {S K : Type 0} (f : Simulation Message S K Note) where
  -- the actors, the messages in the heap and the rows are those of the run after n events. Of the messages only how many times each is
  -- there counts, and not their order.
  pub record StandsAt (n : ℕ) (actors : List S) (heap : List Message) (rows : List Row) : Type 0 where
    pub states : AreInStates f.processes (one f n).states actors
    pub waiting : (m : Message) → times_in f.rules.order m heap ≡ times_in f.rules.order m (one f n).waiting
    pub rows_are : rows ≡ (one f n).rows

  -- after n events the first waiting message is for an actor that has not enough numbers left for all that one event can send
  abbrev pub IsExhaustedAt : ℕ → Type 0
  IsExhaustedAt n =
      (m : Message) × (least f.rules.order (one f n).waiting ≡ Some m) × (greatest_number < f.rules.counter ((one f n).states (f.rules.order.receiver m)) + MOST_SENT)

  -- from the n-th event on no actor wants numbers
  abbrev pub HasNumbersFrom : ℕ → Type 0
  HasNumbersFrom n = (k : ℕ) → n ≤ k → IsExhaustedAt k → ⊥

  -- after n events the first waiting message was for an actor that had numbers left. It was handled, and the actors stand as they do then
  abbrev pub IsCutOffAt : ℕ → List S → Type 0
  IsCutOffAt n actors = (IsExhaustedAt n → ⊥) × AreInStates f.processes (one f (suc n)).states actors

  -- in the run after some number of events nothing waits any more, its rows are these, and the actors are in its states
  abbrev pub IsWholeRun : List Row → List S → Type 0
  IsWholeRun rows actors =
      (n : ℕ) × ((one f n).waiting ≡ []) × (rows ≡ (one f n).rows) × AreInStates f.processes (one f n).states actors

  -- the actors are in the states of the run after some number of events
  abbrev pub AreOnTheWay : List S → Type 0
  AreOnTheWay actors = (n : ℕ) × AreInStates f.processes (one f n).states actors

module _ {S K : Type 0} (r : Rules Message S K Note) where
  -- the actors, the messages in the heap and the rows are those of some simulation that meets its laws, after some events
  abbrev pub IsRunning : List S → List Message → List Row → Type 0
  IsRunning actors heap rows =
      (x : Setting S) × Laws (simulation_of r x) × (n : ℕ) × StandsAt (simulation_of r x) n actors heap rows

  -- P holds of each simulation that meets its laws, and each number of events after which these are its actors, messages and rows
  abbrev pub AtEach : List S → List Message → List Row → (Simulation Message S K Note → ℕ → Type 0) → Type 0
  AtEach actors heap rows P =
      (x : Setting S) → Laws (simulation_of r x) → (n : ℕ) → StandsAt (simulation_of r x) n actors heap rows → P (simulation_of r x) n

  -- the actors and offers are those of some simulation that meets its laws
  abbrev pub CanRun : List S → List Message → Type 0
  CanRun actors offers = (x : Setting S) × Opens x actors offers × Laws (simulation_of r x)

  -- P holds of each simulation that meets its laws and has these actors and offers
  abbrev pub OfEach : List S → List Message → (Simulation Message S K Note → Type 0) → Type 0
  OfEach actors offers P = (x : Setting S) → Opens x actors offers → Laws (simulation_of r x) → P (simulation_of r x)
