-- What one thread does to the journal of a run, of which it holds the exchange and all groups.
use Rattle.std.specs.Prelude.{◌≡◌, ℕ, suc, ◌+◌, ◌<◌, ◌≤◌, ◌==◌, ◌⊎◌, Bool, cond, List, [], ◌∷◌, ◌++◌, slice_get, Some}
use Rattle.vlink.specs.declared.message.Message.{Message}
use Rattle.vlink.specs.declared.note.Note.{Note}
use Rattle.virtual_time.specs.Law.{IsIn, Order, Simulation, start, run, gvt_over}
use Rattle.virtual_time.specs.declared.step.Step.{Step}
use Rattle.ends.specs.Rounds.{IsTurn, IsRound, Turn, steps_in}
use Rattle.group_queues.specs.DoneEvents.{messages_of}
use Rattle.group_exchange.specs.Views.{GroupState}
use Rattle.group_exchange.specs.Effects.{WantsNumbers}
use Rattle.journal.specs.declared.fault.PoolFault.{PoolFault}
use Rattle.journal.specs.declared.fault.PoolFault.TheVariants.{OutOfMemory, Exhausted, JournalFull}

module _ {M S K N : Type 0} (f : Simulation M S K N) where
  -- these processes had a turn
  pub record TookTurn (ours : ℕ → Bool) (xs ys : List Step) : Type 0 where
    pub steps : List Step
    pub journal : ys ≡ xs ++ steps
    pub is_turn : IsTurn f ours steps (run f xs (start f))

  -- GVT is this one, and is the least of floors and of letters in the mail
  pub record IsPublished (xs : List Step) (gvt : ℕ) : Type 0 where
    pub is : (run f xs (start f)).gvt ≡ gvt
    pub least : gvt_over f f.processes (run f xs (start f)) ≡ gvt

  -- where GVT is the least of floors and of letters in the mail, this was a round
  pub record TookRound (xs ys : List Step) : Type 0 where
    pub turns : List Turn
    pub journal : ys ≡ xs ++ steps_in turns
    pub is_round : gvt_over f f.processes (run f xs (start f)) ≡ (run f xs (start f)).gvt → IsRound f turns (run f xs (start f))

-- each group is at the place of its number
abbrev pub AreInPlace : {S K : Type 0} → List (GroupState S K) → Type 0
AreInPlace groups = (g : ℕ) (group : GroupState _ _) → slice_get groups g ≡ Some group → group.number ≡ g

-- so are those at the first places
abbrev pub AreInPlaceBefore : {S K : Type 0} → ℕ → List (GroupState S K) → Type 0
AreInPlaceBefore count groups = (g : ℕ) (group : GroupState _ _) → g < count → slice_get groups g ≡ Some group → group.number ≡ g

-- one if the group is not at the place of its number
abbrev pub stray : {S K : Type 0} → ℕ → GroupState S K → ℕ
stray place group = cond (group.number == place) 0 1

-- how many groups are not, of those from a place on
abbrev pub astray : {S K : Type 0} → ℕ → List (GroupState S K) → ℕ
astray place [] = 0
astray place (group ∷ groups) = stray place group + astray (suc place) groups

-- a group after its turn: it has no block and has seen this GVT, and what it has done and not committed is not earlier, nor after the end
pub record HasRested {S K : Type 0} (o : Order Message) (until gvt : ℕ) (k : GroupState S K) : Type 0 where
  pub words : k.held.flow.words ≡ []
  pub seen : k.seen ≡ gvt
  pub late : (m : Message) → IsIn o m (messages_of k.held.done) → gvt ≤ o.time m
  pub in_time : (m : Message) → IsIn o m (messages_of k.held.done) → o.time m ≤ until

-- so are the first groups
abbrev pub HaveRested : {S K : Type 0} → Order Message → ℕ → ℕ → ℕ → List (GroupState S K) → Type 0
HaveRested o until gvt count groups = (g : ℕ) → g < count → (group : GroupState _ _) → slice_get groups g ≡ Some group → HasRested o until gvt group

-- a group for which the run is over: it has no block, has seen a GVT beyond the end, and has committed all that it has done
pub record IsOver {S K : Type 0} (until : ℕ) (k : GroupState S K) : Type 0 where
  pub words : k.held.flow.words ≡ []
  pub seen : until < k.seen
  pub done : k.held.done ≡ []

abbrev pub AreOver : {S K : Type 0} → ℕ → List (GroupState S K) → Type 0
AreOver until groups = (g : ℕ) (group : GroupState _ _) → slice_get groups g ≡ Some group → IsOver until group

-- why a call is refused: memory, room in the journal, or numbers
abbrev pub IsRefusal : PoolFault → Type 0
IsRefusal fault = (fault ≡ OutOfMemory) ⊎ ((fault ≡ JournalFull) ⊎ (fault ≡ Exhausted))

-- rows of the group have left it, and nothing else changed
abbrev pub OnlyRowsLeft : {S K : Type 0} → GroupState S K → GroupState S K → Type 0
OnlyRowsLeft old new = new ≡ record old { held = record old.held { rows = new.held.rows }; gone = new.gone }

-- some run uses up numbers: after these steps this process has a message to handle, and too few numbers left for what that can send
pub record UsesUp {S K : Type 0} (f : Simulation Message S K Note) (owners : List ℕ) : Type 0 where
  pub steps : List Step
  pub process : ℕ
  pub within : process < f.processes
  pub wanting : WantsNumbers f owners ((run f steps (start f)).parts process)
