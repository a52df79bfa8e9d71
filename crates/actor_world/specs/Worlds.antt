-- The data of a world in a program, and when it represents a world of the laws of virtual time.
use Rattle.std.specs.Prelude.{◌≡◌, ℕ, ◌+◌, ◌<◌, List, [], ◌∷◌, length, slice_get, Some, IsSome, ⊤}
use Rattle.vlink.specs.declared.message.Message.{Message}
use Rattle.vlink.specs.declared.note.Note.{Note}
use Rattle.vlink.specs.Numbering.{greatest_number}
use Rattle.virtual_time.specs.Law.{Rules, opened, next_of, Simulation, World, start, run}
use Rattle.virtual_time.specs.declared.step.Step.{Step}
use Rattle.virtual_time.specs.declared.step.Step.TheVariants.{Run}
use Rattle.reverse.specs.Setting.{Setting, simulation_of, Opens, IsLaidOut}
use Rattle.antimessages.specs.Letters.{Store}
use Rattle.antimessages.specs.Mailing.{letters_for}
use Rattle.process_queues.specs.Queues.{Queues, StandsFor}
use Rattle.reverse.specs.declared.sends.TheConstants.{MOST_SENT}

-- the processes by their numbers, the mail, the floors, GVT and the end time
pub record Holdings (S K : Type 0) : Type 0 where
  pub processes : List (Queues S K)
  pub mail : List Store
  pub floors : List ℕ
  pub gvt : ℕ
  pub until : ℕ

-- process for process, the queues are those of a process that has done nothing, with this actor in its opening state
abbrev pub AreOpened : {S K : Type 0} → Rules Message S K Note → (S → Message → Type 0) → List S → List (Queues S K) → Type 0
AreOpened r is_value [] [] = ⊤
AreOpened r is_value (actor ∷ actors) (q ∷ qs) = StandsFor r is_value actor (opened actor) q × AreOpened r is_value actors qs
AreOpened r is_value [] (q ∷ qs) = ⊥
AreOpened r is_value (actor ∷ actors) [] = ⊥

-- process for process, what is held is the world of a simulation
pub record StandsForWorld {S K : Type 0} (f : Simulation Message S K Note) (is_value : S → Message → Type 0) (w : World Message S) (held : Holdings S K) : Type 0 where
  pub count : length held.processes ≡ f.processes
  pub parts : (p : ℕ) (q : Queues S K) → slice_get held.processes p ≡ Some q → StandsFor f.rules is_value (f.opening p) (w.parts p) q
  -- no row has left
  pub whole : (p : ℕ) (q : Queues S K) → slice_get held.processes p ≡ Some q → q.left ≡ 0
  pub boxes : length held.mail ≡ f.processes
  pub mail : (p : ℕ) → p < f.processes → letters_for p held.mail ≡ w.mail p
  pub floor_count : length held.floors ≡ f.processes
  pub floors : (p : ℕ) → p < f.processes → slice_get held.floors p ≡ Some (w.floors p)
  pub gvt : held.gvt ≡ w.gvt
  pub until : held.until ≡ f.until

-- both hold the same, whatever room their mail has
pub record HoldsTheSame {S K : Type 0} (old new : Holdings S K) : Type 0 where
  pub processes : new.processes ≡ old.processes
  pub boxes : length new.mail ≡ length old.mail
  pub mail : (p : ℕ) → letters_for p new.mail ≡ letters_for p old.mail
  pub floors : new.floors ≡ old.floors
  pub gvt : new.gvt ≡ old.gvt
  pub until : new.until ≡ old.until

-- the step is Run of a process that there is, which has a next message, and not enough numbers left for all that one event can send
abbrev pub IsExhausted : {S K : Type 0} → Simulation Message S K Note → Step → World Message S → Type 0
IsExhausted f (Run p) w = (p < f.processes) × IsSome (next_of f.rules.order (w.parts p)) × (greatest_number < f.rules.counter (w.parts p).state + MOST_SENT)
IsExhausted f _ w = ⊥

module _ {S K : Type 0} (r : Rules Message S K Note) (number end : S → ℕ) (is_placed : S → Type 0) (is_value : S → Message → Type 0) where
  -- P holds of the simulation of each setting that is laid out, and of the world after each list of steps for which this stands
  abbrev pub AtEachWorld : Holdings S K → (Simulation Message S K Note → World Message S → Type 0) → Type 0
  AtEachWorld held P =
      (x : Setting S) → IsLaidOut r number end is_placed x → (steps : List Step) →
      StandsForWorld (simulation_of r x) is_value (run (simulation_of r x) steps (start (simulation_of r x))) held →
      P (simulation_of r x) (run (simulation_of r x) steps (start (simulation_of r x)))

  -- it stands for the world after some steps, in the simulation of some setting that is laid out
  abbrev pub IsAWorld : Holdings S K → Type 0
  IsAWorld held =
      (x : Setting S) × IsLaidOut r number end is_placed x × (steps : List Step) ×
      StandsForWorld (simulation_of r x) is_value (run (simulation_of r x) steps (start (simulation_of r x))) held

  -- the actors and offers are those of some setting that is laid out and has this end time
  abbrev pub CanOpen : List S → List Message → ℕ → Type 0
  CanOpen actors offers until = (x : Setting S) × Opens x actors offers × (x.until ≡ until) × IsLaidOut r number end is_placed x
