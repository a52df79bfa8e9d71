-- Actors in a simulation: the setting besides the rules that they give, when actors and messages open it, and how it must be laid out.
use Rattle.std.specs.Prelude.{◌≡◌, ℕ, ◌<◌, ◌≤◌, List, length, slice_get, Some}
use Rattle.vlink.specs.declared.message.Message.{Message}
use Rattle.vlink.specs.declared.note.Note.{Note}
use Rattle.virtual_time.specs.Law.{Rules, IsIn, times_in, Simulation, IsReached}

-- what is simulated, but for the rules of its actors: how many processes there are, the end time, the opening states and the offers
pub record Setting (S : Type 0) : Type 0 where
  pub processes : ℕ
  pub until : ℕ
  pub opening : ℕ → S
  pub offers : List Message

-- the simulation of actors with these rules
abbrev pub simulation_of : {S K : Type 0} → Rules Message S K Note → Setting S → Simulation Message S K Note
simulation_of rules x =
    record {
      rules = rules;
      processes = x.processes;
      until = x.until;
      opening = x.opening;
      offers = x.offers;
    }

-- actor p is in the state of process p, and there are as many as processes
pub record AreInStates {S : Type 0} (processes : ℕ) (states : ℕ → S) (actors : List S) : Type 0 where
  pub count : length actors ≡ processes
  pub each : (p : ℕ) → p < processes → slice_get actors p ≡ Some (states p)

-- the actors open the simulation, and the messages are its offers
pub record Opens {S : Type 0} (x : Setting S) (actors : List S) (offers : List Message) : Type 0 where
  pub actors_open : AreInStates x.processes x.opening actors
  pub offered : offers ≡ x.offers

-- what a setting must have besides what each actor keeps to: actor p is told p as its number, runs to the end time and has the fixed parts
-- of a process; what it sends goes to processes; and each offer is there once, comes from no process, goes to one, and is not after the end
pub record IsLaidOut {S K : Type 0} (r : Rules Message S K Note) (number end : S → ℕ) (is_placed : S → Type 0) (x : Setting S) : Type 0 where
  pub number_is : (p : ℕ) → p < x.processes → number (x.opening p) ≡ p
  pub end_is : (p : ℕ) → p < x.processes → end (x.opening p) ≡ x.until
  pub placed : (p : ℕ) → p < x.processes → is_placed (x.opening p)
  pub receivers : (p : ℕ) → p < x.processes → (s : S) → IsReached (simulation_of r x) p s → (e m : Message) → IsIn r.order m (r.sends s e) → r.order.receiver m < x.processes
  pub offered_once : (m : Message) → times_in r.order m x.offers ≤ 1
  pub offered_from : (m : Message) → IsIn r.order m x.offers → x.processes ≤ r.order.sender m
  pub offered_to : (m : Message) → IsIn r.order m x.offers → r.order.receiver m < x.processes
  pub offered_in_time : (m : Message) → IsIn r.order m x.offers → r.order.time m ≤ x.until
