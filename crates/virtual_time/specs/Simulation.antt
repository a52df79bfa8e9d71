-- A simulation: processes with their actors, and the offers, which are the messages that exist before the run begins. Then the laws that
-- they must meet.
use Rattle.std.specs.Prelude.{◌≡◌, ℕ, ◌+◌, ◌<◌, ◌≤◌, ◌==◌, cond, List, length}
use Rattle.virtual_time.specs.Rules.{Rules, IsOrder, reached, sent}
use Rattle.virtual_time.specs.Lists.{IsNumbered, times_in, IsIn}

-- the processes are numbered from 0; the run ends with the moment until; each process has its opening state
pub record Simulation (M S K N : Type 0) : Type 0 where
  pub rules : Rules M S K N
  pub processes : ℕ
  pub until : ℕ
  pub opening : ℕ → S
  pub offers : List M

-- a function of processes with a new value at p
abbrev pub put : {X : Type 0} → ℕ → X → (ℕ → X) → ℕ → X
put p x g q = cond (q == p) x (g q)

module _ {M S K N : Type 0} (f : Simulation M S K N) where
  -- a state that process p can be in: the one after some messages
  abbrev pub IsReached : ℕ → S → Type 0
  IsReached p s = (ms : List M) × (s ≡ reached f.rules (f.opening p) ms)

  -- how often m is offered, or sent by its sender where each process has handled the events given
  abbrev pub made : (ℕ → List M) → M → ℕ
  made events m = times_in f.rules.order m f.offers + times_in f.rules.order m (sent f.rules (f.opening (f.rules.order.sender m)) (events (f.rules.order.sender m)))

  pub record Laws : Type 0 where
    pub order : IsOrder f.rules.order
    -- an offer is there once, comes from no process, goes to a process, and is not after the end
    pub offered_once : (m : M) → times_in f.rules.order m f.offers ≤ 1
    pub offered_from : (m : M) → IsIn f.rules.order m f.offers → f.processes ≤ f.rules.order.sender m
    pub offered_to : (m : M) → IsIn f.rules.order m f.offers → f.rules.order.receiver m < f.processes
    pub offered_in_time : (m : M) → IsIn f.rules.order m f.offers → f.rules.order.time m ≤ f.until
    -- what a process sends has it as sender, goes to a process, is later than its cause, and is not after the end
    pub sender_is : (p : ℕ) → p < f.processes → (s : S) → IsReached p s → (e m : M) → IsIn f.rules.order m (f.rules.sends s e) → f.rules.order.sender m ≡ p
    pub receiver_in : (p : ℕ) → p < f.processes → (s : S) → IsReached p s → (e m : M) → IsIn f.rules.order m (f.rules.sends s e) → f.rules.order.receiver m < f.processes
    pub later : (p : ℕ) → p < f.processes → (s : S) → IsReached p s → (e m : M) → IsIn f.rules.order m (f.rules.sends s e) → f.rules.order.time e < f.rules.order.time m
    pub in_time : (p : ℕ) → p < f.processes → (s : S) → IsReached p s → (e m : M) → IsIn f.rules.order m (f.rules.sends s e) → f.rules.order.time m ≤ f.until
    -- the messages of one process are numbered on and on, by a counter in its state
    pub numbered : (p : ℕ) → p < f.processes → (s : S) → IsReached p s → (e : M) → IsNumbered f.rules.order.number (f.rules.counter s) (f.rules.sends s e)
    pub counter_grows : (p : ℕ) → p < f.processes → (s : S) → IsReached p s → (e : M) → f.rules.counter (f.rules.after s e) ≡ f.rules.counter s + length (f.rules.sends s e)
    -- undoing an event with its record gives back the state before it, the counter with it
    pub undoes : (p : ℕ) → p < f.processes → (s : S) → IsReached p s → (e : M) → f.rules.undo (f.rules.after s e) e (f.rules.kept s e) ≡ s
