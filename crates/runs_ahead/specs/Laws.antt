-- What the run with processes ahead has in common with the plain one-thread run: at each event, for each answer, and at its end.
use Rattle.std.specs.Prelude.{◌≡◌, ℕ, suc, ◌<◌, Bool, true, List, [], ◌∷◌, ◌++◌, Some}
use Rattle.virtual_time.specs.Law.{IsLeft, Laws, Simulation, least, one}
use Rattle.runs_ahead.specs.Ahead.{is_ahead, next_states, one_ahead, passed_all}
use Rattle.runs_ahead.specs.Standing.{IsGoodEvent, IsNextAt, IsOverAt, RunAhead, StandsFor}

-- P holds of each simulation that meets its laws, and each choice of processes that can run ahead in it
abbrev pub OfEachAhead : (M S K N : Type 0) → (Simulation M S K N → (ℕ → Bool) → (ℕ → ℕ) → Type 0) → Type 0
OfEachAhead M S K N P = (f : Simulation M S K N) → Laws f → (ahead : ℕ → Bool) (from : ℕ → ℕ) → RunAhead f ahead from → P f ahead from

module _ {M S K N : Type 0} (f : Simulation M S K N) (ahead : ℕ → Bool) (from : ℕ → ℕ) where
  -- the next event is the next one of the plain run, in the same state, where that has done some events more of processes that run ahead
  pub record IsSameEvent (n : ℕ) (m : M) (j : ℕ) : Type 0 where
    pub stands : StandsFor f ahead from (one f j) (one_ahead f ahead n)
    pub next_at : IsNextAt f j m ((one_ahead f ahead n).states (f.rules.order.receiver m))
    pub stands_next : StandsFor f ahead from (one f (suc j)) (one_ahead f ahead (suc n))

  abbrev pub AreSameEvents : Type 0
  AreSameEvents = (n : ℕ) (m : M) → least f.rules.order (one_ahead f ahead n).waiting ≡ Some m → (j : ℕ) × IsSameEvent n m j

  -- each answer of a process that runs ahead is an event of the plain run, in the same state
  abbrev pub AreAnswersEvents : Type 0
  AreAnswersEvents = (n : ℕ) (m : M) → least f.rules.order (one_ahead f ahead n).waiting ≡ Some m →
      (before : List M) (x : M) (behind : List M) → f.rules.sends ((one_ahead f ahead n).states (f.rules.order.receiver m)) m ≡ before ++ x ∷ behind → is_ahead f ahead x ≡ true →
      (j : ℕ) × IsNextAt f j x (passed_all f ahead (next_states f ahead (one_ahead f ahead n).states m) before (f.rules.order.receiver x))

  -- where nothing waits, the plain run is over as well, with the same states and rows
  abbrev pub EndsAlike : Type 0
  EndsAlike = (n : ℕ) → (one_ahead f ahead n).waiting ≡ [] → (j : ℕ) × IsOverAt f j (one_ahead f ahead n)

  -- each process is in the state after its first events of the plain run, however many, also within an event, when some of what the event
  -- sends was handled and the rest was not
  abbrev pub AreLeft : Type 0
  AreLeft = (n q : ℕ) → (c : ℕ) × IsLeft f q c ((one_ahead f ahead n).states q)

  abbrev pub AreLeftWithin : Type 0
  AreLeftWithin = (n : ℕ) (m : M) → least f.rules.order (one_ahead f ahead n).waiting ≡ Some m →
      (before behind : List M) → f.rules.sends ((one_ahead f ahead n).states (f.rules.order.receiver m)) m ≡ before ++ behind →
      (q : ℕ) → (c : ℕ) × IsLeft f q c (passed_all f ahead (next_states f ahead (one_ahead f ahead n).states m) before q)

  -- if a run that is over had all its events in good states, so had the plain run
  abbrev pub AreGoodAlike : Type 0
  AreGoodAlike = (good : S → Bool) (n : ℕ) → (one_ahead f ahead n).waiting ≡ [] →
      ((i : ℕ) (m : M) → i < n → least f.rules.order (one_ahead f ahead i).waiting ≡ Some m → IsGoodEvent f ahead good (one_ahead f ahead i) m) →
      (j : ℕ) (m : M) (s : S) → IsNextAt f j m s → good s ≡ true
