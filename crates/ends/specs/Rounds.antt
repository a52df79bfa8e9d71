-- Rounds: GVT is set, and each group has a turn, all by one thread.
use Rattle.std.specs.Prelude.{◌≡◌, ℕ, zero, suc, ◌<◌, ◌≤◌, ◌⊎◌, Bool, true, false, cond, List, [], ◌∷◌, ◌++◌, Some, ⊤}
use Rattle.virtual_time.specs.Law.{Simulation, World, IsIn, floor_of, next_of, gvt_over, AreBy, run}
use Rattle.virtual_time.specs.declared.step.Step.{Step}
use Rattle.virtual_time.specs.declared.step.Step.TheVariants.{Run, Gvt}

-- a group and the steps of its turn
pub record Turn : Type 0 where
  pub ours : ℕ → Bool
  pub steps : List Step

abbrev pub steps_in : List Turn → List Step
steps_in [] = []
steps_in (t ∷ ts) = t.steps ++ steps_in ts

-- some group that has a turn has the process
abbrev pub has_turn : List Turn → ℕ → Bool
has_turn [] p = false
has_turn (t ∷ ts) p = cond (t.ours p) true (has_turn ts p)

-- round after round, each chosen by all that was done before: GVT is set, and then turns are given
abbrev pub after_rounds : (List Step → List Turn) → ℕ → List Step
after_rounds choose zero = []
after_rounds choose (suc n) =
    let steps = after_rounds choose n ++ Gvt ∷ [] in
    steps ++ steps_in (choose steps)

module _ {M S K N : Type 0} (f : Simulation M S K N) where
  -- no letter waits for the process, and none is to arrive or to be posted; and its floor is what it has in hand
  pub record IsCleared (v : World M S) (p : ℕ) : Type 0 where
    pub mail : v.mail p ≡ []
    pub tray : (v.parts p).tray ≡ []
    pub outbox : (v.parts p).outbox ≡ []
    pub floor : v.floors p ≡ floor_of f.rules.order f.until (v.parts p)

  -- no process of the group has a message to handle that is earlier than the limit
  abbrev pub IsIdle : (ℕ → Bool) → ℕ → World M S → Type 0
  IsIdle ours limit v = (p : ℕ) → ours p ≡ true → (m : M) → next_of f.rules.order (v.parts p) ≡ Some m → limit ≤ f.rules.order.time m

  -- one of these steps handles a message before which the group has none to handle
  pub record HandlesFirst (ours : ℕ → Bool) (steps : List Step) (w : World M S) : Type 0 where
    pub front : List Step
    pub rest : List Step
    pub process : ℕ
    pub message : M
    pub split : steps ≡ front ++ Run process ∷ rest
    pub is_next : next_of f.rules.order ((run f front w).parts process) ≡ Some message
    pub inside : process < f.processes
    pub member : ours process ≡ true
    pub first : (q : ℕ) → ours q ≡ true → (y : M) → next_of f.rules.order ((run f front w).parts q) ≡ Some y → f.rules.order.less y message ≡ false

  -- a turn of a group from the world w on: each step is of its own processes. At its end they are cleared; it has handled the first message that it had,
  -- or has none at GVT; and all its done events that are earlier than GVT are committed
  pub record IsTurn (ours : ℕ → Bool) (steps : List Step) (w : World M S) : Type 0 where
    pub by : AreBy ours steps
    pub cleared : (p : ℕ) → ours p ≡ true → IsCleared (run f steps w) p
    pub handled : HandlesFirst ours steps w ⊎ IsIdle ours (suc w.gvt) (run f steps w)
    pub committed : (p : ℕ) → ours p ≡ true → (m : M) → IsIn f.rules.order m ((run f steps w).parts p).done → w.gvt ≤ f.rules.order.time m

  -- one turn after another
  abbrev pub AreTurns : List Turn → World M S → Type 0
  AreTurns [] w = ⊤
  AreTurns (t ∷ ts) w = IsTurn t.ours t.steps w × AreTurns ts (run f t.steps w)

  -- a round: GVT is the least of floors and of letters in the mail, and each process is in a group that has a turn
  pub record IsRound (ts : List Turn) (w : World M S) : Type 0 where
    pub published : gvt_over f f.processes w ≡ w.gvt
    pub turns : AreTurns ts w
    pub all : (p : ℕ) → p < f.processes → has_turn ts p ≡ true
