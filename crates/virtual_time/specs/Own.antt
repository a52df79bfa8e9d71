-- A process's own part: what it does with the letters that come to it. Other processes, mail and GVT do not enter.
use Rattle.std.specs.Prelude.{ℕ, ◌==◌, if◌then◌else◌, List, [], ◌∷◌, ◌++◌, map, slice_get, Option, Some, None}
use Rattle.virtual_time.specs.Rules.{Rules}
use Rattle.virtual_time.specs.Simulation.{Simulation}
use Rattle.virtual_time.specs.declared.letter.Letter.{Letter}
use Rattle.virtual_time.specs.declared.moved.Move.{Move}
use Rattle.virtual_time.specs.declared.moved.Move.TheVariants.{Arrived, Ran, Committed}
use Rattle.virtual_time.specs.Part.{Part, delivered, emptied, arrive, run_one, commit_oldest}
use Rattle.virtual_time.specs.World.{World, is_enabled, step}
use Rattle.virtual_time.specs.declared.step.Step.{Step}
use Rattle.virtual_time.specs.declared.step.Step.TheVariants.{Take, Arrive, Run, Post, Gvt, Commit}

-- what one process can do or have done to it: a letter is delivered, it does a step alone, or the outbox is emptied
pub data Act (M : Type 0) : Type 0 where
  Deliver : (letter : Letter M) → Act M
  Moves : (move : Move) → Act M
  Emptying : Act M

-- the process after one act
abbrev pub acted : {M S K N : Type 0} → Rules M S K N → S → Act M → Part M S → Part M S
acted r opening (Deliver l) part = delivered l part
acted r opening (Moves Arrived) part = arrive r opening part
acted r opening (Moves Ran) part = run_one r part
acted r opening (Moves Committed) part = commit_oldest r part
acted r opening Emptying part = emptied part

-- the process alone after these acts
abbrev pub local : {M S K N : Type 0} → Rules M S K N → S → List (Act M) → Part M S → Part M S
local r opening [] part = part
local r opening (a ∷ as') part = local r opening as' (acted r opening a part)

-- the process alone after these steps of its own
abbrev pub after_moves : {M S K N : Type 0} → Rules M S K N → S → List Move → Part M S → Part M S
after_moves r opening ms part = local r opening (map (λ m. Moves m) ms) part

-- the delivery of a letter, if there is one
abbrev pub delivery : {M : Type 0} → Option (Letter M) → List (Act M)
delivery None = []
delivery (Some l) = Deliver l ∷ []

module _ {M S K N : Type 0} (f : Simulation M S K N) where
  -- the acts of p in an enabled step
  abbrev pub acts_of : ℕ → Step → World M S → List (Act M)
  acts_of p (Take q i) w = if p == q then delivery (slice_get (w.mail q) i) else []
  acts_of p (Arrive q) w = if p == q then Moves Arrived ∷ [] else []
  acts_of p (Run q) w = if p == q then Moves Ran ∷ [] else []
  acts_of p (Post q) w = if p == q then Emptying ∷ [] else []
  acts_of p Gvt w = []
  acts_of p (Commit q) w = if p == q then Moves Committed ∷ [] else []

  -- the acts of p over a list of steps from a world on; a step that is not enabled is no act
  unfoldable pub own : ℕ → List Step → World M S → List (Act M)
  own p [] w = []
  own p (x ∷ xs) w = (if is_enabled f x w then acts_of p x w else []) ++ own p xs (step f x w)
