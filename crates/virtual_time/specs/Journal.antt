-- The journal of a run by workers: the steps in the order in which they were done, put together by what one process did at one go.
use Rattle.std.specs.Prelude.{◌≡◌, ℕ, ◌==◌, Bool, true, false, ◌&&◌, suc, Some, None, nat_lt, if◌then◌else◌, List, [], ◌∷◌, ◌++◌, map, length, replicate, is_some, Option, ⊤}
use Rattle.virtual_time.specs.declared.moved.Move.{Move}
use Rattle.virtual_time.specs.declared.moved.Move.TheVariants.{Arrived, Ran, Committed}
use Rattle.virtual_time.specs.Simulation.{Simulation, put}
use Rattle.virtual_time.specs.Letters.{lowest, received_by, times_of}
use Rattle.virtual_time.specs.declared.letter.Letter.{Letter}
use Rattle.virtual_time.specs.Part.{Part, next_of, can_commit, opened, emptied, floor_of}
use Rattle.virtual_time.specs.World.{World, start, run, is_early}
use Rattle.virtual_time.specs.declared.step.Step.{Step}
use Rattle.virtual_time.specs.declared.step.Step.TheVariants.{Take, Arrive, Run, Post, Gvt, Commit}
use Rattle.virtual_time.specs.Own.{Act, acted, local, after_moves}
use Rattle.virtual_time.specs.Own.Act.{Deliver, Emptying, Moves}

-- what an entry tells: these letters were taken from the front of the mail, one after another; these steps were done and then the outbox
-- was posted; or GVT was set
pub data Deed (M : Type 0) : Type 0 where
  Collected : (letters : List (Letter M)) → Deed M
  Posted : (block : List Move) → Deed M
  Published : Deed M

-- an entry: which process did it, the place of the entry of that process before it, and what was done
pub record Entry (M : Type 0) : Type 0 where
  pub process : ℕ
  pub prior : Option ℕ
  pub deed : Deed M

abbrev pub step_by : ℕ → Move → Step
step_by p Arrived = Arrive p
step_by p Ran = Run p
step_by p Committed = Commit p

-- the steps for which an entry stands
abbrev pub steps_of : {M : Type 0} → ℕ → Deed M → List Step
steps_of p (Collected ls) = replicate (length ls) (Take p 0)
steps_of p (Posted ms) = map (step_by p) ms ++ Post p ∷ []
steps_of p Published = Gvt ∷ []

abbrev pub steps : {M : Type 0} → List (Entry M) → List Step
steps [] = []
steps (l ∷ ls) = steps_of l.process l.deed ++ steps ls

-- what the process of an entry did or had done to it
abbrev pub acts_of : {M : Type 0} → Deed M → List (Act M)
acts_of (Collected ls) = map (λ l. Deliver l) ls
acts_of (Posted ms) = map (λ m. Moves m) ms ++ Emptying ∷ []
acts_of Published = []

-- the own part of process p: what its entries tell
abbrev pub own_in : {M : Type 0} → ℕ → List (Entry M) → List (Act M)
own_in p [] = []
own_in p (l ∷ ls) = (if p == l.process then acts_of l.deed else []) ++ own_in p ls

module _ {M S K N : Type 0} (f : Simulation M S K N) where
  -- the world after the journal
  abbrev pub reach : List (Entry M) → World M S
  reach ls = run f (steps ls) (start f)

  -- process p alone, after its own part
  abbrev pub after_own : ℕ → List (Act M) → Part M S
  after_own p as' = local f.rules (f.opening p) as' (opened (f.opening p))

  -- a step can be done by a process that sees GVT at g
  abbrev pub can_move : ℕ → Move → Part M S → Bool
  can_move g Arrived part = nat_lt 0 (length part.tray)
  can_move g Ran part = is_some (next_of f.rules.order part)
  can_move g Committed part = is_early f g part.done && can_commit f.rules.order part part.done

  -- each of these steps can be done when it comes
  abbrev pub AreEnabled : S → ℕ → List Move → Part M S → Type 0
  AreEnabled opening g [] part = ⊤
  AreEnabled opening g (m ∷ ms) part = (can_move g m part ≡ true) × AreEnabled opening g ms (acted f.rules opening (Moves m) part)

  -- the letters at the front of the mail were taken
  abbrev pub fetched : ℕ → List (Letter M) → List (Letter M) → World M S → World M S
  fetched p xs rest w =
      record {
        parts = put p (local f.rules (f.opening p) (map (λ l. Deliver l) xs) (w.parts p)) w.parts;
        mail = put p rest w.mail;
        floors = put p (lowest (w.floors p) (times_of f.rules.order xs)) w.floors;
        gvt = w.gvt;
      }

  -- a block was done and posted
  abbrev pub delivered_block : ℕ → List Move → World M S → World M S
  delivered_block p ms w =
      let part = after_moves f.rules (f.opening p) ms (w.parts p) in
      record {
        parts = put p (emptied part) w.parts;
        mail = λ q. w.mail q ++ received_by f.rules.order q part.outbox;
        floors = put p (floor_of f.rules.order f.until part) w.floors;
        gvt = w.gvt;
      }

-- where process p's last entry stands among these, of which the first has number n; GVT is no process's entry
abbrev pub is_of : {M : Type 0} → ℕ → ℕ → Deed M → Bool
is_of p q (Collected ls) = p == q
is_of p q (Posted ms) = p == q
is_of p q Published = false

abbrev pub last_from : {M : Type 0} → ℕ → ℕ → List (Entry M) → Option ℕ → Option ℕ
last_from n p [] last = last
last_from n p (l ∷ ls) last = last_from (suc n) p ls (if is_of p l.process l.deed then Some n else last)

abbrev pub last_place : {M : Type 0} → ℕ → List (Entry M) → Option ℕ
last_place p ls = last_from 0 p ls None
