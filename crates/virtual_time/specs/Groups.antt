-- Groups: several processes in one hand, which pass letters to each other at once, by a mail of their own.
-- A group does the same steps as all others, and nothing is promised of it that is not promised of them. In hand it is a small world: its
-- processes, what they sent and nobody took, and the GVT that it saw. In a journal its block is the same steps in the whole world, where the
-- letters that wait in the mail come before those of the group.
use Rattle.std.specs.Prelude.{◌≡◌, ℕ, ◌+◌, ◌≤◌, Bool, true, false, cond, List, [], ◌∷◌, ◌++◌, length, ⊤}
use Rattle.virtual_time.specs.declared.step.Step.{Step}
use Rattle.virtual_time.specs.declared.step.Step.TheVariants.{Take, Arrive, Run, Post, Gvt, Commit}
use Rattle.virtual_time.specs.Letters.{IsNamed}
use Rattle.virtual_time.specs.Simulation.{Simulation}
use Rattle.virtual_time.specs.World.{World, is_enabled, effect, step}
use Rattle.virtual_time.specs.SafePart.{IsSafePart}

-- the step is one of these processes; GVT is set by none
abbrev pub is_by : (ℕ → Bool) → Step → Bool
is_by ours (Take p i) = ours p
is_by ours (Arrive p) = ours p
is_by ours (Run p) = ours p
is_by ours (Post p) = ours p
is_by ours Gvt = false
is_by ours (Commit p) = ours p

abbrev pub AreBy : (ℕ → Bool) → List Step → Type 0
AreBy ours [] = ⊤
AreBy ours (x ∷ xs) = (is_by ours x ≡ true) × AreBy ours xs

-- the same step where so many letters wait in the mail of each process before those of the group
abbrev pub behind : (ℕ → ℕ) → Step → Step
behind waiting (Take p i) = Take p (waiting p + i)
behind waiting (Arrive p) = Arrive p
behind waiting (Run p) = Run p
behind waiting (Post p) = Post p
behind waiting Gvt = Gvt
behind waiting (Commit p) = Commit p

module _ {M S K N : Type 0} (f : Simulation M S K N) where
  -- how many letters wait for each process
  abbrev pub waiting_in : World M S → ℕ → ℕ
  waiting_in w p = length (w.mail p)

  -- each of these steps can be done when it comes
  abbrev pub AreDone : List Step → World M S → Type 0
  AreDone [] v = ⊤
  AreDone (x ∷ xs) v = (is_enabled f x v ≡ true) × AreDone xs (step f x v)

  -- what these steps do
  abbrev pub done_by : List Step → World M S → World M S
  done_by [] v = v
  done_by (x ∷ xs) v = done_by xs (effect f x v)

  -- a group in hand: no letter is on its way, and GVT is the one that it saw
  abbrev pub in_hand : ℕ → World M S → World M S
  in_hand seen w = record { parts = w.parts; mail = λ q. []; floors = w.floors; gvt = seen }

  -- the world w with these processes as the group has them in v, and the letters that it sent and did not take behind those that wait
  abbrev pub joined : (ℕ → Bool) → World M S → World M S → World M S
  joined ours v w =
      record {
        parts = λ q. cond (ours q) (v.parts q) (w.parts q);
        mail = λ q. w.mail q ++ v.mail q;
        floors = λ q. cond (ours q) (v.floors q) (w.floors q);
        gvt = w.gvt;
      }

  -- both have the same of these processes, and the same letters on their way
  pub record AreAlike (ours : ℕ → Bool) (v w : World M S) : Type 0 where
    pub parts : (q : ℕ) → ours q ≡ true → v.parts q ≡ w.parts q
    pub mail : (q : ℕ) → v.mail q ≡ w.mail q

  -- a group that has seen GVT at g: each process is safe below g, and nothing that it sent is earlier, posted within the group or not
  pub record IsSafeGroup (ours : ℕ → Bool) (g : ℕ) (v : World M S) : Type 0 where
    pub parts : (p : ℕ) → ours p ≡ true → IsSafePart f p g (v.parts p)
    pub outboxes : (p : ℕ) → ours p ≡ true → (m : M) → IsNamed f.rules.order m (v.parts p).outbox → g ≤ f.rules.order.time m
    pub mail : (p : ℕ) (m : M) → IsNamed f.rules.order m (v.mail p) → g ≤ f.rules.order.time m
    pub seen : v.gvt ≡ g
