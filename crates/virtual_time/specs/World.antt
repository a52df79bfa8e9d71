-- The world: all processes with their mail, their floors and GVT; and the six steps, which can be done in any order.
use Rattle.std.specs.Prelude.{ℕ, zero, suc, min, Bool, true, false, ◌&&◌, if◌then◌else◌, nat_lt, List, [], ◌∷◌, ◌++◌, map, length, is_some, slice_get, remove, Option, Some, None}
use Rattle.virtual_time.specs.declared.step.Step.{Step}
use Rattle.virtual_time.specs.declared.step.Step.TheVariants.{Take, Arrive, Run, Post, Gvt, Commit}
use Rattle.virtual_time.specs.Simulation.{Simulation, put}
use Rattle.virtual_time.specs.Letters.{plus_of, lowest, received_by, times_of}
use Rattle.virtual_time.specs.declared.letter.Letter.{Letter}
use Rattle.virtual_time.specs.Part.{Part, opened, delivered, emptied, floor_of, arrive, run_one, next_of, can_commit, commit_oldest}

pub record World (M S : Type 0) : Type 0 where
  pub parts : ℕ → Part M S
  -- the letters that each process can take, the oldest first
  pub mail : ℕ → List (Letter M)
  -- for each process a moment that all it has in hand, and has not posted, is not earlier than
  pub floors : ℕ → ℕ
  -- global virtual time, the moment below which nothing is undone any more
  pub gvt : ℕ

module _ {M S K N : Type 0} (f : Simulation M S K N) where
  -- at the start the offers are in the mail as plus letters, in their order, and nothing is done
  abbrev pub start : World M S
  start =
      record {
        parts = λ p. opened (f.opening p);
        mail = λ p. received_by f.rules.order p (map plus_of f.offers);
        floors = λ p. suc f.until;
        gvt = 0;
      }

  -- the least time of the floors and of the letters in the mail, of the first n processes, or the moment after the end
  abbrev pub gvt_over : ℕ → World M S → ℕ
  gvt_over zero w = suc f.until
  gvt_over (suc p) w = min (w.floors p) (lowest (gvt_over p w) (times_of f.rules.order (w.mail p)))

  -- process p is as given, and all else stays
  abbrev pub with_part : ℕ → Part M S → World M S → World M S
  with_part p part w = record { parts = put p part w.parts; mail = w.mail; floors = w.floors; gvt = w.gvt }

  -- the letter at place i of its mail goes to the back of p's tray, and p's floor falls to its time if that is lower
  abbrev pub taken : ℕ → ℕ → World M S → Option (Letter M) → World M S
  taken p i w None = w
  taken p i w (Some l) =
      record {
        parts = put p (delivered l (w.parts p)) w.parts;
        mail = put p (remove (w.mail p) i) w.mail;
        floors = put p (min (f.rules.order.time l.message) (w.floors p)) w.floors;
        gvt = w.gvt;
      }

  -- p's outbox goes to the mail of its receivers, in its order, and p's floor is what p still has in hand
  abbrev pub posted : ℕ → World M S → World M S
  posted p w =
      record {
        parts = put p (emptied (w.parts p)) w.parts;
        mail = λ q. w.mail q ++ received_by f.rules.order q (w.parts p).outbox;
        floors = put p (floor_of f.rules.order f.until (w.parts p)) w.floors;
        gvt = w.gvt;
      }

  -- the oldest of these done events is earlier than g
  abbrev pub is_early : ℕ → List M → Bool
  is_early g [] = false
  is_early g (m ∷ ms) = nat_lt (f.rules.order.time m) g

  -- a step can be done
  unfoldable pub is_enabled : Step → World M S → Bool
  is_enabled (Take p i) w = nat_lt p f.processes && nat_lt i (length (w.mail p))
  is_enabled (Arrive p) w = nat_lt p f.processes && nat_lt 0 (length (w.parts p).tray)
  is_enabled (Run p) w = nat_lt p f.processes && is_some (next_of f.rules.order (w.parts p))
  is_enabled (Post p) w = nat_lt p f.processes
  is_enabled Gvt w = true
  is_enabled (Commit p) w = nat_lt p f.processes && (is_early w.gvt (w.parts p).done && can_commit f.rules.order (w.parts p) (w.parts p).done)

  -- what an enabled step does
  unfoldable pub effect : Step → World M S → World M S
  effect (Take p i) w = taken p i w (slice_get (w.mail p) i)
  effect (Arrive p) w = with_part p (arrive f.rules (f.opening p) (w.parts p)) w
  effect (Run p) w = with_part p (run_one f.rules (w.parts p)) w
  effect (Post p) w = posted p w
  effect Gvt w = record { parts = w.parts; mail = w.mail; floors = w.floors; gvt = gvt_over f.processes w }
  effect (Commit p) w = with_part p (commit_oldest f.rules (w.parts p)) w

  -- one step: where it is not enabled, the world stays as it is
  unfoldable pub step : Step → World M S → World M S
  step x w = if is_enabled x w then effect x w else w

  -- one step after another
  unfoldable pub run : List Step → World M S → World M S
  run [] w = w
  run (x ∷ xs) w = run xs (step x w)
