-- Every step and every list of steps keeps the world as it is to be, and GVT never falls.
use Rattle.std.proofs.Common.{◌&&◌, ◌≡◌, ◌<◌, ◌≤◌, Bool, true, false, cond, nat_lt, List, [], ◌∷◌, ◌++◌, Option, Some, None, refl, arith, slice_get, ltb-true}
use Rattle.std.proofs.lemmas.Bool.{and_parts}
use Rattle.virtual_time.specs.declared.letter.Letter.{Letter}
use Rattle.virtual_time.specs.Law.{can_commit, Simulation, Laws, World, taken, is_early, is_enabled, effect, step, run}
use Rattle.virtual_time.specs.declared.step.Step.{Step}
use Rattle.virtual_time.specs.declared.step.Step.TheVariants.{Take, Arrive, Run, Post, Gvt, Commit}
use Rattle.virtual_time.proofs.Kept.{IsKept, part-kept}
use Rattle.virtual_time.proofs.SoundArrive.{arrive-step}
use Rattle.virtual_time.proofs.SoundRun.{run-step}
use Rattle.virtual_time.proofs.SoundCommit.{commit-step}
use Rattle.virtual_time.proofs.KeptTake.{take-kept}
use Rattle.virtual_time.proofs.KeptPost.{post-kept}
use Rattle.virtual_time.proofs.KeptGvt.{gvt_over-rises, gvt-kept}

module _ {M S K N : Type 0} (f : Simulation M S K N) (L : Laws f) where
  -- an enabled step
  effect-kept : (x : Step) (w : World M S) → IsKept f L w → is_enabled f x w ≡ true → IsKept f L (effect f x w)
  unfolding is_enabled effect
  effect-kept (Take p n) w k e = go (slice_get (w.mail p) n) refl
    where
      i : p < f.processes
      i = ltb-true _ _ (and_parts _ _ e).0

      go : (o : Option (Letter M)) → slice_get (w.mail p) n ≡ o → IsKept f L (taken f p n w o)
      go None d = k
      go (Some l) d = take-kept f L w k p i n l d
  effect-kept (Arrive p) w k e =
      let i = ltb-true p f.processes (and_parts _ _ e).0 in
      part-kept f L w k p i _ (arrive-step f L w.gvt (w.floors p) p i (w.parts p) (k.sound p i))
  effect-kept (Run p) w k e =
      let i = ltb-true p f.processes (and_parts _ _ e).0 in
      part-kept f L w k p i _ (run-step f L w.gvt (w.floors p) p i (w.parts p) (k.sound p i))
  effect-kept (Post p) w k e = post-kept f L w k p (ltb-true p f.processes e)
  effect-kept Gvt w k e = gvt-kept f L w k
  effect-kept (Commit p) w k e =
      let a = and_parts (nat_lt p f.processes) (is_early f w.gvt (w.parts p).done && can_commit f.rules.order (w.parts p) (w.parts p).done) e in
      let i = ltb-true p f.processes a.0 in
      part-kept f L w k p i _ (commit-step f L w.gvt (w.floors p) p i (w.parts p) (k.sound p i) (and_parts _ _ a.1).0)

  pub step-kept : (x : Step) (w : World M S) → IsKept f L w → IsKept f L (step f x w)
  unfolding step
  step-kept x w k = go (is_enabled f x w) refl
    where
      go : (b : Bool) → is_enabled f x w ≡ b → IsKept f L (cond b (effect f x w) w)
      go true e = effect-kept x w k e
      go false e = k

  pub run-kept : (xs : List Step) (w : World M S) → IsKept f L w → IsKept f L (run f xs w)
  unfolding run
  run-kept [] w k = k
  run-kept (x ∷ xs) w k = run-kept xs (step f x w) (step-kept x w k)

  -- GVT never falls

  effect-rises : (x : Step) (w : World M S) → IsKept f L w → w.gvt ≤ (effect f x w).gvt
  unfolding effect
  effect-rises (Take p n) w k = go (slice_get (w.mail p) n)
    where
      go : (o : Option (Letter M)) → w.gvt ≤ (taken f p n w o).gvt
      go None = omega arith
      go (Some l) = omega arith
  effect-rises (Arrive p) w k = omega arith
  effect-rises (Run p) w k = omega arith
  effect-rises (Post p) w k = omega arith
  effect-rises Gvt w k = gvt_over-rises f L w k f.processes (omega arith)
  effect-rises (Commit p) w k = omega arith

  pub step-rises : (x : Step) (w : World M S) → IsKept f L w → w.gvt ≤ (step f x w).gvt
  unfolding step
  step-rises x w k = go (is_enabled f x w)
    where
      go : (b : Bool) → w.gvt ≤ (cond b (effect f x w) w).gvt
      go true = effect-rises x w k
      go false = omega arith

  pub run-rises : (xs : List Step) (w : World M S) → IsKept f L w → w.gvt ≤ (run f xs w).gvt
  unfolding run
  run-rises [] w k = omega arith
  run-rises (x ∷ xs) w k =
      let a = step-rises x w k in
      let b = run-rises xs (step f x w) (step-kept x w k) in
      omega arith

  pub run-append : (xs ys : List Step) (w : World M S) → run f (xs ++ ys) w ≡ run f ys (run f xs w)
  unfolding run
  run-append [] ys w = refl
  run-append (x ∷ xs) ys w = run-append xs ys (step f x w)
