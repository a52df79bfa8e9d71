-- What one step more makes of the counts of a replay.
use Rattle.std.proofs.Common.{◌≡◌, ℕ, ◌+◌, Bool, true, false, not, ◌&&◌, nat_lt, List, [], ◌∷◌, ◌++◌, refl, sym, ap, subst, arith, ◌↔◌}
use Rattle.std.proofs.lemmas.Bool.{not-true, false_from_ne_true}
use Rattle.virtual_time.specs.declared.step.Step.{Step}
use Rattle.virtual_time.specs.declared.step.Step.TheVariants.{Take, Arrive, Run, Post, Gvt, Commit}
use Rattle.virtual_time.specs.Law.{one_if, Simulation, World, is_enabled, step, run, start}
use Rattle.nodes.specs.Words.{simulation_of}
use Rattle.antimessages.specs.Steps.{names_none}
use Rattle.timewarp.specs.declared.replaying.Replay.{Replay}
use Rattle.timewarp.specs.Replaying.{did, not_enabled, refused}
use Rattle.actor_world.specs.declared.done.Done.{Done}
use Rattle.actor_world.specs.declared.done.Done.TheVariants.{Did, NotEnabled}
use Rattle.seqsim.specs.Committed.{after}
use Rattle.timewarp.specs.Networks.{NetworkWorld, IsAfter}
use Rattle.timewarp.specs.Replayed.{IsReplayed}

module _ {M S K N : Type 0} (f : Simulation M S K N) where
  did-push : (xs : List Step) (x : Step) (w : World M S) → did f (xs ++ x ∷ []) w ≡ did f xs w + one_if (is_enabled f x (run f xs w))
  unfolding run
  did-push [] x w = omega arith
  did-push (y ∷ ys) x w = let a = did-push ys x (step f y w) in omega arith

  not_enabled-push : (xs : List Step) (x : Step) (w : World M S) → not_enabled f (xs ++ x ∷ []) w
      ≡ not_enabled f xs w + one_if (not (names_none f.processes x) && not (is_enabled f x (run f xs w)))
  unfolding run
  not_enabled-push [] x w = omega arith
  not_enabled-push (y ∷ ys) x w = let a = not_enabled-push ys x (step f y w) in omega arith

  refused-push : (xs : List Step) (x : Step) → refused f (xs ++ x ∷ []) ≡ refused f xs + one_if (names_none f.processes x)
  refused-push [] x = omega arith
  refused-push (y ∷ ys) x = let a = refused-push ys x in omega arith

  -- a step that names a process that there is not is not enabled
  pub unknown-not-enabled : (x : Step) (w : World M S) → names_none f.processes x ≡ true → is_enabled f x w ≡ false
  unfolding is_enabled
  unknown-not-enabled (Take p i) w e = rw (not-true (nat_lt p f.processes) e) refl
  unknown-not-enabled (Arrive p) w e = rw (not-true (nat_lt p f.processes) e) refl
  unknown-not-enabled (Run p) w e = rw (not-true (nat_lt p f.processes) e) refl
  unknown-not-enabled (Post p) w e = not-true (nat_lt p f.processes) e
  unknown-not-enabled Gvt w e = sym e
  unknown-not-enabled (Commit p) w e = rw (not-true (nat_lt p f.processes) e) refl

-- one step more was counted
pub replayed : (old new : Replay) (x : Step) (steps : List Step) (enabled unknown : Bool) → new.world.plan ≡ old.world.plan → IsReplayed old steps →
    IsAfter new.world (steps ++ x ∷ []) →
    is_enabled (simulation_of old.world.plan) x (after old.world.plan steps) ≡ enabled →
    names_none (simulation_of old.world.plan).processes x ≡ unknown →
    new.did ≡ old.did + one_if enabled → new.not_enabled ≡ old.not_enabled + one_if (not unknown && not enabled) → new.refused ≡ old.refused + one_if unknown →
    IsReplayed new (steps ++ x ∷ [])
replayed old new x steps enabled unknown same h now e u a b c =
    let f = simulation_of old.world.plan in
    record {
      after = now;
      did = subst (λ plan. new.did ≡ did (simulation_of plan) (steps ++ x ∷ []) (start (simulation_of plan))) (sym same) (
          let k = did-push f steps x (start f) in let d = h.did in let i = ap one_if e in omega arith);
      not_enabled = subst (λ plan. new.not_enabled ≡ not_enabled (simulation_of plan) (steps ++ x ∷ []) (start (simulation_of plan))) (sym same) (
          let k = not_enabled-push f steps x (start f) in let d = h.not_enabled in
          let i = ap (λ z. one_if (not (names_none f.processes x) && not z)) e in let j = ap (λ z. one_if (not z && not enabled)) u in omega arith);
      refused = subst (λ plan. new.refused ≡ refused (simulation_of plan) (steps ++ x ∷ [])) (sym same) (
          let k = refused-push f steps x in let d = h.refused in let i = ap one_if u in omega arith);
    }

-- a step of a process that there is was counted: one of two counts is one more
abbrev pub AsDone : Done → Replay → ℕ → ℕ → Type 0
AsDone done old n idle = done ≡ Did → (n ≡ old.did + 1) × (idle ≡ old.not_enabled)

abbrev pub AsNotEnabled : Done → Replay → ℕ → ℕ → Type 0
AsNotEnabled done old n idle = done ≡ NotEnabled → (n ≡ old.did) × (idle ≡ old.not_enabled + 1)

pub counted-total : (done : Done) (old : Replay) (n idle : ℕ) → AsDone done old n idle → AsNotEnabled done old n idle →
    n + idle + old.refused ≡ old.did + old.not_enabled + old.refused + 1
counted-total Did old n idle as_done as_idle = let (a, b) = as_done refl in omega arith
counted-total NotEnabled old n idle as_done as_idle = let (a, b) = as_idle refl in omega arith

pub counted : (done : Done) (old : Replay) (world : NetworkWorld) (n idle : ℕ) → AsDone done old n idle → AsNotEnabled done old n idle →
    (x : Step) (steps : List Step) → world.plan ≡ old.world.plan → IsReplayed old steps → IsAfter world (steps ++ x ∷ []) →
    (done ≡ Did) ↔ (is_enabled (simulation_of old.world.plan) x (after old.world.plan steps) ≡ true) →
    names_none (simulation_of old.world.plan).processes x ≡ false →
    IsReplayed (record { world = world; did = n; not_enabled = idle; refused = old.refused }) (steps ++ x ∷ [])
counted Did old world n idle as_done as_idle x steps same h now enabled there =
    let (a, b) = as_done refl in
    replayed old (record { world = world; did = n; not_enabled = idle; refused = old.refused }) x steps true false same h now (enabled.0 refl) there
    a (omega arith) (omega arith)
counted NotEnabled old world n idle as_done as_idle x steps same h now enabled there =
    let (a, b) = as_idle refl in
    replayed old (record { world = world; did = n; not_enabled = idle; refused = old.refused }) x steps false false same h now
    (false_from_ne_true _ (λ e. let k : NotEnabled ≡ Did = enabled.1 e in absurd cc)) there (omega arith) b (omega arith)
