-- A process in the world is what its own acts make of it.
use Rattle.std.proofs.Common.{◌≡◌, ℕ, ◌==◌, ◌⊎◌, inl, inr, Bool, true, false, cond, List, [], ◌∷◌, ◌++◌, slice_get, Option, Some, None, refl, sym, ap, ◌∙◌, eq-eqb, ne_eqb}
use Rattle.std.proofs.lemmas.Bool.{cases_eq}
use Rattle.virtual_time.specs.Law.{Simulation, put, Part, delivered, emptied, arrive, run_one, commit_oldest, World, is_enabled, effect, step, run, taken, Act, local, delivery, own}
use Rattle.virtual_time.specs.declared.letter.Letter.{Letter}
use Rattle.virtual_time.specs.declared.step.Step.{Step}
use Rattle.virtual_time.specs.declared.step.Step.TheVariants.{Take, Arrive, Run, Post, Gvt, Commit}
use Rattle.virtual_time.specs.Own.{acts_of}

module _ {M S K N : Type 0} (f : Simulation M S K N) where
  local-append : (s : S) (xs ys : List (Act M)) (part : Part M S) →
      local f.rules s (xs ++ ys) part ≡ local f.rules s ys (local f.rules s xs part)
  local-append s [] ys part = refl
  local-append s (x ∷ xs) ys part = local-append s xs ys _

  at_put : (p q : ℕ) (new : Part M S) (acts : List (Act M)) (w : World M S) → (p ≡ q → new ≡ local f.rules (f.opening p) acts (w.parts p)) →
      put q new w.parts p ≡ local f.rules (f.opening p) (cond (p == q) acts []) (w.parts p)
  at_put p q new acts w h = go (cases_eq p q)
    where
      go : (p ≡ q) ⊎ (p ≡ q → ⊥) → put q new w.parts p ≡ local f.rules (f.opening p) (cond (p == q) acts []) (w.parts p)
      go (inl e) = rw (eq-eqb p q e) (h e)
      go (inr n) = rw (ne_eqb p q n) refl

  effect-own : (p : ℕ) (x : Step) (w : World M S) → (effect f x w).parts p ≡ local f.rules (f.opening p) (acts_of f p x w) (w.parts p)
  unfolding effect
  effect-own p (Take q i) w = go (slice_get (w.mail q) i)
    where
      go : (o : Option (Letter M)) → (taken f q i w o).parts p ≡ local f.rules (f.opening p) (cond (p == q) (delivery o) []) (w.parts p)
      go None = none (p == q)
        where
          none : (b : Bool) → w.parts p ≡ local f.rules (f.opening p) (cond b [] []) (w.parts p)
          none true = refl
          none false = refl
      go (Some l) = at_put p q _ _ w (λ e. ap (λ z. delivered l (w.parts z)) (sym e))
  effect-own p (Arrive q) w = at_put p q _ _ w (λ e. ap (λ z. arrive f.rules (f.opening z) (w.parts z)) (sym e))
  effect-own p (Run q) w = at_put p q _ _ w (λ e. ap (λ z. run_one f.rules (w.parts z)) (sym e))
  effect-own p (Post q) w = at_put p q _ _ w (λ e. ap (λ z. emptied (w.parts z)) (sym e))
  effect-own p Gvt w = refl
  effect-own p (Commit q) w = at_put p q _ _ w (λ e. ap (λ z. commit_oldest f.rules (w.parts z)) (sym e))

  step-own : (p : ℕ) (x : Step) (w : World M S) →
      (step f x w).parts p ≡ local f.rules (f.opening p) (cond (is_enabled f x w) (acts_of f p x w) []) (w.parts p)
  unfolding step
  step-own p x w = go (is_enabled f x w)
    where
      go : (b : Bool) → (cond b (effect f x w) w).parts p ≡ local f.rules (f.opening p) (cond b (acts_of f p x w) []) (w.parts p)
      go true = effect-own p x w
      go false = refl

  pub run-own : (p : ℕ) (xs : List Step) (w : World M S) → (run f xs w).parts p ≡ local f.rules (f.opening p) (own f p xs w) (w.parts p)
  unfolding run own
  run-own p [] w = refl
  run-own p (x ∷ xs) w =
      run-own p xs (step f x w) ∙
      (ap (λ z. local f.rules (f.opening p) (own f p xs (step f x w)) z) (step-own p x w) ∙
      sym (local-append (f.opening p) (cond (is_enabled f x w) (acts_of f p x w) []) (own f p xs (step f x w)) (w.parts p)))
