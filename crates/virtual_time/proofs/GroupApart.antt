-- What the steps of a group leave as it was: the other processes, and their floors.
use Rattle.std.proofs.Common.{◌≡◌, ℕ, Bool, true, false, List, [], ◌∷◌, Option, Some, None, refl, ◌∙◌, slice_get}
use Rattle.std.proofs.lemmas.Bool.{both_ways}
use Rattle.virtual_time.specs.Law.{Simulation, World, taken, effect, AreBy, done_by, is_by}
use Rattle.virtual_time.specs.declared.letter.Letter.{Letter}
use Rattle.virtual_time.specs.declared.step.Step.{Step}
use Rattle.virtual_time.specs.declared.step.Step.TheVariants.{Take, Arrive, Run, Post, Gvt, Commit}
use Rattle.virtual_time.proofs.Kept.{put_elim, put_elim₂}

module _ {M S K N : Type 0} (f : Simulation M S K N) where
  -- a step of others
  effect-apart : (theirs : ℕ → Bool) (x : Step) (v : World M S) → is_by theirs x ≡ true → (q : ℕ) → theirs q ≡ false → ((effect f x v).floors q ≡ v.floors q) × ((effect f x v).parts q ≡ v.parts q)
  unfolding effect
  effect-apart theirs (Take p i) v o q n = go (slice_get (v.mail p) i)
    where
      go : (l : Option (Letter M)) → ((taken f p i v l).floors q ≡ v.floors q) × ((taken f p i v l).parts q ≡ v.parts q)
      go None = (refl, refl)
      go (Some l) = put_elim₂ (λ r x y. theirs r ≡ false → (x ≡ v.floors r) × (y ≡ v.parts r)) p _ _ v.floors v.parts (λ h. absurd (both_ways (theirs p) h o)) (λ r d h. (refl, refl)) q n
  effect-apart theirs (Arrive p) v o q n = (refl, put_elim (λ r y. theirs r ≡ false → y ≡ v.parts r) p _ v.parts (λ h. absurd (both_ways (theirs p) h o)) (λ r d h. refl) q n)
  effect-apart theirs (Run p) v o q n = (refl, put_elim (λ r y. theirs r ≡ false → y ≡ v.parts r) p _ v.parts (λ h. absurd (both_ways (theirs p) h o)) (λ r d h. refl) q n)
  effect-apart theirs (Post p) v o q n = put_elim₂ (λ r x y. theirs r ≡ false → (x ≡ v.floors r) × (y ≡ v.parts r)) p _ _ v.floors v.parts (λ h. absurd (both_ways (theirs p) h o)) (λ r d h. (refl, refl)) q n
  effect-apart theirs Gvt v o q n = absurd (both_ways false refl o)
  effect-apart theirs (Commit p) v o q n = (refl, put_elim (λ r y. theirs r ≡ false → y ≡ v.parts r) p _ v.parts (λ h. absurd (both_ways (theirs p) h o)) (λ r d h. refl) q n)

  pub done-apart : (theirs : ℕ → Bool) (xs : List Step) (v : World M S) → AreBy theirs xs → (q : ℕ) → theirs q ≡ false → ((done_by f xs v).floors q ≡ v.floors q) × ((done_by f xs v).parts q ≡ v.parts q)
  done-apart theirs [] v o q n = (refl, refl)
  done-apart theirs (x ∷ xs) v o q n =
      let a = done-apart theirs xs (effect f x v) o.1 q n in
      let b = effect-apart theirs x v o.0 q n in
      (a.0 ∙ b.0, a.1 ∙ b.1)
