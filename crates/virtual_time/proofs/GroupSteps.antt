-- The steps of a group: those that can be done are what they do, and they do the same in worlds that are alike.
use Rattle.std.proofs.Common.{◌≡◌, ℕ, Bool, true, false, List, [], ◌∷◌, ◌++◌, remove, Option, Some, None, refl, ap, ◌∙◌, subst, slice_get}
use Rattle.std.proofs.lemmas.Bool.{both_ways}
use Rattle.virtual_time.specs.Law.{Simulation, received_by, Part, delivered, emptied, arrive, run_one, commit_oldest, World, taken, with_part, effect, step, run, AreAlike, AreBy, AreDone, done_by, is_by}
use Rattle.virtual_time.specs.declared.letter.Letter.{Letter}
use Rattle.virtual_time.specs.declared.step.Step.{Step}
use Rattle.virtual_time.specs.declared.step.Step.TheVariants.{Take, Arrive, Run, Post, Gvt, Commit}
use Rattle.virtual_time.proofs.Kept.{put_elim₂}
use Rattle.virtual_time.proofs.Groups.{step-does}

module _ {M S K N : Type 0} (f : Simulation M S K N) where
  module _ (ours : ℕ → Bool) where
    pub run-done : (xs : List Step) (v : World M S) → AreDone f xs v → run f xs v ≡ done_by f xs v
    unfolding run
    run-done [] v d = refl
    run-done (x ∷ xs) v d = run-done xs (step f x v) d.1 ∙ ap (done_by f xs) (step-does f ours x v d.0)

    -- the same of one process of the group
    part-alike : (v w : World M S) → AreAlike f ours v w → (p : ℕ) → ours p ≡ true → (change : Part M S → Part M S) →
        AreAlike f ours (with_part f p (change (v.parts p)) v) (with_part f p (change (w.parts p)) w)
    part-alike v w a p o change = record {
      parts = put_elim₂ (λ q x y. ours q ≡ true → x ≡ y) p (change (v.parts p)) (change (w.parts p)) v.parts w.parts (λ j. ap change (a.parts p o)) (λ q n. a.parts q);
      mail = a.mail;
    }

    effect-alike : (x : Step) (v w : World M S) → AreAlike f ours v w → is_by ours x ≡ true → AreAlike f ours (effect f x v) (effect f x w)
    unfolding effect
    effect-alike (Take p i) v w a o = subst (λ z. AreAlike f ours (taken f p i v (slice_get (v.mail p) i)) (taken f p i w z)) (ap (λ ls. slice_get ls i) (a.mail p)) (go (slice_get (v.mail p) i))
      where
        go : (l : Option (Letter M)) → AreAlike f ours (taken f p i v l) (taken f p i w l)
        go None = a
        go (Some l) = record {
          parts = put_elim₂ (λ q x y. ours q ≡ true → x ≡ y) p (delivered l (v.parts p)) (delivered l (w.parts p)) v.parts w.parts (λ j. ap (delivered l) (a.parts p o)) (λ q n. a.parts q);
          mail = put_elim₂ (λ q x y. x ≡ y) p (remove (v.mail p) i) (remove (w.mail p) i) v.mail w.mail (ap (λ ls. remove ls i) (a.mail p)) (λ q n. a.mail q);
        }
    effect-alike (Arrive p) v w a o = part-alike v w a p o (arrive f.rules (f.opening p))
    effect-alike (Run p) v w a o = part-alike v w a p o (run_one f.rules)
    effect-alike (Post p) v w a o = record {
      parts = put_elim₂ (λ q x y. ours q ≡ true → x ≡ y) p (emptied (v.parts p)) (emptied (w.parts p)) v.parts w.parts (λ j. ap emptied (a.parts p o)) (λ q n. a.parts q);
      mail = λ q. ap (λ ls. ls ++ received_by f.rules.order q (v.parts p).outbox) (a.mail q) ∙ ap (λ z. w.mail q ++ received_by f.rules.order q z.outbox) (a.parts p o);
    }
    effect-alike Gvt v w a o = absurd (both_ways false refl o)
    effect-alike (Commit p) v w a o = part-alike v w a p o (commit_oldest f.rules)

    -- what a group does tells nothing of others
    pub done-alike : (xs : List Step) (v w : World M S) → AreAlike f ours v w → AreBy ours xs → AreAlike f ours (done_by f xs v) (done_by f xs w)
    done-alike [] v w a o = a
    done-alike (x ∷ xs) v w a o = done-alike xs (effect f x v) (effect f x w) (effect-alike x v w a o.0) o.1
