-- Marks are pushed, one for each process.
use Rattle.std.proofs.Common.{◌≡◌, ℕ, zero, suc, ◌⊎◌, Bool, true, inl, inr, List, [], ◌∷◌, ◌++◌, length, refl, arith}
use Rattle.std.proofs.lemmas.Bool.{false≢true}
use Rattle.actor_run.specs.RunningAhead.{is_marked}

-- one mark more
pub marked-push : (marks : List Bool) (b : Bool) (p : ℕ) → is_marked (marks ++ b ∷ []) p ≡ true → (is_marked marks p ≡ true) ⊎ ((p ≡ length marks) × (b ≡ true))
marked-push [] b zero h = inr (refl, h)
marked-push [] b (suc p) h = absurd (false≢true h)
marked-push (x ∷ marks) b zero h = inl h
marked-push (x ∷ marks) b (suc p) h = elim (marked-push marks b p h) [ inl k ↦ inl k | inr k ↦ inr (let e = k.0 in omega arith, k.1) ]
