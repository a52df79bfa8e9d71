-- Actors in their states, one more each time.
use Rattle.std.proofs.Common.{◌≡◌, ℕ, ◌+◌, ◌<◌, List, [], ◌∷◌, ◌++◌, length, get_or, Some, ap, ◌∙◌, inl, inr, arith, slice_get}
use Rattle.std.proofs.lemmas.Bool.{cases_lt}
use Rattle.std.proofs.lemmas.List.{get_or_append_left, get_or_push, length_push}
use Rattle.std.proofs.lemmas.Option.{get_or_from_slice_get, slice_get-get_or}
use Rattle.reverse.specs.Setting.{AreInStates}

pub states-more : {S : Type 0} (k : ℕ) (states : ℕ → S) (actors more : List S) (s : S) → AreInStates k states actors → more ≡ actors ++ s ∷ [] → s ≡ states k → AreInStates (k + 1) states more
states-more {S} k states actors more s were pushed is = record { count = count; each = each }
  where
    count : length more ≡ k + 1
    count = ap length pushed ∙ length_push actors s ∙ ap (λ n. n + 1) were.count

    each : (p : ℕ) → p < k + 1 → slice_get more p ≡ Some (states p)
    each p h =
        let there : p < length more = omega (count, arith) in
        slice_get-get_or more p s there ∙ ap Some (ap (λ (xs : List S). get_or xs p s) pushed ∙ elim (cases_lt p k) [ inl before ↦ (get_or_append_left actors (s ∷ []) s p (omega (were.count, arith)) ∙ get_or_from_slice_get actors p (states p) s (were.each p before)) | inr at ↦ (let same : k ≡ p = omega arith in get_or_push actors s s p (were.count ∙ same) ∙ is ∙ ap states same) ])
