-- A text that goes out in pieces: what has gone out, and what is still held.
use Rattle.std.proofs.Common.{◌≡◌, ◌∙◌, ℕ, ◌+◌, List, ◌++◌, length, take, drop, Option, Some, None, Result, Ok, Err, refl, sym, ap, subst, append_assoc, length-append, arith, IfErr, flat_map, take-append-drop}
use Rattle.std.specs.Io.KnownBytes.{append_known}
use Rattle.std.proofs.Math.Seq.{take-append-add}
use Rattle.std.proofs.lemmas.List.{take-append-le}
use Rattle.std.proofs.lemmas.Grind.{flat_map-append}
use Rattle.trace_segments.specs.Words.{IsBeginning}

-- of this text, put behind what a sink had taken, a piece has gone out, and the rest is held
pub record IsHeld (old now : Option (List ℕ)) (held text : List ℕ) : Type 0 where
  pub sent : List ℕ
  pub took : now ≡ append_known old sent
  pub whole : sent ++ held ≡ text

appended : (old : Option (List ℕ)) (xs ys : List ℕ) → append_known (append_known old xs) ys ≡ append_known old (xs ++ ys)
appended None xs ys = refl
appended (Some zs) xs ys = ap Some (append_assoc zs xs ys)

-- a beginning of what was held goes out
pub held-beginning : (old now later : Option (List ℕ)) (held text rest : List ℕ) → IsHeld old now held text → IsBeginning now later held → IsBeginning old later (text ++ rest)
held-beginning old now later held text rest h (n, low, went) =
    let front : take (length h.sent + n) (text ++ rest) ≡ h.sent ++ take n held =
    ap (λ (xs : List ℕ). take (length h.sent + n) (xs ++ rest)) (sym h.whole)
    ∙ ap (take (length h.sent + n)) (append_assoc h.sent held rest)
    ∙ take-append-add h.sent (held ++ rest) n
    ∙ ap (λ (xs : List ℕ). h.sent ++ xs) (take-append-le n held rest low) in (
      length h.sent + n,
      omega (arith, low, ap length h.whole, length-append h.sent held, length-append text rest),
      went ∙ ap (λ o. append_known o (take n held)) h.took ∙ appended old h.sent (take n held) ∙ ap (append_known old) (sym front),
    )

-- the first of them are at the front of all
pub first-ones : {X : Type 0} (f : X → List ℕ) (xs : List X) (i : ℕ) → flat_map f (take i xs) ++ flat_map f (drop i xs) ≡ flat_map f xs
first-ones f xs i = sym (flat_map-append f (take i xs) (drop i xs)) ∙ ap (flat_map f) (take-append-drop i xs)

-- where a write of what was held fails, a beginning of all went out
pub piece-out : {A E X : Type 0} (IsDevice : E → Type 0) (r : Result A E) (f : X → List ℕ) (xs : List X) (i : ℕ) (old now later : Option (List ℕ)) (held bytes : List ℕ) →
    IsHeld old now held (flat_map f (take i xs)) → bytes ≡ held → IsBeginning now later bytes → IfErr r (λ fault. IsDevice fault → IsBeginning old later (flat_map f xs))
piece-out IsDevice (Ok x) f xs i old now later held bytes h same begins = tt
piece-out IsDevice (Err fault) f xs i old now later held bytes h same begins = λ is.
    subst (IsBeginning old later) (first-ones f xs i)
    (held-beginning old now later held (flat_map f (take i xs)) (flat_map f (drop i xs)) h (subst (IsBeginning now later) same begins))
