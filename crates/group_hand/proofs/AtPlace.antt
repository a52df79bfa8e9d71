-- A member at its place.
use Rattle.std.proofs.Common.{◌≡◌, ◌↔◌, ℕ, ◌<◌, ◌≤◌, ◌⊎◌, inl, inr, Bool, IsTrue, true, false, nat_lt, Option, List, Some, None, length, slice_get, get_or, refl, sym, ap, ◌∙◌, ltb-true, ltb-false}
use Rattle.std.proofs.lemmas.Bool.{cases_lt, both_ways}
use Rattle.std.proofs.lemmas.Option.{get_or_from_slice_get, none-some, same_Some, slice_get_read, slice_get_past}
use Rattle.group_hand.specs.Hands.{is_held, is_ours}

-- what is read there is the member
pub read-member : {S : Type 0} (members : List (Option S)) (p q : ℕ) (x : Option S) (a s : S) → p ≡ q → x ≡ get_or members p x → x ≡ Some a → slice_get members q ≡ Some (Some s) → s ≡ a
read-member members p q x a s here read is at =
    same_Some s a (sym (get_or_from_slice_get members q (Some s) x at) ∙ (ap (λ n. get_or members n x) (sym here) ∙ (sym read ∙ is)))

-- whether there is one
pub ours-read : {S : Type 0} (members : List (Option S)) (p q : ℕ) (x : Option S) → p ≡ q → true ≡ nat_lt p (length members) → x ≡ get_or members p x → is_held (Some x) ≡ is_ours members q
ours-read members p q x here within read =
    sym (ap is_held (slice_get_read members (length members) p x refl (ltb-true _ _ (sym within)) read)) ∙ ap (λ n. is_ours members n) here

-- what is there, and that there is none
pub at-read : {S : Type 0} (members : List (Option S)) (p q : ℕ) (x : Option S) → p ≡ q → true ≡ nat_lt p (length members) → x ≡ get_or members p x → slice_get members q ≡ Some x
at-read members p q x here within read =
    ap (slice_get members) (sym here) ∙ slice_get_read members (length members) p x refl (ltb-true _ _ (sym within)) read

pub none-read : {S : Type 0} (members : List (Option S)) (p q : ℕ) (x : Option S) (s : S) → p ≡ q → x ≡ get_or members p x → x ≡ None → slice_get members q ≡ Some (Some s) → ⊥
none-read members p q x s here read is at =
    none-some s (sym is ∙ (read ∙ (ap (λ n. get_or members n x) here ∙ get_or_from_slice_get members q (Some s) x at)))

pub none-past : {S : Type 0} (members : List (Option S)) (p q : ℕ) (s : S) → p ≡ q → false ≡ nat_lt p (length members) → slice_get members q ≡ Some (Some s) → ⊥
none-past members p q s here past at =
    none-some (Some s) (sym (slice_get_past members p (ltb-false _ _ (sym past))) ∙ (ap (slice_get members) here ∙ at))

-- a count that is not at most m is more
pub not-within : (b : Bool) (n m : ℕ) → IsTrue b ↔ (n ≤ m) → b ≡ false → m < n
not-within b n m i f = go (cases_lt m n)
  where
    go : (m < n) ⊎ (n ≤ m) → m < n
    go (inl l) = l
    go (inr l) = absurd (both_ways b f (i.1 l))
