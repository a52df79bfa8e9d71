-- The order of losses is total, and tells all losses apart.
use Rattle.std.proofs.Common.{◌≡◌, ℕ, ◌==◌, cond, refl, ap, sym, ◌∙◌, arith, ◌<◌, ne_eqb, eq-eqb, ◌&&◌, nat_cmp, is_eq, Ordering, Less, Equal, Greater}
use Rattle.std.specs.Cmp.{IsTotalOrder}
use Rattle.std.specs.Ordering.{ordering_then}
use Rattle.std.proofs.lemmas.Cmp.{nat_cmp_total, on_total, then_total, ranked}
use Rattle.std.proofs.lemmas.Map.Lookups.{CmpEqualImpliesEq, exact_unsigned}
use Rattle.vlink.specs.declared.frame.VlId.{VlId}
use Rattle.vlink.specs.declared.note.Cause.{Cause}
use Rattle.vlink.specs.declared.note.Cause.TheVariants.{QueueFull, PortFull, Outage, Unknown, TooLong, Policed, Integrity, Duplicate}
use Rattle.trace_tables.specs.declared.loss.Loss.{Loss}
use Rattle.trace_tables.specs.Losses.{cause_number, loss_cmp}

pub losses_total : IsTotalOrder loss_cmp
losses_total = then_total (on_total (λ (a : Loss). a.vl.0) nat_cmp_total) (then_total (on_total (λ (a : Loss). a.place) nat_cmp_total) (on_total (λ (a : Loss). cause_number a.cause) nat_cmp_total))

-- the cause with a number
abbrev numbered : ℕ → Cause
numbered n =
    cond (n == 0) QueueFull (cond (n == 1) PortFull (cond (n == 2) Outage (cond (n == 3) Unknown (
    cond (n == 4) TooLong (cond (n == 5) Policed (cond (n == 6) Integrity Duplicate))))))

numbered_is : (c : Cause) → numbered (cause_number c) ≡ c
numbered_is QueueFull = refl
numbered_is PortFull = refl
numbered_is Outage = refl
numbered_is Unknown = refl
numbered_is TooLong = refl
numbered_is Policed = refl
numbered_is Integrity = refl
numbered_is Duplicate = refl

pub same_cause : (a b : Cause) → cause_number a ≡ cause_number b → a ≡ b
same_cause a b e = sym (numbered_is a) ∙ ap numbered e ∙ numbered_is b

pub then-equal : (a b : Ordering) → ordering_then a b ≡ Equal → (a ≡ Equal) × (b ≡ Equal)
then-equal Less b e = absurd (cc)
then-equal Equal b e = (refl, e)
then-equal Greater b e = absurd (cc)

-- losses are the same where their three fields are
pub loss-is : (a b : Loss) → a.vl.0 ≡ b.vl.0 → a.place ≡ b.place → a.cause ≡ b.cause → a ≡ b
loss-is a b v p c =
    let made = λ (v : ℕ) (p : ℕ) (c : Cause). (let vl : VlId = record { 0 = v } in let loss : Loss = record { vl = vl; place = p; cause = c } in loss) in
    ap (λ (v : ℕ). made v a.place a.cause) v ∙ ap (λ (p : ℕ). made b.vl.0 p a.cause) p ∙ ap (λ (c : Cause). made b.vl.0 b.place c) c

pub exact_losses : CmpEqualImpliesEq loss_cmp
exact_losses a b e =
    let first = then-equal (nat_cmp a.vl.0 b.vl.0) (ordering_then (nat_cmp a.place b.place) (nat_cmp (cause_number a.cause) (cause_number b.cause))) e in
    let second = then-equal (nat_cmp a.place b.place) (nat_cmp (cause_number a.cause) (cause_number b.cause)) first.1 in
    loss-is a b (exact_unsigned a.vl.0 b.vl.0 first.0) (exact_unsigned a.place b.place second.0)
    (same_cause a.cause b.cause (exact_unsigned (cause_number a.cause) (cause_number b.cause) second.1))

pub is_eq-then : (a b : Ordering) → is_eq (ordering_then a b) ≡ (is_eq a && is_eq b)
is_eq-then Less b = refl
is_eq-then Equal b = refl
is_eq-then Greater b = refl

pub is_eq-nat : (x y : ℕ) → is_eq (nat_cmp x y) ≡ (x == y)
is_eq-nat x y = go (nat_cmp x y) refl
  where
    go : (r : Ordering) → r ≡ nat_cmp x y → is_eq r ≡ (x == y)
    go Less e = let lt : x < y = ranked x y Less e in sym (ne_eqb x y (λ same. omega arith))
    go Equal e = let same : x ≡ y = ranked x y Equal e in sym (eq-eqb x y same)
    go Greater e = let lt : y < x = ranked x y Greater e in sym (ne_eqb x y (λ same. omega arith))

-- losses compare as equal where their three fields are
pub is_eq-losses : (a b : Loss) → is_eq (loss_cmp a b) ≡ ((a.vl.0 == b.vl.0) && ((a.place == b.place) && (cause_number a.cause == cause_number b.cause)))
is_eq-losses a b =
    is_eq-then (nat_cmp a.vl.0 b.vl.0) (ordering_then (nat_cmp a.place b.place) (nat_cmp (cause_number a.cause) (cause_number b.cause)))
    ∙ ap (λ t. t && is_eq (ordering_then (nat_cmp a.place b.place) (nat_cmp (cause_number a.cause) (cause_number b.cause)))) (is_eq-nat a.vl.0 b.vl.0)
    ∙ ap (λ t. (a.vl.0 == b.vl.0) && t) (
    is_eq-then (nat_cmp a.place b.place) (nat_cmp (cause_number a.cause) (cause_number b.cause))
    ∙ ap (λ t. t && is_eq (nat_cmp (cause_number a.cause) (cause_number b.cause))) (is_eq-nat a.place b.place)
    ∙ ap (λ t. (a.place == b.place) && t) (is_eq-nat (cause_number a.cause) (cause_number b.cause)))
