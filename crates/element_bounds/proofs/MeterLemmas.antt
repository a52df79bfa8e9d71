-- Why the frames that an account of bytes passes have no more bytes than it gets: each is taken from what the account has, which is at most the cap and what grows.
use Rattle.std.proofs.Common.{◌≡◌, ℕ, ◌+◌, ◌-◌, ◌*◌, ◌≤◌, inl, inr, Bool, true, false, cond, List, [], ◌∷◌, refl, sym, ap, ◌∙◌, subst, arith, leb-true, mul-add, mul-le-mul_left}
use Rattle.std.proofs.Math.Nat.{min-le_left, min-le_right}
use Rattle.policer.specs.declared.account.Arrival.{Arrival}
use Rattle.policer.specs.declared.account.Measure.{Measure}
use Rattle.policer.specs.declared.account.Measure.TheVariants.{Bytes}
use Rattle.policer.specs.Account.{Policing, account, amount, cap, charged, grown, passes, units_taken}
use Rattle.policer.specs.Bound.{IsBetween}
use Rattle.port_bounds.specs.Sublists.{IsSublist}
use Rattle.port_bounds.proofs.SublistLemmas.{sub-trans}
use Rattle.element_bounds.specs.Passages.{IsMetered, bytes_of, passed_of}

-- no frame that passes is earlier than the frames are
not-earlier : (a : Policing) (t u : ℕ) (frames : List Arrival) (y : Arrival) (ys : List Arrival) → IsBetween t u frames → IsSublist (y ∷ ys) (passed_of a frames) → t ≤ y.at
not-earlier a t u [] y ys h s = absurd s
not-earlier a t u (frame ∷ frames) y ys h s = go (passes a frame) s (not-earlier (account.after a frame) frame.at u frames y ys h.2)
  where
    go : (b : Bool) → IsSublist (y ∷ ys) (cond b (frame ∷ passed_of (account.after a frame) frames) (passed_of (account.after a frame) frames)) →
        (IsSublist (y ∷ ys) (passed_of (account.after a frame) frames) → frame.at ≤ y.at) → t ≤ y.at
    go true (inl e) rest = let same : y.at ≡ frame.at = ap (λ (x : Arrival). x.at) e.0 in let from = h.0 in omega (arith, same, from)
    go true (inr k) rest = let r = rest k in let from = h.0 in omega (arith, r, from)
    go false k rest = let r = rest k in let from = h.0 in omega (arith, r, from)

-- the growth of two stretches, one after the other, is that of both as one
growth-split : (smax l f u : ℕ) → l ≤ f → f ≤ u → smax * (f - l) + smax * (u - f) ≡ smax * (u - l)
growth-split smax l f u before after = sym (mul-add smax (f - l) (u - f)) ∙ ap (λ n. smax * n) (omega arith)

-- of bytes a frame that passes takes its own, and no more than there is
takes : (a : Policing) (frame : Arrival) → a.measure ≡ Bytes → passes a frame ≡ true → (units_taken a frame ≡ frame.size * a.bag) × (frame.size * a.bag ≤ grown a frame.at)
takes a frame e p =
    let own : amount a frame.size ≡ frame.size * a.bag = ap (λ (m : Measure). charged m a.smax frame.size * a.bag) e in
    (ap (λ b. cond b (amount a frame.size) 0) p ∙ own, subst (λ n. n ≤ grown a frame.at) own (leb-true _ _ p))

-- one frame, and those after it
sum : (size bag rest level grown most later : ℕ) → size * bag ≤ grown → grown ≤ most → level ≡ grown - size * bag → rest * bag ≤ level + later → (size + rest) * bag ≤ most + later
sum size bag rest level grown most later p q e r = omega (arith, p, q, e, r)

-- from a state whose last frame is not later: at most the level and what grows until u
by-level : (a : Policing) (u end : ℕ) (frames ys : List Arrival) → a.measure ≡ Bytes → IsBetween a.last end frames → IsSublist ys (passed_of a frames) → IsBetween a.last u ys →
    bytes_of ys * a.bag ≤ a.level + a.smax * (u - a.last)
by-level a u end frames [] e h s k = omega arith
by-level a u end [] (y ∷ ys) e h s k = absurd s
by-level a u end (frame ∷ frames) (y ∷ ys) e h s k =
    go (passes a frame) refl s (λ r from. by-level (account.after a frame) u end frames (y ∷ ys) e h.2 r (from, k.1, k.2)) (λ r b. by-level (account.after a frame) u end frames ys e h.2 r b)
  where
    now : ℕ
    now = (account.after a frame).level

    split : frame.at ≤ u → a.smax * (frame.at - a.last) + a.smax * (u - frame.at) ≡ a.smax * (u - a.last)
    split before = growth-split a.smax a.last frame.at u h.0 before

    most : grown a frame.at ≤ a.level + a.smax * (frame.at - a.last)
    most = min-le_right _ _

    skip : (frame.at ≤ y.at → bytes_of (y ∷ ys) * a.bag ≤ now + a.smax * (u - frame.at)) → frame.at ≤ y.at → bytes_of (y ∷ ys) * a.bag ≤ a.level + a.smax * (u - a.last)
    skip rest from =
        let r = rest from in
        let last = k.1 in
        let whole = split (omega (arith, from, last)) in
        let less : now ≤ grown a frame.at = omega arith in
        let m = most in
        omega (arith, r, whole, less, m)

    go : (b : Bool) → passes a frame ≡ b → IsSublist (y ∷ ys) (cond b (frame ∷ passed_of (account.after a frame) frames) (passed_of (account.after a frame) frames)) →
        (IsSublist (y ∷ ys) (passed_of (account.after a frame) frames) → frame.at ≤ y.at → bytes_of (y ∷ ys) * a.bag ≤ now + a.smax * (u - frame.at)) →
        (IsSublist ys (passed_of (account.after a frame) frames) → IsBetween frame.at u ys → bytes_of ys * a.bag ≤ now + a.smax * (u - frame.at)) → bytes_of (y ∷ ys) * a.bag ≤ a.level + a.smax * (u - a.last)
    go true p (inl q) rest later =
        let same : y ≡ frame = q.0 in
        let r = later q.1 (subst (λ (x : Arrival). IsBetween x.at u ys) same k.2) in
        let t = takes a frame e p in
        let whole = split (subst (λ (x : Arrival). x.at ≤ u) same k.1) in
        let m = most in
        let all = sum frame.size a.bag (bytes_of ys) now (grown a frame.at) (a.level + a.smax * (frame.at - a.last)) (a.smax * (u - frame.at)) t.1 m (ap (λ n. grown a frame.at - n) t.0) r in
        subst (λ (x : Arrival). (x.size + bytes_of ys) * a.bag ≤ a.level + a.smax * (u - a.last)) (sym same) (omega (arith, all, whole))
    go true p (inr r) rest later = skip (rest r) (not-earlier (account.after a frame) frame.at end frames y ys h.2 r)
    go false p r rest later = skip (rest r) (not-earlier (account.after a frame) frame.at end frames y ys h.2 r)

-- from t on: at most the cap and what grows in u - t
by-cap : (a : Policing) (from t u end : ℕ) (frames ys : List Arrival) → a.measure ≡ Bytes → IsBetween from end frames → IsSublist ys (passed_of a frames) → IsBetween t u ys →
    bytes_of ys * a.bag ≤ a.smax * ((a.bag + a.jitter) + (u - t))
by-cap a from t u end frames [] e h s k = omega arith
by-cap a from t u end [] (y ∷ ys) e h s k = absurd s
by-cap a from t u end (frame ∷ frames) (y ∷ ys) e h s k = go (passes a frame) refl s (λ r. by-cap (account.after a frame) frame.at t u end frames (y ∷ ys) e h.2 r k)
  where
    go : (b : Bool) → passes a frame ≡ b → IsSublist (y ∷ ys) (cond b (frame ∷ passed_of (account.after a frame) frames) (passed_of (account.after a frame) frames)) →
        (IsSublist (y ∷ ys) (passed_of (account.after a frame) frames) → bytes_of (y ∷ ys) * a.bag ≤ a.smax * ((a.bag + a.jitter) + (u - t))) → bytes_of (y ∷ ys) * a.bag ≤ a.smax * ((a.bag + a.jitter) + (u - t))
    go true p (inl q) later =
        let same : y ≡ frame = q.0 in
        let r = by-level (account.after a frame) u end frames ys e h.2 q.1 (subst (λ (x : Arrival). IsBetween x.at u ys) same k.2) in
        let t_is = takes a frame e p in
        let from_t : t ≤ frame.at = subst (λ (x : Arrival). t ≤ x.at) same k.0 in
        let no_sooner : a.smax * (u - frame.at) ≤ a.smax * (u - t) = mul-le-mul_left a.smax (omega (arith, from_t)) in
        let most : grown a frame.at ≤ cap a = min-le_left _ _ in
        let all = sum frame.size a.bag (bytes_of ys) (account.after a frame).level (grown a frame.at) (cap a) (a.smax * (u - frame.at)) t_is.1 most (ap (λ n. grown a frame.at - n) t_is.0) r in
        let parts : a.smax * ((a.bag + a.jitter) + (u - t)) ≡ cap a + a.smax * (u - t) = mul-add a.smax (a.bag + a.jitter) (u - t) in
        subst (λ (x : Arrival). (x.size + bytes_of ys) * a.bag ≤ a.smax * ((a.bag + a.jitter) + (u - t))) (sym same) (omega (arith, all, no_sooner, parts))
    go true p (inr r) later = later r
    go false p r later = later r

pub passages-metered : (a : Policing) (frames : List Arrival) (t u : ℕ) → a.measure ≡ Bytes → IsBetween t u frames → IsMetered a.smax a.bag a.jitter (passed_of a frames)
passages-metered a frames s end e h = record { bounded = λ ys t u sub between. by-cap a s t u end frames ys e h sub between }

-- some of them are so, too
pub fewer-metered : (smax bag jitter : ℕ) (some frames : List Arrival) → IsSublist some frames → IsMetered smax bag jitter frames → IsMetered smax bag jitter some
fewer-metered smax bag jitter some frames s h = record { bounded = λ few t u k between. h.bounded few t u (sub-trans few some frames k s) between }
