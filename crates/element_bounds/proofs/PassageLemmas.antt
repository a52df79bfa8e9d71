-- Why the frames that an account passes are paced: moments from t to u are among those of the frames that came from t to u.
use Rattle.std.proofs.Common.{◌≡◌, ℕ, suc, ◌+◌, ◌-◌, ◌*◌, ◌≤◌, ◌⊎◌, inl, inr, Bool, true, false, cond, List, [], ◌∷◌, length, refl, sym, subst, arith}
use Rattle.std.proofs.Math.Nat.{le_of_mul-le-mul_left}
use Rattle.std.proofs.lemmas.Nat.{mul-le}
use Rattle.policer.specs.declared.account.Arrival.{Arrival}
use Rattle.policer.specs.declared.account.Measure.{Measure}
use Rattle.policer.specs.declared.account.Measure.TheVariants.{Bytes, Frames}
use Rattle.policer.specs.Account.{Policing, account, amount, cap, charged, passes}
use Rattle.policer.specs.Bound.{IsBetween, after_all, passed_frames, passed_units}
use Rattle.policer.proofs.BoundLemmas.{frames-bounded, parameters-after, passed-le-cap}
use Rattle.port_bounds.specs.Sublists.{IsSublist}
use Rattle.port_bounds.specs.Pacing.{AreBetween, IsPaced}
use Rattle.port_bounds.proofs.PacingLemmas.{ends}
use Rattle.element_bounds.specs.Passages.{AreAtLeast, IsCounting, passages_of}

-- no passage is earlier than the frames are
not-earlier : (a : Policing) (t u : ℕ) (frames : List Arrival) (y : ℕ) (ys : List ℕ) → IsBetween t u frames → IsSublist (y ∷ ys) (passages_of a frames) → t ≤ y
not-earlier a t u [] y ys h s = absurd s
not-earlier a t u (frame ∷ frames) y ys h s = go (passes a frame) s (not-earlier (account.after a frame) frame.at u frames y ys h.2)
  where
    go : (b : Bool) → IsSublist (y ∷ ys) (cond b (frame.at ∷ passages_of (account.after a frame) frames) (passages_of (account.after a frame) frames)) →
        (IsSublist (y ∷ ys) (passages_of (account.after a frame) frames) → frame.at ≤ y) → t ≤ y
    go true (inl e) rest = let same = e.0 in omega (arith, h.0)
    go true (inr k) rest = let r = rest k in omega (arith, h.0)
    go false k rest = let r = rest k in omega (arith, h.0)

-- frames from t to u of which so many pass, from this state on
record AreFrom (least : ℕ) (a : Policing) (t u : ℕ) (ys : List ℕ) : Type 0 where
  frames : List Arrival
  sizes : AreAtLeast least frames
  many : length ys ≤ passed_frames a frames
  between : IsBetween t u frames

none-from : (least : ℕ) (a : Policing) (t u : ℕ) → AreFrom least a t u []
none-from least a t u = record { frames = []; sizes = tt; many = omega arith; between = tt }

one_more : (b : Bool) → b ≡ true → (n k : ℕ) → n ≤ k → suc n ≤ cond b 1 0 + k
one_more true p n k h = omega arith
one_more false p n k h = absurd (let z : ⊥ = cc in z)

-- passages up to u are among those of the first frames
front : (least : ℕ) (a : Policing) (t u end : ℕ) (frames : List Arrival) (ys : List ℕ) → AreAtLeast least frames → IsBetween t end frames → IsSublist ys (passages_of a frames) → AreBetween t u ys → AreFrom least a t u ys
front least a t u end frames [] c h s k = none-from least a t u
front least a t u end [] (y ∷ ys) c h s k = absurd s
front least a t u end (frame ∷ frames) (y ∷ ys) c h s k =
    go (passes a frame) refl s (λ from r. front least (account.after a frame) frame.at u end frames (y ∷ ys) c.1 h.2 r (from, k.1)) (λ r b. front least (account.after a frame) frame.at u end frames ys c.1 h.2 r b)
  where
    more-than : AreFrom least (account.after a frame) frame.at u (y ∷ ys) → frame.at ≤ y → AreFrom least a t u (y ∷ ys)
    more-than more from =
        let before = ends y u ys k.1 in
        record { frames = frame ∷ more.frames; sizes = (c.0, more.sizes); many = let m = more.many in omega arith; between = (h.0, omega arith, more.between) }

    skip : (frame.at ≤ y → IsSublist (y ∷ ys) (passages_of (account.after a frame) frames) → AreFrom least (account.after a frame) frame.at u (y ∷ ys)) → IsSublist (y ∷ ys) (passages_of (account.after a frame) frames) → AreFrom least a t u (y ∷ ys)
    skip rest r =
        let from = not-earlier (account.after a frame) frame.at end frames y ys h.2 r in
        more-than (rest from r) from

    go : (b : Bool) → passes a frame ≡ b → IsSublist (y ∷ ys) (cond b (frame.at ∷ passages_of (account.after a frame) frames) (passages_of (account.after a frame) frames)) →
        (frame.at ≤ y → IsSublist (y ∷ ys) (passages_of (account.after a frame) frames) → AreFrom least (account.after a frame) frame.at u (y ∷ ys)) →
        (IsSublist ys (passages_of (account.after a frame) frames) → AreBetween frame.at u ys → AreFrom least (account.after a frame) frame.at u ys) → AreFrom least a t u (y ∷ ys)
    go true p (inl e) rest later =
        let more = later e.1 (subst (λ z. AreBetween z u ys) e.0 k.1) in
        let before = ends y u ys k.1 in
        let same = e.0 in
        record { frames = frame ∷ more.frames; sizes = (c.0, more.sizes); many = one_more (passes a frame) p (length ys) (passed_frames (account.after a frame) more.frames) more.many; between = (h.0, omega arith, more.between) }
    go true p (inr r) rest later = skip rest r
    go false p r rest later = skip rest r

-- frames from t to u of which so many pass, after earlier ones
record AreAmong (least : ℕ) (a : Policing) (t u : ℕ) (ys : List ℕ) : Type 0 where
  earlier : List Arrival
  from : AreFrom least (after_all a earlier) t u ys

behind : (least : ℕ) (a : Policing) (t u : ℕ) (ys : List ℕ) (frame : Arrival) → AreAmong least (account.after a frame) t u ys → AreAmong least a t u ys
behind least a t u ys frame r = record { earlier = frame ∷ r.earlier; from = r.from }

-- some of the passages
some : (least : ℕ) (a : Policing) (s t u end : ℕ) (frames : List Arrival) (ys : List ℕ) → AreAtLeast least frames → IsBetween s end frames → IsSublist ys (passages_of a frames) → AreBetween t u ys → AreAmong least a t u ys
some least a s t u end frames [] c h e k = record { earlier = []; from = none-from least a t u }
some least a s t u end [] (y ∷ ys) c h e k = absurd e
some least a s t u end (frame ∷ frames) (y ∷ ys) c h e k = go (passes a frame) e (λ r. behind least a t u (y ∷ ys) frame (some least (account.after a frame) frame.at t u end frames (y ∷ ys) c.1 h.2 r k))
  where
    go : (b : Bool) → IsSublist (y ∷ ys) (cond b (frame.at ∷ passages_of (account.after a frame) frames) (passages_of (account.after a frame) frames)) →
        (IsSublist (y ∷ ys) (passages_of (account.after a frame) frames) → AreAmong least a t u (y ∷ ys)) → AreAmong least a t u (y ∷ ys)
    go true (inl q) later =
        let same = q.0 in
        record { earlier = []; from = front least a t u end (frame ∷ frames) (y ∷ ys) c (omega (arith, k.0), h.1, h.2) e k }
    go true (inr r) later = later r
    go false r later = later r

-- ---- bytes of which no frame has fewer than the greatest

-- frames leave the BAG and the jitter
record IsSame (a b : Policing) : Type 0 where
  bag : b.bag ≡ a.bag
  jitter : b.jitter ≡ a.jitter

same-after : (a : Policing) (earlier : List Arrival) → IsSame a (after_all a earlier)
same-after a [] = record { bag = refl; jitter = refl }
same-after a (frame ∷ frames) = let rest = same-after (account.after a frame) frames in record { bag = rest.bag; jitter = rest.jitter }

charged-least : (m : Measure) (smax bytes : ℕ) → smax ≤ bytes → smax ≤ charged m smax bytes
charged-least Bytes smax bytes h = h
charged-least Frames smax bytes h = omega arith

-- each frame that passes takes as much as the greatest, or more
units-least : (a : Policing) (least : ℕ) (frames : List Arrival) → a.smax ≤ least → AreAtLeast least frames → passed_frames a frames * (a.smax * a.bag) ≤ passed_units a frames
units-least a least [] s h = omega arith
units-least a least (frame ∷ frames) s h = go (passes a frame) (units-least (account.after a frame) least frames s h.1)
  where
    one : a.smax * a.bag ≤ amount a frame.size
    one = let bytes = h.0 in mul-le a.smax a.bag (charged a.measure a.smax frame.size) a.bag (charged-least a.measure a.smax frame.size (omega arith)) (omega arith)

    go : (b : Bool) → passed_frames (account.after a frame) frames * (a.smax * a.bag) ≤ passed_units (account.after a frame) frames →
        (cond b 1 0 + passed_frames (account.after a frame) frames) * (a.smax * a.bag) ≤ cond b (amount a frame.size) 0 + passed_units (account.after a frame) frames
    go true rest = let each = one in omega arith
    go false rest = omega arith

-- so as many BAGs pass as there are in one BAG, the jitter and u - t
bytes-bounded : (a : Policing) (least : ℕ) (earlier frames : List Arrival) (t u : ℕ) → 1 ≤ a.smax → a.smax ≤ least → AreAtLeast least frames → IsBetween t u frames →
    passed_frames (after_all a earlier) frames * a.bag ≤ a.bag + a.jitter + (u - t)
bytes-bounded a least earlier frames t u some s h between =
    let now = after_all a earlier in
    let stays = parameters-after a earlier in
    let same = same-after a earlier in
    let n = passed_frames now frames in
    let units : n * (a.smax * a.bag) ≤ passed_units now frames =
    subst (λ k. n * (a.smax * k) ≤ passed_units now frames) same.bag (subst (λ k. n * (k * now.bag) ≤ passed_units now frames) stays.1 (units-least now least frames (subst (λ k. k ≤ least) (sym stays.1) s) h)) in
    let most : passed_units now frames ≤ cap a + a.smax * (u - t) = rw (stays.0, stays.1) at (passed-le-cap now t u frames between) in
    let all : a.smax * (n * a.bag) ≤ a.smax * (a.bag + a.jitter + (u - t)) = omega arith in
    le_of_mul-le-mul_left all some

pub passages-paced : (a : Policing) (least : ℕ) (frames : List Arrival) (t u : ℕ) → IsCounting a least → AreAtLeast least frames → IsBetween t u frames → IsPaced a.bag a.jitter (passages_of a frames)
passages-paced a least frames s end counting c h = record {
  bounded = λ ys t u sub between.
      let among = some least a s t u end frames ys c h sub between in
      let few = few-bags among.earlier among.from.frames t u counting.counts among.from.sizes among.from.between in
      let many : length ys * a.bag ≤ passed_frames (after_all a among.earlier) among.from.frames * a.bag = mul-le (length ys) a.bag (passed_frames (after_all a among.earlier) among.from.frames) a.bag among.from.many (omega arith) in
      omega arith;
}
  where
    few-bags : (earlier frames : List Arrival) (t u : ℕ) → (a.measure ≡ Frames) ⊎ (a.smax ≤ least) → AreAtLeast least frames → IsBetween t u frames → passed_frames (after_all a earlier) frames * a.bag ≤ a.bag + a.jitter + (u - t)
    few-bags earlier frames t u (inl counted) sizes between = frames-bounded a earlier frames t u counted counting.positive between
    few-bags earlier frames t u (inr great) sizes between = bytes-bounded a least earlier frames t u counting.positive great sizes between
