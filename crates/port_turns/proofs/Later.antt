-- Moments that come later by a delay are paced as the moments are.
use Rattle.std.proofs.Common.{◌≡◌, ℕ, suc, ◌+◌, ◌-◌, ◌*◌, ◌≤◌, inl, inr, List, [], ◌∷◌, map, length, refl, ap, ◌∙◌, subst, arith, mul-le-mul_left}
use Rattle.policer.specs.declared.account.Arrival.{Arrival}
use Rattle.policer.specs.Bound.{IsBetween}
use Rattle.element_bounds.specs.Passages.{IsMetered, bytes_of}
use Rattle.port_bounds.specs.Sublists.{IsSublist}
use Rattle.port_bounds.specs.Pacing.{AreBetween, IsPaced}
use Rattle.port_bounds.proofs.SublistLemmas.{sub-behind}

abbrev pub later : ℕ → List ℕ → List ℕ
later delay ts = map (λ t. t + delay) ts

-- these are some of the moments, later by the delay
record AreLater (delay : ℕ) (some moments : List ℕ) : Type 0 where
  before : List ℕ
  are : some ≡ later delay before
  sub : IsSublist before moments

later-sub : (delay : ℕ) (some moments : List ℕ) → IsSublist some (later delay moments) → AreLater delay some moments
later-sub delay [] ms s = record { before = []; are = refl; sub = tt }
later-sub delay (x ∷ xs) [] s = absurd s
later-sub delay (x ∷ xs) (m ∷ ms) (inl e) =
    let r = later-sub delay xs ms e.1 in
    record { before = m ∷ r.before; are = λ i. e.0 i ∷ r.are i; sub = inl (refl, r.sub) }
later-sub delay (x ∷ xs) (m ∷ ms) (inr k) =
    let r = later-sub delay (x ∷ xs) ms k in
    record { before = r.before; are = r.are; sub = sub-behind r.before (m ∷ []) ms r.sub }

later-between : (delay t u : ℕ) (before : List ℕ) → AreBetween t u (later delay before) → AreBetween (t - delay) (u - delay) before
later-between delay t u [] h = omega arith
later-between delay t u (b ∷ bs) h =
    let from : (b + delay) - delay ≡ b = omega arith in
    (omega (arith, h.0), subst (λ z. AreBetween z (u - delay) bs) from (later-between delay (b + delay) u bs h.1))

as_many : (delay : ℕ) (ts : List ℕ) → length (later delay ts) ≡ length ts
as_many delay [] = refl
as_many delay (t ∷ ts) = ap suc (as_many delay ts)

pub later-paced : (bag jitter delay : ℕ) (moments : List ℕ) → IsPaced bag jitter moments → IsPaced bag jitter (later delay moments)
later-paced bag jitter delay moments p = record {
  bounded = λ some t u s between.
      let l = later-sub delay some moments s in
      let few = p.bounded l.before (t - delay) (u - delay) l.sub (later-between delay t u l.before (subst (AreBetween t u) l.are between)) in
      let many : length some * bag ≡ length l.before * bag = ap (λ k. k * bag) (ap length l.are ∙ as_many delay l.before) in
      omega arith;
}

-- ---- frames that come later by a delay

abbrev pub later_frames : ℕ → List Arrival → List Arrival
later_frames delay frames = map (λ frame. record { at = frame.at + delay; size = frame.size }) frames

-- these are some of the frames, later by the delay
record AreFramesLater (delay : ℕ) (some frames : List Arrival) : Type 0 where
  before : List Arrival
  are : some ≡ later_frames delay before
  sub : IsSublist before frames

frames-later : (delay : ℕ) (some frames : List Arrival) → IsSublist some (later_frames delay frames) → AreFramesLater delay some frames
frames-later delay [] fs s = record { before = []; are = refl; sub = tt }
frames-later delay (x ∷ xs) [] s = absurd s
frames-later delay (x ∷ xs) (f ∷ fs) (inl e) =
    let r = frames-later delay xs fs e.1 in
    record { before = f ∷ r.before; are = λ i. e.0 i ∷ r.are i; sub = inl (refl, r.sub) }
frames-later delay (x ∷ xs) (f ∷ fs) (inr k) =
    let r = frames-later delay (x ∷ xs) fs k in
    record { before = r.before; are = r.are; sub = sub-behind r.before (f ∷ []) fs r.sub }

frames-between : (delay t u : ℕ) (before : List Arrival) → IsBetween t u (later_frames delay before) → IsBetween (t - delay) (u - delay) before
frames-between delay t u [] h = tt
frames-between delay t u (b ∷ bs) h =
    let from : (b.at + delay) - delay ≡ b.at = omega arith in
    let first = h.0 in
    let last = h.1 in
    (omega (arith, first), omega (arith, last), subst (λ z. IsBetween z (u - delay) bs) from (frames-between delay (b.at + delay) u bs h.2))

same-bytes : (delay : ℕ) (frames : List Arrival) → bytes_of (later_frames delay frames) ≡ bytes_of frames
same-bytes delay [] = refl
same-bytes delay (f ∷ fs) = ap (λ n. f.size + n) (same-bytes delay fs)

pub later-metered : (smax bag jitter delay : ℕ) (frames : List Arrival) → IsMetered smax bag jitter frames → IsMetered smax bag jitter (later_frames delay frames)
later-metered smax bag jitter delay frames p = record {
  bounded = λ some t u s between.
      let l = frames-later delay some frames s in
      let few = p.bounded l.before (t - delay) (u - delay) l.sub (frames-between delay t u l.before (subst (IsBetween t u) l.are between)) in
      let same : bytes_of some * bag ≡ bytes_of l.before * bag = ap (λ k. k * bag) (ap bytes_of l.are ∙ same-bytes delay l.before) in
      let less : smax * ((bag + jitter) + ((u - delay) - (t - delay))) ≤ smax * ((bag + jitter) + (u - t)) = mul-le-mul_left smax (omega arith) in
      omega (arith, few, same, less);
}

-- and their moments are those of the frames, later by the delay
pub later-moments : (delay : ℕ) (frames : List Arrival) → map (λ (x : Arrival). x.at) (later_frames delay frames) ≡ later delay (map (λ (x : Arrival). x.at) frames)
later-moments delay [] = refl
later-moments delay (f ∷ fs) = ap (λ z. (f.at + delay) ∷ z) (later-moments delay fs)
