-- Why paced frames, and frames that come one after the other, have their curves.
use Rattle.std.proofs.Common.{◌≡◌, ℕ, zero, suc, ◌+◌, ◌-◌, ◌*◌, ◌≤◌, inl, inr, Bool, true, false, cond, List, [], ◌∷◌, ◌++◌, length, Option, Some, None, ap, arith, refl, sym, subst, ◌∙◌}
use Rattle.std.proofs.lemmas.Bool.{cases_lt}
use Rattle.std.proofs.lemmas.Nat.{mul-le}
use Rattle.std.specs.Prelude.{⊤}
use Rattle.port_bounds.specs.Frames.{PutFrame, IsBetween}
use Rattle.port_bounds.specs.Sublists.{IsSublist}
use Rattle.port_bounds.specs.Pacing.{AreBetween, IsPaced}
use Rattle.port_bounds.specs.Arrivals.{IsAfter, IsClassWithin, IsEachAtMost, IsSerial, cost_at, moments_at}
use Rattle.port_bounds.proofs.FrameLemmas.{between-ends}
use Rattle.port_bounds.proofs.PacingLemmas.{sooner}
use Rattle.port_bounds.proofs.SublistLemmas.{sub-part, sub-trans}

most-part : (most : ℕ) (test : PutFrame → Bool) (xs ys zs : List PutFrame) → IsEachAtMost most test (xs ++ (ys ++ zs)) → IsEachAtMost most test ys
most-part most test (x ∷ xs) ys zs h = most-part most test xs ys zs h.1
most-part most test [] [] zs h = tt
most-part most test [] (y ∷ ys) zs h = (h.0, most-part most test [] ys zs h.1)

cost-count : (most : ℕ) (test : PutFrame → Bool) (ys : List PutFrame) → IsEachAtMost most test ys → cost_at test ys ≤ length (moments_at test ys) * most
cost-count most test [] h = omega arith
cost-count most test (y ∷ ys) h = go (cost-count most test ys h.1) (test y) refl
  where
    go : cost_at test ys ≤ length (moments_at test ys) * most → (b : Bool) → test y ≡ b →
        cond b y.cost 0 + cost_at test ys ≤ length (cond b (y.at ∷ moments_at test ys) (moments_at test ys)) * most
    go r true e = let k = h.0 e in omega arith
    go r false e = omega arith

-- the moments of a part are a part of the moments, and lie between the same two
moments-append : (test : PutFrame → Bool) (xs ys : List PutFrame) → moments_at test (xs ++ ys) ≡ moments_at test xs ++ moments_at test ys
moments-append test [] ys = refl
moments-append test (x ∷ xs) ys = go (test x) (moments-append test xs ys)
  where
    go : (b : Bool) → moments_at test (xs ++ ys) ≡ moments_at test xs ++ moments_at test ys →
        cond b (x.at ∷ moments_at test (xs ++ ys)) (moments_at test (xs ++ ys)) ≡ cond b (x.at ∷ moments_at test xs) (moments_at test xs) ++ moments_at test ys
    go true r = ap (λ zs. x.at ∷ zs) r
    go false r = r

moments-between : (test : PutFrame → Bool) (t u : ℕ) (ys : List PutFrame) → IsBetween t u ys → AreBetween t u (moments_at test ys)
moments-between test t u [] h = h
moments-between test t u (y ∷ ys) h = go (test y) (moments-between test y.at u ys h.1)
  where
    go : (b : Bool) → AreBetween y.at u (moments_at test ys) → AreBetween t u (cond b (y.at ∷ moments_at test ys) (moments_at test ys))
    go true r = (h.0, r)
    go false r = sooner t y.at u (moments_at test ys) h.0 r

-- how many of paced frames come in a part, and what they cost
module _ (bag jitter most : ℕ) (test : PutFrame → Bool) (fs : List PutFrame) (p : IsPaced bag jitter (moments_at test fs)) (h : IsEachAtMost most test fs) where
  part-within : (xs ys zs : List PutFrame) (t u : ℕ) → fs ≡ xs ++ (ys ++ zs) → IsBetween t u ys →
      (length (moments_at test ys) * bag ≤ bag + jitter + (u - t)) × (cost_at test ys ≤ length (moments_at test ys) * most)
  part-within xs ys zs t u are between =
      let split = ap (moments_at test) are ∙ (moments-append test xs (ys ++ zs) ∙ ap (λ ms. moments_at test xs ++ ms) (moments-append test ys zs)) in (
        p.bounded (moments_at test ys) t u (subst (IsSublist (moments_at test ys)) (sym split) (sub-part (moments_at test xs) (moments_at test ys) (moments_at test zs))) (moments-between test t u ys between),
        cost-count most test ys (most-part most test xs ys zs (subst (IsEachAtMost most test) are h)),
      )

pub paced : (parts bag jitter most : ℕ) (test : PutFrame → Bool) (fs : List PutFrame) → IsPaced bag jitter (moments_at test fs) → IsEachAtMost most test fs →
    IsClassWithin (parts * bag) ((parts * most) * (bag + jitter)) (parts * most) test fs
paced parts bag jitter most test fs p h = record {
  bounded = λ xs ys zs t u are between.
      let part = part-within bag jitter most test fs p h xs ys zs t u are between in
      numbers (cost_at test ys) (length (moments_at test ys)) (u - t) part.0 part.1;
}
  where
    numbers : (cost n w : ℕ) → n * bag ≤ bag + jitter + w → cost ≤ n * most → (parts * bag) * cost ≤ (parts * most) * (bag + jitter) + (parts * most) * w
    numbers cost n w few c =
        let a : (parts * bag) * cost ≤ (parts * bag) * (n * most) = mul-le (parts * bag) cost (parts * bag) (n * most) (omega arith) c in
        let b : (parts * most) * (n * bag) ≤ (parts * most) * (bag + jitter + w) = mul-le (parts * most) (n * bag) (parts * most) (bag + jitter + w) (omega arith) few in
        omega arith

-- between so many frames and one there are so many gaps
gaps-within : (m gap jitter w : ℕ) → suc m * (gap + jitter) ≤ (gap + jitter) + jitter + w → m * gap ≤ w
gaps-within zero gap jitter w h = omega arith
gaps-within (suc m) gap jitter w h = omega arith

gaps-left : (m bag jitter w : ℕ) → suc m * bag ≤ bag + jitter + w → m * (bag - jitter) ≤ w
gaps-left m bag jitter w h = elim (cases_lt jitter bag) [
  | inl less ↦ (let whole : bag ≡ (bag - jitter) + jitter = omega arith in gaps-within m (bag - jitter) jitter w (subst (λ b. suc m * b ≤ b + jitter + w) whole h))
  | inr more ↦ (let none : bag - jitter ≡ 0 = omega arith in subst (λ g. m * g ≤ w) (sym none) (omega arith))
]

pub spaced : (scale rate bag jitter most : ℕ) (test : PutFrame → Bool) (fs : List PutFrame) → IsPaced bag jitter (moments_at test fs) → IsEachAtMost most test fs →
    scale * most ≤ rate * (bag - jitter) → IsClassWithin scale (scale * most) rate test fs
spaced scale rate bag jitter most test fs p h fast = record {
  bounded = λ xs ys zs t u are between.
      let part = part-within bag jitter most test fs p h xs ys zs t u are between in
      numbers (cost_at test ys) (length (moments_at test ys)) (u - t) (bag - jitter) fast part.1 (λ m e. gaps-left m bag jitter (u - t) (subst (λ k. k * bag ≤ bag + jitter + (u - t)) e part.0));
}
  where
    numbers : (cost n w gap : ℕ) → scale * most ≤ rate * gap → cost ≤ n * most → ((m : ℕ) → n ≡ suc m → m * gap ≤ w) → scale * cost ≤ scale * most + rate * w
    numbers cost zero w gap fast c gaps = let a : scale * cost ≤ scale * 0 = mul-le scale cost scale 0 (omega arith) (omega arith) in omega arith
    numbers cost (suc m) w gap fast c gaps =
        let a : scale * cost ≤ scale * (suc m * most) = mul-le scale cost scale (suc m * most) (omega arith) c in
        let b : m * (scale * most) ≤ m * (rate * gap) = mul-le m (scale * most) m (rate * gap) (omega arith) fast in
        let d : rate * (m * gap) ≤ rate * w = mul-le rate (m * gap) rate w (omega arith) (gaps m refl) in
        omega arith

-- some frame came last before a part
serial-part : (first : Option ℕ) (test : PutFrame → Bool) (xs ys zs : List PutFrame) → IsSerial first test (xs ++ (ys ++ zs)) → (last : Option ℕ) × IsSerial last test ys
serial-part first test (x ∷ xs) ys zs h = serial-part (cond (test x) (Some x.at) first) test xs ys zs h.1
serial-part first test [] ys zs h = (first, front first ys h)
  where
    front : (last : Option ℕ) (ys : List PutFrame) → IsSerial last test (ys ++ zs) → IsSerial last test ys
    front last [] k = tt
    front last (y ∷ ys) k = (k.0, front (cond (test y) (Some y.at) last) ys k.1)

-- what comes after a frame that came at `last`, until u
serial-after : (last : ℕ) (test : PutFrame → Bool) (t u : ℕ) (ys : List PutFrame) → last ≤ t → IsBetween t u ys → IsSerial (Some last) test ys → cost_at test ys ≤ u - last
serial-after last test t u [] l h s = omega arith
serial-after last test t u (y ∷ ys) l h s = go (λ (from : ℕ) (a : from ≤ y.at) (k : IsSerial (Some from) test ys). serial-after from test y.at u ys a h.1 k) (test y) refl s.1
  where
    go : ((from : ℕ) → from ≤ y.at → IsSerial (Some from) test ys → cost_at test ys ≤ u - from) → (b : Bool) → test y ≡ b → IsSerial (cond b (Some y.at) (Some last)) test ys →
        cond b y.cost 0 + cost_at test ys ≤ u - last
    go r true e k = let n = r y.at (omega arith) k in let c = s.0 e in let z = between-ends y.at u ys h.1 in omega arith
    go r false e k = let a = h.0 in let n = r last (omega arith) k in omega arith

serial-from : (last : Option ℕ) (most : ℕ) (test : PutFrame → Bool) (t u : ℕ) (ys : List PutFrame) → IsBetween t u ys → IsSerial last test ys → IsEachAtMost most test ys → cost_at test ys ≤ most + (u - t)
serial-from last most test t u [] h s m = omega arith
serial-from last most test t u (y ∷ ys) h s m = go (λ (k : IsSerial last test ys). serial-from last most test y.at u ys h.1 k m.1) (test y) refl s.1
  where
    go : (IsSerial last test ys → cost_at test ys ≤ most + (u - y.at)) → (b : Bool) → test y ≡ b → IsSerial (cond b (Some y.at) last) test ys →
        cond b y.cost 0 + cost_at test ys ≤ most + (u - t)
    go later true e k = let r = serial-after y.at test y.at u ys (omega arith) h.1 k in let c = m.0 e in let a = h.0 in omega arith
    go later false e k = let r = later k in let a = h.0 in omega arith

pub serial : (scale most : ℕ) (first : Option ℕ) (test : PutFrame → Bool) (fs : List PutFrame) → IsSerial first test fs → IsEachAtMost most test fs →
    IsClassWithin scale (scale * most) scale test fs
serial scale most first test fs s h = record {
  bounded = λ xs ys zs t u are between.
      let part = serial-part first test xs ys zs (subst (IsSerial first test) are s) in
      let less = serial-from part.0 most test t u ys between part.1 (most-part most test xs ys zs (subst (IsEachAtMost most test) are h)) in
      let k : scale * cost_at test ys ≤ scale * (most + (u - t)) = mul-le scale (cost_at test ys) scale (most + (u - t)) (omega arith) less in
      omega arith;
}

-- ---- some of the frames

-- a moment, if there is one, is not after b
abbrev IsNotAfter : Option ℕ → ℕ → Type 0
IsNotAfter None b = ⊤
IsNotAfter (Some a) b = a ≤ b

sooner-after : (first : Option ℕ) (b : ℕ) (x : PutFrame) → IsNotAfter first b → IsAfter (Some b) x → IsAfter first x
sooner-after None b x l h = tt
sooner-after (Some a) b x l h = omega arith

not-after : (first : Option ℕ) (x : PutFrame) → IsAfter first x → IsNotAfter first x.at
not-after None x h = tt
not-after (Some a) x h = omega arith

serial-sooner : (first : Option ℕ) (b : ℕ) (test : PutFrame → Bool) (fs : List PutFrame) → IsNotAfter first b → IsSerial (Some b) test fs → IsSerial first test fs
serial-sooner first b test [] l h = tt
serial-sooner first b test (x ∷ xs) l h = (λ e. sooner-after first b x l (h.0 e), go (test x) h.1 (serial-sooner first b test xs l))
  where
    go : (t : Bool) → IsSerial (cond t (Some x.at) (Some b)) test xs → (IsSerial (Some b) test xs → IsSerial first test xs) → IsSerial (cond t (Some x.at) first) test xs
    go true k later = k
    go false k later = later k

pub fewer-serial : (first : Option ℕ) (test : PutFrame → Bool) (some fs : List PutFrame) → IsSublist some fs → IsSerial first test fs → IsSerial first test some
fewer-serial first test [] fs s h = tt
fewer-serial first test (x ∷ xs) [] s h = absurd s
fewer-serial first test (x ∷ xs) (y ∷ ys) (inl e) h = subst (λ z. IsSerial first test (z ∷ xs)) (sym e.0) (h.0, fewer-serial (cond (test y) (Some y.at) first) test xs ys e.1 h.1)
fewer-serial first test (x ∷ xs) (y ∷ ys) (inr k) h = fewer-serial first test (x ∷ xs) ys k (go (test y) refl h.1)
  where
    go : (t : Bool) → test y ≡ t → IsSerial (cond t (Some y.at) first) test ys → IsSerial first test ys
    go true e r = serial-sooner first y.at test ys (not-after first y (h.0 e)) r
    go false e r = r

pub fewer-paced : (bag jitter : ℕ) (some moments : List ℕ) → IsSublist some moments → IsPaced bag jitter moments → IsPaced bag jitter some
fewer-paced bag jitter some moments s h = record { bounded = λ few t u k between. h.bounded few t u (sub-trans few some moments k s) between }
