-- Why curves of lines and of virtual links bound all that comes.
use Rattle.std.proofs.Common.{◌≡◌, ℕ, zero, suc, ◌+◌, ◌-◌, ◌*◌, ◌≤◌, ◌==◌, inl, inr, Bool, true, false, cond, List, [], ◌∷◌, ◌++◌, arith, refl, ap, subst, eq-eqb}
use Rattle.std.proofs.lemmas.Nat.{mul-le}
use Rattle.port_bounds.specs.Frames.{PutFrame, IsBetween, IsWithin, cost_of, link_of}
use Rattle.port_bounds.specs.Arrivals.{cost_at, is_by_line}
use Rattle.port_bounds.specs.Mixtures.{AreByLines, AreFlowsWithin, AreGroupsWithin, AreKeyed, Flow, Group, IsAmong, flows_burst, flows_rate, groups_burst, groups_rate, lines_of, links_of, mixed}

keyed-part : (test : PutFrame → Bool) (key : PutFrame → ℕ) (keys : List ℕ) (xs ys zs : List PutFrame) → AreKeyed test key keys (xs ++ (ys ++ zs)) → AreKeyed test key keys ys
keyed-part test key keys (x ∷ xs) ys zs h = keyed-part test key keys xs ys zs h.1
keyed-part test key keys [] [] zs h = tt
keyed-part test key keys [] (y ∷ ys) zs h = (h.0, keyed-part test key keys [] ys zs h.1)

-- the cost of the frames with each of these keys, together
sum_at : (PutFrame → ℕ) → List ℕ → List PutFrame → ℕ
sum_at key [] ys = 0
sum_at key (k ∷ ks) ys = cost_at (λ x. key x == k) ys + sum_at key ks ys

-- what one frame adds to it
hit : ℕ → ℕ → List ℕ → ℕ
hit cost j [] = 0
hit cost j (k ∷ ks) = cond (j == k) cost 0 + hit cost j ks

sum-cons : (key : PutFrame → ℕ) (ks : List ℕ) (x : PutFrame) (ys : List PutFrame) → sum_at key ks (x ∷ ys) ≡ hit x.cost (key x) ks + sum_at key ks ys
unfolding sum_at hit
sum-cons key [] x ys = omega arith
sum-cons key (k ∷ ks) x ys = let r = sum-cons key ks x ys in omega arith

hit-among : (cost j : ℕ) (ks : List ℕ) → IsAmong j ks → cost ≤ hit cost j ks
unfolding hit
hit-among cost j [] x' = elim x' [ ]
hit-among cost j (k ∷ ks) (inl e) = let h = ap (λ (b : Bool). cond b cost 0) (eq-eqb j k e) in omega arith
hit-among cost j (k ∷ ks) (inr h) = let r = hit-among cost j ks h in omega arith

-- each frame is counted under its key
cover : (test : PutFrame → Bool) (key : PutFrame → ℕ) (ks : List ℕ) (ys : List PutFrame) → AreKeyed test key ks ys → cost_at test ys ≤ sum_at key ks ys
cover test key ks [] h = omega arith
cover test key ks (y ∷ ys) h = go (cover test key ks ys h.1) (test y) refl
  where
    go : cost_at test ys ≤ sum_at key ks ys → (b : Bool) → test y ≡ b → cond b y.cost 0 + cost_at test ys ≤ sum_at key ks (y ∷ ys)
    go r true e = let s = sum-cons key ks y ys in let k = hit-among y.cost (key y) ks (h.0 e) in omega arith
    go r false e = let s = sum-cons key ks y ys in omega arith

all-cost : (ys : List PutFrame) → cost_of ys ≡ cost_at (λ x. true) ys
all-cost [] = refl
all-cost (y ∷ ys) = let r = all-cost ys in omega arith

module _ (scale : ℕ) (fs xs ys zs : List PutFrame) (t u : ℕ) (are : fs ≡ xs ++ (ys ++ zs)) (between : IsBetween t u ys) where
  flows-within : (flows : List Flow) → AreFlowsWithin scale flows fs → scale * sum_at link_of (links_of flows) ys ≤ flows_burst flows + flows_rate flows * (u - t)
  unfolding sum_at
  flows-within [] h = omega arith
  flows-within (f ∷ flows) h =
      let here = h.0.bounded xs ys zs t u are between in
      let rest = flows-within flows h.1 in
      omega arith

  -- by the line, by the virtual links, and by some of each
  mixed-within : (whole weight cost lb lr fb fr w : ℕ) → weight ≤ whole → (1 ≤ weight → scale * cost ≤ lb + lr * w) → scale * cost ≤ fb + fr * w →
      (whole * scale) * cost ≤ mixed whole weight lb fb + mixed whole weight lr fr * w
  mixed-within whole weight cost lb lr fb fr w h k l =
      let a : weight * (scale * cost) ≤ weight * (lb + lr * w) = by-weight weight k in
      let b : (whole - weight) * (scale * cost) ≤ (whole - weight) * (fb + fr * w) = mul-le (whole - weight) (scale * cost) (whole - weight) (fb + fr * w) (omega arith) l in
      let c : (weight + (whole - weight)) * (scale * cost) ≡ whole * (scale * cost) = ap (λ (n : ℕ). n * (scale * cost)) (omega arith) in
      sums weight (whole - weight) whole (scale * cost) scale cost lb lr fb fr w refl c a b
    where
      by-weight : (n : ℕ) → (1 ≤ n → scale * cost ≤ lb + lr * w) → n * (scale * cost) ≤ n * (lb + lr * w)
      by-weight zero k = omega arith
      by-weight (suc n) k = mul-le (suc n) (scale * cost) (suc n) (lb + lr * w) (omega arith) (k (omega arith))

      sums : (p q whole sc scale cost lb lr fb fr w : ℕ) → sc ≡ scale * cost → (p + q) * sc ≡ whole * sc → p * sc ≤ p * (lb + lr * w) → q * sc ≤ q * (fb + fr * w) →
          (whole * scale) * cost ≤ (p * lb + q * fb) + (p * lr + q * fr) * w
      sums p q whole sc scale cost lb lr fb fr w e c a b = let d : whole * sc ≡ whole * (scale * cost) = ap (λ (n : ℕ). whole * n) e in omega arith

  groups-within : (whole : ℕ) (groups : List Group) → AreGroupsWithin scale whole groups fs →
      (whole * scale) * sum_at (λ x. x.line) (lines_of groups) ys ≤ groups_burst whole groups + groups_rate whole groups * (u - t)
  unfolding sum_at
  groups-within whole [] h = omega arith
  groups-within whole (g ∷ groups) h =
      let line : 1 ≤ g.weight → scale * cost_at (is_by_line g.line) ys ≤ g.burst + g.rate * (u - t) = λ some. (h.1 some).bounded xs ys zs t u are between in
      let flows = flows-within g.flows h.2 in
      let keyed = keyed-part (is_by_line g.line) link_of (links_of g.flows) xs ys zs (subst (AreKeyed (is_by_line g.line) link_of (links_of g.flows)) are h.3) in
      let less : scale * cost_at (is_by_line g.line) ys ≤ scale * sum_at link_of (links_of g.flows) ys = mul-le scale _ scale _ (omega arith) (cover (is_by_line g.line) link_of (links_of g.flows) ys keyed) in
      let here = mixed-within whole g.weight (cost_at (is_by_line g.line) ys) g.burst g.rate (flows_burst g.flows) (flows_rate g.flows) (u - t) h.0 line (omega arith) in
      let rest = groups-within whole groups h.4 in
      omega arith

pub mixture : (scale whole : ℕ) (groups : List Group) (fs : List PutFrame) → AreGroupsWithin scale whole groups fs → AreByLines groups fs →
    IsWithin (whole * scale) (groups_burst whole groups) (groups_rate whole groups) fs
mixture scale whole groups fs h keyed = record {
  bounded = λ xs ys zs t u are between.
      let part = keyed-part (λ x. true) (λ x. x.line) (lines_of groups) xs ys zs (subst (AreByLines groups) are keyed) in
      let all : cost_of ys ≤ sum_at (λ x. x.line) (lines_of groups) ys = rw (all-cost ys) (cover (λ x. true) (λ x. x.line) (lines_of groups) ys part) in
      let most : (whole * scale) * cost_of ys ≤ (whole * scale) * sum_at (λ x. x.line) (lines_of groups) ys = mul-le (whole * scale) _ (whole * scale) _ (omega arith) all in
      let each = groups-within scale fs xs ys zs t u are between whole groups h in
      le-both _ _ _ most each;
}
  where
    le-both : (a b c : ℕ) → a ≤ b → b ≤ c → a ≤ c
    le-both a b c h k = omega arith
