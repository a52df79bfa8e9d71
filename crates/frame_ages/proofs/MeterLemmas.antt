-- Why frames of which an account lets so many bytes pass have their curve: for its bytes the least frame costs the most.
use Rattle.std.proofs.Common.{◌≡◌, ℕ, ◌+◌, ◌-◌, ◌*◌, ◌≤◌, ◌==◌, Bool, true, false, cond, List, [], ◌∷◌, ◌++◌, filter, map, refl, sym, ap, subst, arith, eqb-true}
use Rattle.std.proofs.Math.Nat.{le_of_mul-le-mul_left}
use Rattle.std.proofs.lemmas.Nat.{mul-le}
use Rattle.vlink.specs.Wire.{busy_for}
use Rattle.policer.specs.declared.account.Arrival.{Arrival}
use Rattle.policer.specs.Bound.{IsBetween as AreBetween}
use Rattle.port_bounds.specs.Frames.{IsBetween, PutFrame, link_of}
use Rattle.port_bounds.specs.Arrivals.{IsClassWithin, cost_at, is_of_link}
use Rattle.port_bounds.specs.Sublists.{Every, IsSublist}
use Rattle.port_bounds.proofs.FrameLemmas.{between-ends}
use Rattle.port_bounds.proofs.SublistLemmas.{every-split, sub-part}
use Rattle.element_bounds.specs.Passages.{IsMetered, bytes_of}
use Rattle.port_turns.specs.PortRuns.{arrival_of, arrivals_of}
use Rattle.port_turns.proofs.SentKinds.{sub-map}
use Rattle.port_turns.proofs.TracePuts.{filter-sub}

-- the frames come between the same two moments
come-between : (v t u : ℕ) (ys : List PutFrame) → IsBetween t u ys → AreBetween t u (arrivals_of v ys)
come-between v t u [] h = tt
come-between v t u (y ∷ ys) h = go (link_of y == v) (come-between v y.at u ys h.1) (come-between v t u ys (sooner ys h.0 h.1))
  where
    sooner : (ys : List PutFrame) → t ≤ y.at → IsBetween y.at u ys → IsBetween t u ys
    sooner [] l k = omega (arith, l, k)
    sooner (x ∷ xs) l k = (let from = k.0 in omega (arith, l, from), k.1)

    go : (b : Bool) → AreBetween y.at u (arrivals_of v ys) → AreBetween t u (arrivals_of v ys) → AreBetween t u (map arrival_of (cond b (y ∷ filter (is_of_link v) ys) (filter (is_of_link v) ys)))
    go true own rest = (h.0, between-ends y.at u ys h.1, own)
    go false own rest = rest

module _ (v least byte_ns : ℕ) where
  -- a frame of the virtual link costs what its bytes cost, and is not shorter than the least
  abbrev pub IsOwnCost : PutFrame → Type 0
  IsOwnCost put = link_of put ≡ v → (put.cost ≡ busy_for put.frame.size byte_ns) × (least ≤ put.frame.size)

  one : (size cost : ℕ) → cost ≡ busy_for size byte_ns → least ≤ size → cost * least ≤ size * busy_for least byte_ns
  one size cost e le =
      let fewer : (20 * byte_ns) * least ≤ (20 * byte_ns) * size = mul-le (20 * byte_ns) least (20 * byte_ns) size (omega arith) le in
      let is : cost * least ≡ ((size + 20) * byte_ns) * least = ap (λ n. n * least) e in
      omega (arith, fewer, is)

  costs : (ys : List PutFrame) → Every IsOwnCost ys → cost_at (is_of_link v) ys * least ≤ bytes_of (arrivals_of v ys) * busy_for least byte_ns
  costs [] h = omega arith
  costs (y ∷ ys) h = go (link_of y == v) refl (costs ys h.1)
    where
      go : (b : Bool) → (link_of y == v) ≡ b → cost_at (is_of_link v) ys * least ≤ bytes_of (arrivals_of v ys) * busy_for least byte_ns →
          (cond b y.cost 0 + cost_at (is_of_link v) ys) * least ≤ bytes_of (map arrival_of (cond b (y ∷ filter (is_of_link v) ys) (filter (is_of_link v) ys))) * busy_for least byte_ns
      go true e rest = let own = h.0 (eqb-true (link_of y) v e) in let this = one y.frame.size y.cost own.0 own.1 in omega (arith, this, rest)
      go false e rest = omega (arith, rest)

  -- numbers: the cost of so many bytes
  numbers : (parts bag time smax cost all bytes : ℕ) → 1 ≤ least → all * least ≤ bytes * busy_for least byte_ns → bytes * bag ≤ smax * time → smax * busy_for least byte_ns ≤ cost * least →
      (parts * bag) * all ≤ (parts * cost) * time
  numbers parts bag time smax cost all bytes some each few enough =
      let byte : ℕ = busy_for least byte_ns in
      let a : (parts * bag) * (all * least) ≤ (parts * bag) * (bytes * byte) = mul-le (parts * bag) (all * least) (parts * bag) (bytes * byte) (omega arith) each in
      let b : (parts * byte) * (bytes * bag) ≤ (parts * byte) * (smax * time) = mul-le (parts * byte) (bytes * bag) (parts * byte) (smax * time) (omega arith) few in
      let c : (parts * time) * (smax * byte) ≤ (parts * time) * (cost * least) = mul-le (parts * time) (smax * byte) (parts * time) (cost * least) (omega arith) enough in
      let whole : least * ((parts * bag) * all) ≤ least * ((parts * cost) * time) = chain parts bag time smax cost all bytes byte a b c in
      le_of_mul-le-mul_left whole some
    where
      chain : (parts bag time smax cost all bytes byte : ℕ) → (parts * bag) * (all * least) ≤ (parts * bag) * (bytes * byte) → (parts * byte) * (bytes * bag) ≤ (parts * byte) * (smax * time) →
          (parts * time) * (smax * byte) ≤ (parts * time) * (cost * least) → least * ((parts * bag) * all) ≤ least * ((parts * cost) * time)
      chain parts bag time smax cost all bytes byte a b c = omega (arith, a, b, c)

  pub metered : (parts smax bag jitter cost : ℕ) (fs : List PutFrame) → 1 ≤ least → IsMetered smax bag jitter (arrivals_of v fs) → Every IsOwnCost fs → smax * busy_for least byte_ns ≤ cost * least →
      IsClassWithin (parts * bag) ((parts * cost) * (bag + jitter)) (parts * cost) (is_of_link v) fs
  metered parts smax bag jitter cost fs some meter each enough = record {
    bounded = λ xs ys zs t u are between.
        let own = (every-split IsOwnCost ys zs (every-split IsOwnCost xs (ys ++ zs) (subst (Every IsOwnCost) are each)).1).0 in
        let part : IsSublist (arrivals_of v ys) (arrivals_of v fs) =
        subst (λ z. IsSublist (arrivals_of v ys) (arrivals_of v z)) (sym are) (sub-map arrival_of _ _ (filter-sub (is_of_link v) ys (xs ++ (ys ++ zs)) (sub-part xs ys zs))) in
        let few = meter.bounded (arrivals_of v ys) t u part (come-between v t u ys between) in
        let all = numbers parts bag ((bag + jitter) + (u - t)) smax cost (cost_at (is_of_link v) ys) (bytes_of (arrivals_of v ys)) some (costs ys own) few enough in
        spread (parts * cost) (bag + jitter) (u - t) ((parts * bag) * cost_at (is_of_link v) ys) all;
  }
    where
      spread : (rate burst time all : ℕ) → all ≤ rate * (burst + time) → all ≤ rate * burst + rate * time
      spread rate burst time all h = omega (arith, h)
