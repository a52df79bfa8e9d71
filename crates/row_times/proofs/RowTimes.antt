-- The moments of the rows of committed events do not fall, where the process is safe.
use Rattle.std.proofs.Common.{◌≡◌, ℕ, zero, suc, ◌≤◌, ◌==◌, List, [], ◌∷◌, ◌++◌, length, drop, sym, ap, ◌∙◌, subst, arith, All, take-append-drop}
use Rattle.std.specs.List.Sorted.{IsNonDecreasingBy}
use Rattle.std.proofs.lemmas.List.Elements.{All-cons, All-nil}
use Rattle.virtual_time.specs.Law.{Rules, IsOrder, rows_of, rowed, IsIn, IsAscending, Simulation, Laws, one, events, Part, IsSafePart}
use Rattle.virtual_time.specs.declared.row.Row.{Row}
use Rattle.virtual_time.proofs.Order.{less-time}
use Rattle.virtual_time.proofs.Lists.{in-head}
use Rattle.virtual_time.proofs.Ascending.{ascending-filter, ascending-left}
use Rattle.virtual_time.proofs.OneThread.{right}
use Rattle.row_times.specs.Within.{AreFrom, AreInTime}

-- one in front of such as are not less
rises-cons : {X : Type 0} (n : X → ℕ) (x : X) (xs : List X) → All (λ y. n x ≤ n y) xs → IsNonDecreasingBy n xs → IsNonDecreasingBy n (x ∷ xs)
rises-cons n x xs least up zero zero d i j = omega arith
rises-cons n x xs least up zero (suc j) d i k = least j d (omega arith)
rises-cons n x xs least up (suc i) zero d k j = absurd (omega arith)
rises-cons n x xs least up (suc i) (suc j) d k l = up i j d (omega arith) (omega arith)

module _ {M S K N : Type 0} (r : Rules M S K N) where
  event-from : (t : ℕ) (m : M) (ns : List N) (rows : List (Row M N)) → t ≤ r.order.time m → AreFrom r t rows → AreFrom r t (rows_of r.order m ns ++ rows)
  event-from t m [] rows le h = h
  event-from t m (n ∷ ns) rows le h =
      All-cons (λ row. t ≤ r.order.time row.message) (record { message = m; place = r.order.receiver m; note = n }) (rows_of r.order m ns ++ rows) le (event-from t m ns rows le h)

  event-rises : (m : M) (ns : List N) (rows : List (Row M N)) → AreFrom r (r.order.time m) rows → AreInTime r rows → AreInTime r (rows_of r.order m ns ++ rows)
  event-rises m [] rows h up = up
  event-rises m (n ∷ ns) rows h up =
      rises-cons (λ row. r.order.time row.message) (record { message = m; place = r.order.receiver m; note = n }) (rows_of r.order m ns ++ rows)
      (event-from (r.order.time m) m ns rows (omega arith) h) (event-rises m ns rows h up)

  module _ (O : IsOrder r.order) where
    rows-from : (t : ℕ) (s : S) (ms : List M) → ((m : M) → IsIn r.order m ms → t ≤ r.order.time m) → AreFrom r t (rowed r s ms)
    rows-from t s [] h = All-nil (λ row. t ≤ r.order.time row.message)
    rows-from t s (m ∷ ms) h =
        event-from t m (r.notes s m) (rowed r (r.after s m) ms) (h m (in-head r.order O m ms))
        (rows-from t (r.after s m) ms (λ x i. h x (let k : IsIn r.order x (m ∷ ms) = omega arith in k)))

    rows-rise : (s : S) (ms : List M) → IsAscending r.order ms → AreInTime r (rowed r s ms)
    rows-rise s [] up = λ i j d le lt. absurd (omega arith)
    rows-rise s (m ∷ ms) up =
        event-rises m (r.notes s m) (rowed r (r.after s m) ms)
        (rows-from (r.order.time m) (r.after s m) ms (λ x i. less-time r.order O m x (up.0 x i))) (rows-rise (r.after s m) ms up.1)

module _ {M S K N : Type 0} (f : Simulation M S K N) (L : Laws f) (p g : ℕ) (part : Part M S) (safe : IsSafePart f p g part) where
  committed-ascend : IsAscending f.rules.order part.committed
  committed-ascend =
      let n = safe.first.some.0 in
      let all : part.committed ++ drop (length part.committed) (events f n p) ≡ events f n p =
      ap (λ z. z ++ drop (length part.committed) (events f n p)) (sym (safe.first.each n safe.first.some.1)) ∙ take-append-drop (length part.committed) (events f n p) in
      ascending-left f.rules.order L.order part.committed (drop (length part.committed) (events f n p))
      (subst (IsAscending f.rules.order) (sym all) (ascending-filter f.rules.order L.order (λ m. f.rules.order.receiver m == p) (one f n).handled (right f L n).ascending))

  pub committed-in-time : AreInTime f.rules (rowed f.rules (f.opening p) part.committed)
  committed-in-time = rows-rise f.rules L.order (f.opening p) part.committed committed-ascend
