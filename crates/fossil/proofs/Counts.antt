-- How many events are committed one after another, counted before the first of them is.
use Rattle.std.proofs.Common.{◌≡◌, ℕ, zero, suc, ◌+◌, ◌<◌, ◌==◌, Bool, true, false, ◌&&◌, cond, if◌then◌else◌, nat_lt, List, [], ◌∷◌, take, Result, Ok, Err, refl, sym, ap, ◌∙◌, subst, arith, add-one, OnOk, OnErr, IsErr}
use Rattle.virtual_time.specs.Law.{Rules, IsOrder, IsIn, IsAscending, minus_of, pluses, minuses, Part, can_commit, oldest_committed, commit_oldest}
use Rattle.virtual_time.specs.declared.letter.Letter.{Letter}
use Rattle.virtual_time.proofs.Order.{greater-different}
use Rattle.virtual_time.proofs.Lists.{in-head}
use Rattle.virtual_time.proofs.Letters.{counts-other}
use Rattle.process_queues.specs.Committing.{is_committable, committable}
use Rattle.fossil.specs.Committed.{is_early, is_ready, committed_times, committed_below, committed_once}

and-second : (a b : Bool) → (a && b) ≡ true → b ≡ true
and-second true b h = h
and-second false b h = cc

-- what holds where a call is not refused, of a call that is refused only where there is no room
pub on_ok-room : {A E : Type 0} (P : Type 0) (x : Result A E) (room : ℕ) → OnOk x P → OnErr x (room ≡ 0) → 0 < room → P
on_ok-room P (Ok a) room h n some = h
on_ok-room P (Err e) room h n some = absurd (omega arith)

-- what holds where a call is refused, of a call that was
pub on_err-is : {A E : Type 0} (P : Type 0) (x : Result A E) → OnErr x P → IsErr x → P
on_err-is P (Ok a) h e = absurd (let k : ⊥ = cc in k)
on_err-is P (Err e) h is = h

module _ {M S K N : Type 0} (r : Rules M S K N) where
  -- once more
  pub committed-last : (n : ℕ) (part : Part M S) → committed_times r (n + 1) part ≡ commit_oldest r (committed_times r n part)
  committed-last zero part = refl
  committed-last (suc n) part = ap (λ k. committed_times r k part) (add-one (suc n)) ∙ (ap (λ k. committed_times r k (commit_oldest r part)) (sym (add-one n)) ∙ committed-last n (commit_oldest r part))

  -- one at most
  pub once-part : (g : ℕ) (part : Part M S) → committed_times r (committed_below r g 1 part) part ≡ committed_once r g part
  once-part g part = go (is_ready r g part)
    where
      go : (b : Bool) → committed_times r (cond b 1 0) part ≡ cond b (commit_oldest r part) part
      go true = refl
      go false = refl

  module _ (O : IsOrder r.order) (g : ℕ) where
    -- that m is committed changes nothing for the events behind it
    can-other : (m x : M) (tally : List (Letter M)) → r.order.less m x ≡ true → is_committable r.order g (minus_of m ∷ tally) x ≡ is_committable r.order g tally x
    can-other m x tally h =
        let a = counts-other r.order O x (minus_of m) tally (greater-different r.order O x m h) in
        ap (λ p. nat_lt (r.order.time x) g && (p == minuses r.order x (minus_of m ∷ tally) + 1)) a.0 ∙ ap (λ q. nat_lt (r.order.time x) g && (pluses r.order x tally == q + 1)) a.1

    committable-other : (m : M) (tally : List (Letter M)) (n : ℕ) (xs : List M) → ((x : M) → IsIn r.order x xs → r.order.less m x ≡ true) →
        committable r.order g (minus_of m ∷ tally) (take n xs) ≡ committable r.order g tally (take n xs)
    committable-other m tally zero xs h = refl
    committable-other m tally (suc n) [] h = refl
    committable-other m tally (suc n) (x ∷ xs) h =
        ap (λ can. if can then suc (committable r.order g (minus_of m ∷ tally) (take n xs)) else 0) (can-other m x tally (h x (in-head r.order O x xs))) ∙
        ap (λ k. if is_committable r.order g tally x then suc k else 0) (committable-other m tally n xs (λ y j. h y (let k : IsIn r.order y (x ∷ xs) = omega arith in k)))

    -- as many as come before the first one that cannot be committed
    pub committable-below : (n : ℕ) (part : Part M S) → IsAscending r.order part.done → committable r.order g part.tally (take n part.done) ≡ committed_below r g n part
    committable-below zero part up = refl
    committable-below (suc n) part up = go part.done refl (committable-below n)
      where
        go : (ms : List M) → part.done ≡ ms → ((p : Part M S) → IsAscending r.order p.done → committable r.order g p.tally (take n p.done) ≡ committed_below r g n p) →
            committable r.order g part.tally (take (suc n) ms) ≡ cond (is_early r g ms && can_commit r.order part ms) (suc (committed_below r g n (commit_oldest r part))) 0
        go [] e ih = refl
        go (m ∷ rest) e ih = pick (is_committable r.order g part.tally m) refl
          where
            ascends : IsAscending r.order (m ∷ rest)
            ascends = subst (IsAscending r.order) e up

            seals : can_commit r.order part (m ∷ rest) ≡ true → commit_oldest r part ≡ oldest_committed r part (m ∷ rest)
            seals h = ap (λ ms. cond (can_commit r.order part ms) (oldest_committed r part ms) part) e ∙ ap (λ b. cond b (oldest_committed r part (m ∷ rest)) part) h

            pick : (b : Bool) → is_committable r.order g part.tally m ≡ b →
                cond b (suc (committable r.order g part.tally (take n rest))) 0 ≡ cond b (suc (committed_below r g n (commit_oldest r part))) 0
            pick true h = ap suc
                (sym (committable-other m part.tally n rest ascends.0) ∙
                (ih (oldest_committed r part (m ∷ rest)) ascends.1 ∙ ap (committed_below r g n) (sym (seals (and-second (nat_lt (r.order.time m) g) _ h)))))
            pick false h = refl
