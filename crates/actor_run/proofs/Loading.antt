-- Each event makes the load smaller.
use Rattle.std.proofs.Common.{◌≡◌, ℕ, zero, suc, ◌+◌, ◌-◌, ◌*◌, ◌<◌, ◌≤◌, ◌++◌, ◌∙◌, List, [], ◌∷◌, All, length, IsPermutation, refl, sym, ap, arith, sum_by, suc-mul}
use Rattle.std.proofs.lemmas.List.Elements.{All-head, All-tail}
use Rattle.std.proofs.lemmas.List.Sorted.{sum_by-IsPermutation}
use Rattle.std.proofs.lemmas.List.Sums.{sum_by-cons}
use Rattle.vlink.specs.declared.message.Message.{Message}
use Rattle.actor_run.specs.Load.{power, weight, load}
use Rattle.reverse.specs.declared.sends.TheConstants.{MOST_SENT}

power-least : (k : ℕ) → 0 < power k
unfolding power
power-least zero = omega arith
power-least (suc k) = let a = power-least k in omega arith

power-more : (k d e : ℕ) → e ≡ d + k → power k ≤ power e
unfolding power
power-more k zero e h = let a : e ≡ k = omega arith in let b = ap power a in omega arith
power-more k (suc d) zero h = absurd (omega arith)
power-more k (suc d) (suc e) h = let a = power-more k d e (omega arith) in omega arith

pub load-append : (limit : ℕ) (xs ys : List Message) → load limit (xs ++ ys) ≡ load limit xs + load limit ys
load-append limit [] ys = omega arith
load-append limit (x ∷ xs) ys = let a = load-append limit xs ys in omega arith

load-sum : (limit : ℕ) (xs : List Message) → load limit xs ≡ sum_by (λ m. weight limit m.time) xs
load-sum limit [] = refl
load-sum limit (x ∷ xs) = ap (λ n. weight limit x.time + n) (load-sum limit xs) ∙ sym (sum_by-cons (λ m. weight limit m.time) x xs)

pub load-permutation : (limit : ℕ) (xs ys : List Message) → IsPermutation xs ys → load limit ys ≡ load limit xs
load-permutation limit xs ys p =
    load-sum limit ys ∙ (sum_by-IsPermutation (λ m. weight limit m.time) xs ys p ∙ sym (load-sum limit xs))

-- a message later than t weighs at most one part of `MOST_SENT + 1` of one at t
later-weight : (limit t u : ℕ) → t < u → u ≤ limit → (MOST_SENT + 1) * weight limit u ≤ weight limit t
unfolding power
later-weight limit t u i j =
    let a : limit - t ≡ suc (limit - suc t) = omega arith in
    let b = power-more (limit - u) (u - suc t) (limit - suc t) (omega arith) in
    let c = ap power a in
    omega arith

-- messages that are all later than t
load-later : (limit t : ℕ) (ms : List Message) → All (λ m. t < m.time) ms → All (λ m. m.time ≤ limit) ms →
    (MOST_SENT + 1) * load limit ms ≤ length ms * weight limit t
load-later limit t [] a b = omega arith
load-later limit t (m ∷ ms) a b =
    let i = later-weight limit t m.time (All-head (λ m. t < m.time) m ms a) (All-head (λ m. m.time ≤ limit) m ms b) in
    let j = load-later limit t ms (All-tail (λ m. t < m.time) m ms a) (All-tail (λ m. m.time ≤ limit) m ms b) in
    let k = suc-mul (length ms) (weight limit t) in
    omega arith

at-most : (a b w : ℕ) → a ≤ b → a * w ≤ b * w
at-most a b w h = grind arith

-- what an event sends weighs less than its message: at most `MOST_SENT` messages, all later
pub sends-lighter : (limit : ℕ) (m : Message) (sends : List Message) → All (λ x. m.time < x.time) sends → All (λ x. x.time ≤ limit) sends → length sends ≤ MOST_SENT →
    load limit sends < weight limit m.time
sends-lighter limit m sends a b c =
    let k = load-later limit m.time sends a b in
    let w = power-least (limit - m.time) in
    let z : length sends * weight limit m.time ≤ MOST_SENT * weight limit m.time = at-most (length sends) MOST_SENT (weight limit m.time) c in
    omega arith

-- so where it waits in place of its message, the load falls
pub load-replaced : (limit : ℕ) (m : Message) (heap rest sends more : List Message) → IsPermutation heap (m ∷ rest) → load limit more ≤ load limit rest + load limit sends →
    load limit sends < weight limit m.time → load limit more < load limit heap
load-replaced limit m heap rest sends more p q l = let d = load-permutation limit heap (m ∷ rest) p in omega arith

pub load-falls : (limit : ℕ) (m : Message) (heap rest sends more : List Message) → IsPermutation heap (m ∷ rest) → IsPermutation (rest ++ sends) more →
    All (λ x. m.time < x.time) sends → All (λ x. x.time ≤ limit) sends → length sends ≤ MOST_SENT → load limit more < load limit heap
load-falls limit m heap rest sends more p q a b c =
    let e = load-permutation limit (rest ++ sends) more q in
    let g = load-append limit rest sends in
    load-replaced limit m heap rest sends more p (omega arith) (sends-lighter limit m sends a b c)
