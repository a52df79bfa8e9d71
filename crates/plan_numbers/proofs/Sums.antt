-- Sums over the first ports of a node.
use Rattle.std.proofs.Common.{◌≡◌, ℕ, zero, suc, ◌+◌, ◌*◌, ◌<◌, ◌≤◌, ◌⊎◌, inl, inr, Bool, true, false, cond, List, [], ◌∷◌, length, refl, ap, arith, suc-mul}
use Rattle.std.proofs.lemmas.Bool.{cases_eq}
use Rattle.std.specs.Prelude.{nat_le}
use Rattle.reverse.specs.Sending.{Sender, Wish, message_of, sent}

-- of the first ports
abbrev pub sum_to : ℕ → (ℕ → ℕ) → ℕ
sum_to zero f = 0
sum_to (suc b) f = f b + sum_to b f

pub sum-both : (b : ℕ) (f g : ℕ → ℕ) → sum_to b (λ q. f q + g q) ≡ sum_to b f + sum_to b g
sum-both zero f g = refl
sum-both (suc b) f g = let e = sum-both b f g in omega arith

pub sum-one : (b : ℕ) (f : ℕ → ℕ) (q : ℕ) → q < b → f q ≤ sum_to b f
sum-one zero f q l = absurd (omega arith)
sum-one (suc b) f q l = go (cases_eq q b) (λ k. sum-one b f q k)
  where
    go : (q ≡ b) ⊎ (q ≡ b → ⊥) → (q < b → f q ≤ sum_to b f) → f q ≤ f b + sum_to b f
    go (inl e) h = let k = ap f e in omega arith
    go (inr n) h = let k = h (omega arith) in omega arith

pub sum-most : (b : ℕ) (f : ℕ → ℕ) (c : ℕ) → ((q : ℕ) → f q ≤ c) → sum_to b f ≤ b * c
sum-most zero f c h = omega arith
sum-most (suc b) f c h =
    let e = sum-most b f c h in
    let k = h b in
    let m = suc-mul b c in
    omega arith

pub sum-same : (b : ℕ) (f g : ℕ → ℕ) → ((q : ℕ) → f q ≡ g q) → sum_to b f ≡ sum_to b g
sum-same zero f g h = refl
sum-same (suc b) f g h = let e = sum-same b f g h in let k = h b in omega arith

-- no more messages are sent than are wished
pub sent-few : (s : Sender) (ws : List Wish) → length (sent s ws) ≤ length ws
sent-few s [] = omega arith
sent-few s (w ∷ ws) = go (nat_le w.time s.until) (sent-few (record s { counter = s.counter + 1 }) ws) (sent-few s ws)
  where
    go : (b : Bool) → length (sent (record s { counter = s.counter + 1 }) ws) ≤ length ws → length (sent s ws) ≤ length ws →
        length (cond b (message_of s w ∷ sent (record s { counter = s.counter + 1 }) ws) (sent s ws)) ≤ length (w ∷ ws)
    go true h k = omega arith
    go false h k = omega arith
