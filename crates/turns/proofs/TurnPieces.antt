-- A turn, one piece after another.
use Rattle.std.proofs.Common.{◌≡◌, ℕ, ◌+◌, ◌-◌, ◌≤◌, List, [], ◌∷◌, fold, refl, subst, arith}
use Rattle.turns.specs.Turn.{IsPiece, IsTurn}

sum-from : (n : ℕ) (xs : List ℕ) → fold ◌+◌ n xs ≡ n + fold ◌+◌ 0 xs
sum-from n [] = omega arith
sum-from n (x ∷ xs) =
    let a : fold ◌+◌ (n + x) xs ≡ (n + x) + fold ◌+◌ 0 xs = sum-from (n + x) xs in
    let b : fold ◌+◌ (0 + x) xs ≡ (0 + x) + fold ◌+◌ 0 xs = sum-from (0 + x) xs in
    omega (arith, a, b)

module _ {G : Type 0} (handles : G → G → ℕ → ℕ → ℕ → Type 0) (stays : G → G → Type 0) (turn window : ℕ) where
  -- before its first piece
  pub no-piece : (group : G) → IsTurn handles stays turn window group group 0
  no-piece group = record { counts = []; pieces = refl; all = refl; few = omega arith }

  -- and behind one piece more
  pub one-more : (most : ℕ) (old between new : G) (handled count now : ℕ) → IsTurn handles stays turn window old between handled → most ≤ turn - handled →
      IsPiece handles stays window most between new count → now ≡ handled + count → IsTurn handles stays turn window old new now
  one-more most old between new handled count now T left P is =
      let all = T.all in
      let few = T.few in
      let within = P.few in
      let more : fold ◌+◌ (0 + count) T.counts ≡ (0 + count) + fold ◌+◌ 0 T.counts = sum-from (0 + count) T.counts in
      let sums : now ≡ fold ◌+◌ (0 + count) T.counts = omega (arith, all, more, is) in
      record {
        counts = count ∷ T.counts;
        pieces = (between, T.pieces, (most, subst (λ n. most ≤ turn - n) all left, P));
        all = sums;
        few = omega (arith, left, few, within, is);
      }
