-- The first of outcomes that come one after another.
use Rattle.std.proofs.Common.{◌≡◌, List, [], ◌∷◌, ◌++◌, Some, None, slice_get}

-- the first of some stays the first where one more comes behind them
pub first_stays : {X : Type 0} (xs : List X) (x first : X) → slice_get xs 0 ≡ Some first → slice_get (xs ++ x ∷ []) 0 ≡ Some first
first_stays [] x first is = absurd (let bad : None ≡ Some first = is in cc)
first_stays (y ∷ ys) x first is = is
