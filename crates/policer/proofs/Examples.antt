-- The account at work, each case computed.
use Rattle.std.proofs.Common.{◌≡◌, ℕ, [], ◌∷◌, refl}
use Rattle.policer.specs.declared.account.Arrival.{Arrival}
use Rattle.policer.specs.declared.account.Measure.TheVariants.{Bytes, Frames}
use Rattle.policer.specs.Account.{full}
use Rattle.policer.specs.Bound.{after_all, passed_frames}

abbrev frame : ℕ → Arrival
frame at = record { at = at; size = 64 }

-- a frame smaller than the greatest one: where bytes are charged the next one passes sooner
by_bytes : passed_frames (full 100 1000000 0 Bytes) (frame 0 ∷ frame 280000 ∷ []) ≡ 2
by_bytes = refl

by_frames : passed_frames (full 100 1000000 0 Frames) (frame 0 ∷ frame 640000 ∷ frame 1000000 ∷ []) ≡ 2
by_frames = refl

-- with a jitter of one BAG two frames pass at once: the bound is reached, and does not hold without the jitter
reached : passed_frames (after_all (full 64 1000000 1000000 Frames) []) (frame 0 ∷ frame 0 ∷ frame 0 ∷ []) ≡ 2
reached = refl
