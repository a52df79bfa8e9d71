use Rattle.std.proofs.Common.{◌≡◌, ℕ, ◌+◌, ◌*◌, ◌++◌, map}
use Rattle.std.specs.List.{range_with_len}
use Rattle.traffic.specs.Offers.{due_of, offer_by}
use Rattle.traffic.proofs.drawing.push_burst.Given as goal

abbrev pub invariant-loop-i : goal.invariant-loop-i
invariant-loop-i l = (late : ℕ) → l.fn.time ≡ due_of l.stream.stream l.k + late → l.offers.items ≡ l.fn.offers.items ++ map (λ n. offer_by l.stream n late) (range_with_len (l.k * l.stream.stream.frames) l.i)
