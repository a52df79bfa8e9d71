-- Frames within the limits, and how many bytes they have together.
use Rattle.std.proofs.Common.{◌≡◌, ◌*◌, ◌≤◌, List, [], ◌∷◌, ◌++◌, length, arith, Some, All}
use Rattle.std.proofs.lemmas.List.Elements.{All-head, All-tail, All-rest, All-pop}
use Rattle.std.proofs.lemmas.List.Sums.{sum_by-cons}
use Rattle.vlink.specs.declared.frame.Frame.{Frame}
use Rattle.frame_ring.specs.Queue.{bytes_of, IsWithinLimits}

-- at least 64 bytes a frame, and at most 1518
pub bytes_within_limits : (frames : List Frame) → All IsWithinLimits frames → (64 * length frames ≤ bytes_of frames) × (bytes_of frames ≤ 1518 * length frames)
bytes_within_limits [] limits = (omega arith, omega arith)
bytes_within_limits (frame ∷ frames) limits =
    let first = All-head IsWithinLimits frame frames limits in
    let others = bytes_within_limits frames (All-tail IsWithinLimits frame frames limits) in
    let sum = sum_by-cons (λ (f : Frame). f.size) frame frames in
    (omega arith, omega arith)

-- the frames before the last
pub front_within_limits : (front frames : List Frame) (last : Frame) → frames ≡ front ++ last ∷ [] → All IsWithinLimits frames → All IsWithinLimits front
front_within_limits front frames last items limits = (All-pop IsWithinLimits frames front (Some last) items limits).0

-- the frames behind the first
pub rest_within_limits : (rest frames : List Frame) (first : Frame) → frames ≡ first ∷ rest → All IsWithinLimits frames → All IsWithinLimits rest
rest_within_limits rest frames first items limits = All-rest IsWithinLimits first rest frames items limits
