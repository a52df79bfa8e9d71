-- Queues of frames with a fixed room, and the bytes in them.
use Rattle.std.specs.Prelude.{◌≡◌, ℕ, ◌^◌, ◌<◌, ◌≤◌, List, length, All, sum_by}
use Rattle.vlink.specs.declared.frame.Frame.{Frame}

-- the frames that wait, the next to leave at the front first, and how many there may be
pub record Queue : Type 0 where
  pub frames : List Frame
  pub room : ℕ

-- how many bytes the frames have together
abbrev pub bytes_of : List Frame → ℕ
bytes_of frames = sum_by (λ frame. frame.size) frames

-- a frame has at least 64 bytes and at most 1518
abbrev pub IsWithinLimits : Frame → Type 0
IsWithinLimits frame = (64 ≤ frame.size) × (frame.size ≤ 1518)

-- what holds of the frames in a buffer for `capacity` frames, of which `room` may be used, with a counter of their bytes
pub record IsRing (frames : List Frame) (room capacity bytes : ℕ) : Type 0 where
  pub within : length frames ≤ room
  pub small : room < 2 ^ 32
  pub reserved : room ≤ capacity
  pub sum : bytes ≡ bytes_of frames
  pub limits : All IsWithinLimits frames
