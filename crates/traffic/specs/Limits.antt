-- The numbers of the streams of a network are within limits.
use Rattle.std.specs.Prelude.{◌≤◌}
use Rattle.network.specs.Words.{IsStreamInLimits}
use Rattle.traffic.specs.declared.stream.OfferedStream.{OfferedStream}

pub record IsOfferedInLimits (s : OfferedStream) : Type 0 where
  pub number : s.number ≤ 131071
  pub least_sub : 1 ≤ s.sub
  pub greatest_sub : s.sub ≤ 4
  pub stream : IsStreamInLimits s.stream
