-- What is counted of a stream: its delays so far, and its bursts that come.
use Rattle.std.specs.Prelude.{◌≡◌, ℕ, zero, suc, ◌+◌, nat_le, cond, min, ⊤}
use Rattle.vlink.specs.declared.time.TheConstants.{LATEST_NS}
use Rattle.row_types.specs.declared.rows.Timing.{Timing}
use Rattle.row_types.specs.declared.rows.Timing.TheVariants.{Periodic, Sporadic}
use Rattle.traffic.specs.declared.stream.OfferedStream.{OfferedStream}
use Rattle.traffic.specs.Offers.{moment_of}

-- the delays so far are added up no further than any run goes; bursts by a period do not ask for the sum
abbrev pub IsSumOf : Timing → ℕ → ℕ → Type 0
IsSumOf Periodic before sum = ⊤
IsSumOf Sporadic before sum = before ≡ min sum (LATEST_NS + 1)

-- how many of the first n bursts come until then
abbrev pub come_count : ℕ → ℕ → OfferedStream → ℕ → ℕ
come_count seed last s zero = 0
come_count seed last s (suc n) = come_count seed last s n + cond (nat_le (moment_of seed s n) last) 1 0
