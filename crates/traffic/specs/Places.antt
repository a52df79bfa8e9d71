-- The streams of a network by place: those of virtual links in the order of their numbers, and behind them those of rows.
use Rattle.std.specs.Prelude.{ℕ, ◌+◌, ◌-◌, List, ◌++◌, flat_map, length, take}
use Rattle.network.specs.Words.{Plan, each}
use Rattle.traffic.specs.declared.stream.OfferedStream.{OfferedStream}
use Rattle.traffic.specs.Offers.{own_streams, row_streams}

abbrev pub place_count : Plan → ℕ
place_count plan = length plan.vls + length plan.streams

-- those of the first n places
abbrev pub streams_before : Plan → ℕ → List OfferedStream
streams_before plan n = flat_map own_streams (take n plan.vls) ++ each (row_streams plan.vls) (take (n - length plan.vls) plan.streams)
