-- Which virtual links are offered one frame of one size in each period, and nothing else.
use Rattle.std.specs.Prelude.{Bool, true, false, not, ◌&&◌, ◌==◌, is_none}
use Rattle.std.specs.List.{list_any}
use Rattle.row_types.specs.declared.rows.Stream.{Stream}
use Rattle.row_types.specs.declared.rows.Timing.{Timing}
use Rattle.row_types.specs.declared.rows.Timing.TheVariants.{Periodic, Sporadic}
use Rattle.row_types.specs.declared.rows.VirtualLink.{VirtualLink}
use Rattle.network.specs.Words.{Plan}

abbrev pub is_periodic : Timing → Bool
is_periodic Periodic = true
is_periodic Sporadic = false

-- one frame of one size in each period
abbrev pub is_plain_stream : Stream → Bool
is_plain_stream stream = (stream.frames == 1) && (is_none stream.last_size && is_periodic stream.timing)

-- and no row is another stream of the virtual link
abbrev pub is_plain : Plan → VirtualLink → Bool
is_plain plan link = is_plain_stream link.own && not (list_any (λ s. s.vl.0 == link.id.0) plan.streams)
