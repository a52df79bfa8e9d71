-- The network of nothing, of which a run is when nobody says of which network it is.
use Rattle.std.specs.Prelude.{[]}
use Rattle.network.specs.Words.{Plan}

-- a network of nothing
abbrev pub empty_plan : Plan
empty_plan = record { until = 0; seed = 0; nodes = []; links = []; outages = []; vls = []; streams = [] }
