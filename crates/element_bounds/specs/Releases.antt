-- When a regulator releases frames, from whatever state and whatever is asked of it.
use Rattle.std.specs.Prelude.{List}
use Rattle.bag_regulator.specs.declared.event.RegEvent.{RegEvent}
use Rattle.bag_regulator.specs.Regulator.{Regulator}
use Rattle.bag_regulator.specs.Spacing.{IsSpaced, releases_of}
use Rattle.port_bounds.specs.Pacing.{IsPaced}

-- each release is at least one BAG after the one before it
abbrev pub AreReleasesApart : Type 0
AreReleasesApart = (g : Regulator) (es : List RegEvent) → IsSpaced g.bag (releases_of g es)

-- so releases are paced, with no jitter
abbrev pub AreReleasesPaced : Type 0
AreReleasesPaced = (g : Regulator) (es : List RegEvent) → IsPaced g.bag 0 (releases_of g es)
