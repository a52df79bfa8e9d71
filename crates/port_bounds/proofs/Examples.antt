-- A port at work, each case computed: its bounds are reached.
use Rattle.std.proofs.Common.{◌≡◌, ℕ, List, [], ◌∷◌, refl, arith}
use Rattle.vlink.specs.declared.frame.Frame.{Frame}
use Rattle.vlink.specs.declared.frame.Net.TheVariants.{A}
use Rattle.port_bounds.specs.Frames.{PutFrame}
use Rattle.port_bounds.specs.Port.{Event, IsServed, high_starts, idle, low_starts}
use Rattle.port_bounds.specs.Port.Event.{High, Low, Free}

abbrev frame : Frame
frame = record { vl = record { 0 = 1 }; number = 0; size = 64; offered = 0; released = 0; net = A }

abbrev put : ℕ → ℕ → PutFrame
put at cost = record { frame = frame; at = at; cost = cost; line = 1 }

-- low frames of 10 and 7 and a high one of 5 come at once, the first one low
abbrev events : List Event
events = Low (put 0 10) ∷ Low (put 0 7) ∷ High (put 0 5) ∷ Free 10 ∷ Free 15 ∷ Free 22 ∷ []

served : IsServed idle 0 events
served = (omega arith, tt, (omega arith, omega arith, (omega arith, omega arith, (omega arith, refl, (omega arith, refl, (omega arith, refl, tt))))))

-- the high one has left at 15: its own 5, and one low frame of 10
high_reached : high_starts idle events ≡ record { put = put 0 5; at = 10 } ∷ []
high_reached = refl

-- the last low one has left at 22: both bursts
low_reached : low_starts idle events ≡ record { put = put 0 10; at = 0 } ∷ record { put = put 0 7; at = 15 } ∷ []
low_reached = refl
