-- Definition: what one direction of a link does with a message.
use Rattle.std.specs.Prelude.{ℕ, ◌+◌, ◌&&◌, Bool, if◌then◌else◌, nat_le, nat_lt, List, [], ◌∷◌}
use Rattle.std.specs.List.{list_any}
use Rattle.vlink.specs.declared.frame.Frame.{Frame}
use Rattle.vlink.specs.declared.message.Body.{Body}
use Rattle.vlink.specs.declared.message.Body.TheVariants.{Offer, Release, PortFree, Arrive, Enqueue, Carry}
use Rattle.vlink.specs.declared.note.Cause.TheVariants as cause
use Rattle.network.specs.declared.wiring.Outage.{Outage}
use Rattle.reverse.specs.Sending.{Reply, silent, loss}

-- the node that it leads to, with the port there; how long a frame is on the way; and its outages
pub record LineState : Type 0 where
  pub to : ℕ
  pub to_port : ℕ
  pub propagation : ℕ
  pub outages : List Outage

-- moment t lies in the outage: its first moment does, its end does not
abbrev pub is_within : ℕ → Outage → Bool
is_within t outage = nat_le outage.from_ns t && nat_lt t outage.to_ns

-- the last bit of a frame leaves into the line at moment t
abbrev pub carried : ℕ → Frame → LineState → Reply
carried t frame line =
    if list_any (is_within t) line.outages
    then loss cause.Outage frame
    else record { wishes = record { time = t + line.propagation; receiver = line.to; body = Arrive line.to_port frame } ∷ []; notes = [] }

-- a line at moment t; a message that says something else gives nothing. A line has no state that changes
abbrev pub line : ℕ → Body → LineState → Reply
line t (Offer vl size sub) s = silent
line t (Release vl) s = silent
line t (PortFree q) s = silent
line t (Arrive q frame) s = silent
line t (Enqueue q frame) s = silent
line t (Carry frame) s = carried t frame s
