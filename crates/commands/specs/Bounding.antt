-- What the program says of the worst case of a network.
use Rattle.std.specs.Prelude.{ℕ, List, if◌then◌else◌}
use Rattle.command_line.specs.declared.orders.Bounds.{Bounds}
use Rattle.network.specs.Words.{Plan}
use Rattle.network_bounds.specs.declared.sizes.Senders.{Senders}
use Rattle.network_bounds.specs.declared.sizes.Senders.TheVariants.{AsStated, ByContract}
use Rattle.network_bounds.specs.Text.{IsBoundsText}
use Rattle.commands.specs.Outside.{Outside}
use Rattle.commands.specs.Streams.{Shows}

-- which frames of other end systems count
abbrev pub senders_of : Bounds → Senders
senders_of o = if o.contract then ByContract else AsStated

-- the host was `old` before, and is `new` after: standard output took bounds of the network
abbrev pub ShowsBounds : {S F O E : Type 0} → Outside S F O E → S → S → Senders → Plan → Type 0
ShowsBounds outside old new senders plan = (text : List ℕ) × IsBoundsText senders plan text × Shows outside old new text
