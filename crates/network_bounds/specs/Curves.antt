-- What a virtual link gives the port before a line, as its regulator or its account lets it pass: a burst and a rate.
use Rattle.std.specs.Prelude.{ℕ, ◌+◌, ◌-◌, ◌*◌, ◌/◌, ◌&&◌, nat_lt, Bool, true, false, if◌then◌else◌}
use Rattle.vlink.specs.Wire.{busy_for}
use Rattle.row_types.specs.declared.rows.VirtualLink.{VirtualLink}
use Rattle.row_types.specs.declared.rows.Policing.{Policing}
use Rattle.row_types.specs.declared.rows.Policing.TheVariants.{Bytes, Frames}
use Rattle.row_types.specs.declared.rows.Priority.{Priority}
use Rattle.row_types.specs.declared.rows.Priority.TheVariants.{High, Low}
use Rattle.port_bounds.specs.Mixtures.{Flow}
use Rattle.network_bounds.specs.declared.passing.Passing.{Passing}
use Rattle.network_bounds.specs.Numbers.{SCALE}

-- how many BAGs of the virtual link 128 ms have
abbrev pub parts_of : VirtualLink → ℕ
parts_of link = 128 / link.bag_ms

abbrev pub bag_of : VirtualLink → ℕ
bag_of link = link.bag_ms * 1000000

-- how much earlier than the BAG says a frame may come: no earlier from a regulator, and the policing jitter from an account
abbrev pub slack_of : Bool → VirtualLink → ℕ
slack_of is_end link = if is_end then 0 else link.policing_jitter_ns

-- how long its greatest frame keeps the line busy, in ns
abbrev pub cost_of : ℕ → Passing → ℕ
cost_of byte_ns p = busy_for p.sizes.greatest byte_ns

-- the least time between two of its frames; 0 where several may come at once
abbrev pub gap_of : Bool → VirtualLink → ℕ
gap_of is_end link = bag_of link - slack_of is_end link

abbrev pub counts_bytes : Policing → Bool
counts_bytes Bytes = true
counts_bytes Frames = false

-- an account that counts bytes lets more frames pass than its BAGs say, where some are shorter than Smax: it lets Smax bytes pass in each BAG
abbrev pub is_metered : Bool → Passing → Bool
is_metered is_end p = if is_end then false else counts_bytes p.link.policing && nat_lt p.sizes.least p.link.smax

-- how long these bytes keep the line busy, in ns, where all frames are as short as the least; rounded up
abbrev pub metered_cost : ℕ → Passing → ℕ
metered_cost byte_ns p = (p.link.smax * busy_for p.sizes.least byte_ns + (p.sizes.least - 1)) / p.sizes.least

-- two curves bound what it gives. By the BAG: one frame, what the slack adds, and then a frame in each BAG. By the gap, where there is one:
-- one frame, and then one in each gap; the rate is rounded up
abbrev pub counts_gaps : Bool → Bool → Passing → Bool
counts_gaps is_end by_gap p = if is_metered is_end p then false else by_gap && nat_lt 0 (gap_of is_end p.link)

-- what it gives in each BAG: its greatest frame, or the bytes that its account lets pass
abbrev pub bag_cost : Bool → ℕ → Passing → ℕ
bag_cost is_end byte_ns p = if is_metered is_end p then metered_cost byte_ns p else cost_of byte_ns p

abbrev pub bag_rate : Bool → ℕ → Passing → ℕ
bag_rate is_end byte_ns p = parts_of p.link * bag_cost is_end byte_ns p

abbrev pub rate_of : Bool → Bool → ℕ → Passing → ℕ
rate_of is_end by_gap byte_ns p = if counts_gaps is_end by_gap p then SCALE * cost_of byte_ns p / gap_of is_end p.link + 1 else bag_rate is_end byte_ns p

abbrev pub burst_of : Bool → Bool → ℕ → Passing → ℕ
burst_of is_end by_gap byte_ns p =
    if counts_gaps is_end by_gap p then SCALE * cost_of byte_ns p else bag_rate is_end byte_ns p * (bag_of p.link + slack_of is_end p.link)

abbrev pub flow_of : Bool → Bool → ℕ → Passing → Flow
flow_of is_end by_gap byte_ns p =
    record { link = p.link.id.0; burst = burst_of is_end by_gap byte_ns p; rate = rate_of is_end by_gap byte_ns p }

abbrev pub is_high : Priority → Bool
is_high High = true
is_high Low = false

-- whether its frames go first at the port: never at an end system
abbrev pub is_first : Bool → VirtualLink → Bool
is_first is_end link = if is_end then false else is_high link.priority
