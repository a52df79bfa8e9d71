-- Which sizes the frames of a virtual link have: from the least to the greatest that its streams offer.
use Rattle.std.specs.Prelude.{◌≡◌, ℕ, ◌==◌, if◌then◌else◌, min, max, nat_le, List, [], ◌∷◌, map, slice_index_or, unwrap_or}
use Rattle.std.specs.Option.{option_map_or}
use Rattle.row_types.specs.declared.rows.Stream.{Stream}
use Rattle.row_types.specs.declared.rows.VirtualLink.{VirtualLink}
use Rattle.network.specs.declared.plan.VlStream.{VlStream}
use Rattle.network.specs.Words.{Plan, place_of_vl}
use Rattle.network_bounds.specs.declared.sizes.FrameSizes.{FrameSizes}
use Rattle.network_bounds.specs.declared.sizes.LinkSizes.{LinkSizes}
use Rattle.network_bounds.specs.declared.sizes.Senders.{Senders}
use Rattle.network_bounds.specs.declared.sizes.Senders.TheVariants.{AsStated, ByContract}

-- no frame is shorter
abbrev pub LEAST : ℕ
LEAST = 64

abbrev pub one_size : ℕ → FrameSizes
one_size bytes = record { least = bytes; greatest = bytes }

-- those of both
abbrev pub with_sizes : FrameSizes → FrameSizes → FrameSizes
with_sizes a b = record { least = min a.least b.least; greatest = max a.greatest b.greatest }

-- of a burst of one frame there is the last frame alone
abbrev pub sizes_of_stream : Stream → FrameSizes
sizes_of_stream stream =
    if nat_le stream.frames 1
    then one_size (unwrap_or stream.last_size stream.size)
    else with_sizes (one_size stream.size) (one_size (unwrap_or stream.last_size stream.size))

-- these, and those of the rows that offer to the virtual link with this number
abbrev pub sizes_with : ℕ → FrameSizes → List VlStream → FrameSizes
sizes_with id found [] = found
sizes_with id found (row ∷ rows) = sizes_with id (if row.vl.0 == id then with_sizes found (sizes_of_stream row.stream) else found) rows

abbrev pub sizes_in : Plan → VirtualLink → FrameSizes
sizes_in plan link = sizes_with link.id.0 (sizes_of_stream link.own) plan.streams

-- what bounds count of a virtual link: the sizes that its streams offer; or, whatever other end systems send, any that an account passes, and on the line of
-- its end system none that is longer than Smax or than what is offered
abbrev pub link_sizes : Senders → Plan → VirtualLink → LinkSizes
link_sizes AsStated plan link = record { sent = sizes_in plan link; passed = sizes_in plan link }
link_sizes ByContract plan link = record {
  sent = record { least = (sizes_in plan link).least; greatest = max link.smax (sizes_in plan link).greatest };
  passed = record { least = LEAST; greatest = link.smax };
}

-- those of each virtual link
abbrev pub all_sizes : Senders → Plan → List LinkSizes
all_sizes senders plan = map (λ vl. link_sizes senders plan vl.link) plan.vls

-- of these by place, those of the virtual link with a number
abbrev pub sizes_by : Plan → List LinkSizes → ℕ → LinkSizes
sizes_by plan all id = option_map_or (λ place. slice_index_or all place (record { sent = one_size LEAST; passed = one_size LEAST })) (place_of_vl plan.vls id) (record { sent = one_size LEAST; passed = one_size LEAST })

abbrev pub known_sizes : Senders → Plan → ℕ → LinkSizes
known_sizes senders plan = sizes_by plan (all_sizes senders plan)

-- the least that each sends is the least that its streams offer
abbrev pub AreLeast : Plan → List LinkSizes → Type 0
AreLeast plan all = map (λ sizes. sizes.sent.least) all ≡ map (λ vl. (sizes_in plan vl.link).least) plan.vls
