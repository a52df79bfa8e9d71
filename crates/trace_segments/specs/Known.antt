-- Which parts of a row a network has.
use Rattle.std.specs.Prelude.{ℕ, ◌&&◌, Bool, is_some, nat_lt}
use Rattle.vlink.specs.declared.frame.VlId.{VlId}
use Rattle.vlink.specs.declared.note.Note.{Note}
use Rattle.vlink.specs.declared.note.Note.TheVariants.{Delivered, Dropped}
use Rattle.vlink.specs.Letters.{Row}
use Rattle.network.specs.Words.{Plan, process_count, place_of_vl}

-- the virtual link of a note
abbrev pub vl_of : Note → VlId
vl_of (Delivered vl latency) = vl
vl_of (Dropped vl cause size) = vl

-- the network has this virtual link and this process
abbrev pub is_in_network : Plan → ℕ → ℕ → Bool
is_in_network plan vl place = is_some (place_of_vl plan.vls vl) && nat_lt place (process_count plan)

-- it has those of a row
abbrev pub is_known : Plan → Row → Bool
is_known plan row = is_in_network plan (vl_of row.note).0 row.place
