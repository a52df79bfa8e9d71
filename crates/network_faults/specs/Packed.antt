-- Paths as one list of numbers: how many paths there are, and for each path how many nodes it has, and then its nodes.
use Rattle.std.specs.Prelude.{◌≡◌, ℕ, List, [], ◌∷◌, ◌++◌, length, map}
use Rattle.std.specs.List.{flat_map}
use Rattle.row_types.specs.declared.rows.VirtualLink.{VirtualLink}
use Rattle.network.specs.declared.wiring.Link.{Link}
use Rattle.network.specs.declared.wiring.Outage.{Outage}
use Rattle.network.specs.declared.plan.VlStream.{VlStream}
use Rattle.network.specs.Plan.{VlPlan}
use Rattle.network_faults.specs.declared.packing.PackedRows.{PackedRows}
use Rattle.network_faults.specs.declared.packing.PackedVls.{PackedVls}
use Rattle.network_faults.specs.RowLists.{RowLists}

abbrev pub packed_path : List ℕ → List ℕ
packed_path path = length path ∷ path

abbrev pub packed_paths : List (List ℕ) → List ℕ
packed_paths paths = length paths ∷ flat_map packed_path paths

abbrev pub packed_vl : VlPlan → List ℕ
packed_vl vl = packed_paths vl.a ++ packed_paths vl.b

-- these are the parameters and the paths of virtual links
pub record ArePacked (packed : PackedVls) (vls : List VlPlan) : Type 0 where
  pub links : packed.links.items ≡ map (λ vl. vl.link) vls
  pub paths : packed.paths.items ≡ flat_map packed_vl vls

-- the lists of packed rows
pub record PackedLists : Type 0 where
  pub links : List Link
  pub outages : List Outage
  pub parameters : List VirtualLink
  pub paths : List ℕ
  pub streams : List VlStream

abbrev pub no_lists : PackedLists
no_lists = record { links = []; outages = []; parameters = []; paths = []; streams = [] }

abbrev pub packed_lists_of : PackedRows → PackedLists
packed_lists_of packed =
    record { links = packed.links.items; outages = packed.outages.items; parameters = packed.vls.links.items; paths = packed.vls.paths.items; streams = packed.streams.items }

abbrev pub packed_lists_in : RowLists → PackedLists
packed_lists_in lists =
    record { links = lists.links; outages = lists.outages; parameters = map (λ vl. vl.link) lists.vls; paths = flat_map packed_vl lists.vls; streams = lists.streams }
