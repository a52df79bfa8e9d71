-- The contents of the maps and sets of the checks.
use Rattle.std.specs.Prelude.{ℕ, ◌≡◌, ◌==◌, ◌&&◌, Bool, List, bytes_eq}
use Rattle.std.specs.Ordering.{nat_cmp}
use Rattle.std.specs.List.{list_any}
use Rattle.std.specs.BTreeSet.{BTreeSet, contains}
use Rattle.std.specs.HashMap.{HashMap, get_by, get}
use denote.Ref.{Bor}
use Rattle.vlink.specs.declared.frame.Net.{Net}
use Rattle.network_rows.specs.declared.rows.VlRow.{VlRow}
use Rattle.network.specs.declared.wiring.Link.{Link}
use Rattle.network.specs.Names.{place_among}
use Rattle.network.specs.Wiring.{link_between, leads}
use Rattle.network.specs.Plan.{NodePlan}

-- the map has the number of each name
abbrev pub AreNumbers : {S : Type 0} → HashMap (Bor (List ℕ)) ℕ S → List (List ℕ) → Type 0
AreNumbers numbers names = (name : List ℕ) → get_by (λ k. bytes_eq name k.now) numbers ≡ place_among names name

-- the set has the numbers of these virtual links
abbrev pub AreIds : BTreeSet ℕ → List VlRow → Type 0
AreIds ids vls = (id : ℕ) → contains nat_cmp ids id ≡ list_any (λ vl. vl.link.id.0 == id) vls

-- both numbers of two pairs are equal
abbrev pub is_same_pair : ℕ × ℕ → ℕ × ℕ → Bool
is_same_pair p q = (p.0 == q.0) && (p.1 == q.1)

-- the map has the place of the link for each two nodes
abbrev pub AreJoined : {S : Type 0} → HashMap (ℕ × ℕ) ℕ S → List Link → Type 0
AreJoined places links = (x y : ℕ) → get is_same_pair places (x, y) ≡ link_between links x y

-- the set has the nodes that one of these links leads from to a switch of the network
abbrev pub AreAttached : List NodePlan → Net → BTreeSet ℕ → List Link → Type 0
AreAttached nodes net attached links = (n : ℕ) → contains nat_cmp attached n ≡ list_any (leads nodes net n) links
