-- The paths of a virtual link: when they form a tree, and where it ends.
use Rattle.std.specs.Prelude.{ℕ, ◌↔◌, Contains, ◌-◌, ◌==◌, ◌&&◌, ◌||◌, not, Bool, true, false, List, [], ◌∷◌, ◌++◌, length, take, Option, Some, None, slice_get, flat_map, option_to_list}
use Rattle.std.specs.List.{list_any}
use Rattle.std.specs.List.Sorted.{IsStrictlyIncreasing}
use Rattle.std.specs.Ordering.{nat_cmp}
use Rattle.std.specs.BTreeSet.{insert_key}
use Rattle.vlink.specs.declared.frame.Net.{Net}
use Rattle.network.specs.Plan.{NodePlan, VlPlan}
use Rattle.network.specs.Wiring.{passes, is_end_system, is_switch_of}
use Rattle.network.specs.declared.wiring.Hop.{Hop}

-- the two ends of a path, and what is between them
abbrev pub first_of : List ℕ → Option ℕ
first_of path = slice_get path 0

abbrev pub last_of : List ℕ → Option ℕ
last_of path = slice_get path (length path - 1)

abbrev pub inner_of : List ℕ → List ℕ
inner_of [] = []
inner_of (first ∷ others) = take (length others - 1) others

-- a number is there twice
abbrev pub has_double : List ℕ → Bool
has_double [] = false
has_double (x ∷ xs) = list_any (λ y. y == x) xs || has_double xs

-- it does not begin and end at an end system, or an inner node is no switch of this network, or a node is there twice
abbrev pub is_bad_path : List NodePlan → Net → List ℕ → Bool
is_bad_path nodes net path =
    not (passes (is_end_system nodes) (first_of path))
    || not (passes (is_end_system nodes) (last_of path))
    || list_any (λ node. not (is_switch_of nodes net node)) (inner_of path)
    || has_double path

-- the hops from each node of a path to the next one
abbrev pub hops_after : ℕ → List ℕ → List Hop
hops_after from [] = []
hops_after from (to ∷ path) = record { from = from; to = to } ∷ hops_after to path

abbrev pub hops_of : List ℕ → List Hop
hops_of [] = []
hops_of (from ∷ path) = hops_after from path

abbrev pub all_hops : List (List ℕ) → List Hop
all_hops paths = flat_map hops_of paths

-- where the first path begins
abbrev pub source_among : List (List ℕ) → Option ℕ
source_among [] = None
source_among (path ∷ paths) = first_of path

-- both are there and they differ
abbrev pub differ : Option ℕ → Option ℕ → Bool
differ None y = false
differ (Some x) None = false
differ (Some x) (Some y) = not (x == y)

-- two paths begin at different nodes
abbrev pub begin_apart : List (List ℕ) → Bool
begin_apart paths = list_any (λ path. differ (source_among paths) (first_of path)) paths

-- where the paths end
abbrev pub end_of : List ℕ → List ℕ
end_of path = option_to_list (last_of path)

abbrev pub ends_of : List (List ℕ) → List ℕ
ends_of paths = flat_map end_of paths

-- two hops lead to one node from different ones
abbrev pub is_other_way : Hop → Hop → Bool
is_other_way s t = (s.to == t.to) && not (s.from == t.from)

abbrev pub has_other_way : List Hop → Bool
has_other_way hops = list_any (λ s. list_any (is_other_way s) hops) hops

-- the paths of one network are no tree
abbrev pub is_no_tree : List NodePlan → Net → List (List ℕ) → Bool
is_no_tree nodes net paths =
    list_any (is_bad_path nodes net) paths
    || begin_apart paths
    || has_double (ends_of paths)
    || has_other_way (all_hops paths)

abbrev pub is_none : {X : Type 0} → List X → Bool
is_none [] = true
is_none (x ∷ xs) = false

-- ys is the list of the numbers of xs, each once and rising
pub record IsRisingOf (xs ys : List ℕ) : Type 0 where
  pub increasing : IsStrictlyIncreasing ys
  pub members : (n : ℕ) → Contains ys n ↔ Contains xs n

-- that list (`rising_law` proves that it is the one), made number by number
abbrev pub rising_from : List ℕ → List ℕ → List ℕ
rising_from found [] = found
rising_from found (x ∷ xs) = rising_from (insert_key nat_cmp found x) xs

abbrev pub rising : List ℕ → List ℕ
rising xs = rising_from [] xs

-- where the frames of a virtual link begin, and where they end, rising
abbrev pub source_of : VlPlan → Option ℕ
source_of vl = source_among (vl.a ++ vl.b)

abbrev pub destinations_of : VlPlan → List ℕ
destinations_of vl = rising (ends_of vl.a ++ ends_of vl.b)
