-- The order of destinations, and the table of latencies that is made in it.
use Rattle.std.proofs.Common.{◌≡◌, ℕ, zero, suc, ◌+◌, ◌<◌, ◌==◌, List, [], ◌∷◌, ◌++◌, length, map, take, get_or, Some, refl, ap, subst, sym, ◌∙◌, arith, append_assoc, ◌&&◌, slice_get, option_map, nat_cmp, is_eq, Ordering, Less, Equal, Greater, append-nil}
use Rattle.std.specs.Cmp.{IsTotalOrder}
use Rattle.std.specs.List.{AllByRecursion}
use Rattle.std.specs.List.Sorted.{IsStrictlySortedBy}
use Rattle.std.specs.Ordering.{ordering_then, ordering_reverse, match_ordering}
use Rattle.std.specs.BTreeMap.{insert_entry, is_at}
use Rattle.std.specs.Map.{lookup, set_value}
use Rattle.std.proofs.Math.Path.{fun_ext}
use Rattle.std.proofs.lemmas.Cmp.{nat_cmp_total, on_total, then_total, ranked, tied_itself}
use Rattle.std.proofs.lemmas.List.{map-append, take_more}
use Rattle.std.proofs.lemmas.Map.Lookups.{CmpEqualImpliesEq, exact_unsigned}
use Rattle.vlink.specs.declared.frame.VlId.{VlId}
use Rattle.vlink.specs.Letters.{Row}
use Rattle.row_types.specs.declared.rows.VirtualLink.{VirtualLink}
use Rattle.network.specs.Words.{ids_of, VlPlan, destinations_of, ends_of}
use Rattle.trace_tables.specs.declared.destination.Destination.{Destination}
use Rattle.trace_tables.specs.Destinations.{destination_cmp, destination, destinations_at, destinations_in, with_destinations}
use Rattle.trace_tables.specs.Latencies.{Counts, counts_of, latencies_of}
use Rattle.trace_tables.specs.Tables.{counted_at, latency_table}
use Rattle.trace_tables.proofs.ListLemmas.{AllAbove, Rises, rising-rises}
use Rattle.trace_tables.proofs.LossOrderLemmas.{then-equal, is_eq-then, is_eq-nat}

pub destinations_total : IsTotalOrder destination_cmp
destinations_total = then_total (on_total (λ (a : Destination). a.vl.0) nat_cmp_total) (on_total (λ (a : Destination). a.place) nat_cmp_total)

-- destinations are the same where their two fields are
pub destination-is : (a b : Destination) → a.vl.0 ≡ b.vl.0 → a.place ≡ b.place → a ≡ b
destination-is a b v p =
    let made = λ (v : ℕ) (p : ℕ). (let vl : VlId = record { 0 = v } in let at : Destination = record { vl = vl; place = p } in at) in
    ap (λ (v : ℕ). made v a.place) v ∙ ap (λ (p : ℕ). made b.vl.0 p) p

pub exact_destinations : CmpEqualImpliesEq destination_cmp
exact_destinations a b e =
    let both = then-equal (nat_cmp a.vl.0 b.vl.0) (nat_cmp a.place b.place) e in
    destination-is a b (exact_unsigned a.vl.0 b.vl.0 both.0) (exact_unsigned a.place b.place both.1)

pub is_eq-destinations : (a b : Destination) → is_eq (destination_cmp a b) ≡ ((a.vl.0 == b.vl.0) && (a.place == b.place))
is_eq-destinations a b =
    is_eq-then (nat_cmp a.vl.0 b.vl.0) (nat_cmp a.place b.place)
    ∙ ap (λ t. t && is_eq (nat_cmp a.place b.place)) (is_eq-nat a.vl.0 b.vl.0)
    ∙ ap (λ t. (a.vl.0 == b.vl.0) && t) (is_eq-nat a.place b.place)

nat-less : (x y : ℕ) → x < y → nat_cmp x y ≡ Less
nat-less x y lt = go (nat_cmp x y) refl
  where
    go : (r : Ordering) → r ≡ nat_cmp x y → r ≡ Less
    go Less e = refl
    go Equal e = let same : x ≡ y = ranked x y Equal e in absurd (omega arith)
    go Greater e = let gt : y < x = ranked x y Greater e in absurd (omega arith)

-- a later process of the same virtual link, and any process of a later one
same-vl : (vl : VlId) (p q : ℕ) → p < q → destination_cmp (destination vl p) (destination vl q) ≡ Less
same-vl vl p q lt = ap (λ (r : Ordering). ordering_then r (nat_cmp p q)) (tied_itself nat_cmp_total vl.0) ∙ nat-less p q lt

later-vl : (a b : Destination) → a.vl.0 < b.vl.0 → destination_cmp a b ≡ Less
later-vl a b lt = ap (λ (r : Ordering). ordering_then r (nat_cmp a.place b.place)) (nat-less a.vl.0 b.vl.0 lt)

-- they are all of later virtual links
abbrev AreLater : ℕ → List Destination → Type 0
AreLater vl ds = AllByRecursion (λ d. vl < d.vl.0) ds

abbrev pub AreOrdered : List Destination → Type 0
AreOrdered ds = IsStrictlySortedBy destination_cmp ds

behind : (vl : VlId) (p : ℕ) (ps : List ℕ) (rest : List Destination) → AllAbove p ps → AreLater vl.0 rest
    → AllByRecursion (λ d. destination_cmp (destination vl p) d ≡ Less) (map (destination vl) ps ++ rest)
behind vl p [] [] above later = tt
behind vl p [] (d ∷ rest) above later = (later-vl (destination vl p) d later.0, behind vl p [] rest above later.1)
behind vl p (q ∷ ps) rest above later = (same-vl vl p q above.0, behind vl p ps rest above.1 later)

ordered-places : (vl : VlId) (ps : List ℕ) (rest : List Destination) → Rises ps → AreLater vl.0 rest → AreOrdered rest → AreOrdered (map (destination vl) ps ++ rest)
unfolding IsStrictlySortedBy
ordered-places vl [] rest rises later h = h
ordered-places vl (p ∷ ps) rest rises later h = (behind vl p ps rest rises.0 later, ordered-places vl ps rest rises.1 later h)

later-places : (k : ℕ) (vl : VlId) (ps : List ℕ) (rest : List Destination) → k < vl.0 → AreLater k rest → AreLater k (map (destination vl) ps ++ rest)
later-places k vl [] rest lt later = later
later-places k vl (p ∷ ps) rest lt later = (lt, later-places k vl ps rest lt later)

later-vls : (k : ℕ) (vls : List VlPlan) → AllAbove k (ids_of vls) → AreLater k (destinations_in vls)
later-vls k [] above = tt
later-vls k (vl ∷ vls) above = later-places k vl.link.id (destinations_of vl) (destinations_in vls) above.0 (later-vls k vls above.1)

-- the destinations of a network ascend
pub in-order : (vls : List VlPlan) → Rises (ids_of vls) → AreOrdered (destinations_in vls)
unfolding IsStrictlySortedBy
in-order [] rises = tt
in-order (vl ∷ vls) rises =
    ordered-places vl.link.id (destinations_of vl) (destinations_in vls) (rising-rises (ends_of vl.a ++ ends_of vl.b)) (later-vls vl.link.id.0 vls rises.0) (in-order vls rises.1)

middle : {X : Type 0} (P : X → Type 0) (xs : List X) (y : X) (ys : List X) → AllByRecursion P (xs ++ y ∷ ys) → P y
middle P [] y ys h = h.0
middle P (x ∷ xs) y ys h = middle P xs y ys h.1

-- what is behind all others is put in at the end
put-last : (rows : List Row) (ds : List Destination) (at : Destination) (others : List Destination) → AreOrdered (ds ++ at ∷ others)
    → insert_entry destination_cmp (map (counted_at rows) ds) at (counts_of (latencies_of at.vl.0 at.place rows)) ≡ map (counted_at rows) (ds ++ at ∷ [])
unfolding IsStrictlySortedBy
put-last rows [] at others h = refl
put-last rows (d ∷ ds) at others h =
    let greater : destination_cmp at d ≡ Greater = destinations_total.antisymm at d ∙ ap ordering_reverse (middle (λ x. destination_cmp d x ≡ Less) ds at others h.0) in
    let table = map (counted_at rows) ds in
    let here = counts_of (latencies_of at.vl.0 at.place rows) in
    ap (λ (r : Ordering). match_ordering r ((at, here) ∷ counted_at rows d ∷ table) ((d, here) ∷ table) (counted_at rows d ∷ insert_entry destination_cmp table at here)) greater
    ∙ ap (λ (es : List (Destination × Counts)). counted_at rows d ∷ es) (put-last rows ds at others h.1)

with-all : (rows : List Row) (ds others : List Destination) → AreOrdered (ds ++ others) → with_destinations rows (map (counted_at rows) ds) others ≡ map (counted_at rows) (ds ++ others)
with-all rows ds [] h = ap (map (counted_at rows)) (sym (append-nil ds))
with-all rows ds (at ∷ others) h =
    ap (λ (table : List (Destination × Counts)). with_destinations rows table others) (put-last rows ds at others h)
    ∙ with-all rows (ds ++ at ∷ []) others (subst AreOrdered (sym (append_assoc ds (at ∷ []) others)) h)
    ∙ ap (map (counted_at rows)) (append_assoc ds (at ∷ []) others)

-- the table of latencies
pub all-counted : (vls : List VlPlan) (rows : List Row) → Rises (ids_of vls) → with_destinations rows [] (destinations_in vls) ≡ latency_table vls rows
all-counted vls rows rises = with-all rows [] (destinations_in vls) (in-order vls rises)

pub with_destinations-append : (rows : List Row) (table : List (Destination × Counts)) (xs ys : List Destination) → with_destinations rows table (xs ++ ys) ≡ with_destinations rows (with_destinations rows table xs) ys
with_destinations-append rows table [] ys = refl
with_destinations-append rows table (x ∷ xs) ys = with_destinations-append rows (insert_entry destination_cmp table x (counts_of (latencies_of x.vl.0 x.place rows))) xs ys

-- one virtual link more
pub destinations-more : (vls : List VlPlan) (i : ℕ) (link : VirtualLink) (places : List ℕ) → option_map (λ vl. vl.link) (slice_get vls i) ≡ Some link
    → option_map destinations_of (slice_get vls i) ≡ Some places → destinations_in (take (suc i) vls) ≡ destinations_in (take i vls) ++ map (destination link.id) places
destinations-more [] i link places e d = absurd (cc)
destinations-more (vl ∷ vls) zero link places e d =
    let its_link : vl.link ≡ link = cc in
    let its_places : destinations_of vl ≡ places = cc in
    append-nil (destinations_at vl) ∙ ap (λ (l : VirtualLink). map (destination l.id) (destinations_of vl)) its_link ∙ ap (map (destination link.id)) its_places
destinations-more (vl ∷ vls) (suc i) link places e d =
    ap (λ (ds : List Destination). destinations_at vl ++ ds) (destinations-more vls i link places e d)
    ∙ sym (append_assoc (destinations_at vl) (destinations_in (take i vls)) (map (destination link.id) places))

-- one destination more of a virtual link
pub places-more : (vl : VlId) (places : List ℕ) (i : ℕ) → i < length places → map (destination vl) (take (i + 1) places) ≡ map (destination vl) (take i places) ++ destination vl (get_or places i 0) ∷ []
places-more vl places i below = ap (map (destination vl)) (take_more places i 0 below) ∙ map-append (destination vl) (take i places) (get_or places i 0 ∷ [])

pub with-place : (rows : List Row) (table : List (Destination × Counts)) (vl : VlId) (places : List ℕ) (i : ℕ) → i < length places
    → with_destinations rows table (map (destination vl) (take (i + 1) places))
    ≡ insert_entry destination_cmp (with_destinations rows table (map (destination vl) (take i places))) (destination vl (get_or places i 0)) (counts_of (latencies_of vl.0 (get_or places i 0) rows))
with-place rows table vl places i below =
    ap (with_destinations rows table) (places-more vl places i below)
    ∙ with_destinations-append rows table (map (destination vl) (take i places)) (destination vl (get_or places i 0) ∷ [])

-- what is done by an order that is that of destinations is done by theirs
pub inserted : (cmp : Destination → Destination → Ordering) → ((a b : Destination) → cmp a b ≡ destination_cmp a b) → (table : List (Destination × Counts)) (at : Destination) (counts : Counts)
    → insert_entry cmp table at counts ≡ insert_entry destination_cmp table at counts
inserted cmp same table at counts = ap (λ (order : Destination → Destination → Ordering). insert_entry order table at counts) (fun_ext (λ a. fun_ext (λ b. same a b)))

pub found : (cmp : Destination → Destination → Ordering) → ((a b : Destination) → cmp a b ≡ destination_cmp a b) → (table : List (Destination × Counts)) (at : Destination)
    → lookup (is_at (cmp at)) table ≡ lookup (is_at (destination_cmp at)) table
found cmp same table at = ap (λ (order : Destination → Destination → Ordering). lookup (is_at (order at)) table) (fun_ext (λ a. fun_ext (λ b. same a b)))

pub set : (cmp : Destination → Destination → Ordering) → ((a b : Destination) → cmp a b ≡ destination_cmp a b) → (table : List (Destination × Counts)) (at : Destination) (counts : Counts)
    → set_value (is_at (cmp at)) table counts ≡ set_value (is_at (destination_cmp at)) table counts
set cmp same table at counts = ap (λ (order : Destination → Destination → Ordering). set_value (is_at (order at)) table counts) (fun_ext (λ a. fun_ext (λ b. same a b)))
