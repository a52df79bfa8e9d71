-- One row more changes the cell of its destination, or none.
use Rattle.std.proofs.Common.{◌≡◌, ℕ, zero, suc, ◌+◌, ◌≤◌, ◌<◌, ◌==◌, ◌&&◌, Bool, true, false, cond, List, [], ◌∷◌, ◌++◌, length, map, set, get_or, Option, Some, None, refl, ap, sym, ◌∙◌, arith, option_map, is_eq, Less}
use Rattle.std.specs.List.{AllByRecursion}
use Rattle.std.specs.List.Sorted.{IsStrictlySortedBy}
use Rattle.std.specs.BTreeMap.{is_at}
use Rattle.std.proofs.lemmas.Bool.Decides.{nat_tests}
use Rattle.std.proofs.lemmas.List.Sums.{sum_by-append, count_by-le-length}
use Rattle.std.proofs.lemmas.Map.Views.{tells_apart}
use Rattle.std.proofs.lemmas.Option.{none-some, same_Some}
use Rattle.vlink.specs.declared.frame.VlId.{VlId}
use Rattle.vlink.specs.declared.note.Cause.{Cause}
use Rattle.vlink.specs.declared.note.Cause.TheVariants.{Duplicate}
use Rattle.vlink.specs.declared.note.Note.{Note}
use Rattle.vlink.specs.declared.note.Note.TheVariants.{Delivered, Dropped}
use Rattle.vlink.specs.Letters.{Row}
use Rattle.network.specs.Words.{VlPlan, destinations_of, ids_of, place_by}
use Rattle.trace_tables.specs.declared.cells.Cell.{Cell}
use Rattle.trace_tables.specs.declared.destination.Destination.{Destination}
use Rattle.trace_tables.specs.Cells.{CellLists, cell_of, cell_place, cells_of, duplicate_at, duplicates_of, starts_from}
use Rattle.trace_tables.specs.Counting.{is_loss}
use Rattle.trace_tables.specs.Destinations.{destination, destination_cmp, destinations_in}
use Rattle.trace_tables.specs.Latencies.{Counts, counts_of, latencies_of, latency_in, with_latency}
use Rattle.trace_tables.specs.Losses.{cause_number}
use Rattle.trace_tables.proofs.DeliveryLemmas.{few-latencies, map-same, none-of-drop, one-more, same-counts, tells}
use Rattle.trace_tables.proofs.DestinationLemmas.{AreOrdered, exact_destinations, in-order, is_eq-destinations}
use Rattle.trace_tables.proofs.ListLemmas.{Rises, one_if}

abbrev pub cell : Counts → ℕ → Cell
cell latencies duplicates = record { latencies = latencies; duplicates = duplicates }

-- no destination in order behind one is that one
other-behind : (f g : Destination → Cell) (at d : Destination) (xs : List Destination) → at ≡ d → ((x : Destination) → is_eq (destination_cmp at x) ≡ false → f x ≡ g x)
    → AllByRecursion (λ x. destination_cmp d x ≡ Less) xs → map f xs ≡ map g xs
other-behind f g at d [] same other later = refl
other-behind f g at d (x ∷ xs) same other later =
    ap (λ (c : Cell). c ∷ map f xs) (other x (ap is_eq (ap (λ (z : Destination). destination_cmp z x) same ∙ later.0)))
    ∙ ap (λ (cs : List Cell). g x ∷ cs) (other-behind f g at d xs same other later.1)

-- what is written at the place of a destination, where nothing changes at any other
pub one-cell : (ds : List Destination) (f g : Destination → Cell) (at : Destination) (i : ℕ) (c x : Cell) → AreOrdered ds → Some i ≡ place_by (is_at (destination_cmp at)) ds
    → ((d : Destination) → is_eq (destination_cmp at d) ≡ true → get_or (map f ds) i c ≡ f d → x ≡ g d)
    → ((d : Destination) → is_eq (destination_cmp at d) ≡ false → f d ≡ g d) → set (map f ds) i x ≡ map g ds
unfolding IsStrictlySortedBy
one-cell [] f g at i c x h found here other = absurd (none-some i (sym found))
one-cell (d ∷ ds) f g at i c x h found here other =
    go (is_eq (destination_cmp at d)) refl (place_by (is_at (destination_cmp at)) ds) refl found (λ j there new. one-cell ds f g at j c x h.1 there new other)
  where
    Later : Type 0
    Later =
        (j : ℕ) → Some j ≡ place_by (is_at (destination_cmp at)) ds → ((y : Destination) → is_eq (destination_cmp at y) ≡ true → get_or (map f ds) j c ≡ f y → x ≡ g y)
        → set (map f ds) j x ≡ map g ds

    first : (i : ℕ) → i ≡ 0 → (get_or (map f (d ∷ ds)) i c ≡ f d → x ≡ g d) → is_eq (destination_cmp at d) ≡ true → set (map f (d ∷ ds)) i x ≡ map g (d ∷ ds)
    first zero e new t = ap (λ (y : Cell). y ∷ map f ds) (new refl) ∙ ap (λ (cs : List Cell). g d ∷ cs) (other-behind f g at d ds (tells_apart exact_destinations at d t) other h.0)
    first (suc j) e new t = absurd (omega arith)

    next : (i j : ℕ) → i ≡ j + 1 → Some j ≡ place_by (is_at (destination_cmp at)) ds
        → ((y : Destination) → is_eq (destination_cmp at y) ≡ true → get_or (map f (d ∷ ds)) i c ≡ f y → x ≡ g y) → is_eq (destination_cmp at d) ≡ false → Later → set (map f (d ∷ ds)) i x ≡ map g (d ∷ ds)
    next zero j e later new t more = absurd (omega arith)
    next (suc i) j e later new t more =
        let same : j ≡ i = omega arith in
        ap (λ (y : Cell). y ∷ set (map f ds) i x) (other d t)
        ∙ ap (λ (cs : List Cell). g d ∷ cs) (more i (ap Some (sym same) ∙ later) new)

    go : (b : Bool) → is_eq (destination_cmp at d) ≡ b → (o : Option ℕ) → place_by (is_at (destination_cmp at)) ds ≡ o → Some i ≡ cond b (Some 0) (option_map (λ n. n + 1) o)
        → Later → set (map f (d ∷ ds)) i x ≡ map g (d ∷ ds)
    go true t o e is more = first i (same_Some i 0 is) (here d t) t
    go false t None e is more = absurd (none-some i (sym is))
    go false t (Some j) e is more = next i j (same_Some i (j + 1) is) (sym e) here t more

-- where there is no such destination, nothing changes
pub no-cell : (ds : List Destination) (f g : Destination → Cell) (at : Destination) → None ≡ place_by (is_at (destination_cmp at)) ds
    → ((d : Destination) → is_eq (destination_cmp at d) ≡ false → f d ≡ g d) → map f ds ≡ map g ds
no-cell [] f g at none other = refl
no-cell (d ∷ ds) f g at none other = go (is_eq (destination_cmp at d)) refl (place_by (is_at (destination_cmp at)) ds) refl none (λ e. no-cell ds f g at e other)
  where
    go : (b : Bool) → is_eq (destination_cmp at d) ≡ b → (o : Option ℕ) → place_by (is_at (destination_cmp at)) ds ≡ o → None ≡ cond b (Some 0) (option_map (λ n. n + 1) o)
        → (None ≡ place_by (is_at (destination_cmp at)) ds → map f ds ≡ map g ds) → map f (d ∷ ds) ≡ map g (d ∷ ds)
    go true t o e is more = absurd (none-some 0 is)
    go false t (Some j) e is more = absurd (none-some (j + 1) is)
    go false t None e is more = ap (λ (c : Cell). c ∷ map f ds) (other d t) ∙ ap (λ (cs : List Cell). g d ∷ cs) (more (sym e))

-- one row more tells a duplicate of a destination, or none
duplicates-more : (rows : List Row) (row : Row) (d : Destination) → duplicates_of (rows ++ row ∷ []) d ≡ duplicates_of rows d + one_if (is_loss (duplicate_at d) row.place row.note)
duplicates-more rows row d =
    let told : Row → ℕ = λ r. cond (is_loss (duplicate_at d) r.place r.note) 1 0 in
    let both : duplicates_of (rows ++ row ∷ []) d ≡ duplicates_of rows d + (0 + one_if (is_loss (duplicate_at d) row.place row.note)) = sum_by-append told rows (row ∷ []) in
    omega arith

-- a delivery
none-delivered : (rows : List Row) (row : Row) (vl : VlId) (l : ℕ) (d : Destination) → row.note ≡ Delivered vl l → duplicates_of rows d ≡ duplicates_of (rows ++ row ∷ []) d
none-delivered rows row vl l d is =
    let more = duplicates-more rows row d in
    let none : one_if (is_loss (duplicate_at d) row.place row.note) ≡ 0 = ap (λ (note : Note). one_if (is_loss (duplicate_at d) row.place note)) is in
    omega arith

pub flipped : (a b : ℕ) → (a == b) ≡ (b == a)
flipped a b = grind (arith, nat_tests)

-- a drop at a destination, and for this cause
tells-drop : (row : Row) (vl : VlId) (cause : Cause) (size : ℕ) (d : Destination) → row.note ≡ Dropped vl cause size
    → is_loss (duplicate_at d) row.place row.note ≡ (is_eq (destination_cmp (destination vl row.place) d) && (cause_number Duplicate == cause_number cause))
tells-drop row vl cause size d is =
    ap (λ (note : Note). is_loss (duplicate_at d) row.place note) is
    ∙ both (d.vl.0 == vl.0) (d.place == row.place) (cause_number Duplicate == cause_number cause)
    ∙ ap (λ (b : Bool). b && (cause_number Duplicate == cause_number cause)) (ap (λ (b : Bool). b && (d.place == row.place)) (flipped d.vl.0 vl.0) ∙ ap (λ (b : Bool). (vl.0 == d.vl.0) && b) (flipped d.place row.place) ∙ sym (is_eq-destinations (destination vl row.place) d))
  where
    both : (a b c : Bool) → (a && (b && c)) ≡ ((a && b) && c)
    both true b c = refl
    both false b c = refl

-- the cell of a destination: a delivery there, a delivery elsewhere, a drop
pub delivered-here : (rows : List Row) (row : Row) (vl : VlId) (l : ℕ) (d : Destination) → row.note ≡ Delivered vl l → is_eq (destination_cmp (destination vl row.place) d) ≡ true
    → cell (with_latency (cell_of rows d).latencies l) (cell_of rows d).duplicates ≡ cell_of (rows ++ row ∷ []) d
delivered-here rows row vl l d is t =
    ap (λ (c : Counts). cell c (duplicates_of rows d)) (one-more d.vl.0 d.place rows row l (tells row vl l d is ∙ ap (λ (b : Bool). cond b (l ∷ []) []) t))
    ∙ ap (cell (counts_of (latencies_of d.vl.0 d.place (rows ++ row ∷ [])))) (none-delivered rows row vl l d is)

pub delivered-other : (rows : List Row) (row : Row) (vl : VlId) (l : ℕ) (d : Destination) → row.note ≡ Delivered vl l → is_eq (destination_cmp (destination vl row.place) d) ≡ false
    → cell_of rows d ≡ cell_of (rows ++ row ∷ []) d
delivered-other rows row vl l d is t =
    ap (λ (c : Counts). cell c (duplicates_of rows d)) (same-counts d.vl.0 d.place rows row (tells row vl l d is ∙ ap (λ (b : Bool). cond b (l ∷ []) []) t))
    ∙ ap (cell (counts_of (latencies_of d.vl.0 d.place (rows ++ row ∷ [])))) (none-delivered rows row vl l d is)

-- a drop
dropped-counts : (rows : List Row) (row : Row) (vl : VlId) (cause : Cause) (size : ℕ) (d : Destination) → row.note ≡ Dropped vl cause size
    → counts_of (latencies_of d.vl.0 d.place rows) ≡ counts_of (latencies_of d.vl.0 d.place (rows ++ row ∷ []))
dropped-counts rows row vl cause size d is = same-counts d.vl.0 d.place rows row (none-of-drop d.vl.0 d.place row (ap (latency_in d.vl.0) is))

pub dropped-other : (rows : List Row) (row : Row) (vl : VlId) (cause : Cause) (size : ℕ) (d : Destination) → row.note ≡ Dropped vl cause size
    → (is_eq (destination_cmp (destination vl row.place) d) && (cause_number Duplicate == cause_number cause)) ≡ false → cell_of rows d ≡ cell_of (rows ++ row ∷ []) d
dropped-other rows row vl cause size d is t =
    let more = duplicates-more rows row d in
    let none : one_if (is_loss (duplicate_at d) row.place row.note) ≡ 0 = ap one_if (tells-drop row vl cause size d is ∙ t) in
    let same : duplicates_of rows d ≡ duplicates_of (rows ++ row ∷ []) d = omega arith in
    ap (λ (c : Counts). cell c (duplicates_of rows d)) (dropped-counts rows row vl cause size d is) ∙ ap (cell (counts_of (latencies_of d.vl.0 d.place (rows ++ row ∷ [])))) same

pub duplicate-here : (rows : List Row) (row : Row) (vl : VlId) (size : ℕ) (d : Destination) → row.note ≡ Dropped vl Duplicate size → is_eq (destination_cmp (destination vl row.place) d) ≡ true
    → cell (cell_of rows d).latencies ((cell_of rows d).duplicates + 1) ≡ cell_of (rows ++ row ∷ []) d
duplicate-here rows row vl size d is t =
    let more = duplicates-more rows row d in
    let one : one_if (is_loss (duplicate_at d) row.place row.note) ≡ 1 = ap one_if (tells-drop row vl Duplicate size d is ∙ ap (λ (b : Bool). b && true) t) in
    let same : duplicates_of rows d + 1 ≡ duplicates_of (rows ++ row ∷ []) d = omega arith in
    ap (λ (c : Counts). cell c (duplicates_of rows d + 1)) (dropped-counts rows row vl Duplicate size d is) ∙ ap (cell (counts_of (latencies_of d.vl.0 d.place (rows ++ row ∷ [])))) same

-- cells of as many rows
abbrev with_cells : List VlPlan → List Cell → CellLists
with_cells vls cells = record { starts = starts_from 0 vls; cells = cells }

-- a delivery, where its destination is one of the network, and where it is not
pub delivered-cells : (vls : List VlPlan) (rows : List Row) (row : Row) (vl : VlId) (l i : ℕ) (c x : Cell) → Rises (ids_of vls) → row.note ≡ Delivered vl l
    → Some i ≡ cell_place vls (destination vl row.place)
    → x ≡ cell (with_latency (get_or (map (cell_of rows) (destinations_in vls)) i c).latencies l) (get_or (map (cell_of rows) (destinations_in vls)) i c).duplicates
    → set (map (cell_of rows) (destinations_in vls)) i x ≡ map (cell_of (rows ++ row ∷ [])) (destinations_in vls)
delivered-cells vls rows row vl l i c x rises is found e =
    one-cell (destinations_in vls) (cell_of rows) (cell_of (rows ++ row ∷ [])) (destination vl row.place) i c x (in-order vls rises) found
    (λ d t old. e ∙ ap (λ (z : Cell). cell (with_latency z.latencies l) z.duplicates) old ∙ delivered-here rows row vl l d is t)
    (λ d t. delivered-other rows row vl l d is t)

pub delivered-nowhere : (vls : List VlPlan) (rows : List Row) (row : Row) (vl : VlId) (l : ℕ) → row.note ≡ Delivered vl l
    → None ≡ cell_place vls (destination vl row.place) → cells_of vls rows ≡ cells_of vls (rows ++ row ∷ [])
delivered-nowhere vls rows row vl l is none =
    ap (with_cells vls) (no-cell (destinations_in vls) (cell_of rows) (cell_of (rows ++ row ∷ [])) (destination vl row.place) none (λ d t. delivered-other rows row vl l d is t))

-- a duplicate
pub duplicate-cells : (vls : List VlPlan) (rows : List Row) (row : Row) (vl : VlId) (size i : ℕ) (c x : Cell) → Rises (ids_of vls) → row.note ≡ Dropped vl Duplicate size
    → Some i ≡ cell_place vls (destination vl row.place)
    → x ≡ cell (get_or (map (cell_of rows) (destinations_in vls)) i c).latencies ((get_or (map (cell_of rows) (destinations_in vls)) i c).duplicates + 1)
    → set (map (cell_of rows) (destinations_in vls)) i x ≡ map (cell_of (rows ++ row ∷ [])) (destinations_in vls)
duplicate-cells vls rows row vl size i c x rises is found e =
    one-cell (destinations_in vls) (cell_of rows) (cell_of (rows ++ row ∷ [])) (destination vl row.place) i c x (in-order vls rises) found
    (λ d t old. e ∙ ap (λ (z : Cell). cell z.latencies (z.duplicates + 1)) old ∙ duplicate-here rows row vl size d is t)
    (λ d t. dropped-other rows row vl Duplicate size d is (ap (λ (b : Bool). b && true) t))

pub duplicate-nowhere : (vls : List VlPlan) (rows : List Row) (row : Row) (vl : VlId) (size : ℕ) → row.note ≡ Dropped vl Duplicate size
    → None ≡ cell_place vls (destination vl row.place) → cells_of vls rows ≡ cells_of vls (rows ++ row ∷ [])
duplicate-nowhere vls rows row vl size is none =
    ap (with_cells vls) (no-cell (destinations_in vls) (cell_of rows) (cell_of (rows ++ row ∷ [])) (destination vl row.place) none (λ d t. dropped-other rows row vl Duplicate size d is (ap (λ (b : Bool). b && true) t)))

-- a drop for another cause
pub dropped-cells : (vls : List VlPlan) (rows : List Row) (row : Row) (vl : VlId) (cause : Cause) (size : ℕ) → row.note ≡ Dropped vl cause size → (cause_number Duplicate == cause_number cause) ≡ false
    → cells_of vls rows ≡ cells_of vls (rows ++ row ∷ [])
dropped-cells vls rows row vl cause size is differ =
    ap (with_cells vls) (map-same (cell_of rows) (cell_of (rows ++ row ∷ [])) (destinations_in vls)
    (λ d. dropped-other rows row vl cause size d is (ap (λ (b : Bool). is_eq (destination_cmp (destination vl row.place) d) && b) differ ∙ neither (is_eq (destination_cmp (destination vl row.place) d)))))
  where
    neither : (b : Bool) → (b && false) ≡ false
    neither true = refl
    neither false = refl

-- no count in a cell is greater than the number of rows
pub few-in-cells : (ds : List Destination) (rows : List Row) (i : ℕ) (c : Cell) → i < length ds
    → ((get_or (map (cell_of rows) ds) i c).latencies.count ≤ length rows) × ((get_or (map (cell_of rows) ds) i c).duplicates ≤ length rows)
few-in-cells [] rows i c h = absurd (omega arith)
few-in-cells (d ∷ ds) rows zero c h = (few-latencies d.vl.0 d.place rows, count_by-le-length (λ row. is_loss (duplicate_at d) row.place row.note) rows)
few-in-cells (d ∷ ds) rows (suc i) c h = few-in-cells ds rows i c (omega arith)

-- a place that is found is one of the list
pub place-below : {X : Type 0} (test : X → Bool) (ds : List X) (i : ℕ) → Some i ≡ place_by test ds → i < length ds
place-below test [] i found = absurd (none-some i (sym found))
place-below {X} test (d ∷ ds) i found = go (test d) (place_by test ds) refl found (λ j e. place-below test ds j e)
  where
    go : (b : Bool) (o : Option ℕ) → place_by test ds ≡ o → Some i ≡ cond b (Some 0) (option_map (λ n. n + 1) o) → ((j : ℕ) → Some j ≡ place_by test ds → j < length ds) → i < length (d ∷ ds)
    go true o e is more = let zeroth : i ≡ 0 = same_Some i 0 is in omega arith
    go false None e is more = absurd (none-some i (sym is))
    go false (Some j) e is more = let later : i ≡ j + 1 = same_Some i (j + 1) is in let lt : j < length ds = more j (sym e) in omega arith

-- lists that are those of rows
pub lists-are : (vls : List VlPlan) (rows : List Row) (starts : List ℕ) (cells : List Cell) → starts ≡ starts_from 0 vls → cells ≡ map (cell_of rows) (destinations_in vls)
    → ◌≡◌ {A = CellLists} (record { starts = starts; cells = cells }) (cells_of vls rows)
lists-are vls rows starts cells s e = ap (λ (ns : List ℕ). let lists : CellLists = record { starts = ns; cells = cells } in lists) s ∙ ap (with_cells vls) e

-- an element that is there is read whatever stands for one that is not
pub read-any : {X : Type 0} (xs : List X) (k : ℕ) (d e : X) → k < length xs → get_or xs k d ≡ get_or xs k e
read-any [] k d e h = absurd (omega arith)
read-any (x ∷ xs) zero d e h = refl
read-any (x ∷ xs) (suc k) d e h = read-any xs k d e (omega arith)

pub length-starts : (n : ℕ) (vls : List VlPlan) → length (starts_from n vls) ≡ length vls
length-starts n [] = refl
length-starts n (vl ∷ vls) = ap suc (length-starts (n + length (destinations_of vl)) vls)
