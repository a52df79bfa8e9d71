-- The rows of each process: what they decide, and rows that are put together from them.
use Rattle.std.proofs.Common.{◌≡◌, ℕ, ◌+◌, ◌==◌, Bool, true, false, cond, List, [], ◌∷◌, ◌++◌, refl, ap, sym, ◌∙◌, arith, ne_eqb, eq-eqb, ◌&&◌, count_by, flat_map, filter}
use Rattle.std.proofs.lemmas.List.Sums.{sum_by-cons}
use Rattle.virtual_time.specs.Law.{rows_at}
use Rattle.vlink.specs.declared.note.Note.{Note}
use Rattle.vlink.specs.declared.note.Note.TheVariants.{Delivered, Dropped}
use Rattle.vlink.specs.Letters.{Row}
use Rattle.network.specs.Words.{Plan}
use Rattle.trace_tables.specs.declared.destination.Destination.{Destination}
use Rattle.trace_tables.specs.declared.loss.Loss.{Loss}
use Rattle.trace_tables.specs.Counting.{is_loss, times_lost}
use Rattle.trace_tables.specs.Destinations.{destinations_in}
use Rattle.trace_tables.specs.Latencies.{Counts, counts_of, latency_in, latency_at, latencies_of}
use Rattle.trace_tables.specs.Losses.{cause_number}
use Rattle.trace_segments.specs.Words.{is_known}
use Rattle.trace_tables.specs.Tables.{TableLists, counted_at, latency_table, drop_table, tables_of}
use Rattle.trace_tables.proofs.DeliveryLemmas.{map-same}
use Rattle.trace_tables.proofs.DropCountLemmas.{same-drops}
use Rattle.trace_tables.proofs.ListLemmas.{one_if}

-- what is made of a list of which only some elements count is made of those
flat_map-filter : {X Y : Type 0} (test : X → Bool) (f : X → List Y) → ((x : X) → test x ≡ false → f x ≡ []) → (xs : List X) → flat_map f xs ≡ flat_map f (filter test xs)
flat_map-filter test f none [] = refl
flat_map-filter {X} {Y} test f none (x ∷ xs) = go (test x) refl (flat_map-filter test f none xs)
  where
    go : (b : Bool) → test x ≡ b → flat_map f xs ≡ flat_map f (filter test xs) → f x ++ flat_map f xs ≡ flat_map f (cond b (x ∷ filter test xs) (filter test xs))
    go true t later = ap (λ (ys : List Y). f x ++ ys) later
    go false t later = ap (λ (ys : List Y). ys ++ flat_map f xs) (none x t) ∙ later

count_by-filter : {X : Type 0} (test p : X → Bool) → ((x : X) → test x ≡ false → p x ≡ false) → (xs : List X) → count_by p xs ≡ count_by p (filter test xs)
count_by-filter test p none [] = refl
count_by-filter {X} test p none (x ∷ xs) = sum_by-cons (λ y. cond (p y) 1 0) x xs ∙ go (test x) refl (count_by-filter test p none xs)
  where
    go : (b : Bool) → test x ≡ b → count_by p xs ≡ count_by p (filter test xs) → cond (p x) 1 0 + count_by p xs ≡ count_by p (cond b (x ∷ filter test xs) (filter test xs))
    go true t later = ap (λ (n : ℕ). cond (p x) 1 0 + n) later ∙ sym (sum_by-cons (λ y. cond (p y) 1 0) x (filter test xs))
    go false t later = let fails : one_if (p x) ≡ one_if false = ap one_if (none x t) in omega arith

-- the latencies at a process are those that its rows tell
latencies-here : (vl place : ℕ) (rows : List Row) → latencies_of vl place rows ≡ latencies_of vl place (rows_at place rows)
latencies-here vl place rows = flat_map-filter (λ row. row.place == place) (latency_at vl place) (λ row t. ap (λ b. cond b (latency_in vl row.note) []) t) rows

-- and so are the losses
is_loss-here : (loss : Loss) (place : ℕ) (note : Note) → (loss.place == place) ≡ false → is_loss loss place note ≡ false
is_loss-here loss place (Delivered vl latency) differ = refl
is_loss-here loss place (Dropped vl cause size) differ =
    ap (λ b. (loss.vl.0 == vl.0) && (b && (cause_number loss.cause == cause_number cause))) differ ∙ neither (loss.vl.0 == vl.0)
  where
    neither : (b : Bool) → (b && false) ≡ false
    neither true = refl
    neither false = refl

lost-here : (plan : Plan) (loss : Loss) (rows : List Row) → times_lost plan loss rows ≡ times_lost plan loss (rows_at loss.place rows)
lost-here plan loss rows = count_by-filter (λ row. row.place == loss.place) (λ row. is_known plan row && is_loss loss row.place row.note) none rows
  where
    both : (b c : Bool) → c ≡ false → (b && c) ≡ false
    both true c h = h
    both false c h = refl

    flipped : (a b : ℕ) → (a == b) ≡ false → (b == a) ≡ false
    flipped a b h = ne_eqb b a (λ e. let t : (a == b) ≡ true = eq-eqb a b (sym e) in absurd (cc))

    none : (row : Row) → (row.place == loss.place) ≡ false → (is_known plan row && is_loss loss row.place row.note) ≡ false
    none row t = both (is_known plan row) (is_loss loss row.place row.note) (is_loss-here loss row.place row.note (flipped row.place loss.place t))

-- rows that are the same at each process have the same tables
pub same-tables : (plan : Plan) (xs ys : List Row) → ((p : ℕ) → rows_at p xs ≡ rows_at p ys) → tables_of plan xs ≡ tables_of plan ys
same-tables plan xs ys same = ap (λ table. with_tables table (drop_table plan xs)) latencies ∙ ap (with_tables (latency_table plan.vls ys)) drops
  where
    with_tables : List (Destination × Counts) → List (Loss × ℕ) → TableLists
    with_tables l d = record { latencies = l; drops = d }

    latencies : latency_table plan.vls xs ≡ latency_table plan.vls ys
    latencies =
        map-same (counted_at xs) (counted_at ys) (destinations_in plan.vls) (λ d.
        ap (λ (counts : Counts). (d, counts)) (
        ap counts_of (latencies-here d.vl.0 d.place xs ∙ ap (latencies_of d.vl.0 d.place) (same d.place) ∙ sym (latencies-here d.vl.0 d.place ys))))

    drops : drop_table plan xs ≡ drop_table plan ys
    drops = same-drops plan xs ys (λ loss. lost-here plan loss xs ∙ ap (times_lost plan loss) (same loss.place) ∙ sym (lost-here plan loss ys))
