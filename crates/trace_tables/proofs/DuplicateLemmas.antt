-- The duplicates in cells, put among the losses that are counted elsewhere, make the table of all losses.
use Rattle.std.proofs.Common.{◌≡◌, ℕ, ◌+◌, ◌<◌, ◌==◌, ◌&&◌, ◌||◌, not, Bool, true, false, cond, nat_lt, List, [], ◌∷◌, ◌++◌, length, map, take, get_or, Option, Some, refl, ap, sym, ◌∙◌, arith, count_by, filter, is_eq}
use Rattle.std.specs.List.{list_any}
use Rattle.std.specs.List.Sorted.{IsStrictlySortedBy}
use Rattle.std.specs.Option.{option_map_or}
use Rattle.std.specs.BTreeMap.{insert_entry, is_at}
use Rattle.std.specs.Map.{lookup, keys_of}
use Rattle.std.proofs.lemmas.Bool.{eqb-true}
use Rattle.std.proofs.lemmas.Bool.Decides.{nat_tests}
use Rattle.std.proofs.lemmas.List.Sums.{sum_by-cons}
use Rattle.std.proofs.lemmas.Map.Views.{All-values-insert_entry, tells_apart}
use Rattle.vlink.specs.declared.frame.VlId.{VlId}
use Rattle.vlink.specs.declared.note.Cause.TheVariants.{Duplicate}
use Rattle.vlink.specs.declared.note.Note.{Note}
use Rattle.vlink.specs.declared.note.Note.TheVariants.{Delivered, Dropped}
use Rattle.vlink.specs.Letters.{Row}
use Rattle.network.specs.Words.{Plan, VlPlan}
use Rattle.network.proofs.PlaceLemmas.{is_some-place_by}
use Rattle.trace_segments.specs.Words.{is_in_network, is_known, vl_of}
use Rattle.trace_tables.specs.declared.destination.Destination.{Destination}
use Rattle.trace_tables.specs.declared.loss.Loss.{Loss}
use Rattle.trace_tables.specs.Cells.{duplicate_at, duplicates_of, is_in_cell, other_drops, with_duplicates, with_known}
use Rattle.trace_tables.specs.Counting.{is_loss, times_lost}
use Rattle.trace_tables.specs.Destinations.{destination, destination_cmp, destinations_in}
use Rattle.trace_tables.specs.Losses.{cause_number, count_in, loss_cmp}
use Rattle.trace_tables.specs.Tables.{drop_table}
use Rattle.trace_tables.proofs.CountedLemmas.{lookup-insert_entry, sorted-insert_entry}
use Rattle.trace_tables.proofs.DestinationLemmas.{destination-is, is_eq-destinations, places-more}
use Rattle.trace_tables.proofs.DropCountLemmas.{ArePositive, drops-ascending, drops-counted, drops-positive, is-drops, is_same}
use Rattle.trace_tables.proofs.ListLemmas.{one_if}
use Rattle.trace_tables.proofs.LossOrderLemmas.{exact_losses, is_eq-losses, losses_total}

both-are : (a b : Bool) → (a && b) ≡ true → (a ≡ true) × (b ≡ true)
both-are true b e = (refl, e)
both-are false b e = absurd (cc)

-- a test that is the same of all that count, and one that takes all of them out or none
count-same : {X : Type 0} (p q : X → Bool) (k : Bool) → ((x : X) → p x ≡ true → q x ≡ k) → (xs : List X) → count_by (λ x. q x && p x) xs ≡ cond k (count_by p xs) 0
count-same p q k same [] = none k
  where
    none : (b : Bool) → ◌≡◌ {A = ℕ} 0 (cond b 0 0)
    none true = refl
    none false = refl
count-same {X} p q k same (x ∷ xs) =
    let later : count_by (λ x. q x && p x) xs ≡ cond k (count_by p xs) 0 = count-same p q k same xs in
    let these : count_by (λ x. q x && p x) (x ∷ xs) ≡ one_if (q x && p x) + count_by (λ x. q x && p x) xs = sum_by-cons (λ x. one_if (q x && p x)) x xs in
    let all : count_by p (x ∷ xs) ≡ one_if (p x) + count_by p xs = sum_by-cons (λ x. one_if (p x)) x xs in
    these ∙ ap (λ (n : ℕ). one_if (q x && p x) + n) later ∙ go k (p x) (q x) (same x) (count_by p xs) ∙ sym (ap (λ (n : ℕ). cond k n 0) all)
  where
    go : (k b c : Bool) → (b ≡ true → c ≡ k) → (n : ℕ) → one_if (c && b) + cond k n 0 ≡ cond k (one_if b + n) 0
    go true true true h n = refl
    go true true false h n = let e : false ≡ true = h refl in absurd (cc)
    go true false true h n = refl
    go true false false h n = refl
    go false true true h n = let e : true ≡ false = h refl in absurd (cc)
    go false true false h n = refl
    go false false true h n = refl
    go false false false h n = refl

count-filter : {X : Type 0} (p q : X → Bool) (k : Bool) → ((x : X) → p x ≡ true → q x ≡ not k) → (xs : List X) → count_by p (filter q xs) ≡ cond k 0 (count_by p xs)
count-filter p q k same [] = none k
  where
    none : (b : Bool) → ◌≡◌ {A = ℕ} 0 (cond b 0 0)
    none true = refl
    none false = refl
count-filter {X} p q k same (x ∷ xs) =
    let all : count_by p (x ∷ xs) ≡ one_if (p x) + count_by p xs = sum_by-cons (λ x. one_if (p x)) x xs in
    kept (q x) ∙ ap (λ (n : ℕ). cond (q x) (one_if (p x)) 0 + n) (count-filter p q k same xs) ∙ go k (p x) (q x) (same x) (count_by p xs) ∙ sym (ap (λ (n : ℕ). cond k 0 n) all)
  where
    kept : (c : Bool) → count_by p (cond c (x ∷ filter q xs) (filter q xs)) ≡ cond c (one_if (p x)) 0 + count_by p (filter q xs)
    kept true = sum_by-cons (λ x. one_if (p x)) x (filter q xs)
    kept false = omega arith

    go : (k b c : Bool) → (b ≡ true → c ≡ not k) → (n : ℕ) → cond c (one_if b) 0 + cond k 0 n ≡ cond k 0 (one_if b + n)
    go true true true h n = let e : true ≡ false = h refl in absurd (cc)
    go true true false h n = refl
    go true false true h n = refl
    go true false false h n = refl
    go false true true h n = refl
    go false true false h n = let e : false ≡ true = h refl in absurd (cc)
    go false false true h n = refl
    go false false false h n = refl

-- the network has the virtual link and process of a row that tells a duplicate, if it has those of the destination
known-duplicate : (plan : Plan) (d : Destination) (place : ℕ) (note : Note) → is_loss (duplicate_at d) place note ≡ true
    → is_in_network plan (vl_of note).0 place ≡ is_in_network plan d.vl.0 d.place
known-duplicate plan d place (Delivered vl latency) is = absurd (cc)
known-duplicate plan d place (Dropped vl cause size) is =
    let first = both-are (d.vl.0 == vl.0) ((d.place == place) && (cause_number Duplicate == cause_number cause)) is in
    let second = both-are (d.place == place) (cause_number Duplicate == cause_number cause) first.1 in
    let v : d.vl.0 ≡ vl.0 = eqb-true d.vl.0 vl.0 first.0 in
    let p : d.place ≡ place = eqb-true d.place place second.0 in
    ap (λ (n : ℕ). is_in_network plan n place) (sym v) ∙ ap (is_in_network plan d.vl.0) (sym p)

-- as often as rows tell a duplicate it is lost, if the network has its virtual link and process
duplicate-lost : (plan : Plan) (rows : List Row) (d : Destination) → times_lost plan (duplicate_at d) rows ≡ cond (is_in_network plan d.vl.0 d.place) (duplicates_of rows d) 0
duplicate-lost plan rows d =
    count-same (λ (row : Row). is_loss (duplicate_at d) row.place row.note) (is_known plan) (is_in_network plan d.vl.0 d.place) (λ row is. known-duplicate plan d row.place row.note is) rows

-- a loss is a duplicate at one of these destinations
abbrev is_duplicate_in : List Destination → Loss → Bool
is_duplicate_in ds loss = (cause_number loss.cause == cause_number Duplicate) && list_any (is_at (destination_cmp (destination loss.vl loss.place))) ds

same-duplicate : (loss : Loss) (d : Destination) → is_same loss (duplicate_at d) ≡ ((cause_number loss.cause == cause_number Duplicate) && is_eq (destination_cmp (destination loss.vl loss.place) d))
same-duplicate loss d =
    is_eq-losses loss (duplicate_at d)
    ∙ moved (loss.vl.0 == d.vl.0) (loss.place == d.place) (cause_number loss.cause == cause_number Duplicate)
    ∙ ap (λ (b : Bool). (cause_number loss.cause == cause_number Duplicate) && b) (sym (is_eq-destinations (destination loss.vl loss.place) d))
  where
    moved : (a b c : Bool) → (a && (b && c)) ≡ (c && (a && b))
    moved true true true = refl
    moved true true false = refl
    moved true false true = refl
    moved true false false = refl
    moved false b true = refl
    moved false b false = refl

any-duplicate : (loss : Loss) (ds : List Destination) → list_any (λ d. is_same loss (duplicate_at d)) ds ≡ is_duplicate_in ds loss
any-duplicate loss [] = none (cause_number loss.cause == cause_number Duplicate)
  where
    none : (b : Bool) → false ≡ (b && false)
    none true = refl
    none false = refl
any-duplicate loss (d ∷ ds) =
    ap (λ (b : Bool). b || list_any (λ d. is_same loss (duplicate_at d)) ds) (same-duplicate loss d)
    ∙ ap (λ (b : Bool). ((cause_number loss.cause == cause_number Duplicate) && is_eq (destination_cmp (destination loss.vl loss.place) d)) || b) (any-duplicate loss ds)
    ∙ both (cause_number loss.cause == cause_number Duplicate) (is_eq (destination_cmp (destination loss.vl loss.place) d)) (list_any (is_at (destination_cmp (destination loss.vl loss.place))) ds)
  where
    both : (c a b : Bool) → ((c && a) || (c && b)) ≡ (c && (a || b))
    both true a b = refl
    both false a b = refl

-- the count of a loss behind that of a duplicate that is put in
known-counted : (plan : Plan) (rows : List Row) (drops : List (Loss × ℕ)) (d : Destination) (waits : Bool) (loss : Loss) → count_in drops loss ≡ cond waits 0 (times_lost plan loss rows)
    → count_in (with_known plan drops (duplicate_at d) (duplicates_of rows d)) loss ≡ cond (waits && not (is_same loss (duplicate_at d))) 0 (times_lost plan loss rows)
known-counted plan rows drops d waits loss is =
    put (nat_lt 0 (duplicates_of rows d)) (is_in_network plan d.vl.0 d.place) refl refl
  where
    n : ℕ
    n = duplicates_of rows d

    kept : (b : Bool) → is_same loss (duplicate_at d) ≡ b → (b ≡ true → times_lost plan loss rows ≡ 0) → count_in drops loss ≡ cond (waits && not b) 0 (times_lost plan loss rows)
    kept true t none = is ∙ empty waits (times_lost plan loss rows) (none refl)
      where
        empty : (w : Bool) (t : ℕ) → t ≡ 0 → cond w 0 t ≡ cond (w && false) 0 t
        empty true t e = sym e
        empty false t e = refl
    kept false t none = is ∙ same waits
      where
        same : (w : Bool) → cond w 0 (times_lost plan loss rows) ≡ cond (w && true) 0 (times_lost plan loss rows)
        same true = refl
        same false = refl

    -- a loss that is the duplicate
    lost : (k : Bool) → is_in_network plan d.vl.0 d.place ≡ k → is_same loss (duplicate_at d) ≡ true → times_lost plan loss rows ≡ cond k n 0
    lost k e t =
        ap (λ (x : Loss). times_lost plan x rows) (tells_apart exact_losses loss (duplicate_at d) t) ∙ duplicate-lost plan rows d ∙ ap (λ (b : Bool). cond b n 0) e

    there : (b : Bool) → is_same loss (duplicate_at d) ≡ b → (b ≡ true → times_lost plan loss rows ≡ n)
        → option_map_or (λ m. m) (cond b (Some n) (lookup (is_at (loss_cmp loss)) drops)) 0 ≡ cond (waits && not b) 0 (times_lost plan loss rows)
    there true t told = sym (none waits ∙ told refl)
      where
        none : (w : Bool) → cond (w && false) 0 (times_lost plan loss rows) ≡ times_lost plan loss rows
        none true = refl
        none false = refl
    there false t told = kept false t (λ e. absurd (cc))

    put : (some known : Bool) → nat_lt 0 n ≡ some → is_in_network plan d.vl.0 d.place ≡ known
        → count_in (cond (some && known) (insert_entry loss_cmp drops (duplicate_at d) n) drops) loss ≡ cond (waits && not (is_same loss (duplicate_at d))) 0 (times_lost plan loss rows)
    put true true s k =
        ap (λ (o : Option ℕ). option_map_or (λ m. m) o 0) (lookup-insert_entry losses_total (duplicate_at d) n loss drops)
        ∙ there (is_same loss (duplicate_at d)) refl (λ t. lost true k t)
    put true false s k = kept (is_same loss (duplicate_at d)) refl (λ t. lost false k t)
    put false true s k = kept (is_same loss (duplicate_at d)) refl (λ t. lost true k t ∙ nothing n s)
      where
        nothing : (m : ℕ) → nat_lt 0 m ≡ false → m ≡ 0
        nothing m e = grind (arith, nat_tests)
    put false false s k = kept (is_same loss (duplicate_at d)) refl (λ t. lost false k t)

-- and behind those of all these destinations
duplicates-counted : (plan : Plan) (rows : List Row) (drops : List (Loss × ℕ)) (ds : List Destination) (waits : Loss → Bool)
    → ((loss : Loss) → count_in drops loss ≡ cond (waits loss) 0 (times_lost plan loss rows)) → (loss : Loss)
    → count_in (with_duplicates plan rows drops ds) loss ≡ cond (waits loss && not (list_any (λ d. is_same loss (duplicate_at d)) ds)) 0 (times_lost plan loss rows)
duplicates-counted plan rows drops [] waits h loss = h loss ∙ same (waits loss)
  where
    same : (w : Bool) → cond w 0 (times_lost plan loss rows) ≡ cond (w && true) 0 (times_lost plan loss rows)
    same true = refl
    same false = refl
duplicates-counted plan rows drops (d ∷ ds) waits h loss =
    duplicates-counted plan rows (with_known plan drops (duplicate_at d) (duplicates_of rows d)) ds (λ loss. waits loss && not (is_same loss (duplicate_at d)))
    (λ loss. known-counted plan rows drops d (waits loss) loss (h loss)) loss
    ∙ ap (λ (b : Bool). cond b 0 (times_lost plan loss rows)) (both (waits loss) (is_same loss (duplicate_at d)) (list_any (λ d. is_same loss (duplicate_at d)) ds))
  where
    both : (w a b : Bool) → ((w && not a) && not b) ≡ (w && not (a || b))
    both true true b = refl
    both true false b = refl
    both false a b = refl

-- a row that tells a loss is counted in a cell if the loss is a duplicate at a destination
in-cell : (vls : List VlPlan) (loss : Loss) (place : ℕ) (note : Note) → is_loss loss place note ≡ true → is_in_cell vls place note ≡ is_duplicate_in (destinations_in vls) loss
in-cell vls loss place (Delivered vl latency) is = absurd (cc)
in-cell vls loss place (Dropped vl cause size) is =
    let first = both-are (loss.vl.0 == vl.0) ((loss.place == place) && (cause_number loss.cause == cause_number cause)) is in
    let second = both-are (loss.place == place) (cause_number loss.cause == cause_number cause) first.1 in
    let v : loss.vl.0 ≡ vl.0 = eqb-true loss.vl.0 vl.0 first.0 in
    let p : loss.place ≡ place = eqb-true loss.place place second.0 in
    let k : cause_number loss.cause ≡ cause_number cause = eqb-true (cause_number loss.cause) (cause_number cause) second.1 in
    ap (λ (b : Bool). (cause_number cause == cause_number Duplicate) && b) (is_some-place_by (is_at (destination_cmp (destination vl place))) (destinations_in vls))
    ∙ ap (λ (n : ℕ). (n == cause_number Duplicate) && list_any (is_at (destination_cmp (destination vl place))) (destinations_in vls)) (sym k)
    ∙ ap (λ (at : Destination). (cause_number loss.cause == cause_number Duplicate) && list_any (is_at (destination_cmp at)) (destinations_in vls)) (destination-is (destination vl place) (destination loss.vl loss.place) (sym v) (sym p))

others-counted : (plan : Plan) (rows : List Row) (loss : Loss) → count_in (other_drops plan rows) loss ≡ cond (is_duplicate_in (destinations_in plan.vls) loss) 0 (times_lost plan loss rows)
others-counted plan rows loss =
    drops-counted plan (filter (λ row. not (is_in_cell plan.vls row.place row.note)) rows) loss
    ∙ count-filter (λ (row : Row). is_known plan row && is_loss loss row.place row.note) (λ row. not (is_in_cell plan.vls row.place row.note)) (is_duplicate_in (destinations_in plan.vls) loss)
    (λ row is. ap not (in-cell plan.vls loss row.place row.note (both-are (is_known plan row) (is_loss loss row.place row.note) is).1)) rows

ascending-known : (plan : Plan) (drops : List (Loss × ℕ)) (loss : Loss) (n : ℕ) → IsStrictlySortedBy loss_cmp (keys_of drops) → IsStrictlySortedBy loss_cmp (keys_of (with_known plan drops loss n))
ascending-known plan drops loss n h = go (nat_lt 0 n && is_in_network plan loss.vl.0 loss.place)
  where
    go : (b : Bool) → IsStrictlySortedBy loss_cmp (keys_of (cond b (insert_entry loss_cmp drops loss n) drops))
    go true = sorted-insert_entry losses_total loss n drops h
    go false = h

ascending-all : (plan : Plan) (rows : List Row) (drops : List (Loss × ℕ)) (ds : List Destination) → IsStrictlySortedBy loss_cmp (keys_of drops) → IsStrictlySortedBy loss_cmp (keys_of (with_duplicates plan rows drops ds))
ascending-all plan rows drops [] h = h
ascending-all plan rows drops (d ∷ ds) h =
    ascending-all plan rows (with_known plan drops (duplicate_at d) (duplicates_of rows d)) ds (ascending-known plan drops (duplicate_at d) (duplicates_of rows d) h)

positive-known : (plan : Plan) (drops : List (Loss × ℕ)) (loss : Loss) (n : ℕ) → ArePositive drops → ArePositive (with_known plan drops loss n)
positive-known plan drops loss n h = go (nat_lt 0 n) (is_in_network plan loss.vl.0 loss.place) refl
  where
    some : (m : ℕ) → nat_lt 0 m ≡ true → 0 < m
    some m e = grind (arith, nat_tests)

    go : (b k : Bool) → nat_lt 0 n ≡ b → ArePositive (cond (b && k) (insert_entry loss_cmp drops loss n) drops)
    go true true e = All-values-insert_entry loss_cmp loss n (λ m. 0 < m) drops h (some n e)
    go true false e = h
    go false k e = h

positive-all : (plan : Plan) (rows : List Row) (drops : List (Loss × ℕ)) (ds : List Destination) → ArePositive drops → ArePositive (with_duplicates plan rows drops ds)
positive-all plan rows drops [] h = h
positive-all plan rows drops (d ∷ ds) h =
    positive-all plan rows (with_known plan drops (duplicate_at d) (duplicates_of rows d)) ds (positive-known plan drops (duplicate_at d) (duplicates_of rows d) h)

-- all losses
pub all-drops : (plan : Plan) (rows : List Row) → with_duplicates plan rows (other_drops plan rows) (destinations_in plan.vls) ≡ drop_table plan rows
all-drops plan rows =
    is-drops plan rows (with_duplicates plan rows (other_drops plan rows) (destinations_in plan.vls))
    (ascending-all plan rows (other_drops plan rows) (destinations_in plan.vls) (drops-ascending plan others))
    (positive-all plan rows (other_drops plan rows) (destinations_in plan.vls) (drops-positive plan others))
    (λ loss.
    duplicates-counted plan rows (other_drops plan rows) (destinations_in plan.vls) (is_duplicate_in (destinations_in plan.vls)) (others-counted plan rows) loss
    ∙ ap (λ (b : Bool). cond (is_duplicate_in (destinations_in plan.vls) loss && not b) 0 (times_lost plan loss rows)) (any-duplicate loss (destinations_in plan.vls))
    ∙ none (is_duplicate_in (destinations_in plan.vls) loss) (times_lost plan loss rows))
  where
    others : List Row
    others = filter (λ row. not (is_in_cell plan.vls row.place row.note)) rows

    none : (b : Bool) (n : ℕ) → cond (b && not b) 0 n ≡ n
    none true n = refl
    none false n = refl

pub with_duplicates-append : (plan : Plan) (rows : List Row) (drops : List (Loss × ℕ)) (xs ys : List Destination) → with_duplicates plan rows drops (xs ++ ys) ≡ with_duplicates plan rows (with_duplicates plan rows drops xs) ys
with_duplicates-append plan rows drops [] ys = refl
with_duplicates-append plan rows drops (x ∷ xs) ys = with_duplicates-append plan rows (with_known plan drops (duplicate_at x) (duplicates_of rows x)) xs ys

-- one destination more of a virtual link
pub duplicates-place : (plan : Plan) (rows : List Row) (drops : List (Loss × ℕ)) (vl : VlId) (places : List ℕ) (i : ℕ) → i < length places
    → with_duplicates plan rows drops (map (destination vl) (take (i + 1) places))
    ≡ with_known plan (with_duplicates plan rows drops (map (destination vl) (take i places))) (duplicate_at (destination vl (get_or places i 0))) (duplicates_of rows (destination vl (get_or places i 0)))
duplicates-place plan rows drops vl places i below =
    ap (with_duplicates plan rows drops) (places-more vl places i below)
    ∙ with_duplicates-append plan rows drops (map (destination vl) (take i places)) (destination vl (get_or places i 0) ∷ [])
