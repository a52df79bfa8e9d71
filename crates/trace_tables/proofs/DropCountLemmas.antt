-- What a table of drops says of its rows.
use Rattle.std.proofs.Common.{◌≡◌, ℕ, ◌+◌, ◌<◌, ◌≤◌, Bool, true, false, cond, List, [], ◌∷◌, ◌++◌, length, Option, Some, None, refl, ap, sym, ◌∙◌, arith, ◌&&◌, All, count_by, flat_map, IfSome, is_eq, append-nil}
use Rattle.std.specs.List.Sorted.{IsStrictlySortedBy}
use Rattle.std.specs.Option.{option_map_or}
use Rattle.std.specs.BTreeMap.{is_at}
use Rattle.std.specs.Map.{lookup, keys_of, values_of}
use Rattle.std.proofs.lemmas.List.Sums.{sum_by-append, sum_by-cons, count_by-le-length}
use Rattle.std.proofs.lemmas.Grind.{flat_map-append}
use Rattle.std.proofs.lemmas.Map.Views.{All-values-insert_entry, IfSome-lookup_from_All, tells_apart}
use Rattle.vlink.specs.declared.frame.VlId.{VlId}
use Rattle.vlink.specs.declared.note.Cause.{Cause}
use Rattle.vlink.specs.declared.note.Note.{Note}
use Rattle.vlink.specs.declared.note.Note.TheVariants.{Delivered, Dropped}
use Rattle.vlink.specs.Letters.{Row}
use Rattle.network.specs.Words.{Plan}
use Rattle.trace_tables.specs.declared.loss.Loss.{Loss}
use Rattle.trace_tables.specs.Losses.{loss_cmp, loss_in, loss_of, count_in, with_loss, with_losses}
use Rattle.trace_segments.specs.Words.{vl_of, is_in_network, is_known}
use Rattle.trace_tables.specs.Tables.{known_loss, drop_table}
use Rattle.trace_tables.specs.Counting.{is_loss, times_lost}
use Rattle.trace_tables.proofs.LossOrderLemmas.{losses_total, exact_losses, is_eq-losses}
use Rattle.trace_tables.proofs.CountedLemmas.{lookup-insert_entry, sorted-insert_entry, same-entries}
use Rattle.trace_tables.proofs.ListLemmas.{one_if}

abbrev pub is_same : Loss → Loss → Bool
is_same loss other = is_eq (loss_cmp loss other)

-- one more of a loss is one more of it, and none more of any other
count-with_loss : (counts : List (Loss × ℕ)) (more loss : Loss) → count_in (with_loss counts more) loss ≡ count_in counts loss + cond (is_same loss more) 1 0
count-with_loss counts more loss = ap (λ o. option_map_or (λ n. n) o 0) (lookup-insert_entry losses_total more (count_in counts more + 1) loss counts) ∙ go (is_same loss more) refl
  where
    go : (b : Bool) → is_same loss more ≡ b → option_map_or (λ n. n) (cond b (Some (count_in counts more + 1)) (lookup (is_at (loss_cmp loss)) counts)) 0 ≡ count_in counts loss + cond b 1 0
    go true same = let e : loss ≡ more = tells_apart exact_losses loss more same in ap (λ (x : Loss). count_in counts x + 1) (sym e)
    go false differ = omega arith

-- and of each of these
count-with_losses : (losses : List Loss) (counts : List (Loss × ℕ)) (loss : Loss) → count_in (with_losses counts losses) loss ≡ count_in counts loss + count_by (is_same loss) losses
count-with_losses [] counts loss = omega arith
count-with_losses (more ∷ losses) counts loss =
    let later : count_in (with_losses (with_loss counts more) losses) loss ≡ count_in (with_loss counts more) loss + count_by (is_same loss) losses = count-with_losses losses (with_loss counts more) loss in
    let one : count_in (with_loss counts more) loss ≡ count_in counts loss + cond (is_same loss more) 1 0 = count-with_loss counts more loss in
    let both : count_by (is_same loss) (more ∷ losses) ≡ cond (is_same loss more) 1 0 + count_by (is_same loss) losses = sum_by-cons (λ x. cond (is_same loss x) 1 0) more losses in
    omega arith

-- a row tells a loss once, or not at all
count-in : (loss : Loss) (place : ℕ) (note : Note) → count_by (is_same loss) (loss_in place note) ≡ cond (is_loss loss place note) 1 0
count-in loss place (Delivered vl latency) = refl
count-in loss place (Dropped vl cause size) =
    let other : Loss = record { vl = vl; place = place; cause = cause } in
    let same : one_if (is_same loss other) ≡ one_if (is_loss loss place (Dropped vl cause size)) = ap one_if (is_eq-losses loss other) in
    omega arith

count-known : (plan : Plan) (loss : Loss) (row : Row) → count_by (is_same loss) (known_loss plan row) ≡ cond (is_known plan row && is_loss loss row.place row.note) 1 0
count-known plan loss row = go (is_known plan row)
  where
    go : (b : Bool) → count_by (is_same loss) (cond b (loss_of row) []) ≡ cond (b && is_loss loss row.place row.note) 1 0
    go true = count-in loss row.place row.note
    go false = refl

count-rows : (plan : Plan) (loss : Loss) (rows : List Row) → count_by (is_same loss) (flat_map (known_loss plan) rows) ≡ times_lost plan loss rows
count-rows plan loss [] = refl
count-rows plan loss (row ∷ rows) =
    let here : count_by (is_same loss) (known_loss plan row) ≡ cond (is_known plan row && is_loss loss row.place row.note) 1 0 = count-known plan loss row in
    let later : count_by (is_same loss) (flat_map (known_loss plan) rows) ≡ times_lost plan loss rows = count-rows plan loss rows in
    let both : count_by (is_same loss) (flat_map (known_loss plan) (row ∷ rows)) ≡ count_by (is_same loss) (known_loss plan row) + count_by (is_same loss) (flat_map (known_loss plan) rows)
    = sum_by-append (λ x. cond (is_same loss x) 1 0) (known_loss plan row) (flat_map (known_loss plan) rows) in
    let all : times_lost plan loss (row ∷ rows) ≡ cond (is_known plan row && is_loss loss row.place row.note) 1 0 + times_lost plan loss rows
    = sum_by-cons (λ r. cond (is_known plan r && is_loss loss r.place r.note) 1 0) row rows in
    omega arith

-- the count of a loss is the number of rows that tell it
pub drops-counted : (plan : Plan) (rows : List Row) (loss : Loss) → count_in (drop_table plan rows) loss ≡ times_lost plan loss rows
drops-counted plan rows loss =
    let told : count_in (drop_table plan rows) loss ≡ 0 + count_by (is_same loss) (flat_map (known_loss plan) rows) = count-with_losses (flat_map (known_loss plan) rows) [] loss in
    let same : count_by (is_same loss) (flat_map (known_loss plan) rows) ≡ times_lost plan loss rows = count-rows plan loss rows in
    omega arith

-- no loss is counted more often than there are rows
pub few-lost : (plan : Plan) (rows : List Row) (loss : Loss) → count_in (drop_table plan rows) loss ≤ length rows
few-lost plan rows loss =
    let few : times_lost plan loss rows ≤ length rows = count_by-le-length (λ row. is_known plan row && is_loss loss row.place row.note) rows in
    let same = drops-counted plan rows loss in
    omega arith

with_losses-append : (counts : List (Loss × ℕ)) (xs ys : List Loss) → with_losses counts (xs ++ ys) ≡ with_losses (with_losses counts xs) ys
with_losses-append counts [] ys = refl
with_losses-append counts (x ∷ xs) ys = with_losses-append (with_loss counts x) xs ys

-- one row more adds what it says was lost
pub lost-more : (plan : Plan) (rows : List Row) (row : Row) → with_losses (drop_table plan rows) (known_loss plan row) ≡ drop_table plan (rows ++ row ∷ [])
lost-more plan rows row =
    sym (ap (with_losses []) (flat_map-append (known_loss plan) rows (row ∷ []) ∙ ap (λ (ls : List Loss). flat_map (known_loss plan) rows ++ ls) (append-nil (known_loss plan row)))
    ∙ with_losses-append [] (flat_map (known_loss plan) rows) (known_loss plan row))

-- a delivery says none
pub none-lost : (plan : Plan) (rows : List Row) (row : Row) (vl : VlId) (latency : ℕ) → row.note ≡ Delivered vl latency → drop_table plan rows ≡ drop_table plan (rows ++ row ∷ [])
none-lost plan rows row vl latency is =
    ap (with_losses (drop_table plan rows)) (sym (ap (λ (note : Note). cond (is_known plan row) (loss_in row.place note) []) is ∙ none (is_known plan row)))
    ∙ lost-more plan rows row
  where
    none : (b : Bool) → ◌≡◌ {A = List Loss} (cond b [] []) []
    none true = refl
    none false = refl

-- a drop says one, if the network has its virtual link and process
pub one-lost : (plan : Plan) (rows : List Row) (row : Row) (vl : VlId) (cause : Cause) (size : ℕ) → row.note ≡ Dropped vl cause size
    → with_losses (drop_table plan rows) (cond (is_in_network plan vl.0 row.place) (record { vl = vl; place = row.place; cause = cause } ∷ []) []) ≡ drop_table plan (rows ++ row ∷ [])
one-lost plan rows row vl cause size is =
    ap (with_losses (drop_table plan rows)) (sym (ap (λ (note : Note). cond (is_in_network plan (vl_of note).0 row.place) (loss_in row.place note) []) is))
    ∙ lost-more plan rows row

ascending-with_losses : (losses : List Loss) (counts : List (Loss × ℕ)) → IsStrictlySortedBy loss_cmp (keys_of counts) → IsStrictlySortedBy loss_cmp (keys_of (with_losses counts losses))
ascending-with_losses [] counts h = h
ascending-with_losses (loss ∷ losses) counts h = ascending-with_losses losses (with_loss counts loss) (sorted-insert_entry losses_total loss (count_in counts loss + 1) counts h)

ascending-none : IsStrictlySortedBy loss_cmp []
unfolding IsStrictlySortedBy
ascending-none = tt

-- the losses ascend
pub drops-ascending : (plan : Plan) (rows : List Row) → IsStrictlySortedBy loss_cmp (keys_of (drop_table plan rows))
drops-ascending plan rows = ascending-with_losses (flat_map (known_loss plan) rows) [] ascending-none

abbrev pub ArePositive : List (Loss × ℕ) → Type 0
ArePositive counts = All (λ n. 0 < n) (values_of counts)

positive-with_losses : (losses : List Loss) (counts : List (Loss × ℕ)) → ArePositive counts → ArePositive (with_losses counts losses)
positive-with_losses [] counts h = h
positive-with_losses (loss ∷ losses) counts h =
    positive-with_losses losses (with_loss counts loss) (All-values-insert_entry loss_cmp loss (count_in counts loss + 1) (λ n. 0 < n) counts h (omega arith))

-- no count is 0
pub drops-positive : (plan : Plan) (rows : List Row) → ArePositive (drop_table plan rows)
drops-positive plan rows = positive-with_losses (flat_map (known_loss plan) rows) [] (λ k d lt. absurd (omega arith))

-- a count above 0 tells the look-up
same-found : (o p : Option ℕ) → IfSome o (λ n. 0 < n) → IfSome p (λ n. 0 < n) → option_map_or (λ n. n) o 0 ≡ option_map_or (λ n. n) p 0 → o ≡ p
same-found None None h k e = refl
same-found None (Some n) h k e = absurd (omega arith)
same-found (Some m) None h k e = absurd (omega arith)
same-found (Some m) (Some n) h k e = ap Some e

-- ascending counts above 0 that have each loss as often as rows tell it are the table of drops
pub is-drops : (plan : Plan) (rows : List Row) (counts : List (Loss × ℕ)) → IsStrictlySortedBy loss_cmp (keys_of counts) → ArePositive counts
    → ((loss : Loss) → count_in counts loss ≡ times_lost plan loss rows) → counts ≡ drop_table plan rows
is-drops plan rows counts ascending positive same =
    same-entries losses_total exact_losses counts (drop_table plan rows) ascending (drops-ascending plan rows) (λ loss.
    same-found (lookup (is_at (loss_cmp loss)) counts) (lookup (is_at (loss_cmp loss)) (drop_table plan rows))
    (IfSome-lookup_from_All (λ n. 0 < n) (is_at (loss_cmp loss)) counts positive)
    (IfSome-lookup_from_All (λ n. 0 < n) (is_at (loss_cmp loss)) (drop_table plan rows) (drops-positive plan rows))
    (same loss ∙ sym (drops-counted plan rows loss)))

-- rows that tell each loss as often have the same table of drops
pub same-drops : (plan : Plan) (xs ys : List Row) → ((loss : Loss) → times_lost plan loss xs ≡ times_lost plan loss ys) → drop_table plan xs ≡ drop_table plan ys
same-drops plan xs ys same = is-drops plan ys (drop_table plan xs) (drops-ascending plan xs) (drops-positive plan xs) (λ loss. drops-counted plan xs loss ∙ same loss)
