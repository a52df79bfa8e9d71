-- The letters of done events in a tally.
use Rattle.std.proofs.Common.{◌≡◌, ℕ, suc, ◌+◌, ◌≤◌, ◌<◌, true, not, ◌&&◌, List, [], ◌∷◌, ◌++◌, length, map, take, drop, slice_index_or, pos, ◌-ℤ◌, refl, sym, ap, ◌∙◌, arith, take-append-drop, drop-cons}
use Rattle.std.proofs.lemmas.Int.{ints}
use Rattle.std.proofs.lemmas.List.{map-append}
use Rattle.vlink.specs.declared.message.Message.{Message}
use Rattle.virtual_time.specs.Law.{IsOrder, one_if, same, times_in, IsIn, IsPresent, plus_of, pluses, minuses}
use Rattle.virtual_time.proofs.Letters.{pluses-append, minuses-append}
use Rattle.virtual_time.proofs.Lists.{times-append, in-head}
use Rattle.virtual_time.proofs.Order.{same-refl}
use Rattle.vlink.specs.Order.{message_order}
use Rattle.vlink.specs.Letters.{Letter}
use Rattle.antimessages.specs.Counting.{signed_count, HaveSameCounts}
use Rattle.antimessages.proofs.Agreeing.{same_counts-cons}
use Rattle.process_steps.specs.declared.event.Event.{Event}

-- those from place k on, by the one at that place
pub drop-one : {A : Type 0} (es : List A) (k : ℕ) (e : A) → k < length es → e ≡ slice_index_or es k e → drop k es ≡ e ∷ drop (suc k) es
drop-one es k e h at = drop-cons es k e h ∙ ap (λ x. x ∷ drop (suc k) es) (sym at)

-- the letters that brought the done events
pub pluses-done : {K : Type 0} (m : Message) (done : List (Event K)) →
    pluses message_order m (map (λ (e : Event K). plus_of e.message) done) ≡ times_in message_order m (map (λ (e : Event K). e.message) done)
pluses-done m [] = refl
pluses-done m (e ∷ es) = omega (arith, pluses-done m es)

pub minuses-done : {K : Type 0} (m : Message) (done : List (Event K)) → minuses message_order m (map (λ (e : Event K). plus_of e.message) done) ≡ 0
minuses-done m [] = refl
minuses-done m (e ∷ es) = omega (arith, minuses-done m es)

-- an event at a place is one of them
pub inside-at : (O : IsOrder message_order) {K : Type 0} (es : List (Event K)) (k : ℕ) (e : Event K) → k < length es → e ≡ slice_index_or es k e →
    IsIn message_order e.message (map (λ (x : Event K). x.message) es)
inside-at O {K} es k e h at =
    let behind = map (λ (x : Event K). x.message) (drop (suc k) es) in
    let halves = ap (map (λ (x : Event K). x.message)) (sym (take-append-drop k es)) ∙
    (map-append (λ (x : Event K). x.message) (take k es) (drop k es)
    ∙ ap (λ ds. map (λ (x : Event K). x.message) (take k es) ++ map (λ (x : Event K). x.message) ds) (drop-one es k e h at)) in
    let a = ap (times_in message_order e.message) halves ∙ times-append message_order O e.message (map (λ (x : Event K). x.message) (take k es)) (e.message ∷ behind) in
    let b = in-head message_order O e.message behind in
    omega arith

-- the first of the events from a place on is taken out of the letters that count
pub taken-next : (O : IsOrder message_order) {K : Type 0} (es : List (Event K)) (k : ℕ) (e : Event K) → k < length es → e ≡ slice_index_or es k e →
    (rest old new : List Letter) → HaveSameCounts message_order old (map (λ (x : Event K). plus_of x.message) (drop k es) ++ rest) →
    (IsIn message_order e.message (map (λ (x : Event K). x.message) es) → minuses message_order e.message rest ≤ pluses message_order e.message rest) →
    (IsPresent message_order old e.message → HaveSameCounts message_order old (plus_of e.message ∷ new)) →
    HaveSameCounts message_order new (map (λ (x : Event K). plus_of x.message) (drop (k + 1) es) ++ rest)
taken-next O {K} es k e h at rest old new counts not_owed less_by m = less (one_if (true && same message_order m e.message)) (one_if (not true && same message_order m e.message)) _ _ _ _ (sym (less_by present m) ∙ split m)
  where
    behind : List (Event K)
    behind = drop (k + 1) es

    there : drop k es ≡ e ∷ behind
    there = drop-one es k e h at ∙ ap (λ i. e ∷ drop i es) (let n : suc k ≡ k + 1 = omega arith in n)

    split : (x : Message) → signed_count message_order x old ≡ signed_count message_order x (plus_of e.message ∷ (map (λ (y : Event K). plus_of y.message) behind ++ rest))
    split x = counts x ∙ ap (λ ds. signed_count message_order x (map (λ (y : Event K). plus_of y.message) ds ++ rest)) there

    present : IsPresent message_order old e.message
    present =
        let s = same-refl message_order O e.message in
        let a = ap (λ c. one_if (true && c)) s in
        let b = ap (λ c. one_if (not true && c)) s in
        let c = pluses-append message_order O e.message (map (λ (x : Event K). plus_of x.message) behind) rest in
        let d = minuses-append message_order O e.message (map (λ (x : Event K). plus_of x.message) behind) rest in
        let f = minuses-done e.message behind in
        let i = not_owed (inside-at O es k e h at) in
        let j = split e.message in
        omega (arith, ints)

    less : (a b p n q o : ℕ) → pos (a + p) -ℤ pos (b + n) ≡ pos (a + q) -ℤ pos (b + o) → pos p -ℤ pos n ≡ pos q -ℤ pos o
    less a b p n q o t = omega (arith, ints)

-- the event in front of those from a place on is tallied beside them
pub tallied-next : {K : Type 0} (es : List (Event K)) (k : ℕ) (e : Event K) → k < length es → e ≡ slice_index_or es k e → (rest old new : List Letter) →
    HaveSameCounts message_order new (plus_of e.message ∷ old) → HaveSameCounts message_order old (map (λ (x : Event K). plus_of x.message) (drop (suc k) es) ++ rest) →
    HaveSameCounts message_order new (map (λ (x : Event K). plus_of x.message) (drop k es) ++ rest)
tallied-next {K} es k e h at rest old new added counts m =
    added m ∙ same_counts-cons message_order (plus_of e.message) old (map (λ (x : Event K). plus_of x.message) (drop (suc k) es) ++ rest) counts m ∙ sym whole
  where
    whole : signed_count message_order m (map (λ (x : Event K). plus_of x.message) (drop k es) ++ rest)
        ≡ signed_count message_order m (plus_of e.message ∷ (map (λ (x : Event K). plus_of x.message) (drop (suc k) es) ++ rest))
    whole = ap (λ ds. signed_count message_order m (map (λ (x : Event K). plus_of x.message) ds ++ rest)) (drop-one es k e h at)
