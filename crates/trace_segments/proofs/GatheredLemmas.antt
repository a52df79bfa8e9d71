-- Segments that wait have the rows of their processes, and so have the batches.
use Rattle.std.proofs.Common.{◌≡◌, ◌≢◌, ◌∙◌, ℕ, zero, suc, ◌+◌, ◌-◌, ◌<◌, ◌≤◌, ◌⊎◌, inl, inr, true, List, [], ◌∷◌, ◌++◌, length, refl, sym, ap, subst, arith, nat_lt, slice_set, map, drop, flat_map, length-set}
use Rattle.std.specs.List.{range_with_len, repeat}
use Rattle.std.proofs.lemmas.Bool.{cases_lt}
use Rattle.std.proofs.lemmas.List.{length-map}
use Rattle.vlink.specs.Letters.{Row}
use Rattle.trace_segments.specs.Words.{gathered, segments_from, AreOfRows, segments_at, with_segment, are_all_there, first_of, first_rows, cut, rows_within}
use Rattle.trace_segments.proofs.WaitingLemmas.{latter}

-- the rows of one interval
abbrev pub interval_rows : ℕ → ℕ → List Row → List Row
interval_rows until k rows = rows_within (cut until k) (cut until (k + 1)) rows

-- ---- the segments of intervals that follow each other

length-range : (k n : ℕ) → length (range_with_len k n) ≡ n
length-range k zero = refl
length-range k (suc n) = let rest = length-range (k + 1) n in omega arith

length-segments : (until k n : ℕ) (rows : List Row) → length (segments_from until k n rows) ≡ n
length-segments until k n rows = length-map (range_with_len k n) (λ i. interval_rows until i rows) ∙ length-range k n

-- they are as many as they are
fits : (until k n : ℕ) (rows : List Row) (segments : List (List Row)) → segments ≡ segments_from until k n rows → segments ≡ segments_from until k (length segments) rows
fits until k n rows segments e = e ∙ ap (λ (m : ℕ). segments_from until k m rows) (sym (ap length e ∙ length-segments until k n rows))

segments-more : (until k n : ℕ) (rows : List Row) → segments_from until k n rows ++ interval_rows until (k + n) rows ∷ [] ≡ segments_from until k (suc n) rows
segments-more until k zero rows = ap (λ (i : ℕ). interval_rows until i rows ∷ []) (let e : k + 0 ≡ k = omega arith in e)
segments-more until k (suc n) rows =
    ap (λ (i : ℕ). segments_from until k (suc n) rows ++ interval_rows until i rows ∷ []) (let e : k + suc n ≡ k + 1 + n = omega arith in e)
    ∙ ap (λ (segments : List (List Row)). interval_rows until k rows ∷ segments) (segments-more until (k + 1) n rows)

segments-fewer : (until k n : ℕ) (rows : List Row) → drop 1 (segments_from until k n rows) ≡ segments_from until (k + 1) (n - 1) rows
segments-fewer until k zero rows = refl
segments-fewer until k (suc n) rows = ap (λ (m : ℕ). segments_from until (k + 1) m rows) (let e : n ≡ suc n - 1 = omega arith in e)

-- ---- the segments of each process

at-set : (p : ℕ) (waiting : List (List (List Row))) (segments : List (List Row)) → p < length waiting → segments_at p (slice_set waiting p segments) ≡ segments
at-set zero (first ∷ others) segments below = refl
at-set (suc p) (first ∷ others) segments below = at-set p others segments (omega arith)
at-set p [] segments below = absurd (omega arith)

at-other : (p q : ℕ) (waiting : List (List (List Row))) (segments : List (List Row)) → q ≢ p → segments_at q (slice_set waiting p segments) ≡ segments_at q waiting
at-other p q [] segments differ = refl
at-other zero zero (first ∷ others) segments differ = absurd (differ refl)
at-other zero (suc q) (first ∷ others) segments differ = refl
at-other (suc p) zero (first ∷ others) segments differ = refl
at-other (suc p) (suc q) (first ∷ others) segments differ = at-other p q others segments (λ e. differ (ap (λ (n : ℕ). suc n) e))

at-drop : (p : ℕ) (waiting : List (List (List Row))) → segments_at p (map (drop 1) waiting) ≡ drop 1 (segments_at p waiting)
at-drop p [] = refl
at-drop zero (first ∷ others) = refl
at-drop (suc p) (first ∷ others) = at-drop p others

at-none : (p n : ℕ) → segments_at p (repeat n ([] ∷ [])) ≡ []
at-none p zero = refl
at-none zero (suc n) = refl
at-none (suc p) (suc n) = at-none p n

-- each has one, where a segment of each is there
some-there : (p : ℕ) (waiting : List (List (List Row))) → are_all_there waiting ≡ true → p < length waiting → 0 < length (segments_at p waiting)
some-there p [] there below = absurd (omega arith)
some-there zero ([] ∷ others) there below = absurd (cc)
some-there zero ((rows ∷ segments) ∷ others) there below = omega arith
some-there (suc p) (segments ∷ others) there below = some-there p others (latter (nat_lt 0 (length segments)) (are_all_there others) there) (omega arith)

-- ---- what waits are rows of each process

pub none-of-rows : (until processes : ℕ) (rows_of : ℕ → List Row) → AreOfRows until 0 rows_of (repeat processes ([] ∷ []))
none-of-rows until processes rows_of p below = fits until 0 0 (rows_of p) (segments_at p (repeat processes ([] ∷ []))) (at-none p processes)

-- with the next segment of a process
pub with-of-rows : (until given p : ℕ) (rows_of : ℕ → List Row) (rows : List Row) (waiting : List (List (List Row))) → AreOfRows until given rows_of waiting → p < length waiting →
    rows ≡ interval_rows until (given + length (segments_at p waiting)) (rows_of p) → AreOfRows until given rows_of (with_segment p rows waiting)
with-of-rows until given p rows_of rows waiting are here next q below = go (cases_lt q p) (cases_lt p q)
  where
    put : List (List (List Row))
    put = with_segment p rows waiting

    same : segments_at p put ≡ segments_from until given (suc (length (segments_at p waiting))) (rows_of p)
    same =
        at-set p waiting (segments_at p waiting ++ rows ∷ []) here
        ∙ ap (λ (segments : List (List Row)). segments ++ rows ∷ []) (are p here)
        ∙ ap (λ (more : List Row). segments_from until given (length (segments_at p waiting)) (rows_of p) ++ more ∷ []) next
        ∙ segments-more until given (length (segments_at p waiting)) (rows_of p)

    other : q ≢ p → segments_at q put ≡ segments_from until given (length (segments_at q put)) (rows_of q)
    other differ =
        let stays = at-other p q waiting (segments_at p waiting ++ rows ∷ []) differ in
        let long : length put ≡ length waiting = length-set waiting p (segments_at p waiting ++ rows ∷ []) in
        fits until given (length (segments_at q waiting)) (rows_of q) (segments_at q put) (stays ∙ are q (omega arith))

    go : (q < p) ⊎ (p ≤ q) → (p < q) ⊎ (q ≤ p) → segments_at q put ≡ segments_from until given (length (segments_at q put)) (rows_of q)
    go (inl lt) e = other (λ e. omega arith)
    go (inr ge) (inl lt) = other (λ e. omega arith)
    go (inr ge) (inr le) =
        let e : p ≡ q = omega arith in
        subst (λ (r : ℕ). segments_at r put ≡ segments_from until given (length (segments_at r put)) (rows_of r)) e
        (fits until given (suc (length (segments_at p waiting))) (rows_of p) (segments_at p put) same)

-- when the first segment of each process goes
pub left-of-rows : (until given : ℕ) (rows_of : ℕ → List Row) (waiting : List (List (List Row))) → AreOfRows until given rows_of waiting →
    AreOfRows until (given + 1) rows_of (map (drop 1) waiting)
left-of-rows until given rows_of waiting are p below =
    let here : p < length waiting = omega (arith, length-map waiting (drop {A = List Row} 1)) in
    fits until (given + 1) (length (segments_at p waiting) - 1) (rows_of p) (segments_at p (map (drop 1) waiting))
    (at-drop p waiting ∙ ap (drop 1) (are p here) ∙ segments-fewer until given (length (segments_at p waiting)) (rows_of p))

-- ---- the first segments

-- process by process
firsts : (a : ℕ) (rows_of : ℕ → List Row) (waiting : List (List (List Row))) → ((p : ℕ) → p < length waiting → first_of (segments_at p waiting) ≡ rows_of (a + p)) →
    first_rows waiting ≡ flat_map rows_of (range_with_len a (length waiting))
firsts a rows_of [] each = refl
firsts a rows_of (segments ∷ others) each =
    ap (λ (rows : List Row). rows ++ first_rows others) (each 0 (omega arith) ∙ ap rows_of (let e : a + 0 ≡ a = omega arith in e))
    ∙ ap (λ (rows : List Row). rows_of a ++ rows) (firsts (a + 1) rows_of others (λ p below. each (suc p) (omega arith) ∙ ap rows_of (let e : a + suc p ≡ a + 1 + p = omega arith in e)))

first-is : (until k n : ℕ) (rows : List Row) (segments : List (List Row)) → segments ≡ segments_from until k n rows → 0 < n → first_of segments ≡ interval_rows until k rows
first-is until k zero rows segments e some = absurd (omega arith)
first-is until k (suc n) rows segments e some = ap first_of e

pub firsts-are : (until given : ℕ) (rows_of : ℕ → List Row) (waiting : List (List (List Row))) → AreOfRows until given rows_of waiting → are_all_there waiting ≡ true →
    first_rows waiting ≡ gathered (length waiting) (λ p. interval_rows until given (rows_of p))
firsts-are until given rows_of waiting are there =
    firsts 0 (λ p. interval_rows until given (rows_of p)) waiting (λ p below.
    first-is until given (length (segments_at p waiting)) (rows_of p) (segments_at p waiting) (are p below) (some-there p waiting there below)
    ∙ ap (λ (q : ℕ). interval_rows until given (rows_of q)) (let e : p ≡ 0 + p = omega arith in e))
