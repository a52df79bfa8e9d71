-- Rows that are gathered process by process.
use Rattle.std.proofs.Common.{◌≡◌, ◌≢◌, ℕ, zero, suc, ◌+◌, ◌<◌, ◌≤◌, ◌==◌, Bool, true, false, cond, List, [], ◌∷◌, ◌++◌, refl, ap, sym, ◌∙◌, inl, inr, ◌⊎◌, arith, ne_eqb, eq-eqb, All, filter, flat_map, append-nil}
use Rattle.std.specs.List.{AllByRecursion, range_with_len}
use Rattle.std.proofs.lemmas.Bool.{cases_lt, false_from_ne_true}
use Rattle.std.proofs.lemmas.List.Elements.{filter-append, filter_passes, recursion_from_All, All-weaker, All-same}
use Rattle.std.proofs.lemmas.Map.Views.{exact_unsigned_eq}
use Rattle.virtual_time.specs.Law.{rows_at}
use Rattle.vlink.specs.Letters.{Row}
use Rattle.trace_segments.specs.Words.{IsOfOneGroup, gathered}

-- the rows are of this process
abbrev pub AreAt : ℕ → List Row → Type 0
AreAt p rows = All (λ row. row.place ≡ p) rows

pub rows_at-are : (p : ℕ) (rows : List Row) → AreAt p (rows_at p rows)
rows_at-are p rows = All-weaker (λ row. (row.place == p) ≡ true) (λ row. row.place ≡ p) (λ row t. exact_unsigned_eq row.place p t) (rows_at p rows) (filter_passes (λ row. row.place == p) rows)

-- a test that all rows pass, and one that none passes
pub all-pass : (test : Row → Bool) (rows : List Row) → AllByRecursion (λ row. test row ≡ true) rows → filter test rows ≡ rows
all-pass test [] h = refl
all-pass test (row ∷ rows) h = ap (λ b. cond b (row ∷ filter test rows) (filter test rows)) h.0 ∙ ap (λ (rs : List Row). row ∷ rs) (all-pass test rows h.1)

none-pass : (test : Row → Bool) (rows : List Row) → AllByRecursion (λ row. test row ≡ false) rows → filter test rows ≡ []
none-pass test [] h = refl
none-pass test (row ∷ rows) h = ap (λ b. cond b (row ∷ filter test rows) (filter test rows)) h.0 ∙ none-pass test rows h.1

-- a test that all rows of a process pass, or that none passes, by their place
pub all-pass-at : (test : ℕ → Bool) (p : ℕ) (rows : List Row) → test p ≡ true → AreAt p rows → filter (λ row. test row.place) rows ≡ rows
all-pass-at test p rows t h =
    let P : Row → Type 0 = λ row. test row.place ≡ true in
    all-pass (λ row. test row.place) rows (recursion_from_All P rows (All-weaker (λ row. row.place ≡ p) P (λ row e. ap test e ∙ t) rows h))

pub none-pass-at : (test : ℕ → Bool) (p : ℕ) (rows : List Row) → test p ≡ false → AreAt p rows → filter (λ row. test row.place) rows ≡ []
none-pass-at test p rows t h =
    let P : Row → Type 0 = λ row. test row.place ≡ false in
    none-pass (λ row. test row.place) rows (recursion_from_All P rows (All-weaker (λ row. row.place ≡ p) P (λ row e. ap test e ∙ t) rows h))

-- all rows of a process are its rows, and another process has none of them
pub rows_at-own : (p : ℕ) (rows : List Row) → AreAt p rows → rows_at p rows ≡ rows
rows_at-own p rows h = all-pass-at (λ q. q == p) p rows (eq-eqb p p refl) h

pub rows_at-other : (p q : ℕ) (rows : List Row) → q ≢ p → AreAt q rows → rows_at p rows ≡ []
rows_at-other p q rows differ h = none-pass-at (λ r. r == p) q rows (ne_eqb q p differ) h

-- the rows of many lists that pass a test are those of each list
filter-flat_map : (test : Row → Bool) (rows_of : ℕ → List Row) (qs : List ℕ) → filter test (flat_map rows_of qs) ≡ flat_map (λ q. filter test (rows_of q)) qs
filter-flat_map test rows_of [] = refl
filter-flat_map test rows_of (q ∷ qs) =
    filter-append test (rows_of q) (flat_map rows_of qs)
    ∙ ap (λ rs. filter test (rows_of q) ++ rs) (filter-flat_map test rows_of qs)

pub filter-gathered : (test : Row → Bool) (n : ℕ) (rows_of : ℕ → List Row) → filter test (gathered n rows_of) ≡ gathered n (λ p. filter test (rows_of p))
filter-gathered test n rows_of = filter-flat_map test rows_of (range_with_len 0 n)

-- lists of which none has elements, and of which one has
none-in-range : {X : Type 0} (f : ℕ → List X) (a n : ℕ) → ((q : ℕ) → a ≤ q → q < a + n → f q ≡ []) → flat_map f (range_with_len a n) ≡ []
none-in-range f a zero none = refl
none-in-range {X} f a (suc n) none =
    ap (λ (xs : List X). xs ++ flat_map f (range_with_len (a + 1) n)) (none a (omega arith) (omega arith))
    ∙ none-in-range f (a + 1) n (λ q low high. none q (omega arith) (omega arith))

one-in-range : {X : Type 0} (f : ℕ → List X) (p a n : ℕ) → a ≤ p → p < a + n → ((q : ℕ) → q < a + n → q ≢ p → f q ≡ []) → flat_map f (range_with_len a n) ≡ f p
one-in-range f p a zero low high none = absurd (omega arith)
one-in-range {X} f p a (suc n) low high none = go (cases_lt a p) (λ lt. one-in-range f p (a + 1) n (omega arith) (omega arith) (λ q below differ. none q (omega arith) differ))
  where
    go : (a < p) ⊎ (p ≤ a) → (a < p → flat_map f (range_with_len (a + 1) n) ≡ f p) → f a ++ flat_map f (range_with_len (a + 1) n) ≡ f p
    go (inl lt) later = ap (λ (xs : List X). xs ++ flat_map f (range_with_len (a + 1) n)) (none a (omega arith) (λ e. omega arith)) ∙ later lt
    go (inr ge) later =
        let here : a ≡ p = omega arith in
        ap (λ (xs : List X). f a ++ xs) (none-in-range f (a + 1) n (λ q above below. none q (omega arith) (λ e. omega arith)))
        ∙ append-nil (f a)
        ∙ ap f here

-- rows of one process are in the list of its group, and in that list alone
pub gathered-by-group : (ours : ℕ → ℕ → Bool) (groups p : ℕ) → IsOfOneGroup ours groups p → (rows : List Row) → AreAt p rows →
    gathered groups (λ g. filter (λ row. ours g row.place) rows) ≡ rows
gathered-by-group ours groups p one rows at =
    one-in-range (λ g. filter (λ row. ours g row.place) rows) one.group 0 groups (omega arith) (let below = one.below in omega arith)
    (λ g below differ. none-pass-at (ours g) p rows (false_from_ne_true (ours g p) (λ t. differ (one.alone g t))) at)
    ∙ all-pass-at (ours one.group) p rows one.its at

-- and of no rows nothing is gathered
pub nothing-by-group : (ours : ℕ → ℕ → Bool) (groups : ℕ) → gathered groups (λ g. filter (λ row. ours g row.place) []) ≡ []
nothing-by-group ours groups = none-in-range (λ g. filter (λ row. ours g row.place) []) 0 groups (λ g low high. refl)

-- a process is of one of the groups of single processes
pub alone-in-group : (n p : ℕ) → p < n → IsOfOneGroup (λ g q. q == g) n p
alone-in-group n p below = record { group = p; below = below; its = eq-eqb p p refl; alone = λ g t. sym (exact_unsigned_eq p g t) }

-- of rows that are gathered, each process has those of its own list
pub rows_at-gathered : (n : ℕ) (rows_of : ℕ → List Row) → ((q : ℕ) → q < n → AreAt q (rows_of q)) → (p : ℕ) → p < n → rows_at p (gathered n rows_of) ≡ rows_of p
rows_at-gathered n rows_of at p lt =
    filter-flat_map (λ row. row.place == p) rows_of (range_with_len 0 n)
    ∙ one-in-range (λ q. rows_at p (rows_of q)) p 0 n (omega arith) (omega arith) (λ q below differ. rows_at-other p q (rows_of q) differ (at q (omega arith)))
    ∙ rows_at-own p (rows_of p) (at p lt)

-- and no other process has any
pub no-rows-gathered : (n : ℕ) (rows_of : ℕ → List Row) → ((q : ℕ) → q < n → AreAt q (rows_of q)) → (p : ℕ) → n ≤ p → rows_at p (gathered n rows_of) ≡ []
no-rows-gathered n rows_of at p ge =
    filter-flat_map (λ row. row.place == p) rows_of (range_with_len 0 n)
    ∙ none-in-range (λ q. rows_at p (rows_of q)) 0 n (λ q low high. rows_at-other p q (rows_of q) (λ e. omega arith) (at q (omega arith)))

-- rows that are gathered from the rows of each process are the same at each process, if no others have rows
pub same-gathered : (n : ℕ) (rows_of : ℕ → List Row) (rows : List Row) → ((p : ℕ) → p < n → rows_of p ≡ rows_at p rows) → ((p : ℕ) → n ≤ p → rows_at p rows ≡ [])
    → (p : ℕ) → rows_at p (gathered n rows_of) ≡ rows_at p rows
same-gathered n rows_of rows same none p = go (cases_lt p n)
  where
    at : (q : ℕ) → q < n → AreAt q (rows_of q)
    at q lt = All-same (λ row. row.place ≡ q) (rows_of q) (rows_at q rows) (same q lt) (rows_at-are q rows)

    go : (p < n) ⊎ (n ≤ p) → rows_at p (gathered n rows_of) ≡ rows_at p rows
    go (inl lt) = rows_at-gathered n rows_of at p lt ∙ same p lt
    go (inr ge) = no-rows-gathered n rows_of at p ge ∙ sym (none p ge)
