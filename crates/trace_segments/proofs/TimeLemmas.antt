-- Rows whose moments do not fall: those before a moment, and those from it on.
use Rattle.std.proofs.Common.{◌≡◌, ◌∙◌, ℕ, suc, ◌<◌, ◌≤◌, ◌⊎◌, inl, inr, Bool, true, false, cond, List, [], ◌∷◌, ◌++◌, length, refl, sym, ap, arith, ◌&&◌, nat_le, nat_lt, slice_index_or, All, filter}
use Rattle.std.proofs.lemmas.Bool.{cases_lt}
use Rattle.std.proofs.lemmas.Grind.{common_steps}
use Rattle.std.proofs.lemmas.List.Elements.{filter-append}
use Rattle.vlink.specs.Letters.{Row}
use Rattle.trace_segments.specs.Words.{rows_within, rows_before, rows_from}

abbrev pub time_of : Row → ℕ
time_of row = row.message.time

-- no moment is earlier than one before it
abbrev pub Rise : List Row → Type 0
Rise rows = (i j : ℕ) (d : Row) → i ≤ j → j < length rows → time_of (slice_index_or rows i d) ≤ time_of (slice_index_or rows j d)

later : (row : Row) (rows : List Row) → Rise (row ∷ rows) → Rise rows
later row rows up i j d le below = up (suc i) (suc j) d (omega arith) (omega arith)

-- tests on moments, where it is known which comes first
is-before : (a t : ℕ) → t < a → nat_lt t a ≡ true
is-before a t lt = grind (arith, common_steps)

not-before : (a t : ℕ) → a ≤ t → nat_lt t a ≡ false
not-before a t le = grind (arith, common_steps)

is-from : (a t : ℕ) → a ≤ t → nat_le a t ≡ true
is-from a t le = grind (arith, common_steps)

not-from : (a t : ℕ) → t < a → nat_le a t ≡ false
not-from a t lt = grind (arith, common_steps)

-- where all rows are of a moment or later
pub none-before : (a : ℕ) (rows : List Row) → All (λ row. a ≤ time_of row) rows → rows_before a rows ≡ []
none-before a [] late = refl
none-before a (row ∷ rows) late =
    ap (λ b. cond b (row ∷ rows_before a rows) (rows_before a rows)) (not-before a (time_of row) (late 0 row (omega arith)))
    ∙ none-before a rows (λ i d below. late (suc i) d (omega arith))

all-from : (a : ℕ) (rows : List Row) → All (λ row. a ≤ time_of row) rows → rows_from a rows ≡ rows
all-from a [] late = refl
all-from a (row ∷ rows) late =
    ap (λ b. cond b (row ∷ rows_from a rows) (rows_from a rows)) (is-from a (time_of row) (late 0 row (omega arith)))
    ∙ ap (λ (rs : List Row). row ∷ rs) (all-from a rows (λ i d below. late (suc i) d (omega arith)))

-- and where all are earlier
pub all-before : (a : ℕ) (rows : List Row) → All (λ row. time_of row < a) rows → rows_before a rows ≡ rows
all-before a [] early = refl
all-before a (row ∷ rows) early =
    ap (λ b. cond b (row ∷ rows_before a rows) (rows_before a rows)) (is-before a (time_of row) (early 0 row (omega arith)))
    ∙ ap (λ (rs : List Row). row ∷ rs) (all-before a rows (λ i d below. early (suc i) d (omega arith)))

-- the rows before a moment are the first ones
pub split-at : (a : ℕ) (rows : List Row) → Rise rows → rows ≡ rows_before a rows ++ rows_from a rows
split-at a [] up = refl
split-at a (row ∷ rows) up = go (cases_lt (time_of row) a) (split-at a rows (later row rows up))
  where
    R : List Row
    R = row ∷ rows

    with : Bool → Bool → List Row
    with b c = cond b (row ∷ rows_before a rows) (rows_before a rows) ++ cond c (row ∷ rows_from a rows) (rows_from a rows)

    both : (b c : Bool) → nat_lt (time_of row) a ≡ b → nat_le a (time_of row) ≡ c → with b c ≡ rows_before a R ++ rows_from a R
    both b c e f = sym (ap (λ z. with z (nat_le a (time_of row))) e ∙ ap (λ z. with b z) f)

    go : (time_of row < a) ⊎ (a ≤ time_of row) → rows ≡ rows_before a rows ++ rows_from a rows → R ≡ rows_before a R ++ rows_from a R
    go (inl lt) rest = ap (λ (rs : List Row). row ∷ rs) rest ∙ both true false (is-before a (time_of row) lt) (not-from a (time_of row) lt)
    go (inr ge) rest =
        let late : All (λ r. a ≤ time_of r) rows = λ i d below. (let le : time_of (slice_index_or R 0 d) ≤ time_of (slice_index_or R (suc i) d) = up 0 (suc i) d (omega arith) (omega arith) in omega arith) in
        ap (λ (rs : List Row). row ∷ rs) (sym (all-from a rows late))
        ∙ ap (λ (rs : List Row). rs ++ (row ∷ rows_from a rows)) (sym (none-before a rows late))
        ∙ both false true (not-before a (time_of row) ge) (is-from a (time_of row) ge)

-- rows that pass both tests
filter-twice : (p q r : Row → Bool) → ((row : Row) → r row ≡ (p row && q row)) → (rows : List Row) → filter q (filter p rows) ≡ filter r rows
filter-twice p q r both [] = refl
filter-twice p q r both (row ∷ rows) =
    go (p row) (filter-twice p q r both rows) ∙ ap (λ z. cond z (row ∷ filter r rows) (filter r rows)) (sym (both row))
  where
    go : (b : Bool) → filter q (filter p rows) ≡ filter r rows →
        filter q (cond b (row ∷ filter p rows) (filter p rows)) ≡ cond (b && q row) (row ∷ filter r rows) (filter r rows)
    go true rest = ap (λ (rs : List Row). cond (q row) (row ∷ rs) rs) rest
    go false rest = rest

-- the rows before a moment, and then those within it and a later one, are the rows before the later one
pub before-within : (a b : ℕ) (rows : List Row) → a ≤ b → Rise rows → rows_before a rows ++ rows_within a b rows ≡ rows_before b rows
before-within a b rows le up =
    ap (λ (rs : List Row). rs ++ rows_within a b rows) (sym (filter-twice (λ row. nat_lt (time_of row) a) (λ row. nat_lt (time_of row) b) (λ row. nat_lt (time_of row) a) (λ row. earlier (time_of row)) rows))
    ∙ ap (λ (rs : List Row). rows_before b (rows_before a rows) ++ rs)
    (sym (filter-twice (λ row. nat_le a (time_of row)) (λ row. nat_lt (time_of row) b) (λ row. nat_le a (time_of row) && nat_lt (time_of row) b) (λ row. refl) rows))
    ∙ sym (filter-append (λ row. nat_lt (time_of row) b) (rows_before a rows) (rows_from a rows))
    ∙ ap (rows_before b) (sym (split-at a rows up))
  where
    earlier : (t : ℕ) → nat_lt t a ≡ (nat_lt t a && nat_lt t b)
    earlier t = go (cases_lt t a)
      where
        go : (t < a) ⊎ (a ≤ t) → nat_lt t a ≡ (nat_lt t a && nat_lt t b)
        go (inl lt) = let x = is-before a t lt in let lt' : t < b = omega arith in let y = is-before b t lt' in rw (x, y) refl
        go (inr ge) = let x = not-before a t ge in rw x refl
