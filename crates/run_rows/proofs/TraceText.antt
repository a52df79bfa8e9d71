-- What a sink took of the trace of a run, batch by batch.
use Rattle.std.proofs.Common.{◌≡◌, ◌∙◌, ℕ, ◌+◌, ◌≤◌, inl, inr, Bool, true, false, cond, List, [], ◌∷◌, ◌++◌, length, take, refl, sym, ap, subst, arith, ◌&&◌, nat_le, nat_lt, Option, Some, None, filter, flat_map, lt-ltb, le-ltb, append-nil, append_assoc, length-append}
use Rattle.std.specs.Io.KnownBytes.{append_known}
use Rattle.std.proofs.lemmas.Bool.{cases_lt}
use Rattle.std.proofs.lemmas.List.{take-append-le}
use Rattle.std.proofs.lemmas.List.Concat.{flat_map-append}
use Rattle.std.proofs.lemmas.List.Elements.{filter-append}
use Rattle.std.proofs.Math.Seq.{take-append_seam, take-append-add}
use Rattle.vlink.specs.Letters.{Row}
use Rattle.network.specs.Words.{Plan}
use Rattle.trace_segments.specs.Words.{rows_within, rows_before, rows_from, IsBeginning, trace_head, trace_line, trace_text, next_text}
use Rattle.trace_segments.proofs.TimeLemmas.{none-before}
use Rattle.run_rows.specs.Traces.{text_before}

-- ---- bytes that a sink took
pub known-none : (known : Option (List ℕ)) → append_known known [] ≡ known
known-none None = refl
known-none (Some ks) = ap Some (append-nil ks)

pub known-twice : (known : Option (List ℕ)) (xs ys : List ℕ) → append_known (append_known known xs) ys ≡ append_known known (xs ++ ys)
known-twice None xs ys = refl
known-twice (Some ks) xs ys = ap Some (append_assoc ks xs ys)

-- nothing is a beginning, and so is the first of two texts
pub begins-none : (known : Option (List ℕ)) (xs : List ℕ) → IsBeginning known known xs
begins-none known xs = (0, omega arith, sym (known-none known))

pub begins-first : (known : Option (List ℕ)) (xs ys : List ℕ) → IsBeginning known (append_known known xs) (xs ++ ys)
begins-first known xs ys =
    let long = length-append xs ys in (length xs, omega arith, ap (append_known known) (sym (take-append_seam xs ys)))

pub begins-whole : (known : Option (List ℕ)) (xs : List ℕ) → IsBeginning known (append_known known xs) xs
begins-whole known xs = subst (IsBeginning known (append_known known xs)) (append-nil xs) (begins-first known xs [])

-- a beginning of the first text is one of both, and so is the first and a beginning of the second
pub begins-longer : (known new : Option (List ℕ)) (xs ys : List ℕ) → IsBeginning known new xs → IsBeginning known new (xs ++ ys)
begins-longer known new xs ys b =
    let long = length-append xs ys in
    let few = b.1 in (b.0, omega arith, b.2 ∙ ap (append_known known) (sym (take-append-le b.0 xs ys b.1)))

pub begins-behind : (known new : Option (List ℕ)) (xs ys : List ℕ) → IsBeginning (append_known known xs) new ys → IsBeginning known new (xs ++ ys)
begins-behind known new xs ys b =
    let long = length-append xs ys in
    let few = b.1 in (
      length xs + b.0,
      omega arith,
      b.2 ∙ (known-twice known xs (take b.0 ys) ∙ ap (append_known known) (sym (take-append-add xs ys b.0))),
    )

-- ---- rows before moments
-- what passes both tests
filter-both : (p q r : Row → Bool) → ((x : Row) → r x ≡ (p x && q x)) → (xs : List Row) → filter q (filter p xs) ≡ filter r xs
filter-both p q r both [] = refl
filter-both p q r both (x ∷ xs) = go (p x) (filter-both p q r both xs) ∙ ap (λ b. cond b (x ∷ filter r xs) (filter r xs)) (sym (both x))
  where
    go : (b : Bool) → filter q (filter p xs) ≡ filter r xs → filter q (cond b (x ∷ filter p xs) (filter p xs)) ≡ cond (b && q x) (x ∷ filter r xs) (filter r xs)
    go true rest = ap (λ (ys : List Row). cond (q x) (x ∷ ys) ys) rest
    go false rest = rest

module _ (rows : List Row) (splits : (moment : ℕ) → rows ≡ rows_before moment rows ++ rows_from moment rows) where
  -- the rows before a moment, and those within it and a later one, are those before the later one
  pub before-more : (from to : ℕ) → from ≤ to → rows_before from rows ++ rows_within from to rows ≡ rows_before to rows
  before-more from to le =
      sym (ap (rows_before to) (splits from)
      ∙ (filter-append (λ row. nat_lt row.message.time to) (rows_before from rows) (rows_from from rows)
      ∙ (ap (λ (xs : List Row). xs ++ rows_before to (rows_from from rows))
      (filter-both (λ row. nat_lt row.message.time from) (λ row. nat_lt row.message.time to) (λ row. nat_lt row.message.time from) (λ row. earlier row.message.time) rows)
      ∙ ap (λ (xs : List Row). rows_before from rows ++ xs)
      (filter-both (λ row. nat_le from row.message.time) (λ row. nat_lt row.message.time to) (λ row. nat_le from row.message.time && nat_lt row.message.time to) (λ row. refl) rows))))
    where
      earlier : (t : ℕ) → nat_lt t from ≡ (nat_lt t from && nat_lt t to)
      earlier t = elim (cases_lt t from) [
        | inl i ↦ rw (lt-ltb t from i, lt-ltb t to (omega arith)) refl
        | inr i ↦ rw (le-ltb t from i) refl
      ]

  module _ (plan : Plan) where
    abbrev lines : List Row → List ℕ
    lines xs = flat_map (trace_line plan) xs

    text-more : (xs ys : List Row) → trace_text plan (xs ++ ys) ≡ trace_text plan xs ++ lines ys
    text-more xs ys = ap (λ (z : List ℕ). trace_head ++ z) (flat_map-append (trace_line plan) xs ys) ∙ sym (append_assoc trace_head (lines xs) (lines ys))

    -- the text of the rows before a moment is a beginning of the whole
    pub text-splits : (moment : ℕ) → trace_text plan rows ≡ trace_text plan (rows_before moment rows) ++ lines (rows_from moment rows)
    text-splits moment = ap (trace_text plan) (splits moment) ∙ text-more (rows_before moment rows) (rows_from moment rows)

    -- the text of a batch comes behind what is written, and then that of the rows before its end is
    pub text-next : (begun : Bool) (end to : ℕ) → (begun ≡ false → end ≡ 0) → end ≤ to → (batch : List Row) → batch ≡ rows_within end to rows →
        text_before plan begun end rows ++ next_text plan begun batch ≡ trace_text plan (rows_before to rows)
    text-next true end to opening le batch is =
        sym (text-more (rows_before end rows) batch)
        ∙ (ap (λ (xs : List Row). trace_text plan (rows_before end rows ++ xs)) is ∙ ap (trace_text plan) (before-more end to le))
    text-next false end to opening le batch is =
        let none : rows_before end rows ≡ [] = none-before end rows (λ i d below. let first = opening refl in omega arith) in
        ap (trace_text plan) (is ∙ (ap (λ (xs : List Row). xs ++ rows_within end to rows) (sym none) ∙ before-more end to le))
