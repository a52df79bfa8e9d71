-- What is counted of latencies, by the rows that tell them, and by each latency.
use Rattle.std.proofs.Common.{◌≡◌, ℕ, ◌+◌, ◌<◌, ◌≤◌, ◌==◌, Bool, true, false, cond, min, max, List, [], ◌∷◌, length, refl, sym, inl, inr, ◌⊎◌, arith, length-append, ◌&&◌, All, Contains}
use Rattle.std.specs.List.{AllByRecursion}
use Rattle.std.proofs.lemmas.Bool.{cases_lt}
use Rattle.std.proofs.lemmas.List.Elements.{All-from_recursion, Contains-append_right}
use Rattle.std.proofs.lemmas.List.Sums.{sum_by-cons}
use Rattle.vlink.specs.declared.note.Note.{Note}
use Rattle.vlink.specs.declared.note.Note.TheVariants.{Delivered, Dropped}
use Rattle.vlink.specs.Letters.{Row}
use Rattle.trace_tables.specs.Counting.{is_delivery, times_delivered}
use Rattle.trace_tables.specs.Latencies.{least_from, least_of, greatest_from, latency_in, latency_at, latencies_of}
use Rattle.trace_tables.proofs.ListLemmas.{one_if}

-- a row tells one latency, or none
length-in : (vl : ℕ) (note : Note) → length (latency_in vl note) ≡ one_if (is_delivery vl note)
length-in vl (Delivered id latency) = go (id.0 == vl)
  where
    go : (b : Bool) → length (cond b (latency ∷ []) []) ≡ one_if b
    go true = refl
    go false = refl
length-in vl (Dropped id cause size) = refl

length-at : (vl place : ℕ) (row : Row) → length (latency_at vl place row) ≡ one_if ((row.place == place) && is_delivery vl row.note)
length-at vl place row = go (row.place == place)
  where
    go : (b : Bool) → length (cond b (latency_in vl row.note) []) ≡ one_if (b && is_delivery vl row.note)
    go true = length-in vl row.note
    go false = refl

-- there are as many latencies as rows that tell one
pub latencies-counted : (vl place : ℕ) (rows : List Row) → length (latencies_of vl place rows) ≡ times_delivered vl place rows
latencies-counted vl place [] = refl
latencies-counted vl place (row ∷ rows) =
    let here : length (latency_at vl place row) ≡ one_if ((row.place == place) && is_delivery vl row.note) = length-at vl place row in
    let later : length (latencies_of vl place rows) ≡ times_delivered vl place rows = latencies-counted vl place rows in
    let both : length (latencies_of vl place (row ∷ rows)) ≡ length (latency_at vl place row) + length (latencies_of vl place rows) = length-append (latency_at vl place row) (latencies_of vl place rows) in
    let all : times_delivered vl place (row ∷ rows) ≡ one_if ((row.place == place) && is_delivery vl row.note) + times_delivered vl place rows
    = sum_by-cons (λ r. one_if ((r.place == place) && is_delivery vl r.note)) row rows in
    omega arith

least-le-first : (m : ℕ) (ls : List ℕ) → least_from m ls ≤ m
least-le-first m [] = omega arith
least-le-first m (l ∷ ls) = let le : least_from (min m l) ls ≤ min m l = least-le-first (min m l) ls in omega arith

least-le-each : (m : ℕ) (ls : List ℕ) → AllByRecursion (λ l. least_from m ls ≤ l) ls
least-le-each m [] = tt
least-le-each m (l ∷ ls) = let le : least_from (min m l) ls ≤ min m l = least-le-first (min m l) ls in (omega arith, least-le-each (min m l) ls)

-- the least is at most each
pub least-le : (ls : List ℕ) → All (λ l. least_of ls ≤ l) ls
least-le [] = All-from_recursion (λ l. least_of [] ≤ l) [] tt
least-le (l ∷ ls) = All-from_recursion (λ k. least_from l ls ≤ k) (l ∷ ls) (least-le-first l ls, least-le-each l ls)

first-le-greatest : (m : ℕ) (ls : List ℕ) → m ≤ greatest_from m ls
first-le-greatest m [] = omega arith
first-le-greatest m (l ∷ ls) = let le : max m l ≤ greatest_from (max m l) ls = first-le-greatest (max m l) ls in omega arith

each-le-greatest : (m : ℕ) (ls : List ℕ) → AllByRecursion (λ l. l ≤ greatest_from m ls) ls
each-le-greatest m [] = tt
each-le-greatest m (l ∷ ls) = let le : max m l ≤ greatest_from (max m l) ls = first-le-greatest (max m l) ls in (omega arith, each-le-greatest (max m l) ls)

-- and the greatest at least each
pub le-greatest : (ls : List ℕ) → All (λ l. l ≤ greatest_from 0 ls) ls
le-greatest ls = All-from_recursion (λ l. l ≤ greatest_from 0 ls) ls (each-le-greatest 0 ls)

-- the first of a list is in it
contains-first : (l : ℕ) (ls : List ℕ) (x : ℕ) → x ≡ l → Contains (l ∷ ls) x
contains-first l ls x e = (0, omega arith, sym e)

contains-later : (l : ℕ) (ls : List ℕ) (x : ℕ) → Contains ls x → Contains (l ∷ ls) x
contains-later l ls x h = Contains-append_right (l ∷ []) ls x h

-- the least of a number and others is that number or one of the others; and so is the greatest
least-is : (m : ℕ) (ls : List ℕ) → (least_from m ls ≡ m) ⊎ Contains ls (least_from m ls)
least-is m [] = inl refl
least-is m (l ∷ ls) = go (least-is (min m l) ls) (cases_lt m l)
  where
    go : (least_from (min m l) ls ≡ min m l) ⊎ Contains ls (least_from (min m l) ls) → (m < l) ⊎ (l ≤ m)
        → (least_from (min m l) ls ≡ m) ⊎ Contains (l ∷ ls) (least_from (min m l) ls)
    go (inl e) (inl lt) = inl (omega arith)
    go (inl e) (inr ge) = inr (contains-first l ls (least_from (min m l) ls) (omega arith))
    go (inr h) either = inr (contains-later l ls (least_from (min m l) ls) h)

greatest-is : (m : ℕ) (ls : List ℕ) → (greatest_from m ls ≡ m) ⊎ Contains ls (greatest_from m ls)
greatest-is m [] = inl refl
greatest-is m (l ∷ ls) = go (greatest-is (max m l) ls) (cases_lt m l)
  where
    go : (greatest_from (max m l) ls ≡ max m l) ⊎ Contains ls (greatest_from (max m l) ls) → (m < l) ⊎ (l ≤ m)
        → (greatest_from (max m l) ls ≡ m) ⊎ Contains (l ∷ ls) (greatest_from (max m l) ls)
    go (inl e) (inl lt) = inr (contains-first l ls (greatest_from (max m l) ls) (omega arith))
    go (inl e) (inr ge) = inl (omega arith)
    go (inr h) either = inr (contains-later l ls (greatest_from (max m l) ls) h)

-- where there is a latency, the least and the greatest are latencies
pub least-occurs : (ls : List ℕ) → 0 < length ls → Contains ls (least_of ls)
least-occurs [] some = absurd (omega arith)
least-occurs (l ∷ ls) some = go (least-is l ls)
  where
    go : (least_from l ls ≡ l) ⊎ Contains ls (least_from l ls) → Contains (l ∷ ls) (least_from l ls)
    go (inl e) = contains-first l ls (least_from l ls) e
    go (inr h) = contains-later l ls (least_from l ls) h

pub greatest-occurs : (ls : List ℕ) → 0 < length ls → Contains ls (greatest_from 0 ls)
greatest-occurs [] some = absurd (omega arith)
greatest-occurs (l ∷ ls) some = go (greatest-is (max 0 l) ls)
  where
    go : (greatest_from (max 0 l) ls ≡ max 0 l) ⊎ Contains ls (greatest_from (max 0 l) ls) → Contains (l ∷ ls) (greatest_from (max 0 l) ls)
    go (inl e) = contains-first l ls (greatest_from (max 0 l) ls) (omega arith)
    go (inr h) = contains-later l ls (greatest_from (max 0 l) ls) h
