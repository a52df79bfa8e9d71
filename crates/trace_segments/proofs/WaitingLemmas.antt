-- The segments of each process that wait.
use Rattle.std.proofs.Common.{◌≡◌, ◌∙◌, ℕ, zero, suc, ◌+◌, ◌-◌, ◌<◌, ◌≤◌, Bool, true, false, List, [], ◌∷◌, ◌++◌, length, take, refl, sym, ap, arith, length-append, ◌&&◌, nat_lt, slice_index_or, slice_set, map, drop}
use Rattle.std.specs.List.{repeat}
use Rattle.std.proofs.Math.Seq.{take-append_seam}
use Rattle.vlink.specs.Letters.{Row}
use Rattle.trace_segments.specs.Words.{segments_at, with_segment, are_all_there, AreFew}

-- one more of the same
pub repeat-more : {X : Type 0} (x : X) (n : ℕ) → repeat n (x ∷ []) ++ x ∷ [] ≡ repeat (suc n) (x ∷ [])
repeat-more x zero = refl
repeat-more {X} x (suc n) = ap (λ (xs : List X). x ∷ xs) (repeat-more x n)

-- the segments of a process are those at its place
pub segments_at-read : (p : ℕ) (waiting : List (List (List Row))) (segments : List (List Row)) → p < length waiting → segments ≡ slice_index_or waiting p segments → segments_at p waiting ≡ segments
segments_at-read zero (first ∷ others) segments below e = sym e
segments_at-read (suc p) (first ∷ others) segments below e = segments_at-read p others segments (omega arith) e
segments_at-read p [] segments below e = absurd (omega arith)

-- the segment that was put last is taken back
without-last : {X : Type 0} (xs : List X) (x : X) → take (length (xs ++ x ∷ []) - 1) (xs ++ x ∷ []) ≡ xs
without-last {X} xs x =
    ap (λ (n : ℕ). take n (xs ++ x ∷ [])) (let long : length (xs ++ x ∷ []) ≡ length xs + 1 = length-append xs (x ∷ []) in let e : length (xs ++ x ∷ []) - 1 ≡ length xs = omega arith in e)
    ∙ take-append_seam xs (x ∷ [])

pub segment-back : (p : ℕ) (rows : List Row) (waiting : List (List (List Row))) (segments : List (List Row)) → p < length waiting → segments ≡ slice_index_or (with_segment p rows waiting) p segments →
    slice_set (with_segment p rows waiting) p (take (length segments - 1) segments) ≡ waiting
segment-back zero rows (first ∷ others) segments below e =
    ap (λ (xs : List (List Row)). xs ∷ others) (ap (λ (xs : List (List Row)). take (length xs - 1) xs) e ∙ without-last first rows)
segment-back (suc p) rows (first ∷ others) segments below e = ap (λ (xs : List (List (List Row))). first ∷ xs) (segment-back p rows others segments (omega arith) e)
segment-back p rows [] segments below e = absurd (omega arith)

-- a segment is put behind those of its process
pub put-is : (p : ℕ) (waiting : List (List (List Row))) (segments new : List (List Row)) (rows : List Row) → p < length waiting → segments ≡ slice_index_or waiting p segments →
    new ≡ segments ++ rows ∷ [] → slice_set waiting p new ≡ with_segment p rows waiting
put-is p waiting segments new rows below e put =
    ap (slice_set waiting p) (put ∙ ap (λ (xs : List (List Row)). xs ++ rows ∷ []) (sym (segments_at-read p waiting segments below e)))

-- ---- at most 1,024 segments of each process

repeated : {X : Type 0} (x : X) (n k : ℕ) (d : X) → k < length (repeat n (x ∷ [])) → slice_index_or (repeat n (x ∷ [])) k d ≡ x
repeated x zero k d below = absurd (omega arith)
repeated x (suc n) zero d below = refl
repeated x (suc n) (suc k) d below = repeated x n k d (omega arith)

pub few-none : (n : ℕ) → AreFew 0 (repeat n ([] ∷ []))
few-none n k d below = let none : length (slice_index_or (repeat n ([] ∷ [])) k d) ≡ 0 = ap length (repeated [] n k d below) in omega arith

-- with one more segment, where there was room
pub few-with : (given p : ℕ) (rows : List Row) (waiting : List (List (List Row))) → AreFew given waiting → given + length (segments_at p waiting) < 1024 →
    AreFew given (with_segment p rows waiting)
few-with given p rows [] few room k d below = few k d below
few-with given zero rows (first ∷ others) few room zero d below = let long : length (first ++ rows ∷ []) ≡ length first + 1 = length-append first (rows ∷ []) in omega arith
few-with given zero rows (first ∷ others) few room (suc k) d below = few (suc k) d below
few-with given (suc p) rows (first ∷ others) few room zero d below = few 0 d (omega arith)
few-with given (suc p) rows (first ∷ others) few room (suc k) d below = few-with given p rows others (λ j e h. few (suc j) e (omega arith)) room k d (omega arith)

-- the second of two tests that both pass
pub latter : (a b : Bool) → (a && b) ≡ true → b ≡ true
latter true b e = e
latter false b e = absurd (cc)

-- when the first segment of each process goes, and one more batch is given
pub few-left : (given : ℕ) (waiting : List (List (List Row))) → AreFew given waiting → are_all_there waiting ≡ true → AreFew (given + 1) (map (drop 1) waiting)
few-left given [] few there k d below = absurd (omega arith)
few-left given ([] ∷ others) few there k d below = absurd (cc)
few-left given ((rows ∷ segments) ∷ others) few there zero d below = let room : given + length (rows ∷ segments) ≤ 1024 = few 0 d (omega arith) in omega arith
few-left given ((rows ∷ segments) ∷ others) few there (suc k) d below = few-left given others (λ j e h. few (suc j) e (omega arith)) (latter (nat_lt 0 (length (rows ∷ segments))) (are_all_there others) there) k d (omega arith)
