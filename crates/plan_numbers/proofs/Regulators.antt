-- A regulator asks for at most two Releases for each offer.
use Rattle.std.proofs.Common.{◌≡◌, ℕ, ◌+◌, ◌<◌, ◌≤◌, ◌⊎◌, inl, inr, Bool, true, false, cond, List, [], ◌∷◌, ◌++◌, length, Option, Some, None, sum_by, refl, ap, arith, length-append}
use Rattle.std.specs.Prelude.{nat_lt}
use Rattle.std.specs.List.{AllByRecursion}
use Rattle.std.proofs.lemmas.Bool.{cases_lt}
use Rattle.std.proofs.lemmas.List.{get_or_past}
use Rattle.std.proofs.lemmas.List.Sums.{sum_by-cons, sum_by-set}
use Rattle.std.proofs.Common.{ltb-true}
use Rattle.vlink.specs.declared.frame.Frame.{Frame}
use Rattle.frame_ring.specs.Queue.{Queue}
use Rattle.bag_regulator.specs.Regulator as regulator
use Rattle.bag_regulator.specs.Regulator.{Outcome, Regulator, appended, direct, idle, is_due, list_at, next_release, next_served, outcome, queued, served, with_frames}
use Rattle.bag_regulator.specs.declared.event.RegEvent.{RegEvent}
use Rattle.bag_regulator.specs.declared.event.RegEvent.TheVariants.{Offer, Release}
use Rattle.bag_regulator.specs.declared.event.RegAnswer.TheVariants as answer

-- how many frames wait
abbrev pub waiting_in : List Queue → ℕ
waiting_in lists = sum_by (λ (l : Queue). length l.frames) lists

abbrev pub asks_one : Option ℕ → ℕ
asks_one None = 0
asks_one (Some t) = 1

one-most : (o : Option ℕ) → asks_one o ≤ 1
one-most None = omega arith
one-most (Some t) = omega arith

abbrev pub offers_one : RegEvent → ℕ
offers_one (Offer t q frame) = 2
offers_one (Release t) = 0

-- what it asks for, and what then waits, is no more than what waited, and two for an offer
abbrev IsFew : Regulator → ℕ → Outcome → Type 0
IsFew g c o = asks_one o.out.release_at + waiting_in o.state.lists ≤ waiting_in g.lists + c

set-frames : (lists : List Queue) (q : ℕ) (frames : List Frame) → q < length lists → waiting_in (with_frames lists q frames) + length (list_at lists q).frames ≡ waiting_in lists + length frames
set-frames lists q frames h = sum_by-set (λ (l : Queue). length l.frames) lists q (record (list_at lists q) { frames = frames }) (record { frames = []; room = 0 }) h

queued-few : (g : Regulator) (q : ℕ) (frame : Frame) (o : Option ℕ) → q < length g.lists → IsFew g 2 (queued g q frame o)
queued-few g q frame o h = go (nat_lt (length (list_at g.lists q).frames) (list_at g.lists q).room)
  where
    go : (b : Bool) → IsFew g 2 (cond b (appended g q frame o) (idle g answer.Dropped))
    go true =
        let a = set-frames g.lists q ((list_at g.lists q).frames ++ frame ∷ []) h in
        let b = length-append (list_at g.lists q).frames (frame ∷ []) in
        let c = one-most o in
        omega arith
    go false = omega arith

offered-few : (g : Regulator) (t q : ℕ) (frame : Frame) → IsFew g 2 (outcome g (Offer t q frame))
offered-few g t q frame = go (nat_lt q (length g.lists)) refl (next_served g)
  where
    by_due : (b : Bool) → q < length g.lists → IsFew g 2 (cond b (direct g t q frame) (queued g q frame (next_release g g.last)))
    by_due true h = omega arith
    by_due false h = queued-few g q frame (next_release g g.last) h

    go : (b : Bool) → nat_lt q (length g.lists) ≡ b → (o : Option ℕ) → IsFew g 2 (cond b (regulator.admitted g t q frame o) (idle g answer.Dropped))
    go false e o = omega arith
    go true e None = by_due (is_due t (next_release g g.last)) (ltb-true q (length g.lists) e)
    go true e (Some p) = queued-few g q frame None (ltb-true q (length g.lists) e)

released-few : (g : Regulator) (t : ℕ) → IsFew g 0 (outcome g (Release t))
released-few g t = go (next_served g)
  where
    popped : (q : ℕ) (frame : Frame) (rest : List Frame) → (list_at g.lists q).frames ≡ frame ∷ rest → IsFew g 0 (regulator.popped g t q frame rest)
    popped q frame rest e = by (cases_lt q (length g.lists))
      where
        by : (q < length g.lists) ⊎ (length g.lists ≤ q) → IsFew g 0 (regulator.popped g t q frame rest)
        by (inl h) =
            let a = set-frames g.lists q rest h in
            let b = ap length e in
            let c = one-most (regulator.popped g t q frame rest).out.release_at in
            omega arith
        by (inr h) =
            let d : Queue = record { frames = []; room = 0 } in
            let none : (list_at g.lists q).frames ≡ [] = ap (λ (l : Queue). l.frames) (get_or_past g.lists q d h) in
            absurd (let z : ⊥ = cc in z)

    by_due : (b : Bool) (q : ℕ) (frame : Frame) (rest : List Frame) → (list_at g.lists q).frames ≡ frame ∷ rest → IsFew g 0 (cond b (regulator.popped g t q frame rest) (idle g answer.Nothing))
    by_due true q frame rest e = popped q frame rest e
    by_due false q frame rest e = omega arith

    by_frames : (q : ℕ) (frames : List Frame) → (list_at g.lists q).frames ≡ frames → IsFew g 0 (served g t q frames)
    by_frames q [] e = omega arith
    by_frames q (frame ∷ rest) e = by_due (is_due t (next_release g g.last)) q frame rest e

    go : (o : Option ℕ) → IsFew g 0 (regulator.due g t o)
    go None = omega arith
    go (Some q) = by_frames q (list_at g.lists q).frames refl

pub event-few : (g : Regulator) (e : RegEvent) → IsFew g (offers_one e) (outcome g e)
event-few g (Offer t q frame) = offered-few g t q frame
event-few g (Release t) = released-few g t

pub none-waits : (lists : List Queue) → AllByRecursion (λ (l : Queue). l.frames ≡ []) lists → waiting_in lists ≡ 0
none-waits [] h = refl
none-waits (l ∷ lists) h =
    let a = sum_by-cons (λ (k : Queue). length k.frames) l lists in
    let b = ap length h.0 in
    let c = none-waits lists h.1 in
    omega arith
