-- What the round robin finds, and when nothing is found.
use Rattle.std.proofs.Common.{◌≡◌, ◌≢◌, ℕ, zero, suc, ◌+◌, ◌-◌, ◌<◌, ◌≤◌, Bool, true, false, cond, inl, inr, List, [], ◌∷◌, length, Option, None, Some, refl, sym, ap, ◌∙◌, arith, get_or-set_other}
use Rattle.std.proofs.lemmas.Bool.{cases_eq, cases_lt}
use Rattle.std.proofs.lemmas.List.{get_or_past}
use Rattle.std.specs.Option.{option_or}
use Rattle.vlink.specs.declared.frame.Frame.{Frame}
use Rattle.frame_ring.specs.Queue.{Queue}
use Rattle.bag_regulator.specs.RoundRobin.{first_from, round_robin}
use Rattle.bag_regulator.specs.Regulator.{Regulator, is_some_frame, list_at, next_served, waits, with_frames}

module _ (p : ℕ → Bool) where
  from-none : (q n : ℕ) → first_from p q n ≡ None → (k : ℕ) → q ≤ k → k < q + n → p k ≡ false
  from-none q zero h k low high = absurd (omega arith)
  from-none q (suc n) h k low high = pick (p q) refl h (λ f l. from-none (q + 1) n f k l (omega arith))
    where
      pick : (b : Bool) → p q ≡ b → cond b (Some q) (first_from p (q + 1) n) ≡ None →
          (first_from p (q + 1) n ≡ None → q + 1 ≤ k → p k ≡ false) → p k ≡ false
      pick true e f onward = cc
      pick false e f onward =
          elim (cases_eq k q) [
            | inl same ↦ ap p same ∙ e
            | inr other ↦ onward f (omega arith)
          ]

  from-some : (q n k : ℕ) → first_from p q n ≡ Some k → p k ≡ true
  from-some q zero k h = cc
  from-some q (suc n) k h = pick (p q) refl h (from-some (q + 1) n k)
    where
      pick : (b : Bool) → p q ≡ b → cond b (Some q) (first_from p (q + 1) n) ≡ Some k → (first_from p (q + 1) n ≡ Some k → p k ≡ true) → p k ≡ true
      pick true e f onward = let same : q ≡ k = cc in ap p (sym same) ∙ e
      pick false e f onward = onward f

  from-all : (q n : ℕ) → ((k : ℕ) → p k ≡ false) → first_from p q n ≡ None
  from-all q zero h = refl
  from-all q (suc n) h = ap (λ b. cond b (Some q) (first_from p (q + 1) n)) (h q) ∙ from-all (q + 1) n h

  -- where none is found none of them passes
  pub by_round_robin-none : (pointer n : ℕ) → round_robin p pointer n ≡ None → (k : ℕ) → k < n → p k ≡ false
  by_round_robin-none pointer n h k within = go (first_from p pointer (n - pointer)) refl h
    where
      go : (o : Option ℕ) → first_from p pointer (n - pointer) ≡ o → option_or o (first_from p 0 pointer) ≡ None → p k ≡ false
      go None e f =
          elim (cases_lt k pointer) [
            | inl low ↦ from-none 0 pointer f k (omega arith) (omega arith)
            | inr high ↦ from-none pointer (n - pointer) e k high (omega arith)
          ]
      go (Some q) e f = cc

  -- what is found passes
  pub by_round_robin-some : (pointer n q : ℕ) → round_robin p pointer n ≡ Some q → p q ≡ true
  by_round_robin-some pointer n q h = go (first_from p pointer (n - pointer)) refl h
    where
      go : (o : Option ℕ) → first_from p pointer (n - pointer) ≡ o → option_or o (first_from p 0 pointer) ≡ Some q → p q ≡ true
      go None e f = from-some 0 pointer q f
      go (Some k) e f = from-some pointer (n - pointer) q (e ∙ f)

  -- where none passes none is found
  pub by_round_robin-all : (pointer n : ℕ) → ((k : ℕ) → p k ≡ false) → round_robin p pointer n ≡ None
  by_round_robin-all pointer n h = ap (λ o. option_or o (first_from p 0 pointer)) (from-all pointer (n - pointer) h) ∙ from-all 0 pointer h

no-frame : (xs : List Frame) → is_some_frame xs ≡ false → xs ≡ []
no-frame [] h = refl
no-frame (x ∷ xs) h = cc

-- where no sub-virtual link is next none has a frame
pub next-none : (g : Regulator) → next_served g ≡ None → (q : ℕ) → (list_at g.lists q).frames ≡ []
next-none g h q =
    elim (cases_lt q (length g.lists)) [
      | inl within ↦ no-frame (list_at g.lists q).frames (by_round_robin-none (waits g.lists) g.pointer (length g.lists) h q within)
      | inr beyond ↦ ap (λ (l : Queue). l.frames) (get_or_past g.lists q (record { frames = []; room = 0 }) beyond)
    ]

-- where none has a frame none is next
pub next-all : (g : Regulator) → ((q : ℕ) → (list_at g.lists q).frames ≡ []) → next_served g ≡ None
next-all g h = by_round_robin-all (waits g.lists) g.pointer (length g.lists) (λ q. ap is_some_frame (h q))

-- the next one has a frame
pub next-some : (g : Regulator) (q : ℕ) → next_served g ≡ Some q → is_some_frame (list_at g.lists q).frames ≡ true
next-some g q h = by_round_robin-some (waits g.lists) g.pointer (length g.lists) q h

-- the lists of the others, where frames were put to that of q
pub with_frames-other : (lists : List Queue) (q k : ℕ) (xs : List Frame) → k ≢ q → list_at (with_frames lists q xs) k ≡ list_at lists k
with_frames-other lists q k xs h = get_or-set_other lists q k (record (list_at lists q) { frames = xs }) (record { frames = []; room = 0 }) h
