-- Why a high frame waits for its burst and one low frame.
use Rattle.std.proofs.Common.{◌≡◌, ℕ, ◌+◌, ◌-◌, ◌*◌, ◌≤◌, List, [], ◌∷◌, ◌++◌, Option, Some, None, arith, refl, ap, sym, ◌∙◌, mul-add}
use Rattle.std.proofs.lemmas.Nat.{mul-le}
use Rattle.port_bounds.specs.Frames.{PutFrame, IsWithin, cost_of}
use Rattle.port_bounds.specs.Port.{Port, Event, IsServed, high_starts, highs_of, lows_of}
use Rattle.port_bounds.specs.Port.Event.{High, Low, Free}
use Rattle.port_bounds.specs.Delays.{AreHighBounded, AreHighInTime, AreAtMost}
use Rattle.port_bounds.proofs.FrameLemmas.{between-last, cost-append, cons_none, none_some}
use Rattle.port_bounds.proofs.SublistLemmas.{every-push}
use Rattle.port_bounds.proofs.ShareLemmas.{IsPast, IsShare, share-first, share-head, share-later, share-next, share-none, share-over, share-push}

-- the arithmetic of one start: x is put at a and starts at s, and since b at most one low frame and those that are gone were served
in_time : (scale burst rate most b a gone cost s : ℕ) → rate ≤ scale → b ≤ a → s ≤ (b + most) + gone → scale * (gone + cost) ≤ burst + rate * (a - b) →
    scale * (s + cost) ≤ scale * a + (burst + scale * most)
in_time scale burst rate most b a gone cost s r h e k =
    let slower : rate * (a - b) ≤ scale * (a - b) = mul-le rate (a - b) scale (a - b) r (omega arith) in
    let whole : scale * (a - b) + scale * b ≡ scale * a = sym (mul-add scale (a - b) b) ∙ ap (λ (n : ℕ). scale * n) (omega arith) in
    let start : scale * s ≤ scale * ((b + most) + gone) = mul-le scale s scale ((b + most) + gone) (omega arith) e in
    omega arith

-- high frames have waited or been served since one was put that found none; before it at most one low frame was in transmission
pub record IsPeriod (all : List PutFrame) (most : ℕ) (rest : List PutFrame) (until now : ℕ) (high : List PutFrame) : Type 0 where
  pub began : ℕ
  pub gone : List PutFrame
  pub share : IsShare all rest began now gone high
  pub served : until ≤ (began + most) + cost_of gone

-- no high frame waits, and a low one may be in transmission
pub record IsQuiet (all : List PutFrame) (most : ℕ) (rest : List PutFrame) (until now : ℕ) : Type 0 where
  pub past : IsPast all rest
  pub soon : until ≤ now + most

pub data Busy (all : List PutFrame) (most : ℕ) (rest : List PutFrame) (until now : ℕ) (high : List PutFrame) : Type 0 where
  Period : IsPeriod all most rest until now high → Busy all most rest until now high
  Quiet : high ≡ [] → IsQuiet all most rest until now → Busy all most rest until now high

abbrev pub Standing : List PutFrame → ℕ → List Event → ℕ → Option ℕ → List PutFrame → List PutFrame → Type 0
Standing all most es now None high low = (high ≡ []) × (low ≡ []) × IsPast all (highs_of es)
Standing all most es now (Some until) high low = Busy all most (highs_of es) until now high

module _ (scale burst rate most : ℕ) (slow : rate ≤ scale) (all : List PutFrame) (within : IsWithin scale burst rate all) where
  abbrev pub port : Option ℕ → List PutFrame → List PutFrame → Port
  port until high low = record { until = until; high = high; low = low }

  -- a high frame that finds the port idle
  first : (rest : List PutFrame) (x : PutFrame) → IsPast all (x ∷ rest) → IsPeriod all most rest (x.at + x.cost) x.at []
  first rest x st = record { began = x.at; gone = x ∷ []; share = share-first all rest x st; served = omega arith }

  first-in_time : (rest : List PutFrame) (x : PutFrame) → IsPast all (x ∷ rest) → scale * (x.at + x.cost) ≤ scale * x.at + (burst + scale * most)
  first-in_time rest x st =
      let k = share-head all scale burst rate within rest x.at x.at [] [] x (share-push all rest x.at x.at [] [] x (omega arith) (share-none all (x ∷ rest) x.at st)) in
      in_time scale burst rate most x.at x.at 0 x.cost x.at slow (omega arith) (omega arith) k

  -- a high frame that waits
  kept : (rest : List PutFrame) (x : PutFrame) (until now : ℕ) (high : List PutFrame) → now ≤ x.at →
      Busy all most (x ∷ rest) until now high → Busy all most rest until x.at (high ++ x ∷ [])
  kept rest x until now high a (Period st) = Period (record { began = st.began; gone = st.gone; share = share-push all rest st.began now st.gone high x a st.share; served = st.served })
  kept rest x until now high a (Quiet none st) = rw none (Period (record {
    began = x.at;
    gone = [];
    share = share-push all rest x.at x.at [] [] x (omega arith) (share-none all (x ∷ rest) x.at st.past);
    served = let s = st.soon in omega arith;
  }))

  -- time goes on
  later : (rest : List PutFrame) (until now t : ℕ) (high : List PutFrame) → now ≤ t → Busy all most rest until now high → Busy all most rest until t high
  later rest until now t high a (Period st) = Period (record { began = st.began; gone = st.gone; share = share-later all rest st.began now t st.gone high a st.share; served = st.served })
  later rest until now t high a (Quiet none st) = Quiet none (record { past = st.past; soon = let s = st.soon in omega arith })

  -- no high frame is there
  rests : (rest : List PutFrame) (until now : ℕ) → Busy all most rest until now [] → IsPast all rest
  rests rest until now (Period st) = share-over all rest st.began now st.gone st.share
  rests rest until now (Quiet none st) = st.past

  -- the first high frame that waits starts
  next : (rest : List PutFrame) (t until now : ℕ) (x : PutFrame) (high : List PutFrame) → now ≤ t → until ≡ t →
      Busy all most rest until now (x ∷ high) → Busy all most rest (t + x.cost) t high
  next rest t until now x high a e (Quiet none st) = absurd (cons_none x high none)
  next rest t until now x high a e (Period st) = Period (record {
    began = st.began;
    gone = st.gone ++ x ∷ [];
    share = share-next all rest st.began now t st.gone high x a st.share;
    served = let c = cost-append st.gone (x ∷ []) in let d = st.served in omega arith;
  })

  next-in_time : (rest : List PutFrame) (t until now : ℕ) (x : PutFrame) (high : List PutFrame) → until ≡ t →
      Busy all most rest until now (x ∷ high) → scale * (t + x.cost) ≤ scale * x.at + (burst + scale * most)
  next-in_time rest t until now x high e (Quiet none st) = absurd (cons_none x high none)
  next-in_time rest t until now x high e (Period st) =
      let ends = between-last st.began now st.gone x high st.share.since in
      let k = share-head all scale burst rate within rest st.began now st.gone high x st.share in
      in_time scale burst rate most st.began x.at (cost_of st.gone) x.cost t slow ends.0 (let d = st.served in omega arith) k

  quiet : (rest : List PutFrame) (t : ℕ) (x : PutFrame) → x.cost ≤ most → IsPast all rest → Busy all most rest (t + x.cost) t []
  quiet rest t x c st = Quiet refl (record { past = st; soon = omega arith })

  -- each high frame starts in time, where no low frame that waits or will be put costs more than `most`
  are_in_time : (es : List Event) (now : ℕ) (until : Option ℕ) (high low : List PutFrame) → Standing all most es now until high low →
      AreAtMost most low → AreAtMost most (lows_of es) → IsServed (port until high low) now es → AreHighInTime scale (burst + scale * most) (high_starts (port until high low) es)
  are_in_time [] now until high low st c d h = tt
  are_in_time (High x ∷ es) now None [] low st c d h = (first-in_time (highs_of es) x st.2, are_in_time es x.at (Some (x.at + x.cost)) [] low (Period (first (highs_of es) x st.2)) c d h.2)
  are_in_time (High x ∷ es) now None (y ∷ ys) low st c d h = absurd (cons_none y ys st.0)
  are_in_time (High x ∷ es) now (Some u) high low st c d h = are_in_time es x.at (Some u) (high ++ x ∷ []) low (kept (highs_of es) x u now high h.0 st) c d h.2
  are_in_time (Low x ∷ es) now None [] low st c d h = are_in_time es x.at (Some (x.at + x.cost)) [] low (quiet (highs_of es) x.at x d.0 st.2) c d.1 h.2
  are_in_time (Low x ∷ es) now None (y ∷ ys) low st c d h = absurd (cons_none y ys st.0)
  are_in_time (Low x ∷ es) now (Some u) high low st c d h = are_in_time es x.at (Some u) high (low ++ x ∷ []) (later (highs_of es) u now x.at high h.0 st) (every-push (λ y. y.cost ≤ most) low x c d.0) d.1 h.2
  are_in_time (Free t ∷ es) now None high low st c d h = absurd (none_some t h.1)
  are_in_time (Free t ∷ es) now (Some u) (x ∷ high) low st c d h =
      let e : u ≡ t = let s = h.1 in cc in
      (next-in_time (highs_of es) t u now x high e st, are_in_time es t (Some (t + x.cost)) high low (next (highs_of es) t u now x high h.0 e st) c d h.2)
  are_in_time (Free t ∷ es) now (Some u) [] (x ∷ low) st c d h = are_in_time es t (Some (t + x.cost)) [] low (quiet (highs_of es) t x c.0 (rests (highs_of es) u now st)) c.1 d h.2
  are_in_time (Free t ∷ es) now (Some u) [] [] st c d h = are_in_time es t None [] [] (refl, refl, rests (highs_of es) u now st) tt d h.2

-- at first all high frames are still to be put
pub bounded : AreHighBounded
bounded scale burst rate most es slow h within at_most =
    are_in_time scale burst rate most slow (highs_of es) within es 0 None [] [] (refl, refl, record { earlier = []; are_all = refl }) tt at_most h
