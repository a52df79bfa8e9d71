-- Why a low frame waits for both bursts, at the rate that high frames leave; and why no more waits than both bursts.
use Rattle.std.proofs.Common.{◌≡◌, ℕ, ◌+◌, ◌-◌, ◌*◌, ◌≤◌, List, [], ◌∷◌, ◌++◌, Option, Some, None, arith, refl, ap, sym, ◌∙◌, mul-add}
use Rattle.std.proofs.lemmas.Nat.{mul-le}
use Rattle.port_bounds.specs.Frames.{PutFrame, IsWithin, cost_of}
use Rattle.port_bounds.specs.Port.{Port, Event, IsServed, after, highs_of, idle, low_starts, lows_of}
use Rattle.port_bounds.specs.Port.Event.{High, Low, Free}
use Rattle.port_bounds.specs.Delays.{AreLowBounded, AreLowInTime, IsBacklogBounded}
use Rattle.port_bounds.proofs.FrameLemmas.{between-ends, between-last, cost-append, none_some}
use Rattle.port_bounds.proofs.ShareLemmas.{IsPast, IsShare, share-first, share-head, share-later, share-most, share-next, share-none, share-over, share-push}

-- the arithmetic of one start: x is put at a and starts at s; since b the port has served high and low frames, gh and gl
in_time : (scale bh rh bl rl b a now gh gl cost s : ℕ) → rh + rl ≤ scale → b ≤ a → now ≤ s → s ≡ b + (gh + gl) →
    scale * gh ≤ bh + rh * (now - b) → scale * (gl + cost) ≤ bl + rl * (a - b) →
    scale * (s + cost) + rh * a ≤ scale * a + (rh * s + (bh + bl))
in_time scale bh rh bl rl b a now gh gl cost s r h l e kh kl =
    let slower : (rh + rl) * (a - b) ≤ scale * (a - b) = mul-le (rh + rl) (a - b) scale (a - b) r (omega arith) in
    let sooner : rh * (now - b) ≤ rh * (gh + gl) = mul-le rh (now - b) rh (gh + gl) (omega arith) (omega arith) in
    let whole : scale * (a - b) + scale * b ≡ scale * a = sym (mul-add scale (a - b) b) ∙ ap (λ (n : ℕ). scale * n) (omega arith) in
    let part : rh * (a - b) + rh * b ≡ rh * a = sym (mul-add rh (a - b) b) ∙ ap (λ (n : ℕ). rh * n) (omega arith) in
    let start : scale * s ≡ scale * (b + (gh + gl)) = ap (λ (n : ℕ). scale * n) e in
    let at_high : rh * s ≡ rh * (b + (gh + gl)) = ap (λ (n : ℕ). rh * n) e in
    omega arith

-- and of what waits
waits : (scale bh rh bl rl b now gh gl wh wl until : ℕ) → rh + rl ≤ scale → b ≤ now → until ≡ b + (gh + gl) → now ≤ until →
    scale * (gh + wh) ≤ bh + rh * (now - b) → scale * (gl + wl) ≤ bl + rl * (now - b) → scale * (wh + wl) ≤ bh + bl
waits scale bh rh bl rl b now gh gl wh wl until r h e l kh kl =
    let slower : (rh + rl) * (now - b) ≤ scale * (gh + gl) = mul-le (rh + rl) (now - b) scale (gh + gl) r (omega arith) in
    omega arith

-- the port has been busy since a frame was put that found it idle
pub record IsBusy (highs lows : List PutFrame) (es : List Event) (until now : ℕ) (high low : List PutFrame) : Type 0 where
  pub began : ℕ
  pub high_gone : List PutFrame
  pub low_gone : List PutFrame
  pub of_high : IsShare highs (highs_of es) began now high_gone high
  pub of_low : IsShare lows (lows_of es) began now low_gone low
  pub served : until ≡ began + (cost_of high_gone + cost_of low_gone)
  pub not_over : now ≤ until

-- nothing waits at an idle port
pub record IsIdle (highs lows : List PutFrame) (es : List Event) (high low : List PutFrame) : Type 0 where
  pub no_high : high ≡ []
  pub no_low : low ≡ []
  pub of_high : IsPast highs (highs_of es)
  pub of_low : IsPast lows (lows_of es)

abbrev pub Standing : List PutFrame → List PutFrame → List Event → ℕ → Option ℕ → List PutFrame → List PutFrame → Type 0
Standing highs lows es now None high low = IsIdle highs lows es high low
Standing highs lows es now (Some until) high low = IsBusy highs lows es until now high low

module _ (highs lows : List PutFrame) where
  abbrev pub port : Option ℕ → List PutFrame → List PutFrame → Port
  port until high low = record { until = until; high = high; low = low }

  first-high : (es : List Event) (x : PutFrame) (high low : List PutFrame) → IsIdle highs lows (High x ∷ es) high low → IsBusy highs lows es (x.at + x.cost) x.at high low
  first-high es x high low st = rw (st.no_high, st.no_low) (record {
    began = x.at;
    high_gone = x ∷ [];
    low_gone = [];
    of_high = share-first highs (highs_of es) x st.of_high;
    of_low = share-none lows (lows_of es) x.at st.of_low;
    served = omega arith;
    not_over = omega arith;
  })

  first-low : (es : List Event) (x : PutFrame) (high low : List PutFrame) → IsIdle highs lows (Low x ∷ es) high low → IsBusy highs lows es (x.at + x.cost) x.at high low
  first-low es x high low st = rw (st.no_high, st.no_low) (record {
    began = x.at;
    high_gone = [];
    low_gone = x ∷ [];
    of_high = share-none highs (highs_of es) x.at st.of_high;
    of_low = share-first lows (lows_of es) x st.of_low;
    served = omega arith;
    not_over = omega arith;
  })

  kept-high : (es : List Event) (x : PutFrame) (until now : ℕ) (high low : List PutFrame) → now ≤ x.at → x.at ≤ until → IsBusy highs lows (High x ∷ es) until now high low → IsBusy highs lows es until x.at (high ++ x ∷ []) low
  kept-high es x until now high low a b st = record {
    began = st.began;
    high_gone = st.high_gone;
    low_gone = st.low_gone;
    served = st.served;
    not_over = b;
    of_high = share-push highs (highs_of es) st.began now st.high_gone high x a st.of_high;
    of_low = share-later lows (lows_of es) st.began now x.at st.low_gone low a st.of_low;
  }

  kept-low : (es : List Event) (x : PutFrame) (until now : ℕ) (high low : List PutFrame) → now ≤ x.at → x.at ≤ until → IsBusy highs lows (Low x ∷ es) until now high low → IsBusy highs lows es until x.at high (low ++ x ∷ [])
  kept-low es x until now high low a b st = record {
    began = st.began;
    high_gone = st.high_gone;
    low_gone = st.low_gone;
    served = st.served;
    not_over = b;
    of_high = share-later highs (highs_of es) st.began now x.at st.high_gone high a st.of_high;
    of_low = share-push lows (lows_of es) st.began now st.low_gone low x a st.of_low;
  }

  next-high : (es : List Event) (t until now : ℕ) (x : PutFrame) (high low : List PutFrame) → now ≤ t → until ≡ t → IsBusy highs lows (Free t ∷ es) until now (x ∷ high) low → IsBusy highs lows es (t + x.cost) t high low
  next-high es t until now x high low a e st = record {
    began = st.began;
    high_gone = st.high_gone ++ x ∷ [];
    low_gone = st.low_gone;
    not_over = omega arith;
    served = let c = cost-append st.high_gone (x ∷ []) in let d = st.served in omega arith;
    of_high = share-next highs (highs_of es) st.began now t st.high_gone high x a st.of_high;
    of_low = share-later lows (lows_of es) st.began now t st.low_gone low a st.of_low;
  }

  next-low : (es : List Event) (t until now : ℕ) (x : PutFrame) (low : List PutFrame) → now ≤ t → until ≡ t → IsBusy highs lows (Free t ∷ es) until now [] (x ∷ low) → IsBusy highs lows es (t + x.cost) t [] low
  next-low es t until now x low a e st = record {
    began = st.began;
    high_gone = st.high_gone;
    low_gone = st.low_gone ++ x ∷ [];
    not_over = omega arith;
    served = let c = cost-append st.low_gone (x ∷ []) in let d = st.served in omega arith;
    of_high = share-later highs (highs_of es) st.began now t st.high_gone [] a st.of_high;
    of_low = share-next lows (lows_of es) st.began now t st.low_gone low x a st.of_low;
  }

  rests : (es : List Event) (t until now : ℕ) → IsBusy highs lows (Free t ∷ es) until now [] [] → IsIdle highs lows es [] []
  rests es t until now st = record { no_high = refl; no_low = refl; of_high = share-over highs (highs_of es) st.began now st.high_gone st.of_high; of_low = share-over lows (lows_of es) st.began now st.low_gone st.of_low }

  module _ (scale bh rh bl rl : ℕ) (slow : rh + rl ≤ scale) (high_within : IsWithin scale bh rh highs) (low_within : IsWithin scale bl rl lows) where
    first-in_time : (es : List Event) (x : PutFrame) (high low : List PutFrame) → IsIdle highs lows (Low x ∷ es) high low → scale * (x.at + x.cost) + rh * x.at ≤ scale * x.at + (rh * x.at + (bh + bl))
    first-in_time es x high low st =
        let k : scale * (x.cost + 0) ≤ bl + rl * (x.at - x.at) = low_within.bounded st.of_low.earlier (x ∷ []) (lows_of es) x.at x.at st.of_low.are_all (omega arith, omega arith) in
        let z : x.at - x.at ≡ 0 = omega arith in
        let k' : scale * (x.cost + 0) ≤ bl + rl * 0 = rw z at k in
        omega arith

    next-in_time : (es : List Event) (t until now : ℕ) (x : PutFrame) (low : List PutFrame) → now ≤ t → until ≡ t → IsBusy highs lows (Free t ∷ es) until now [] (x ∷ low) →
        scale * (t + x.cost) + rh * x.at ≤ scale * x.at + (rh * t + (bh + bl))
    next-in_time es t until now x low a e st =
        let ends = between-last st.began now st.low_gone x low st.of_low.since in
        let kl = share-head lows scale bl rl low_within (lows_of es) st.began now st.low_gone low x st.of_low in
        let kh : scale * (cost_of st.high_gone + 0) ≤ bh + rh * (now - st.began) = share-most highs scale bh rh high_within (highs_of es) st.began now st.high_gone [] st.of_high in
        in_time scale bh rh bl rl st.began x.at now (cost_of st.high_gone) (cost_of st.low_gone) x.cost t slow ends.0 a (sym e ∙ st.served) (omega arith) kl

    left : (now : ℕ) (until : Option ℕ) (high low : List PutFrame) → Standing highs lows [] now until high low → scale * (cost_of high + cost_of low) ≤ bh + bl
    left now None high low st = rw (st.no_high, st.no_low) (omega arith)
    left now (Some u) high low st =
        waits scale bh rh bl rl st.began now (cost_of st.high_gone) (cost_of st.low_gone) (cost_of high) (cost_of low) u slow (between-ends st.began now (st.high_gone ++ high) st.of_high.since) st.served st.not_over
        (share-most highs scale bh rh high_within [] st.began now st.high_gone high st.of_high) (share-most lows scale bl rl low_within [] st.began now st.low_gone low st.of_low)

    -- each low frame starts in time, and no more waits in the end
    are_bounded : (es : List Event) (now : ℕ) (until : Option ℕ) (high low : List PutFrame) → Standing highs lows es now until high low →
        IsServed (port until high low) now es →
        AreLowInTime scale (bh + bl) rh (low_starts (port until high low) es) × (scale * (cost_of (after (port until high low) es).high + cost_of (after (port until high low) es).low) ≤ bh + bl)
    are_bounded [] now until high low st h = (tt, left now until high low st)
    are_bounded (High x ∷ es) now None high low st h = are_bounded es x.at (Some (x.at + x.cost)) high low (first-high es x high low st) h.2
    are_bounded (High x ∷ es) now (Some u) high low st h = are_bounded es x.at (Some u) (high ++ x ∷ []) low (kept-high es x u now high low h.0 h.1 st) h.2
    are_bounded (Low x ∷ es) now None high low st h =
        let rest = are_bounded es x.at (Some (x.at + x.cost)) high low (first-low es x high low st) h.2 in
        ((first-in_time es x high low st, rest.0), rest.1)
    are_bounded (Low x ∷ es) now (Some u) high low st h = are_bounded es x.at (Some u) high (low ++ x ∷ []) (kept-low es x u now high low h.0 h.1 st) h.2
    are_bounded (Free t ∷ es) now None high low st h = absurd (none_some t h.1)
    are_bounded (Free t ∷ es) now (Some u) (x ∷ high) low st h = let e : u ≡ t = let s = h.1 in cc in are_bounded es t (Some (t + x.cost)) high low (next-high es t u now x high low h.0 e st) h.2
    are_bounded (Free t ∷ es) now (Some u) [] (x ∷ low) st h =
        let e : u ≡ t = let s = h.1 in cc in
        let rest = are_bounded es t (Some (t + x.cost)) [] low (next-low es t u now x low h.0 e st) h.2 in
        ((next-in_time es t u now x low h.0 e st, rest.0), rest.1)
    are_bounded (Free t ∷ es) now (Some u) [] [] st h = are_bounded es t None [] [] (rests es t u now st) h.2

-- of an idle port
module _ (scale bh rh bl rl : ℕ) (es : List Event) (slow : rh + rl ≤ scale) (served : IsServed idle 0 es) (high_within : IsWithin scale bh rh (highs_of es)) (low_within : IsWithin scale bl rl (lows_of es)) where
  both : AreLowInTime scale (bh + bl) rh (low_starts idle es) × (scale * (cost_of (after idle es).high + cost_of (after idle es).low) ≤ bh + bl)
  both =
      are_bounded (highs_of es) (lows_of es) scale bh rh bl rl slow high_within low_within es 0 None [] []
      (record { no_high = refl; no_low = refl; of_high = record { earlier = []; are_all = refl }; of_low = record { earlier = []; are_all = refl } }) served

pub bounded : AreLowBounded
bounded scale bh rh bl rl es slow h high_within low_within = (both scale bh rh bl rl es slow h high_within low_within).0

pub backlog : IsBacklogBounded
backlog scale bh rh bl rl es slow h high_within low_within = (both scale bh rh bl rl es slow h high_within low_within).1
