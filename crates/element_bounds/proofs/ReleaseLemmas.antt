-- Why releases are one BAG apart: a regulator releases a frame only once the next release is due.
use Rattle.std.proofs.Common.{◌≡◌, ℕ, ◌+◌, ◌-◌, ◌*◌, ◌≤◌, inl, inr, Bool, true, false, cond, nat_lt, List, [], ◌∷◌, ◌++◌, length, Option, None, Some, sym, refl, subst, arith, leb-true}
use Rattle.vlink.specs.declared.frame.Frame.{Frame}
use Rattle.bag_regulator.specs.declared.event.RegEvent.{RegEvent}
use Rattle.bag_regulator.specs.declared.event.RegEvent.TheVariants.{Offer, Release}
use Rattle.bag_regulator.specs.declared.event.RegAnswer.TheVariants.{Dropped, Nothing}
use Rattle.bag_regulator.specs.Regulator.{Outcome, Regulator, admitted, appended, direct, due, idle, is_due, list_at, next_release, next_served, outcome, popped, queued, regulator, served}
use Rattle.bag_regulator.specs.Spacing.{IsSpaced, if_released, moment_of, releases_of}
use Rattle.port_bounds.specs.Sublists.{IsSublist}
use Rattle.port_bounds.specs.Pacing.{AreBetween, IsPaced}

-- these moments are one BAG apart, the first of them also from this one, if there is one
abbrev IsSpacedFrom : ℕ → Option ℕ → List ℕ → Type 0
IsSpacedFrom bag None ts = IsSpaced bag ts
IsSpacedFrom bag (Some last) ts = IsSpaced bag (last ∷ ts)

spaced-tail : (bag a : ℕ) (ts : List ℕ) → IsSpaced bag (a ∷ ts) → IsSpaced bag ts
spaced-tail bag a [] h = tt
spaced-tail bag a (b ∷ ts) h = h.1

spaced-all : (bag : ℕ) (last : Option ℕ) (ts : List ℕ) → IsSpacedFrom bag last ts → IsSpaced bag ts
spaced-all bag None ts h = h
spaced-all bag (Some last) ts h = spaced-tail bag last ts h

-- a release that is due
spaced-due : (g : Regulator) (t : ℕ) (ts : List ℕ) → is_due t (next_release g g.last) ≡ true → IsSpacedFrom g.bag (Some t) ts → IsSpacedFrom g.bag g.last (t ∷ ts)
spaced-due g t ts d h = go g.last d
  where
    go : (last : Option ℕ) → is_due t (next_release g last) ≡ true → IsSpacedFrom g.bag last (t ∷ ts)
    go None e = h
    go (Some last) e = (leb-true (last + g.bag) t e, h)

-- the releases of an event and of later ones, where those of the later ones are one BAG apart
abbrev Goes : Regulator → ℕ → Outcome → Type 0
Goes g t o = (ts : List ℕ) → IsSpacedFrom o.state.bag o.state.last ts → IsSpacedFrom g.bag g.last (if_released o.out.answer t ++ ts)

module _ (g : Regulator) (t : ℕ) where
  queued-goes : (q : ℕ) (frame : Frame) (ask : Option ℕ) → Goes g t (queued g q frame ask)
  queued-goes q frame ask = go (nat_lt (length (list_at g.lists q).frames) (list_at g.lists q).room)
    where
      go : (b : Bool) → Goes g t (cond b (appended g q frame ask) (idle g Dropped))
      go true = λ ts h. h
      go false = λ ts h. h

  admitted-goes : (q : ℕ) (frame : Frame) (o : Option ℕ) → Goes g t (admitted g t q frame o)
  admitted-goes q frame None = go (is_due t (next_release g g.last)) refl
    where
      go : (b : Bool) → is_due t (next_release g g.last) ≡ b → Goes g t (cond b (direct g t q frame) (queued g q frame (next_release g g.last)))
      go true e = λ ts h. spaced-due g t ts e h
      go false e = queued-goes q frame (next_release g g.last)
  admitted-goes q frame (Some p) = queued-goes q frame None

  served-goes : (q : ℕ) (frames : List Frame) → Goes g t (served g t q frames)
  served-goes q [] = λ ts h. h
  served-goes q (frame ∷ rest) = go (is_due t (next_release g g.last)) refl
    where
      go : (b : Bool) → is_due t (next_release g g.last) ≡ b → Goes g t (cond b (popped g t q frame rest) (idle g Nothing))
      go true e = λ ts h. spaced-due g t ts e h
      go false e = λ ts h. h

event-goes : (g : Regulator) (e : RegEvent) → Goes g (moment_of e) (outcome g e)
event-goes g (Offer t q frame) = go (nat_lt q (length g.lists))
  where
    go : (b : Bool) → Goes g t (cond b (admitted g t q frame (next_served g)) (idle g Dropped))
    go true = admitted-goes g t q frame (next_served g)
    go false = λ ts h. h
event-goes g (Release t) = go (next_served g)
  where
    go : (o : Option ℕ) → Goes g t (due g t o)
    go None = λ ts h. h
    go (Some q) = served-goes g t q (list_at g.lists q).frames

spaced-from : (g : Regulator) (es : List RegEvent) → IsSpacedFrom g.bag g.last (releases_of g es)
spaced-from g [] = go g.last
  where
    go : (last : Option ℕ) → IsSpacedFrom g.bag last []
    go None = tt
    go (Some last) = tt
spaced-from g (e ∷ es) = event-goes g e (releases_of (regulator.after g e) es) (spaced-from (regulator.after g e) es)

-- each release is at least one BAG after the one before it
pub spaced : (g : Regulator) (es : List RegEvent) → IsSpaced g.bag (releases_of g es)
spaced g es = spaced-all g.bag g.last (releases_of g es) (spaced-from g es)

-- ---- moments that are one BAG apart are paced

-- some of them
spaced-skip : (bag a y : ℕ) (ys : List ℕ) → IsSpaced bag (a ∷ (y ∷ ys)) → IsSpaced bag (a ∷ ys)
spaced-skip bag a y [] h = tt
spaced-skip bag a y (z ∷ zs) h = (omega (arith, h.0, h.1.0), h.1.1)

spaced-some : (bag a : ℕ) (xs ys : List ℕ) → IsSublist xs ys → IsSpaced bag (a ∷ ys) → IsSpaced bag (a ∷ xs)
spaced-some bag a [] ys s h = tt
spaced-some bag a (x ∷ xs) [] s h = absurd s
spaced-some bag a (x ∷ xs) (y ∷ ys) (inl e) h = subst (λ z. IsSpaced bag (a ∷ (z ∷ xs))) (sym e.0) (h.0, spaced-some bag y xs ys e.1 h.1)
spaced-some bag a (x ∷ xs) (y ∷ ys) (inr k) h = spaced-some bag a (x ∷ xs) ys k (spaced-skip bag a y ys h)

spaced-sublist : (bag : ℕ) (xs ys : List ℕ) → IsSublist xs ys → IsSpaced bag ys → IsSpaced bag xs
spaced-sublist bag [] ys s h = tt
spaced-sublist bag (x ∷ xs) [] s h = absurd s
spaced-sublist bag (x ∷ xs) (y ∷ ys) (inl e) h = subst (λ z. IsSpaced bag (z ∷ xs)) (sym e.0) (spaced-some bag y xs ys e.1 h)
spaced-sublist bag (x ∷ xs) (y ∷ ys) (inr k) h = spaced-sublist bag (x ∷ xs) ys k (spaced-tail bag y ys h)

-- so many BAGs lie behind the first of them
spaced-long : (bag a u : ℕ) (ys : List ℕ) → IsSpaced bag (a ∷ ys) → AreBetween a u ys → length ys * bag + a ≤ u
spaced-long bag a u [] h k = omega arith
spaced-long bag a u (b ∷ ys) h k = let r = spaced-long bag b u ys h.1 k.1 in omega (arith, h.0)

few : (bag t u : ℕ) (ys : List ℕ) → IsSpaced bag ys → AreBetween t u ys → length ys * bag ≤ bag + 0 + (u - t)
few bag t u [] h k = omega arith
few bag t u (a ∷ ys) h k = let r = spaced-long bag a u ys h k.1 in omega (arith, k.0)

spaced-paced : (bag : ℕ) (moments : List ℕ) → IsSpaced bag moments → IsPaced bag 0 moments
spaced-paced bag moments h = record { bounded = λ some t u s between. few bag t u some (spaced-sublist bag some moments s h) between }

pub releases-paced : (g : Regulator) (es : List RegEvent) → IsPaced g.bag 0 (releases_of g es)
releases-paced g es = spaced-paced g.bag (releases_of g es) (spaced g es)
