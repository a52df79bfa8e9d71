-- A regulator releases only frames that it was offered: what holds of each that waits and of each offered one holds of each that is released.
use Rattle.std.proofs.Common.{◌≡◌, ℕ, inl, inr, Bool, true, false, cond, nat_lt, List, [], ◌∷◌, ◌++◌, length, All, Option, Some, None, refl, sym, subst}
use Rattle.std.specs.Prelude.{⊤}
use Rattle.std.proofs.lemmas.Bool.{cases_lt}
use Rattle.std.proofs.lemmas.List.{get_or_past}
use Rattle.std.proofs.lemmas.List.Elements.{All-nil, All-head, All-push, All-set, All-tail}
use Rattle.vlink.specs.declared.frame.Frame.{Frame}
use Rattle.frame_ring.specs.Queue.{Queue}
use Rattle.bag_regulator.specs.declared.event.RegEvent.{RegEvent}
use Rattle.bag_regulator.specs.declared.event.RegEvent.TheVariants.{Offer, Release}
use Rattle.bag_regulator.specs.declared.event.RegAnswer.{RegAnswer}
use Rattle.bag_regulator.specs.declared.event.RegAnswer.TheVariants.{Dropped, Nothing, Released}
use Rattle.bag_regulator.specs.Regulator.{Outcome, Regulator, admitted, appended, direct, due, idle, is_due, list_at, next_release, next_served, outcome, popped, queued, served, with_frames}
use Rattle.bag_regulator.specs.Spacing.{moment_of}

module _ (P : Frame → Type 0) where
  -- each frame that waits has P, and so has one that is offered; one that is released at t has P but for its number and that moment
  abbrev pub AllWait : Regulator → Type 0
  AllWait g = All (λ (list : Queue). All P list.frames) g.lists

  abbrev pub OfOffer : RegEvent → Type 0
  OfOffer (Offer t q frame) = P frame
  OfOffer (Release t) = ⊤

  abbrev pub OfAnswer : ℕ → RegAnswer → Type 0
  OfAnswer t (Released frame) = (f : Frame) × P f × (frame ≡ record f { number = frame.number; released = t })
  OfAnswer t _ = ⊤

  pub record Keeps (t : ℕ) (o : Outcome) : Type 0 where
    pub waiting : AllWait o.state
    pub answer : OfAnswer t o.out.answer

  in-list : (lists : List Queue) (q : ℕ) → All (λ (list : Queue). All P list.frames) lists → All P (list_at lists q).frames
  in-list lists q h = elim (cases_lt q (length lists)) [
    | inl within ↦ h q (record { frames = []; room = 0 }) within
    | inr beyond ↦ subst (λ (l : Queue). All P l.frames) (sym (get_or_past lists q (record { frames = []; room = 0 }) beyond)) (All-nil P)
  ]

  with-list : (lists : List Queue) (q : ℕ) (frames : List Frame) → All P frames → All (λ (list : Queue). All P list.frames) lists → All (λ (list : Queue). All P list.frames) (with_frames lists q frames)
  with-list lists q frames f h = All-set (λ (list : Queue). All P list.frames) lists q (record (list_at lists q) { frames = frames }) f h

  module _ (g : Regulator) (t : ℕ) (h : AllWait g) where
    queued-keeps : (q : ℕ) (frame : Frame) (ask : Option ℕ) → P frame → Keeps t (queued g q frame ask)
    queued-keeps q frame ask p = go (nat_lt (length (list_at g.lists q).frames) (list_at g.lists q).room)
      where
        go : (b : Bool) → Keeps t (cond b (appended g q frame ask) (idle g Dropped))
        go true = record { waiting = with-list g.lists q ((list_at g.lists q).frames ++ frame ∷ []) (All-push P (list_at g.lists q).frames frame (in-list g.lists q h) p) h; answer = tt }
        go false = record { waiting = h; answer = tt }

    admitted-keeps : (q : ℕ) (frame : Frame) (o : Option ℕ) → P frame → Keeps t (admitted g t q frame o)
    admitted-keeps q frame None p = go (is_due t (next_release g g.last))
      where
        go : (b : Bool) → Keeps t (cond b (direct g t q frame) (queued g q frame (next_release g g.last)))
        go true = record { waiting = h; answer = (frame, p, refl) }
        go false = queued-keeps q frame (next_release g g.last) p
    admitted-keeps q frame (Some k) p = queued-keeps q frame None p

    served-keeps : (q : ℕ) (frames : List Frame) → All P frames → Keeps t (served g t q frames)
    served-keeps q [] a = record { waiting = h; answer = tt }
    served-keeps q (frame ∷ rest) a = go (is_due t (next_release g g.last))
      where
        go : (b : Bool) → Keeps t (cond b (popped g t q frame rest) (idle g Nothing))
        go true = record { waiting = with-list g.lists q rest (All-tail P frame rest a) h; answer = (frame, All-head P frame rest a, refl) }
        go false = record { waiting = h; answer = tt }

  pub keeps : (g : Regulator) (e : RegEvent) → AllWait g → OfOffer e → Keeps (moment_of e) (outcome g e)
  keeps g (Offer t q frame) h p = go (nat_lt q (length g.lists))
    where
      go : (b : Bool) → Keeps t (cond b (admitted g t q frame (next_served g)) (idle g Dropped))
      go true = admitted-keeps g t h q frame (next_served g) p
      go false = record { waiting = h; answer = tt }
  keeps g (Release t) h p = go (next_served g)
    where
      go : (o : Option ℕ) → Keeps t (due g t o)
      go None = record { waiting = h; answer = tt }
      go (Some q) = served-keeps g t h q (list_at g.lists q).frames (in-list g.lists q h)
