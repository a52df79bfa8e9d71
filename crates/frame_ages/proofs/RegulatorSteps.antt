-- What a regulator makes of an event, and what it keeps.
use Rattle.std.proofs.Common.{◌≡◌, ℕ, ◌+◌, ◌%◌, ◌<◌, ◌≤◌, ◌⊎◌, inl, inr, Bool, true, false, cond, nat_le, nat_lt, List, [], ◌∷◌, ◌++◌, length, length-set, Option, Some, None, refl, sym, ap, ◌∙◌, subst, arith, leb-false, ltb-true}
use Rattle.std.specs.Prelude.{⊤}
use Rattle.std.proofs.lemmas.Bool.{both_ways, cases_eq, cases_lt}
use Rattle.std.proofs.lemmas.List.{get_or-set_same, get_or_past}
use Rattle.vlink.specs.declared.frame.Frame.{Frame}
use Rattle.frame_ring.specs.Queue.{Queue}
use Rattle.bag_regulator.specs.Regulator.{Outcome, Regulator, admitted, appended, ask, ask_of, direct, due, idle, is_due, is_some_frame, let_go, list_at, next_release, next_served, outcome, popped, queued, served, with_frames}
use Rattle.bag_regulator.specs.declared.event.RegEvent.{RegEvent}
use Rattle.bag_regulator.specs.declared.event.RegEvent.TheVariants.{Offer, Release}
use Rattle.bag_regulator.specs.declared.event.RegAnswer.{RegAnswer}
use Rattle.bag_regulator.specs.declared.event.RegAnswer.TheVariants.{Dropped, Nothing, Released}
use Rattle.bag_regulator.proofs.RoundRobinLemmas.{next-all, next-none, next-some, with_frames-other}
use Rattle.bag_regulator.proofs.SpacingLemmas.{ask-some}
use Rattle.frame_ages.proofs.RoundRobin.{next-within}

-- the frame as it is released
abbrev pub IsReleaseOf : Frame → ℕ → Frame → Type 0
IsReleaseOf was t frame = (frame.released ≡ t) × (frame.offered ≡ was.offered)

-- each frame that an answer releases has P
abbrev pub OfReleased : (Frame → Type 0) → RegAnswer → Type 0
OfReleased P (Released frame) = P frame
OfReleased P _ = ⊤

-- the frames that wait in a sub-virtual link
abbrev pub frames_at : Regulator → ℕ → List Frame
frames_at g q = (list_at g.lists q).frames

-- the first frame that waits asks for its release
abbrev pub kept_by : Option ℕ → Option ℕ → Option ℕ
kept_by None next = next
kept_by (Some k) next = None

abbrev pub kept_ask : Regulator → Option ℕ
kept_ask g = kept_by (next_served g) (next_release g g.last)

-- a frame waits there, and the others wait as before
pub with-same : (lists : List Queue) (q : ℕ) (xs : List Frame) → q < length lists → list_at (with_frames lists q xs) q ≡ record (list_at lists q) { frames = xs }
with-same lists q xs h = get_or-set_same lists q (record (list_at lists q) { frames = xs }) (record { frames = []; room = 0 }) h

pub with-rooms : (lists : List Queue) (q k : ℕ) (xs : List Frame) → q < length lists → (list_at (with_frames lists q xs) k).room ≡ (list_at lists k).room
with-rooms lists q k xs h = elim (cases_eq k q) [
  | inl e ↦ subst (λ z. (list_at (with_frames lists q xs) z).room ≡ (list_at lists z).room) (sym e) (ap (λ (l : Queue). l.room) (with-same lists q xs h))
  | inr d ↦ ap (λ (l : Queue). l.room) (with_frames-other lists q k xs d)
]

module _ (room sub bag : ℕ) where
  -- a regulator with so many lists, each for so many frames; frames wait only after a release
  pub record IsRight (g : Regulator) : Type 0 where
    pub count : length g.lists ≡ sub
    pub pointer : g.pointer ≤ sub
    pub rooms : (q : ℕ) → q < sub → (list_at g.lists q).room ≡ room
    pub bag_is : g.bag ≡ bag
    pub sound : (q : ℕ) → next_served g ≡ Some q → (l : ℕ) × (g.last ≡ Some l)

  -- an offer: nothing is kept, or the frame passes at once, or it waits; a Release: nothing is due, or the first frame of the next list leaves
  pub data Stepped (g : Regulator) (e : RegEvent) (o : Outcome) : Type 0 where
    Drops : (t q : ℕ) (frame : Frame) → e ≡ Offer t q frame → o.state ≡ g → o.out.release_at ≡ None → OfReleased (λ f. ⊥) o.out.answer → Stepped g e o
    Passes : (t q : ℕ) (frame : Frame) → e ≡ Offer t q frame → next_served g ≡ None → q < sub → o.state ≡ let_go g t q g.lists → o.out.release_at ≡ None → OfReleased (IsReleaseOf frame t) o.out.answer → Stepped g e o
    Keeps : (t q : ℕ) (frame : Frame) → e ≡ Offer t q frame → q < sub → length (frames_at g q) < room → o.state ≡ record g { lists = with_frames g.lists q (frames_at g q ++ frame ∷ []) } → o.out.release_at ≡ kept_ask g →
        ((l : ℕ) × (g.last ≡ Some l)) → OfReleased (λ f. ⊥) o.out.answer → Stepped g e o
    Rests : (t : ℕ) → e ≡ Release t → (next_served g ≡ None) ⊎ ((l : ℕ) × (g.last ≡ Some l) × (t < l + bag)) → o.state ≡ g → o.out.release_at ≡ None → OfReleased (λ f. ⊥) o.out.answer → Stepped g e o
    Pops : (t : ℕ) → e ≡ Release t → (q : ℕ) (f : Frame) (rest : List Frame) → next_served g ≡ Some q → q < sub → frames_at g q ≡ f ∷ rest → o.state ≡ let_go g t q (with_frames g.lists q rest) → o.out.release_at ≡ ask o.state →
        OfReleased (IsReleaseOf f t) o.out.answer → Stepped g e o

  module _ (g : Regulator) (R : IsRight g) where
    queued-step : (t q : ℕ) (frame : Frame) (a : Option ℕ) → q < sub → a ≡ kept_ask g → ((l : ℕ) × (g.last ≡ Some l)) → Stepped g (Offer t q frame) (queued g q frame a)
    queued-step t q frame a inside e last = go (nat_lt (length (frames_at g q)) (list_at g.lists q).room) refl
      where
        go : (b : Bool) → nat_lt (length (frames_at g q)) (list_at g.lists q).room ≡ b → Stepped g (Offer t q frame) (cond b (appended g q frame a) (idle g Dropped))
        go true less = Keeps t q frame refl inside (subst (λ k. length (frames_at g q) < k) (R.rooms q inside) (ltb-true (length (frames_at g q)) (list_at g.lists q).room less)) refl e last tt
        go false less = Drops t q frame refl refl refl tt

    offer-step : (t q : ℕ) (frame : Frame) → q < sub → Stepped g (Offer t q frame) (admitted g t q frame (next_served g))
    offer-step t q frame inside = go (next_served g) refl
      where
        go : (o : Option ℕ) → next_served g ≡ o → Stepped g (Offer t q frame) (admitted g t q frame o)
        go None none = by g.last refl
          where
            by : (last : Option ℕ) → g.last ≡ last → Stepped g (Offer t q frame) (cond (is_due t (next_release g last)) (direct g t q frame) (queued g q frame (next_release g last)))
            by None is = Passes t q frame refl none inside refl refl (refl, refl)
            by (Some l) is = on (nat_le (l + g.bag) t)
              where
                on : (b : Bool) → Stepped g (Offer t q frame) (cond b (direct g t q frame) (queued g q frame (Some (l + g.bag))))
                on true = Passes t q frame refl none inside refl refl (refl, refl)
                on false = queued-step t q frame (Some (l + g.bag)) inside (sym (ap (λ o. kept_by o (next_release g g.last)) none ∙ ap (next_release g) is)) (l, is)
        go (Some k) next = queued-step t q frame None inside (sym (ap (λ o. kept_by o (next_release g g.last)) next)) (R.sound k next)

    -- a list with a frame is one of the regulator's
    inside-list : (q : ℕ) (f : Frame) (rest : List Frame) → frames_at g q ≡ f ∷ rest → q < sub
    inside-list q f rest are = elim (cases_lt q (length g.lists)) [
      | inl within ↦ (let c = R.count in omega arith)
      | inr beyond ↦ absurd (let none : frames_at g q ≡ [] = ap (λ (l : Queue). l.frames) (get_or_past g.lists q (record { frames = []; room = 0 }) beyond) in let z : ⊥ = cc in z)
    ]

    release-step : (t : ℕ) → Stepped g (Release t) (due g t (next_served g))
    release-step t = go (next_served g) refl
      where
        go : (o : Option ℕ) → next_served g ≡ o → Stepped g (Release t) (due g t o)
        go None none = Rests t refl (inl none) refl refl tt
        go (Some q) next = frames (frames_at g q) refl
          where
            frames : (fs : List Frame) → frames_at g q ≡ fs → Stepped g (Release t) (served g t q fs)
            frames [] none = absurd (both_ways _ (ap is_some_frame none) (next-some g q next))
            frames (f ∷ rest) are = by g.last refl
              where
                within : q < sub
                within = inside-list q f rest are

                by : (last : Option ℕ) → g.last ≡ last → Stepped g (Release t) (cond (is_due t (next_release g last)) (popped g t q f rest) (idle g Nothing))
                by None is = Pops t refl q f rest next within are refl refl (refl, refl)
                by (Some l) is = on (nat_le (l + g.bag) t) refl
                  where
                    on : (b : Bool) → nat_le (l + g.bag) t ≡ b → Stepped g (Release t) (cond b (popped g t q f rest) (idle g Nothing))
                    on true e = Pops t refl q f rest next within are refl refl (refl, refl)
                    on false e = Rests t refl (inr (l, is, let late = leb-false (l + g.bag) t e in let b = R.bag_is in omega arith)) refl refl tt

    pub step : (e : RegEvent) → Stepped g e (outcome g e)
    step (Release t) = release-step t
    step (Offer t q frame) = go (nat_lt q (length g.lists)) refl
      where
        go : (b : Bool) → nat_lt q (length g.lists) ≡ b → Stepped g (Offer t q frame) (cond b (admitted g t q frame (next_served g)) (idle g Dropped))
        go true e = offer-step t q frame (let h = ltb-true q (length g.lists) e in let c = R.count in omega arith)
        go false e = Drops t q frame refl refl refl tt

    -- ---- what it keeps

    passed-right : (t q : ℕ) → q < sub → IsRight (let_go g t q g.lists)
    passed-right t q h = record { count = R.count; pointer = subst (λ n. (q + 1) % n ≤ sub) (sym R.count) (next-within sub q h); rooms = R.rooms; bag_is = R.bag_is; sound = λ k e. (t, refl) }

    kept-right : (q : ℕ) (xs : List Frame) → q < sub → ((l : ℕ) × (g.last ≡ Some l)) → IsRight (record g { lists = with_frames g.lists q xs })
    kept-right q xs h last = record {
      count = length-set g.lists q (record (list_at g.lists q) { frames = xs }) ∙ R.count;
      pointer = R.pointer;
      rooms = λ k i. with-rooms g.lists q k xs (let c = R.count in omega arith) ∙ R.rooms k i;
      bag_is = R.bag_is;
      sound = λ k e. last;
    }

    popped-right : (t q : ℕ) (xs : List Frame) → q < sub → IsRight (let_go g t q (with_frames g.lists q xs))
    popped-right t q xs h = record {
      count = length-set g.lists q (record (list_at g.lists q) { frames = xs }) ∙ R.count;
      pointer = subst (λ n. (q + 1) % n ≤ sub) (sym R.count) (next-within sub q h);
      rooms = λ k i. with-rooms g.lists q k xs (let c = R.count in omega arith) ∙ R.rooms k i;
      bag_is = R.bag_is;
      sound = λ k e. (t, refl);
    }

    pub right-stays : (e : RegEvent) → IsRight (outcome g e).state
    right-stays e = go (step e)
      where
        go : Stepped g e (outcome g e) → IsRight (outcome g e).state
        go (Drops t q frame is state asks none) = subst IsRight (sym state) R
        go (Passes t q frame is empty inside state asks released) = subst IsRight (sym state) (passed-right t q inside)
        go (Keeps t q frame is inside few state asks last none) = subst IsRight (sym state) (kept-right q (frames_at g q ++ frame ∷ []) inside last)
        go (Rests t is why state asks none) = subst IsRight (sym state) R
        go (Pops t is q f rest next inside are state asks released) = subst IsRight (sym state) (popped-right t q rest inside)

    -- ---- when it asks

    pub ask-none : next_served g ≡ None → ask g ≡ None
    ask-none e = ap (λ o. ask_of o (next_release g g.last)) e

    pub ask-next : (q l : ℕ) → next_served g ≡ Some q → g.last ≡ Some l → ask g ≡ Some (l + bag)
    ask-next q l e is = ap (λ o. ask_of o (next_release g g.last)) e ∙ (ap (next_release g) is ∙ ap (λ b. Some (l + b)) R.bag_is)

    -- where all lists were empty they still are
    pub passed-ask : (t q : ℕ) → next_served g ≡ None → ask (let_go g t q g.lists) ≡ None
    passed-ask t q none = ap (λ o. ask_of o (Some (t + g.bag))) (next-all (let_go g t q g.lists) (next-none g none))

    -- where a frame waits now it asks as the one before
    pub kept-asks : (q : ℕ) (xs : List Frame) → q < sub → is_some_frame xs ≡ true → ask (record g { lists = with_frames g.lists q xs }) ≡ next_release g g.last
    kept-asks q xs h some =
        ask-some (record g { lists = with_frames g.lists q xs }) q (ap (λ (l : Queue). is_some_frame l.frames) (with-same g.lists q xs (let c = R.count in omega arith)) ∙ some) (next_release g g.last)
