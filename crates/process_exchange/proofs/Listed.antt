-- The steps of a journal, entry by entry.
use Rattle.std.proofs.Common.{◌≡◌, ℕ, zero, suc, ◌+◌, ◌<◌, ◌≤◌, List, [], ◌∷◌, ◌++◌, length, take, drop, slice_get, Some, None, sym, ap, ◌∙◌, arith, drop-cons, length-append, append-nil, append_assoc}
use Rattle.std.proofs.lemmas.List.{take_more}
use Rattle.std.proofs.lemmas.Option.{slice_get_within, get_or_from_slice_get}
use Rattle.vlink.specs.declared.message.Message.{Message}
use Rattle.virtual_time.specs.declared.step.Step.{Step}
use Rattle.virtual_time.specs.Law.{Entry, steps_of, steps}
use Rattle.virtual_time.proofs.Journal.{steps-append}
use Rattle.process_exchange.proofs.Lists.{slice_get-first, slice_get-rest}

-- the entries from place i on
steps-drop : (es : List (Entry Message)) (i : ℕ) (e : Entry Message) → slice_get es i ≡ Some e → steps (drop i es) ≡ steps_of e.process e.deed ++ steps (drop (i + 1) es)
steps-drop es i e h =
    ap steps (drop-cons es i e (slice_get_within es i e h) ∙ (λ j. get_or_from_slice_get es i e e h j ∷ drop (let a : suc i ≡ i + 1 = omega arith in a j) es))

-- a step behind the entries before place i is one of the entry there, or stands behind it
pub step-here : (es : List (Entry Message)) (i : ℕ) (e : Entry Message) (left : ℕ) → slice_get es i ≡ Some e → left < length (steps_of {M = Message} e.process e.deed) →
    slice_get (steps (drop i es)) left ≡ slice_get (steps_of e.process e.deed) left
step-here es i e left h within = ap (λ z. slice_get z left) (steps-drop es i e h) ∙ slice_get-first (steps_of e.process e.deed) (steps (drop (i + 1) es)) left within

pub step-later : (es : List (Entry Message)) (i : ℕ) (e : Entry Message) (left rest : ℕ) → slice_get es i ≡ Some e → left ≡ length (steps_of {M = Message} e.process e.deed) + rest →
    slice_get (steps (drop i es)) left ≡ slice_get (steps (drop (i + 1) es)) rest
step-later es i e left rest h is = ap (λ z. slice_get z left) (steps-drop es i e h) ∙ slice_get-rest (steps_of e.process e.deed) (steps (drop (i + 1) es)) left rest is

-- the entries before place i, and the one there
steps-take : (es : List (Entry Message)) (i : ℕ) (e : Entry Message) → slice_get es i ≡ Some e → steps (take (i + 1) es) ≡ steps (take i es) ++ steps_of e.process e.deed
steps-take es i e h =
    ap steps (take_more es i e (slice_get_within es i e h) ∙ ap (λ z. take i es ++ z ∷ []) (get_or_from_slice_get es i e e h)) ∙
    (steps-append (take i es) (e ∷ []) ∙ ap (λ z. steps (take i es) ++ z) (append-nil (steps_of e.process e.deed)))

-- a list of the steps before place i gets those of the entry there
pub steps-more : (es : List (Entry Message)) (i : ℕ) (e : Entry Message) → slice_get es i ≡ Some e → (list more : List Step) → list ≡ steps (take i es) → more ≡ list ++ steps_of e.process e.deed →
    more ≡ steps (take (i + 1) es)
steps-more es i e h list more so-far added = added ∙ (ap (λ z. z ++ steps_of e.process e.deed) so-far ∙ sym (steps-take es i e h))

-- each entry has no more steps than the journal
pub steps-few : (es : List (Entry Message)) (i : ℕ) (e : Entry Message) → slice_get es i ≡ Some e → length (steps_of {M = Message} e.process e.deed) ≤ length (steps es)
steps-few [] i e h = absurd (cc)
steps-few (x ∷ es) zero e h =
    let same : x ≡ e = cc in
    let b = ap (λ (z : Entry Message). length (steps_of {M = Message} z.process z.deed)) same in
    let a = length-append (steps_of {M = Message} x.process x.deed) (steps es) in
    omega arith
steps-few (x ∷ es) (suc i) e h =
    let b = steps-few es i e h in
    let a = length-append (steps_of {M = Message} x.process x.deed) (steps es) in
    omega arith

-- a list that has some steps gets the next one
pub listed-more : (ss : List Step) (i : ℕ) (s : Step) (first list more : List Step) → Some s ≡ slice_get ss i → list ≡ first ++ take i ss → more ≡ list ++ s ∷ [] →
    more ≡ first ++ take (i + 1) ss
listed-more ss i s first list more at so-far pushed =
    let next : take (i + 1) ss ≡ take i ss ++ s ∷ [] =
    take_more ss i s (slice_get_within ss i s (sym at)) ∙ ap (λ z. take i ss ++ z ∷ []) (get_or_from_slice_get ss i s s (sym at)) in
    pushed ∙
    (ap (λ z. z ++ s ∷ []) so-far ∙
    (append_assoc first (take i ss) (s ∷ []) ∙ ap (λ z. first ++ z) (sym next)))

-- there is a step at each place of a list
pub some-step : (ss : List Step) (i : ℕ) → i < length ss → slice_get ss i ≡ None → ⊥
some-step [] i h e = omega arith
some-step (s ∷ ss) zero h e = cc
some-step (s ∷ ss) (suc i) h e = some-step ss i (omega arith) e
