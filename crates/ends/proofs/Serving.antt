-- A round in which GVT stays and the rank does not fall cannot be: each process that has its turn would have nothing of the moment of GVT left.
use Rattle.std.proofs.Common.{◌≡◌, ℕ, zero, suc, ◌+◌, ◌<◌, ◌≤◌, inl, inr, Bool, true, false, cond, List, [], ◌∷◌, ◌++◌, map, Option, Some, None, is_some, refl, ap, sym, ◌∙◌, subst, arith, append_assoc, append-nil, lt-ltb, le-ltb}
use Rattle.std.proofs.lemmas.Bool.{cases_lt, cases_eq, both_ways, and_from}
use Rattle.virtual_time.specs.Law.{IsIn, times_in, pluses, minuses, lowest, unhandled, one_if, Part, next_of, floor_of, run_one, Simulation, Laws, World, is_enabled, effect, step, run, gvt_over}
use Rattle.virtual_time.specs.declared.step.Step.{Step}
use Rattle.virtual_time.specs.declared.step.Step.TheVariants.{Run}
use Rattle.virtual_time.proofs.Order.{not_less-time}
use Rattle.virtual_time.proofs.Least.{least-none, least-some}
use Rattle.virtual_time.proofs.Lowest.{lowest-letters, lowest-messages}
use Rattle.virtual_time.proofs.Presence.{unhandled-is}
use Rattle.virtual_time.proofs.Reading.{next-is}
use Rattle.virtual_time.proofs.Journal.{put_here}
use Rattle.virtual_time.proofs.Kept.{IsKept}
use Rattle.virtual_time.proofs.KeptRun.{run-kept, run-append}
use Rattle.virtual_time.proofs.Groups.{step-does}
use Rattle.ends.specs.Left.{letters_at, messages_at, ways_left, unhandled_left, floor_left, rank_at}
use Rattle.ends.specs.Rounds.{IsCleared, HandlesFirst, IsTurn, Turn, steps_in, AreTurns, has_turn, IsRound}
use Rattle.ends.proofs.Counts.{none-of, messages-none, none-messages}
use Rattle.ends.proofs.Parts.{run-less}
use Rattle.ends.proofs.Steps.{IsSame}
use Rattle.ends.proofs.Falls.{unmoved, still-before, run-gvt}

module _ {M S K N : Type 0} (f : Simulation M S K N) (L : Laws f) where
  -- where the next message is later than g, none of g is unhandled
  none-open : (g : ℕ) (part : Part M S) → ((m : M) → next_of f.rules.order part ≡ Some m → g < f.rules.order.time m) →
      messages_at f.rules.order g (unhandled f.rules.order part.tally part.done) ≡ 0
  none-open g part h = none-messages f.rules.order L.order g (unhandled f.rules.order part.tally part.done) (λ y i e. go (next_of f.rules.order part) refl y i e)
    where
      go : (o : Option M) → next_of f.rules.order part ≡ o → (y : M) → IsIn f.rules.order y (unhandled f.rules.order part.tally part.done) → f.rules.order.time y ≡ g → ⊥
      go None d y i e = let a = ap (times_in f.rules.order y) (least-none f.rules.order L.order (unhandled f.rules.order part.tally part.done) d) in omega arith
      go (Some m) d y i e =
          let l = least-some f.rules.order L.order (unhandled f.rules.order part.tally part.done) m d in
          let a = not_less-time f.rules.order L.order y m (l.lowest y i) in
          let b = h m d in
          omega arith

  -- what is cleared has no letter of the moment on its way
  cleared-ways : (g : ℕ) (v : World M S) (p : ℕ) → IsCleared f v p → ways_left f g v p ≡ 0
  cleared-ways g v p c =
      let a = ap (letters_at f.rules.order g) c.mail in
      let b = ap (letters_at f.rules.order g) c.tray in
      let d = ap (letters_at f.rules.order g) c.outbox in
      omega arith

  -- nor, if no message of the moment is unhandled, a floor there
  cleared-floor : (g : ℕ) (v : World M S) → IsKept f L v → v.gvt ≡ g → g ≤ f.until → (p : ℕ) → p < f.processes → IsCleared f v p → unhandled_left f g v p ≡ 0 → floor_left f g v p ≡ 0
  cleared-floor g v k t u p i c z =
      let s = k.sound p i in
      let low : suc g ≤ floor_of f.rules.order f.until (v.parts p) =
      lowest-letters f.rules.order L.order (suc g) (lowest (suc f.until) (map f.rules.order.time (unhandled f.rules.order (v.parts p).tally (v.parts p).done))) (v.parts p).tray
      (lowest-messages f.rules.order L.order (suc g) (suc f.until) (unhandled f.rules.order (v.parts p).tally (v.parts p).done) (omega arith)
      (λ m j.
      let a = unhandled-is f.rules.order L.order (v.parts p).tally (v.parts p).done m j in
      let b = s.unhandled_late m a.0 a.1 in
      let d = s.low in
      elim (cases_eq (f.rules.order.time m) g) [
        | inl e ↦ absurd (messages-none f.rules.order L.order g (unhandled f.rules.order (v.parts p).tally (v.parts p).done) z m j e)
        | inr e ↦ elim (cases_lt g (f.rules.order.time m)) [ inl h ↦ h | inr h ↦ absurd (e (omega arith)) ]
      ]))
      (λ m j. absurd (let a = ap (λ ls. pluses f.rules.order m ls + minuses f.rules.order m ls) c.tray in omega arith)) in
      let e = c.floor in
      ap one_if (le-ltb (v.floors p) (suc g) (omega arith))

  -- a message of the moment that is handled is one less
  handling-less : (g : ℕ) (w : World M S) → IsKept f L w → w.gvt ≡ g → (q : ℕ) → q < f.processes → (m : M) → next_of f.rules.order (w.parts q) ≡ Some m → f.rules.order.time m ≡ g →
      unhandled_left f g (step f (Run q) w) q < unhandled_left f g w q
  unfolding is_enabled effect
  handling-less g w k e q i m d t =
      let can : is_enabled f (Run q) w ≡ true = and_from _ _ (lt-ltb q f.processes i) (ap is_some d) in
      let is = step-does f (λ x. true) (Run q) w can in
      let part = ap (λ z. z.parts q) is ∙ put_here q (run_one f.rules (w.parts q)) w.parts in
      subst (λ (z : Part M S). messages_at f.rules.order g (unhandled f.rules.order z.tally z.done) < unhandled_left f g w q) (sym part)
      (subst (λ x. messages_at f.rules.order x (unhandled f.rules.order (run_one f.rules (w.parts q)).tally (run_one f.rules (w.parts q)).done) < unhandled_left f x w q) e
      (run-less f L w.gvt (w.floors q) q i (w.parts q) (k.sound q i) m d (t ∙ sym e)))

  -- nothing of the moment g is left at process p
  pub record IsClear (g : ℕ) (w : World M S) (p : ℕ) : Type 0 where
    pub ways : ways_left f g w p ≡ 0
    pub waiting : unhandled_left f g w p ≡ 0
    pub floor : floor_left f g w p ≡ 0

  pub run-push : (xs : List Step) (x : Step) (w : World M S) → run f (xs ++ x ∷ []) w ≡ step f x (run f xs w)
  unfolding run
  run-push xs x w = run-append f L xs (x ∷ []) w

  -- steps are done, then a turn, then others
  module _ (w : World M S) (k : IsKept f L w) (u : w.gvt ≤ f.until) (before turn rest : List Step)
      (still : (run f (before ++ (turn ++ rest)) w).gvt ≡ w.gvt) (stays : rank_at f w.gvt w ≤ rank_at f w.gvt (run f (before ++ (turn ++ rest)) w)) where
    split-at : (xs ys : List Step) → turn ≡ xs ++ ys → before ++ (turn ++ rest) ≡ (before ++ xs) ++ (ys ++ rest)
    split-at xs ys e = ap (λ z. before ++ (z ++ rest)) e ∙ (ap (λ z. before ++ z) (append_assoc xs ys rest) ∙ sym (append_assoc before xs (ys ++ rest)))

    same-up_to : (xs ys : List Step) → turn ≡ xs ++ ys → IsSame f L w.gvt w (run f xs (run f before w))
    same-up_to xs ys e =
        subst (λ z. IsSame f L w.gvt w z) (run-append f L before xs w)
        (unmoved f L (before ++ xs) (ys ++ rest) w k u (subst (λ zs. (run f zs w).gvt ≡ w.gvt) (split-at xs ys e) still)
        (subst (λ zs. rank_at f w.gvt w ≤ rank_at f w.gvt (run f zs w)) (split-at xs ys e) stays))

    still-at : (xs ys : List Step) → turn ≡ xs ++ ys → (run f xs (run f before w)).gvt ≡ w.gvt
    still-at xs ys e =
        subst (λ z. z.gvt ≡ w.gvt) (run-append f L before xs w)
        (still-before f L (before ++ xs) (ys ++ rest) w k (subst (λ zs. (run f zs w).gvt ≡ w.gvt) (split-at xs ys e) still))

    kept-at : (xs : List Step) → IsKept f L (run f xs (run f before w))
    kept-at xs = run-kept f L xs (run f before w) (run-kept f L before w k)

    pub clears : (ours : ℕ → Bool) → IsTurn f ours turn (run f before w) → (p : ℕ) → p < f.processes → ours p ≡ true → IsClear w.gvt w p
    clears ours t p i o = record {
      ways = sym (ends.ways p i) ∙ cleared-ways w.gvt (run f turn (run f before w)) p (t.cleared p o);
      waiting = none;
      floor =
          sym (ends.floors p i)
          ∙ cleared-floor w.gvt (run f turn (run f before w)) (kept-at turn) (still-at turn [] (sym (append-nil turn))) u p i (t.cleared p o) (ends.waiting p i ∙ none);
    }
      where
        ends : IsSame f L w.gvt w (run f turn (run f before w))
        ends = same-up_to turn [] (sym (append-nil turn))

        by-first : HandlesFirst f ours turn (run f before w) → unhandled_left f w.gvt w p ≡ 0
        by-first h = sym ((same-up_to h.front (Run h.process ∷ h.rest) h.split).waiting p i) ∙ later
          where
            b : World M S
            b = run f h.front (run f before w)

            b-gvt : (run f h.front (run f before w)).gvt ≡ w.gvt
            b-gvt = still-at h.front (Run h.process ∷ h.rest) h.split

            not-there : f.rules.order.time h.message ≡ w.gvt → ⊥
            not-there e =
                let less = handling-less w.gvt (run f h.front (run f before w)) (kept-at h.front) b-gvt h.process h.inside h.message h.is_next e in
                let was = (same-up_to h.front (Run h.process ∷ h.rest) h.split).waiting h.process h.inside in
                let now = (same-up_to (h.front ++ Run h.process ∷ []) h.rest (h.split ∙ sym (append_assoc h.front (Run h.process ∷ []) h.rest))).waiting h.process h.inside in
                let same = ap (λ z. unhandled_left f w.gvt z h.process) (run-push h.front (Run h.process) (run f before w)) in
                omega arith

            late : w.gvt < f.rules.order.time h.message
            late =
                let n = next-is f.rules L.order (b.parts h.process) h.message h.is_next in
                let s = (kept-at h.front).sound h.process h.inside in
                let a = s.unhandled_late h.message n.present n.not_done in
                let c = s.low in
                let d = b-gvt in
                elim (cases_lt w.gvt (f.rules.order.time h.message)) [ inl x ↦ x | inr x ↦ absurd (not-there (omega arith)) ]

            later : unhandled_left f w.gvt (run f h.front (run f before w)) p ≡ 0
            later = none-open w.gvt ((run f h.front (run f before w)).parts p)
                (λ m e. let a = not_less-time f.rules.order L.order m h.message (h.first p o m e) in let c = late in omega arith)

        none : unhandled_left f w.gvt w p ≡ 0
        none = elim t.handled [
          | inl h ↦ by-first h
          | inr h ↦ sym (ends.waiting p i) ∙ none-open w.gvt ((run f turn (run f before w)).parts p)
              (λ m e. let a = h p o m e in let c = still-before f L before (turn ++ rest) w k still in omega arith)
        ]

  -- turns one after another, behind what was done before
  clears-all : (w : World M S) (k : IsKept f L w) (u : w.gvt ≤ f.until) (before : List Step) (ts : List Turn) →
      (run f (before ++ steps_in ts) w).gvt ≡ w.gvt → rank_at f w.gvt w ≤ rank_at f w.gvt (run f (before ++ steps_in ts) w) →
      AreTurns f ts (run f before w) → (p : ℕ) → p < f.processes → has_turn ts p ≡ true → IsClear w.gvt w p
  clears-all w k u before [] still stays a p i h = absurd (both_ways false refl h)
  clears-all w k u before (t ∷ ts) still stays a p i h =
      let c : before ++ (t.steps ++ steps_in ts) ≡ (before ++ t.steps) ++ steps_in ts = sym (append_assoc before t.steps (steps_in ts)) in
      go (t.ours p) refl h
      (clears-all w k u (before ++ t.steps) ts (subst (λ zs. (run f zs w).gvt ≡ w.gvt) c still) (subst (λ zs. rank_at f w.gvt w ≤ rank_at f w.gvt (run f zs w)) c stays)
      (subst (λ z. AreTurns f ts z) (sym (run-append f L before t.steps w)) a.1) p i)
    where
      go : (b : Bool) → t.ours p ≡ b → cond b true (has_turn ts p) ≡ true → (has_turn ts p ≡ true → IsClear w.gvt w p) → IsClear w.gvt w p
      go true e x next = clears w k u before t.steps (steps_in ts) still stays t.ours a.0 p i e
      go false e x next = next x

  -- where nothing of the moment is left, all floors and letters are later
  gvt-above : (w : World M S) → IsKept f L w → w.gvt ≤ f.until → ((p : ℕ) → p < f.processes → IsClear w.gvt w p) → (n : ℕ) → n ≤ f.processes → w.gvt < gvt_over f n w
  gvt-above w k u c zero h = omega arith
  gvt-above w k u c (suc n) h =
      let a = gvt-above w k u c n (omega arith) in
      let d = c n (omega arith) in
      let ways = d.ways in
      let low : suc w.gvt ≤ w.floors n = elim (cases_lt (w.floors n) (suc w.gvt)) [ inl x ↦ absurd (let y = ap one_if (lt-ltb (w.floors n) (suc w.gvt) x) in let z = d.floor in omega arith) | inr x ↦ x ] in
      let mail = lowest-letters f.rules.order L.order (suc w.gvt) (gvt_over f n w) (w.mail n) (omega arith)
      (λ m i.
      let late = k.mail_late n (omega arith) m i in
      elim (cases_lt w.gvt (f.rules.order.time m)) [ inl x ↦ x | inr x ↦ absurd (none-of f.rules.order L.order w.gvt (w.mail n) (omega arith) m i (omega arith)) ]) in
      omega arith

  pub turns-gvt : (ts : List Turn) (w : World M S) → AreTurns f ts w → (run f (steps_in ts) w).gvt ≡ w.gvt
  unfolding run
  turns-gvt [] w a = refl
  turns-gvt (t ∷ ts) w a = ap (λ z. z.gvt) (run-append f L t.steps (steps_in ts) w) ∙ (turns-gvt ts (run f t.steps w) a.1 ∙ run-gvt f L t.ours t.steps w a.0.by)

  start-turns : (ts : List Turn) (w : World M S) → AreTurns f ts w → AreTurns f ts (run f [] w)
  unfolding run
  start-turns ts w a = a

  -- in a round the rank falls
  pub round-falls : (w : World M S) → IsKept f L w → w.gvt ≤ f.until → (ts : List Turn) → IsRound f ts w → rank_at f w.gvt (run f (steps_in ts) w) < rank_at f w.gvt w
  round-falls w k u ts r = elim (cases_lt (rank_at f w.gvt (run f (steps_in ts) w)) (rank_at f w.gvt w)) [
    | inl h ↦ h
    | inr h ↦ absurd (
        let a = gvt-above w k u (λ p i. clears-all w k u [] ts (turns-gvt ts w r.turns) h (start-turns ts w r.turns) p i (r.all p i)) f.processes (omega arith) in
        let b = r.published in
        omega arith)
  ]
