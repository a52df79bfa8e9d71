-- Round after round, GVT passes the end, and then all is committed.
use Rattle.std.proofs.Common.{◌≡◌, ℕ, zero, suc, ◌+◌, ◌<◌, ◌≤◌, ◌⊎◌, inl, inr, Bool, true, false, cond, min, List, [], ◌∷◌, ◌++◌, Option, Some, None, refl, ap, sym, ◌∙◌, subst, arith, slice_get}
use Rattle.std.proofs.lemmas.Bool.{cases_lt, both_ways}
use Rattle.virtual_time.specs.Law.{IsIn, lowest, times_of, before, Part, is_toggled, next_of, can_commit, delivered, emptied, handled, arrived, arrive, run_one, commit_oldest, oldest_committed, rolled_back, tallied, Simulation, Laws, put, World, start, taken, is_enabled, effect, step, run, gvt_over, IsFinished}
use Rattle.virtual_time.specs.declared.letter.Letter.{Letter}
use Rattle.virtual_time.specs.declared.step.Step.{Step}
use Rattle.virtual_time.specs.declared.step.Step.TheVariants.{Take, Arrive, Run, Post, Gvt, Commit}
use Rattle.virtual_time.proofs.Lists.{in-head}
use Rattle.virtual_time.proofs.Reading.{next-is}
use Rattle.virtual_time.proofs.Kept.{put_elim, IsKept, start-kept}
use Rattle.virtual_time.proofs.KeptRun.{step-kept, step-rises, run-kept, run-rises, run-append}
use Rattle.ends.specs.Left.{rank_at}
use Rattle.ends.specs.Rounds.{Turn, steps_in, AreTurns, has_turn, IsRound, after_rounds}
use Rattle.ends.proofs.Falls.{step-falls}
use Rattle.ends.proofs.Serving.{round-falls, turns-gvt, run-push}
use Rattle.ends.proofs.InTime.{AreInTime, run-in_time-all, step-in_time, start-in_time}

module _ {M S K N : Type 0} (f : Simulation M S K N) (L : Laws f) where
  -- where GVT has passed the end, nothing is handled, and what is committed stays so

  arrive-none : (p : ℕ) (part : Part M S) → part.done ≡ [] → (arrive f.rules (f.opening p) part).done ≡ []
  arrive-none p part e = go part.tray
    where
      go : (ls : List (Letter M)) → (arrived f.rules (f.opening p) part ls).done ≡ []
      go [] = e
      go (l ∷ rest) = pick (is_toggled f.rules.order l part.tally)
        where
          pick : (b : Bool) → (cond b (rolled_back f.rules (f.opening p) l.message (tallied f.rules l rest part)) (tallied f.rules l rest part)).done ≡ []
          pick true = ap (before f.rules.order l.message) e
          pick false = e

  commit-none : (part : Part M S) → part.done ≡ [] → (commit_oldest f.rules part).done ≡ []
  commit-none part e = go part.done e
    where
      go : (ms : List M) → ms ≡ [] → (cond (can_commit f.rules.order part ms) (oldest_committed f.rules part ms) part).done ≡ []
      go [] h = e
      go (m ∷ ms) h = absurd (let z : ⊥ = cc in z)

  module _ (w : World M S) (k : IsKept f L w) (a : AreInTime f L w) (over : f.until < w.gvt) (p : ℕ) (i : p < f.processes) where
    run-none : (w.parts p).done ≡ [] → (run_one f.rules (w.parts p)).done ≡ []
    run-none e = go (next_of f.rules.order (w.parts p)) refl
      where
        go : (o : Option M) → next_of f.rules.order (w.parts p) ≡ o → (handled f.rules (w.parts p) o).done ≡ []
        go None d = e
        go (Some m) d = absurd (
            let n = next-is f.rules L.order (w.parts p) m d in
            let s = k.sound p i in
            let b = s.unhandled_late m n.present n.not_done in
            let c = s.low in
            let g = n.present in
            let t = (a.parts p).tally m (omega arith) in
            omega arith)

    at : (q : ℕ) (new : Part M S) → ((w.parts p).done ≡ [] → q ≡ p → new.done ≡ []) → (w.parts p).done ≡ [] → (put q new w.parts p).done ≡ []
    at q new h e = put_elim (λ r z. r ≡ p → z.done ≡ []) q new w.parts (h e) (λ r n d. subst (λ x. (w.parts x).done ≡ []) (sym d) e) p refl

    effect-none : (x : Step) → (w.parts p).done ≡ [] → ((effect f x w).parts p).done ≡ []
    unfolding effect
    effect-none (Take q n) e = go (slice_get (w.mail q) n)
      where
        go : (o : Option (Letter M)) → ((taken f q n w o).parts p).done ≡ []
        go None = e
        go (Some l) = at q (delivered l (w.parts q)) (λ h d. subst (λ x. (w.parts x).done ≡ []) (sym d) h) e
    effect-none (Arrive q) e = at q _ (λ h d. subst (λ x. (arrive f.rules (f.opening x) (w.parts x)).done ≡ []) (sym d) (arrive-none p (w.parts p) h)) e
    effect-none (Run q) e = at q _ (λ h d. subst (λ x. (run_one f.rules (w.parts x)).done ≡ []) (sym d) (run-none h)) e
    effect-none (Post q) e = at q (emptied (w.parts q)) (λ h d. subst (λ x. (w.parts x).done ≡ []) (sym d) h) e
    effect-none Gvt e = e
    effect-none (Commit q) e = at q _ (λ h d. subst (λ x. (commit_oldest f.rules (w.parts x)).done ≡ []) (sym d) (commit-none (w.parts p) h)) e

    step-none : (x : Step) → (w.parts p).done ≡ [] → ((step f x w).parts p).done ≡ []
    unfolding step
    step-none x e = go (is_enabled f x w)
      where
        go : (b : Bool) → ((cond b (effect f x w) w).parts p).done ≡ []
        go true = effect-none x e
        go false = e

  run-stays : (xs : List Step) (w : World M S) → IsKept f L w → AreInTime f L w → f.until < w.gvt → (p : ℕ) → p < f.processes →
      (w.parts p).done ≡ [] → ((run f xs w).parts p).done ≡ []
  unfolding run
  run-stays [] w k a o p i e = e
  run-stays (x ∷ xs) w k a o p i e =
      run-stays xs (step f x w) (step-kept f L x w k) (step-in_time f L x w k a) (let b = step-rises f L x w k in omega arith) p i (step-none w k a o p i x e)

  nothing-in : (ms : List M) → ((m : M) → IsIn f.rules.order m ms → ⊥) → ms ≡ []
  nothing-in [] h = refl
  nothing-in (m ∷ ms) h = absurd (h m (in-head f.rules.order L.order m ms))

  turns-commit : (ts : List Turn) (w : World M S) → IsKept f L w → AreInTime f L w → f.until < w.gvt → AreTurns f ts w → (p : ℕ) → p < f.processes → has_turn ts p ≡ true →
      ((run f (steps_in ts) w).parts p).done ≡ []
  turns-commit [] w k a o t p i h = absurd (both_ways false refl h)
  turns-commit (t ∷ ts) w k a o ts-are p i h =
      let u = run f t.steps w in
      let ku = run-kept f L t.steps w k in
      let au = run-in_time-all f L t.steps w k a in
      let b = run-rises f L t.steps w k in
      ap (λ z. (z.parts p).done) (run-append f L t.steps (steps_in ts) w)
      ∙ go (t.ours p) refl h
      (λ e. run-stays (steps_in ts) u ku au (omega arith) p i (nothing-in (u.parts p).done (λ m j. let c = ts-are.0.committed p e m j in let d = (au.parts p).done m j in omega arith)))
      (turns-commit ts u ku au (omega arith) ts-are.1 p i)
    where
      go : (b : Bool) → t.ours p ≡ b → cond b true (has_turn ts p) ≡ true → (t.ours p ≡ true → ((run f (steps_in ts) (run f t.steps w)).parts p).done ≡ []) →
          (has_turn ts p ≡ true → ((run f (steps_in ts) (run f t.steps w)).parts p).done ≡ []) → ((run f (steps_in ts) (run f t.steps w)).parts p).done ≡ []
      go true e x here later = here e
      go false e x here later = later x

  -- the round in which GVT has passed the end is the last
  pub round-ends : (w : World M S) → IsKept f L w → AreInTime f L w → f.until < w.gvt → (ts : List Turn) → IsRound f ts w → IsFinished f (run f (steps_in ts) w)
  round-ends w k a o ts r = record {
    over = let b = turns-gvt f L ts w r.turns in let c = k.in_time in omega arith;
    all_committed = λ p i. turns-commit ts w k a o r.turns p i (r.all p i);
  }

  -- GVT that was just set is the least of floors and letters
  gvt_over-same : (n g : ℕ) (w : World M S) → gvt_over f n (record { parts = w.parts; mail = w.mail; floors = w.floors; gvt = g }) ≡ gvt_over f n w
  gvt_over-same zero g w = refl
  gvt_over-same (suc n) g w = ap (λ x. min (w.floors n) (lowest x (times_of f.rules.order (w.mail n)))) (gvt_over-same n g w)

  pub set-gvt : (w : World M S) → step f Gvt w ≡ record { parts = w.parts; mail = w.mail; floors = w.floors; gvt = gvt_over f f.processes w }
  unfolding step is_enabled effect
  set-gvt w = refl

  pub published : (w : World M S) → gvt_over f f.processes (step f Gvt w) ≡ (step f Gvt w).gvt
  published w = ap (gvt_over f f.processes) (set-gvt w) ∙ (gvt_over-same f.processes (gvt_over f f.processes w) w ∙ sym (ap (λ z. z.gvt) (set-gvt w)))

  -- GVT is set, and then there is a round: the world is finished, or GVT has risen, or the rank has fallen
  abbrev Goes : World M S → World M S → Type 0
  Goes w v = IsFinished f v ⊎ ((v.gvt ≤ f.until) × ((w.gvt < v.gvt) ⊎ ((v.gvt ≡ w.gvt) × (rank_at f v.gvt v < rank_at f w.gvt w))))

  one-round : (w : World M S) → IsKept f L w → AreInTime f L w → (ts : List Turn) → IsRound f ts (step f Gvt w) → Goes w (run f (steps_in ts) (step f Gvt w))
  one-round w k a ts r = go (cases_lt f.until (step f Gvt w).gvt)
    where
      u : World M S
      u = step f Gvt w

      ku : IsKept f L (step f Gvt w)
      ku = step-kept f L Gvt w k

      same : (run f (steps_in ts) (step f Gvt w)).gvt ≡ (step f Gvt w).gvt
      same = turns-gvt f L ts (step f Gvt w) r.turns

      still-falls : (step f Gvt w).gvt ≤ f.until → (step f Gvt w).gvt ≡ w.gvt → rank_at f w.gvt (step f Gvt w) ≤ rank_at f w.gvt w
      still-falls h e = elim (step-falls f L Gvt w k (let x = step-rises f L Gvt w k in omega arith)) [ inl x ↦ omega arith | inr x ↦ x.0 ]

      go : (f.until < (step f Gvt w).gvt) ⊎ ((step f Gvt w).gvt ≤ f.until) → Goes w (run f (steps_in ts) (step f Gvt w))
      go (inl o) = inl (round-ends (step f Gvt w) ku (step-in_time f L Gvt w k a) o ts r)
      go (inr h) =
          let falls = round-falls f L (step f Gvt w) ku h ts r in
          let rises = step-rises f L Gvt w k in
          let s = same in
          inr (
            omega arith,
            elim (cases_lt w.gvt (step f Gvt w).gvt) [
              | inl x ↦ inl (omega arith)
              | inr x ↦ (let e : (step f Gvt w).gvt ≡ w.gvt = omega arith in
                  inr (
                    omega arith,
                    let c = still-falls h e in
                        subst (λ g. rank_at f g (run f (steps_in ts) (step f Gvt w)) < rank_at f w.gvt w) (sym (s ∙ e))
                        (let d = subst (λ g. rank_at f g (run f (steps_in ts) (step f Gvt w)) < rank_at f g (step f Gvt w)) e falls in omega arith),
                  ))
            ],
          )

  -- however the turns of each round are chosen, some round is the last
  module _ (choose : List Step → List Turn)
      (rounds : (xs : List Step) → gvt_over f f.processes (run f xs (start f)) ≡ (run f xs (start f)).gvt → IsRound f (choose xs) (run f xs (start f))) where
    reached : ℕ → World M S
    reached n = run f (after_rounds choose n) (start f)

    kept : (n : ℕ) → IsKept f L (run f (after_rounds choose n) (start f))
    kept n = run-kept f L (after_rounds choose n) (start f) (start-kept f L)

    goes : (n : ℕ) → Goes (run f (after_rounds choose n) (start f)) (run f (after_rounds choose (suc n)) (start f))
    goes n =
        let xs = after_rounds choose n in
        let u = run-push f L xs Gvt (start f) in
        let e : run f (after_rounds choose (suc n)) (start f) ≡ run f (steps_in (choose (xs ++ Gvt ∷ []))) (step f Gvt (run f xs (start f))) =
        run-append f L (xs ++ Gvt ∷ []) (steps_in (choose (xs ++ Gvt ∷ []))) (start f) ∙ ap (run f (steps_in (choose (xs ++ Gvt ∷ [])))) u in
        subst (λ v. Goes (run f xs (start f)) v) (sym e)
        (one-round (run f xs (start f)) (kept n) (run-in_time-all f L xs (start f) (start-kept f L) (start-in_time f L)) (choose (xs ++ Gvt ∷ []))
        (subst (λ v. IsRound f (choose (xs ++ Gvt ∷ [])) v) u
        (rounds (xs ++ Gvt ∷ []) (ap (gvt_over f f.processes) u ∙ (published (run f xs (start f)) ∙ sym (ap (λ z. z.gvt) u))))))

    Ends : Type 0
    Ends = (n : ℕ) × IsFinished f (run f (after_rounds choose n) (start f))

    -- d bounds how far GVT is from the end, and r the rank
    by-rank : (d : ℕ) → ((n : ℕ) → suc f.until ≤ (run f (after_rounds choose n) (start f)).gvt + d → Ends) →
        (r n : ℕ) → suc f.until ≤ (run f (after_rounds choose n) (start f)).gvt + suc d → rank_at f (run f (after_rounds choose n) (start f)).gvt (run f (after_rounds choose n) (start f)) ≤ r → Ends
    unfolding Ends
    by-rank d less zero n h j = go (goes n)
      where
        go : Goes (run f (after_rounds choose n) (start f)) (run f (after_rounds choose (suc n)) (start f)) → Ends
        go (inl e) = (suc n, e)
        go (inr (b, inl x)) = less (suc n) (omega arith)
        go (inr (b, inr x)) = absurd (let y = x.1 in omega arith)
    by-rank d less (suc r) n h j = go (goes n) (by-rank d less r (suc n))
      where
        go : Goes (run f (after_rounds choose n) (start f)) (run f (after_rounds choose (suc n)) (start f)) →
            (suc f.until ≤ (run f (after_rounds choose (suc n)) (start f)).gvt + suc d → rank_at f (run f (after_rounds choose (suc n)) (start f)).gvt (run f (after_rounds choose (suc n)) (start f)) ≤ r → Ends) → Ends
        go (inl e) next = (suc n, e)
        go (inr (b, inl x)) next = less (suc n) (omega arith)
        go (inr (b, inr x)) next = next (let y = x.0 in omega arith) (let y = x.1 in omega arith)

    by-gvt : (d n : ℕ) → suc f.until ≤ (run f (after_rounds choose n) (start f)).gvt + d → Ends
    unfolding Ends
    by-gvt zero n h = go (goes n)
      where
        go : Goes (run f (after_rounds choose n) (start f)) (run f (after_rounds choose (suc n)) (start f)) → Ends
        go (inl e) = (suc n, e)
        go (inr (b, inl x)) = absurd (omega arith)
        go (inr (b, inr x)) = absurd (let y = x.0 in omega arith)
    by-gvt (suc d) n h = by-rank d (by-gvt d) (rank_at f (run f (after_rounds choose n) (start f)).gvt (run f (after_rounds choose n) (start f))) n h (omega arith)

    pub finishes : (n : ℕ) × IsFinished f (run f (after_rounds choose n) (start f))
    unfolding Ends
    finishes = by-gvt (suc f.until) 0 (omega arith)
