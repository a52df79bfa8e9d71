-- What every step keeps makes the world safe: below GVT the processes have handled just what was made, and that is one set of events.
use Rattle.std.proofs.Common.{false, ◌≡◌, ℕ, suc, ◌+◌, ◌<◌, ◌≤◌, ◌==◌, ◌⊎◌, inl, inr, nat_lt, List, [], ◌∷◌, ◌++◌, length, refl, sym, ap, ◌∙◌, subst, arith, append-nil, lt-ltb}
use Rattle.std.proofs.lemmas.Bool.{cases_lt}
use Rattle.std.proofs.lemmas.List.Elements.{filter-append}
use Rattle.virtual_time.specs.Law.{reached, sent, rowed, rows_at, times_in, IsIn, IsAscending, earlier, pluses, minuses, IsNamed, undo_all, Simulation, Laws, IsReached, made, one, events, NoneWaits, IsFirst, IsBelow, World, start, is_enabled, step, run, history, CountLaw, NothingBefore, Safe, IsFinished, IsWhole}
use Rattle.virtual_time.specs.declared.step.Step.{Step}
use Rattle.virtual_time.proofs.Lists.{times-none, in-head, times-append, in-filter, filter-all}
use Rattle.virtual_time.proofs.Ascending.{ascending-once}
use Rattle.virtual_time.proofs.Letters.{named-none}
use Rattle.virtual_time.proofs.Sends.{made-once, sends-receiver}
use Rattle.virtual_time.proofs.WellStep.{undo_all-well}
use Rattle.virtual_time.proofs.Sound.{law-of}
use Rattle.virtual_time.proofs.Cut.{IsClosed}
use Rattle.virtual_time.proofs.OneThread.{right}
use Rattle.virtual_time.proofs.OneThreadLater.{none_waits_from, is_below, is_first, is_left}
use Rattle.virtual_time.proofs.Kept.{IsKept, start-kept}
use Rattle.virtual_time.proofs.KeptRun.{run-kept, run-rises, run-append}

module _ {M S K N : Type 0} (f : Simulation M S K N) (L : Laws f) where
  nothing-in : (xs : List M) → ((m : M) → IsIn f.rules.order m xs → ⊥) → xs ≡ []
  nothing-in [] h = refl
  nothing-in (x ∷ xs) h = absurd (h x (in-head f.rules.order L.order x xs))

  module _ (w : World M S) (k : IsKept f L w) where
    -- below GVT no letter is left: the tally and the committed events tell what was made
    law-below : (m : M) → f.rules.order.time m < w.gvt → f.rules.order.receiver m < f.processes →
        pluses f.rules.order m (w.parts (f.rules.order.receiver m)).tally + times_in f.rules.order m (w.parts (f.rules.order.receiver m)).committed
        ≡ minuses f.rules.order m (w.parts (f.rules.order.receiver m)).tally + made f (history f w) m
    law-below m e i =
        let s = k.sound (f.rules.order.receiver m) i in
        let tray = named-none f.rules.order L.order m (w.parts (f.rules.order.receiver m)).tray (λ h. let a = s.tray_late m h in let b = s.low in absurd (omega arith)) in
        let mail = named-none f.rules.order L.order m (w.mail (f.rules.order.receiver m)) (λ h. let a = k.mail_late (f.rules.order.receiver m) i m h in absurd (omega arith)) in
        let outbox : pluses f.rules.order m (w.parts (f.rules.order.sender m)).outbox + minuses f.rules.order m (w.parts (f.rules.order.sender m)).outbox ≡ 0 =
        elim (cases_lt (f.rules.order.sender m) f.processes) [
          | inl j ↦ named-none f.rules.order L.order m (w.parts (f.rules.order.sender m)).outbox (λ h. let a = (k.sound (f.rules.order.sender m) j).outbox_late m h in let b = (k.sound (f.rules.order.sender m) j).low in absurd (omega arith))
          | inr j ↦ (let a = ap (pluses f.rules.order m) (k.outside_outbox (f.rules.order.sender m) j) in let b = ap (minuses f.rules.order m) (k.outside_outbox (f.rules.order.sender m) j) in omega arith)
        ] in
        let law = k.law m in
        omega arith

    history-once : (p : ℕ) → p < f.processes → (m : M) →
        times_in f.rules.order m (w.parts p).committed + times_in f.rules.order m (w.parts p).done ≤ 1
    history-once p i m =
        let a = ascending-once f.rules.order L.order m (history f w p) (k.sound p i).ascending in
        let b = times-append f.rules.order L.order m (w.parts p).committed (w.parts p).done in
        omega arith

    made-none : (m : M) → f.processes ≤ f.rules.order.receiver m → made f (history f w) m ≡ 0
    made-none m i =
        let a = times-none f.rules.order L.order m f.offers (λ h. let b = L.offered_to m h in absurd (omega arith)) in
        let c : times_in f.rules.order m (sent f.rules (f.opening (f.rules.order.sender m)) (history f w (f.rules.order.sender m))) ≡ 0 =
        elim (cases_lt (f.rules.order.sender m) f.processes) [
          | inl j ↦ times-none f.rules.order L.order m (sent f.rules (f.opening (f.rules.order.sender m)) (history f w (f.rules.order.sender m)))
              (λ h. let b = sends-receiver f L (f.rules.order.sender m) j (f.opening (f.rules.order.sender m)) ([], refl) (history f w (f.rules.order.sender m)) m h in absurd (omega arith))
          | inr j ↦ ap (λ ms. times_in f.rules.order m (sent f.rules (f.opening (f.rules.order.sender m)) ms)) (k.outside (f.rules.order.sender m) j)
        ] in
        omega arith

    below-made : (m : M) → f.rules.order.time m < w.gvt → times_in f.rules.order m (history f w (f.rules.order.receiver m)) ≡ made f (history f w) m
    below-made m e = go (cases_lt (f.rules.order.receiver m) f.processes)
      where
        inside : (i : f.rules.order.receiver m < f.processes) →
            (0 < times_in f.rules.order m (w.parts (f.rules.order.receiver m)).committed) ⊎ (times_in f.rules.order m (w.parts (f.rules.order.receiver m)).committed ≤ 0) →
            (0 < times_in f.rules.order m (w.parts (f.rules.order.receiver m)).done) ⊎ (times_in f.rules.order m (w.parts (f.rules.order.receiver m)).done ≤ 0) →
            times_in f.rules.order m (history f w (f.rules.order.receiver m)) ≡ made f (history f w) m
        inside i (inl c) d =
            let a = law-below m e i in
            let b = (k.sound (f.rules.order.receiver m) i).committed_none m c in
            let h = history-once (f.rules.order.receiver m) i m in
            let j = times-append f.rules.order L.order m (w.parts (f.rules.order.receiver m)).committed (w.parts (f.rules.order.receiver m)).done in
            omega arith
        inside i (inr c) (inl d) =
            let a = law-below m e i in
            let b = (k.sound (f.rules.order.receiver m) i).well.done_present m d in
            let h = history-once (f.rules.order.receiver m) i m in
            let j = times-append f.rules.order L.order m (w.parts (f.rules.order.receiver m)).committed (w.parts (f.rules.order.receiver m)).done in
            let o = made-once f L (history f w) k.outside m in
            omega arith
        inside i (inr c) (inr d) =
            let a = law-below m e i in
            let j = times-append f.rules.order L.order m (w.parts (f.rules.order.receiver m)).committed (w.parts (f.rules.order.receiver m)).done in
            let none : made f (history f w) m ≡ 0 =
            elim (cases_lt 0 (made f (history f w) m)) [
              | inl h ↦ absurd (let b = (k.sound (f.rules.order.receiver m) i).unhandled_late m (omega arith) (omega arith) in let l = (k.sound (f.rules.order.receiver m) i).low in omega arith)
              | inr h ↦ omega arith
            ] in
            omega arith

        go : (f.rules.order.receiver m < f.processes) ⊎ (f.processes ≤ f.rules.order.receiver m) → times_in f.rules.order m (history f w (f.rules.order.receiver m)) ≡ made f (history f w) m
        go (inl i) = inside i (cases_lt 0 (times_in f.rules.order m (w.parts (f.rules.order.receiver m)).committed)) (cases_lt 0 (times_in f.rules.order m (w.parts (f.rules.order.receiver m)).done))
        go (inr i) = ap (times_in f.rules.order m) (k.outside (f.rules.order.receiver m) i) ∙ sym (made-none m i)

    pub world-closed : IsClosed f L w.gvt (history f w)
    world-closed = record {
      ascending = λ p. elim (cases_lt p f.processes) [
        | inl i ↦ (k.sound p i).ascending
        | inr i ↦ subst (λ ms. IsAscending f.rules.order ms) (sym (k.outside p i)) tt
      ];
      here = λ p m h. elim (cases_lt p f.processes) [
        | inl i ↦ (k.sound p i).here m h
        | inr i ↦ absurd (let a = ap (times_in f.rules.order m) (k.outside p i) in omega arith)
      ];
      outside = k.outside;
      just_made = below-made;
    }

    early-history : (p : ℕ) → p < f.processes →
        earlier f.rules.order w.gvt (history f w p) ≡ (w.parts p).committed ++ earlier f.rules.order w.gvt (w.parts p).done
    early-history p i =
        filter-append (λ m. nat_lt (f.rules.order.time m) w.gvt) (w.parts p).committed (w.parts p).done ∙
        ap (λ z. z ++ earlier f.rules.order w.gvt (w.parts p).done)
        (filter-all f.rules.order L.order (λ m. nat_lt (f.rules.order.time m) w.gvt) (w.parts p).committed (λ m h. lt-ltb _ _ ((k.sound p i).committed_low m h)))

    first-committed : (p : ℕ) → p < f.processes → IsFirst f p (length (w.parts p).committed) (w.parts p).committed
    first-committed p i = is_first f L w.gvt (history f w) world-closed p (w.parts p).committed (earlier f.rules.order w.gvt (w.parts p).done) (early-history p i)

    undo-all : (p : ℕ) → p < f.processes → undo_all f.rules (f.opening p) (w.parts p) ≡ reached f.rules (f.opening p) (w.parts p).committed
    undo-all p i = undo_all-well f.rules (IsReached f p) (f.opening p) (law-of f L p i) (w.parts p) (k.sound p i).well

    pub kept-safe : Safe f w
    kept-safe = record {
      first = first-committed;
      left = λ p i. is_left f L p (w.parts p).committed (undo_all f.rules (f.opening p) (w.parts p)) (first-committed p i) (undo-all p i);
      below = λ p i. subst (λ ms. IsBelow f p w.gvt ms) (early-history p i) (is_below f L w.gvt (history f w) world-closed p);
      mail = k.mail_late;
      tray = λ p i m h. let a = (k.sound p i).tray_late m h in let b = (k.sound p i).low in omega arith;
      outbox = λ p i m h. let a = (k.sound p i).outbox_late m h in let b = (k.sound p i).low in omega arith;
      unhandled = λ p i m h z. let a = (k.sound p i).unhandled_late m h z in let b = (k.sound p i).low in omega arith;
      counts_one = λ p i m h e. one-left p i m h e;
    }
      where
        one-left : (p : ℕ) → p < f.processes → (m : M) → IsIn f.rules.order m (w.parts p).done → f.rules.order.time m < w.gvt →
            pluses f.rules.order m (w.parts p).tally ≡ minuses f.rules.order m (w.parts p).tally + 1
        one-left p i m h e =
            let r : f.rules.order.receiver m ≡ p = (k.sound p i).here m (let a = times-append f.rules.order L.order m (w.parts p).committed (w.parts p).done in omega arith) in
            let P : ℕ → Type 0 = λ q. q < f.processes → IsIn f.rules.order m (w.parts q).done → pluses f.rules.order m (w.parts q).tally ≡ minuses f.rules.order m (w.parts q).tally + 1 in
            subst P r (λ j g.
            let a = law-below m e j in
            let b = (k.sound (f.rules.order.receiver m) j).well.done_present m g in
            let c = history-once (f.rules.order.receiver m) j m in
            let o = made-once f L (history f w) k.outside m in
            omega arith) i h

    pub kept-whole : IsFinished f w → IsWhole f w
    kept-whole d = record {
      event_count = t.0;
      none_waits = nothing-in (one f t.0).waiting (λ m h. let a = t.1 m h in let b = (right f L t.0).in_time m h in omega arith);
      same_events = same;
      same_rows = λ p i. ap (rowed f.rules (f.opening p)) (same p i) ∙ sym ((right f L t.0).rows_are p);
    }
      where
        t : (n : ℕ) × NoneWaits f (suc f.until) n
        t = none_waits_from f L (suc f.until)

        same : (p : ℕ) → p < f.processes → (w.parts p).committed ≡ events f t.0 p
        same p i =
            let b : earlier f.rules.order w.gvt (events f t.0 p) ≡ (w.parts p).committed ++ earlier f.rules.order w.gvt (w.parts p).done =
            (kept-safe.below p i).each t.0 (λ m h. let a = t.1 m h in let c = d.over in omega arith) in
            let c : earlier f.rules.order w.gvt (w.parts p).done ≡ [] = ap (earlier f.rules.order w.gvt) (d.all_committed p i) in
            let all : earlier f.rules.order w.gvt (events f t.0 p) ≡ events f t.0 p =
            filter-all f.rules.order L.order (λ m. nat_lt (f.rules.order.time m) w.gvt) (events f t.0 p)
            (λ m h. lt-ltb _ _ (let a = (right f L t.0).handled_in_time m (in-filter f.rules.order L.order (λ x. f.rules.order.receiver x == p) m (one f t.0).handled h).1 in let e = d.over in omega arith)) in
            sym (append-nil (w.parts p).committed) ∙ (ap (λ z. (w.parts p).committed ++ z) (sym c) ∙ (sym b ∙ all))

    committed-early : (p : ℕ) (m : M) → IsIn f.rules.order m (w.parts p).committed → f.rules.order.time m < w.gvt
    committed-early p m h = elim (cases_lt p f.processes) [
      | inl i ↦ (k.sound p i).committed_low m h
      | inr i ↦ absurd (let a = ap (times_in f.rules.order m) (k.outside p i) in let b = times-append f.rules.order L.order m (w.parts p).committed (w.parts p).done in omega arith)
    ]

    nothing-before : (p : ℕ) → p < f.processes → NothingBefore f (w.floors p) (w.parts p)
    nothing-before p i = record { tray = (k.sound p i).tray_late; outbox = (k.sound p i).outbox_late; unhandled = (k.sound p i).unhandled_late }

    outbox-inside : (p : ℕ) (m : M) → IsNamed f.rules.order m (w.parts p).outbox → f.rules.order.receiver m < f.processes
    outbox-inside p m h = elim (cases_lt p f.processes) [
      | inl i ↦ ((k.sound p i).outbox_from m h).1
      | inr i ↦ absurd (let a = ap (pluses f.rules.order m) (k.outside_outbox p i) in let b = ap (minuses f.rules.order m) (k.outside_outbox p i) in omega arith)
    ]

  kept : (xs : List Step) → IsKept f L (run f xs (start f))
  kept xs = run-kept f L xs (start f) (start-kept f L)

  pub ascend : (xs : List Step) (p : ℕ) → IsAscending f.rules.order (history f (run f xs (start f)) p)
  ascend xs p = (world-closed (run f xs (start f)) (kept xs)).ascending p

  pub committed_early : (xs : List Step) (p : ℕ) (m : M) → IsIn f.rules.order m ((run f xs (start f)).parts p).committed → f.rules.order.time m < (run f xs (start f)).gvt
  committed_early xs = committed-early (run f xs (start f)) (kept xs)

  pub floors : (xs : List Step) (p : ℕ) → p < f.processes → NothingBefore f ((run f xs (start f)).floors p) ((run f xs (start f)).parts p)
  floors xs = nothing-before (run f xs (start f)) (kept xs)

  pub gvt_low : (xs : List Step) (p : ℕ) → p < f.processes → (run f xs (start f)).gvt ≤ (run f xs (start f)).floors p
  gvt_low xs p i = ((kept xs).sound p i).low

  pub outboxes : (xs : List Step) (p : ℕ) (m : M) → IsNamed f.rules.order m ((run f xs (start f)).parts p).outbox → f.rules.order.receiver m < f.processes
  outboxes xs = outbox-inside (run f xs (start f)) (kept xs)

  pub rows : (n p : ℕ) → rows_at p (one f n).rows ≡ rowed f.rules (f.opening p) (events f n p)
  rows n = (right f L n).rows_are

  pub safe : (xs : List Step) → Safe f (run f xs (start f))
  safe xs = kept-safe (run f xs (start f)) (kept xs)

  pub once : (xs : List Step) (m : M) → made f (history f (run f xs (start f))) m ≤ 1
  once xs m = made-once f L (history f (run f xs (start f))) (kept xs).outside m

  pub handled_once : (xs : List Step) (p : ℕ) (m : M) → times_in f.rules.order m (history f (run f xs (start f)) p) ≤ 1
  handled_once xs p m = ascending-once f.rules.order L.order m (history f (run f xs (start f)) p) (ascend xs p)

  pub counts : (xs : List Step) (m : M) → CountLaw f (run f xs (start f)) m
  counts xs m = (kept xs).law m

  pub rises : (xs ys : List Step) → (run f xs (start f)).gvt ≤ (run f (xs ++ ys) (start f)).gvt
  rises xs ys =
      let a = run-rises f L ys (run f xs (start f)) (kept xs) in
      subst (λ v. (run f xs (start f)).gvt ≤ v.gvt) (sym (run-append f L xs ys (start f))) a

  pub whole : (xs : List Step) → IsFinished f (run f xs (start f)) → IsWhole f (run f xs (start f))
  whole xs = kept-whole (run f xs (start f)) (kept xs)

  -- for a moment not above GVT, as one that a worker saw before
  pub seen : (xs : List Step) (g : ℕ) → g ≤ (run f xs (start f)).gvt → (p : ℕ) → IsBelow f p g (earlier f.rules.order g (history f (run f xs (start f)) p))
  seen xs g h p = is_below f L g (history f (run f xs (start f))) lower p
    where
      k : IsClosed f L (run f xs (start f)).gvt (history f (run f xs (start f)))
      k = world-closed (run f xs (start f)) (kept xs)

      lower : IsClosed f L g (history f (run f xs (start f)))
      lower = record { ascending = k.ascending; here = k.here; outside = k.outside; just_made = λ m i. k.just_made m (omega arith) }

  -- what was below GVT once is there after all later steps, just so
  pub never_undone : (xs ys : List Step) (p : ℕ) →
      earlier f.rules.order (run f xs (start f)).gvt (history f (run f (xs ++ ys) (start f)) p) ≡ earlier f.rules.order (run f xs (start f)).gvt (history f (run f xs (start f)) p)
  never_undone xs ys p =
      let now = seen xs (run f xs (start f)).gvt (omega arith) p in
      let then = seen (xs ++ ys) (run f xs (start f)).gvt (rises xs ys) p in
      sym (then.each now.some.0 now.some.1) ∙ now.each now.some.0 now.some.1

-- a step that is not enabled gives the world as it was
pub stays : {M S K N : Type 0} (f : Simulation M S K N) (x : Step) (w : World M S) → is_enabled f x w ≡ false → step f x w ≡ w
unfolding step
stays f x w e = rw e refl
