-- The first message of the queue is handled, and posted. It comes after all that its receiver has done, and others may have done later ones.
use Rattle.std.proofs.Common.{◌≡◌, ℕ, ◌+◌, ◌<◌, ◌≤◌, ◌⊎◌, inl, inr, true, false, [], ◌∷◌, ◌++◌, map, length, Some, All, is_some, refl, sym, ap, ◌∙◌, subst, arith, slice_get, append-nil, lt-ltb}
use Rattle.std.proofs.lemmas.Bool.{cases_eq}
use Rattle.std.proofs.lemmas.Option.{slice_get_within}
use Rattle.std.proofs.lemmas.List.Elements.{All-weaker}
use Rattle.vlink.specs.declared.message.Message.{Message}
use Rattle.vlink.specs.declared.note.Note.{Note}
use Rattle.virtual_time.specs.Law.{Rules, IsOrder, World, IsIn, times_in, one_if, same, plus_of, pluses, minuses, received_by, floor_of, emptied, handled, next_of, IsAscending, AreDone, done_by, is_enabled, step}
use Rattle.virtual_time.specs.declared.step.Step.TheVariants.{Run, Post}
use Rattle.virtual_time.proofs.Kept.{put_elim, put_elim₂}
use Rattle.virtual_time.proofs.Order.{same-refl}
use Rattle.virtual_time.proofs.Lists.{times-append}
use Rattle.virtual_time.proofs.HomeLetters.{runs-plain, run_after}
use Rattle.reverse.specs.Setting.{Setting, simulation_of}
use Rattle.group_queues.specs.DoneEvents.{DoneEvent, done_event_of, done_events_at, messages_of}
use Rattle.group_hand.specs.Hands.{Held, IsMember, StandsForSent, is_held, is_ours}
use Rattle.group_hand.proofs.Member.{next-here}
use Rattle.group_hand.proofs.Running.{ran-member, ran-other, more-done}
use Rattle.group_hand.proofs.Going.{received-append}

module _ {S K : Type 0} (r : Rules Message S K Note) (O : IsOrder r.order) (V : S → Message → Type 0)
    (law : (s : S) (e : Message) → r.undo (r.after s e) e (r.kept s e) ≡ s) (x : Setting S) (v : World Message S) (h new : Held S K) (m : Message) (s : S) (d : DoneEvent K)
    (at : slice_get h.members (r.order.receiver m) ≡ Some (Some s)) (slot : slice_get new.members (r.order.receiver m) ≡ Some (Some (r.after s m)))
    (slots : (q : ℕ) → (q ≡ r.order.receiver m → ⊥) → slice_get new.members q ≡ slice_get h.members q) (count : length new.members ≡ length h.members)
    (event : d ≡ done_event_of r s m) (value : V s m) (queue : (y : Message) → times_in r.order y h.flow.queue ≡ one_if (same r.order y m) + times_in r.order y new.flow.queue)
    (mine : done_events_at r.order (r.order.receiver m) new.done ≡ done_events_at r.order (r.order.receiver m) h.done ++ d ∷ [])
    (kept : (q : ℕ) → (q ≡ r.order.receiver m → ⊥) → done_events_at r.order q new.done ≡ done_events_at r.order q h.done)
    (ascending : IsAscending r.order (messages_of h.done) → IsAscending r.order (messages_of new.done)) (rows : new.rows ≡ h.rows) (extra : new.flow.extra ≡ h.flow.extra) (tray : new.flow.tray ≡ h.flow.tray) (abroad : new.flow.abroad ≡ h.flow.abroad)
    (first : (y : Message) → IsIn r.order y h.flow.queue → r.order.less y m ≡ false) (not_done : times_in r.order m (messages_of h.done) ≡ 0)
    (g : StandsForSent r V x v h []) where
  its : IsMember r V (x.opening (r.order.receiver m)) (r.order.receiver m) (v.parts (r.order.receiver m)) s h
  its = g.members (r.order.receiver m) s at

  within : r.order.receiver m < x.processes
  within = let a = slice_get_within h.members (r.order.receiver m) (Some s) at in let b = g.count in omega arith

  next : next_of r.order (v.parts (r.order.receiver m)) ≡ Some m
  next =
      next-here r O V (x.opening (r.order.receiver m)) (r.order.receiver m) (v.parts (r.order.receiver m)) s h g.beside its m refl
      (let a = queue m in let b = ap one_if (same-refl r.order O m) in omega arith) not_done first

  pub ran-steps : AreDone (simulation_of r x) (Run (r.order.receiver m) ∷ Post (r.order.receiver m) ∷ []) v
  unfolding is_enabled step
  ran-steps = (rw (lt-ltb (r.order.receiver m) x.processes within) (ap is_some next), (lt-ltb (r.order.receiver m) x.processes within, tt))

  is : d.message ≡ m
  is = ap (λ z. z.message) event

  pub ours-same : (q : ℕ) → is_ours new.members q ≡ is_ours h.members q
  ours-same q = go (cases_eq q (r.order.receiver m))
    where
      go : (q ≡ r.order.receiver m) ⊎ (q ≡ r.order.receiver m → ⊥) → is_ours new.members q ≡ is_ours h.members q
      go (inl e) = ap (λ z. is_held (slice_get new.members z)) e ∙ (ap is_held slot ∙ (sym (ap is_held at) ∙ ap (λ z. is_held (slice_get h.members z)) (sym e)))
      go (inr n) = ap is_held (slots q n)

  both-same : (y : Message) → times_in r.order y (new.flow.queue ++ messages_of new.done) ≡ times_in r.order y (h.flow.queue ++ messages_of h.done)
  both-same y =
      let a = times-append r.order O y new.flow.queue (messages_of new.done) in
      let b = times-append r.order O y h.flow.queue (messages_of h.done) in
      let c = more-done r O V h new m d is queue mine kept extra tray rows y in
      let i = queue y in
      omega arith

  there-was : (y : Message) → IsIn r.order y (new.flow.queue ++ messages_of new.done) → IsIn r.order y (h.flow.queue ++ messages_of h.done)
  there-was y n = let a = both-same y in omega arith

  pub ran : StandsForSent r V x (done_by (simulation_of r x) (Run (r.order.receiver m) ∷ Post (r.order.receiver m) ∷ []) v) new (map plus_of (r.sends s m))
  ran = subst (λ w. StandsForSent r V x w new (map plus_of (r.sends s m))) (sym (runs-plain (simulation_of r x) O (r.order.receiver m) m v next)) stands
    where
      stands : StandsForSent r V x (run_after (simulation_of r x) O (r.order.receiver m) m v) new (map plus_of (r.sends s m))
      stands = record {
        count = count ∙ g.count;
        members = λ q t e. put_elim (λ z part. slice_get new.members z ≡ Some (Some t) → IsMember r V (x.opening z) z part t new)
            (r.order.receiver m) (emptied (handled r (v.parts (r.order.receiver m)) (Some m))) v.parts
            (λ i. subst (λ u. IsMember r V (x.opening (r.order.receiver m)) (r.order.receiver m) (emptied (handled r (v.parts (r.order.receiver m)) (Some m))) u new) (let w : r.after s m ≡ t = cc (slot, i) in w)
            (ran-member r O V h new m d is queue mine kept extra tray rows law (x.opening (r.order.receiver m)) (v.parts (r.order.receiver m)) s event value next its))
            (λ z n i. ran-other r O V h new m d is queue mine kept extra tray rows (x.opening z) z (v.parts z) t (λ k. n (sym k)) (g.members z t (sym (slots z n) ∙ i))) q e;
        mail = λ q. ap (λ z. z ++ received_by r.order q ((v.parts (r.order.receiver m)).outbox ++ map plus_of (r.sends (v.parts (r.order.receiver m)).state m))) (g.mail q) ∙
            (ap (λ z. received_by r.order q (h.flow.abroad ++ []) ++ received_by r.order q (z ++ map plus_of (r.sends (v.parts (r.order.receiver m)).state m))) its.outbox ∙
            (ap (λ z. received_by r.order q (h.flow.abroad ++ []) ++ received_by r.order q (map plus_of (r.sends z m))) its.state ∙
            (ap (λ z. received_by r.order q z ++ received_by r.order q (map plus_of (r.sends s m))) (append-nil h.flow.abroad) ∙
            (sym (received-append r.order q h.flow.abroad (map plus_of (r.sends s m))) ∙ ap (λ z. received_by r.order q (z ++ map plus_of (r.sends s m))) (sym abroad)))));
        elsewhere = subst (λ ls. All (λ l. is_ours new.members (r.order.receiver l.message) ≡ false) ls) (sym abroad)
            (All-weaker (λ l. is_ours h.members (r.order.receiver l.message) ≡ false) (λ l. is_ours new.members (r.order.receiver l.message) ≡ false)
            (λ l e. ours-same (r.order.receiver l.message) ∙ e) h.flow.abroad g.elsewhere);
        tray_home = subst (λ ls. All (λ l. is_ours new.members (r.order.receiver l.message) ≡ true) ls) (sym tray)
            (All-weaker (λ l. is_ours h.members (r.order.receiver l.message) ≡ true) (λ l. is_ours new.members (r.order.receiver l.message) ≡ true)
            (λ l e. ours-same (r.order.receiver l.message) ∙ e) h.flow.tray g.tray_home);
        tray_in_time = subst (λ ls. All (λ l. r.order.time l.message ≤ x.until) ls) (sym tray) g.tray_in_time;
        home = λ y n. ours-same (r.order.receiver y) ∙ g.home y (there-was y n);
        in_time = λ y n. g.in_time y (there-was y n);
        beside = λ y. record {
          more = λ l. let a = both-same y in let b = ap (pluses r.order y) extra in let c = ap (minuses r.order y) extra in let i = (g.beside y).more (omega arith) in omega arith;
          less = λ l. let a = both-same y in let b = ap (pluses r.order y) extra in let c = ap (minuses r.order y) extra in let i = (g.beside y).less (omega arith) in omega arith;
        };
        ascending = ascending g.ascending;
        settled = put_elim₂ (λ q a b. is_ours new.members q ≡ true → a ≡ floor_of r.order x.until b) (r.order.receiver m) (floor_of r.order x.until (emptied (handled r (v.parts (r.order.receiver m)) (Some m))))
            (emptied (handled r (v.parts (r.order.receiver m)) (Some m))) v.floors v.parts (λ i. refl) (λ q n i. g.settled q (sym (ours-same q) ∙ i));
      }
