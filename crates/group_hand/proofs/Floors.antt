-- The least floor of the members of a group is the least of what waits for it.
use Rattle.std.proofs.Common.{◌≡◌, ℕ, suc, ◌<◌, ◌≤◌, ◌⊎◌, inl, inr, min, true, List, [], ◌∷◌, ◌++◌, map, Option, Some, None, All, IfSome, slice_get, refl, sym, ap, ◌∙◌, subst, arith}
use Rattle.std.proofs.lemmas.Bool.{cases_lt}
use Rattle.std.proofs.lemmas.List.Elements.{All-head, All-tail}
use Rattle.vlink.specs.declared.message.Message.{Message}
use Rattle.vlink.specs.declared.note.Note.{Note}
use Rattle.vlink.specs.Letters.{Letter}
use Rattle.virtual_time.specs.Law.{Rules, Order, IsOrder, World, IsIn, IsNamed, times_in, lowest, times_of, received_by, floor_of, least, unhandled}
use Rattle.virtual_time.proofs.Least.{least-none, least-some}
use Rattle.virtual_time.proofs.Letters.{received-mine, received-here, named-head}
use Rattle.virtual_time.proofs.Lists.{times-append, in-head}
use Rattle.virtual_time.proofs.Lowest.{lowest-top, lowest-letter, lowest-letters, lowest-message, lowest-messages}
use Rattle.virtual_time.proofs.Order.{not_less-time}
use Rattle.virtual_time.proofs.Presence.{unhandled-is, unhandled-from}
use Rattle.reverse.specs.Setting.{Setting}
use Rattle.group_queues.specs.DoneEvents.{messages_of}
use Rattle.group_queues.specs.Flow.{floor_in}
use Rattle.group_hand.specs.Hands.{FirstWaits, Held, IsMember, StandsForSent, is_ours}
use Rattle.group_hand.proofs.Going.{held-is}
use Rattle.group_hand.proofs.Member.{present-here, present-there, done-times, is-for}

module _ (o : Order Message) (O : IsOrder o) where
  -- the moment, or the time of some message
  some-message : (d : ℕ) (xs : List Message) → (lowest d (map o.time xs) ≡ d) ⊎ ((m : Message) × IsIn o m xs × (o.time m ≡ lowest d (map o.time xs)))
  some-message d [] = inl refl
  some-message d (x ∷ xs) = go (some-message d xs) (cases_lt (o.time x) (lowest d (map o.time xs)))
    where
      go : (lowest d (map o.time xs) ≡ d) ⊎ ((m : Message) × IsIn o m xs × (o.time m ≡ lowest d (map o.time xs))) →
          (o.time x < lowest d (map o.time xs)) ⊎ (lowest d (map o.time xs) ≤ o.time x) →
          (min (o.time x) (lowest d (map o.time xs)) ≡ d) ⊎ ((m : Message) × IsIn o m (x ∷ xs) × (o.time m ≡ min (o.time x) (lowest d (map o.time xs))))
      go h (inl l) = inr (x, in-head o O x xs, omega arith)
      go (inl e) (inr l) = inl (omega arith)
      go (inr h) (inr l) = inr (h.0, (let i = h.1 in omega arith), (let e = h.2 in omega arith))

  -- the moment, or the time of some letter
  some-letter : (P : Letter → Type 0) (d : ℕ) (ls : List Letter) → All P ls →
      (lowest d (times_of o ls) ≡ d) ⊎ ((l : Letter) × P l × IsNamed o l.message ls × (o.time l.message ≡ lowest d (times_of o ls)))
  some-letter P d [] a = inl refl
  some-letter P d (l ∷ ls) a = go (some-letter P d ls (All-tail P l ls a)) (cases_lt (o.time l.message) (lowest d (times_of o ls)))
    where
      go : (lowest d (times_of o ls) ≡ d) ⊎ ((k : Letter) × P k × IsNamed o k.message ls × (o.time k.message ≡ lowest d (times_of o ls))) →
          (o.time l.message < lowest d (times_of o ls)) ⊎ (lowest d (times_of o ls) ≤ o.time l.message) →
          (min (o.time l.message) (lowest d (times_of o ls)) ≡ d) ⊎ ((k : Letter) × P k × IsNamed o k.message (l ∷ ls) × (o.time k.message ≡ min (o.time l.message) (lowest d (times_of o ls))))
      go h (inl i) = inr (l, All-head P l ls a, named-head o O l ls, omega arith)
      go (inl e) (inr i) = inl (omega arith)
      go (inr h) (inr i) = inr (h.0, h.1, (let n = h.2 in omega arith), (let e = h.3 in omega arith))

module _ {S K : Type 0} (r : Rules Message S K Note) (O : IsOrder r.order) (V : S → Message → Type 0) (x : Setting S) (v : World Message S) (h : Held S K)
    (g : StandsForSent r V x v h []) where
  -- what waits for the group
  abbrev pub waits : ℕ
  waits = floor_in r.order (suc x.until) h.flow

  abbrev pub soonest : ℕ
  soonest = lowest (suc x.until) (map r.order.time h.flow.queue)

  pub floor-bound : (p : ℕ) → is_ours h.members p ≡ true → waits ≤ v.floors p
  floor-bound p t = subst (λ n. waits ≤ n) (sym (g.settled p t)) below
    where
      at : (s : S) × (slice_get h.members p ≡ Some (Some s))
      at = held-is (slice_get h.members p) t

      its : IsMember r V (x.opening p) p (v.parts p) at.0 h
      its = g.members p at.0 at.1

      top : waits ≤ soonest
      top = lowest-top r.order O soonest (times_of r.order h.flow.tray)

      queued : (m : Message) → IsIn r.order m (unhandled r.order (v.parts p).tally (v.parts p).done) → waits ≤ r.order.time m
      queued m i =
          let a = unhandled-is r.order O (v.parts p).tally (v.parts p).done m i in
          let b = present-there r O V (x.opening p) p (v.parts p) at.0 h g.beside its m a.0 in
          let c = done-times r O V (x.opening p) p (v.parts p) at.0 h g.beside its m (is-for r O V (x.opening p) p (v.parts p) at.0 h g.beside its m a.0) in
          let e = times-append r.order O m h.flow.queue (messages_of h.done) in
          let z = a.1 in
          let k = lowest-message r.order O (suc x.until) h.flow.queue m (omega arith) in
          let t = top in
          omega arith

      taken : (m : Message) → IsNamed r.order m (v.parts p).tray → waits ≤ r.order.time m
      taken m n =
          let i : IsNamed r.order m (received_by r.order p h.flow.tray) = subst (λ ls. IsNamed r.order m ls) its.tray n in
          let c = received-mine r.order O p m (received-here r.order O p m h.flow.tray i) h.flow.tray in
          let c0 = c.0 in let c1 = c.1 in
          lowest-letter r.order O soonest h.flow.tray m (omega arith)

      below : waits ≤ floor_of r.order x.until (v.parts p)
      below =
          lowest-letters r.order O waits (lowest (suc x.until) (map r.order.time (unhandled r.order (v.parts p).tally (v.parts p).done))) (v.parts p).tray
          (lowest-messages r.order O waits (suc x.until) (unhandled r.order (v.parts p).tally (v.parts p).done) (let a = lowest-top r.order O (suc x.until) (map r.order.time h.flow.queue) in let t = top in omega arith) queued)
          taken

  -- a member that has it
  abbrev pub HasFloor : Type 0
  HasFloor = (p : ℕ) × (is_ours h.members p ≡ true) × (v.floors p ≡ waits)

  of-letter : (l : Letter) → is_ours h.members (r.order.receiver l.message) ≡ true → IsNamed r.order l.message h.flow.tray → r.order.time l.message ≡ waits → HasFloor
  of-letter l t n e =
      let p = r.order.receiver l.message in
      let at = held-is (slice_get h.members p) t in
      let its = g.members p at.0 at.1 in
      let c = received-mine r.order O p l.message refl h.flow.tray in
      let c0 = c.0 in let c1 = c.1 in
      let there : IsNamed r.order l.message (received_by r.order p h.flow.tray) = omega arith in
      let a = lowest-letter r.order O (lowest (suc x.until) (map r.order.time (unhandled r.order (v.parts p).tally (v.parts p).done))) (v.parts p).tray l.message
      (subst (λ ls. IsNamed r.order l.message ls) (sym its.tray) there) in
      let b = floor-bound p t in
      let s = g.settled p t in
      (p, t, omega arith)

  of-message : (m : Message) → IsIn r.order m h.flow.queue → times_in r.order m (messages_of h.done) ≡ 0 → r.order.time m ≡ waits → HasFloor
  of-message m i z e =
      let p = r.order.receiver m in
      let here : IsIn r.order m (h.flow.queue ++ messages_of h.done) = let k = times-append r.order O m h.flow.queue (messages_of h.done) in omega arith in
      let t = g.home m here in
      let at = held-is (slice_get h.members p) t in
      let its = g.members p at.0 at.1 in
      let present = present-here r O V (x.opening p) p (v.parts p) at.0 h g.beside its m refl here in
      let undone = done-times r O V (x.opening p) p (v.parts p) at.0 h g.beside its m refl in
      let a = lowest-message r.order O (suc x.until) (unhandled r.order (v.parts p).tally (v.parts p).done) m
      (unhandled-from r.order O (v.parts p).tally (v.parts p).done m present (undone ∙ z)) in
      let b = floor-bound p t in
      let c = lowest-top r.order O (lowest (suc x.until) (map r.order.time (unhandled r.order (v.parts p).tally (v.parts p).done))) (times_of r.order (v.parts p).tray) in
      let s = g.settled p t in
      (p, t, omega arith)

  pub floor-reached : FirstWaits r.order h → (waits ≡ suc x.until) ⊎ HasFloor
  floor-reached none = go (some-letter r.order O (λ l. is_ours h.members (r.order.receiver l.message) ≡ true) soonest h.flow.tray g.tray_home)
    where
      queued : (soonest ≡ suc x.until) ⊎ ((m : Message) × IsIn r.order m h.flow.queue × (r.order.time m ≡ soonest)) → waits ≡ soonest → (waits ≡ suc x.until) ⊎ HasFloor
      queued (inl e) k = inl (k ∙ e)
      queued (inr q) k = go (least r.order h.flow.queue) refl
        where
          go : (o : Option Message) → least r.order h.flow.queue ≡ o → (waits ≡ suc x.until) ⊎ HasFloor
          go None e = absurd (let a = ap (times_in r.order q.0) (least-none r.order O h.flow.queue e) in let b = q.1 in omega arith)
          go (Some m) e =
              let l = least-some r.order O h.flow.queue m e in
              let a = not_less-time r.order O q.0 m (l.lowest q.0 q.1) in
              let b = lowest-message r.order O (suc x.until) h.flow.queue m l.inside in
              let c : r.order.time q.0 ≡ soonest = q.2 in
              inr (of-message m l.inside (subst (λ o. IfSome o (λ y. times_in r.order y (messages_of h.done) ≡ 0)) e none) (omega arith))

      go : (waits ≡ soonest) ⊎ ((l : Letter) × (is_ours h.members (r.order.receiver l.message) ≡ true) × IsNamed r.order l.message h.flow.tray × (r.order.time l.message ≡ waits)) →
          (waits ≡ suc x.until) ⊎ HasFloor
      go (inl e) = queued (some-message r.order O (suc x.until) h.flow.queue) e
      go (inr k) = inr (of-letter k.0 k.1 k.2 k.3)
