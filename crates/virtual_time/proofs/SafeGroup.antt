-- A group that has seen GVT at some moment stays safe below it, whatever it does alone.
use Rattle.std.proofs.Common.{◌≡◌, ℕ, ◌<◌, ◌≤◌, inl, inr, Bool, true, false, cond, nat_lt, ◌&&◌, List, [], ◌∷◌, ◌++◌, map, reverse, remove, Option, Some, None, refl, sym, subst, arith, slice_get, ltb-true}
use Rattle.std.proofs.lemmas.Bool.{and_parts, both_ways}
use Rattle.virtual_time.specs.Law.{reached, sent, IsIn, before, from_on, minus_of, IsNamed, received_by, Part, tallied, is_toggled, rolled_back, arrived, arrive, next_of, handled, run_one, can_commit, oldest_committed, commit_oldest, Simulation, Laws, World, taken, with_part, is_early, is_enabled, effect, step, run, Deliver, Emptying, Moves, IsSafePart, AreBy, AreDone, IsSafeGroup, is_by}
use Rattle.virtual_time.specs.declared.letter.Letter.{Letter}
use Rattle.virtual_time.specs.declared.step.Step.{Step}
use Rattle.virtual_time.specs.declared.step.Step.TheVariants.{Take, Arrive, Run, Post, Gvt, Commit}
use Rattle.virtual_time.specs.declared.moved.Move.TheVariants.{Arrived, Ran, Committed}
use Rattle.virtual_time.proofs.Order.{not_less-time}
use Rattle.virtual_time.proofs.Lists.{times-reverse}
use Rattle.virtual_time.proofs.Letters.{named-head, named-append, named-plus, named-minus, letter-others, received-mine, received-here}
use Rattle.virtual_time.proofs.Sends.{sends-later}
use Rattle.virtual_time.proofs.Rolling.{roll-undone}
use Rattle.virtual_time.proofs.Reading.{next-is}
use Rattle.virtual_time.proofs.Kept.{put_elim}
use Rattle.virtual_time.proofs.SafePart.{acted-safe}
use Rattle.virtual_time.proofs.Groups.{step-does}

module _ {M S K N : Type 0} (f : Simulation M S K N) (L : Laws f) (ours : ℕ → Bool) (g : ℕ) where
  -- no letter of these is earlier than g
  abbrev AreLate : List (Letter M) → Type 0
  AreLate ls = (m : M) → IsNamed f.rules.order m ls → g ≤ f.rules.order.time m

  module _ (p : ℕ) (i : p < f.processes) (part : Part M S) (s : IsSafePart f p g part) (late : AreLate part.outbox) where
    -- a letter arrives: what is undone is not earlier than it, so neither is what that sent
    arrive-late : AreLate (arrive f.rules (f.opening p) part).outbox
    arrive-late = go part.tray refl
      where
        go : (ls : List (Letter M)) → part.tray ≡ ls → AreLate (arrived f.rules (f.opening p) part ls).outbox
        go [] e = late
        go (l ∷ rest) e = pick (is_toggled f.rules.order l part.tally)
          where
            letter-late : g ≤ f.rules.order.time l.message
            letter-late = s.tray l.message (subst (λ ls. IsNamed f.rules.order l.message ls) (sym e) (named-head f.rules.order L.order l rest))

            base : S
            base = reached f.rules (f.opening p) (part.committed ++ before f.rules.order l.message part.done)

            undone-late : (m : M) → IsIn f.rules.order m (from_on f.rules.order l.message part.done) → g ≤ f.rules.order.time m
            undone-late m j = let a = not_less-time f.rules.order L.order m l.message (roll-undone f.rules L.order l.message part.done m j).0 in let b = letter-late in omega arith

            antis-in : (m : M) → IsNamed f.rules.order m (map minus_of (reverse (sent f.rules base (from_on f.rules.order l.message part.done)))) →
                IsIn f.rules.order m (sent f.rules base (from_on f.rules.order l.message part.done))
            antis-in m h =
                let a = named-minus f.rules.order L.order m (reverse (sent f.rules base (from_on f.rules.order l.message part.done))) h in
                let b = times-reverse f.rules.order L.order m (sent f.rules base (from_on f.rules.order l.message part.done)) in
                omega arith

            pick : (b : Bool) → AreLate (cond b (rolled_back f.rules (f.opening p) l.message (tallied f.rules l rest part)) (tallied f.rules l rest part)).outbox
            pick true m h = elim (named-append f.rules.order L.order m part.outbox _ h) [
              | inl k ↦ late m k
              | inr k ↦ (let a = sends-later f L p i g base (part.committed ++ before f.rules.order l.message part.done, refl) (from_on f.rules.order l.message part.done) undone-late m (antis-in m k) in omega arith)
            ]
            pick false m h = late m h

    run-late : AreLate (run_one f.rules part).outbox
    run-late = go (next_of f.rules.order part) refl
      where
        go : (o : Option M) → next_of f.rules.order part ≡ o → AreLate (handled f.rules part o).outbox
        go None e x h = late x h
        go (Some m) e x h = elim (named-append f.rules.order L.order x part.outbox _ h) [
          | inl k ↦ late x k
          | inr k ↦ (
              let n = next-is f.rules L.order part m e in
              let a = s.unhandled m n.present n.not_done in
              let b = L.later p i part.state (part.committed ++ part.done, s.well.state_is) m x (named-plus f.rules.order L.order x (f.rules.sends part.state m) k) in
              omega arith)
        ]

    commit-late : AreLate (commit_oldest f.rules part).outbox
    commit-late = go part.done
      where
        pick : (b : Bool) (ms : List M) → AreLate (cond b (oldest_committed f.rules part ms) part).outbox
        pick true [] = late
        pick true (m ∷ rest) = late
        pick false ms = late

        go : (ms : List M) → AreLate (cond (can_commit f.rules.order part ms) (oldest_committed f.rules part ms) part).outbox
        go ms = pick (can_commit f.rules.order part ms) ms

  -- one process of the group, by a step of its own
  part-safe : (v : World M S) → IsSafeGroup f ours g v → (p : ℕ) → ours p ≡ true → (new : Part M S) → IsSafePart f p g new → AreLate new.outbox → IsSafeGroup f ours g (with_part f p new v)
  part-safe v k p o new s late = record {
    parts = put_elim (λ q z. ours q ≡ true → IsSafePart f q g z) p new v.parts (λ j. s) (λ q n. k.parts q);
    outboxes = put_elim (λ q z. ours q ≡ true → AreLate z.outbox) p new v.parts (λ j. late) (λ q n. k.outboxes q);
    mail = k.mail;
    seen = k.seen;
  }

  effect-safe : (x : Step) (v : World M S) → IsSafeGroup f ours g v → is_by ours x ≡ true → is_enabled f x v ≡ true → IsSafeGroup f ours g (effect f x v)
  unfolding is_enabled effect
  effect-safe (Take p n) v k o e = go (slice_get (v.mail p) n) refl
    where
      i : p < f.processes
      i = ltb-true _ _ (and_parts _ _ e).0

      go : (l : Option (Letter M)) → slice_get (v.mail p) n ≡ l → IsSafeGroup f ours g (taken f p n v l)
      go None d = k
      go (Some l) d = record {
        parts = put_elim (λ q z. ours q ≡ true → IsSafePart f q g z) p _ v.parts (λ j. acted-safe f L p g i (Deliver l) (v.parts p) (k.parts p o) letter-late) (λ q m. k.parts q);
        outboxes = put_elim (λ q z. ours q ≡ true → AreLate z.outbox) p _ v.parts (λ j. k.outboxes p o) (λ q m. k.outboxes q);
        mail = put_elim (λ q ls. AreLate ls) p (remove (v.mail p) n) v.mail (λ m h. k.mail p m (let a = letter-others f.rules.order L.order n (v.mail p) l d m in let b = a.0 in let c = a.1 in omega arith)) (λ q m. k.mail q);
        seen = k.seen;
      }
        where
          letter-late : g ≤ f.rules.order.time l.message
          letter-late = k.mail p l.message
              (let a = letter-others f.rules.order L.order n (v.mail p) l d l.message in let b = a.0 in let c = a.1 in
              let h = named-head f.rules.order L.order l (remove (v.mail p) n) in omega arith)
  effect-safe (Arrive p) v k o e =
      let i = ltb-true p f.processes (and_parts _ _ e).0 in
      part-safe v k p o _ (acted-safe f L p g i (Moves Arrived) (v.parts p) (k.parts p o) tt) (arrive-late p i (v.parts p) (k.parts p o) (k.outboxes p o))
  effect-safe (Run p) v k o e =
      let i = ltb-true p f.processes (and_parts _ _ e).0 in
      part-safe v k p o _ (acted-safe f L p g i (Moves Ran) (v.parts p) (k.parts p o) tt) (run-late p i (v.parts p) (k.parts p o) (k.outboxes p o))
  effect-safe (Post p) v k o e = record {
    parts = put_elim (λ q z. ours q ≡ true → IsSafePart f q g z) p _ v.parts (λ j. acted-safe f L p g (ltb-true p f.processes e) Emptying (v.parts p) (k.parts p o) tt) (λ q m. k.parts q);
    outboxes = put_elim (λ q z. ours q ≡ true → AreLate z.outbox) p _ v.parts (λ j m h. absurd (omega arith)) (λ q m. k.outboxes q);
    mail = λ q m h. elim (named-append f.rules.order L.order m (v.mail q) (received_by f.rules.order q (v.parts p).outbox) h) [
      | inl a ↦ k.mail q m a
      | inr a ↦ k.outboxes p o m
          (let b = received-mine f.rules.order L.order q m (received-here f.rules.order L.order q m (v.parts p).outbox a) (v.parts p).outbox in
          let c = b.0 in let d = b.1 in omega arith)
    ];
    seen = k.seen;
  }
  effect-safe Gvt v k o e = absurd (both_ways false refl o)
  effect-safe (Commit p) v k o e =
      let a = and_parts (nat_lt p f.processes) (is_early f v.gvt (v.parts p).done && can_commit f.rules.order (v.parts p) (v.parts p).done) e in
      let i = ltb-true p f.processes a.0 in
      let b = subst (λ h. is_early f h (v.parts p).done ≡ true) k.seen (and_parts _ _ a.1).0 in
      part-safe v k p o _ (acted-safe f L p g i (Moves Committed) (v.parts p) (k.parts p o) b) (commit-late p i (v.parts p) (k.parts p o) (k.outboxes p o))

  pub group-safe : (xs : List Step) (v : World M S) → IsSafeGroup f ours g v → AreBy ours xs → AreDone f xs v → IsSafeGroup f ours g (run f xs v)
  unfolding run
  group-safe [] v k o d = k
  group-safe (x ∷ xs) v k o d =
      group-safe xs (step f x v) (subst (λ z. IsSafeGroup f ours g z) (sym (step-does f ours x v d.0)) (effect-safe x v k o.0 d.0)) o.1 d.1
