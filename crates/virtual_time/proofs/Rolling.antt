-- Rollback: how a message splits the done events into those that stay and those that are undone.
-- Then rollback as a loop does it: the newest event is undone, one after another, until it comes before the message.
use Rattle.std.proofs.Common.{◌≡◌, ◌⊎◌, inl, inr, arith, true, false, not, cond, List, [], ◌∷◌, ◌++◌, map, reverse, refl, sym, ap, ◌∙◌, append_assoc, append-nil}
use Rattle.std.proofs.lemmas.List.{reverse-append, map-append}
use Rattle.std.proofs.lemmas.List.Elements.{filter-append}
use Rattle.std.proofs.lemmas.Bool.{cases_Bool, not-true, not_from_true}
use Rattle.virtual_time.specs.Law.{Rules, IsOrder, reached, sent, undone, times_in, same, IsIn, IsAscending, before, from_on, IsPresent, minus_of, Part, rolled_back}
use Rattle.virtual_time.specs.declared.letter.Letter.{Letter}
use Rattle.virtual_time.proofs.Order.{same_cases}
use Rattle.virtual_time.proofs.Letters.{counts-other}
use Rattle.virtual_time.proofs.Lists.{in-filter, times-filter, filter-all, filter-none}
use Rattle.virtual_time.proofs.Ascending.{ascending-split}
use Rattle.virtual_time.proofs.Handling.{reached-append, sent-append}

module _ {M S K N : Type 0} (r : Rules M S K N) (O : IsOrder r.order) where
  pub roll-split : (m : M) (ds : List M) → IsAscending r.order ds → before r.order m ds ++ from_on r.order m ds ≡ ds
  roll-split m ds up = ascending-split r.order O (λ x. r.order.less x m) (λ a b h k. O.transitive a b m h k) ds up

  pub roll-history : (m : M) (cs ds : List M) → IsAscending r.order ds → cs ++ ds ≡ (cs ++ before r.order m ds) ++ from_on r.order m ds
  roll-history m cs ds up = ap (λ z. cs ++ z) (sym (roll-split m ds up)) ∙ sym (append_assoc cs (before r.order m ds) (from_on r.order m ds))

  pub roll-stays : (m : M) (ds : List M) (x : M) → IsIn r.order x (before r.order m ds) → (r.order.less x m ≡ true) × IsIn r.order x ds
  roll-stays m ds x j = in-filter r.order O (λ y. r.order.less y m) x ds j

  pub roll-undone : (m : M) (ds : List M) (x : M) → IsIn r.order x (from_on r.order m ds) → (r.order.less x m ≡ false) × IsIn r.order x ds
  roll-undone m ds x j = let a = in-filter r.order O (λ y. not (r.order.less y m)) x ds j in (not-true _ a.0, a.1)

  -- a message that is present and not done after a letter and a rollback to it is the letter's, or was so before, or is not before it
  pub roll-unhandled : (l : Letter M) (tally : List (Letter M)) (ds : List M) (x : M) → IsPresent r.order (l ∷ tally) x → times_in r.order x (before r.order l.message ds) ≡ 0 →
      (x ≡ l.message) ⊎ ((IsPresent r.order tally x × (times_in r.order x ds ≡ 0)) ⊎ (r.order.less x l.message ≡ false))
  roll-unhandled l tally ds x h z = go (same_cases r.order O x l.message) (cases_Bool (r.order.less x l.message))
    where
      go : (x ≡ l.message) ⊎ (same r.order x l.message ≡ false) → (r.order.less x l.message ≡ true) ⊎ (r.order.less x l.message ≡ false) →
          (x ≡ l.message) ⊎ ((IsPresent r.order tally x × (times_in r.order x ds ≡ 0)) ⊎ (r.order.less x l.message ≡ false))
      go (inl k) b = inl k
      go (inr n) (inl t) =
          let a = counts-other r.order O x l tally n in
          let c = times-filter r.order O (λ y. r.order.less y l.message) x ds t in
          inr (inl (let u = a.0 in let v = a.1 in omega arith, omega arith))
      go (inr n) (inr u) = inr (inr u)

module _ {M S K N : Type 0} (r : Rules M S K N) (O : IsOrder r.order) (opening : S) where
  -- the newest event e, behind ds, is undone, and its sends go out as antimessages, the last first
  abbrev pub last_undone : Part M S → List M → M → Part M S
  last_undone part ds e =
      let before_e = reached r opening (part.committed ++ ds) in
      record {
        committed = part.committed;
        done = ds;
        state = r.undo part.state e (r.kept before_e e);
        tally = part.tally;
        tray = part.tray;
        outbox = part.outbox ++ map minus_of (reverse (r.sends before_e e));
      }

  undone-push : (s : S) (ms : List M) (e : M) (now : S) → undone r s (ms ++ e ∷ []) now ≡ undone r s ms (r.undo now e (r.kept (reached r s ms) e))
  undone-push s [] e now = refl
  undone-push s (m ∷ ms) e now = ap (λ z. r.undo z m (r.kept s m)) (undone-push (r.after s m) ms e now)

  pub roll-last : (part : Part M S) (ds : List M) (e m : M) → part.done ≡ ds ++ e ∷ [] → IsAscending r.order ds → r.order.less e m ≡ false →
      rolled_back r opening m part ≡ rolled_back r opening m (last_undone part ds e)
  roll-last part ds e m d up late = λ i. record {
    committed = part.committed;
    done = kept i;
    state = state i;
    tally = part.tally;
    tray = part.tray;
    outbox = outbox i;
  }
    where
      kept : before r.order m part.done ≡ before r.order m ds
      kept =
          ap (before r.order m) d ∙ (filter-append (λ x. r.order.less x m) ds (e ∷ []) ∙
          (ap (λ b. before r.order m ds ++ cond b (e ∷ []) []) late ∙ append-nil (before r.order m ds)))

      rest : from_on r.order m part.done ≡ from_on r.order m ds ++ e ∷ []
      rest = ap (from_on r.order m) d ∙ (filter-append (λ x. not (r.order.less x m)) ds (e ∷ []) ∙ ap (λ b. from_on r.order m ds ++ cond (not b) (e ∷ []) []) late)

      base : reached r opening (part.committed ++ before r.order m part.done) ≡ reached r opening (part.committed ++ before r.order m ds)
      base = ap (λ z. reached r opening (part.committed ++ z)) kept

      before_e : reached r (reached r opening (part.committed ++ before r.order m ds)) (from_on r.order m ds) ≡ reached r opening (part.committed ++ ds)
      before_e =
          sym (reached-append r opening (part.committed ++ before r.order m ds) (from_on r.order m ds)) ∙
          ap (reached r opening) (append_assoc part.committed (before r.order m ds) (from_on r.order m ds) ∙
          ap (λ z. part.committed ++ z) (roll-split r O m ds up))

      state : undone r (reached r opening (part.committed ++ before r.order m part.done)) (from_on r.order m part.done) part.state
          ≡ undone r (reached r opening (part.committed ++ before r.order m ds)) (from_on r.order m ds) (r.undo part.state e (r.kept (reached r opening (part.committed ++ ds)) e))
      state =
          ap (λ z. undone r z (from_on r.order m part.done) part.state) base ∙
          (ap (λ z. undone r (reached r opening (part.committed ++ before r.order m ds)) z part.state) rest ∙
          (undone-push (reached r opening (part.committed ++ before r.order m ds)) (from_on r.order m ds) e part.state ∙
          ap (λ z. undone r (reached r opening (part.committed ++ before r.order m ds)) (from_on r.order m ds) (r.undo part.state e (r.kept z e))) before_e))

      sends : sent r (reached r opening (part.committed ++ before r.order m part.done)) (from_on r.order m part.done)
          ≡ sent r (reached r opening (part.committed ++ before r.order m ds)) (from_on r.order m ds) ++ r.sends (reached r opening (part.committed ++ ds)) e
      sends =
          ap (λ z. sent r z (from_on r.order m part.done)) base ∙
          (ap (λ z. sent r (reached r opening (part.committed ++ before r.order m ds)) z) rest ∙
          (sent-append r (reached r opening (part.committed ++ before r.order m ds)) (from_on r.order m ds) (e ∷ []) ∙
          ap (λ z. sent r (reached r opening (part.committed ++ before r.order m ds)) (from_on r.order m ds) ++ z)
          (append-nil _ ∙ ap (λ z. r.sends z e) before_e)))

      outbox : part.outbox ++ map minus_of (reverse (sent r (reached r opening (part.committed ++ before r.order m part.done)) (from_on r.order m part.done)))
          ≡ (part.outbox ++ map minus_of (reverse (r.sends (reached r opening (part.committed ++ ds)) e))) ++ map minus_of (reverse (sent r (reached r opening (part.committed ++ before r.order m ds)) (from_on r.order m ds)))
      outbox =
          ap (λ z. part.outbox ++ map minus_of z)
          (ap reverse sends ∙ reverse-append (sent r (reached r opening (part.committed ++ before r.order m ds)) (from_on r.order m ds)) (r.sends (reached r opening (part.committed ++ ds)) e)) ∙
          (ap (λ z. part.outbox ++ z) (map-append minus_of (reverse (r.sends (reached r opening (part.committed ++ ds)) e)) (reverse (sent r (reached r opening (part.committed ++ before r.order m ds)) (from_on r.order m ds)))) ∙
          sym (append_assoc part.outbox _ _))

  -- where all done events come before the message, there is nothing to undo
  pub roll-none : (part : Part M S) (m : M) → ((x : M) → IsIn r.order x part.done → r.order.less x m ≡ true) → rolled_back r opening m part ≡ part
  roll-none part m h = λ i. record {
    committed = part.committed;
    done = kept i;
    state = state i;
    tally = part.tally;
    tray = part.tray;
    outbox = outbox i;
  }
    where
      kept : before r.order m part.done ≡ part.done
      kept = filter-all r.order O (λ x. r.order.less x m) part.done h

      none : from_on r.order m part.done ≡ []
      none = filter-none r.order O (λ x. not (r.order.less x m)) part.done (λ x j. not_from_true _ (h x j))

      state : undone r (reached r opening (part.committed ++ before r.order m part.done)) (from_on r.order m part.done) part.state ≡ part.state
      state = ap (λ z. undone r (reached r opening (part.committed ++ before r.order m part.done)) z part.state) none

      outbox : part.outbox ++ map minus_of (reverse (sent r (reached r opening (part.committed ++ before r.order m part.done)) (from_on r.order m part.done))) ≡ part.outbox
      outbox = ap (λ z. part.outbox ++ map minus_of (reverse (sent r (reached r opening (part.committed ++ before r.order m part.done)) z))) none ∙ append-nil part.outbox
