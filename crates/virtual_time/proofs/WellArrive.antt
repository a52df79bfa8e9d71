-- One process alone: a letter arrives, and the process rolls back where the letter toggles its message.
use Rattle.std.proofs.Common.{◌≡◌, ◌⊎◌, inl, inr, Bool, true, false, not, cond, List, [], ◌∷◌, ◌++◌, map, reverse, refl, sym, ap, ◌∙◌, subst, arith}
use Rattle.virtual_time.specs.Law.{Rules, IsOrder, reached, sent, undone, times_in, IsIn, before, from_on, minus_of, IsPresent, is_present, Part, rolled_back, tallied, arrived, arrive, IsWell, SendsKept, HoldsAlong}
use Rattle.virtual_time.specs.declared.letter.Letter.{Letter}
use Rattle.virtual_time.proofs.Order.{less-different, less-not_less}
use Rattle.virtual_time.proofs.Lists.{times-append, times-reverse}
use Rattle.virtual_time.proofs.Ascending.{ascending-filter}
use Rattle.virtual_time.proofs.Letters.{counts-other, pluses-append, minuses-append, pluses-minus, minuses-minus}
use Rattle.virtual_time.proofs.Presence.{present-true, present-from, present-same}
use Rattle.virtual_time.proofs.Handling.{reached-append, sent-append, along-halves, undone-along}
use Rattle.virtual_time.proofs.Rolling.{roll-split, roll-history, roll-stays, roll-unhandled}
use Rattle.virtual_time.proofs.WellStep.{IsWellStep, no_step-well}

module _ {M S K N : Type 0} (r : Rules M S K N) (O : IsOrder r.order) (Good : S → Type 0)
    (law : (s : S) (e : M) → Good s → r.undo (r.after s e) e (r.kept s e) ≡ s) (opening : S) where
  module _ (part : Part M S) (w : IsWell r Good opening part) (l : Letter M) (rest : List (Letter M)) where
    -- where presence stays, nothing is undone
    tallied-well : is_present r.order part.tally l.message ≡ is_present r.order (l ∷ part.tally) l.message → IsWellStep r Good opening part (tallied r l rest part)
    tallied-well e = record {
      well = record {
        state_is = w.state_is;
        good = w.good;
        ascending = w.ascending;
        done_present = λ m j. present-true r.order O _ m (sym (same_presence m) ∙ present-from r.order O _ m (w.done_present m j));
        done_first = λ m h z d j. w.done_first m (present-true r.order O _ m (same_presence m ∙ present-from r.order O _ m h)) z d j;
      };
      sends = λ m. refl;
    }
      where
        same_presence : (m : M) → is_present r.order part.tally m ≡ is_present r.order (l ∷ part.tally) m
        same_presence = present-same r.order O l part.tally e

    abbrev base : S
    base = reached r opening (part.committed ++ before r.order l.message part.done)

    history-is : part.committed ++ part.done ≡ (part.committed ++ before r.order l.message part.done) ++ from_on r.order l.message part.done
    history-is = roll-history r O l.message part.committed part.done w.ascending

    along-both : HoldsAlong r Good (reached r opening part.committed) (before r.order l.message part.done)
        × HoldsAlong r Good (reached r (reached r opening part.committed) (before r.order l.message part.done)) (from_on r.order l.message part.done)
    along-both = along-halves r Good (reached r opening part.committed) (before r.order l.message part.done) (from_on r.order l.message part.done)
        (subst (λ z. HoldsAlong r Good (reached r opening part.committed) z) (sym (roll-split r O l.message part.done w.ascending)) w.good)

    state-base : undone r base (from_on r.order l.message part.done) part.state ≡ base
    state-base =
        ap (λ z. undone r base (from_on r.order l.message part.done) z)
        (w.state_is ∙ (ap (reached r opening) history-is ∙ reached-append r opening (part.committed ++ before r.order l.message part.done) (from_on r.order l.message part.done)))
        ∙ undone-along r Good law base (from_on r.order l.message part.done)
        (subst (λ z. HoldsAlong r Good z (from_on r.order l.message part.done)) (sym (reached-append r opening part.committed (before r.order l.message part.done))) along-both.1)

    rolled-well : IsWellStep r Good opening part (rolled_back r opening l.message (tallied r l rest part))
    rolled-well = record {
      well = record {
        state_is = state-base;
        good = along-both.0;
        ascending = ascending-filter r.order O (λ x. r.order.less x l.message) part.done w.ascending;
        done_present = λ m j.
            let k = roll-stays r O l.message part.done m j in
            let a = counts-other r.order O m l part.tally (less-different r.order O m l.message k.0) in
            let b = w.done_present m k.1 in
            let c = a.0 in let d = a.1 in
            omega arith;
        done_first = λ m h z d j. first m d j (roll-unhandled r O l part.tally part.done m h z);
      };
      sends = moved;
    }
      where
        first : (m d : M) → IsIn r.order d (before r.order l.message part.done) →
            (m ≡ l.message) ⊎ ((IsPresent r.order part.tally m × (times_in r.order m part.done ≡ 0)) ⊎ (r.order.less m l.message ≡ false)) → r.order.less d m ≡ true
        first m d j (inl k) = subst (λ x. r.order.less d x ≡ true) (sym k) (roll-stays r O l.message part.done d j).0
        first m d j (inr (inl k)) = w.done_first m k.0 k.1 d (roll-stays r O l.message part.done d j).1
        first m d j (inr (inr k)) = less-not_less r.order O d l.message m (roll-stays r O l.message part.done d j).0 k

        moved : (m : M) → SendsKept r opening part (rolled_back r opening l.message (tallied r l rest part)) m
        moved m =
            let u = sent r base (from_on r.order l.message part.done) in
            let a = pluses-append r.order O m part.outbox (map minus_of (reverse u)) in
            let b = minuses-append r.order O m part.outbox (map minus_of (reverse u)) in
            let c = pluses-minus r.order O m (reverse u) in
            let d = minuses-minus r.order O m (reverse u) in
            let h = times-reverse r.order O m u in
            let j = ap (times_in r.order m) (ap (sent r opening) history-is ∙ sent-append r opening (part.committed ++ before r.order l.message part.done) (from_on r.order l.message part.done)) in
            let k = times-append r.order O m (sent r opening (part.committed ++ before r.order l.message part.done)) u in
            omega arith

    arrived-well : IsWellStep r Good opening part (arrived r opening part (l ∷ rest))
    arrived-well = go (is_present r.order part.tally l.message) refl (is_present r.order (l ∷ part.tally) l.message) refl
      where
        go : (b : Bool) → is_present r.order part.tally l.message ≡ b → (c : Bool) → is_present r.order (l ∷ part.tally) l.message ≡ c →
            IsWellStep r Good opening part (cond (cond b (not c) c) (rolled_back r opening l.message (tallied r l rest part)) (tallied r l rest part))
        go true x true y = tallied-well (x ∙ sym y)
        go true x false y = rolled-well
        go false x true y = rolled-well
        go false x false y = tallied-well (x ∙ sym y)

  pub arrive-well : (part : Part M S) → IsWell r Good opening part → IsWellStep r Good opening part (arrive r opening part)
  arrive-well part w = go part.tray
    where
      go : (ls : List (Letter M)) → IsWellStep r Good opening part (arrived r opening part ls)
      go [] = no_step-well r Good opening part w
      go (l ∷ rest) = arrived-well part w l rest
