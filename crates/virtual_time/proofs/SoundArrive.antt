-- One process inside a world: a letter arrives.
use Rattle.std.proofs.Common.{◌≡◌, ℕ, ◌<◌, ◌≤◌, ◌⊎◌, inl, inr, Bool, true, false, cond, List, [], ◌∷◌, ◌++◌, map, reverse, sym, ap, subst, arith, refl}
use Rattle.virtual_time.specs.Law.{reached, sent, same, times_in, IsIn, IsAscending, before, from_on, Simulation, Laws, IsReached, minus_of, pluses, minuses, IsNamed, IsPresent, Part, rolled_back, tallied, is_toggled, arrived, arrive, IsWell}
use Rattle.virtual_time.specs.declared.letter.Letter.{Letter}
use Rattle.virtual_time.proofs.Order.{same_cases, different, not_less-time}
use Rattle.virtual_time.proofs.Lists.{times-append, times-reverse}
use Rattle.virtual_time.proofs.Ascending.{ascending-left}
use Rattle.virtual_time.proofs.Letters.{counts-other, named-head, named-cons, named-append, named-minus}
use Rattle.virtual_time.proofs.Sends.{sends-later, sends-sender, sends-receiver}
use Rattle.virtual_time.proofs.Rolling.{roll-history, roll-undone, roll-unhandled}
use Rattle.virtual_time.proofs.WellStep.{IsWellStep}
use Rattle.virtual_time.proofs.WellArrive.{arrive-well}
use Rattle.virtual_time.proofs.Sound.{IsSound, InHandKept, IsStep, no-step, law-of}

module _ {M S K N : Type 0} (f : Simulation M S K N) (L : Laws f) where
  module _ (g floor p : ℕ) (i : p < f.processes) (part : Part M S) (s : IsSound f L g floor p part)
      (l : Letter M) (rest : List (Letter M)) (e : part.tray ≡ l ∷ rest) where
    in_tray : IsNamed f.rules.order l.message part.tray
    in_tray = subst (λ ls. IsNamed f.rules.order l.message ls) (sym e) (named-head f.rules.order L.order l rest)

    letter-late : floor ≤ f.rules.order.time l.message
    letter-late = s.tray_late l.message in_tray

    rest-named : (m : M) → IsNamed f.rules.order m rest → IsNamed f.rules.order m part.tray
    rest-named m h = subst (λ ls. IsNamed f.rules.order m ls) (sym e) (let a : IsNamed f.rules.order m (l ∷ rest) = omega arith in a)

    committed-none : (m : M) → IsIn f.rules.order m part.committed → pluses f.rules.order m (l ∷ part.tally) ≡ minuses f.rules.order m (l ∷ part.tally)
    committed-none m j =
        let n : same f.rules.order m l.message ≡ false =
        different f.rules.order L.order m l.message (λ k. let a = letter-late in let b = s.low in let c = ap f.rules.order.time k in let d = s.committed_low m j in absurd (omega arith)) in
        let a = counts-other f.rules.order L.order m l part.tally n in
        let b = s.committed_none m j in
        let c = a.0 in let d = a.1 in
        omega arith

    tally-here : (m : M) → IsNamed f.rules.order m (l ∷ part.tally) → f.rules.order.receiver m ≡ p
    tally-here m h = elim (named-cons f.rules.order L.order m l part.tally h)
        [ inl k ↦ s.tray_here m (subst (λ x. IsNamed f.rules.order x part.tray) (sym k) in_tray) | inr k ↦ s.tally_here m k ]

    -- the letter is only tallied

    tallied-unhandled : (m : M) → IsPresent f.rules.order (l ∷ part.tally) m → times_in f.rules.order m part.done ≡ 0 → floor ≤ f.rules.order.time m
    tallied-unhandled m h z = elim (same_cases f.rules.order L.order m l.message) [
      | inl k ↦ subst (λ x. floor ≤ f.rules.order.time x) (sym k) letter-late
      | inr n ↦ (let a = counts-other f.rules.order L.order m l part.tally n in let b = a.0 in let c = a.1 in s.unhandled_late m (omega arith) z)
    ]

    tallied-sound : IsWell f.rules (IsReached f p) (f.opening p) (tallied f.rules l rest part) → IsSound f L g floor p (tallied f.rules l rest part)
    tallied-sound w = record {
      well = w;
      ascending = s.ascending;
      here = s.here;
      committed_low = s.committed_low;
      committed_none = committed-none;
      unhandled_late = tallied-unhandled;
      tray_late = λ m h. s.tray_late m (rest-named m h);
      outbox_late = s.outbox_late;
      low = s.low;
      tally_here = tally-here;
      tray_here = λ m h. s.tray_here m (rest-named m h);
      outbox_from = s.outbox_from;
    }

    -- the process rolls back: what is undone is not before the letter, so neither is what that sent

    abbrev base : S
    base = reached f.rules (f.opening p) (part.committed ++ before f.rules.order l.message part.done)

    base-reached : IsReached f p base
    base-reached = (part.committed ++ before f.rules.order l.message part.done, refl)

    history-is : part.committed ++ part.done ≡ (part.committed ++ before f.rules.order l.message part.done) ++ from_on f.rules.order l.message part.done
    history-is = roll-history f.rules L.order l.message part.committed part.done s.well.ascending

    kept-history : (m : M) → IsIn f.rules.order m (part.committed ++ before f.rules.order l.message part.done) → IsIn f.rules.order m (part.committed ++ part.done)
    kept-history m j = subst (λ z. IsIn f.rules.order m z) (sym history-is)
        (let a = times-append f.rules.order L.order m (part.committed ++ before f.rules.order l.message part.done) (from_on f.rules.order l.message part.done) in omega arith)

    undone-late : (m : M) → IsIn f.rules.order m (from_on f.rules.order l.message part.done) → floor ≤ f.rules.order.time m
    undone-late m j = let a = not_less-time f.rules.order L.order m l.message (roll-undone f.rules L.order l.message part.done m j).0 in let b = letter-late in omega arith

    antis-in : (m : M) → IsNamed f.rules.order m (map minus_of (reverse (sent f.rules base (from_on f.rules.order l.message part.done)))) →
        IsIn f.rules.order m (sent f.rules base (from_on f.rules.order l.message part.done))
    antis-in m h =
        let a = named-minus f.rules.order L.order m (reverse (sent f.rules base (from_on f.rules.order l.message part.done))) h in
        let b = times-reverse f.rules.order L.order m (sent f.rules base (from_on f.rules.order l.message part.done)) in
        omega arith

    rolled-unhandled : (m : M) →
        (m ≡ l.message) ⊎ ((IsPresent f.rules.order part.tally m × (times_in f.rules.order m part.done ≡ 0)) ⊎ (f.rules.order.less m l.message ≡ false)) → floor ≤ f.rules.order.time m
    rolled-unhandled m (inl k) = subst (λ x. floor ≤ f.rules.order.time x) (sym k) letter-late
    rolled-unhandled m (inr (inl k)) = s.unhandled_late m k.0 k.1
    rolled-unhandled m (inr (inr k)) = let a = not_less-time f.rules.order L.order m l.message k in let b = letter-late in omega arith

    rolled-sound : IsWell f.rules (IsReached f p) (f.opening p) (rolled_back f.rules (f.opening p) l.message (tallied f.rules l rest part)) →
        IsSound f L g floor p (rolled_back f.rules (f.opening p) l.message (tallied f.rules l rest part))
    rolled-sound w = record {
      well = w;
      ascending = ascending-left f.rules.order L.order (part.committed ++ before f.rules.order l.message part.done) (from_on f.rules.order l.message part.done) (subst (λ z. IsAscending f.rules.order z) history-is s.ascending);
      here = λ m j. s.here m (kept-history m j);
      committed_low = s.committed_low;
      committed_none = committed-none;
      unhandled_late = λ m h z. rolled-unhandled m (roll-unhandled f.rules L.order l part.tally part.done m h z);
      tray_late = λ m h. s.tray_late m (rest-named m h);
      outbox_late = λ m h. elim (named-append f.rules.order L.order m part.outbox _ h) [
        | inl k ↦ s.outbox_late m k
        | inr k ↦ (let a = sends-later f L p i floor base base-reached (from_on f.rules.order l.message part.done) undone-late m (antis-in m k) in omega arith)
      ];
      low = s.low;
      tally_here = tally-here;
      tray_here = λ m h. s.tray_here m (rest-named m h);
      outbox_from = λ m h. elim (named-append f.rules.order L.order m part.outbox _ h) [
        | inl k ↦ s.outbox_from m k
        | inr k ↦ (
          sends-sender f L p i base base-reached (from_on f.rules.order l.message part.done) m (antis-in m k),
          sends-receiver f L p i base base-reached (from_on f.rules.order l.message part.done) m (antis-in m k),
        )
      ];
    }

    arrived-step : IsWellStep f.rules (IsReached f p) (f.opening p) part (arrived f.rules (f.opening p) part (l ∷ rest)) →
        IsStep f L g floor p part (arrived f.rules (f.opening p) part (l ∷ rest))
    arrived-step w = go (is_toggled f.rules.order l part.tally) w
      where
        in-hand : (m : M) → InHandKept f L part (tallied f.rules l rest part) m
        in-hand m = let a = ap (pluses f.rules.order m) e in let b = ap (minuses f.rules.order m) e in omega arith

        go : (b : Bool) → IsWellStep f.rules (IsReached f p) (f.opening p) part (cond b (rolled_back f.rules (f.opening p) l.message (tallied f.rules l rest part)) (tallied f.rules l rest part)) →
            IsStep f L g floor p part (cond b (rolled_back f.rules (f.opening p) l.message (tallied f.rules l rest part)) (tallied f.rules l rest part))
        go true v = record { sound = rolled-sound v.well; in_hand = in-hand; sends = v.sends }
        go false v = record { sound = tallied-sound v.well; in_hand = in-hand; sends = v.sends }

  pub arrive-step : (g floor p : ℕ) → p < f.processes → (part : Part M S) → IsSound f L g floor p part →
      IsStep f L g floor p part (arrive f.rules (f.opening p) part)
  arrive-step g floor p i part s =
      go part.tray refl (arrive-well f.rules L.order (IsReached f p) (law-of f L p i) (f.opening p) part s.well)
    where
      go : (ls : List (Letter M)) → part.tray ≡ ls → IsWellStep f.rules (IsReached f p) (f.opening p) part (arrived f.rules (f.opening p) part ls) →
          IsStep f L g floor p part (arrived f.rules (f.opening p) part ls)
      go [] e w = no-step f L g floor p part s
      go (l ∷ rest) e w = arrived-step g floor p i part s l rest e w
