-- One process inside a world: its oldest done event is committed, which is earlier than GVT and has the count 1.
use Rattle.std.proofs.Common.{◌≡◌, ℕ, ◌+◌, ◌<◌, ◌==◌, inl, inr, Bool, true, false, cond, List, [], ◌∷◌, ◌++◌, refl, sym, ap, subst, arith, eqb-true, ltb-true}
use Rattle.virtual_time.specs.Law.{one_if, times_in, IsIn, IsAscending, Simulation, Laws, IsReached, minus_of, pluses, minuses, Part, can_commit, oldest_committed, commit_oldest, is_early}
use Rattle.virtual_time.proofs.Order.{same-refl, less-different}
use Rattle.virtual_time.proofs.Lists.{times-append, in-head, in-push}
use Rattle.virtual_time.proofs.Ascending.{ascending-across}
use Rattle.virtual_time.proofs.Letters.{counts-other, named-cons}
use Rattle.virtual_time.proofs.Presence.{present-taken_back}
use Rattle.virtual_time.proofs.WellStep.{IsWellStep}
use Rattle.virtual_time.proofs.WellCommit.{commit-history, commit-well}
use Rattle.virtual_time.proofs.Sound.{IsSound, IsStep, no-step, law-of}

module _ {M S K N : Type 0} (f : Simulation M S K N) (L : Laws f) where
  module _ (g floor p : ℕ) (part : Part M S) (s : IsSound f L g floor p part) (m : M) (rest : List M) (e : part.done ≡ m ∷ rest)
      (early : f.rules.order.time m < g) (one_left : pluses f.rules.order m part.tally ≡ minuses f.rules.order m part.tally + 1) where
    history-same : (part.committed ++ m ∷ []) ++ rest ≡ part.committed ++ part.done
    history-same = commit-history part.committed m rest part.done e

    m-done : IsIn f.rules.order m part.done
    m-done = subst (λ z. IsIn f.rules.order m z) (sym e) (in-head f.rules.order L.order m rest)

    counts-m : pluses f.rules.order m (minus_of m ∷ part.tally) ≡ minuses f.rules.order m (minus_of m ∷ part.tally)
    counts-m = let a = ap one_if (same-refl f.rules.order L.order m) in let b = one_left in omega arith

    committed-step : IsWellStep f.rules (IsReached f p) (f.opening p) part (oldest_committed f.rules part (m ∷ rest)) → IsStep f L g floor p part (oldest_committed f.rules part (m ∷ rest))
    committed-step w = record {
      sound = record {
        well = w.well;
        ascending = subst (λ z. IsAscending f.rules.order z) (sym history-same) s.ascending;
        here = λ x j. s.here x (subst (λ z. IsIn f.rules.order x z) history-same j);
        committed_low = λ x j. elim (in-push f.rules.order L.order x m part.committed j) [ inl k ↦ s.committed_low x k | inr k ↦ subst (λ z. f.rules.order.time z < g) (sym k) early ];
        committed_none = λ x j. elim (in-push f.rules.order L.order x m part.committed j) [
          | inl k ↦ (let a = counts-other f.rules.order L.order x (minus_of m) part.tally (less-different f.rules.order L.order x m (ascending-across f.rules.order L.order part.committed part.done s.ascending x m k m-done)) in
              let b = s.committed_none x k in let c = a.0 in let d = a.1 in omega arith)
          | inr k ↦ subst (λ z. pluses f.rules.order z (minus_of m ∷ part.tally) ≡ minuses f.rules.order z (minus_of m ∷ part.tally)) (sym k) counts-m
        ];
        unhandled_late = λ x h z.
            let a = present-taken_back f.rules.order L.order x m part.tally one_left h in
            s.unhandled_late x a.1 (let b = ap (times_in f.rules.order x) e in let c = ap one_if a.0 in omega arith);
        tray_late = s.tray_late;
        outbox_late = s.outbox_late;
        low = s.low;
        tally_here = λ x h. elim (named-cons f.rules.order L.order x (minus_of m) part.tally h) [
          | inl k ↦ s.here x (subst (λ z. IsIn f.rules.order z (part.committed ++ part.done)) (sym k) (let a = times-append f.rules.order L.order m part.committed part.done in let b = m-done in omega arith))
          | inr k ↦ s.tally_here x k
        ];
        tray_here = s.tray_here;
        outbox_from = s.outbox_from;
      };
      in_hand = λ x. let a = times-append f.rules.order L.order x part.committed (m ∷ []) in omega arith;
      sends = w.sends;
    }

  pub commit-step : (g floor p : ℕ) → p < f.processes → (part : Part M S) → IsSound f L g floor p part →
      is_early f g part.done ≡ true → IsStep f L g floor p part (commit_oldest f.rules part)
  commit-step g floor p i part s t =
      go part.done refl t (commit-well f.rules L.order (IsReached f p) (law-of f L p i) (f.opening p) part s.well)
    where
      go : (ms : List M) → part.done ≡ ms → is_early f g ms ≡ true →
          IsWellStep f.rules (IsReached f p) (f.opening p) part (cond (can_commit f.rules.order part ms) (oldest_committed f.rules part ms) part) →
          IsStep f L g floor p part (cond (can_commit f.rules.order part ms) (oldest_committed f.rules part ms) part)
      go [] e h w = no-step f L g floor p part s
      go (m ∷ rest) e h w = pick (pluses f.rules.order m part.tally == minuses f.rules.order m part.tally + 1) refl w
        where
          pick : (b : Bool) → (pluses f.rules.order m part.tally == minuses f.rules.order m part.tally + 1) ≡ b →
              IsWellStep f.rules (IsReached f p) (f.opening p) part (cond b (oldest_committed f.rules part (m ∷ rest)) part) →
              IsStep f L g floor p part (cond b (oldest_committed f.rules part (m ∷ rest)) part)
          pick true k v = committed-step g floor p part s m rest e (ltb-true _ _ h) (eqb-true _ _ k) v
          pick false k v = no-step f L g floor p part s
