-- One process inside a world: the next message is handled. It is not before the floor, so it comes after all committed events.
use Rattle.std.proofs.Common.{◌≡◌, ℕ, ◌<◌, ◌≤◌, inl, inr, true, [], ◌∷◌, ◌++◌, Option, Some, None, refl, sym, subst, arith, append_assoc}
use Rattle.virtual_time.specs.Law.{IsIn, IsAscending, Simulation, Laws, IsReached, Part, next_of, handled, run_one}
use Rattle.virtual_time.proofs.Lists.{times-append, in-append, in-push}
use Rattle.virtual_time.proofs.Ascending.{ascending-push}
use Rattle.virtual_time.proofs.Letters.{named-append, named-plus}
use Rattle.virtual_time.proofs.Reading.{IsNext, next-is}
use Rattle.virtual_time.proofs.WellStep.{IsWellStep}
use Rattle.virtual_time.proofs.WellRun.{run-well}
use Rattle.virtual_time.proofs.Sound.{IsSound, IsStep, no-step, law-of}

module _ {M S K N : Type 0} (f : Simulation M S K N) (L : Laws f) where
  module _ (g floor p : ℕ) (i : p < f.processes) (part : Part M S) (s : IsSound f L g floor p part) (m : M) (n : IsNext f.rules L.order part m) where
    late : floor ≤ f.rules.order.time m
    late = s.unhandled_late m n.present n.not_done

    state-reached : IsReached f p part.state
    state-reached = (part.committed ++ part.done, s.well.state_is)

    here : f.rules.order.receiver m ≡ p
    here = s.tally_here m (let a = n.present in omega arith)

    history-push : part.committed ++ (part.done ++ m ∷ []) ≡ (part.committed ++ part.done) ++ m ∷ []
    history-push = sym (append_assoc part.committed part.done (m ∷ []))

    below-m : (a : M) → IsIn f.rules.order a (part.committed ++ part.done) → f.rules.order.less a m ≡ true
    below-m a j = elim (in-append f.rules.order L.order a part.committed part.done j) [
      | inl k ↦ L.order.by_time a m (let b = s.committed_low a k in let c = s.low in let d = late in omega arith)
      | inr k ↦ s.well.done_first m n.present n.not_done a k
    ]

    ran-step : IsWellStep f.rules (IsReached f p) (f.opening p) part (handled f.rules part (Some m)) → IsStep f L g floor p part (handled f.rules part (Some m))
    ran-step w = record {
      sound = record {
        well = w.well;
        ascending = subst (λ z. IsAscending f.rules.order z) (sym history-push) (ascending-push f.rules.order L.order (part.committed ++ part.done) m s.ascending below-m);
        here = λ x j. elim (in-push f.rules.order L.order x m (part.committed ++ part.done) (subst (λ z. IsIn f.rules.order x z) history-push j))
            [ inl k ↦ s.here x k | inr e ↦ subst (λ z. f.rules.order.receiver z ≡ p) (sym e) here ];
        committed_low = s.committed_low;
        committed_none = s.committed_none;
        unhandled_late = λ x h z. s.unhandled_late x h (let a = times-append f.rules.order L.order x part.done (m ∷ []) in omega arith);
        tray_late = s.tray_late;
        outbox_late = λ x h. elim (named-append f.rules.order L.order x part.outbox _ h) [
          | inl k ↦ s.outbox_late x k
          | inr k ↦ (let a = L.later p i part.state state-reached m x (named-plus f.rules.order L.order x (f.rules.sends part.state m) k) in let b = late in omega arith)
        ];
        low = s.low;
        tally_here = s.tally_here;
        tray_here = s.tray_here;
        outbox_from = λ x h. elim (named-append f.rules.order L.order x part.outbox _ h) [
          | inl k ↦ s.outbox_from x k
          | inr k ↦ (
            L.sender_is p i part.state state-reached m x (named-plus f.rules.order L.order x (f.rules.sends part.state m) k),
            L.receiver_in p i part.state state-reached m x (named-plus f.rules.order L.order x (f.rules.sends part.state m) k),
          )
        ];
      };
      in_hand = λ x. refl;
      sends = w.sends;
    }

  pub run-step : (g floor p : ℕ) → p < f.processes → (part : Part M S) → IsSound f L g floor p part →
      IsStep f L g floor p part (run_one f.rules part)
  run-step g floor p i part s =
      go (next_of f.rules.order part) refl (run-well f.rules L.order (IsReached f p) (law-of f L p i) (f.opening p) part s.well (part.committed ++ part.done, s.well.state_is))
    where
      go : (o : Option M) → next_of f.rules.order part ≡ o → IsWellStep f.rules (IsReached f p) (f.opening p) part (handled f.rules part o) → IsStep f L g floor p part (handled f.rules part o)
      go None e w = no-step f L g floor p part s
      go (Some m) e w = ran-step g floor p i part s m (next-is f.rules L.order part m e) w
