-- One process alone: the next message is handled, where the state is good.
use Rattle.std.proofs.Common.{◌≡◌, ◌⊎◌, inl, inr, true, [], ◌∷◌, ◌++◌, map, Option, Some, None, refl, sym, ap, ◌∙◌, subst, arith, append_assoc}
use Rattle.virtual_time.specs.Law.{Rules, IsOrder, reached, sent, times_in, IsIn, plus_of, IsPresent, Part, next_of, handled, run_one, IsWell, SendsKept}
use Rattle.virtual_time.proofs.Order.{not_less-cases}
use Rattle.virtual_time.proofs.Lists.{times-append, times-one, in-push}
use Rattle.virtual_time.proofs.Ascending.{ascending-push}
use Rattle.virtual_time.proofs.Letters.{pluses-append, minuses-append, pluses-plus, minuses-plus}
use Rattle.virtual_time.proofs.Handling.{reached-append, sent-append, along-append}
use Rattle.virtual_time.proofs.Reading.{IsNext, next-is}
use Rattle.virtual_time.proofs.WellStep.{IsWellStep, no_step-well}

module _ {M S K N : Type 0} (r : Rules M S K N) (O : IsOrder r.order) (Good : S → Type 0)
    (law : (s : S) (e : M) → Good s → r.undo (r.after s e) e (r.kept s e) ≡ s) (opening : S) where
  pub run-well : (part : Part M S) → IsWell r Good opening part → Good part.state → IsWellStep r Good opening part (run_one r part)
  run-well part w g = go (next_of r.order part) refl
    where
      history-push : (m : M) → part.committed ++ (part.done ++ m ∷ []) ≡ (part.committed ++ part.done) ++ m ∷ []
      history-push m = sym (append_assoc part.committed part.done (m ∷ []))

      first : (m : M) → IsNext r O part m → (x : M) → IsPresent r.order part.tally x → times_in r.order x part.done ≡ 0 → times_in r.order x (m ∷ []) ≡ 0 →
          (d : M) → IsIn r.order d part.done ⊎ (d ≡ m) → r.order.less d x ≡ true
      first m n x h z o d (inl k) = w.done_first x h z d k
      first m n x h z o d (inr e) = subst (λ y. r.order.less y x ≡ true) (sym e)
          (elim (not_less-cases r.order O x m (n.first x h z)) [ inl k ↦ absurd (let b = subst (λ y. times_in r.order y (m ∷ []) ≡ 0) (sym k) o in let c = times-one r.order O m in omega arith) | inr k ↦ k ])

      moved : (m x : M) → SendsKept r opening part (handled r part (Some m)) x
      moved m x =
          let a = pluses-append r.order O x part.outbox (map plus_of (r.sends part.state m)) in
          let b = minuses-append r.order O x part.outbox (map plus_of (r.sends part.state m)) in
          let c = pluses-plus r.order O x (r.sends part.state m) in
          let d = minuses-plus r.order O x (r.sends part.state m) in
          let e = ap (times_in r.order x) (ap (sent r opening) (history-push m) ∙ sent-append r opening (part.committed ++ part.done) (m ∷ [])) in
          let h = times-append r.order O x (sent r opening (part.committed ++ part.done)) (r.sends (reached r opening (part.committed ++ part.done)) m ++ []) in
          let j = times-append r.order O x (r.sends (reached r opening (part.committed ++ part.done)) m) [] in
          let k = ap (λ z. times_in r.order x (r.sends z m)) w.state_is in
          omega arith

      go : (o : Option M) → next_of r.order part ≡ o → IsWellStep r Good opening part (handled r part o)
      go None e = no_step-well r Good opening part w
      go (Some m) e = let n = next-is r O part m e in record {
        well = record {
          state_is = ap (λ z. r.after z m) w.state_is ∙ (sym (reached-append r opening (part.committed ++ part.done) (m ∷ [])) ∙ sym (ap (reached r opening) (history-push m)));
          good = along-append r Good (reached r opening part.committed) part.done (m ∷ []) w.good
              (subst Good (w.state_is ∙ reached-append r opening part.committed part.done) g, tt);
          ascending = ascending-push r.order O part.done m w.ascending (λ a i. w.done_first m n.present n.not_done a i);
          done_present = λ x j. elim (in-push r.order O x m part.done j) [ inl k ↦ w.done_present x k | inr e ↦ subst (λ z. IsPresent r.order part.tally z) (sym e) n.present ];
          done_first = λ x h z d j. first m n x h (let a = times-append r.order O x part.done (m ∷ []) in omega arith) (let a = times-append r.order O x part.done (m ∷ []) in omega arith) d (in-push r.order O d m part.done j);
        };
        sends = moved m;
      }
