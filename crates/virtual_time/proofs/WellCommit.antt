-- One process alone: its oldest done event is committed.
use Rattle.std.proofs.Common.{◌≡◌, ◌+◌, ◌==◌, Bool, true, false, cond, List, [], ◌∷◌, ◌++◌, refl, sym, ap, ◌∙◌, subst, arith, append_assoc, eqb-true}
use Rattle.virtual_time.specs.Law.{Rules, IsOrder, reached, sent, one_if, times_in, IsIn, IsAscending, minus_of, pluses, minuses, Part, can_commit, oldest_committed, commit_oldest, IsWell, HoldsAlong}
use Rattle.virtual_time.proofs.Order.{greater-different}
use Rattle.virtual_time.proofs.Letters.{counts-other}
use Rattle.virtual_time.proofs.Presence.{present-taken_back}
use Rattle.virtual_time.proofs.Handling.{reached-append}
use Rattle.virtual_time.proofs.WellStep.{IsWellStep, no_step-well}

-- the committed and then the done events are the same list as before
pub commit-history : {M : Type 0} (cs : List M) (m : M) (rest ds : List M) → ds ≡ m ∷ rest → (cs ++ m ∷ []) ++ rest ≡ cs ++ ds
commit-history cs m rest ds e = append_assoc cs (m ∷ []) rest ∙ ap (λ z. cs ++ z) (sym e)

module _ {M S K N : Type 0} (r : Rules M S K N) (O : IsOrder r.order) (Good : S → Type 0)
    (law : (s : S) (e : M) → Good s → r.undo (r.after s e) e (r.kept s e) ≡ s) (opening : S) where
  oldest_committed-well : (part : Part M S) → IsWell r Good opening part → (m : M) (rest : List M) → part.done ≡ m ∷ rest →
      pluses r.order m part.tally ≡ minuses r.order m part.tally + 1 → IsWellStep r Good opening part (oldest_committed r part (m ∷ rest))
  oldest_committed-well part w m rest e one_left = record {
    well = record {
      state_is = w.state_is ∙ ap (reached r opening) (sym history-same);
      good = subst (λ z. HoldsAlong r Good z rest) (sym (reached-append r opening part.committed (m ∷ [])))
          (let a = subst (λ z. HoldsAlong r Good (reached r opening part.committed) z) e w.good in a.1);
      ascending = up.1;
      done_present = λ x j.
          let a = counts-other r.order O x (minus_of m) part.tally (greater-different r.order O x m (up.0 x j)) in
          let b = w.done_present x (rest-in x j) in
          let c = a.0 in let d = a.1 in
          omega arith;
      done_first = λ x h z d j. let a = present-taken_back r.order O x m part.tally one_left h in
          w.done_first x a.1 (let b = ap (times_in r.order x) e in let c = ap one_if a.0 in omega arith) d (rest-in d j);
    };
    sends = λ x. let a = ap (λ z. times_in r.order x (sent r opening z)) history-same in omega arith;
  }
    where
      history-same : (part.committed ++ m ∷ []) ++ rest ≡ part.committed ++ part.done
      history-same = commit-history part.committed m rest part.done e

      up : IsAscending r.order (m ∷ rest)
      up = subst (λ z. IsAscending r.order z) e w.ascending

      rest-in : (x : M) → IsIn r.order x rest → IsIn r.order x part.done
      rest-in x j = subst (λ z. IsIn r.order x z) (sym e) (let a : IsIn r.order x (m ∷ rest) = omega arith in a)

  pub commit-well : (part : Part M S) → IsWell r Good opening part → IsWellStep r Good opening part (commit_oldest r part)
  commit-well part w = go part.done refl
    where
      go : (ms : List M) → part.done ≡ ms → IsWellStep r Good opening part (cond (can_commit r.order part ms) (oldest_committed r part ms) part)
      go [] e = no_step-well r Good opening part w
      go (m ∷ rest) e = pick (pluses r.order m part.tally == minuses r.order m part.tally + 1) refl
        where
          pick : (b : Bool) → (pluses r.order m part.tally == minuses r.order m part.tally + 1) ≡ b → IsWellStep r Good opening part (cond b (oldest_committed r part (m ∷ rest)) part)
          pick true h = oldest_committed-well part w m rest e (eqb-true _ _ h)
          pick false h = no_step-well r Good opening part w
