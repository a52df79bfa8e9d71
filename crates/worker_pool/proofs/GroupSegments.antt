-- The segments of the trace that a group gives are those of the one-thread run.
use Rattle.std.proofs.Common.{◌≡◌, ◌↔◌, ℕ, ◌+◌, ◌<◌, ◌≤◌, Bool, true, ◌&&◌, max, nat_le, nat_lt, get_or, List, length, All, filter, sym, ap, ◌∙◌, subst, arith}
use Rattle.std.proofs.lemmas.List.Elements.{filter_passes, recursion_from_All}
use Rattle.std.proofs.lemmas.Option.{slice_get-get_or}
use Rattle.vlink.specs.Letters.{Row}
use Rattle.network.specs.Words.{Plan}
use Rattle.nodes.specs.Words.{NodeState}
use Rattle.nodes.specs.declared.node.NodeRecord.{NodeRecord}
use Rattle.group_queues.specs.DoneEvents.{messages_of}
use Rattle.group_exchange.specs.Keeps.{AreGrouped}
use Rattle.group_exchange.specs.Rows.{rows_of_group}
use Rattle.group_exchange.specs.Views.{GroupState, is_of}
use Rattle.group_exchange.proofs.Owners.{of-owner, of-one}
use Rattle.trace_segments.specs.Words.{IsOfOneGroup, cut, HasInterval, rows_within, SegmentRows, group_segment_of}
use Rattle.trace_segments.proofs.GatherLemmas.{all-pass}
use Rattle.trace_segments.proofs.IntervalLemmas.{cut-rises}
use Rattle.worker_pool.specs.Segments.{IsGroupIntervalSealed, IsGroupSegmentOfRun}
use Rattle.worker_pool.proofs.GroupRows.{AreOfGroup, group-rows}
use Rattle.network_runs.proofs.Beginnings.{begins-one}

-- each process is of just one group
pub one-group : (processes groups : ℕ) (owners : List ℕ) → AreGrouped processes groups owners → (p : ℕ) → p < processes → IsOfOneGroup (is_of owners) groups p
one-group processes groups owners G p lt =
    let inside : p < length owners = (let all = G.each in omega arith) in
    let its : is_of owners (get_or owners p 0) p ≡ true = of-owner owners (get_or owners p 0) p (slice_get-get_or owners p 0 inside) in
    record { group = get_or owners p 0; below = G.within p 0 inside; its = its; alone = λ g t. of-one owners g (get_or owners p 0) p t its }

-- rows of an interval that are looked at again
within-again : (from to : ℕ) (rows : List Row) → rows_within from to (rows_within from to rows) ≡ rows_within from to rows
within-again from to rows =
    let test : Row → Bool = λ row. nat_le from row.message.time && nat_lt row.message.time to in
    all-pass test (filter test rows) (recursion_from_All (λ row. test row ≡ true) (filter test rows) (filter_passes test rows))

module _ (plan : Plan) (group : GroupState NodeState NodeRecord) where
  -- where the next interval is not for good, none is
  pub none-sealed : (k : ℕ) → HasInterval plan.until k → group.gone ≡ cut plan.until k → (IsGroupIntervalSealed plan k group → ⊥) →
      (j : ℕ) → IsGroupIntervalSealed plan j group → ⊥
  none-sealed k inside at none j S =
      none (subst (λ i. IsGroupIntervalSealed plan i group)
      (sym (begins-one plan.until group.gone j S.inside S.next) ∙ begins-one plan.until group.gone k inside at) S)

  -- what leaves with a segment is later than what left before
  pub gone-with : (until k to end gone : ℕ) → group.gone ≡ cut until k → to ≡ end → end ≡ cut until (k + 1) → gone ≡ max group.gone to → gone ≡ end
  gone-with until k to end gone at same ends is = let up = cut-rises until k in omega arith

-- moments that a call was given, and what they are
module _ (plan : Plan) (owners : List ℕ) (k until from to : ℕ) (ends : until ≡ plan.until) (first : from ≡ cut until k) (last : to ≡ cut until (k + 1)) where
  -- the segment that is cut from rows of a group in an interval is that of the run
  pub segment-at : (g n : ℕ) → n ≡ g → (rows : List Row) → AreOfGroup plan owners g from to rows →
      (segment : SegmentRows) → segment ≡ group_segment_of 0 n k until rows → IsGroupSegmentOfRun plan owners g k segment
  segment-at g n here rows seen segment is run r =
      is ∙ (ap (λ z. group_segment_of 0 z k until rows) here
      ∙ (ap (λ (found : List Row). record { run = 0; process = g; from = cut until k; to = cut until (k + 1); rows = found })
      (ap (rows_within (cut until k) (cut until (k + 1))) all ∙ within-again (cut until k) (cut until (k + 1)) (rows_of_group owners g run))
      ∙ ap (λ z. group_segment_of 0 g k z (rows_of_group owners g run)) ends))
    where
      all : rows ≡ rows_within (cut until k) (cut until (k + 1)) (rows_of_group owners g run)
      all =
          group-rows plan owners g from to rows run seen r
          ∙ (ap (λ z. rows_within z to (rows_of_group owners g run)) first ∙ ap (λ z. rows_within (cut until k) z (rows_of_group owners g run)) last)

  -- there is a segment just where there is such an interval, if it is for good
  module _ (group : GroupState NodeState NodeRecord) (next : group.gone ≡ cut until k)
      (good : (to ≤ group.seen) × All (λ m. to ≤ m.time) (messages_of group.held.done)) where
    at-end : to ≡ cut plan.until (k + 1)
    at-end = last ∙ ap (λ z. cut z (k + 1)) ends

    pub some-at : (A : Type 0) → A ↔ HasInterval until k → A ↔ IsGroupIntervalSealed plan k group
    some-at A is = (
      λ a. record {
        inside = subst (λ z. HasInterval z k) ends (is.0 a);
        next = next ∙ ap (λ z. cut z k) ends;
        seen = subst (λ z. z ≤ group.seen) at-end good.0;
        none_done = subst (λ z. All (λ m. z ≤ m.time) (messages_of group.held.done)) at-end good.1;
      },
      λ s. is.1 (subst (λ z. HasInterval z k) (sym ends) s.inside),
    )
