-- The rows that a process has for good in an interval are those of the one-thread run.
use Rattle.std.proofs.Common.{◌≡◌, ◌↔◌, ℕ, ◌+◌, ◌≤◌, ◌==◌, Bool, true, false, ◌&&◌, cond, max, nat_le, nat_lt, List, [], ◌∷◌, filter, refl, sym, ap, ◌∙◌, subst, arith}
use Rattle.vlink.specs.Letters.{Row}
use Rattle.virtual_time.specs.Law.{earlier, one, rows_at}
use Rattle.network.specs.Words.{Plan}
use Rattle.nodes.specs.Words.{NodeState, simulation_of}
use Rattle.process_exchange.specs.Views.{HeldState}
use Rattle.trace_segments.specs.Words.{cut, HasInterval, rows_within, SegmentRows, segment_of}
use Rattle.trace_segments.proofs.IntervalLemmas.{cut-rises}
use Rattle.network_actors.specs.Networks.{AreRowsOf}
use Rattle.network_runs.proofs.Beginnings.{begins-one}
use Rattle.process_segments.specs.Segments.{IsIntervalSealed, IsSegmentOfRun}

-- what passed two tests passes them again
pass-again : {X : Type 0} (a q : X → Bool) (xs : List X) → filter q (filter a (filter q (filter a xs))) ≡ filter q (filter a xs)
pass-again a q [] = refl
pass-again a q (x ∷ xs) = go (a x) (q x) refl refl (pass-again a q xs)
  where
    go : (b c : Bool) → a x ≡ b → q x ≡ c → filter q (filter a (filter q (filter a xs))) ≡ filter q (filter a xs) →
        filter q (filter a (filter q (cond b (x ∷ filter a xs) (filter a xs)))) ≡ filter q (cond b (x ∷ filter a xs) (filter a xs))
    go false c e d i = i
    go true true e d i = rw d (rw e (rw d (ap (λ z. x ∷ z) i)))
    go true false e d i = rw d i

-- rows of the process that are those of the one-thread run in some interval
abbrev pub AreAsInRun : Plan → ℕ → ℕ → ℕ → List Row → Type 0
AreAsInRun plan p from to rows =
    (event_count : ℕ) → (one (simulation_of plan) event_count).waiting ≡ [] → rows
    ≡ filter (λ (row : Row). nat_le from row.message.time && nat_lt row.message.time to) (rows_at p (one (simulation_of plan) event_count).rows)

module _ (plan : Plan) (p from to : ℕ) where
  abbrev pub is_inside : Row → Bool
  is_inside row = nat_le from row.message.time && nat_lt row.message.time to

  -- they are those of its rows
  pub same-rows : (rows run : List Row) → AreAsInRun plan p from to rows → AreRowsOf plan run → rows ≡ rows_within from to (rows_at p run)
  same-rows rows run here r = here r.0 r.1 ∙ ap (λ z. filter is_inside (rows_at p z)) (sym r.2)

-- the segment that is cut from them is that of the run
pub segment-of-run : (plan : Plan) (p k : ℕ) (rows : List Row) → AreAsInRun plan p (cut plan.until k) (cut plan.until (k + 1)) rows →
    (segment : SegmentRows) → segment ≡ segment_of 0 p k plan.until rows → IsSegmentOfRun plan p k segment
segment-of-run plan p k rows here segment is run r =
    let from = cut plan.until k in
    let to = cut plan.until (k + 1) in
    is ∙ ap (λ (found : List Row). record { run = 0; process = p; from = from; to = to; rows = found })
    (ap (λ (z : List Row). rows_within from to (rows_at p z)) (same-rows plan p from to rows run here r)
    ∙ pass-again (λ (row : Row). row.place == p) (λ (row : Row). nat_le from row.message.time && nat_lt row.message.time to) run)

module _ (plan : Plan) (held : HeldState NodeState) where
  -- so where the next one is not for good, none is
  pub none-sealed : (k : ℕ) → HasInterval plan.until k → held.gone ≡ cut plan.until k → (IsIntervalSealed plan k held → ⊥) →
      (j : ℕ) → IsIntervalSealed plan j held → ⊥
  none-sealed k inside at none j S =
      none (subst (λ i. IsIntervalSealed plan i held)
      (sym (begins-one plan.until held.gone j S.inside S.next) ∙ begins-one plan.until held.gone k inside at) S)

  -- what leaves with a segment is later than what left before
  pub gone-with : (until k to end : ℕ) (new : HeldState NodeState) → held.gone ≡ cut until k → to ≡ end → end ≡ cut until (k + 1) →
      new ≡ record held { gone = max held.gone to } → new ≡ record held { gone = end }
  gone-with until k to end new at same ends is =
      subst (λ moment. new ≡ record held { gone = moment }) (let up = cut-rises until k in omega arith) is

-- moments that a call was given, and what they are
module _ (plan : Plan) (k until from to : ℕ) (ends : until ≡ plan.until) (first : from ≡ cut until k) (last : to ≡ cut until (k + 1)) where
  pub at-beginning : from ≡ cut plan.until k
  at-beginning = first ∙ ap (λ z. cut z k) ends

  pub at-end : to ≡ cut plan.until (k + 1)
  at-end = last ∙ ap (λ z. cut z (k + 1)) ends

  pub segment-at : (p n : ℕ) → n ≡ p → (rows : List Row) → AreAsInRun plan p from to rows →
      (segment : SegmentRows) → segment ≡ segment_of 0 n k until rows → IsSegmentOfRun plan p k segment
  segment-at p n here rows seen segment is =
      segment-of-run plan p k rows
      (subst (λ z. AreAsInRun plan p z (cut plan.until (k + 1)) rows) at-beginning
      (subst (λ z. AreAsInRun plan p from z rows) at-end seen))
      segment (is ∙ (ap (λ z. segment_of 0 z k until rows) here ∙ ap (λ z. segment_of 0 p k z rows) ends))

  same-interval : HasInterval until k ≡ HasInterval plan.until k
  same-interval = ap (λ z. HasInterval z k) ends

  module _ (held : HeldState NodeState) (next : held.gone ≡ cut until k) where
    pub next-at : held.gone ≡ cut plan.until k
    next-at = next ∙ ap (λ z. cut z k) ends

    abbrev is_for_good : Type 0
    is_for_good = (to ≤ held.mark.seen) × (earlier (simulation_of plan).rules.order to held.part.done ≡ [])

    -- there is a segment just where there is such an interval, if it is for good
    pub some-at : is_for_good → (A : Type 0) → A ↔ HasInterval until k → A ↔ IsIntervalSealed plan k held
    some-at good A is = (
      λ a. record {
        inside = subst (λ (T : Type 0). T) same-interval (is.0 a);
        next = next-at;
        seen = subst (λ z. z ≤ held.mark.seen) at-end good.0;
        none_done = subst (λ z. earlier (simulation_of plan).rules.order z held.part.done ≡ []) at-end good.1;
      },
      λ s. is.1 (subst (λ (T : Type 0). T) (sym same-interval) s.inside),
    )
