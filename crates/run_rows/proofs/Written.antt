-- What was written, whatever came first: the fault of a batch, that of a segment, or the end.
use Rattle.std.proofs.Common.{◌≡◌, ◌≢◌, ◌⊎◌, inl, inr, ℕ, ◌+◌, ◌<◌, ◌==◌, Bool, true, false, cond, List, Option, Some, None, Result, Ok, Err, IsOk, OnOk, IfErr, length, refl, sym, ap, subst, arith, IfSome}
use Rattle.std.specs.Prelude.{⊤}
use Rattle.std.specs.Io.KnownBytes.{append_known}
use Rattle.std.proofs.lemmas.Grind.{common_steps}
use Rattle.vlink.specs.Letters.{Row}
use Rattle.network.specs.Words.{Plan}
use Rattle.trace_segments.specs.declared.fault.OutFault.{OutFault}
use Rattle.trace_segments.specs.declared.fault.OutFault.TheVariants as out
use Rattle.trace_segments.specs.declared.fault.OutFault.TheVariants.{Device}
use Rattle.trace_segments.specs.declared.segment_fault.SegmentFault.{SegmentFault}
use Rattle.trace_segments.specs.declared.segment_fault.SegmentFault.TheVariants.{Gap, Double, Stranger, OutOfMemory}
use Rattle.trace_segments.specs.declared.trace_fault.TraceFault.{TraceFault}
use Rattle.trace_segments.specs.declared.trace_fault.TraceFault.TheVariants.{Segment, Out}
use Rattle.trace_segments.specs.Words.{Gathering, segment_fault, SegmentRows, BatchRows, IsBeginning, trace_text}
use Rattle.trace_writer.specs.WrittenTrace.{WrittenTrace, batch_fault, lacks_head, end_fault}
use Rattle.network_actors.specs.Networks.{AreRowsOf}
use Rattle.run_rows.specs.Written.{outcome_of, IsPlaceFault, IsFaultOfTrace, IsWritten}

-- whether a write failed at the end
failed-or-not : (end : Result ⊤ TraceFault) → (end ≡ Err (Out Device)) ⊎ (end ≢ Err (Out Device))
failed-or-not (Ok u) = inr (λ e. cc)
failed-or-not (Err (Out Device)) = inl refl
failed-or-not (Err (Out out.OutOfMemory)) = inr (λ e. cc)
failed-or-not (Err (Out out.Layout)) = inr (λ e. cc)
failed-or-not (Err (Segment why)) = inr (λ e. cc)

module _ (plan : Plan) (start : Option (List ℕ)) (failed : ℕ) (taken : Option (List ℕ)) (failures : ℕ) where
  -- none failed
  none-failed : (end : Result ⊤ TraceFault) → end ≢ Err (Out Device) → OnOk end (failures ≡ failed) → IfErr end (λ fault. fault ≢ Out Device → failures ≡ failed) →
      failures ≡ failed
  none-failed (Ok u) other well kept = well
  none-failed (Err fault) other well kept = kept (λ e. other (ap Err e))

  module _ (batches : Result ⊤ TraceFault) (segment : Option SegmentFault) (end : Result ⊤ TraceFault)
      (beginning : (rows : List Row) → AreRowsOf plan rows → IsBeginning start taken (trace_text plan rows)) where
    device-written : end ≡ Err (Out Device) → IfErr end (λ fault. fault ≡ Out Device → failures ≡ failed + 1) → IsWritten plan start failed (Err (Out Device)) taken failures
    device-written is device = record {
      whole = tt;
      beginning = beginning;
      device = λ e. (subst (λ (r : Result ⊤ TraceFault). IfErr r (λ fault. fault ≡ Out Device → failures ≡ failed + 1)) is device) refl;
      kept = λ other. absurd (other refl);
      went_well = tt;
      fault = (λ e. cc, λ e. cc);
    }

    pub is-written : (told : Result ⊤ TraceFault) → (end ≡ Err (Out Device) → told ≡ Err (Out Device)) → (end ≢ Err (Out Device) → told ≡ outcome_of batches segment end) →
        (batches ≡ Err (Out Device) → failures ≡ failed + 1) → IfErr batches IsFaultOfTrace → IfSome segment IsPlaceFault →
        ((rows : List Row) → AreRowsOf plan rows → OnOk end (taken ≡ append_known start (trace_text plan rows))) →
        IfErr end (λ fault. fault ≡ Out Device → failures ≡ failed + 1) → IfErr end (λ fault. fault ≢ Out Device → failures ≡ failed) →
        OnOk end (failures ≡ failed) → IfErr end IsFaultOfTrace → IsWritten plan start failed told taken failures
    is-written told first then device known none whole broken kept well other = elim (failed-or-not end) [
      | inl is ↦ subst (λ z. IsWritten plan start failed z taken failures) (sym (first is)) (device-written is broken)
      | inr not ↦ subst (λ z. IsWritten plan start failed z taken failures) (sym (then not))
          (go batches segment end device known none whole broken kept well other (none-failed end not well kept))
    ]
      where
        go : (batches : Result ⊤ TraceFault) (segment : Option SegmentFault) (end : Result ⊤ TraceFault) →
            (batches ≡ Err (Out Device) → failures ≡ failed + 1) → IfErr batches IsFaultOfTrace → IfSome segment IsPlaceFault →
            ((rows : List Row) → AreRowsOf plan rows → OnOk end (taken ≡ append_known start (trace_text plan rows))) →
            IfErr end (λ fault. fault ≡ Out Device → failures ≡ failed + 1) → IfErr end (λ fault. fault ≢ Out Device → failures ≡ failed) →
            OnOk end (failures ≡ failed) → IfErr end IsFaultOfTrace → failures ≡ failed → IsWritten plan start failed (outcome_of batches segment end) taken failures
        go (Err fault) segment end device known none whole broken kept well other same =
            record { whole = tt; beginning = beginning; device = λ e. device (ap Err e); kept = λ n. same; went_well = tt; fault = known }
        go (Ok _) (Some fault) end device known none whole broken kept well other same =
            record { whole = tt; beginning = beginning; device = λ e. absurd cc; kept = λ n. same; went_well = tt; fault = (λ e. none.0 cc, λ e. none.1 cc) }
        go (Ok _) None (Ok _) device known none whole broken kept well other same =
            record { whole = whole; beginning = beginning; device = tt; kept = tt; went_well = well; fault = tt }
        go (Ok _) None (Err fault) device known none whole broken kept well other same =
            record { whole = tt; beginning = beginning; device = broken; kept = kept; went_well = tt; fault = other }

module _ {X : Type 0} (old : WrittenTrace) (res : Result X TraceFault) (refused : (fault : TraceFault) → end_fault old ≡ Some fault → res ≡ Err fault) where
  -- where the sink had failed before the end, just one write had
  pub failed-once : (failures failed : ℕ) → IfErr res (λ fault. fault ≡ Out Device → failures ≡ failed + 1) → old.broken ≡ true → failures ≡ failed + 1
  failed-once failures failed device broken =
      let told : end_fault old ≡ Some (Out Device) =
      ap (λ b. cond b (Some (Out Device)) (cond (lacks_head old) None (cond (old.end == old.plan.until + 1) None (Some (Segment Gap))))) broken in
      (subst (λ (r : Result X TraceFault). IfErr r (λ fault. fault ≡ Out Device → failures ≡ failed + 1)) (refused (Out Device) told) device) refl

-- what is told is as said, where each cause that is tried first is, and what comes after
by-cause : {X F : Type 0} (P : F → Type 0) (cause : Option F) (res : Result X F) → ((fault : F) → cause ≡ Some fault → res ≡ Err fault) →
    ((fault : F) → cause ≡ Some fault → P fault) → (cause ≡ None → IfErr res P) → IfErr res P
by-cause P cause res refused first rest = go cause refl
  where
    go : (o : Option _) → cause ≡ o → IfErr res P
    go (Some fault) e = subst (λ r. IfErr r P) (sym (refused fault e)) (first fault e)
    go None e = rest e

module _ {X : Type 0} where
  -- a text that did not go out
  out-told : (res : Result X TraceFault) → IfErr res (λ fault. (why : OutFault) × (fault ≡ Out why)) → IfErr res IsFaultOfTrace
  out-told (Ok x) out = tt
  out-told (Err fault) out = subst IsFaultOfTrace (sym out.1) (λ e. cc, λ e. cc)

  none-told : (res : Result X TraceFault) → IsOk res → IfErr res IsFaultOfTrace
  none-told (Ok x) ok = tt
  none-told (Err fault) ok = absurd cc

-- a segment of the run that is refused, and memory is not the cause
segment-place : (g : Gathering) (segment : SegmentRows) → segment.run ≡ g.run → segment.process < length g.waiting → (fault : SegmentFault) → segment_fault g segment ≡ Some fault →
    IsPlaceFault fault
segment-place g segment run within Gap e = (λ f. cc, λ f. cc)
segment-place g segment run within Double e = (λ f. cc, λ f. cc)
segment-place g segment run within Stranger e = absurd (grind (arith, common_steps))
segment-place g segment run within OutOfMemory e = absurd (grind (arith, common_steps))

pub segment-told : {X : Type 0} (g : Gathering) (segment : SegmentRows) → segment.run ≡ g.run → segment.process < length g.waiting → (res : Result X SegmentFault) →
    ((fault : SegmentFault) → segment_fault g segment ≡ Some fault → res ≡ Err fault) → (segment_fault g segment ≡ None → IfErr res (λ fault. fault ≡ OutOfMemory)) →
    IfErr res (λ fault. fault ≢ OutOfMemory → IsPlaceFault fault)
segment-told {X} g segment run within res refused memory =
    by-cause _ (segment_fault g segment) res refused (λ fault e other. segment-place g segment run within fault e) (λ none. go res (memory none))
  where
    go : (r : Result X SegmentFault) → IfErr r (λ fault. fault ≡ OutOfMemory) → IfErr r (λ fault. fault ≢ OutOfMemory → IsPlaceFault fault)
    go (Ok x) m = tt
    go (Err fault) m = λ other. absurd (other m)

-- a batch that is refused
batch-place : (old : WrittenTrace) (batch : BatchRows) (fault : TraceFault) → batch_fault old batch ≡ Some fault → IsFaultOfTrace fault
batch-place old batch (Out why) e = (λ f. cc, λ f. cc)
batch-place old batch (Segment Gap) e = (λ f. cc, λ f. cc)
batch-place old batch (Segment Double) e = (λ f. cc, λ f. cc)
batch-place old batch (Segment Stranger) e = absurd (grind (arith, common_steps))
batch-place old batch (Segment OutOfMemory) e = absurd (grind (arith, common_steps))

pub batch-told : {X : Type 0} (old : WrittenTrace) (batch : BatchRows) (res : Result X TraceFault) →
    ((fault : TraceFault) → batch_fault old batch ≡ Some fault → res ≡ Err fault) →
    (batch_fault old batch ≡ None → IfErr res (λ fault. (why : OutFault) × (fault ≡ Out why))) → IfErr res IsFaultOfTrace
batch-told old batch res refused out =
    by-cause IsFaultOfTrace (batch_fault old batch) res refused (batch-place old batch) (λ none. out-told res (out none))

-- an end that is refused
end-place : (old : WrittenTrace) (fault : TraceFault) → end_fault old ≡ Some fault → IsFaultOfTrace fault
end-place old (Out why) e = (λ f. cc, λ f. cc)
end-place old (Segment Gap) e = (λ f. cc, λ f. cc)
end-place old (Segment Double) e = (λ f. cc, λ f. cc)
end-place old (Segment Stranger) e = absurd (grind (arith, common_steps))
end-place old (Segment OutOfMemory) e = absurd (grind (arith, common_steps))

pub end-told : {X : Type 0} (old : WrittenTrace) (res : Result X TraceFault) → ((fault : TraceFault) → end_fault old ≡ Some fault → res ≡ Err fault) →
    (end_fault old ≡ None → lacks_head old ≡ false → IsOk res) → (lacks_head old ≡ true → IfErr res (λ fault. (why : OutFault) × (fault ≡ Out why))) →
    IfErr res IsFaultOfTrace
end-told {X} old res refused whole out = by-cause IsFaultOfTrace (end_fault old) res refused (end-place old) (λ none. go none (lacks_head old) refl)
  where
    go : end_fault old ≡ None → (b : Bool) → lacks_head old ≡ b → IfErr res IsFaultOfTrace
    go none true lacks = out-told res (out lacks)
    go none false headed = none-told res (whole none headed)
