-- The trace of a run, as batches are written.
use Rattle.std.proofs.Common.{◌≡◌, ◌≢◌, ◌∙◌, ℕ, ◌+◌, ◌≤◌, true, false, cond, List, ◌++◌, refl, sym, ap, subst, arith, Option, Some, None, Result, Ok, Err, OnOk, IfErr, flat_map}
use Rattle.std.specs.Io.KnownBytes.{append_known}
use Rattle.std.proofs.lemmas.Grind.{common_steps}
use Rattle.vlink.specs.Letters.{Row}
use Rattle.network.specs.Words.{Plan}
use Rattle.trace_segments.specs.declared.fault.OutFault.{OutFault}
use Rattle.trace_segments.specs.declared.fault.OutFault.TheVariants.{Device, OutOfMemory, Layout}
use Rattle.trace_segments.specs.declared.trace_fault.TraceFault.{TraceFault}
use Rattle.trace_segments.specs.declared.trace_fault.TraceFault.TheVariants.{Out}
use Rattle.trace_segments.specs.Words.{rows_within, rows_before, rows_from, AreInMessageOrder, BatchRows, IsBeginning, trace_line, trace_text, next_text}
use Rattle.trace_writer.specs.WrittenTrace.{WrittenTrace, batch_fault}
use Rattle.network_actors.specs.Networks.{AreRowsOf}
use Rattle.run_rows.specs.Traces.{HasLawfulRows, IsBatchOfRun, IsTraceOfRun, text_before}
use Rattle.run_rows.proofs.Nothing.{none-of}
use Rattle.run_rows.proofs.TraceText.{known-none, known-twice, begins-longer, begins-behind, text-splits, text-next}

-- a batch is taken by a trace whose sink has not failed and whose last batch ended where it begins
not-broken : (trace : WrittenTrace) (batch : BatchRows) → batch_fault trace batch ≡ None → trace.broken ≡ false
not-broken trace batch none = grind (arith, common_steps)

follows : (trace : WrittenTrace) (batch : BatchRows) → batch_fault trace batch ≡ None → batch.from ≡ trace.end
follows trace batch none = grind (arith, common_steps)

-- the rows before a moment are a beginning of all
abbrev pub Splits : Type 0
Splits = (moment : ℕ) (rows : List Row) → AreInMessageOrder rows → rows ≡ rows_before moment rows ++ rows_from moment rows

module _ (plan : Plan) (start : Option (List ℕ)) (failures : ℕ) where
  -- nothing is written yet
  pub none-written : (network : Plan) (taken : Option (List ℕ)) (failed : ℕ) → network ≡ plan → taken ≡ start → failed ≡ failures →
      (trace : WrittenTrace) → trace ≡ record { plan = network; taken = taken; failures = failed; begun = false; end = 0; broken = false } →
      IsTraceOfRun plan start failures trace
  none-written network taken failed plan_is was had trace is =
      subst (IsTraceOfRun plan start failures) (sym is) (record {
        plan_is = plan_is;
        opening = λ e. refl;
        sound = λ e rows r. was ∙ sym (known-none start);
        broken = λ e. absurd (cc);
        failures_are = had;
      })

  module _ (H : HasLawfulRows plan) (splits : Splits) where
    split : (rows : List Row) → AreRowsOf plan rows → (moment : ℕ) → rows ≡ rows_before moment rows ++ rows_from moment rows
    split rows r moment = splits moment rows (H rows r).ordered

    module _ (old : WrittenTrace) (T : IsTraceOfRun plan start failures old) where
      -- a batch that is taken
      module _ (batch : BatchRows) (B : IsBatchOfRun plan batch) (none : batch_fault old batch ≡ None) where
        joined : (rows : List Row) → AreRowsOf plan rows →
            text_before plan old.begun old.end rows ++ next_text old.plan old.begun batch.rows ≡ trace_text plan (rows_before batch.to rows)
        joined rows r =
            let at = follows old batch none in
            let le : old.end ≤ batch.to = (let i = B.ordered in omega arith) in
            ap (λ (p : Plan). text_before plan old.begun old.end rows ++ next_text p old.begun batch.rows) T.plan_is
            ∙ text-next rows (split rows r) plan old.begun old.end batch.to T.opening le batch.rows
            (B.rows_are rows r ∙ ap (λ (from : ℕ). rows_within from batch.to rows) at)

        took : (rows : List Row) → AreRowsOf plan rows → old.taken ≡ append_known start (text_before plan old.begun old.end rows)
        took rows r = T.sound (not-broken old batch none) rows r

        -- is written
        batch-written : (new : WrittenTrace) →
            new ≡ record old { taken = append_known old.taken (next_text old.plan old.begun batch.rows); begun = true; end = batch.to } → IsTraceOfRun plan start failures new
        batch-written new is =
            subst (IsTraceOfRun plan start failures) (sym is) (record {
              plan_is = T.plan_is;
              opening = λ e. absurd (cc);
              sound = λ e rows r.
                  ap (λ (known : Option (List ℕ)). append_known known (next_text old.plan old.begun batch.rows)) (took rows r)
                  ∙ (known-twice start (text_before plan old.begun old.end rows) (next_text old.plan old.begun batch.rows)
                  ∙ ap (append_known start) (joined rows r));
              broken = λ e. absurd (let f = not-broken old batch none in cc);
              failures_are = T.failures_are;
            })

        -- or its sink fails
        batch-broken : (new : WrittenTrace) → IsBeginning old.taken new.taken (next_text old.plan old.begun batch.rows) →
            new ≡ record old { taken = new.taken; failures = old.failures + 1; broken = true } → IsTraceOfRun plan start failures new
        batch-broken new beginning is =
            subst (IsTraceOfRun plan start failures) (sym is) (record {
              plan_is = T.plan_is;
              opening = T.opening;
              sound = λ e. absurd (cc);
              broken = λ e rows r.
                  subst (IsBeginning start new.taken) (ap (λ (text : List ℕ). text ++ flat_map (trace_line plan) (rows_from batch.to rows)) (joined rows r) ∙ sym (text-splits rows (split rows r) plan batch.to))
                  (begins-longer start new.taken _ _
                  (begins-behind start new.taken (text_before plan old.begun old.end rows) (next_text old.plan old.begun batch.rows)
                  (subst (λ (known : Option (List ℕ)). IsBeginning known new.taken (next_text old.plan old.begun batch.rows)) (took rows r) beginning)));
              failures_are = ap (λ n. n + 1) (T.failures_are ∙ ap (λ b. cond b (failures + 1) failures) (not-broken old batch none));
            })

      -- so the trace is that of the run, whatever came of a batch
      pub batch-taken : {X : Type 0} (new : WrittenTrace) (batch : BatchRows) (r : Result X TraceFault) → IsBatchOfRun plan batch →
          ((fault : TraceFault) → batch_fault old batch ≡ Some fault → r ≡ Err fault) →
          ((fault : TraceFault) → batch_fault old batch ≡ Some fault → new ≡ old) →
          OnOk r (new ≡ record old { taken = append_known old.taken (next_text old.plan old.begun batch.rows); begun = true; end = batch.to }) →
          (batch_fault old batch ≡ None → IfErr r (λ fault. (why : OutFault) × (fault ≡ Out why))) →
          (batch_fault old batch ≡ None → IfErr r (λ fault. fault ≡ Out Device → IsBeginning old.taken new.taken (next_text old.plan old.begun batch.rows))) →
          (batch_fault old batch ≡ None → IfErr r (λ fault. fault ≡ Out Device → new ≡ record old { taken = new.taken; failures = old.failures + 1; broken = true })) →
          IfErr r (λ fault. fault ≢ Out Device → new ≡ old) → IsTraceOfRun plan start failures new
      batch-taken new batch (Ok x) B refused unchanged written out device broken kept =
          batch-written batch B (none-of (batch_fault old batch) (λ fault e. let f = refused fault e in absurd (cc))) new written
      batch-taken new batch (Err fault) B refused unchanged written out device broken kept = go (batch_fault old batch) refl
        where
          same : new ≡ old → IsTraceOfRun plan start failures new
          same e = subst (IsTraceOfRun plan start failures) (sym e) T

          told : (why : OutFault) → fault ≡ Out why → batch_fault old batch ≡ None → IsTraceOfRun plan start failures new
          told Device e none = batch-broken batch B none new (device none e) (broken none e)
          told OutOfMemory e none = same (kept (λ d. let f = sym e ∙ d in cc))
          told Layout e none = same (kept (λ d. let f = sym e ∙ d in cc))

          go : (o : Option TraceFault) → batch_fault old batch ≡ o → IsTraceOfRun plan start failures new
          go (Some f) e = same (unchanged f e)
          go None e = told (out e).0 (out e).1 e
