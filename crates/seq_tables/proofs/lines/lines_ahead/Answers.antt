use Rattle.std.proofs.Common.{◌≡◌, inl, inr, true, length, ◌∷◌, [], ap, subst, arith, length-append}
use Rattle.std.proofs.lemmas.Bool.{false≢true}
use Rattle.actor_run.specs.RunningAhead.{is_marked}
use Rattle.seq_tables.specs.Lines.{IsOpenLine}
use Rattle.seq_tables.proofs.Marks.{marked-push}
use Rattle.seq_tables.proofs.lines.lines_ahead.Goals as goal

pub loop-process-init : goal.loop-process-init
loop-process-init c = record {
  count = ap length c.new-marks.ensures.items;
  lines = λ p e. absurd (false≢true (subst (λ z. is_marked z p ≡ true) c.new-marks.ensures.items e));
}

pub loop-process-preserved : goal.loop-process-preserved
loop-process-preserved c =
    let plan = c.args.network.now in
    let items = c.in_ok-push.ensures.items in
    record {
      count = let a = ap length items in let b = length-append c.loop-process.marks.items (c.is_open_line.result ∷ []) in let d = c.loop-process.invariant.count in omega arith;
      lines = λ p e. elim (marked-push c.loop-process.marks.items c.is_open_line.result p (subst (λ z. is_marked z p ≡ true) items e)) [
        | inl k ↦ c.loop-process.invariant.lines p k
        | inr k ↦ subst (IsOpenLine plan) (let a = k.0 in let d = c.loop-process.invariant.count in omega arith) (c.is_open_line.ensures k.1)
      ];
    }

pub returns : goal.returns
returns c = record { count = let a = c.loop-process.invariant.count in let b = c.process_count-process-end.ensures.value in let d = c.loop-process-test.false in omega arith; lines = c.loop-process.invariant.lines }
