use Rattle.std.proofs.Common.{◌≡◌, ℕ, ◌+◌, List, ◌++◌, length, take, drop, Option, Some, None, refl, ap, sym, ◌∙◌, arith, append_assoc, length-drop, take-add}
use Rattle.std.specs.Io.KnownBytes.{append_known}
use Rattle.std.proofs.lemmas.List.{take_rest}
use Rattle.trace_segments.proofs.sink.write_all.Goals as goal

appended : (o : Option (List ℕ)) (bytes : List ℕ) (sent n : ℕ) → append_known (append_known o (take sent bytes)) (take n (drop sent bytes)) ≡ append_known o (take (sent + n) bytes)
appended None bytes sent n = refl
appended (Some xs) bytes sent n = ap Some (append_assoc xs (take sent bytes) (take n (drop sent bytes)) ∙ ap (λ ys. xs ++ ys) (sym (take-add sent n bytes)))

pub loop-sent-preserved : goal.loop-sent-preserved
loop-sent-preserved g c =
    let bytes = c.args.bytes.now in
    let sent = c.loop-sent.sent in
    let n = c.in_ok-sent.field-0 in
    let old = g.S.Sink.taken c.args.sink.now in
    record {
      within = omega (arith, c.in_ok-sent.ensures.some.1, ap length (take_rest bytes sent), length-drop sent bytes);
      took = c.in_ok-sent.ensures.took
          ∙ ap (λ ys. append_known (g.S.Sink.taken c.loop-sent.sink) (take n ys)) (take_rest bytes sent)
          ∙ ap (λ o. append_known o (take n (drop sent bytes))) c.loop-sent.invariant.took
          ∙ appended old bytes sent n;
      failures = c.in_ok-sent.ensures.went_well ∙ c.loop-sent.invariant.failures;
    }
