use Rattle.std.proofs.Common.{◌≡◌, OnOk, IfErr, subst, sym}
use Rattle.trace_segments.specs.declared.fault.OutFault.TheVariants as out
use Rattle.trace_segments.specs.Words.{IsBeginning}
use Rattle.commands.specs.declared.keeping.Kept.TheVariants.{Trace}
use Rattle.commands.specs.Ending.{Took}
use Rattle.commands.specs.Files.{text_of}
use Rattle.commands.proofs.keeping.write.Goals as goal

pub returns-in-Trace-clause-text : goal.returns-in-Trace-clause-text
returns-in-Trace-clause-text g c =
    let is = c.in-Trace.is in
    let network = c.in-Trace.network-is in
    let rows = c.in-Trace.rows-is in
    let trace : c.args.kept ≡ Trace c.in-Trace.network c.in-Trace.rows = cc in
    subst (λ kept. OnOk c.write_trace.result (Took g.F.Sink.taken c.args.file.now c.write_trace.new.sink (text_of kept))) (sym trace) c.write_trace.ensures.text

pub returns-in-Trace-clause-device : goal.returns-in-Trace-clause-device
returns-in-Trace-clause-device g c =
    let is = c.in-Trace.is in
    let network = c.in-Trace.network-is in
    let rows = c.in-Trace.rows-is in
    let trace : c.args.kept ≡ Trace c.in-Trace.network c.in-Trace.rows = cc in
    subst (λ kept. IfErr c.write_trace.result (λ why. why ≡ out.Device → IsBeginning (g.F.Sink.taken c.args.file.now) (g.F.Sink.taken c.write_trace.new.sink) (text_of kept)))
    (sym trace) c.write_trace.ensures.device
