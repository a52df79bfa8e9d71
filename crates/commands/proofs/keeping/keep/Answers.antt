use Rattle.std.proofs.Common.{◌≡◌, List, ℕ, refl, ap, subst, sym}
use Rattle.commands.specs.Files.{LacksFile, has_rows, text_of}
use Rattle.commands.proofs.Outcomes.{same_err}
use Rattle.commands.proofs.Lacking.{began, lacks, not_made}
use Rattle.commands.proofs.Leaving.{written}
use Rattle.commands.proofs.keeping.keep.Goals as goal

pub returns-in_err-file-clause-fault : goal.returns-in_err-file-clause-fault
returns-in_err-file-clause-fault g c =
    same_err _ c.from_residual.result c.in_err-file.field-0.0 c.from_residual.ensures.1
    (not_made g.H.Host.outside (has_rows c.args.kept) c.args.path (λ (text : List ℕ). text ≡ text_of c.args.kept) c.args.host.now c.make_file.new.host
    c.in_err-file.field-0.0 c.in_err-file.ensures.fault)

pub returns-in-Ok-clause-file : goal.returns-in-Ok-clause-file
returns-in-Ok-clause-file g c =
    let text = text_of c.args.kept in
    written g.H.Host.outside g.met.H.Host.lawful c.args.path.now (λ (t : List ℕ). t ≡ text) c.args.host.now c.make_file.new.host c.close.new.self
    c.in_ok-file.file c.write-written.new.file text c.in_ok-file.ensures.host c.in_ok-file.ensures.empty c.in-Ok.ensures.text refl c.close.ensures

pub returns-in-Err-clause-fault : goal.returns-in-Err-clause-fault
returns-in-Err-clause-fault g c =
    let outside = g.H.Host.outside in
    let text = text_of c.args.kept in
    let taken = g.H.File.Sink.taken in
    let failures = g.H.File.Sink.failures in
    let by = c.in-Err.ensures in
    subst (λ fault. LacksFile outside (has_rows c.args.kept) c.args.path.now (λ (t : List ℕ). t ≡ text) c.args.host.now c.close.new.self fault)
    (sym c.fault_of_file.ensures)
    (lacks outside g.met.H.Host.lawful c.args.path (λ (t : List ℕ). t ≡ text) c.args.host.now c.make_file.new.host c.close.new.self
    c.in_ok-file.file c.write-written.new.file text c.in_ok-file.ensures.host c.in_ok-file.ensures.empty c.in_ok-file.ensures.fresh refl c.close.ensures
    c.in_ok-file.ensures.made (began taken text c.in_ok-file.file c.write-written.new.file c.in-Err.why by.device by.kept)
    (has_rows c.args.kept) c.in-Err.why by.failed (λ no. ap failures (by.kept no)) by.layout)
