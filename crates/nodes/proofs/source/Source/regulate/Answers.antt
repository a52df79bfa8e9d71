use Rattle.std.proofs.Common.{◌++◌, List, ap, ◌∙◌, append-nil}
use Rattle.vlink.specs.declared.note.Note.{Note}
use Rattle.bag_regulator.specs.declared.event.RegOut.{RegOut}
use Rattle.reverse.specs.Sending.{joined, replied, OutboundState}
use Rattle.nodes.specs.Words.{asked, full, released_reply}
use Rattle.nodes.proofs.SendingLemmas.{replied-joined}
use Rattle.nodes.proofs.EndSystemLemmas.{full-released, asked-quiet}
use Rattle.nodes.proofs.source.Source.regulate.Goals as goal

pub release-requires-clause-notes : goal.release-requires-clause-notes
release-requires-clause-notes c = λ frame is.
    let lost = c.lose_if_full.new.out in
    ap (λ (o : OutboundState). o.notes) c.ask.ensures
    ∙ ap (λ (ns : List Note). lost.notes ++ ns) (asked-quiet lost.sender.number c.args.self.now.end.vl c.apply.result.0.release_at)
    ∙ append-nil lost.notes
    ∙ ap (λ (o : OutboundState). o.notes) c.lose_if_full.ensures
    ∙ ap (λ (ns : List Note). ns ++ (full c.args.event.now c.apply.result.0.answer).notes) c.requires.notes
    ∙ ap (λ a. (full c.args.event.now a).notes) is
    ∙ ap (λ r. r.notes) (full-released c.args.event.now frame)

pub returns-clause-reply : goal.returns-clause-reply
returns-clause-reply c =
    let out = c.args.out.now in
    let number = out.sender.number in
    let event = c.args.event.now in
    let end = c.args.self.now.end in
    let ports = c.args.ports.now in
    let told = c.apply.result.0 in
    c.release.ensures.reply
    ∙ ap (λ (o : OutboundState). replied o (released_reply o.sender.number c.args.at end told.answer ports)) c.ask.ensures
    ∙ ap (λ (o : OutboundState). replied (replied o (asked o.sender.number end.vl told.release_at)) (released_reply o.sender.number c.args.at end told.answer ports)) c.lose_if_full.ensures
    ∙ ap (λ (o : OutboundState). replied o (released_reply number c.args.at end told.answer ports)) (replied-joined out _ _)
    ∙ replied-joined out _ _
    ∙ ap (λ (told : RegOut). replied out (joined (joined (full event told.answer) (asked number end.vl told.release_at)) (released_reply number c.args.at end told.answer ports))) c.apply.ensures.answer
