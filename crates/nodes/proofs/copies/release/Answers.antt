use Rattle.std.proofs.Common.{ap, ◌∙◌, sym}
use Rattle.vlink.specs.declared.frame.Net.TheVariants.{A, B}
use Rattle.reverse.specs.Sending.{OutboundState, replied}
use Rattle.nodes.specs.Words.{PortsState, copied_reply, released_reply}
use Rattle.nodes.proofs.SendingLemmas.{replied-joined}
use Rattle.nodes.proofs.copies.release.Goals as goal

pub returns-clause-reply : goal.returns-clause-reply
returns-clause-reply c =
    let out = c.args.out.now in
    let number = out.sender.number in
    let end = c.args.end.now in
    let frame = c.in-Released.frame in
    let first = copied_reply number c.args.at end A frame c.args.ports.now in
    c.copy_out-b.ensures.reply
    ∙ ap (λ (o : OutboundState). replied o (copied_reply o.sender.number c.args.at end B frame c.copy_out-a.new.ports)) c.copy_out-a.ensures.reply
    ∙ ap (λ (ports : PortsState). replied (replied out first) (copied_reply number c.args.at end B frame ports)) c.copy_out-a.ensures.ports
    ∙ replied-joined out first _
    ∙ ap (λ a. replied out (released_reply number c.args.at end a c.args.ports.now)) (sym c.in-Released.is)
