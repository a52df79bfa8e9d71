use Rattle.std.proofs.Common.{sym, ap, ◌∙◌}
use Rattle.vlink.specs.declared.message.Body.{Body}
use Rattle.vlink.specs.declared.note.Cause.TheVariants.{Unknown}
use Rattle.reverse.specs.Sending.{replied}
use Rattle.nodes.specs.rules.EndSystem.{end_system}
use Rattle.nodes.specs.Words.{lost, regulated, source_at}
use Rattle.nodes.proofs.end_system.EndSystem.handle.Goals as goal

pub returns-in-Offer-clause-state : goal.returns-in-Offer-clause-state
returns-in-Offer-clause-state c =
    let n = c.args.out.now.sender.number in
    let t = c.args.message.now.time in
    let s = c.args.self.now in
    c.regulate.ensures.state
    ∙ ap (λ e. (regulated n t e (lost Unknown e) s (source_at s c.in-Offer.vl)).state) c.offer.ensures
    ∙ ap (λ (b : Body). (end_system n t b s).state) (sym c.in-Offer.is)

pub returns-in-Offer-clause-reply : goal.returns-in-Offer-clause-reply
returns-in-Offer-clause-reply c =
    let out = c.args.out.now in
    let n = out.sender.number in
    let t = c.args.message.now.time in
    let s = c.args.self.now in
    c.regulate.ensures.reply
    ∙ ap (λ e. replied out (regulated n t e (lost Unknown e) s (source_at s c.in-Offer.vl)).reply) c.offer.ensures
    ∙ ap (λ (b : Body). replied out (end_system n t b s).reply) (sym c.in-Offer.is)

pub returns-in-Offer-clause-change : goal.returns-in-Offer-clause-change
returns-in-Offer-clause-change c =
    let n = c.args.out.now.sender.number in
    let t = c.args.message.now.time in
    let s = c.args.self.now in
    c.regulate.ensures.change
    ∙ ap (λ e. (regulated n t e (lost Unknown e) s (source_at s c.in-Offer.vl)).change) c.offer.ensures
    ∙ ap (λ (b : Body). (end_system n t b s).change) (sym c.in-Offer.is)

pub returns-in-Offer-clause-last : goal.returns-in-Offer-clause-last
returns-in-Offer-clause-last c = c.regulate.ensures.last

pub returns-in-Release-clause-state : goal.returns-in-Release-clause-state
returns-in-Release-clause-state c =
    c.regulate-in-Release.ensures.state ∙ ap (λ (b : Body). (end_system c.args.out.now.sender.number c.args.message.now.time b c.args.self.now).state) (sym c.in-Release.is)

pub returns-in-Release-clause-reply : goal.returns-in-Release-clause-reply
returns-in-Release-clause-reply c =
    let out = c.args.out.now in
    c.regulate-in-Release.ensures.reply ∙ ap (λ (b : Body). replied out (end_system out.sender.number c.args.message.now.time b c.args.self.now).reply) (sym c.in-Release.is)

pub returns-in-Release-clause-change : goal.returns-in-Release-clause-change
returns-in-Release-clause-change c =
    c.regulate-in-Release.ensures.change ∙ ap (λ (b : Body). (end_system c.args.out.now.sender.number c.args.message.now.time b c.args.self.now).change) (sym c.in-Release.is)

pub returns-in-Release-clause-last : goal.returns-in-Release-clause-last
returns-in-Release-clause-last c = c.regulate-in-Release.ensures.last
