use Rattle.std.proofs.Common.{◌∙◌, option_map, ap, subst}
use Rattle.std.proofs.lemmas.Option.{IfSome_then}
use Rattle.netdesc.specs.Words.{Describes}
use Rattle.commands.specs.Naming.{journal_of, trace_of}
use Rattle.afdxsim.proofs.bytes_left.status_of.Goals as goal

pub returns : goal.returns
returns g c = λ none zero.
    let (order, plan, means, given, traced, kept) = c.status_on.ensures none zero in (
      order,
      plan,
      means,
      subst (λ bytes. Describes bytes plan) given.1.1 given.2,
      λ no_journal. IfSome_then (trace_of order) (traced no_journal) (λ path left. (
        left.2.0.bytes.items,
        ap (λ host. option_map (λ sheet. sheet.bytes.items) host.last) left.3.1
            ∙ ap (λ host. option_map (λ sheet. sheet.bytes.items) host.last) left.2.2,
        left.2.1,
      )),
      IfSome_then (journal_of order) kept (λ path left. (
        left.2.0.bytes.items,
        ap (λ host. option_map (λ sheet. sheet.bytes.items) host.last) left.3.1
            ∙ ap (λ host. option_map (λ sheet. sheet.bytes.items) host.last) left.2.2,
        left.2.1,
      )),
    )
