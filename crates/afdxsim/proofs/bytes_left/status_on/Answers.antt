use Rattle.std.proofs.Common.{map}
use Rattle.commands.specs.Naming.{journal_of, trace_of}
use Rattle.afdxsim.proofs.Doing.{if_there, journal_left, trace_left, was_done}
use Rattle.afdxsim.proofs.bytes_left.status_on.Goals as goal

pub returns : goal.returns
returns g c = λ none zero.
    let outside = g.H.Host.outside in
    let old = c.args.host.now in
    let new = c.perform.new.host in
    let (order, means, (plan, given, done)) =
    was_done outside old new (map g.S.AsStr.text c.args.words.now) c.perform.result (c.perform.ensures.ordered none) zero in (
      order,
      plan,
      means,
      given,
      λ no_journal. if_there (trace_of order) _ (λ path is. trace_left outside old new plan order path done no_journal is),
      if_there (journal_of order) _ (λ path is. journal_left outside old new plan order path done is),
    )
