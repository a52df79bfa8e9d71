use Rattle.std.proofs.Common.{inl, inr}
use Rattle.afdxsim.proofs.Ended.{has_ended}
use Rattle.afdxsim.proofs.Statuses.{not_two}
use Rattle.afdxsim.proofs.obeying.obey.Goals as goal

pub returns-in-None-clause-twice : goal.returns-in-None-clause-twice
returns-in-None-clause-twice g c = λ two. absurd (not_two c.tell_outcome.result c.tell_outcome.ensures.status two)

pub returns-in-Some-clause-twice : goal.returns-in-Some-clause-twice
returns-in-Some-clause-twice g c = λ two. (c.in-Some.path.now, c.in-Some.ensures.twice)

pub returns-in-Some-clause-ends : goal.returns-in-Some-clause-ends
returns-in-Some-clause-ends g c = inl (c.in-Some.path.now, c.in-Some.ensures.twice, c.refuse_twice.ensures.told, c.refuse_twice.ensures.alone)

pub returns-in-None-clause-ends : goal.returns-in-None-clause-ends
returns-in-None-clause-ends g c =
    let done = c.do_order-outcome in
    inr (
      c.named_twice.ensures.apart c.in-None.is,
      has_ended g.H.Host.outside done.result c.args.order.now c.tell_outcome.result c.args.host.now done.new.host c.tell_outcome.new.host
          done.ensures.done done.ensures.fault done.ensures.kept c.tell_outcome.ensures.done c.tell_outcome.ensures.told c.tell_outcome.ensures.alone c.tell_outcome.ensures.output,
    )
