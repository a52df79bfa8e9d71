use Rattle.std.proofs.Common.{List, Some, ℕ, inr, sym, subst}
use Rattle.commands.proofs.Outcomes.{err_then, ok_if}
use Rattle.commands.proofs.replaying.conclusion_in.Goals as goal

pub returns-in-Ok-clause-told : goal.returns-in-Ok-clause-told
returns-in-Ok-clause-told g c =
    ok_if c.conclusion_of.result c.conclusion_of.ensures.told (λ conclusion tells. (
      c.as_slice.result.now,
      subst (λ (items : List ℕ). g.H.Host.outside.gives c.args.host.now c.args.steps.now (Some items)) (sym c.as_slice.ensures.value) c.in-Ok.ensures.bytes,
      tells,
    ))

pub returns-in-Ok-clause-fault : goal.returns-in-Ok-clause-fault
returns-in-Ok-clause-fault g c =
    err_then c.conclusion_of.result c.conclusion_of.ensures.fault (λ fault is. inr (
      c.as_slice.result.now,
      subst (λ (items : List ℕ). g.H.Host.outside.gives c.args.host.now c.args.steps.now (Some items)) (sym c.as_slice.ensures.value) c.in-Ok.ensures.bytes,
      is,
      c.in-Ok.ensures.host,
    ))
