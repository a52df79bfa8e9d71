use Rattle.std.proofs.Common.{refl, ap, sym, ◌∙◌, subst, option_and_then, IsSome, arith}
use Rattle.network.specs.Words.{source_of, IsAccepted}
use Rattle.network.proofs.BuildLemmas.{few-accepted}
use Rattle.network.proofs.SourceLemmas.{vl-read, end-system-is, end-system-below}
use Rattle.network.proofs.network.Network.source.Goals as goal

pub unwrap-requires : goal.unwrap-requires
unwrap-requires c =
    let vls = c.self.inside.numbered.vls in
    let found = vl-read c.args.self.now vls.items vls.len c.args.vl c.index.result.now (subst IsAccepted c.self.view_is c.self.invariant.0) (ap (λ p. p.vls) c.self.view_is) vls.ok.0 c.requires c.index.ensures in
    subst IsSome (sym (c.source.ensures ∙ found.1.is)) refl

pub process_number-requires : goal.process_number-requires
process_number-requires c =
    let plan = c.args.self.now in
    let vls = c.self.inside.numbered.vls in
    let accepted = subst IsAccepted c.self.view_is c.self.invariant.0 in
    let found = vl-read plan vls.items vls.len c.args.vl c.index.result.now accepted (ap (λ p. p.vls) c.self.view_is) vls.ok.0 c.requires c.index.ensures in
    let end_system = end-system-is plan.nodes _ c.unwrap.result found.1 (sym c.source.ensures ∙ c.unwrap.ensures) in
    omega (arith, few-accepted plan accepted, end-system-below plan.nodes c.unwrap.result end_system)

pub returns : goal.returns
returns c =
    let plan = c.args.self.now in
    let vls = c.self.inside.numbered.vls in
    let found = vl-read plan vls.items vls.len c.args.vl c.index.result.now (subst IsAccepted c.self.view_is c.self.invariant.0) (ap (λ p. p.vls) c.self.view_is) vls.ok.0 c.requires c.index.ensures in
    let is = sym c.source.ensures ∙ c.unwrap.ensures in
    let end_system = end-system-is plan.nodes _ c.unwrap.result found.1 is in
    rw c.process_number.ensures (record { value = ap (option_and_then source_of) found.0 ∙ is; node = end-system-below plan.nodes c.unwrap.result end_system; end_system = end_system })
