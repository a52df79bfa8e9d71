use Rattle.std.proofs.Common.{◌≡◌, Some, ap, sym, ◌∙◌, subst, slice_get, option_map}
use Rattle.network.specs.Words.{IsAccepted}
use Rattle.network.proofs.SourceLemmas.{vl-read}
use Rattle.network.proofs.LimitLemmas.{link-read}
use Rattle.network.proofs.network.Network.virtual_link.Goals as goal

pub returns : goal.returns
returns c =
    let vls = c.self.inside.numbered.vls in
    let plan = c.args.self.now in
    let accepted = subst IsAccepted c.self.view_is c.self.invariant.0 in
    let found = vl-read plan vls.items vls.len c.args.vl c.index.result.now accepted (ap (λ p. p.vls) c.self.view_is) vls.ok.0 c.requires c.index.ensures in
    let read : option_map (λ vl. vl.link) (slice_get plan.vls c.args.vl) ≡ Some c.link.result = ap (option_map (λ vl. vl.link)) found.0 ∙ ap Some (sym c.link.ensures) in
    record { value = read; limits = link-read plan c.args.vl c.link.result accepted read }
