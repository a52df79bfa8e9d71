use Rattle.std.proofs.Common.{refl, true, ◌≡◌}
use Rattle.port_turns.specs.Nodes.{is_offer}
use Rattle.plan_ports.proofs.Linked.{are-offers}
use Rattle.plan_ports.proofs.Offered.{all-offered}
use Rattle.plan_ports.proofs.offers.offered_law.Goals as goal

pub returns : goal.returns
returns c =
    let plan = c.args.network.now in
    record {
      nodes = record { number = λ p lt. refl; until = λ p lt. refl; offered = all-offered plan (λ m. is_offer m.body ≡ true) (λ s n of. refl) };
      offers = are-offers plan c.accepted_law.ensures;
    }
