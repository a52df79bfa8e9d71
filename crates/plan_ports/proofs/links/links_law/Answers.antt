use Rattle.plan_ports.proofs.Linked.{all-empty, are-bags, are-positive, are-sizes, are-sources, are-transits, have-sources, have-transits}
use Rattle.plan_ports.proofs.links.links_law.Goals as goal

pub returns : goal.returns
returns c =
    let plan = c.args.network.now in
    let accepted = c.accepted_law.ensures in
    record {
      sizes = λ vl there. are-sizes plan accepted vl there;
      bags = λ vl there. are-bags plan accepted vl there;
      greatest = λ vl there. are-positive plan accepted vl there;
      transits = λ p v transit e. are-transits plan accepted p v transit e;
      have_transits = λ p q vl l s e. have-transits plan accepted p q vl l s e;
      sources = λ p v s is found e. are-sources plan accepted p v s is found e;
      have_sources = λ p q vl l s is. have-sources plan accepted p q vl l s is;
      empty = λ p s is. all-empty plan accepted p s is;
    }
