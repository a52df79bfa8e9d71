use Rattle.std.proofs.Common.{◌<◌, sym, ◌∙◌, subst, All}
use Rattle.std.proofs.lemmas.List.Elements.{All-drop}
use Rattle.network.specs.declared.limits.TheConstants.{GREATEST_PORTS}
use Rattle.nodes.proofs.VlLemmas.{all_met-more}
use Rattle.nodes.proofs.opening.meeting.all_met.Goals as goal

pub loop-rest-preserved : goal.loop-rest-preserved
loop-rest-preserved c =
    let rest = c.loop-rest.rest.now in
    let split = c.split_at.ensures in
    record {
      met = all_met-more c.args.network.now c.loop-rest.found.items c.meet.new.meetings.items rest c.split_at.result.0.now c.split_at.result.1.now c.group_len.result c.group_len.ensures.group split.front split.back c.in_ok-meet.ensures.met
          ∙ c.loop-rest.invariant.met;
      limits = c.in_ok-meet.ensures.limits;
      ports = subst (All (λ way. way.port < GREATEST_PORTS)) (sym split.back) (All-drop (λ way. way.port < GREATEST_PORTS) c.group_len.result rest c.loop-rest.invariant.ports);
    }
