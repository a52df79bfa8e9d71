use Rattle.plan_bounds.proofs.Texts.{contract-texts-true, texts-true}
use Rattle.plan_bounds.proofs.text_law.Goals as goal

pub returns : goal.returns
returns c = record {
  stated = texts-true c.args.shape.now c.accepted_law.ensures c.ages_law.ensures.deliveries c.ports_law.ensures.bytes c.ports_law.ensures.roomy;
  contract = contract-texts-true c.args.shape.now c.accepted_law.ensures c.ages_law.ensures.deliveries c.ports_law.ensures.bytes c.ports_law.ensures.roomy;
}
