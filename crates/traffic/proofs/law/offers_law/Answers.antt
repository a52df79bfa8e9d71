use Rattle.traffic.specs.Offers.{last_of}
use Rattle.traffic.proofs.DrawingLemmas.{due_count-due}
use Rattle.traffic.proofs.LawLemmas.{lawful}
use Rattle.traffic.proofs.law.offers_law.Goals as goal

pub returns : goal.returns
returns g c = record {
  laws = λ f. lawful c.args.network.now f c.accepted_law.ensures c.process_count-few.ensures.few;
  due = λ stream limits k. due_count-due (last_of c.args.network.now.until stream) stream k limits;
}
