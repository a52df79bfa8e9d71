use Rattle.std.proofs.Common.{◌∙◌, sym, subst, map-id}
use Rattle.std.proofs.lemmas.Iterator.Adapters.{YieldsList-from_vec}
use Rattle.std.proofs.lemmas.Iterator.Consumers.{YieldsList-end}
use Rattle.turn_words.specs.Outcomes.{IsLeastOf}
use Rattle.turn_words.proofs.LeastFault.{least-none, least-more}
use Rattle.turn_words.proofs.outcomes.least_fault.Goals as goal

pub loop-outcome-init : goal.loop-outcome-init
loop-outcome-init g c = record { can = tt; ends = tt; least = least-none g.F.Refusal.rank }

pub loop-outcome-preserved : goal.loop-outcome-preserved
loop-outcome-preserved g c =
    record {
      can = tt;
      ends = tt;
      least = least-more g.F.Refusal.rank c.loop-outcome.yielded c.in-Some.outcome c.loop-outcome.told c.lesser-told.result c.loop-outcome.invariant.least
          c.lesser-told.ensures.either c.lesser-told.ensures.least c.lesser-told.ensures.least_other c.lesser-told.ensures.well;
    }

pub returns : goal.returns
returns g c =
    let given = c.into_iter-outcome-iterator.ensures.into_iter_gives in
    let road = YieldsList-from_vec {s = c.into_iter-outcome-iterator.result} c.args.outcomes.items given.0 (given.1 ∙ c.args.outcomes.ok.0) in
    let end = YieldsList-end road c.loop-outcome.yielded c.loop-outcome.outcome-iterator c.loop-outcome.yielded_by c.next.result c.next.new.self c.in-None.is c.next.ensures.steps in
    subst (λ xs. IsLeastOf g.F.Refusal.rank xs c.loop-outcome.told) (sym (map-id c.loop-outcome.yielded) ∙ end.0) c.loop-outcome.invariant.least
