use Rattle.turn_words.specs.Outcomes.{IsLeastOf}
use Rattle.turn_words.proofs.outcomes.least_fault.Given as goal

abbrev pub invariant-loop-outcome : goal.invariant-loop-outcome
invariant-loop-outcome g l = record {
  can : (goal.iterator-loop-outcome g).can_next l.outcome-iterator;
  ends : (goal.iterator-loop-outcome g).is_finite l.outcome-iterator;
  least : IsLeastOf g.F.Refusal.rank l.yielded l.told;
}
