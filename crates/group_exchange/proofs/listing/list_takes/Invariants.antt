use Rattle.std.proofs.Common.{◌≡◌, ◌+◌, ◌++◌, map, take, vec_len, vec_capacity}
use Rattle.virtual_time.specs.declared.step.Step.TheVariants.{Take}
use Rattle.group_exchange.proofs.listing.list_takes.Given as goal

abbrev pub invariant-loop-letter : goal.invariant-loop-letter
invariant-loop-letter l = record {
  items : l.steps.items ≡ l.initial.steps.items ++ map (λ x. Take x.message.receiver 0) (take l.letter-index l.letters);
  len : vec_len l.steps ≡ vec_len l.initial.steps + l.letter-index;
  capacity : vec_capacity l.steps ≡ vec_capacity l.initial.steps;
}
