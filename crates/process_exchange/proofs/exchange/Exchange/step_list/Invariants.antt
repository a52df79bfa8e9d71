use Rattle.std.proofs.Common.{◌≡◌, take}
use Rattle.virtual_time.specs.Law.{steps}
use Rattle.process_exchange.proofs.exchange.Exchange.step_list.Given as goal

abbrev pub invariant-loop-at : goal.invariant-loop-at
invariant-loop-at g l = l.list.items ≡ steps (take l.at l.self.entries)
