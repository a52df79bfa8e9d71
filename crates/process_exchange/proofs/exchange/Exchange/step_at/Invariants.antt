use Rattle.std.proofs.Common.{◌≡◌, drop, slice_get}
use Rattle.virtual_time.specs.Law.{steps}
use Rattle.process_exchange.proofs.exchange.Exchange.step_at.Given as goal

abbrev pub invariant-loop-at : goal.invariant-loop-at
invariant-loop-at g l = slice_get (steps l.self.entries) l.place ≡ slice_get (steps (drop l.at l.self.entries)) l.left
