use Rattle.std.proofs.Common.{◌≡◌, ◌++◌, take}
use Rattle.vlink.specs.declared.message.Message.{Message}
use Rattle.virtual_time.specs.Law.{steps_of}
use Rattle.process_exchange.proofs.reading.add_steps.Given as goal

abbrev pub invariant-loop-at : goal.invariant-loop-at
invariant-loop-at l = l.list.items ≡ l.initial.list.items ++ take l.at (steps_of {M = Message} l.entry.process l.entry.deed)
