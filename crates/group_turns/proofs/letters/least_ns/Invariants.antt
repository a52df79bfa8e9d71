use Rattle.std.proofs.Common.{◌≡◌, take}
use Rattle.vlink.specs.Order.{message_order}
use Rattle.virtual_time.specs.Law.{lowest, times_of}
use Rattle.group_turns.proofs.letters.least_ns.Given as goal

abbrev pub invariant-loop-letter : goal.invariant-loop-letter
invariant-loop-letter l = l.least_ns ≡ lowest 18446744073709551615 (times_of message_order (take l.letter-index l.letters))
