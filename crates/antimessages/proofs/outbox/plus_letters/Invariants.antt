use Rattle.std.proofs.Common.{◌≡◌, map, take}
use Rattle.virtual_time.specs.Law.{plus_of}
use Rattle.antimessages.proofs.outbox.plus_letters.Given as goal

abbrev pub invariant-loop-message : goal.invariant-loop-message
invariant-loop-message l = l.outbox.letters ≡ map plus_of (take l.message-index l.messages)
