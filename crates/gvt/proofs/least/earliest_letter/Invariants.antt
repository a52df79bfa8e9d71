use Rattle.std.proofs.Common.{◌≡◌, take}
use Rattle.virtual_time.specs.Law.{lowest, times_of}
use Rattle.vlink.specs.Order.{message_order}
use Rattle.antimessages.specs.Mailing.{letters_for}
use Rattle.gvt.proofs.least.earliest_letter.Given as goal

abbrev pub invariant-loop-place : goal.invariant-loop-place
invariant-loop-place l = l.earliest ≡ lowest l.fn.moment (times_of message_order (take l.place (letters_for l.process l.mail)))
