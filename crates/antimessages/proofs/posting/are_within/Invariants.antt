use Rattle.std.proofs.Common.{◌<◌, All, take}
use Rattle.antimessages.proofs.posting.are_within.Given as goal

abbrev pub invariant-loop-place : goal.invariant-loop-place
invariant-loop-place l = All (λ letter. letter.message.receiver < l.processes) (take l.place l.letters)
