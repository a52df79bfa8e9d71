use Rattle.std.proofs.Common.{take}
use Rattle.group_turns.specs.Section.{AreListed}
use Rattle.group_turns.proofs.letters.list_letters.Given as goal

abbrev pub invariant-loop-letter : goal.invariant-loop-letter
invariant-loop-letter g l = AreListed g.J.NetworkRun.owners (take l.letter-index l.letters) l.initial.letters_ns l.letters_ns
