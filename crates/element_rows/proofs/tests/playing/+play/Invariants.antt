use Rattle.std.proofs.Common.{length}
use Rattle.element_rows.proofs.tests.playing.+play.Given as goal

abbrev pub decreases-play : goal.decreases-play
decreases-play g l = length l.words.now
