use Rattle.std.specs.Prelude.{true}
use Rattle.element_rows.proofs.tests.groups.play_script.Given as goal

-- the exchange is of the network that was read, in these groups, and its journal is kept
abbrev pub ghosts-play_at_start : goal.ghosts-play_at_start
ghosts-play_at_start a = record { plan = a.network.now; keeps = true; names = a.pairs; owners = a.owners.items }
