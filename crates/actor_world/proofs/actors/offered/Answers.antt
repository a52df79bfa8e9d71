use Rattle.std.proofs.Common.{sym}
use Rattle.actor_world.proofs.actors.offered.Goals as goal

pub with_letters-requires : goal.with_letters-requires
with_letters-requires c = rw c.in_ok-letters.ensures c.requires

pub returns-clause-letters : goal.returns-clause-letters
returns-clause-letters c = rw (sym c.in_ok-letters.ensures) c.with_letters.ensures.letters
