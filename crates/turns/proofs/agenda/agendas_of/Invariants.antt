use Rattle.std.proofs.Common.{◌≡◌, length}
use Rattle.turns.proofs.agenda.agendas_of.Given as goal

abbrev pub invariant-loop-worker : goal.invariant-loop-worker
invariant-loop-worker g l = length l.agendas.items ≡ l.worker
