use Rattle.std.proofs.Common.{◌≡◌}
use Rattle.turns.specs.Turn.{IsTurn}
use Rattle.turns.proofs.handling.handle_pieces.Given as goal

abbrev pub invariant-loop : goal.invariant-loop
invariant-loop g l = record {
  turn : IsTurn g.K.Tasks.handles g.K.Tasks.stays l.common.turn l.common.window_ns l.initial.seat.group l.seat.group l.handled;
  unposted : l.seat.unposted ≡ l.initial.seat.unposted;
}
