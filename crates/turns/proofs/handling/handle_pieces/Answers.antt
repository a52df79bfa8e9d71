use Rattle.std.proofs.Common.{refl, ◌∙◌}
use Rattle.turns.proofs.TurnPieces.{no-piece, one-more}
use Rattle.turns.proofs.handling.handle_pieces.Goals as goal

pub loop-init : goal.loop-init
loop-init g c = record { turn = no-piece g.K.Tasks.handles g.K.Tasks.stays c.args.common.now.turn c.args.common.now.window_ns c.args.seat.now.group; unposted = refl }

pub loop-preserved : goal.loop-preserved
loop-preserved g c = record {
  turn = one-more g.K.Tasks.handles g.K.Tasks.stays c.args.common.now.turn c.args.common.now.window_ns c.messages_of_piece-most.result
      c.args.seat.now.group c.loop.seat.group c.handle_piece.new.seat.group c.loop.handled c.in_ok-count.count _ c.loop.invariant.turn
      c.messages_of_piece-most.ensures.left c.in_ok-count.ensures.piece refl;
  unposted = c.handle_piece.ensures.unposted ∙ c.loop.invariant.unposted;
}

pub returns-then-is_done-clause-turn : goal.returns-then-is_done-clause-turn
returns-then-is_done-clause-turn g c =
    one-more g.K.Tasks.handles g.K.Tasks.stays c.args.common.now.turn c.args.common.now.window_ns c.messages_of_piece-most.result
    c.args.seat.now.group c.loop.seat.group c.handle_piece.new.seat.group c.loop.handled c.in_ok-count.count _ c.loop.invariant.turn
    c.messages_of_piece-most.ensures.left c.in_ok-count.ensures.piece refl

pub returns-clause-turn : goal.returns-clause-turn
returns-clause-turn g c = c.loop.invariant.turn
