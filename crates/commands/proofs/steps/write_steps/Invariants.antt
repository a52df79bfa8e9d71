use Rattle.std.proofs.Common.{◌≡◌, ◌≤◌, take, vec_len, vec_capacity}
use Rattle.journal_text.specs.Text.{steps_text}
use Rattle.commands.proofs.Holding.{IsHeld}
use Rattle.commands.proofs.steps.write_steps.Given as goal

abbrev pub invariant-loop-step : goal.invariant-loop-step
invariant-loop-step g l = record {
  held : IsHeld (g.S.Sink.taken l.initial.sink) (g.S.Sink.taken l.sink) l.held.items (steps_text (take l.step-index l.steps));
  failures : g.S.Sink.failures l.sink ≡ g.S.Sink.failures l.initial.sink;
  within : vec_len l.held ≤ 65536;
  room : 65536 ≤ vec_capacity l.held;
}
