use Rattle.runs_ahead.proofs.Running.{ends-alike, same-events}
use Rattle.runs_ahead.proofs.Beginnings.{are-left, are-left-within}
use Rattle.runs_ahead.proofs.Answered.{answers-events, good-alike}
use Rattle.runs_ahead.proofs.ahead_law.Goals as goal

pub returns : goal.returns
returns g c = record {
  events = λ f L ahead from R. same-events f L ahead from R;
  answers = λ f L ahead from R. answers-events f L ahead from R;
  ends = λ f L ahead from R. ends-alike f L ahead from R;
  left = λ f L ahead from R. are-left f L ahead from R;
  left_within = λ f L ahead from R. are-left-within f L ahead from R;
  good = λ f L ahead from R. good-alike f L ahead from R;
}
