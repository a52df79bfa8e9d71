-- What error output hears of a run by workers: how far it is, and then of its groups and workers.
use Rattle.std.proofs.Common.{◌≡◌, ℕ, Bool, List, Option, inl, inr, ap, ◌∙◌}
use Rattle.command_line.specs.declared.orders.Run.{Run}
use Rattle.network.specs.Words.{Plan, process_count}
use Rattle.worker_pool.specs.declared.pace.Pace.{Pace}
use Rattle.worker_pool.specs.Paces.{actual_pace}
use Rattle.commands.specs.MoreProgress.{asked_as, asked_more}
use Rattle.commands.specs.Progress.{HearsAsked, IsProgressLine, groups_text}
use Rattle.afdxsim.specs.Workers.{IsRunLine, ordered_pace, run_pace}

-- a run that goes at the pace that is ordered
pub paced : (order : Run) (plan : Plan) (went pace : Pace) → pace ≡ ordered_pace (process_count plan) order → went ≡ actual_pace (process_count plan) pace →
    went ≡ run_pace order plan
paced order plan went pace ordered goes = goes ∙ ap (actual_pace (process_count plan)) ordered

module _ {E : Type 0} (taken : E → Option (List ℕ)) (failures : E → ℕ) (order : Run) (plan : Plan) where
  pub heard_so_far : (asked : Bool) (old new : E) → HearsAsked taken failures asked (IsProgressLine plan.until) old new →
      HearsAsked taken failures asked (IsRunLine order plan) old new
  heard_so_far asked old new told = asked_as taken failures (IsProgressLine plan.until) (IsRunLine order plan) (λ line is. inr is) asked old new told

  pub heard_whole : (asked : Bool) (old ran new : E) (pace : Pace) → pace ≡ run_pace order plan →
      HearsAsked taken failures asked (IsProgressLine plan.until) old ran →
      HearsAsked taken failures asked (λ line. line ≡ groups_text pace.groups pace.workers) ran new → HearsAsked taken failures asked (IsRunLine order plan) old new
  heard_whole asked old ran new pace went told one =
      asked_more taken failures (IsRunLine order plan) asked old ran new (heard_so_far asked old ran told)
      (asked_as taken failures (λ line. line ≡ groups_text pace.groups pace.workers) (IsRunLine order plan)
      (λ line is. inl (is ∙ ap (λ (p : Pace). groups_text p.groups p.workers) went)) asked ran new one)
