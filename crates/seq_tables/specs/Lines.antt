-- Which processes of a network run ahead in its one-thread run: lines without outages.
use Rattle.std.specs.Prelude.{◌≡◌, ℕ, ◌-◌, Bool, true, List, [], length, slice_get, Some}
use Rattle.std.specs.Option.{option_map_or}
use Rattle.network.specs.declared.wiring.LinePlan.{LinePlan}
use Rattle.network.specs.Words.{Plan, lines_of, outages_of, process_count}
use Rattle.plan_ports.specs.Outlets.{line_process}
use Rattle.actor_run.specs.RunningAhead.{is_marked}

-- process p is a line without outages
pub record IsOpenLine (plan : Plan) (p : ℕ) : Type 0 where
  pub k : ℕ
  pub line : LinePlan
  pub read : slice_get (lines_of plan) k ≡ Some line
  pub process : p ≡ line_process plan k
  pub is_open : outages_of plan k ≡ []

-- there is a mark for each process, and it is set for lines without outages alone
pub record AreMarked (plan : Plan) (marks : List Bool) : Type 0 where
  pub count : length marks ≡ process_count plan
  pub lines : (p : ℕ) → is_marked marks p ≡ true → IsOpenLine plan p

-- the node from which a line starts, by the process of the line
abbrev pub starts_of : Plan → ℕ → ℕ
starts_of plan p = option_map_or (λ line. line.from) (slice_get (lines_of plan) (p - length plan.nodes)) 0
