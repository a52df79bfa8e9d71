-- How long the regulators of a network hold frames.
use Rattle.std.specs.Prelude.{◌≡◌, ℕ, ◌+◌, ◌-◌, ◌*◌, ◌<◌, ◌≤◌, ◌==◌, ◌⊎◌, Contains, false, if◌then◌else◌}
use Rattle.std.specs.List.{list_any}
use Rattle.reverse.specs.Rules.{rules_of}
use Rattle.reverse.specs.Setting.{simulation_of}
use Rattle.virtual_time.specs.Law.{Laws}
use Rattle.network.specs.Words.{Plan, VlPlan, process_count}
use Rattle.traffic.specs.Plain.{is_periodic}
use Rattle.nodes.specs.declared.equipment.Equipment.TheVariants as equipment
use Rattle.nodes.specs.rules.EndSystem.{EndSystemState}
use Rattle.nodes.specs.rules.Opening.{bag_ns, opening}
use Rattle.nodes.specs.undoing.Node.{node}
use Rattle.seqsim.specs.Networks.{setting_of}
use Rattle.port_turns.specs.Nodes.{IsOfNodes}
use Rattle.frame_ages.specs.Latencies.{IsHeldWithin}
use Rattle.frame_ages.specs.Sizes.{OpensEmpty, Sizes}
use Rattle.plan_ports.specs.Links.{LeavesBy}

-- end system p sends the virtual link
pub record IsSent (plan : Plan) (p : ℕ) (vl : VlPlan) : Type 0 where
  pub inside : p < process_count plan
  pub is_vl : Contains plan.vls vl
  pub port : ℕ
  pub leaves : LeavesBy plan p port vl
  pub end_system : EndSystemState
  pub is : (opening plan p).equipment ≡ equipment.EndSystem end_system

-- its regulator holds no frame for more BAGs than its lists have room for frames
abbrev pub AreListsHeld : Plan → Type 0
AreListsHeld plan =
    Laws (simulation_of (rules_of node) (setting_of plan)) → IsOfNodes (setting_of plan) → (size : ℕ → Sizes) → OpensEmpty (setting_of plan) size →
    (p : ℕ) (vl : VlPlan) → IsSent plan p vl → IsHeldWithin (setting_of plan) p vl.link.id.0 ((vl.link.depth * vl.link.sub) * bag_ns vl.link)

-- the virtual link has no stream but its own, and one list; or its bursts are of one frame and come each before the next one is due, so at most one frame
-- waits in its lists. Bursts come in order, at most so late, and a period has a BAG for each frame of a burst. A sporadic burst is never late, as the next
-- one is due a period after it comes
pub record IsSteady (plan : Plan) (vl : VlPlan) (late : ℕ) : Type 0 where
  pub one_waits : (vl.link.sub ≡ 1) ⊎ ((vl.link.own.frames ≡ 1) × (late < vl.link.own.period_ns))
  pub alone : list_any (λ s. s.vl.0 == vl.link.id.0) plan.streams ≡ false
  pub in_time : vl.link.own.frames * bag_ns vl.link ≤ vl.link.own.period_ns
  pub late_is : late ≡ (if is_periodic vl.link.own.timing then vl.link.own.jitter_ns else 0)
  pub in_order : late ≤ vl.link.own.period_ns

-- then its regulator holds no frame for longer than the BAGs of the frames before it in its burst, and what those of a burst and its lateness are beyond the
-- period
abbrev pub ArePeriodsHeld : Plan → Type 0
ArePeriodsHeld plan =
    Laws (simulation_of (rules_of node) (setting_of plan)) → IsOfNodes (setting_of plan) → (size : ℕ → Sizes) → OpensEmpty (setting_of plan) size →
    (p : ℕ) (vl : VlPlan) → IsSent plan p vl → (late : ℕ) → IsSteady plan vl late →
    IsHeldWithin (setting_of plan) p vl.link.id.0
    ((vl.link.own.frames * bag_ns vl.link - bag_ns vl.link) + ((late + vl.link.own.frames * bag_ns vl.link) - vl.link.own.period_ns))
