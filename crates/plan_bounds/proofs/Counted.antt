-- The sizes that bounds count at a node are those that frames have there.
use Rattle.std.specs.Prelude.{◌≡◌, ℕ, ◌≤◌, false}
use Rattle.network.specs.Words.{Plan, VlPlan, is_end_system}
use Rattle.nodes.specs.rules.Opening.{opening}
use Rattle.plan_ports.specs.Links.{LeavesBy}
use Rattle.frame_ages.specs.Ports.{HasAtMost}
use Rattle.frame_ages.specs.Sizes.{Sizes}
use Rattle.network_bounds.specs.declared.sizes.FrameSizes.{FrameSizes}
use Rattle.network_bounds.specs.declared.sizes.LinkSizes.{LinkSizes}
use Rattle.network_bounds.specs.Passing.{sizes_at}

-- no frame that is put to a port of node p is longer, and none is shorter that comes to a switch
pub record IsSized (plan : Plan) (size : ℕ → Sizes) (p : ℕ) (vl : VlPlan) (counted : FrameSizes) : Type 0 where
  pub most : HasAtMost (opening plan p).equipment size vl.link.id.0 counted.greatest
  pub small : counted.greatest ≤ 1518
  pub some : 1 ≤ counted.least
  pub shorter : is_end_system plan.nodes p ≡ false → counted.least ≤ (size vl.link.id.0).least

-- so it is of each virtual link that leaves it
abbrev pub AreSized : Plan → (ℕ → LinkSizes) → (ℕ → Sizes) → ℕ → Type 0
AreSized plan known size p = (q : ℕ) (vl : VlPlan) → LeavesBy plan p q vl → IsSized plan size p vl (sizes_at (is_end_system plan.nodes p) (known vl.link.id.0))
