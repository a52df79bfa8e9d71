-- What happens to an exchange and to a group in a section of a worker.
use Rattle.std.specs.Prelude.{◌≡◌, ℕ, Bool, true, List, Option, Some, None, IsSome, slice_get}
use Rattle.std.specs.Option.{option_map}
use Rattle.vlink.specs.Letters.{Letter}
use Rattle.vlink.specs.Order.{message_order}
use Rattle.virtual_time.specs.Law.{lowest, times_of}
use Rattle.network.specs.Words.{Plan}
use Rattle.nodes.specs.Words.{NodeState, simulation_of}
use Rattle.nodes.specs.declared.node.NodeRecord.{NodeRecord}
use Rattle.group_boxes.specs.Boxing.{for_group}
use Rattle.group_exchange.specs.Views.{Ledger, GroupState}
use Rattle.group_exchange.specs.Effects.{Collects, Posts, Publishes}

-- for each group the moment that is listed was lowered to the least of these letters for it
abbrev pub AreListed : List ℕ → List Letter → List ℕ → List ℕ → Type 0
AreListed owners letters old new =
    (g : ℕ) → slice_get new g ≡ option_map (λ ns. lowest ns (times_of message_order (for_group message_order owners g letters))) (slice_get old g)

module _ (plan : Plan) (owners : List ℕ) where
  -- GVT was set, and is this; or nothing changed
  abbrev pub SetsGvt : Option ℕ → Ledger → Ledger → Type 0
  SetsGvt (Some gvt) x y = Publishes (simulation_of plan) owners x y gvt
  SetsGvt None x y = y ≡ x

  -- a section of a worker: the group posts what it did; GVT is set, always if the worker waits for it; then all letters that wait for the group come to it
  pub record Meets (waits : Bool) (gvt : Option ℕ) (x : Ledger) (h : GroupState NodeState NodeRecord) (y : Ledger) (k : GroupState NodeState NodeRecord) : Type 0 where
    pub posted : Ledger
    pub behind : GroupState NodeState NodeRecord
    pub posts : Posts (simulation_of plan) owners x h posted behind
    pub set : Ledger
    pub sets : SetsGvt gvt posted set
    pub waited : waits ≡ true → IsSome gvt
    pub count : ℕ
    pub collects : Collects (simulation_of plan) owners set behind y k count
