-- How long a regulator holds frames that are offered by a period, whatever the number of its sub-virtual links is.
use Rattle.std.proofs.Common.{◌≡◌, ℕ, ◌+◌, ◌-◌, ◌<◌, ◌≤◌, Some, arith}
use Rattle.bag_regulator.specs.Regulator.{opening}
use Rattle.reverse.specs.Rules.{rules_of}
use Rattle.reverse.specs.Setting.{Setting, simulation_of}
use Rattle.virtual_time.specs.Law.{Laws}
use Rattle.nodes.specs.rules.Node.{NodeState, regulator_in}
use Rattle.nodes.specs.undoing.Node.{node}
use Rattle.port_turns.specs.Nodes.{IsOfNodes}
use Rattle.frame_ages.specs.Latencies.{IsHeldWithin}
use Rattle.frame_ages.specs.Sizes.{OpensEmpty, Sizes}
use Rattle.frame_ages.specs.Waits.{IsOfferedBy}
use Rattle.frame_ages.proofs.HeldLemmas.{none-waits, none-yet, offered-all, opens, quiet}
use Rattle.sub_waits.proofs.OneWaits.{held}

module _ (x : Setting NodeState) (L : Laws (simulation_of (rules_of node) x)) (N : IsOfNodes x) (size : ℕ → Sizes) (O : OpensEmpty x size) (p v bag depth sub : ℕ) (inside : p < x.processes)
    (is : regulator_in (x.opening p).equipment (record { 0 = v }) ≡ Some (opening bag depth sub)) (period jitter early : ℕ) (I : IsOfferedBy x v period jitter early) (long : bag ≤ period)
    (short : early + jitter < period) where
  pub subs-held : IsHeldWithin x p v (((early + jitter) + bag) - period)
  subs-held = record {
    holds = λ q outlet there n.
        (held x N p q v depth sub bag inside (opens x size O p v bag depth sub inside is) (quiet x size O p v bag depth sub inside is) period jitter early (((early + jitter) + bag) - period) long short (omega arith)
        outlet.ahead.byte_ns L (I.due 0) n (none-waits x size O p v bag depth sub inside is) (none-yet x size O p v bag depth sub inside is) (offered-all x L p v period jitter early I n) outlet.port).low;
  }
