-- One process alone: each act keeps it well, and each but the emptying keeps what its outbox tells.
use Rattle.std.proofs.Common.{◌≡◌, refl}
use Rattle.virtual_time.specs.Law.{Rules, IsOrder, Part, IsWell, SendsKept, Act, acted, Deliver, Emptying, Moves}
use Rattle.virtual_time.proofs.WellStep.{delivered-well, emptied-well}
use Rattle.virtual_time.proofs.WellArrive.{arrive-well}
use Rattle.virtual_time.proofs.WellRun.{run-well}
use Rattle.virtual_time.proofs.WellCommit.{commit-well}
use Rattle.virtual_time.specs.declared.moved.Move.TheVariants.{Arrived, Ran, Committed}

module _ {M S K N : Type 0} (r : Rules M S K N) (O : IsOrder r.order) (Good : S → Type 0)
    (law : (s : S) (e : M) → Good s → r.undo (r.after s e) e (r.kept s e) ≡ s) (opening : S) where
  pub act-well : (a : Act M) (part : Part M S) → IsWell r Good opening part → (a ≡ Moves Ran → Good part.state) → IsWell r Good opening (acted r opening a part)
  act-well (Deliver l) part w g = delivered-well r Good opening l part w
  act-well (Moves Arrived) part w g = (arrive-well r O Good law opening part w).well
  act-well (Moves Ran) part w g = (run-well r O Good law opening part w (g refl)).well
  act-well (Moves Committed) part w g = (commit-well r O Good law opening part w).well
  act-well Emptying part w g = emptied-well r Good opening part w

  pub act-sends : (a : Act M) (part : Part M S) → IsWell r Good opening part → (a ≡ Moves Ran → Good part.state) → (a ≡ Emptying → ⊥) →
      (m : M) → SendsKept r opening part (acted r opening a part) m
  act-sends (Deliver l) part w g n m = refl
  act-sends (Moves Arrived) part w g n m = (arrive-well r O Good law opening part w).sends m
  act-sends (Moves Ran) part w g n m = (run-well r O Good law opening part w (g refl)).sends m
  act-sends (Moves Committed) part w g n m = (commit-well r O Good law opening part w).sends m
  act-sends Emptying part w g n m = absurd (n refl)
