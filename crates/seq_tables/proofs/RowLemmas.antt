-- The rows of the one-thread run of a network.
use Rattle.std.proofs.Common.{◌≡◌, ◌∙◌, List, sym, ap, inl, inr, arith}
use Rattle.std.proofs.lemmas.Bool.{cases_lt}
use Rattle.vlink.specs.Letters.{Row}
use Rattle.virtual_time.specs.Law.{Laws, one}
use Rattle.virtual_time.proofs.OneThreadLater.{over-same}
use Rattle.network.specs.Words.{Plan}
use Rattle.nodes.specs.Words.{simulation_of}
use Rattle.network_actors.specs.Networks.{AreRowsOf}

-- all runs of a network in which nothing waits any more have the same rows
pub same-rows : (plan : Plan) → Laws (simulation_of plan) → (rows others : List Row) → AreRowsOf plan rows → AreRowsOf plan others → rows ≡ others
same-rows plan L rows others r o =
    let f = simulation_of plan in
    let same : one f r.0 ≡ one f o.0 = elim (cases_lt r.0 o.0) [
      | inl i ↦ sym (over-same f L r.0 o.0 r.1 (omega arith))
      | inr i ↦ over-same f L o.0 r.0 o.1 i
    ] in
    r.2 ∙ (ap (λ t. t.rows) same ∙ sym o.2)
