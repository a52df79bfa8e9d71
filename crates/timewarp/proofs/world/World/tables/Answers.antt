use Rattle.std.proofs.Common.{◌∙◌, List, sym, ap, subst}
use Rattle.vlink.specs.Letters.{Row}
use Rattle.virtual_time.specs.Law.{Laws, IsFinished, IsWhole, rows_at}
use Rattle.virtual_time.specs.declared.step.Step.{Step}
use Rattle.nodes.specs.Words.{simulation_of}
use Rattle.seqsim.specs.Networks.{AreRowsOf}
use Rattle.seqsim.specs.Committed.{after, AreCommittedRows}
use Rattle.timewarp.specs.Networks.{NetworkWorld}
use Rattle.seqsim.proofs.CommittedRows.{rows-whole}
use Rattle.timewarp.proofs.world.World.tables.Goals as goal

-- in a finished world the rows of the one-thread run are those of the committed events
abbrev AreWhole : NetworkWorld → Type 0
AreWhole w =
    (steps : List Step) → IsFinished (simulation_of w.plan) (after w.plan steps) → (rows : List Row) → AreRowsOf w.plan rows → AreCommittedRows w.plan steps rows

whole : (w : NetworkWorld) → Laws (simulation_of w.plan) →
    ((steps : List Step) → IsFinished (simulation_of w.plan) (after w.plan steps) → IsWhole (simulation_of w.plan) (after w.plan steps)) → AreWhole w
whole w L law steps d rows r = λ p. ap (rows_at p) r.2 ∙ rows-whole (simulation_of w.plan) L steps (law steps d) r.0 r.1 p

pub returns-clause-sealed : goal.returns-clause-sealed
returns-clause-sealed c = λ steps h rows a.
    let plan = c.args.self.now.plan in
    let found = c.in_ok-committed_tables.ensures in
    found.1 ∙ c.tables_by_place_law.ensures.by_place plan found.0 rows (λ p. found.2 steps h p ∙ sym (a p))

pub returns-clause-rows : goal.returns-clause-rows
returns-clause-rows c = λ steps h.
    let found = c.in_ok-committed_tables.ensures in
    (found.0, found.2 steps h)

pub returns-clause-whole : goal.returns-clause-whole
returns-clause-whole c = λ steps h d rows r.
    let w : NetworkWorld = record { plan = c.self.inside.network; held = c.self.inside.actors } in
    returns-clause-sealed c steps h rows (subst AreWhole c.self.view_is (whole w c.network_law.ensures c.world_law.ensures.whole) steps d rows r)
