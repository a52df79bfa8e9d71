use Rattle.std.proofs.Common.{◌≡◌, ◌++◌, ◌+◌, ℕ, List, [], sym, subst, arith}
use Rattle.vlink.specs.Letters.{Row}
use Rattle.virtual_time.specs.Law.{rowed, Laws}
use Rattle.virtual_time.specs.declared.step.Step.{Step}
use Rattle.network.specs.Words.{Plan, process_count}
use Rattle.nodes.specs.Words.{IsNodeValue, IsPlaced, simulation_of}
use Rattle.trace_tables.specs.SoFar.{SoFarLists, IsSoFar}
use Rattle.trace_tables.specs.Tables.{TableLists, tables_of}
use Rattle.seqsim.specs.Networks.{setting_of}
use Rattle.actor_run.proofs.Errors.{ok-weaker}
use Rattle.actor_world.specs.Worlds.{AtEachWorld}
use Rattle.seqsim.specs.Committed.{after, AreCommittedRows}
use Rattle.timewarp.specs.Networks.{NetworkWorld, IsAfter}
use Rattle.seqsim.proofs.CommittedRows.{AreRowsBelow, rows-none, rows-more, rows-all}
use Rattle.timewarp.proofs.NetworkWorlds.{IsLayout}
use Rattle.timewarp.proofs.world.World.committed_tables.Goals as goal

-- at the first n processes the rows are those that are committed, in each world that it stands for
abbrev AreFound : NetworkWorld → ℕ → List Row → Type 0
AreFound w n rows = (steps : List Step) → IsAfter w steps → AreRowsBelow (simulation_of w.plan) (after w.plan steps) n rows

-- they are counted
counted : (w now : NetworkWorld) → w ≡ now → (tables : SoFarLists) (rows : List Row) → IsSoFar w.plan tables rows → IsSoFar now.plan tables rows
counted w now e tables rows = subst (λ (z : NetworkWorld). IsSoFar z.plan tables rows) e

counting : (w now : NetworkWorld) → w ≡ now → (tables : SoFarLists) (rows : List Row) → IsSoFar now.plan tables rows → IsSoFar w.plan tables rows
counting w now e tables rows = subst (λ (z : NetworkWorld). IsSoFar z.plan tables rows) (sym e)

next : (w now : NetworkWorld) → w ≡ now → IsLayout w.plan → Laws (simulation_of w.plan) → (n : ℕ) (rows more : List Row) →
    AtEachWorld (simulation_of w.plan).rules (λ s. s.sender.number) (λ s. s.sender.until) IsPlaced IsNodeValue w.held
    (λ f v. more ≡ rowed f.rules (f.opening n) (v.parts n).committed) →
    AreFound now n rows → AreFound now (n + 1) (rows ++ more)
next w now e layout L n rows more s =
    subst (λ (z : NetworkWorld). AreFound z n rows → AreFound z (n + 1) (rows ++ more)) e (λ found steps h.
    rows-more (simulation_of w.plan) L steps n rows more (found steps h) (s (setting_of w.plan) layout steps h))

last : (w now : NetworkWorld) → w ≡ now → Laws (simulation_of w.plan) → (n : ℕ) (rows : List Row) → n ≡ process_count w.plan →
    AreFound now n rows → (steps : List Step) → IsAfter now steps → AreCommittedRows now.plan steps rows
last w now e L n rows k =
    subst (λ (z : NetworkWorld). AreFound z n rows → (steps : List Step) → IsAfter z steps → AreCommittedRows z.plan steps rows) e (λ found steps h.
    rows-all (simulation_of w.plan) L steps rows (subst (λ (m : ℕ). AreRowsBelow (simulation_of w.plan) (after w.plan steps) m rows) k (found steps h)))

tables-now : (w now : NetworkWorld) → w ≡ now → (tables : TableLists) (rows : List Row) → tables ≡ tables_of w.plan rows → tables ≡ tables_of now.plan rows
tables-now w now e tables rows = subst (λ (z : NetworkWorld). tables ≡ tables_of z.plan rows) e

pub loop-process-init : goal.loop-process-init
loop-process-init c =
    let w : NetworkWorld = record { plan = c.self.inside.network; held = c.self.inside.actors } in
    ([], counted w c.args.self.now c.self.view_is _ [] c.in_ok-tables.ensures, λ steps h. rows-none (simulation_of c.args.self.now.plan) (after c.args.self.now.plan steps))

pub count-requires : goal.count-requires
count-requires c =
    let w : NetworkWorld = record { plan = c.self.inside.network; held = c.self.inside.actors } in
    let now = c.loop-process.invariant in
    (now.0, counting w c.args.self.now c.self.view_is c.loop-process.tables now.0 now.1)

pub loop-process-preserved : goal.loop-process-preserved
loop-process-preserved c =
    let w : NetworkWorld = record { plan = c.self.inside.network; held = c.self.inside.actors } in
    let now = c.loop-process.invariant in (
      now.0 ++ c.sealed.result.now,
      counted w c.args.self.now c.self.view_is _ (now.0 ++ c.sealed.result.now) (c.in_ok-count.ensures now.0 (counting w c.args.self.now c.self.view_is c.loop-process.tables now.0 now.1)),
      next w c.args.self.now c.self.view_is c.layout_law.ensures c.network_law.ensures c.loop-process.process now.0 c.sealed.result.now c.sealed.ensures now.2,
    )

pub tables-requires : goal.tables-requires
tables-requires c =
    let w : NetworkWorld = record { plan = c.self.inside.network; held = c.self.inside.actors } in
    let now = c.loop-process.invariant in
    (now.0, counting w c.args.self.now c.self.view_is c.loop-process.tables now.0 now.1)

-- the tables of all rows that are counted, and of rows that are committed
abbrev AreOfCounted : Plan → SoFarLists → TableLists → Type 0
AreOfCounted plan so_far tables = (rows : List Row) → IsSoFar plan so_far rows → tables ≡ tables_of plan rows

abbrev AreOfCommitted : NetworkWorld → TableLists → Type 0
AreOfCommitted w tables = (rows : List Row) × (tables ≡ tables_of w.plan rows) × ((steps : List Step) → IsAfter w steps → AreCommittedRows w.plan steps rows)

pub returns : goal.returns
returns c =
    let w : NetworkWorld = record { plan = c.self.inside.network; held = c.self.inside.actors } in
    let now = c.loop-process.invariant in
    let k : c.loop-process.process ≡ process_count w.plan =
    let v = c.process_count-process-end.ensures.value in let a = c.loop-process-test.false in let b = c.loop-process.auto.process-end in omega arith in
    ok-weaker (AreOfCounted w.plan c.loop-process.tables) (AreOfCommitted c.args.self.now) (λ tables are. (
      now.0,
      tables-now w c.args.self.now c.self.view_is tables now.0 (are now.0 (counting w c.args.self.now c.self.view_is c.loop-process.tables now.0 now.1)),
      last w c.args.self.now c.self.view_is c.network_law.ensures c.loop-process.process now.0 k now.2,
    ))
    c.tables-2.result c.tables-2.ensures
