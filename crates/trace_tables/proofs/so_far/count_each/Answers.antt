use Rattle.std.proofs.Common.{◌≡◌, ◌+◌, ◌≤◌, ℕ, List, [], ◌∷◌, ◌++◌, ◌∙◌, subst, length, ap, sym, take, arith, append_assoc, append-nil, length-append, length-take-le, take_all}
use Rattle.vlink.specs.Letters.{Row}
use Rattle.trace_segments.proofs.WritingLemmas.{take-read}
use Rattle.trace_tables.specs.SoFar.{AreInTables}
use Rattle.trace_tables.proofs.so_far.count_each.Goals as goal

pub loop-row-init : goal.loop-row-init
loop-row-init c = λ earlier are.
    subst (λ rows. AreInTables c.args.network.now rows c.args.cells.now c.args.drops.now.entries) (sym (append-nil earlier)) are

-- how many rows are counted by then
so-many : (earlier rows : List Row) (i : ℕ) → i ≤ length rows → length (earlier ++ take i rows) ≡ length earlier + i
so-many earlier rows i below = length-append earlier (take i rows) ∙ ap (λ n. length earlier + n) (length-take-le i rows below)

pub count_row-requires : goal.count_row-requires
count_row-requires c =
    let rows = c.requires.0 ++ take c.loop-row.row-index c.args.rows.now in
    let short : length rows ≡ length c.requires.0 + c.loop-row.row-index = so-many c.requires.0 c.args.rows.now c.loop-row.row-index (omega arith) in
    let room = c.requires.2 in
    (rows, c.loop-row.invariant c.requires.0 c.requires.1, omega arith)

pub loop-row-preserved : goal.loop-row-preserved
loop-row-preserved c = λ earlier are.
    let plan = c.args.network.now in
    let row = c.row-item.result in
    let next = take-read c.args.rows.now c.loop-row.row-index row c.loop-row-test.true c.row-item.is in
    let more : (earlier ++ take c.loop-row.row-index c.args.rows.now) ++ row ∷ [] ≡ earlier ++ take (c.loop-row.row-index + 1) c.args.rows.now =
    append_assoc earlier (take c.loop-row.row-index c.args.rows.now) (row ∷ []) ∙ ap (λ xs. earlier ++ xs) (sym next) in
    subst (λ rows. AreInTables plan rows c.count_row.new.cells c.count_row.new.drops.entries) more
    (c.in_ok-count_row.ensures (earlier ++ take c.loop-row.row-index c.args.rows.now) (c.loop-row.invariant earlier are))

pub returns : goal.returns
returns c = λ earlier are.
    subst (λ rows. AreInTables c.args.network.now (earlier ++ rows) c.loop-row.cells c.loop-row.drops.entries)
    (take_all c.loop-row.row-index c.args.rows.now c.loop-row-test.false) (c.loop-row.invariant earlier are)
