-- Rows that are counted in tables, one after another.
use Rattle.std.proofs.Common.{◌≡◌, ℕ, ◌≤◌, not, Bool, true, false, cond, List, [], ◌∷◌, ◌++◌, length, is_some, filter, ap, sym, subst, ◌∙◌, arith, refl, append-nil}
use Rattle.std.proofs.lemmas.List.Elements.{filter-append}
use Rattle.network.specs.Words.{Plan}
use Rattle.trace_segments.specs.Words.{is_in_network}
use Rattle.vlink.specs.declared.frame.VlId.{VlId}
use Rattle.vlink.specs.declared.note.Cause.{Cause}
use Rattle.vlink.specs.declared.note.Cause.TheVariants.{Duplicate}
use Rattle.vlink.specs.declared.note.Note.{Note}
use Rattle.vlink.specs.declared.note.Note.TheVariants.{Delivered, Dropped}
use Rattle.vlink.specs.Letters.{Row}
use Rattle.trace_tables.specs.declared.destination.Destination.{Destination}
use Rattle.trace_tables.specs.declared.loss.Loss.{Loss}
use Rattle.trace_tables.specs.Cells.{CellLists, cell_place, cells_of, is_in_cell, other_drops}
use Rattle.trace_tables.specs.Destinations.{destination}
use Rattle.trace_tables.specs.Latencies.{Counts}
use Rattle.trace_tables.specs.Losses.{count_in, with_losses}
use Rattle.trace_tables.specs.SoFar.{SoFarLists, AreInTables, IsSoFar}
use Rattle.trace_tables.specs.Tables.{TableLists, drop_table, latency_table, tables_of}
use Rattle.trace_tables.proofs.DropCountLemmas.{few-lost, none-lost, one-lost}

-- the rows whose notes are counted in no cell
abbrev pub others : Plan → List Row → List Row
others plan rows = filter (λ row. not (is_in_cell plan.vls row.place row.note)) rows

-- one row more that is counted in a cell, and one that is not
pub others-same : (plan : Plan) (rows : List Row) (row : Row) → is_in_cell plan.vls row.place row.note ≡ true → others plan rows ≡ others plan (rows ++ row ∷ [])
others-same plan rows row is =
    sym (filter-append (λ (row : Row). not (is_in_cell plan.vls row.place row.note)) rows (row ∷ [])
    ∙ ap (λ (b : Bool). others plan rows ++ cond (not b) (row ∷ []) []) is
    ∙ append-nil (others plan rows))

pub others-more : (plan : Plan) (rows : List Row) (row : Row) → is_in_cell plan.vls row.place row.note ≡ false → others plan (rows ++ row ∷ []) ≡ others plan rows ++ row ∷ []
others-more plan rows row is =
    filter-append (λ (row : Row). not (is_in_cell plan.vls row.place row.note)) rows (row ∷ [])
    ∙ ap (λ (b : Bool). others plan rows ++ cond (not b) (row ∷ []) []) is

-- a delivery
pub one-delivered : (plan : Plan) (earlier : List Row) (row : Row) (vl : VlId) (latency : ℕ) (old new : CellLists) (drops : List (Loss × ℕ)) → row.note ≡ Delivered vl latency
    → AreInTables plan earlier old drops → new ≡ cells_of plan.vls (earlier ++ row ∷ []) → AreInTables plan (earlier ++ row ∷ []) new drops
one-delivered plan earlier row vl latency old new drops is are counted = record {
  at_destinations = counted;
  elsewhere = are.elsewhere
      ∙ none-lost plan (others plan earlier) row vl latency is
      ∙ ap (drop_table plan) (sym (others-more plan earlier row (ap (λ (note : Note). is_in_cell plan.vls row.place note) is)));
}

-- a duplicate at a destination
pub one-duplicate : (plan : Plan) (earlier : List Row) (row : Row) (vl : VlId) (size : ℕ) (old new : CellLists) (drops : List (Loss × ℕ)) → row.note ≡ Dropped vl Duplicate size
    → is_some (cell_place plan.vls (destination vl row.place)) ≡ true → AreInTables plan earlier old drops → new ≡ cells_of plan.vls (earlier ++ row ∷ []) → AreInTables plan (earlier ++ row ∷ []) new drops
one-duplicate plan earlier row vl size old new drops is some are counted = record {
  at_destinations = counted;
  elsewhere = are.elsewhere ∙ ap (drop_table plan) (others-same plan earlier row (ap (λ (note : Note). is_in_cell plan.vls row.place note) is ∙ some));
}

-- another drop
pub one-dropped : (plan : Plan) (earlier : List Row) (row : Row) (vl : VlId) (cause : Cause) (size : ℕ) (cells new : CellLists) (drops more : List (Loss × ℕ)) → row.note ≡ Dropped vl cause size
    → is_in_cell plan.vls row.place (Dropped vl cause size) ≡ false → AreInTables plan earlier cells drops
    → new ≡ cells_of plan.vls (earlier ++ row ∷ [])
    → more ≡ with_losses drops (cond (is_in_network plan vl.0 row.place) (record { vl = vl; place = row.place; cause = cause } ∷ []) [])
    → AreInTables plan (earlier ++ row ∷ []) new more
one-dropped plan earlier row vl cause size cells new drops more is none are same lost = record {
  at_destinations = same;
  elsewhere = lost
      ∙ ap (λ (counts : List (Loss × ℕ)). with_losses counts (cond (is_in_network plan vl.0 row.place) (record { vl = vl; place = row.place; cause = cause } ∷ []) [])) are.elsewhere
      ∙ one-lost plan (others plan earlier) row vl cause size is
      ∙ ap (drop_table plan) (sym (others-more plan earlier row (ap (λ (note : Note). is_in_cell plan.vls row.place note) is ∙ none)));
}

few-filtered : {X : Type 0} (test : X → Bool) (xs : List X) → length (filter test xs) ≤ length xs
few-filtered test [] = omega arith
few-filtered {X} test (x ∷ xs) = go (test x) (few-filtered test xs)
  where
    go : (b : Bool) → length (filter test xs) ≤ length xs → length (cond b (x ∷ filter test xs) (filter test xs)) ≤ length (x ∷ xs)
    go true h = omega arith
    go false h = omega arith

-- no loss is counted more often than there are rows
pub few-elsewhere : (plan : Plan) (rows : List Row) (drops : List (Loss × ℕ)) (loss : Loss) → drops ≡ other_drops plan rows → count_in drops loss ≤ length rows
few-elsewhere plan rows drops loss are =
    let few : count_in (other_drops plan rows) loss ≤ length (others plan rows) = few-lost plan (others plan rows) loss in
    let less : length (others plan rows) ≤ length rows = few-filtered (λ (row : Row). not (is_in_cell plan.vls row.place row.note)) rows in
    let same : count_in drops loss ≡ count_in (other_drops plan rows) loss = ap (λ (counts : List (Loss × ℕ)). count_in counts loss) are in
    omega arith

-- these two tables
pub tables-are : (plan : Plan) (rows : List Row) (latencies : List (Destination × Counts)) (drops : List (Loss × ℕ)) → latencies ≡ latency_table plan.vls rows → drops ≡ drop_table plan rows
    → ◌≡◌ {A = TableLists} (record { latencies = latencies; drops = drops }) (tables_of plan rows)
tables-are plan rows latencies drops = same
  where
    same : {a b : List (Destination × Counts)} {x y : List (Loss × ℕ)} → a ≡ b → x ≡ y →
        ◌≡◌ {A = TableLists} (record { latencies = a; drops = x }) (record { latencies = b; drops = y })
    same {a} {b} {x} {y} d f = ap (λ (l : List (Destination × Counts)). let t : TableLists = record { latencies = l; drops = x } in t) d ∙ ap (λ (l : List (Loss × ℕ)). let t : TableLists = record { latencies = b; drops = l } in t) f

-- no row
pub none-so-far : (plan : Plan) (cells : CellLists) (drops : List (Loss × ℕ)) (rest : List Row) →
    AreInTables plan [] cells drops → rest ≡ [] →
    IsSoFar plan (record { cells = cells; drops = drops; counted = 0; rest = rest }) []
none-so-far plan cells drops rest are e = record {
  first = [];
  split = sym e;
  many = refl;
  few = omega arith;
  counts = are;
}

-- the rest is counted too: then all rows are in the tables
pub all-so-far : (plan : Plan) (tables seen : SoFarLists) → tables ≡ seen → (rows : List Row) → IsSoFar plan seen rows → (last : List Row) → last ≡ tables.rest →
    (cells : CellLists) (drops : List (Loss × ℕ)) →
    ((earlier : List Row) → AreInTables plan earlier tables.cells tables.drops → AreInTables plan (earlier ++ last) cells drops) →
    AreInTables plan rows cells drops
all-so-far plan tables seen e rows is last same cells drops counted =
    let here : IsSoFar plan tables rows = subst (λ (t : SoFarLists). IsSoFar plan t rows) (sym e) is in
    let all : here.first ++ last ≡ rows = ap (λ (xs : List Row). here.first ++ xs) same ∙ sym here.split in
    subst (λ (xs : List Row). AreInTables plan xs cells drops) all (counted here.first here.counts)
