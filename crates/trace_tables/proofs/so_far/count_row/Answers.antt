use Rattle.std.proofs.Common.{◌≡◌, ◌==◌, ◌&&◌, ◌≤◌, refl, Bool, true, false, length, is_some, ap, sym, ◌∙◌, arith}
use Rattle.std.proofs.lemmas.Bool.{eqb-true}
use Rattle.std.proofs.lemmas.Result.{on_ok_weaker}
use denote.Enum.Bare.{sameb}
use Rattle.vlink.specs.contracts.note.Cause as CauseOf
use Rattle.vlink.specs.declared.note.Cause.{Cause}
use Rattle.vlink.specs.declared.note.Cause.TheVariants.{QueueFull, PortFull, Outage, Unknown, TooLong, Policed, Integrity, Duplicate}
use Rattle.trace_tables.specs.declared.loss.Loss.{Loss}
use Rattle.vlink.specs.declared.note.Note.TheVariants.{Dropped}
use Rattle.trace_tables.specs.Cells.{cell_place}
use Rattle.trace_tables.specs.Destinations.{destination}
use Rattle.trace_tables.specs.Losses.{cause_number, count_in}
use Rattle.trace_tables.proofs.CellLemmas.{dropped-cells, flipped}
use Rattle.trace_tables.proofs.LossOrderLemmas.{same_cause}
use Rattle.trace_tables.proofs.SoFarLemmas.{few-elsewhere, one-delivered, one-dropped}
use Rattle.trace_tables.proofs.so_far.count_row.Goals as goal
use Rattle.trace_tables.proofs.so_far.count_row.Goals.{else-eq-via-then-eq+else-add_duplicate, else-eq-via-else-eq}

pub add_latency-requires : goal.add_latency-requires
add_latency-requires c = (c.requires.0, c.requires.1.at_destinations, c.requires.2)

pub add_known_loss-requires : goal.add_known_loss-requires
add_known_loss-requires c =
    let rows = c.requires.0 in
    let loss : Loss = record { vl = c.in-Dropped.vl; place = c.args.row.now.place; cause = c.in-Dropped.cause } in
    let small : count_in c.args.drops.now.entries loss ≤ length rows = few-elsewhere c.args.network.now rows c.args.drops.now.entries loss c.requires.1.elsewhere in
    let room = c.requires.2 in
    omega arith

pub returns-in-Delivered : goal.returns-in-Delivered
returns-in-Delivered c = λ earlier are.
    one-delivered c.args.network.now earlier c.args.row.now c.in-Delivered.vl c.in-Delivered.latency c.args.cells.now c.add_latency.new.self c.args.drops.now.entries c.in-Delivered.is are
    (c.add_latency.ensures earlier c.args.row.now are.at_destinations refl c.in-Delivered.is)

-- a cause is the same as this one where their numbers are
same-cause : (cause : Cause) → sameb CauseOf.the_type cause Duplicate ≡ (cause_number Duplicate == cause_number cause)
same-cause QueueFull = refl
same-cause PortFull = refl
same-cause Outage = refl
same-cause Unknown = refl
same-cause TooLong = refl
same-cause Policed = refl
same-cause Integrity = refl
same-cause Duplicate = refl

duplicate-is : (cause : Cause) → (cause_number Duplicate == cause_number cause) ≡ true → cause ≡ Duplicate
duplicate-is cause e = same_cause cause Duplicate (sym (eqb-true (cause_number Duplicate) (cause_number cause) e))

neither : (b : Bool) → (b && false) ≡ false
neither true = refl
neither false = refl

pub returns-else-eq : goal.returns-else-eq
returns-else-eq c = on_ok_weaker c.add_known_loss.result (λ more earlier are.
    let plan = c.args.network.now in
    let row = c.args.row.now in
    let vl = c.in-Dropped.vl in
    let cause = c.in-Dropped.cause in
    let size = c.in-Dropped.size in
    let told : c.eq.result ≡ (cause_number Duplicate == cause_number cause) = c.eq.ensures ∙ same-cause cause in
    let one = one-dropped plan earlier row vl cause size c.args.cells.now c.else-eq.cells c.args.drops.now.entries c.add_known_loss.new.drops.entries c.in-Dropped.is in
    elim c.else-eq.branch [
      | else-eq-via-then-eq+else-add_duplicate w ↦ (let dup : cause ≡ Duplicate = duplicate-is cause (sym told ∙ w.if-eq.true) in
          let none = ap (λ (b : Bool). (cause_number cause == cause_number Duplicate) && b) (sym w.add_duplicate.ensures.answer ∙ w.if-add_duplicate.false) ∙ neither (cause_number cause == cause_number Duplicate) in
          one none are (w.cells-is ∙ w.add_duplicate.ensures.counted earlier row size are.at_destinations refl (c.in-Dropped.is ∙ ap (λ (k : Cause). Dropped vl k size) dup)) more)
      | else-eq-via-else-eq w ↦ (let differ : (cause_number Duplicate == cause_number cause) ≡ false = sym told ∙ w.if-eq.false in
          let none = ap (λ (b : Bool). b && is_some (cell_place plan.vls (destination vl row.place))) (flipped (cause_number cause) (cause_number Duplicate) ∙ differ) in
          one none are (w.cells-is ∙ are.at_destinations ∙ dropped-cells plan.vls earlier row vl cause size c.in-Dropped.is differ) more)
    ])
    c.add_known_loss.ensures
