-- What a status of 0 tells: an order was done, and where its trace and its journal are.
use Rattle.std.proofs.Common.{◌≡◌, ◌∙◌, inl, inr, ℕ, List, Option, Some, None, IfSome, arith, refl, sym, subst, option_map, string_bytes}
use Rattle.clap.specs.Words.{Text}
use Rattle.command_line.specs.declared.orders.Order.{Order}
use Rattle.command_line.specs.declared.orders.Order.TheVariants as ordered
use Rattle.network.specs.Words.{Plan}
use Rattle.network_rows.specs.declared.fault.DescFault.TheVariants as desc
use Rattle.commands.specs.declared.fault.Fault.{Fault}
use Rattle.commands.specs.declared.fault.Fault.TheVariants.{Description, JournalLine, JournalFull, CannotRead, CannotWriteFile, CannotWrite, Layout, OutOfMemory, Exhausted, Spawn, Torn}
use Rattle.commands.specs.Files.{ShowsAlone, WritesAsked, WritesFile}
use Rattle.commands.specs.Naming.{journal_of, trace_of}
use Rattle.commands.specs.Streams.{heard_host}
use Rattle.afdxsim.specs.Orders.{Done, DoneOn}
use Rattle.commands.specs.Outside.{Outside}
use Rattle.afdxsim.specs.Performing.{Means, Performs}
use Rattle.commands.specs.Sequencing.{IsTraceText}
use Rattle.commands.specs.Telling.{status_of}
use Rattle.afdxsim.specs.Workers.{IsJournalText}

-- no fault has the status 0
faulty : (fault : Fault) → status_of fault ≡ 0 → ⊥
faulty (Description desc.Syntax) is = omega arith
faulty (Description (desc.Missing place)) is = omega arith
faulty (Description (desc.WrongKind place)) is = omega arith
faulty (Description (desc.OutOfLimit place)) is = omega arith
faulty (Description (desc.UnknownName place)) is = omega arith
faulty (Description (desc.DoubleName place)) is = omega arith
faulty (Description (desc.NotALink place)) is = omega arith
faulty (Description (desc.NotATree place)) is = omega arith
faulty (Description (desc.TooMany place)) is = omega arith
faulty (Description desc.OutOfMemory) is = omega arith
faulty (JournalLine n) is = omega arith
faulty JournalFull is = omega arith
faulty (CannotRead path) is = omega arith
faulty (CannotWriteFile path) is = omega arith
faulty CannotWrite is = omega arith
faulty Layout is = omega arith
faulty OutOfMemory is = omega arith
faulty Exhausted is = omega arith
faulty Spawn is = omega arith
faulty Torn is = omega arith

pub if_there : {X : Type 0} (o : Option X) (P : X → Type 0) → ((x : X) → o ≡ Some x → P x) → IfSome o P
if_there None P f = tt
if_there (Some x) P f = f x refl

module _ {S F O E : Type 0} (outside : Outside S F O E) (old new : S) where
  pub was_done : (words : List Text) (status : ℕ) → Performs outside old new words status → status ≡ 0 →
      (order : Order) × Means words order × Done outside old new order
  was_done words status (inl (alone, inl told)) zero = let five = told.0 in absurd (omega arith)
  was_done words status (inl (alone, inr told)) zero = let five = told.0 in absurd (omega arith)
  was_done words status (inr (order, means, inl (path, twice, inl told, alone))) zero = let two = told.0 in absurd (omega arith)
  was_done words status (inr (order, means, inl (path, twice, inr told, alone))) zero = let five = told.0 in absurd (omega arith)
  was_done words status (inr (order, means, inr (apart, inl (is, done)))) zero = (order, means, done)
  was_done words status (inr (order, means, inr (apart, inr (fault, met, is, alone, inl told, kept)))) zero = absurd (faulty fault (sym told.0 ∙ zero))
  was_done words status (inr (order, means, inr (apart, inr (fault, met, is, alone, inr told, kept)))) zero = let five = told.0 in absurd (omega arith)

  there : (o : Option (List ℕ)) (path : List ℕ) (IsText : List ℕ → Type 0) (before after : S) → o ≡ Some path → WritesAsked outside o IsText before after →
      WritesFile outside path IsText before after
  there (Some x) path IsText before after is wrote = subst (λ (p : List ℕ). WritesFile outside p IsText before after) (let e : Some x ≡ Some path = is in cc) wrote
  there None path IsText before after is wrote = absurd (let bad : None ≡ Some path = is in cc)

  none_kept : (o : Option (List ℕ)) (IsText : List ℕ → Type 0) (traced kept : S) → o ≡ None → WritesAsked outside o IsText traced kept → kept ≡ traced
  none_kept None IsText traced kept is wrote = wrote
  none_kept (Some x) IsText traced kept is wrote = absurd (let bad : Some x ≡ None = is in cc)

  -- of an order that asks for a trace and for no journal
  pub trace_left : (plan : Plan) (order : Order) (path : List ℕ) → DoneOn outside old new plan order → journal_of order ≡ None → trace_of order ≡ Some path →
      (host : S) × (traced : S) × WritesFile outside path (IsTraceText plan) host traced × ShowsAlone outside traced new
  trace_left plan (ordered.Check o) path done none some = absurd (let bad : None ≡ Some path = some in cc)
  trace_left plan (ordered.Seq o) path done none some =
      let left = done.1 in (
        heard_host outside old o.progress (outside.errors new),
        left.0,
        there (option_map string_bytes o.trace) path (IsTraceText plan) (heard_host outside old o.progress (outside.errors new)) left.0 some left.1,
        left.2,
      )
  trace_left plan (ordered.Run o) path done none some =
      let left = done.1 in
      let files = left.1 in (
        heard_host outside old o.progress (outside.errors new),
        files.0,
        there (option_map string_bytes o.trace) path (IsTraceText plan) (heard_host outside old o.progress (outside.errors new)) files.0 some files.1,
        subst (λ host. ShowsAlone outside host new) (none_kept (option_map string_bytes o.journal) (IsJournalText plan) files.0 left.0 none files.2) left.2,
      )
  trace_left plan (ordered.Replay o) path done none some = absurd (let bad : None ≡ Some path = some in cc)
  trace_left plan (ordered.Bounds o) path done none some = absurd (let bad : None ≡ Some path = some in cc)

  -- of one that asks for a journal
  pub journal_left : (plan : Plan) (order : Order) (path : List ℕ) → DoneOn outside old new plan order → journal_of order ≡ Some path →
      (traced : S) × (kept : S) × WritesFile outside path (IsJournalText plan) traced kept × ShowsAlone outside kept new
  journal_left plan (ordered.Check o) path done some = absurd (let bad : None ≡ Some path = some in cc)
  journal_left plan (ordered.Seq o) path done some = absurd (let bad : None ≡ Some path = some in cc)
  journal_left plan (ordered.Run o) path done some =
      let left = done.1 in
      let files = left.1 in
      (files.0, left.0, there (option_map string_bytes o.journal) path (IsJournalText plan) files.0 left.0 some files.2, left.2)
  journal_left plan (ordered.Replay o) path done some = absurd (let bad : None ≡ Some path = some in cc)
  journal_left plan (ordered.Bounds o) path done some = absurd (let bad : None ≡ Some path = some in cc)
