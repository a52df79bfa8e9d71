-- How often rows contain a loss or a delivery.
use Rattle.std.specs.Prelude.{ℕ, ◌==◌, ◌&&◌, Bool, false, List, count_by}
use Rattle.vlink.specs.declared.note.Note.{Note}
use Rattle.vlink.specs.declared.note.Note.TheVariants.{Delivered, Dropped}
use Rattle.vlink.specs.Letters.{Row}
use Rattle.network.specs.Words.{Plan}
use Rattle.trace_tables.specs.declared.loss.Loss.{Loss}
use Rattle.trace_tables.specs.Losses.{cause_number}
use Rattle.trace_segments.specs.Words.{is_known}

-- a note at this process tells this loss: a drop of its virtual link, at its process, for its cause
abbrev pub is_loss : Loss → ℕ → Note → Bool
is_loss loss place (Delivered vl latency) = false
is_loss loss place (Dropped vl cause size) =
    (loss.vl.0 == vl.0) && ((loss.place == place) && (cause_number loss.cause == cause_number cause))

-- how many rows of the network tell a loss
abbrev pub times_lost : Plan → Loss → List Row → ℕ
times_lost plan loss rows = count_by (λ row. is_known plan row && is_loss loss row.place row.note) rows

-- a note tells a delivery of this virtual link
abbrev pub is_delivery : ℕ → Note → Bool
is_delivery vl (Delivered id latency) = id.0 == vl
is_delivery vl (Dropped id cause size) = false

-- how many rows tell a delivery of a virtual link at a process
abbrev pub times_delivered : ℕ → ℕ → List Row → ℕ
times_delivered vl place rows = count_by (λ row. (row.place == place) && is_delivery vl row.note) rows
