-- How many frames were dropped, by virtual link, process and cause.
use Rattle.std.specs.Prelude.{ℕ, ◌+◌, List, [], ◌∷◌}
use Rattle.std.specs.Ordering.{nat_cmp, ordering_then}
use Rattle.std.specs.declared.cmp.Ordering.{Ordering}
use Rattle.std.specs.BTreeMap.{insert_entry, is_at}
use Rattle.std.specs.Map.{lookup}
use Rattle.std.specs.Option.{option_map_or}
use Rattle.vlink.specs.declared.note.Cause.{Cause}
use Rattle.vlink.specs.declared.note.Cause.TheVariants.{QueueFull, PortFull, Outage, Unknown, TooLong, Policed, Integrity, Duplicate}
use Rattle.vlink.specs.declared.note.Note.{Note}
use Rattle.vlink.specs.declared.note.Note.TheVariants.{Delivered, Dropped}
use Rattle.vlink.specs.Letters.{Row}
use Rattle.trace_tables.specs.declared.loss.Loss.{Loss}

-- the causes in their order
abbrev pub cause_number : Cause → ℕ
cause_number QueueFull = 0
cause_number PortFull = 1
cause_number Outage = 2
cause_number Unknown = 3
cause_number TooLong = 4
cause_number Policed = 5
cause_number Integrity = 6
cause_number Duplicate = 7

-- by virtual link, then by process, then by cause
abbrev pub loss_cmp : Loss → Loss → Ordering
loss_cmp a b =
    ordering_then (nat_cmp a.vl.0 b.vl.0) (
    ordering_then (nat_cmp a.place b.place) (
    nat_cmp (cause_number a.cause) (cause_number b.cause)))

-- what a row says was lost, if it says so
abbrev pub loss_in : ℕ → Note → List Loss
loss_in place (Delivered vl latency) = []
loss_in place (Dropped vl cause size) = record { vl = vl; place = place; cause = cause } ∷ []

abbrev pub loss_of : Row → List Loss
loss_of row = loss_in row.place row.note

-- the count of a loss; 0 where it is not there
abbrev pub count_in : List (Loss × ℕ) → Loss → ℕ
count_in counts loss = option_map_or (λ n. n) (lookup (is_at (loss_cmp loss)) counts) 0

-- one more of a loss, and then of each of these; the counts stay in the order of their losses
abbrev pub with_loss : List (Loss × ℕ) → Loss → List (Loss × ℕ)
with_loss counts loss = insert_entry loss_cmp counts loss (count_in counts loss + 1)

abbrev pub with_losses : List (Loss × ℕ) → List Loss → List (Loss × ℕ)
with_losses counts [] = counts
with_losses counts (loss ∷ losses) = with_losses (with_loss counts loss) losses
