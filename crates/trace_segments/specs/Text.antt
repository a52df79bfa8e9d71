-- The text of a trace: comma-separated rows, each with a line feed at its end. Times are in ns.
use Rattle.std.specs.Prelude.{ℕ, ◌-◌, cond, nat_lt, Bool, codes, decimal, length, List, [], ◌∷◌, ◌++◌, slice_get, flat_map}
use Rattle.std.specs.Option.{option_map_or}
use Rattle.csv.specs.Writing.{default_writer, row_text}
use Rattle.vlink.specs.declared.note.Cause.{Cause}
use Rattle.vlink.specs.declared.note.Cause.TheVariants.{QueueFull, PortFull, Outage, Unknown, TooLong, Policed, Integrity, Duplicate}
use Rattle.vlink.specs.declared.note.Note.{Note}
use Rattle.vlink.specs.declared.note.Note.TheVariants.{Delivered, Dropped}
use Rattle.vlink.specs.Letters.{Row}
use Rattle.network.specs.Words.{Plan, lines_of, node_name, line_name}
use Rattle.trace_segments.specs.Known.{is_known}

-- a row of these fields
abbrev pub line : List (List ℕ) → List ℕ
line fields = row_text default_writer fields

-- the name of a process: that of the node, or of the line behind the nodes
abbrev pub place_name : Plan → ℕ → List ℕ
place_name plan place =
    cond (nat_lt place (length plan.nodes)) (node_name plan.nodes place)
    (option_map_or (line_name plan.nodes) (slice_get (lines_of plan) (place - length plan.nodes)) [])

abbrev pub cause_name : Cause → List ℕ
cause_name QueueFull = codes "queue_full"
cause_name PortFull = codes "port_full"
cause_name Outage = codes "outage"
cause_name Unknown = codes "unknown"
cause_name TooLong = codes "too_long"
cause_name Policed = codes "policed"
cause_name Integrity = codes "integrity"
cause_name Duplicate = codes "duplicate"

-- the first line
abbrev pub trace_head : List ℕ
trace_head = line (codes "time_ns" ∷ codes "where" ∷ codes "vl" ∷ codes "what" ∷ codes "value" ∷ [])

-- what a note says, and its virtual link and value
abbrev pub note_fields : Note → List (List ℕ)
note_fields (Delivered vl latency) = decimal vl.0 ∷ codes "delivered" ∷ decimal latency ∷ []
note_fields (Dropped vl cause size) = decimal vl.0 ∷ cause_name cause ∷ decimal size ∷ []

-- a row of the network
abbrev pub trace_line : Plan → Row → List ℕ
trace_line plan row = cond (is_known plan row) (line (decimal row.message.time ∷ place_name plan row.place ∷ note_fields row.note)) []

abbrev pub trace_text : Plan → List Row → List ℕ
trace_text plan rows = trace_head ++ flat_map (trace_line plan) rows

-- the lines of these rows, behind the first line of the trace where that is not written
abbrev pub next_text : Plan → Bool → List Row → List ℕ
next_text plan begun rows = cond begun (flat_map (trace_line plan) rows) (trace_text plan rows)
