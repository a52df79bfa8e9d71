-- A writer of rows that holds a text.
use Rattle.std.specs.Prelude.{ℕ, ◌≡◌, ◌++◌, false, List, Option, Some, Vec}
use Rattle.std.specs.declared.alloc.Global.{Global}
use Rattle.csv.specs.Writing as csv
use Rattle.csv.specs.declared.writer.Writer.{Writer}

abbrev pub contents : Vec ℕ Global → Option (List ℕ)
contents v = Some v.items

-- it has the crate's defaults, holds this text, and begins a row next
pub record Holds (w : Writer (Vec ℕ Global)) (text : List ℕ) : Type 0 where
  pub setup : csv.writer_setup w ≡ csv.default_writer
  pub fields : csv.fields_written w ≡ 0
  pub wrote : csv.has_written w ≡ false
  pub bytes : csv.text_written contents w ≡ Some text

-- these bytes are put behind the text, whatever it is
abbrev pub Adds : Writer (Vec ℕ Global) → Writer (Vec ℕ Global) → List ℕ → Type 0
Adds old new bytes = (text : List ℕ) → Holds old text → Holds new (text ++ bytes)
