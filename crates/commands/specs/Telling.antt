-- What the program prints of a fault, on one line of error output, and the status with which it then ends.
use Rattle.std.specs.Prelude.{◌≡◌, ◌⊎◌, ℕ, List, [], ◌∷◌, ◌++◌, Option, None, Some, codes, decimal}
use Rattle.std.specs.Option.{option_map_or}
use Rattle.network_rows.specs.Keys.{key_text, section_text}
use Rattle.network_rows.specs.declared.fault.DescFault.{DescFault}
use Rattle.network_rows.specs.declared.fault.DescFault.TheVariants as desc
use Rattle.network_rows.specs.declared.fault.Place.{Place}
use Rattle.commands.specs.declared.fault.Fault.{Fault}
use Rattle.commands.specs.declared.fault.Fault.TheVariants.{Description, JournalLine, JournalFull, CannotRead, CannotWriteFile, CannotWrite, Layout, OutOfMemory, Exhausted, Spawn, Torn}

-- the section, the row and the key, with one blank between; a row or a key that the place has not is left out
abbrev pub place_text : Place → List ℕ
place_text place =
    section_text place.section
    ++ option_map_or (λ row. 32 ∷ decimal row) place.row []
    ++ option_map_or (λ key. 32 ∷ key_text key) place.key []

-- the place of a fault, if it has one
abbrev pub place_of : DescFault → Option Place
place_of desc.Syntax = None
place_of (desc.Missing place) = Some place
place_of (desc.WrongKind place) = Some place
place_of (desc.OutOfLimit place) = Some place
place_of (desc.UnknownName place) = Some place
place_of (desc.DoubleName place) = Some place
place_of (desc.NotALink place) = Some place
place_of (desc.NotATree place) = Some place
place_of (desc.TooMany place) = Some place
place_of desc.OutOfMemory = None

-- what is said of a fault of a description before its place: for all but want of memory its number and name
abbrev pub fault_name : DescFault → List ℕ
fault_name desc.Syntax = codes "description: 1 Syntax"
fault_name (desc.Missing place) = codes "description: 2 Missing"
fault_name (desc.WrongKind place) = codes "description: 3 WrongKind"
fault_name (desc.OutOfLimit place) = codes "description: 4 OutOfLimit"
fault_name (desc.UnknownName place) = codes "description: 5 UnknownName"
fault_name (desc.DoubleName place) = codes "description: 6 DoubleName"
fault_name (desc.NotALink place) = codes "description: 7 NotALink"
fault_name (desc.NotATree place) = codes "description: 8 NotATree"
fault_name (desc.TooMany place) = codes "description: 9 TooMany"
fault_name desc.OutOfMemory = codes "out of memory"

abbrev pub description_text : DescFault → List ℕ
description_text fault = fault_name fault ++ option_map_or (λ place. codes " at " ++ place_text place) (place_of fault) []

-- what is said of a fault
abbrev pub fault_text : Fault → List ℕ
fault_text (Description fault) = description_text fault
fault_text (JournalLine n) = codes "journal line " ++ decimal n
fault_text JournalFull = codes "journal full"
fault_text (CannotRead path) = codes "cannot read " ++ path.now
fault_text (CannotWriteFile path) = codes "cannot write " ++ path.now
fault_text CannotWrite = codes "cannot write"
fault_text Layout = codes "cannot lay out rows"
fault_text OutOfMemory = codes "out of memory"
fault_text Exhausted = codes "numbers used up"
fault_text Spawn = codes "cannot start a worker"
fault_text Torn = codes "torn"

-- the line of a text on error output
abbrev pub told_line : List ℕ → List ℕ
told_line text = codes "afdxsim: " ++ text ++ 10 ∷ []

-- 3 for a description or a line of a journal, 4 for a file, standard output or a worker that does not start, 5 for memory, numbers, a journal that is too long or torn, and rows that are not laid out
abbrev pub status_of : Fault → ℕ
status_of (Description desc.OutOfMemory) = 5
status_of (Description fault) = 3
status_of (JournalLine n) = 3
status_of JournalFull = 5
status_of (CannotRead path) = 4
status_of (CannotWriteFile path) = 4
status_of CannotWrite = 4
status_of Layout = 5
status_of OutOfMemory = 5
status_of Exhausted = 5
status_of Spawn = 4
status_of Torn = 5

-- a line on error output, and the status that the program ends with
pub record Telling : Type 0 where
  pub line : List ℕ
  pub status : ℕ

-- what is told of a fault
abbrev pub telling_of : Fault → Telling
telling_of fault = record { line = told_line (fault_text fault); status = status_of fault }

-- what is told where the words name the file with this path twice
abbrev pub telling_of_twice : List ℕ → Telling
telling_of_twice path = record { line = told_line (codes "named twice: " ++ path); status = 2 }

-- what is told where a word after the program's name is not UTF-8
abbrev pub telling_of_no_text : Telling
telling_of_no_text = record { line = told_line (codes "a word is not UTF-8"); status = 2 }

-- what is told is that of one fault: of this one, or of want of memory, which its line itself may meet
abbrev pub TellsOne : Fault → (Telling → Type 0) → Type 0
TellsOne fault IsTold = IsTold (telling_of fault) ⊎ IsTold (telling_of OutOfMemory)

-- a status of the program: 0 done, 2 bad words, 3 a bad description or journal, 4 a file, standard output or a worker that does not start, 5 memory, numbers, a journal that is too long or torn, or rows that are not laid out
abbrev pub IsStatus : ℕ → Type 0
IsStatus status = (status ≡ 0) ⊎ (status ≡ 2) ⊎ (status ≡ 3) ⊎ (status ≡ 4) ⊎ (status ≡ 5)
