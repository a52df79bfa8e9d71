-- The result of the words after the program's name.
use Rattle.std.specs.Prelude.{◌≡◌, ◌≢◌, ◌⊎◌, ℕ, Bool, List, [], ◌∷◌, Some}
use Rattle.clap.specs.Words.{Kinds, Text, fault_of}
use Rattle.command_line.specs.Meaning.{Names, command_in, command_of, rows_in}
use Rattle.command_line.specs.Program.{program}
use Rattle.command_line.specs.declared.orders.Order.{Order}
use Rattle.commands.specs.declared.fault.Fault.TheVariants.{OutOfMemory}
use Rattle.commands.specs.Files.{ShowsBoth, TellsAlone}
use Rattle.commands.specs.Naming.{NamesTwice}
use Rattle.commands.specs.Outside.{Outside}
use Rattle.commands.specs.Telling.{TellsOne}
use Rattle.commands.specs.Streams.{IsTold}
use Rattle.commands.specs.Words.{AsksFor, AsksForText}
use Rattle.afdxsim.specs.Orders.{Ends}

-- among these kinds is a mistake in the words
abbrev pub HasMistake : Kinds → Type 0
HasMistake [] = ⊥
HasMistake (kind ∷ kinds) = ¬ (AsksFor kind) ⊎ HasMistake kinds

-- what clap finds wrong with the words, or is asked for by them; nothing where they are accepted
abbrev pub found_in : List Text → Kinds
found_in words = fault_of program words

-- a status where words were read and no order was done, by what was found in them, and by whether they name a file twice. Want of memory has
-- the status 5.
pub record AnswersWords (words : List Text) (Twice : Type 0) (status : ℕ) : Type 0 where
  -- 2 comes for a mistake alone, or where words without one name a file twice
  pub bad_words : status ≡ 2 → HasMistake (found_in words) ⊎ ((found_in words ≡ []) × Twice)
  -- words with a mistake, and without one that asks for help, have no other, but for want of memory
  pub mistaken : found_in words ≢ [] → ¬ (AsksForText (found_in words)) → (status ≡ 2) ⊎ (status ≡ 5)
  -- 0 comes where they are accepted, or where they ask for help
  pub done : status ≡ 0 → (found_in words ≡ []) ⊎ AsksForText (found_in words)
  -- where they ask for help it is 0, unless standard output failed or memory was refused
  pub asked : found_in words ≢ [] → ¬ (HasMistake (found_in words)) → (status ≡ 0) ⊎ (status ≡ 4) ⊎ (status ≡ 5)

-- words with a mistake, or that ask for help, touch no file: nothing happened to the host but to its streams, and where they ask for no help, but
-- to error output
pub record TouchNoFile {S F O E : Type 0} (outside : Outside S F O E) (old new : S) (words : List Text) : Type 0 where
  pub streams : found_in words ≢ [] → ShowsBoth outside old new
  pub mistaken : found_in words ≢ [] → ¬ (AsksForText (found_in words)) → TellsAlone outside old new

-- the words mean this order: they name its command, and each of its values
abbrev pub Means : List Text → Order → Type 0
Means words order = (command_in words ≡ Some (command_of order)) × Names (rows_in words) order

-- they mean an order that names a file twice
abbrev pub NameTwice : (List ℕ → List ℕ → Bool → Type 0) → List Text → Type 0
NameTwice tells words = (order : Order) × Means words order × ((path : List ℕ) × NamesTwice tells order path)

-- what comes of words that are accepted: memory was refused before they were an order, which is told, and nothing else happened; or they mean
-- an order, and it ends so
abbrev pub Performs : {S F O E : Type 0} → Outside S F O E → S → S → List Text → ℕ → Type 0
Performs outside old new words status =
    (TellsAlone outside old new × TellsOne OutOfMemory (IsTold outside old new status))
    ⊎ ((order : Order) × Means words order × Ends outside old new order status)
