-- How much of a text a sink has.
use Rattle.std.specs.Prelude.{ℕ, ◌≡◌, ◌≤◌, List, Option, length, take}
use Rattle.std.specs.Io.KnownBytes.{append_known}

-- a beginning of these bytes was added
abbrev pub IsBeginning : Option (List ℕ) → Option (List ℕ) → List ℕ → Type 0
IsBeginning old new bytes = (n : ℕ) × (n ≤ length bytes) × (new ≡ append_known old (take n bytes))
