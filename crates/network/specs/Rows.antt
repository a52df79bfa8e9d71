-- Rows one after another, each with those before it, and the places of their faults.
use Rattle.std.specs.Prelude.{ℕ, ◌+◌, Bool, cond, List, [], ◌∷◌, ◌++◌, length, Option, Some, None, option_map}
use Rattle.network_rows.specs.declared.key.Section.{Section}
use Rattle.network_rows.specs.declared.key.Section.TheVariants.{Top}
use Rattle.network_rows.specs.declared.key.Key.{Key}
use Rattle.network_rows.specs.declared.fault.Place.{Place}
use Rattle.network_rows.specs.declared.fault.DescFault.{DescFault}

-- what f makes of each row, from the rows before it and the row itself, one after another
abbrev pub each_after : {X Y : Type 0} → (List X → X → List Y) → List X → List X → List Y
each_after f earlier [] = []
each_after f earlier (row ∷ later) = f earlier row ++ each_after f (earlier ++ row ∷ []) later

abbrev pub each : {X Y : Type 0} → (List X → X → List Y) → List X → List Y
each f rows = each_after f [] rows

-- the fault where the test holds, else none
abbrev pub when : Bool → DescFault → List DescFault
when test fault = cond test (fault ∷ []) []

-- the top of a description, a whole row, and a key of a row; rows count from 1
abbrev pub top : Place
top = record { section = Top; row = None; key = None }

abbrev pub row_at : {X : Type 0} → Section → List X → Place
row_at section earlier = record { section = section; row = Some (length earlier + 1); key = None }

abbrev pub key_at : {X : Type 0} → Section → List X → Key → Place
key_at section earlier key = record { section = section; row = Some (length earlier + 1); key = Some key }

-- the place of the first one that passes, from 0
abbrev pub place_by : {X : Type 0} → (X → Bool) → List X → Option ℕ
place_by test [] = None
place_by test (x ∷ xs) = cond (test x) (Some 0) (option_map (λ n. n + 1) (place_by test xs))
