-- The definitions at work on small texts, each case computed.
use Rattle.std.proofs.Common.{◌≡◌, ℕ, [], ◌∷◌, codes, Option, Some, None, refl}
use Rattle.toml.proofs.OnLiterals.{toml_on_literals}
use Rattle.network_rows.specs.declared.key.Key.{Key}
use Rattle.network_rows.specs.declared.key.Key.TheVariants.{UntilNs, Seed, Kind, PortBytes, Net, LatencyNs, ToNs}
use Rattle.network_rows.specs.declared.key.Section.{Section}
use Rattle.network_rows.specs.declared.key.Section.TheVariants.{Top, Node, Outage}
use Rattle.network_rows.specs.declared.fault.Place.{Place}
use Rattle.network_rows.specs.declared.fault.DescFault.TheVariants.{Syntax, Missing, WrongKind, OutOfLimit}
use Rattle.network_rows.specs.Faults.{faults_of_text}

abbrev at : Section → ℕ → Option Key → Place
at section row key = record { section = section; row = Some row; key = key }

abbrev at_top : Key → Place
at_top key = record { section = Top; row = None; key = Some key }

-- nothing is written
empty : faults_of_text (codes "") ≡ Missing (at_top UntilNs) ∷ Missing (at_top Seed) ∷ []
unfolding toml_on_literals
empty = refl

-- no document
unfinished : faults_of_text (codes "until_ns =") ≡ Syntax ∷ []
unfolding toml_on_literals
unfinished = refl

-- the two keys of the top table alone, at their least and beyond their greatest
least_top : faults_of_text (codes "until_ns = 1\nseed = 0\n") ≡ []
unfolding toml_on_literals
least_top = refl

late_end : faults_of_text (codes "until_ns = 1000000000000001\nseed = -1\n") ≡ OutOfLimit (at_top UntilNs) ∷ OutOfLimit (at_top Seed) ∷ []
unfolding toml_on_literals
late_end = refl

-- a section that is no list, and a row that is no table, come before a limit
no_list : faults_of_text (codes "until_ns = 0\nseed = 1\nnode = 3\n") ≡ WrongKind (at Node 0 None) ∷ OutOfLimit (at_top UntilNs) ∷ []
unfolding toml_on_literals
no_list = refl

no_table : faults_of_text (codes "until_ns = 1\nseed = 1\nnode = [3]\n") ≡ WrongKind (at Node 1 None) ∷ []
unfolding toml_on_literals
no_table = refl

-- an end system needs no network, a switch does
end_system : faults_of_text (codes "until_ns = 1\nseed = 1\nnode = [{name = \"a\", kind = \"es\", port_bytes = 1517}]\n") ≡ OutOfLimit (at Node 1 (Some PortBytes)) ∷ []
unfolding toml_on_literals
end_system = refl

switch : faults_of_text (codes "until_ns = 1\nseed = 1\nnode = [{name = \"a\", kind = \"switch\", port_bytes = 1518}]\n")
    ≡ Missing (at Node 1 (Some Net)) ∷ Missing (at Node 1 (Some LatencyNs)) ∷ []
unfolding toml_on_literals
switch = refl

-- another text is a broken limit of the type, a value that is no text is of another type; neither is a switch
no_kind : faults_of_text (codes "until_ns = 1\nseed = 1\nnode = [{name = \"a\", kind = \"hub\", port_bytes = 1518}, {name = \"a\", kind = 1, port_bytes = 1518}]\n")
    ≡ WrongKind (at Node 2 (Some Kind)) ∷ OutOfLimit (at Node 1 (Some Kind)) ∷ []
unfolding toml_on_literals
no_kind = refl

-- an outage ends after it begins
outage : faults_of_text (codes "until_ns = 1\nseed = 1\noutage = [{from = \"\", to = \"\", from_ns = 5, to_ns = 6}, {from = \"\", to = \"\", from_ns = 5, to_ns = 5}]\n")
    ≡ OutOfLimit (at Outage 2 (Some ToNs)) ∷ []
unfolding toml_on_literals
outage = refl
