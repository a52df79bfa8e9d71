-- The first fault of a text, from what its rows tell.
use Rattle.std.proofs.Common.{◌≡◌, ℕ, List, [], ◌∷◌, Some, Result, Ok, Err, MatchResult, OnOk, IfOk, IfErr, refl, ap, ◌∙◌, inl, inr, slice_get}
use Rattle.std.specs.Option.{option_map_or}
use Rattle.network_rows.specs.declared.fault.DescFault.{DescFault}
use Rattle.network_rows.specs.declared.fault.DescFault.TheVariants.{Syntax, Missing, WrongKind, OutOfLimit, UnknownName, DoubleName, NotALink, NotATree, TooMany, OutOfMemory}
use Rattle.network_rows.specs.declared.rows.Rows.{Rows}
use Rattle.network_rows.specs.Faults.{faults_of_document, faults_of_text, first, IsFirstFault}
use Rattle.network_rows.specs.Rows.{Means}
use Rattle.network.specs.Words.{Plan, faults_of, Tells, IsPlanOf}
use Rattle.netdesc.specs.Description.{HasNoFault, TellsFaultOf, Describes}

first_there : (xs : List DescFault) (fault : DescFault) → first xs ≡ Some fault → slice_get xs 0 ≡ Some fault
first_there [] fault e = cc
first_there (x ∷ xs) fault e = e

told_first : (text : List ℕ) (fault : DescFault) → first (faults_of_text text) ≡ Some fault → TellsFaultOf text fault
told_first text fault e = inr (inl (first_there (faults_of_text text) fault e))

-- a fault of a key, as it is told
pub told_of_key : (text : List ℕ) (fault : DescFault) → IsFirstFault (faults_of_text text) fault → TellsFaultOf text fault
told_of_key text OutOfMemory e = inl refl
told_of_key text Syntax e = told_first text Syntax e
told_of_key text (Missing p) e = told_first text (Missing p) e
told_of_key text (WrongKind p) e = told_first text (WrongKind p) e
told_of_key text (OutOfLimit p) e = told_first text (OutOfLimit p) e
told_of_key text (UnknownName p) e = told_first text (UnknownName p) e
told_of_key text (DoubleName p) e = told_first text (DoubleName p) e
told_of_key text (NotALink p) e = told_first text (NotALink p) e
told_of_key text (NotATree p) e = told_first text (NotATree p) e
told_of_key text (TooMany p) e = told_first text (TooMany p) e

none_first : (xs : List DescFault) (fault : DescFault) → xs ≡ [] → slice_get xs 0 ≡ Some fault → ⊥
none_first [] fault none e = cc
none_first (x ∷ xs) fault none e = cc

-- the rows that a text means have no fault, and it means no others: it has none
no_fault : (text : List ℕ) (rows : Rows) → Means text rows → ((other : Rows) → Means text other → other ≡ rows) → faults_of rows ≡ [] → HasNoFault text
no_fault text rows means only none fault (inl e) =
    none_first (faults_of_text text) fault (ap (λ o. option_map_or faults_of_document o (Syntax ∷ [])) means.parsed ∙ means.sound) e
no_fault text rows means only none fault (inr (other, meant, e)) = none_first (faults_of other) fault (ap faults_of (only other meant) ∙ none) e

-- where the rows that a text means make a network, it has no fault
pub sound_of : (text : List ℕ) (rows : Rows) (made : Result Plan DescFault) → Means text rows → ((other : Rows) → Means text other → other ≡ rows)
    → MatchResult made (IsPlanOf rows) (λ fault. Tells fault (faults_of rows)) → OnOk made (HasNoFault text)
sound_of text rows (Ok plan) means only of = no_fault text rows means only of.none
sound_of text rows (Err fault) means only of = tt

-- that network is described by it
pub described_of : (text : List ℕ) (rows : Rows) (made : Result Plan DescFault) → Means text rows
    → MatchResult made (IsPlanOf rows) (λ fault. Tells fault (faults_of rows)) → IfOk made (Describes text)
described_of text rows (Ok plan) means of = record { rows = rows; meant = means; stands = of }
described_of text rows (Err fault) means of = tt

-- and the first fault of the rows is one of the text
pub told_of_rows : (text : List ℕ) (rows : Rows) (made : Result Plan DescFault) → Means text rows
    → MatchResult made (IsPlanOf rows) (λ fault. Tells fault (faults_of rows)) → IfErr made (TellsFaultOf text)
told_of_rows text rows (Ok plan) means of = tt
told_of_rows text rows (Err fault) means (inl memory) = inl memory
told_of_rows text rows (Err fault) means (inr first) = inr (inr (rows, means, first))
