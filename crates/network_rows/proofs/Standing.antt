-- What stands at the keys of a table at which nothing is wrong.
use Rattle.std.proofs.Common.{◌≡◌, ℕ, Bool, true, false, not, cond, ◌&&◌, Option, Some, None, is_some, option_and_then, refl, sym, ◌∙◌}
use Rattle.std.proofs.lemmas.Bool.{false≢true}
use Rattle.toml.specs.Data.{Data, Members}
use Rattle.network_rows.specs.declared.fault.KeyFault.TheVariants as sort
use Rattle.network_rows.specs.declared.rule.ValueType.{ValueType}
use Rattle.network_rows.specs.declared.rule.ValueType.TheVariants.{Integer, IntegerAbove, OneOf, OneOfThree, EitherWord, NodeName, Reference, Paths}
use Rattle.network_rows.specs.declared.rule.Rule.{Rule}
use Rattle.network_rows.specs.Values.{value_at, passes, as_number}
use Rattle.network_rows.specs.ValueTypes.{has_type, allows, is_above, keeps_limit}
use Rattle.network_rows.specs.Faults.{is_needed, fault_of_value}
use Rattle.network_rows.specs.Rows.{IsAt}
use Rattle.network_rows.specs.Sound.{IsSoundAt, IsOfNumbers}

-- what passes a test is there
pub record Passing {X : Type 0} (test : X → Bool) (o : Option X) : Type 0 where
  pub found : X
  pub is : o ≡ Some found
  pub passed : test found ≡ true

pub passing : {X : Type 0} (test : X → Bool) (o : Option X) → passes test o ≡ true → Passing test o
passing test None e = absurd (false≢true e)
passing test (Some x) e = record { found = x; is = refl; passed = e }

pub both_true : (a b : Bool) → (a && b) ≡ true → (a ≡ true) × (b ≡ true)
both_true true b e = (refl, e)
both_true false b e = absurd (false≢true e)

of_type : (kind limit : Bool) → cond (not kind) (Some sort.WrongKind) (cond (not limit) (Some sort.OutOfLimit) None) ≡ None → (kind ≡ true) × (limit ≡ true)
of_type true true e = (refl, refl)
of_type true false e = cc
of_type false limit e = cc

not_missing : (needed : Bool) → needed ≡ true → cond needed (Some sort.Missing) None ≡ None → ⊥
not_missing true is e = cc
not_missing false is e = cc

module _ {X : Type 0} (read : Data → Option X) (rule : Rule) (row : Members) where
  stands : (x : X) (o : Option Data) → value_at rule.key row ≡ o → fault_of_value rule row o ≡ None → option_and_then read o ≡ Some x → IsAt read rule row x
  stands x None there none is = cc
  stands x (Some d) there none is =
      let both = of_type (has_type rule.value_type d) (keeps_limit rule.value_type row d) none in
      record { value = d; there = there; value_type = both.0; limit = both.1; is = is }

  -- what is read at the key stands there
  pub is_at : (x : X) → IsSoundAt rule row → option_and_then read (value_at rule.key row) ≡ Some x → IsAt read rule row x
  is_at x none is = stands x (value_at rule.key row) refl none is

  some : (o : Option Data) → is_needed rule.presence ≡ true → ((d : Data) → has_type rule.value_type d ≡ is_some (read d)) → fault_of_value rule row o ≡ None → is_some (option_and_then read o) ≡ true
  some None needed fits none = absurd (not_missing (is_needed rule.presence) needed none)
  some (Some d) needed fits none = sym (fits d) ∙ (of_type (has_type rule.value_type d) (keeps_limit rule.value_type row d) none).0

  -- something can be read at a key that the table has to have
  pub is_read : is_needed rule.presence ≡ true → ((d : Data) → has_type rule.value_type d ≡ is_some (read d)) → IsSoundAt rule row → is_some (option_and_then read (value_at rule.key row)) ≡ true
  is_read needed fits none = some (value_at rule.key row) needed fits none

-- ---- numbers

-- data is a number that the type allows
pub record IsAllowed (value_type : ValueType) (d : Data) : Type 0 where
  pub number : ℕ
  pub is : as_number d ≡ Some number
  pub allowed : allows value_type number ≡ true

pub number_within : (value_type : ValueType) (row : Members) (d : Data) → IsOfNumbers value_type → keeps_limit value_type row d ≡ true → IsAllowed value_type d
number_within (Integer least greatest) row d of e =
    let n = passing (allows (Integer least greatest)) (as_number d) e in record { number = n.found; is = n.is; allowed = n.passed }
number_within (IntegerAbove key least greatest) row d of e =
    let n = passing (λ n. allows (IntegerAbove key least greatest) n && is_above (option_and_then as_number (value_at key row)) n) (as_number d) e in
    record { number = n.found; is = n.is; allowed = (both_true (allows (IntegerAbove key least greatest) n.found) _ n.passed).0 }
number_within (OneOf numbers) row d of e = let n = passing (allows (OneOf numbers)) (as_number d) e in record { number = n.found; is = n.is; allowed = n.passed }
number_within (OneOfThree first second third) row d of e =
    let n = passing (allows (OneOfThree first second third)) (as_number d) e in record { number = n.found; is = n.is; allowed = n.passed }
number_within (EitherWord first second) row d of e = absurd of
number_within (NodeName least greatest) row d of e = absurd of
number_within Reference row d of e = absurd of
number_within (Paths least greatest) row d of e = absurd of
