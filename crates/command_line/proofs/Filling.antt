-- What a command's arguments keep: each row has a value, which is a number within limits where its argument is one.
use Rattle.std.proofs.Common.{◌≡◌, ◌∙◌, ℕ, zero, suc, Bool, true, false, cond, List, [], ◌∷◌, ◌++◌, length, Option, Some, None, refl, sym, ap, subst, ◌==◌, find, slice_get, option_map, IfSome, is_some, option_and_then, bytes_eq}
use Rattle.std.specs.Option.{option_map_or}
use Rattle.std.specs.Cmp.{unsigned_Decides}
use Rattle.std.proofs.lemmas.Slice.Eq.{bytes_eq-Decides}
use Rattle.clap.specs.Facts.{explicit_source, parser_of_value, unwrap_or_range}
use Rattle.clap.specs.Faults.{action_fault, repeat_fault, set_fault, values_fault}
use Rattle.clap.specs.Kinds.{range_kinds, value_kinds}
use Rattle.clap.specs.Takes.{is_given}
use Rattle.clap.specs.Values.{IsUnsignedIn, read_as, refused_kind}
use Rattle.clap.specs.ValueTests.{accepts}
use Rattle.clap.specs.Walk.{Row, Rule, Text, action_of, at_row, first_of, default_rows, has_row, most_values, more_values, one_of, reading_by, row_text, used_as, values_or_missing, with_values, without}
use Rattle.clap.specs.declared.builder.action.ArgAction.TheVariants.{Set, SetTrue, Help, Version}
use Rattle.clap.specs.declared.builder.value_parser.ValueParser.{ValueParser}
use Rattle.clap.specs.declared.builder.value_parser.ValueParser.TheVariants.{Unsigned}
use Rattle.clap.specs.declared.parser.matches.ValueSource.TheVariants.{CommandLine, DefaultValue}
use Rattle.clap.specs.declared.error.kind.ErrorKind.TheVariants.{InvalidValue, WrongNumberOfValues}
use Rattle.clap.proofs.ValueTestLemmas.{accepts-Accepts}
use Rattle.command_line.proofs.Walking.{Each, Keeps, KeepsByDefault, each_found, neither}

each_of_both : (Q : Row → Type 0) (xs ys : List Row) → Each Q xs → Each Q ys → Each Q (xs ++ ys)
each_of_both Q [] ys f g = g
each_of_both Q (x ∷ xs) ys f g = (f.0, each_of_both Q xs ys f.1 g)

each_at_row : (Q : Row → Type 0) (id : Text) (change : Row → List Row) (missing rows : List Row) → ((r : Row) → Q r → Each Q (change r)) → Each Q missing → Each Q rows
    → Each Q (at_row id change missing rows)
each_at_row Q id change missing [] changed filled good = filled
each_at_row Q id change missing (r ∷ rs) changed filled good =
    go (bytes_eq r.id id) (each_at_row Q id change missing rs changed filled good.1)
  where
    go : (b : Bool) → Each Q (at_row id change missing rs) → Each Q (cond b (change r ++ rs) (r ∷ at_row id change missing rs))
    go true later = each_of_both Q (change r) rs (changed r good.0) good.1
    go false later = (good.0, later)

first_stays : (xs ys : List Text) (t : Text) → slice_get xs 0 ≡ Some t → slice_get (xs ++ ys) 0 ≡ Some t
first_stays [] ys t is = cc
first_stays (x ∷ xs) ys t is = is

accepted : (i : Bool) (p : ValueParser) (t : Text) → value_kinds i p t ≡ [] → accepts i p t ≡ true
accepted i p t none = go (accepts i p t) none
  where
    go : (b : Bool) → cond b [] (refused_kind p ∷ []) ≡ [] → b ≡ true
    go true none = refl
    go false none = cc

-- an argument that takes no value gets none
no_value : (least most n : ℕ) → least ≡ 0 → most ≡ 0 → range_kinds least most (suc n) ≡ [] → ⊥
no_value zero zero n a b none = go (0 == suc n) (unsigned_Decides 0 (suc n)).0 none
  where
    go : (b : Bool) → (b ≡ true → 0 ≡ suc n) → cond b [] (WrongNumberOfValues ∷ []) ≡ [] → ⊥
    go true same none = let bad : 0 ≡ suc n = same refl in cc
    go false same none = cc
no_value zero (suc m) n a b none = cc
no_value (suc l) m n a b none = cc

-- an argument that asks for the version
pub version_keeps : (again : Bool) (Q : Row → Type 0) (a : Rule) → action_of a ≡ Version → Keeps again Q a
version_keeps again Q a asks = record {
  kept = λ values rows none good.
      let both = neither (range_kinds (unwrap_or_range a.range).start_inclusive (most_values a) (length values)) _ none in
      let asked = subst (λ x. action_fault x again a (values_or_missing a values) rows ≡ []) asks both.1 in
      cc;
}

-- an argument that asks for help
pub help_keeps : (again : Bool) (Q : Row → Type 0) (a : Rule) → action_of a ≡ Help → Keeps again Q a
help_keeps again Q a asks = record {
  kept = λ values rows none good.
      let both = neither (range_kinds (unwrap_or_range a.range).start_inclusive (most_values a) (length values)) _ none in
      let asked = subst (λ x. action_fault x again a (values_or_missing a values) rows ≡ []) asks both.1 in
      cc;
}

-- a found element passes the test
pub found_passes : {X : Type 0} (test : X → Bool) (xs : List X) (x : X) → find test xs ≡ Some x → test x ≡ true
found_passes test [] x is = cc
found_passes test (y ∷ ys) x is = go (test y) refl is (found_passes test ys x)
  where
    go : (b : Bool) → test y ≡ b → cond b (Some y) (find test ys) ≡ Some x → (find test ys ≡ Some x → test x ≡ true) → test x ≡ true
    go true passes same later = ap test (sym (ap (λ o. option_map_or (λ z. z) o y) same)) ∙ passes
    go false passes same later = later same

-- the least and the greatest value of the argument with this id, if it is a number
module _ (limits : Text → Option (ℕ × ℕ)) where
  abbrev pub IsRead : Text → Text → Type 0
  IsRead id text = IfSome (limits id) (λ m. accepts false (Unsigned m.0 m.1) text ≡ true)

  -- the row has a value, which is a number within the limits where its argument is one
  abbrev pub IsFilled : Row → Type 0
  IsFilled r = (t : Text) × (slice_get r.values 0 ≡ Some t) × IsRead r.id (read_as r.reading t)

  -- an argument of this kind gets values, of which the first is one
  abbrev Reads : Rule → Type 0
  Reads a = (t : Text) → accepts a.ignore_case (parser_of_value a.parser) t ≡ true → IsRead a.id (read_as (reading_by a) t)

  set_well : (again : Bool) (a : Rule) → Reads a → (v : Text) (vs : List Text) (rows : List Row) → set_fault again a (v ∷ vs) rows ≡ []
      → Each IsFilled rows → Each IsFilled (with_values a.id (reading_by a) CommandLine (v ∷ vs) (without a.id rows))
  set_well again a reads v vs rows fits good =
      let values_fit = (neither (repeat_fault again a.id rows) (values_fault a (v ∷ vs)) fits).1 in
      let first = (neither (value_kinds a.ignore_case (parser_of_value a.parser) v) _ values_fit).0 in
      let read = reads v (accepted a.ignore_case (parser_of_value a.parser) v first) in
      let alone = each_at_row IsFilled a.id (λ _. []) [] rows (λ r filled. tt) tt good in
      each_at_row IsFilled a.id (more_values CommandLine (v ∷ vs)) _ (without a.id rows)
      (λ r filled. ((filled.0, first_stays r.values (v ∷ vs) filled.0 filled.1, filled.2), tt)) ((v, refl, read), tt) alone

  -- an argument that is set to a value
  pub set_keeps : (again : Bool) (a : Rule) → action_of a ≡ Set → range_kinds (unwrap_or_range a.range).start_inclusive (most_values a) 0 ≡ InvalidValue ∷ []
      → Reads a → Keeps again IsFilled a
  set_keeps again a sets empty reads = record {
    kept = λ values rows none good.
        let both = neither (range_kinds (unwrap_or_range a.range).start_inclusive (most_values a) (length values)) _ none in
        go rows good values both.0 (subst (λ x. action_fault x again a (values_or_missing a values) rows ≡ []) sets both.1);
  }
    where
      go : (rows : List Row) → Each IsFilled rows → (vs : List Text) → range_kinds (unwrap_or_range a.range).start_inclusive (most_values a) (length vs) ≡ [] → action_fault Set again a (values_or_missing a vs) rows ≡ []
          → Each IsFilled (used_as (action_of a) a.id (reading_by a) (values_or_missing a vs) rows)
      go rows good [] few fits = cc
      go rows good (v ∷ vs) few fits =
          subst (λ x. Each IsFilled (used_as x a.id (reading_by a) (v ∷ vs) rows)) (sym sets) (set_well again a reads v vs rows fits good)

  reads_text : (a : Rule) → limits a.id ≡ None → Reads a
  reads_text a none t passes = subst (λ o. IfSome o (λ m. accepts false (Unsigned m.0 m.1) (read_as (reading_by a) t) ≡ true)) (sym none) tt

  -- an argument that is set to a text
  pub is_set : (again : Bool) (a : Rule) → action_of a ≡ Set → range_kinds (unwrap_or_range a.range).start_inclusive (most_values a) 0 ≡ InvalidValue ∷ [] → limits a.id ≡ None
      → Keeps again IsFilled a
  is_set again a sets empty none = set_keeps again a sets empty (reads_text a none)

  -- a flag: no value may stand behind it, and it has the one that stands for none
  pub flag_keeps : (again : Bool) (a : Rule) (named : Text) → action_of a ≡ SetTrue → a.missing ≡ named ∷ []
      → (unwrap_or_range a.range).start_inclusive ≡ 0 → most_values a ≡ 0 → limits a.id ≡ None → Keeps again IsFilled a
  flag_keeps again a named sets missing least most none = record {
    kept = λ values rows fits good.
        let both = neither (range_kinds (unwrap_or_range a.range).start_inclusive (most_values a) (length values)) _ fits in
        go rows good values both.0 (subst (λ x. action_fault x again a (values_or_missing a values) rows ≡ []) sets both.1);
  }
    where
      go : (rows : List Row) → Each IsFilled rows → (vs : List Text) → range_kinds (unwrap_or_range a.range).start_inclusive (most_values a) (length vs) ≡ [] → action_fault SetTrue again a (values_or_missing a vs) rows ≡ []
          → Each IsFilled (used_as (action_of a) a.id (reading_by a) (values_or_missing a vs) rows)
      go rows good (v ∷ vs) few fits = absurd (no_value _ _ (length vs) least most few)
      go rows good [] few fits =
          let one : set_fault again a (named ∷ []) rows ≡ [] = subst (λ vs. set_fault again a vs rows ≡ []) missing fits in
          subst (λ x. Each IsFilled (used_as x a.id (reading_by a) a.missing rows)) (sym sets)
          (subst (λ vs. Each IsFilled (with_values a.id (reading_by a) CommandLine vs (without a.id rows))) (sym missing)
          (set_well again a (reads_text a none) named [] rows one good))

  -- where it is not named it has its default
  pub flag_default : (a : Rule) (unnamed : Text) → a.defaults ≡ unnamed ∷ [] → limits a.id ≡ None → KeepsByDefault IsFilled a
  flag_default a unnamed default none = record { kept = λ rows good. go rows good (has_row a.id rows) a.defaults default }
    where
      filled_so : (t : Text) → IsRead a.id (read_as (reading_by a) t)
      filled_so t = subst (λ o. IfSome o (λ m. accepts false (Unsigned m.0 m.1) (read_as (reading_by a) t) ≡ true)) (sym none) tt

      go : (rows : List Row) → Each IsFilled rows → (b : Bool) (ds : List Text) → ds ≡ unnamed ∷ [] → Each IsFilled (cond b rows (default_rows a.id (reading_by a) ds rows))
      go rows good true ds is = good
      go rows good false [] is = cc
      go rows good false (d ∷ ds) is =
          each_at_row IsFilled a.id (more_values DefaultValue (d ∷ ds)) _ rows
          (λ r filled. ((filled.0, first_stays r.values (d ∷ ds) filled.0 filled.1, filled.2), tt))
          ((d, refl, filled_so d), tt) good

  -- what is given has a value
  pub has_first : (id : Text) (rows : List Row) → Each IsFilled rows → is_given id rows ≡ true → is_some (first_of id rows) ≡ true
  has_first id rows good given = go (find (λ r. bytes_eq r.id id) rows) (λ r. each_found IsFilled (λ r. bytes_eq r.id id) rows r good) given
    where
      go : (f : Option Row) → ((r : Row) → f ≡ Some r → IsFilled r) → option_map_or (λ r. explicit_source r.source) f false ≡ true
          → is_some (option_and_then (λ r. slice_get r.values 0) f) ≡ true
      go None filled given = given
      go (Some r) filled given = ap is_some (filled r refl).1

  -- a number is within its limits
  pub is_within : (id : Text) (least most : ℕ) (rows : List Row) → limits id ≡ Some (least, most) → Each IsFilled rows → IfSome (one_of id rows) (IsUnsignedIn least most)
  is_within id least most rows limit good =
      go (find (λ r. bytes_eq r.id id) rows) (λ r. each_found IsFilled (λ r. bytes_eq r.id id) rows r good) (found_passes (λ r. bytes_eq r.id id) rows)
    where
      go : (f : Option Row) → ((r : Row) → f ≡ Some r → IsFilled r) → ((r : Row) → f ≡ Some r → bytes_eq r.id id ≡ true) → IfSome (option_and_then row_text f) (IsUnsignedIn least most)
      go None filled same = tt
      go (Some r) filled same =
          let h = filled r refl in
          let id_is : limits r.id ≡ Some (least, most) = ap limits ((bytes_eq-Decides r.id id).0 (same r refl)) ∙ limit in
          let read = subst (λ o. IfSome o (λ m. accepts false (Unsigned m.0 m.1) (read_as r.reading h.0) ≡ true)) id_is h.2 in
          let text : row_text r ≡ Some (read_as r.reading h.0) = ap (option_map (read_as r.reading)) h.1 in
          subst (λ o. IfSome o (IsUnsignedIn least most)) (sym text) (accepts-Accepts false (Unsigned least most) (read_as r.reading h.0) read)
