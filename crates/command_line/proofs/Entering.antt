-- The command that a parse entered, and what the words name for it.
use Rattle.std.proofs.Common.{◌≡◌, ◌∙◌, List, Option, Some, None, Result, Ok, Err, [], refl, sym, ap, subst, Box, IsErrAnd, option_map, true, Bor, box_value}
use Rattle.std.specs.Option.{option_map_or}
use Rattle.clap.specs.Words.{App, FailsBy, HasKind, HasMatchesOf, Kinds, Row, Text, app_of, fault_of, found_of, is_simple, is_simple_and_free, rows_of, subcommand_name_of, subcommand_of, subcommand_rows_of}
use Rattle.clap.specs.Simple.{subcommand_rows}
use Rattle.clap.specs.declared.builder.command.Command.{Command}
use Rattle.clap.specs.declared.error.Error.{Error}
use Rattle.clap.specs.declared.parser.matches.SubCommand.{SubCommand}
use Rattle.clap.specs.declared.parser.matches.ArgMatches.{ArgMatches}
use Rattle.clap.specs.declared.parser.matches.ArgMatches.TheViews.{out-ArgMatches, out-SubCommand}
use Rattle.command_line.specs.Given.{IsGiven}
use Rattle.command_line.specs.Meaning.{command_in, rows_in}
use Rattle.command_line.specs.Program.{program}
use Rattle.command_line.proofs.Giving.{gives_command}

-- the rows that stand beside a command's name
pub rows_beside : (entered : Option (Text × List Row)) (rows : List Row) → option_map (λ p. p.1) entered ≡ Some rows →
    option_map_or (λ p. p.1) entered [] ≡ rows
rows_beside None rows is = cc
rows_beside (Some p) rows is = cc

names_beside : {Z : Type 0} (entered : Option (Box SubCommand Z)) →
    option_map (λ p. p.0) (subcommand_rows entered) ≡ option_map (λ b. (out-SubCommand (box_value b)).name.now) entered
names_beside None = refl
names_beside (Some b) = refl

-- the name that stands beside the rows
pub name_beside : (m : ArgMatches) → option_map (λ p. p.0) (subcommand_rows_of m) ≡ subcommand_name_of m
name_beside m = names_beside (out-ArgMatches m).subcommand

-- an error that is handed on has the kind that it had
pub hands_on : {T : Type 0} (kinds : Kinds) (r : Result T Error) (e : Error) → HasKind kinds e → IsErrAnd r (λ x. x ≡ e) → FailsBy kinds r
hands_on kinds (Ok x) e kind same = absurd same
hands_on kinds (Err x) e kind same = subst (HasKind kinds) (sym same) kind

-- the parse entered this command, and made these rows
pub record IsEntered (words : List Text) (name : Text) (rows : List Row) : Type 0 where
  pub faultless : fault_of program words ≡ []
  pub named : command_in words ≡ Some name
  pub rows_are : rows ≡ rows_in words
  pub given : IsGiven name rows

abbrev Found : Type 0
Found = Bor Text × Bor ArgMatches

pub enters : (command : Command) (m : ArgMatches) (words : List Text) (found : Option Found) (at : Found) → app_of command ≡ program → HasMatchesOf (app_of command) words m →
    (is_simple_and_free (app_of command) ≡ true → fault_of (app_of command) words ≡ []) → option_map (λ p. p.0.now) found ≡ subcommand_name_of m →
    option_map (λ p. rows_of (found_of p.1.now)) found ≡ option_map (λ p. p.1) (subcommand_rows_of m) → found ≡ Some at →
    IsEntered words at.0.now (rows_of (found_of at.1.now))
enters command m words found at is matches kinds name rows there =
    let entered : subcommand_rows_of m ≡ subcommand_of program words = (matches (ap is_simple is)).1 ∙ ap (λ (a : App). subcommand_of a words) is in
    let faultless : fault_of program words ≡ [] = ap (λ (a : App). fault_of a words) (sym is) ∙ kinds (ap is_simple_and_free is) in
    let is_name : subcommand_name_of m ≡ Some at.0.now = sym name ∙ ap (option_map (λ p. p.0.now)) there in
    let is_rows : option_map (λ p. p.1) (subcommand_rows_of m) ≡ Some (rows_of (found_of at.1.now)) = sym rows ∙ ap (option_map (λ p. rows_of (found_of p.1.now))) there in
    let named : command_in words ≡ Some at.0.now = ap (option_map (λ p. p.0)) (sym entered) ∙ (name_beside m ∙ is_name) in
    let beside = ap (option_map (λ p. p.1)) (sym entered) ∙ is_rows in
    let rows_are : rows_of (found_of at.1.now) ≡ rows_in words = sym (rows_beside (subcommand_of program words) (rows_of (found_of at.1.now)) beside) in
    let command_is = gives_command words faultless in
    let name_is : command_is.0.0 ≡ at.0.now = ap (λ o. option_map_or (λ n. n) o at.0.now) (ap (option_map (λ p. p.0)) (sym command_is.1) ∙ named) in
    let same_rows : command_is.0.1 ≡ rows_of (found_of at.1.now) = sym (rows_are ∙ ap (λ o. option_map_or (λ p. p.1) o []) command_is.1) in
    record {
      faultless = faultless;
      named = named;
      rows_are = rows_are;
      given = subst (λ n. IsGiven n (rows_of (found_of at.1.now))) name_is (subst (IsGiven command_is.0.0) same_rows command_is.2);
    }
