use Rattle.std.proofs.Common.{◌≡◌, ◌∙◌, Some, map, sym, ap, subst}
use Rattle.clap.specs.Words.{App, HasKind, app_of, fault_of, found_of, is_simple_and_free, rows_of}
use Rattle.command_line.specs.Meaning.{HasDefaults, Names}
use Rattle.command_line.specs.Program.{program}
use Rattle.command_line.proofs.Entering.{IsEntered, enters, hands_on}
use Rattle.command_line.proofs.words.order.Goals.{Joined-matches-2}
use Rattle.command_line.proofs.words.order.Goals as goal

pub returns-in_err-matches-clause-mistake : goal.returns-in_err-matches-clause-mistake
returns-in_err-matches-clause-mistake g c =
    let words = map g.S.AsStr.text c.args.words.now in
    let is : app_of c.in_ok-program.field-0 ≡ program = c.in_ok-program.ensures in
    let kind : HasKind (fault_of program words) c.in_err-matches.field-0.0 =
    subst (λ (a : App). HasKind (fault_of a words) c.in_err-matches.field-0.0) is (c.in_err-matches.ensures.kinds (ap is_simple_and_free is)) in
    hands_on (fault_of program words) c.from_residual-in_err-matches.result c.in_err-matches.field-0.0 kind c.from_residual-in_err-matches.ensures.1

pub order_of-requires : goal.order_of-requires
order_of-requires g c =
    (enters c.in_ok-program.field-0 c.in_ok-matches.matches (map g.S.AsStr.text c.args.words.now) c.subcommand.result c.unwrap.result c.in_ok-program.ensures
    c.in_ok-matches.ensures.matches c.in_ok-matches.ensures.kinds c.subcommand.ensures.name c.subcommand.ensures.rows c.unwrap.ensures).given

ordered : (g : _) (c : Joined-matches-2 g) → IsEntered (map g.S.AsStr.text c.args.words.now) c.unwrap.result.0.now (rows_of (found_of c.unwrap.result.1.now))
ordered g c =
    enters c.in_ok-program.field-0 c.in_ok-matches.matches (map g.S.AsStr.text c.args.words.now) c.subcommand.result c.unwrap.result c.in_ok-program.ensures
    c.in_ok-matches.ensures.matches c.in_ok-matches.ensures.kinds c.subcommand.ensures.name c.subcommand.ensures.rows c.unwrap.ensures

pub returns-clause-command : goal.returns-clause-command
returns-clause-command g c = (ordered g c).named ∙ ap Some (sym c.in_ok-order_of.ensures.command)

pub returns-clause-names : goal.returns-clause-names
returns-clause-names g c = subst (λ at. Names at c.in_ok-order_of.field-0) (ordered g c).rows_are c.in_ok-order_of.ensures.names

pub returns-clause-defaults : goal.returns-clause-defaults
returns-clause-defaults g c = subst (λ at. HasDefaults at c.in_ok-order_of.field-0) (ordered g c).rows_are c.in_ok-order_of.ensures.defaults

pub returns-clause-limits : goal.returns-clause-limits
returns-clause-limits g c = c.in_ok-order_of.ensures.limits

pub returns-clause-mistake : goal.returns-clause-mistake
returns-clause-mistake g c = (ordered g c).faultless
