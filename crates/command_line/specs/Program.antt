-- The words that the program knows: its commands and their arguments.
use Rattle.std.specs.Prelude.{◌≡◌, ℕ, false, true, Some, codes}
use Rattle.clap.specs.Words.{App, Rule, Text, app_of, new_app, new_rule, with_rule, with_subcommand}
use Rattle.clap.specs.Simple.{on_top}
use Rattle.clap.specs.declared.builder.command.Command.{Command}
use Rattle.clap.specs.declared.builder.command.Command.TheViews.{out-Command}
use Rattle.clap.specs.declared.builder.action.ArgAction.TheVariants.{SetTrue}
use Rattle.clap.specs.declared.builder.value_parser.ValueParser.TheVariants.{Unsigned}
use Rattle.vlink.specs.declared.time.TheConstants.{LATEST_NS}

-- a word that has to be there, known by its place
abbrev pub path_rule : Text → Rule
path_rule id = record (new_rule id) { required = true }

-- a file that may be named: `--id FILE`
abbrev pub file_rule : Text → Rule
file_rule id = record (new_rule id) { long = Some id; value_names = 1 }

-- a flag that may be named: `--id`
abbrev pub flag_rule : Text → Rule
flag_rule id = record (new_rule id) { long = Some id; action = Some SetTrue }

-- a whole number that may be named, from 1 to the most: `--id N`
abbrev pub number_rule : Text → ℕ → Rule
number_rule id most = record (file_rule id) { parser = Some (Unsigned 1 most) }

-- `NAME NET`
abbrev pub network_app : Text → App
network_app name = with_rule (new_app name) (path_rule (codes "NET"))

-- `[--workers N] [--groups N] [--turn N] [--window NS]` more
abbrev pub with_paces : App → App
with_paces a =
    with_rule
    (with_rule (with_rule (with_rule a (number_rule (codes "workers") 64)) (number_rule (codes "groups") 64)) (number_rule (codes "turn") 256))
    (number_rule (codes "window") LATEST_NS)

-- `[--trace FILE] [--progress]` more
abbrev pub with_outputs : App → App
with_outputs a = with_rule (with_rule a (file_rule (codes "trace"))) (flag_rule (codes "progress"))

-- `check NET`
abbrev pub check_app : App
check_app = network_app (codes "check")

-- `seq NET [--trace FILE] [--progress]`
abbrev pub seq_app : App
seq_app = with_outputs (network_app (codes "seq"))

-- `run NET [--workers N] [--groups N] [--turn N] [--window NS] [--journal FILE] [--trace FILE] [--progress]`
abbrev pub run_app : App
run_app = with_outputs (with_rule (with_paces (network_app (codes "run"))) (file_rule (codes "journal")))

-- `replay NET STEPS`
abbrev pub replay_app : App
replay_app = with_rule (network_app (codes "replay")) (path_rule (codes "STEPS"))

-- `bounds NET [--contract]`
abbrev pub bounds_app : App
bounds_app = with_rule (network_app (codes "bounds")) (flag_rule (codes "contract"))

-- the program without its commands: a command has to be named, the program's own name is not among the words, and `--version` asks for its version
abbrev pub bare_program : App
bare_program = on_top (λ s. record s { no_binary_name = true; subcommand_required = true; has_version = true }) (new_app (codes "afdxsim"))

-- what the program knows
abbrev pub program : App
program =
    with_subcommand
    (with_subcommand (with_subcommand (with_subcommand (with_subcommand bare_program check_app.top) seq_app.top) run_app.top) replay_app.top)
    bounds_app.top

-- the command knows just this, and has no argument that is its subcommands' too
pub record Knows (command : Command) (known : App) : Type 0 where
  pub app : app_of command ≡ known
  pub local : (out-Command command).has_globals ≡ false
