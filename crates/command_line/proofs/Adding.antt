-- A command that gets one more argument or one more command.
use Rattle.std.proofs.Common.{◌≡◌, ◌∙◌, false, ap₂, ◌||◌}
use Rattle.clap.specs.Words.{AddsArg, AddsSubcommand, App, Rule, rule_of, with_rule, with_subcommand}
use Rattle.clap.specs.declared.builder.arg.Arg.{Arg}
use Rattle.clap.specs.declared.builder.command.Command.{Command}
use Rattle.command_line.specs.Program.{Knows}

pub grows : (old new : Command) (arg : Arg) (app : App) (rule : Rule) → AddsArg old arg new → Knows old app → rule_of arg ≡ rule →
    arg.global ≡ false → Knows new (with_rule app rule)
grows old new arg app rule adds before is local = record {
  app = adds.shape local ∙ ap₂ with_rule before.app is;
  local = adds.globals ∙ ap₂ (λ a b. a || b) before.local local;
}

pub gains : (old sub new : Command) (app added : App) → AddsSubcommand old sub new → Knows old app → Knows sub added → Knows new (with_subcommand app added.top)
gains old sub new app added adds before one = record {
  app = adds.shape one.local ∙ ap₂ (λ (a b : App). with_subcommand a b.top) before.app one.app;
  local = adds.globals ∙ ap₂ (λ a b. a || b) before.local one.local;
}
