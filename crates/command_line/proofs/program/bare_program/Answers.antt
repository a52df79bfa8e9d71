use Rattle.std.proofs.Common.{◌∙◌, true, ap}
use Rattle.clap.specs.Simple.{app_of_fields, on_top}
use Rattle.command_line.proofs.program.bare_program.Goals as goal

pub returns : goal.returns
returns c =
    let named = c.in_ok-program.ensures in
    let dated = ap app_of_fields c.version.ensures ∙ ap (on_top (λ s. record s { has_version = true })) named.app in
    let unnamed = ap app_of_fields c.no_binary_name.ensures ∙ ap (on_top (λ s. record s { no_binary_name = true })) dated in
    record {
      app = ap app_of_fields c.subcommand_required.ensures ∙ ap (on_top (λ s. record s { subcommand_required = true })) unnamed;
      local = ap (λ f. f.has_globals) c.subcommand_required.ensures ∙ (ap (λ f. f.has_globals) c.no_binary_name.ensures ∙
          (ap (λ f. f.has_globals) c.version.ensures ∙ named.local));
    }
