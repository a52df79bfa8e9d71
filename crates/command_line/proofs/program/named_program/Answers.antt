use Rattle.std.proofs.Common.{◌∙◌, ap}
use Rattle.std.proofs.lemmas.Result.{IfOk-weaker}
use Rattle.clap.specs.Simple.{app_of_fields}
use Rattle.command_line.proofs.program.named_program.Goals as goal

pub returns : goal.returns
returns c =
    IfOk-weaker c.bin_name.result _ _ (λ program is. record {
      app = ap app_of_fields is.0 ∙ c.titled.ensures.app;
      local = ap (λ f. f.has_globals) is.0 ∙ c.titled.ensures.local;
    }) c.bin_name.ensures
