use Rattle.std.proofs.Common.{◌∙◌, Some, ap, sym, is_some, option_map}
use Rattle.std.proofs.lemmas.Result.{IfOk-weaker}
use Rattle.clap.specs.Words.{found_of}
use Rattle.clap.proofs.WalkLemmas.{first_value-rows}
use Rattle.command_line.proofs.Reading.{some_under}
use Rattle.command_line.proofs.values.given_text_of.Goals as goal

pub unwrap-text-requires : goal.unwrap-text-requires
unwrap-text-requires c =
    some_under (λ s. s.now) c.get_str.result (ap is_some (c.get_str.ensures ∙ first_value-rows (found_of c.args.values.now) c.args.id.now) ∙ c.requires)

pub returns : goal.returns
returns c =
    IfOk-weaker c.from_str.result _ _
    (λ text h. sym (c.get_str.ensures ∙ first_value-rows (found_of c.args.values.now) c.args.id.now)
    ∙ (ap (option_map (λ s. s.now)) c.unwrap-text.ensures ∙ ap Some (sym h))) c.from_str.ensures.ok
