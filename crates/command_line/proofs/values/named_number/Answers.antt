use Rattle.std.proofs.Common.{◌≡◌, ◌∙◌, option_map}
use Rattle.std.specs.Str.Parse.{ParsesUnsigned, ExplainsUnsignedError, HasUnsignedDigitsIfOk}
use Rattle.clap.specs.Words.{found_of, one_of, rows_of}
use Rattle.clap.proofs.WalkLemmas.{one_text-rows}
use Rattle.command_line.specs.Meaning.{number_in}
use Rattle.command_line.proofs.Reading.{in_limits, is_read, read_argument}
use Rattle.command_line.proofs.values.named_number.Goals as goal

pub unwrap-requires : goal.unwrap-requires
unwrap-requires c =
    let rows = one_text-rows (found_of c.args.values.now) c.args.id.now in
    is_read _ (λ t r. ParsesUnsigned 64 10 t r × ExplainsUnsignedError 10 t r × HasUnsignedDigitsIfOk t r)
    (one_of c.args.id.now (rows_of (found_of c.args.values.now))) c.try_get_one.result c.args.most (λ t x h. h.0)
    (λ h. c.try_get_one.ensures.none (rows ∙ h)) (λ t h. c.try_get_one.ensures.value t (rows ∙ h)) c.requires

abbrev Read : goal.After-unwrap → Type 0
Read c = c.unwrap.result ≡ option_map number_in (one_of c.args.id.now (rows_of (found_of c.args.values.now)))

read : (c : goal.After-unwrap) → Read c
read c =
    let rows = one_text-rows (found_of c.args.values.now) c.args.id.now in
    read_argument _ (λ t r. ParsesUnsigned 64 10 t r × ExplainsUnsignedError 10 t r × HasUnsignedDigitsIfOk t r)
    (one_of c.args.id.now (rows_of (found_of c.args.values.now))) c.try_get_one.result c.unwrap.result
    (λ t x h. h.0) c.unwrap.ensures (λ h. c.try_get_one.ensures.none (rows ∙ h)) (λ t h. c.try_get_one.ensures.value t (rows ∙ h))

pub returns-clause-value : goal.returns-clause-value
returns-clause-value c = read c

pub returns-clause-limits : goal.returns-clause-limits
returns-clause-limits c =
    in_limits (one_of c.args.id.now (rows_of (found_of c.args.values.now))) c.args.most c.unwrap.result c.requires (read c)
