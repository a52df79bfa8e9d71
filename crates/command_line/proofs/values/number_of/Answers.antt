use Rattle.clap.specs.Words.{found_of, one_of, rows_of}
use Rattle.command_line.proofs.Reading.{or_usual, usual_in_limits}
use Rattle.command_line.proofs.values.number_of.Goals as goal

pub returns-clause-value : goal.returns-clause-value
returns-clause-value c =
    (or_usual (one_of c.args.id.now (rows_of (found_of c.args.values.now))) c.named_number.result c.args.usual c.unwrap_or.result
    c.named_number.ensures.value c.unwrap_or.ensures).1

pub returns-clause-usual : goal.returns-clause-usual
returns-clause-usual c =
    (or_usual (one_of c.args.id.now (rows_of (found_of c.args.values.now))) c.named_number.result c.args.usual c.unwrap_or.result
    c.named_number.ensures.value c.unwrap_or.ensures).0

pub returns-clause-limits : goal.returns-clause-limits
returns-clause-limits c =
    usual_in_limits c.args.most c.named_number.result c.args.usual c.unwrap_or.result c.named_number.ensures.limits c.requires.usual c.unwrap_or.ensures
