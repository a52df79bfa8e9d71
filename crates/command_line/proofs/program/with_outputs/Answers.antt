use Rattle.std.proofs.Common.{codes}
use Rattle.clap.specs.Words.{with_rule}
use Rattle.command_line.specs.Program.{file_rule, flag_rule}
use Rattle.command_line.proofs.program.with_outputs.Goals as goal

pub returns : goal.returns
returns c = λ known before.
    let trace = file_rule (codes "trace") in
    let traces = c.with_arg-traces.ensures known trace before c.file.ensures.rule c.file.ensures.local in
    c.with_arg.ensures (with_rule known trace) (flag_rule (codes "progress")) traces c.flag.ensures.rule c.flag.ensures.local
