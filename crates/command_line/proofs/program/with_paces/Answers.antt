use Rattle.std.proofs.Common.{codes}
use Rattle.clap.specs.Words.{with_rule}
use Rattle.vlink.specs.declared.time.TheConstants.{LATEST_NS}
use Rattle.command_line.specs.Program.{number_rule}
use Rattle.command_line.proofs.program.with_paces.Goals as goal

pub returns : goal.returns
returns c = λ known before.
    let workers = number_rule (codes "workers") 64 in
    let groups = number_rule (codes "groups") 64 in
    let turn = number_rule (codes "turn") 256 in
    let one = c.with_arg-workers.ensures known workers before c.workers.ensures.rule c.workers.ensures.local in
    let two = c.with_arg-groupings.ensures (with_rule known workers) groups one c.groups.ensures.rule c.groups.ensures.local in
    let three = c.with_arg-turns.ensures (with_rule (with_rule known workers) groups) turn two c.turn.ensures.rule c.turn.ensures.local in
    c.with_arg.ensures (with_rule (with_rule (with_rule known workers) groups) turn) (number_rule (codes "window") LATEST_NS) three c.window.ensures.rule c.window.ensures.local
