use Rattle.std.proofs.Common.{◌≡◌, ℕ, slice_get, sym, List, [], subst, OnOk}
use Rattle.trace_segments.specs.Words.{Adds}
use Rattle.network.specs.Words.{line_name, lines_of}
use Rattle.network_bounds.specs.Said.{line_named, none_line}
use Rattle.network_bounds.proofs.TextLemmas.{read-or}
use Rattle.network_bounds.proofs.text.push_no_room.Goals as goal

pub returns : goal.returns
returns c =
    let plan = c.args.network.now in
    let named : c.line_name.result.now ≡ line_named plan c.args.line = sym (read-or (line_name plan.nodes) (slice_get (lines_of plan) c.args.line) c.line_name.result.now [] c.line_name.ensures) in
    subst (λ (of : List ℕ). OnOk c.push_none.result (Adds c.args.out.now c.push_none.new.out (none_line of [] c.args.reason))) named c.push_none.ensures
