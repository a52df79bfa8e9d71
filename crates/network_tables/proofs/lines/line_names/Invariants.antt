use Rattle.std.proofs.Common.{◌≡◌, take, map, string_bytes}
use Rattle.network.specs.Words.{node_plan, line_name}
use Rattle.network_tables.proofs.lines.line_names.Given as goal

abbrev pub invariant-loop-line : goal.invariant-loop-line
invariant-loop-line l = map string_bytes l.names.items ≡ map (line_name (map node_plan l.nodes)) (take l.line-index l.lines)
