use Rattle.std.proofs.Common.{[], ◌<◌, length, arith}
use Rattle.std.proofs.lemmas.Result.{err_from_is_err_and}
use Rattle.std.specs.List.{list_any}
use Rattle.network_rows.specs.declared.fault.DescFault.TheVariants.{UnknownName}
use Rattle.network.specs.Words.{names_of, is_unknown}
use Rattle.network.proofs.EachLemmas.{Tells-any}
use Rattle.network_faults.proofs.packing.pack_paths.Goals as goal

pub returns-in_err-pack_path : goal.returns-in_err-pack_path
returns-in_err-pack_path c =
    let paths = c.args.paths.now in
    let unknown = list_any (is_unknown (names_of c.args.names.now.nodes.now)) in
    let lt : c.loop-k.k < length paths = omega arith in
    let p = err_from_is_err_and c.from_residual-in_err-pack_path.result c.from_residual-in_err-pack_path.ensures.1 in
    rw (p.1, p.2) (Tells-any unknown paths c.loop-k.k [] _ (UnknownName c.args.place) lt
    (rw c.path.ensures at c.in_err-pack_path.ensures))
