use Rattle.std.proofs.Common.{refl, arith, rules}
use Rattle.std.proofs.lemmas.Grind.{common_steps}
use Rattle.toml.specs.View.{table_view}
use Rattle.network_rows.specs.declared.key.Key.TheVariants as key
use Rattle.network_rows.specs.Table as keys
use Rattle.network_rows.specs.Values.{as_paths}
use Rattle.network_rows.specs.Rows.{ArePathsAt}
use Rattle.network_rows.proofs.Standing.{is_at, is_read}
use Rattle.network_rows.proofs.make_row.vl_of.Goals as goal

pub paths_of-requires-2 : goal.paths_of-requires-2
paths_of-requires-2 c =
    let row = table_view c.args.row in
    rw (c.take_value-2.ensures.value, c.take_value.ensures.others key.B refl) (is_read as_paths keys.paths_b row refl (λ d. refl) (assumption c.requires))

pub returns : goal.returns
returns c =
    let row = table_view c.args.row in
    let first : ArePathsAt keys.paths_a row c.in_ok-a.a = is_at as_paths keys.paths_a row c.in_ok-a.a (assumption c.requires) (rw c.take_value.ensures.value at c.in_ok-a.ensures) in
    let second : ArePathsAt keys.paths_b row c.in_ok-b.b =
    is_at as_paths keys.paths_b row c.in_ok-b.b (assumption c.requires) (rw (c.take_value-2.ensures.value, c.take_value.ensures.others key.B refl) at c.in_ok-b.ensures) in
    first_of (search rules, grind (arith, common_steps))
