use Rattle.std.proofs.Common.{refl, arith, rules}
use Rattle.std.proofs.lemmas.Grind.{common_steps}
use Rattle.toml.specs.Data.{as_str}
use Rattle.toml.specs.View.{table_view}
use Rattle.network_rows.specs.declared.key.Key.TheVariants as key
use Rattle.network_rows.specs.Table as keys
use Rattle.network_rows.specs.Rows.{IsTextAt}
use Rattle.network_rows.proofs.Standing.{is_at, is_read}
use Rattle.network_rows.proofs.make_row.link_of.Goals as goal

pub name_of-requires-2 : goal.name_of-requires-2
name_of-requires-2 c =
    let row = table_view c.args.row in
    rw (c.take_value-2.ensures.value, c.take_value.ensures.others key.B refl) (is_read as_str keys.link_b row refl (λ d. refl) (assumption c.requires))

pub returns : goal.returns
returns c =
    let row = table_view c.args.row in
    let first : IsTextAt keys.link_a row c.name_of.result = is_at as_str keys.link_a row c.name_of.result (assumption c.requires) (rw c.take_value.ensures.value at c.name_of.ensures) in
    let second : IsTextAt keys.link_b row c.name_of-2.result =
    is_at as_str keys.link_b row c.name_of-2.result (assumption c.requires) (rw (c.take_value-2.ensures.value, c.take_value.ensures.others key.B refl) at c.name_of-2.ensures) in
    first_of (search rules, grind (arith, common_steps))
