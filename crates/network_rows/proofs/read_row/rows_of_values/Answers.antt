use Rattle.std.proofs.Common.{length, ◌++◌, ◌∷◌, [], sym, subst, ◌∙◌}
use Rattle.std.specs.List.{AllZip}
use Rattle.std.proofs.lemmas.Slice.Zip.{all_zipped_more}
use Rattle.std.proofs.lemmas.Iterator.Adapters.{YieldsList-from_vec}
use Rattle.std.proofs.lemmas.Iterator.Consumers.{YieldsList-turn}
use Rattle.toml.specs.View.{view}
use Rattle.network_rows.specs.Sound.{IsSoundRow}
use Rattle.network_rows.specs.Rows.{MeansRow}
use Rattle.network_rows.proofs.read_row.rows_of_values.Goals as goal

pub row_of_value-requires : goal.row_of_value-requires
row_of_value-requires g c =
    let given = c.into_iter-value-iterator.ensures.into_iter_gives in
    let road = YieldsList-from_vec {s = c.into_iter-value-iterator.result} c.args.values.items given.0 (given.1 ∙ c.args.values.ok.0) in
    let yields =
    YieldsList-turn road c.loop-value.yielded c.loop-value.value-iterator c.loop-value.yielded_by c.next.result c.next.new.self c.in-Some.value c.in-Some.is c.next.ensures.steps in
    subst (λ v. IsSoundRow g.R.ReadRow.section (view v)) (sym yields.1) (c.requires (length c.loop-value.yielded) c.in-Some.value yields.0)

pub loop-value-preserved : goal.loop-value-preserved
loop-value-preserved g c =
    let means = MeansRow g.R.ReadRow.means in
    subst (AllZip (λ v row. means (view v) row) (c.loop-value.yielded ++ c.in-Some.value ∷ [])) (sym c.in_ok-push.ensures.items)
    (all_zipped_more (λ v row. means (view v) row) c.loop-value.yielded c.loop-value.rows.items c.in-Some.value c.in_ok-row.row c.loop-value.invariant c.in_ok-row.ensures)
