use Rattle.std.proofs.Common.{◌≡◌, true, Some, is_some, length, ◌++◌, ◌∷◌, [], sym, subst, ◌∙◌}
use Rattle.std.specs.List.{AllZip}
use Rattle.std.proofs.lemmas.Slice.Zip.{all_zipped_more}
use Rattle.std.proofs.lemmas.Iterator.Adapters.{YieldsList-from_vec}
use Rattle.std.proofs.lemmas.Iterator.Consumers.{YieldsList-turn}
use Rattle.toml.specs.Data.{as_str}
use Rattle.toml.specs.View.{view}
use Rattle.network_rows.specs.Values.{as_list}
use Rattle.network_rows.proofs.paths.paths_of_values.Goals as goal

pub path_of_value-requires : goal.path_of_value-requires
path_of_value-requires c =
    let given = c.into_iter-value-iterator.ensures.into_iter_gives in
    let road = YieldsList-from_vec {s = c.into_iter-value-iterator.result} c.args.values.items given.0 (given.1 ∙ c.args.values.ok.0) in
    let yields =
    YieldsList-turn road c.loop-value.yielded c.loop-value.value-iterator c.loop-value.yielded_by c.next.result c.next.new.self c.in-Some.value c.in-Some.is c.next.ensures.steps in
    subst (λ v. is_some (as_list as_str (view v)) ≡ true) (sym yields.1) (c.requires (length c.loop-value.yielded) c.in-Some.value yields.0)

pub loop-value-preserved : goal.loop-value-preserved
loop-value-preserved c =
    subst (AllZip (λ v path. as_list as_str (view v) ≡ Some path) (c.loop-value.yielded ++ c.in-Some.value ∷ [])) (sym c.in_ok-push.ensures.items)
    (all_zipped_more (λ v path. as_list as_str (view v) ≡ Some path) c.loop-value.yielded c.loop-value.paths.items c.in-Some.value c.in_ok-path.path c.loop-value.invariant c.in_ok-path.ensures)
