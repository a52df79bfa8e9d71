use Rattle.std.proofs.Common.{◌≡◌, List, Some, Result, Ok, Err, IfOk, refl, subst}
use Rattle.std.specs.List.{AllByRecursion}
use Rattle.toml.proofs.Views.{view-Array}
use Rattle.toml.specs.Data.{Items, array, as_array}
use Rattle.toml.specs.View.{view, items_view}
use Rattle.toml.specs.declared.value.Value.{Value}
use Rattle.network_rows.specs.declared.key.Section.{Section}
use Rattle.network_rows.specs.Values.{list_of}
use Rattle.network_rows.specs.Sound.{IsSoundRow, IsSoundList}
use Rattle.network_rows.specs.Rows.{MeansRow}
use Rattle.network_rows.proofs.Items.{All-list_of, AllZip-list_of}
use Rattle.network_rows.proofs.read_row.rows_of_list.Goals as goal

some_items : (a b : Items) → as_array (array a) ≡ Some b → b ≡ a
some_items a b e = cc

sound_items : (section : Section) (vs : List Value) → IsSoundList section (Some (array (items_view vs))) → AllByRecursion (IsSoundRow section) (list_of (items_view vs))
sound_items section vs sound = subst (λ items. AllByRecursion (IsSoundRow section) (list_of items)) (some_items (items_view vs) sound.0 sound.1) sound.2

pub rows_of_values-requires : goal.rows_of_values-requires
rows_of_values-requires g c =
    let sound : IsSoundList g.R.ReadRow.section (Some (view c.args.value)) = c.requires in
    All-list_of (IsSoundRow g.R.ReadRow.section) c.in-Array.rows.items
    (sound_items g.R.ReadRow.section c.in-Array.rows.items (rw (c.in-Array.is, view-Array c.in-Array.rows) at sound))

if_ok : {A E : Type 0} (P Q : A → Type 0) (r : Result A E) → ((a : A) → P a → Q a) → IfOk r P → IfOk r Q
if_ok P Q (Ok a) of h = of a h
if_ok P Q (Err e) of h = h

pub returns : goal.returns
returns g c =
    let vs = c.in-Array.rows.items in
    let R = MeansRow g.R.ReadRow.means in
    rw (c.in-Array.is, view-Array c.in-Array.rows)
    (if_ok _ _ c.rows_of_values.result (λ rows each. (items_view vs, refl, AllZip-list_of R vs _ each)) c.rows_of_values.ensures)
