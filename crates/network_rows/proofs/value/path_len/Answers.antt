use Rattle.std.proofs.Common.{◌≡◌, true, false, Some, is_some, length, ap, sym, ◌∙◌}
use Rattle.std.specs.List.{list_all}
use Rattle.toml.specs.Data.{as_str}
use Rattle.toml.specs.View.{view}
use Rattle.network_rows.proofs.Items.{length-all_as}
use Rattle.network_rows.proofs.value.path_len.Goals as goal

pub returns-in-Some : goal.returns-in-Some
returns-in-Some c =
    let each : list_all (λ v. is_some (as_str (view v))) c.in-Some.texts.now.items ≡ true = rw (← c.as_slice.ensures.value) (sym c.are_texts.ensures ∙ c.if-are_texts.true) in
    rw (← c.in-Some.ensures, length-all_as as_str c.in-Some.texts.now.items, each) (ap Some (c.len.ensures ∙ sym c.as_slice.ensures.len ∙ ap length c.as_slice.ensures.value))

pub returns-in_default : goal.returns-in_default
returns-in_default c =
    let some_not : list_all (λ v. is_some (as_str (view v))) c.in-Some.texts.now.items ≡ false = rw (← c.as_slice.ensures.value) (sym c.are_texts.ensures ∙ c.if-are_texts.false) in
    rw (← c.in-Some.ensures, length-all_as as_str c.in-Some.texts.now.items, some_not)
