use Rattle.std.proofs.Common.{not, String, Global, string_bytes, rules, tests, ◌∙◌, sym}
use Rattle.std.specs.BTreeMap.{keys}
use Rattle.std.proofs.lemmas.Iterator.Search.{any_from_yields_List}
use Rattle.std.proofs.lemmas.Iterator.Consumers.{YieldsList-from_rest}
use Rattle.toml.specs.View.{table_view}
use Rattle.network_rows.specs.Rows.{is_known}
use Rattle.network_rows.proofs.Names.{list_any-names_in}
use Rattle.network_rows.proofs.unknown.has_unknown_key.Goals as goal

pub returns : goal.returns
returns c =
    let row = table_view c.args.row.now in
    any_from_yields_List (λ (key : String Global). not (is_known c.args.section row (string_bytes key))) _ _ _ c.any.ensures.ran
    (YieldsList-from_rest (keys c.args.row.now) c.keys.ensures.rest) (λ x b q k. search (rules, tests))
    ∙ sym (list_any-names_in (λ name. not (is_known c.args.section row name)) c.args.row.now.entries)
