use Rattle.std.proofs.Common.{option_map, ap, ◌∙◌}
use Rattle.toml.specs.Data.{get_member}
use Rattle.toml.specs.View.{view, members_view}
use Rattle.toml.proofs.Views.{view-lookup}
use Rattle.network_rows.proofs.Removed.{get_member-removed}
use Rattle.network_rows.proofs.take.take.Goals as goal

pub returns-clause-value : goal.returns-clause-value
returns-clause-value c = ap (option_map view) c.remove.ensures.value ∙ view-lookup c.args.name.now c.args.table.now.entries

pub returns-clause-others : goal.returns-clause-others
returns-clause-others c = λ other apart.
    ap (λ es. get_member other (members_view es)) c.remove.ensures.entries ∙ get_member-removed c.args.name.now other c.args.table.now.entries apart
