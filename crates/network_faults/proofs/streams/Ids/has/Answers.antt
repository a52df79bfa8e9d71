use Rattle.std.proofs.Common.{◌==◌, ap, ◌∙◌}
use Rattle.std.specs.List.{list_any}
use Rattle.network_rows.specs.declared.rows.VlRow.{VlRow}
use Rattle.network_faults.proofs.streams.Ids.has.Goals as goal

pub returns : goal.returns
returns c = c.contains.ensures ∙ c.args.self.now.numbered c.from-number.result ∙ ap (λ n. list_any (λ (vl : VlRow). vl.link.id.0 == n) c.args.self.now.vls.now) c.from-number.ensures
