use Rattle.std.proofs.Common.{◌≡◌, ap, ◌∙◌, is_some}
use Rattle.network.specs.Words.{joins, link_between}
use Rattle.network.proofs.PlaceLemmas.{is_some-place_by}
use Rattle.network_faults.proofs.links.Joined.place.Goals as goal

pub returns : goal.returns
returns c =
    let links = c.args.self.now.links.now in
    let place : c.copied.result ≡ link_between links c.args.x c.args.y = c.copied.ensures ∙ c.get.ensures.value ∙ c.args.self.now.placed c.args.x c.args.y in
    record { place = place; linked = ap is_some place ∙ is_some-place_by (joins c.args.x c.args.y) links }
