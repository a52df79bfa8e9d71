use Rattle.std.proofs.Common.{◌≡◌, ap, ◌∙◌, is_some, bytes_eq}
use Rattle.network.specs.Words.{names_of, place_among}
use Rattle.network.proofs.PlaceLemmas.{is_some-place_by}
use Rattle.network_faults.proofs.NameLemmas.{number_of-place}
use Rattle.network_faults.proofs.names.Names.number.Goals as goal

pub returns : goal.returns
returns c =
    let names = names_of c.args.self.now.nodes.now in
    let place : c.copied.result ≡ place_among names c.args.name.now = c.copied.ensures ∙ c.get.ensures.value ∙ c.args.self.now.numbered c.args.name.now in
    record {
      place = place;
      known = ap is_some place ∙ is_some-place_by (bytes_eq c.args.name.now) names;
      value = number_of-place names c.args.name.now c.copied.result place;
    }
