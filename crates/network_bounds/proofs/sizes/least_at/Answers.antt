use Rattle.std.proofs.Common.{length, refl, sym, ltb-true}
use Rattle.std.proofs.lemmas.Option.{slice_get_read}
use Rattle.network_bounds.proofs.SizeLemmas.{least-there}
use Rattle.network_bounds.proofs.sizes.least_at.Goals as goal

pub returns-in-Some : goal.returns-in-Some
returns-in-Some c =
    let read = c.in-Some.ensures.lookup in
    let known = c.args.known.now in
    least-there c.args.network.now known c.args.vl c.args.link.now c.in-Some.found.now c.requires.known c.requires.link
    (slice_get_read known (length known) c.args.vl c.in-Some.found.now refl (ltb-true _ _ (sym read.0)) read.1)
