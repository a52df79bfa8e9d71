use Rattle.std.proofs.Common.{◌≡◌, ◌<◌, true, false, length, take, get_or, arith, ap, sym, refl, inr, Some}
use Rattle.network_rows.specs.declared.fault.DescFault.TheVariants.{DoubleName}
use Rattle.network.specs.Words.{joins, is_linked, double_at_link}
use Rattle.network.proofs.EachLemmas.{Tells-each, each-none, length-before}
use Rattle.network.proofs.PlaceLemmas.{place_by-before}
use Rattle.network_faults.proofs.JoinLemmas.{joins-own, no_link}
use Rattle.network_faults.proofs.double.check_links.Goals as goal

pub returns-then-place-i : goal.returns-then-place-i
returns-then-place-i c =
    let links = c.args.joined.now.links.now in
    let i = c.loop-i.i in
    let link = get_or links i no_link in
    let lt : i < length links = omega arith in
    let at = length-before links i lt in
    let early = place_by-before (joins link.a link.b) links i no_link c.place.result lt (joins-own link) c.place.ensures.place in
    let there : is_linked (take i links) link.a link.b ≡ true = early.0 (omega (arith, c.unwrap_or-place.ensures)) in
    Tells-each double_at_link links i no_link _ lt c.loop-i.invariant
    (inr (rw there (ap (λ p. Some (DoubleName p)) (rw at (sym c.key_at.ensures)))))

pub loop-i-preserved : goal.loop-i-preserved
loop-i-preserved c =
    let links = c.args.joined.now.links.now in
    let i = c.loop-i.i in
    let link = get_or links i no_link in
    let lt : i < length links = omega arith in
    let early = place_by-before (joins link.a link.b) links i no_link c.place.result lt (joins-own link) c.place.ensures.place in
    let absent : is_linked (take i links) link.a link.b ≡ false = early.1 (omega (arith, c.unwrap_or-place.ensures)) in
    each-none double_at_link links i no_link lt c.loop-i.invariant (rw absent refl)
