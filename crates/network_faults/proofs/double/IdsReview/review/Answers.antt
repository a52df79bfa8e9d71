use Rattle.std.proofs.Common.{◌≡◌, true, false, ◌==◌, ◌||◌, refl, ap, sym, ◌∙◌, inr, Some}
use Rattle.std.specs.List.{list_any}
use Rattle.network_rows.specs.declared.fault.DescFault.TheVariants.{DoubleName}
use Rattle.network.proofs.EachLemmas.{list_any-push}
use Rattle.network_faults.proofs.IdLemmas.{contains-put}
use Rattle.network_faults.proofs.double.IdsReview.review.Goals as goal

pub returns-then-contains : goal.returns-then-contains
returns-then-contains c = λ earlier at kept.
    let is : c.from-id.result ≡ c.args.vl.now.link.id.0 = c.from-id.ensures ∙ ap (λ l. l.id.0) c.link.ensures in
    let there : list_any (λ other. other.link.id.0 == c.args.vl.now.link.id.0) earlier ≡ true = rw (← is) (sym (kept c.from-id.result) ∙ (sym c.contains.ensures ∙ c.if-contains.true)) in
    inr (rw there (ap (λ p. Some (DoubleName p)) (rw at (sym c.key_at.ensures))))

pub returns : goal.returns
returns c = λ earlier at kept.
    let is : c.from-id.result ≡ c.args.vl.now.link.id.0 = c.from-id.ensures ∙ ap (λ l. l.id.0) c.link.ensures in
    let absent : list_any (λ other. other.link.id.0 == c.args.vl.now.link.id.0) earlier ≡ false = rw (← is) (sym (kept c.from-id.result) ∙ (sym c.contains.ensures ∙ c.if-contains.false)) in (
      rw absent refl,
      λ n. contains-put c.args.ids.now c.insert.new.self c.from-id.result c.in_ok-insert.ensures.updates n ∙ ap (λ b. b || (c.from-id.result == n)) (kept n) ∙ ap (λ m. list_any (λ vl. vl.link.id.0 == n) earlier || (m == n)) is
          ∙ sym (list_any-push (λ vl. vl.link.id.0 == n) earlier c.args.vl.now),
    )
