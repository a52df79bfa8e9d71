use Rattle.std.proofs.Common.{◌≡◌, ◌||◌, true, false, map, ap, sym, ◌∙◌, refl, inr, Some}
use Rattle.vlink.specs.declared.frame.Net.TheVariants.{A, B}
use Rattle.network_rows.specs.declared.fault.DescFault.TheVariants.{NotALink}
use Rattle.network.specs.Words.{node_plan, leads, is_no_link}
use Rattle.network.proofs.EachLemmas.{list_any-push}
use Rattle.network_faults.proofs.no_link.LinksReview.review.Goals as goal

pub returns-then-is_no_link : goal.returns-then-is_no_link
returns-then-is_no_link c = λ earlier at kept.
    let nodes = map node_plan c.args.self.now.nodes.now in
    let bad : is_no_link nodes earlier c.args.link.now ≡ true = sym (c.is_no_link.ensures earlier kept.0 kept.1) ∙ c.if-is_no_link.true in
    inr (rw bad (ap (λ p. Some (NotALink p)) (rw at (sym c.key_at.ensures))))

pub returns : goal.returns
returns c = λ earlier at kept.
    let nodes = map node_plan c.args.self.now.nodes.now in
    let link = c.args.link.now in
    let good : is_no_link nodes earlier link ≡ false = sym (c.is_no_link.ensures earlier kept.0 kept.1) ∙ c.if-is_no_link.false in (
      rw good refl,
      (
        λ n. c.in_ok-attach.ensures n ∙ ap (λ b. b || leads nodes A n link) (kept.0 n) ∙ sym (list_any-push (leads nodes A n) earlier link),
        λ n. c.in_ok-attach-2.ensures n ∙ ap (λ b. b || leads nodes B n link) (kept.1 n) ∙ sym (list_any-push (leads nodes B n) earlier link),
      ),
    )
