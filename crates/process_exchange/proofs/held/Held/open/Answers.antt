use Rattle.std.proofs.Common.{None, refl, sym, ◌∙◌, subst}
use Rattle.virtual_time.specs.Law.{opened}
use Rattle.reverse.specs.Rules.{rules_of}
use Rattle.process_queues.specs.Queues.{StandsFor}
use Rattle.process_exchange.proofs.Opened.{holds-opened}
use Rattle.process_exchange.proofs.held.Held.open.Goals as goal

pub invariant_of-result : goal.invariant_of-result
invariant_of-result g c =
    let r = rules_of g.R.Reversible.plain in
    let q = c.in-Ok.process.queues in
    let stands = subst (λ s. StandsFor r g.R.Reversible.is_value s (opened s) q) c.requires.actor c.in-Ok.ensures.stands in (
      holds-opened c.requires.layout (c.actor_law.ensures g.J.ActorRun.setting c.requires.layout) g.R.Reversible.is_value c.args.number c.requires.within
          q stands c.in-Ok.ensures.left c.new-in-Ok.result c.new-in-Ok.ensures _ refl _ c.default.ensures c.default-in-Ok.result,
      record { name = c.requires.name; value = c.requires.blank ∙ (λ i. record { last = None; seen = sym c.default.ensures i }) },
    )
