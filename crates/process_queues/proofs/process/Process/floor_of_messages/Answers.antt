use Rattle.std.proofs.Common.{◌≡◌, ◌+◌, min, sym, ap, ◌∙◌, subst, IfSome}
use Rattle.reverse.specs.Rules.{rules_of}
use Rattle.process_queues.proofs.Reading.{floor-some, floor-none}
use Rattle.process_queues.proofs.process.Process.floor_of_messages.Goals as goal

pub returns-in-Some : goal.returns-in-Some
returns-in-Some g c opening part h =
    let r = rules_of g.R.Reversible.plain in
    let f = floor-some r c.actor_rules_law.ensures.order (g.R.Actor.end c.args.self.now.queues.past.state) part c.in-Some.message (sym (c.in-Some.ensures.stands opening part h)) in
    let e : c.earlier.result ≡ min c.in-Some.message.time c.unwrap-end.result = c.earlier.ensures in
    let u : c.unwrap-end.result ≡ g.R.Actor.end c.args.self.now.queues.past.state + 1 =
    subst (λ o. IfSome o (λ t. t ≡ c.ns.result + 1)) c.unwrap-end.ensures c.new.ensures.value ∙
    ap (λ n. n + 1) (c.ns.ensures.value ∙ (c.until.ensures.end ∙ ap g.R.Actor.end (c.actor.ensures ∙ ap (λ q. q.queues.past.state) c.self.view_is))) in
    e ∙ (ap (min c.in-Some.message.time) u ∙ f)

pub returns-in-None : goal.returns-in-None
returns-in-None g c opening part h =
    let r = rules_of g.R.Reversible.plain in
    let f = floor-none r c.actor_rules_law.ensures.order (g.R.Actor.end c.args.self.now.queues.past.state) part (sym (c.in-None.ensures.stands opening part h)) in
    let u : c.unwrap-end.result ≡ g.R.Actor.end c.args.self.now.queues.past.state + 1 =
    subst (λ o. IfSome o (λ t. t ≡ c.ns.result + 1)) c.unwrap-end.ensures c.new.ensures.value ∙
    ap (λ n. n + 1) (c.ns.ensures.value ∙ (c.until.ensures.end ∙ ap g.R.Actor.end (c.actor.ensures ∙ ap (λ q. q.queues.past.state) c.self.view_is))) in
    u ∙ f
