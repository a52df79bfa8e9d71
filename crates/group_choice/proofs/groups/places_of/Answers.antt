use Rattle.std.proofs.Common.{◌≡◌, ◌≢◌, ◌<◌, ◌+◌, All, length, rules, sym, subst, arith, take_all}
use Rattle.std.proofs.lemmas.List.Elements.{All-more, All-push}
use Rattle.group_choice.proofs.Used.{AreElsewhere, front, last}
use Rattle.group_choice.proofs.groups.places_of.Goals as goal

pub loop-node-preserved : goal.loop-node-preserved
loop-node-preserved c =
    let n = c.loop-node.node in
    let items = c.loop-node.places.items in
    let owners = c.args.owners.now in
    let x = c.process_number.result in
    let pushed = c.in_ok-push.ensures.items in
    let long : length c.push.new.self.items ≡ n + 1 = search rules in (
      long,
      subst (All (λ group. group < c.args.groups)) (sym pushed) (All-push (λ group. group < c.args.groups) items x c.loop-node.invariant.1 (omega arith)),
      λ g less all.
          let on = subst (AreElsewhere g) pushed all in
          All-more (λ owner. owner ≢ g) owners n 0 (omega arith) (c.loop-node.invariant.2 g less (front items x g on))
          (λ e. last items x g on (omega arith)),
    )

pub loop-line-init : goal.loop-line-init
loop-line-init c =
    let items = c.loop-node.places.items in
    let long : length items ≡ length c.args.network.now.nodes + 0 = omega arith in
    let owners = c.args.owners.now in (
      long,
      c.loop-node.invariant.1,
      λ g less all.
          c.requires.used g less (subst (AreElsewhere g) (take_all c.loop-node.node owners (omega arith)) (c.loop-node.invariant.2 g less all)),
    )

pub loop-line-preserved : goal.loop-line-preserved
loop-line-preserved c =
    let items = c.loop-line.places.items in
    let x = c.process_number-in-loop-line.result in
    let pushed = c.in_ok-push-2.ensures.items in
    let long : length c.push-in-loop-line.new.self.items ≡ length c.args.network.now.nodes + (c.loop-line.line + 1) = search rules in (
      long,
      subst (All (λ group. group < c.args.groups)) (sym pushed) (All-push (λ group. group < c.args.groups) items x c.loop-line.invariant.1 (omega arith)),
      λ g less all. c.loop-line.invariant.2 g less (front items x g (subst (AreElsewhere g) pushed all)),
    )
