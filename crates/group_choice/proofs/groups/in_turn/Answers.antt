use Rattle.std.proofs.Common.{◌≡◌, ◌≢◌, ◌<◌, ◌+◌, ◌%◌, All, length, rules, sym, subst, arith}
use Rattle.std.proofs.lemmas.List.Elements.{All-push}
use Rattle.std.proofs.lemmas.Nat.{mod_below}
use Rattle.group_choice.proofs.Used.{one-more, small-mod}
use Rattle.group_choice.proofs.groups.in_turn.Goals as goal

pub loop-process-preserved : goal.loop-process-preserved
loop-process-preserved c =
    let n = c.loop-process.process in
    let items = c.loop-process.places.items in
    let pushed = c.in_ok-push.ensures.items in
    let long : length c.push.new.self.items ≡ n + 1 = search rules in (
      long,
      subst (All (λ group. group < c.args.groups)) (sym pushed)
          (All-push (λ group. group < c.args.groups) items (n % c.args.groups) c.loop-process.invariant.1 (mod_below n c.args.groups (omega arith))),
      λ g less early all. one-more c.args.groups n (n % c.args.groups) items (small-mod n c.args.groups) c.loop-process.invariant.2 g less early
          (subst (λ owners. All (λ owner. owner ≢ g) owners) pushed all),
    )
