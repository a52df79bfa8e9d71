use Rattle.std.proofs.Common.{◌≡◌, ◌≢◌, ◌<◌, ◌+◌, All, length, refl, rules, sym, subst, arith}
use Rattle.std.proofs.lemmas.List.Elements.{All-push}
use Rattle.group_choice.proofs.Used.{one-more}
use Rattle.worker_pool.proofs.grouping.each_alone.Goals as goal

pub loop-process-preserved : goal.loop-process-preserved
loop-process-preserved c =
    let n = c.loop-process.process in
    let items = c.loop-process.owners.items in
    let pushed = c.in_ok-push.ensures.items in
    let long : length c.push.new.self.items ≡ n + 1 = search rules in (
      long,
      subst (All (λ group. group < c.args.processes)) (sym pushed) (All-push (λ group. group < c.args.processes) items n c.loop-process.invariant.1 (omega arith)),
      λ g less early all. one-more c.args.processes n n items (λ more. refl) c.loop-process.invariant.2 g less early
          (subst (λ owners. All (λ owner. owner ≢ g) owners) pushed all),
    )

pub returns-clause-used : goal.returns-clause-used
returns-clause-used c = λ g less. c.loop-process.invariant.2 g less (omega arith)
