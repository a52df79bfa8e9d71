use Rattle.std.proofs.Common.{rules, ◌≤◌, ◌+◌, ◌++◌, inl, inr, min, All, refl, sym, ap, ◌∙◌, subst, arith}
use Rattle.vlink.specs.declared.message.Message.{Message}
use Rattle.group_queues.specs.DoneEvents.{messages_of}
use Rattle.group_exchange.proofs.Going.{goes-ends, goes-seen, idle-late, works-less, works-some}
use Rattle.group_exchange.proofs.Timely.{runs-did, timely-weaker}
use Rattle.group_exchange.proofs.working.work.Given.{Over}
use Rattle.group_exchange.proofs.working.work.Goals.{After-run_turn}
use Rattle.group_exchange.proofs.working.work.Goals as goal

-- the group handled what is earlier than the GVT that it saw and the window
soon : (g : Over) (c : After-run_turn g) → c.of-reach.result.ahead ≤ c.args.group.now.seen + c.args.window
soon g c = let a = c.of-reach.ensures.ahead ∙ ap (λ z. min (z.seen + c.args.window) c.group.inside.end) c.group.view_is in omega arith

pub returns-in_err-count-clause-some : goal.returns-in_err-count-clause-some
returns-in_err-count-clause-some g c =
    works-less _ _ _ _ _ _ (soon g (goal.at.returns-in_err-count-clause-some g c).After-run_turn) c.run_turn.ensures.goes c.from_residual.result (search rules) (search rules)

pub returns-in_err-commit_below-clause-some : goal.returns-in_err-commit_below-clause-some
returns-in_err-commit_below-clause-some g c =
    works-some _ _ _ _ _ _ _ (soon g (goal.at.returns-in_err-commit_below-clause-some g c).After-run_turn) c.run_turn.ensures.goes c.commit_below.ensures.ends
    c.from_residual-in_err-commit_below.result (search rules)

pub returns-clause-ok : goal.returns-clause-ok
returns-clause-ok g c =
    let goes = c.run_turn.ensures.goes in
    let ends = c.commit_below.ensures.ends in
    let seen = ap (λ z. z.seen) c.group.view_is in
    let asked = c.args.group.now.seen + c.args.window in
    record {
      did = goes.did ++ ends.did;
      went = goes-ends _ _ _ _ _ _ goes ends;
      worked = goes.did;
      ended = ends.did;
      parts = refl;
      no_commit = goes.no_commit;
      commits = ends.commits;
      counted = runs-did _ _ goes.did _ goes.went.words c.in_ok-count.ensures.counted;
      timely = timely-weaker _ _ c.of-reach.result.ahead asked (soon g (goal.at.returns-clause-ok g c).After-run_turn) _ _ goes.timely;
      within = c.in_ok-count.ensures.within;
      idle = elim c.in_ok-count.ensures.idle [
        | inl all ↦ inl all
        | inr late ↦ inr (idle-late asked c.of-reach.result.ahead c.group.inside.end g.J.GroupRun.setting.until c.run_turn.new.self.held.flow.queue c.commit_below.new.self.held.flow.queue
            (c.of-reach.ensures.ahead ∙ ap (λ s. min (s + c.args.window) c.group.inside.end) seen) c.group.invariant.4 c.commit_below.ensures.queue late c.commit_below.ensures.in_time)
      ];
      arrived = c.commit_below.ensures.tray ∙ c.in_ok-count.ensures.arrived;
      committed_below = subst (λ t. All (λ (m : Message). t ≤ m.time) (messages_of c.commit_below.new.self.held.done)) (goes-seen _ _ _ _ _ c.run_turn.ensures.goes) c.in_ok-commit_below.ensures.below;
    }

pub commit_below-requires-clause-seen : goal.commit_below-requires-clause-seen
commit_below-requires-clause-seen g c = c.of-reach.ensures.good ∙ (ap (λ z. z.seen) c.group.view_is ∙ sym (goes-seen _ _ _ _ _ c.run_turn.ensures.goes))
