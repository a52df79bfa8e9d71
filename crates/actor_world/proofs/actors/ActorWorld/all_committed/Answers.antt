use Rattle.std.proofs.Common.{◌≡◌, ◌⊎◌, inl, inr, map, get_or, sym, ap, ◌∙◌, subst, refl, arith, is_some}
use Rattle.std.proofs.lemmas.Bool.{cases_eq}
use Rattle.std.proofs.lemmas.List.{get_or_default}
use Rattle.vlink.specs.declared.message.Message.{Message}
use Rattle.virtual_time.specs.Law.{start, run}
use Rattle.reverse.specs.Rules.{rules_of}
use Rattle.reverse.specs.Setting.{simulation_of}
use Rattle.process_queues.specs.Queues.{InHand}
use Rattle.actor_world.specs.Worlds.{Holdings}
use Rattle.actor_world.proofs.Reading.{some-first, no-first, HasNoneDone, all-none, none-at}
use Rattle.actor_world.proofs.actors.ActorWorld.all_committed.Goals as goal

pub returns-then-is_some : goal.returns-then-is_some
returns-then-is_some g c = λ x laid steps h.
    let f = simulation_of (rules_of g.R.Reversible.plain) x in
    let w = run f steps (start f) in
    let queues = λ (u : InHand g.row.R.Denot g.row.R-Record.Denot). u.queues in
    let same = ap (map queues) c.deref-process-items.ensures.value ∙ ap (λ (o : Holdings g.row.R.Denot g.row.R-Record.Denot). o.processes) c.self.view_is in (
      λ e. absurd cc,
      λ n. absurd (none-at f g.R.Reversible.is_value w c.args.self.now h c.deref-process-items.result.now same n
          c.loop-process.process-index c.process-item.result c.loop-process-test.true c.process-item.is
          (λ opening part s. some-first (λ (m : Message). m.time) part.done (c.if-is_some.ensures ∙ ap (λ o. is_some o) (c.oldest.ensures opening part s)))),
    )

pub loop-process-preserved : goal.loop-process-preserved
loop-process-preserved g c k d i = go (cases_eq k c.loop-process.process-index)
  where
    go : (k ≡ c.loop-process.process-index) ⊎ (k ≡ c.loop-process.process-index → ⊥) →
        HasNoneDone (rules_of g.R.Reversible.plain) g.R.Reversible.is_value (get_or c.deref-process-items.result.now k d).queues
    go (inl e) =
        let v = c.process-item.result in
        let none : HasNoneDone (rules_of g.R.Reversible.plain) g.R.Reversible.is_value v.queues =
        λ opening part s. no-first (λ (m : Message). m.time) part.done (c.if-is_some.ensures ∙ ap (λ o. is_some o) (c.oldest.ensures opening part s)) in
        let same : get_or c.deref-process-items.result.now k d ≡ v =
        ap (λ n. get_or c.deref-process-items.result.now n d) e ∙ (get_or_default c.deref-process-items.result.now c.loop-process.process-index d v c.loop-process-test.true ∙ sym c.process-item.is) in
        subst (λ (u : InHand g.row.R.Denot g.row.R-Record.Denot). HasNoneDone (rules_of g.R.Reversible.plain) g.R.Reversible.is_value u.queues) (sym same) none
    go (inr n) = c.loop-process.invariant k d (omega arith)

pub returns : goal.returns
returns g c = λ x laid steps h.
    let f = simulation_of (rules_of g.R.Reversible.plain) x in
    let w = run f steps (start f) in
    let queues = λ (u : InHand g.row.R.Denot g.row.R-Record.Denot). u.queues in
    let same = ap (map queues) c.deref-process-items.ensures.value ∙ ap (λ (o : Holdings g.row.R.Denot g.row.R-Record.Denot). o.processes) c.self.view_is in (
      λ e p i. all-none f g.R.Reversible.is_value w c.args.self.now h c.deref-process-items.result.now same
          (λ k d j. c.loop-process.invariant k d (let a = c.loop-process-test.false in omega arith)) p i,
      λ n. refl,
    )
