use Rattle.std.proofs.Common.{◌≡◌, ◌<◌, drop, get_or, length, slice_index, sym, ap, ◌∙◌, subst, arith}
use Rattle.std.proofs.lemmas.Iterator.Adapters.{YieldsList-from_vec}
use Rattle.std.proofs.lemmas.Iterator.Consumers.{YieldsList-turn, YieldsList-end}
use Rattle.std.proofs.lemmas.List.{length_push}
use Rattle.process_exchange.specs.Views.{opened_held}
use Rattle.halves.proofs.InLists.{some-left, first-name, names-left}
use Rattle.process_exchange.proofs.Marks.{first-blank, blanks-left}
use Rattle.journal.specs.declared.fault.PoolFault.TheVariants.{OutOfMemory}
use Rattle.process_exchange.proofs.Outcomes.{if-err}
use Rattle.journal.proofs.Refused.{err-if-ok}
use Rattle.process_exchange.proofs.Opened.{fits-few, actor-opens, as-many, helds-more}
use Rattle.process_exchange.proofs.opening.helds_of.Given.{Over}
use Rattle.process_exchange.proofs.opening.helds_of.Goals.{In-Some}
use Rattle.process_exchange.proofs.opening.helds_of.Goals as goal

-- the actor stands behind those before it, and there is a name for it
actor-at : (g : Over) (c : In-Some g) → (length c.loop-actor.yielded < length c.args.actors.items) × (c.in-Some.actor ≡ get_or c.args.actors.items (length c.loop-actor.yielded) c.in-Some.actor)
actor-at g c =
    let given = c.into_iter-actor-iterator.ensures.into_iter_gives in
    let road = YieldsList-from_vec {s = c.into_iter-actor-iterator.result} c.args.actors.items given.0 (given.1 ∙ c.args.actors.ok.0) in
    YieldsList-turn road c.loop-actor.yielded c.loop-actor.actor-iterator c.loop-actor.yielded_by c.next.result c.next.new.self c.in-Some.actor c.in-Some.is c.next.ensures.steps

within : (g : Over) (c : In-Some g) → length c.loop-actor.yielded < length g.J.ActorRun.names
within g c = omega (arith, (actor-at g c).0, c.requires.each_name, c.requires.count)

pub open-requires-clause-actor : goal.open-requires-clause-actor
open-requires-clause-actor g c =
    let x = g.J.ActorRun.setting in
    let number : length c.loop-actor.yielded ≡ c.process_number-number.result = sym (c.process_number-number.ensures ∙ c.len-in-loop-actor.ensures ∙ (c.loop-actor.helds.ok.0 ∙ c.loop-actor.invariant.count)) in
    actor-opens x.processes x.opening c.args.actors.items c.requires.count c.requires.each (length c.loop-actor.yielded) c.in-Some.actor (actor-at g (goal.at.open-requires-clause-actor g c).In-Some) ∙ ap x.opening number

pub process_number-number-requires : goal.process_number-number-requires
process_number-number-requires g c =
    fits-few _ _ _ _ _ _ c.len-in-loop-actor.ensures c.loop-actor.helds.ok.0 c.loop-actor.invariant.count (actor-at g (goal.at.process_number-number-requires g c).In-Some).0 c.requires.count c.requires.few

pub remove-mark-requires : goal.remove-mark-requires
remove-mark-requires g c =
    omega (arith, some-left g.J.ActorRun.names c.loop-actor.marks.items (length c.loop-actor.yielded) c.loop-actor.invariant.names (within g (goal.at.remove-mark-requires g c).In-Some), c.loop-actor.marks.ok.0)

pub open-requires-clause-name : goal.open-requires-clause-name
open-requires-clause-name g c =
    let number : length c.loop-actor.yielded ≡ c.process_number-number.result = sym (c.process_number-number.ensures ∙ c.len-in-loop-actor.ensures ∙ (c.loop-actor.helds.ok.0 ∙ c.loop-actor.invariant.count)) in
    first-name g.J.ActorRun.names c.loop-actor.marks.items (length c.loop-actor.yielded) c.loop-actor.invariant.names (within g (goal.at.open-requires-clause-name g c).In-Some) c.remove-mark.result c.remove-mark.ensures.value
    ∙ ap (slice_index g.J.ActorRun.names) number

pub open-requires-clause-blank : goal.open-requires-clause-blank
open-requires-clause-blank g c =
    first-blank g.J.ActorRun.names c.loop-actor.marks.items (length c.loop-actor.yielded) c.loop-actor.invariant.names (within g (goal.at.open-requires-clause-blank g c).In-Some)
    c.loop-actor.invariant.blanks c.remove-mark.result c.remove-mark.ensures.value

pub loop-actor-preserved : goal.loop-actor-preserved
loop-actor-preserved g c =
    let x = g.J.ActorRun.setting in
    let pushed = c.push_reserved.ensures.items in
    let number : c.process_number-number.result ≡ length c.loop-actor.yielded = c.process_number-number.ensures ∙ c.len-in-loop-actor.ensures ∙ (c.loop-actor.helds.ok.0 ∙ c.loop-actor.invariant.count) in
    let longer = length_push c.loop-actor.yielded c.in-Some.actor in
    record {
      can = tt;
      ends = tt;
      count = as-many c.loop-actor.helds.items c.push_reserved.new.self.items c.in_ok-held.held c.loop-actor.yielded c.in-Some.actor pushed c.loop-actor.invariant.count;
      room = omega (arith, c.loop-actor.invariant.room, c.push_reserved.ensures.capacity);
      names = names-left g.J.ActorRun.names c.loop-actor.marks.items (length c.loop-actor.yielded) c.loop-actor.invariant.names (within g (goal.at.loop-actor-preserved g c).In-Some)
          c.remove-mark.new.self.items c.remove-mark.ensures.items ∙ ap (λ n. drop n g.J.ActorRun.names) (sym longer);
      blanks = blanks-left c.loop-actor.marks.items c.loop-actor.invariant.blanks c.remove-mark.new.self.items c.remove-mark.ensures.items;
      each = λ p i.
          helds-more x.opening c.loop-actor.helds.items c.push_reserved.new.self.items (length c.loop-actor.yielded) c.in_ok-held.held c.loop-actor.invariant.count c.loop-actor.invariant.each
          (c.in_ok-held.ensures.opened ∙ ap (opened_held x.opening) number) pushed p (omega (arith, i, longer));
    }

pub returns-clause-count : goal.returns-clause-count
returns-clause-count g c =
    let given = c.into_iter-actor-iterator.ensures.into_iter_gives in
    let road = YieldsList-from_vec {s = c.into_iter-actor-iterator.result} c.args.actors.items given.0 (given.1 ∙ c.args.actors.ok.0) in
    let end = YieldsList-end road c.loop-actor.yielded c.loop-actor.actor-iterator c.loop-actor.yielded_by c.next.result c.next.new.self c.in-None.is c.next.ensures.steps in
    c.loop-actor.invariant.count ∙ (end.1 ∙ c.requires.count)

pub returns-clause-each : goal.returns-clause-each
returns-clause-each g c = λ p i. c.loop-actor.invariant.each p (subst (λ n. p < n) (sym (returns-clause-count g c) ∙ c.loop-actor.invariant.count) i)

pub open-requires-clause-layout : goal.open-requires-clause-layout
open-requires-clause-layout g c = c.requires.layout

pub returns-clause-memory : goal.returns-clause-memory
returns-clause-memory g c = tt

pub returns-in_err-helds-clause-count : goal.returns-in_err-helds-clause-count
returns-in_err-helds-clause-count g c = err-if-ok _ _ c.from_residual.result c.from_residual.ensures.1

pub returns-in_err-helds-clause-each : goal.returns-in_err-helds-clause-each
returns-in_err-helds-clause-each g c = err-if-ok _ _ c.from_residual.result c.from_residual.ensures.1

pub returns-in_err-held-clause-count : goal.returns-in_err-held-clause-count
returns-in_err-held-clause-count g c = err-if-ok _ _ c.from_residual-in_err-held.result c.from_residual-in_err-held.ensures.1

pub returns-in_err-held-clause-each : goal.returns-in_err-held-clause-each
returns-in_err-held-clause-each g c = err-if-ok _ _ c.from_residual-in_err-held.result c.from_residual-in_err-held.ensures.1

pub returns-in_err-held-clause-memory : goal.returns-in_err-held-clause-memory
returns-in_err-held-clause-memory g c = if-err (λ fault. fault ≡ OutOfMemory) _ c.from_residual-in_err-held.result c.from_residual-in_err-held.ensures.1 c.in_err-held.ensures.memory

pub open-requires-clause-within : goal.open-requires-clause-within
open-requires-clause-within g c =
    let number : c.process_number-number.result ≡ length c.loop-actor.yielded = c.process_number-number.ensures ∙ c.len-in-loop-actor.ensures ∙ (c.loop-actor.helds.ok.0 ∙ c.loop-actor.invariant.count) in
    omega (arith, number, (actor-at g (goal.at.open-requires-clause-within g c).In-Some).0, c.requires.count)
