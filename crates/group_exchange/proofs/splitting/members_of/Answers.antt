use Rattle.std.proofs.Common.{◌≡◌, ◌<◌, inl, inr, refl, sym, ap, ◌∙◌, arith, length, Some, slice_get, length-set}
use Rattle.std.proofs.lemmas.Bool.{cases_eq, cases_lt}
use Rattle.journal.proofs.Refused.{err-if-ok}
use Rattle.group_exchange.specs.Views.{is_of}
use Rattle.group_exchange.proofs.Parting.{pushed-before, pushed-last, slot-other, slot-same, slot-at, of-at}
use Rattle.group_exchange.proofs.splitting.members_of.Goals as goal

pub loop-process-preserved : goal.loop-process-preserved
loop-process-preserved g c =
    let inv = c.loop-process.invariant in
    let k = c.loop-process.process in
    let members = c.loop-process.members.items in
    let slots = c.loop-process.slots.items in
    let owners = c.args.owners.now in
    let within : k < length owners = omega arith in
    let there : k < length slots = omega (arith, inv.slots, c.requires) in
    let old = c.index_mut.result.now in
    let new = c.take_where-member.new.slot in
    let len : k ≡ length members = omega (arith, inv.count, c.loop-process.members.ok.0) in
    record {
      count = omega (arith, inv.count, c.push_reserved.ensures.len);
      room = omega (arith, inv.room, c.push_reserved.ensures.capacity);
      slots = length-set slots k new ∙ inv.slots;
      ours = λ p below o. elim (cases_lt p k) [
        | inl h ↦ ap (λ xs. slice_get xs p) c.push_reserved.ensures.items ∙ (pushed-before members _ p (omega arith) ∙ inv.ours p h o)
        | inr h ↦ (
            let e : p ≡ k = omega arith in
            let wanted = sym (of-at owners c.args.group k within) ∙ (ap (is_of owners c.args.group) (sym e) ∙ o) in
            ap (λ xs. slice_get xs p) c.push_reserved.ensures.items ∙ (pushed-last members c.take_where-member.result p (omega arith) ∙
            (ap (λ z. Some z) (c.take_where-member.ensures.taken wanted) ∙ (sym (slot-at slots k old there c.index_mut.ensures.value) ∙
            (inv.rest k (omega arith) ∙ ap (slice_get c.args.slots.now.items) (sym e))))))
      ];
      others = λ p below o. elim (cases_lt p k) [
        | inl h ↦ ap (λ xs. slice_get xs p) c.push_reserved.ensures.items ∙ (pushed-before members _ p (omega arith) ∙ inv.others p h o)
        | inr h ↦ (
            let e : p ≡ k = omega arith in
            let wanted = sym (of-at owners c.args.group k within) ∙ (ap (is_of owners c.args.group) (sym e) ∙ o) in
            ap (λ xs. slice_get xs p) c.push_reserved.ensures.items ∙ (pushed-last members c.take_where-member.result p (omega arith) ∙
            ap (λ z. Some z) (c.take_where-member.ensures.none wanted)))
      ];
      rest = λ p h. slot-other slots k p new (λ e. absurd (omega arith)) ∙ inv.rest p (omega arith);
      left = λ p o. elim (cases_eq p k) [
        | inl e ↦ (
            let wanted = sym (of-at owners c.args.group k within) ∙ (ap (is_of owners c.args.group) (sym e) ∙ o) in
            slot-same slots k p new old c.index_mut.ensures.value (c.take_where-member.ensures.stays wanted) ∙ inv.left p o)
        | inr n ↦ slot-other slots k p new n ∙ inv.left p o
      ];
    }

pub returns-in_err-members-clause-count : goal.returns-in_err-members-clause-count
returns-in_err-members-clause-count g c = err-if-ok _ _ c.from_residual.result c.from_residual.ensures.1

pub returns-in_err-members-clause-ours : goal.returns-in_err-members-clause-ours
returns-in_err-members-clause-ours g c = err-if-ok _ _ c.from_residual.result c.from_residual.ensures.1

pub returns-in_err-members-clause-others : goal.returns-in_err-members-clause-others
returns-in_err-members-clause-others g c = err-if-ok _ _ c.from_residual.result c.from_residual.ensures.1

pub returns-in_err-members-clause-left : goal.returns-in_err-members-clause-left
returns-in_err-members-clause-left g c = λ p n. refl

pub returns-in_err-members-clause-slots : goal.returns-in_err-members-clause-slots
returns-in_err-members-clause-slots g c = refl

pub loop-process-init : goal.loop-process-init
loop-process-init g c = record {
  count = c.in_ok-members.ensures.len;
  room = omega (arith, c.in_ok-members.ensures.capacity);
  slots = refl;
  ours = λ p h o. absurd (omega (arith, h));
  others = λ p h o. absurd (omega (arith, h));
  rest = λ p h. refl;
  left = λ p o. refl;
}

pub returns-clause-ours : goal.returns-clause-ours
returns-clause-ours g c = λ p h o. c.loop-process.invariant.ours p (omega (arith, h, c.loop-process-test.false)) o

pub returns-clause-others : goal.returns-clause-others
returns-clause-others g c = λ p h o. c.loop-process.invariant.others p (omega (arith, h, c.loop-process-test.false)) o

pub returns-clause-left : goal.returns-clause-left
returns-clause-left g c = c.loop-process.invariant.left

pub returns-clause-slots : goal.returns-clause-slots
returns-clause-slots g c = c.loop-process.invariant.slots
