use Rattle.std.proofs.Common.{◌≡◌, ◌+◌, ◌++◌, ◌∷◌, [], IfSome, length, map, subst, sym, ap, ◌∙◌, arith}
use Rattle.std.proofs.lemmas.List.{length-map, length-append, map-append}
use Rattle.group_queues.specs.Block.{steps_told}
use Rattle.group_queues.proofs.Steps.{long-few, steps-push}
use Rattle.group_queues.proofs.block.Words.push_reserved.Goals.{After-push_reserved, in-Some, in_default}
use Rattle.group_queues.proofs.block.Words.push_reserved.Goals as goal

pub overflow_add-self : goal.overflow_add-self
overflow_add-self c =
    let few = long-few (map (λ s. s.value) c.self.inside.told.items) (length c.self.inside.told.items) c.self.inside.long (length-map c.self.inside.told.items (λ s. s.value)) c.self.invariant.1 in
    let len = c.self.inside.told.ok.0 in
    let within = c.self.inside.told.ok.1 in
    let small = c.self.inside.told.small in
    let more = c.more_steps.ensures.few in
    omega arith

-- one word more
words : (c : After-push_reserved) → map (λ s. s.value) c.push_reserved.new.self.items ≡ map (λ s. s.value) c.self.inside.told.items ++ c.args.did ∷ []
words c =
    ap (λ xs. map (λ s. s.value) xs) c.push_reserved.ensures.items ∙ (map-append (λ s. s.value) c.self.inside.told.items (c.of.result ∷ []) ∙
    ap (λ d. map (λ s. s.value) c.self.inside.told.items ++ d ∷ []) c.of.ensures)

-- and its steps
steps : (c : After-push_reserved) → length (steps_told (map (λ s. s.value) c.push_reserved.new.self.items)) ≡ length c.push_reserved.new.self.items + (c.self.inside.long + c.more_steps.result)
steps c =
    let a = ap (λ z. length (steps_told z)) (words c) ∙ steps-push (map (λ s. s.value) c.self.inside.told.items) c.args.did in
    let b = c.self.invariant.1 in
    let d = c.more_steps.ensures.steps in
    let e = ap length c.push_reserved.ensures.items ∙ length-append c.self.inside.told.items (c.of.result ∷ []) in
    omega arith

pub invariant_of-self : goal.invariant_of-self
invariant_of-self c =
    let at = (goal.at.invariant_of-self c).After-push_reserved in
    elim c.match-self.branch [
      | in-Some w ↦ subst (λ i. IfSome i.kept (λ k. k.items ≡ map (λ s. s.value) i.told.items) × (length (steps_told (map (λ s. s.value) i.told.items)) ≡ length i.told.items + i.long)) (sym w.self-inside-is) (
        w.push_reserved-in-Some.ensures.items ∙
            (ap (λ z. z ++ c.args.did ∷ []) (subst (λ o. IfSome o (λ k. k.items ≡ map (λ s. s.value) c.self.inside.told.items)) w.in-Some.is c.self.invariant.0) ∙ sym (words at)),
        steps at,
      )
      | in_default w ↦ subst (λ i. IfSome i.kept (λ k. k.items ≡ map (λ s. s.value) i.told.items) × (length (steps_told (map (λ s. s.value) i.told.items)) ≡ length i.told.items + i.long)) (sym w.self-inside-is) (
        subst (λ o. IfSome o (λ k. k.items ≡ map (λ s. s.value) c.push_reserved.new.self.items)) (sym w.in_default.is) tt,
        steps at,
      )
    ]
