use Rattle.std.proofs.Common.{◌≡◌, ◌+◌, ◌∙◌, suc, List, ◌∷◌, [], ◌++◌, take, IsPermutation, subst, sym, ap, append_assoc, arith, take-suc}
use Rattle.std.proofs.lemmas.List.Sorted.{IsPermutation-push_more}
use Rattle.vlink.specs.declared.message.Message.{Message}
use Rattle.actor_run.proofs.waiting.Waiting.push_all.Goals as goal

pub loop-message-preserved : goal.loop-message-preserved
loop-message-preserved c =
    let was = c.args.self.now in
    let all = c.args.messages.now in
    let i = c.loop-message.message-index in
    let m = c.message-item.result in
    let now = c.push.new.self in
    let next : i + 1 ≡ suc i = omega arith in
    let more : take (i + 1) all ≡ take i all ++ m ∷ [] =
    ap (λ k. take k all) next ∙ (take-suc all i m c.loop-message-test.true ∙ ap (λ (x : Message). take i all ++ x ∷ []) (sym c.message-item.is)) in
    subst (λ (xs : List Message). IsPermutation xs now) (append_assoc was (take i all) (m ∷ []) ∙ ap (λ (xs : List Message). was ++ xs) (sym more))
    (IsPermutation-push_more (was ++ take i all) c.loop-message.self now m c.loop-message.invariant c.in_ok-push.ensures.more)
