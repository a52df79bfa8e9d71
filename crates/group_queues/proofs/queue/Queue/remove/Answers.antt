use Rattle.std.proofs.Common.{◌≢◌, ◌∷◌, ◌++◌, List, All, IsPermutation, refl, subst, ap}
use Rattle.std.proofs.lemmas.List.Elements.{All-append}
use Rattle.std.proofs.lemmas.List.Sorted.{All-permutation}
use Rattle.vlink.specs.declared.message.Message.{Message}
use Rattle.two_lists.proofs.NearAndFar.{out-of-first, out-of-last}
use Rattle.group_queues.specs.Waiting.{ordered}
use Rattle.group_queues.proofs.Waiting.{ordered-permuted, out-ordered}
use Rattle.group_queues.proofs.queue.Queue.remove.Goals as goal

pub returns-then-remove-clause-one : goal.returns-then-remove-clause-one
returns-then-remove-clause-one c = λ e.
    let lists = c.self.inside.lists.messages in
    let offers = c.self.inside.offers.items in
    let now = c.remove.new.self.messages in
    subst (λ (xs : List Message). IsPermutation xs (c.args.message.now ∷ ordered (now ++ offers))) (ap (λ z. z.messages) c.self.view_is)
    (out-ordered c.args.message.now (lists ++ offers) (now ++ offers) (out-of-first lists now offers c.args.message.now (c.if-remove.ensures.one refl)))

pub returns-clause-one : goal.returns-clause-one
returns-clause-one c = λ e.
    let lists = c.self.inside.lists.messages in
    let offers = c.self.inside.offers.items in
    let now = c.remove.new.self.messages in
    let left = c.take_out.new.near.items in
    subst (λ (xs : List Message). IsPermutation xs (c.args.message.now ∷ ordered (now ++ left))) (ap (λ z. z.messages) c.self.view_is)
    (out-ordered c.args.message.now (lists ++ offers) (now ++ left)
    (subst (λ (zs : List Message). IsPermutation (zs ++ offers) (c.args.message.now ∷ (now ++ left))) (c.if-remove.ensures.unchanged refl)
    (out-of-last now offers left c.args.message.now (c.take_out.ensures.one e))))

pub returns-clause-none : goal.returns-clause-none
returns-clause-none c = λ e.
    let lists = c.self.inside.lists.messages in
    let offers = c.self.inside.offers.items in
    let m = c.args.message.now in
    subst (All (λ x. x ≢ m)) (ap (λ z. z.messages) c.self.view_is)
    (All-permutation (λ x. x ≢ m) (lists ++ offers) (ordered (lists ++ offers)) (ordered-permuted (lists ++ offers))
    (All-append (λ x. x ≢ m) lists offers (c.if-remove.ensures.none refl) (subst (All (λ x. x ≢ m)) refl (c.take_out.ensures.none e))))
