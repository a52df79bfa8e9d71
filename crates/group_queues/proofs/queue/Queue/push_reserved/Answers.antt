use Rattle.std.proofs.Common.{List, ◌∷◌, ◌++◌, ◌∙◌, IsPermutation, subst, sym, ap}
use Rattle.std.proofs.lemmas.List.Sorted.{IsPermutation-append_left}
use Rattle.vlink.specs.declared.message.Message.{Message}
use Rattle.group_queues.specs.Waiting.{ordered, placed}
use Rattle.group_queues.proofs.Waiting.{in-ordered, same-ordered}
use Rattle.group_queues.proofs.queue.Queue.push_reserved.Goals as goal

pub returns-clause-more : goal.returns-clause-more
returns-clause-more c =
    let m = c.args.message.now in
    let lists = c.self.inside.lists.messages in
    let offers = c.self.inside.offers.items in
    let now = c.push_reserved.new.self.messages in
    subst (λ (xs : List Message). IsPermutation (m ∷ xs) (ordered (now ++ offers))) (ap (λ z. z.messages) c.self.view_is)
    (in-ordered m (lists ++ offers) (now ++ offers) (IsPermutation-append_left offers (m ∷ lists) now c.push_reserved.ensures.taken))

pub returns-clause-placed : goal.returns-clause-placed
returns-clause-placed c =
    let m = c.args.message.now in
    let lists = c.self.inside.lists.messages in
    let offers = c.self.inside.offers.items in
    let now = c.push_reserved.new.self.messages in
    sym (same-ordered c.order_law.ensures (m ∷ (lists ++ offers)) (now ++ offers) (IsPermutation-append_left offers (m ∷ lists) now c.push_reserved.ensures.taken)) ∙
    ap (λ z. placed m z.messages) c.self.view_is
