use Rattle.std.proofs.Common.{◌++◌, ◌∙◌, ap, arith, eqb-true, sym, vec_len}
use Rattle.std.proofs.lemmas.List.{nil_from_length}
use Rattle.group_queues.proofs.Offers.{put-beside}
use Rattle.group_queues.proofs.Waiting.{same-ordered}
use Rattle.group_queues.proofs.queue.Queue.sort_many.Goals as goal

pub returns : goal.returns
returns c =
    let lists = c.self.inside.lists.messages in
    let offers = c.self.inside.offers.items in
    let now = c.take_far.new.self.messages in
    let put = c.sort_down.result.items in
    sym (same-ordered c.order_law.ensures (lists ++ offers) (now ++ put)
    (put-beside lists now c.in-Some.far.items put offers (nil_from_length offers (let e = eqb-true (vec_len c.self.inside.offers) 0 (sym c.if-not-is_empty.ensures) in omega arith))
    c.in-Some.ensures.taken c.sort_down.ensures.same)) ∙ ap (λ z. z.messages) c.self.view_is
