use Rattle.std.proofs.Common.{◌<◌, length, ap, ◌∙◌, arith, deque_len}
use Rattle.group_queues.proofs.FromFirst.{rest-left}
use Rattle.group_queues.proofs.letters.Letters.take_front.Goals as goal

pub returns-clause-tray : goal.returns-clause-tray
returns-clause-tray c = λ rest e.
    let is = ap (λ z. z.tray) c.self.view_is ∙ e in
    let some : 0 < deque_len c.self.inside.tray = (let n = ap length is in omega arith) in
    rest-left c.self.inside.tray.items c.pop_front-front.new.self.items rest c.pop_front-front.result c.args.letter.now _ c.pop_front-front.ensures.items is
    (c.pop_front-front.ensures.value c.args.letter.now some)
