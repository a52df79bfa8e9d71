use Rattle.std.proofs.Common.{ℕ, ◌≡◌, List, ◌++◌, length, take, drop, sym, ap, ◌∙◌, arith, length-drop}
use Rattle.vlink.specs.declared.message.Message.{Message}
use Rattle.vlink.specs.Letters.{Row}
use Rattle.group_queues.specs.declared.done_events.Event.{Event}
use Rattle.group_queues.specs.DoneEvents.{DoneEvent, done_events_in, all_sent, all_noted, sent_in, noted_in}
use Rattle.group_queues.specs.Sealing.{rows_in}
use Rattle.group_queues.proofs.Forgetting.{as-seen, oldest-out, rows-out, sent-seen, sent-split, noted-seen, noted-split}
use Rattle.group_queues.proofs.done_events.DoneEvents.forget.Goals as goal

-- what the oldest sent, and noted
sent : {K : Type 0} (n sum : ℕ) (es : List (Event K)) (sends : List Message) (rows : List Row) (ds : List (DoneEvent K)) → sum ≡ sent_in (take n ds) → done_events_in es sends rows ≡ ds → length sends ≡ all_sent es →
    sum ≡ all_sent (take n es)
sent n sum es sends rows ds e v s = e ∙ sent-seen n es sends rows ds v s

noted : {K : Type 0} (n sum : ℕ) (es : List (Event K)) (sends : List Message) (rows : List Row) (ds : List (DoneEvent K)) → sum ≡ noted_in (take n ds) → done_events_in es sends rows ≡ ds → length rows ≡ all_noted es →
    sum ≡ all_noted (take n es)
noted n sum es sends rows ds e v s = e ∙ noted-seen n es sends rows ds v s

pub forget-requires : goal.forget-requires
forget-requires g c =
    let inside = c.self.inside in
    let all = as-seen inside.events.items inside.sends.items inside.rows.items c.args.self.now.events inside.events.items (ap (λ z. z.events) c.self.view_is) (λ j. inside.events.items) in
    omega (arith, all, c.requires.enough)

pub forget-requires-2 : goal.forget-requires-2
forget-requires-2 g c =
    let s = sent c.args.oldest.count c.args.oldest.sent c.self.inside.events.items c.self.inside.sends.items c.self.inside.rows.items c.args.self.now.events c.requires.sent (ap (λ z. z.events) c.self.view_is) c.self.invariant.0 in
    let split = sent-split c.args.oldest.count c.self.inside.events.items in
    omega (arith, s, split, c.self.invariant.0)

pub move_first-requires-clause-enough : goal.move_first-requires-clause-enough
move_first-requires-clause-enough g c =
    let n = noted c.args.oldest.count c.args.oldest.noted c.self.inside.events.items c.self.inside.sends.items c.self.inside.rows.items c.args.self.now.events c.requires.noted (ap (λ z. z.events) c.self.view_is) c.self.invariant.1 in
    let split = noted-split c.args.oldest.count c.self.inside.events.items in
    omega (arith, n, split, c.self.invariant.1)

pub move_first-requires-clause-room : goal.move_first-requires-clause-room
move_first-requires-clause-room g c =
    let inside = c.self.inside in
    let n = noted c.args.oldest.count c.args.oldest.noted c.self.inside.events.items c.self.inside.sends.items c.self.inside.rows.items c.args.self.now.events c.requires.noted (ap (λ z. z.events) c.self.view_is) c.self.invariant.1 in
    let split = noted-split c.args.oldest.count inside.events.items in
    omega (arith, n, split, c.self.invariant.1, c.requires.room)

pub invariant_of-self : goal.invariant_of-self
invariant_of-self g c =
    let inside = c.self.inside in
    let s = sent c.args.oldest.count c.args.oldest.sent c.self.inside.events.items c.self.inside.sends.items c.self.inside.rows.items c.args.self.now.events c.requires.sent (ap (λ z. z.events) c.self.view_is) c.self.invariant.0 in
    let n = noted c.args.oldest.count c.args.oldest.noted c.self.inside.events.items c.self.inside.sends.items c.self.inside.rows.items c.args.self.now.events c.requires.noted (ap (λ z. z.events) c.self.view_is) c.self.invariant.1 in (
      (let split = sent-split c.args.oldest.count inside.events.items in let left = ap length c.forget-2.ensures.items in let d = length-drop c.args.oldest.sent inside.sends.items in
          let rest = ap all_sent c.forget.ensures.items in omega (arith, s, split, left, d, rest, c.self.invariant.0)),
      (let split = noted-split c.args.oldest.count inside.events.items in let left = ap length c.move_first.ensures.items in let d = length-drop c.args.oldest.noted inside.rows.items in
          let rest = ap all_noted c.forget.ensures.items in omega (arith, n, split, left, d, rest, c.self.invariant.1)),
      omega (arith, c.self.invariant.2, c.forget.ensures.room),
      omega (arith, c.self.invariant.3, c.forget-2.ensures.room),
      omega (arith, c.self.invariant.4, c.move_first.ensures.left),
    )

pub returns-clause-events : goal.returns-clause-events
returns-clause-events g c =
    let inside = c.self.inside in
    let s = sent c.args.oldest.count c.args.oldest.sent c.self.inside.events.items c.self.inside.sends.items c.self.inside.rows.items c.args.self.now.events c.requires.sent (ap (λ z. z.events) c.self.view_is) c.self.invariant.0 in
    let n = noted c.args.oldest.count c.args.oldest.noted c.self.inside.events.items c.self.inside.sends.items c.self.inside.rows.items c.args.self.now.events c.requires.noted (ap (λ z. z.events) c.self.view_is) c.self.invariant.1 in
    (λ j. done_events_in (c.forget.ensures.items j) (c.forget-2.ensures.items j) (c.move_first.ensures.items j)) ∙
    ((λ j. done_events_in (drop c.args.oldest.count inside.events.items) (drop (s j) inside.sends.items) (drop (n j) inside.rows.items)) ∙
    (oldest-out c.args.oldest.count inside.events.items inside.sends.items inside.rows.items ∙ ap (λ z. drop c.args.oldest.count z.events) c.self.view_is))

pub returns-clause-rows : goal.returns-clause-rows
returns-clause-rows g c =
    let inside = c.self.inside in
    let n = noted c.args.oldest.count c.args.oldest.noted c.self.inside.events.items c.self.inside.sends.items c.self.inside.rows.items c.args.self.now.events c.requires.noted (ap (λ z. z.events) c.self.view_is) c.self.invariant.1 in
    c.move_first.ensures.taken ∙
    (ap (λ k. c.args.taken.now.items ++ take k inside.rows.items) n ∙
    ap (λ z. c.args.taken.now.items ++ z) (sym (rows-out c.args.oldest.count inside.events.items inside.sends.items inside.rows.items) ∙ ap (λ z. rows_in (take c.args.oldest.count z.events)) c.self.view_is))
