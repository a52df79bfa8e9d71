use Rattle.std.proofs.Common.{◌≡◌, ◌<◌, ◌≤◌, ◌++◌, All, IfSome, drop, length, map, slice_get, take, sym, ap, ◌∙◌, subst, arith}
use Rattle.std.proofs.lemmas.List.Elements.{All-nil}
use Rattle.vlink.specs.Letters.{Row}
use Rattle.group_queues.proofs.Leaving.{all-same, more-left, next-there, still-there}
use Rattle.group_queues.proofs.rows.Rows.let_go.Goals.{After-move_first}
use Rattle.group_queues.proofs.rows.Rows.let_go.Goals as goal

-- so many more have left
more : (c : After-move_first) → map (λ s. s.value) c.move_first.new.left.items ≡ map (λ s. s.value) c.self.inside.left.items ++ take c.count_before-count.result c.self.inside.there.items
more c = c.move_first.ensures.left ∙ ap (λ z. map (λ s. s.value) z ++ take c.count_before-count.result c.self.inside.there.items) c.reserve.ensures.items

pub returns-in_err-reserve-clause-gone : goal.returns-in_err-reserve-clause-gone
returns-in_err-reserve-clause-gone c = (
  0,
  (let a = ap length c.reserve.ensures.items in let b = ap (λ r. r.left) c.self.view_is in omega arith),
  omega arith,
  All-nil (λ (row : Row). row.message.time < c.args.moment),
)

pub returns-clause-all : goal.returns-clause-all
returns-clause-all c =
    ap (λ z. map (λ s. s.value) c.move_first.new.left.items ++ z) c.move_first.ensures.there ∙
    (all-same (λ s. s.value) c.self.inside.left.items c.move_first.new.left.items c.self.inside.there.items c.count_before-count.result (more (goal.at.returns-clause-all c).After-move_first) ∙
    ap (λ r. r.all) c.self.view_is)

pub returns-clause-gone : goal.returns-clause-gone
returns-clause-gone c = (
  c.count_before-count.result,
  (let a = more-left (λ s. s.value) c.self.inside.left.items c.move_first.new.left.items c.self.inside.there.items c.count_before-count.result (more (goal.at.returns-clause-gone c).After-move_first)
      (let w = c.count_before-count.ensures.within in let v = ap length c.deref.ensures.value in omega arith) in
      let b = ap (λ r. r.left) c.self.view_is in omega arith),
  subst (λ xs. c.count_before-count.result ≤ length xs)
      (c.deref.ensures.value ∙ (sym (still-there (λ s. s.value) c.self.inside.left.items c.self.inside.there.items) ∙ ap (λ r. drop r.left r.all) c.self.view_is))
      c.count_before-count.ensures.within,
  subst (λ xs. All (λ (row : Row). row.message.time < c.args.moment) (take c.count_before-count.result xs))
      (c.deref.ensures.value ∙ (sym (still-there (λ s. s.value) c.self.inside.left.items c.self.inside.there.items) ∙ ap (λ r. drop r.left r.all) c.self.view_is))
      c.count_before-count.ensures.early,
)

pub returns-clause-late : goal.returns-clause-late
returns-clause-late c =
    subst (λ xs. IfSome (slice_get xs 0) (λ (row : Row). c.args.moment ≤ row.message.time))
    (ap (drop c.count_before-count.result) c.deref.ensures.value ∙ (sym c.move_first.ensures.there ∙ sym (still-there (λ s. s.value) c.move_first.new.left.items c.move_first.new.there.items)))
    (next-there (λ (row : Row). c.args.moment ≤ row.message.time) c.count_before-count.result c.deref.result.now c.count_before-count.ensures.late)
