use Rattle.std.proofs.Common.{◌≡◌, ◌+◌, drop, length, sym, ap, ◌∙◌, subst, arith, length-drop}
use Rattle.virtual_time.specs.Law.{rowed}
use Rattle.reverse.specs.Rules.{rules_of}
use Rattle.row_times.specs.Within.{AreFirstBefore, AreFrom}
use Rattle.row_times.proofs.Between.{rest-in-time, next-early, first-early, rest-late}
use Rattle.fossil.proofs.rows.let_rows_go.Goals as goal

pub count_before-count-requires : goal.count_before-count-requires
count_before-count-requires g c =
    let i = c.requires in
    rest-in-time c.sealed.result.now c.args.process.now.queues.left _ (c.sealed.ensures i.0 i.1 i.2) i.3

pub returns-clause-gone : goal.returns-clause-gone
returns-clause-gone g c opening part h =
    let rows = rowed (rules_of g.R.Reversible.plain) opening part.committed in (
      c.let_rows_go-gone.result,
      c.let_rows_go-gone.ensures.left,
      next-early c.args.moment c.args.process.now.queues.left c.count_before-count.result c.sealed.result.now rows (c.sealed.ensures opening part h)
          c.count_before-count.ensures.point c.args.moment c.let_rows_go-gone.result (omega arith) (let n = c.let_rows_go-gone.ensures.count in omega arith),
    )

pub returns-clause-early : goal.returns-clause-early
returns-clause-early g c opening part h limit le early =
    let r = rules_of g.R.Reversible.plain in
    let rows = rowed r opening part.committed in
    subst (λ n. AreFirstBefore r limit n rows) (sym c.let_rows_go-gone.ensures.left)
    (first-early c.args.moment c.args.process.now.queues.left c.count_before-count.result c.sealed.result.now rows (c.sealed.ensures opening part h)
    c.count_before-count.ensures.point limit c.let_rows_go-gone.result le (let n = c.let_rows_go-gone.ensures.count in omega arith) early)

pub returns-clause-late : goal.returns-clause-late
returns-clause-late g c opening part h few =
    let r = rules_of g.R.Reversible.plain in
    let rows = rowed r opening part.committed in
    let old = c.args.process.now.queues.left in
    let there = c.sealed.ensures opening part h in
    let all : c.let_rows_go-gone.new.self.queues.left ≡ old + c.count_before-count.result =
    let a = h.sealed in
    let b = ap length there ∙ length-drop old rows in
    let n = c.let_rows_go-gone.ensures.count in
    let m = c.let_rows_go-gone.ensures.left in
    let w = c.count_before-count.ensures.within in
    omega arith in
    subst (λ n. AreFrom r c.args.moment (drop n rows)) (sym all)
    (rest-late c.args.moment old c.count_before-count.result c.sealed.result.now rows there c.count_before-count.ensures.point)
