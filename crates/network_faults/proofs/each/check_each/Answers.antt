use Rattle.std.proofs.Common.{◌<◌, length, take, arith, sym, subst}
use Rattle.std.proofs.lemmas.Result.{err_from_is_err_and}
use Rattle.network.proofs.EachLemmas.{Tells-read, none-read, take-read, length-before}
use Rattle.network_faults.proofs.each.check_each.Goals as goal

pub returns-in_err-review : goal.returns-in_err-review
returns-in_err-review g c =
    let rows = c.args.rows.now in
    let i = c.loop-i.i in
    let lt : i < length rows = omega arith in
    let p = err_from_is_err_and c.from_residual.result c.from_residual.ensures.1 in
    rw (p.1, p.2) (Tells-read (g.R.Review.faults c.args.review.now) rows i c.index-rows-i.result _ lt c.index-rows-i.is c.loop-i.invariant.none
    (c.in_err-review.ensures (take i rows) (length-before rows i lt) c.loop-i.invariant.saw))

pub loop-i-preserved : goal.loop-i-preserved
loop-i-preserved g c =
    let rows = c.args.rows.now in
    let i = c.loop-i.i in
    let row = c.index-rows-i.result in
    let lt : i < length rows = omega arith in
    let here = c.in_ok-review.ensures (take i rows) (length-before rows i lt) c.loop-i.invariant.saw in
    record {
      none = none-read (g.R.Review.faults c.args.review.now) rows i row lt c.index-rows-i.is c.loop-i.invariant.none here.0;
      saw = subst (g.R.Review.saw c.args.review.now c.review.new.seen) (sym (take-read rows i row lt c.index-rows-i.is)) here.1;
    }
