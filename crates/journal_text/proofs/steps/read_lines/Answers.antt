use Rattle.std.proofs.Common.{◌<◌, length, subst, arith}
use Rattle.std.proofs.lemmas.Grind.{common_steps}
use Rattle.journal_text.specs.Lines.{IsFirstBad}
use Rattle.journal_text.proofs.TextLemmas.{bad_behind, one_more}
use Rattle.journal_text.proofs.steps.read_lines.Goals as goal

pub loop-rest-preserved : goal.loop-rest-preserved
loop-rest-preserved c =
    let more = one_more c.loop-rest.steps.items c.push.new.self.items c.in-Some.step c.loop-rest.rest.now c.in-Some.behind.now c.args.text.now
    c.in_ok-push-in-Some.ensures.items c.in-Some.ensures.found c.loop-rest.invariant.fits c.loop-rest.invariant.whole in
    record { fits = more.0; whole = more.1 }

pub returns-in-None-clause-fault : goal.returns-in-None-clause-fault
returns-in-None-clause-fault c =
    let some : 0 < length c.loop-rest.rest.now = grind (arith, common_steps) in
    let first = bad_behind c.loop-rest.steps.items c.loop-rest.rest.now c.args.text.now c.loop-rest.invariant.fits c.loop-rest.invariant.whole some c.in-None.ensures.none in
    (omega arith, subst (IsFirstBad c.args.text.now) (omega (arith, c.loop-rest.steps.ok.0)) first)
