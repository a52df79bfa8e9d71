use Rattle.std.proofs.Common.{ℕ, [], ◌++◌, Vec, Global, ap, sym, subst, ◌∙◌, append_assoc, append-nil, rules}
use Rattle.csv.specs.declared.writer.Writer.{Writer}
use Rattle.trace_segments.specs.Words.{Adds, Holds}
use Rattle.std.specs.Map.Iter.{deref_pair}
use Rattle.std.proofs.lemmas.Map.Iter.{rest_more, rest_all}
use Rattle.trace_tables.specs.Text.{drop_line, drop_text}
use Rattle.trace_segments.proofs.WritingLemmas.{adds-more, adds-same}
use Rattle.trace_tables.proofs.text.push_drops.Goals as goal

-- nothing is put into a writer that is left as it is
none-put : (w : Writer (Vec ℕ Global)) → Adds w w []
none-put w text holds = subst (Holds w) (sym (append-nil text)) holds

pub loop-loss-init : goal.loop-loss-init
loop-loss-init c = ([], (none-put c.args.out.now, search rules))

pub loop-loss-preserved : goal.loop-loss-preserved
loop-loss-preserved c =
    let plan = c.args.network.now in
    let done = c.loop-loss.invariant.0 in
    let line = drop_line plan (c.in-Some.loss.now, c.in-Some.count.now) in
    let rest = rest_more deref_pair c.loop-loss.loss-iterator c.next.new.self c.next.result (c.in-Some.loss, c.in-Some.count) c.in-Some.is c.next.ensures.steps in (
      done ++ line,
      (
        adds-more c.args.out.now c.loop-loss.out c.push_drop.new.out done line c.loop-loss.invariant.1.0 c.in_ok-push_drop.ensures,
        append_assoc done line (drop_text plan c.next.new.self) ∙ ap (λ drops. done ++ drop_text plan drops) (sym rest) ∙ c.loop-loss.invariant.1.1,
      ),
    )

pub returns : goal.returns
returns c =
    let plan = c.args.network.now in
    let done = c.loop-loss.invariant.0 in
    let rest = rest_all deref_pair c.loop-loss.loss-iterator c.next.new.self c.next.result c.in-None.is c.next.ensures.steps in
    adds-same c.args.out.now c.loop-loss.out done (drop_text plan c.args.drops.now.entries)
    (sym (append-nil done) ∙ ap (λ drops. done ++ drop_text plan drops) (sym rest) ∙ c.loop-loss.invariant.1.1) c.loop-loss.invariant.1.0
