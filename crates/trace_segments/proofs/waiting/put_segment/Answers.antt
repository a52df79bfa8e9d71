use Rattle.std.proofs.Common.{◌∙◌, ap, sym, subst, slice_set, slice_index_or, map, drop}
use Rattle.trace_segments.specs.Words.{with_segment, are_all_there, first_rows, IsInOrder}
use Rattle.trace_segments.proofs.WaitingLemmas.{put-is, segment-back}
use Rattle.trace_segments.proofs.waiting.put_segment.Goals as goal

pub returns-then-not-are_all_there-clause-kept : goal.returns-then-not-are_all_there-clause-kept
returns-then-not-are_all_there-clause-kept c =
    put-is c.args.process c.args.waiting.now.items c.index_mut.result.now c.push.new.self c.args.rows.items c.requires c.index_mut.ensures.value c.in_ok-push.ensures.pushed

pub returns-then-not-are_all_there-clause-missing : goal.returns-then-not-are_all_there-clause-missing
returns-then-not-are_all_there-clause-missing c =
    ap are_all_there (sym (c.as_slice.ensures.value ∙ put-is c.args.process c.args.waiting.now.items c.index_mut.result.now c.push.new.self c.args.rows.items c.requires c.index_mut.ensures.value c.in_ok-push.ensures.pushed))
    ∙ sym c.are_all_there.ensures ∙ c.if-not-are_all_there.true

pub returns-in-Ok-clause-complete : goal.returns-in-Ok-clause-complete
returns-in-Ok-clause-complete c =
    ap are_all_there (sym (c.as_slice.ensures.value ∙ put-is c.args.process c.args.waiting.now.items c.index_mut.result.now c.push.new.self c.args.rows.items c.requires c.index_mut.ensures.value c.in_ok-push.ensures.pushed))
    ∙ sym c.are_all_there.ensures ∙ c.if-not-are_all_there.false

pub returns-in-Ok-clause-rows : goal.returns-in-Ok-clause-rows
returns-in-Ok-clause-rows c =
    subst (λ waiting. IsInOrder (first_rows waiting) c.in-Ok.sorted.items)
    (c.as_slice-2.ensures.value ∙ put-is c.args.process c.args.waiting.now.items c.index_mut.result.now c.push.new.self c.args.rows.items c.requires c.index_mut.ensures.value c.in_ok-push.ensures.pushed)
    c.in-Ok.ensures

pub returns-in-Ok-clause-left : goal.returns-in-Ok-clause-left
returns-in-Ok-clause-left c =
    c.pop_firsts.ensures
    ∙ ap (map (drop 1)) (put-is c.args.process c.args.waiting.now.items c.index_mut.result.now c.push.new.self c.args.rows.items c.requires c.index_mut.ensures.value c.in_ok-push.ensures.pushed)

pub returns-in-Err-clause-unchanged : goal.returns-in-Err-clause-unchanged
returns-in-Err-clause-unchanged c =
    let process = c.args.process in
    let put = put-is process c.args.waiting.now.items c.index_mut.result.now c.push.new.self c.args.rows.items c.requires c.index_mut.ensures.value c.in_ok-push.ensures.pushed in
    let last = c.index_mut-in-Err.result.now in
    ap (λ waiting. slice_set waiting process c.pop_last.new.self) put
    ∙ ap (slice_set (with_segment process c.args.rows.items c.args.waiting.now.items) process) c.pop_last.ensures
    ∙ segment-back process c.args.rows.items c.args.waiting.now.items last c.requires (c.index_mut-in-Err.ensures.value ∙ ap (λ waiting. slice_index_or waiting process last) put)
