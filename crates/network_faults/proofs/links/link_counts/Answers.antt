use Rattle.std.proofs.Common.{◌+◌, ◌<◌, cond, length, get_or, vec_len, ap, sym, ◌∙◌, arith}
use Rattle.network.specs.Words.{touches}
use Rattle.network.proofs.EachLemmas.{count_by-more}
use Rattle.network_faults.proofs.JoinLemmas.{no_link}
use Rattle.network_faults.proofs.links.link_counts.Goals as goal

pub loop-link-preserved : goal.loop-link-preserved
loop-link-preserved c =
    let links = c.args.links.now in
    let i = c.loop-link.link-index in
    let link = get_or links i no_link in
    let lt : i < length links = omega arith in
    record {
      len = c.count_link.ensures.len ∙ c.loop-link.invariant.len;
      count_is = λ j h.
          let before : j < vec_len c.loop-link.counts = omega (arith, c.loop-link.invariant.len, h) in
          c.count_link.ensures.count_is j before ∙ ap (λ n. n + cond (touches j link) 1 0) (c.loop-link.invariant.count_is j h) ∙ sym (count_by-more (touches j) links i no_link lt);
    }
