use Rattle.std.proofs.Common.{◌≡◌, ℕ, ◌+◌, ◌<◌, ◌≤◌, cond, ◌++◌, length, vec_len, map, take, get_or, count_by, arith, ap, sym, subst, ◌∙◌, length-take-le, take_all, All}
use Rattle.std.proofs.lemmas.List.{get_or_read}
use Rattle.network.proofs.BuildLemmas.{LeadsWithin, All-lines}
use Rattle.std.proofs.lemmas.List.Sums.{count_by-le-length}
use Rattle.vlink.specs.declared.frame.Net.TheVariants.{A}
use Rattle.network.specs.Words.{each, node_plan, is_end_system, is_switch_of, touches, port_at, both, directions}
use Rattle.network.proofs.EachLemmas.{each-more, count_by-more}
use Rattle.network_faults.proofs.JoinLemmas.{no_link}
use Rattle.network_tables.proofs.lines.lines_of.Goals as goal

pub loop-link-preserved : goal.loop-link-preserved
loop-link-preserved c =
    let plan = map node_plan c.args.nodes.now in
    let links = c.args.links.now in
    let i = c.loop-link.link-index in
    let link = get_or links i no_link in
    let counts = c.loop-link.counts in
    let lt : i < length links = omega arith in
    let ends : (link.a ≤ length c.args.nodes.now) × (link.b ≤ length c.args.nodes.now) = c.requires.ends i no_link lt in
    let a_in : link.a < vec_len counts = omega (arith, c.loop-link.invariant.len, ends.0) in
    let b_in : link.b < vec_len counts = omega (arith, c.loop-link.invariant.len, ends.1) in
    let a_is : c.port_at-a_port.result ≡ port_at plan (take i links) link.a link.b =
    c.port_at-a_port.ensures ∙ ap (cond (is_end_system plan link.a) (cond (is_switch_of plan A link.b) 0 1))
    (get_or_read counts.items link.a c.index-a_count.result.now (omega (arith, counts.ok.0)) c.index-a_count.ensures 0 ∙ c.loop-link.invariant.count_is link.a a_in) in
    let b_is : c.port_at-b_port.result ≡ port_at plan (take i links) link.b link.a =
    c.port_at-b_port.ensures ∙ ap (cond (is_end_system plan link.b) (cond (is_switch_of plan A link.a) 0 1))
    (get_or_read counts.items link.b c.index-b_count.result.now (omega (arith, counts.ok.0)) c.index-b_count.ensures 0 ∙ c.loop-link.invariant.count_is link.b b_in) in
    let count_is : (j : ℕ) → j < vec_len c.count_link.new.counts → get_or c.count_link.new.counts.items j 0 ≡ count_by (touches j) (take (i + 1) links) =
    λ j h. (let before : j < vec_len counts = omega (arith, c.count_link.ensures.len) in
    c.count_link.ensures.count_is j before ∙ ap (λ n. n + cond (touches j link) 1 0) (c.loop-link.invariant.count_is j before) ∙ sym (count_by-more (touches j) links i no_link lt)) in
    record {
      len = c.count_link.ensures.len ∙ c.loop-link.invariant.len;
      count_is = count_is;
      small = λ j h. omega (arith, count_is j h, count_by-le-length (touches j) (take (i + 1) links), length-take-le (i + 1) links (omega arith));
      made = c.in_ok-push_both.ensures ∙ ap (λ x. x ++ both link c.port_at-a_port.result c.port_at-b_port.result) c.loop-link.invariant.made
          ∙ ap (λ n. each (directions plan) (take i links) ++ both link n c.port_at-b_port.result) a_is
          ∙ ap (λ n. each (directions plan) (take i links) ++ both link (port_at plan (take i links) link.a link.b) n) b_is
          ∙ sym (each-more (directions plan) links i no_link lt);
    }

pub returns-clause-ends : goal.returns-clause-ends
returns-clause-ends c =
    let plan = map node_plan c.args.nodes.now in
    let links = c.args.links.now in
    let all : c.loop-link.lines.items ≡ each (directions plan) links = c.loop-link.invariant.made ∙ ap (each (directions plan)) (take_all c.loop-link.link-index links (omega arith)) in
    subst (All (LeadsWithin (length c.args.nodes.now))) (sym all) (All-lines plan (length c.args.nodes.now) links c.requires.ends)
