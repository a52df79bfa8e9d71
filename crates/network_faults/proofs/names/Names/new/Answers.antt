use Rattle.std.proofs.Common.{◌≡◌, ◌+◌, ◌<◌, [], ◌∷◌, ◌++◌, length, take, get_or, arith, ap, sym, ◌∙◌}
use Rattle.network.specs.Words.{names_of}
use Rattle.network_faults.proofs.NameLemmas.{names_of-more, length-names_of, AreNumbers-kept, AreNumbers-put}
use Rattle.network_faults.proofs.names.Names.new.Goals as goal
use Rattle.network_faults.proofs.names.Names.new.Goals.{then-not-contains_key+in_ok-insert, else-not-contains_key}

pub loop-i-preserved : goal.loop-i-preserved
loop-i-preserved c =
    let nodes = c.args.nodes.now in
    let i = c.loop-i.i in
    let lt : i < length nodes = omega arith in
    let name = c.as_str-name.result.now in
    let before = names_of (take i nodes) in
    let same : (get_or nodes i c.index-nodes-i.result).name ≡ name = ap (λ node. node.name) (sym c.index-nodes-i.is) ∙ sym c.as_str-name.ensures in
    let more : names_of (take (i + 1) nodes) ≡ before ++ name ∷ [] = names_of-more nodes i c.index-nodes-i.result lt ∙ ap (λ x. before ++ x ∷ []) same in
    let there = c.contains_key.ensures in
    let at_end : i ≡ length before = sym (length-names_of nodes i lt) in
    elim c.if-not-contains_key.branch [
      | then-not-contains_key+in_ok-insert w ↦ (λ q. rw (w.numbers-is, more)
          (AreNumbers-put c.loop-i.numbers w.insert.new.self before name i c.loop-i.invariant (sym there ∙ w.if-not-contains_key.true) w.in_ok-insert.ensures.updates at_end q))
      | else-not-contains_key w ↦ (λ q. rw (w.numbers-is, more)
          (AreNumbers-kept c.loop-i.numbers before name c.loop-i.invariant (sym there ∙ w.if-not-contains_key.false) q))
    ]
