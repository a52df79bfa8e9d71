use Rattle.std.proofs.Common.{◌≡◌, ◌+◌, ◌<◌, [], ◌∷◌, ◌++◌, length, take, get_or, arith, sym, ◌∙◌}
use Rattle.std.proofs.lemmas.List.{take_more}
use Rattle.network_faults.proofs.JoinLemmas.{AreJoined-put, AreJoined-kept, no_link}
use Rattle.network.proofs.EachLemmas.{length-before}
use Rattle.network_faults.proofs.links.Joined.new.Goals as goal
use Rattle.network_faults.proofs.links.Joined.new.Goals.{then-not-contains_key+in_ok-put+in_ok-put-2, else-not-contains_key}

pub loop-i-preserved : goal.loop-i-preserved
loop-i-preserved c =
    let rows = c.args.links.now in
    let i = c.loop-i.i in
    let link = get_or rows i no_link in
    let lt : i < length rows = omega arith in
    let more : take (i + 1) rows ≡ take i rows ++ link ∷ [] = take_more rows i no_link lt in
    let there = c.contains_key.ensures in
    elim c.if-not-contains_key.branch [
      | then-not-contains_key+in_ok-put+in_ok-put-2 w ↦ (λ x y. rw (w.places-is, more)
          (AreJoined-put c.loop-i.places w.put.new.places w.put-then-not-contains_key.new.places (take i rows) link i c.loop-i.invariant (sym there ∙ w.if-not-contains_key.true)
          w.in_ok-put.ensures w.in_ok-put-2.ensures (sym (length-before rows i lt)) x y))
      | else-not-contains_key w ↦ (λ x y. rw (w.places-is, more)
          (AreJoined-kept c.loop-i.places (take i rows) link c.loop-i.invariant (sym there ∙ w.if-not-contains_key.false) x y))
    ]
