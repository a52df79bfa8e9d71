use Rattle.nodes.proofs.switch.enter.Goals as goal

-- the account judged this frame
pub returns-clause-last : goal.returns-clause-last
returns-clause-last c =
    let judged = c.apply-verdict.ensures in
    (record { at = c.args.at; size = c.args.frame.now.size }, (c.args.transit.now.account, judged.valid, judged.state, judged.saved))
