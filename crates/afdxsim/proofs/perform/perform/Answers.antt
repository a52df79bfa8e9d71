use Rattle.std.proofs.Common.{inl, inr, map}
use Rattle.clap.specs.Values.{kind_of}
use Rattle.afdxsim.specs.Performing.{NameTwice}
use Rattle.afdxsim.proofs.Statuses.{answered, asks_none, memory_asks_none, obeyed, same_kind}
use Rattle.afdxsim.proofs.Ended.{memory}
use Rattle.afdxsim.proofs.perform.perform.Goals as goal

pub returns-in-Ok-clause-words : goal.returns-in-Ok-clause-words
returns-in-Ok-clause-words g c =
    let words = map g.S.AsStr.text c.args.words.now in
    obeyed words (NameTwice (g.H.Host.outside.tells c.args.host.now) words) c.obey.result c.in-Ok.ensures.mistake
    (λ two. (c.in-Ok.order, (c.in-Ok.ensures.command, c.in-Ok.ensures.names), c.obey.ensures.twice two))

pub returns-in-Err-clause-words : goal.returns-in-Err-clause-words
returns-in-Err-clause-words g c =
    let by = c.answer.ensures in
    let words = map g.S.AsStr.text c.args.words.now in
    answered words (NameTwice (g.H.Host.outside.tells c.args.host.now) words) c.kind.result c.answer.result
    (same_kind words (kind_of c.in-Err.error) c.kind.result c.kind.ensures c.in-Err.ensures.mistake)
    by.status by.memory by.only_done by.only_shown by.only_mistake

pub returns-in-Ok-clause-ordered : goal.returns-in-Ok-clause-ordered
returns-in-Ok-clause-ordered g c = λ none. inr (c.in-Ok.order, (c.in-Ok.ensures.command, c.in-Ok.ensures.names), c.obey.ensures.ends)

pub returns-in-Err-clause-ordered : goal.returns-in-Err-clause-ordered
returns-in-Err-clause-ordered g c = λ none.
    let words = map g.S.AsStr.text c.args.words.now in
    let is = memory words c.kind.result none (same_kind words (kind_of c.in-Err.error) c.kind.result c.kind.ensures c.in-Err.ensures.mistake) in
    inl (c.answer.ensures.alone (memory_asks_none c.kind.result is), c.answer.ensures.told (c.answer.ensures.memory is))

pub returns-in-Ok-clause-beside : goal.returns-in-Ok-clause-beside
returns-in-Ok-clause-beside g c =
    record { streams = λ some. absurd (some c.in-Ok.ensures.mistake); mistaken = λ some none. absurd (some c.in-Ok.ensures.mistake) }

pub returns-in-Err-clause-beside : goal.returns-in-Err-clause-beside
returns-in-Err-clause-beside g c =
    let words = map g.S.AsStr.text c.args.words.now in
    record {
      streams = λ some. c.answer.ensures.both;
      mistaken = λ some none. c.answer.ensures.alone
          (asks_none words c.kind.result (same_kind words (kind_of c.in-Err.error) c.kind.result c.kind.ensures c.in-Err.ensures.mistake) none);
    }
