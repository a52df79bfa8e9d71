use Rattle.std.proofs.Common.{◌≡◌, ◌+◌, ◌-◌, Ok, Err, Some, true, false, refl, ap, sym, ◌∙◌, length, arith, ltb-true}
use Rattle.std.proofs.lemmas.Option.{slice_get_read}
use Rattle.network.specs.Words.{is_end_system}
use Rattle.network_bounds.specs.Ages.{age_after, latency_of, plus, sent_over}
use Rattle.network_bounds.specs.Least.{least_after, sent_at_once, with_least}
use Rattle.network_bounds.specs.Mixing.{line_into}
use Rattle.network_bounds.specs.Numbers.{capped}
use Rattle.network_bounds.specs.Passing.{input_of}
use Rattle.network_bounds.proofs.AgeLemmas.{both-are, from_end, from_switch, neither}
use Rattle.network_bounds.proofs.ages.+ages_after.Goals as goal

pub returns-then-is_end : goal.returns-then-is_end
returns-then-is_end t c =
    let plan = c.args.network.now in
    let read = c.in-Some.ensures.lookup in
    let end : is_end_system plan.nodes c.line-ahead.result.from ≡ true = ap (is_end_system plan.nodes) (sym c.from-node.ensures) ∙ sym c.is_end.ensures ∙ c.if-is_end.true in
    from_end plan c.args.bounds.now c.args.link.now c.args.least c.args.lines c.args.line c.line-ahead.result c.in-Some.bound.now c.sent_over.result (let some = c.if-lines-eq0.false in omega arith) c.line-ahead.ensures.value
    (slice_get_read c.args.bounds.now (length c.args.bounds.now) c.args.line c.in-Some.bound.now refl (ltb-true _ _ (sym read.0)) read.1) end c.sent_over.ensures

pub returns-in-Ok : goal.returns-in-Ok
returns-in-Ok t c =
    let plan = c.args.network.now in
    let bounds = c.args.bounds.now in
    let link = c.args.link.now in
    let least = c.args.least in
    let line = c.line-ahead.result in
    let bound = c.in-Some.bound.now in
    let read = c.in-Some.ensures.lookup in
    let node = c.from-node.ensures in
    let before = c.in-Some-line_into.before in
    let switch : is_end_system plan.nodes line.from ≡ false = ap (is_end_system plan.nodes) (sym node) ∙ sym c.is_end.ensures ∙ c.if-is_end.false in
    let input : c.input_of.result ≡ input_of plan line.from link.id.0 = c.input_of.ensures ∙ ap (λ n. input_of plan n link.id.0) node in
    let into : line_into plan line.from (input_of plan line.from link.id.0) ≡ Some before =
    sym (c.line_into.ensures.value ∙ ap (λ n. line_into plan n c.input_of.result) node ∙ ap (line_into plan line.from) input) ∙ c.in-Some-line_into.is in
    let came = c.in-Ok.came in
    let ages = both-are (age_after plan bounds link least (c.args.lines - 1) before) (least_after plan link least (c.args.lines - 1) before) came (sym c.in-Ok.is ∙ c.ages_after.ensures) in
    let latency : c.latency_of.result ≡ latency_of plan line.from = c.latency_of.ensures ∙ ap (latency_of plan) node in
    let most : Ok c.plus-age.result.most ≡ plus (age_after plan bounds link least (c.args.lines - 1) before) (latency_of plan line.from) =
    ap Ok (c.plus-age.ensures.most ∙ ap (λ n. capped (came.most + n)) latency) ∙ ap (λ a. plus a (latency_of plan line.from)) (sym ages.0) in
    let soonest : c.plus-age.result.least ≡ capped (least_after plan link least (c.args.lines - 1) before + latency_of plan line.from) =
    c.plus-age.ensures.least ∙ ap (λ n. capped (came.least + n)) latency ∙ ap (λ n. capped (n + latency_of plan line.from)) (sym ages.1) in
    from_switch plan bounds link least c.args.lines c.args.line before line bound c.sent_over-in-Ok.result (let some = c.if-lines-eq0.false in omega arith) c.line-ahead.ensures.value
    (slice_get_read bounds (length bounds) c.args.line bound refl (ltb-true _ _ (sym read.0)) read.1) switch into
    (c.sent_over-in-Ok.ensures ∙ ap (λ a. with_least (sent_over false line bound link least a) (sent_at_once line least c.plus-age.result.least)) most
    ∙ ap (λ n. with_least (sent_over false line bound link least (plus (age_after plan bounds link least (c.args.lines - 1) before) (latency_of plan line.from))) (sent_at_once line least n)) soonest)

pub returns-in-Err : goal.returns-in-Err
returns-in-Err t c =
    let plan = c.args.network.now in
    let bounds = c.args.bounds.now in
    let link = c.args.link.now in
    let least = c.args.least in
    let line = c.line-ahead.result in
    let bound = c.in-Some.bound.now in
    let read = c.in-Some.ensures.lookup in
    let node = c.from-node.ensures in
    let before = c.in-Some-line_into.before in
    let switch : is_end_system plan.nodes line.from ≡ false = ap (is_end_system plan.nodes) (sym node) ∙ sym c.is_end.ensures ∙ c.if-is_end.false in
    let input : c.input_of.result ≡ input_of plan line.from link.id.0 = c.input_of.ensures ∙ ap (λ n. input_of plan n link.id.0) node in
    let into : line_into plan line.from (input_of plan line.from link.id.0) ≡ Some before =
    sym (c.line_into.ensures.value ∙ ap (λ n. line_into plan n c.input_of.result) node ∙ ap (line_into plan line.from) input) ∙ c.in-Some-line_into.is in
    let why = c.in-Err.reason in
    let none = neither (age_after plan bounds link least (c.args.lines - 1) before) (least_after plan link least (c.args.lines - 1) before) why (sym c.in-Err.is ∙ c.ages_after.ensures) in
    from_switch plan bounds link least c.args.lines c.args.line before line bound (Err why) (let some = c.if-lines-eq0.false in omega arith) c.line-ahead.ensures.value
    (slice_get_read bounds (length bounds) c.args.line bound refl (ltb-true _ _ (sym read.0)) read.1) switch into
    (ap (λ a. with_least (sent_over false line bound link least (plus a (latency_of plan line.from))) (sent_at_once line least (capped (least_after plan link least (c.args.lines - 1) before + latency_of plan line.from)))) (sym none))
