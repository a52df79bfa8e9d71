use Rattle.std.proofs.Common.{◌≡◌, ap, ◌∙◌, sym, add-one, arith}
use Rattle.network_bounds.specs.Mixing.{gaps_in, mixed_at, mixed_below, share_at, weight_of, with_share}
use Rattle.network_bounds.proofs.CapLemmas.{share-more}
use Rattle.network_bounds.proofs.mixing.mixed_at.Goals as goal

pub loop-input-preserved : goal.loop-input-preserved
loop-input-preserved c =
    let port = c.args.port.now in
    let j = c.loop-input.input in
    let choice = c.args.choice in
    let high = c.args.is_high in
    c.with_share-all.ensures
    ∙ ap (λ w. with_share c.loop-input.all w c.share_at-share.result) c.weight_of.ensures.value
    ∙ ap (λ share. with_share c.loop-input.all (weight_of choice j share) share) (c.share_at-share.ensures ∙ ap (λ b. share_at port b j high) c.by_gap.ensures)
    ∙ ap (λ all. with_share all (weight_of choice j (share_at port (gaps_in choice) j high)) (share_at port (gaps_in choice) j high)) c.loop-input.invariant
    ∙ share-more port choice high j
    ∙ ap (mixed_below port choice high) (sym (add-one j))

pub returns : goal.returns
unfolding mixed_at
returns c =
    let last : c.loop-input.input ≡ 24 = omega (arith, c.loop-input-test.false, c.loop-input.auto.input-end) in
    c.loop-input.invariant ∙ ap (mixed_below c.args.port.now c.args.choice c.args.is_high) last
