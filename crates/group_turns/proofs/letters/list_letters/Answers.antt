use Rattle.std.proofs.Common.{◌≡◌, ◌∙◌, ◌+◌, ℕ, List, min, option_map, slice_get, subst, sym, take, take_all}
use Rattle.group_turns.specs.Section.{AreListed}
use Rattle.group_turns.proofs.Listing.{listed-more, listed-none}
use Rattle.group_turns.proofs.letters.list_letters.Goals.{in-Some, in_default}
use Rattle.group_turns.proofs.letters.list_letters.Goals as goal

pub loop-letter-preserved : goal.loop-letter-preserved
loop-letter-preserved g c =
    let owners = g.J.NetworkRun.owners in
    let letters = c.letters_abroad-letters.result.now in
    let first = c.args.letters_ns.now in
    let now = c.loop-letter.letters_ns in
    let more = λ (ns : List ℕ). AreListed owners (take (c.loop-letter.letter-index + 1) letters) first ns in
    elim c.match-owner.branch [
      | in-Some w ↦
          let new = w.lower.new.moments_ns in
          let owner = w.in-Some.owner in
          subst more (sym w.letters_ns-is)
          (listed-more owners letters c.loop-letter.letter-index c.letter-item.result c.loop-letter-test.true c.letter-item.is owner
          (sym c.owner.ensures.is ∙ w.in-Some.is) first now new c.loop-letter.invariant
          (subst (λ t. slice_get new owner ≡ option_map (min t) (slice_get now owner)) w.ns.ensures.value
          (subst (λ p. slice_get new p ≡ option_map (min w.ns.result) (slice_get now p)) w.from.ensures w.lower.ensures.there))
          (λ q n. w.lower.ensures.others q (λ e. n (e ∙ w.from.ensures))))
      | in_default w ↦ subst more (sym w.letters_ns-is)
          (listed-none owners letters c.loop-letter.letter-index c.letter-item.result c.loop-letter-test.true c.letter-item.is
          (sym c.owner.ensures.is ∙ w.in_default.is) first now c.loop-letter.invariant)
    ]

pub returns : goal.returns
returns g c =
    subst (λ ls. AreListed g.J.NetworkRun.owners ls c.args.letters_ns.now c.loop-letter.letters_ns)
    (take_all c.loop-letter.letter-index c.letters_abroad-letters.result.now c.loop-letter-test.false ∙ c.letters_abroad-letters.ensures) c.loop-letter.invariant
