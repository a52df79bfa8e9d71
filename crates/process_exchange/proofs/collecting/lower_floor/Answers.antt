use Rattle.std.proofs.Common.{◌≡◌, ◌<◌, length, slice_get, Some, sym, ap, ◌∙◌, arith}
use Rattle.antimessages.specs.Mailing.{letters_for}
use Rattle.gvt.specs.Horizon.{Floors}
use Rattle.process_exchange.proofs.Lists.{slice_get-none}
use Rattle.process_exchange.proofs.Collected.{floor-more}
use Rattle.process_exchange.proofs.collecting.lower_floor.Goals.{in-Some, in_default}
use Rattle.process_exchange.proofs.collecting.lower_floor.Goals as goal

pub loop-place-preserved : goal.loop-place-preserved
loop-place-preserved c =
    let p = c.args.process in
    let i = c.loop-place.place in
    let ls = letters_for p c.args.mail.now in
    let old = c.loop-place.invariant in
    elim c.match-look.branch [
      | in-Some w ↦
          let at : slice_get ls i ≡ Some (w.in-Some.letter) = sym c.look.ensures ∙ w.in-Some.is in
          let here : i < length ls = omega arith in
          record {
            floor = floor-more ls i (w.in-Some.letter) here at _ _ _ old.floor (ap (λ (f : Floors). slice_get f.floors p) w.floors-is ∙ w.lower.ensures.lowered);
            others = λ q n. ap (λ (f : Floors). slice_get f.floors q) w.floors-is ∙ (w.lower.ensures.others q n ∙ old.others q n);
            processes = ap (λ (f : Floors). length f.floors) w.floors-is ∙ (w.lower.ensures.processes ∙ old.processes);
            until = ap (λ (f : Floors). f.until) w.floors-is ∙ (w.lower.ensures.until ∙ old.until);
          }
      | in_default w ↦
          let beyond = slice_get-none ls i (sym c.look.ensures ∙ w.in_default.is) in
          absurd (omega arith)
    ]
