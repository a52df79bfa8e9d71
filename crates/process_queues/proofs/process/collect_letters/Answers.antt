use Rattle.std.proofs.Common.{◌++◌, take, drop, sym, ap, ◌∙◌, append_assoc, length, length-drop, drop-drop, arith}
use Rattle.std.proofs.Math.Seq.{take-add}
use Rattle.antimessages.specs.Mailing.{letters_for}
use Rattle.process_queues.proofs.process.collect_letters.Goals as goal

pub loop-taken-preserved : goal.loop-taken-preserved
loop-taken-preserved g c =
    let i = c.loop-taken.invariant in
    let letters = letters_for c.args.process c.args.mail.now in
    record {
      tray_is = c.take_letter.ensures.tray ∙
          (ap (λ z. z ++ take 1 (letters_for c.args.process c.loop-taken.mail)) i.tray_is ∙
          (ap (λ z. (c.args.tray.now.items ++ take c.loop-taken.taken letters) ++ take 1 z) i.left ∙
          (append_assoc c.args.tray.now.items (take c.loop-taken.taken letters) _ ∙
          ap (λ z. c.args.tray.now.items ++ z) (sym (take-add c.loop-taken.taken 1 letters)))));
      left = c.take_letter.ensures.left ∙ (ap (drop 1) i.left ∙ drop-drop 1 c.loop-taken.taken letters);
      others = λ q n. c.take_letter.ensures.others q n ∙ i.others q n;
      processes = c.take_letter.ensures.processes ∙ i.processes;
      room = omega arith;
    }

pub take_letter-requires-clause-room : goal.take_letter-requires-clause-room
take_letter-requires-clause-room g c = let r = c.loop-taken.invariant.room in omega arith

pub take_letter-requires-clause-some : goal.take_letter-requires-clause-some
take_letter-requires-clause-some g c =
    let e = ap length c.loop-taken.invariant.left in
    let n = length-drop c.loop-taken.taken (letters_for c.args.process c.args.mail.now) in
    omega arith
