use Rattle.std.proofs.Common.{◌≡◌, ◌≤◌, ◌==◌, filter, length, take}
use Rattle.vlink.specs.Letters.{Letter}
use Rattle.antimessages.proofs.posting.count_for.Given as goal

abbrev pub invariant-loop-place : goal.invariant-loop-place
invariant-loop-place l = record {
  counted : l.count ≡ length (filter (λ (x : Letter). x.message.receiver == l.receiver) (take l.place l.letters));
  few : l.count ≤ l.place;
}
