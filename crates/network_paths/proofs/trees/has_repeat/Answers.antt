use Rattle.std.proofs.Common.{◌≡◌, ◌+◌, ◌<◌, true, false, ◌==◌, ◌||◌, length, take, get_or, refl, ap, sym, ◌∙◌, arith}
use Rattle.std.specs.List.{list_any}
use Rattle.std.specs.HashSet.{contains}
use Rattle.std.proofs.lemmas.Grind.{common_steps}
use Rattle.std.proofs.lemmas.List.Folds.{list_any_more}
use Rattle.network_paths.proofs.DoubleLemmas.{has_double-more, has_double-taken, hash_contains-put}
use Rattle.network_paths.proofs.trees.has_repeat.Goals as goal

pub returns-then-not-branch : goal.returns-then-not-branch
returns-then-not-branch c =
    let xs = c.args.numbers.now in
    let i = c.loop-n.n-index in
    let lt : i < length xs = omega arith in
    let held : contains (λ x y. x == y) c.loop-n.seen (get_or xs i 0) ≡ true = grind (arith, common_steps) in
    let there : list_any (λ n. n == get_or xs i 0) (take i xs) ≡ true = sym (c.loop-n.invariant.had (get_or xs i 0)) ∙ held in
    sym (has_double-taken xs (i + 1) (has_double-more xs i 0 lt ∙ rw (c.loop-n.invariant.apart, there) refl))

pub loop-n-preserved : goal.loop-n-preserved
loop-n-preserved c =
    let xs = c.args.numbers.now in
    let i = c.loop-n.n-index in
    let lt : i < length xs = omega arith in
    let new : contains (λ x y. x == y) c.loop-n.seen (get_or xs i 0) ≡ false = grind (arith, common_steps) in
    let absent : list_any (λ n. n == get_or xs i 0) (take i xs) ≡ false = sym (c.loop-n.invariant.had (get_or xs i 0)) ∙ new in
    record {
      apart = has_double-more xs i 0 lt ∙ rw (c.loop-n.invariant.apart, absent) refl;
      had = λ m. hash_contains-put c.loop-n.seen c.insert.new.self (get_or xs i 0) c.in_ok-insert.ensures.updates m ∙ ap (λ b. b || (get_or xs i 0 == m)) (c.loop-n.invariant.had m) ∙ sym (list_any_more (λ n. n == m) xs i 0 lt);
    }
