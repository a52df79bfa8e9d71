use Rattle.std.proofs.Common.{◌≡◌, ◌≤◌, false, nat_lt, length, ap, arith}
use Rattle.std.proofs.lemmas.Bool.Decides.{nat_tests}
use Rattle.network_rows.specs.declared.key.Section.TheVariants.{Vl}
use Rattle.network_rows.specs.declared.fault.DescFault.TheVariants.{TooMany}
use Rattle.network.specs.Words.{greatest_destinations, when, row_at, destinations_of}
use Rattle.network_faults.proofs.OrderLemmas.{few-destinations}
use Rattle.network_faults.proofs.too_many.VlsReview.review.Goals as goal

pub returns-then-has_few_paths : goal.returns-then-has_few_paths
returns-then-has_few_paths c = λ earlier at kept.
    let vl = c.args.vl.now in
    let bound = c.has_few_paths.ensures c.if-has_few_paths.true in
    let few = few-destinations vl in
    let count : length (destinations_of vl) ≤ greatest_destinations = omega arith in
    let none : nat_lt greatest_destinations (length (destinations_of vl)) ≡ false = grind (arith, nat_tests) in
    (ap (λ b. when b (TooMany (row_at Vl earlier))) none, tt)
