use Rattle.std.proofs.Common.{◌≡◌, ◌<◌, ℕ, List, [], ◌∷◌, ◌++◌, length, map, refl, ap, sym, ◌∙◌, arith}
use Rattle.std.proofs.lemmas.Bool.Decides.{nat_tests}
use Rattle.std.proofs.lemmas.List.{length-map}
use Rattle.network.specs.Words.{source_among, items_of}
use Rattle.network.proofs.plan.Routed.source.Goals as goal

-- where there are no paths on A, and where there are some
source-of-b : (a b : List (List ℕ)) → length a ≡ 0 → source_among (a ++ b) ≡ source_among b
source-of-b [] b h = refl
source-of-b (path ∷ a) b h = cc

source-of-a : (a b : List (List ℕ)) → 0 < length a → source_among (a ++ b) ≡ source_among a
source-of-a [] b h = absurd (omega arith)
source-of-a (path ∷ a) b h = refl

pub returns-then-is_empty : goal.returns-then-is_empty
returns-then-is_empty c =
    let vl = c.args.self.now in
    let a = c.self.inside.a in
    let a_is : map items_of a.items ≡ vl.a = ap (λ v. v.a) c.self.view_is in
    let len : length vl.a ≡ a.len = ap length (sym a_is) ∙ length-map a.items items_of ∙ sym a.ok.0 in
    let none : length vl.a ≡ 0 = grind (arith, nat_tests) in
    c.source_among.ensures ∙ ap (λ xs. source_among (map items_of xs)) c.as_slice.ensures.value ∙ ap (λ v. source_among v.b) c.self.view_is ∙ sym (source-of-b vl.a vl.b none)

pub returns-else-is_empty : goal.returns-else-is_empty
returns-else-is_empty c =
    let vl = c.args.self.now in
    let a = c.self.inside.a in
    let a_is : map items_of a.items ≡ vl.a = ap (λ v. v.a) c.self.view_is in
    let len : length vl.a ≡ a.len = ap length (sym a_is) ∙ length-map a.items items_of ∙ sym a.ok.0 in
    let some : 0 < length vl.a = grind (arith, nat_tests) in
    c.source_among-else-is_empty.ensures ∙ ap (λ xs. source_among (map items_of xs)) c.as_slice-else-is_empty.ensures.value ∙ ap source_among a_is ∙ sym (source-of-a vl.a vl.b some)
