use Rattle.std.proofs.Common.{◌≡◌, ℕ, ◌+◌, List, Option, refl, ap, ◌∙◌, arith, unwrap_or, Ordering, None, Some}
use Rattle.std.proofs.Math.Path.{fun_ext}
use Rattle.std.specs.BTreeMap.Entry.{map_with_value}
use Rattle.std.specs.BTreeMap.{insert_entry, is_at}
use Rattle.std.specs.Map.{lookup}
use Rattle.std.specs.Option.{option_map_or}
use Rattle.trace_tables.specs.declared.loss.Loss.{Loss}
use Rattle.trace_tables.specs.Losses.{loss_cmp, count_in, with_loss}
use Rattle.trace_tables.proofs.drops.add_loss.Goals as goal

or-none : (o : Option ℕ) → unwrap_or o 0 ≡ option_map_or (λ n. n) o 0
or-none None = refl
or-none (Some n) = refl

-- the count that is found by an order that is that of losses
found : (cmp : Loss → Loss → Ordering) → ((a b : Loss) → cmp a b ≡ loss_cmp a b) → (counts : List (Loss × ℕ)) (loss : Loss) → unwrap_or (lookup (is_at (cmp loss)) counts) 0 ≡ count_in counts loss
found cmp same counts loss = ap (λ (order : Loss → Loss → Ordering). unwrap_or (lookup (is_at (order loss)) counts) 0) (fun_ext (λ a. fun_ext (λ b. same a b))) ∙ or-none (lookup (is_at (loss_cmp loss)) counts)

-- and the count that is put by it
put : (cmp : Loss → Loss → Ordering) → ((a b : Loss) → cmp a b ≡ loss_cmp a b) → (counts : List (Loss × ℕ)) (loss : Loss) (n : ℕ) → insert_entry cmp counts loss n ≡ insert_entry loss_cmp counts loss n
put cmp same counts loss n = ap (λ (order : Loss → Loss → Ordering). insert_entry order counts loss n) (fun_ext (λ a. fun_ext (λ b. same a b)))

pub overflow_add-drops : goal.overflow_add-drops
overflow_add-drops c =
    let e : c.or_insert.result.now ≡ count_in c.args.drops.now.entries c.args.loss =
    c.or_insert.ensures.value ∙ ap (λ o. unwrap_or o 0) c.in_ok-drops.ensures.value ∙ found _ c.loss_order_law.ensures c.args.drops.now.entries c.args.loss in
    omega (arith, c.requires)

pub returns : goal.returns
returns c =
    let counts = c.args.drops.now.entries in
    let e : c.or_insert.result.now ≡ count_in counts c.args.loss =
    c.or_insert.ensures.value ∙ ap (λ o. unwrap_or o 0) c.in_ok-drops.ensures.value ∙ found _ c.loss_order_law.ensures counts c.args.loss in
    let all : (map_with_value c.in_ok-drops.field-0 (c.or_insert.result.now + 1)).entries ≡ with_loss counts c.args.loss =
    c.in_ok-drops.ensures.update.1 (c.or_insert.result.now + 1)
    ∙ put _ c.loss_order_law.ensures counts c.args.loss (c.or_insert.result.now + 1)
    ∙ ap (λ n. insert_entry loss_cmp counts c.args.loss (n + 1)) e in
    grind (arith, all)
