use Rattle.std.proofs.Common.{◌≡◌, ℕ, ◌+◌, ◌<◌, ◌≤◌, [], All, drop, length, take, refl, subst, sym, ap, ◌∙◌}
use Rattle.vlink.specs.Letters.{Row}
use Rattle.reverse.specs.Rules.{rules_of}
use Rattle.reverse.specs.Setting.{Setting}
use Rattle.virtual_time.specs.Law.{World}
use Rattle.vlink.specs.declared.message.Message.{Message}
use Rattle.group_hand.specs.Hands.{StandsForGroup}
use Rattle.group_hand.specs.Passing.{held}
use Rattle.group_queues.specs.Rows.{Sealed}
use Rattle.group_hand.proofs.Going.{stands-kept}
use Rattle.group_hand.proofs.hand.Hand.let_rows_go.Given.{Over}
use Rattle.group_hand.proofs.hand.Hand.let_rows_go.Goals.{After-let_go}
use Rattle.group_hand.proofs.hand.Hand.let_rows_go.Goals as goal

-- what is told of it is what was told of its rows
kept : (g : Over) (c : After-let_go g) → held c.self.inside.members.items c.self.inside.done.events c.let_go.new.self c.self.inside.letters
    ≡ record c.args.self.now { rows = record c.args.self.now.rows { left = c.let_go.new.self.left } }
kept g c =
    (λ j. held c.self.inside.members.items c.self.inside.done.events (record { all = c.let_go.ensures.all j; left = c.let_go.new.self.left }) c.self.inside.letters) ∙
    (λ j. record (c.self.view_is j) { rows = record (c.self.view_is j).rows { left = c.let_go.new.self.left } })

gone : (g : Over) (c : After-let_go g) → (count : ℕ) × (c.let_go.new.self.left ≡ c.args.self.now.rows.left + count)
    × (count ≤ length (drop c.args.self.now.rows.left c.args.self.now.rows.all))
    × All (λ (row : Row). row.message.time < c.args.moment) (take count (drop c.args.self.now.rows.left c.args.self.now.rows.all))
gone g c =
    subst (λ (r : Sealed). (count : ℕ) × (c.let_go.new.self.left ≡ r.left + count) × (count ≤ length (drop r.left r.all))
    × All (λ (row : Row). row.message.time < c.args.moment) (take count (drop r.left r.all)))
    (ap (λ h. h.rows) c.self.view_is) c.let_go.ensures.gone

stands : (g : Over) (c : After-let_go g) (x : Setting _) (v : World Message _) → StandsForGroup (rules_of g.R.Reversible.plain) g.R.Reversible.is_value x v c.args.self.now →
    StandsForGroup (rules_of g.R.Reversible.plain) g.R.Reversible.is_value x v (held c.self.inside.members.items c.self.inside.done.events c.let_go.new.self c.self.inside.letters)
stands g c x v s =
    let r = rules_of g.R.Reversible.plain in
    let V = g.R.Reversible.is_value in
    let old = held c.self.inside.members.items c.self.inside.done.events c.self.inside.rows c.self.inside.letters in
    let new = held c.self.inside.members.items c.self.inside.done.events c.let_go.new.self c.self.inside.letters in
    let t = subst (StandsForGroup r V x v) (sym c.self.view_is) s in
    stands-kept r c.actor_rules_law.ensures.order V c.actor_rules_law.ensures.undoes x v old new [] [] refl refl c.let_go.ensures.all (λ y. refl) refl refl (λ q. refl) t.elsewhere t

pub returns-clause-rows : goal.returns-clause-rows
returns-clause-rows g c = kept g (goal.at.returns-clause-rows g c).After-let_go

pub returns-clause-gone : goal.returns-clause-gone
returns-clause-gone g c = gone g (goal.at.returns-clause-gone g c).After-let_go

pub returns-clause-stands : goal.returns-clause-stands
returns-clause-stands g c = λ x v s. stands g (goal.at.returns-clause-stands g c).After-let_go x v s
