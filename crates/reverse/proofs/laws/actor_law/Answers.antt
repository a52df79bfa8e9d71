use Rattle.std.proofs.Common.{◌≡◌, ℕ, ◌∙◌, sym, subst, arith}
use Rattle.virtual_time.specs.Law.{Rules, IsOrder, IsReached}
use Rattle.virtual_time.proofs.Reading.{reached-keeps}
use Rattle.vlink.specs.declared.message.Message.{Message}
use Rattle.vlink.specs.declared.note.Note.{Note}
use Rattle.reverse.specs.Rules.{rules_of}
use Rattle.reverse.specs.Setting.{Setting, simulation_of}
use Rattle.reverse.proofs.laws.actor_law.Goals as goal

-- what the opening state of p has and each message keeps, each reached state has
reached-has : {S K : Type 0} (r : Rules Message S K Note) (O : IsOrder r.order) (x : Setting S) (p : ℕ) (s : S) (Good : S → Type 0) →
    ((s : S) (m : Message) → Good s → Good (r.after s m)) → Good (x.opening p) → IsReached (simulation_of r x) p s → Good s
reached-has r O x p s Good step g h = subst Good (sym h.1) (reached-keeps r O Good step (x.opening p) h.0 g)

pub returns : goal.returns
returns g c = λ x h.
    let r = rules_of g.A.Reversible.plain in
    let O = c.actor_rules_law.ensures.order in
    record {
      order = O;
      offered_once = h.offered_once;
      offered_from = h.offered_from;
      offered_to = h.offered_to;
      offered_in_time = h.offered_in_time;
      sender_is = λ p i s q e m j.
          c.actor_rules_law.ensures.sender s e m j
          ∙ reached-has r O x p s (λ t. g.A.Actor.number t ≡ p) (λ t u k. g.met.A.Actor.number_stays t u ∙ k) (h.number_is p i) q;
      receiver_in = h.receivers;
      later = λ p i s q e m j.
          c.actor_rules_law.ensures.later s e m (reached-has r O x p s g.A.Actor.is_placed (λ t u k. g.met.A.Actor.place_stays t u k) (h.placed p i) q) j;
      in_time = λ p i s q e m j.
          let a = c.actor_rules_law.ensures.in_time s e m j in
          let b : g.A.Actor.end s ≡ x.until = reached-has r O x p s (λ t. g.A.Actor.end t ≡ x.until) (λ t u k. g.met.A.Actor.end_stays t u ∙ k) (h.end_is p i) q in
          omega (arith, a, b);
      numbered = λ p i s q e. c.actor_rules_law.ensures.numbered s e;
      counter_grows = λ p i s q e. c.actor_rules_law.ensures.counter_grows s e;
      undoes = λ p i s q e. c.actor_rules_law.ensures.undoes s e;
    }
