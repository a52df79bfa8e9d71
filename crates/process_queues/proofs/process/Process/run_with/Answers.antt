use Rattle.std.proofs.Common.{◌≡◌, ℕ, ◌+◌, ◌≤◌, ◌<◌, None, Some, Ok, Err, refl, sym, ap, ◌∙◌, subst, arith, IsSome}
use Rattle.std.proofs.Math.Nat.{lt_of_not-le}
use Rattle.std.proofs.lemmas.Result.{err_from_is_err_and}
use Rattle.vlink.specs.Numbering.{greatest_number}
use Rattle.virtual_time.specs.Law.{handled, next_of}
use Rattle.reverse.specs.declared.sends.TheConstants.{MOST_SENT}
use Rattle.reverse.specs.Rules.{rules_of}
use Rattle.process_queues.specs.Queues.{StandsFor, with_done, state_in}
use Rattle.process_queues.proofs.Beside.{with_done-handled}
use Rattle.process_queues.proofs.Counting.{of-messages}
use Rattle.process_queues.proofs.Stragglers.{beside-present, found-beside}
use Rattle.process_queues.proofs.Next.{next-stands}
use Rattle.process_queues.proofs.Standing.{keeps, ran-stands, retallied-stands}
use Rattle.process_queues.proofs.process.Process.run_with.Goals as goal

not-ok : {A E : Type 0} (a : A) (e : E) → Ok a ≡ Err e → ⊥
not-ok a e h = cc

not-some : {A : Type 0} (a : A) → Some a ≡ None → ⊥
not-some a h = cc

not-short : (needed most : ℕ) → needed ≤ most → most < needed → ⊥
not-short needed most enough short = omega arith

pub returns-in_default : goal.returns-in_default
returns-in_default g c =
    let r = rules_of g.R.Reversible.plain in
    let none = sym c.in_default.is ∙ c.next.ensures.next in
    record {
      ran = record {
        ran = λ opening part h.
            let next : None ≡ next_of r.order part = sym c.in_default.is ∙ c.next.ensures.stands opening part h in
            subst (λ z. StandsFor r g.R.Reversible.is_value opening z c.args.self.now.queues) (ap (handled r part) next) h;
        handled = λ opening part h. sym c.in_default.is ∙ c.next.ensures.stands opening part h;
        next = none;
        tray = refl;
        left = refl;
        idle = λ e. refl;
      };
      exhausted = (λ e. absurd (not-ok _ _ e), λ n. absurd (let some = subst IsSome (sym none) n.0 in let k : ⊥ = cc in k));
      refused = tt;
      unchanged = tt;
    }

pub returns-then-not-has_numbers : goal.returns-then-not-has_numbers
returns-then-not-has_numbers g c =
    let state : c.actor.result.now ≡ state_in c.args.self.now.queues = c.actor.ensures ∙ ap (λ z. z.queues.past.state) c.self.view_is in
    record {
      ran = tt;
      exhausted = (
        λ e. (
          subst IsSome (sym c.in-Some.is ∙ c.next.ensures.next) refl,
          lt_of_not-le (λ enough. let no = c.if-not-has_numbers.ensures.1 (rw state enough) in cc),
        ),
        λ n. refl,
      );
      refused = λ opening part h. subst IsSome (sym c.in-Some.is ∙ c.next.ensures.stands opening part h) refl;
      unchanged = refl;
    }

pub returns-in_err-handle : goal.returns-in_err-handle
returns-in_err-handle g c =
    let state : c.actor.result.now ≡ state_in c.args.self.now.queues = c.actor.ensures ∙ ap (λ z. z.queues.past.state) c.self.view_is in
    let enough = subst (λ s. g.R.Reversible.plain.counter s + MOST_SENT ≤ greatest_number) state (c.if-not-has_numbers.ensures.0 refl) in
    let fault = err_from_is_err_and c.from_residual.result c.from_residual.ensures.1 in
    rw (fault.1 ∙ ap (λ z. Err z) fault.2)
    (record {
      ran = tt;
      exhausted = (λ e. absurd (let k : ⊥ = cc in k), λ n. absurd (not-short _ _ enough n.1));
      refused = λ opening part h. subst IsSome (sym c.in-Some.is ∙ c.next.ensures.stands opening part h) refl;
      unchanged = rw (c.in_err-handle.ensures.unchanged, c.in_err-handle.ensures.kept) (ap (λ z. z.queues) c.self.view_is);
    })

pub returns : goal.returns
returns g c =
    let r = rules_of g.R.Reversible.plain in
    let R = of-messages g.R.Reversible.plain c.actor_rules_law.ensures.order c.actor_rules_law.ensures.undoes in
    let m = c.in-Some.message in
    let t = c.self.inside.tally in
    let done = c.self.inside.past.done in
    let state : c.actor.result.now ≡ state_in c.args.self.now.queues = c.actor.ensures ∙ ap (λ z. z.queues.past.state) c.self.view_is in
    let enough = subst (λ s. g.R.Reversible.plain.counter s + MOST_SENT ≤ greatest_number) state (c.if-not-has_numbers.ensures.0 refl) in
    record {
      ran = record {
        ran = λ opening part h.
            let k = rw (← c.self.view_is) at h in
            let next : next_of r.order part ≡ Some m = sym (c.next.ensures.stands opening part h) ∙ c.in-Some.is in
            let taken = c.take_present.ensures.present (beside-present R k t refl m (sym (next-stands r R g.R.Reversible.is_value opening part _ k) ∙ next)) in
            retallied-stands (ran-stands R k m next c.in_ok-handle.ensures.valid refl) (with_done c.take_present.new.self c.handle.new.self.done)
            (λ x. sym (with_done-handled R.messages m t c.take_present.new.self done c.handle.new.self.done _ taken refl (ap (λ p. p.done) c.in_ok-handle.ensures.handled) x))
            (rw (c.in_ok-handle.ensures.handled, c.in_ok-handle.ensures.sent) refl);
        handled = λ opening part h. sym c.in-Some.is ∙ c.next.ensures.stands opening part h;
        next = sym c.in-Some.is ∙ c.next.ensures.next;
        tray = ap (λ z. z.queues.tray) c.self.view_is;
        left = ap (λ z. z.queues.left) c.self.view_is;
        idle = λ e. absurd (not-some _ e);
      };
      exhausted = (λ e. absurd (not-ok _ _ e), λ n. absurd (not-short _ _ enough n.1));
      refused = tt;
      unchanged = tt;
    }

pub invariant_of-self : goal.invariant_of-self
invariant_of-self g c = rw (c.in_err-handle.ensures.unchanged, c.in_err-handle.ensures.kept) c.self.invariant

pub invariant_of-self-2 : goal.invariant_of-self-2
invariant_of-self-2 g c =
    let R = of-messages g.R.Reversible.plain c.actor_rules_law.ensures.order c.actor_rules_law.ensures.undoes in
    keeps c.self.view_is c.self.invariant (returns g c).ran.ran
    (λ opening part h s. found-beside R s c.take_present.new.self refl c.next_after-self-inside.ensures c.newest.ensures)
