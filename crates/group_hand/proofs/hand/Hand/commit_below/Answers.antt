use Rattle.std.proofs.Common.{ℕ, ◌≡◌, ◌<◌, ◌≤◌, ◌++◌, inl, All, List, [], take, drop, Option, Some, None, IfSome, option_map, slice_get, refl, sym, ap, ◌∙◌, subst, append-nil}
use Rattle.std.proofs.lemmas.List.{take-append-drop, take-map}
use Rattle.std.proofs.lemmas.List.Elements.{All-nil, All-weaker}
use Rattle.vlink.specs.declared.message.Message.{Message}
use Rattle.reverse.specs.Rules.{rules_of}
use Rattle.group_queues.specs.declared.block.Word.{Word}
use Rattle.group_queues.specs.Flow.{Flow, IsFirst}
use Rattle.group_hand.specs.Hands.{IsAsBefore}
use Rattle.group_hand.specs.Undoing.{CameTo}
use Rattle.group_hand.specs.Passing.{held}
use Rattle.group_queues.specs.DoneEvents.{messages_of}
use Rattle.group_queues.specs.Sealing.{CanCommit, Stays, rows_in}
use Rattle.group_hand.proofs.Adding.{adds-commits, adds-no-commit}
use Rattle.group_hand.proofs.Answering.{no-err, no-ok, where-ok}
use Rattle.group_hand.proofs.Still.{as-roomy, is-first, on-err, roomy-both}
use Rattle.group_hand.proofs.Came.{dropped-came}
use Rattle.group_queues.proofs.Forgetting.{of-messages, oldest-then}
use Rattle.group_hand.proofs.Sealed.{commits-nothing, commits-both, commits-many}
use Rattle.group_hand.proofs.hand.Hand.commit_below.Given.{Over}
use Rattle.group_hand.proofs.hand.Hand.commit_below.Goals.{After-first-first, in-Ok, in-Err}
use Rattle.group_hand.proofs.hand.Hand.commit_below.Goals as goal

pub commit_early-requires : goal.commit_early-requires
commit_early-requires g c =
    subst (λ (z : Flow). IsFirst c.first-first.result z.queue) (sym c.first-first.ensures.unchanged)
    (is-first c.first-first.result c.self.inside.letters.queue c.first-first.ensures.among c.first-first.ensures.first c.first-first.ensures.none)

-- the oldest is not early: it stays
stays-late : (moment : ℕ) (flow : Flow) (time : Option ℕ) (oldest : Option Message) → time ≡ option_map (λ m. m.time) oldest → IfSome time (λ t. moment ≤ t) → IfSome oldest (Stays moment flow)
stays-late moment flow time None e late = tt
stays-late moment flow time (Some m) e late = inl (subst (λ o. IfSome o (λ t. moment ≤ t)) e late)

-- after a look at the first message
looked : (g : Over) (c : After-first-first g) → IsAsBefore c.args.self.now (held c.self.inside.members.items c.self.inside.done.events c.self.inside.rows c.first-first.new.self)
looked g c =
    as-roomy c.args.self.now c.self.inside.members.items c.self.inside.done.events c.self.inside.done.events c.self.inside.rows c.self.inside.letters c.first-first.new.self c.self.view_is refl c.first-first.ensures.unchanged

-- and then room was made
refused : (g : Over) (c : After-first-first g) (done : _) (rows : _) (flow : _) → done ≡ c.self.inside.done.events → rows ≡ c.self.inside.rows →
    flow ≡ record c.first-first.new.self { room = flow.room } → IsAsBefore c.args.self.now (held c.self.inside.members.items done rows flow)
refused g c done rows flow d r e =
    subst (λ z. IsAsBefore c.args.self.now (held c.self.inside.members.items done z flow)) (sym r)
    (as-roomy c.args.self.now c.self.inside.members.items c.self.inside.done.events done c.self.inside.rows c.self.inside.letters flow c.self.view_is d
    (roomy-both c.self.inside.letters c.first-first.new.self flow c.first-first.ensures.unchanged e))

-- what became of the letters, whatever joined the block
changed : (g : Over) (c : After-first-first g) (now : Flow) (ws : List Word) → now ≡ record c.first-first.new.self { words = ws; room = now.room } →
    now ≡ record c.args.self.now.flow { words = now.words; room = now.room }
changed g c now ws e =
    subst (λ (z : List Word). now ≡ record c.first-first.new.self { words = z; room = now.room }) (sym (ap (λ (z : Flow). z.words) e)) e ∙
    ap (λ (z : Flow). record z { words = now.words; room = now.room }) (c.first-first.ensures.unchanged ∙ ap (λ h. record h.flow { room = c.first-first.new.self.room }) c.self.view_is)

-- where none is early, nothing changed
pub returns-then-not-is_early-clause-did : goal.returns-then-not-is_early-clause-did
returns-then-not-is_early-clause-did g c =
    commits-nothing g.R.Reversible.plain g.R.Reversible.is_value c.actor_rules_law.ensures.order c.actor_rules_law.ensures.undoes c.args.moment c.args.self.now c.args.self.now refl

pub returns-then-not-is_early-clause-sealed : goal.returns-then-not-is_early-clause-sealed
returns-then-not-is_early-clause-sealed g c =
    ([], refl, ap (λ xs. record c.args.self.now.rows { all = xs }) (sym (append-nil c.args.self.now.rows.all)), All-nil (λ (m : Message). m.time < c.args.moment))

pub returns-then-not-is_early-clause-left : goal.returns-then-not-is_early-clause-left
returns-then-not-is_early-clause-left g c =
    subst (λ h. IfSome (slice_get (messages_of h.done) 0) (Stays c.args.moment h.flow)) c.self.view_is
    (stays-late c.args.moment c.self.inside.letters c.oldest_time.result (slice_get (messages_of c.self.inside.done.events) 0) c.oldest_time.ensures (c.if-not-is_early.ensures.no refl))

pub returns-then-not-is_early-clause-words : goal.returns-then-not-is_early-clause-words
returns-then-not-is_early-clause-words g c = adds-no-commit _ _ refl

pub returns-then-not-is_early-clause-flow : goal.returns-then-not-is_early-clause-flow
returns-then-not-is_early-clause-flow g c = refl

pub returns-clause-did : goal.returns-clause-did
returns-clause-did g c =
    let r = rules_of g.R.Reversible.plain in
    let V = g.R.Reversible.is_value in
    let events = c.self.inside.done.events in
    let mid = held c.self.inside.members.items events c.self.inside.rows c.first-first.new.self in
    let new = held c.self.inside.members.items c.commit_early.new.done.events c.commit_early.new.sealed c.commit_early.new.self in
    let at = (goal.at.returns-clause-did g c).After-first-first in
    elim c.match-commit_early.branch [
      | in-Ok w ↦
          commits-both r V c.args.moment c.args.self.now mid new
          (commits-nothing g.R.Reversible.plain V c.actor_rules_law.ensures.order c.actor_rules_law.ensures.undoes c.args.moment c.args.self.now mid (looked g at))
          (commits-many g.R.Reversible.plain V c.actor_rules_law.ensures.order c.actor_rules_law.ensures.undoes c.args.moment (take w.in-Ok._count events) mid new (drop w.in-Ok._count events) refl
          (sym (take-append-drop w.in-Ok._count events))
          w.in-Ok.ensures.events w.in-Ok.ensures.rows w.in-Ok.ensures.told
          (of-messages (CanCommit c.args.moment c.first-first.new.self) w.in-Ok._count events w.in-Ok.ensures.early))
      | in-Err w ↦
          commits-nothing g.R.Reversible.plain V c.actor_rules_law.ensures.order c.actor_rules_law.ensures.undoes c.args.moment c.args.self.now new
          (refused g at c.commit_early.new.done.events c.commit_early.new.sealed c.commit_early.new.self w.in-Err.ensures.events_stay w.in-Err.ensures.rows_stay w.in-Err.ensures.letters_stay)
    ]

pub returns-clause-unchanged : goal.returns-clause-unchanged
returns-clause-unchanged g c =
    let at = (goal.at.returns-clause-unchanged g c).After-first-first in
    elim c.match-commit_early.branch [
      | in-Ok w ↦ no-err _ _ _ w.result-is
      | in-Err w ↦ on-err _ _ (refused g at c.commit_early.new.done.events c.commit_early.new.sealed c.commit_early.new.self w.in-Err.ensures.events_stay w.in-Err.ensures.rows_stay w.in-Err.ensures.letters_stay)
    ]

pub returns-clause-left : goal.returns-clause-left
returns-clause-left g c =
    elim c.match-commit_early.branch [
      | in-Ok w ↦ where-ok _ _ w.result-is
          (subst (λ ds. IfSome (slice_get (messages_of ds) 0) (Stays c.args.moment c.commit_early.new.self)) (sym w.in-Ok.ensures.events)
          (subst (λ f. IfSome (slice_get (messages_of (drop w.in-Ok._count c.self.inside.done.events)) 0) (Stays c.args.moment f)) (sym w.in-Ok.ensures.told)
          (oldest-then (Stays c.args.moment c.first-first.new.self) w.in-Ok._count c.self.inside.done.events w.in-Ok.ensures.left)))
      | in-Err w ↦ no-ok _ _ _ w.result-is
    ]

pub invariant_of-self : goal.invariant_of-self
invariant_of-self g c = (
  elim c.match-commit_early.branch [
    | in-Ok w ↦ subst (λ ds. (p : ℕ) → CameTo (rules_of g.R.Reversible.plain) g.R.Reversible.is_value c.self.inside.members.items ds p) (sym w.in-Ok.ensures.events)
        (dropped-came (rules_of g.R.Reversible.plain) c.actor_rules_law.ensures.order g.R.Reversible.is_value c.self.inside.members.items w.in-Ok._count c.self.inside.done.events c.self.invariant.0)
    | in-Err w ↦ subst (λ ds. (p : ℕ) → CameTo (rules_of g.R.Reversible.plain) g.R.Reversible.is_value c.self.inside.members.items ds p) (sym w.in-Err.ensures.events_stay) c.self.invariant.0
  ],
  c.self.invariant.1,
  c.self.invariant.2,
)

pub returns-clause-sealed : goal.returns-clause-sealed
returns-clause-sealed g c =
    let events = c.self.inside.done.events in
    elim c.match-commit_early.branch [
      | in-Ok w ↦ where-ok _ _ w.result-is (
        take w.in-Ok._count events,
        ap (λ h. h.done) (sym c.self.view_is) ∙ (sym (take-append-drop w.in-Ok._count events) ∙ ap (λ ds. take w.in-Ok._count events ++ ds) (sym w.in-Ok.ensures.events)),
        w.in-Ok.ensures.rows ∙ ap (λ h. record h.rows { all = h.rows.all ++ rows_in (take w.in-Ok._count events) }) c.self.view_is,
        subst (λ ms. All (λ m. m.time < c.args.moment) ms) (take-map (λ d. d.message) w.in-Ok._count events)
            (All-weaker (CanCommit c.args.moment c.first-first.new.self) (λ m. m.time < c.args.moment) (λ m k. k.early) (take w.in-Ok._count (messages_of events)) w.in-Ok.ensures.early),
      )
      | in-Err w ↦ no-ok _ _ _ w.result-is
    ]

pub returns-clause-flow : goal.returns-clause-flow
returns-clause-flow g c =
    let at = (goal.at.returns-clause-flow g c).After-first-first in
    elim c.match-commit_early.branch [
      | in-Ok w ↦ changed g at c.commit_early.new.self _ w.in-Ok.ensures.told
      | in-Err w ↦ changed g at c.commit_early.new.self c.first-first.new.self.words w.in-Err.ensures.letters_stay
    ]

pub returns-clause-words : goal.returns-clause-words
returns-clause-words g c =
    let before = ap (λ h. h.flow.words) (looked g (goal.at.returns-clause-words g c).After-first-first) in
    elim c.match-commit_early.branch [
      | in-Ok w ↦ adds-commits c.args.self.now.flow.words c.first-first.new.self.words c.commit_early.new.self.words (take w.in-Ok._count c.self.inside.done.events) before
          (ap (λ (z : Flow). z.words) w.in-Ok.ensures.told)
      | in-Err w ↦ adds-no-commit _ _ (ap (λ (z : Flow). z.words) w.in-Err.ensures.letters_stay ∙ before)
    ]
