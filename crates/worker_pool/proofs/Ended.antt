-- What holds of a run that is ended.
use Rattle.std.proofs.Common.{◌≡◌, ◌<◌, ◌≤◌, ◌∙◌, ◌++◌, refl, inl, inr, ℕ, ◌+◌, ◌==◌, Bool, true, false, List, [], map, length, get_or, slice_get, append-nil, sym, ap, subst, arith, Some}
use Rattle.std.proofs.lemmas.Bool.{cases_eq}
use Rattle.std.proofs.lemmas.List.Elements.{All-get_or, filter-append}
use Rattle.std.proofs.lemmas.Option.{slice_get-get_or}
use Rattle.vlink.specs.declared.message.Message.{Message}
use Rattle.vlink.specs.Letters.{Row}
use Rattle.vlink.specs.Order.{message_order}
use Rattle.virtual_time.specs.Law.{Part, earlier, rowed, rows_at, Laws, one, IsWhole, behind, waiting_in}
use Rattle.virtual_time.specs.declared.step.Step.{Step}
use Rattle.network.specs.Words.{Plan}
use Rattle.nodes.specs.Words.{NodeState, opening, simulation_of}
use Rattle.nodes.specs.declared.node.NodeRecord.{NodeRecord}
use Rattle.group_queues.specs.declared.block.Word.{Word}
use Rattle.group_queues.specs.Block.{steps_told}
use Rattle.group_exchange.specs.Effects.{block_in}
use Rattle.group_exchange.specs.Keeps.{AreGrouped}
use Rattle.group_exchange.specs.Views.{GroupState, Ledger, in_group, is_of, world_after}
use Rattle.group_exchange.proofs.Owners.{of-one, of-other, of-owner, of-within}
use Rattle.seqsim.specs.Committed.{after, AreCommittedRows}
use Rattle.seqsim.specs.Networks.{AreRowsOf}
use Rattle.seqsim.proofs.CommittedRows.{rows-all}
use Rattle.run_rows.specs.Counts.{moment_of}
use Rattle.worker_pool.specs.Runs.{IsOfWorld, IsEnded}
use Rattle.worker_pool.proofs.GroupRows.{AreOfGroup}

-- the group at a place has committed all that it has done
abbrev pub HasCommitted : Plan → List ℕ → ℕ → GroupState NodeState NodeRecord → Type 0
HasCommitted plan owners g group = (p : ℕ) → is_of owners group.number p ≡ true → ((in_group (simulation_of plan) group).parts p).done ≡ []

-- the rows that have left the group at a place are of moments before that of the place
abbrev pub HasGoneBy : List ℕ → ℕ → ℕ → GroupState NodeState NodeRecord → Type 0
HasGoneBy own end g group = group.gone ≤ moment_of own end g

-- a process within has a group
pub own-group : {processes groups : ℕ} {owners : List ℕ} → AreGrouped processes groups owners → (p : ℕ) → p < processes → (g : ℕ) × (g < groups) × (is_of owners g p ≡ true)
own-group {processes} {groups} {owners} G p i =
    let within : p < length owners = subst (λ n. p < n) (sym G.each) i in (
      get_or owners p 0,
      All-get_or (λ g. g < groups) owners p 0 within G.within,
      of-owner owners (get_or owners p 0) p (slice_get-get_or owners p 0 within),
    )

-- and one beyond has none
pub no-group : {processes groups : ℕ} {owners : List ℕ} → AreGrouped processes groups owners → (p : ℕ) → processes ≤ p → (g : ℕ) → is_of owners g p ≡ true → ⊥
no-group {processes} {groups} {owners} G p i g o = let within = of-within owners g p o in let all = G.each in omega arith

-- rows gathered of the first n groups: at their processes they are those that are committed after these steps, and at no other process is a row
pub record AreCommittedOf (plan : Plan) (owners : List ℕ) (steps : List Step) (n : ℕ) (rows : List Row) : Type 0 where
  pub below : (p g : ℕ) → is_of owners g p ≡ true → g < n → rows_at p rows ≡ rowed (simulation_of plan).rules (opening plan p) ((after plan steps).parts p).committed
  pub above : (p : ℕ) → ((g : ℕ) → is_of owners g p ≡ true → n ≤ g) → rows_at p rows ≡ []

module _ (plan : Plan) (owners : List ℕ) where
  pub rows-of-none : (steps : List Step) → AreCommittedOf plan owners steps 0 []
  rows-of-none steps = record { below = λ p g o i. absurd (omega arith); above = λ p none. refl }

  -- with no step that is not in the journal, what fits is what the journal reaches
  pub of-world : (x : Ledger) (n : ℕ) (group : GroupState NodeState NodeRecord) → group.number ≡ n → plan.until < group.seen → group.held.flow.words ≡ [] →
      ((p : ℕ) → is_of owners group.number p ≡ true →
      (world_after (simulation_of plan) (x.steps ++ block_in (simulation_of plan) owners x group)).parts p ≡ (in_group (simulation_of plan) group).parts p) →
      IsOfWorld plan owners x.steps n group
  of-world x n group number seen none parts =
      let f = simulation_of plan in
      let waiting = waiting_in f (world_after f x.steps) in
      let nothing : block_in f owners x group ≡ [] = ap (λ (words : List Word). map (behind waiting) (steps_told words)) none in
      let all : x.steps ++ block_in f owners x group ≡ x.steps = ap (λ (more : List Step). x.steps ++ more) nothing ∙ append-nil x.steps in
      record {
        number = number;
        seen = seen;
        parts = λ p o. sym (parts p (subst (λ g. is_of owners g p ≡ true) (sym number) o)) ∙ ap (λ (steps : List Step). (world_after f steps).parts p) all;
      }

  module _ (steps : List Step) (groups : List (GroupState NodeState NodeRecord)) where
    module _ (E : IsEnded plan owners steps groups) where
      -- the rows of one group more
      pub rows-next : (n : ℕ) (group : GroupState NodeState NodeRecord) → slice_get groups n ≡ Some group → (rows more longer : List Row) → longer ≡ rows ++ more →
          ((p : ℕ) → is_of owners group.number p ≡ true →
          rows_at p more ≡ rowed (simulation_of plan).rules (opening plan p) ((in_group (simulation_of plan) group).parts p).committed) →
          ((p : ℕ) → is_of owners group.number p ≡ false → rows_at p more ≡ []) → AreCommittedOf plan owners steps n rows → AreCommittedOf plan owners steps (n + 1) longer
      rows-next n group at rows more longer is mine others C =
          subst (AreCommittedOf plan owners steps (n + 1)) (sym is) (record {
            below = λ p g o i. elim (cases_eq g n) [
              | inl d ↦ both p ∙ (ap (λ (xs : List Row). xs ++ rows_at p more) (C.above p (λ h k. let one = of-one owners g h p o k in omega arith))
                  ∙ here p (subst (λ h. is_of owners h p ≡ true) d o))
              | inr d ↦ both p ∙ (ap (λ (xs : List Row). rows_at p rows ++ xs) (there p (of-other owners n g p d o)) ∙ (append-nil (rows_at p rows)
                  ∙ C.below p g o (omega arith)))
            ];
            above = λ p none. both p ∙ (ap (λ (xs : List Row). rows_at p rows ++ xs) (there p (not-of p none)) ∙ (append-nil (rows_at p rows)
                ∙ C.above p (λ g o. let far = none g o in omega arith)));
          })
        where
          both : (p : ℕ) → rows_at p (rows ++ more) ≡ rows_at p rows ++ rows_at p more
          both p = filter-append (λ row. row.place == p) rows more

          numbered : group.number ≡ n
          numbered = (E.each n group at).number

          here : (p : ℕ) → is_of owners n p ≡ true → rows_at p more ≡ rowed (simulation_of plan).rules (opening plan p) ((after plan steps).parts p).committed
          here p o =
              mine p (subst (λ g. is_of owners g p ≡ true) (sym numbered) o)
              ∙ ap (λ (part : Part Message NodeState). rowed (simulation_of plan).rules (opening plan p) part.committed) ((E.each n group at).parts p o)

          there : (p : ℕ) → is_of owners n p ≡ false → rows_at p more ≡ []
          there p o = others p (subst (λ g. is_of owners g p ≡ false) (sym numbered) o)

          not-of : (p : ℕ) → ((g : ℕ) → is_of owners g p ≡ true → n + 1 ≤ g) → is_of owners n p ≡ false
          not-of p none = go (is_of owners n p) refl
            where
              go : (b : Bool) → is_of owners n p ≡ b → b ≡ false
              go true o = absurd (let far = none n o in omega arith)
              go false o = refl

      -- and of all
      pub rows-complete : Laws (simulation_of plan) → (n : ℕ) → n ≡ length groups → (rows : List Row) → AreCommittedOf plan owners steps n rows → AreCommittedRows plan steps rows
      rows-complete L n k rows C =
          rows-all (simulation_of plan) L steps rows record {
            below = λ p i. let own = own-group E.grouped p i in C.below p own.0 own.2 (let few = own.1 in omega arith);
            above = λ p i. C.above p (λ g o. absurd (no-group E.grouped p i g o));
          }

      -- no process of a group has a done event that is not committed
      pub none-done : (n : ℕ) (group : GroupState NodeState NodeRecord) → slice_get groups n ≡ Some group → HasCommitted plan owners n group
      none-done n group at p o =
          let here = E.each n group at in
          let mine = subst (λ g. is_of owners g p ≡ true) here.number o in
          ap (λ (part : Part Message NodeState). part.done) (here.parts p mine)
          ∙ E.finished.all_committed p (let within = of-within owners n p mine in let all = E.grouped.each in omega arith)

      -- there are rows of the one-thread run
      pub some-rows : IsWhole (simulation_of plan) (after plan steps) → (rows : List Row) × AreRowsOf plan rows
      some-rows W = ((one (simulation_of plan) W.event_count).rows, (W.event_count, W.none_waits, refl))

      -- in any interval that begins where none of its rows has left, the rows of a group are those that the one-thread run has of it
      pub in-run : (n : ℕ) (group : GroupState NodeState NodeRecord) → slice_get groups n ≡ Some group → (from to : ℕ) (rows : List Row) → to ≡ plan.until + 1 →
          (to ≤ group.seen → ((p : ℕ) → is_of owners group.number p ≡ true →
          earlier message_order to ((in_group (simulation_of plan) group).parts p).done ≡ []) → AreOfGroup plan owners group.number from to rows) →
          AreOfGroup plan owners n from to rows
      in-run n group at from to rows end whole =
          let here = E.each n group at in
          let seen = here.seen in
          subst (λ g. AreOfGroup plan owners g from to rows) here.number
          (whole (omega arith) (λ p o. ap (earlier message_order to) (none-done n group at p o)))
