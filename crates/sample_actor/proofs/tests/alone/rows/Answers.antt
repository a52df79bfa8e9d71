use Rattle.std.proofs.Common.{[], ◌∷◌, ◌++◌, refl, ap, ◌∙◌}
use Rattle.vlink.specs.declared.message.Message.{Message}
use Rattle.vlink.specs.declared.message.Body.TheVariants.{PortFree}
use Rattle.sample_actor.proofs.Alone.{setting, opens, laid-out}
use Rattle.sample_actor.proofs.tests.alone.rows.Goals as goal

pub run_actors-requires : goal.run_actors-requires
run_actors-requires c =
    let actor = c.args.actor in
    let offer : Message = record { time = c.default.result; receiver = 0; sender = 1; number = 0; body = PortFree 0 } in (
      setting actor offer,
      opens actor offer _ _ (c.deref_mut.ensures.value ∙ (c.in_ok-push.ensures.items ∙ ap (λ xs. xs ++ actor ∷ []) c.new-actors.ensures.items)) refl,
      c.actor_law.ensures (setting actor offer) (laid-out c.actor_rules_law.ensures.order actor c.requires offer refl refl c.default.ensures),
    )
