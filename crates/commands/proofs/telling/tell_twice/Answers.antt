use Rattle.std.proofs.Common.{◌∙◌, inl, refl, ap}
use Rattle.std.specs.Io.KnownBytes.{append_known}
use Rattle.commands.proofs.telling.tell_twice.Goals as goal

pub returns-in-Ok-clause-told : goal.returns-in-Ok-clause-told
returns-in-Ok-clause-told g c =
    inl (refl, λ same. c.say.ensures.took same ∙ ap (append_known (g.E.Sink.taken c.args.errors.now)) (c.as_str.ensures.value ∙ c.in-Ok.ensures))
