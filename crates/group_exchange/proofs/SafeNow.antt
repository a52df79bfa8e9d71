-- A group that sees GVT as it is, with no block: it is safe below that.
use Rattle.std.proofs.Common.{◌≡◌, ℕ, ◌<◌, Bool, true, List, refl, sym, subst, arith}
use Rattle.vlink.specs.declared.message.Message.{Message}
use Rattle.vlink.specs.declared.note.Note.{Note}
use Rattle.virtual_time.specs.Law.{Simulation, Laws, IsSafeGroup, IsSafePart, in_hand}
use Rattle.virtual_time.specs.declared.step.Step.{Step}
use Rattle.virtual_time.proofs.Safety.{safe}
use Rattle.virtual_time.proofs.SafePart.{world-safe}
use Rattle.group_exchange.specs.Views.{world_after}

pub safe-now : {S K : Type 0} (f : Simulation Message S K Note) (L : Laws f) (ours : ℕ → Bool) → ((p : ℕ) → ours p ≡ true → p < f.processes) → (steps : List Step) (g : ℕ) → g ≡ (world_after f steps).gvt →
    IsSafeGroup f ours g (in_hand f g (world_after f steps))
safe-now f L ours within steps g now = record {
  parts = λ p o. subst (λ n. IsSafePart f p n ((world_after f steps).parts p)) (sym now) (world-safe f L steps p (within p o));
  outboxes = λ p o m h. let a = (safe f L steps).outbox p (within p o) m h in omega arith;
  mail = λ p m h. absurd (omega arith);
  seen = refl;
}
