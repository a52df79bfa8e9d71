-- When what is held is that of a finished world.
use Rattle.std.proofs.Common.{◌≡◌, ◌↔◌, ◌+◌, ℕ, ◌<◌, [], Bool, false, IsTrue, arith}
use Rattle.vlink.specs.declared.message.Message.{Message}
use Rattle.vlink.specs.declared.note.Note.{Note}
use Rattle.virtual_time.specs.Law.{Rules, IsFinished}
use Rattle.actor_world.specs.Worlds.{Holdings, AtEachWorld}

module _ {S K : Type 0} (r : Rules Message S K Note) (number end : S → ℕ) (is_placed : S → Type 0) (is_value : S → Message → Type 0) (held : Holdings S K) where
  -- where GVT is the moment after the end, just a world whose events are all committed is finished
  pub over : held.gvt ≡ held.until + 1 → (answer : Bool) →
      AtEachWorld r number end is_placed is_value held (λ f w. IsTrue answer ↔ ((p : ℕ) → p < f.processes → (w.parts p).done ≡ [])) →
      AtEachWorld r number end is_placed is_value held (λ f w. IsTrue answer ↔ IsFinished f w)
  over g answer all = λ x laid steps h. (
    λ t. record { over = let a = h.gvt in let b = h.until in omega arith; all_committed = (all x laid steps h).0 t },
    λ d. (all x laid steps h).1 d.all_committed,
  )

  -- where it is not, no world is
  pub running : (held.gvt ≡ held.until + 1 → ⊥) → AtEachWorld r number end is_placed is_value held (λ f w. IsTrue false ↔ IsFinished f w)
  running n = λ x laid steps h. (
    λ t. absurd cc,
    λ d. absurd (n (let a = h.gvt in let b = h.until in let e = d.over in omega arith)),
  )

pub ruleset finished = (over, running)
