-- A setting whose processes are nodes and lines.
use Rattle.std.specs.Prelude.{◌≡◌, ℕ, ◌<◌, ◌==◌, Bool, true, false, All}
use Rattle.vlink.specs.declared.message.Body.{Body}
use Rattle.vlink.specs.declared.message.Body.TheVariants.{Offer}
use Rattle.reverse.specs.Setting.{Setting}
use Rattle.nodes.specs.rules.Node.{NodeState}

abbrev pub is_offer : Body → Bool
is_offer (Offer vl size sub) = true
is_offer _ = false

-- the message offers a frame of virtual link v
abbrev pub is_offer_of : ℕ → Body → Bool
is_offer_of v (Offer vl bytes sub) = vl.0 == v
is_offer_of v _ = false

-- each process has its number and runs to the end of the run, and the first messages are offers
pub record IsOfNodes (x : Setting NodeState) : Type 0 where
  pub number : (p : ℕ) → p < x.processes → (x.opening p).sender.number ≡ p
  pub until : (p : ℕ) → p < x.processes → (x.opening p).sender.until ≡ x.until
  pub offered : All (λ m. is_offer m.body ≡ true) x.offers
