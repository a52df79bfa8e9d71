-- An order that was done, or whose fault was told, has ended.
use Rattle.std.proofs.Common.{◌≡◌, ◌∙◌, ◌⊎◌, ◌≢◌, ℕ, inl, inr, List, [], Result, Ok, Err, sym, subst, OnOk, OnErr, IfErr}
use Rattle.clap.specs.Words.{IsAmong, Text}
use Rattle.clap.specs.declared.error.kind.ErrorKind.{ErrorKind}
use Rattle.clap.specs.declared.error.kind.ErrorKind.TheVariants as kind
use Rattle.command_line.specs.declared.orders.Order.{Order}
use Rattle.network.specs.Words.{Plan}
use Rattle.commands.specs.declared.fault.Fault.{Fault}
use Rattle.commands.specs.declared.fault.Fault.TheVariants.{CannotWrite}
use Rattle.commands.specs.Files.{TellsAlone}
use Rattle.commands.specs.Naming.{net_of}
use Rattle.commands.specs.Outside.{Outside}
use Rattle.commands.specs.Reading.{GivesNetwork}
use Rattle.commands.specs.Streams.{IsHeard, IsTold}
use Rattle.commands.specs.Telling.{TellsOne}
use Rattle.afdxsim.specs.Orders.{Done, DoneOn, HasEnded, IsFaultOf, IsFaultOn, IsLineOf, asks_progress}
use Rattle.afdxsim.specs.Performing.{found_in}
use Rattle.commands.proofs.Outcomes.{ok_then}

err_both : {T F Q : Type 0} {P R : F → Type 0} (r : Result T F) → IfErr r P → OnErr r Q → ((e : F) → P e → Q → R e) → IfErr r R
err_both (Ok x) p q f = tt
err_both (Err e) p q f = f e p q

module _ {S F O E : Type 0} (outside : Outside S F O E) (r : Result (Unit {0}) Fault) (order : Order) where
  -- the order was done on a network that was read before: the host was `old` before, and `begun` once it was read
  module _ (plan : Plan) (net : List ℕ) (old begun new : S) (at : net ≡ net_of order) (same : begun ≡ old)
      (given : GivesNetwork (outside.gives old net) plan) where
    gives : GivesNetwork (outside.gives old (net_of order)) plan
    gives = subst (λ (n : List ℕ). GivesNetwork (outside.gives old n) plan) at given

    pub done_there : OnOk r (DoneOn outside begun new plan order) → OnOk r (Done outside old new order)
    done_there did = ok_then r did (λ is. (plan, gives, subst (λ host. DoneOn outside host new plan order) same is))

    pub fault_there : IfErr r (IsFaultOn outside begun new plan order) → OnErr r (IsHeard outside begun (asks_progress order) (IsLineOf order plan) (outside.errors new)) →
        IfErr r (IsFaultOf outside old new order)
    fault_there met hears = err_both r met hears (λ fault is h. inr (
      plan,
      gives,
      subst (λ host. IsFaultOn outside host new plan order fault) same is,
      subst (λ host. IsHeard outside host (asks_progress order) (IsLineOf order plan) (outside.errors new)) same h,
    ))

  -- the host was `old` before and `after` once the order was done or met a fault; then that was told, and it is `new`
  pub has_ended : (status : ℕ) (old after new : S) → OnOk r (Done outside old after order) → IfErr r (IsFaultOf outside old after order) →
      IfErr r (λ fault. fault ≢ CannotWrite → outside.output after ≡ outside.output old) →
      OnOk r ((status ≡ 0) × (new ≡ after)) → IfErr r (λ fault. TellsOne fault (IsTold outside after new status)) → OnErr r (TellsAlone outside after new) →
      outside.output new ≡ outside.output after → HasEnded outside old new order status
  has_ended status old after new done met kept zero told alone same = go r done met kept zero told alone
    where
      go : (r : Result (Unit {0}) Fault) → OnOk r (Done outside old after order) → IfErr r (IsFaultOf outside old after order) →
          IfErr r (λ fault. fault ≢ CannotWrite → outside.output after ≡ outside.output old) →
          OnOk r ((status ≡ 0) × (new ≡ after)) → IfErr r (λ fault. TellsOne fault (IsTold outside after new status)) → OnErr r (TellsAlone outside after new) →
          HasEnded outside old new order status
      go (Ok x) done met kept zero told alone = inl (zero.0, subst (λ host. Done outside old host order) (sym zero.1) done)
      go (Err fault) done met kept zero told alone = inr (fault, after, met, alone, told, (λ other. same ∙ kept other))

-- words that are accepted, where memory was refused before they were an order
pub memory : (words : List Text) (k : ErrorKind) → found_in words ≡ [] → (k ≡ kind.OutOfMemory) ⊎ IsAmong k (found_in words) → k ≡ kind.OutOfMemory
memory words k none (inl is) = is
memory words k none (inr among) = absurd (subst (IsAmong k) none among)
