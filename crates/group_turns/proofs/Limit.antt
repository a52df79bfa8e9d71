-- The limit of a journal stays.
use Rattle.std.proofs.Common.{◌≡◌, ℕ, List, [], ◌∷◌, Bool, true, false, ap, Result, Ok, Err, IfOk, OnOk, OnErr}
use Rattle.vlink.specs.declared.message.Message.{Message}
use Rattle.vlink.specs.declared.note.Note.{Note}
use Rattle.virtual_time.specs.Law.{Simulation}
use Rattle.group_queues.specs.declared.block.Word.{Word}
use Rattle.journal.specs.declared.fault.PoolFault.{PoolFault}
use Rattle.group_exchange.specs.Views.{Ledger, GroupState}
use Rattle.group_exchange.specs.Effects.{Collects, CountsDone, IsGroupAsBefore, Posts, posts, Publishes, publishes}

module _ {S K : Type 0} (f : Simulation Message S K Note) (owners : List ℕ) where
  pub collect-limit : (x : Ledger) (h : GroupState S K) (y : Ledger) (k : GroupState S K) (result : Result ℕ PoolFault) →
      IfOk result (λ count. Collects f owners x h y k count) → OnErr result ((y ≡ x) × IsGroupAsBefore h k) → y.limit ≡ x.limit
  collect-limit x h y k (Ok count) C same = ap (λ (l : Ledger). l.limit) C.exchange
  collect-limit x h y k (Err fault) C same = ap (λ (l : Ledger). l.limit) same.0

  with-words : (words : List Word) (x : Ledger) (h : GroupState S K) (y : Ledger) (k : GroupState S K) → posts f owners words x h y k → y.limit ≡ x.limit
  with-words [] x h y k P = ap (λ (l : Ledger). l.limit) P.0
  with-words (d ∷ ds) x h y k P = ap (λ (l : Ledger). l.limit) P.exchange

  pub post-limit : {X : Type 0} (x : Ledger) (h : GroupState S K) (y : Ledger) (k : GroupState S K) (result : Result X PoolFault) →
      OnOk result (Posts f owners x h y k) → OnErr result ((y ≡ x) × CountsDone h k) → y.limit ≡ x.limit
  post-limit x h y k (Ok _) P same = with-words h.held.flow.words x h y k P
  post-limit x h y k (Err fault) P same = ap (λ (l : Ledger). l.limit) same.0

  same-gvt : (b : Bool) (x y : Ledger) → publishes f owners b x y → y.limit ≡ x.limit
  same-gvt true x y P = ap (λ (l : Ledger). l.limit) P
  same-gvt false x y P = ap (λ (l : Ledger). l.limit) P

  pub publish-limit : (x y : Ledger) (result : Result ℕ PoolFault) → IfOk result (λ gvt. Publishes f owners x y gvt) → OnErr result (y ≡ x) → y.limit ≡ x.limit
  publish-limit x y (Ok gvt) P same = same-gvt _ x y P.1
  publish-limit x y (Err fault) P same = ap (λ (l : Ledger). l.limit) same
