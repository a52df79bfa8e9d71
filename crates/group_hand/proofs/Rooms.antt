-- How much done events sent and noted, of two lists put together; and room for them, in whatever order.
use Rattle.std.proofs.Common.{◌≡◌, ℕ, ◌+◌, ◌<◌, ◌≤◌, List, [], ◌∷◌, ◌++◌, arith, length-append}
use Rattle.group_queues.specs.DoneEvents.{DoneEvent, Done, HasRoomFor, sent_in, noted_in}

module _ {K : Type 0} where
  pub sent_in-append : (xs ys : List (DoneEvent K)) → sent_in (xs ++ ys) ≡ sent_in xs + sent_in ys
  sent_in-append [] ys = omega arith
  sent_in-append (x ∷ xs) ys = let e = sent_in-append xs ys in omega arith

  pub noted_in-append : (xs ys : List (DoneEvent K)) → noted_in (xs ++ ys) ≡ noted_in xs + noted_in ys
  noted_in-append [] ys = omega arith
  noted_in-append (x ∷ xs) ys = let e = noted_in-append xs ys in omega arith

  pub room-behind : (more xs : List (DoneEvent K)) (d : DoneEvent K) (there : Done K) → HasRoomFor (d ∷ (more ++ xs)) there → HasRoomFor (more ++ (xs ++ d ∷ [])) there
  room-behind more xs d there h = record {
    events = let a = h.events in let b = length-append more (xs ++ d ∷ []) in let c = length-append xs (d ∷ []) in let e = length-append more xs in omega arith;
    sends = let a = h.sends in let b = sent_in-append more (xs ++ d ∷ []) in let c = sent_in-append xs (d ∷ []) in let e = sent_in-append more xs in omega arith;
    rows = let a = h.rows in let b = noted_in-append more (xs ++ d ∷ []) in let c = noted_in-append xs (d ∷ []) in let e = noted_in-append more xs in omega arith;
  }

-- there is room, and then no less
pub room-still : (n room later : ℕ) → n ≤ room → room ≤ later → n ≤ later
room-still n room later a b = omega arith

pub some-room : (n room later : ℕ) → n + 1 ≤ room → room ≤ later → 0 < later
some-room n room later a b = omega arith
