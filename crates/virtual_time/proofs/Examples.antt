-- The rules at work on a small actor, each case computed: a straggler, a tie, an antimessage that comes first or late, and a count of 2.
-- Process 0 adds up the times of its messages, and for each sends one to process 1, five later.
use Rattle.std.proofs.Common.{◌≡◌, ℕ, ◌+◌, ◌-◌, ◌==◌, ◌&&◌, ◌||◌, nat_lt, false, List, [], ◌∷◌, ◌++◌, None, refl}
use Rattle.virtual_time.specs.Law.{Rules, same, plus_of, minus_of, pluses, minuses, is_present, Part, opened, unhandled, undone_by, next_of, can_commit, Act, local, Deliver, Emptying, Moves}
use Rattle.virtual_time.specs.declared.letter.Letter.{Letter}
use Rattle.virtual_time.specs.declared.moved.Move.TheVariants.{Arrived, Ran, Committed}

record Note : Type 0 where
  time : ℕ
  to : ℕ
  from : ℕ
  number : ℕ

record Adder : Type 0 where
  sum : ℕ
  counter : ℕ

abbrev adder : Rules Note Adder ℕ ℕ
adder = record {
  order = record {
    time = λ m. m.time;
    receiver = λ m. m.to;
    sender = λ m. m.from;
    number = λ m. m.number;
    less = λ a b. nat_lt a.time b.time || ((a.time == b.time) && (nat_lt a.to b.to || ((a.to == b.to) && (nat_lt a.from b.from || ((a.from == b.from) && nat_lt a.number b.number)))));
  };
  after = λ s m. record { sum = s.sum + m.time; counter = s.counter + 1 };
  sends = λ s m. record { time = m.time + 5; to = 1; from = 0; number = s.counter } ∷ [];
  notes = λ s m. [];
  counter = λ s. s.counter;
  kept = λ s m. 1;
  undo = λ s m k. record { sum = s.sum - m.time; counter = s.counter - k };
}

-- a message to process 0, and one that process 0 sends
abbrev at : ℕ → ℕ → ℕ → Note
at time from number = record { time = time; to = 0; from = from; number = number }

abbrev out : ℕ → ℕ → Note
out time number = record { time = time; to = 1; from = 0; number = number }

abbrev opening : Adder
opening = record { sum = 0; counter = 0 }

-- the process after these acts, from its opening state
abbrev after : List (Act Note) → Part Note Adder
after acts = local adder opening acts (opened opening)

-- a letter is delivered and arrives
abbrev arrival : Letter Note → List (Act Note)
arrival l = Deliver l ∷ Moves Arrived ∷ []

-- the messages at 10, 20 and 30 are done, and what they sent, at 15, 25 and 35, is posted
abbrev three : List (Act Note)
three =
    arrival (plus_of (at 10 2 0)) ++ arrival (plus_of (at 20 2 1)) ++ arrival (plus_of (at 30 2 2)) ++
    Moves Ran ∷ Moves Ran ∷ Moves Ran ∷ Emptying ∷ []

three-state : (after three).state ≡ record { sum = 60; counter = 3 }
unfolding same is_present unhandled
three-state = refl

-- a straggler at 15 undoes the events at 20 and 30: the antimessages are minus 35 and then minus 25, the last sent first

straggler-undone : undone_by adder.order (after three) (plus_of (at 15 3 0) ∷ []) ≡ 2
unfolding same is_present unhandled
straggler-undone = refl

straggler-done : (after (three ++ arrival (plus_of (at 15 3 0)))).done ≡ at 10 2 0 ∷ []
unfolding same is_present unhandled
straggler-done = refl

straggler-state : (after (three ++ arrival (plus_of (at 15 3 0)))).state ≡ record { sum = 10; counter = 1 }
unfolding same is_present unhandled
straggler-state = refl

straggler-outbox : (after (three ++ arrival (plus_of (at 15 3 0)))).outbox ≡ minus_of (out 35 2) ∷ minus_of (out 25 1) ∷ []
unfolding same is_present unhandled
straggler-outbox = refl

-- then the straggler is handled, and its message at 20 takes the number 1 that is free again
straggler-run : (after (three ++ arrival (plus_of (at 15 3 0)) ++ Moves Ran ∷ [])).outbox ≡ minus_of (out 35 2) ∷ minus_of (out 25 1) ∷ plus_of (out 20 1) ∷ []
unfolding same is_present unhandled
straggler-run = refl

-- the antimessage of the done event at 20 undoes it and the one behind it; the one at 30 is still present, and is next

antimessage-undone : undone_by adder.order (after three) (minus_of (at 20 2 1) ∷ []) ≡ 2
unfolding same is_present unhandled
antimessage-undone = refl

antimessage-done : (after (three ++ arrival (minus_of (at 20 2 1)))).done ≡ at 10 2 0 ∷ []
unfolding same is_present unhandled
antimessage-done = refl

antimessage-state : (after (three ++ arrival (minus_of (at 20 2 1)))).state ≡ record { sum = 10; counter = 1 }
unfolding same is_present unhandled
antimessage-state = refl

antimessage-outbox : (after (three ++ arrival (minus_of (at 20 2 1)))).outbox ≡ minus_of (out 35 2) ∷ minus_of (out 25 1) ∷ []
unfolding same is_present unhandled
antimessage-outbox = refl

antimessage-run : (after (three ++ arrival (minus_of (at 20 2 1)) ++ Moves Ran ∷ [])).done ≡ at 10 2 0 ∷ at 30 2 2 ∷ []
unfolding same is_present unhandled
antimessage-run = refl

-- at equal times the smaller sender comes first: a message from sender 1 is a straggler to the done one from sender 2, and not the other way round

tie-undone : undone_by adder.order (after (arrival (plus_of (at 10 2 0)) ++ Moves Ran ∷ [])) (plus_of (at 10 1 0) ∷ []) ≡ 1
unfolding same is_present unhandled
tie-undone = refl

tie-stays : undone_by adder.order (after (arrival (plus_of (at 10 1 0)) ++ Moves Ran ∷ [])) (plus_of (at 10 2 0) ∷ []) ≡ 0
unfolding same is_present unhandled
tie-stays = refl

-- an antimessage that comes before its message: the count is -1, so no plus against one minus, and then 0, and nothing is to be handled

early_minus-pluses : pluses adder.order (at 10 2 0) (after (arrival (minus_of (at 10 2 0)))).tally ≡ 0
unfolding same is_present unhandled
early_minus-pluses = refl

early_minus-minuses : minuses adder.order (at 10 2 0) (after (arrival (minus_of (at 10 2 0)))).tally ≡ 1
unfolding same is_present unhandled
early_minus-minuses = refl

early_minus-present : is_present adder.order (after (arrival (minus_of (at 10 2 0)) ++ arrival (plus_of (at 10 2 0)))).tally (at 10 2 0) ≡ false
unfolding same is_present unhandled
early_minus-present = refl

early_minus-next : next_of adder.order (after (arrival (minus_of (at 10 2 0)) ++ arrival (plus_of (at 10 2 0)))) ≡ None
unfolding same is_present unhandled
early_minus-next = refl

-- a second plus of a done event: it stays done, but at count 2 it can't be committed

twice-undone : undone_by adder.order (after (arrival (plus_of (at 10 2 0)) ++ Moves Ran ∷ [])) (plus_of (at 10 2 0) ∷ []) ≡ 0
unfolding same is_present unhandled
twice-undone = refl

twice-can_commit : can_commit adder.order (after (arrival (plus_of (at 10 2 0)) ++ Moves Ran ∷ arrival (plus_of (at 10 2 0)))) (at 10 2 0 ∷ []) ≡ false
unfolding same is_present unhandled
twice-can_commit = refl

twice-done : (after (arrival (plus_of (at 10 2 0)) ++ Moves Ran ∷ arrival (plus_of (at 10 2 0)) ++ Moves Committed ∷ [])).done ≡ at 10 2 0 ∷ []
unfolding same is_present unhandled
twice-done = refl

-- one minus takes the count back to 1: nothing is undone, and the event can be committed

twice_back-undone : undone_by adder.order (after (arrival (plus_of (at 10 2 0)) ++ Moves Ran ∷ arrival (plus_of (at 10 2 0)))) (minus_of (at 10 2 0) ∷ []) ≡ 0
unfolding same is_present unhandled
twice_back-undone = refl

twice_back-committed : (after (arrival (plus_of (at 10 2 0)) ++ Moves Ran ∷ arrival (plus_of (at 10 2 0)) ++ arrival (minus_of (at 10 2 0)) ++ Moves Committed ∷ [])).committed ≡ at 10 2 0 ∷ []
unfolding same is_present unhandled
twice_back-committed = refl
