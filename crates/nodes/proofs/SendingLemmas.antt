-- Replies, one behind the other.
use Rattle.std.proofs.Common.{◌≡◌, ℕ, ◌+◌, ◌++◌, Bool, true, false, cond, nat_le, List, [], ◌∷◌, length, ap, sym, ◌∙◌, append_assoc, arith, append-nil, length-append}
use Rattle.vlink.specs.declared.message.Message.{Message}
use Rattle.vlink.specs.declared.note.Note.{Note}
use Rattle.reverse.specs.Sending.{Wish, Reply, Sender, OutboundState, silent, joined, sent, after_sending, replied, message_of}

-- a process with nothing to say
pub replied-silent : (o : OutboundState) → replied o silent ≡ o
replied-silent o =
    ap (λ (n : ℕ). record { sender = record o.sender { counter = n }; messages = o.messages ++ []; notes = o.notes ++ [] }) (omega arith)
    ∙ ap (λ (ms : List Message). record o { messages = ms; notes = o.notes ++ [] }) (append-nil o.messages)
    ∙ ap (λ (ns : List Note). record o { notes = ns }) (append-nil o.notes)

-- the sender after one message
abbrev next : Sender → Sender
next s = record s { counter = s.counter + 1 }

-- some wishes, and then others
pub sent-append : (s : Sender) (first second : List Wish) → sent s (first ++ second) ≡ sent s first ++ sent (after_sending s first) second
sent-append s [] second = ap (λ (n : ℕ). sent (record s { counter = n }) second) (omega arith)
sent-append s (wish ∷ rest) second = go (nat_le wish.time s.until) (sent-append (next s) rest second) (sent-append s rest second)
  where
    go : (b : Bool)
        → sent (next s) (rest ++ second) ≡ sent (next s) rest ++ sent (after_sending (next s) rest) second
        → sent s (rest ++ second) ≡ sent s rest ++ sent (after_sending s rest) second
        → cond b (message_of s wish ∷ sent (next s) (rest ++ second)) (sent s (rest ++ second))
        ≡ cond b (message_of s wish ∷ sent (next s) rest) (sent s rest)
        ++ sent (record s { counter = s.counter + length (cond b (message_of s wish ∷ sent (next s) rest) (sent s rest)) }) second
    go true numbered same =
        ap (λ (ms : List Message). message_of s wish ∷ ms) numbered
        ∙ ap (λ (n : ℕ). message_of s wish ∷ (sent (next s) rest ++ sent (record s { counter = n }) second)) (omega arith)
    go false numbered same = same

-- a reply, and then another one
pub replied-joined : (o : OutboundState) (first second : Reply) → replied (replied o first) second ≡ replied o (joined first second)
replied-joined o first second =
    let before = sent o.sender first.wishes in
    let behind = sent (after_sending o.sender first.wishes) second.wishes in
    let all = sent-append o.sender first.wishes second.wishes in
    let counter_is : o.sender.counter + length before + length behind ≡ o.sender.counter + length (sent o.sender (joined first second).wishes) =
    omega (arith, ap length all, length-append before behind) in
    ap (λ (n : ℕ). record { sender = record o.sender { counter = n }; messages = (o.messages ++ before) ++ behind; notes = (o.notes ++ first.notes) ++ second.notes }) counter_is
    ∙ ap (λ (ms : List Message). record (replied o (joined first second)) { messages = ms; notes = (o.notes ++ first.notes) ++ second.notes })
    (append_assoc o.messages before behind ∙ ap (λ (ms : List Message). o.messages ++ ms) (sym all))
    ∙ ap (λ (ns : List Note). record (replied o (joined first second)) { notes = ns }) (append_assoc o.notes first.notes second.notes)
