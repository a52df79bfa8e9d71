use Rattle.std.proofs.Common.{◌+◌, ◌++◌, length, map, take, slice_index_or, ap, sym, ◌∙◌, arith, append_assoc, length-append, take_all}
use Rattle.std.proofs.lemmas.List.{map-append}
use Rattle.virtual_time.specs.Law.{behind}
use Rattle.group_queues.specs.Block.{steps_of_word, steps_told}
use Rattle.group_queues.specs.declared.block.Word.TheVariants.{Ran}
use Rattle.group_boxes.specs.Boxing.{waiting_for}
use Rattle.group_exchange.proofs.Words.{told-more, told-few, word-at}
use Rattle.group_exchange.proofs.listing.list_words.Goals as goal

pub list_word-requires : goal.list_word-requires
list_word-requires c =
    let ws = c.args.words.now in
    let k = c.loop-did.did-index in
    let inv = c.loop-did.invariant in
    let w = slice_index_or ws k (Ran 0) in
    let more = ap length (told-more ws k w c.loop-did-test.true (word-at ws k (Ran 0) c.loop-did-test.true)) in
    let sum = length-append (steps_told (take k ws)) (steps_of_word w) in
    let few = told-few ws (k + 1) in
    record { room = omega (arith, more, sum, few, inv.len, inv.capacity, c.requires.room) }

pub loop-did-preserved : goal.loop-did-preserved
loop-did-preserved c =
    let ws = c.args.words.now in
    let k = c.loop-did.did-index in
    let inv = c.loop-did.invariant in
    let w = slice_index_or ws k (Ran 0) in
    let more = told-more ws k w c.loop-did-test.true (word-at ws k (Ran 0) c.loop-did-test.true) in
    let sum = length-append (steps_told (take k ws)) (steps_of_word w) in
    let n = ap length more in
    let shift = behind (waiting_for c.args.boxes.now) in
    record {
      items = c.list_word.ensures.items ∙ (ap (λ z. z ++ map shift (steps_of_word w)) inv.items ∙
          (append_assoc c.args.steps.now.items (map shift (steps_told (take k ws))) (map shift (steps_of_word w)) ∙
          ap (λ z. c.args.steps.now.items ++ z) (sym (ap (map shift) more ∙ map-append shift (steps_told (take k ws)) (steps_of_word w)))));
      len = omega (arith, c.list_word.ensures.len, inv.len, n, sum);
      capacity = c.list_word.ensures.capacity ∙ inv.capacity;
    }

pub returns : goal.returns
returns c = c.loop-did.invariant.items ∙ ap (λ z. c.args.steps.now.items ++ map (behind (waiting_for c.args.boxes.now)) (steps_told z)) (take_all c.loop-did.did-index c.args.words.now c.loop-did-test.false)
