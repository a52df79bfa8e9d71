use Rattle.std.proofs.Common.{◌≡◌, ◌*◌, ap, sym, ◌∙◌}
use Rattle.traffic.specs.Counting.{come_count}
use Rattle.traffic.specs.Offers.{due_count, last_of}
use Rattle.traffic.proofs.CountingLemmas.{length-offers}
use Rattle.traffic.proofs.offer_counting.stream_count.Goals as goal

pub returns-clause-value : goal.returns-clause-value
returns-clause-value c =
    let seed = c.args.seed in
    let s = c.args.stream.now in
    let last = last_of c.args.until s.stream in
    let count : c.burst_count.result ≡ come_count seed last s (due_count last s.stream) = c.burst_count.ensures.value ∙ ap (λ l. come_count seed l s (due_count l s.stream)) c.last.ensures in
    ap (λ n. n * c.from.result) count ∙ ap (λ f. come_count seed last s (due_count last s.stream) * f) c.from.ensures ∙ sym (length-offers seed last s)
