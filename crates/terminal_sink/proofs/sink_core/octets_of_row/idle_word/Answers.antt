-- Each of the eight octets of the word is the one of its place.
use Rattle.std.proofs.Common.{◌≡◌, ℕ, ◌+◌, ◌*◌, ◌%◌, slice_index, ◌∙◌, ap, arith}
use Rattle.law_model.specs.Common.{core_header}
use Rattle.terminal_sink.proofs.ReceivedOctetAndDealtIdleLaws.{get-eight}
use Rattle.terminal_sink.proofs.sink_core.octets_of_row.idle_word.Goals as goal

pub returns : goal.returns
returns c i below =
    let first : ℕ = c.args.first in
    let x : ℕ = c.args.x in
    let octet : ℕ → ℕ = λ n. slice_index (core_header 0) (n % 4) in
    ap (λ l. slice_index l i) c.word_of.ensures
    ∙ get-eight (λ i. octet (first + i * x)) c.idle_octet.result c.idle_octet-2.result c.idle_octet-3.result _
    _ _ _ _ (c.idle_octet.ensures ∙ (let e : first ≡ first + 0 * x = omega arith in ap octet e))
    (c.idle_octet-2.ensures ∙ (let e : first + x ≡ first + 1 * x = omega arith in ap octet e))
    c.idle_octet-3.ensures c.idle_octet-4.ensures c.idle_octet-5.ensures c.idle_octet-6.ensures
    c.idle_octet-7.ensures c.idle_octet-8.ensures i below
