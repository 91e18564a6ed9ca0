-- A word that stands as often as the part is long is all of the part.
use Rattle.std.proofs.Common.{◌≡◌, ℕ, List, ◌*◌, ◌/◌, ◌<◌, drop, slice_index, refl, sym, ◌∙◌, ap, arith, w64, eqb-true}
use Rattle.std.proofs.Common.{get_or-take, get_or-drop}
use Rattle.std.specs.Int.{to_le_bytes}
use Rattle.member_cells.specs.HeldPlaces.{held}
use Rattle.member_rows.specs.vcat_interleave.MemberPayloads.{payload_at}
use Rattle.terminal_sink.proofs.ReceivedOctetAndDealtIdleLaws.{get-eights}
use Rattle.terminal_sink.proofs.sink_core.octets_of_row.carries_word.Goals as goal

pub returns : goal.returns
returns c same p low =
    let place : ℕ = c.args.place in
    let places : ℕ = c.args.places in
    let payload : List ℕ = payload_at (held c.args.containers.now) c.args.line in
    let part : List ℕ = c.part_of.result.now in
    let octets : List ℕ = to_le_bytes w64 c.args.word in
    let often : ℕ = c.word_run.result in
    let all : often ≡ places / 8 = eqb-true often (places / 8) same in
    let within : p < 8 * often = omega (arith, all, low, c.requires.eights) in
    sym (get_or-drop place payload p 0)
    ∙ sym (get_or-take places (drop place payload) p 0 low)
    ∙ ap (λ l. slice_index l p) (sym c.part_of.ensures.octets)
    ∙ sym (get_or-take (8 * often) part p 0 within)
    ∙ ap (λ l. slice_index l p) c.word_run.ensures.run
    ∙ get-eights often p octets refl (omega (arith, within))
