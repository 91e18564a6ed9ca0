-- One more square of places goes on where those before it end.
use Rattle.std.proofs.Common.{◌≡◌, ℕ, ◌+◌, ◌-◌, ◌*◌, ◌≤◌, take, drop, length, ◌++◌, refl, sym, ap, ap₂, ◌∙◌, arith}
use Rattle.std.proofs.Common.{length-drop, length-take-le}
use Rattle.law_model.proofs.ListLaws.{take-written}
use Rattle.member_cells.specs.HeldPlaces.{held}
use Rattle.law_model.specs.Common.{octets_from}
use Rattle.member_rows.specs.vcat_interleave.MemberPayloads.{payloads_of}
use Rattle.member_rows.proofs.RowPartAndLaneLaws.{octets_from-add, octets_from-none}
use Rattle.member_rows.proofs.PutOctetAndRowSpreadLaws.{done-within}
use Rattle.member_rows.proofs.vcat_interleave.gather_members.gather_few.Goals as goal

pub loop-k-init : goal.loop-k-init
loop-k-init c =
    ap (λ n. take n c.args.out.now) (let e : 0 * length c.args.active.now ≡ 0 = omega arith in e)
    ∙ sym (octets_from-none c.args.place (payloads_of (held c.args.containers.now) c.args.active.now))

pub loop-k-preserved : goal.loop-k-preserved
loop-k-preserved c =
    let x = length c.args.active.now in
    let done = c.loop-k.k * 16 in
    let parts = payloads_of (held c.args.containers.now) c.args.active.now in
    let row = c.loop-k.out in
    let piece = c.gather_square.new.out in
    let rest : ℕ = length row - done * x in
    let within = done-within done c.args.squares c.loop-k.k x refl c.loop-k-test.true in
    let room = c.requires.out (omega (arith, c.loop-k-test.true)) in
    let few = c.requires.few (omega (arith, c.loop-k-test.true)) in
    let reach : done * x + 16 * x + 16 ≤ length row + x = omega (arith, within, room, c.loop-k.auto.out) in
    let size : length piece ≡ rest = c.gather_square.auto.out
    ∙ (let e : length (take rest (drop (done * x) row)) ≡ rest =
    length-take-le rest (drop (done * x) row) (omega (arith, length-drop (done * x) row)) in e) in
    let next : (c.loop-k.k + 1) * 16 * x ≡ done * x + 16 * x = omega arith in
    ap (λ n. take n (take (done * x) row ++ (piece ++ drop rest (drop (done * x) row)))) next
    ∙ take-written (done * x) (16 * x) row piece (drop rest (drop (done * x) row)) (omega (arith, reach, few))
    (omega (arith, reach, few, size))
    ∙ ap₂ (λ a b. a ++ b) c.loop-k.invariant c.gather_square.ensures
    ∙ sym (octets_from-add c.args.place done 16 parts)
    ∙ ap (λ n. octets_from c.args.place n parts) (let e : done + 16 ≡ (c.loop-k.k + 1) * 16 = omega arith in e)
