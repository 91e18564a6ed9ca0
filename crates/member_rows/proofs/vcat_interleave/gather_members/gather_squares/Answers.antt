-- One more square of places goes on where those before it end.
use Rattle.std.proofs.Common.{◌≡◌, ◌+◌, ◌-◌, ◌*◌, take, length, ◌++◌, refl, sym, ap, ap₂, ◌∙◌, arith}
use Rattle.std.proofs.lemmas.Slice.{take-put_mid}
use Rattle.member_cells.specs.HeldPlaces.{held}
use Rattle.law_model.specs.Common.{octets_from}
use Rattle.member_rows.specs.vcat_interleave.MemberPayloads.{payloads_of}
use Rattle.member_rows.proofs.RowPartAndLaneLaws.{octets_from-add, octets_from-none, length-octets_from}
use Rattle.member_rows.proofs.PutOctetAndRowSpreadLaws.{done-within}
use Rattle.member_rows.proofs.RowPartAndLaneLaws.{length-payloads}
use Rattle.member_rows.proofs.vcat_interleave.gather_members.gather_squares.Goals as goal

pub loop-k-init : goal.loop-k-init
loop-k-init c =
    ap (λ n. take n c.args.out.now) (let e : 0 * length c.args.active.now ≡ 0 = omega arith in e)
    ∙ sym (octets_from-none c.args.place (payloads_of (held c.args.containers.now) c.args.active.now))

pub loop-k-preserved : goal.loop-k-preserved
loop-k-preserved c =
    let x = length c.args.active.now in
    let done = c.loop-k.k * 16 in
    let parts = payloads_of (held c.args.containers.now) c.args.active.now in
    let piece = c.gather_sixteen.new.out in
    let size = ap length c.gather_sixteen.ensures ∙ length-octets_from (c.args.place + done) 16 parts
    ∙ ap (λ n. 16 * n) (length-payloads (held c.args.containers.now) c.args.active.now) in
    let within = done-within done c.args.squares c.loop-k.k x refl c.loop-k-test.true in
    take-put_mid (done * x) ((done + 16) * x - done * x) c.loop-k.out piece ((c.loop-k.k + 1) * 16 * x)
    (omega (arith, size)) (omega (arith, within, c.loop-k.auto.out, c.requires.out))
    ∙ ap₂ (λ a b. a ++ b) c.loop-k.invariant c.gather_sixteen.ensures
    ∙ sym (octets_from-add c.args.place done 16 parts)
    ∙ ap (λ n. octets_from c.args.place n parts) (let e : done + 16 ≡ (c.loop-k.k + 1) * 16 = omega arith in e)
