-- One more packet behind the others.
use Rattle.std.proofs.Common.{◌≡◌, ℕ, ◌*◌, ◌^◌, ◌<◌, ◌≤◌, length, ◌∙◌, ap, arith}
use Rattle.std.proofs.Math.Nat.{mul-le-mul_left, mul-le-mul_right}
use Rattle.fate_engine.proofs.PacketRowPlaceLaws.{end-low, grown}
use Rattle.fate_engine.proofs.fate_core.packet_rows.Packets.push.Goals as goal
use Rattle.law_model.specs.Common.{most_lines}

rows-few : (size lines : ℕ) → size < 2 ^ 16 → lines ≤ most_lines → size * lines * 16 ≤ 134217728
rows-few size lines small few =
    let two = mul-le-mul_right most_lines (let le : size ≤ 65536 = omega arith in le) in
    omega (arith, mul-le-mul_left size few, two)

pub overflow_add-self-2 : goal.overflow_add-self-2
overflow_add-self-2 c =
    let low = end-low c.self.inside.size c.self.inside.runs.items c.self.inside.count c.self.inside.end c.self.invariant in
    let few = c.len.ensures.fits in
    let own = rows-few c.from.result c.len.result (let e = c.from.ensures in let small = c.self.invariant.small in
    omega (arith, e, small)) few in
    let e : c.from.result * c.len.result * c.from-2.result ≡ c.from.result * c.len.result * 16 =
    ap (λ n. c.from.result * c.len.result * n) c.from-2.ensures in
    omega (arith, low, own, e)

pub invariant_of-self-2 : goal.invariant_of-self-2
invariant_of-self-2 c =
    let octets : c.from.result * c.len.result * c.from-2.result ≡ c.self.inside.size * length c.args.active.items * 16 =
    (let one : c.from.result ≡ c.self.inside.size = c.from.ensures in
    let two : c.len.result ≡ length c.args.active.items = c.len.ensures.value in
    ap (λ n. n * c.len.result * c.from-2.result) one ∙ ap (λ n. c.self.inside.size * n * c.from-2.result) two
    ∙ ap (λ n. c.self.inside.size * length c.args.active.items * n) c.from-2.ensures) in
    grown c.self.inside.size c.self.inside.runs.items c.self.inside.count c.self.inside.end c.self.invariant
    c.add_packet.new.runs.items c.args.active.items (c.from.result * c.len.result * c.from-2.result)
    (c.in_ok-add_packet.ensures.begin c.self.inside.size c.self.invariant.begin c.self.invariant.ends)
    (c.in_ok-add_packet.ensures.longest c.self.invariant.longest)
    c.in_ok-add_packet.ensures.active
    (let few = c.requires in let all = c.self.invariant.all in
    omega (arith, few, all, ap (λ p. length p.active) c.self.view_is))
    octets
