-- The last frame lies in a packet, of which the table says what it is.
use Rattle.std.proofs.Common.{◌≡◌, ◌-◌, ◌*◌, ◌+◌, ◌%◌, ◌<◌, ◌≤◌, ℕ, slice_index, sym, ◌∙◌, ap, ap₂, subst, arith}
use Rattle.law_model.specs.Common.{Counts, leg_of, Table, forward_packet, packet_nibbles, steps_in}
use Rattle.law_model.specs.declared.session_totals.Totals.{Totals}
use Rattle.law_walk.specs.Common.{table_in}
use Rattle.command_rooms.proofs.H4TextAndPacketsLaws.{last-later, nibble-small}
use Rattle.command_rooms.proofs.commands.h4.last_octet.Goals as goal
use Rattle.command_rooms.proofs.commands.h4.last_octet.Goals.{After-nibbles-nibbles}

made : (c : After-nibbles-nibbles) → c.totals-frame.result.ticks ≡ c.args.walk.now.counts.ticks
made c = ap (λ (t : Totals). t.ticks) c.totals-frame.ensures

late : (c : After-nibbles-nibbles) → 9 ≤ c.args.walk.now.counts.ticks
late c = let e = made c in let high = c.if-frame-lt8.false in omega (arith, e, high)

nibbles : (c : After-nibbles-nibbles) → c.nibbles-nibbles.result ≡ packet_nibbles
    (forward_packet (table_in (leg_of c.args.walk.now.script) c.args.walk.now.counts.ticks) c.args.line
    (steps_in c.args.walk.now.counts.ticks - 1))
nibbles c =
    let leg = leg_of c.args.walk.now.script in
    let table = c.table.ensures.table leg _ (c.way.ensures.stands leg c.live.ensures.stands) in
    c.nibbles-nibbles.ensures
    ∙ ap packet_nibbles (c.packet.ensures
    ∙ ap₂ (λ (t : Table) (n : ℕ). forward_packet t c.args.line (n - 1)) table c.table.ensures.steps
    ∙ ap (λ (s : Counts). forward_packet (table_in leg s.ticks) c.args.line (steps_in s.ticks - 1))
    (c.way.ensures.counts ∙ c.live.ensures.counts))

small : (c : After-nibbles-nibbles) →
    slice_index c.nibbles-nibbles.result ((c.totals-frame.result.ticks - 1 - 8) % 16) < 16
small c =
    subst (λ n. slice_index c.nibbles-nibbles.result ((n - 1 - 8) % 16) < 16) (sym (made c))
    (nibble-small _ c.args.line c.args.walk.now.counts.ticks _ (late c) (nibbles c) c.requires.valid)

pub overflow_mul-result : goal.overflow_mul-result
overflow_mul-result c = let low = small c in omega (arith, low)

pub overflow_add-result : goal.overflow_add-result
overflow_add-result c = let low = small (goal.at.overflow_add-result c).After-nibbles-nibbles in omega (arith, low)

pub returns : goal.returns
returns c =
    ap (λ n. 16 * slice_index c.nibbles-nibbles.result ((n - 1 - 8) % 16) + (n - 1) % 16) (made c)
    ∙ last-later c.args.walk.now.script c.args.line c.args.walk.now.counts.ticks _ (late c) (nibbles c)
