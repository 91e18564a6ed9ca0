-- One line on, a faulty one, and after the last.
use Rattle.std.proofs.Common.{◌≡◌, ◌∙◌, ℕ, Err, subst, arith}
use Rattle.command_rooms.specs.commands.HexText.{hex_text_of}
use Rattle.command_rooms.proofs.H4TextAndPacketsLaws.{one_part, one_fault, all_parts}
use Rattle.command_rooms.proofs.hex_text.read_octets.Goals as goal

pub loop-line-preserved : goal.loop-line-preserved
loop-line-preserved c =
    let ok = c.in-Ok-take_line.ensures.ok in
    record {
      value = c.loop-line.invariant.value
          ∙ one_part c.loop-line.number c.loop-line.octets.items _ ok.0 _ _ _ c.in-Some.ensures.some ok.1 ok.2;
      room = omega (arith, c.loop-line.invariant.room, c.in-Ok-take_line.ensures.capacity);
      size = omega (arith, c.in-Some.ensures.size, c.in-Ok-take_line.ensures.short);
      small = omega (arith, c.in-Some.ensures.moves);
    }

pub returns-in-Err-clause-line : goal.returns-in-Err-clause-line
returns-in-Err-clause-line c number same =
    let is : c.loop-line.number ≡ number = cc in
    subst (λ (n : ℕ). hex_text_of c.args.text.now ≡ Err n) is
    (one_fault c.args.text.now _ _ _ _ _ c.loop-line.invariant.value c.in-Some.ensures.some c.in-Err.ensures.err)

pub returns-clause-octets : goal.returns-clause-octets
returns-clause-octets c = all_parts c.args.text.now _ _ _ c.loop-line.invariant.value
    c.in_default-next_line.ensures.none
