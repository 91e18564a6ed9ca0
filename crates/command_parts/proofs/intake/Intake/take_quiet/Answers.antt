-- What was taken stands behind what there was.
use Rattle.std.proofs.Common.{◌-◌, ◌≤◌, length, take, refl, rules}
use Rattle.std.proofs.lemmas.List.{length-take-le}
use Rattle.text_got.proofs.WaitingTextInBlockLaws.{front_added}
use Rattle.command_parts.proofs.intake.Intake.take_quiet.Goals as goal

pub returns-in-Ok-clause-took : goal.returns-in-Ok-clause-took
returns-in-Ok-clause-took g c =
    let piece = take c.in-Ok.n c.take.new.buf in
    let few : length piece ≤ 262145 = search rules in (
      piece,
      length-take-le c.in-Ok.n c.take.new.buf c.in-Ok.ensures.bound,
      few,
      front_added c.self.inside.len c.in-Ok.n (262145 - c.self.inside.len) c.self.inside.octets c.take.new.buf
          c.args.self.now piece (search rules) c.in-Ok.ensures.bound (search rules) refl,
      c.in-Ok.ensures.moved,
    )
