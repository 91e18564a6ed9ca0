-- The rest of the input was read, and the cause stays.
use Rattle.std.proofs.Common.{◌++◌, ◌-◌, length, refl, arith}
use Rattle.command_parts.proofs.SourceTextAndStopLaws.{taken_more, taken_all, stops_read}
use Rattle.command_parts.proofs.input_by_lines.stop_after.Goals as goal

pub returns-in-Ok : goal.returns-in-Ok
returns-in-Ok g c start before answer taken tells =
    let it = c.in-Ok.ensures.read in
    let text = before ++ it.0 in
    stops_read _ answer text c.args.own
    (taken_all _ _ start _ text _
    (taken_more _ _ start _ _ before it.0 c.args.room (length it.0) (c.args.room - length it.0) taken it.2.given it.3
    refl (omega (arith, it.1))) it.2.end) (tells it.0)
