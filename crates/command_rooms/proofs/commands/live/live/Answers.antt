-- What the conversation gives, without its walk.
use Rattle.std.proofs.Common.{refl}
use Rattle.command_rooms.proofs.commands.live.live.Goals as goal

pub returns-in-Ok : goal.returns-in-Ok
returns-in-Ok g c = record {
  ran = record { all = c.in-Ok.ensures.ran.all; part = c.in-Ok.ensures.ran.part; made = refl };
  stopped = tt;
}

pub returns-in-Err : goal.returns-in-Err
returns-in-Err g c = record { ran = tt; stopped = c.in-Err.ensures.stopped }
