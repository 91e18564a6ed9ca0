-- What was said before is written, or the put of it failed.
use Rattle.std.proofs.Common.{refl}
use Rattle.command_parts.proofs.ListenerLineAndSaidTextLaws.{stops_cut}
use Rattle.command_parts.proofs.conversation.stopped.Goals as goal

pub returns-in-Err : goal.returns-in-Err
returns-in-Err g c = record {
  cut = λ first earlier is stops. (
    refl,
    stops_cut _ _ first c.args.out.now c.put.new.out earlier c.args.block.now is
        c.args.stop stops c.in_default.not-Write c.in_default.not-Memory c.in-Err.ensures.err,
  );
  stops = λ first earlier is stops. tt;
}
