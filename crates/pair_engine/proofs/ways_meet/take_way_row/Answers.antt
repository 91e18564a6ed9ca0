-- All rows are taken, or the next one waits, or it is taken, and maybe heard.
use Rattle.std.proofs.Common.{◌<◌, arith, refl}
use Rattle.law_model.specs.session.Scenario.{packets_in}
use Rattle.law_pair.specs.Common.{way_of}
use Rattle.pair_engine.specs.LivePairs.{WayWalking}
use Rattle.pair_engine.specs.Ways.{walking_of}
use Rattle.pair_engine.proofs.TakenRowAndHeardPacketLaws.{done-row, tries, waits-row, quiet-row, say-room, said-ends}
use Rattle.pair_engine.proofs.TakenRowAndHeardPacketLaws.{gives-none, said-row, taken-keeps}
use Rattle.pair_engine.proofs.ways_meet.take_way_row.Goals as goal

pub returns-then-row-total_ticks-clause-takes : goal.returns-then-row-total_ticks-clause-takes
returns-then-row-total_ticks-clause-takes g c script beside are =
    let past = c.if-row-total_ticks.true in
    let total = rw c.source.ensures at c.total_ticks.ensures in
    let row = rw c.sink.ensures at c.taken-row.ensures in
    let same = are.own_way.stands.total in
    done-row script beside (walking_of c.args.own.now) (walking_of c.args.other.now) are c.taken-row.result
    row (omega (arith, past, total, same))

pub returns-then-row-total_ticks-clause-gives : goal.returns-then-row-total_ticks-clause-gives
returns-then-row-total_ticks-clause-gives g c script beside are =
    gives-none g.F.FrameOut.stands_for c.args.out.now (way_of script beside) c.args.own.now.core.sink.taken

pub take-requires : goal.take-requires
take-requires g c =
    let (script, beside, are) = c.requires in
    (way_of script beside, packets_in c.args.own.now.core.sink.taken, are.own_way.stands)

pub returns-in-Waiting : goal.returns-in-Waiting
returns-in-Waiting g c =
    let own : WayWalking = walking_of c.args.own.now in
    let other : WayWalking = walking_of c.args.other.now in
    let backs = packets_in own.core.sink.taken in
    let left = c.if-row-total_ticks.false in
    let total = rw c.source.ensures at c.total_ticks.ensures in
    let row = rw c.sink.ensures at c.taken-row.ensures in
    record {
      takes = λ script beside are.
          let same = are.own_way.stands.total in
          let low : c.taken-row.result < script.config.ticks = omega (arith, left, total, same) in
          let none = tries script beside own other are c.taken-row.result row low in
          waits-row script beside own other are c.taken-row.result row low
          c.take.new.self c.take.result (c.take.ensures.takes (way_of script beside) backs are.own_way.stands none)
          c.take.ensures.rest c.take.ensures.windows c.in-Waiting.line c.in-Waiting.is;
      gives = λ script beside are.
          let same = are.own_way.stands.total in
          let low : c.taken-row.result < script.config.ticks = omega (arith, left, total, same) in
          let none = tries script beside own other are c.taken-row.result row low in
          c.take.ensures.gives (way_of script beside) backs are.own_way.stands none;
      own = taken-keeps own _ c.take.ensures.rest c.take.ensures.windows;
      other = record { frames = refl; commands = refl; windows = refl };
    }

pub returns-in-Taken-None : goal.returns-in-Taken-None
returns-in-Taken-None g c =
    let own : WayWalking = walking_of c.args.own.now in
    let other : WayWalking = walking_of c.args.other.now in
    let backs = packets_in own.core.sink.taken in
    let left = c.if-row-total_ticks.false in
    let total = rw c.source.ensures at c.total_ticks.ensures in
    let row = rw c.sink.ensures at c.taken-row.ensures in
    record {
      takes = λ script beside are.
          let same = are.own_way.stands.total in
          let low : c.taken-row.result < script.config.ticks = omega (arith, left, total, same) in
          let none = tries script beside own other are c.taken-row.result row low in
          quiet-row script beside own other are c.taken-row.result row low
          c.take.new.self c.take.result (c.take.ensures.takes (way_of script beside) backs are.own_way.stands none)
          c.take.ensures.rest c.take.ensures.windows c.in-Taken-None.back c.in-Taken-None.is c.in-Taken-None.back-is;
      gives = λ script beside are.
          let same = are.own_way.stands.total in
          let low : c.taken-row.result < script.config.ticks = omega (arith, left, total, same) in
          let none = tries script beside own other are c.taken-row.result row low in
          c.take.ensures.gives (way_of script beside) backs are.own_way.stands none;
      own = taken-keeps own _ c.take.ensures.rest c.take.ensures.windows;
      other = record { frames = refl; commands = refl; windows = refl };
    }

pub say-requires : goal.say-requires
say-requires g c =
    let (script, beside, are) = c.requires in
    let own : WayWalking = walking_of c.args.own.now in
    let other : WayWalking = walking_of c.args.other.now in
    let left = c.if-row-total_ticks.false in
    let total = rw c.source.ensures at c.total_ticks.ensures in
    let row = rw c.sink.ensures at c.taken-row.ensures in
    let same = are.own_way.stands.total in
    let low : c.taken-row.result < script.config.ticks = omega (arith, left, total, same) in
    let none = tries script beside own other are c.taken-row.result row low in
    say-room script beside own other are c.taken-row.result row low c.take.new.self
    c.take.result
    (c.take.ensures.takes (way_of script beside) (packets_in own.core.sink.taken) are.own_way.stands none)
    c.take.ensures.rest c.take.ensures.windows c.in-Taken-Some.back c.in-Taken-Some.is c.in-Taken-Some.packet
    c.in-Taken-Some.back-is

pub hear-requires : goal.hear-requires
hear-requires g c =
    let (script, beside, are) = c.requires in
    let own : WayWalking = walking_of c.args.own.now in
    let other : WayWalking = walking_of c.args.other.now in
    let left = c.if-row-total_ticks.false in
    let total = rw c.source.ensures at c.total_ticks.ensures in
    let row = rw c.sink.ensures at c.taken-row.ensures in
    let same = are.own_way.stands.total in
    let low : c.taken-row.result < script.config.ticks = omega (arith, left, total, same) in
    let none = tries script beside own other are c.taken-row.result row low in (
      script,
      beside,
      own,
      said-ends script beside own other are c.taken-row.result row low
          c.take.new.self c.take.result
          (c.take.ensures.takes (way_of script beside) (packets_in own.core.sink.taken) are.own_way.stands none)
          c.take.ensures.rest c.take.ensures.windows c.in-Taken-Some.back c.in-Taken-Some.is c.in-Taken-Some.packet
          c.in-Taken-Some.back-is c.say.new.self c.say.ensures.packets c.say.ensures.room,
    )

pub returns-in-Taken-Some : goal.returns-in-Taken-Some
returns-in-Taken-Some g c =
    let own : WayWalking = walking_of c.args.own.now in
    let other : WayWalking = walking_of c.args.other.now in
    let backs = packets_in own.core.sink.taken in
    let left = c.if-row-total_ticks.false in
    let total = rw c.source.ensures at c.total_ticks.ensures in
    let row = rw c.sink.ensures at c.taken-row.ensures in
    record {
      takes = λ script beside are.
          let same = are.own_way.stands.total in
          let low : c.taken-row.result < script.config.ticks = omega (arith, left, total, same) in
          let none = tries script beside own other are c.taken-row.result row low in
          let takes = c.take.ensures.takes (way_of script beside) backs are.own_way.stands none in
          said-row script beside own other are c.taken-row.result row low c.take.new.self c.take.result
          takes c.take.ensures.rest c.take.ensures.windows c.in-Taken-Some.back c.in-Taken-Some.is
          c.in-Taken-Some.packet c.in-Taken-Some.back-is c.say.new.self c.say.ensures.packets c.say.ensures.room
          (walking_of c.hear.new.other)
          (c.hear.ensures.hears script beside own
          (said-ends script beside own other are c.taken-row.result row low
          c.take.new.self c.take.result takes c.take.ensures.rest c.take.ensures.windows c.in-Taken-Some.back
          c.in-Taken-Some.is c.in-Taken-Some.packet c.in-Taken-Some.back-is c.say.new.self c.say.ensures.packets
          c.say.ensures.room));
      gives = λ script beside are.
          let same = are.own_way.stands.total in
          let low : c.taken-row.result < script.config.ticks = omega (arith, left, total, same) in
          let none = tries script beside own other are c.taken-row.result row low in
          c.take.ensures.gives (way_of script beside) backs are.own_way.stands none;
      own = taken-keeps own _ c.take.ensures.rest c.take.ensures.windows;
      other = c.hear.ensures.other;
    }
