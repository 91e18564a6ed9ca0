-- Both ways tell, and make their frames.
use Rattle.std.proofs.Common.{None, sym, ◌∙◌, ap, ap₂, subst, arith}
use Rattle.law_pair.specs.Common.{PairCounts, tick_by}
use Rattle.pair_engine.specs.declared.live_way.LiveWay.{LiveWay}
use Rattle.pair_engine.specs.LivePairs.{GoesOn, PairWalking, WayWalking, walking_counts}
use Rattle.pair_engine.specs.Ways.{walking_both, walking_of}
use Rattle.pair_engine.proofs.PairTickAndToldPacketLaws.{back-free, both-tick, cell-for, has-ticked, left-for}
use Rattle.pair_engine.proofs.PairTickAndToldPacketLaws.{made-keeps, note_after, stands-for, there-free}
use Rattle.pair_engine.proofs.PairTickAndToldPacketLaws.{with_frame}
use Rattle.pair_engine.proofs.ways_meet.tick_both.Goals as goal

pub tell_next-of_there-requires : goal.tell_next-of_there-requires
tell_next-of_there-requires c =
    let (one, other, can) = c.requires in
    let lag = can.lives.there_way.lag in
    let near = can.lives.fits.there_way.near in
    omega (arith, lag, near)

pub tell_next-of_back-requires : goal.tell_next-of_back-requires
tell_next-of_back-requires c =
    let (one, other, can) = c.requires in
    let lag = can.lives.back_way.lag in
    let near = can.lives.fits.back_way.near in
    omega (arith, lag, near)

pub make-there_took-requires : goal.make-there_took-requires
make-there_took-requires c =
    let (one, other, can) = c.requires in
    let there : WayWalking = walking_of c.args.there.now in
    let back : WayWalking = walking_of c.args.back.now in
    let free = there-free one other (walking_both c.args.there.now c.args.back.now) can in
    let core = c.tell_next-of_there.new.self.core in
    let same = ap (λ (own : LiveWay). own.core) c.tell_next-of_there.ensures.rest in
    record {
      stands = stands-for one other there back free core same;
      left = left-for one other there back free core same;
      cell = cell-for one other there back free core same;
    }

pub make-back_took-requires : goal.make-back_took-requires
make-back_took-requires c =
    let (one, other, can) = c.requires in
    let there : WayWalking = walking_of c.args.there.now in
    let back : WayWalking = walking_of c.args.back.now in
    let free = back-free one other (walking_both c.args.there.now c.args.back.now) can in
    let core = c.tell_next-of_back.new.self.core in
    let same = ap (λ (own : LiveWay). own.core) c.tell_next-of_back.ensures.rest in
    record {
      stands = stands-for other one back there free core same;
      left = left-for other one back there free core same;
      cell = cell-for other one back there free core same;
    }

pub returns-clause-ticks : goal.returns-clause-ticks
returns-clause-ticks c one other can =
    let there : WayWalking = walking_of c.args.there.now in
    let back : WayWalking = walking_of c.args.back.now in
    let pair : PairWalking = walking_both c.args.there.now c.args.back.now in
    let next : PairCounts = (tick_by None (walking_counts pair)).counts in
    let there_told = c.tell_next-of_there.ensures in
    let back_told = c.tell_next-of_back.ensures in
    let m = c.make-there_took.ensures in
    let n = c.make-back_took.ensures in
    let there_cell = c.make-there_took.result in
    let back_cell = c.make-back_took.result in
    let there_note = c.next_note-there.result in
    let back_note = c.next_note-back.result in
    let noted = c.next_note-there.ensures
    ∙ ap₂ (λ ticks (own : LiveWay). note_after ticks there_cell own.last)
    (rw (c.core.ensures, c.source.ensures) at c.ticks-ticks.ensures) there_told.rest in
    let back_noted = c.next_note-back.ensures
    ∙ ap₂ (λ ticks (own : LiveWay). note_after ticks back_cell own.last)
    (rw (c.core-2.ensures, c.source-2.ensures) at c.ticks-ticks-2.ensures) back_told.rest in
    let first = has-ticked one other there back (there-free one other pair can)
    c.tell_next-of_there.new.self.core (ap (λ (own : LiveWay). own.core) there_told.rest) c.tell_next-of_back.result
    there_cell c.make-there_took.new.self there_note back_told.told m.makes m.cell m.inbox m.ticks m.rest noted in
    let second = has-ticked other one back there (back-free one other pair can)
    c.tell_next-of_back.new.self.core (ap (λ (own : LiveWay). own.core) back_told.rest) c.tell_next-of_there.result
    back_cell c.make-back_took.new.self back_note there_told.told n.makes n.cell n.inbox n.ticks n.rest back_noted in
    subst (λ (own : LiveWay). GoesOn one other next (record {
      there = record { core = c.make-there_took.new.self; said = own.said; lag = own.lag; last = there_note };
      back = record {
        core = c.make-back_took.new.self;
        said = c.tell_next-of_back.new.self.said;
        lag = c.tell_next-of_back.new.self.lag;
        last = back_note;
      };
    })) (sym there_told.rest)
    (subst (λ (own : LiveWay). GoesOn one other next (record {
      there = with_frame there c.make-there_took.new.self there_note;
      back = record { core = c.make-back_took.new.self; said = own.said; lag = own.lag; last = back_note };
    })) (sym back_told.rest)
    (both-tick one other pair can (record {
      there = with_frame there c.make-there_took.new.self there_note;
      back = with_frame back c.make-back_took.new.self back_note;
    }) first second))

pub returns-clause-there : goal.returns-clause-there
returns-clause-there c =
    let m = c.make-there_took.ensures in
    made-keeps (walking_of c.args.there.now) _ c.tell_next-of_there.new.self.core
    (ap (λ (own : LiveWay). own.core) c.tell_next-of_there.ensures.rest) m.landed m.rest

pub returns-clause-back : goal.returns-clause-back
returns-clause-back c =
    let m = c.make-back_took.ensures in
    made-keeps (walking_of c.args.back.now) _ c.tell_next-of_back.new.self.core
    (ap (λ (own : LiveWay). own.core) c.tell_next-of_back.ensures.rest) m.landed m.rest
