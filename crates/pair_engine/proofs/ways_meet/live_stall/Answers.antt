-- A send ring is full, or a return packet unsaid.
use Rattle.std.proofs.Common.{sym, ◌∙◌, ap, ap₂, arith}
use Rattle.law_model.specs.session.Scenario.{packets_in}
use Rattle.law_pair.specs.Common.{first_way, missing_at, way_of}
use Rattle.pair_engine.specs.LivePairs.{way_walked}
use Rattle.pair_engine.specs.Ways.{walking_of}
use Rattle.pair_engine.proofs.PairEventAndRoundLaws.{cause-here, cause-later}
use Rattle.pair_engine.proofs.ways_meet.live_stall.Goals as goal

pub full-requires : goal.full-requires
full-requires c =
    let (one, other, lives) = c.requires in
    (way_of one other, packets_in c.args.there.now.core.sink.taken, lives.there_way.stands)

pub full-requires-2 : goal.full-requires-2
full-requires-2 c =
    let (one, other, lives) = c.requires in
    (way_of other one, packets_in c.args.back.now.core.sink.taken, lives.back_way.stands)

pub unsaid-requires : goal.unsaid-requires
unsaid-requires c =
    let (one, other, lives) = c.requires in
    let lag = lives.there_way.lag in
    let near = lives.fits.there_way.near in
    omega (arith, lag, near)

pub unsaid-requires-2 : goal.unsaid-requires-2
unsaid-requires-2 c =
    let (one, other, lives) = c.requires in
    let lag = lives.back_way.lag in
    let near = lives.fits.back_way.near in
    omega (arith, lag, near)

pub returns-in-Some : goal.returns-in-Some
returns-in-Some c one other lives =
    let fills = c.first_way.ensures
    ∙ ap₂ first_way (c.full.ensures (way_of one other) (packets_in c.args.there.now.core.sink.taken)
    lives.there_way.stands)
    (c.full-2.ensures (way_of other one) (packets_in c.args.back.now.core.sink.taken) lives.back_way.stands) in
    cause-here _ _ c.in-Some.cause (sym fills ∙ c.in-Some.is)

pub returns : goal.returns
returns c one other lives =
    let fills = c.first_way.ensures
    ∙ ap₂ first_way (c.full.ensures (way_of one other) (packets_in c.args.there.now.core.sink.taken)
    lives.there_way.stands)
    (c.full-2.ensures (way_of other one) (packets_in c.args.back.now.core.sink.taken) lives.back_way.stands) in
    let unsaid = c.first_way-2.ensures
    ∙ ap₂ first_way
    (c.unsaid.ensures ∙ ap (λ lag. missing_at lag (way_walked (walking_of c.args.there.now))) lives.there_way.lag)
    (c.unsaid-2.ensures ∙ ap (λ lag. missing_at lag (way_walked (walking_of c.args.back.now)))
    (lives.back_way.lag ∙ sym lives.fits.lag)) in
    cause-later _ _ _ (sym fills ∙ c.in_default.is) unsaid
