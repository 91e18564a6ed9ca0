-- The causes, one after another.
use Rattle.std.proofs.Common.{sym, ◌∙◌, ap₂}
use Rattle.law_pair.specs.Common.{first_way}
use Rattle.pair_engine.specs.declared.pair_way.PairWay.{PairWay}
use Rattle.pair_engine.proofs.PairEventAndRoundLaws.{cause-here, cause-later, lives-of}
use Rattle.pair_engine.proofs.ways_meet.tick_stall.Goals as goal

pub live_stall-requires : goal.live_stall-requires
live_stall-requires c =
    let there : PairWay = c.args.there.now in
    let back : PairWay = c.args.back.now in
    (there.script, back.script, lives-of there back c.requires)

pub returns-in-Some : goal.returns-in-Some
returns-in-Some c =
    cause-here _ _ c.in-Some.cause (sym (c.first_way.ensures
    ∙ ap₂ first_way (c.done.ensures c.args.back.now.script) (c.done-2.ensures c.args.there.now.script)) ∙ c.in-Some.is)

pub returns-in-Some-first_way : goal.returns-in-Some-first_way
returns-in-Some-first_way c =
    let there : PairWay = c.args.there.now in
    let back : PairWay = c.args.back.now in
    let done = c.first_way.ensures ∙ ap₂ first_way (c.done.ensures back.script) (c.done-2.ensures there.script) in
    let holds = c.first_way-2.ensures ∙ ap₂ first_way (c.held.ensures back.script c.requires.there_way.landed)
    (c.held-2.ensures there.script c.requires.back_way.landed) in
    cause-later _ _ _ (sym done ∙ c.in_default.is)
    (cause-here _ _ c.in-Some-first_way.cause (sym holds ∙ c.in-Some-first_way.is))

pub returns : goal.returns
returns c =
    let there : PairWay = c.args.there.now in
    let back : PairWay = c.args.back.now in
    let done = c.first_way.ensures ∙ ap₂ first_way (c.done.ensures back.script) (c.done-2.ensures there.script) in
    let holds = c.first_way-2.ensures ∙ ap₂ first_way (c.held.ensures back.script c.requires.there_way.landed)
    (c.held-2.ensures there.script c.requires.back_way.landed) in
    cause-later _ _ _ (sym done ∙ c.in_default.is)
    (cause-later _ _ _ (sym holds ∙ c.in_default-first_way.is)
    (c.live_stall.ensures there.script back.script (lives-of there back c.requires)))
