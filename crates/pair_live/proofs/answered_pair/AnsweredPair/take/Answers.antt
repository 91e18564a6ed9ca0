-- The frames that come out are told behind what waited.
use Rattle.std.proofs.Common.{◌≡◌, ℕ, List, [], ◌∷◌, ◌++◌, ◌∙◌, OnErr, OnOk, subst, sym}
use Rattle.law_model.specs.Common.{AppendsPart, Start}
use Rattle.law_pair.specs.Common.{counts_on}
use Rattle.law_walk.specs.DeliveredFrames.{delivered_since}
use Rattle.law_live.specs.Common.{leg_on}
use Rattle.text_got.specs.TextSoFar.{Holds}
use Rattle.walk_live.specs.TimedWriting.{block_of, got_words, out_of, timed_start, worded_texts}
use Rattle.pair_engine.specs.LivePairs.{walking_counts}
use Rattle.pair_live.specs.PairPassing.{frames_text_on}
use Rattle.pair_live.proofs.WayLineLaws.{frames-taken}
use Rattle.pair_live.proofs.answered_pair.AnsweredPair.take.Goals as goal

pub returns-clause-told : goal.returns-clause-told
returns-clause-told g c one other lives =
    let written = g.K.ByteSink.written in
    let faults = g.K.ByteSink.faults in
    let first = c.args.out.now in
    let way = c.args.way in
    let words = got_words c.whose.result in
    let goes = c.take.ensures.takes one other lives in
    let frames : List (List ℕ) = delivered_since (leg_on one other way)
    (counts_on (walking_counts c.args.self.now.pair) way).rows (counts_on (walking_counts c.take.new.self) way).rows in
    let start : Start = timed_start written faults first (out_of c.new-lines.result) (block_of c.new-lines.result)
    c.ticks.result in
    let gives = c.take.ensures.gives one other lives start (c.args.block.now ∷ words ∷ []) c.new-lines.ensures.fresh in
    let end = c.end.ensures.ok first (out_of c.new-lines.result) (block_of c.new-lines.result) c.ticks.result
    c.args.block.now words frames gives in
    let text : worded_texts words c.ticks.result frames
    ≡ frames_text_on one other way (walking_counts c.args.self.now.pair) (walking_counts c.take.new.self) =
    frames-taken one other way c.args.self.now.pair c.take.new.self words c.ticks.result lives goes c.whose.ensures
    c.ticks.ensures in
    let timed = subst (λ text. OnOk c.end.result (Holds written faults first c.take.new.out.out.now
    c.take.new.out.block.now (c.args.block.now ++ text))) text end in
    let text = frames_text_on one other way (walking_counts c.args.self.now.pair) (walking_counts c.take.new.self) in
    let out = c.out-1.given.1 (sym (gives.out ∙ c.new-lines.ensures.out)) in
    let block = c.block-1.given.1 (sym (gives.block ∙ c.new-lines.ensures.block)) in
    subst (λ sink. OnOk c.end.result (Holds written faults first sink c.block-1.given.0 (c.args.block.now ++ text)))
    (sym out)
    (subst (λ waits. OnOk c.end.result (Holds written faults first c.take.new.out.out.now waits
    (c.args.block.now ++ text))) (sym block) timed)

pub returns-clause-part : goal.returns-clause-part
returns-clause-part g c one other lives =
    let written = g.K.ByteSink.written in
    let faults = g.K.ByteSink.faults in
    let first = c.args.out.now in
    let way = c.args.way in
    let words = got_words c.whose.result in
    let goes = c.take.ensures.takes one other lives in
    let frames : List (List ℕ) = delivered_since (leg_on one other way)
    (counts_on (walking_counts c.args.self.now.pair) way).rows (counts_on (walking_counts c.take.new.self) way).rows in
    let start : Start = timed_start written faults first (out_of c.new-lines.result) (block_of c.new-lines.result)
    c.ticks.result in
    let gives = c.take.ensures.gives one other lives start (c.args.block.now ∷ words ∷ []) c.new-lines.ensures.fresh in
    let end = c.end.ensures.err first (out_of c.new-lines.result) (block_of c.new-lines.result) c.ticks.result
    c.args.block.now words frames gives in
    let text : worded_texts words c.ticks.result frames
    ≡ frames_text_on one other way (walking_counts c.args.self.now.pair) (walking_counts c.take.new.self) =
    frames-taken one other way c.args.self.now.pair c.take.new.self words c.ticks.result lives goes c.whose.ensures
    c.ticks.ensures in
    let timed = subst (λ text. OnErr c.end.result (AppendsPart written faults first c.take.new.out.out.now
    (c.args.block.now ++ text))) text end in
    let text = frames_text_on one other way (walking_counts c.args.self.now.pair) (walking_counts c.take.new.self) in
    subst (λ sink. OnErr c.end.result (AppendsPart written faults first sink (c.args.block.now ++ text)))
    (sym (c.out-1.given.1 (sym (gives.out ∙ c.new-lines.ensures.out)))) timed
