-- The frames that come out are told behind what waited.
use Rattle.std.proofs.Common.{ℕ, List, [], ◌∷◌, ◌++◌, ◌∙◌, OnErr, OnOk, rules, subst}
use Rattle.law_model.specs.Common.{AppendsPart, Start}
use Rattle.text_got.specs.TextSoFar.{Holds}
use Rattle.walk_engine.specs.walk_core.LiveWalking.{walking_counts}
use Rattle.law_walk.specs.DeliveredFrames.{delivered_since}
use Rattle.walk_live.specs.TimedWriting.{block_of, got_words, out_of, timed_start, timed_texts}
use Rattle.walk_live.specs.declared.timed_lines.Whose.TheVariants.{Walk}
use Rattle.walk_live.proofs.answered_walk.AnsweredWalk.finish_round.Goals as goal

pub returns-clause-told : goal.returns-clause-told
returns-clause-told g c leg stands =
    let written = g.K.ByteSink.written in
    let faults = g.K.ByteSink.faults in
    let first = c.args.out.now in
    let frames : List (List ℕ) = delivered_since leg (walking_counts c.args.self.now.walk).rows
    (walking_counts c.finish_round.new.self).rows in
    let start : Start = timed_start written faults first (out_of c.new-lines.result) (block_of c.new-lines.result)
    c.ticks.result in
    let gives = c.finish_round.ensures.gives leg stands start
    (c.args.block.now ∷ got_words Walk ∷ []) c.new-lines.ensures.fresh in
    let end = c.end.ensures.ok first (out_of c.new-lines.result) (block_of c.new-lines.result) c.ticks.result
    c.args.block.now (got_words Walk) frames gives in
    let timed = subst (λ n. OnOk c.end.result (Holds written faults first c.finish_round.new.out.out.now
    c.finish_round.new.out.block.now (c.args.block.now ++ timed_texts n frames))) c.ticks.ensures end in
    let out = gives.out ∙ c.new-lines.ensures.out in
    let block = gives.block ∙ c.new-lines.ensures.block in
    search (rules, timed, out, block)

pub returns-clause-part : goal.returns-clause-part
returns-clause-part g c leg stands =
    let written = g.K.ByteSink.written in
    let faults = g.K.ByteSink.faults in
    let first = c.args.out.now in
    let frames : List (List ℕ) = delivered_since leg (walking_counts c.args.self.now.walk).rows
    (walking_counts c.finish_round.new.self).rows in
    let start : Start = timed_start written faults first (out_of c.new-lines.result) (block_of c.new-lines.result)
    c.ticks.result in
    let gives = c.finish_round.ensures.gives leg stands start
    (c.args.block.now ∷ got_words Walk ∷ []) c.new-lines.ensures.fresh in
    let end = c.end.ensures.err first (out_of c.new-lines.result) (block_of c.new-lines.result) c.ticks.result
    c.args.block.now (got_words Walk) frames gives in
    let timed = subst (λ n. OnErr c.end.result (AppendsPart written faults first c.finish_round.new.out.out.now
    (c.args.block.now ++ timed_texts n frames))) c.ticks.ensures end in
    let out = gives.out ∙ c.new-lines.ensures.out in
    search (rules, timed, out)
