-- The lines so far were written.
use Rattle.std.proofs.Common.{ℕ, List, ◌++◌, take, flat_map}
use Rattle.law_model.specs.Common.{Start}
use Rattle.text_got.specs.TextSoFar.{HasText}
use Rattle.gfp_channels.specs.channel_link.ChannelReportText.{refusal_text}
use Rattle.gfp_channels.proofs.channel_link.channel_run.write_refused.Given as goal

abbrev pub invariant-loop-refusal : goal.invariant-loop-refusal
invariant-loop-refusal g l =
    (start : Start) (before : List ℕ) → HasText g.K.ByteSink.written g.K.ByteSink.faults l.fn.lines start before
    → HasText g.K.ByteSink.written g.K.ByteSink.faults l.lines start
    (before ++ flat_map refusal_text (take l.refusal-index l.refused))
