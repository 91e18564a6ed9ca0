-- One delay on.
use Rattle.std.proofs.Common.{◌∙◌}
use Rattle.text_scripts.proofs.ScriptDraftGrowthLaws.{least_next}
use Rattle.text_scripts.proofs.script_read.script_limits.least_delay.Goals as goal

pub loop-delay-preserved : goal.loop-delay-preserved
loop-delay-preserved c =
    least_next c.in-Some.others.now c.loop-delay.delay-index _ c.loop-delay.low c.min-low.result c.loop-delay-test.true
    c.min-low.ensures
    ∙ c.loop-delay.invariant
