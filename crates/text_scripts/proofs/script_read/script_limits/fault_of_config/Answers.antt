-- Lines without a fault of slips have windows that give a sign each.
use Rattle.std.proofs.Common.{sym}
use Rattle.text_scripts.proofs.ScriptDraftGrowthLaws.{all_signs}
use Rattle.text_scripts.proofs.script_read.script_limits.fault_of_config.Goals as goal

pub greatest_of_slips-slip-requires : goal.greatest_of_slips-slip-requires
greatest_of_slips-slip-requires c = all_signs _ 0 c.args.config.now.windows c.requires.each (sym c.in_default.ensures)
