-- The windows of a script that can be walked give a sign each.
use Rattle.text_scripts.proofs.script_read.script_limits.least_lag.Goals as goal

pub greatest_of_slips-requires : goal.greatest_of_slips-requires
greatest_of_slips-requires c = λ k d low. (c.requires.sound.network.windows k d low).apart
