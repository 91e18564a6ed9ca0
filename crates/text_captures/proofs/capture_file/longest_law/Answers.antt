-- How long frames are.
use Rattle.text_captures.proofs.LongestFrameLaws.{all-fit, none-longer}
use Rattle.text_captures.proofs.capture_file.longest_law.Goals as goal

pub returns : goal.returns
returns c = record { most = all-fit; fits = none-longer }
