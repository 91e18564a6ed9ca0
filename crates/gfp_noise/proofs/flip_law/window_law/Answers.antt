-- Flips are descrambled apart: a window with none leaves none in its area, and one with one leaves one or two.
use Rattle.gfp_noise.proofs.FlipRemainderAndDescramblingLaws.{descrambled-xors, left_in-area_none, left_in-area_one}
use Rattle.gfp_noise.proofs.flip_law.window_law.Goals as goal

pub returns-clause-linear : goal.returns-clause-linear
returns-clause-linear c = descrambled-xors

pub returns-clause-none : goal.returns-clause-none
returns-clause-none c = left_in-area_none

pub returns-clause-one : goal.returns-clause-one
returns-clause-one c = left_in-area_one
