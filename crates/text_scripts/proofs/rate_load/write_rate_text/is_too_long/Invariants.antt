-- The total is the length of the lines so far.
use Rattle.std.proofs.Common.{◌≡◌, ◌-◌, ◌≤◌, length}
use Rattle.law_rates.specs.Places.{IsPlace}
use Rattle.law_rates.specs.Rates.{count_of, first_frames}
use Rattle.text_scripts.specs.rate_load.RateTexts.{lines_of}
use Rattle.text_scripts.proofs.rate_load.write_rate_text.is_too_long.Given as goal

abbrev pub invariant-loop-due : goal.invariant-loop-due
invariant-loop-due l = record {
  place : IsPlace l.rate l.place;
  total : l.total ≡ length (lines_of (first_frames l.rate l.place.number));
  small : l.total ≤ 67108864;
}

abbrev pub decreases-loop-due : goal.decreases-loop-due
decreases-loop-due l = count_of l.rate - l.place.number
