-- The report of a walk: a line for each frame that was delivered, one for each item that was refused, and a line of
-- totals.
use Rattle.std.specs.Prelude.{ℕ, List, ◌++◌}
use Rattle.law_model.specs.Common.{Leg, Counts}
use Rattle.text_report.specs.ReportLines.{got_texts, refused_texts, total_text}
use Rattle.law_walk.specs.DeliveredFrames.{delivered_of}
use Rattle.law_walk.specs.LandedOfLeg.{Numbered, landed_items, refusals_among, totals_among}
use Rattle.law_walk.specs.Promise.{numbered}

-- after some ticks and rows, where these items have landed
abbrev pub report_among : Leg → ℕ → ℕ → List Numbered → List ℕ
report_among leg ticks rows items =
    got_texts (delivered_of leg rows) ++ refused_texts (refusals_among leg items) ++ total_text
    (totals_among leg ticks rows items)

-- by the counts of a walk
abbrev pub report_of : Leg → Counts → List ℕ
report_of leg s = report_among leg s.ticks s.rows (landed_items leg s)

-- of a session whose ticks are all made, whose rows are all taken and whose items have all landed
abbrev pub final_report : Leg → List ℕ
final_report leg = report_among leg leg.config.ticks leg.config.ticks (numbered 0 leg.items)
