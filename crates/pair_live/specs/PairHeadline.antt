-- What a conversation with a pair is worth: of each way what was answered is what the headline says; and afterwards
-- there are two scripts, of which a pair of walks writes the same first, and more where rows were left.
use Rattle.std.specs.Prelude.{◌≡◌, List, ℕ, ◌++◌}
use Rattle.std.specs.Str.Lines.{lines}
use Rattle.text_report.specs.ReportLines.{got_texts, refused_texts, total_text}
use Rattle.law_walk.specs.Common.{landed_items, numbered, totals_among}
use Rattle.law_walk.specs.DeliveredFrames.{delivered_since}
use Rattle.law_headline.specs.Headline.{IsHeadline}
use Rattle.law_pair.specs.declared.pair_events.Way.{Way}
use Rattle.law_pair.specs.Common.{IsPair, counts_on}
use Rattle.law_live.specs.Common.{PairSaying, answers_on, frames_got, items_refused, leg_on, pair_answers}
use Rattle.law_live.specs.Common.{pair_counts}
use Rattle.law_live.specs.Common.{totals_on}
use Rattle.text_pairs.specs.declared.script_pair.ScriptPair.{ScriptPair}
use Rattle.text_pairs.specs.ReportsOfWays.{text_on}
use Rattle.pair_live.specs.PairDialogue.{lines_answered, lines_last}
use Rattle.pair_live.specs.PairSayingsOfLines.{scripts_of_live, pair_sayings}
use Rattle.walk_live.specs.declared.asked.Asked.{Asked}

-- ---- of a way of two scripts
-- what was answered of it: the frames that came out, in order; the refused items; and the totals
abbrev pub way_told_text : ScriptPair → List PairSaying → Way → List ℕ
way_told_text pair said way =
    let told = answers_on way (pair_answers pair.there pair.back said) in
    got_texts (frames_got told) ++ refused_texts (items_refused told)
    ++ total_text (totals_on pair.there pair.back said way)

-- the headline holds of it, with the ticks, the rows and the items so far
abbrev pub IsWayHeadline : ScriptPair → List PairSaying → Way → Type 0
IsWayHeadline pair said way =
    let leg = leg_on pair.there pair.back way in
    let s = counts_on (pair_counts pair.there pair.back said) way in
    IsHeadline leg s.ticks s.rows (landed_items leg s) (way_told_text pair said way)

-- `pair` takes all rows of this way: it writes the frames that were answered, then those of the rows that were left,
-- then just the refused items that were answered, and then the totals
abbrev pub IsWayWalk : ScriptPair → List PairSaying → Way → Type 0
IsWayWalk pair said way =
    let leg = leg_on pair.there pair.back way in
    let told = answers_on way (pair_answers pair.there pair.back said) in
    let rows = (counts_on (pair_counts pair.there pair.back said) way).rows in
    text_on way pair
    ≡ got_texts (frames_got told ++ delivered_since leg rows leg.config.ticks) ++ refused_texts (items_refused told)
    ++ total_text (totals_among leg leg.config.ticks leg.config.ticks (numbered 0 leg.items))

-- ---- of lines of which none is faulty
-- their scripts can be walked as a pair, and of each way `pair` writes what was answered of it first, and just the
-- items that were refused; and the headline holds of what was answered
pub record IsPairWalkOf (ls : List (List ℕ)) : Type 0 where
  pub pair : IsPair (scripts_of_live ls).there (scripts_of_live ls).back
  pub writes : (way : Way) → IsWayWalk (scripts_of_live ls) (pair_sayings ls) way
  pub headline : (way : Way) → IsWayHeadline (scripts_of_live ls) (pair_sayings ls) way

-- THE HEADLINE of a conversation with a pair: the answers to the lines of its text are written, and then the totals of
-- both ways; and afterwards there are two scripts, of which `pair` writes what was answered first, and of each way the
-- frames that came out are those that the headline says
pub record IsLivePairHeadline (asked : Asked) (text written : List ℕ) : Type 0 where
  pub answers : written ≡ lines_answered asked (lines text) ++ lines_last (lines text)
  pub walk : IsPairWalkOf (lines text)
