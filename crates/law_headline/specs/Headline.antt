-- The headline: what the report of a session tells, in the words of whoever wrote its script.
use Rattle.std.specs.Prelude.{◌≡◌, ◌↔◌, ◌⊎◌, ℕ, ◌≤◌, Bool, true, List, ◌++◌, map, filter, length, All, Ok}
use Rattle.law_model.specs.Common.{Leg, leg_of, segments, Extent, Lost}
use Rattle.law_model.specs.declared.script_types.Script.{Script}
use Rattle.text_report.specs.ReportLines.{got_texts, refused_texts, total_text}
use Rattle.text_scripts.specs.script_read.Script.{script_of}
use Rattle.law_walk.specs.Common.{session_rows, Numbered, landed_items, refusals_among, totals_among, numbered}
use Rattle.law_walk.specs.Common.{accepted_frames, session_extents, session_waiting, place_after, HasNoFailure}
use Rattle.law_walk.specs.Common.{ConfirmsTrue}
use Rattle.law_headline.specs.WalkTexts.{counts_in}

-- ---- which frames
-- the rows that were taken carry a frame whole, and it is lost in none of the four ways in which a failure costs a
-- frame (`Lost`)
pub record ComesThrough (leg : Leg) (rows : ℕ) (frame : Extent) : Type 0 where
  pub carried : frame.to ≤ place_after leg rows
  pub kept : ¬ Lost (segments (session_rows leg rows)) (session_extents leg) frame

-- of some frames just those that meet a condition, in order and each once
pub record ArePicked (Meets : Extent → Type 0) (all picked : List Extent) : Type 0 where
  pub test : Extent → Bool
  pub decides : All (λ frame. (test frame ≡ true) ↔ Meets frame) all
  pub are : picked ≡ filter test all

abbrev pub frames_of : List Extent → List (List ℕ)
frames_of extents = map (λ extent. extent.frame) extents

-- ---- which text
-- the got lines of just those accepted frames that come through the rows which were taken, in item order and each once;
-- then the lines of the refused items among those that have landed; then the line of totals
pub record Reports (leg : Leg) (ticks rows : ℕ) (items : List Numbered) (text : List ℕ) : Type 0 where
  -- the accepted frames in item order are those that the stream has, and then those that still wait
  pub accepted : accepted_frames leg ≡ frames_of (session_extents leg) ++ session_waiting leg
  -- just those of the stream that come through
  pub through : List Extent
  pub picked : ArePicked (ComesThrough leg rows) (session_extents leg) through
  pub lines : text
      ≡ got_texts (frames_of through) ++ refused_texts (refusals_among leg items)
      ++ total_text (totals_among leg ticks rows items)
  -- as many as the line of totals says were got
  pub counted : (totals_among leg ticks rows items).got ≡ length through

-- THE HEADLINE. The frames that are written are, in order and each once, exactly those accepted frames that the taken
-- rows carry whole, except those that a declared failure costs, in the four ways of `Lost`; and the line of totals
-- says how many they are. The premise is that what is confirmed first after each break is the place of a piece. Where
-- no line has a failure it isn't asked, and no frame is lost at all
pub record IsHeadline (leg : Leg) (ticks rows : ℕ) (items : List Numbered) (text : List ℕ) : Type 0 where
  pub tells : HasNoFailure leg ⊎ ConfirmsTrue leg rows → Reports leg ticks rows items text
  pub hitless : HasNoFailure leg →
      All (λ frame. frame.to ≤ place_after leg rows → ComesThrough leg rows frame) (session_extents leg)

-- ---- of the octets of a script, and of those that are written of it
-- by `walk`: with the ticks, the rows and the items as far as its event lines come, and all where it has none
abbrev pub IsWalkHeadline : List ℕ → List ℕ → Type 0
IsWalkHeadline text written =
    (script : Script) × (script_of text ≡ Ok script)
    × (let s = counts_in script in IsHeadline (leg_of script) s.ticks s.rows (landed_items (leg_of script) s) written)

-- and with nothing presumed
abbrev pub IsWalkReport : List ℕ → List ℕ → Type 0
IsWalkReport text written =
    (script : Script) × (script_of text ≡ Ok script)
    × (let s = counts_in script in Reports (leg_of script) s.ticks s.rows (landed_items (leg_of script) s) written)

-- by `run`: with all of them
abbrev pub IsRunHeadline : List ℕ → List ℕ → Type 0
IsRunHeadline text written =
    (script : Script) × (script_of text ≡ Ok script)
    × (let all = script.config.ticks in IsHeadline (leg_of script) all all (numbered 0 script.items) written)

abbrev pub IsRunReport : List ℕ → List ℕ → Type 0
IsRunReport text written =
    (script : Script) × (script_of text ≡ Ok script)
    × (let all = script.config.ticks in Reports (leg_of script) all all (numbered 0 script.items) written)
