-- What is written of a link that carries numbered VC-4s. This text is this project's own.
use Rattle.std.specs.Prelude.{◌≡◌, ℕ, ◌+◌, ◌-◌, ◌<◌, List, [], ◌∷◌, ◌++◌, length, codes, decimal, Option, flat_map}
use Rattle.law_model.specs.Common.{Start}
use Rattle.text_got.specs.declared.got_text.GotLines.{GotLines}
use Rattle.text_got.specs.TextSoFar.{HasText}
use Rattle.member_au4.specs.au4_link.VcText.{vc_text}
use Rattle.member_au4.specs.declared.au4_pointer.au_frame.Action.{Action}
use Rattle.member_au4.specs.declared.au4_pointer.au_frame.Action.TheVariants.{Keep, Up, Down, New}
use Rattle.member_au4.specs.au4_pointer.StreamPart.{Part, begins, ends, begun, next_part, first_part, part_after, whole}
use Rattle.member_au4.specs.declared.au4_link.au4_draft.Link.{Link}
use Rattle.member_au4.specs.au4_link.Vcs.{first_vcs}

-- ---- VC-4s that are cut
-- how many are in progress behind the frames of a part: those that began and haven't ended
abbrev pub in_progress : Part → ℕ
in_progress part = begins part - ends part

-- how many a frame cuts: a New those in progress before it, and no other frame any
abbrev pub cut_by : Part → Action → ℕ
cut_by part Keep = 0
cut_by part Up = 0
cut_by part Down = 0
cut_by part (New p) = in_progress part

-- how many VC-4s the frames cut, from a part on
abbrev pub cuts_from : Part → List Action → ℕ
cuts_from part [] = 0
cuts_from part (a ∷ more) = cut_by part a + cuts_from (next_part part a) more

-- how many all frames cut
abbrev pub cuts : ℕ → List Action → ℕ
cuts start actions = cuts_from (first_part start) actions

-- ---- of numbered VC-4s, from a start on
-- those that come whole
abbrev pub back_of : ℕ → List Action → List (List ℕ)
back_of start actions = whole start actions (first_vcs (begun (part_after start actions)))

-- ---- the text
abbrev pub vc_texts : List (List ℕ) → List ℕ
vc_texts vcs = flat_map vc_text vcs

abbrev pub end_text : ℕ → ℕ → ℕ → ℕ → List ℕ
end_text frames begun back cut =
    codes "au4 frames " ++ decimal frames ++ codes " begun " ++ decimal begun ++ codes " back " ++ decimal back
    ++ codes " cut " ++ decimal cut ++ codes "\n"

-- the counts
abbrev pub counts_text : ℕ → List Action → List ℕ
counts_text start actions =
    end_text (length actions) (begun (part_after start actions)) (length (back_of start actions)) (cuts start actions)

-- a line for each VC-4 that comes whole, and the counts
abbrev pub text_of : ℕ → List Action → List ℕ
text_of start actions = vc_texts (back_of start actions) ++ counts_text start actions

abbrev pub link_text : Link → List ℕ
link_text link = text_of link.start link.actions

-- ---- as private clauses say it
-- the lines of these were written since a start, or wait, and this is their number
pub record HasVcs {K : Type 0} (written : K → Option (List ℕ)) (faults : K → ℕ) (lines : GotLines K) (back : ℕ)
    (start : Start) (vcs : List (List ℕ)) : Type 0 where
  pub text : HasText written faults lines start (vc_texts vcs)
  pub count : length vcs < 18446744073709551616 → back ≡ length vcs

-- how many are cut with a frame more, where so many began before it and so many came whole
abbrev pub cut_after : ℕ → ℕ → ℕ → Action → ℕ
cut_after cut begun back Keep = cut
cut_after cut begun back Up = cut
cut_after cut begun back Down = cut
cut_after cut begun back (New p) = begun - back
