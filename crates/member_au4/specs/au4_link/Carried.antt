-- What comes of numbered VC-4s over a link, by the frames that are sent and taken.
use Rattle.std.specs.Prelude.{ℕ, List, ◌++◌, length}
use Rattle.member_au4.specs.declared.au4_pointer.au_frame.AuFrame.{AuFrame}
use Rattle.member_au4.specs.au4_pointer.StreamPart.{begun, part_after}
use Rattle.member_au4.specs.au4_pointer.Sink.{given}
use Rattle.member_au4.specs.au4_pointer.SentFrames.{sent}
use Rattle.member_au4.specs.declared.au4_link.au4_draft.Link.{Link}
use Rattle.member_au4.specs.au4_link.Vcs.{first_vcs}
use Rattle.member_au4.specs.au4_link.LinkReportText.{vc_texts, end_text, cuts}

-- the numbered VC-4s that begin on a link
abbrev pub link_vcs : Link → List (List ℕ)
link_vcs link = first_vcs (begun (part_after link.start link.actions))

-- the frames that a source sends of them
abbrev pub link_frames : Link → List AuFrame
link_frames link = sent link.start link.actions (link_vcs link)

-- a line for each VC-4 that these frames give, and the counts
abbrev pub carried_text : Link → List ℕ
carried_text link =
    vc_texts (given (link_frames link))
    ++ end_text (length link.actions) (length (link_vcs link)) (length (given (link_frames link)))
    (cuts link.start link.actions)
