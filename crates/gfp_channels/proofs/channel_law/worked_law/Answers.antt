-- A worked stream, computed.
use Rattle.std.proofs.Common.{◌≡◌, [], ◌∷◌, All, true, false, take, drop, Some, refl, subst, sym, IfSome}
use Rattle.std.proofs.lemmas.List.Elements.{All-nil, All-cons}
use Rattle.law_model.specs.Common.{hec_of, bits, number_behind, octets_of, xors, add_front, divide, core_header, pli_of}
use Rattle.law_model.specs.Common.{head, header_with, hunt_within, scramble_on, cut, follow_within, delineate_within}
use Rattle.law_model.specs.Common.{outcomes_after_with, Segment, segments_on, segments, extents, confirmed_in}
use Rattle.law_model.specs.Common.{IsPlaceOfPiece, StartsTrue}
use Rattle.gfp_model.specs.linear_model.ChannelArea.{linear_type_fault, cid_fault}
use Rattle.gfp_model.specs.linear_model.Channels.{first_busy, with_queue}
use Rattle.gfp_model.specs.linear_model.ChannelStream.{idle, client, reaching, cut_rows}
use Rattle.gfp_channels.specs.channel_law.FramesOfChannel.{as_pieces}
use Rattle.gfp_channels.specs.channel_law.Worked.{worked_pieces, worked_stream, worked_rows}
use Rattle.gfp_channels.proofs.channel_law.worked_law.Goals as goal

pub returns-clause-turns : goal.returns-clause-turns
unfolding first_busy with_queue reaching
returns-clause-turns c = refl

pub returns-clause-uncut : goal.returns-clause-uncut
unfolding worked_stream first_busy with_queue reaching cut core_header octets_of xors bits number_behind divide
    add_front scramble_on pli_of head hec_of header_with hunt_within linear_type_fault cid_fault follow_within
    delineate_within outcomes_after_with segments_on cut_rows
returns-clause-uncut c = refl

pub returns-clause-first : goal.returns-clause-first
unfolding worked_stream first_busy with_queue reaching cut core_header octets_of xors bits number_behind divide
    add_front scramble_on pli_of head hec_of header_with hunt_within linear_type_fault cid_fault follow_within
    delineate_within outcomes_after_with segments_on cut_rows
returns-clause-first c = refl

pub returns-clause-second : goal.returns-clause-second
unfolding worked_stream first_busy with_queue reaching cut core_header octets_of xors bits number_behind divide
    add_front scramble_on pli_of head hec_of header_with hunt_within linear_type_fault cid_fault follow_within
    delineate_within outcomes_after_with segments_on cut_rows
returns-clause-second c = refl

pub returns-clause-kept : goal.returns-clause-kept
unfolding worked_rows worked_stream first_busy with_queue reaching cut core_header octets_of xors bits number_behind
    divide add_front scramble_on pli_of head hec_of header_with hunt_within segments_on cut_rows extents
returns-clause-kept c = refl

pub returns-clause-octets : goal.returns-clause-octets
unfolding first_busy with_queue reaching cut core_header octets_of xors bits number_behind divide add_front scramble_on
    hec_of
returns-clause-octets c = refl

-- ---- what is confirmed first
front : Segment
front = record { first = true; base = 0; octets = take 8 worked_stream }

behind : Segment
behind = record { first = false; base = 22; octets = drop 22 worked_stream }

all_segments : segments worked_rows ≡ front ∷ behind ∷ []
unfolding front behind worked_rows worked_stream first_busy with_queue reaching cut core_header octets_of xors bits
    number_behind divide add_front scramble_on hec_of segments_on cut_rows
all_segments = refl

behind-confirmed : confirmed_in behind ≡ Some 36
unfolding behind worked_stream first_busy with_queue reaching cut core_header octets_of xors bits number_behind divide
    add_front scramble_on pli_of head hec_of header_with hunt_within
behind-confirmed = refl

-- the third frame begins there
third_frame : IsPlaceOfPiece (as_pieces worked_pieces) 36
unfolding cut core_header octets_of xors bits number_behind divide add_front scramble_on
third_frame = record {
  front = as_pieces (idle ∷ idle ∷ client 0 (1 ∷ 2 ∷ []) ∷ client 1 (5 ∷ 6 ∷ []) ∷ []);
  more = as_pieces (client 0 (3 ∷ 4 ∷ []) ∷ client 1 (7 ∷ 8 ∷ []) ∷ []);
  parts = refl;
  ends = refl;
}

abbrev Starts : Segment → Type 0
Starts segment = StartsTrue (as_pieces worked_pieces) segment

front-starts : Starts front
unfolding front
front-starts wrong = absurd cc

behind-starts : Starts behind
behind-starts later =
    subst (λ found. IfSome found (IsPlaceOfPiece (as_pieces worked_pieces))) (sym behind-confirmed) third_frame

pub returns-clause-starts : goal.returns-clause-starts
returns-clause-starts c =
    subst (All Starts) (sym all_segments)
    (All-cons Starts front (behind ∷ []) front-starts (All-cons Starts behind [] behind-starts (All-nil Starts)))
