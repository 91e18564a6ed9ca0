-- A worked stream, computed.
use Rattle.std.proofs.Common.{◌≡◌, [], ◌∷◌, All, true, false, take, drop, Some, None, refl, subst, sym, IfSome}
use Rattle.std.proofs.lemmas.List.Elements.{All-nil, All-cons}
use Rattle.law_model.specs.Common.{hec_of, bits, number_behind, octets_of, xors, add_front, divide, core_header, pli_of}
use Rattle.law_model.specs.Common.{head, header_with, hunt_within, scramble_on, type_fault, idle, client, cut}
use Rattle.law_model.specs.Common.{follow_within, delineate_within, outcomes_after_with, Segment, segments_on, segments}
use Rattle.law_model.specs.Common.{extents, confirmed_in, IsPlaceOfPiece, StartsTrue}
use Rattle.law_loss.specs.WorkedLosses.{worked_pieces, worked_stream, worked_rows, kept_frame}
use Rattle.law_loss.proofs.worked_law.Goals as goal

pub returns-clause-places : goal.returns-clause-places
unfolding extents
returns-clause-places c = refl

pub returns-clause-segments : goal.returns-clause-segments
unfolding worked_rows worked_stream cut core_header octets_of xors bits number_behind divide add_front scramble_on
    segments_on
returns-clause-segments c = refl

pub returns-clause-confirmed : goal.returns-clause-confirmed
unfolding worked_rows worked_stream cut core_header octets_of xors bits number_behind divide add_front scramble_on
    pli_of head hec_of header_with hunt_within segments_on
returns-clause-confirmed c = refl

pub returns-clause-lost : goal.returns-clause-lost
unfolding worked_rows worked_stream cut core_header octets_of xors bits number_behind divide add_front scramble_on
    pli_of head hec_of header_with hunt_within segments_on extents
returns-clause-lost c = refl

pub returns-clause-delivered : goal.returns-clause-delivered
unfolding worked_rows worked_stream cut core_header octets_of xors bits number_behind divide add_front scramble_on
    pli_of head hec_of header_with hunt_within type_fault follow_within delineate_within outcomes_after_with segments_on
returns-clause-delivered c = refl

pub returns-clause-kept : goal.returns-clause-kept
unfolding worked_rows worked_stream cut core_header octets_of xors bits number_behind divide add_front scramble_on
    pli_of head hec_of header_with hunt_within segments_on extents
returns-clause-kept c = refl

-- ---- what is confirmed first
first : Segment
first = record { first = true; base = 0; octets = take 12 worked_stream }

second : Segment
second = record { first = false; base = 16; octets = take 34 (drop 16 worked_stream) }

third : Segment
third = record { first = false; base = 54; octets = take 16 (drop 54 worked_stream) }

all_segments : segments worked_rows ≡ first ∷ second ∷ third ∷ []
unfolding first second third worked_rows worked_stream cut core_header octets_of xors bits number_behind divide
    add_front scramble_on segments_on
all_segments = refl

second-confirmed : confirmed_in second ≡ Some 28
unfolding second worked_stream cut core_header octets_of xors bits number_behind divide add_front scramble_on pli_of
    head hec_of header_with hunt_within
second-confirmed = refl

third-confirmed : confirmed_in third ≡ None
unfolding third worked_stream cut core_header octets_of xors bits number_behind divide add_front scramble_on pli_of head
    hec_of header_with hunt_within
third-confirmed = refl

-- the third frame begins there
third_frame : IsPlaceOfPiece worked_pieces 28
unfolding cut core_header octets_of xors bits number_behind divide add_front scramble_on
third_frame = record {
  front = idle ∷ idle ∷ client (1 ∷ 2 ∷ []) ∷ client (3 ∷ 4 ∷ []) ∷ [];
  more = client (5 ∷ 6 ∷ []) ∷ client kept_frame ∷ client (9 ∷ 10 ∷ []) ∷ client (11 ∷ 12 ∷ []) ∷ idle ∷ [];
  parts = refl;
  ends = refl;
}

first-starts : StartsTrue worked_pieces first
unfolding first
first-starts wrong = absurd cc

second-starts : StartsTrue worked_pieces second
second-starts later = subst (λ found. IfSome found (IsPlaceOfPiece worked_pieces)) (sym second-confirmed) third_frame

third-starts : StartsTrue worked_pieces third
third-starts later = subst (λ found. IfSome found (IsPlaceOfPiece worked_pieces)) (sym third-confirmed) tt

abbrev Starts : Segment → Type 0
Starts segment = StartsTrue worked_pieces segment

pub returns-clause-starts : goal.returns-clause-starts
returns-clause-starts c =
    subst (All Starts) (sym all_segments)
    (All-cons Starts first (second ∷ third ∷ []) first-starts
    (All-cons Starts second (third ∷ []) second-starts (All-cons Starts third [] third-starts (All-nil Starts))))
