-- Frames with a linear extension header: as a kind of frames, and what comes of an area with one.
use Rattle.std.proofs.Common.{◌≡◌, ℕ, ◌-◌, ◌≤◌, Bool, true, false, List, ◌++◌, length, map, take, drop, Some, None}
use Rattle.std.proofs.Common.{Option, inl, inr, refl, sym, ◌∙◌, ap, subst, arith, length-drop, nat_lt, if◌then◌else◌}
use Rattle.std.proofs.Common.{◌↔◌, IsTrue, IfSome, slice_index, Result, Ok, Err, MatchOption, option_to_list, le-leb}
use Rattle.std.proofs.Common.{le-ltb, take_all, ◌+◌, ◌*◌, ◌/◌, ◌%◌, ◌^◌, ◌<◌, [], ◌∷◌, All, ap₂, eq-eqb, length-append}
use Rattle.std.proofs.Common.{flat_map}
use Rattle.std.proofs.lemmas.Bool.{lt-leb, cases_lt}
use Rattle.law_model.specs.Common.{head, longest_extended_area, longest_frame, bits, number_behind, add_front, divide}
use Rattle.law_model.specs.Common.{hec_of, hec_bits, with_header, scrambled_areas}
use Rattle.gfp_model.specs.declared.linear_model.CidFault.{CidFault}
use Rattle.gfp_model.specs.declared.linear_model.LinearWhy.TheVariants.{TooLong, Extension}
use Rattle.gfp_model.specs.linear_model.ChannelArea.{LinearOutcome, delivery, dropping, by_extension, by_size, by_type}
use Rattle.gfp_model.specs.linear_model.ChannelArea.{cid_fault, linear_type_fault, linear_outcome, linear_outcomes}
use Rattle.gfp_model.specs.linear_model.ChannelArea.{linear_header, extension_header, cid_field, cid_check, frame_in}
use Rattle.gfp_model.specs.linear_model.ChannelArea.{linear_area}
use Rattle.gfp_delineate.specs.declared.hunt_presync_sync.AreaWhy.TheVariants.{TooLong as IsLong}
use Rattle.gfp_delineate.specs.declared.hunt_presync_sync.AreaStep.{AreaStep}
use Rattle.gfp_delineate.specs.declared.hunt_presync_sync.AreaStep.TheVariants.{Area}
use Rattle.gfp_delineate.specs.ReceivedAreas.{AreaEnd, keeping, passing, end_of, ends_told, Progress, Adds}
use Rattle.gfp_delineate.proofs.AreaOutcomeLaws.{outcomes_more-map}
use Rattle.gfp_channels.specs.declared.gfp_linear.linear_delineator.LinearStep.{LinearStep}
use Rattle.gfp_channels.specs.declared.gfp_linear.linear_delineator.LinearStep.TheVariants.{Nothing, Frame, Dropped}
use Rattle.gfp_channels.specs.gfp_linear.Delineator.{LinearReceiver, frame_of, IsFrame, outcomes_told, told_linear}
use Rattle.gfp_channels.specs.gfp_linear.Delineator.{linear_of_end, StandsIn}
use Rattle.std.proofs.lemmas.List.Elements.{All-nil, All-cons, All-append, All-map, All-weaker}
use Rattle.check_remainder.proofs.NumberAndOctetBitsLaws.{number_below}
use Rattle.check_hec16.proofs.HecWithOneWrongBitLaws.{length-hec_bits}
use Rattle.gfp_model.specs.linear_model.ChannelStream.{LinearPiece, idle, client, area_of, linear_stream}
use Rattle.law_loss.specs.FrameKind.{IsKind, area_in, stream_in, IsContent, IsPieceIn}
use Rattle.gfp_channels.specs.channel_law.FramesOfChannel.{IsChannelFrame, read_content, linear_kind, as_piece}
use Rattle.gfp_channels.specs.channel_law.FramesOfChannel.{as_pieces}

-- ---- What comes of an area, by its size and its extension header, and by how it ended.
-- ---- a whole area
-- the four octets behind the type header
pub extension_in : (area : List ℕ) → take 4 (take (length area - 4) (drop 4 area)) ≡ take 4 (drop 4 area)
extension_in area =
    ap (take 4) (take_all (length area - 4) (drop 4 area) (omega (arith, length-drop 4 area)))

-- what the answer of reading an extension header says of it
pub cid_right : (fault : Option CidFault) (extension : List ℕ) (result : Result ℕ CidFault) (cid : ℕ) →
    result ≡ Ok cid → MatchOption fault (result ≡ Ok (slice_index extension 0)) (λ fault. result ≡ Err fault) →
    (frame : List ℕ) → by_extension fault extension frame ≡ delivery cid frame
cid_right None extension result cid is answer frame = cc
cid_right (Some fault) extension result cid is answer frame = absurd cc

pub cid_wrong : (fault : Option CidFault) (extension : List ℕ) (result : Result ℕ CidFault) (found : CidFault) →
    result ≡ Err found → MatchOption fault (result ≡ Ok (slice_index extension 0)) (λ fault. result ≡ Err fault) →
    (frame : List ℕ) → by_extension fault extension frame ≡ dropping (Extension found)
cid_wrong None extension result found is answer frame = absurd cc
cid_wrong (Some fault) extension result found is answer frame = cc

module _ (area : List ℕ) (room : 8 ≤ length area) (extension : List ℕ)
    (is : extension ≡ take 4 (take (length area - 4) (drop 4 area))) where
  pub sized : by_size area ≡ by_extension (cid_fault extension) extension (drop 8 area)
  sized =
      rw (le-ltb (length area) 8 room)
      (ap (λ extension. by_extension (cid_fault extension) extension (drop 8 area)) (sym (is ∙ extension_in area)))

-- ---- how an area ended
by_length : (long : Bool) (area : List ℕ) →
    (if long then dropping (TooLong (length area)) else by_type (linear_type_fault (take 4 area)) area)
    ≡ linear_of_end (if long then passing (IsLong (length area)) else keeping area)
by_length true area = refl
by_length false area = refl

linear_outcome-end : (settled : Bool) (area : List ℕ) →
    linear_outcome settled area ≡ linear_of_end (end_of longest_extended_area settled area)
linear_outcome-end true area = by_length (nat_lt longest_extended_area (length area)) area
linear_outcome-end false area = refl

-- what more octets bring, of the areas that end with them
pub outcomes-ends : (was : LinearReceiver) (first : Bool) (octets more : List ℕ) (come : List AreaEnd)
    (told : List LinearOutcome) → told ≡ map linear_of_end come → Adds was.progress more come →
    StandsIn was first octets → linear_outcomes first (octets ++ more) ≡ linear_outcomes first octets ++ told
outcomes-ends was first octets more come told same adds stands =
    outcomes_more-map (end_of longest_extended_area) linear_outcome linear_of_end linear_outcome-end head head
    first octets more come (adds longest_extended_area false first octets stands)
    ∙ ap (λ l. linear_outcomes first octets ++ l) (sym same)

-- ---- what an answer tells, where a frame is held exactly at the answer Frame
frame-held : (progress : Progress) (holds : Bool) → IsTrue holds → 8 ≤ length progress.area →
    frame_of (record { progress = progress; holds = holds }) ≡ Some (drop 8 progress.area)
frame-held progress true held room = rw (le-leb 8 (length progress.area) room) refl
frame-held progress false held room = absurd cc

outcomes-held : (progress : Progress) (holds : Bool) (step : LinearStep) → (IsTrue holds ↔ IsFrame step) →
    (IsFrame step → 8 ≤ length progress.area) →
    outcomes_told (Some (drop 8 progress.area)) step
    ≡ told_linear (record { progress = progress; holds = holds }) step
outcomes-held progress holds Nothing held room = refl
outcomes-held progress holds (Frame cid) held room =
    ap (λ frame. map (delivery cid) (option_to_list frame)) (sym (frame-held progress holds (held.1 tt) (room tt)))
outcomes-held progress holds (Dropped why) held room = refl

pub told-ends : (progress : Progress) (holds : Bool) (end : AreaStep) (step : LinearStep) (area : List ℕ) →
    (IsTrue holds ↔ IsFrame step) → area ≡ progress.area →
    outcomes_told (Some (drop 8 area)) step ≡ map linear_of_end (ends_told area end) →
    (IsFrame step → 8 ≤ length area) →
    told_linear (record { progress = progress; holds = holds }) step ≡ map linear_of_end (ends_told progress.area end)
told-ends progress holds end step area held same is room =
    sym (outcomes-held progress holds step held
    (λ e. subst (λ (area : List ℕ). 8 ≤ length area) same (room e)))
    ∙ subst (λ area. outcomes_told (Some (drop 8 area)) step ≡ map linear_of_end (ends_told area end)) same is

-- it is no longer than a frame may be
pub short-ends : (progress : Progress) (holds : Bool) (end : AreaStep) (step : LinearStep) →
    (IsTrue holds ↔ IsFrame step) → progress.longest ≡ longest_extended_area → (IsFrame step → end ≡ Area) →
    (end ≡ Area → length progress.area ≤ progress.longest) →
    IfSome (frame_of (record { progress = progress; holds = holds })) (λ frame. length frame ≤ longest_frame)
short-ends progress false end step held limit frame greatest = tt
short-ends progress true end step held limit frame greatest =
    let area : List ℕ = progress.area in
    elim (cases_lt (length area) 8) [
      | inl few ↦ rw (lt-leb 8 (length area) few) tt
      | inr room ↦ rw (le-leb 8 (length area) room)
          (omega (arith, length-drop 8 area, limit, greatest (frame (held.0 refl))))
    ]

-- ---- Frames with a linear extension header are a kind of frames: each comes through as it is sent, with its channel.
-- ---- the headers
linear_header_right : linear_type_fault linear_header ≡ None
unfolding linear_type_fault hec_of bits divide add_front number_behind
linear_header_right = refl

below_four : (a b c d : ℕ) → a < 256 → b < 256 → c < 256 → d < 256 → All (λ o. o < 256) (a ∷ b ∷ c ∷ d ∷ [])
below_four a b c d first second third fourth =
    let below : ℕ → Type 0 = λ o. o < 256 in
    All-cons below a (b ∷ c ∷ d ∷ []) first
    (All-cons below b (c ∷ d ∷ []) second
    (All-cons below c (d ∷ []) third (All-cons below d [] fourth (All-nil below))))

hec_of_below : (word : ℕ) → hec_of word < 65536
unfolding hec_of
hec_of_below word = rw (length-hec_bits word) at (number_below (hec_bits word))

extension_below : (cid : ℕ) → cid < 256 → All (λ o. o < 256) (extension_header cid)
extension_below cid few =
    let check : hec_of (cid * 256) < 65536 = hec_of_below (cid * 256) in
    below_four cid 0 (hec_of (cid * 256) / 2 ^ 8) (hec_of (cid * 256) % 2 ^ 8) few (omega arith) (omega (arith, check))
    (omega arith)

extension_right : (cid : ℕ) → cid_fault (extension_header cid) ≡ None
unfolding cid_fault
extension_right cid =
    let octets : List ℕ = extension_header cid in
    let word : 256 * cid + 0 ≡ cid * 256 = omega arith in
    let check : hec_of (cid * 256) ≡ cid_check octets = omega arith in
    let fault : CidFault = record { said = cid_check octets; found = hec_of (cid_field octets) } in
    ap (λ b. if b then None else Some fault)
    (eq-eqb (cid_check octets) (hec_of (cid_field octets)) (sym check ∙ sym (ap hec_of word)))

-- ---- the kind
pub linear-sound : IsKind linear_kind
linear-sound = record {
  four = refl;
  octets = below_four 1 1 35 16 (omega arith) (omega arith) (omega arith) (omega arith);
  unsettled = λ area. refl;
}

comes : (cid : ℕ) (frame : List ℕ) → length frame ≤ longest_frame →
    frame_in (linear_outcome true (linear_area cid frame)) ≡ read_content (extension_header cid ++ frame)
comes cid frame most =
    rw (
      le-ltb longest_extended_area (length (linear_area cid frame)) (omega arith),
      linear_header_right,
      le-ltb (length (linear_area cid frame)) 8 (omega arith),
      extension_right cid,
    ) refl

pub content-sound : (cid : ℕ) (frame : List ℕ) → cid < 256 → IsChannelFrame frame →
    IsContent linear_kind (extension_header cid ++ frame)
content-sound cid frame few is = record {
  least = omega (arith, length-append (extension_header cid) frame);
  most = omega (arith, length-append (extension_header cid) frame, is.most);
  octets = All-append (λ o. o < 256) (extension_header cid) frame (extension_below cid few) is.octets;
  comes = comes cid frame is.most;
}

-- ---- the stream
area-content : (piece : LinearPiece) → area_in linear_kind (as_piece piece) ≡ area_of piece
area-content idle = refl
area-content (client cid frame) = refl

areas-pieces : (pieces : List LinearPiece) → map (area_in linear_kind) (as_pieces pieces) ≡ map area_of pieces
areas-pieces [] = refl
areas-pieces (piece ∷ pieces) = ap₂ ◌∷◌ (area-content piece) (areas-pieces pieces)

pub stream-pieces : (pieces : List LinearPiece) → stream_in linear_kind (as_pieces pieces) ≡ linear_stream pieces
stream-pieces pieces = ap (λ areas. flat_map with_header (scrambled_areas areas)) (areas-pieces pieces)

-- pieces that may be sent
abbrev pub IsSent : LinearPiece → Type 0
IsSent idle = Unit {0}
IsSent (client cid frame) = (cid < 256) × IsChannelFrame frame

content_sent : (piece : LinearPiece) → IsSent piece → IsPieceIn linear_kind (as_piece piece)
content_sent idle is = tt
content_sent (client cid frame) is = content-sound cid frame is.0 is.1

pub pieces_sent : (pieces : List LinearPiece) → All IsSent pieces → All (IsPieceIn linear_kind) (as_pieces pieces)
pieces_sent pieces all =
    All-map (IsPieceIn linear_kind) as_piece pieces
    (All-weaker IsSent (λ piece. IsPieceIn linear_kind (as_piece piece)) content_sent pieces all)
