-- A kind of frames on a stream, by what stands in an area behind a type header and what a receiver tells of it. To
-- make the kind a setting of the law of losses is this project's own.
use Rattle.std.specs.Prelude.{◌≡◌, ℕ, ◌<◌, ◌≤◌, ◌^◌, Bool, true, false, List, [], ◌∷◌, ◌++◌, length, map, All, flat_map}
use Rattle.law_model.specs.Common.{head, Piece, idle, client, areas_stream, type_header, Outcome, client_outcome}
use Rattle.law_model.specs.Common.{outcomes_with, StreamRow, Segment, segments, octets_of_rows}
use Rattle.law_model.specs.frames.Delivery.{frame_in}

-- the type header; what comes of an area by whether the descrambler is settled; what that tells; and what is told of
-- the content behind the type header where the frame comes through
pub record Kind (X Y : Type 0) : Type 0 where
  pub header : List ℕ
  pub outcome : Bool → List ℕ → X
  pub told : X → List Y
  pub read : List ℕ → List Y

-- the type header is of four octets, and nothing is told where the descrambler isn't settled
pub record IsKind {X Y : Type 0} (kind : Kind X Y) : Type 0 where
  pub four : length kind.header ≡ 4
  pub octets : All (λ octet. octet < 2 ^ 8) kind.header
  pub unsettled : (area : List ℕ) → kind.told (kind.outcome false area) ≡ []

-- ---- its stream
-- the area of a piece, whose content stands behind the type header
abbrev pub area_in : {X Y : Type 0} → Kind X Y → Piece → List ℕ
area_in kind idle = []
area_in kind (client content) = kind.header ++ content

abbrev pub stream_in : {X Y : Type 0} → Kind X Y → List Piece → List ℕ
stream_in kind pieces = areas_stream (map (area_in kind) pieces)

-- a content that may be sent: its area has six octets at least, and as many as a header may say; and it comes through
pub record IsContent {X Y : Type 0} (kind : Kind X Y) (content : List ℕ) : Type 0 where
  pub least : 2 ≤ length content
  pub most : length content ≤ 65531
  pub octets : All (λ octet. octet < 2 ^ 8) content
  pub comes : kind.told (kind.outcome true (kind.header ++ content)) ≡ kind.read content

abbrev pub IsPieceIn : {X Y : Type 0} → Kind X Y → Piece → Type 0
IsPieceIn kind idle = Unit {0}
IsPieceIn kind (client content) = IsContent kind content

-- ---- what is told
abbrev pub told_in : {X Y : Type 0} → Kind X Y → Bool → List ℕ → List Y
told_in kind first octets = flat_map kind.told (outcomes_with head head kind.outcome first octets)

abbrev pub segment_told : {X Y : Type 0} → Kind X Y → Segment → List Y
segment_told kind segment = told_in kind segment.first segment.octets

abbrev pub rows_told : {X Y : Type 0} → Kind X Y → List StreamRow → List Y
rows_told kind rows = flat_map (segment_told kind) (segments rows)

-- rows carry the first octets of a stream
pub record Carries (rows : List StreamRow) (stream : List ℕ) : Type 0 where
  pub rest : List ℕ
  pub parts : stream ≡ octets_of_rows rows ++ rest

-- ---- Ethernet frames of at most a number of octets
abbrev pub plain_kind : ℕ → Kind Outcome (List ℕ)
plain_kind longest = record {
  header = type_header;
  outcome = client_outcome longest;
  told = frame_in;
  read = λ frame. frame ∷ [];
}
