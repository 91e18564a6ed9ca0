-- Which frames the segments of rows give, that those which aren't lost are delivered, and the ways to lose one.
use Rattle.std.proofs.Common.{◌≡◌, ℕ, ◌+◌, ◌<◌, ◌≤◌, ◌⊎◌, Bool, true, false, not, List, [], ◌∷◌, ◌++◌, length, filter}
use Rattle.std.proofs.Common.{All, Some, None, refl, ◌∙◌, ap, ap₂, arith, inl, inr, map, take, drop, Option, sym}
use Rattle.std.proofs.Common.{subst, length-append, IfSome, flat_map, option_map, leb-true, suc, append_assoc}
use Rattle.std.proofs.Common.{append-nil, take_at}
use Rattle.std.specs.Prelude.{nat_le, nat_lt, ◌&&◌, ◌||◌}
use Rattle.std.specs.List.{list_any, Contains}
use Rattle.std.proofs.lemmas.Bool.{le-leb, lt-leb, le-ltb, lt-ltb, cases_Bool, cases_lt}
use Rattle.std.proofs.lemmas.List.Folds.{list_any_none, list_any-append}
use Rattle.std.proofs.lemmas.List.Elements.{All-nil, All-cons, All-append, All-weaker, filter-append, All-head}
use Rattle.std.proofs.lemmas.List.Elements.{All-tail}
use Rattle.law_model.specs.Common.{Piece, idle, client, size_of, stream_of, Segment, Extent, extents, is_carried}
use Rattle.law_model.specs.Common.{lies_in, confirmed_in, missed_after, is_missed, is_given, type_header, area_of}
use Rattle.law_model.specs.Common.{with_header, scrambled_areas, Confirmed, hunt, StreamRow, segments_of, segments}
use Rattle.law_model.specs.Common.{deliver, octets_of_rows, is_frame_lost, IsPlaceOfPiece, StartsTrue, TrueStarts}
use Rattle.law_model.specs.Common.{frames_kept, Lost, cut_off, unconfirmed, too_early, unsettled, LiesLater}
use Rattle.law_model.specs.Common.{LiesConfirmed, frames_by, Segments, no_rows, longer, segments_on}
use Rattle.law_loss.proofs.ClientFrameExtentLaws.{and_false, and_true, or_true, filter-skip, filter-none, filter-same}
use Rattle.law_loss.proofs.ClientFrameExtentLaws.{IsBetween, extents-between, extents-append, extents_after_first}
use Rattle.law_loss.proofs.ClientFrameExtentLaws.{filter-keep, frames_to, frames_ended}
use Rattle.std.proofs.lemmas.List.{map-append}
use Rattle.std.proofs.lemmas.List.Concat.{flat_map-append}
use Rattle.law_model.proofs.ListLaws.{within-append, All-front, All-after, contains-parts}
use Rattle.gfp_delineate.proofs.WholeAreaDeliveryLaws.{IsSendable, type_header_right}
use Rattle.law_loss.specs.CarriedStream.{CarriesStream, IsSentPiece}
use Rattle.law_loss.specs.FrameKind.{Kind, IsKind, area_in, stream_in, IsPieceIn, told_in, segment_told, rows_told}
use Rattle.law_loss.specs.FrameKind.{Carries, plain_kind}
use Rattle.law_loss.proofs.SegmentHuntAndRunLaws.{confirmed-within}
use Rattle.law_loss.proofs.FrameKindStreamAndRunLaws.{told-later, told-unconfirmed, told-stream}
use Rattle.law_loss.proofs.SegmentsOfAddedRowsLaws.{IsPart, InOrder, Stands-all}
use Rattle.law_model.specs.frames.Segment.{row_by}

-- ---- The frames that one segment gives are those that are given by the definition.
-- a client frame that begins between a place and another frame
abbrev pub is_between : ℕ → Extent → Extent → Bool
is_between place e other = nat_le place other.from && nat_lt other.from e.from

pub not_between : (place : ℕ) (e other : Extent) → (other.from < place) ⊎ (e.from ≤ other.from) →
    is_between place e other ≡ false
not_between place e other (inl before) = ap (λ b. b && nat_lt other.from e.from) (lt-leb place other.from before)
not_between place e other (inr after) = ap (λ b. nat_le place other.from && b) (le-ltb other.from e.from after)
    ∙ and_false (nat_le place other.from)

is_between-true : (place : ℕ) (e other : Extent) → place ≤ other.from → other.from < e.from →
    is_between place e other ≡ true
is_between-true place e other after before = ap₂ ◌&&◌ (le-leb place other.from after) (lt-ltb other.from e.from before)

module _ (segment : Segment) (place : ℕ) (later : segment.first ≡ false) (confirmed : confirmed_in segment ≡ Some place)
    (begins : segment.base ≤ place) where
  abbrev end : ℕ
  end = segment.base + length segment.octets

  is_given-later : (all : List Extent) (e : Extent) →
      is_given all e segment ≡ (lies_in segment e && not
      (not (nat_le place e.from && list_any (is_between place e) all)))
  is_given-later all e =
      ap (λ first. lies_in segment e && not (is_missed first segment all e)) later
      ∙ ap (λ found. lies_in segment e && not (missed_after found all e)) confirmed

  not_given : (all : List Extent) (e : Extent) → (nat_le place e.from && list_any (is_between place e) all) ≡ false →
      is_given all e segment ≡ false
  not_given all e none = is_given-later all e ∙ ap (λ b. lies_in segment e && not (not b)) none
      ∙ and_false (lies_in segment e)

  given : (all : List Extent) (e : Extent) → place ≤ e.from → list_any (is_between place e) all ≡ true →
      is_given all e segment ≡ is_carried end e
  given all e after some =
      is_given-later all e
      ∙ ap₂ (λ a b. lies_in segment e && not (not (a && b))) (le-leb place e.from after) some
      ∙ and_true (lies_in segment e)
      ∙ ap (λ b. b && nat_le e.to end) (le-leb segment.base e.from (omega (arith, begins, after)))

  -- frames that begin before the place
  not_given-before : (all : List Extent) (e : Extent) → e.from < place → is_given all e segment ≡ false
  not_given-before all e before =
      not_given all e (ap (λ b. b && list_any (is_between place e) all) (lt-leb place e.from before))

  -- frames after it
  given-after : (gone : List Extent) (start : ℕ) (pieces : List Piece) → place ≤ start →
      All (λ (e : Extent). e.from < place) gone →
      filter (λ e. is_given (gone ++ extents start pieces) e segment) (extents start pieces) ≡ filter (is_carried end)
      (extents_after_first start pieces)
  unfolding extents extents_after_first
  given-after gone start [] after before = refl
  given-after gone start (idle ∷ pieces) after before =
      given-after gone (start + size_of idle) pieces (omega (arith, after)) before
  given-after gone start (client frame ∷ pieces) after before =
      let size : ℕ = size_of (client frame) in
      let e : Extent = record { from = start; to = start + size; frame = frame } in
      let rest : List Extent = extents (start + size) pieces in
      let all : List Extent = gone ++ e ∷ rest in
      let high : ℕ = start + size + length (stream_of pieces) in
      let between : All (IsBetween (start + size) high) rest = extents-between (start + size) pieces in
      let Apart : Extent → Type 0 = λ other. (other.from < place) ⊎ (start ≤ other.from) in
      let apart : All Apart all =
      All-append Apart gone (e ∷ rest)
      (All-weaker (λ (e : Extent). e.from < place) Apart (λ other before. inl before) gone before)
      (All-cons Apart e rest (inr (omega arith))
      (All-weaker (IsBetween (start + size) high) Apart (λ other is. inr (omega (arith, is.lower))) rest between))
      in
      let none : list_any (is_between place e) all ≡ false =
      list_any_none (is_between place e) all
      (All-weaker Apart (λ other. is_between place e other ≡ false) (λ other is. not_between place e other is) all
      apart) in
      let first : is_given all e segment ≡ false =
      not_given all e (ap (λ b. nat_le place start && b) none ∙ and_false (nat_le place start)) in
      let witness : (f : Extent) → IsBetween (start + size) high f → is_given all f segment ≡ is_carried end f = λ f is.
      given all f (omega (arith, after, is.lower))
      (list_any-append (is_between place f) gone (e ∷ rest)
      ∙ ap (λ b. list_any (is_between place f) gone || (b || list_any (is_between place f) rest))
      (is_between-true place f e after (omega (arith, is.lower)))
      ∙ or_true (list_any (is_between place f) gone)) in
      filter-skip (λ e. is_given all e segment) e rest first
      ∙ filter-same (λ e. is_given all e segment) (is_carried end) rest
      (All-weaker (IsBetween (start + size) high) (λ f. is_given all f segment ≡ is_carried end f) witness rest
      between)

  pub given_later : (front more : List Piece) → length (stream_of front) ≡ place →
      filter (λ e. is_given (extents 0 (front ++ more)) e segment) (extents 0 (front ++ more)) ≡ filter (is_carried end)
      (extents_after_first place more)
  given_later front more ends =
      let gone : List Extent = extents 0 front in
      let start : ℕ = 0 + length (stream_of front) in
      let all : extents 0 (front ++ more) ≡ gone ++ extents start more = extents-append 0 front more in
      let before : All (λ (e : Extent). e.from < place) gone =
      All-weaker (IsBetween 0 start) (λ (e : Extent). e.from < place) (λ e is. omega (arith, is.size, is.upper, ends))
      gone (extents-between 0 front) in
      let same : start ≡ place = omega (arith, ends) in
      ap (λ all. filter (λ e. is_given all e segment) all) all
      ∙ filter-append (λ e. is_given (gone ++ extents start more) e segment) gone (extents start more)
      ∙ ap₂ ◌++◌
      (filter-none (λ e. is_given (gone ++ extents start more) e segment) gone
      (All-weaker (λ (e : Extent). e.from < place) (λ e. is_given (gone ++ extents start more) e segment ≡ false)
      (λ e is. not_given-before (gone ++ extents start more) e is) gone before))
      (given-after gone start more (omega (arith, ends)) before)
      ∙ ap (λ n. filter (is_carried end) (extents_after_first n more)) same

-- nothing is confirmed
pub all_of : {X : Type 0} (P : X → Type 0) → ((x : X) → P x) → (xs : List X) → All P xs
all_of P h [] = All-nil P
all_of P h (x ∷ xs) = All-cons P x xs (h x) (all_of P h xs)

pub given_none : (segment : Segment) (all : List Extent) → segment.first ≡ false → confirmed_in segment ≡ None →
    filter (λ e. is_given all e segment) all ≡ []
given_none segment all later none =
    filter-none (λ e. is_given all e segment) all
    (all_of (λ e. is_given all e segment ≡ false)
    (λ e. ap (λ first. lies_in segment e && not (is_missed first segment all e)) later
    ∙ ap (λ found. lies_in segment e && not (missed_after found all e)) none ∙ and_false (lies_in segment e)) all)

-- the first segment
pub given_first : (segment : Segment) (all : List Extent) → segment.first ≡ true → segment.base ≡ 0 →
    filter (λ e. is_given all e segment) all ≡ filter (is_carried (length segment.octets)) all
given_first segment all first base =
    filter-same (λ e. is_given all e segment) (is_carried (length segment.octets)) all
    (all_of (λ e. is_given all e segment ≡ is_carried (length segment.octets) e)
    (λ e. ap (λ first. lies_in segment e && not (is_missed first segment all e)) first
    ∙ and_true (lies_in segment e)
    ∙ ap₂ (λ a b. a && nat_le e.to b) (le-leb segment.base e.from (omega (arith, base)))
    (let e : segment.base + length segment.octets ≡ length segment.octets = omega (arith, base) in e)) all)

-- ---- What all segments tell is what is read of what is carried and isn't lost: of any kind of frames, and so of Ethernet
-- frames.
-- ---- tests of frames that lie before and after a place
module _ (high : ℕ) (p q : Extent → Bool) (before : (e : Extent) → p e ≡ true → e.to ≤ high)
    (after : (e : Extent) → q e ≡ true → high ≤ e.from) where
  merged : (start : ℕ) (pieces : List Piece) →
      filter (λ e. p e || q e) (extents start pieces) ≡ filter p (extents start pieces) ++ filter q
      (extents start pieces)
  unfolding extents
  merged start [] = refl
  merged start (idle ∷ pieces) = merged (start + size_of idle) pieces
  merged start (client frame ∷ pieces) =
      let size : ℕ = size_of (client frame) in
      let e : Extent = record { from = start; to = start + size; frame = frame } in
      let rest : List Extent = extents (start + size) pieces in
      let further : filter (λ e. p e || q e) rest ≡ filter p rest ++ filter q rest = merged (start + size) pieces in
      let high2 : ℕ = start + size + length (stream_of pieces) in
      let between : All (IsBetween (start + size) high2) rest = extents-between (start + size) pieces in
      elim (cases_Bool (p e)) [
        | inl first ↦ elim (cases_Bool (q e)) [
          | inl second ↦ absurd (omega (arith, before e first, after e second))
          | inr other ↦
              filter-keep (λ e. p e || q e) e rest (ap (λ b. b || q e) first) ∙ ap (λ l. e ∷ l) further
              ∙ sym (ap₂ ◌++◌ (filter-keep p e rest first) (filter-skip q e rest other))
        ]
        | inr other ↦ elim (cases_Bool (q e)) [
          | inl second ↦ (
              let none : filter p rest ≡ [] =
              filter-none p rest (All-weaker (IsBetween (start + size) high2) (λ f. p f ≡ false)
              (λ f is. elim (cases_Bool (p f)) [
                | inl wrong ↦ absurd (omega (arith, before f wrong, after e second, is.lower, is.size))
                | inr right ↦
                    right
              ]) rest between) in
              filter-keep (λ e. p e || q e) e rest (ap (λ b. b || q e) other ∙ second)
              ∙ ap (λ l. e ∷ l) (further ∙ ap (λ l. l ++ filter q rest) none)
              ∙ sym (ap₂ ◌++◌ (filter-skip p e rest other ∙ none) (filter-keep q e rest second)))
          | inr third ↦
              filter-skip (λ e. p e || q e) e rest (ap (λ b. b || q e) other ∙ third) ∙ further
              ∙ sym (ap₂ ◌++◌ (filter-skip p e rest other) (filter-skip q e rest third))
        ]
      ]

-- ---- where a frame that is given lies
and_left : (a b : Bool) → (a && b) ≡ true → a ≡ true
and_left true b h = refl
and_left false b h = h

pub and_right : (a b : Bool) → (a && b) ≡ true → b ≡ true
and_right true b h = h
and_right false b h = absurd (let e : false ≡ true = h in cc)

pub lies_lower : (segment : Segment) (e : Extent) → lies_in segment e ≡ true → segment.base ≤ e.from
lies_lower segment e is = leb-true segment.base e.from (and_left (nat_le segment.base e.from) _ is)

pub lies_upper : (segment : Segment) (e : Extent) → lies_in segment e ≡ true →
    e.to ≤ segment.base + length segment.octets
lies_upper segment e is = leb-true e.to (segment.base + length segment.octets)
    (and_right (nat_le segment.base e.from) _ is)

module _ (all : List Extent) (e : Extent) where
  given_lies : (segment : Segment) → is_given all e segment ≡ true → lies_in segment e ≡ true
  given_lies segment is = and_left (lies_in segment e) _ is

  given_lower : (segment : Segment) → is_given all e segment ≡ true → segment.base ≤ e.from
  given_lower segment is = leb-true segment.base e.from
      (and_left (nat_le segment.base e.from) _ (given_lies segment is))

  pub given_upper : (segment : Segment) → is_given all e segment ≡ true → e.to ≤ segment.base + length segment.octets
  given_upper segment is = leb-true e.to (segment.base + length segment.octets)
      (and_right (nat_le segment.base e.from) _ (given_lies segment is))

  pub any_lower : (low : ℕ) (segments : List Segment) → InOrder low segments →
      list_any (is_given all e) segments ≡ true → low ≤ e.from
  any_lower low [] order any = absurd (let e : false ≡ true = any in cc)
  any_lower low (segment ∷ further) order any = elim (cases_Bool (is_given all e segment)) [
    | inl first ↦ omega (arith, order.0, given_lower segment first)
    | inr other ↦ (
        let rest : list_any (is_given all e) further ≡ true =
        sym (ap (λ b. b || list_any (is_given all e) further) other) ∙ any in
        omega (arith, order.0, any_lower (segment.base + length segment.octets) further order.1 rest))
  ]

  any_upper : (sent : List ℕ) (segments : List Segment) → All (IsPart sent) segments →
      list_any (is_given all e) segments ≡ true → e.to ≤ length sent
  any_upper sent [] parts any = absurd (let e : false ≡ true = any in cc)
  any_upper sent (segment ∷ further) parts any = elim (cases_Bool (is_given all e segment)) [
    | inl first ↦ omega (arith, given_upper segment first, (All-head (IsPart sent) segment further parts).fits)
    | inr other ↦ any_upper sent further (All-tail (IsPart sent) segment further parts)
        (sym (ap (λ b. b || list_any (is_given all e) further) other) ∙ any)
  ]

-- ---- all segments
given_by_all : (all : List Extent) (pieces : List Piece) (low : ℕ) (segments : List Segment) → InOrder low segments →
    flat_map (λ segment. filter (λ e. is_given all e segment) (extents 0 pieces)) segments ≡ filter
    (λ e. list_any (is_given all e) segments) (extents 0 pieces)
given_by_all all pieces low [] order =
    sym (filter-none (λ e. false) (extents 0 pieces) (all_of (λ e. false ≡ false) (λ e. refl) (extents 0 pieces)))
given_by_all all pieces low (segment ∷ further) order =
    let high : ℕ = segment.base + length segment.octets in
    ap (λ l. filter (λ e. is_given all e segment) (extents 0 pieces) ++ l)
    (given_by_all all pieces high further order.1)
    ∙ sym (merged high (λ e. is_given all e segment) (λ e. list_any (is_given all e) further)
    (λ e is. given_upper all e segment is) (λ e is. any_lower all e high further order.1 is) 0 pieces)

-- ---- one segment
pub sendable_of : (longest : ℕ) (piece : Piece) → IsSentPiece longest piece → IsSendable longest piece
sendable_of longest idle sent = tt
sendable_of longest (client frame) sent = record { size = sent.most; octets = sent.octets }

-- all segments of rows are parts of the octets of the rows
pub parts-of : (rows : List StreamRow) → All (IsPart (octets_of_rows rows)) (segments rows)
parts-of rows =
    let sent : List ℕ = octets_of_rows rows in
    let stands = Stands-all rows in
    All-append (IsPart sent) (segments_of rows).ended ((segments_of rows).last ∷ []) stands.each
    (All-cons (IsPart sent) (segments_of rows).last [] stands.last (All-nil (IsPart sent)))

kept : (all : List Extent) (e : Extent) (rows : List StreamRow) → list_any (is_given all e) (segments rows) ≡
    (is_carried (length (octets_of_rows rows)) e && not (is_frame_lost (segments rows) all e))
kept all e rows =
    let sent : List ℕ = octets_of_rows rows in
    let parts : List Segment = segments rows in
    elim (cases_Bool (list_any (is_given all e) parts)) [
      | inl some ↦ some ∙ sym (ap₂ (λ a b. a && not (not b))
          (le-leb e.to (length sent) (any_upper all e sent parts (parts-of rows) some)) some)
      | inr none ↦ none ∙ sym (ap (λ b. is_carried (length sent) e && not (not b)) none
          ∙ and_false (is_carried (length sent) e))
    ]

-- what the segments of rows give is what the rows carry and isn't lost
pub given-kept : (pieces : List Piece) (rows : List StreamRow) →
    flat_map (λ segment. filter (λ e. is_given (extents 0 pieces) e segment) (extents 0 pieces)) (segments rows)
    ≡ filter (λ e. is_carried (length (octets_of_rows rows)) e
    && not (is_frame_lost (segments rows) (extents 0 pieces) e)) (extents 0 pieces)
given-kept pieces rows =
    let all : List Extent = extents 0 pieces in
    given_by_all all pieces 0 (segments rows) (Stands-all rows).order
    ∙ filter-same (λ e. list_any (is_given all e) (segments rows))
    (λ e. is_carried (length (octets_of_rows rows)) e && not (is_frame_lost (segments rows) all e)) all
    (all_of (λ e. list_any (is_given all e) (segments rows)
    ≡ (is_carried (length (octets_of_rows rows)) e && not (is_frame_lost (segments rows) all e)))
    (λ e. kept all e rows) all)

-- ---- any kind of frames
abbrev frames_in : List Extent → List (List ℕ)
frames_in all = map (λ (e : Extent). e.frame) all

module _ {X Y : Type 0} (kind : Kind X Y) (sound : IsKind kind) (pieces : List Piece)
    (sent : All (IsPieceIn kind) pieces) where
  abbrev pub piece_list : List Piece
  piece_list = idle ∷ idle ∷ pieces

  abbrev stream : List ℕ
  stream = stream_in kind piece_list

  -- the frames that a segment gives
  abbrev pub kept-given : Segment → List Extent
  kept-given segment = filter (λ e. is_given (extents 0 piece_list) e segment) (extents 0 piece_list)

  abbrev read_of : List Extent → List Y
  read_of all = flat_map kind.read (frames_in all)

  all_sent : All (IsPieceIn kind) piece_list
  all_sent = All-cons (IsPieceIn kind) idle (idle ∷ pieces) tt (All-cons (IsPieceIn kind) idle pieces tt sent)

  first_given : (segment : Segment) → segment.first ≡ true → segment.base ≡ 0 →
      segment.octets ≡ take (length segment.octets) (drop segment.base stream) →
      segment_told kind segment ≡ read_of (kept-given segment)
  first_given segment first base octets =
      let count : ℕ = length segment.octets in
      ap₂ (told_in kind) first (octets ∙ ap (λ n. take count (drop n stream)) base)
      ∙ told-stream kind sound count pieces sent
      ∙ ap read_of (sym (given_first segment (extents 0 piece_list) first base))

  later_given : (segment : Segment) (found : Option Confirmed) → hunt true 0 segment.octets ≡ found →
      segment.first ≡ false → segment.octets ≡ take (length segment.octets) (drop segment.base stream) →
      IfSome (confirmed_in segment) (IsPlaceOfPiece piece_list) → segment_told kind segment ≡ read_of (kept-given segment)
  later_given segment None is later octets starts =
      let none : confirmed_in segment ≡ None = ap (option_map (λ (c : Confirmed). segment.base + c.place)) is in
      ap (λ first. told_in kind first segment.octets) later
      ∙ told-unconfirmed kind sound segment.octets is
      ∙ ap read_of (sym (given_none segment (extents 0 piece_list) later none))
  later_given segment (Some confirmed) is later octets starts =
      let place : ℕ = segment.base + confirmed.place in
      let count : ℕ = length segment.octets in
      let some : confirmed_in segment ≡ Some place = ap (option_map (λ (c : Confirmed). segment.base + c.place)) is in
      let true_start : IsPlaceOfPiece piece_list place =
      subst (λ found. IfSome found (IsPlaceOfPiece piece_list)) some starts in
      let front : List Piece = true_start.front in
      let more : List Piece = true_start.more in
      let both : All (IsPieceIn kind) (front ++ more) = subst (All (IsPieceIn kind)) true_start.parts all_sent in
      let same : segment.octets ≡ take count (drop segment.base (stream_in kind (front ++ more))) = octets
      ∙ ap (λ ps. take count (drop segment.base (stream_in kind ps))) true_start.parts in
      ap₂ (told_in kind) later same
      ∙ told-later kind sound front more segment.base count confirmed
      (All-front (IsPieceIn kind) front more both) (All-after (IsPieceIn kind) front more both)
      (ap (hunt true 0) (sym same) ∙ is) true_start.ends (omega (arith, confirmed-within segment.octets confirmed is))
      ∙ ap read_of
      (sym (given_later segment place later some (omega arith) front more true_start.ends)
      ∙ ap (λ ps. filter (λ e. is_given (extents 0 ps) e segment) (extents 0 ps)) (sym true_start.parts))

  segment_given : (segment : Segment) (arrived rest : List ℕ) → stream ≡ arrived ++ rest → IsPart arrived segment →
      StartsTrue piece_list segment → segment_told kind segment ≡ read_of (kept-given segment)
  segment_given segment arrived rest carried is starts =
      let octets : segment.octets ≡ take (length segment.octets) (drop segment.base stream) =
      is.octets ∙ sym (within-append segment.base (length segment.octets) arrived rest is.fits)
      ∙ ap (λ l. take (length segment.octets) (drop segment.base l)) (sym carried) in
      elim (cases_Bool segment.first) [
        | inl first ↦ first_given segment first (is.first first) octets
        | inr later ↦ later_given segment (hunt true 0 segment.octets) refl later octets (starts later)
      ]

  all_given : (arrived rest : List ℕ) (segments : List Segment) → stream ≡ arrived ++ rest →
      All (IsPart arrived) segments → All (StartsTrue piece_list) segments →
      flat_map (segment_told kind) segments ≡ read_of (flat_map kept-given segments)
  all_given arrived rest [] carried parts starts = refl
  all_given arrived rest (segment ∷ further) carried parts starts =
      ap₂ ◌++◌ (segment_given segment arrived rest carried (All-head (IsPart arrived) segment further parts)
      (All-head (StartsTrue piece_list) segment further starts))
      (all_given arrived rest further carried (All-tail (IsPart arrived) segment further parts)
      (All-tail (StartsTrue piece_list) segment further starts))
      ∙ sym (flat_map-append kind.read (frames_in (kept-given segment)) (frames_in (flat_map kept-given further)))
      ∙ ap (flat_map kind.read)
      (sym (map-append (λ (e : Extent). e.frame) (kept-given segment) (flat_map kept-given further)))

  -- the law of losses
  pub told-kept : (rows : List StreamRow) → Carries rows (stream_in kind piece_list) → TrueStarts piece_list rows →
      rows_told kind rows ≡ flat_map kind.read (frames_kept piece_list rows)
  told-kept rows carried starts =
      all_given (octets_of_rows rows) carried.rest (segments rows) carried.parts (parts-of rows) starts
      ∙ ap read_of (given-kept piece_list rows)

-- ---- Ethernet frames are a kind
pub plain-sound : (longest : ℕ) → IsKind (plain_kind longest)
plain-sound longest =
    let below : ℕ → Type 0 = λ o. o < 256 in
    record {
      four = refl;
      octets = All-cons below 0 (1 ∷ 16 ∷ 33 ∷ []) (omega arith)
          (All-cons below 1 (16 ∷ 33 ∷ []) (omega arith)
          (All-cons below 16 (33 ∷ []) (omega arith) (All-cons below 33 [] (omega arith) (All-nil below))));
      unsettled = λ area. refl;
    }

plain-piece : (longest : ℕ) → longest ≤ 65531 → (piece : Piece) → IsSentPiece longest piece →
    IsPieceIn (plain_kind longest) piece
plain-piece longest fits idle sent = tt
plain-piece longest fits (client frame) sent =
    let short : length (type_header ++ frame) ≤ longest + 4 =
    omega (arith, length-append type_header frame, sent.most) in
    record {
      least = sent.least;
      most = omega (arith, sent.most, fits);
      octets = sent.octets;
      comes = rw (le-ltb (longest + 4) (length (type_header ++ frame)) short, type_header_right) refl;
    }

pub plain-pieces : (longest : ℕ) (pieces : List Piece) → longest ≤ 65531 → All (IsSentPiece longest) pieces →
    All (IsPieceIn (plain_kind longest)) pieces
plain-pieces longest pieces fits sent =
    All-weaker (IsSentPiece longest) (IsPieceIn (plain_kind longest)) (plain-piece longest fits) pieces sent

plain-area : (longest : ℕ) (piece : Piece) → area_in (plain_kind longest) piece ≡ area_of piece
plain-area longest idle = refl
plain-area longest (client frame) = refl

plain-areas : (longest : ℕ) (pieces : List Piece) → map (area_in (plain_kind longest)) pieces ≡ map area_of pieces
plain-areas longest [] = refl
plain-areas longest (piece ∷ pieces) = ap₂ ◌∷◌ (plain-area longest piece) (plain-areas longest pieces)

pub plain-carries : (longest : ℕ) (pieces : List Piece) (rows : List StreamRow) → CarriesStream rows pieces →
    Carries rows (stream_in (plain_kind longest) pieces)
plain-carries longest pieces rows carried = record {
  rest = carried.rest;
  parts = ap (λ areas. flat_map with_header (scrambled_areas areas)) (plain-areas longest pieces) ∙ carried.stream;
}

pub plain-read : (longest : ℕ) (frames : List (List ℕ)) → flat_map (plain_kind longest).read frames ≡ frames
plain-read longest [] = refl
plain-read longest (frame ∷ frames) = ap (λ l. frame ∷ l) (plain-read longest frames)

-- ---- the theorem
pub deliver-kept : (longest : ℕ) (pieces : List Piece) (rows : List StreamRow) → longest ≤ 65531 →
    All (IsSentPiece longest) pieces → CarriesStream rows (idle ∷ idle ∷ pieces) →
    TrueStarts (idle ∷ idle ∷ pieces) rows →
    deliver longest rows ≡ frames_kept (idle ∷ idle ∷ pieces) rows
deliver-kept longest pieces rows fits sent carried starts =
    told-kept (plain_kind longest) (plain-sound longest) pieces (plain-pieces longest pieces fits sent) rows
    (plain-carries longest (idle ∷ idle ∷ pieces) rows carried) starts
    ∙ plain-read longest (frames_kept (idle ∷ idle ∷ pieces) rows)

-- ---- The ways in which a frame is lost are those of the definition.
module _ (all : List Extent) (e : Extent) where
  -- ---- where no segment gives a frame
  abbrev NotGiven : Segment → Type 0
  NotGiven segment = is_given all e segment ≡ false

  each_not_given : (segments : List Segment) → list_any (is_given all e) segments ≡ false → All NotGiven segments
  each_not_given [] none = All-nil NotGiven
  each_not_given (segment ∷ further) none = elim (cases_Bool (is_given all e segment)) [
    | inl wrong ↦ absurd (let e : true ≡ false = sym (ap (λ b. b || list_any (is_given all e) further) wrong)
        ∙ none in cc)
    | inr right ↦ All-cons NotGiven segment further right
        (each_not_given further (sym (ap (λ b. b || list_any (is_given all e) further) right) ∙ none))
  ]

  none_between : (place : ℕ) (others : List Extent) → list_any (is_between place e) others ≡ false →
      All (λ (other : Extent). (other.from < place) ⊎ (e.from ≤ other.from)) others
  none_between place [] none = All-nil (λ (other : Extent). (other.from < place) ⊎ (e.from ≤ other.from))
  none_between place (other ∷ others) none =
      let P : Extent → Type 0 = λ other. (other.from < place) ⊎ (e.from ≤ other.from) in
      elim (cases_Bool (is_between place e other)) [
        | inl wrong ↦ absurd (let e : true ≡ false = sym (ap (λ b. b || list_any (is_between place e) others) wrong)
            ∙ none in cc)
        | inr right ↦ All-cons P other others
            (elim (cases_lt other.from place) [
              | inl early ↦ inl early
              | inr late ↦ elim (cases_lt other.from e.from) [
                | inl before ↦ absurd (let e : true ≡ false =
                    sym (ap₂ ◌&&◌ (le-leb place other.from late) (lt-ltb other.from e.from before)) ∙ right in cc)
                | inr after ↦ inr after
              ]
            ])
            (none_between place others (sym (ap (λ b. b || list_any (is_between place e) others) right) ∙ none))
      ]

  -- a segment in which it lies, if there is one
  found_in : (segments : List Segment) →
      All (λ segment. lies_in segment e ≡ false) segments ⊎
      ((segment : Segment) × Contains segments segment × (lies_in segment e ≡ true) ×
      (All NotGiven segments → NotGiven segment))
  found_in [] = inl (All-nil (λ segment. lies_in segment e ≡ false))
  found_in (segment ∷ further) = elim (cases_Bool (lies_in segment e)) [
    | inl is ↦ inr (segment, (0, omega arith, refl), is, λ none. All-head NotGiven segment further none)
    | inr isnt ↦ elim (found_in further) [
      | inl none ↦ inl (All-cons (λ segment. lies_in segment e ≡ false) segment further isnt none)
      | inr found ↦ inr (
        found.0,
        (suc found.1.0, omega (arith, found.1.1), found.1.2),
        found.2,
        λ none. found.3 (All-tail NotGiven segment further none),
      )
    ]
  ]

  way_by : (segments : List Segment) (segment : Segment) → Contains segments segment → lies_in segment e ≡ true →
      NotGiven segment → (first : Bool) → segment.first ≡ first → (found : Option ℕ) → confirmed_in segment ≡ found →
      Lost segments all e
  way_by segments segment among lies none true is found confirmed =
      absurd (let wrong : true ≡ false = sym (ap₂ (λ a first. a && not (is_missed first segment all e)) lies is)
      ∙ none in cc)
  way_by segments segment among lies none false is None confirmed =
      unconfirmed segment (record { among = among; lies = lies; later = is }) confirmed
  way_by segments segment among lies none false is (Some place) confirmed =
      let later : LiesLater segments e segment = record { among = among; lies = lies; later = is } in
      let there : LiesConfirmed segments e place = record { segment = segment; lies = later; confirmed = confirmed } in
      let kept : not (not (nat_le place e.from && list_any (is_between place e) all)) ≡ false =
      sym (ap₂ (λ a first. a && not (is_missed first segment all e)) lies is
      ∙ ap (λ found. not (missed_after found all e)) confirmed) ∙ none in
      elim (cases_lt e.from place) [
        | inl early ↦ too_early place there early
        | inr after ↦ unsettled place there
            (none_between place all (not_kept (list_any (is_between place e) all)
            (ap (λ b. not (not (b && list_any (is_between place e) all))) (sym (le-leb place e.from after)) ∙ kept)))
      ]
    where
      not_kept : (b : Bool) → not (not (true && b)) ≡ false → b ≡ false
      not_kept true h = h
      not_kept false h = refl

  pub way_of : (segments : List Segment) → is_frame_lost segments all e ≡ true → Lost segments all e
  way_of segments lost =
      let none : list_any (is_given all e) segments ≡ false = negative (list_any (is_given all e) segments) lost in
      let each : All NotGiven segments = each_not_given segments none in
      elim (found_in segments) [
        | inl cut ↦ cut_off cut
        | inr found ↦ way_by segments found.0 found.1 found.2 (found.3 each) found.0.first refl
            (confirmed_in found.0) refl
      ]
    where
      negative : (b : Bool) → not b ≡ true → b ≡ false
      negative true h = absurd (let e : false ≡ true = h in cc)
      negative false h = refl

  -- ---- and back
  Contains-lower : (low : ℕ) (segments : List Segment) (segment : Segment) → InOrder low segments →
      Contains segments segment → low ≤ segment.base
  Contains-lower low [] segment order among = absurd (omega (arith, among.1))
  Contains-lower low (first ∷ further) segment order among = elim (contains-parts first further segment among) [
    | inl is ↦ omega (arith, order.0, ap (λ (s : Segment). s.base) is)
    | inr rest ↦ omega (arith, order.0, Contains-lower (first.base + length first.octets) further segment order.1 rest)
  ]

  only_one : (low : ℕ) (segments : List Segment) (segment : Segment) → e.from < e.to → InOrder low segments →
      Contains segments segment → lies_in segment e ≡ true → NotGiven segment →
      list_any (is_given all e) segments ≡ false
  only_one low [] segment some order among lies none = refl
  only_one low (first ∷ further) segment some order among lies none =
      let high : ℕ = first.base + length first.octets in
      elim (contains-parts first further segment among) [
        | inl is ↦ (
            let upper : e.to ≤ high = lies_upper first e (ap (λ s. lies_in s e) is ∙ lies) in
            ap (λ b. b || list_any (is_given all e) further) (ap (is_given all e) is ∙ none)
            ∙ elim (cases_Bool (list_any (is_given all e) further)) [
              | inl wrong ↦ absurd (omega (arith, any_lower all e high further order.1 wrong, upper, some))
              | inr right ↦ right
            ])
        | inr rest ↦ (
            let lower : high ≤ segment.base = Contains-lower high further segment order.1 rest in
            let from : segment.base ≤ e.from = lies_lower segment e lies in
            let first_none : is_given all e first ≡ false =
            elim (cases_Bool (is_given all e first)) [
              | inl wrong ↦ absurd (omega (arith, given_upper all e first wrong, lower, from, some))
              | inr right ↦ right
            ] in
            ap (λ b. b || list_any (is_given all e) further) first_none
            ∙ only_one high further segment some order.1 rest lies none)
      ]

  not_given_later : (segment : Segment) → segment.first ≡ false → (found : Option ℕ) → confirmed_in segment ≡ found →
      missed_after found all e ≡ true → NotGiven segment
  not_given_later segment later found confirmed missed =
      ap (λ first. lies_in segment e && not (is_missed first segment all e)) later
      ∙ ap (λ found. lies_in segment e && not (missed_after found all e)) confirmed
      ∙ ap (λ b. lies_in segment e && not b) missed
      ∙ and_false (lies_in segment e)

  pub lost_of : (segments : List Segment) → e.from < e.to → InOrder 0 segments → Lost segments all e →
      is_frame_lost segments all e ≡ true
  lost_of segments some order (cut_off none) =
      ap not (list_any_none (is_given all e) segments
      (All-weaker (λ segment. lies_in segment e ≡ false) NotGiven
      (λ segment no_place. ap (λ b. b && not (is_missed segment.first segment all e)) no_place) segments none))
  lost_of segments some order (unconfirmed segment lies none) =
      ap not (only_one 0 segments segment some order lies.among lies.lies
      (not_given_later segment lies.later None none refl))
  lost_of segments some order (too_early place there early) =
      ap not (only_one 0 segments there.segment some order there.lies.among there.lies.lies
      (not_given_later there.segment there.lies.later (Some place) there.confirmed
      (ap (λ b. not (b && list_any (is_between place e) all)) (lt-leb place e.from early))))
  lost_of segments some order (unsettled place there none) =
      ap not (only_one 0 segments there.segment some order there.lies.among there.lies.lies
      (not_given_later there.segment there.lies.later (Some place) there.confirmed
      (ap (λ b. not (nat_le place e.from && b))
      (list_any_none (is_between place e) all
      (All-weaker (λ (other : Extent). (other.from < place) ⊎ (e.from ≤ other.from))
      (λ other. is_between place e other ≡ false) (λ other apart. not_between place e other apart) all none))
      ∙ ap not (and_false (nat_le place e.from)))))

-- ---- Where each row is whole there is one segment.
abbrev pub IsWhole : StreamRow → Type 0
IsWhole row = row.whole ≡ true

-- the last segment with these octets
abbrev with_octets : Segments → List ℕ → Segments
with_octets come octets = record {
  ended = come.ended;
  last = record { first = come.last.first; base = come.last.base; octets = octets };
}

pub segments-whole : (come : Segments) (rows : List StreamRow) → All IsWhole rows →
    segments_on come rows ≡ longer come (octets_of_rows rows)
unfolding segments_on
segments-whole come [] whole = ap (with_octets come) (sym (append-nil come.last.octets))
segments-whole come (row ∷ rows) whole =
    ap (λ b. segments_on (row_by b come row.octets) rows) (All-head IsWhole row rows whole)
    ∙ segments-whole (longer come row.octets) rows (All-tail IsWhole row rows whole)
    ∙ ap (with_octets come) (append_assoc come.last.octets row.octets (octets_of_rows rows))

-- so it is the first one, from place 0
pub only_segment : (rows : List StreamRow) → All IsWhole rows →
    segments rows ≡ record { first = true; base = 0; octets = octets_of_rows rows } ∷ []
only_segment rows whole = ap (λ (come : Segments). come.ended ++ come.last ∷ []) (segments-whole no_rows rows whole)

-- what it tells, of any kind of frames
module _ {X Y : Type 0} (kind : Kind X Y) (sound : IsKind kind) (pieces : List Piece)
    (sent : All (IsPieceIn kind) pieces) where
  pub told-all : (rows : List StreamRow) → Carries rows (stream_in kind (idle ∷ idle ∷ pieces)) → All IsWhole rows →
      rows_told kind rows
      ≡ flat_map kind.read (frames_to (length (octets_of_rows rows)) (extents 0 (idle ∷ idle ∷ pieces)))
  told-all rows carried whole =
      let octets : List ℕ = octets_of_rows rows in
      ap (flat_map (segment_told kind)) (only_segment rows whole)
      ∙ append-nil (told_in kind true octets)
      ∙ ap (told_in kind true)
      (sym (ap (take (length octets)) carried.parts ∙ take_at octets carried.rest (length octets) refl))
      ∙ told-stream kind sound (length octets) pieces sent

pub deliver-whole : (longest : ℕ) (pieces : List Piece) (rows : List StreamRow) → longest ≤ 65531 →
    All (IsSentPiece longest) pieces → CarriesStream rows (idle ∷ idle ∷ pieces) → All IsWhole rows →
    deliver longest rows ≡ frames_by (length (octets_of_rows rows)) (idle ∷ idle ∷ pieces)
deliver-whole longest pieces rows fits sent carried whole =
    let octets : List ℕ = octets_of_rows rows in
    told-all (plain_kind longest) (plain-sound longest) pieces (plain-pieces longest pieces fits sent) rows
    (plain-carries longest (idle ∷ idle ∷ pieces) rows carried) whole
    ∙ plain-read longest (frames_to (length octets) (extents 0 (idle ∷ idle ∷ pieces)))
    ∙ sym (frames_ended (length octets) 0 (idle ∷ idle ∷ pieces))
