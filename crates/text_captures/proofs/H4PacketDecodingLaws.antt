-- The packets in H4 octets: what one octet more does, that a decoder finds all and no others, and their texts.
use Rattle.std.proofs.Common.{◌≡◌, ℕ, suc, ◌+◌, ◌-◌, ◌/◌, ◌%◌, ◌<◌, ◌≤◌, ◌==◌, nat_lt, nat_le, ◌&&◌, Bool, true, false}
use Rattle.std.proofs.Common.{if◌then◌else◌, inl, inr, List, [], ◌∷◌, ◌++◌, length, take, Some, refl, sym, ◌∙◌, ap}
use Rattle.std.proofs.Common.{ap₂, subst, arith, append_assoc, ◌≢◌, zero, slice_set, Option, Result, drop, slice_index}
use Rattle.std.proofs.Common.{slice_get, eq-or-lt_of_le, leb-true, take-append-drop}
use Rattle.std.specs.List.{list_all}
use Rattle.std.proofs.Math.Bool.{and_assoc, and-true}
use Rattle.std.proofs.lemmas.Bool.{cases_Bool, cases_lt, and_parts, and_cases, and_from, and_left, and_right, eqb-true}
use Rattle.std.proofs.lemmas.Bool.{ne_eqb, lt-ltb, le-ltb, ltb-true, ltb-false, le-leb, lt-leb, eq-eqb, both_ways}
use Rattle.std.proofs.lemmas.Bool.{cases_order}
use Rattle.std.proofs.lemmas.List.{append-nil, length-append, length-map, map-append, take_all, take-append-le}
use Rattle.std.proofs.lemmas.List.{length-set, length-take, take_more_set}
use Rattle.law_model.specs.Common.{LineLock, locked, Sight, unknown, at, sight_of, lock_after, lock_by, sights_on}
use Rattle.law_model.specs.Common.{read_of, good_cells, is_at, is_front, upper_halves, Found, packet_here, packets_on}
use Rattle.law_model.specs.Common.{unlocked, locks, IsAt, begins_packet, front_nibbles, bits, number_behind, add_front}
use Rattle.law_model.specs.Common.{divide, crc8_of, decoded_text, Table, place_in}
use Rattle.text_captures.specs.packet_trace.Decoder.{begun_on, Decoding, DecoderStands}
use Rattle.check_nibbles.proofs.CellsInStepLaws.{IsFirstStep_only, IsInStep-inside, IsAt-append}
use Rattle.member_path.specs.declared.h4_multiframe.MfiLock.{MfiLock}
use Rattle.member_path.specs.declared.h4_multiframe.Place.{Place}
use Rattle.member_path.specs.declared.h4_multiframe.Place.TheVariants.{Unknown, Locks as LocksAnswer, At}
use Rattle.member_path.specs.h4_multiframe.MultiframePlace.{IsPlace}
use Rattle.member_path.specs.h4_multiframe.LockState.{LockStands}
use Rattle.law_model.specs.declared.control_packet.Packet.{Packet}
use Rattle.law_model.specs.declared.control_packet.PacketFault.{PacketFault}
use Rattle.law_model.specs.packets.Decode.{packets_in}
use Rattle.law_model.proofs.ListLaws.{append_one, slice_get-inside, texts-more}
use Rattle.law_line.proofs.CellSightAndLockLaws.{LockStands as SightStands, IsSight, sight-is, stands-none}
use Rattle.law_line.proofs.CellSightAndLockLaws.{stands-next, IsAt_before, sights-each, IsSight_only, length-sights_on}
use Rattle.std.proofs.Math.Seq.{drop-append_seam}
use Rattle.std.proofs.lemmas.Option.{slice_get_within}
use Rattle.text_captures.specs.packet_trace.PacketWording.{HasPacketAt, AreFound, AreWorded, AreOnly, PacketsStay}
use Rattle.std.specs.Fmt.{digits}
use Rattle.hex.specs.Hex.{encode_with}
use Rattle.text_captures.specs.packet_trace.WorkedDecoding.{AreRead, IsRefused}
use Rattle.text_report.specs.declared.text_cursor.TextCursor.{TextCursor}
use Rattle.text_report.specs.TextCursor.{text_of, Extends}
use Rattle.text_captures.specs.packet_trace.StepText.{place_text, place_texts}

-- ---- One octet more: what it does to the packets of the octets before it, and to one that has begun.
-- what is known of the line after octets
unfoldable pub lock_on : LineLock → List ℕ → LineLock
lock_on lock [] = lock
lock_on lock (h4 ∷ octets) = lock_on (lock_by lock (Some h4)) octets

-- ---- octets that come while the line is locked
abbrev are_at : LineLock → List ℕ → Bool
are_at lock octets = list_all is_at (sights_on lock (good_cells octets))

are_at-more : (octets : List ℕ) (lock : LineLock) (o : ℕ) →
    are_at lock (octets ++ o ∷ []) ≡ (are_at lock octets && is_at (sight_of (lock_on lock octets) o))
unfolding sights_on lock_on
are_at-more [] lock o = and-true (is_at (sight_of lock o))
are_at-more (h4 ∷ octets) lock o =
    ap (λ b. is_at (sight_of lock h4) && b) (are_at-more octets (lock_by lock (Some h4)) o)
    ∙ sym (and_assoc (is_at (sight_of lock h4)) (are_at (lock_by lock (Some h4)) octets)
    (is_at (sight_of (lock_on (lock_by lock (Some h4)) octets) o)))

front-more : (h4 : ℕ) (octets : List ℕ) (lock : LineLock) (o : ℕ) →
    is_front lock (h4 ∷ octets ++ o ∷ []) ≡
    (is_front lock (h4 ∷ octets) && is_at (sight_of (lock_on lock (h4 ∷ octets)) o))
front-more h4 octets lock o =
    ap (λ b. h4 % 16 == 8 && b) (are_at-more (h4 ∷ octets) lock o)
    ∙ sym (and_assoc (h4 % 16 == 8) (are_at lock (h4 ∷ octets)) (is_at (sight_of (lock_on lock (h4 ∷ octets)) o)))

-- ---- the packet at the front of octets
not_here : (lock : LineLock) (place : ℕ) (octets : List ℕ) → is_front lock (take 16 octets) ≡ false →
    packet_here lock place octets ≡ []
not_here lock place octets other =
    rw (and_right (nat_le 16 (length octets)) (is_front lock (take 16 octets)) other) refl

few_here : (lock : LineLock) (place : ℕ) (octets : List ℕ) → length octets < 16 → packet_here lock place octets ≡ []
few_here lock place octets few =
    rw (and_left (nat_le 16 (length octets)) (is_front lock (take 16 octets)) (lt-leb 16 (length octets) few)) refl

whole_here : (lock : LineLock) (place : ℕ) (octets : List ℕ) → length octets ≡ 16 → is_front lock octets ≡ true →
    packet_here lock place octets ≡ (place, read_of (upper_halves octets)) ∷ []
whole_here lock place octets size is =
    let whole : take 16 octets ≡ octets = take_all 16 octets (omega arith) in
    rw (whole, is, le-leb 16 (length octets) (omega arith)) refl

same_here : (lock : LineLock) (place : ℕ) (octets : List ℕ) (o : ℕ) → 16 ≤ length octets →
    packet_here lock place (octets ++ o ∷ []) ≡ packet_here lock place octets
same_here lock place octets o enough =
    let more : 16 ≤ length (octets ++ o ∷ []) = omega (arith, length-append octets (o ∷ [])) in
    let first : take 16 (octets ++ o ∷ []) ≡ take 16 octets = take-append-le 16 octets (o ∷ []) enough in
    rw (le-leb 16 (length (octets ++ o ∷ [])) more, le-leb 16 (length octets) enough, first) refl

-- fewer than sixteen octets have none
pub few_packets : (octets : List ℕ) (lock : LineLock) (place : ℕ) → length octets < 16 →
    packets_on lock place octets ≡ []
unfolding packets_on
few_packets [] lock place few = refl
few_packets (h4 ∷ octets) lock place few =
    rw (few_here lock place (h4 ∷ octets) few) (few_packets octets (lock_by lock (Some h4)) (place + 1) (omega arith))

-- the packet at the front, of octets and of one more
here-more : (lock : LineLock) (place : ℕ) (octets : List ℕ) (o : ℕ) →
    (nat_lt (length octets) 16 && is_front lock (octets ++ o ∷ [])) ≡ false →
    packet_here lock place (octets ++ o ∷ []) ≡ packet_here lock place octets
here-more lock place octets o other =
    elim (cases_lt (length octets) 16) [
      | inl few ↦
          let front : is_front lock (octets ++ o ∷ []) ≡ false = rw (lt-ltb (length octets) 16 few) at other in
          let all : take 16 (octets ++ o ∷ []) ≡ octets ++ o ∷ [] =
          take_all 16 (octets ++ o ∷ []) (omega (arith, length-append octets (o ∷ []))) in
          not_here lock place (octets ++ o ∷ []) (ap (is_front lock) all ∙ front) ∙ sym (few_here lock place octets few)
      | inr enough ↦ same_here lock place octets o enough
    ]

-- ---- an octet that doesn't come while the line is locked
pub packets-out : (octets : List ℕ) (lock : LineLock) (place o : ℕ) → is_at (sight_of (lock_on lock octets) o) ≡ false →
    (begun_on lock (octets ++ o ∷ []) ≡ []) × (packets_on lock place (octets ++ o ∷ []) ≡ packets_on lock place octets)
unfolding begun_on packets_on lock_on sights_on
packets-out [] lock place o out = (
  rw (and_right (o % 16 == 8) (is_at (sight_of lock o) && true) (and_left (is_at (sight_of lock o)) true out)) refl,
  refl,
)
packets-out (h4 ∷ octets) lock place o out =
    let more = packets-out octets (lock_by lock (Some h4)) (place + 1) o out in
    let all = h4 ∷ octets ++ o ∷ [] in
    let front : is_front lock all ≡ false = front-more h4 octets lock o
    ∙ and_right (is_front lock (h4 ∷ octets)) (is_at (sight_of (lock_on lock (h4 ∷ octets)) o)) out in (
      rw (and_right (nat_lt (length all) 16) (is_front lock all) front) more.0,
      ap₂ (λ (a b : List Found). a ++ b)
          (here-more lock place (h4 ∷ octets) o
          (and_right (nat_lt (length (h4 ∷ octets)) 16) (is_front lock all) front)) more.1,
    )

-- ---- octets that come while the line is locked have rising MFI1
pub is_at-at : (sight : Sight) → is_at sight ≡ true → sight ≡ at
is_at-at at e = refl
is_at-at sight e = absurd cc

due-mfi1 : (mfi1 o : ℕ) → is_at (sight_of (locked mfi1) o) ≡ true → o % 16 ≡ (mfi1 + 1) % 16
due-mfi1 mfi1 o e =
    elim (cases_Bool (o % 16 == (mfi1 + 1) % 16)) [
      | inl due ↦ eqb-true (o % 16) ((mfi1 + 1) % 16) due
      | inr other ↦ let never : is_at unknown ≡ true = rw other at e in absurd cc
    ]

lock-at : (lock : LineLock) (o : ℕ) → is_at (sight_of lock o) ≡ true → lock_by lock (Some o) ≡ locked (o % 16)
lock-at lock o e = ap (λ sight. lock_after sight o) (is_at-at (sight_of lock o) e)

not_eight : (mfi1 j o : ℕ) → mfi1 ≡ (8 + j) % 16 → j < 15 → o % 16 ≡ (mfi1 + 1) % 16 → (o % 16 ≡ 8 → ⊥) ×
    (o % 16 ≡ (8 + suc j) % 16)
not_eight mfi1 j o e few due = (λ eight. omega arith, omega arith)

-- so none of the fifteen after one with MFI1 8 has it again
none_later : (octets : List ℕ) (mfi1 j : ℕ) → mfi1 ≡ (8 + j) % 16 → j + length octets ≤ 15 →
    are_at (locked mfi1) octets ≡ true → begun_on (locked mfi1) octets ≡ []
unfolding begun_on sights_on
none_later [] mfi1 j e few all = refl
none_later (o ∷ octets) mfi1 j e few all =
    let both = and_parts (is_at (sight_of (locked mfi1) o)) (are_at (lock_by (locked mfi1) (Some o)) octets) all in
    let next = not_eight mfi1 j o e (omega arith) (due-mfi1 mfi1 o both.0) in
    let lock : lock_by (locked mfi1) (Some o) ≡ locked (o % 16) = lock-at (locked mfi1) o both.0 in
    let front : is_front (locked mfi1) (o ∷ octets) ≡ false =
    and_left (o % 16 == 8) (are_at (locked mfi1) (o ∷ octets)) (ne_eqb (o % 16) 8 next.0) in
    let rest = none_later octets (o % 16) (suc j) next.1 (omega arith) (subst (λ l. are_at l octets ≡ true) lock both.1)
    in
    rw (and_right (nat_lt (length (o ∷ octets)) 16) (is_front (locked mfi1) (o ∷ octets)) front)
    (subst (λ l. begun_on l octets ≡ []) (sym lock) rest)

-- ---- an octet that does
-- the nibbles of a packet that has begun and of this octet, or those of one that begins with it
abbrev pub grown : List ℕ → ℕ → List ℕ
grown [] o = if o % 16 == 8 then o / 16 ∷ [] else []
grown (nibble ∷ nibbles) o = (nibble ∷ nibbles) ++ o / 16 ∷ []

-- a packet that isn't whole goes on
abbrev pub going_on : List ℕ → List ℕ
going_on nibbles = if nat_le 16 (length nibbles) then [] else nibbles

-- and one that is whole is read
abbrev pub whole_at : ℕ → List ℕ → List Found
whole_at place nibbles = if nat_le 16 (length nibbles) then (place, read_of nibbles) ∷ [] else []

-- what a further octet does, where these are the nibbles with it
abbrev pub Grows : LineLock → ℕ → List ℕ → ℕ → List ℕ → Type 0
Grows lock place octets o nibbles =
    (begun_on lock (octets ++ o ∷ []) ≡ going_on nibbles)
    × (packets_on lock place (octets ++ o ∷ []) ≡ packets_on lock place octets ++ whole_at
    (place + (length octets + 1) - 16) nibbles)

begun-front : (h4 : ℕ) (octets : List ℕ) (lock : LineLock) → length (h4 ∷ octets) < 16 →
    is_front lock (h4 ∷ octets) ≡ true →
    begun_on lock (h4 ∷ octets) ≡ upper_halves (h4 ∷ octets)
unfolding begun_on
begun-front h4 octets lock few front =
    rw (and_from (nat_lt (length (h4 ∷ octets)) 16) (is_front lock (h4 ∷ octets))
    (lt-ltb (length (h4 ∷ octets)) 16 few) front) refl

begun-other : (h4 : ℕ) (octets : List ℕ) (lock : LineLock) →
    (nat_lt (length (h4 ∷ octets)) 16 && is_front lock (h4 ∷ octets)) ≡ false →
    begun_on lock (h4 ∷ octets) ≡ begun_on (lock_by lock (Some h4)) octets
unfolding begun_on
begun-other h4 octets lock other = rw other refl

packets-first : (h4 : ℕ) (octets : List ℕ) (lock : LineLock) (place : ℕ) →
    packets_on lock place (h4 ∷ octets) ≡ packet_here lock place (h4 ∷ octets) ++ packets_on (lock_by lock (Some h4))
    (place + 1) octets
unfolding packets_on
packets-first h4 octets lock place = refl

front-same : (h4 : ℕ) (octets : List ℕ) (lock : LineLock) (o : ℕ) →
    is_at (sight_of (lock_on lock (h4 ∷ octets)) o) ≡ true →
    is_front lock (h4 ∷ octets ++ o ∷ []) ≡ is_front lock (h4 ∷ octets)
front-same h4 octets lock o comes =
    front-more h4 octets lock o ∙ ap (λ b. is_front lock (h4 ∷ octets) && b) comes
    ∙ and-true (is_front lock (h4 ∷ octets))

-- a packet that has begun goes on
front-grows : (h4 : ℕ) (octets : List ℕ) (lock : LineLock) (place o : ℕ) →
    is_at (sight_of (lock_on lock (h4 ∷ octets)) o) ≡ true →
    is_front lock (h4 ∷ octets) ≡ true → length (h4 ∷ octets) < 15 →
    Grows lock place (h4 ∷ octets) o (upper_halves (h4 ∷ octets ++ o ∷ []))
front-grows h4 octets lock place o comes front few =
    let all = h4 ∷ octets ++ o ∷ [] in
    let size : length all ≡ length octets + 2 = let more = length-append octets (o ∷ []) in omega arith in
    let short : nat_le 16 (length (upper_halves all)) ≡ false =
    lt-leb 16 (length (upper_halves all)) (omega (arith, length-map all (λ octet. octet / 16))) in (
      rw short (begun-front h4 (octets ++ o ∷ []) lock (omega arith) (front-same h4 octets lock o comes ∙ front)),
      rw short (few_packets all lock place (omega arith)
          ∙ sym (append-nil (packets_on lock place (h4 ∷ octets))
          ∙ few_packets (h4 ∷ octets) lock place (omega arith))),
    )

-- or is whole
front-whole : (h4 : ℕ) (octets : List ℕ) (lock : LineLock) (place o : ℕ) →
    is_at (sight_of (lock_on lock (h4 ∷ octets)) o) ≡ true →
    is_front lock (h4 ∷ octets) ≡ true → length (h4 ∷ octets) ≡ 15 →
    Grows lock place (h4 ∷ octets) o (upper_halves (h4 ∷ octets ++ o ∷ []))
unfolding sights_on
front-whole h4 octets lock place o comes front size =
    let all = h4 ∷ octets ++ o ∷ [] in
    let next : LineLock = lock_by lock (Some h4) in
    let rest : List ℕ = octets ++ o ∷ [] in
    let sixteen : length all ≡ 16 = let more = length-append octets (o ∷ []) in omega arith in
    let long : nat_le 16 (length (upper_halves all)) ≡ true =
    le-leb 16 (length (upper_halves all)) (omega (arith, length-map all (λ octet. octet / 16))) in
    let is : is_front lock all ≡ true = front-same h4 octets lock o comes ∙ front in
    let parts = and_parts (h4 % 16 == 8) (are_at lock all) is in
    let both = and_parts (is_at (sight_of lock h4)) (are_at next rest) parts.1 in
    let locked_next : next ≡ locked (h4 % 16) = lock-at lock h4 both.0 in
    let none : begun_on next rest ≡ [] =
    subst (λ l. begun_on l rest ≡ []) (sym locked_next)
    (none_later rest (h4 % 16) 0 (eqb-true (h4 % 16) 8 parts.0) (omega arith)
    (subst (λ l. are_at l rest ≡ true) locked_next both.1)) in
    let other : (nat_lt (length all) 16 && is_front lock all) ≡ false =
    and_left (nat_lt (length all) 16) (is_front lock all) (le-ltb (length all) 16 (omega arith)) in
    let here : packet_here lock place all ≡ (place, read_of (upper_halves all)) ∷ [] =
    whole_here lock place all sixteen is in
    let there : place ≡ place + (length (h4 ∷ octets) + 1) - 16 = omega arith in (
      rw long (begun-other h4 rest lock other ∙ none),
      rw long
          (packets-first h4 rest lock place
          ∙ ap₂ (λ (a b : List Found). a ++ b) here (few_packets rest next (place + 1) (omega arith))
          ∙ ap (λ (n : ℕ). (n, read_of (upper_halves all)) ∷ []) there
          ∙ ap (λ (l : List Found). l ++ (place + (length (h4 ∷ octets) + 1) - 16, read_of (upper_halves all)) ∷ [])
          (sym (few_packets (h4 ∷ octets) lock place (omega arith)))),
    )

-- the octets before it are one more octet before others, from which on the packet that has begun is looked for
front-passes : (h4 : ℕ) (octets : List ℕ) (lock : LineLock) (place o : ℕ) (nibbles : List ℕ) →
    is_at (sight_of (lock_on lock (h4 ∷ octets)) o) ≡ true →
    (nat_lt (length (h4 ∷ octets)) 16 && is_front lock (h4 ∷ octets)) ≡ false →
    Grows (lock_by lock (Some h4)) (place + 1) octets o nibbles →
    Grows lock place (h4 ∷ octets) o nibbles
front-passes h4 octets lock place o nibbles comes other (goes_on, packets) =
    let all = h4 ∷ octets ++ o ∷ [] in
    let next : LineLock = lock_by lock (Some h4) in
    let same = front-same h4 octets lock o comes in
    let still : (nat_lt (length (h4 ∷ octets)) 16 && is_front lock all) ≡ false =
    ap (λ b. nat_lt (length (h4 ∷ octets)) 16 && b) same ∙ other in
    let passed : (nat_lt (length all) 16 && is_front lock all) ≡ false =
    elim (and_cases (nat_lt (length (h4 ∷ octets)) 16) (is_front lock all) still) [
      | inl long ↦ and_left (nat_lt (length all) 16) (is_front lock all)
          (le-ltb (length all) 16 (omega (
            arith,
            ltb-false (length (h4 ∷ octets)) 16 long,
            length-append octets (o ∷ []),
          )))
      | inr not_front ↦ and_right (nat_lt (length all) 16) (is_front lock all) not_front
    ] in
    let there : place + 1 + (length octets + 1) - 16 ≡ place + (length (h4 ∷ octets) + 1) - 16 = omega arith in (
      begun-other h4 (octets ++ o ∷ []) lock passed ∙ goes_on,
      packets-first h4 (octets ++ o ∷ []) lock place
          ∙ ap₂ (λ (a b : List Found). a ++ b) (here-more lock place (h4 ∷ octets) o still) packets
          ∙ sym (append_assoc (packet_here lock place (h4 ∷ octets)) (packets_on next (place + 1) octets)
          (whole_at (place + 1 + (length octets + 1) - 16) nibbles))
          ∙ ap (λ (l : List Found). l ++ whole_at (place + 1 + (length octets + 1) - 16) nibbles)
          (sym (packets-first h4 octets lock place))
          ∙ ap (λ (n : ℕ). packets_on lock place (h4 ∷ octets) ++ whole_at n nibbles) there,
    )

first-grows : (lock : LineLock) (place o : ℕ) → is_at (sight_of lock o) ≡ true → Grows lock place [] o (grown [] o)
unfolding begun_on packets_on sights_on
first-grows lock place o comes =
    elim (cases_Bool (o % 16 == 8)) [
      | inl eight ↦ (rw (eight, comes) refl, rw eight refl)
      | inr other ↦ (rw other refl, rw other refl)
    ]

pub packets-grow : (octets : List ℕ) (lock : LineLock) (place o : ℕ) → is_at (sight_of (lock_on lock octets) o) ≡ true →
    Grows lock place octets o (grown (begun_on lock octets) o)
unfolding lock_on begun_on
packets-grow [] lock place o comes = first-grows lock place o comes
packets-grow (h4 ∷ octets) lock place o comes =
    let P : List ℕ → Type 0 = λ nibbles. Grows lock place (h4 ∷ octets) o (grown nibbles o) in
    elim (cases_Bool (nat_lt (length (h4 ∷ octets)) 16 && is_front lock (h4 ∷ octets))) [
      | inl is ↦
          let both = and_parts (nat_lt (length (h4 ∷ octets)) 16) (is_front lock (h4 ∷ octets)) is in
          let few = ltb-true (length (h4 ∷ octets)) 16 both.0 in
          let halves : grown (upper_halves (h4 ∷ octets)) o ≡ upper_halves (h4 ∷ octets ++ o ∷ []) =
          ap (λ l. h4 / 16 ∷ l) (sym (map-append (λ octet. octet / 16) octets (o ∷ []))) in
          subst P (sym (begun-front h4 octets lock few both.1))
          (subst (Grows lock place (h4 ∷ octets) o) (sym halves)
          (elim (cases_lt (length (h4 ∷ octets)) 15) [
            | inl short ↦ front-grows h4 octets lock place o comes both.1 short
            | inr full ↦ front-whole h4 octets lock place o comes both.1 (omega arith)
          ]))
      | inr other ↦
          subst P (sym (begun-other h4 octets lock other))
          (front-passes h4 octets lock place o (grown (begun_on (lock_by lock (Some h4)) octets) o) comes other
          (packets-grow octets (lock_by lock (Some h4)) (place + 1) o comes))
    ]

-- ---- What a decoder knows after the next octet, from what the lock of its line says of that.
-- ---- the cells of octets
pub good_cells-append : (octets more : List ℕ) → good_cells (octets ++ more) ≡ good_cells octets ++ good_cells more
good_cells-append octets more = map-append Some octets more

pub length-good_cells : (octets : List ℕ) → length (good_cells octets) ≡ length octets
length-good_cells octets = length-map octets Some

stands-on : (octets : List ℕ) (lock : LineLock) (signs : List (Option ℕ)) → SightStands lock signs →
    SightStands (lock_on lock octets) (signs ++ good_cells octets)
unfolding lock_on
stands-on [] lock signs stands = rw (append-nil signs) stands
stands-on (h4 ∷ octets) lock signs stands =
    rw (append_one signs (Some h4) (good_cells octets))
    (stands-on octets (lock_by lock (Some h4)) (signs ++ Some h4 ∷ []) (stands-next lock signs (Some h4) stands))

pub stands-of : (octets : List ℕ) → SightStands (lock_on unlocked octets) (good_cells octets)
stands-of octets = stands-on octets unlocked [] stands-none

-- ---- what the lock says of an octet is what is computed of it
abbrev is_at_answer : Place → Bool
is_at_answer (At number) = true
is_at_answer answer = false

same-sight : (signs : List (Option ℕ)) (i : ℕ) (answer : Place) (sight : Sight) → IsPlace signs i answer →
    IsSight signs i sight → is_at sight ≡ is_at_answer answer
same-sight signs i Unknown at p q = absurd (p q.0 q.1.in_step)
same-sight signs i (LocksAnswer n) at p q =
    let same : p.0.0 ≡ q.0 = IsFirstStep_only signs p.0.0 q.0 i p.0.1 q.1 in
    absurd (omega (arith, p.0.2, q.2))
same-sight signs i (At n) unknown p q = absurd (q p.0.0 p.0.1.in_step)
same-sight signs i (At n) (locks m) p q =
    let same : p.0.0 ≡ q.0.0 = IsFirstStep_only signs p.0.0 q.0.0 i p.0.1 q.0.1 in
    absurd (omega (arith, p.0.2, q.0.2))
same-sight signs i answer sight p q = refl

-- the lock says this of the octet after these
abbrev pub IsAnswer : List ℕ → ℕ → Place → Type 0
IsAnswer octets o answer = IsPlace (good_cells octets ++ Some o ∷ []) (length (good_cells octets)) answer

sight-here : (octets : List ℕ) (o : ℕ) (answer : Place) → IsAnswer octets o answer →
    is_at (sight_of (lock_on unlocked octets) o) ≡ is_at_answer answer
sight-here octets o answer is =
    same-sight (good_cells octets ++ Some o ∷ []) (length (good_cells octets)) answer
    (sight_of (lock_on unlocked octets) o) is
    (sight-is (lock_on unlocked octets) (good_cells octets) o (stands-of octets))

not_answer : (answer : Place) → ((number : ℕ) → answer ≡ At number → ⊥) → is_at_answer answer ≡ false
not_answer (At number) other = absurd (other number refl)
not_answer answer other = refl

-- ---- the decoder
next_lock : (lock : MfiLock) (octets : List ℕ) (o : ℕ) → LockStands lock (good_cells octets ++ Some o ∷ []) →
    LockStands lock (good_cells (octets ++ o ∷ []))
next_lock lock octets o stands = subst (LockStands lock) (sym (good_cells-append octets (o ∷ []))) stands

next_count : (given : ℕ) (octets : List ℕ) (o : ℕ) → given ≡ length octets → given + 1 ≡ length (octets ++ o ∷ [])
next_count given octets o e = let more = length-append octets (o ∷ []) in omega arith

-- what it knows then, and what is found
abbrev pub Goes : Decoding → List ℕ → ℕ → List Found → Type 0
Goes after octets o found = DecoderStands after (octets ++ o ∷ []) ×
    (packets_in (octets ++ o ∷ []) ≡ packets_in octets ++ found)

-- after an octet that didn't come while the line was locked
pub goes-out : (before : Decoding) (lock : MfiLock) (nibbles octets : List ℕ) (o : ℕ) (answer : Place) →
    ((number : ℕ) → answer ≡ At number → ⊥) → IsAnswer octets o answer →
    LockStands lock (good_cells octets ++ Some o ∷ []) → DecoderStands before octets →
    Goes (record { given = before.given + 1; lock = lock; nibbles = nibbles; begun = 0 }) octets o []
goes-out before lock nibbles octets o answer other is lock_stands stands =
    let none = packets-out octets unlocked 0 o (sight-here octets o answer is ∙ not_answer answer other) in (
      record {
        count = next_count before.given octets o stands.count;
        lock = next_lock lock octets o lock_stands;
        begun = sym none.0;
      },
      none.1 ∙ sym (append-nil (packets_in octets)),
    )

-- after one that did, with the nibbles of a packet that has begun and of this octet
module _ (before : Decoding) (lock : MfiLock) (nibbles octets grew : List ℕ) (o number : ℕ)
    (is : IsAnswer octets o (At number))
    (lock_stands : LockStands lock (good_cells octets ++ Some o ∷ [])) (stands : DecoderStands before octets)
    (grew_is : grown (take before.begun before.nibbles) o ≡ grew) where
  grows : Grows unlocked 0 octets o grew
  grows =
      subst (Grows unlocked 0 octets o) (ap (λ l. grown l o) (sym stands.begun) ∙ grew_is)
      (packets-grow octets unlocked 0 o (sight-here octets o (At number) is))

  -- they are not a whole packet
  pub goes-on : (count : ℕ) → length grew < 16 → take count nibbles ≡ grew →
      Goes (record { given = before.given + 1; lock = lock; nibbles = nibbles; begun = count }) octets o []
  goes-on count few kept =
      let short : nat_le 16 (length grew) ≡ false = lt-leb 16 (length grew) few in (
        record {
          count = next_count before.given octets o stands.count;
          lock = next_lock lock octets o lock_stands;
          begun = kept ∙ sym (grows.0 ∙ rw short refl);
        },
        grows.1 ∙ rw short refl,
      )

  -- they are
  pub goes-whole : (reading : Result Packet PacketFault) → length grew ≡ 16 → reading ≡ read_of grew →
      Goes (record { given = before.given + 1; lock = lock; nibbles = nibbles; begun = 0 }) octets o
      ((before.given + 1 - 16, reading) ∷ [])
  goes-whole reading size read =
      let long : nat_le 16 (length grew) ≡ true = le-leb 16 (length grew) (omega arith) in
      let place : 0 + (length octets + 1) - 16 ≡ before.given + 1 - 16 = omega (arith, stands.count) in (
        record {
          count = next_count before.given octets o stands.count;
          lock = next_lock lock octets o lock_stands;
          begun = sym (grows.0 ∙ rw long refl);
        },
        grows.1 ∙ rw (long, read, place) refl,
      )

-- ---- those nibbles
-- none has begun, and none begins
pub grown-none : (nibbles : List ℕ) (begun o : ℕ) → begun ≡ 0 → o % 16 ≢ 8 → grown (take begun nibbles) o ≡ []
grown-none nibbles zero o none other = rw (ne_eqb (o % 16) 8 other) refl
grown-none nibbles (suc n) o none other = absurd (omega arith)

-- else they are written after those before them
pub grown-take : (nibbles : List ℕ) (begun o upper : ℕ) → begun < length nibbles → (begun ≡ 0 → o % 16 ≡ 8) →
    upper ≡ o / 16 →
    grown (take begun nibbles) o ≡ take (begun + 1) (slice_set nibbles begun upper)
grown-take [] n o upper inside first is = absurd (omega arith)
grown-take (x ∷ nibbles) zero o upper inside first is =
    rw (eq-eqb (o % 16) 8 (first refl)) (ap (λ (n : ℕ). n ∷ []) (sym is))
grown-take (x ∷ nibbles) (suc n) o upper inside first is =
    ap (λ (l : ℕ). take (suc n) (x ∷ nibbles) ++ l ∷ []) (sym is)
    ∙ sym (take_more_set (x ∷ nibbles) (suc n) upper inside)

pub length-grown : (nibbles : List ℕ) (begun octet : ℕ) → begun < length nibbles →
    length (take (begun + 1) (slice_set nibbles begun octet)) ≡ begun + 1
length-grown nibbles n octet inside =
    omega (arith, length-take (n + 1) (slice_set nibbles n octet), length-set nibbles n octet)

pub all-grown : (nibbles : List ℕ) (begun octet : ℕ) → begun + 1 ≡ 16 → length nibbles ≡ 16 →
    take (begun + 1) (slice_set nibbles begun octet) ≡ slice_set nibbles begun octet
all-grown nibbles n octet last size =
    take_all (n + 1) (slice_set nibbles n octet) (omega (arith, length-set nibbles n octet))

-- ---- The packets that are computed of octets are those that are worded, and no others are.
-- ---- the cells of octets
slice_index-append : (before rest : List ℕ) (k : ℕ) →
    slice_index (before ++ rest) (length before + k) ≡ slice_index rest k
slice_index-append [] rest k = ap (slice_index rest) (let e : 0 + k ≡ k = omega arith in e)
slice_index-append (x ∷ before) rest k =
    ap (slice_index (x ∷ before ++ rest)) (let e : suc (length before) + k ≡ suc (length before + k) = omega arith in e)
    ∙ slice_index-append before rest k

IsAt_inside : (octets : List ℕ) (place : ℕ) → IsAt (good_cells octets) place → place < length octets
IsAt_inside octets place is =
    subst (λ n. place < n) (length-good_cells octets) (IsInStep-inside (good_cells octets) is.0 place is.1.in_step)

-- ---- each element of a list passes a test
all-true : {X : Type 0} (p : X → Bool) (xs : List X) → list_all p xs ≡ true → (k : ℕ) (x : X) →
    slice_get xs k ≡ Some x → p x ≡ true
all-true p [] all k x e = absurd cc
all-true p (y ∷ xs) all zero x e = let same : y ≡ x = cc in ap p (sym same) ∙ (and_parts (p y) (list_all p xs) all).0
all-true p (y ∷ xs) all (suc k) x e = all-true p xs (and_parts (p y) (list_all p xs) all).1 k x e

true-all : {X : Type 0} (p : X → Bool) (xs : List X) → ((k : ℕ) (x : X) → slice_get xs k ≡ Some x → p x ≡ true) →
    list_all p xs ≡ true
true-all p [] each = refl
true-all p (y ∷ xs) each = and_from (p y) (list_all p xs) (each 0 y refl) (true-all p xs (λ k. each (suc k)))

-- ---- each of octets comes while the line is locked
module _ (before : List (Option ℕ)) (lock : LineLock) (stands : SightStands lock before) where
  each-at : (octets : List ℕ) → list_all is_at (sights_on lock (good_cells octets)) ≡ true → (k : ℕ) →
      k < length octets → IsAt (before ++ good_cells octets) (length before + k)
  each-at octets all k inside =
      let sights = sights_on lock (good_cells octets) in
      let (sight, here) = slice_get-inside sights k
      (omega (arith, length-sights_on (good_cells octets) lock, length-good_cells octets)) in
      let same : sight ≡ at = is_at-at sight (all-true is_at sights all k sight here) in
      subst (IsSight (before ++ good_cells octets) (length before + k)) same
      (sights-each (good_cells octets) lock before k sight stands here)

  at-each : (octets : List ℕ) → ((k : ℕ) → k < length octets → IsAt (before ++ good_cells octets) (length before + k)) →
      list_all is_at (sights_on lock (good_cells octets)) ≡ true
  at-each octets each =
      let cells = good_cells octets in
      true-all is_at (sights_on lock cells)
      (λ k sight here.
      let inside : k < length octets =
      omega (
        arith,
        length-sights_on cells lock,
        length-good_cells octets,
        slice_get_within (sights_on lock cells) k sight here,
      ) in
      ap is_at (IsSight_only (before ++ cells) (length before + k) sight at
      (sights-each cells lock before k sight stands here) (each k inside)))

-- ---- a packet stands at the front of octets
cells-cut : (before rest : List ℕ) →
    (good_cells before ++ good_cells (take 16 rest)) ++ good_cells (drop 16 rest) ≡ good_cells (before ++ rest)
cells-cut before rest =
    ap (λ (cells : List (Option ℕ)). cells ++ good_cells (drop 16 rest)) (sym (good_cells-append before (take 16 rest)))
    ∙ sym (good_cells-append (before ++ take 16 rest) (drop 16 rest))
    ∙ ap good_cells (append_assoc before (take 16 rest) (drop 16 rest)
    ∙ ap (λ (l : List ℕ). before ++ l) (take-append-drop 16 rest))

head-take : (rest : List ℕ) → slice_index (take 16 rest) 0 ≡ slice_index rest 0
head-take [] = refl
head-take (x ∷ rest) = refl

here-index : (before rest : List ℕ) → slice_index (before ++ rest) (length before) ≡ slice_index rest 0
here-index before rest = ap (slice_index (before ++ rest))
    (let e : length before ≡ length before + 0 = omega arith in e) ∙ slice_index-append before rest 0

begins-packet : (before rest : List ℕ) → begins_packet (lock_on unlocked before) rest ≡ true →
    HasPacketAt (before ++ rest) (length before)
begins-packet before rest begins =
    let lock = lock_on unlocked before in
    let parts = and_parts (nat_le 16 (length rest)) (is_front lock (take 16 rest)) begins in
    let front = and_parts (slice_index (take 16 rest) 0 % 16 == 8)
    (list_all is_at (sights_on lock (good_cells (take 16 rest)))) parts.1 in
    let enough : 16 ≤ length rest = leb-true 16 (length rest) parts.0 in
    record {
      first = ap (λ o. o % 16) (here-index before rest ∙ sym (head-take rest))
          ∙ eqb-true (slice_index (take 16 rest) 0 % 16) 8 front.0;
      locked = λ k few.
          let here = each-at (good_cells before) lock (stands-of before) (take 16 rest) front.1 k
          (omega (arith, length-take 16 rest)) in
          subst (λ n. IsAt (good_cells (before ++ rest)) (n + k)) (length-good_cells before)
          (subst (λ cells. IsAt cells (length (good_cells before) + k)) (cells-cut before rest)
          (IsAt-append (good_cells before ++ good_cells (take 16 rest)) (good_cells (drop 16 rest))
          (length (good_cells before) + k) here));
    }

packet-begins : (before rest : List ℕ) → HasPacketAt (before ++ rest) (length before) →
    begins_packet (lock_on unlocked before) rest ≡ true
packet-begins before rest packet =
    let lock = lock_on unlocked before in
    let last = IsAt_inside (before ++ rest) (length before + 15) (packet.locked 15 (omega arith)) in
    let enough : 16 ≤ length rest = omega (arith, length-append before rest) in
    let first : slice_index (take 16 rest) 0 % 16 ≡ 8 = ap (λ o. o % 16) (head-take rest ∙ sym (here-index before rest))
    ∙ packet.first in
    let size = length-take 16 rest in
    let all = at-each (good_cells before) lock (stands-of before) (take 16 rest)
    (λ k few.
    IsAt_before (good_cells before ++ good_cells (take 16 rest)) (good_cells (drop 16 rest))
    (length (good_cells before) + k)
    (omega (arith, length-append (good_cells before) (good_cells (take 16 rest)), length-good_cells (take 16 rest)))
    (subst (λ cells. IsAt cells (length (good_cells before) + k)) (sym (cells-cut before rest))
    (subst (λ n. IsAt (good_cells (before ++ rest)) (n + k)) (sym (length-good_cells before))
    (packet.locked k (omega arith))))) in
    and_from (nat_le 16 (length rest)) (is_front lock (take 16 rest)) (le-leb 16 (length rest) enough)
    (and_from (slice_index (take 16 rest) 0 % 16 == 8) (list_all is_at (sights_on lock (good_cells (take 16 rest))))
    (eq-eqb (slice_index (take 16 rest) 0 % 16) 8 first) all)

-- ---- those that are computed are the packets of octets
lock_on-more : (before : List ℕ) (lock : LineLock) (h4 : ℕ) →
    lock_on lock (before ++ h4 ∷ []) ≡ lock_by (lock_on lock before) (Some h4)
unfolding lock_on
lock_on-more [] lock h4 = refl
lock_on-more (x ∷ before) lock h4 = lock_on-more before (lock_by lock (Some x)) h4

-- from a place on at which none stands
found-before : (octets : List ℕ) (from : ℕ) (found : List Found) → ¬ HasPacketAt octets from →
    AreFound octets (from + 1) found → AreFound octets from found
unfolding AreFound
found-before octets from [] none are = λ place low packet.
    elim (eq-or-lt_of_le low) [
      | inl same ↦ none (subst (HasPacketAt octets) (sym same) packet)
      | inr later ↦ are place (omega arith) packet
    ]
found-before octets from (one ∷ found) none (low, between, packet, read, more) = (
  omega arith,
  λ place after before here. elim (eq-or-lt_of_le after) [
    | inl same ↦ none (subst (HasPacketAt octets) (sym same) here)
    | inr later ↦ between place (omega arith) before here
  ],
  packet,
  read,
  more,
)

-- from a place on at which one stands
found-here : (octets : List ℕ) (from : ℕ) (found : List Found) → HasPacketAt octets from →
    AreFound octets (from + 1) found →
    AreFound octets from ((from, read_of (front_nibbles (drop from octets))) ∷ found)
unfolding AreFound
found-here octets from found packet are = (omega arith, λ place low high. absurd (omega arith), packet, refl, are)

worded : (rest before : List ℕ) →
    AreFound (before ++ rest) (length before) (packets_on (lock_on unlocked before) (length before) rest)
unfolding AreFound packets_on
worded [] before = λ place low packet.
    let inside = IsAt_inside (before ++ []) (place + 0) (packet.locked 0 (omega arith)) in
    omega (arith, length-append before [])
worded (h4 ∷ rest) before =
    let lock = lock_on unlocked before in
    let all = before ++ h4 ∷ rest in
    let later : List Found = packets_on (lock_by lock (Some h4)) (length before + 1) rest in
    let size : length (before ++ h4 ∷ []) ≡ length before + 1 = length-append before (h4 ∷ []) in
    let more : AreFound all (length before + 1) later =
    subst (λ l. AreFound all (length before + 1) (packets_on l (length before + 1) rest))
    (lock_on-more before unlocked h4)
    (subst (λ n. AreFound all n (packets_on (lock_on unlocked (before ++ h4 ∷ [])) n rest)) size
    (subst (λ l. AreFound l (length (before ++ h4 ∷ []))
    (packets_on (lock_on unlocked (before ++ h4 ∷ [])) (length (before ++ h4 ∷ [])) rest))
    (sym (append_one before h4 rest))
    (worded rest (before ++ h4 ∷ [])))) in
    elim (cases_Bool (begins_packet lock (h4 ∷ rest))) [
      | inl begins ↦
          let here : packet_here lock (length before) (h4 ∷ rest) ≡
          (length before, read_of (front_nibbles (drop (length before) all))) ∷ [] =
          rw begins (ap (λ (l : List ℕ). (length before, read_of (front_nibbles l)) ∷ [])
          (sym (drop-append_seam before (h4 ∷ rest)))) in
          subst (λ (l : List Found). AreFound all (length before) (l ++ later)) (sym here)
          (found-here all (length before) later (begins-packet before (h4 ∷ rest) begins) more)
      | inr other ↦
          let here : packet_here lock (length before) (h4 ∷ rest) ≡ [] = rw other refl in
          subst (λ (l : List Found). AreFound all (length before) (l ++ later)) (sym here)
          (found-before all (length before) later
          (λ packet. both_ways (begins_packet lock (h4 ∷ rest)) other (packet-begins before (h4 ∷ rest) packet))
          more)
    ]

pub are_worded : AreWorded
unfolding lock_on
are_worded octets = worded octets []

-- ---- no others are
found_only : (octets : List ℕ) (from : ℕ) (a b : List Found) → AreFound octets from a → AreFound octets from b → a ≡ b
unfolding AreFound
found_only octets from [] [] p q = refl
found_only octets from [] (one ∷ b) p q = absurd (p one.0 q.0 q.2)
found_only octets from (one ∷ a) [] p q = absurd (q one.0 p.0 p.2)
found_only octets from (one ∷ a) (other ∷ b) p q =
    elim (cases_order one.0 other.0) [
      | inl same ↦
          let read : one.1 ≡ other.1 = p.3 ∙ ap (λ n. read_of (front_nibbles (drop n octets))) same ∙ sym q.3 in
          let more = found_only octets (one.0 + 1) a b p.4 (subst (λ n. AreFound octets (n + 1) b) (sym same) q.4) in
          λ i. (same i, read i) ∷ more i
      | inr differ ↦ elim differ [
        | inl less ↦ absurd (q.1 one.0 p.0 less p.2)
        | inr more ↦ absurd (p.1 other.0 q.0 more q.2)
      ]
    ]

pub are_only : AreOnly
are_only octets found are = found_only octets 0 found (packets_in octets) are (are_worded octets)

-- ---- more octets
one_more : (octets : List ℕ) (o : ℕ) → (later : List Found) ×
    (packets_in (octets ++ o ∷ []) ≡ packets_in octets ++ later)
one_more octets o =
    elim (cases_Bool (is_at (sight_of (lock_on unlocked octets) o))) [
      | inl comes ↦ (_, (packets-grow octets unlocked 0 o comes).1)
      | inr out ↦ ([], (packets-out octets unlocked 0 o out).1 ∙ sym (append-nil (packets_in octets)))
    ]

pub packets_stay : PacketsStay
packets_stay octets [] = ([], ap packets_in (append-nil octets) ∙ sym (append-nil (packets_in octets)))
packets_stay octets (o ∷ more) =
    let first = one_more octets o in
    let rest = packets_stay (octets ++ o ∷ []) more in (
      first.0 ++ rest.0,
      ap packets_in (append_one octets o more) ∙ rest.1 ∙ ap (λ (l : List Found). l ++ rest.0) first.1
          ∙ append_assoc (packets_in octets) first.0 rest.0,
    )

-- ---- The text of a decoding is computed.
pub are_read : AreRead
unfolding decoded_text digits packets_on sights_on read_of crc8_of number_behind bits add_front divide encode_with
are_read = refl

pub is_refused : IsRefused
unfolding decoded_text digits packets_on sights_on read_of crc8_of number_behind bits add_front divide encode_with
is_refused = refl

-- ---- Texts of numbered parts grow part by part, and so does the line of a decision step.
-- a line more
pub places-next : (first middle now : TextCursor) (table : Table) (n : ℕ) → Extends first middle (place_texts table n)
    → Extends middle now (place_text (place_in table.order 0 n)) → Extends first now (place_texts table (n + 1))
places-next first middle now table n before behind =
    let text = λ (line : ℕ). place_text (place_in table.order 0 line) in
    let more = texts-more text n in
    record {
      text = behind.text ∙ ap (λ l. l ++ text n) before.text ∙ append_assoc (text_of first) (place_texts table n) (text n)
          ∙ ap (λ l. text_of first ++ l) (sym more);
      end = (let size = ap length more in omega
          (arith, behind.end, before.end, size, length-append (place_texts table n) (text n)));
      size = behind.size ∙ before.size;
      slice = behind.slice ∙ before.slice;
    }
