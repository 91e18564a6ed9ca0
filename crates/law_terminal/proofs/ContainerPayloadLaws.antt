-- The containers that the source makes: their H4 octets, their packets, and the payload that they are dealt.
use Rattle.std.proofs.Common.{◌≡◌, ℕ, zero, suc, ◌+◌, ◌-◌, ◌<◌, ◌∷◌, map, drop, slice_get, Some, refl, ◌∙◌, ap, arith}
use Rattle.std.proofs.Common.{◌*◌, ◌/◌, ◌%◌, ◌≤◌, ◌==◌, nat_lt, not, Bool, true, false, if◌then◌else◌, inl, inr, List}
use Rattle.std.proofs.Common.{[], filter, take, length, slice_index, slice_index_or, Option, option_map, sym, subst}
use Rattle.std.proofs.Common.{lit<, replicate, None, length-append, All}
use Rattle.std.specs.List.{range_with_len, list_any, position_from}
use Rattle.std.proofs.lemmas.List.FromFn.{length-map-range_with_len, get_or-map-range_with_len, fill_by_all}
use Rattle.std.proofs.lemmas.List.FromFn.{length-range_with_len, take-map-range_with_len}
use Rattle.std.proofs.lemmas.Bool.{cases_Bool, ltb-true, ltb-false, eq-eqb, ne_eqb, cases_lt}
use Rattle.std.proofs.lemmas.List.{length-map, drop-map, length-replicate, get_or_append_left, get_or_past}
use Rattle.std.proofs.lemmas.Option.{slice_get-map, slice_get_within}
use Rattle.law_model.proofs.ListLaws.{filter-few}
use Rattle.check_remainder.proofs.NumberAndOctetBitsLaws.{number_below}
use Rattle.law_model.specs.Common.{Container, IsPacket, packet_nibbles, Scenario, Told, is_normal, table_of, ctrl_by}
use Rattle.law_model.specs.Common.{place_in, telling_at, mst_by, sent_packet, HasPlace, AreSent, sent_nibbles}
use Rattle.law_model.specs.Common.{nibble_in, nibble_at, container_of, containers_of, is_norm, active, width, place_of}
use Rattle.law_model.specs.Common.{stream_before, part_of, payload_of, stream_of, forward_packet, telling, active_at}
use Rattle.law_model.specs.Common.{rank_of, payload_by, payload_on, most_lines}
use Rattle.law_model.specs.declared.lcas_states.Member.{Member}
use Rattle.law_model.proofs.PacketNibblesLaws.{length-packet_nibbles, packet_nibbles_below, halves}
use Rattle.law_session.proofs.SourceOrderAndPlanLaws.{order-length, one, times, one-self}
use Rattle.member_rows.proofs.RowPartAndLaneLaws.{length-part_of, get-part_of}
use Rattle.law_session.specs.Feedback.{lines_of}
use Rattle.law_session.specs.ReturnedCells.{AgreeBefore}
use Rattle.law_session.proofs.ReturnCellAndLineWordLaws.{Agree, Agree-sooner, Agree-first, after-agree}
use Rattle.law_session.proofs.ClientStreamAndReplayLaws.{SameTables, width-same, place_of-same, stream_before-agree}
use Rattle.law_row.specs.Received.{IsDealtRow}
use Rattle.law_row.proofs.ActivePacketsLaws.{carrying, once-after}
use Rattle.std.proofs.lemmas.List.Elements.{All-nil, All-cons, All-append, All-take, All-drop, All-replicate}
use Rattle.law_model.proofs.StreamOfPiecesLaws.{stream_of_below}

-- ---- Lists over runs of numbers.
pub range-at : (a n k : ℕ) → k < n → slice_get (range_with_len a n) k ≡ Some (a + k)
range-at a zero k low = absurd (omega arith)
range-at a (suc n) zero low = ap Some (let e : a ≡ a + 0 = omega arith in e)
range-at a (suc n) (suc k) low = range-at (a + 1) n k (omega arith)
    ∙ ap Some (let e : a + 1 + k ≡ a + suc k = omega arith in e)

pub drop-range : (a m n : ℕ) → drop m (range_with_len a n) ≡ range_with_len (a + m) (n - m)
drop-range a zero n = (let e : a ≡ a + 0 = omega arith in ap (λ b. range_with_len b n) e)
    ∙ (let e : n ≡ n - 0 = omega arith in ap (range_with_len (a + 0)) e)
drop-range a (suc m) zero = let e : 0 ≡ 0 - suc m = omega arith in ap (range_with_len (a + suc m)) e
drop-range a (suc m) (suc n) =
    drop-range (a + 1) m n
    ∙ (let e : a + 1 + m ≡ a + suc m = omega arith in ap (λ b. range_with_len b (n - m)) e)
    ∙ (let e : n - m ≡ suc n - suc m = omega arith in ap (range_with_len (a + suc m)) e)

pub map-part : {X Y : Type 0} (f : ℕ → Y) (g : Y → X) (h : ℕ → X) (a b n : ℕ) →
    ((i : ℕ) → i < n → g (f (a + i)) ≡ h (b + i)) →
    map g (map f (range_with_len a n)) ≡ map h (range_with_len b n)
map-part f g h a b zero same = refl
map-part f g h a b (suc n) same =
    let here : g (f a) ≡ h b = (let e : a ≡ a + 0 = omega arith in ap (λ i. g (f i)) e) ∙ same 0 (omega arith)
    ∙ (let e : b + 0 ≡ b = omega arith in ap h e) in
    ap (λ x. x ∷ map g (map f (range_with_len (a + 1) n))) here
    ∙ ap (λ l. h b ∷ l) (map-part f g h (a + 1) (b + 1) n (λ i low.
    (let e : a + 1 + i ≡ a + suc i = omega arith in ap (λ i. g (f i)) e) ∙ same (suc i) (omega arith)
    ∙ (let e : b + suc i ≡ b + 1 + i = omega arith in ap h e)))

pub same-range : {X : Type 0} (f g : ℕ → X) (n : ℕ) → ((k : ℕ) → k < n → f k ≡ g k) →
    map f (range_with_len 0 n) ≡ map g (range_with_len 0 n)
same-range f g n same =
    fill_by_all g (map f (range_with_len 0 n)) n (f 0) (length-map-range_with_len f 0 n)
    (λ k low. get_or-map-range_with_len f 0 n k k (f 0) low (omega arith) ∙ same k low)

-- ---- The containers that the source makes: their H4 octets say their numbers and its packets.
-- ---- a packet that goes forward is one of octets
place-sq : (order : List Member) (sq line : ℕ) → sq + length order ≤ 256 → (place_in order sq line).sq < 256
unfolding place_in
place-sq [] sq line fits = lit< tt
place-sq (member ∷ order) sq line fits =
    let rest = place-sq order (sq + 1) line (omega arith) in
    elim (member.line == line) as (λ b.
    (if b then record { ctrl = ctrl_by member.standing (list_any is_normal order); sq = sq } else place_in order
    (sq + 1) line).sq < 256) [
      | true ↦ omega arith
      | false ↦ rest
    ]

mst-below : (oks : List Bool) → mst_by oks < 256
mst-below oks = number_below (map (λ place. not (slice_index_or oks place true)) (range_with_len 0 8))

pub sent-packet : (scenario : Scenario) (returns : List (Option Told)) (line k : ℕ) → length scenario.windows ≤ most_lines →
    IsPacket (sent_packet scenario returns line k)
sent-packet scenario returns line k limit =
    let order = (table_of scenario returns k).order in
    let most = order-length scenario returns (suc k) in
    let least = filter-few is_normal order in
    let count = length-map (filter is_normal order) (λ (member : Member). member.line) in
    record {
      mst = mst-below (telling_at scenario k).oks;
      sq = place-sq order 0 line (omega arith);
      mfi2 = omega arith;
      act = omega arith;
    }

-- ---- the place of a container
module _ (scenario : Scenario) (returns : List (Option Told)) (limit : length scenario.windows ≤ most_lines) (line : ℕ) where
  nibble-small : (k place : ℕ) → place < 16 → nibble_in scenario returns line k place < 16
  nibble-small k place low =
      packet_nibbles_below (sent_packet scenario returns line k)
      (sent-packet scenario returns line k limit) place 0 low

  nibble-below : (t : ℕ) → nibble_at scenario returns line t < 16
  nibble-below t =
      elim (cases_Bool (nat_lt t 8)) [
        | inl early ↦ rw early (lit< tt)
        | inr late ↦ rw late (nibble-small ((t - 8) / 16) ((t - 8) % 16) (omega arith))
      ]

  -- MFI2 of packet k stands in its nibbles 8 and 9
  upper-half : (t : ℕ) → t % 16 ≡ 0 → nibble_at scenario returns line t ≡ t / 256 % 16
  upper-half t first =
      elim (cases_Bool (nat_lt t 8)) [
        | inl early ↦ let low = ltb-true t 8 early in rw early (omega arith)
        | inr late ↦
            let high = ltb-false t 8 late in
            let place : (t - 8) % 16 ≡ 8 = omega arith in
            rw (late, place) (let e : ((t - 8) / 16 + 1) % 256 / 16 ≡ t / 256 % 16 = omega arith in e)
      ]

  lower-half : (t : ℕ) → t % 16 ≡ 1 → nibble_at scenario returns line t ≡ t / 16 % 16
  lower-half t second =
      elim (cases_Bool (nat_lt t 8)) [
        | inl early ↦ let low = ltb-true t 8 early in rw early (omega arith)
        | inr late ↦
            let high = ltb-false t 8 late in
            let place : (t - 8) % 16 ≡ 9 = omega arith in
            rw (late, place) (let e : ((t - 8) / 16 + 1) % 256 % 16 ≡ t / 16 % 16 = omega arith in e)
      ]

  place-of : (t : ℕ) → HasPlace t (container_of scenario returns line t).h4
  place-of t =
      let nibble : ℕ = nibble_at scenario returns line t in
      let below = nibble-below t in
      let parts = halves (16 * nibble + t % 16) nibble (t % 16) (omega arith) refl in
      record {
        small = omega arith;
        mfi1 = parts.1;
        upper = λ first. parts.0 ∙ upper-half t first;
        lower = λ second. parts.0 ∙ lower-half t second;
      }

-- ---- the list of them
pub container-at : (scenario : Scenario) (returns : List (Option Told)) (line frames t : ℕ) → t < frames →
    slice_get (containers_of scenario returns line frames) t ≡ Some (container_of scenario returns line t)
container-at scenario returns line frames t low =
    slice_get-map (container_of scenario returns line) (range_with_len 0 frames) t
    ∙ ap (option_map (container_of scenario returns line))
    (range-at 0 frames t low ∙ ap Some (let e : 0 + t ≡ t = omega arith in e))

pub containers-size : (scenario : Scenario) (returns : List (Option Told)) (line frames : ℕ) →
    length (containers_of scenario returns line frames) ≡ frames
containers-size scenario returns line frames = length-map (range_with_len 0 frames) (container_of scenario returns line)
    ∙ length-range_with_len 0 frames

pub are-sent : (scenario : Scenario) (returns : List (Option Told)) (line frames : ℕ) → length scenario.windows ≤ most_lines →
    AreSent (containers_of scenario returns line frames)
are-sent scenario returns line frames limit n container here =
    let size = containers-size scenario returns line frames in
    let inside = slice_get_within (containers_of scenario returns line frames) n container here in
    let there = container-at scenario returns line frames n (omega arith) in
    let same : container_of scenario returns line n ≡ container = cc in
    subst (λ (c : Container). HasPlace n c.h4) same (place-of scenario returns limit line n)

-- ---- the nibbles of a packet
-- a part of the containers
containers-part : (scenario : Scenario) (returns : List (Option Told)) (line frames from count : ℕ) →
    from + count ≤ frames →
    take count (drop from (containers_of scenario returns line frames)) ≡ map (container_of scenario returns line)
    (range_with_len from count)
containers-part scenario returns line frames from count fits =
    let f = container_of scenario returns line in
    let e : 0 + from ≡ from = omega arith in
    ap (take count) (drop-map f from (range_with_len 0 frames)
    ∙ ap (map f) (drop-range 0 from frames ∙ ap (λ b. range_with_len b (frames - from)) e))
    ∙ take-map-range_with_len f from (frames - from) count (omega arith)

pub packet-nibbles : (scenario : Scenario) (returns : List (Option Told)) (line frames k : ℕ) →
    length scenario.windows ≤ most_lines → 16 * k + 23 < frames →
    sent_nibbles (containers_of scenario returns line frames) k ≡ packet_nibbles
    (sent_packet scenario returns line k)
packet-nibbles scenario returns line frames k limit inside =
    let nibbles : List ℕ = packet_nibbles (sent_packet scenario returns line k) in
    ap (map (λ container. container.h4 / 16))
    (containers-part scenario returns line frames (16 * k + 8) 16 (omega arith))
    ∙ map-part (container_of scenario returns line) (λ container. container.h4 / 16) (slice_index nibbles)
    (16 * k + 8) 0 16 (λ i low. each i low)
    ∙ sym (fill_by_all (slice_index nibbles) nibbles 16 0
    (length-packet_nibbles (sent_packet scenario returns line k)) (λ i low. refl))
  where
    each : (i : ℕ) → i < 16 → (container_of scenario returns line (16 * k + 8 + i)).h4 / 16 ≡ slice_index
        (packet_nibbles (sent_packet scenario returns line k)) (0 + i)
    each i low =
        let t : ℕ = 16 * k + 8 + i in
        let nibble : ℕ = nibble_at scenario returns line t in
        let parts = halves (16 * nibble + t % 16) nibble (t % 16) (omega arith) refl in
        let late : nat_lt t 8 ≡ false = grind (arith, (let e : 8 ≤ t = omega arith in e)) in
        let number : (t - 8) / 16 ≡ k = omega arith in
        let place : (t - 8) % 16 ≡ i = omega arith in
        let own : i ≡ 0 + i = omega arith in
        parts.0
        ∙ ap (λ b. if b then 0 else nibble_in scenario returns line ((t - 8) / 16) ((t - 8) % 16)) late
        ∙ ap (λ k. nibble_in scenario returns line k ((t - 8) % 16)) number
        ∙ ap (nibble_in scenario returns line k) (place ∙ own)

-- ---- What the containers of a frame carry of the client's stream, and which return cells they depend on.
-- ---- the length of a payload
by-length : (rank : Option ℕ) (x size : ℕ) (row : List ℕ) → size ≤ 2340 → length (payload_by rank x size row) ≡ 2340
by-length None x size row fits = length-replicate {A = ℕ} 2340 0
by-length (Some rank) x size row fits =
    let zeros : length (replicate {A = ℕ} (2340 - size) 0) ≡ 2340 - size = length-replicate {A = ℕ} (2340 - size) 0 in
    let part : length (part_of rank x size row) ≡ size = length-part_of rank x size row in
    length-append (part_of rank x size row) (replicate {A = ℕ} (2340 - size) 0)
    ∙ (let e : length (part_of rank x size row) + length (replicate {A = ℕ} (2340 - size) 0) ≡ 2340 =
    omega arith in e)

pub payload-size : (scenario : Scenario) (returns : List (Option Told)) (line t : ℕ) → scenario.size ≤ 2340 →
    length (container_of scenario returns line t).payload ≡ 2340
payload-size scenario returns line t fits =
    by-length (rank_of (active_at scenario returns t) line) (length (active_at scenario returns t)) scenario.size
    (payload_of scenario returns t) fits

-- ---- the rank of a line
-- a line that stands once has the rank of its place
rank-from : (lines : List ℕ) (from r line : ℕ) → ((l : ℕ) → times lines l ≤ 1) → slice_get lines r ≡ Some line →
    position_from (λ other. other == line) from lines ≡ Some (from + r)
rank-from [] from r line once here = absurd cc
rank-from (x ∷ lines) from zero line once here =
    let same : x ≡ line = cc in
    rw (eq-eqb x line same) (ap Some (let e : from ≡ from + 0 = omega arith in e))
rank-from (x ∷ lines) from (suc r) line once here =
    let there = times-there lines r line here in
    let most = once line in
    let other : (x == line) ≡ false =
    ne_eqb x line (λ same.
    let first : one x line ≡ 1 = ap (λ l. one l line) same ∙ one-self line in omega arith) in
    rw other (rank-from lines (from + 1) r line (λ l. let all = once l in omega arith) here
    ∙ ap Some (let e : from + 1 + r ≡ from + suc r = omega arith in e))
  where
    times-there : (lines : List ℕ) (r line : ℕ) → slice_get lines r ≡ Some line → 1 ≤ times lines line
    times-there [] r line here = absurd cc
    times-there (x ∷ lines) zero line here =
        let same : x ≡ line = cc in
        let first : one x line ≡ 1 = ap (λ l. one l line) same ∙ one-self line in omega arith
    times-there (x ∷ lines) (suc r) line here = let rest = times-there lines r line here in omega arith

carrying-once : (order : List Member) (l : ℕ) → times (carrying order) l ≤ times (lines_of order) l
carrying-once [] l = omega arith
carrying-once (member ∷ order) l =
    let rest = carrying-once order l in
    elim (is_norm member.standing) as (λ b. times
    (map (λ m. m.line) (if b then member ∷ filter is_normal order else filter is_normal order)) l ≤ one member.line
    l + times (lines_of order) l) [
      | true ↦ omega arith
      | false ↦ omega arith
    ]

active-once : (scenario : Scenario) (returns : List (Option Told)) (k l : ℕ) →
    times (active (table_of scenario returns k)) l ≤ 1
active-once scenario returns k l =
    let least = carrying-once (table_of scenario returns k).order l in
    let most = once-after scenario returns k l in
    omega arith

-- ---- the lines that carry payload are dealt its octets
dealt-part : (rank : ℕ) (x size p : ℕ) (row : List ℕ) → p < size →
    slice_index (payload_by (Some rank) x size row) p ≡ slice_index row (p * x + rank)
dealt-part rank x size p row low =
    let part = length-part_of rank x size row in
    get_or_append_left (part_of rank x size row) (replicate (2340 - size) 0) 0 p (omega arith)
    ∙ get-part_of rank x size row p low

pub dealt-row : (scenario : Scenario) (returns : List (Option Told)) (t : ℕ) →
    IsDealtRow scenario returns (λ line. container_of scenario returns line t) t
dealt-row scenario returns t late r p container here low =
    let k : ℕ = (t - 24) / 16 in
    let lines : List ℕ = active (table_of scenario returns k) in
    let row : List ℕ = payload_of scenario returns t in
    let sent : ℕ → Container = λ line. container_of scenario returns line t in
    let open_ : nat_lt t 24 ≡ false = grind (arith, late) in
    let (line, own, same) = from-map lines r container sent here in
    let rank : rank_of lines line ≡ Some r = rank-from lines 0 r line (active-once scenario returns k) own
    ∙ ap Some (let e : 0 + r ≡ r = omega arith in e) in
    let count : length (map sent lines) ≡ length lines = length-map lines sent in
    ap (λ (c : Container). slice_index c.payload p) (sym same)
    ∙ ap (λ b. slice_index (payload_on (if b then [] else lines) line scenario.size row) p) open_
    ∙ ap (λ rank. slice_index (payload_by rank (length lines) scenario.size row) p) rank
    ∙ dealt-part r (length lines) scenario.size p row low
    ∙ ap (λ x. slice_index row (p * x + r)) (sym count)
  where
    from-map : (lines : List ℕ) (r : ℕ) (container : Container) (sent : ℕ → Container) →
        slice_get (map sent lines) r ≡ Some container →
        (line : ℕ) × (slice_get lines r ≡ Some line) × (sent line ≡ container)
    from-map [] r container sent here = absurd cc
    from-map (x ∷ lines) zero container sent here = (x, refl, cc)
    from-map (x ∷ lines) (suc r) container sent here = from-map lines r container sent here

-- ---- the return cells that a container depends on
module _ (scenario : Scenario) (a b : List (Option Told)) where
  active-same : (t : ℕ) → Agree scenario a b ((t + 8) / 16) → active_at scenario a t ≡ active_at scenario b t
  active-same t agree =
      elim (cases_Bool (nat_lt t 24)) [
        | inl early ↦ rw early refl
        | inr late ↦
            let high = ltb-false t 24 late in
            let same = after-agree scenario a b (suc ((t - 24) / 16))
            (Agree-sooner scenario a b (suc ((t - 24) / 16)) ((t + 8) / 16) (omega arith) agree) in
            ap (λ source. if nat_lt t 24 then [] else active source.table) same
      ]

  tables-same : (j : ℕ) → Agree scenario a b j → SameTables scenario a scenario b j
  tables-same j agree = record {
    size = refl;
    tables =
        λ i low. after-agree scenario a b i (Agree-sooner scenario a b i j low agree);
  }

  payload-same : (t : ℕ) → Agree scenario a b ((t + 8) / 16) → payload_of scenario a t ≡ payload_of scenario b t
  payload-same t agree =
      let sooner = Agree-sooner scenario a b ((t - 8) / 16) ((t + 8) / 16) (omega arith) agree in
      let wide = width-same scenario a scenario b t (tables-same ((t - 8) / 16) sooner) in
      let place = place_of-same scenario a scenario b t (tables-same ((t - 8) / 16) sooner) in
      let stream = stream_before-agree scenario a b (suc t)
      (Agree-sooner scenario a b ((suc t - 8) / 16) ((t + 8) / 16) (omega arith) agree) in
      ap (λ n. take (scenario.size * n)
      (drop (place_of scenario a t) (stream_of (stream_before scenario a (suc t)).pieces))) wide
      ∙ ap (λ n. take (scenario.size * width scenario b t)
      (drop n (stream_of (stream_before scenario a (suc t)).pieces))) place
      ∙ ap (λ s. take (scenario.size * width scenario b t) (drop (place_of scenario b t) (stream_of s.pieces))) stream

  nibble-same : (line t : ℕ) → Agree scenario a b ((t + 8) / 16) →
      nibble_at scenario a line t ≡ nibble_at scenario b line t
  nibble-same line t agree =
      elim (cases_Bool (nat_lt t 8)) [
        | inl early ↦ rw early refl
        | inr late ↦
            let high = ltb-false t 8 late in
            let k : ℕ = (t - 8) / 16 in
            let same = after-agree scenario a b (suc k)
            (Agree-sooner scenario a b (suc k) ((t + 8) / 16) (omega arith) agree) in
            ap (λ source. if nat_lt t 8 then 0 else slice_index
            (packet_nibbles (telling (telling_at scenario k) (forward_packet source.table line k))) ((t - 8) % 16)) same
      ]

  container-agree : (line t : ℕ) → Agree scenario a b ((t + 8) / 16) →
      container_of scenario a line t ≡ container_of scenario b line t
  container-agree line t agree =
      let nibble = nibble-same line t agree in
      let lines = active-same t agree in
      let row = payload-same t agree in
      ap (λ n.
      let c : Container =
      record { h4 = 16 * n + t % 16; payload = (container_of scenario a line t).payload } in c) nibble
      ∙ ap (λ l.
      let c : Container = record {
        h4 = (container_of scenario b line t).h4;
        payload = payload_on l line scenario.size (payload_of scenario a t);
      } in c) lines
      ∙ ap (λ r.
      let c : Container = record {
        h4 = (container_of scenario b line t).h4;
        payload = payload_on (active_at scenario b t) line scenario.size r;
      } in c) row

pub container-same : (scenario : Scenario) (a b : List (Option Told)) (line t : ℕ) →
    AgreeBefore ((t + 8) / 16 - scenario.lag) a b →
    container_of scenario a line t ≡ container_of scenario b line t
container-same scenario a b line t same =
    container-agree scenario a b line t (Agree-first scenario a b ((t + 8) / 16) same)

-- ---- The octets of a payload are octets.
abbrev AreOctets : List ℕ → Type 0
AreOctets octets = All (λ o. o < 256) octets

-- ---- what a member carries of it
octet-below : (octets : List ℕ) (i : ℕ) → AreOctets octets → slice_index octets i < 256
octet-below octets i below = elim (cases_lt i (length octets)) [
  | inl inside ↦ below i 0 inside
  | inr beyond ↦ rw (get_or_past octets i 0 beyond) (lit< tt)
]

part-below : (rank x places : ℕ) (row : List ℕ) → AreOctets row → AreOctets (part_of rank x places row)
unfolding part_of
part-below rank x zero row below = All-nil (λ o. o < 256)
part-below rank x (suc places) row below =
    All-cons (λ o. o < 256) (slice_index row rank) (part_of rank x places (drop x row)) (octet-below row rank below)
    (part-below rank x places (drop x row) (All-drop (λ o. o < 256) x row below))

by-below : (rank : Option ℕ) (x size : ℕ) (row : List ℕ) → AreOctets row → AreOctets (payload_by rank x size row)
by-below None x size row below = All-replicate (λ o. o < 256) 2340 0 (lit< tt)
by-below (Some rank) x size row below =
    All-append (λ o. o < 256) (part_of rank x size row) (replicate (2340 - size) 0) (part-below rank x size row below)
    (All-replicate (λ o. o < 256) (2340 - size) 0 (lit< tt))

pub payload-octets : (scenario : Scenario) (returns : List (Option Told)) (line t : ℕ) →
    All (λ o. o < 256) (container_of scenario returns line t).payload
payload-octets scenario returns line t =
    let octets : List ℕ = stream_of (stream_before scenario returns (suc t)).pieces in
    by-below (rank_of (active_at scenario returns t) line) (length (active_at scenario returns t)) scenario.size
    (payload_of scenario returns t)
    (All-take (λ o. o < 256) (scenario.size * width scenario returns t) (drop (place_of scenario returns t) octets)
    (All-drop (λ o. o < 256) (place_of scenario returns t) octets
    (stream_of_below (stream_before scenario returns (suc t)).pieces)))
