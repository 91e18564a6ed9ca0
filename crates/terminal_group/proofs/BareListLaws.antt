-- Items without octets, with streams among them: how many there are, and what stands at a number.
use Rattle.std.proofs.Common.{◌≡◌, ℕ, zero, suc, ◌+◌, ◌-◌, ◌<◌, ◌≤◌, List, [], ◌∷◌, map, length, slice_get, Some, None}
use Rattle.std.proofs.Common.{◌⊎◌, ◌++◌, take, drop, option_map, refl, sym, ◌∙◌, ap, subst, arith, inl, inr, true, false, All, get_or}
use Rattle.std.proofs.lemmas.Bool.{cases_lt, lt-ltb, le-ltb}
use Rattle.std.proofs.lemmas.Option.{slice_get_within, slice_get-map}
use Rattle.std.proofs.lemmas.List.{map-append, take-map, drop-map, length-map, take-append-drop}
use Rattle.std.proofs.lemmas.List.Elements.{All-append}
use Rattle.std.proofs.lemmas.Simd.{map-map}
use Rattle.law_rates.specs.Rates.{RateFrame, IsRate, count_of, frame_at, frames}
use Rattle.law_rates.specs.declared.rate_frames.Rate.{Rate}
use Rattle.law_model.specs.declared.script_types.Item.{Item}
use Rattle.law_model.specs.declared.script_items.item_list.ItemHead.{ItemHead}
use Rattle.law_model.specs.declared.script_items.streams.Stream.{Stream}
use Rattle.law_model.specs.Common.{most_items, longest_offer}
use Rattle.law_model.specs.declared.script_types.ItemKind.{ItemKind}
use Rattle.law_model.specs.declared.script_types.ItemKind.TheVariants.{Frame, Add, Remove}
use Rattle.law_model.specs.session.ValidScript.{IsItem, IsKind}
use Rattle.law_model.specs.session.Items.{IsShort, octets_in_kind, stream_item}
use Rattle.law_model.specs.session.Streams.{AreStreams, FitStreams, mixed_from, streamed_in, streamed_before, stream_at, behind_of}
use Rattle.law_model.proofs.StreamPlacesLaws.{length-mixed, get_single, get_streamed, stream_facts, behind_least}
use Rattle.law_model.proofs.ListLaws.{slice_get-inside, at-range, All-front, All-after}
use Rattle.terminal_group.specs.BareList.{bare_frame, bare_mixed, AreBare}
use Rattle.terminal_group.specs.Item.{bare, bare_items, item_in}
use Rattle.terminal_group.specs.ItemPlaces.{is_frame, is_command}

-- ---- how many there are
pub bare_length : (singles : List Item) (streams : List Stream) → AreBare singles streams →
    length (bare_mixed singles streams) ≡ length singles + streamed_in streams
bare_length singles streams are = length-mixed bare_frame streams 0 0 singles are.apart are.fit

-- ---- a single item
pub single_there : (singles : List Item) (streams : List Stream) (number index : ℕ) → AreBare singles streams →
    stream_at streams number ≡ None → index + streamed_before streams number ≡ number →
    slice_get (bare_mixed singles streams) number ≡ slice_get singles index
single_there singles streams number index are none at =
    let own : number ≡ number - 0 = omega arith in
    let e : number - 0 - streamed_before streams number ≡ index = omega (arith, at) in
    ap (slice_get (bare_mixed singles streams)) own
    ∙ get_single bare_frame streams 0 0 singles number are.apart are.fit none (omega arith)
    ∙ ap (slice_get singles) e

pub single_within : (singles : List Item) (streams : List Stream) (number index : ℕ) → AreBare singles streams →
    stream_at streams number ≡ None → index + streamed_before streams number ≡ number →
    number < length (bare_mixed singles streams) → index < length singles
single_within singles streams number index are none at inside =
    let (item, there) = slice_get-inside (bare_mixed singles streams) number inside in
    slice_get_within singles index item (sym (single_there singles streams number index are none at) ∙ there)

-- ---- a frame of a stream
-- where a number stands, by the first of some streams
first_of : (stream : Stream) (streams : List Stream) (number : ℕ) (s : Stream) →
    stream_at (stream ∷ streams) number ≡ Some s → stream.first ≤ stream.behind →
    ((stream ≡ s) × (stream.first ≤ number) × (number < stream.behind))
    ⊎ ((stream.behind ≤ number) × (stream_at streams number ≡ Some s))
unfolding stream_at
first_of stream streams number s is order =
    elim (cases_lt number stream.first) [
      | inl low ↦ absurd (let e : None ≡ Some s = rw (lt-ltb number stream.first low) at is in cc)
      | inr high ↦ elim (cases_lt number stream.behind) [
        | inl low ↦
            let e : Some stream ≡ Some s =
            rw (le-ltb number stream.first high, lt-ltb number stream.behind low) at is in
            inl (cc, high, low)
        | inr past ↦
            let e : stream_at streams number ≡ Some s =
            rw (le-ltb number stream.first high, le-ltb number stream.behind past) at is in
            inr (past, e)
      ]
    ]

-- no stream ends behind the last
behind_few : (streams : List Stream) (from before number : ℕ) (s : Stream) → AreStreams from before streams →
    stream_at streams number ≡ Some s → s.behind ≤ behind_of from streams
unfolding AreStreams stream_at behind_of
behind_few [] from before number s are is = absurd cc
behind_few (stream ∷ streams) from before number s are is =
    let ends = are.0.behind in
    elim (first_of stream streams number s is (omega (arith, ends))) [
      | inl here ↦
          let e = ap (λ (t : Stream). t.behind) here.0 in
          let least = behind_least streams stream.behind (before + count_of stream.rate) are.1 in
          omega (arith, e, least)
      | inr past ↦ behind_few streams stream.behind (before + count_of stream.rate) number s are.1 past.1
    ]

-- the streams behind a number have no item below it
none_below : (streams : List Stream) (from before number : ℕ) (s : Stream) → AreStreams from before streams →
    stream_at streams number ≡ Some s → from ≤ s.first
unfolding AreStreams stream_at
none_below [] from before number s are is = absurd cc
none_below (stream ∷ streams) from before number s are is =
    let ends = are.0.behind in
    let first = are.0.first in
    elim (first_of stream streams number s is (omega (arith, ends))) [
      | inl here ↦ let e = ap (λ (t : Stream). t.first) here.0 in omega (arith, e, first)
      | inr past ↦
          let rest = none_below streams stream.behind (before + count_of stream.rate) number s are.1 past.1 in
          omega (arith, rest, ends, first)
    ]

-- a stream has all numbers from its first to below its end
same_stream : (streams : List Stream) (from before number k : ℕ) (s : Stream) → AreStreams from before streams →
    stream_at streams number ≡ Some s → s.first ≤ k → k < s.behind → stream_at streams k ≡ Some s
unfolding AreStreams stream_at
same_stream [] from before number k s are is first low = absurd cc
same_stream (stream ∷ streams) from before number k s are is first low =
    let ends = are.0.behind in
    elim (first_of stream streams number s is (omega (arith, ends))) [
      | inl here ↦
          let a = ap (λ (t : Stream). t.first) here.0 in
          let b = ap (λ (t : Stream). t.behind) here.0 in
          rw (le-ltb k stream.first (omega (arith, a, first)), lt-ltb k stream.behind (omega (arith, b, low)))
          (ap Some here.0)
      | inr past ↦
          let below = none_below streams stream.behind (before + count_of stream.rate) number s are.1 past.1 in
          let over : stream.behind ≤ k = omega (arith, below, first) in
          rw (le-ltb k stream.first (omega (arith, over, ends)), le-ltb k stream.behind over)
          (same_stream streams stream.behind (before + count_of stream.rate) number k s are.1 past.1 first low)
    ]

-- what is known of the stream that has a number
pub record IsIn (singles : List Item) (streams : List Stream) (number : ℕ) (s : Stream) : Type 0 where
  pub rate : IsRate s.rate
  pub first : s.first ≤ number
  pub behind : number < s.behind
  pub count : s.behind ≡ s.first + count_of s.rate
  pub within : s.behind ≤ length (bare_mixed singles streams)
  pub items : (k : ℕ) → s.first ≤ k → k < s.behind →
      slice_get (bare_mixed singles streams) k ≡ slice_get (map bare_frame (frames s.rate)) (k - s.first)

pub streamed_there : (singles : List Item) (streams : List Stream) (number : ℕ) (s : Stream) →
    AreBare singles streams → stream_at streams number ≡ Some s → IsIn singles streams number s
streamed_there singles streams number s are is =
    let facts = stream_facts streams 0 0 number s are.apart is in
    let few = behind_few streams 0 0 number s are.apart is in
    let long = bare_length singles streams are in
    let fit = are.fit in
    record {
      rate = facts.3;
      first = facts.0;
      behind = facts.1;
      count = facts.2;
      within = omega (arith, few, long, fit);
      items = λ k first low.
          ap (slice_get (bare_mixed singles streams)) (let e : k ≡ k - 0 = omega arith in e)
          ∙ get_streamed bare_frame streams 0 0 singles k s are.apart fit
          (same_stream streams 0 0 number k s are.apart is first low) (omega arith);
    }

-- each is a frame, and no command
all_frames : (frames : List RateFrame) (k : ℕ) (item : Item) → slice_get (map bare_frame frames) k ≡ Some item →
    is_frame item.kind ≡ true
all_frames [] k item there = absurd cc
all_frames (frame ∷ frames) zero item there =
    let e : bare_frame frame ≡ item = cc in ap (λ (i : Item). is_frame i.kind) (sym e)
all_frames (frame ∷ frames) (suc k) item there = all_frames frames k item there

no_command : (frames : List RateFrame) (k : ℕ) (item : Item) → slice_get (map bare_frame frames) k ≡ Some item →
    is_command item.kind ≡ false
no_command [] k item there = absurd cc
no_command (frame ∷ frames) zero item there =
    let e : bare_frame frame ≡ item = cc in ap (λ (i : Item). is_command i.kind) (sym e)
no_command (frame ∷ frames) (suc k) item there = no_command frames k item there

pub frame_there : (singles : List Item) (streams : List Stream) (number k : ℕ) (s : Stream) (item : Item) →
    AreBare singles streams → stream_at streams number ≡ Some s → s.first ≤ k → k < s.behind →
    slice_get (bare_mixed singles streams) k ≡ Some item → (is_frame item.kind ≡ true) × (is_command item.kind ≡ false)
frame_there singles streams number k s item are is first low there =
    let facts = streamed_there singles streams number s are is in
    let found = sym (facts.items k first low) ∙ there in
    (all_frames (frames s.rate) (k - s.first) item found, no_command (frames s.rate) (k - s.first) item found)

-- and is what the rate says
frame_in : (rate : Rate) (k : ℕ) → k < count_of rate → slice_get (frames rate) k ≡ Some (frame_at rate k)
unfolding frames
frame_in rate k low = at-range (frame_at rate) (count_of rate) k low

pub stream_told : (singles : List Item) (streams : List Stream) (now : List Item) (number : ℕ) (s : Stream) →
    AreBare singles streams → bare_mixed singles streams ≡ now → stream_at streams number ≡ Some s →
    slice_get now number ≡ Some (bare_frame (frame_at s.rate (number - s.first)))
stream_told singles streams now number s are view is =
    let facts = streamed_there singles streams number s are is in
    let first = facts.first in
    let behind = facts.behind in
    let count = facts.count in
    ap (λ (l : List Item). slice_get l number) (sym view)
    ∙ facts.items number first behind
    ∙ slice_get-map bare_frame (frames s.rate) (number - s.first)
    ∙ ap (option_map bare_frame) (frame_in s.rate (number - s.first) (omega (arith, first, behind, count)))

-- ---- the items of a script without octets
bare_frames : (frames : List RateFrame) → map bare (map stream_item frames) ≡ map bare_frame frames
bare_frames frames = map-map bare stream_item frames

pub mixed_bare : (streams : List Stream) (from : ℕ) (singles : List Item) →
    map bare (mixed_from stream_item from singles streams) ≡ mixed_from bare_frame from (map bare singles) streams
unfolding mixed_from
mixed_bare [] from singles = refl
mixed_bare (stream ∷ streams) from singles =
    let gap = stream.first - from in
    let front : List Item = take gap singles in
    let drawn : List Item = map stream_item (frames stream.rate) in
    let behind : List Item = mixed_from stream_item stream.behind (drop gap singles) streams in
    let others : List Item = mixed_from bare_frame stream.behind (map bare (drop gap singles)) streams in
    let rest = mixed_bare streams stream.behind (drop gap singles) in
    map-append bare front (drawn ++ behind)
    ∙ ap (λ (l : List Item). l ++ map bare (drawn ++ behind)) (sym (take-map bare gap singles))
    ∙ ap (λ (l : List Item). take gap (map bare singles) ++ l) (map-append bare drawn behind)
    ∙ ap (λ (l : List Item). take gap (map bare singles) ++ (l ++ map bare behind)) (bare_frames (frames stream.rate))
    ∙ ap (λ (l : List Item). take gap (map bare singles) ++ (map bare_frame (frames stream.rate) ++ l)) rest
    ∙ ap (λ (l : List Item). take gap (map bare singles)
    ++ (map bare_frame (frames stream.rate) ++ mixed_from bare_frame stream.behind l streams))
    (sym (drop-map bare gap singles))

pub copied : (items singles copy : List Item) (streams among : List Stream) →
    items ≡ mixed_from stream_item 0 singles streams → copy ≡ bare_items singles → among ≡ streams →
    bare_mixed copy among ≡ bare_items items
copied items singles copy streams among is bare_is same =
    ap (λ (l : List Item). bare_mixed l among) bare_is
    ∙ ap (λ (l : List Stream). bare_mixed (bare_items singles) l) same
    ∙ sym (mixed_bare streams 0 singles) ∙ ap bare_items (sym is)

pub copied_are : (items singles copy : List Item) (streams among : List Stream) →
    items ≡ mixed_from stream_item 0 singles streams → copy ≡ bare_items singles → among ≡ streams →
    AreStreams 0 0 streams → FitStreams 0 (length singles) streams → length items ≤ most_items →
    AreBare copy among
copied_are items singles copy streams among is bare_is same apart fit few =
    let all = ap length is ∙ length-mixed stream_item streams 0 0 singles apart fit in
    let long = ap length bare_is ∙ length-map singles bare in
    let of_streams : AreBare copy streams = record {
      apart = apart;
      fit = omega (arith, fit, long);
      few = omega (arith, few, all, long);
    } in
    subst (λ (l : List Stream). AreBare copy l) (sym same) of_streams

-- what all items are, the single ones are
pub all-singles : (P : Item → Type 0) (streams : List Stream) (from : ℕ) (singles : List Item) →
    All P (mixed_from stream_item from singles streams) → All P singles
unfolding mixed_from
all-singles P [] from singles all = all
all-singles P (stream ∷ streams) from singles all =
    let gap = stream.first - from in
    let front : List Item = take gap singles in
    let rest : List Item = drop gap singles in
    let drawn : List Item = map stream_item (frames stream.rate) in
    let behind : List Item = mixed_from stream_item stream.behind rest streams in
    subst (All P) (take-append-drop gap singles)
    (All-append P front rest (All-front P front (drawn ++ behind) all)
    (all-singles P streams stream.behind rest
    (All-after P drawn behind (All-after P front (drawn ++ behind) all))))

-- the length of an item of a script is within 16 bits
short-kind : (kind : ItemKind) → IsKind kind → octets_in_kind kind ≤ longest_offer
short-kind (Frame octets) is = is.0.1
short-kind (Add line) is = omega arith
short-kind (Remove line) is = omega arith

pub all-short : (ticks : ℕ) (items : List Item) → All (IsItem ticks) items → All IsShort items
all-short ticks items all = λ k d inside. short-kind (get_or items k d).kind (all k d inside).1

-- ---- what is seen of a list at a number
pub single_low : (heads slice : List ItemHead) (streams : List Stream) (now : List Item) (number index : ℕ) →
    AreBare (map item_in heads) streams → bare_mixed (map item_in heads) streams ≡ now →
    (stream_at streams number ≡ None) × (index + streamed_before streams number ≡ number) →
    slice ≡ heads → number < length now → index < length slice
single_low heads slice streams now number index are view at same inside =
    let low = single_within (map item_in heads) streams number index are at.0 at.1
    (subst (λ (l : List Item). number < length l) (sym view) inside) in
    let size = ap length same in
    omega (arith, low, size, length-map heads item_in)

pub single_told : (heads slice : List ItemHead) (streams : List Stream) (now : List Item) (number index : ℕ)
    (kept : ItemHead) → AreBare (map item_in heads) streams → bare_mixed (map item_in heads) streams ≡ now →
    (stream_at streams number ≡ None) × (index + streamed_before streams number ≡ number) →
    slice ≡ heads → slice_get slice index ≡ Some kept → slice_get now number ≡ Some (item_in kept)
single_told heads slice streams now number index kept are view at same there =
    ap (λ (l : List Item). slice_get l number) (sym view)
    ∙ single_there (map item_in heads) streams number index are at.0 at.1
    ∙ slice_get-map item_in heads index
    ∙ ap (option_map item_in) (ap (λ (l : List ItemHead). slice_get l index) (sym same) ∙ there)

pub one_item : (now : List Item) (number : ℕ) (kept item : Item) → slice_get now number ≡ Some kept →
    slice_get now number ≡ Some item → kept ≡ item
one_item now number kept item one other = let e : Some kept ≡ Some item = sym one ∙ other in cc
