-- Single items with streams among them: how many there are, one more, and the item of a number.
use Rattle.std.proofs.Common.{◌≡◌, ℕ, zero, suc, ◌+◌, ◌-◌, ◌<◌, ◌≤◌, List, [], ◌∷◌, ◌++◌, map, take, drop, length}
use Rattle.std.proofs.Common.{Option, Some, None, option_map, slice_get, slice_index_or, nat_lt, true, false, refl, sym, ◌∙◌, ap, ap₂}
use Rattle.std.proofs.Common.{arith, inl, inr, append-nil, append_assoc, length-append, length-take-le, length-drop}
use Rattle.std.proofs.lemmas.Bool.{cases_lt, lt-ltb, le-ltb}
use Rattle.std.proofs.lemmas.List.{take-append-le, drop-append-le, take_all, drop_all, length-map, map-append, take-map, drop-map}
use Rattle.std.proofs.lemmas.Option.{slice_get_within, slice_get-map}
use Rattle.law_rates.specs.Rates.{RateFrame, IsRate, count_of, frame_at, frames}
use Rattle.law_rates.proofs.RateCountLaws.{length-frames}
use Rattle.law_rates.specs.declared.rate_frames.Rate.{Rate}
use Rattle.law_model.specs.declared.script_items.streams.Stream.{Stream}
use Rattle.law_model.specs.session.Streams.{mixed_from, behind_of, streamed_in, IsStream, AreStreams, FitStreams}
use Rattle.law_model.specs.session.Streams.{stream_at, streamed_before, IsFirstAbove}
use Rattle.law_model.proofs.ListLaws.{slice_get-append, slice_get-after, slice_get-drop, slice_get-inside, at-index, at-range}

-- ---- the numbers of streams
pub behind_least : (streams : List Stream) (from before : ℕ) → AreStreams from before streams →
    from + streamed_in streams ≤ behind_of from streams
unfolding AreStreams behind_of streamed_in
behind_least [] from before are = omega arith
behind_least (stream ∷ streams) from before are =
    let rest = behind_least streams stream.behind (before + count_of stream.rate) are.1 in
    omega (arith, rest, are.0.first, are.0.behind)

-- the single items between the first stream and those before it
fit_first : (stream : Stream) (streams : List Stream) (from before singles : ℕ) →
    AreStreams from before (stream ∷ streams) → FitStreams from singles (stream ∷ streams) →
    (stream.first - from ≤ singles) × FitStreams stream.behind (singles - (stream.first - from)) streams
unfolding AreStreams behind_of streamed_in
fit_first stream streams from before singles are fit =
    let rest = behind_least streams stream.behind (before + count_of stream.rate) are.1 in
    (omega (arith, rest, fit, are.0.first, are.0.behind), omega (arith, rest, fit, are.0.first, are.0.behind))

-- and the same of a list of them
fit_list : {A : Type 0} (singles : List A) (stream : Stream) (streams : List Stream) (from before : ℕ) →
    AreStreams from before (stream ∷ streams) → FitStreams from (length singles) (stream ∷ streams) →
    (stream.first - from ≤ length singles)
    × FitStreams stream.behind (length (drop (stream.first - from) singles)) streams
fit_list singles stream streams from before are fit =
    let (gap, rest) = fit_first stream streams from before (length singles) are fit in
    let long = length-drop (stream.first - from) singles in
    (gap, omega (arith, rest, long))

-- ---- how many items there are
pub length-mixed : {A : Type 0} (item_of : RateFrame → A) (streams : List Stream) (from before : ℕ) (singles : List A) →
    AreStreams from before streams → FitStreams from (length singles) streams →
    length (mixed_from item_of from singles streams) ≡ length singles + streamed_in streams
unfolding mixed_from AreStreams streamed_in
length-mixed item_of [] from before singles are fit = omega arith
length-mixed {A = A} item_of (stream ∷ streams) from before singles are fit =
    let gap = stream.first - from in
    let fits = fit_list singles stream streams from before are fit in
    let rest = length-mixed item_of streams stream.behind (before + count_of stream.rate) (drop gap singles) are.1 fits.1 in
    let drawn : List A = map item_of (frames stream.rate) in
    let behind : List A = mixed_from item_of stream.behind (drop gap singles) streams in
    omega (
      arith,
      length-append (take gap singles) (drawn ++ behind),
      length-append drawn behind,
      length-take-le gap singles fits.0,
      length-map (frames stream.rate) item_of,
      length-frames stream.rate,
      length-drop gap singles,
      rest,
      fits.0,
    )

-- ---- one more
pub mixed_single : {A : Type 0} (item_of : RateFrame → A) (streams : List Stream) (from before : ℕ) (singles : List A)
    (x : A) → AreStreams from before streams → FitStreams from (length singles) streams →
    mixed_from item_of from (singles ++ x ∷ []) streams ≡ mixed_from item_of from singles streams ++ x ∷ []
unfolding mixed_from AreStreams
mixed_single item_of [] from before singles x are fit = refl
mixed_single {A = A} item_of (stream ∷ streams) from before singles x are fit =
    let gap = stream.first - from in
    let fits = fit_list singles stream streams from before are fit in
    let rest = mixed_single item_of streams stream.behind (before + count_of stream.rate) (drop gap singles) x are.1 fits.1 in
    let drawn : List A = map item_of (frames stream.rate) in
    let behind : List A = mixed_from item_of stream.behind (drop gap singles) streams in
    ap₂ (λ front l. front ++ (drawn ++ mixed_from item_of stream.behind l streams))
    (take-append-le gap singles (x ∷ []) fits.0) (drop-append-le gap singles (x ∷ []) fits.0)
    ∙ ap (λ l. take gap singles ++ (drawn ++ l)) rest
    ∙ ap (λ l. take gap singles ++ l) (sym (append_assoc drawn behind (x ∷ [])))
    ∙ sym (append_assoc (take gap singles) (drawn ++ behind) (x ∷ []))

pub mixed_stream : {A : Type 0} (item_of : RateFrame → A) (streams : List Stream) (from before : ℕ) (singles : List A)
    (last : Stream) → AreStreams from before streams → FitStreams from (length singles) streams →
    last.first ≡ from + (length singles + streamed_in streams) →
    mixed_from item_of from singles (streams ++ last ∷ [])
    ≡ mixed_from item_of from singles streams ++ map item_of (frames last.rate)
unfolding mixed_from AreStreams streamed_in
mixed_stream item_of [] from before singles last are fit is =
    let gap : length singles ≤ last.first - from = omega (arith, is) in
    ap₂ (λ front l. front ++ (map item_of (frames last.rate) ++ l)) (take_all (last.first - from) singles gap)
    (drop_all (last.first - from) singles gap)
    ∙ ap (λ l. singles ++ l) (append-nil (map item_of (frames last.rate)))
mixed_stream {A = A} item_of (stream ∷ streams) from before singles last are fit is =
    let gap = stream.first - from in
    let fits = fit_list singles stream streams from before are fit in
    let e : last.first ≡ stream.behind + (length (drop gap singles) + streamed_in streams) =
    omega (arith, is, length-drop gap singles, fits.0, are.0.first, are.0.behind) in
    let rest = mixed_stream item_of streams stream.behind (before + count_of stream.rate) (drop gap singles) last are.1 fits.1
    e in
    let drawn : List A = map item_of (frames stream.rate) in
    let behind : List A = mixed_from item_of stream.behind (drop gap singles) streams in
    let more : List A = map item_of (frames last.rate) in
    ap (λ l. take gap singles ++ (drawn ++ l)) rest
    ∙ ap (λ l. take gap singles ++ l) (sym (append_assoc drawn behind more))
    ∙ sym (append_assoc (take gap singles) (drawn ++ behind) more)

-- each item as another
map_twice : {A B : Type 0} (g : A → B) (item_of : RateFrame → A) (frames : List RateFrame) →
    map g (map item_of frames) ≡ map (λ frame. g (item_of frame)) frames
map_twice g item_of [] = refl
map_twice g item_of (frame ∷ frames) = ap (λ l. g (item_of frame) ∷ l) (map_twice g item_of frames)

pub map-mixed : {A B : Type 0} (g : A → B) (item_of : RateFrame → A) (streams : List Stream) (from : ℕ) (singles : List A) →
    map g (mixed_from item_of from singles streams)
    ≡ mixed_from (λ frame. g (item_of frame)) from (map g singles) streams
unfolding mixed_from
map-mixed g item_of [] from singles = refl
map-mixed {A = A} {B = B} g item_of (stream ∷ streams) from singles =
    let gap = stream.first - from in
    let drawn : List A = map item_of (frames stream.rate) in
    let behind : List A = mixed_from item_of stream.behind (drop gap singles) streams in
    let other : RateFrame → B = λ frame. g (item_of frame) in
    map-append g (take gap singles) (drawn ++ behind)
    ∙ ap₂ (λ front l. front ++ l) (sym (take-map g gap singles))
    (map-append g drawn behind
    ∙ ap₂ (λ l m. l ++ m) (map_twice g item_of (frames stream.rate))
    (map-mixed g item_of streams stream.behind (drop gap singles)
    ∙ ap (λ l. mixed_from other stream.behind l streams) (sym (drop-map g gap singles))))

-- and the numbers then
pub are_more : (streams : List Stream) (from before : ℕ) (last : Stream) → AreStreams from before streams →
    IsStream (behind_of from streams) (before + streamed_in streams) last →
    AreStreams from before (streams ++ last ∷ [])
unfolding AreStreams behind_of streamed_in
are_more [] from before last are is = (
  record {
    rate = is.rate;
    first = is.first;
    behind = is.behind;
    before = (let e = is.before in omega (arith, e));
  },
  tt,
)
are_more (stream ∷ streams) from before last are is = (
  are.0,
  are_more streams stream.behind (before + count_of stream.rate) last are.1 (record {
    rate = is.rate;
    first = is.first;
    behind = is.behind;
    before = (let e = is.before in omega (arith, e));
  }),
)

pub behind_more : (streams : List Stream) (from : ℕ) (last : Stream) →
    behind_of from (streams ++ last ∷ []) ≡ last.behind
unfolding behind_of
behind_more [] from last = refl
behind_more (stream ∷ streams) from last = behind_more streams stream.behind last

pub streamed_more : (streams : List Stream) (last : Stream) →
    streamed_in (streams ++ last ∷ []) ≡ streamed_in streams + count_of last.rate
unfolding streamed_in
streamed_more [] last = omega arith
streamed_more (stream ∷ streams) last = let rest = streamed_more streams last in omega (arith, rest)

-- ---- where a number stands: before the first stream, in it, or behind it
at_before : (stream : Stream) (streams : List Stream) (number : ℕ) → number < stream.first →
    stream_at (stream ∷ streams) number ≡ None
unfolding stream_at
at_before stream streams number low = rw (lt-ltb number stream.first low) refl

at_here : (stream : Stream) (streams : List Stream) (number : ℕ) → stream.first ≤ number → number < stream.behind →
    stream_at (stream ∷ streams) number ≡ Some stream
unfolding stream_at
at_here stream streams number high low =
    rw (le-ltb number stream.first high, lt-ltb number stream.behind low) refl

at_behind : (stream : Stream) (streams : List Stream) (number : ℕ) → stream.first ≤ number → stream.behind ≤ number →
    stream_at (stream ∷ streams) number ≡ stream_at streams number
unfolding stream_at
at_behind stream streams number first high =
    rw (le-ltb number stream.first first, le-ltb number stream.behind high) refl

none_before : (stream : Stream) (streams : List Stream) (number : ℕ) → number < stream.behind →
    streamed_before (stream ∷ streams) number ≡ 0
unfolding streamed_before
none_before stream streams number low = rw (lt-ltb number stream.behind low) refl

all_before : (stream : Stream) (streams : List Stream) (number : ℕ) → stream.behind ≤ number →
    streamed_before (stream ∷ streams) number ≡ count_of stream.rate + streamed_before streams number
unfolding streamed_before
all_before stream streams number high = rw (le-ltb number stream.behind high) refl

-- the streams that end before a number have no more items than there are
pub before_few : (streams : List Stream) (from before number : ℕ) → AreStreams from before streams → from ≤ number →
    stream_at streams number ≡ None → from + streamed_before streams number ≤ number
unfolding AreStreams streamed_before
before_few [] from before number are high is = omega arith
before_few (stream ∷ streams) from before number are high is =
    elim (cases_lt number stream.behind) [
      | inl low ↦ (let none = none_before stream streams number low in omega (arith, none, high))
      | inr past ↦ (
          let e = are.0.behind in
          let first = are.0.first in
          let rest = before_few streams stream.behind (before + count_of stream.rate) number are.1 past
          (sym (at_behind stream streams number (omega (arith, past, e)) past) ∙ is) in
          let all = all_before stream streams number past in
          omega (arith, rest, all, e, first))
    ]

-- what a stream is that has a number
pub stream_facts : (streams : List Stream) (from before number : ℕ) (s : Stream) → AreStreams from before streams →
    stream_at streams number ≡ Some s →
    (s.first ≤ number) × (number < s.behind) × (s.behind ≡ s.first + count_of s.rate) × IsRate s.rate
unfolding AreStreams stream_at
stream_facts [] from before number s are is = absurd cc
stream_facts (stream ∷ streams) from before number s are is =
    elim (cases_lt number stream.first) [
      | inl low ↦ (let none = at_before stream streams number low in absurd (let e : Some s ≡ None = sym is ∙ none in cc))
      | inr high ↦ elim (cases_lt number stream.behind) [
        | inl low ↦ (
            let here = at_here stream streams number high low in
            let e : stream ≡ s = cc in
            rw (sym e) (high, low, are.0.behind, are.0.rate))
        | inr past ↦ stream_facts streams stream.behind (before + count_of stream.rate) number s are.1
            (sym (at_behind stream streams number high past) ∙ is)
      ]
    ]

-- ---- the item of a number
get-take : {A : Type 0} (xs : List A) (n k : ℕ) → k < n → slice_get (take n xs) k ≡ slice_get xs k
get-take xs zero k within = absurd (omega arith)
get-take [] (suc n) k within = refl
get-take (x ∷ xs) (suc n) zero within = refl
get-take (x ∷ xs) (suc n) (suc k) within = get-take xs n k (omega (arith, within))

behind_parts : {A : Type 0} (front drawn behind : List A) (t first count : ℕ) → length front ≡ first →
    length drawn ≡ count → first + count ≤ t →
    slice_get (front ++ (drawn ++ behind)) t ≡ slice_get behind (t - (first + count))
behind_parts front drawn behind t first count long many past =
    slice_get-after front (drawn ++ behind) t (omega (arith, long, past))
    ∙ slice_get-after drawn behind (t - length front) (omega (arith, long, many, past))
    ∙ ap (slice_get behind) (let e : t - length front - length drawn ≡ t - (first + count) = omega (arith, long, many) in e)

pub get_streamed : {A : Type 0} (item_of : RateFrame → A) (streams : List Stream) (from before : ℕ) (singles : List A)
    (number : ℕ) (s : Stream) → AreStreams from before streams → FitStreams from (length singles) streams →
    stream_at streams number ≡ Some s → from ≤ number →
    slice_get (mixed_from item_of from singles streams) (number - from)
    ≡ slice_get (map item_of (frames s.rate)) (number - s.first)
unfolding mixed_from AreStreams stream_at
get_streamed item_of [] from before singles number s are fit is high = absurd cc
get_streamed {A = A} item_of (stream ∷ streams) from before singles number s are fit is high =
    let gap = stream.first - from in
    let fits = fit_list singles stream streams from before are fit in
    let drawn : List A = map item_of (frames stream.rate) in
    let behind : List A = mixed_from item_of stream.behind (drop gap singles) streams in
    let long = length-take-le gap singles fits.0 in
    let many : length drawn ≡ count_of stream.rate = length-map (frames stream.rate) item_of ∙ length-frames stream.rate in
    let first = are.0.first in
    let ends = are.0.behind in
    elim (cases_lt number stream.first) [
      | inl low ↦ (let none = at_before stream streams number low in absurd (let e : Some s ≡ None = sym is ∙ none in cc))
      | inr past ↦ elim (cases_lt number stream.behind) [
        | inl low ↦ (
            let here = at_here stream streams number past low in
            let e : stream ≡ s = cc in
            slice_get-after (take gap singles) (drawn ++ behind) (number - from) (omega (arith, long, past))
            ∙ slice_get-append drawn behind (number - from - length (take gap singles))
            (omega (arith, long, many, past, low, ends, first))
            ∙ ap₂ (λ (t : Stream) k. slice_get (map item_of (frames t.rate)) k) e
            (let f : number - from - length (take gap singles) ≡ number - s.first =
            (let g = ap (λ (t : Stream). t.first) e in omega (arith, long, past, first, g)) in f))
        | inr over ↦ (
            behind_parts (take gap singles) drawn behind (number - from) gap (count_of stream.rate) long many
            (omega (arith, over, ends, first))
            ∙ ap (slice_get behind) (let e : number - from - (gap + count_of stream.rate) ≡ number - stream.behind =
            omega (arith, ends, first) in e)
            ∙ get_streamed item_of streams stream.behind (before + count_of stream.rate) (drop gap singles) number s are.1
            fits.1 (sym (at_behind stream streams number past over) ∙ is) over)
      ]
    ]

pub get_single : {A : Type 0} (item_of : RateFrame → A) (streams : List Stream) (from before : ℕ) (singles : List A)
    (number : ℕ) → AreStreams from before streams → FitStreams from (length singles) streams →
    stream_at streams number ≡ None → from ≤ number →
    slice_get (mixed_from item_of from singles streams) (number - from)
    ≡ slice_get singles (number - from - streamed_before streams number)
unfolding mixed_from AreStreams streamed_before
get_single item_of [] from before singles number are fit is high =
    ap (slice_get singles) (let e : number - from ≡ number - from - 0 = omega arith in e)
get_single {A = A} item_of (stream ∷ streams) from before singles number are fit is high =
    let gap = stream.first - from in
    let fits = fit_list singles stream streams from before are fit in
    let drawn : List A = map item_of (frames stream.rate) in
    let behind : List A = mixed_from item_of stream.behind (drop gap singles) streams in
    let long = length-take-le gap singles fits.0 in
    let many : length drawn ≡ count_of stream.rate = length-map (frames stream.rate) item_of ∙ length-frames stream.rate in
    let first = are.0.first in
    let ends = are.0.behind in
    elim (cases_lt number stream.first) [
      | inl low ↦ (
          let none = none_before stream streams number (omega (arith, low, ends)) in
          slice_get-append (take gap singles) (drawn ++ behind) (number - from) (omega (arith, long, low, high))
          ∙ get-take singles gap (number - from) (omega (arith, low, high))
          ∙ ap (slice_get singles)
          (let e : number - from ≡ number - from - streamed_before (stream ∷ streams) number = omega (arith, none) in e))
      | inr past ↦ elim (cases_lt number stream.behind) [
        | inl low ↦ (
            let here = at_here stream streams number past low in
            absurd (let e : Some stream ≡ None = sym here ∙ is in cc))
        | inr over ↦ (
            let there = sym (at_behind stream streams number past over) ∙ is in
            let all = all_before stream streams number over in
            let few = before_few streams stream.behind (before + count_of stream.rate) number are.1 over there in
            behind_parts (take gap singles) drawn behind (number - from) gap (count_of stream.rate) long many
            (omega (arith, over, ends, first))
            ∙ ap (slice_get behind) (let e : number - from - (gap + count_of stream.rate) ≡ number - stream.behind =
            omega (arith, ends, first) in e)
            ∙ get_single item_of streams stream.behind (before + count_of stream.rate) (drop gap singles) number are.1
            fits.1 there over
            ∙ slice_get-drop singles gap (number - stream.behind - streamed_before streams number)
            ∙ ap (slice_get singles)
            (let e : gap + (number - stream.behind - streamed_before streams number)
            ≡ number - from - streamed_before (stream ∷ streams) number = omega (arith, all, few, ends, first, over) in e))
      ]
    ]

-- ---- the search for it
-- the streams end one behind the other
ends_above : (streams : List Stream) (from before k : ℕ) (d : Stream) → AreStreams from before streams →
    k < length streams → from ≤ (slice_index_or streams k d).behind
unfolding AreStreams
ends_above [] from before k d are within = absurd (omega arith)
ends_above (stream ∷ streams) from before zero d are within = omega (arith, are.0.first, are.0.behind)
ends_above (stream ∷ streams) from before (suc k) d are within =
    let rest = ends_above streams stream.behind (before + count_of stream.rate) k d are.1 (omega arith) in
    omega (arith, rest, are.0.first, are.0.behind)

pub ends_rise : (streams : List Stream) (from before i j : ℕ) (d : Stream) → AreStreams from before streams → i ≤ j →
    j < length streams → (slice_index_or streams i d).behind ≤ (slice_index_or streams j d).behind
unfolding AreStreams
ends_rise [] from before i j d are order within = absurd (omega arith)
ends_rise (stream ∷ streams) from before zero zero d are order within = omega arith
ends_rise (stream ∷ streams) from before zero (suc j) d are order within =
    ends_above streams stream.behind (before + count_of stream.rate) j d are.1 (omega arith)
ends_rise (stream ∷ streams) from before (suc i) zero d are order within = absurd (omega arith)
ends_rise (stream ∷ streams) from before (suc i) (suc j) d are order within =
    ends_rise streams stream.behind (before + count_of stream.rate) i j d are.1 (omega arith) (omega arith)

ends_last : (streams : List Stream) (from number : ℕ) →
    ((k : ℕ) (d : Stream) → k < length streams → (slice_index_or streams k d).behind ≤ number) → from ≤ number →
    behind_of from streams ≤ number
unfolding behind_of
ends_last [] from number ended high = high
ends_last (stream ∷ streams) from number ended high =
    ends_last streams stream.behind number (λ k d within. ended (suc k) d (omega (arith, within))) (ended 0 stream (omega arith))

-- behind all of them
pub behind_all : (streams : List Stream) (from before number : ℕ) → AreStreams from before streams →
    behind_of from streams ≤ number → (stream_at streams number ≡ None) × (streamed_before streams number ≡ streamed_in streams)
unfolding AreStreams behind_of streamed_in stream_at streamed_before
behind_all [] from before number are past = (refl, refl)
behind_all (stream ∷ streams) from before number are past =
    let least = behind_least streams stream.behind (before + count_of stream.rate) are.1 in
    let ends = are.0.behind in
    let over : stream.behind ≤ number = omega (arith, least, past) in
    let rest = behind_all streams stream.behind (before + count_of stream.rate) number are.1 past in (
      at_behind stream streams number (omega (arith, over, ends)) over ∙ rest.0,
      all_before stream streams number over ∙ ap (λ m. count_of stream.rate + m) rest.1,
    )

-- ---- the first stream that ends above a number

pub found : (streams : List Stream) (from before number p : ℕ) (s : Stream) → AreStreams from before streams →
    slice_get streams p ≡ Some s → ((k : ℕ) (d : Stream) → k < p → (slice_index_or streams k d).behind ≤ number) →
    number < s.behind → IsFirstAbove streams before number s
unfolding AreStreams
found [] from before number p s are is passed low = absurd cc
found (stream ∷ streams) from before number zero s are is passed low =
    let e : stream ≡ s = cc in
    let f = ap (λ (t : Stream). t.behind) e in
    let g = ap (λ (t : Stream). t.first) e in
    let h = ap (λ (t : Stream). t.before) e in
    let own = are.0.before in
    let none = none_before stream streams number (omega (arith, low, f)) in
    record {
      before = omega (arith, h, own, none);
      outside = λ under. at_before stream streams number (omega (arith, under, g));
      inside = λ over. at_here stream streams number (omega (arith, over, g)) (omega (arith, low, f)) ∙ ap Some e;
    }
found (stream ∷ streams) from before number (suc p) s are is passed low =
    let over : stream.behind ≤ number = passed 0 stream (omega arith) in
    let ends = are.0.behind in
    let rest = found streams stream.behind (before + count_of stream.rate) number p s are.1 is
    (λ k d under. passed (suc k) d (omega (arith, under))) low in
    let all = all_before stream streams number over in
    let moved = at_behind stream streams number (omega (arith, over, ends)) over in
    let own = rest.before in
    record {
      before = omega (arith, own, all);
      outside = λ under. moved ∙ rest.outside under;
      inside = λ high. moved ∙ rest.inside high;
    }

-- a search by where streams end finds it
pub passed_some : (streams : List Stream) (number p : ℕ) → AreStreams 0 0 streams → number < behind_of 0 streams →
    p ≤ length streams → ((k : ℕ) (d : Stream) → k < p → (slice_index_or streams k d).behind ≤ number) →
    p < length streams
passed_some streams number p are low within passed =
    elim (cases_lt p (length streams)) [
      | inl inside ↦ inside
      | inr all ↦ absurd (let past = ends_last streams 0 number (λ k d under. passed k d (omega (arith, under, all))) (omega arith) in omega (arith, past, low))
    ]

-- ---- the item of a number, by where it stands
pub single_here : {A : Type 0} (item_of : RateFrame → A) (streams : List Stream) (singles : List A) (number index : ℕ) →
    AreStreams 0 0 streams → FitStreams 0 (length singles) streams → stream_at streams number ≡ None →
    index + streamed_before streams number ≡ number →
    slice_get (mixed_from item_of 0 singles streams) number ≡ slice_get singles index
single_here {A = A} item_of streams singles number index are fit none is =
    ap (slice_get (mixed_from item_of 0 singles streams)) (let e : number ≡ number - 0 = omega arith in e)
    ∙ get_single item_of streams 0 0 singles number are fit none (omega arith)
    ∙ ap (slice_get singles) (let e : number - 0 - streamed_before streams number ≡ index = omega (arith, is) in e)

-- it is there, since the item of the number is
pub single_inside : {A : Type 0} (item_of : RateFrame → A) (streams : List Stream) (singles : List A) (number index : ℕ) →
    AreStreams 0 0 streams → FitStreams 0 (length singles) streams → stream_at streams number ≡ None →
    index + streamed_before streams number ≡ number → number < length (mixed_from item_of 0 singles streams) →
    index < length singles
single_inside item_of streams singles number index are fit none is within =
    let (item, there) = slice_get-inside (mixed_from item_of 0 singles streams) number within in
    slice_get_within singles index item (sym (single_here item_of streams singles number index are fit none is) ∙ there)

-- the frame of a rate
frame_there : (rate : Rate) (k : ℕ) → k < count_of rate → slice_get (frames rate) k ≡ Some (frame_at rate k)
unfolding frames
frame_there rate k within = at-range (frame_at rate) (count_of rate) k within

pub streamed_here : {A : Type 0} (item_of : RateFrame → A) (streams : List Stream) (singles : List A) (number : ℕ)
    (s : Stream) → AreStreams 0 0 streams → FitStreams 0 (length singles) streams →
    stream_at streams number ≡ Some s →
    slice_get (mixed_from item_of 0 singles streams) number ≡ Some (item_of (frame_at s.rate (number - s.first)))
streamed_here {A = A} item_of streams singles number s are fit is =
    let (first, behind, ends, _) = stream_facts streams 0 0 number s are is in
    ap (slice_get (mixed_from item_of 0 singles streams)) (let e : number ≡ number - 0 = omega arith in e)
    ∙ get_streamed item_of streams 0 0 singles number s are fit is (omega arith)
    ∙ slice_get-map item_of (frames s.rate) (number - s.first)
    ∙ ap (option_map item_of) (frame_there s.rate (number - s.first) (omega (arith, first, behind, ends)))

-- so that it is the only one that the list has there
pub single_is : {A : Type 0} (item_of : RateFrame → A) (streams : List Stream) (singles all : List A)
    (number index : ℕ) (x item : A) → AreStreams 0 0 streams → FitStreams 0 (length singles) streams →
    stream_at streams number ≡ None → index + streamed_before streams number ≡ number →
    mixed_from item_of 0 singles streams ≡ all → number < length all → x ≡ slice_index_or singles index x →
    slice_get all number ≡ Some item → x ≡ item
single_is {A = A} item_of streams singles all number index x item are fit none is same within read there =
    let long = ap length same in
    let inside = single_inside item_of streams singles number index are fit none is (omega (arith, long, within)) in
    let here : Some x ≡ Some item =
    sym (at-index singles index x inside read) ∙ sym (single_here item_of streams singles number index are fit none is)
    ∙ ap (λ (l : List A). slice_get l number) same ∙ there in
    cc

pub streamed_is : {A : Type 0} (item_of : RateFrame → A) (streams : List Stream) (singles all : List A) (number : ℕ)
    (s : Stream) (item : A) → AreStreams 0 0 streams → FitStreams 0 (length singles) streams →
    stream_at streams number ≡ Some s → mixed_from item_of 0 singles streams ≡ all → slice_get all number ≡ Some item →
    item_of (frame_at s.rate (number - s.first)) ≡ item
streamed_is {A = A} item_of streams singles all number s item are fit is same there =
    let here : Some (item_of (frame_at s.rate (number - s.first))) ≡ Some item =
    sym (streamed_here item_of streams singles number s are fit is)
    ∙ ap (λ (l : List A). slice_get l number) same ∙ there in
    cc
