-- The items of a stream: what each meets, and when they are due.
use Rattle.std.proofs.Common.{◌≡◌, ℕ, ◌+◌, ◌-◌, ◌<◌, ◌≤◌, List, [], ◌∷◌, ◌++◌, length, map, ap, sym, ◌∙◌}
use Rattle.std.proofs.Common.{arith, refl, subst, slice_index_or, nat_lt, true, All, inl, inr, Some, length-append}
use Rattle.std.specs.List.{slice_get, list_all}
use Rattle.std.specs.List.Sorted.{IsNonDecreasing}
use Rattle.std.proofs.lemmas.Bool.{cases_lt, and_parts, ltb-true}
use Rattle.std.proofs.lemmas.List.{get_or_append_left, get_or-append_right, get_or-map, length-map}
use Rattle.std.proofs.lemmas.List.Elements.{All-append, All-cons, All-nil, All-map}
use Rattle.std.proofs.lemmas.List.FromFn.{get_or-map-range_with_len}
use Rattle.std.proofs.lemmas.Option.{slice_get-get_or}
use Rattle.check_remainder.proofs.NumberAndOctetBitsLaws.{octets_of_below}
use Rattle.check_crc32.specs.Crc32.{least_first, ordered, fcs_in, fcs_of, check_bits}
use Rattle.check_crc32.proofs.CheckRegisterAndTableLaws.{All-ordered}
use Rattle.check_remainder.specs.Bits.{octet_bits}
use Rattle.law_rates.specs.Draws.{draws}
use Rattle.law_rates.specs.Rates.{IsRate, RateFrame, due_of, size_at, state_of, count_of, head, frame_of, content_of}
use Rattle.law_rates.specs.Rates.{frame_at, frames}
use Rattle.law_rates.specs.declared.rate_frames.Rate.{Rate}
use Rattle.law_rates.proofs.DrawLaws.{draws_below}
use Rattle.law_rates.proofs.RateFrameLaws.{size_bounds, length-frame_of}
use Rattle.law_rates.proofs.RateCountLaws.{due_before, due_first, frames_rise, length-frames, some_frames}
use Rattle.law_model.specs.Common.{dues_of, frame_dues, command_dues, IsItem}
use Rattle.law_model.specs.declared.script_types.Item.{Item}
use Rattle.law_model.specs.session.Items.{stream_item, stream_items}

-- ---- each frame of a rate
pub frame_there : (rate : Rate) (i : ℕ) (d : RateFrame) → i < count_of rate →
    slice_index_or (frames rate) i d ≡ frame_at rate i
unfolding frames
frame_there rate i d within =
    get_or-map-range_with_len (frame_at rate) 0 (count_of rate) i i d within (let e : 0 + i ≡ i = omega arith in e)

each_frame : (P : RateFrame → Type 0) (rate : Rate) → ((k : ℕ) → k < count_of rate → P (frame_at rate k)) →
    All P (frames rate)
each_frame P rate each i d within =
    let size = length-frames rate in
    let inside : i < count_of rate = omega (arith, within, size) in
    subst P (sym (frame_there rate i d inside)) (each i inside)

-- ---- its octets
all_below : (ns : List ℕ) → list_all (λ n. nat_lt n 256) ns ≡ true → All (λ n. n < 256) ns
all_below [] all = All-nil (λ n. n < 256)
all_below (n ∷ ns) all =
    let parts = and_parts (nat_lt n 256) (list_all (λ n. nat_lt n 256) ns) all in
    All-cons (λ n. n < 256) n ns (ltb-true n 256 parts.0) (all_below ns parts.1)

check_below : (octets : List ℕ) → All (λ (o : ℕ). o < 256) (fcs_in least_first octets)
check_below octets =
    All-ordered least_first (fcs_of (map (ordered least_first) octets))
    (octets_of_below 4 (check_bits (octet_bits (map (ordered least_first) octets))))

octets_below : (octets state : ℕ) → All (λ (o : ℕ). o < 256) (frame_of octets state)
octets_below octets state =
    All-append (λ (o : ℕ). o < 256) (content_of octets state) (fcs_in least_first (content_of octets state))
    (All-append (λ (o : ℕ). o < 256) head (draws (octets - 18) 256 state) (all_below head refl)
    (draws_below (octets - 18) 256 state (omega arith)))
    (check_below (content_of octets state))

-- ---- the items
pub frame_item : (rate : Rate) (ticks k : ℕ) → IsRate rate → rate.end ≤ ticks → k < count_of rate →
    IsItem ticks (stream_item (frame_at rate k))
frame_item rate ticks k is within inside =
    let early = (due_before rate k is).0 inside in
    let bounds = size_bounds rate.sizes k is.some is.sizes in
    let size = length-frame_of (size_at rate.sizes k) (state_of rate k) bounds.0 in (
      (let e : due_of rate k < ticks = omega (arith, early, within) in e),
      ((omega (arith, size, bounds.0), omega (arith, size, bounds.1)), octets_below (size_at rate.sizes k) (state_of rate k)),
    )

pub are_frame_items : (rate : Rate) (ticks : ℕ) → IsRate rate → rate.end ≤ ticks →
    All (IsItem ticks) (stream_items rate)
are_frame_items rate ticks is within =
    All-map (IsItem ticks) stream_item (frames rate)
    (each_frame (λ frame. IsItem ticks (stream_item frame)) rate (λ k inside. frame_item rate ticks k is within inside))

pub length-stream : (rate : Rate) → length (stream_items rate) ≡ count_of rate
length-stream rate = length-map (frames rate) stream_item ∙ length-frames rate

-- ---- their due ticks
frames_of_stream : (fs : List RateFrame) → frame_dues (dues_of (map stream_item fs)) ≡ map (λ frame. frame.due) fs
unfolding frame_dues
frames_of_stream [] = refl
frames_of_stream (f ∷ fs) = ap (λ (l : List ℕ). f.due ∷ l) (frames_of_stream fs)

commands_of_stream : (fs : List RateFrame) → command_dues (dues_of (map stream_item fs)) ≡ []
unfolding command_dues
commands_of_stream [] = refl
commands_of_stream (f ∷ fs) = commands_of_stream fs

pub no_commands : (rate : Rate) → command_dues (dues_of (stream_items rate)) ≡ []
no_commands rate = commands_of_stream (frames rate)

abbrev pub stream_dues : Rate → List ℕ
stream_dues rate = frame_dues (dues_of (stream_items rate))

length-dues : (rate : Rate) → length (stream_dues rate) ≡ count_of rate
length-dues rate =
    ap (λ (l : List ℕ). length l) (frames_of_stream (frames rate)) ∙ length-map (frames rate) (λ frame. frame.due)
    ∙ length-frames rate

due_there : (rate : Rate) (i d : ℕ) → i < count_of rate → slice_index_or (stream_dues rate) i d ≡ due_of rate i
due_there rate i d within =
    let size = length-frames rate in
    let some : RateFrame = frame_at rate 0 in
    ap (λ (l : List ℕ). slice_index_or l i d) (frames_of_stream (frames rate))
    ∙ get_or-map (λ (frame : RateFrame). frame.due) (frames rate) i some d (omega (arith, within, size))
    ∙ ap (λ (frame : RateFrame). frame.due) (frame_there rate i some within)

-- the due ticks never fall
pub due_later : (rate : Rate) (i j : ℕ) → IsRate rate → i ≤ j → j < count_of rate → due_of rate i ≤ due_of rate j
due_later rate i j is before within =
    let some : RateFrame = frame_at rate 0 in
    let size = length-frames rate in
    let one = ap (λ (frame : RateFrame). frame.due) (frame_there rate i some (omega (arith, before, within))) in
    let other = ap (λ (frame : RateFrame). frame.due) (frame_there rate j some within) in
    let rise = frames_rise rate is i j some before (omega (arith, within, size)) in
    omega (arith, one, other, rise)

pub dues_rise : (rate : Rate) → IsRate rate → IsNonDecreasing (stream_dues rate)
dues_rise rate is i j d before within =
    let size = length-dues rate in
    let inside : j < count_of rate = omega (arith, within, size) in
    let one = due_there rate i d (omega (arith, before, inside)) in
    let other = due_there rate j d inside in
    let later = due_later rate i j is before inside in
    omega (arith, one, other, later)

-- and lie between the first tick and that of the last frame
pub dues_least : (rate : Rate) → IsRate rate → All (λ n. rate.first ≤ n) (stream_dues rate)
dues_least rate is i d within =
    let size = length-dues rate in
    let inside : i < count_of rate = omega (arith, within, size) in
    let one = due_there rate i d inside in
    let later = due_later rate 0 i is (omega arith) inside in
    omega (arith, one, later, due_first rate)

pub dues_most : (rate : Rate) → IsRate rate → All (λ n. n ≤ due_of rate (count_of rate - 1)) (stream_dues rate)
dues_most rate is i d within =
    let size = length-dues rate in
    let inside : i < count_of rate = omega (arith, within, size) in
    let one = due_there rate i d inside in
    let later = due_later rate i (count_of rate - 1) is (omega (arith, inside)) (omega (arith, inside)) in
    omega (arith, one, later)

pub last_later : (rate : Rate) → IsRate rate → rate.first ≤ due_of rate (count_of rate - 1)
last_later rate is =
    let some = some_frames rate is in
    let later = due_later rate 0 (count_of rate - 1) is (omega arith) (omega (arith, some)) in
    omega (arith, later, due_first rate)

-- ---- lists behind lists
pub rising-append : (ns ms : List ℕ) (n : ℕ) → IsNonDecreasing ns → IsNonDecreasing ms → All (λ m. m ≤ n) ns →
    All (λ m. n ≤ m) ms → IsNonDecreasing (ns ++ ms)
rising-append ns ms n rise later most least i j d before within =
    let size = length-append ns ms in
    elim (cases_lt j (length ns)) [
      | inl less ↦ rw (get_or_append_left ns ms d i (omega (arith, before, less)))
          (rw (get_or_append_left ns ms d j less) (rise i j d before less))
      | inr past ↦
          let end = get_or-append_right ns ms (length ns) j d refl past in
          elim (cases_lt i (length ns)) [
            | inl less ↦
                let low = most i d less in
                let high = least (j - length ns) d (omega (arith, within, size, past)) in
                rw (get_or_append_left ns ms d i less) (rw end (omega (arith, low, high)))
            | inr far ↦
                rw (get_or-append_right ns ms (length ns) i d refl far)
                (rw end (later (i - length ns) (j - length ns) d (omega (arith, before)) (omega (arith, within, size, past))))
          ]
    ]

-- ---- the last item
pub last_item : (items all : List Item) (rate : Rate) (number : ℕ) → IsRate rate → all ≡ items ++ stream_items rate →
    number + 1 ≡ length all → slice_get all number ≡ Some (stream_item (frame_at rate (count_of rate - 1)))
last_item items all rate number is joined last =
    let some = some_frames rate is in
    let size = ap (λ (l : List Item). length l) joined in
    let long = length-append items (stream_items rate) in
    let stream = length-stream rate in
    let frames_long = length-frames rate in
    let d : Item = stream_item (frame_at rate 0) in
    let place : number - length items ≡ count_of rate - 1 = omega (arith, last, size, long, stream) in
    slice_get-get_or all number d (omega (arith, last))
    ∙ ap Some (ap (λ (l : List Item). slice_index_or l number d) joined
    ∙ get_or-append_right items (stream_items rate) (length items) number d refl (omega (arith, last, size, long, stream, some))
    ∙ ap (λ (k : ℕ). slice_index_or (stream_items rate) k d) place
    ∙ get_or-map stream_item (frames rate) (count_of rate - 1) (frame_at rate 0) d (omega (arith, some, frames_long))
    ∙ ap stream_item (frame_there rate (count_of rate - 1) (frame_at rate 0) (omega (arith, some))))

-- there is one
pub some_items : (items all : List Item) (rate : Rate) (count : ℕ) → IsRate rate → all ≡ items ++ stream_items rate →
    count ≡ length all → 1 ≤ count
some_items items all rate count is joined same =
    let some = some_frames rate is in
    let size = ap (λ (l : List Item). length l) joined in
    let long = length-append items (stream_items rate) in
    let stream = length-stream rate in
    omega (arith, same, size, long, stream, some)
