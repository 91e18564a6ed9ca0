-- How many frames are due before the end, and the frames that are left.
use Rattle.std.proofs.Common.{◌≡◌, ℕ, zero, suc, ◌+◌, ◌-◌, ◌*◌, ◌/◌, ◌%◌, ◌<◌, ◌≤◌, ◌⊎◌, ◌↔◌, List, [], ◌∷◌, length}
use Rattle.std.proofs.Common.{ap, sym, ◌∙◌, arith, refl, All, map, inl, inr, subst, true, false, nat_le, ap₂}
use Rattle.std.specs.Prelude.{take, drop, slice_index_or, ◌++◌}
use Rattle.std.proofs.lemmas.List.{take-append-drop}
use Rattle.std.specs.List.Sorted.{IsNonDecreasingBy}
use Rattle.std.proofs.lemmas.Bool.{cases_order, cases_lt, le-leb, cases_Bool, leb-true}
use Rattle.std.proofs.lemmas.Nat.{mod_below, le-div, mul-le}
use Rattle.std.proofs.Math.Nat.{mul-le-mul_right, div-lt_iff_lt-mul, div-mul-le_self, zero-div}
use Rattle.std.proofs.lemmas.List.FromFn.{length-map-range_with_len, get_or-map-range_with_len, take-map-range_with_len}
use Rattle.std.specs.List.{range_with_len}
use Rattle.law_rates.specs.Rates.{IsRate, size_at, octets_before, last_octets, begun_within, count_of, due_of}
use Rattle.law_rates.specs.Rates.{frame_at, frame_of, state_of, RateFrame, first_frames, frames}
use Rattle.law_rates.specs.Places.{frames_from}
use Rattle.law_rates.specs.declared.rate_frames.Rate.{Rate}
use Rattle.law_rates.proofs.RateFrameLaws.{AreSizes, size_bounds, before_none, before_more, before_many, before_rises}
use Rattle.law_rates.proofs.RateFrameLaws.{before_turns}

-- ---- those of a turn that have begun
pub begun_none : (sizes : List ℕ) (octets : ℕ) → begun_within sizes octets 0 ≡ 0
unfolding begun_within
begun_none sizes octets = refl

pub begun_yes : (sizes : List ℕ) (octets j k : ℕ) → j ≡ suc k → octets_before sizes k ≤ octets →
    begun_within sizes octets j ≡ begun_within sizes octets k + 1
unfolding begun_within
begun_yes sizes octets j k e low = rw e (rw (le-leb (octets_before sizes k) octets low) refl)

pub begun_no : (sizes : List ℕ) (octets j k : ℕ) → j ≡ suc k → octets < octets_before sizes k →
    begun_within sizes octets j ≡ begun_within sizes octets k
unfolding begun_within
begun_no sizes octets j k e high =
    let no : nat_le (octets_before sizes k) octets ≡ false =
    elim (cases_Bool (nat_le (octets_before sizes k) octets)) [
      | inl kept ↦ (let low = leb-true (octets_before sizes k) octets kept in absurd (omega (arith, low, high)))
      | inr other ↦ other
    ] in
    rw e (rw no (omega arith))

pub begun_few : (sizes : List ℕ) (octets k : ℕ) → begun_within sizes octets k ≤ k
begun_few sizes octets zero = let none = begun_none sizes octets in omega (arith, none)
begun_few sizes octets (suc k) =
    let rest = begun_few sizes octets k in
    elim (cases_lt octets (octets_before sizes k)) [
      | inl high ↦ (let step = begun_no sizes octets (suc k) k refl high in omega (arith, rest, step))
      | inr low ↦ (let step = begun_yes sizes octets (suc k) k refl low in omega (arith, rest, step))
    ]

begun_all : (sizes : List ℕ) (octets k top : ℕ) → k ≤ top → octets_before sizes top ≤ octets →
    begun_within sizes octets k ≡ k
begun_all sizes octets zero top within low = let none = begun_none sizes octets in omega (arith, none)
begun_all sizes octets (suc k) top within low =
    let rest = begun_all sizes octets k top (omega (arith, within)) low in
    let rises = before_rises sizes k top (omega (arith, within)) in
    let step = begun_yes sizes octets (suc k) k refl (omega (arith, rises, low)) in
    omega (arith, rest, step)

-- they are the first ones
begun_first : (sizes : List ℕ) (octets k i : ℕ) → i < k →
    (octets_before sizes i ≤ octets) ↔ (i < begun_within sizes octets k)
begun_first sizes octets zero i within = absurd (omega (arith, within))
begun_first sizes octets (suc k) i within =
    elim (cases_lt octets (octets_before sizes k)) [
      | inl high ↦ (
          let step = begun_no sizes octets (suc k) k refl high in
          let few = begun_few sizes octets k in
          elim (cases_lt i k) [
            | inl early ↦ (
                let rest = begun_first sizes octets k i early in (
                  λ low. (let r = rest.0 low in omega (arith, r, step)),
                  λ begun. rest.1 (omega (arith, begun, step)),
                ))
            | inr late ↦ (
                let same : i ≡ k = omega (arith, late, within) in
                let moved = ap (octets_before sizes) same in (
                  λ low. absurd (omega (arith, low, moved, high)),
                  λ begun. absurd (omega (arith, begun, step, few, late)),
                ))
          ])
      | inr low ↦ (
          let step = begun_yes sizes octets (suc k) k refl low in
          let all = begun_all sizes octets k k (omega arith) low in
          let rises = before_rises sizes i k (omega (arith, within)) in
          (λ _. omega (arith, step, all, within), λ _. omega (arith, rises, low)))
    ]

-- ---- by whole turns
-- a frame has at most so many octets before it exactly where it is among so many whole turns and a part of one
counted : (sizes : List ℕ) (octets turn k : ℕ) → 1 ≤ length sizes → AreSizes sizes →
    turn ≡ octets_before sizes (length sizes) →
    (octets_before sizes k ≤ octets)
    ↔ (k < length sizes * (octets / turn) + begun_within sizes (octets % turn) (length sizes))
counted sizes octets turn k some are is =
    let n = length sizes in
    let q = k / n in
    let r = k % n in
    let whole = octets / turn in
    let rest = octets % turn in
    let r-less : r < n = mod_below k n some in
    let here : k ≡ q * n + r = omega (arith, some) in
    let before = before_turns sizes q r k here in
    let own = before_more sizes (suc r) r refl in
    let bounds = size_bounds sizes r some are in
    let inside = before_rises sizes (suc r) n (omega (arith, r-less)) in
    let some-turn : 0 < turn = omega (arith, own, bounds.0, inside, is) in
    let split : octets ≡ whole * turn + rest = omega (arith, some-turn) in
    let few = begun_few sizes rest n in
    let moved : q * octets_before sizes n ≡ q * turn = ap (λ m. q * m) (sym is) in
    elim (cases_order q whole) [
      | inl same ↦ (
          let first = begun_first sizes rest n r r-less in
          let e : q * turn ≡ whole * turn = ap (λ m. m * turn) same in
          let f : q * n ≡ n * whole = (let g = ap (λ m. m * n) same in omega (arith, g)) in (
            λ low. (let begun = first.0 (omega (arith, low, before, moved, e, split)) in omega (arith, begun, here, f)),
            λ less. (let low = first.1 (omega (arith, less, here, f)) in omega (arith, low, before, moved, e, split)),
          ))
      | inr (inl less) ↦ (
          let e : (q + 1) * turn ≤ whole * turn = mul-le-mul_right turn (omega (arith, less)) in
          let f : (q + 1) * n ≤ whole * n = mul-le-mul_right n (omega (arith, less)) in (
            λ _. omega (arith, f, here, r-less),
            λ _. omega (arith, e, before, moved, own, bounds.0, inside, is, split),
          ))
      | inr (inr more) ↦ (
          let e : (whole + 1) * turn ≤ q * turn = mul-le-mul_right turn (omega (arith, more)) in
          let f : (whole + 1) * n ≤ q * n = mul-le-mul_right n (omega (arith, more)) in
          let rest-less : rest < turn = mod_below octets turn some-turn in (
            λ low. absurd (omega (arith, low, e, before, moved, split, rest-less)),
            λ less. absurd (omega (arith, less, f, here, few)),
          ))
    ]

pub some_octets : (rate : Rate) → IsRate rate → 0 < octets_before rate.sizes (length rate.sizes)
some_octets rate is =
    let own = before_more rate.sizes 1 0 refl in
    let bounds = size_bounds rate.sizes 0 is.some is.sizes in
    let rises = before_rises rate.sizes 1 (length rate.sizes) is.some in
    omega (arith, own, bounds.0, rises)

-- ---- when frames are due
-- exactly those below the count are due before the end
pub due_before : (rate : Rate) (k : ℕ) → IsRate rate → (k < count_of rate) ↔ (due_of rate k < rate.end)
due_before rate k is =
    let moves : 0 < 125 * rate.mbits = omega (arith, is.moves) in
    let some : 1 ≤ (rate.end - rate.first) * (125 * rate.mbits) =
    (let least = mul-le-mul_right (125 * rate.mbits) (let e : 1 ≤ rate.end - rate.first = omega (arith, is.before) in e) in
    omega (arith, least, moves)) in
    let count = counted rate.sizes (last_octets rate) (octets_before rate.sizes (length rate.sizes)) k is.some is.sizes refl in
    let product = div-lt_iff_lt-mul {x = 8 * octets_before rate.sizes k} {y = rate.end - rate.first} moves in (
      λ h. (let low = count.1 h in
          let early = product.1 (omega (arith, low, some)) in
          omega (arith, early, is.before)),
      λ due. count.0 (let below = product.0 (omega (arith, due, is.before)) in omega (arith, below, some)),
    )

pub due_first : (rate : Rate) → due_of rate 0 ≡ rate.first
due_first rate =
    let none : 8 * octets_before rate.sizes 0 / (125 * rate.mbits) ≡ 0 =
    ap (λ m. 8 * m / (125 * rate.mbits)) (before_none rate.sizes) ∙ zero-div (125 * rate.mbits) in
    omega (arith, none)

pub some_frames : (rate : Rate) → IsRate rate → 1 ≤ count_of rate
some_frames rate is =
    let first = due_first rate in
    let less = (due_before rate 0 is).1 (omega (arith, first, is.before)) in
    omega (arith, less)

due_rises : (rate : Rate) (i j : ℕ) → IsRate rate → i ≤ j → due_of rate i ≤ due_of rate j
due_rises rate i j is h =
    let moves : 0 < 125 * rate.mbits = omega (arith, is.moves) in
    let octets = before_rises rate.sizes i j h in
    let low = div-mul-le_self (8 * octets_before rate.sizes i) (125 * rate.mbits) in
    let least = le-div (8 * octets_before rate.sizes i / (125 * rate.mbits)) (8 * octets_before rate.sizes j)
    (125 * rate.mbits) moves (omega (arith, octets, low)) in
    omega (arith, least)

-- ---- no more octets than 64 bits hold
pub few_octets : (rate : Rate) (k : ℕ) → IsRate rate → k ≤ count_of rate →
    octets_before rate.sizes k ≤ 700000000000000
few_octets rate zero is within = let none = before_none rate.sizes in omega (arith, none)
few_octets rate (suc k) is within =
    let bits : (rate.end - rate.first) * (125 * rate.mbits) ≤ 100000000 * 50000000 =
    mul-le (rate.end - rate.first) (125 * rate.mbits) 100000000 50000000 (omega (arith, is.end)) (omega (arith, is.slow)) in
    let count = counted rate.sizes (last_octets rate) (octets_before rate.sizes (length rate.sizes)) k is.some is.sizes refl in
    let low = count.1 (omega (arith, within)) in
    let step = before_more rate.sizes (suc k) k refl in
    let bounds = size_bounds rate.sizes k is.some is.sizes in
    omega (arith, bits, low, step, bounds.1)

pub few_frames : (rate : Rate) (k : ℕ) → IsRate rate → k ≤ count_of rate → k ≤ 700000000000000
few_frames rate k is within =
    let few = few_octets rate k is within in
    let many = before_many rate.sizes k is.some is.sizes in
    omega (arith, few, many)

-- ---- the list of frames
pub length-frames : (rate : Rate) → length (frames rate) ≡ count_of rate
unfolding frames
length-frames rate = length-map-range_with_len (frame_at rate) 0 (count_of rate)

frame_there : (rate : Rate) (i : ℕ) (d : RateFrame) → i < length (frames rate) →
    slice_index_or (frames rate) i d ≡ frame_at rate i
unfolding frames
frame_there rate i d within =
    let size = length-map-range_with_len (frame_at rate) 0 (count_of rate) in
    get_or-map-range_with_len (frame_at rate) 0 (count_of rate) i i d (omega (arith, within, size))
    (let e : 0 + i ≡ i = omega arith in e)

pub frames_rise : (rate : Rate) → IsRate rate → IsNonDecreasingBy (λ (frame : RateFrame). frame.due) (frames rate)
frames_rise rate is i j d before within =
    let one = ap (λ (frame : RateFrame). frame.due) (frame_there rate i d (omega (arith, before, within))) in
    let other = ap (λ (frame : RateFrame). frame.due) (frame_there rate j d within) in
    let rises = due_rises rate i j is before in
    omega (arith, one, other, rises)

pub frames_early : (rate : Rate) → IsRate rate → All (λ (frame : RateFrame). frame.due < rate.end) (frames rate)
frames_early rate is i d within =
    let size = length-frames rate in
    let due = ap (λ (frame : RateFrame). frame.due) (frame_there rate i d within) in
    let early = (due_before rate i is).0 (omega (arith, within, size)) in
    omega (arith, due, early)

pub frames_prefix : (rate : Rate) (k : ℕ) → k ≤ count_of rate → first_frames rate k ≡ take k (frames rate)
unfolding frames
frames_prefix rate k within = sym (take-map-range_with_len (frame_at rate) 0 (count_of rate) k within)

pub all_first : (rate : Rate) (k : ℕ) → k ≤ count_of rate →
    (rest : List RateFrame) × (frames rate ≡ first_frames rate k ++ rest)
all_first rate k within = (
  drop k (frames rate),
  sym (take-append-drop k (frames rate)) ∙ ap (λ front. front ++ drop k (frames rate)) (sym (frames_prefix rate k within)),
)

-- ---- the frames that are left
pub from_first : (rate : Rate) (k : ℕ) → k ≡ 0 → frames_from rate k ≡ frames rate
unfolding frames_from frames
from_first rate k e = rw e (ap (λ n. map (frame_at rate) (range_with_len 0 n)) (let f : count_of rate - 0 ≡ count_of rate = omega arith in f))

pub from_end : (rate : Rate) (k : ℕ) → k ≡ count_of rate → frames_from rate k ≡ []
unfolding frames_from
from_end rate k e = ap (λ n. map (frame_at rate) (range_with_len k n)) (let f : count_of rate - k ≡ 0 = omega (arith, e) in f)

pub from_next : (rate : Rate) (k j due : ℕ) (octets : List ℕ) → k < count_of rate → j ≡ suc k → due ≡ due_of rate k →
    octets ≡ frame_of (size_at rate.sizes k) (state_of rate k) →
    frames_from rate k ≡ record { due = due; octets = octets } ∷ frames_from rate j
unfolding frames_from
from_next rate k j due octets within e is-due is-octets =
    rw (is-due, is-octets)
    (ap (λ n. map (frame_at rate) (range_with_len k n))
    (let f : count_of rate - k ≡ suc (count_of rate - j) = omega (arith, within, e) in f)
    ∙ ap (λ m. frame_at rate k ∷ map (frame_at rate) (range_with_len m (count_of rate - j)))
    (let f : k + 1 ≡ j = omega (arith, e) in f))

-- ---- the tick of a place
pub due_is : (rate : Rate) (k first octets mbits : ℕ) → first ≡ rate.first → octets ≡ octets_before rate.sizes k →
    mbits ≡ rate.mbits → first + 8 * octets / (125 * mbits) ≡ due_of rate k
due_is rate k first octets mbits is-first is-octets is-mbits = rw (is-first, is-octets, is-mbits) refl
