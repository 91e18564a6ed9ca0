-- Frames of sizes in turn: the octets before each, its draws, and how long it is.
use Rattle.std.proofs.Common.{◌≡◌, ℕ, zero, suc, ◌+◌, ◌-◌, ◌*◌, ◌/◌, ◌%◌, ◌<◌, ◌≤◌, ◌⊎◌, List, [], ◌∷◌, ◌++◌, length}
use Rattle.std.proofs.Common.{ap, sym, ◌∙◌, arith, refl, All, map, inl, inr, subst, take}
use Rattle.std.proofs.lemmas.Bool.{cases_eq}
use Rattle.std.proofs.lemmas.Nat.{mod_below}
use Rattle.std.proofs.lemmas.List.{length-append, length-map, length-take-le, get_or-take}
use Rattle.std.proofs.Math.Nat.{add-mod_left, mod-eq_of_lt, mul-add-mod_self_right, zero-mod}
use Rattle.std.specs.Prelude.{slice_index_or}
use Rattle.check_crc32.specs.Crc32.{least_first, ordered, fcs_of, fcs_in}
use Rattle.check_crc32.proofs.CheckBitsAndRemainderLaws.{length-fcs_of}
use Rattle.law_rates.specs.Draws.{draws, after_draws}
use Rattle.law_rates.specs.Limits.{shortest_frame, longest_frame}
use Rattle.law_rates.specs.Rates.{IsRate, head, content_of, frame_of, size_at, octets_before, state_of}
use Rattle.law_rates.specs.declared.rate_frames.Rate.{Rate}
use Rattle.law_rates.proofs.DrawLaws.{length-draws, after_draws-none, after_draws-add}

-- ---- sizes in turn
abbrev pub AreSizes : List ℕ → Type 0
AreSizes sizes = All (λ size. (shortest_frame ≤ size) × (size ≤ longest_frame)) sizes

pub size_bounds : (sizes : List ℕ) (k : ℕ) → 1 ≤ length sizes → AreSizes sizes →
    (shortest_frame ≤ size_at sizes k) × (size_at sizes k ≤ longest_frame)
size_bounds sizes k some are = are (k % length sizes) 0 (mod_below k (length sizes) some)

-- in the first turn they are the list
pub size_here : (sizes : List ℕ) (k : ℕ) → k < length sizes → size_at sizes k ≡ slice_index_or sizes k 0
size_here sizes k within = ap (λ m. slice_index_or sizes m 0) (mod-eq_of_lt within)

-- ---- the octets before a frame
pub before_none : (sizes : List ℕ) → octets_before sizes 0 ≡ 0
unfolding octets_before
before_none sizes = refl

pub before_more : (sizes : List ℕ) (j k : ℕ) → j ≡ suc k →
    octets_before sizes j ≡ octets_before sizes k + size_at sizes k
unfolding octets_before
before_more sizes j k e = rw e refl

before_add : (sizes : List ℕ) (i m j : ℕ) → j ≡ i + m → octets_before sizes i ≤ octets_before sizes j
before_add sizes i zero j e =
    let same : j ≡ i = omega (arith, e) in
    let moved = ap (octets_before sizes) same in
    omega (arith, moved)
before_add sizes i (suc m) j e =
    let rest = before_add sizes i m (i + m) refl in
    let step = before_more sizes j (i + m) (omega (arith, e)) in
    omega (arith, rest, step)

pub before_rises : (sizes : List ℕ) (i j : ℕ) → i ≤ j → octets_before sizes i ≤ octets_before sizes j
before_rises sizes i j h = before_add sizes i (j - i) j (omega (arith, h))

-- 18 octets of each frame aren't drawn
pub before_many : (sizes : List ℕ) (k : ℕ) → 1 ≤ length sizes → AreSizes sizes → 18 * k ≤ octets_before sizes k
before_many sizes zero some are = omega arith
before_many sizes (suc k) some are =
    let rest = before_many sizes k some are in
    let step = before_more sizes (suc k) k refl in
    let bounds = size_bounds sizes k some are in
    omega (arith, rest, step, bounds.0)

-- a whole turn first
before_turn : (sizes : List ℕ) (k j : ℕ) → j ≡ length sizes + k →
    octets_before sizes j ≡ octets_before sizes (length sizes) + octets_before sizes k
before_turn sizes zero j e =
    let same : j ≡ length sizes = omega (arith, e) in
    let moved = ap (octets_before sizes) same in
    let none = before_none sizes in
    omega (arith, moved, none)
before_turn sizes (suc k) j e =
    let rest = before_turn sizes k (length sizes + k) refl in
    let step = before_more sizes j (length sizes + k) (omega (arith, e)) in
    let own = before_more sizes (suc k) k refl in
    let same : size_at sizes (length sizes + k) ≡ size_at sizes k =
    ap (λ m. slice_index_or sizes m 0) (add-mod_left (length sizes) k) in
    omega (arith, rest, step, own, same)

-- and whole turns
pub before_turns : (sizes : List ℕ) (turns k j : ℕ) → j ≡ turns * length sizes + k →
    octets_before sizes j ≡ turns * octets_before sizes (length sizes) + octets_before sizes k
before_turns sizes zero k j e =
    let same : j ≡ k = omega (arith, e) in
    let moved = ap (octets_before sizes) same in
    omega (arith, moved)
before_turns sizes (suc turns) k j e =
    let rest = before_turns sizes turns k (turns * length sizes + k) refl in
    let step = before_turn sizes (turns * length sizes + k) j (omega (arith, e)) in
    omega (arith, rest, step)

-- the octets before any frame, and those before one of the first of some sizes
pub before_parts : (sizes : List ℕ) (k : ℕ) → 1 ≤ length sizes →
    octets_before sizes k
    ≡ k / length sizes * octets_before sizes (length sizes) + octets_before sizes (k % length sizes)
before_parts sizes k some = before_turns sizes (k / length sizes) (k % length sizes) k (omega (arith, some))

first_same : (sizes : List ℕ) (n k : ℕ) → k ≤ n → n ≤ length sizes →
    octets_before (take n sizes) k ≡ octets_before sizes k
first_same sizes n zero few within =
    let none = before_none sizes in
    let other = before_none (take n sizes) in
    omega (arith, none, other)
first_same sizes n (suc k) few within =
    let long = length-take-le n sizes within in
    let rest = first_same sizes n k (omega (arith, few)) within in
    let step = before_more sizes (suc k) k refl in
    let other = before_more (take n sizes) (suc k) k refl in
    let here = size_here sizes k (omega (arith, few, within)) in
    let there = size_here (take n sizes) k (omega (arith, few, long)) in
    let same = get_or-take n sizes k 0 (omega (arith, few)) in
    omega (arith, rest, step, other, here, there, same)

pub before_first : (sizes : List ℕ) (n : ℕ) → n ≤ length sizes →
    octets_before (take n sizes) (length (take n sizes)) ≡ octets_before sizes n
before_first sizes n within =
    ap (octets_before (take n sizes)) (length-take-le n sizes within) ∙ first_same sizes n n (omega arith) within

-- ---- the state of draws
pub first_state : (rate : Rate) → state_of rate 0 ≡ rate.number
first_state rate =
    let none = before_none rate.sizes in
    ap (λ m. after_draws m rate.number) (let e : octets_before rate.sizes 0 - 18 * 0 ≡ 0 = omega (arith, none) in e)
    ∙ after_draws-none rate.number

pub next_state : (rate : Rate) (k j : ℕ) → IsRate rate → j ≡ suc k →
    state_of rate j ≡ after_draws (size_at rate.sizes k - 18) (state_of rate k)
next_state rate k j is e =
    let many = before_many rate.sizes k is.some is.sizes in
    let step = before_more rate.sizes j k e in
    let bounds = size_bounds rate.sizes k is.some is.sizes in
    ap (λ m. after_draws m rate.number)
    (let e : octets_before rate.sizes j - 18 * j ≡ octets_before rate.sizes k - 18 * k + (size_at rate.sizes k - 18) =
    omega (arith, e, many, step, bounds.0) in e)
    ∙ after_draws-add (octets_before rate.sizes k - 18 * k) (size_at rate.sizes k - 18) rate.number

-- ---- how long a frame is
length-check : (octets : List ℕ) → length (fcs_in least_first octets) ≡ 4
length-check octets =
    length-map (fcs_of (map (ordered least_first) octets)) (ordered least_first)
    ∙ length-fcs_of (map (ordered least_first) octets)

pub length-frame_of : (octets state : ℕ) → 64 ≤ octets → length (frame_of octets state) ≡ octets
length-frame_of octets state h =
    let drawn : List ℕ = draws (octets - 18) 256 state in
    omega (
      arith,
      length-append (content_of octets state) (fcs_in least_first (content_of octets state)),
      length-check (content_of octets state),
      length-append head drawn,
      length-draws (octets - 18) 256 state,
    )

-- ---- the size of the next turn
pub next_turn : (k n turn : ℕ) → 1 ≤ n → turn ≡ k % n →
    ((turn + 1 ≡ n) × (suc k % n ≡ 0)) ⊎ ((turn + 1 < n) × (suc k % n ≡ turn + 1))
next_turn k n turn some is =
    let less = mod_below k n some in
    elim (cases_eq (turn + 1) n) [
      | inl last ↦ inl (
        last,
        ap (λ m. m % n) (let e : suc k ≡ (k / n + 1) * n + 0 = omega (arith, is, last, some) in e)
            ∙ mul-add-mod_self_right (k / n + 1) n 0 ∙ zero-mod n,
      )
      | inr other ↦ (
          let within : turn + 1 < n = omega (arith, is, other, less) in
          inr (
            within,
            ap (λ m. m % n) (let e : suc k ≡ k / n * n + (turn + 1) = omega (arith, is, some) in e)
                ∙ mul-add-mod_self_right (k / n) n (turn + 1) ∙ mod-eq_of_lt within,
          ))
    ]
