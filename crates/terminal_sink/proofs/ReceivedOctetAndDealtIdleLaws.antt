-- The octets that a receiver gets, with the frames that they add; and idle frames that are dealt to members.
use Rattle.std.proofs.Common.{◌≡◌, ℕ, zero, suc, inl, inr, slice_index, ◌≤◌, ◌∷◌, ◌+◌, ◌-◌, arith, take_all, Bool}
use Rattle.std.proofs.Common.{List, [], ◌++◌, length, take, drop, refl, sym, ◌∙◌, ap, subst, append_assoc, flat_map}
use Rattle.std.proofs.Common.{append-nil, drop_at, ◌*◌, ◌/◌, ◌%◌, ◌<◌, ap₂, length-append, div-add-mod'}
use Rattle.std.proofs.lemmas.Bool.{cases_lt}
use Rattle.std.proofs.lemmas.List.{drop_more, get_or_append_left, get_or-append_right, get_or-map}
use Rattle.law_model.specs.Common.{octets_from, outcomes, longest_frame, core_header, Container}
use Rattle.std.proofs.lemmas.List.Concat.{flat_map-append}
use Rattle.law_model.specs.frames.Delivery.{frame_in}
use Rattle.gfp_delineate.specs.declared.delineator.Step.{Step}
use Rattle.gfp_delineate.specs.declared.delineator.Step.TheVariants.{Nothing}
use Rattle.terminal_sink.specs.marked_delineator.Marks.{Marked as Receiver, StandsIn, told_outcomes, Advances, Brings}
use Rattle.gfp_delineate.proofs.AreaOutcomeLaws.{told, frames_told}
use Rattle.law_loss.specs.AddedFrames.{frames_in, next_frames}
use Rattle.law_loss.proofs.SegmentsOfAddedRowsLaws.{next-none, next-more, adds}
use Rattle.terminal_sink.specs.sink_core.RowsInReceiver.{IsKnown, Grows, Gives, IsIdle}
use Rattle.law_model.proofs.CoreHeaderLaws.{idle_header, core_header-idle}
use Rattle.member_rows.specs.vcat_interleave.MemberPayloads.{payload_at, payloads_of}
use Rattle.member_rows.proofs.RowPartAndLaneLaws.{is-row, within-row}
use Rattle.gfp_delineate.specs.Repeated.{repeated, idles_from}

-- ---- Octets that a receiver gets one after the other, and the frames that they add.
pub known-grows : (was now : Receiver) (more : List ℕ) → IsKnown was → Grows was now more → IsKnown now
known-grows was now more (first, octets, stands) grows = (first, octets ++ more, grows first octets stands)

pub grows-none : (was : Receiver) → Grows was was []
grows-none was first octets stands = subst (StandsIn was longest_frame first) (sym (append-nil octets)) stands

pub grows-more : (was then' now : Receiver) (a b : List ℕ) → Grows was then' a → Grows then' now b →
    Grows was now (a ++ b)
grows-more was then' now a b one two first octets stands =
    subst (StandsIn now longest_frame first) (append_assoc octets a b) (two first (octets ++ a) (one first octets stands))

pub gives-none : {A : Type 0} (stands : A → List (List ℕ) → Type 0) (was : Receiver) (out : A) →
    Gives stands was [] out out
gives-none stands was out first octets has frames before =
    subst (stands out) (sym (append-nil frames) ∙ ap (λ l. frames ++ l) (sym (next-none longest_frame first octets))) before

pub gives-more : {A : Type 0} (stands : A → List (List ℕ) → Type 0) (was then' : Receiver) (a b : List ℕ)
    (before middle after : A) → Grows was then' a →
    Gives stands was a before middle → Gives stands then' b middle after → Gives stands was (a ++ b) before after
gives-more stands was then' a b before middle after grows one two first octets has frames given =
    let front : List (List ℕ) = next_frames longest_frame first octets a in
    let back : List (List ℕ) = next_frames longest_frame first (octets ++ a) b in
    subst (stands after)
    (append_assoc frames front back
    ∙ ap (λ l. frames ++ l) (sym (next-more longest_frame first octets a b (adds longest_frame first octets a)
    (adds longest_frame first (octets ++ a) b))))
    (two first (octets ++ a) (grows first octets has) (frames ++ front) (one first octets has frames given))

-- the frames that octets add are those that the answer tells
pub next-told : (receiver : Receiver) (step : Step) (first : Bool) (octets more : List ℕ) →
    outcomes longest_frame first (octets ++ more) ≡ outcomes longest_frame first octets ++ told_outcomes receiver step →
    next_frames longest_frame first octets more ≡ told receiver.receiver step
next-told receiver step first octets more outcome =
    let before : List (List ℕ) = frames_in longest_frame first octets in
    ap (drop (length before))
    (ap (flat_map frame_in) outcome
    ∙ flat_map-append frame_in (outcomes longest_frame first octets) (told_outcomes receiver step)
    ∙ ap (λ l. before ++ l) (frames_told receiver.receiver step))
    ∙ drop_at before (told receiver.receiver step) (length before) refl

-- ---- octets that change nothing
pub idle-none : (receiver : Receiver) (more : List ℕ) → more ≡ [] → IsIdle receiver more
idle-none receiver more none first octets stands = (
  subst (StandsIn receiver longest_frame first) (sym (ap (λ l. octets ++ l) none ∙ append-nil octets)) stands,
  ap (next_frames longest_frame first octets) none ∙ next-none longest_frame first octets,
)

pub idle-by : (receiver : Receiver) (more : List ℕ) → Advances receiver receiver more × Brings receiver more [] →
    IsIdle receiver more
idle-by receiver more both first octets stands =
    (both.0 longest_frame first octets stands, next-told receiver Nothing first octets more (both.1 longest_frame first octets stands))

pub idle-grows : (receiver : Receiver) (more : List ℕ) → IsIdle receiver more → Grows receiver receiver more
idle-grows receiver more idle first octets stands = (idle first octets stands).0

pub idle-gives : {A : Type 0} (stands : A → List (List ℕ) → Type 0) (receiver : Receiver) (more : List ℕ) (out : A) →
    IsIdle receiver more → Gives stands receiver more out out
idle-gives stands receiver more out idle first octets has frames before =
    subst (stands out) (sym (append-nil frames) ∙ ap (λ l. frames ++ l) (sym (idle first octets has).1)) before

-- ---- the octets of one member
pub octets_from-single : (place n : ℕ) (payload : List ℕ) → place + n ≤ length payload →
    octets_from place n (payload ∷ []) ≡ take n (drop place payload)
unfolding octets_from
octets_from-single place zero payload fits = refl
octets_from-single place (suc n) payload fits =
    let next = drop_more payload place 0 (omega arith) in
    ap (λ l. slice_index payload place ∷ l)
    (octets_from-single (suc place) n payload (omega arith)
    ∙ ap (λ k. take n (drop k payload)) (let e : suc place ≡ place + 1 = omega arith in e))
    ∙ sym (ap (take (suc n)) next)

pub long-enough : (size : ℕ) (payload : List ℕ) → length (take size payload) ≡ size → size ≤ length payload
long-enough size payload long =
    elim (cases_lt (length payload) size) [
      | inl few ↦ absurd (let e = ap length (take_all size payload (omega arith)) in omega arith)
      | inr room ↦ room
    ]

-- ---- Idle frames that are dealt to members.
-- ---- octets again and again
pub length-repeated : (n k : ℕ) (octets : List ℕ) → length octets ≡ k → length (repeated n octets) ≡ n * k
length-repeated zero k octets size = let e : 0 ≡ 0 * k = omega arith in e
length-repeated (suc n) k octets size =
    length-append octets (repeated n octets)
    ∙ ap₂ (λ a b. a + b) size (length-repeated n k octets size)
    ∙ (let e : k + n * k ≡ suc n * k = omega arith in e)

get-turn : (n k q r : ℕ) (octets : List ℕ) → length octets ≡ k → q < n → r < k →
    slice_index (repeated n octets) (q * k + r) ≡ slice_index octets r
get-turn zero k q r octets size below within = absurd (omega arith)
get-turn (suc n) k zero r octets size below within =
    ap (slice_index (octets ++ repeated n octets)) (let e : 0 * k + r ≡ r = omega arith in e)
    ∙ get_or_append_left octets (repeated n octets) 0 r (omega arith)
get-turn (suc n) k (suc q) r octets size below within =
    get_or-append_right octets (repeated n octets) k (suc q * k + r) 0 size (omega arith)
    ∙ ap (slice_index (repeated n octets)) (let e : suc q * k + r - k ≡ q * k + r = omega arith in e)
    ∙ get-turn n k q r octets size (omega arith) within

pub get-eights : (n i : ℕ) (octets : List ℕ) → length octets ≡ 8 → i < n * 8 →
    slice_index (repeated n octets) i ≡ slice_index octets (i % 8)
get-eights n i octets size within =
    ap (slice_index (repeated n octets)) (sym (div-add-mod' i 8))
    ∙ get-turn n 8 (i / 8) (i % 8) octets size (omega arith) (omega arith)

pub get-eight : (octet : ℕ → ℕ) (a b c d e f g h : ℕ) → a ≡ octet 0 → b ≡ octet 1 → c ≡ octet 2 → d ≡ octet 3 →
    e ≡ octet 4 → f ≡ octet 5 → g ≡ octet 6 → h ≡ octet 7 →
    (i : ℕ) → i < 8 → slice_index (a ∷ b ∷ c ∷ d ∷ e ∷ f ∷ g ∷ h ∷ []) i ≡ octet i
get-eight octet a b c d e f g h p0 p1 p2 p3 p4 p5 p6 p7 zero below = p0
get-eight octet a b c d e f g h p0 p1 p2 p3 p4 p5 p6 p7 (suc zero) below = p1
get-eight octet a b c d e f g h p0 p1 p2 p3 p4 p5 p6 p7 (suc (suc zero)) below = p2
get-eight octet a b c d e f g h p0 p1 p2 p3 p4 p5 p6 p7 (suc (suc (suc zero))) below = p3
get-eight octet a b c d e f g h p0 p1 p2 p3 p4 p5 p6 p7 (suc (suc (suc (suc zero)))) below = p4
get-eight octet a b c d e f g h p0 p1 p2 p3 p4 p5 p6 p7 (suc (suc (suc (suc (suc zero))))) below = p5
get-eight octet a b c d e f g h p0 p1 p2 p3 p4 p5 p6 p7 (suc (suc (suc (suc (suc (suc zero)))))) below = p6
get-eight octet a b c d e f g h p0 p1 p2 p3 p4 p5 p6 p7 (suc (suc (suc (suc (suc (suc (suc zero))))))) below = p7
get-eight octet a b c d e f g h p0 p1 p2 p3 p4 p5 p6 p7 (suc (suc (suc (suc (suc (suc (suc (suc i)))))))) below =
    absurd (omega arith)

-- ---- the octets of idle frames
turn : ℕ → List ℕ
turn have = drop have (core_header 0) ++ take have (core_header 0)

turned : ℕ → List ℕ
turned have = drop have idle_header ++ take have idle_header

turn-is : (have : ℕ) → turn have ≡ turned have
unfolding turn turned
turn-is have = ap (λ header. drop have header ++ take have header) core_header-idle

length-turned : (have : ℕ) → have < 4 → length (turned have) ≡ 4
unfolding turned
length-turned zero below = refl
length-turned (suc zero) below = refl
length-turned (suc (suc zero)) below = refl
length-turned (suc (suc (suc zero))) below = refl
length-turned (suc (suc (suc (suc have)))) below = absurd (omega arith)

get-turned : (have i : ℕ) → have < 4 → i < 4 → slice_index (turned have) i ≡ slice_index idle_header ((have + i) % 4)
unfolding turned
get-turned zero zero a b = refl
get-turned zero (suc zero) a b = refl
get-turned zero (suc (suc zero)) a b = refl
get-turned zero (suc (suc (suc zero))) a b = refl
get-turned (suc zero) zero a b = refl
get-turned (suc zero) (suc zero) a b = refl
get-turned (suc zero) (suc (suc zero)) a b = refl
get-turned (suc zero) (suc (suc (suc zero))) a b = refl
get-turned (suc (suc zero)) zero a b = refl
get-turned (suc (suc zero)) (suc zero) a b = refl
get-turned (suc (suc zero)) (suc (suc zero)) a b = refl
get-turned (suc (suc zero)) (suc (suc (suc zero))) a b = refl
get-turned (suc (suc (suc zero))) zero a b = refl
get-turned (suc (suc (suc zero))) (suc zero) a b = refl
get-turned (suc (suc (suc zero))) (suc (suc zero)) a b = refl
get-turned (suc (suc (suc zero))) (suc (suc (suc zero))) a b = refl
get-turned (suc (suc (suc (suc have)))) i a b = absurd (omega arith)
get-turned have (suc (suc (suc (suc i)))) a b = absurd (omega arith)

length-idles : (have count : ℕ) → have < 4 → length (idles_from have count) ≡ count * 4
unfolding turn
length-idles have count below =
    length-repeated count 4 (turn have) (ap length (turn-is have) ∙ length-turned have below)

get-idles : (have count i : ℕ) → have < 4 → i < count * 4 →
    slice_index (idles_from have count) i ≡ slice_index (core_header 0) ((have + i) % 4)
unfolding turn
get-idles have count i below within =
    ap (slice_index (repeated count (turn have))) (sym (div-add-mod' i 4))
    ∙ get-turn count 4 (i / 4) (i % 4) (turn have) (ap length (turn-is have) ∙ length-turned have below) (omega arith)
    (omega arith)
    ∙ ap (λ l. slice_index l (i % 4)) (turn-is have)
    ∙ get-turned have (i % 4) below (omega arith)
    ∙ ap₂ (λ header n. slice_index header n) (sym core_header-idle)
    (let e : (have + i % 4) % 4 ≡ (have + i) % 4 = omega arith in e)

-- ---- dealt to members
-- eight places on a member is at the same place of a header
same-place : (have rank p x : ℕ) → (have + (p * x + rank)) % 4 ≡ (have + rank + p % 8 * x) % 4
same-place have rank p x =
    let parts : p * x ≡ 8 * (p / 8 * x) + p % 8 * x = ap (λ n. n * x) (sym (div-add-mod' p 8))
    ∙ (let e : (p / 8 * 8 + p % 8) * x ≡ 8 * (p / 8 * x) + p % 8 * x = omega arith in e) in
    omega (arith, parts)

-- the octets of idle frames at a place of each of these members
abbrev pub AreDealt : ℕ → ℕ → ℕ → ℕ → List Container → List ℕ → Type 0
AreDealt have place places upto containers active = (rank p : ℕ) → rank < upto → p < places →
    slice_index (payload_at containers (slice_index active rank)) (place + p) ≡ slice_index (core_header 0)
    ((have + rank + p % 8 * length active) % 4)

pub idles-dealt : (have place places : ℕ) (containers : List Container) (active : List ℕ) → have < 4 → places % 8 ≡ 0 →
    AreDealt have place places (length active) containers active →
    octets_from place places (payloads_of containers active) ≡ idles_from have (places / 4 * length active)
idles-dealt have place places containers active below eights dealt =
    let x : ℕ = length active in
    let fours : places ≡ places / 4 * 4 = omega (arith, eights) in
    let size : places / 4 * x * 4 ≡ places * x = (let e : places / 4 * x * 4 ≡ places / 4 * 4 * x = omega arith in e)
    ∙ ap (λ n. n * x) (sym fours) in
    sym (is-row containers active place places (idles_from have (places / 4 * x))
    (length-idles have (places / 4 * x) below ∙ size)
    (λ p rank low few.
    get-idles have (places / 4 * x) (p * x + rank) below (omega (arith, size, within-row x places p rank low few))
    ∙ ap (slice_index (core_header 0)) (same-place have rank p x)
    ∙ sym (dealt rank p few low)
    ∙ ap (λ payload. slice_index payload (place + p)) (sym (get_or-map (payload_at containers) active rank 0 [] few))))
