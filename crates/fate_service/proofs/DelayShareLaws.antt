-- Which delay so many of the frames that were got don't exceed.
use Rattle.std.proofs.Common.{◌≡◌, ℕ, zero, suc, ◌+◌, ◌*◌, ◌/◌, ◌<◌, ◌≤◌, ◌&&◌, nat_le, Bool, true, false, List, []}
use Rattle.std.proofs.Common.{◌∷◌, map, refl, sym, ◌∙◌, ap, subst, arith, inl, inr, le-leb, leb-true, leb-false}
use Rattle.std.specs.Prelude.{if◌then◌else◌}
use Rattle.std.proofs.lemmas.Bool.{cases_Bool, cases_lt}
use Rattle.std.proofs.lemmas.List.Sums.{length-filter}
use Rattle.law_model.specs.session.Plan.{greatest}
use Rattle.fate_service.specs.declared.landed_frames.CarriedFrame.{CarriedFrame}
use Rattle.fate_service.specs.Stretches.{delay_of, ended_of}
use Rattle.fate_service.specs.Delays.{within_on, count_within, least_from, least_delay, delays_of}
use Rattle.fate_service.specs.service_law.LineSums.{got_count, got_within, IsLeastFor}
use Rattle.fate_service.proofs.StretchSumAndQueuePeakLaws.{got_delay, got-frames, greatest-delay}

-- ---- how many are counted
within-counted : (most n : ℕ) (frames : List CarriedFrame) → within_on n most frames ≡ n + got_within frames most
unfolding within_on
within-counted most n [] = omega arith
within-counted most n (frame ∷ frames) =
    elim (cases_Bool (frame.got && nat_le (delay_of frame) most)) [
      | inl is ↦ let rest = within-counted most (n + 1) frames in rw is (omega (arith, rest))
      | inr isnt ↦ rw isnt (within-counted most n frames)
    ]

all-within : (most : ℕ) (frames : List CarriedFrame) → greatest (map got_delay frames) ≤ most →
    got_within frames most ≡ got_count frames
all-within most [] low = refl
all-within most (frame ∷ frames) low =
    let rest = all-within most frames (omega (arith, low)) in
    elim (cases_Bool frame.got) [
      | inl got ↦
          let own : delay_of frame ≤ most =
          subst (λ b. (if b then delay_of frame else 0) ≤ most) got (omega (arith, low)) in
          rw got (rw (le-leb (delay_of frame) most own) (omega (arith, rest)))
      | inr lost ↦ rw lost rest
    ]

-- ---- the least number that meets a test
least-holds : (test : ℕ → Bool) (n count : ℕ) → test (n + count) ≡ true → test (least_from test n count) ≡ true
unfolding least_from
least-holds test n zero last = let same : n ≡ n + 0 = omega arith in ap test same ∙ last
least-holds test n (suc count) last =
    elim (cases_Bool (test n)) [
      | inl is ↦ rw is is
      | inr isnt ↦
          let same : n + 1 + count ≡ n + suc count = omega arith in
          rw isnt (least-holds test (n + 1) count (ap test same ∙ last))
    ]

least-before : (test : ℕ → Bool) (n count d : ℕ) → n ≤ d → d < least_from test n count → test d ≡ false
unfolding least_from
least-before test n zero d from before = absurd (omega (arith, from, before))
least-before test n (suc count) d from before =
    let by : Bool → Type 0 = λ b. d < (if b then n else least_from test (n + 1) count) in
    elim (cases_Bool (test n)) [
      | inl is ↦ let here : d < n = subst by is before in absurd (omega (arith, from, here))
      | inr isnt ↦
          let later : d < least_from test (n + 1) count = subst by isnt before in
          elim (cases_lt n d) [
            | inl up ↦ least-before test (n + 1) count d (omega (arith, up)) later
            | inr none ↦ let same : d ≡ n = omega (arith, from, none) in ap test same ∙ isnt
          ]
    ]

-- ---- delays
share-is : (carried : List CarriedFrame) (share frames : ℕ) → share * got_count carried ≤ 100 * frames
    → 100 * frames < share * got_count carried + 100 → frames ≤ got_count carried →
    IsLeastFor carried share (least_delay carried frames (ended_of carried).delay)
share-is carried share frames low high few =
    let top = (ended_of carried).delay in
    let test : ℕ → Bool = λ d. nat_le frames (count_within carried d) in
    let great = greatest-delay carried in
    let all = all-within top carried (omega (arith, great)) in
    let whole = within-counted top 0 carried in
    let last = le-leb frames (count_within carried top) (omega (arith, few, all, whole)) in
    let least = least_delay carried frames top in record {
      enough =
          let same : 0 + top ≡ top = omega arith in
          let met = least-holds test 0 top (ap test same ∙ last) in
          let most = leb-true frames (count_within carried least) met in
          let own = within-counted least 0 carried in
          omega (arith, low, most, own);
      less = λ d before.
          let less = leb-false frames (count_within carried d) (least-before test 0 top d (omega arith) before) in
          let own = within-counted d 0 carried in
          omega (arith, high, less, own);
    }

got-counted : (carried : List CarriedFrame) → (ended_of carried).got.frames ≡ got_count carried
got-counted carried = got-frames carried ∙ sym (length-filter (λ (frame : CarriedFrame). frame.got) carried)

pub half-is : (carried : List CarriedFrame) → IsLeastFor carried 50 (delays_of carried).half
half-is carried =
    let got = got-counted carried in
    share-is carried 50 (((ended_of carried).got.frames + 1) / 2) (omega (arith, got)) (omega (arith, got))
    (omega (arith, got))

pub most-is : (carried : List CarriedFrame) → IsLeastFor carried 99 (delays_of carried).most
most-is carried =
    let got = got-counted carried in
    share-is carried 99 ((99 * (ended_of carried).got.frames + 99) / 100) (omega (arith, got)) (omega (arith, got))
    (omega (arith, got))
