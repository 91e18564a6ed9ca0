-- Sums over parts that follow each other: what the stretches add up to, and the peak of the queue.
use Rattle.std.proofs.Common.{◌≡◌, ℕ, zero, suc, ◌+◌, ◌*◌, ◌<◌, ◌≤◌, ◌&&◌, min, max, nat_le, nat_lt, Bool, true, false}
use Rattle.std.proofs.Common.{List, [], ◌∷◌, map, filter, All, Some, slice_get, refl, sym, ◌∙◌, ap, subst, arith, inl}
use Rattle.std.proofs.Common.{inr, suc-mul, sum_by, ◌++◌, take, drop, Option, ap₂, ◌-◌}
use Rattle.std.specs.Prelude.{if◌then◌else◌}
use Rattle.std.proofs.lemmas.Bool.{cases_Bool, cases_lt, lt-ltb, le-ltb, le-leb, lt-leb, cases_order}
use Rattle.std.proofs.lemmas.List.Sums.{sum_by-cons, sum_by-append}
use Rattle.std.proofs.lemmas.List.Elements.{All-head, All-tail, All-nil, All-cons}
use Rattle.std.specs.List.{flat_map}
use Rattle.law_loss.proofs.ClientFrameExtentLaws.{and_false}
use Rattle.law_model.specs.session.Plan.{greatest}
use Rattle.fate_service.specs.Stretches.{is_in, spans_on, spans_of, with_offered, came_on, came_of, came_in, delay_of}
use Rattle.fate_service.specs.Stretches.{with_carried, ended_on, ended_of as ended_by, ended_in, capacity_in, dark_in}
use Rattle.fate_service.specs.Stretches.{Known, stretch_of, higher, peak_on, peak_in, queue_in}
use Rattle.fate_service.specs.service_law.LineSums.{FollowOn, total_of, IsPeak, IsHighest}
use Rattle.law_model.specs.Common.{Leg, Counts, scenario_by, place_of}
use Rattle.law_walk.specs.Common.{session_of, session_rows}
use Rattle.fate_engine.specs.declared.fate_law.Cause.{Cause}
use Rattle.fate_engine.specs.Common.{ended_of, row_cause}
use Rattle.fate_engine.proofs.FrameFateAndPieceLaws.{place-up}
use Rattle.fate_service.specs.declared.landed_frames.CarriedFrame.{CarriedFrame}
use Rattle.fate_service.specs.declared.landed_frames.OfferedFrame.{OfferedFrame}
use Rattle.fate_service.specs.declared.landed_frames.Tally.{Tally}
use Rattle.fate_service.specs.declared.outages.Outage.{Outage}
use Rattle.fate_service.specs.declared.row_states.RowState.{RowState}
use Rattle.fate_service.specs.declared.stretch_counts.Came.{Came}
use Rattle.fate_service.specs.declared.stretch_counts.Ended.{Ended}
use Rattle.fate_service.specs.FrameColumns.{no_frames, carried_of}
use Rattle.fate_service.specs.RowStates.{states_of, is_dark, dark_on, dark_among}
use Rattle.fate_service.specs.Outages.{outages_of, losses, next_first}
use Rattle.fate_service.specs.Delays.{delays_of}
use Rattle.fate_service.specs.ServiceText.{members_text, outage_text, outages_text, stretch_text, stretches_text}
use Rattle.fate_service.specs.ServiceText.{delays_text, last_text, known_of, told_of, ends_of, service_text}
use Rattle.fate_service.specs.service_law.LinesAsNumbers.{members_in, outage_lines, outages_in, outage_line_text}
use Rattle.fate_service.specs.service_law.LinesAsNumbers.{StretchLine, stretch_line, stretches_in, stretch_line_text}
use Rattle.fate_service.specs.service_law.LinesAsNumbers.{all_of}
use Rattle.fate_service.specs.declared.stretch_counts.Peak.{Peak}

-- ---- Sums over parts that follow each other.
-- ---- of elements with a key from one number on to below another
own-split : (w n a b d : ℕ) → a ≤ b → b ≤ d →
    ((if is_in a d n then w else 0) ≡ (if is_in a b n then w else 0) + (if is_in b d n then w else 0))
    × ((if is_in a d n then w else 0) ≡ max (if is_in a b n then w else 0) (if is_in b d n then w else 0))
own-split w n a b d low high =
    elim (cases_lt n b) [
      | inl before ↦
          rw (lt-ltb n d (omega (arith, before, high)), lt-ltb n b before, lt-leb b n before) (omega arith, omega arith)
      | inr behind ↦
          rw (le-leb a n (omega (arith, low, behind)), le-ltb n b behind, le-leb b n behind) (omega arith, omega arith)
    ]

own-none : (n a : ℕ) → is_in a a n ≡ false
own-none n a =
    elim (cases_lt n a) [
      | inl before ↦ ap (λ b. b && nat_lt n a) (lt-leb a n before)
      | inr behind ↦ ap (λ b. nat_le a n && b) (le-ltb n a behind) ∙ and_false (nat_le a n)
    ]

-- of elements that pass
filter-cons : {X : Type 0} (f : X → ℕ) (p : X → Bool) (x : X) (xs : List X) →
    sum_by f (filter p (x ∷ xs)) ≡ (if p x then f x else 0) + sum_by f (filter p xs)
filter-cons f p x xs =
    elim (cases_Bool (p x)) [
      | inl is ↦ rw is (sum_by-cons f x (filter p xs))
      | inr isnt ↦ rw isnt (omega arith)
    ]

module _ {X : Type 0} (key : X → ℕ) (weight : X → ℕ) where
  abbrev pub within : ℕ → ℕ → List X → List X
  within a b xs = filter (λ (x : X). is_in a b (key x)) xs

  abbrev pub part : ℕ → ℕ → List X → ℕ
  part a b xs = sum_by weight (within a b xs)

  abbrev pub most : ℕ → ℕ → List X → ℕ
  most a b xs = greatest (map weight (within a b xs))

  part-cons : (a b : ℕ) (x : X) (xs : List X) →
      part a b (x ∷ xs) ≡ (if is_in a b (key x) then weight x else 0) + part a b xs
  part-cons a b x xs = filter-cons weight (λ (x : X). is_in a b (key x)) x xs

  most-cons : (a b : ℕ) (x : X) (xs : List X) →
      most a b (x ∷ xs) ≡ max (if is_in a b (key x) then weight x else 0) (most a b xs)
  most-cons a b x xs =
      elim (cases_Bool (is_in a b (key x))) [
        | inl is ↦ rw is refl
        | inr isnt ↦ rw isnt (omega arith)
      ]

  pub part-split : (xs : List X) (a b d : ℕ) → a ≤ b → b ≤ d → part a d xs ≡ part a b xs + part b d xs
  part-split [] a b d low high = refl
  part-split (x ∷ xs) a b d low high =
      let rest = part-split xs a b d low high in
      let whole = part-cons a d x xs in
      let one = part-cons a b x xs in
      omega (arith, rest, (own-split (weight x) (key x) a b d low high).0, whole, one, part-cons b d x xs)

  pub most-split : (xs : List X) (a b d : ℕ) → a ≤ b → b ≤ d → most a d xs ≡ max (most a b xs) (most b d xs)
  most-split [] a b d low high = refl
  most-split (x ∷ xs) a b d low high =
      let rest = most-split xs a b d low high in
      let whole = most-cons a d x xs in
      let one = most-cons a b x xs in
      omega (arith, rest, (own-split (weight x) (key x) a b d low high).1, whole, one, most-cons b d x xs)

  pub most-none : (xs : List X) (a : ℕ) → most a a xs ≡ 0
  most-none [] a = refl
  most-none (x ∷ xs) a = rw (own-none (key x) a) (most-none xs a)

-- all elements are within
pub filter-whole : {X : Type 0} (p : X → Bool) (xs : List X) → All (λ (x : X). p x ≡ true) xs → filter p xs ≡ xs
filter-whole p [] each = refl
filter-whole {X} p (x ∷ xs) each =
    rw (All-head (λ (x : X). p x ≡ true) x xs each)
    (ap (λ l. x ∷ l) (filter-whole p xs (All-tail (λ (x : X). p x ≡ true) x xs each)))

-- ---- sums of lists that are made of others
pub sum-same : {X : Type 0} (f g : X → ℕ) → ((x : X) → f x ≡ g x) → (xs : List X) → sum_by f xs ≡ sum_by g xs
sum-same f g same [] = refl
sum-same f g same (x ∷ xs) =
    omega (arith, sum_by-cons f x xs, sum_by-cons g x xs, same x, sum-same f g same xs)

pub sum-four : {X : Type 0} (f a b d e : X → ℕ) → ((x : X) → f x ≡ a x + b x + d x + e x) → (xs : List X) →
    sum_by f xs ≡ sum_by a xs + sum_by b xs + sum_by d xs + sum_by e xs
sum-four f a b d e same [] = refl
sum-four f a b d e same (x ∷ xs) =
    let all = sum_by-cons f x xs in
    let one = sum_by-cons a x xs in
    let rest = sum-four f a b d e same xs in
    omega (arith, all, one, sum_by-cons b x xs, sum_by-cons d x xs, sum_by-cons e x xs, same x, rest)

pub sum-map-by : {X Y : Type 0} (f : Y → ℕ) (h : X → Y) (xs : List X) →
    sum_by f (map h xs) ≡ sum_by (λ (x : X). f (h x)) xs
sum-map-by f h [] = refl
sum-map-by {X} f h (x ∷ xs) =
    omega (arith, sum_by-cons f (h x) (map h xs), sum_by-cons (λ (x : X). f (h x)) x xs, sum-map-by f h xs)

pub sum-flat : {X Y : Type 0} (f : Y → ℕ) (h : X → List Y) (xs : List X) →
    sum_by f (flat_map h xs) ≡ sum_by (λ (x : X). sum_by f (h x)) xs
sum-flat f h [] = refl
sum-flat {X} f h (x ∷ xs) =
    let two = sum_by-cons (λ (x : X). sum_by f (h x)) x xs in
    omega (arith, sum_by-append f (h x) (flat_map h xs), two, sum-flat f h xs)

pub sum-filter : {X : Type 0} (f : X → ℕ) (p : X → Bool) (xs : List X) →
    sum_by f (filter p xs) ≡ sum_by (λ (x : X). if p x then f x else 0) xs
sum-filter f p [] = refl
sum-filter {X} f p (x ∷ xs) =
    omega (arith, filter-cons f p x xs, sum_by-cons (λ (x : X). if p x then f x else 0) x xs, sum-filter f p xs)

-- ---- a fold that goes from the front adds up what each element adds
module _ {B X : Type 0} (on : B → List X → B) (next : B → X → B) (none : (b : B) → on b [] ≡ b)
    (more : (b : B) (x : X) (xs : List X) → on b (x ∷ xs) ≡ on (next b x) xs) where
  pub counted : (column : B → ℕ) (weight : X → ℕ) → ((b : B) (x : X) → column (next b x) ≡ column b + weight x) →
      (b : B) (xs : List X) → column (on b xs) ≡ column b + sum_by weight xs
  counted column weight step b [] = let e = ap column (none b) in omega (arith, e)
  counted column weight step b (x ∷ xs) =
      let rest = counted column weight step (next b x) xs in
      omega (arith, ap column (more b x xs), rest, step b x, sum_by-cons weight x xs)

  pub highest : (column : B → ℕ) (weight : X → ℕ) → ((b : B) (x : X) → column (next b x) ≡ max (column b) (weight x)) →
      (b : B) (xs : List X) → column (on b xs) ≡ max (column b) (greatest (map weight xs))
  highest column weight step b [] = let e = ap column (none b) in omega (arith, e)
  highest column weight step b (x ∷ xs) =
      omega (arith, ap column (more b x xs), highest column weight step (next b x) xs, step b x)

-- ---- parts that follow each other
pub follow-up : (from : ℕ) (parts : List (ℕ × ℕ)) (end : ℕ) → FollowOn from parts end → from ≤ end
unfolding FollowOn
follow-up from [] end follow = omega (arith, follow)
follow-up from (part ∷ parts) end follow =
    omega (arith, follow-up part.1 parts end follow.2, follow.0, follow.1)

module _ {X : Type 0} (line : ℕ × ℕ → X) (column : X → ℕ) where
  abbrev pub value : ℕ → ℕ → ℕ
  value a b = column (line (a, b))

  pub add-up : ((a b d : ℕ) → a ≤ b → b ≤ d → value a d ≡ value a b + value b d) → (from : ℕ) (parts : List (ℕ × ℕ))
      (end : ℕ) → FollowOn from parts end → value from end ≡ sum_by column (map line parts)
  unfolding FollowOn
  add-up splits from [] end follow =
      omega (arith, splits end end end (omega arith) (omega arith), ap (λ n. value n end) follow)
  add-up splits from (part ∷ parts) end follow =
      let begins = follow.0 in
      let high = follow-up part.1 parts end follow.2 in
      let same = ap (λ n. value n part.1) begins in
      let rest = add-up splits part.1 parts end follow.2 in
      let sum = sum_by-cons column (line part) (map line parts) in
      omega (arith, rest, splits from part.1 end (omega (arith, begins, follow.1)) high, same, sum)

  pub add-most : ((a : ℕ) → value a a ≡ 0) → ((a b d : ℕ) → a ≤ b → b ≤ d → value a d ≡ max (value a b) (value b d)) →
      (from : ℕ) (parts : List (ℕ × ℕ)) (end : ℕ) → FollowOn from parts end →
      value from end ≡ greatest (map column (map line parts))
  unfolding FollowOn
  add-most none splits from [] end follow = omega (arith, none end, ap (λ n. value n end) follow)
  add-most none splits from (part ∷ parts) end follow =
      let begins = follow.0 in
      let high = follow-up part.1 parts end follow.2 in
      let same = ap (λ n. value n part.1) begins in
      let rest = add-most none splits part.1 parts end follow.2 in
      omega (arith, rest, splits from part.1 end (omega (arith, begins, follow.1)) high, same)

-- ---- the stretches of an interval
spans-on : (n interval first told : ℕ) → 1 ≤ interval → told ≤ first + n →
    FollowOn (min told first) (spans_on n interval first told) told
unfolding FollowOn spans_on
spans-on zero interval first told some reach = omega (arith, reach)
spans-on (suc n) interval first told some reach =
    elim (cases_lt first told) [
      | inl low ↦ rw (lt-ltb first told low) (
        omega (arith, low),
        omega (arith, low, some),
        spans-on n interval (first + interval) told some (omega (arith, reach, some)),
      )
      | inr high ↦ rw (le-ltb first told high) (omega (arith, high))
    ]

pub spans-follow : (interval told : ℕ) → 1 ≤ interval → FollowOn 0 (spans_of interval told) told
spans-follow interval told some =
    subst (λ n. FollowOn n (spans_of interval told) told) (let e : min told 0 ≡ 0 = omega arith in e)
    (spans-on told interval 0 told some (omega arith))

span-at : (n interval first told i : ℕ) → 1 ≤ interval → told ≤ first + n → first + i * interval < told →
    slice_get (spans_on n interval first told) i
    ≡ Some (first + i * interval, min told (first + i * interval + interval))
unfolding spans_on
span-at zero interval first told i some reach low = absurd (omega (arith, reach, low))
span-at (suc n) interval first told zero some reach low =
    let here : first + zero * interval ≡ first = omega arith in
    rw (lt-ltb first told (omega (arith, low, here)))
    (ap (λ k. Some (k, min told (k + interval))) (sym here))
span-at (suc n) interval first told (suc i) some reach low =
    let more : suc i * interval ≡ i * interval + interval = suc-mul i interval in
    let same : first + interval + i * interval ≡ first + suc i * interval = omega (arith, more) in
    rw (lt-ltb first told (omega (arith, low, more, some)))
    (span-at n interval (first + interval) told i some (omega (arith, reach, some)) (omega (arith, low, same))
    ∙ ap (λ k. Some (k, min told (k + interval))) same)

pub span-each : (interval told i : ℕ) → 1 ≤ interval → i * interval < told →
    slice_get (spans_of interval told) i ≡ Some (i * interval, min told (i * interval + interval))
span-each interval told i some low =
    let same : 0 + i * interval ≡ i * interval = omega arith in
    span-at told interval 0 told i some (omega arith) (omega (arith, low, same))
    ∙ ap (λ k. Some (k, min told (k + interval))) same

-- ---- The lines of a text, and what the stretches add up to.
-- ---- the lines of the text
outages-lines : (cause : ℕ → Option Cause) (carried : List CarriedFrame) (rows : ℕ) (outages : List Outage) →
    outages_text cause carried rows outages
    ≡ flat_map (outage_line_text cause) (outage_lines carried rows outages)
unfolding outages_text outage_lines
outages-lines cause carried rows [] = refl
outages-lines cause carried rows (outage ∷ later) =
    ap (λ l. outage_text outage (losses carried outage.first (next_first rows later)) (cause outage.first) ++ l)
    (outages-lines cause carried rows later)

stretches-lines : (known : Known) (spans : List (ℕ × ℕ)) →
    stretches_text known spans ≡ flat_map stretch_line_text (map (stretch_line known) spans)
stretches-lines known [] = refl
stretches-lines known (span ∷ spans) =
    ap (λ l. stretch_text span.0 span.1 (stretch_of known span.0 span.1) ++ l) (stretches-lines known spans)

pub text-lines : (leg : Leg) (s : Counts) (interval : ℕ) → service_text leg s interval
    ≡ flat_map (members_text leg.config.size) (members_in leg s)
    ++ flat_map (outage_line_text (row_cause (scenario_by leg) (session_of leg))) (outages_in leg s)
    ++ flat_map stretch_line_text (stretches_in leg s interval)
    ++ delays_text (delays_of (carried_of (ended_of leg s))) (greatest leg.config.delays)
    ++ last_text (told_of leg s) (all_of leg s) (ends_of leg s)
text-lines leg s interval =
    ap₂ (λ a b. flat_map (members_text leg.config.size) (members_in leg s) ++ a ++ b
    ++ delays_text (delays_of (carried_of (ended_of leg s))) (greatest leg.config.delays)
    ++ last_text (told_of leg s) (all_of leg s) (ends_of leg s))
    (outages-lines (row_cause (scenario_by leg) (session_of leg)) (carried_of (ended_of leg s)) s.rows
    (outages_of (states_of (session_rows leg s.rows))))
    (stretches-lines (known_of leg s) (spans_of interval (told_of leg s)))

sides-spans : (known : Known) (spans : List (ℕ × ℕ)) →
    map (λ (line : StretchLine). (line.first, line.end)) (map (stretch_line known) spans) ≡ spans
sides-spans known [] = refl
sides-spans known (span ∷ spans) = ap (λ l. span ∷ l) (sides-spans known spans)

pub lines-follow : (leg : Leg) (s : Counts) (interval : ℕ) → 1 ≤ interval →
    FollowOn 0 (map (λ (line : StretchLine). (line.first, line.end)) (stretches_in leg s interval)) (told_of leg s)
lines-follow leg s interval some =
    subst (λ l. FollowOn 0 l (told_of leg s))
    (sym (sides-spans (known_of leg s) (spans_of interval (told_of leg s))))
    (spans-follow interval (told_of leg s) some)

-- ---- what each frame adds
abbrev pub refused_one : OfferedFrame → ℕ
refused_one frame = if frame.refused then 1 else 0

abbrev pub refused_octets : OfferedFrame → ℕ
refused_octets frame = if frame.refused then frame.octets else 0

abbrev pub got_one : CarriedFrame → ℕ
got_one frame = if frame.got then 1 else 0

abbrev pub got_octets : CarriedFrame → ℕ
got_octets frame = if frame.got then frame.octets else 0

abbrev pub lost_one : CarriedFrame → ℕ
lost_one frame = if frame.got then 0 else 1

abbrev pub lost_octets : CarriedFrame → ℕ
lost_octets frame = if frame.got then 0 else frame.octets

abbrev pub got_delay : CarriedFrame → ℕ
got_delay frame = if frame.got then delay_of frame else 0

abbrev none_came : Came
none_came = record { offered = no_frames; refused = no_frames }

-- a column of the frames that landed is the sum of what each adds
came-sum : (column : Came → ℕ) (weight : OfferedFrame → ℕ) →
    ((came : Came) (frame : OfferedFrame) → column (with_offered came frame) ≡ column came + weight frame) →
    column none_came ≡ 0 → (frames : List OfferedFrame) → column (came_of frames) ≡ sum_by weight frames
unfolding came_on
came-sum column weight step none frames =
    omega (arith, none, counted came_on with_offered (λ b. refl) (λ b x xs. refl) column weight step none_came frames)

abbrev none_ended : Ended
none_ended = record { got = no_frames; lost = no_frames; delay = 0 }

ended-sum : (column : Ended → ℕ) (weight : CarriedFrame → ℕ) →
    ((ended : Ended) (frame : CarriedFrame) → column (with_carried ended frame) ≡ column ended + weight frame) →
    column none_ended ≡ 0 → (frames : List CarriedFrame) → column (ended_by frames) ≡ sum_by weight frames
unfolding ended_on
ended-sum column weight step none frames =
    omega (arith, none, counted ended_on with_carried (λ b. refl) (λ b x xs. refl) column weight step none_ended frames)

refused-step : (came : Came) (frame : OfferedFrame) →
    ((with_offered came frame).refused.frames ≡ came.refused.frames + refused_one frame)
    × ((with_offered came frame).refused.octets ≡ came.refused.octets + refused_octets frame)
refused-step came frame =
    elim (cases_Bool frame.refused) [
      | inl is ↦ rw is (refl, refl)
      | inr isnt ↦ rw isnt (omega arith, omega arith)
    ]

carried-step : (ended : Ended) (frame : CarriedFrame) →
    ((with_carried ended frame).got.frames ≡ ended.got.frames + got_one frame)
    × ((with_carried ended frame).got.octets ≡ ended.got.octets + got_octets frame)
    × ((with_carried ended frame).lost.frames ≡ ended.lost.frames + lost_one frame)
    × ((with_carried ended frame).lost.octets ≡ ended.lost.octets + lost_octets frame)
    × ((with_carried ended frame).delay ≡ max ended.delay (got_delay frame))
carried-step ended frame =
    elim (cases_Bool frame.got) [
      | inl got ↦ rw got (refl, refl, omega arith, omega arith, refl)
      | inr lost ↦ rw lost (omega arith, omega arith, refl, refl, omega arith)
    ]

pub offered-frames : (frames : List OfferedFrame) →
    (came_of frames).offered.frames ≡ sum_by (λ (frame : OfferedFrame). 1) frames
offered-frames =
    came-sum (λ (came : Came). came.offered.frames) (λ (frame : OfferedFrame). 1) (λ came frame. refl) refl

pub offered-octets : (frames : List OfferedFrame) →
    (came_of frames).offered.octets ≡ sum_by (λ (frame : OfferedFrame). frame.octets) frames
offered-octets =
    came-sum (λ (came : Came). came.offered.octets) (λ (frame : OfferedFrame). frame.octets) (λ came frame. refl) refl

pub refused-frames : (frames : List OfferedFrame) → (came_of frames).refused.frames ≡ sum_by refused_one frames
refused-frames =
    came-sum (λ (came : Came). came.refused.frames) refused_one (λ came frame. (refused-step came frame).0) refl

pub refused-octets : (frames : List OfferedFrame) → (came_of frames).refused.octets ≡ sum_by refused_octets frames
refused-octets =
    came-sum (λ (came : Came). came.refused.octets) refused_octets (λ came frame. (refused-step came frame).1) refl

pub got-frames : (frames : List CarriedFrame) → (ended_by frames).got.frames ≡ sum_by got_one frames
got-frames = ended-sum (λ (ended : Ended). ended.got.frames) got_one (λ ended frame. (carried-step ended frame).0) refl

pub got-octets : (frames : List CarriedFrame) → (ended_by frames).got.octets ≡ sum_by got_octets frames
got-octets =
    ended-sum (λ (ended : Ended). ended.got.octets) got_octets (λ ended frame. (carried-step ended frame).1) refl

pub lost-frames : (frames : List CarriedFrame) → (ended_by frames).lost.frames ≡ sum_by lost_one frames
lost-frames =
    ended-sum (λ (ended : Ended). ended.lost.frames) lost_one (λ ended frame. (carried-step ended frame).2) refl

pub lost-octets : (frames : List CarriedFrame) → (ended_by frames).lost.octets ≡ sum_by lost_octets frames
lost-octets =
    ended-sum (λ (ended : Ended). ended.lost.octets) lost_octets (λ ended frame. (carried-step ended frame).3) refl

pub greatest-delay : (frames : List CarriedFrame) → (ended_by frames).delay ≡ greatest (map got_delay frames)
unfolding ended_on
greatest-delay frames =
    let e = highest ended_on with_carried (λ b. refl) (λ b x xs. refl) (λ (e : Ended). e.delay) got_delay
    (λ ended frame. (carried-step ended frame).4) none_ended frames in
    omega (arith, e)

-- ---- dark rows
abbrev pub dark_one : RowState → ℕ
dark_one state = if is_dark state then 1 else 0

pub dark-sum : (states : List RowState) → dark_among states ≡ sum_by dark_one states
unfolding dark_on
dark-sum states =
    let e = counted dark_on (λ n (state : RowState). if is_dark state then n + 1 else n) (λ b. refl) (λ b x xs. refl)
    (λ (n : ℕ). n) dark_one step 0 states in
    omega (arith, e)
  where
    step : (n : ℕ) (state : RowState) → (if is_dark state then n + 1 else n) ≡ n + dark_one state
    step n state =
        elim (cases_Bool (is_dark state)) [
          | inl is ↦ rw is refl
          | inr isnt ↦ rw isnt (omega arith)
        ]

pub parts-of : {X : Type 0} (xs : List X) (a b d : ℕ) → a ≤ b → b ≤ d →
    drop a (take d xs) ≡ drop a (take b xs) ++ drop b (take d xs)
parts-of xs zero zero d low high = refl
parts-of xs (suc a) zero d low high = absurd (omega (arith, low))
parts-of xs a (suc b) zero low high = absurd (omega (arith, high))
parts-of [] zero (suc b) (suc d) low high = refl
parts-of [] (suc a) (suc b) (suc d) low high = refl
parts-of (x ∷ xs) zero (suc b) (suc d) low high =
    ap (λ l. x ∷ l) (parts-of xs zero b d (omega arith) (omega (arith, high)))
parts-of (x ∷ xs) (suc a) (suc b) (suc d) low high = parts-of xs a b d (omega (arith, low)) (omega (arith, high))

dark-split : (states : List RowState) (a b d : ℕ) → a ≤ b → b ≤ d →
    dark_in states a d ≡ dark_in states a b + dark_in states b d
dark-split states a b d low high =
    let sums = sum_by-append dark_one (drop a (take b states)) (drop b (take d states)) in
    let whole = dark-sum (drop a (take d states)) in
    let one = dark-sum (drop a (take b states)) in
    let two = dark-sum (drop b (take d states)) in
    omega (arith, ap (sum_by dark_one) (parts-of states a b d low high), sums, whole, one, two)

-- ---- columns of stretches
abbrev due_key : OfferedFrame → ℕ
due_key frame = frame.due

abbrev last_key : CarriedFrame → ℕ
last_key frame = frame.last

module _ (known : Known) where
  came-split : (column : Came → ℕ) (weight : OfferedFrame → ℕ) →
      ((frames : List OfferedFrame) → column (came_of frames) ≡ sum_by weight frames) → (a b d : ℕ) → a ≤ b →
      b ≤ d → column (came_in known.offered a d)
      ≡ column (came_in known.offered a b) + column (came_in known.offered b d)
  came-split column weight is a b d low high =
      let whole = is (filter (λ (frame : OfferedFrame). is_in a d frame.due) known.offered) in
      let one = is (filter (λ (frame : OfferedFrame). is_in a b frame.due) known.offered) in
      let two = is (filter (λ (frame : OfferedFrame). is_in b d frame.due) known.offered) in
      omega (arith, part-split due_key weight known.offered a b d low high, whole, one, two)

  ended-split : (column : Ended → ℕ) (weight : CarriedFrame → ℕ) →
      ((frames : List CarriedFrame) → column (ended_by frames) ≡ sum_by weight frames) → (a b d : ℕ) → a ≤ b →
      b ≤ d → column (ended_in known.carried a d)
      ≡ column (ended_in known.carried a b) + column (ended_in known.carried b d)
  ended-split column weight is a b d low high =
      let whole = is (filter (λ (frame : CarriedFrame). is_in a d frame.last) known.carried) in
      let one = is (filter (λ (frame : CarriedFrame). is_in a b frame.last) known.carried) in
      let two = is (filter (λ (frame : CarriedFrame). is_in b d frame.last) known.carried) in
      omega (arith, part-split last_key weight known.carried a b d low high, whole, one, two)

  delay-split : (a b d : ℕ) → a ≤ b → b ≤ d → (ended_in known.carried a d).delay
      ≡ max (ended_in known.carried a b).delay (ended_in known.carried b d).delay
  delay-split a b d low high =
      let whole = greatest-delay (filter (λ (frame : CarriedFrame). is_in a d frame.last) known.carried) in
      let one = greatest-delay (filter (λ (frame : CarriedFrame). is_in a b frame.last) known.carried) in
      let two = greatest-delay (filter (λ (frame : CarriedFrame). is_in b d frame.last) known.carried) in
      omega (arith, most-split last_key got_delay known.carried a b d low high, whole, one, two)

  delay-none : (a : ℕ) → (ended_in known.carried a a).delay ≡ 0
  delay-none a =
      greatest-delay (filter (λ (frame : CarriedFrame). is_in a a frame.last) known.carried)
      ∙ most-none last_key got_delay known.carried a

capacity-split : (place : ℕ → ℕ) → ((j k : ℕ) → j ≤ k → place j ≤ place k) → (rows a b d : ℕ) → a ≤ b → b ≤ d →
    capacity_in place rows a d ≡ capacity_in place rows a b + capacity_in place rows b d
capacity-split place up rows a b d low high =
    let two = up (min rows b) (min rows d) (omega (arith, high)) in
    omega (arith, up (min rows a) (min rows b) (omega (arith, low)), two)

-- ---- what they add up to
abbrev tally_by : ℕ → ℕ → Tally
tally_by frames octets = record { frames = frames; octets = octets }

module _ (leg : Leg) (s : Counts) (interval : ℕ) (some : 1 ≤ interval) where
  abbrev told : ℕ
  told = told_of leg s

  abbrev known : Known
  known = known_of leg s

  follow : FollowOn 0 (spans_of interval told) told
  follow = spans-follow interval told some

  pub lines-sum : (column : StretchLine → ℕ) → ((a b d : ℕ) → a ≤ b → b ≤ d → column (stretch_line known (a, d))
      ≡ column (stretch_line known (a, b)) + column (stretch_line known (b, d))) →
      column (stretch_line known (0, told)) ≡ sum_by column (stretches_in leg s interval)
  lines-sum column splits = add-up (stretch_line known) column splits 0 (spans_of interval told) told follow

  pub offered-sum : (all_of leg s).came.offered
      ≡ total_of (λ (line : StretchLine). line.counts.came.offered) (stretches_in leg s interval)
  offered-sum =
      ap₂ tally_by
      (lines-sum (λ (line : StretchLine). line.counts.came.offered.frames)
      (came-split known (λ (came : Came). came.offered.frames) (λ (frame : OfferedFrame). 1) offered-frames))
      (lines-sum (λ (line : StretchLine). line.counts.came.offered.octets)
      (came-split known (λ (came : Came). came.offered.octets) (λ (frame : OfferedFrame). frame.octets)
      offered-octets))

  pub refused-sum : (all_of leg s).came.refused
      ≡ total_of (λ (line : StretchLine). line.counts.came.refused) (stretches_in leg s interval)
  refused-sum =
      ap₂ tally_by
      (lines-sum (λ (line : StretchLine). line.counts.came.refused.frames)
      (came-split known (λ (came : Came). came.refused.frames) refused_one refused-frames))
      (lines-sum (λ (line : StretchLine). line.counts.came.refused.octets)
      (came-split known (λ (came : Came). came.refused.octets) refused_octets refused-octets))

  pub got-sum : (all_of leg s).ended.got
      ≡ total_of (λ (line : StretchLine). line.counts.ended.got) (stretches_in leg s interval)
  got-sum =
      ap₂ tally_by
      (lines-sum (λ (line : StretchLine). line.counts.ended.got.frames)
      (ended-split known (λ (ended : Ended). ended.got.frames) got_one got-frames))
      (lines-sum (λ (line : StretchLine). line.counts.ended.got.octets)
      (ended-split known (λ (ended : Ended). ended.got.octets) got_octets got-octets))

  pub lost-sum : (all_of leg s).ended.lost
      ≡ total_of (λ (line : StretchLine). line.counts.ended.lost) (stretches_in leg s interval)
  lost-sum =
      ap₂ tally_by
      (lines-sum (λ (line : StretchLine). line.counts.ended.lost.frames)
      (ended-split known (λ (ended : Ended). ended.lost.frames) lost_one lost-frames))
      (lines-sum (λ (line : StretchLine). line.counts.ended.lost.octets)
      (ended-split known (λ (ended : Ended). ended.lost.octets) lost_octets lost-octets))

  pub capacity-sum : (all_of leg s).capacity
      ≡ sum_by (λ (line : StretchLine). line.counts.capacity) (stretches_in leg s interval)
  capacity-sum =
      lines-sum (λ (line : StretchLine). line.counts.capacity)
      (capacity-split (place_of (scenario_by leg) (session_of leg)) (place-up (scenario_by leg) (session_of leg)) s.rows)

  pub darkness-sum : (all_of leg s).dark
      ≡ sum_by (λ (line : StretchLine). line.counts.dark) (stretches_in leg s interval)
  darkness-sum = lines-sum (λ (line : StretchLine). line.counts.dark) (dark-split known.states)

  pub delay-most : (all_of leg s).ended.delay
      ≡ greatest (map (λ (line : StretchLine). line.counts.ended.delay) (stretches_in leg s interval))
  delay-most =
      add-most (stretch_line known) (λ (line : StretchLine). line.counts.ended.delay) (delay-none known)
      (delay-split known) 0 (spans_of interval told) told follow

-- ---- The greatest queue of some ticks, and of all of them by those of their parts.
-- ---- tick by tick
module _ (queue : ℕ → ℕ) (first : ℕ) where
  peak-taken : (tick : ℕ) (peak : Peak) → first ≤ tick →
      ((t : ℕ) → first ≤ t → t < tick → queue t < queue tick) →
      IsPeak queue first (tick + 1) (record { queue = queue tick; tick = tick })
  peak-taken tick peak from above = record {
    from = from;
    below = omega arith;
    is = refl;
    most = λ t low high.
        elim (cases_lt t tick) [
          | inl before ↦ (let less = above t low before in omega (arith, less))
          | inr behind ↦ (
              let same : t ≡ tick = omega (arith, high, behind) in
              omega (arith, ap queue same))
        ];
    least = above;
  }

  peak-kept : (tick : ℕ) (peak : Peak) → IsPeak queue first tick peak → queue tick ≤ peak.queue →
      IsPeak queue first (tick + 1) peak
  peak-kept tick peak is less = record {
    from = is.from;
    below = (let low = is.below in omega (arith, low));
    is = is.is;
    most = λ t low high.
        elim (cases_lt t tick) [
          | inl before ↦ is.most t low before
          | inr behind ↦ (
              let same : t ≡ tick = omega (arith, high, behind) in
              omega (arith, ap queue same, less))
        ];
    least = is.least;
  }

  peak-more : (tick : ℕ) (peak : Peak) → IsPeak queue first tick peak →
      IsPeak queue first (tick + 1) (higher peak (queue tick) tick)
  peak-more tick peak is =
      elim (cases_lt peak.queue (queue tick)) [
        | inl greater ↦ rw (lt-ltb peak.queue (queue tick) greater)
            (peak-taken tick peak (let a = is.from in let b = is.below in omega (arith, a, b))
            (λ t low high. let most = is.most t low high in omega (arith, most, greater)))
        | inr less ↦ rw (le-ltb peak.queue (queue tick) less) (peak-kept tick peak is less)
      ]

  peak-on : (n tick : ℕ) (peak : Peak) → IsPeak queue first tick peak →
      IsPeak queue first (tick + n) (peak_on queue peak tick n)
  unfolding peak_on
  peak-on zero tick peak is =
      subst (λ e. IsPeak queue first e peak) (let e : tick ≡ tick + zero = omega arith in e) is
  peak-on (suc n) tick peak is =
      subst (λ e. IsPeak queue first e (peak_on queue (higher peak (queue tick) tick) (tick + 1) n))
      (let e : tick + 1 + n ≡ tick + suc n = omega arith in e)
      (peak-on n (tick + 1) (higher peak (queue tick) tick) (peak-more tick peak is))

  abbrev none_yet : Peak
  none_yet = record { queue = 0; tick = first }

  peak-first : IsPeak queue first (first + 1) (higher none_yet (queue first) first)
  peak-first =
      elim (cases_lt 0 (queue first)) [
        | inl some ↦ rw (lt-ltb 0 (queue first) some)
            (peak-taken first none_yet (omega arith) (λ t low high. absurd (omega (arith, low, high))))
        | inr none ↦ rw (le-ltb 0 (queue first) none) (record {
          from = omega arith;
          below = omega arith;
          is = omega (arith, none);
          most = λ t low high.
              let same : t ≡ first = omega (arith, low, high) in
              omega (arith, ap queue same, none);
          least = λ t low high. absurd (omega (arith, low, high));
        })
      ]

  pub peak-is : (end : ℕ) → first < end → IsPeak queue first end (peak_in queue first end)
  unfolding peak_on
  peak-is end some =
      let count : end - first ≡ suc (end - (first + 1)) = omega (arith, some) in
      let last : first + 1 + (end - (first + 1)) ≡ end = omega (arith, some) in
      subst (λ n. IsPeak queue first end (peak_on queue none_yet first n)) (sym count)
      (subst (λ e. IsPeak queue first e
      (peak_on queue (higher none_yet (queue first) first) (first + 1) (end - (first + 1)))) last
      (peak-on (end - (first + 1)) (first + 1) (higher none_yet (queue first) first) peak-first))

-- ---- parts that follow each other
module _ (queue : ℕ → ℕ) (told : ℕ) (top : Peak) (is : IsPeak queue 0 told top) where
  abbrev pub peaks : List (ℕ × ℕ) → List Peak
  peaks parts = map (λ (part : ℕ × ℕ). peak_in queue part.0 part.1) parts

  abbrev NotAbove : Peak → Type 0
  NotAbove other = other.queue ≤ top.queue

  abbrev IsBelow : Peak → Type 0
  IsBelow other = other.queue < top.queue

  all-low : (from : ℕ) (parts : List (ℕ × ℕ)) (end : ℕ) → FollowOn from parts end → end ≤ told →
      All NotAbove (peaks parts)
  unfolding FollowOn
  all-low from [] end follow fits = All-nil NotAbove
  all-low from (part ∷ parts) end follow fits =
      let own = peak-is queue part.0 part.1 follow.1 in
      let high = follow-up part.1 parts end follow.2 in
      let below = own.below in
      let low = is.most (peak_in queue part.0 part.1).tick (omega arith) (omega (arith, below, high, fits)) in
      All-cons NotAbove (peak_in queue part.0 part.1) (peaks parts) (omega (arith, low, own.is))
      (all-low part.1 parts end follow.2 fits)

  -- that of the part with its tick is the same
  top-same : (first end : ℕ) → first ≤ top.tick → top.tick < end → end ≤ told → peak_in queue first end ≡ top
  top-same first end from below fits =
      let own = peak-is queue first end (omega (arith, from, below)) in
      let p : Peak = peak_in queue first end in
      let start = own.from in
      let own_is = own.is in
      let top_is = is.is in
      let low = is.most p.tick (omega arith) (omega (arith, own.below, fits)) in
      let high = own.most top.tick from below in
      let tick : p.tick ≡ top.tick =
      elim (cases_order p.tick top.tick) [
        | inl same ↦ same
        | inr apart ↦ elim apart [
          | inl before ↦ absurd (let less = is.least p.tick (omega arith) before in
              omega (arith, less, own_is, top_is, high))
          | inr behind ↦ absurd (let less = own.least top.tick from behind in
              omega (arith, less, own_is, top_is, low))
        ]
      ] in
      let count : p.queue ≡ top.queue = omega (arith, own_is, top_is, low, high) in
      ap₂ (λ n t. record { queue = n; tick = t }) count tick

  highest-in : (from : ℕ) (parts : List (ℕ × ℕ)) (end : ℕ) → FollowOn from parts end → from ≤ top.tick →
      top.tick < end → end ≤ told → IsHighest (peaks parts) top
  unfolding FollowOn
  highest-in from [] end follow low high fits = absurd (omega (arith, follow, low, high))
  highest-in from (part ∷ parts) end follow low high fits =
      let p : Peak = peak_in queue part.0 part.1 in
      let begins = follow.0 in
      let some = follow.1 in
      let up = follow-up part.1 parts end follow.2 in
      elim (cases_lt top.tick part.1) [
        | inl here ↦ record {
          number = zero;
          there = ap (λ q. Some q) (top-same part.0 part.1 (omega (arith, begins, low)) here (omega (arith, up, fits)));
          most = all-low from (part ∷ parts) end follow fits;
          least = All-nil IsBelow;
        }
        | inr later ↦ (
            let rest = highest-in part.1 parts end follow.2 later high fits in
            let own = peak-is queue part.0 part.1 some in
            let own_is = own.is in
            let less = is.least p.tick (omega arith) (omega (arith, own.below, later)) in
            record {
              number = suc rest.number;
              there = rest.there;
              most = all-low from (part ∷ parts) end follow fits;
              least = All-cons IsBelow p (take rest.number (peaks parts)) (omega (arith, less, own_is)) rest.least;
            })
      ]

-- ---- those of the stretches
lines-peaks : (known : Known) (spans : List (ℕ × ℕ)) →
    map (λ (line : StretchLine). line.counts.peak) (map (stretch_line known) spans)
    ≡ map (λ (part : ℕ × ℕ). peak_in (queue_in known.accepted known.sent known.place known.ticks) part.0 part.1) spans
lines-peaks known [] = refl
lines-peaks known (span ∷ spans) =
    ap (λ l. peak_in (queue_in known.accepted known.sent known.place known.ticks) span.0 span.1 ∷ l)
    (lines-peaks known spans)

pub queue-highest : (leg : Leg) (s : Counts) (interval : ℕ) → 1 ≤ interval → 0 < told_of leg s →
    IsHighest (map (λ (line : StretchLine). line.counts.peak) (stretches_in leg s interval)) (all_of leg s).peak
queue-highest leg s interval some ticks =
    let known : Known = known_of leg s in
    let told : ℕ = told_of leg s in
    let queue : ℕ → ℕ = queue_in known.accepted known.sent known.place known.ticks in
    let top : Peak = peak_in queue 0 told in
    let is : IsPeak queue 0 told top = peak-is queue 0 told ticks in
    let below = is.below in
    subst (λ l. IsHighest l top) (sym (lines-peaks known (spans_of interval told)))
    (highest-in queue told top is 0 (spans_of interval told) told (spans-follow interval told some) (omega arith) below
    (omega arith))
