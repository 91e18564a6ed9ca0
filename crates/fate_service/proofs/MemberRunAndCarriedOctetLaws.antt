-- Runs of rows with the same number of members, the room that they have, and that carried octets fit in it.
use Rattle.std.proofs.Common.{◌≡◌, ℕ, zero, suc, ◌+◌, ◌-◌, ◌*◌, ◌<◌, ◌≤◌, ◌==◌, List, [], ◌∷◌, map, refl, ◌∙◌, ap}
use Rattle.std.proofs.Common.{subst, arith, inl, inr, sum_by, suc-mul, mul_comm, min, ◌⊎◌, ◌++◌, length, drop, Option}
use Rattle.std.proofs.Common.{Some, None, slice_get, sym, append-nil, option_to_list}
use Rattle.std.specs.List.{range_with_len, flat_map}
use Rattle.std.proofs.lemmas.Bool.{cases_Bool, cases_lt, eqb-true, eqb-false}
use Rattle.std.proofs.lemmas.List.Sums.{sum_by-cons}
use Rattle.law_model.specs.Common.{Leg, Counts, Scenario, scenario_by, IsSound, width, place_of, Piece, idle, client}
use Rattle.law_model.specs.Common.{size_of, StreamRow, octets_of_rows, Extent, extents, size, stream_before}
use Rattle.law_walk.specs.Common.{session_of, IsWalked, Numbered, landed_items, refusal_at, frame_by, session_pieces}
use Rattle.law_walk.specs.Common.{session_waiting, session_rows}
use Rattle.fate_service.specs.declared.width_run.WidthRun.{WidthRun}
use Rattle.fate_service.specs.MemberRuns.{runs_on, runs_of}
use Rattle.fate_service.specs.ServiceText.{told_of}
use Rattle.fate_service.specs.service_law.LinesAsNumbers.{members_in, all_of}
use Rattle.fate_service.specs.service_law.LineSums.{AreRuns, stream_octets}
use Rattle.fate_service.proofs.LandedFrameTallyLaws.{rows-told, got-octets-are, lost-octets-are, got-frames-are}
use Rattle.fate_service.proofs.LandedFrameTallyLaws.{lost-frames-are}
use Rattle.law_model.specs.declared.item_refusals.Refusal.{Refusal}
use Rattle.law_model.specs.declared.script_types.ItemKind.{ItemKind}
use Rattle.law_model.specs.declared.script_types.ItemKind.TheVariants.{Frame, Add, Remove}
use Rattle.law_loss.proofs.SessionStreamLossLaws.{pieces-begin, rows-length}
use Rattle.law_walk.proofs.AcceptedFrameAndDrainedWalkLaws.{frames-known}
use Rattle.fate_engine.specs.declared.fate_law.Fate.{Fate}
use Rattle.fate_engine.specs.declared.fate_law.Fate.TheVariants.{Waits, Cut, Unconfirmed, Hunting, Unsettled, Got}
use Rattle.fate_engine.specs.fate_core.FrameSides.{AreInOrder}
use Rattle.fate_engine.specs.Common.{fate_of, sides, Ended, ended_then, ended_on, ended_of, fate_if, fate_at}
use Rattle.fate_engine.proofs.RulerAndFrameSideLaws.{order-of}
use Rattle.fate_engine.proofs.GotFateAndLandedFrameLaws.{accepts, frames_of, landed-first}
use Rattle.fate_service.specs.declared.landed_frames.CarriedFrame.{CarriedFrame}
use Rattle.fate_service.specs.FrameColumns.{carried_if, carried_of}
use Rattle.fate_service.proofs.FrameTickAndRowOrderLaws.{HasRows, fate-has}
use Rattle.fate_service.proofs.StretchSumAndQueuePeakLaws.{got_one, got_octets, lost_one, lost_octets}

-- ---- Members: the longest runs of rows with one number, and what they add up to.
module _ (f : ℕ → ℕ) where
  abbrev Has : WidthRun → Type 0
  Has run = (t : ℕ) → run.first ≤ t → t < run.end → f t ≡ run.members

  runs-are : (n : ℕ) (run : WidthRun) → run.first < run.end → Has run →
      AreRuns f run.first (runs_on run (map f (range_with_len run.end n))) (run.end + n)
  unfolding AreRuns runs_on
  runs-are zero run some has = (
    refl,
    some,
    has,
    (λ less. absurd (omega (arith, less))),
    omega arith,
  )
  runs-are (suc n) run some has =
      let all : run.end + 1 + n ≡ run.end + suc n = omega arith in
      elim (cases_Bool (f run.end == run.members)) [
        | inl same ↦ (
            let more : WidthRun = record { first = run.first; end = run.end + 1; members = run.members } in
            let here : f run.end ≡ run.members = eqb-true (f run.end) run.members same in
            let each : Has more =
            λ t low high. elim (cases_lt t run.end) [
              | inl before ↦ has t low before
              | inr behind ↦ ap f (let e : t ≡ run.end = omega (arith, behind, high) in e) ∙ here
            ] in
            rw same
            (subst (AreRuns f run.first (runs_on more (map f (range_with_len (run.end + 1) n)))) all
            (runs-are n more (omega (arith, some)) each)))
        | inr other ↦ (
            let next : WidthRun = record { first = run.end; end = run.end + 1; members = f run.end } in
            let each : Has next =
            λ t low high. ap f (let e : t ≡ run.end = omega (arith, low, high) in e) in
            rw other (
              refl,
              some,
              has,
              (λ less. eqb-false (f run.end) run.members other),
              subst (AreRuns f run.end (runs_on next (map f (range_with_len (run.end + 1) n)))) all
                  (runs-are n next (omega arith) each),
            ))
      ]

  pub all-runs : (n : ℕ) → AreRuns f 0 (runs_of (map f (range_with_len 0 n))) n
  unfolding AreRuns
  all-runs zero = refl
  all-runs (suc n) =
      subst (AreRuns f 0 (runs_on (record { first = 0; end = 1; members = f 0 }) (map f (range_with_len 1 n))))
      (let e : 1 + n ≡ suc n = omega arith in e)
      (runs-are n (record { first = 0; end = 1; members = f 0 }) (omega arith)
      (λ t low high. ap f (let e : t ≡ 0 = omega (arith, high) in e)))

  -- ---- what they add up to
  abbrev pub rows_in : WidthRun → ℕ
  rows_in run = run.end - run.first

  pub runs-up : (from : ℕ) (runs : List WidthRun) (end : ℕ) → AreRuns f from runs end → from ≤ end
  unfolding AreRuns
  runs-up from [] end are = omega (arith, are)
  runs-up from (run ∷ runs) end are = omega (arith, runs-up run.end runs end are.4, are.0, are.1)

  rows-sum : (from : ℕ) (runs : List WidthRun) (end : ℕ) → AreRuns f from runs end →
      sum_by rows_in runs ≡ end - from
  unfolding AreRuns
  rows-sum from [] end are = omega (arith, are)
  rows-sum from (run ∷ runs) end are =
      let rest = rows-sum run.end runs end are.4 in
      omega (arith, rest, runs-up run.end runs end are.4, are.0, are.1, sum_by-cons rows_in run runs)

  pub all-rows : (n : ℕ) → sum_by rows_in (runs_of (map f (range_with_len 0 n))) ≡ n
  all-rows n = let e = rows-sum 0 (runs_of (map f (range_with_len 0 n))) n (all-runs n) in omega (arith, e)

  module _ (room : ℕ) (place : ℕ → ℕ) (start : place 0 ≡ 0) (step : (t : ℕ) → place (suc t) ≡ place t + room * f t) where
    abbrev octets_in : WidthRun → ℕ
    octets_in run = (run.end - run.first) * (run.members * room)

    run-room : (n from members : ℕ) → ((t : ℕ) → from ≤ t → t < from + n → f t ≡ members) →
        place (from + n) ≡ place from + n * (members * room)
    run-room zero from members has =
        let e = ap place (let e : from + zero ≡ from = omega arith in e) in
        omega (arith, e)
    run-room (suc n) from members has =
        let more = ap place (let e : from + suc n ≡ suc (from + n) = omega arith in e) in
        let rest = run-room n from members (λ t low high. has t low (omega (arith, high))) in
        let own = ap (λ m. room * m) (has (from + n) (omega arith) (omega arith)) in
        omega (arith, more, step (from + n), rest, own, mul_comm room members, suc-mul n (members * room))

    room-sum : (from : ℕ) (runs : List WidthRun) (end : ℕ) → AreRuns f from runs end →
        place from + sum_by octets_in runs ≡ place end
    unfolding AreRuns
    room-sum from [] end are = let e = ap place are in omega (arith, e)
    room-sum from (run ∷ runs) end are =
        let n : ℕ = run.end - run.first in
        let last : run.first + n ≡ run.end = omega (arith, are.1) in
        let own = run-room n run.first run.members
        (λ t low high. are.2 t low (omega (arith, high, last))) in
        let rest = room-sum run.end runs end are.4 in
        omega (arith, own, ap place last, ap place are.0, rest, sum_by-cons octets_in run runs)

    pub all-room : (n : ℕ) → sum_by octets_in (runs_of (map f (range_with_len 0 n))) ≡ place n
    all-room n = omega (arith, room-sum 0 (runs_of (map f (range_with_len 0 n))) n (all-runs n), start)

-- ---- of a walk
pub members-are : (leg : Leg) (s : Counts) →
    AreRuns (width (scenario_by leg) (session_of leg)) 0 (members_in leg s) s.rows
members-are leg s = all-runs (width (scenario_by leg) (session_of leg)) s.rows

pub members-rows : (leg : Leg) (s : Counts) →
    sum_by (λ (run : WidthRun). run.end - run.first) (members_in leg s) ≡ s.rows
members-rows leg s = all-rows (width (scenario_by leg) (session_of leg)) s.rows

pub members-room : (leg : Leg) (s : Counts) → IsSound leg → IsWalked leg s →
    sum_by (λ (run : WidthRun). (run.end - run.first) * (run.members * leg.config.size)) (members_in leg s)
    ≡ (all_of leg s).capacity
unfolding place_of
members-room leg s sound walked =
    let scenario : Scenario = scenario_by leg in
    let place : ℕ → ℕ = place_of scenario (session_of leg) in
    let up = rows-told leg s sound walked in
    let whole = ap place (let e : min s.rows (told_of leg s) ≡ s.rows = omega (arith, up) in e) in
    let none = ap place (let e : min s.rows 0 ≡ 0 = omega arith in e) in
    let sum = all-room (width scenario (session_of leg)) leg.config.size place refl (λ t. refl) s.rows in
    omega (arith, whole, none, sum)

-- ---- The octets of carried frames fit in the rows that were taken.
-- ---- what a frame takes
abbrev taken : CarriedFrame → ℕ
taken frame = frame.octets + 8

pub taken-parts : (frames : List CarriedFrame) → sum_by taken frames
    ≡ sum_by got_octets frames + sum_by lost_octets frames + 8 * (sum_by got_one frames + sum_by lost_one frames)
taken-parts [] = refl
taken-parts (frame ∷ frames) =
    let one = sum_by-cons got_octets frame frames in
    let two = sum_by-cons lost_octets frame frames in
    let four = sum_by-cons lost_one frame frames in
    let rest = taken-parts frames in
    let own : taken frame ≡ got_octets frame + lost_octets frame + 8 * (got_one frame + lost_one frame) =
    elim (cases_Bool frame.got) [
      | inl got ↦ rw got (omega arith)
      | inr lost ↦ rw lost (omega arith)
    ] in
    omega (arith, sum_by-cons taken frame frames, one, two, sum_by-cons got_one frame frames, four, rest, own)

abbrev HasOctets : ℕ → Option CarriedFrame → Type 0
HasOctets octets None = Unit {0}
HasOctets octets (Some frame) = frame.octets ≡ octets

carried-octets : (due octets : ℕ) (fate : Fate) → HasOctets octets (carried_if due octets fate)
carried-octets due octets Waits = tt
carried-octets due octets (Cut r q t) = refl
carried-octets due octets (Unconfirmed r q) = refl
carried-octets due octets (Hunting r q) = refl
carried-octets due octets (Unsettled r q) = refl
carried-octets due octets (Got r q) = refl

-- ---- the extents behind some frames
extent-size : (place : ℕ) (pieces : List Piece) (n : ℕ) (e : Extent) → slice_get (extents place pieces) n ≡ Some e →
    e.to ≡ e.from + (8 + length e.frame)
unfolding extents
extent-size place [] n e there = absurd cc
extent-size place (idle ∷ pieces) n e there = extent-size (place + size_of idle) pieces n e there
extent-size place (client frame ∷ pieces) zero e there =
    let same : record { from = place; to = place + size_of (client frame); frame = frame } ≡ e = cc in
    subst (λ (x : Extent). x.to ≡ x.from + (8 + length x.frame)) same (omega arith)
extent-size place (client frame ∷ pieces) (suc n) e there =
    extent-size (place + size_of (client frame)) pieces n e there

-- a place of a list is behind its end, or has an element
record IsPast (all : List Extent) (n : ℕ) : Type 0 where
  pub none : slice_get all n ≡ None
  pub past : drop n all ≡ []
  pub next : drop (suc n) all ≡ []

record IsThere (all : List Extent) (n : ℕ) : Type 0 where
  pub extent : Extent
  pub there : slice_get all n ≡ Some extent
  pub parts : drop n all ≡ extent ∷ drop (suc n) all

where-is : (all : List Extent) (n : ℕ) → IsPast all n ⊎ IsThere all n
where-is [] zero = inl (record { none = refl; past = refl; next = refl })
where-is [] (suc n) = inl (record { none = refl; past = refl; next = refl })
where-is (e ∷ all) zero = inr (record { extent = e; there = refl; parts = refl })
where-is (e ∷ all) (suc n) =
    elim (where-is all n) [
      | inl past ↦ inl (record { none = past.none; past = past.past; next = past.next })
      | inr there ↦ inr (record { extent = there.extent; there = there.there; parts = there.parts })
    ]

-- the frames of extents and accepted ones are the same, as far as there are both
record Agree (own accepted : List (List ℕ)) : Type 0 where
  pub waiting : List (List ℕ)
  pub later : List (List ℕ)
  pub same : own ++ waiting ≡ accepted ++ later

module _ (leg : Leg) (pieces : List Piece) (rows : List StreamRow) where
  abbrev all : List Extent
  all = extents 0 pieces

  abbrev room : ℕ
  room = length (octets_of_rows rows)

  abbrev fate : ℕ → Fate
  fate n = fate_at pieces rows n

  -- from the frame with a number on, whose pieces begin at a place or behind it
  abbrev Fit : ℕ → List Ended → Type 0
  Fit place ended = sum_by taken (carried_of ended) ≤ room - place

  abbrev Behind : ℕ → ℕ → List (List ℕ) → Type 0
  Behind n place accepted = (end : ℕ) × AreInOrder place (sides (drop n all)) end × Agree (frames_of (drop n all)) accepted

  own-fits : (e : Extent) (due place : ℕ) (rest : List CarriedFrame) (octets : List ℕ) (o : Option CarriedFrame) →
      carried_if due (length octets) (fate_of pieces rows e) ≡ o → e.from < e.to → place ≤ e.from →
      e.to ≡ e.from + (8 + length octets) → sum_by taken rest ≤ room - e.to →
      sum_by taken (option_to_list o ++ rest) ≤ room - place
  own-fits e due place rest octets None is some low ends fits = omega (arith, fits, low, some)
  own-fits e due place rest octets (Some frame) is some low ends fits =
      let has : HasRows pieces rows e (Some frame) =
      subst (HasRows pieces rows e) is (fate-has pieces rows e due (length octets) some) in
      let size : HasOctets (length octets) (Some frame) =
      subst (HasOctets (length octets)) is (carried-octets due (length octets) (fate_of pieces rows e)) in
      omega (arith, has.0, size, sum_by-cons taken frame rest, fits, low, ends)

  in-order : (e : Extent) (later : List Extent) (place end : ℕ) → AreInOrder place (sides (e ∷ later)) end →
      AreInOrder e.to (sides later) end
  unfolding AreInOrder
  in-order e later place end order = order.2

  first-order : (e : Extent) (later : List Extent) (place end : ℕ) → AreInOrder place (sides (e ∷ later)) end →
      (place ≤ e.from) × (e.from < e.to)
  unfolding AreInOrder
  first-order e later place end order = (order.0, order.1)

  then-fits : (item : Numbered) (why : Option Refusal) (kind : ItemKind) (items : List Numbered) (n place : ℕ) →
      ((m p : ℕ) → Behind m p (flat_map (accepts leg) items) → Fit p (ended_on leg fate items m)) →
      Behind n place (frame_by why kind ++ flat_map (accepts leg) items) →
      Fit place (ended_then fate item why kind n (ended_on leg fate items))
  then-fits item (Some why) (Frame octets) items n place fits behind = fits n place behind
  then-fits item None (Frame octets) items n place fits behind =
      let rest : List Ended = ended_on leg fate items (suc n) in
      elim (where-is all n) [
        | inl past ↦ (
            let none : carried_if item.item.due (length octets) (fate n) ≡ None =
            ap (λ o. carried_if item.item.due (length octets) (fate_if (fate_of pieces rows) o)) past.none in
            let order : AreInOrder place (sides (drop (suc n) all)) behind.0 =
            subst (λ l. AreInOrder place (sides l) behind.0) (past.past ∙ sym past.next) behind.1 in
            let agree : Agree (frames_of (drop (suc n) all)) (flat_map (accepts leg) items) =
            subst (λ l. Agree (frames_of l) (flat_map (accepts leg) items)) (sym past.next)
            (record { waiting = flat_map (accepts leg) items; later = []; same = sym (append-nil _) }) in
            subst (λ (o : Option CarriedFrame). sum_by taken (option_to_list o ++ carried_of rest) ≤ room - place)
            (sym none) (fits (suc n) place (behind.0, order, agree)))
        | inr there ↦ (
            let e : Extent = there.extent in
            let order : AreInOrder place (sides (e ∷ drop (suc n) all)) behind.0 =
            subst (λ l. AreInOrder place (sides l) behind.0) there.parts behind.1 in
            let agree : Agree (frames_of (e ∷ drop (suc n) all)) (octets ∷ flat_map (accepts leg) items) =
            subst (λ l. Agree (frames_of l) (octets ∷ flat_map (accepts leg) items)) there.parts behind.2 in
            let frame : e.frame ≡ octets = (let same = agree.same in cc) in
            let is : carried_if item.item.due (length octets) (fate n)
            ≡ carried_if item.item.due (length octets) (fate_of pieces rows e) =
            ap (λ o. carried_if item.item.due (length octets) (fate_if (fate_of pieces rows) o)) there.there in
            let later : Fit e.to rest =
            fits (suc n) e.to (
              behind.0,
              in-order e (drop (suc n) all) place behind.0 order,
              record { waiting = agree.waiting; later = agree.later; same = (let same = agree.same in cc) },
            ) in
            let first = first-order e (drop (suc n) all) place behind.0 order in
            subst (λ (o : Option CarriedFrame). sum_by taken (option_to_list o ++ carried_of rest) ≤ room - place)
            (sym is) (own-fits e item.item.due place (carried_of rest) octets
            (carried_if item.item.due (length octets) (fate_of pieces rows e)) refl first.1 first.0
            (omega (arith, extent-size 0 pieces n e there.there, ap length frame)) later))
      ]
  then-fits item (Some why) (Add line) items n place fits behind = fits n place behind
  then-fits item None (Add line) items n place fits behind = fits n place behind
  then-fits item (Some why) (Remove line) items n place fits behind = fits n place behind
  then-fits item None (Remove line) items n place fits behind = fits n place behind

  all-fit : (items : List Numbered) (n place : ℕ) → Behind n place (flat_map (accepts leg) items) →
      Fit place (ended_on leg fate items n)
  unfolding ended_on
  all-fit [] n place behind = omega arith
  all-fit (item ∷ items) n place behind =
      then-fits item (refusal_at leg item) item.item.kind items n place (λ m p. all-fit items m p) behind

-- ---- of a walk
pieces-start : (leg : Leg) → (more : List Piece) × (session_pieces leg ≡ idle ∷ idle ∷ more)
unfolding stream_before
pieces-start leg = pieces-begin (scenario_by leg) (session_of leg) 0 leg.config.ticks (omega arith)

order-start : (pieces more : List Piece) → pieces ≡ idle ∷ idle ∷ more →
    AreInOrder 8 (sides (extents 0 pieces)) (8 + size more)
unfolding extents
order-start pieces more is =
    subst (λ l. AreInOrder 8 (sides (extents 0 l)) (8 + size more)) (sym is) (order-of 8 more)

module _ (leg : Leg) (s : Counts) (sound : IsSound leg) (walked : IsWalked leg s) where
  abbrev frames : List CarriedFrame
  frames = carried_of (ended_of leg s)

  sum-fits : sum_by taken frames ≤ length (octets_of_rows (session_rows leg s.rows)) - 8
  sum-fits =
      let start = pieces-start leg in
      let first = landed-first leg s.frames s.commands in
      all-fit leg (session_pieces leg) (session_rows leg s.rows) (landed_items leg s) 0 8 (
        8 + size start.0,
        order-start (session_pieces leg) start.0 start.1,
        record { waiting = session_waiting leg; later = first.0; same = frames-known leg sound ∙ first.1 },
      )

  pub octets-fit : 0 < (all_of leg s).ended.got.frames + (all_of leg s).ended.lost.frames →
      stream_octets (all_of leg s) + 8 ≤ (all_of leg s).capacity
  unfolding place_of
  octets-fit some =
      let one = got-octets-are leg s sound walked in
      let two = lost-octets-are leg s sound walked in
      let three = got-frames-are leg s sound walked in
      let four = lost-frames-are leg s sound walked in
      let whole = rows-length (scenario_by leg) (session_of leg) s.rows s.rows (omega arith) in
      let taken_rows = ap (place_of (scenario_by leg) (session_of leg))
      (let e : min s.rows (told_of leg s) ≡ s.rows = omega (arith, rows-told leg s sound walked) in e) in
      let none = ap (place_of (scenario_by leg) (session_of leg))
      (let e : min s.rows 0 ≡ 0 = omega arith in e) in
      omega (arith, sum-fits, taken-parts frames, one, two, three, four, whole, taken_rows, none, some)
