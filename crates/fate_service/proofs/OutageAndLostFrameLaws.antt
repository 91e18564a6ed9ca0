-- To which outage a lost frame belongs, and what the lines of outages add up to.
use Rattle.std.proofs.Common.{◌≡◌, ℕ, zero, suc, ◌+◌, ◌-◌, ◌<◌, ◌≤◌, ◌⊎◌, ◌&&◌, Bool, true, false, List, [], ◌∷◌}
use Rattle.std.proofs.Common.{length, filter, All, Contains, Some, slice_get, refl, sym, ◌∙◌, ap, ap₂, subst, arith}
use Rattle.std.proofs.Common.{inl, inr, sum_by, not}
use Rattle.std.specs.Prelude.{if◌then◌else◌, IsSome}
use Rattle.std.proofs.lemmas.Bool.{cases_Bool, cases_lt, cases_order, lt-ltb, le-leb}
use Rattle.std.proofs.lemmas.List.Elements.{All-nil, All-cons, All-head, All-tail, All-contains}
use Rattle.std.proofs.lemmas.List.{take_all}
use Rattle.std.proofs.lemmas.List.Sums.{sum_by-cons}
use Rattle.law_model.specs.Common.{StreamRow, Leg, Counts, scenario_by, IsSound}
use Rattle.law_walk.specs.Common.{landed_items, session_pieces, session_of, IsWalked, session_rows}
use Rattle.fate_engine.specs.Common.{ended_of, row_cause, spoiled_of}
use Rattle.fate_engine.specs.declared.fate_law.SpoiledRun.{SpoiledRun}
use Rattle.fate_engine.proofs.FrameFateAndPieceLaws.{rows-count}
use Rattle.fate_walks.specs.walk_fates.MadeWalk.{fates_in}
use Rattle.fate_service.specs.declared.landed_frames.CarriedFrame.{CarriedFrame}
use Rattle.fate_service.specs.declared.landed_frames.Tally.{Tally}
use Rattle.fate_service.specs.declared.outages.Outage.{Outage}
use Rattle.fate_service.specs.FrameColumns.{no_frames, with_frame_if, carried_of}
use Rattle.fate_service.specs.RowStates.{state_of, states_of, dark_among}
use Rattle.fate_service.specs.Outages.{lost_on, next_first}
use Rattle.fate_service.specs.Stretches.{is_in}
use Rattle.fate_service.specs.ServiceText.{told_of}
use Rattle.fate_service.proofs.OutageAndDarkRowLaws.{states-count, lines-each, lines-sum, outages-long}
use Rattle.fate_service.proofs.OutageAndDarkRowLaws.{outages-spoiled}
use Rattle.fate_service.specs.service_law.LinesAsNumbers.{OutageLine, outage_line, outage_lines, outages_in, all_of}
use Rattle.fate_service.specs.service_law.LineSums.{total_of}
use Rattle.fate_service.specs.service_law.OutageRuns.{dark_row, row_outages, AreOutages, BelongsTo, BelongsOnce}
use Rattle.fate_service.proofs.StretchSumAndQueuePeakLaws.{part, part-split, counted, lost_one, lost_octets, dark-sum}
use Rattle.fate_service.proofs.LandedFrameTallyLaws.{rows-told, lost-frames-are, lost-octets-are}
use Rattle.fate_service.proofs.SpoiledRowStateLaws.{begins-spoiled, begins-caused, spoiled-count}
use Rattle.fate_service.proofs.FrameFateBetweenOutagesLaws.{all-each, rows-are, lost-at}

-- To which outage a frame that is lost belongs, what their lines say is lost, and that they have a cause.
-- ---- to which outage a lost frame belongs
-- each outage begins behind the one before it
unfoldable pub Rises : ℕ → List Outage → Type 0
Rises from [] = Unit {0}
Rises from (outage ∷ outages) = (from ≤ outage.first) × Rises outage.first outages

outages-rise : (dark : ℕ → Bool) (from low : ℕ) (outages : List Outage) (end : ℕ) → low ≤ from →
    AreOutages dark from outages end → Rises low outages
unfolding AreOutages Rises
outages-rise dark from low [] end less are = tt
outages-rise dark from low (outage ∷ outages) end less are =
    let begins = are.0 in
    let some = are.1 in
    (omega (arith, begins, less), outages-rise dark outage.end outage.first outages end (omega (arith, some)) are.6)

module _ (rows : ℕ) (frame : CarriedFrame) (taken : frame.at < rows) where
  belongs : (outages : List Outage) → next_first rows outages ≤ frame.at →
      (number : ℕ) × BelongsTo outages rows frame number
  belongs [] low = absurd (omega (arith, low, taken))
  belongs (outage ∷ outages) low =
      elim (cases_lt frame.at (next_first rows outages)) [
        | inl before ↦ (zero, record { outage = outage; there = refl; from = low; before = before })
        | inr behind ↦ (
            let rest = belongs outages behind in
            let own = rest.1 in
            (suc rest.0, record { outage = own.outage; there = own.there; from = own.from; before = own.before }))
      ]

  later-first : (low : ℕ) (outages : List Outage) (number : ℕ) (outage : Outage) → Rises low outages →
      slice_get outages number ≡ Some outage → low ≤ outage.first
  unfolding Rises
  later-first low [] number outage rises there = absurd cc
  later-first low (own ∷ outages) zero outage rises there =
      let same : own ≡ outage = cc in subst (λ (o : Outage). low ≤ o.first) same rises.0
  later-first low (own ∷ outages) (suc number) outage rises there =
      omega (arith, later-first own.first outages number outage rises.1 there, rises.0)

  not-both : (low : ℕ) (outages : List Outage) (i j : ℕ) → Rises low outages → i < j →
      BelongsTo outages rows frame i → BelongsTo outages rows frame j → ⊥
  unfolding Rises
  not-both low [] i j rises less one other = (let there = one.there in absurd cc)
  not-both low (own ∷ outages) i zero rises less one other = omega (arith, less)
  not-both low (own ∷ outages) zero (suc j) rises less one other =
      omega (arith, one.before, other.from, first-of outages rises.1 j other.outage other.there)
    where
      first-of : (outages : List Outage) → Rises own.first outages → (j : ℕ) (outage : Outage) →
          slice_get outages j ≡ Some outage → next_first rows outages ≤ outage.first
      first-of [] rises j outage there = absurd cc
      first-of (next ∷ outages) rises j outage there =
          later-first next.first (next ∷ outages) j outage (omega arith, rises.1) there
  not-both low (own ∷ outages) (suc i) (suc j) rises less one other =
      not-both own.first outages i j rises.1 (omega (arith, less))
      (record { outage = one.outage; there = one.there; from = one.from; before = one.before })
      (record { outage = other.outage; there = other.there; from = other.from; before = other.before })

  pub belongs-once : (low : ℕ) (outages : List Outage) → Rises low outages → next_first rows outages ≤ frame.at →
      BelongsOnce outages rows frame
  belongs-once low outages rises behind =
      let found = belongs outages behind in
      record {
        number = found.0;
        belongs = found.1;
        once = λ other belongs_too. elim (cases_order other found.0) [
          | inl same ↦ same
          | inr apart ↦ elim apart [
            | inl less ↦ absurd (not-both low outages other found.0 rises less belongs_too found.1)
            | inr more ↦ absurd (not-both low outages found.0 other rises more found.1 belongs_too)
          ]
        ];
      }

-- ---- of a walk
module _ (leg : Leg) (s : Counts) where
  abbrev walk_rows : List StreamRow
  walk_rows = session_rows leg s.rows

  abbrev walk_outages : List Outage
  walk_outages = row_outages walk_rows

  count : length walk_rows ≡ s.rows
  count = rows-count (scenario_by leg) (session_of leg) s.rows

  abbrev LostBehind : CarriedFrame → Type 0
  LostBehind frame = frame.got ≡ false → (next_first s.rows walk_outages ≤ frame.at) × (frame.at < s.rows)

  all-behind : All LostBehind (carried_of (ended_of leg s))
  all-behind =
      all-each leg (fates_in leg s.rows) LostBehind
      (λ i due octets frame is.
      subst (λ n. frame.got ≡ false → (next_first n walk_outages ≤ frame.at) × (frame.at < n)) count
      (lost-at (session_pieces leg) walk_rows i due octets frame is))
      (landed_items leg s) 0

  walk-are : AreOutages (dark_row walk_rows) 0 walk_outages s.rows
  walk-are = subst (AreOutages (dark_row walk_rows) 0 walk_outages) count (rows-are walk_rows)

  pub lost-once : (frame : CarriedFrame) → Contains (carried_of (ended_of leg s)) frame → frame.got ≡ false →
      BelongsOnce walk_outages s.rows frame
  lost-once frame there lost =
      let behind = All-contains LostBehind (carried_of (ended_of leg s)) frame all-behind there lost in
      belongs-once s.rows frame behind.1 0 walk_outages
      (outages-rise (dark_row walk_rows) 0 0 walk_outages s.rows (omega arith) walk-are) behind.0

  low-first : (from : ℕ) (outages : List Outage) (end : ℕ) → AreOutages (dark_row walk_rows) from outages end →
      All (λ (outage : Outage). outage.first < end) outages
  unfolding AreOutages
  low-first from [] end are = All-nil (λ (outage : Outage). outage.first < end)
  low-first from (outage ∷ outages) end are =
      All-cons (λ (outage : Outage). outage.first < end) outage outages
      (let some = are.1 in let ends = are.2 in omega (arith, some, ends))
      (low-first outage.end outages end are.6)

  pub lines-caused : (line : OutageLine) → Contains (outages_in leg s) line →
      IsSome (row_cause (scenario_by leg) (session_of leg) line.outage.first)
  lines-caused line there =
      let P : Outage → Type 0 =
      λ (outage : Outage). IsSome (row_cause (scenario_by leg) (session_of leg) outage.first) in
      All-contains (λ (line : OutageLine). P line.outage) (outages_in leg s) line
      (lines-each P (carried_of (ended_of leg s)) s.rows walk_outages caused) there
    where
      caused : All (λ (outage : Outage). IsSome (row_cause (scenario_by leg) (session_of leg) outage.first)) walk_outages
      caused =
          λ k d low.
          let spoiled = begins-spoiled walk_rows 0 walk_outages s.rows (let e = count in omega (arith, e))
          (λ less positive. absurd (omega (arith, positive))) walk-are k d low in
          let within = low-first 0 walk_outages s.rows walk-are k d low in
          begins-caused (scenario_by leg) (session_of leg) s.rows _ within spoiled

-- ---- what the lines of outages say is lost
abbrev at_key : CarriedFrame → ℕ
at_key frame = frame.at

lost-sum : (column : Tally → ℕ) (weight : CarriedFrame → ℕ) →
    ((tally : Tally) (frame : CarriedFrame) →
    column (with_frame_if (not frame.got) tally frame.octets) ≡ column tally + weight frame) → column no_frames ≡ 0 →
    (frames : List CarriedFrame) → column (lost_on no_frames frames) ≡ sum_by weight frames
unfolding lost_on
lost-sum column weight step none frames =
    let e = counted lost_on (λ (tally : Tally) (frame : CarriedFrame).
    with_frame_if (not frame.got) tally frame.octets) (λ b. refl) (λ b x xs. refl) column weight step no_frames frames in
    omega (arith, e, none)

lost-step : (tally : Tally) (frame : CarriedFrame) →
    ((with_frame_if (not frame.got) tally frame.octets).frames ≡ tally.frames + lost_one frame)
    × ((with_frame_if (not frame.got) tally frame.octets).octets ≡ tally.octets + lost_octets frame)
lost-step tally frame =
    elim (cases_Bool frame.got) [
      | inl got ↦ rw got (omega arith, omega arith)
      | inr lost ↦ rw lost (refl, refl)
    ]

module _ (column : Tally → ℕ) (weight : CarriedFrame → ℕ) (carried : List CarriedFrame) (rows : ℕ)
    (sum : (frames : List CarriedFrame) → column (lost_on no_frames frames) ≡ sum_by weight frames) where
  windows-sum : (low : ℕ) (outages : List Outage) → Rises low outages → All (λ (o : Outage). o.first ≤ rows) outages →
      sum_by (λ (line : OutageLine). column line.lost) (outage_lines carried rows outages)
      ≡ part at_key weight (next_first rows outages) rows carried
  unfolding outage_lines Rises
  windows-sum low [] rises within =
      omega (arith, part-split at_key weight carried rows rows rows (omega arith) (omega arith))
  windows-sum low (outage ∷ later) rises within =
      let rest = windows-sum outage.first later rises.1 (All-tail (λ (o : Outage). o.first ≤ rows) outage later within) in
      let own = sum (filter (λ (frame : CarriedFrame). is_in outage.first (next_first rows later) frame.at) carried) in
      let cons = sum_by-cons (λ (line : OutageLine). column line.lost) (outage_line carried rows outage later)
      (outage_lines carried rows later) in
      let up = next-up outage later rises.1 (All-head (λ (o : Outage). o.first ≤ rows) outage later within)
      (All-tail (λ (o : Outage). o.first ≤ rows) outage later within) in
      let split = part-split at_key weight carried outage.first (next_first rows later) rows up.0 up.1 in
      omega (arith, rest, own, cons, split)
    where
      next-up : (outage : Outage) (later : List Outage) → Rises outage.first later → outage.first ≤ rows →
          All (λ (o : Outage). o.first ≤ rows) later →
          (outage.first ≤ next_first rows later) × (next_first rows later ≤ rows)
      next-up outage [] rises own within = (own, omega arith)
      next-up outage (next ∷ later) rises own within =
          (rises.0, All-head (λ (o : Outage). o.first ≤ rows) next later within)

  part-all : (first : ℕ) → All (λ (f : CarriedFrame). (weight f ≡ 0) ⊎ ((first ≤ f.at) × (f.at < rows))) carried →
      part at_key weight first rows carried ≡ sum_by weight carried
  part-all first each = all-of carried each
    where
      all-of : (frames : List CarriedFrame) →
          All (λ (f : CarriedFrame). (weight f ≡ 0) ⊎ ((first ≤ f.at) × (f.at < rows))) frames →
          part at_key weight first rows frames ≡ sum_by weight frames
      all-of [] each = refl
      all-of (frame ∷ frames) each =
          let rest = all-of frames (λ k d low. each (suc k) d (omega (arith, low))) in
          let own = own-of frame frames (each 0 frame (omega arith)) in
          omega (arith, rest, sum_by-cons weight frame frames, own)
        where
          own-of : (frame : CarriedFrame) (frames : List CarriedFrame) →
              (weight frame ≡ 0) ⊎ ((first ≤ frame.at) × (frame.at < rows)) →
              part at_key weight first rows (frame ∷ frames) ≡ weight frame + part at_key weight first rows frames
          own-of frame frames (inl none) =
              elim (cases_Bool (is_in first rows frame.at)) [
                | inl is ↦ rw is (sum_by-cons weight frame
                    (filter (λ (f : CarriedFrame). is_in first rows f.at) frames))
                | inr isnt ↦ rw isnt (omega (arith, none))
              ]
          own-of frame frames (inr within) =
              rw (ap₂ ◌&&◌ (le-leb first frame.at within.0) (lt-ltb frame.at rows within.1))
              (sum_by-cons weight frame (filter (λ (f : CarriedFrame). is_in first rows f.at) frames))

module _ (leg : Leg) (s : Counts) (sound : IsSound leg) (walked : IsWalked leg s) where
  abbrev the_outages : List Outage
  the_outages = row_outages (session_rows leg s.rows)

  first-low : All (λ (o : Outage). o.first ≤ s.rows) the_outages
  first-low =
      λ k d low. let less = low-first leg s 0 the_outages s.rows (walk-are leg s) k d low in omega (arith, less)

  weighed : (column : Tally → ℕ) (weight : CarriedFrame → ℕ) →
      ((frames : List CarriedFrame) → column (lost_on no_frames frames) ≡ sum_by weight frames) →
      ((frame : CarriedFrame) → frame.got ≡ true → weight frame ≡ 0) →
      sum_by (λ (line : OutageLine). column line.lost) (outages_in leg s)
      ≡ sum_by weight (carried_of (ended_of leg s))
  weighed column weight sum none =
      windows-sum column weight (carried_of (ended_of leg s)) s.rows sum 0 the_outages
      (outages-rise (dark_row (session_rows leg s.rows)) 0 0 the_outages s.rows (omega arith) (walk-are leg s)) first-low
      ∙ part-all column weight (carried_of (ended_of leg s)) s.rows sum (next_first s.rows the_outages)
      (λ k d low. by _ (all-behind leg s k d low))
    where
      by : (frame : CarriedFrame) → LostBehind leg s frame →
          (weight frame ≡ 0) ⊎ ((next_first s.rows the_outages ≤ frame.at) × (frame.at < s.rows))
      by frame behind =
          elim (cases_Bool frame.got) [
            | inl got ↦ inl (none frame got)
            | inr lost ↦ inr (behind lost)
          ]

  pub outages-lost : total_of (λ (line : OutageLine). line.lost) (outages_in leg s) ≡ (all_of leg s).ended.lost
  outages-lost =
      ap₂ (λ f o. record { frames = f; octets = o })
      (weighed (λ (tally : Tally). tally.frames) lost_one
      (lost-sum (λ (tally : Tally). tally.frames) lost_one (λ tally frame. (lost-step tally frame).0) refl)
      (λ frame got. ap (λ b. if b then 0 else 1) got)
      ∙ sym (lost-frames-are leg s sound walked))
      (weighed (λ (tally : Tally). tally.octets) lost_octets
      (lost-sum (λ (tally : Tally). tally.octets) lost_octets (λ tally frame. (lost-step tally frame).1) refl)
      (λ frame got. ap (λ b. if b then 0 else frame.octets) got)
      ∙ sym (lost-octets-are leg s sound walked))

  -- ---- and what their rows add up to
  pub outages-dark : sum_by (λ (line : OutageLine). line.outage.end - line.outage.first) (outages_in leg s)
      ≡ (all_of leg s).dark
  outages-dark =
      let rows : List StreamRow = session_rows leg s.rows in
      let up = rows-told leg s sound walked in
      let size = states-count leg s.rows in
      lines-sum (λ (outage : Outage). outage.end - outage.first) (carried_of (ended_of leg s)) s.rows the_outages
      ∙ outages-long (state_of rows) (length rows)
      ∙ sym (dark-sum (states_of rows))
      ∙ ap dark_among (sym (take_all (told_of leg s) (states_of rows) (omega (arith, size, up))))

pub outages-broken : (leg : Leg) (s : Counts) →
    sum_by (λ (line : OutageLine). line.outage.spoiled) (outages_in leg s)
    ≡ sum_by (λ (run : SpoiledRun). run.end - run.first) (spoiled_of (scenario_by leg) (session_of leg) s.rows)
outages-broken leg s =
    let rows : List StreamRow = session_rows leg s.rows in
    lines-sum (λ (outage : Outage). outage.spoiled) (carried_of (ended_of leg s)) s.rows (row_outages rows)
    ∙ outages-spoiled (state_of rows) (length rows)
    ∙ spoiled-count (scenario_by leg) (session_of leg) s.rows
