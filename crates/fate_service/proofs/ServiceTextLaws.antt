-- The service text: how it goes on line by line, and that it depends on neither delays nor rings.
use Rattle.std.proofs.Common.{ℕ, List, ◌++◌, ◌∙◌, ap, arith, append_assoc, length-append, ◌≡◌, zero, suc, ◌+◌, ◌-◌}
use Rattle.std.proofs.Common.{◌<◌, ◌≤◌, ◌==◌, min, Bool, [], ◌∷◌, length, map, drop, get_or, Option, refl, sym, ap₂}
use Rattle.std.proofs.Common.{append-nil, inl, inr}
use Rattle.text_report.specs.declared.text_cursor.TextCursor.{TextCursor}
use Rattle.text_report.specs.TextCursor.{text_of, Extends}
use Rattle.std.specs.List.{flat_map, range_with_len}
use Rattle.std.proofs.lemmas.Bool.{cases_Bool, lt-ltb, le-ltb}
use Rattle.std.proofs.lemmas.List.{at_drop_more}
use Rattle.fate_engine.specs.declared.fate_law.Cause.{Cause}
use Rattle.fate_service.specs.declared.landed_frames.Tally.{Tally}
use Rattle.fate_service.specs.declared.landed_frames.CarriedFrame.{CarriedFrame}
use Rattle.fate_service.specs.declared.width_run.WidthRun.{WidthRun}
use Rattle.fate_service.specs.declared.outages.Outage.{Outage}
use Rattle.fate_service.specs.declared.service_text.Ends.{Ends}
use Rattle.fate_service.specs.declared.stretch_counts.Came.{Came}
use Rattle.fate_service.specs.declared.stretch_counts.Ended.{Ended}
use Rattle.fate_service.specs.declared.stretch_counts.Peak.{Peak}
use Rattle.fate_service.specs.declared.stretch_counts.Stretch.{Stretch}
use Rattle.fate_service.specs.MemberRuns.{runs_on, runs_of}
use Rattle.fate_service.specs.Outages.{losses, next_first, outages_of}
use Rattle.fate_service.specs.Stretches.{spans_on, Known, stretch_of, spans_of, told_on}
use Rattle.fate_service.specs.Surveyed.{next_run, run_text}
use Rattle.fate_service.specs.ServiceText.{members_text, outage_text, outages_text, stretches_text, delays_text}
use Rattle.fate_service.specs.ServiceText.{last_text, widths_of, service_text, service_with}
use Rattle.law_model.specs.Common.{Counts, begin, Leg, greatest, scenario_by, IsSound, place_of, stream_before, most_lines}
use Rattle.law_walk.specs.Common.{session_rows, landed_items, numbered, session_pieces, session_of, walk_plan}
use Rattle.law_walk.proofs.AcceptedFrameAndDrainedWalkLaws.{drained-ticks, drained-landed, drain-ends}
use Rattle.law_walk.proofs.WalkPlanAndPoppedCellLaws.{sound-walks, begins-walked}
use Rattle.law_service.specs.Twins.{with_delays, whole_walk}
use Rattle.law_service.proofs.RepeatedTurnAndDelayLaws.{ended-same}
use Rattle.fate_engine.specs.Common.{are_true_marks, ruler_of, Ended as EndedItem, ended_of, ended_among}
use Rattle.fate_engine.specs.Common.{fate_at, row_cause}
use Rattle.fate_service.specs.FrameColumns.{offered_of, accepted_of, carried_of, waits_of}
use Rattle.fate_service.specs.RowStates.{states_of}
use Rattle.fate_service.specs.Delays.{delays_of}

-- ---- A line that has grown by one text and then by another.
pub extends-then : {old middle new : TextCursor} {x y : List ℕ} → Extends old middle x → Extends middle new y →
    Extends old new (x ++ y)
extends-then {old} {middle} {new} {x} {y} one two = record {
  text = two.text ∙ ap (λ l. l ++ y) one.text ∙ append_assoc (text_of old) x y;
  end = (let a = one.end in let b = two.end in let all = length-append x y in omega (arith, a, b, all));
  size = two.size ∙ one.size;
  slice = two.slice ∙ one.slice;
}

-- ---- How the text goes on: an outage more, a stretch more, a row more.
-- ---- outages
pub outage-next : (cause : ℕ → Option Cause) (carried : List CarriedFrame) (rows : ℕ) (items : List Outage) (i : ℕ)
    (outage : Outage) (end : ℕ) → i < length items → outage ≡ get_or items i outage →
    end ≡ next_first rows (drop (i + 1) items) →
    outage_text outage (losses carried outage.first end) (cause outage.first)
    ++ outages_text cause carried rows (drop (i + 1) items) ≡ outages_text cause carried rows (drop i items)
unfolding outages_text
outage-next cause carried rows items i outage end low there is =
    ap (λ n. outage_text outage (losses carried outage.first n) (cause outage.first)
    ++ outages_text cause carried rows (drop (i + 1) items)) is
    ∙ ap (λ (o : Outage). outages_text cause carried rows (o ∷ drop (i + 1) items)) there
    ∙ sym (at_drop_more (outages_text cause carried rows) items i outage low)

-- ---- stretches
pub span-next : (left interval first told : ℕ) → 1 ≤ interval → first < told → told ≤ first + left →
    (rest : ℕ) × (told ≤ first + interval + rest) × (spans_on left interval first told
    ≡ (first, min told (first + interval)) ∷ spans_on rest interval (first + interval) told)
unfolding spans_on
span-next zero interval first told some low reach = absurd (omega (arith, low, reach))
span-next (suc rest) interval first told some low reach =
    (rest, omega (arith, some, reach), rw (lt-ltb first told low) refl)

pub span-end : (left interval first told : ℕ) → told ≤ first → spans_on left interval first told ≡ []
unfolding spans_on
span-end zero interval first told high = refl
span-end (suc rest) interval first told high = rw (le-ltb first told high) refl

-- ---- members
pub members-begin : (f : ℕ → ℕ) (rows members : ℕ) → 0 < rows → members ≡ f 0 →
    runs_on (record { first = 0; end = 1; members = members }) (map f (range_with_len 1 (rows - 1)))
    ≡ runs_of (map f (range_with_len 0 rows))
members-begin f zero members some is = absurd (omega (arith, some))
members-begin f (suc rows) members some is =
    ap₂ (λ m n. runs_on (record { first = 0; end = 1; members = m }) (map f (range_with_len 1 n))) is
    (let e : suc rows - 1 ≡ rows = omega arith in e)

range-more : (f : ℕ → ℕ) (row rows : ℕ) → row < rows →
    map f (range_with_len row (rows - row)) ≡ f row ∷ map f (range_with_len (row + 1) (rows - (row + 1)))
range-more f row rows low =
    ap (λ n. map f (range_with_len row n)) (let e : rows - row ≡ suc (rows - (row + 1)) = omega (arith, low) in e)

run-more : (size : ℕ) (run : WidthRun) (members : ℕ) (rest : List ℕ) →
    run_text size run members ++ flat_map (members_text size) (runs_on (next_run run members) rest)
    ≡ flat_map (members_text size) (runs_on run (members ∷ rest))
unfolding runs_on
run-more size run members rest =
    elim (cases_Bool (members == run.members)) [
      | inl same ↦ rw same refl
      | inr other ↦ rw other refl
    ]

pub members-next : (size : ℕ) (f : ℕ → ℕ) (run : WidthRun) (row rows members : ℕ) → row < rows → members ≡ f row →
    run_text size run members ++ flat_map (members_text size)
    (runs_on (next_run run members) (map f (range_with_len (row + 1) (rows - (row + 1)))))
    ≡ flat_map (members_text size) (runs_on run (map f (range_with_len row (rows - row))))
members-next size f run row rows members low is =
    run-more size run members (map f (range_with_len (row + 1) (rows - (row + 1))))
    ∙ ap (λ m. flat_map (members_text size) (runs_on run (m ∷ map f (range_with_len (row + 1) (rows - (row + 1)))))) is
    ∙ ap (λ l. flat_map (members_text size) (runs_on run l)) (sym (range-more f row rows low))

pub members-end : (size : ℕ) (f : ℕ → ℕ) (run : WidthRun) (row rows : ℕ) → rows ≤ row →
    flat_map (members_text size) (runs_on run (map f (range_with_len row (rows - row)))) ≡ members_text size run
unfolding runs_on
members-end size f run row rows high =
    ap (λ n. flat_map (members_text size) (runs_on run (map f (range_with_len row n))))
    (let e : rows - row ≡ 0 = omega (arith, high) in e)
    ∙ append-nil (members_text size run)

pub run-few : (run : WidthRun) (members : ℕ) → run.members ≤ most_lines → members ≤ most_lines → (next_run run members).members ≤ most_lines
run-few run members own few =
    elim (cases_Bool (members == run.members)) [
      | inl same ↦ rw same own
      | inr other ↦ rw other few
    ]

pub run-grows : (run : WidthRun) (members : ℕ) → (next_run run members).end ≡ run.end + 1
run-grows run members =
    elim (cases_Bool (members == run.members)) [
      | inl same ↦ rw same refl
      | inr other ↦ rw other refl
    ]

-- ---- a text that grows by a line
pub text-more : (done own rest part all : List ℕ) → own ++ rest ≡ part → done ++ part ≡ all → (done ++ own) ++ rest ≡ all
text-more done own rest part all next is = append_assoc done own rest ∙ ap (λ l. done ++ l) next ∙ is

pub text-whole : (done rest own all : List ℕ) → rest ≡ own → done ++ rest ≡ all → done ++ own ≡ all
text-whole done rest own all last is = ap (λ l. done ++ l) (sym last) ∙ is

pub five-texts : {a a2 b b2 d d2 e e2 h h2 : List ℕ} → a ≡ a2 → b ≡ b2 → d ≡ d2 → e ≡ e2 → h ≡ h2 →
    (((a ++ b) ++ d) ++ e) ++ h ≡ a2 ++ b2 ++ d2 ++ e2 ++ h2
five-texts {a} {a2} {b} {b2} {d} {d2} {e} {e2} {h} {h2} one two three four five =
    ap₂ ◌++◌ (ap₂ ◌++◌ (ap₂ ◌++◌ (ap₂ ◌++◌ one two) three) four) five

-- ---- columns
abbrev ends_by : ℕ → Tally → ℕ → ℕ → Bool → Ends
ends_by outages waits ticks taken starts =
    record { outages = outages; waits = waits; ticks = ticks; taken = taken; starts = starts }

pub same-ends : (outages outages2 : ℕ) (waits waits2 : Tally) (ticks ticks2 taken taken2 : ℕ) (starts starts2 : Bool) →
    outages ≡ outages2 → waits ≡ waits2 → ticks ≡ ticks2 → taken ≡ taken2 → starts ≡ starts2 →
    ends_by outages waits ticks taken starts ≡ ends_by outages2 waits2 ticks2 taken2 starts2
same-ends outages outages2 waits waits2 ticks ticks2 taken taken2 starts starts2 a b c d e =
    ap₂ (λ o w. ends_by o w ticks taken starts) a b ∙ ap₂ (λ t n. ends_by outages2 waits2 t n starts) c d
    ∙ ap (λ s. ends_by outages2 waits2 ticks2 taken2 s) e

abbrev stretch_by : Came → Ended → ℕ → Peak → ℕ → Stretch
stretch_by came ended capacity peak dark =
    record { came = came; ended = ended; capacity = capacity; peak = peak; dark = dark }

pub same-stretch : (came came2 : Came) (ended ended2 : Ended) (capacity capacity2 : ℕ) (peak peak2 : Peak)
    (dark dark2 : ℕ) → came ≡ came2 → ended ≡ ended2 → capacity ≡ capacity2 → peak ≡ peak2 → dark ≡ dark2 →
    stretch_by came ended capacity peak dark ≡ stretch_by came2 ended2 capacity2 peak2 dark2
same-stretch came came2 ended ended2 capacity capacity2 peak peak2 dark dark2 a b c d e =
    ap₂ (λ m n. stretch_by m n capacity peak dark) a b ∙ ap₂ (λ m n. stretch_by came2 ended2 m n dark) c d
    ∙ ap (λ m. stretch_by came2 ended2 capacity2 peak2 m) e

-- ---- The text depends on neither delays nor rings.
-- ---- the text by how many ticks were made and rows taken, and by what became of the items that have landed
abbrev known_among : Leg → ℕ → ℕ → List EndedItem → Known
known_among leg ticks rows all = record {
  place = place_of (scenario_by leg) (session_of leg);
  ticks = ticks;
  rows = rows;
  states = states_of (session_rows leg rows);
  offered = offered_of all;
  accepted = accepted_of all;
  carried = carried_of all;
  sent = (ruler_of (stream_before (scenario_by leg) (session_of leg) ticks)).sent;
}

abbrev ends_among : Leg → ℕ → ℕ → List EndedItem → Ends
ends_among leg ticks rows all = record {
  outages = length (outages_of (states_of (session_rows leg rows)));
  waits = waits_of all;
  ticks = ticks;
  taken = rows;
  starts = are_true_marks (session_pieces leg) (session_rows leg rows);
}

abbrev told_among : ℕ → List EndedItem → ℕ
told_among ticks all = told_on ticks (offered_of all)

abbrev service_among : ℕ → Leg → ℕ → ℕ → ℕ → List EndedItem → List ℕ
service_among path leg interval ticks rows all =
    flat_map (members_text leg.config.size) (runs_of (widths_of leg rows))
    ++ outages_text (row_cause (scenario_by leg) (session_of leg)) (carried_of all) rows
    (outages_of (states_of (session_rows leg rows)))
    ++ stretches_text (known_among leg ticks rows all) (spans_of interval (told_among ticks all))
    ++ delays_text (delays_of (carried_of all)) path
    ++ last_text (told_among ticks all) (stretch_of (known_among leg ticks rows all) 0 (told_among ticks all))
    (ends_among leg ticks rows all)

whole-service : (path : ℕ) (leg : Leg) (interval : ℕ) → IsSound leg → service_with path leg (whole_walk leg) interval
    ≡ service_among path leg interval leg.config.ticks leg.config.ticks
    (ended_among leg leg.config.ticks (numbered 0 leg.items))
whole-service path leg interval sound =
    let start : Counts = begin (walk_plan leg) in
    let s : Counts = whole_walk leg in
    let n : ℕ = leg.config.ticks in
    let walked = begins-walked leg in
    ap (λ ticks. service_among path leg interval ticks s.rows (ended_of leg s)) (drained-ticks leg start sound walked)
    ∙ ap (λ rows. service_among path leg interval n rows (ended_among leg rows (landed_items leg s)))
    (drain-ends leg start (sound-walks leg sound) walked)
    ∙ ap (λ items. service_among path leg interval n n (ended_among leg n items)) (drained-landed leg start sound walked)

pub same-service : (leg : Leg) (delays : List ℕ) (ring interval : ℕ) → IsSound leg →
    IsSound (with_delays leg delays ring) →
    service_text (with_delays leg delays ring) (whole_walk (with_delays leg delays ring)) interval
    ≡ service_with (greatest delays) leg (whole_walk leg) interval
same-service leg delays ring interval sound other =
    let n : ℕ = leg.config.ticks in
    whole-service (greatest delays) (with_delays leg delays ring) interval other
    ∙ ap (service_among (greatest delays) leg interval n n)
    (ended-same leg delays ring (fate_at (session_pieces leg) (session_rows leg n)) (numbered 0 leg.items) 0)
    ∙ sym (whole-service (greatest delays) leg interval sound)
