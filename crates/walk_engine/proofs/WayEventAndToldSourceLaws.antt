-- What stays of a direction after any event or in another view, and what its source was told (told_scenario).
use Rattle.std.proofs.Common.{◌≡◌, ℕ, List, [], ◌∷◌, ◌++◌, slice_get, slice_set, Option, Some, refl, sym, ◌∙◌, ap}
use Rattle.std.proofs.Common.{subst, inl, inr, ◌<◌, arith, is_some, ◌≢◌, ◌≤◌, zero, suc, ◌+◌, ◌-◌, ◌/◌, ◌%◌, fold}
use Rattle.std.proofs.Common.{length, take, slice_index_or, None}
use Rattle.std.proofs.lemmas.Bool.{cases_eq, cases_lt}
use Rattle.circular_buffer.proofs.Places.{slice_get-set_other}
use Rattle.member_rows.proofs.RowGatherLinesLaws.{set-here}
use Rattle.member_rows.specs.realign_rows.Gather.{Gather, GatherStands as Gathers}
use Rattle.terminal_sink.specs.sink_core.Core.{Core, SinkStands as HasTaken}
use Rattle.law_model.specs.Common.{Leg, LineCounts, Counts, run, begin, IsSound, Scenario, orders_at, frames_at}
use Rattle.law_model.specs.Common.{steps_in, Told, told_by, untold, telling_at, passed_on, asked_all, source_at}
use Rattle.law_model.specs.Common.{Stream, offered, place_of, frame_of}
use Rattle.law_model.specs.declared.walk_events.Event.{Event}
use Rattle.law_model.specs.declared.walk_events.StallCause.{StallCause}
use Rattle.law_model.specs.declared.item_refusals.Refusal.{Refusal}
use Rattle.law_progress.specs.Progress.{Fits}
use Rattle.law_progress.proofs.RoundProgressAndDrainLaws.{reached-fits, run-append}
use Rattle.law_walk.specs.Common.{walk_plan, IsWalked, refusals_of, popped_cells, landed_scenario}
use Rattle.law_walk.proofs.WalkPlanAndPoppedCellLaws.{has-plan, sound-walks}
use Rattle.terminal_group.specs.Landed.{Landed}
use Rattle.terminal_group.specs.declared.landed_counts.LandedCounts.{LandedCounts}
use Rattle.terminal_source.specs.source_core.Terminal.{Terminal, SameKind, needed, needed_at}
use Rattle.walk_engine.specs.Common.{answer_by, counts_after, Parts, counts_of, HasSource, HasCounted, HasLanded}
use Rattle.walk_engine.specs.Common.{IsLive, IsWalk, Walking, LiveMakes, LiveStands, Makes, StandsForSome, Takes}
use Rattle.walk_engine.specs.Common.{AgreesAt, walking_counts, windows_in, told_scenario, with_passed, IsTold}
use Rattle.walk_engine.specs.declared.walk_core.step_answers.Moved.TheVariants.{Stalled}
use Rattle.terminal_group.specs.ReturnInbox.{Inbox, cell_for, rest_for}
use Rattle.walk_engine.specs.walk_core.WayParts.{HasSink, WayStands}
use Rattle.terminal_sink.specs.declared.sink_core.sink_terminal.TakeAnswer.{TakeAnswer}
use Rattle.terminal_group.specs.SourceByCounts.{Counted, missing_from}
use Rattle.terminal_group.specs.Source.{missing_by}
use Rattle.walk_engine.specs.declared.walk_core.step_answers.Moved.{Moved}
use Rattle.std.specs.List.{range_with_len}
use Rattle.std.proofs.lemmas.List.{get_or-take}
use Rattle.law_model.proofs.ListLaws.{take-few}
use Rattle.law_model.specs.declared.control_packet.Packet.{Packet}
use Rattle.law_session.proofs.ClientStreamAndReplayLaws.{Alike, alike-after, alike-place, alike-stream, alike-frame}
use Rattle.law_session.proofs.ClientStreamAndReplayLaws.{map-same}
use Rattle.gfp_fill.specs.FilledStream.{FillerStands as HasWritten}
use Rattle.terminal_source.specs.source_core.GivenScenario.{told_next, stream_now, nibbles_after}
use Rattle.terminal_source.specs.source_core.GivenScenario.{SourceStands as HasMade}
use Rattle.terminal_source.proofs.SourceTerminalScenarioLaws.{alike-active, alike-nibbles, next-here, next-before}

-- ---- What each event leaves of a walk's counts.
pub walked-next : (leg : Leg) (s next : Counts) (event : Event) → IsWalked leg s →
    next ≡ counts_after leg s event → IsWalked leg next
unfolding run
walked-next leg s next event walked is = (
  walked.0 ++ event ∷ [],
  is ∙ ap (λ s. counts_after leg s event) walked.1
      ∙ sym (run-append (walk_plan leg) (begin (walk_plan leg)) walked.0 (event ∷ [])),
)

pub walk-fits : (leg : Leg) (s : Counts) → IsSound leg → IsWalked leg s → Fits (walk_plan leg) s
walk-fits leg s sound walked = reached-fits (walk_plan leg) s (has-plan leg (sound-walks leg sound)) walked

-- a stalled event
pub stalled-moved : (cause : StallCause) (found : Option StallCause) (why : Option Refusal) → found ≡ Some cause →
    Stalled cause ≡ answer_by found why
stalled-moved cause found why e = rw e refl

-- the source and what has landed, where lines, rows or return packets move
module _ (leg : Leg) (s : Counts) (lines : List LineCounts) (rows backs : ℕ) where
  pub source-stays : (source : Terminal) → HasSource leg s source →
      HasSource leg (record s { lines = lines; rows = rows; backs = backs }) source
  source-stays source has = record
      { made = has.made; lines = has.lines; lag = has.lag; size = has.size; statuses = has.statuses }

  pub counted-stays : (landed : LandedCounts) → HasCounted leg s landed →
      HasCounted leg (record s { lines = lines; rows = rows; backs = backs }) landed
  counted-stays landed has = record { frames = has.frames; commands = has.commands; refused = has.refused }

-- the sink, where no cells were popped
pub sink-stays : (leg : Leg) (s next : Counts) (rows : Gather) (sink : Core) →
    popped_cells leg s.lines ≡ popped_cells leg next.lines → HasSink leg s rows sink → HasSink leg next rows sink
sink-stays leg s next rows sink cells has = record {
  gathers = subst (Gathers rows) cells has.gathers;
  taken = subst (HasTaken sink) cells has.taken;
  passed = has.passed;
  lines = has.lines;
  all = has.all;
  size = has.size;
  options = has.options;
}

-- what each element of a list is that gets another one in a place
pub set-each : {X : Type 0} (P : ℕ → X → Type 0) (xs : List X) (m : ℕ) (x : X) → P m x →
    ((k : ℕ) (y : X) → slice_get xs k ≡ Some y → P k y) → (k : ℕ) (y : X) → slice_get (slice_set xs m x) k ≡ Some y → P k y
set-each P xs m x new old k y e = elim (cases_eq k m) [
  | inl at ↦ subst (λ j. P j y) (sym at)
      (subst (P m) (sym (set-here xs m x y (sym (ap (slice_get (slice_set xs m x)) at) ∙ e))) new)
  | inr apart ↦ old k y (sym (slice_get-set_other xs m k x apart) ∙ e)
]

-- what has landed of the items, where so many have landed as before
pub landing-stays : (leg : Leg) (s next : Counts) (landing : Landed) → next.frames ≡ s.frames →
    next.commands ≡ s.commands → HasLanded leg s landing → HasLanded leg next landing
landing-stays leg s next landing frames commands has = record {
  items = has.items;
  lines = has.lines;
  frames = has.frames ∙ sym frames;
  commands = has.commands ∙ sym commands;
  refusals = has.refusals ∙ ap (λ n. refusals_of leg (record s { frames = n })) (sym frames)
      ∙ ap (λ n. refusals_of leg (record s { frames = next.frames; commands = n })) (sym commands);
}

-- a direction to which more return packets have come, and whose inbox holds others
pub stands-back : (leg : Leg) (backs next : ℕ) (parts : Parts) (inbox : Inbox) → WayStands leg backs parts →
    IsWalked leg (counts_of parts next) →
    WayStands leg next (record parts { source = record parts.source { inbox = inbox } })
stands-back leg backs next parts inbox is walked = record {
  sound = is.sound;
  total = is.total;
  walked = walked;
  source = source-stays leg (counts_of parts backs) _ _ _ parts.source.core is.source;
  sent = is.sent;
  lines = is.lines;
  agrees = is.agrees;
  sink = sink-stays leg (counts_of parts backs) _ parts.rows parts.sink refl is.sink;
  landed = counted-stays leg (counts_of parts backs) _ _ _ parts.source.landed is.landed;
  counted = is.counted;
}

-- ---- What an event makes of one direction, where it was read in another way; and a source side that was told something.
pub makes-from : (leg : Leg) (backs : ℕ) (event : Event) (was old now : Parts) (answer : Moved) → was ≡ old →
    Makes leg backs event was now answer → Makes leg backs event old now answer
makes-from leg backs event was old now answer same makes =
    subst (λ (p : Parts). Makes leg backs event p now answer) same makes

pub takes-from : (leg : Leg) (backs : ℕ) (was old now : Parts) (answer : TakeAnswer) → was ≡ old →
    Takes leg backs was now answer → Takes leg backs old now answer
takes-from leg backs was old now answer same takes =
    subst (λ (p : Parts). Takes leg backs p now answer) same takes

pub live-from : (leg : Leg) (event : Event) (was old now : Walking) (answer : Moved) → was ≡ old →
    LiveMakes leg event was now answer → LiveMakes leg event old now answer
live-from leg event was old now answer same makes =
    subst (λ (w : Walking). LiveMakes leg event w now answer) same makes

-- it stands for some leg, as it is read
pub is-live : (was now : Walking) → was ≡ now → IsLive now → IsLive was
is-live was now same (leg, stands) = (leg, subst (LiveStands leg) (sym same) stands)

-- its direction stands for some leg
pub way-stands : (live : Walking) → IsLive live → StandsForSome live.way
way-stands live (leg, stands) = (leg, live.way.source.inbox.come, stands.stands)

-- a walk that has moved, where no item has landed
pub walk-moved : (leg : Leg) (was now : Walking) (landing : Landed) → IsWalk leg was landing → LiveStands leg now →
    now.way.source.landed ≡ was.way.source.landed → windows_in now.way.lines ≡ windows_in was.way.lines →
    IsWalk leg now landing
walk-moved leg was now landing is stands same windows = record {
  stands = stands;
  known = λ t. subst (AgreesAt leg t) (sym windows) (is.known t);
  landed = landing-stays leg (walking_counts was) (walking_counts now) landing
      (ap (λ (l : LandedCounts). l.frames) same) (ap (λ (l : LandedCounts). l.commands) same) is.landed;
}

-- ---- what is told to a source changes no ticks and no return cell
module _ (was now : Counted) (rest : now ≡ record was { core = now.core })
    (ticks : now.core.ticks ≡ was.core.ticks) (kind : SameKind now.core was.core) where
  pub same-left : was.core.ticks < was.total → now.core.ticks < now.total
  same-left low =
      let total : now.total ≡ was.total = ap (λ (s : Counted). s.total) rest in
      omega (arith, low, total, ticks)

  same-needed : needed now.core ≡ needed was.core
  same-needed = ap (λ lag. needed_at lag now.core.ticks) kind.lag ∙ ap (needed_at was.core.lag) ticks

  same-inbox : now.inbox ≡ was.inbox
  same-inbox = ap (λ (s : Counted). s.inbox) rest

  pub same-missing : missing_from now ≡ missing_from was
  same-missing = ap (λ (i : Inbox). missing_by (needed now.core) i.cells) same-inbox
      ∙ ap (λ (n : Option ℕ). missing_by n was.inbox.cells) same-needed

  pub same-cell : cell_for (is_some (needed now.core)) now.inbox.cells
      ≡ cell_for (is_some (needed was.core)) was.inbox.cells
  same-cell = ap (λ (i : Inbox). cell_for (is_some (needed now.core)) i.cells) same-inbox
      ∙ ap (λ (n : Option ℕ). cell_for (is_some n) was.inbox.cells) same-needed

  pub same-rest : record now.inbox { cells = rest_for (is_some (needed now.core)) now.inbox.cells }
      ≡ record was.inbox { cells = rest_for (is_some (needed was.core)) was.inbox.cells }
  same-rest = ap (λ (i : Inbox). record i { cells = rest_for (is_some (needed now.core)) i.cells }) same-inbox
      ∙ ap (λ (n : Option ℕ). record was.inbox { cells = rest_for (is_some n) was.inbox.cells }) same-needed

-- ---- What a source was told of a leg's packets: so far, and with the next frame.
-- ---- the first of what is told
first-past : (n : ℕ) (tells : List Told) (k : ℕ) → n ≤ k → slice_index_or (take n tells) k untold ≡ untold
first-past zero tells k past = refl
first-past (suc n) [] k past = refl
first-past (suc n) (told ∷ tells) zero past = absurd (omega (arith, past))
first-past (suc n) (told ∷ tells) (suc k) past = first-past n tells k (omega (arith, past))

-- what is told next is the last
alone-past : (n : ℕ) (told : Told) (k : ℕ) → n < k → slice_index_or (told_next n told []) k untold ≡ untold
unfolding told_next
alone-past zero told zero past = absurd (omega (arith, past))
alone-past zero told (suc k) past = refl
alone-past (suc n) told zero past = absurd (omega (arith, past))
alone-past (suc n) told (suc k) past = alone-past n told k (omega (arith, past))

next-past : (n : ℕ) (told : Told) (tells : List Told) (k : ℕ) → n < k →
    slice_index_or (told_next n told (take n tells)) k untold ≡ untold
unfolding told_next
next-past zero told tells zero past = absurd (omega (arith, past))
next-past zero told tells (suc k) past = refl
next-past (suc n) told [] zero past = absurd (omega (arith, past))
next-past (suc n) told [] (suc k) past = alone-past n told k (omega (arith, past))
next-past (suc n) told (first ∷ tells) zero past = absurd (omega (arith, past))
next-past (suc n) told (first ∷ tells) (suc k) past = next-past n told tells k (omega (arith, past))

-- ---- sessions whose packets tell the same so far
alike-told : (scenario : Scenario) (one other : List Told) (cells : List (Option Told)) (t : ℕ) →
    ((k : ℕ) → k < steps_in t → slice_index_or one k untold ≡ slice_index_or other k untold) →
    Alike (record scenario { tells = one }) cells (record scenario { tells = other }) cells t
alike-told scenario one other cells t same = record {
  lines = refl;
  lag = refl;
  size = refl;
  statuses = refl;
  orders = λ j low. refl;
  cells = λ j low. refl;
  offers = λ u low. refl;
  tells = same;
}

-- ---- a terminal that was told the same so far, by another list
pub retold : (core : Terminal) (scenario : Scenario) (tells : List Told) (cells : List (Option Told)) →
    HasMade core scenario cells → length tells ≤ steps_in core.ticks + 1 →
    ((k : ℕ) → k ≤ steps_in core.ticks → slice_index_or tells k untold ≡ telling_at scenario k) →
    HasMade core (record scenario { tells = tells }) cells
retold core scenario tells cells made few same = record {
  lines = made.lines;
  lag = made.lag;
  size = made.size;
  statuses = made.statuses;
  offers = made.offers;
  orders = made.orders;
  told = made.told;
  table = made.table ∙ sym (ap (λ source. record {
    lines = length scenario.windows;
    statuses = scenario.options.statuses;
    source = asked_all (length scenario.windows) (orders_at scenario (steps_in core.ticks)) source;
    taken = steps_in core.ticks - scenario.lag;
    steps = steps_in core.ticks;
  }) (alike-after more cells scenario cells core.ticks (steps_in core.ticks) alike (omega arith)));
  stream = subst (λ stream. HasWritten core.sender core.queue stream (place_of more cells core.ticks))
      (sym (ap (λ stream. fold offered stream (frames_at scenario core.ticks))
      (alike-stream more cells scenario cells core.ticks alike)))
      (subst (λ place. HasWritten core.sender core.queue (stream_now scenario cells core.ticks) place)
      (sym (alike-place more cells scenario cells core.ticks alike)) made.stream);
  active = made.active ∙ sym (alike-active more cells scenario cells core.ticks alike);
  nibbles = made.nibbles ∙ map-same (λ line. nibbles_after scenario cells line (steps_in core.ticks))
      (λ line. nibbles_after more cells line (steps_in core.ticks))
      (λ line. sym (alike-nibbles more cells scenario cells core.ticks line alike))
      (range_with_len 0 (length scenario.windows));
  tells = few;
  telling = made.telling ∙ sym (same (steps_in core.ticks) (omega arith));
}
  where
    more : Scenario
    more = record scenario { tells = tells }

    alike : Alike more cells scenario cells core.ticks
    alike = alike-told scenario tells scenario.tells cells core.ticks (λ k low. same k (omega (arith, low)))

-- ---- what it holds is what the whole leg says
module _ (leg : Leg) (s : Counts) (cells : List (Option Told)) where
  told-alike : Alike (told_scenario leg s) cells (landed_scenario leg s) cells s.ticks
  told-alike = alike-told (landed_scenario leg s) (take (steps_in s.ticks) leg.tells) leg.tells cells s.ticks
      (λ k low. get_or-take (steps_in s.ticks) leg.tells k untold low)

  pub told-source : source_at (told_scenario leg s) cells (steps_in s.ticks)
      ≡ source_at (landed_scenario leg s) cells (steps_in s.ticks)
  told-source =
      ap (λ source. asked_all (length leg.config.windows) (orders_at (landed_scenario leg s) (steps_in s.ticks)) source)
      (alike-after (told_scenario leg s) cells (landed_scenario leg s) cells s.ticks (steps_in s.ticks) told-alike
      (omega arith))

  pub told-stream : stream_now (told_scenario leg s) cells s.ticks ≡ stream_now (landed_scenario leg s) cells s.ticks
  told-stream = ap (λ (stream : Stream). fold offered stream (frames_at (landed_scenario leg s) s.ticks))
      (alike-stream (told_scenario leg s) cells (landed_scenario leg s) cells s.ticks told-alike)

-- ---- the next frame, whose packets pass something on
step-now : (t : ℕ) → t % 16 ≡ 8 → (t / 16 ≡ (t + 7) / 16) × (((t + 1) + 7) / 16 ≡ (t + 7) / 16 + 1)
step-now t at = (omega (arith, at), omega (arith, at))

no-step : (t : ℕ) → t % 16 ≢ 8 → ((t + 1) + 7) / 16 ≡ (t + 7) / 16
no-step t other = omega (arith, other)

-- what packet k tells, where packet n passes on what the leg's does
passed-at : (leg : Leg) (s : Counts) (n : ℕ) (told : Option Packet) → n ≡ steps_in s.ticks →
    passed_on told ≡ slice_index_or leg.tells n untold → (k : ℕ) →
    slice_index_or (take (n + 1) leg.tells) k untold ≡ telling_at (with_passed (told_scenario leg s) n told) k
passed-at leg s n told steps is k =
    elim (cases_lt n k) [
      | inl past ↦ first-past (n + 1) leg.tells k (omega (arith, past)) ∙ sym (past-is told past)
      | inr most ↦ get_or-take (n + 1) leg.tells k untold (omega (arith, most)) ∙ elim (cases_eq k n) [
        | inl last ↦ ap (λ i. slice_index_or leg.tells i untold) last ∙ sym is ∙ sym (last-is told)
            ∙ ap (telling_at (with_passed (told_scenario leg s) n told)) (sym last)
        | inr other ↦ sym (low-is told (omega (arith, most, other)))
      ]
    ]
  where
    first-is : (i : ℕ) → telling_at (told_scenario leg s) i ≡ slice_index_or (take n leg.tells) i untold
    first-is i = ap (λ m. slice_index_or (take m leg.tells) i untold) (sym steps)

    low-is : (told : Option Packet) → k < n →
        telling_at (with_passed (told_scenario leg s) n told) k ≡ slice_index_or leg.tells k untold
    low-is None low = first-is k ∙ get_or-take n leg.tells k untold low
    low-is (Some packet) low = next-before n k (told_by packet) (take (steps_in s.ticks) leg.tells) low
        ∙ first-is k ∙ get_or-take n leg.tells k untold low

    last-is : (told : Option Packet) → telling_at (with_passed (told_scenario leg s) n told) n ≡ passed_on told
    last-is None = first-is n ∙ first-past n leg.tells n (omega arith)
    last-is (Some packet) = next-here n (told_by packet) (take (steps_in s.ticks) leg.tells)

    past-is : (told : Option Packet) → n < k → telling_at (with_passed (told_scenario leg s) n told) k ≡ untold
    past-is None past = first-is k ∙ first-past n leg.tells k (omega (arith, past))
    past-is (Some packet) past =
        ap (λ m. slice_index_or (told_next n (told_by packet) (take m leg.tells)) k untold) (sym steps)
        ∙ next-past n (told_by packet) leg.tells k past

passed-rest : (scenario : Scenario) (n : ℕ) (told : Option Packet) (tells : List Told) →
    record (with_passed scenario n told) { tells = tells } ≡ record scenario { tells = tells }
passed-rest scenario n None tells = refl
passed-rest scenario n (Some packet) tells = refl

module _ (leg : Leg) (s : Counts) (told : Option Packet) (is : IsTold leg s.ticks told) where
  passed-tells : (k : ℕ) → slice_index_or (take (steps_in (s.ticks + 1)) leg.tells) k untold
      ≡ telling_at (with_passed (told_scenario leg s) (steps_in s.ticks) told) k
  passed-tells k = elim (cases_eq (s.ticks % 16) 8) [
    | inl at ↦
        let (now, next) = step-now s.ticks at in
        ap (λ n. slice_index_or (take n leg.tells) k untold) next
        ∙ passed-at leg s (steps_in s.ticks) told refl
        (is.step at ∙ ap (λ n. slice_index_or leg.tells n untold) now) k
    | inr other ↦
        ap (λ n. slice_index_or (take n leg.tells) k untold) (no-step s.ticks other)
        ∙ ap (λ o. telling_at (with_passed (told_scenario leg s) (steps_in s.ticks) o) k) (sym (is.between other))
  ]

  pub passed-made : (core : Terminal) (cells : List (Option Told)) → core.ticks ≡ s.ticks + 1 →
      HasMade core (with_passed (told_scenario leg s) (steps_in s.ticks) told) cells →
      HasMade core (told_scenario leg (record s { ticks = s.ticks + 1 })) cells
  passed-made core cells ticks made =
      subst (λ scenario. HasMade core scenario cells)
      (passed-rest (told_scenario leg s) (steps_in s.ticks) told (take (steps_in (s.ticks + 1)) leg.tells))
      (retold core (with_passed (told_scenario leg s) (steps_in s.ticks) told)
      (take (steps_in (s.ticks + 1)) leg.tells) cells made
      (let few = take-few (steps_in (s.ticks + 1)) leg.tells in
      let same : steps_in core.ticks ≡ steps_in (s.ticks + 1) = ap steps_in ticks in
      omega (arith, few, same))
      (λ k low. passed-tells k))

  passed-alike : (cells : List (Option Told)) → (told : Option Packet) →
      ((k : ℕ) → slice_index_or (take (steps_in (s.ticks + 1)) leg.tells) k untold
      ≡ telling_at (with_passed (told_scenario leg s) (steps_in s.ticks) told) k) →
      Alike (with_passed (told_scenario leg s) (steps_in s.ticks) told) cells (landed_scenario leg s) cells
      (suc s.ticks)
  passed-alike cells None same =
      alike-told (landed_scenario leg s) (take (steps_in s.ticks) leg.tells)
      leg.tells cells (suc s.ticks)
      (λ k low. sym (same k) ∙ get_or-take (steps_in (s.ticks + 1)) leg.tells k untold (omega (arith, low)))
  passed-alike cells (Some packet) same =
      alike-told (landed_scenario leg s) (told_next (steps_in s.ticks) (told_by packet) (take (steps_in s.ticks) leg.tells))
      leg.tells cells (suc s.ticks)
      (λ k low. sym (same k) ∙ get_or-take (steps_in (s.ticks + 1)) leg.tells k untold (omega (arith, low)))

  pub passed-frame : (cells : List (Option Told)) →
      frame_of (with_passed (told_scenario leg s) (steps_in s.ticks) told) cells s.ticks
      ≡ frame_of (landed_scenario leg s) cells s.ticks
  passed-frame cells =
      alike-frame (with_passed (told_scenario leg s) (steps_in s.ticks) told) cells (landed_scenario leg s) cells
      s.ticks (passed-alike cells told passed-tells)
