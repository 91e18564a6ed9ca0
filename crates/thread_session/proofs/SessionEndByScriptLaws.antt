-- A session that has come to its end has ended as its script says: its lines, return cells, sink and group.
use Rattle.std.proofs.Common.{◌≡◌, inl, inr, ℕ, zero, suc, ◌+◌, ◌-◌, ◌%◌, ◌==◌, ◌&&◌, ◌<◌, ◌≤◌, nat_lt, Bool}
use Rattle.std.proofs.Common.{if◌then◌else◌, List, [], ◌∷◌, ◌++◌, length, map, refl, sym, ◌∙◌, ap, subst, arith}
use Rattle.std.proofs.Common.{length-append, Contains, append-nil, ◌*◌, ◌/◌, slice_get, slice_index_or, Option, Some}
use Rattle.std.proofs.Common.{None, option_map, take, not, filter, is_none, ap₂}
use Rattle.std.specs.List.{range_with_len}
use Rattle.std.proofs.lemmas.Bool.{cases_Bool, cases_lt}
use Rattle.std.proofs.lemmas.Bool.Decides.{nat_tests}
use Rattle.std.proofs.lemmas.List.{nil_from_length, length-map}
use Rattle.std.proofs.lemmas.List.FromFn.{map-range_with_len_more, length-map-range_with_len, take-map-range_with_len}
use Rattle.law_model.specs.Common.{Container, Cell, End, BackCell, packet_nibbles, cells, return_at, leg_of, IsValid}
use Rattle.law_model.specs.Common.{scenario_of, Told, session_cells, containers_of, container_of, Scenario, is_lost}
use Rattle.law_model.specs.Common.{told_in, used_in, carried_by, steps_in, offers_of, orders_of, Due, dues_of}
use Rattle.law_model.specs.declared.script_types.Options.{Options}
use Rattle.member_cells.specs.declared.containers_and_cells.BackCell.TheVariants.{Packet as Nibbles}
use Rattle.law_model.specs.members.Damage.{carried}
use Rattle.law_model.specs.session.Scenario.{packets_in}
use Rattle.member_path.proofs.DelayedPathCellLaws.{end-open}
use Rattle.law_walk.proofs.WalkRingAndWaitingTakeLaws.{packet-now, packets-next, packet-is, ends}
use Rattle.terminal_sink.specs.sink_core.TakenAndGiven.{back_at, given_frames}
use Rattle.thread_sink.specs.ReceivedByRings.{back_cells, backs, received}
use Rattle.thread_sink.proofs.SinkStepAndFrameLaws.{backs-more, backs-none}
use Rattle.thread_rings.specs.declared.line_worker.LineWorker.{LineWorker}
use Rattle.thread_rings.specs.EndsOfRing.{out_passed, in_passed, in_items, OutEnd, InEnd}
use Rattle.std.proofs.lemmas.Option.{slice_get-map, slice_get_within}
use Rattle.law_model.specs.declared.window_types.Window.{Window}
use Rattle.law_model.specs.declared.script_types.Script.{Script}
use Rattle.law_line.specs.StableRows.{AreDecidedAt}
use Rattle.law_model.proofs.ListLaws.{slice_get-inside}
use Rattle.law_terminal.specs.SessionLines.{given, ComesOfLine, ComeOfLines}
use Rattle.law_terminal.specs.Course.{told_of, IsCourse, back_of}
use Rattle.law_terminal.proofs.ContainerPayloadLaws.{same-range, containers-size}
use Rattle.law_terminal.proofs.SessionCourseLaws.{course-containers, course-rows, course-packet, course-returns}
use Rattle.law_terminal.proofs.SessionCourseLaws.{session-agree}
use Rattle.law_walk.specs.Common.{CanWalk, sent_on, delay_on, said_packet, delivered_of, line_cells, Numbered}
use Rattle.law_walk.specs.Common.{is_client, landed_items, refusal_at, refused_by, is_accepted_frame}
use Rattle.law_walk.specs.Common.{is_accepted_command, refusals_among, numbered}
use Rattle.law_walk.proofs.WalkPlanAndPoppedCellLaws.{has-lines, sound-walks}
use Rattle.terminal_sink.proofs.ReceivedRowAndGivenFrameLaws.{session-frames}
use Rattle.thread_session.specs.session_parts.EndedSession.{IsGathered, session_backs, IsEnded}
use Rattle.terminal_group.specs.ReturnInbox.{come_by, come_from, told_taken}
use Rattle.terminal_group.proofs.InboxReturnCellLaws.{taken-more}
use Rattle.law_model.specs.declared.item_refusals.Refusal.{Refusal}
use Rattle.law_model.specs.declared.session_totals.Totals.{Totals}
use Rattle.law_session.specs.ReturnedCells.{AgreeBefore}
use Rattle.law_walk.proofs.LandedItemRefusalAndTotalLaws.{Ahead}
use Rattle.law_walk.proofs.AcceptedFrameAndDrainedWalkLaws.{ended-landed}
use Rattle.law_walk.proofs.DeliveredFrameCountLaws.{delivered-few}
use Rattle.thread_sink.specs.declared.sink_worker.SinkWorker.{SinkWorker}
use Rattle.thread_sink.specs.Told.{count_of}
use Rattle.thread_sink.specs.WorkerOfSink.{cells_of, options_of, size_of, taken_of as rows_taken}
use Rattle.thread_group.specs.declared.group_state.GroupState.{GroupState}
use Rattle.thread_group.specs.Group.{ticks_of, items_of, lag_of, frames_of, commands_of, journal_of, refusals_of}
use Rattle.thread_group.specs.Group.{taken_of, totals_of}
use Rattle.thread_group.specs.Journal.{items_in, of_client, of_operator}
use Rattle.thread_group.specs.GroupOfLeg.{counts_of, refusal_by, refusals_by, accepted_frames_by, accepted_commands_by}
use Rattle.terminal_group.proofs.ItemPlaceAndHeldItemLaws.{bare-dues}
use Rattle.thread_group.proofs.JournalEntryAndScenarioLaws.{alike-cells, refusal-alike, offers-length, orders-length}
use Rattle.thread_group.proofs.GroupBoundToLegLaws.{same-each, same-filter}
use Rattle.thread_session.specs.session_run.SessionOfScript.{HasComeToEnd, group_totals, IsGroupEnded}

-- ---- A line that has come to its end carried all its containers, and what a sink sends of its rows.
-- ---- a line
-- the worker has made all its carries
pub record HasCarried (worker : LineWorker) : Type 0 where
  pub received : length (in_passed worker.consumer) ≡ worker.core.total
  pub flushed : worker.core.flushed ≡ worker.core.delay + 1

carried-by : (pushed flushed delay total : ℕ) → total < pushed + flushed - delay → pushed ≤ total →
    flushed ≤ delay + 1 → (0 < flushed → pushed ≡ total) →
    (pushed ≡ total) × (flushed ≡ delay + 1)
carried-by pushed flushed delay total past within most order =
    let some : 0 < flushed = omega (arith, past, within) in
    let all = order some in
    (all, omega (arith, past, within, most, all))

pub line-carried : (worker : LineWorker) (sent : List Container) →
    in_passed worker.consumer ++ in_items worker.consumer ≡ sent → length sent ≡ worker.core.total →
    Contains (out_passed worker.producer) End → HasCarried worker
line-carried worker sent fifo size ended =
    let received : List Container = in_passed worker.consumer in
    let line = worker.core in
    let within : length received ≤ line.total =
    omega (arith, size, ap length fifo, length-append received (in_items worker.consumer)) in
    let has : Contains (cells (carried line.windows) line.delay line.total received (length received + line.flushed))
    End =
    subst (λ own. Contains own End) worker.sent ended in
    elim (cases_lt line.total (length received + line.flushed - line.delay)) [
      | inl past ↦
          let order = worker.order in
          let all = carried-by (length received) line.flushed line.delay line.total past within worker.flushes
          (λ some. let pushed = order some in sym worker.stands.pushed ∙ pushed) in
          record { received = all.0; flushed = all.1 }
      | inr early ↦ absurd (end-open (carried line.windows) line.delay line.total received
          (length received + line.flushed) early has)
    ]

pub whole-prefix : {X : Type 0} (part rest whole : List X) → part ++ rest ≡ whole → length part ≡ length whole →
    part ≡ whole
whole-prefix part rest whole is size =
    let none : rest ≡ [] = nil_from_length rest (omega (arith, size, ap length is, length-append part rest)) in
    sym (append-nil part) ∙ ap (λ l. part ++ l) (sym none) ∙ is

-- ---- return cells
-- the return cells of some rows are those of their packets
pub backs-are : (options : Options) (own : List (List Cell)) (t : ℕ) →
    backs options own t ≡ map (λ k. Nibbles (packet_nibbles (return_at options own k)))
    (range_with_len 0 (packets_in t))
backs-are options own zero = backs-none options own 0 refl
backs-are options own (suc t) =
    let f : ℕ → BackCell = λ k. Nibbles (packet_nibbles (return_at options own k)) in
    let more : backs options own (suc t) ≡ backs options own t ++ back_cells (back_at options own t) =
    backs-more options own t (suc t) (omega arith) in
    let next : packets_in (suc t) ≡ packets_in t + (if nat_lt 22 t && t % 16 == 7 then 1 else 0) =
    let e : suc t ≡ t + 1 = omega arith in ap packets_in e ∙ packets-next t in
    more ∙ ap (λ l. l ++ back_cells (back_at options own t)) (backs-are options own t) ∙ one-more options own t next
  where
    one-more : (options : Options) (own : List (List Cell)) (t : ℕ) →
        packets_in (suc t) ≡ packets_in t + (if nat_lt 22 t && t % 16 == 7 then 1 else 0) →
        map (λ k. Nibbles (packet_nibbles (return_at options own k))) (range_with_len 0 (packets_in t)) ++ back_cells
        (back_at options own t)
        ≡ map (λ k. Nibbles (packet_nibbles (return_at options own k))) (range_with_len 0 (packets_in (suc t)))
    one-more options own t next = elim (cases_Bool (nat_lt 22 t && t % 16 == 7)) [
      | inl e ↦
          let f : ℕ → BackCell = λ k. Nibbles (packet_nibbles (return_at options own k)) in
          let late : 22 < t = grind (arith, nat_tests, e) in
          let last : t % 16 ≡ 7 = grind (arith, nat_tests, e) in
          let p : ℕ = packets_in t in
          let count : packets_in (suc t) ≡ p + 1 = next ∙ ap (λ (b : Bool). p + (if b then 1 else 0)) e in
          let said : back_cells (back_at options own t) ≡ f p ∷ [] =
          rw e (ap (λ k. f k ∷ []) (packet-now t late last)) in
          ap (λ l. map f (range_with_len 0 p) ++ l) said ∙ sym (map-range_with_len_more f 0 p p (omega arith))
          ∙ ap (λ k. map f (range_with_len 0 k)) (sym count)
      | inr e ↦
          let f : ℕ → BackCell = λ k. Nibbles (packet_nibbles (return_at options own k)) in
          let p : ℕ = packets_in t in
          let count : packets_in (suc t) ≡ p = next ∙ ap (λ (b : Bool). p + (if b then 1 else 0)) e ∙ omega arith in
          let said : back_cells (back_at options own t) ≡ [] = rw e refl in
          ap (λ l. map f (range_with_len 0 p) ++ l) said ∙ append-nil (map f (range_with_len 0 p))
          ∙ ap (λ k. map f (range_with_len 0 k)) (sym count)
    ]

-- ---- What the ends of all rings say is the session of the script.
some-of : {X Y : Type 0} (f : X → Y) (o : Option X) (y : Y) → option_map f o ≡ Some y → (x : X) × (o ≡ Some x) ×
    (f x ≡ y)
some-of f (Some x) y e = (x, refl, (let h : Some (f x) ≡ Some y = e in cc))
some-of f None y e = absurd cc

-- ---- the lines, where the source was told some return cells
module _ (script : Script) (returns : List (Option Told)) (tx : List (OutEnd Container)) (workers : List LineWorker)
    (rx : List (InEnd Cell))
    (gathered : IsGathered script returns tx workers rx) where
  made : ℕ → List Container
  made m = containers_of (scenario_of script) returns m script.config.ticks

  made-size : (m : ℕ) → length (containers_of (scenario_of script) returns m script.config.ticks) ≡ script.config.ticks
  made-size m = containers-size (scenario_of script) returns m script.config.ticks

  -- line m has received all that was made, and sent the cells of its path
  pub line-ended : (m : ℕ) (worker : LineWorker) → slice_get workers m ≡ Some worker →
      (in_passed worker.consumer ≡ containers_of (scenario_of script) returns m script.config.ticks)
      × (out_passed worker.producer
      ≡ given (scenario_of script) returns m script.config.ticks (delay_on (leg_of script) m)
      (script.config.ticks + delay_on (leg_of script) m + 1))
  line-ended m worker there =
      let inside = slice_get_within workers m worker there in
      let (out, other) = slice_get-inside tx m (omega (arith, inside, gathered.tx_count, gathered.workers_count)) in
      let line = gathered.lines m worker there in
      let sent = containers_of (scenario_of script) returns m script.config.ticks in
      let fifo : in_passed worker.consumer ++ in_items worker.consumer ≡ sent = gathered.sends m out worker other there
      ∙ gathered.sent m out other in
      let carried' = line-carried worker sent fifo (made-size m ∙ sym line.total) (gathered.done m worker there) in
      let all : in_passed worker.consumer ≡ sent =
      whole-prefix (in_passed worker.consumer) (in_items worker.consumer) sent fifo
      (carried'.received ∙ line.total ∙ sym (made-size m)) in
      let carries : length (in_passed worker.consumer) + worker.core.flushed
      ≡ script.config.ticks + delay_on (leg_of script) m +
      1 =
      omega (arith, carried'.received, carried'.flushed, line.total, line.delay) in (
        all,
        worker.sent
            ∙ ap (λ (i : ℕ). cells (carried worker.core.windows) worker.core.delay worker.core.total
            (in_passed worker.consumer) i) carries
            ∙ ap (λ (own : List Container). cells (carried worker.core.windows) worker.core.delay worker.core.total own
            (script.config.ticks + delay_on (leg_of script) m + 1)) all
            ∙ ap (λ (windows : List Window). cells (carried windows) worker.core.delay worker.core.total sent
            (script.config.ticks + delay_on (leg_of script) m + 1)) line.windows
            ∙ ap (λ (delay : ℕ). cells (carried (slice_index_or script.config.windows m [])) delay worker.core.total
            sent (script.config.ticks + delay_on (leg_of script) m + 1)) line.delay
            ∙ ap (λ (total : ℕ). cells (carried (slice_index_or script.config.windows m []))
            (delay_on (leg_of script) m) total sent (script.config.ticks + delay_on (leg_of script) m + 1)) line.total,
      )

  comes : (m : ℕ) (own : List Cell) → slice_get (received rx) m ≡ Some own →
      ComesOfLine (scenario_of script) returns m script.config.ticks own
  comes m own there =
      let (into, at, is) = some-of in_passed (slice_get rx m) own (sym (slice_get-map in_passed rx m) ∙ there) in
      let inside = slice_get_within rx m into at in
      let (worker, other) = slice_get-inside workers m
      (omega (arith, inside, gathered.rx_count, gathered.workers_count)) in
      let ended = line-ended m worker other in
      record {
        delay = delay_on (leg_of script) m;
        carries = script.config.ticks + delay_on (leg_of script) m + 1;
        later = in_items into;
        taken = omega arith;
        first = sym ended.1 ∙ sym (gathered.receives m worker into other at)
            ∙ ap (λ (l : List Cell). l ++ in_items into) is;
      }

  pub all-come : length script.config.windows ≡ script.config.lines →
      ComeOfLines (scenario_of script) returns script.config.ticks (received rx)
  all-come size = record {
    made = omega arith;
    lines = length-map rx in_passed ∙ gathered.rx_count ∙ sym size;
    each = comes;
  }

-- ---- the sink, where the source was told what it said
module _ (script : Script) (valid : IsValid script) (n : ℕ) (own : List (List Cell))
    (course : IsCourse (scenario_of script) script.config.ticks n own) where
  can : CanWalk (leg_of script)
  can = sound-walks (leg_of script) valid.sound

  lag : 0 < script.config.lag
  lag = let within = valid.sound.network.lag in omega (arith, within.0)

  pub made-session : (m : ℕ) → containers_of (scenario_of script)
      (told_of (scenario_of script) own n) m script.config.ticks ≡ sent_on (scenario_of script) m
  made-session m =
      same-range (container_of (scenario_of script) (told_of (scenario_of script) own n) m)
      (container_of (scenario_of script) (session_cells (scenario_of script)) m) script.config.ticks
      (course-containers (scenario_of script) script.config.ticks n own (has-lines (leg_of script) can) lag course m)

  pub frames-session : ((t : ℕ) → t < script.config.ticks → AreDecidedAt own t) →
      given_frames script.config.options script.config.size own script.config.ticks
      ≡ delivered_of (leg_of script) script.config.ticks
  frames-session decided =
      session-frames (scenario_of script) (session_cells (scenario_of script)) own script.config.ticks
      (λ t low. course-rows _ _ n own (has-lines (leg_of script) can) lag course t low (decided t low))

  packet-low : (ticks k : ℕ) → k < (ticks - 8) / 16 → 16 * k + 23 < ticks
  packet-low ticks k low = omega (arith, low)

  pub backs-session : ((t : ℕ) → t < script.config.ticks → AreDecidedAt own t) →
      backs script.config.options own script.config.ticks ≡ session_backs script
  backs-session decided =
      backs-are script.config.options own script.config.ticks
      ∙ same-range (λ k. Nibbles (packet_nibbles (return_at script.config.options own k)))
      (λ k. Nibbles (packet_nibbles (said_packet (leg_of script) k))) (packets_in script.config.ticks)
      (λ k low.
      let last = packet-low script.config.ticks k low in
      ap (λ packet. Nibbles (packet_nibbles packet))
      (course-packet (scenario_of script) script.config.ticks n own (has-lines (leg_of script) can) lag course k last
      (decided (16 * k + 23) last) ∙ sym (packet-is (leg_of script) can k last)))

-- ---- What a group was told is what the sink says of the cells that it received.
-- return cells that are given by their numbers, and what comes of them
come-range : (scenario : Scenario) (f : ℕ → BackCell) (a n : ℕ) →
    map told_in (come_from scenario.lost a (map f (range_with_len a n))) ≡ map
    (λ k. told_in (come_by (is_lost scenario k) (f k))) (range_with_len a n)
unfolding come_from
come-range scenario f a zero = refl
come-range scenario f a (suc n) =
    ap (λ rest. told_in (come_by (is_lost scenario a) (f a)) ∷ rest)
    ((let e : suc a ≡ a + 1 = omega arith in ap
    (λ b. map told_in (come_from scenario.lost b (map f (range_with_len (a + 1) n)))) e)
    ∙ come-range scenario f (a + 1) n)

come-back : (scenario : Scenario) (own : List (List Cell)) (k : ℕ) →
    come_by (is_lost scenario k) (Nibbles (packet_nibbles (return_at scenario.options own k))) ≡ back_of scenario own k
come-back scenario own k = elim (cases_Bool (is_lost scenario k)) [ inl e ↦ rw e refl | inr e ↦ rw e refl ]

-- of the return cells that the sink sent some were popped, and decision steps took the first of these
pub told-first : (scenario : Scenario) (own : List (List Cell)) (popped rest : List BackCell) (lag ticks n : ℕ) →
    popped ++ rest ≡ map (λ k. Nibbles (packet_nibbles (return_at scenario.options own k))) (range_with_len 0 n) →
    used_in lag ticks ≤ length popped →
    told_taken scenario.lost lag ticks popped ≡ told_of scenario own (used_in lag ticks)
told-first scenario own popped rest lag ticks n all low =
    let f : ℕ → BackCell = λ k. Nibbles (packet_nibbles (return_at scenario.options own k)) in
    let size : length popped + length rest ≡ n = sym (length-append popped rest) ∙ ap length all
    ∙ length-map-range_with_len f 0 n in
    sym (taken-more scenario.lost lag ticks popped rest low)
    ∙ ap (told_taken scenario.lost lag ticks) all
    ∙ ap (take (used_in lag ticks)) (come-range scenario f 0 n)
    ∙ take-map-range_with_len (λ k. told_in (come_by (is_lost scenario k) (f k))) 0 n (used_in lag ticks)
    (omega (arith, size, low))
    ∙ same-range (λ k. told_in (come_by (is_lost scenario k) (f k))) (λ k. told_in (back_of scenario own k))
    (used_in lag ticks) (λ k inside. ap told_in (come-back scenario own k))

-- no more were taken than there are
pub few-taken : (options : Options) (own : List (List Cell)) (popped rest : List BackCell) (used n : ℕ) →
    popped ++ rest ≡ map (λ k. Nibbles (packet_nibbles (return_at options own k))) (range_with_len 0 n) →
    used ≤ length popped → used ≤ n
few-taken options own popped rest used n all low =
    let f : ℕ → BackCell = λ k. Nibbles (packet_nibbles (return_at options own k)) in
    let size : length popped + length rest ≡ n = sym (length-append popped rest) ∙ ap length all
    ∙ length-map-range_with_len f 0 n in
    omega (arith, size, low)

-- ---- A session that has come to its end has ended as its script says.
abbrev totals_by : ℕ → ℕ → ℕ → ℕ → Totals
totals_by ticks frames commands refused =
    record { ticks = ticks; taken = 0; frames = frames; commands = commands; refused = refused; got = 0 }

module _ (script : Script) (valid : IsValid script) (group : GroupState) (workers : List LineWorker) (sink : SinkWorker)
    (end : HasComeToEnd script group workers sink) where
  all-made : ticks_of group ≡ script.config.ticks
  all-made = omega (arith, end.made, group.keeps.ticks, end.of_script.total)

  gathered : IsGathered script (taken_of group) group.tx.items workers sink.rx.items
  gathered = record {
    tx_count = end.tx_count;
    workers_count = end.workers_count;
    rx_count = end.rx_count;
    sent = λ m out there. end.landed.sent m out there
        ∙ ap (containers_of (scenario_of script) (taken_of group) m) all-made;
    lines = end.lines;
    done = end.done;
    sends = end.sends;
    receives = end.receives;
  }

  windows : length script.config.windows ≡ script.config.lines
  windows = valid.sound.network.windows_each

  -- ---- what the source was told
  said : in_passed group.back ++ in_items group.back ≡ map
      (λ k. Nibbles (packet_nibbles (return_at script.config.options (cells_of sink) k)))
      (range_with_len 0 (packets_in script.config.ticks))
  said =
      end.returns ∙ end.stands.keeps.sent
      ∙ ap₂ (λ options t. backs options (cells_of sink) t) end.options end.taken
      ∙ backs-are script.config.options (cells_of sink) script.config.ticks

  used-is : used_in (lag_of group) (ticks_of group) ≡ used_in script.config.lag script.config.ticks
  used-is = ap (λ lag. used_in lag (ticks_of group)) end.of_script.lag ∙ ap (used_in script.config.lag) all-made

  popped-enough : used_in script.config.lag script.config.ticks ≤ length (in_passed group.back)
  popped-enough = subst (λ n. n ≤ length (in_passed group.back)) used-is group.keeps.come.within

  told : taken_of group ≡ told_of (scenario_of script) (cells_of sink) (used_in script.config.lag script.config.ticks)
  told =
      ap (λ lost. told_taken lost (lag_of group) (ticks_of group) (in_passed group.back)) end.of_script.lost
      ∙ ap (λ lag. told_taken script.config.lost lag (ticks_of group) (in_passed group.back)) end.of_script.lag
      ∙ ap (λ ticks. told_taken script.config.lost script.config.lag ticks (in_passed group.back)) all-made
      ∙ told-first (scenario_of script) (cells_of sink) (in_passed group.back) (in_items group.back) script.config.lag
      script.config.ticks (packets_in script.config.ticks) said popped-enough

  decided : (t : ℕ) → t < script.config.ticks → AreDecidedAt (cells_of sink) t
  decided t low = end.stands.keeps.stands.decided t (omega (arith, low, end.taken))

  most : used_in script.config.lag script.config.ticks ≤ packets_in script.config.ticks
  most = few-taken script.config.options (cells_of sink) (in_passed group.back) (in_items group.back)
      (used_in script.config.lag script.config.ticks) (packets_in script.config.ticks) said popped-enough

  course : IsCourse (scenario_of script) script.config.ticks (used_in script.config.lag script.config.ticks)
      (cells_of sink)
  course = record {
    most = most;
    used = omega arith;
    come = subst (λ returns. ComeOfLines (scenario_of script) returns script.config.ticks (cells_of sink)) told
        (all-come script (taken_of group) group.tx.items workers sink.rx.items gathered windows);
    decided = λ k low. decided (16 * k + 23)
        (ends script.config.ticks (used_in script.config.lag script.config.ticks) k most low);
  }

  -- ---- the rings
  sent-all : (m : ℕ) → containers_of (scenario_of script) (taken_of group) m script.config.ticks ≡ sent_on
      (scenario_of script) m
  sent-all m =
      ap (λ returns. containers_of (scenario_of script) returns m script.config.ticks) told
      ∙ made-session script valid (used_in script.config.lag script.config.ticks) (cells_of sink) course m

  line-sent : (m : ℕ) (worker : LineWorker) → slice_get workers m ≡ Some worker →
      out_passed worker.producer ≡ line_cells (leg_of script) m
  line-sent m worker there =
      let delay : ℕ = delay_on (leg_of script) m in
      let all : List Container = sent_on (scenario_of script) m in
      (line-ended script (taken_of group) group.tx.items workers sink.rx.items gathered m worker there).1
      ∙ ap (λ (own : List Container). cells (carried_by (scenario_of script) m) delay script.config.ticks own
      (script.config.ticks + delay + 1)) (sent-all m)
      ∙ ap (λ n. cells (carried_by (scenario_of script) m) delay n all (n + delay + 1))
      (sym (containers-size (scenario_of script) (session_cells (scenario_of script)) m script.config.ticks))

  backs-all : out_passed sink.back ≡ session_backs script
  backs-all =
      end.stands.keeps.sent ∙ ap₂ (λ options t. backs options (cells_of sink) t) end.options end.taken
      ∙ backs-session script valid (used_in script.config.lag script.config.ticks) (cells_of sink) course decided

  pub frames-ended : given_frames (options_of sink) (size_of sink) (cells_of sink) (rows_taken sink)
      ≡ delivered_of (leg_of script) script.config.ticks
  frames-ended =
      ap₂ (λ options size. given_frames options size (cells_of sink) (rows_taken sink)) end.options end.size
      ∙ ap (given_frames script.config.options script.config.size (cells_of sink)) end.taken
      ∙ frames-session script valid (used_in script.config.lag script.config.ticks) (cells_of sink) course decided

  pub session-ended : IsEnded script group.tx.items group.back workers sink
  session-ended = record {
    count = end.workers_count;
    send_ends = end.send_ends;
    receive_ends = end.receive_ends;
    return_ends = end.return_ends;
    sends = λ m out there. gathered.sent m out there ∙ sent-all m;
    lines = λ m worker there. record {
      line = end.lines m worker there;
      received = (line-ended script (taken_of group) group.tx.items workers sink.rx.items gathered m worker there).0
          ∙ sent-all m;
      sent = line-sent m worker there;
    };
    cells = λ m into there.
        let inside = slice_get_within sink.rx.items m into there in
        let (worker, other) = slice_get-inside workers m (omega (arith, inside, end.rx_count, end.workers_count)) in
        end.receives m worker into other there ∙ line-sent m worker other;
    decided = decided;
    backs = backs-all;
    returns = end.returns ∙ backs-all;
    taken = end.taken;
    got = end.stands.counted ∙ ap count_of frames-ended
        ∙ (let few = delivered-few (leg_of script) script.config.ticks valid.sound (omega arith) in omega (arith, few));
  }

-- ---- the group
module _ (script : Script) (valid : IsValid script) (group : GroupState) (workers : List LineWorker) (sink : SinkWorker)
    (end : HasComeToEnd script group workers sink) where
  ticks-all : ticks_of group ≡ script.config.ticks
  ticks-all = all-made script valid group workers sink end

  -- up to the last tick it was told what the session tells
  agree : AgreeBefore (steps_in script.config.ticks - script.config.lag) (taken_of group)
      (session_cells (scenario_of script))
  agree =
      let can = sound-walks (leg_of script) valid.sound in
      let lag : 0 < script.config.lag = (let within = valid.sound.network.lag in omega (arith, within.0)) in
      let n : ℕ = used_in script.config.lag script.config.ticks in
      ap (take n) (told script valid group workers sink end
      ∙ course-returns _ _ n _ (has-lines _ can) lag (course script valid group workers sink end))
      ∙ session-agree (scenario_of script) n n (most script valid group workers sink end) (omega arith)

  refusal-is : (item : Numbered) → item.item.due ≤ script.config.ticks →
      refusal_by (leg_of script) (taken_of group) item ≡ refusal_at (leg_of script) item
  refusal-is item low =
      refusal-alike _ (taken_of group) _ _ script.config.ticks item.item.due (take item.number script.items)
      item.item.kind (alike-cells (scenario_of script) (taken_of group) (session_cells (scenario_of script))
      script.config.ticks agree) low

  ahead : Ahead (dues_of script.items) script.config.ticks (frames_of group) (commands_of group)
  ahead =
      subst (λ (dues : List Due). Ahead dues script.config.ticks (frames_of group) (commands_of group))
      (ap dues_of end.of_script.items ∙ bare-dues script.items)
      (subst (λ ticks. Ahead (dues_of (items_of group)) ticks (frames_of group) (commands_of group)) ticks-all
      (record { of_frames = group.keeps.ahead.of_frames; of_commands = group.keeps.ahead.of_commands }))

  all-landed : landed_items (leg_of script) (counts_of group) ≡ numbered 0 script.items
  all-landed = (ended-landed (leg_of script) valid.sound (frames_of group) (commands_of group) ahead).2

  due : (i : ℕ) (item : Numbered) → slice_get (numbered 0 script.items) i ≡ Some item →
      item.item.due ≤ script.config.ticks
  due i item there =
      subst (λ ticks. item.item.due ≤ ticks) ticks-all
      (end.landed.past i item (ap (λ (items : List Numbered). slice_get items i) all-landed ∙ there))

  refusals-all : refusals_of group ≡ refusals_among (leg_of script) (numbered 0 script.items)
  refusals-all =
      end.landed.refusals ∙ ap (refusals_by (leg_of script) (taken_of group)) all-landed
      ∙ same-each (λ item. refused_by item.number (refusal_by (leg_of script) (taken_of group) item))
      (λ item. refused_by item.number (refusal_at (leg_of script) item)) (numbered 0 script.items)
      (λ i item there. ap (refused_by item.number) (refusal-is item (due i item there)))

  frames-all : of_client (journal_of group) ≡ filter (is_accepted_frame (leg_of script)) (numbered 0 script.items)
  frames-all =
      end.landed.frames ∙ ap (accepted_frames_by (leg_of script) (taken_of group)) all-landed
      ∙ same-filter (λ item. is_client item.item.kind && is_none (refusal_by (leg_of script) (taken_of group) item))
      (is_accepted_frame (leg_of script)) (numbered 0 script.items)
      (λ i item there. ap (λ (why : Option Refusal). is_client item.item.kind && is_none why)
      (refusal-is item (due i item there)))

  commands-all : of_operator (journal_of group) ≡ filter (is_accepted_command (leg_of script))
      (numbered 0 script.items)
  commands-all =
      end.landed.commands ∙ ap (accepted_commands_by (leg_of script) (taken_of group)) all-landed
      ∙ same-filter (λ item. not (is_client item.item.kind) && is_none
      (refusal_by (leg_of script) (taken_of group) item)) (is_accepted_command (leg_of script))
      (numbered 0 script.items)
      (λ i item there. ap (λ (why : Option Refusal). not (is_client item.item.kind) && is_none why)
      (refusal-is item (due i item there)))

  totals-all : totals_of group ≡ group_totals script
  totals-all =
      let frames : ℕ = length (offers_of (items_in (journal_of group))) in
      let commands : ℕ = length (orders_of (items_in (journal_of group))) in
      let refused : ℕ = length (refusals_of group) in
      let items : List Numbered = numbered 0 script.items in
      ap (λ n. totals_by n frames commands refused) ticks-all
      ∙ ap (λ n. totals_by script.config.ticks n commands refused)
      (offers-length (journal_of group) ∙ ap length frames-all)
      ∙ ap (λ n. totals_by script.config.ticks (length (filter (is_accepted_frame (leg_of script)) items)) n refused)
      (orders-length (journal_of group) ∙ ap length commands-all)
      ∙ ap (λ (l : List (ℕ × Refusal)). totals_by script.config.ticks
      (length (filter (is_accepted_frame (leg_of script)) items))
      (length (filter (is_accepted_command (leg_of script)) items)) (length l)) refusals-all

  pub group-ended : IsGroupEnded script group
  group-ended =
      let landed = ended-landed (leg_of script) valid.sound (frames_of group) (commands_of group) ahead in
      record {
        ticks = ticks-all;
        frames = omega (arith, landed.0, end.landed.most_frames);
        commands = omega (arith, landed.1, end.landed.most_commands);
        journal = record { frames = frames-all; commands = commands-all; order = end.landed.order };
        refusals = refusals-all;
        totals = totals-all;
      }
