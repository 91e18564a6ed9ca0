-- One direction, and a walk, of which no event was made: new lines, rings and counts.
use Rattle.std.proofs.Common.{◌≡◌, ℕ, zero, suc, ◌+◌, ◌-◌, ◌<◌, min, List, [], ◌∷◌, ◌++◌, All, length, take, drop, map}
use Rattle.std.proofs.Common.{filter, replicate, slice_get, slice_index_or, Some, None, refl, sym, ◌∙◌, ap, subst}
use Rattle.std.proofs.Common.{arith, inl, inr}
use Rattle.std.specs.List.{range_with_len, flat_map}
use Rattle.std.specs.Global.{Vec, Box}
use Rattle.std.proofs.lemmas.Bool.{cases_Bool}
use Rattle.std.proofs.lemmas.List.{length-map, length_push}
use Rattle.std.proofs.lemmas.List.FromFn.{length-range_with_len}
use Rattle.law_model.proofs.ListLaws.{get-last, slice_get-inside}
use Rattle.law_model.specs.Common.{Container, Cell, Leg, scenario_by, offers_of, orders_of, segments_on, rows_of}
use Rattle.law_model.specs.Common.{delineate_within, hunt_within, cells_before, IsSound, LineCounts, Counts, begin}
use Rattle.law_model.specs.Common.{used_in, in_return, in_inbox}
use Rattle.law_model.specs.declared.window_types.Window.{Window}
use Rattle.law_model.specs.declared.script_types.Config.{Config}
use Rattle.law_model.specs.declared.script_types.Item.{Item}
use Rattle.law_model.specs.declared.control_packet.Packet.{Packet}
use Rattle.member_path.specs.path_delay.CallsOnDelayedLine.{opened, with_windows}
use Rattle.member_rows.specs.realign_rows.Gather.{Gather, GatherStands as Gathers}
use Rattle.terminal_source.specs.source_core.Terminal.{Terminal}
use Rattle.terminal_source.specs.source_core.GivenScenario.{SourceStands as HasMade}
use Rattle.terminal_sink.specs.sink_core.Core.{Core}
use Rattle.law_walk.specs.Common.{walk_plan, IsWalked, sent_on, counts_at, cells_on, popped_on, popped_cells, delay_on}
use Rattle.law_walk.specs.Common.{back_cell, said_packet, Numbered, landed_from, is_client, told_before, refused_by}
use Rattle.law_walk.specs.Common.{refusal_at, is_accepted_frame, is_accepted_command, delivered_of, last_packet}
use Rattle.law_walk.proofs.WalkPlanAndPoppedCellLaws.{has-paths, sound-walks, begins-walked}
use Rattle.terminal_group.specs.Item.{bare_items}
use Rattle.terminal_group.specs.ReturnInbox.{Inbox, empty_inbox}
use Rattle.terminal_group.specs.Landed.{Landed, none_landed}
use Rattle.terminal_group.specs.SourceByCounts.{none_counted}
use Rattle.terminal_group.specs.declared.landed_counts.LandedCounts.{LandedCounts}
use Rattle.terminal_group.specs.Source.{IsUnusedCore}
use Rattle.walk_engine.specs.Common.{path_of, Ringed, ring_of, Has, IsOpened, AreOpened, AreRings, IsNewSink}
use Rattle.walk_engine.specs.Common.{IsNewGather, IsNew, IsAlike, Parts, frame_in, HasSource, HasSent, HasLines}
use Rattle.walk_engine.specs.Common.{HasBack, HasCounted, HasLanded, counts_of, line_counts, calls_on, note_of}
use Rattle.walk_engine.specs.Common.{HasWindows, LiveStands, walking_of, told_scenario, windows_in}
use Rattle.walk_engine.specs.declared.walk_core.open_way.Opened.{Opened}
use Rattle.walk_engine.specs.walk_core.WayParts.{WayStands}
use Rattle.walk_engine.proofs.LineCarryAndSendRingLaws.{windows-at}

-- One direction, and a walk, of which no event was made.
-- ---- the lines

pub opened-more : (config : Config) (n : ℕ) (lines : List Ringed) (line : Ringed) → AreOpened config n lines →
    IsOpened config n line → AreOpened config (n + 1) (lines ++ line ∷ [])
opened-more config n lines line are is = record {
  size = length_push lines line ∙ ap (λ k. k + 1) are.size;
  each = λ m other e. elim (get-last lines line m other e) [
    | inl there ↦ are.each m other there
    | inr last ↦ subst (IsOpened config m) (sym last.1)
        (subst (λ k. IsOpened config k line) (sym (last.0 ∙ are.size)) is)
  ];
}

calls-opened : (leg : Leg) (m : ℕ) (line : Ringed) → line.carried ≡ 0 →
    calls_on leg m line.carried
    ≡ opened (delay_on leg m) (slice_index_or leg.config.windows m []) leg.config.ticks
calls-opened leg m line none =
    ap (λ x. calls_on leg m x) none
    ∙ ap (λ n. record (calls_on leg m 0) { containers = take n (sent_on (scenario_by leg) m) })
    (let e : min 0 leg.config.ticks ≡ 0 = omega arith in e)
    ∙ ap (λ n. record (opened (delay_on leg m) (slice_index_or leg.config.windows m []) leg.config.ticks)
    { flushes = n }) (let e : 0 - leg.config.ticks ≡ 0 = omega arith in e)

opened-lines : (leg : Leg) (windows : List (List Window)) (lines : List Ringed) →
    AreOpened (record leg.config { windows = windows }) leg.config.lines lines → HasLines leg lines
opened-lines leg windows lines are = record {
  size = are.size;
  each = λ m line there. let is = are.each m line there in
      record {
        has = subst (Has line)
            (sym (ap (with_windows (calls_on leg m line.carried)) is.has.core.windows
            ∙ ap (λ calls. with_windows calls (slice_index_or windows m [])) (calls-opened leg m line is.has.carried)))
            is.has;
        agrees = λ t low. let none = is.has.core.pushed in absurd (omega (arith, low, none));
        ring = is.ring;
      };
}

abbrev no_counts : LineCounts
no_counts = record { carried = 0; popped = 0 }

counts-none : (lines : List Ringed) →
    ((m : ℕ) (line : Ringed) → slice_get lines m ≡ Some line → line_counts line ≡ no_counts) →
    map line_counts lines ≡ replicate (length lines) no_counts
counts-none [] each = refl
counts-none (line ∷ lines) each =
    ap (λ x. x ∷ map line_counts lines) (each 0 line refl)
    ∙ ap (λ rest. no_counts ∷ rest) (counts-none lines (λ m other e. each (suc m) other e))

opened-counts : (config : Config) (n : ℕ) (lines : List Ringed) → AreOpened config n lines →
    map line_counts lines ≡ replicate n no_counts
opened-counts config n lines are =
    counts-none lines (λ m line e. let is = are.each m line e in
    ap (λ x. record { carried = x; popped = line.popped }) is.has.carried
    ∙ ap (λ y. record { carried = 0; popped = y }) is.popped)
    ∙ ap (λ k. replicate k no_counts) are.size

-- ---- no cell was popped
none-popped : (n m : ℕ) → (counts_at (replicate n no_counts) m).popped ≡ 0
none-popped zero m = refl
none-popped (suc n) zero = refl
none-popped (suc n) (suc m) = none-popped n m

map-none : (f : ℕ → List Cell) → ((k : ℕ) → f k ≡ []) → (ks : List ℕ) → map f ks ≡ replicate (length ks) []
map-none f none [] = refl
map-none f none (k ∷ ks) = ap (λ x. x ∷ map f ks) (none k) ∙ ap (λ rest. [] ∷ rest) (map-none f none ks)

cells-none : (leg : Leg) (n : ℕ) →
    popped_cells leg (replicate n no_counts) ≡ replicate (length leg.config.windows) []
cells-none leg n =
    map-none (popped_on leg (replicate n no_counts))
    (λ m. ap (λ k. take k (cells_on (scenario_by leg) (delay_on leg m) m)) (none-popped n m))
    (range_with_len 0 (length leg.config.windows))
    ∙ ap (λ k. replicate k []) (length-range_with_len 0 (length leg.config.windows))

-- ---- nothing has landed
pub none-landed : (items : List Item) (i : ℕ) → landed_from 0 0 i items ≡ []
unfolding landed_from
none-landed [] i = refl
none-landed (item ∷ items) i =
    elim (cases_Bool (is_client item.kind)) [
      | inl client ↦ rw client (none-landed items (suc i))
      | inr operator ↦ rw operator (none-landed items (suc i))
    ]

-- ---- the send rings
sent-long : (sent : List (Vec (Box Container))) (n : ℕ) →
    All (λ (row : Vec (Box Container)). length row.items ≡ n) sent → (k : ℕ) (frame : List Container) →
    slice_get (map frame_in sent) k ≡ Some frame → length frame ≡ n
sent-long [] n all k frame e = absurd cc
sent-long (row ∷ rows) n all zero frame e = ap length (let h : frame ≡ frame_in row = cc in h)
    ∙ length-map row.items (λ (b : Box Container). b.value) ∙ all 0 row (omega arith)
sent-long (row ∷ rows) n all (suc k) frame e = sent-long rows n
    (λ i d low. all (suc i) d (omega (arith, low))) k frame e

pub sent-opened : (leg : Leg) (counts : List LineCounts) (sent : List (Vec (Box Container))) → length sent ≡ 32 →
    All (λ (row : Vec (Box Container)). length row.items ≡ leg.config.lines) sent →
    HasSent leg 0 counts (map frame_in sent)
sent-opened leg counts sent places long = record {
  places = length-map sent frame_in ∙ places;
  lines = sent-long sent leg.config.lines long;
  frames = λ t m frame inside late low high told. absurd (omega (arith, low));
}

-- ---- nothing was told, nothing is on its way, and nothing was delivered
none-told : (leg : Leg) → told_before leg 0 ≡ []
unfolding cells_before
none-told leg = ap (cells_before (scenario_by leg)) (let e : used_in leg.config.lag 0 ≡ 0 = omega arith in e)

pub none-delivered : (leg : Leg) → delivered_of leg 0 ≡ []
unfolding rows_of segments_on delineate_within hunt_within
none-delivered leg = refl

take-none : {X : Type 0} (xs : List X) → take 0 xs ≡ []
take-none [] = refl
take-none (x ∷ xs) = refl

pub drop-none : {X : Type 0} (xs : List X) → drop 0 xs ≡ xs
drop-none [] = refl
drop-none (x ∷ xs) = refl

range-none : {X : Type 0} (f : ℕ → X) (z n : ℕ) → n ≡ 0 → map f (range_with_len z n) ≡ []
range-none f z n none = ap (λ k. map f (range_with_len z k)) none

refused-none : (leg : Leg) (items : List Numbered) → items ≡ [] →
    flat_map (λ item. refused_by item.number (refusal_at leg item)) items ≡ []
refused-none leg items none = ap (flat_map (λ item. refused_by item.number (refusal_at leg item))) none

-- ---- the direction
abbrev counts_from : ℕ → List LineCounts → ℕ → Counts
counts_from ticks lines rows = record
    { ticks = ticks; frames = 0; commands = 0; lines = lines; rows = rows; backs = 0 }

-- what is new in the network of a leg, whatever return packets it loses
record IsNewOn (leg : Leg) (config : Config) (all : Opened) : Type 0 where
  core : IsUnusedCore leg.config all.ends.source.core
  total : all.ends.source.total ≡ leg.config.ticks
  landed : all.ends.source.landed ≡ none_counted
  sink : IsNewSink leg.config all.ends.sink
  sent : AreRings leg.config.lines all.paths.sent.items
  lines : AreOpened (record leg.config { windows = config.windows }) leg.config.lines all.paths.lines.items
  rows : IsNewGather leg.config.lines all.rows

opened-on : (config : Config) (lost : List (ℕ × ℕ)) (n : ℕ) (lines : List Ringed) → AreOpened config n lines →
    AreOpened (record config { lost = lost }) n lines
opened-on config lost n lines are = record {
  size = are.size;
  each = λ m line e. let is = are.each m line e in record { has = is.has; ring = is.ring; popped = is.popped };
}

new-on : (leg : Leg) (config : Config) (all : Opened) → IsNew config all → IsAlike leg config →
    IsNewOn leg config all
new-on leg config all is alike =
    let network = sym alike.network in
    let core = is.source.core in
    let sink = is.sink in
    let lines : leg.config.lines ≡ config.lines = ap (λ (c : Config). c.lines) alike.network in
    record {
      core = subst (λ (c : Config). IsUnusedCore c all.ends.source.core) network
          (record {
            lines = core.lines;
            lag = core.lag;
            size = core.size;
            statuses = core.statuses;
            ticks = core.ticks;
            made = core.made;
          });
      total = is.source.total ∙ ap (λ (c : Config). c.ticks) network;
      landed = is.source.landed;
      sink = subst (λ (c : Config). IsNewSink c all.ends.sink) network
          (record {
            lines = sink.lines;
            size = sink.size;
            options = sink.options;
            taken = sink.taken;
            stands = sink.stands;
          });
      sent = subst (λ n. AreRings n all.paths.sent.items) (sym lines) is.sent;
      lines = subst (λ (c : Config). AreOpened c c.lines all.paths.lines.items)
          (ap (λ (c : Config). record c { windows = config.windows }) network)
          (opened-on config leg.config.lost config.lines all.paths.lines.items is.lines);
      rows = subst (λ n. IsNewGather n all.rows) (sym lines) is.rows;
    }

windows-each : (windows : ℕ → List Window) (lines : List Ringed) →
    ((m : ℕ) (line : Ringed) → slice_get lines m ≡ Some line → line.core.windows ≡ windows m) →
    (m : ℕ) → m < length lines → slice_index_or (windows_in lines) m [] ≡ windows m
windows-each windows lines each m low =
    let (line, there) = slice_get-inside lines m low in windows-at lines m line there ∙ each m line there

-- the lines have the windows of their configuration
pub new-windows : (config : Config) (all : Opened) → IsNew config all → HasWindows config all.paths.lines.items
new-windows config all new m low =
    let size = new.lines.size in
    windows-each (λ k. slice_index_or config.windows k []) all.paths.lines.items
    (λ k line e. (new.lines.each k line e).has.core.windows) m (omega (arith, low, size))

-- what was opened, put together
abbrev pub opened_parts : Opened → Parts
opened_parts all = record {
  source = all.ends.source;
  sent = map frame_in all.paths.sent.items;
  lines = all.paths.lines.items;
  rows = all.rows;
  sink = all.ends.sink;
  got = 0;
}

module _ (leg : Leg) (config : Config) (all : Opened) (new : IsNew config all) (alike : IsAlike leg config) where
  abbrev source : Terminal
  source = all.ends.source.core

  abbrev sent : List (Vec (Box Container))
  sent = all.paths.sent.items

  abbrev lines : List Ringed
  lines = all.paths.lines.items

  abbrev rows : Gather
  rows = all.rows

  abbrev sink : Core
  sink = all.ends.sink

  is : IsNewOn leg config all
  is = new-on leg config all new alike

  sound : IsSound leg
  sound = alike.sound

  paths-size : length (walk_plan leg).paths ≡ leg.config.lines
  paths-size = has-paths leg (sound-walks leg sound) ∙ sound.network.windows_each

  begin-counts : counts_from source.ticks (map line_counts lines) sink.taken ≡ begin (walk_plan leg)
  begin-counts =
      ap (λ n. counts_from n (map line_counts lines) sink.taken) is.core.ticks
      ∙ ap (λ ls. counts_from 0 ls sink.taken)
      (opened-counts (record leg.config { windows = config.windows }) leg.config.lines lines is.lines
      ∙ ap (λ k. replicate k no_counts) (sym paths-size))
      ∙ ap (λ n. counts_from 0 (replicate (length (walk_plan leg).paths) no_counts) n) is.sink.taken

  pub new-counts : counts_of (opened_parts all) 0 ≡ begin (walk_plan leg)
  new-counts =
      ap (λ (l : LandedCounts). record (counts_of (opened_parts all) 0) { frames = l.frames; commands = l.commands })
      is.landed
      ∙ begin-counts

  cells-are : popped_cells leg (map line_counts lines) ≡ replicate leg.config.lines []
  cells-are =
      ap (popped_cells leg) (opened-counts (record leg.config { windows = config.windows }) leg.config.lines lines is.lines)
      ∙ cells-none leg leg.config.lines
      ∙ ap (λ k. replicate k []) sound.network.windows_each

  cells-size : length (popped_cells leg (map line_counts lines)) ≡ leg.config.lines
  cells-size =
      length-map (range_with_len 0 (length leg.config.windows)) (popped_on leg (map line_counts lines))
      ∙ length-range_with_len 0 (length leg.config.windows)
      ∙ sound.network.windows_each

  pub new-stands : WayStands leg 0 (opened_parts all)
  new-stands = record {
    sound = sound;
    total = is.total;
    walked = subst (IsWalked leg) (sym new-counts) (begins-walked leg);
    source = subst (λ s. HasSource leg s source) (sym new-counts) (record {
      made = subst (HasMade source (told_scenario leg (begin (walk_plan leg)))) (sym (none-told leg))
          (is.core.made (told_scenario leg (begin (walk_plan leg)))
          (record {
            of_lines = sound.network.windows_each;
            of_lag = refl;
            of_size = refl;
            of_statuses = refl;
            no_offers = take-none
                (offers_of leg.items);
            no_orders = take-none (orders_of leg.items);
            no_tells = refl;
          }));
      lines = is.core.lines;
      lag = is.core.lag;
      size = is.core.size;
      statuses = is.core.statuses;
    });
    sent = subst (λ n. HasSent leg n (map line_counts lines) (map frame_in sent)) (sym is.core.ticks)
        (sent-opened leg (map line_counts lines) sent is.sent.places is.sent.lines);
    lines = opened-lines leg config.windows lines is.lines;
    agrees = λ t low. let none = is.core.ticks in absurd (omega (arith, low, none));
    sink = record {
      gathers = subst (Gathers rows) (sym cells-are) is.rows.gathers;
      taken = is.sink.stands (popped_cells leg (map line_counts lines)) cells-size;
      passed = is.rows.rows ∙ sym is.sink.taken;
      lines = is.rows.lines ∙ sym is.sink.lines;
      all = is.sink.lines;
      size = is.sink.size;
      options = is.sink.options;
    };
    landed = subst (λ s. HasCounted leg s all.ends.source.landed) (sym new-counts)
        (subst (HasCounted leg (begin (walk_plan leg))) (sym is.landed) (record {
          frames = sym (ap (λ xs. length (filter (is_accepted_frame leg) xs) + 0) (none-landed leg.items 0));
          commands = sym (ap (λ xs. length (filter (is_accepted_command leg) xs) + 0) (none-landed leg.items 0));
          refused = ap length (refused-none leg (landed_from 0 0 0 leg.items) (none-landed leg.items 0));
        }));
    counted = sym (ap (λ n. min (length (delivered_of leg n)) 18446744073709551615) is.sink.taken
        ∙ ap (λ xs. min (length xs) 18446744073709551615) (none-delivered leg));
  }

-- ---- a walk, to which nothing has come
pub new-live : (leg : Leg) (parts : Parts) (ring : List Packet) → WayStands leg 0 parts →
    counts_of parts 0 ≡ begin (walk_plan leg) → leg.tells ≡ [] →
    parts.source.inbox ≡ empty_inbox leg.config.lost leg.config.lag → ring ≡ [] →
    LiveStands leg (walking_of parts ring None)
new-live leg parts ring stands begins quiet empty none =
    let come : parts.source.inbox.come ≡ 0 = ap (λ (i : Inbox). i.come) empty in
    let ticks : parts.source.core.ticks ≡ 0 = ap (λ (s : Counts). s.ticks) begins in
    record {
      stands = subst (λ n. WayStands leg n parts) (sym come) stands;
      back = subst (λ n. HasBack leg (counts_of parts n) (path_of ring parts.source.inbox)) (sym come)
          (subst (λ s. HasBack leg s (path_of ring parts.source.inbox)) (sym begins)
          (subst (λ (i : Inbox). HasBack leg (begin (walk_plan leg)) (path_of ring i)) (sym empty)
          (subst (λ (r : List Packet). HasBack leg (begin (walk_plan leg))
          (path_of r (empty_inbox leg.config.lost leg.config.lag))) (sym none) (record {
            lost = refl;
            ring = sym (range-none (said_packet leg) 0 (in_return (begin (walk_plan leg)))
                (let e : in_return (begin (walk_plan leg)) ≡ 0 = refl in e));
            inbox = sym (range-none (back_cell leg) (used_in leg.config.lag 0)
                (in_inbox (walk_plan leg) (begin (walk_plan leg)))
                (let e : 0 - used_in leg.config.lag 0 ≡ 0 = omega arith in e));
            room = refl;
          }))));
      noted = subst (λ n. None ≡ note_of leg (last_packet n)) (sym ticks) refl;
      quiet = quiet;
    }

pub new-live-counts : (leg : Leg) (parts : Parts) → counts_of parts 0 ≡ begin (walk_plan leg) →
    parts.source.inbox ≡ empty_inbox leg.config.lost leg.config.lag →
    counts_of parts parts.source.inbox.come ≡ begin (walk_plan leg)
new-live-counts leg parts begins empty = ap (λ (i : Inbox). counts_of parts i.come) empty ∙ begins

-- nothing of the items has landed
pub none-known : (leg : Leg) (landing : Landed) → landing ≡ none_landed leg.config.lines (bare_items leg.items) →
    HasLanded leg (begin (walk_plan leg)) landing
none-known leg landing none = record {
  items = ap (λ (l : Landed). l.items) none;
  lines = ap (λ (l : Landed). l.lines) none;
  frames = ap (λ (l : Landed). l.frames) none;
  commands = ap (λ (l : Landed). l.commands) none;
  refusals = ap (λ (l : Landed). l.refusals) none
      ∙ sym (refused-none leg (landed_from 0 0 0 leg.items) (none-landed leg.items 0));
}

-- a line that was opened with the numbers of its place
pub opened-at : (config : Config) (m : ℕ) (line : Ringed) (delay : ℕ) (windows : List Window) (total : ℕ) →
    delay ≡ slice_index_or config.delays m 0 → windows ≡ slice_index_or config.windows m [] →
    total ≡ config.ticks → Has line (opened delay windows total) → ring_of line ≡ config.ring → line.popped ≡ 0 →
    IsOpened config m line
opened-at config m line delay windows total a b d has size popped = record {
  has = subst (Has line) (ap (λ x. opened x windows total) a
      ∙ ap (λ x. opened (slice_index_or config.delays m 0) x total) b
      ∙ ap (opened (slice_index_or config.delays m 0) (slice_index_or config.windows m [])) d) has;
  ring = size;
  popped = popped;
}
