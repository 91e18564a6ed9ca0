-- The plan of a leg's walk, and the cells that are popped by its counts: they give the session's rows and tables.
use Rattle.std.proofs.Common.{◌≡◌, ℕ, zero, suc, ◌+◌, ◌<◌, ◌≤◌, List, [], ◌∷◌, map, length, slice_get, slice_index_or}
use Rattle.std.proofs.Common.{Some, refl, sym, ◌∙◌, ap, subst, arith, inl, inr, ◌-◌, ◌*◌, ◌/◌, if◌then◌else◌, ◌++◌}
use Rattle.std.proofs.Common.{take, drop, Option, None, option_map}
use Rattle.std.specs.List.{range_with_len}
use Rattle.law_model.specs.Common.{Container, Leg, IsSound, slip_of, IsLine, Scenario, scenario_by, session_cells}
use Rattle.law_model.specs.Common.{path_of, paths_of, greatest_slip, Cell, cells, verdict, carried_by, packets}
use Rattle.law_model.specs.Common.{steps_in, Told, told_in, after, stream_before, cells_before, payload_of, row_at}
use Rattle.law_model.specs.Common.{is_whole_row, frame_of, LinePath, LineCounts, Counts, step, run, begin, drain}
use Rattle.law_model.specs.Common.{all_cells, carriers_at, known_lines, FitsLag}
use Rattle.law_model.specs.declared.window_types.Window.{Window}
use Rattle.law_model.specs.members.Damage.{carried}
use Rattle.law_progress.specs.Progress.{IsPlan, Each, LineFits, Fits}
use Rattle.law_progress.specs.AskedOfLines.{AreSentBy}
use Rattle.law_progress.proofs.LinePathInNumbersLaws.{can_run-plan, is_decided}
use Rattle.law_terminal.specs.SessionLines.{HasLines, given, ComesOfLine, ComeOfLines}
use Rattle.law_terminal.proofs.ContainerPayloadLaws.{containers-size}
use Rattle.law_terminal.proofs.ArrivedCellAndRowLaws.{is-line, given-whole}
use Rattle.law_walk.specs.Common.{sent_on, sent_of, walk_plan, CanWalk, IsWalked, counts_at, cells_on, popped_on}
use Rattle.law_walk.specs.Common.{popped_cells, path_on}
use Rattle.std.specs.Prelude.{IsSome, ◌↔◌, nat_le, is_none, false, true}
use Rattle.std.proofs.lemmas.Bool.{cases_lt, le-leb, lt-leb}
use Rattle.std.proofs.lemmas.List.{take-append-drop, take-append-le}
use Rattle.std.proofs.lemmas.List.FromFn.{length-map-range_with_len, map-range_with_len_more}
use Rattle.std.proofs.lemmas.Option.{slice_get-map, slice_get_within}
use Rattle.law_model.specs.declared.window_types.Carried.{Carried}
use Rattle.law_model.specs.declared.walk_events.Event.{Event}
use Rattle.law_model.specs.session.Scenario.{packets_in}
use Rattle.law_line.specs.StableRows.{AreDecidedAt}
use Rattle.law_line.proofs.ReadingVerdictLaws.{cells-part}
use Rattle.law_progress.proofs.RoundProgressAndDrainLaws.{reached-fits, run-none, Leads-then, Leads-drain}
use Rattle.law_terminal.specs.Course.{back_of, told_of, IsCourse}
use Rattle.law_terminal.proofs.ContainerPayloadLaws.{range-at}
use Rattle.law_terminal.proofs.ArrivedCellAndRowLaws.{row-told, carriers-told}
use Rattle.law_terminal.proofs.SessionCourseLaws.{session-agree, come-same}
use Rattle.law_terminal.proofs.SessionCourseLaws.{frame-same, source-same, stream-same, next-cell}

-- ---- The plan of a leg's walk, and its lines.
-- ---- lines
slip-least : (lists : List (List Window)) (line : ℕ) (d : List Window) → line < length lists →
    slip_of (slice_index_or lists line d) ≤ greatest_slip lists
slip-least [] line d inside = absurd (omega arith)
slip-least (windows ∷ lists) zero d inside = omega arith
slip-least (windows ∷ lists) (suc line) d inside = let rest = slip-least lists line d (omega arith) in omega arith

pub has-lines : (leg : Leg) → CanWalk leg → HasLines (scenario_by leg)
has-lines leg can =
    let ring = can.ring in
    let room = can.room in
    record {
      few = can.few;
      apart = can.apart;
      slip = λ line d inside. let most = slip-least leg.config.windows line d inside in omega arith;
    }

-- ---- the plan
pub sent-by : (total : ℕ) (sent : ℕ → List Container) (lists : List (List Window)) (delays : List ℕ) (from : ℕ) →
    length delays ≡ length lists →
    ((m : ℕ) (own : List Window) → slice_get lists m ≡ Some own → IsLine own (sent (from + m))) →
    ((m : ℕ) → length (sent m) ≡ total) →
    AreSentBy total lists delays (map sent (range_with_len from (length lists)))
unfolding AreSentBy
sent-by total sent [] [] from size line long = tt
sent-by total sent [] (delay ∷ delays) from size line long = absurd (omega arith)
sent-by total sent (windows ∷ lists) [] from size line long = absurd (omega arith)
sent-by total sent (windows ∷ lists) (delay ∷ delays) from size line long = (
  subst (λ m. IsLine windows (sent m)) (let e : from + 0 ≡ from = omega arith in e) (line 0 windows refl),
  long from,
  sent-by total sent lists delays (from + 1) (omega arith)
      (λ m own here. subst (λ k. IsLine own (sent k)) (let e : from + suc m ≡ from + 1 + m = omega arith in e)
      (line (suc m) own here)) long,
)

pub own-at : (lists : List (List Window)) (m : ℕ) (own : List Window) → slice_get lists m ≡ Some own →
    (m < length lists) × (slice_index_or lists m [] ≡ own)
own-at [] m own here = absurd cc
own-at (windows ∷ lists) zero own here = (omega arith, cc)
own-at (windows ∷ lists) (suc m) own here = let rest = own-at lists m own here in
    (let low = rest.0 in omega arith, rest.1)

pub plan-with : (leg : Leg) (lag : ℕ) → CanWalk leg → FitsLag (record leg.config { lag = lag }) →
    IsPlan (record (walk_plan leg) { lag = lag })
plan-with leg lag can fits =
    let scenario : Scenario = scenario_by leg in
    let some = can.some in
    let size = can.delays in
    can_run-plan (record leg.config { lag = lag }) leg.items (sent_of scenario) (record {
      some_line = omega arith;
      sent_all = sent-by leg.config.ticks (sent_on scenario) leg.config.windows leg.config.delays 0 can.delays
          (λ m own here.
          let (low, same) = own-at leg.config.windows m own here in
          let e : m ≡ 0 + m = omega arith in
          subst (λ k. IsLine own (sent_on scenario k)) e
          (subst (λ windows. IsLine windows (sent_on scenario m)) same
          (is-line scenario (session_cells scenario) (has-lines leg can) m low)))
          (λ m. containers-size scenario (session_cells scenario) m scenario.ticks);
      frames = can.frames;
      commands = can.commands;
      some_room = can.some_room;
      ring = can.ring;
      lag = fits;
    })

pub has-plan : (leg : Leg) → CanWalk leg → IsPlan (walk_plan leg)
has-plan leg can = plan-with leg leg.config.lag can can.lag

-- ---- the path of a line
path-at : (sent : ℕ → List Container) (lists : List (List Window)) (delays : List ℕ) (from m : ℕ) →
    length delays ≡ length lists → m < length lists →
    slice_get (paths_of lists delays (map sent (range_with_len from (length lists)))) m
    ≡ Some (path_of (carried (slice_index_or lists m [])) (slice_index_or delays m 0) (sent (from + m)))
path-at sent [] delays from m size inside = absurd (omega arith)
path-at sent (windows ∷ lists) [] from m size inside = absurd (omega arith)
path-at sent (windows ∷ lists) (delay ∷ delays) from zero size inside =
    let e : from ≡ from + 0 = omega arith in ap (λ k. Some (path_of (carried windows) delay (sent k))) e
path-at sent (windows ∷ lists) (delay ∷ delays) from (suc m) size inside =
    path-at sent lists delays (from + 1) m (omega arith) (omega arith)
    ∙ (let e : from + 1 + m ≡ from + suc m =
    omega arith in ap (λ k. Some (path_of (carried (slice_index_or lists m [])) (slice_index_or delays m 0)
    (sent k))) e)

pub line-path : (leg : Leg) → CanWalk leg → (line : ℕ) → line < length leg.config.windows →
    slice_get (walk_plan leg).paths line
    ≡ Some (path_of (carried (slice_index_or leg.config.windows line []))
    (slice_index_or leg.config.delays line 0) (sent_on (scenario_by leg) line))
line-path leg can line inside =
    path-at (sent_on (scenario_by leg)) leg.config.windows leg.config.delays 0 line can.delays inside
    ∙ (let e : 0 + line ≡ line = omega arith in
    ap (λ k. Some (path_of (carried (slice_index_or leg.config.windows line []))
    (slice_index_or leg.config.delays line 0) (sent_on (scenario_by leg) k))) e)

paths-size : (sent : ℕ → List Container) (lists : List (List Window)) (delays : List ℕ) (from : ℕ) →
    length delays ≡ length lists →
    length (paths_of lists delays (map sent (range_with_len from (length lists)))) ≡ length lists
paths-size sent [] delays from size = refl
paths-size sent (windows ∷ lists) [] from size = absurd (omega arith)
paths-size sent (windows ∷ lists) (delay ∷ delays) from size =
    ap suc (paths-size sent lists delays (from + 1) (omega arith))

pub has-paths : (leg : Leg) → CanWalk leg → length (walk_plan leg).paths ≡ length leg.config.windows
has-paths leg can = paths-size (sent_on (scenario_by leg)) leg.config.windows leg.config.delays 0 can.delays

-- ---- a sound leg
pub sound-walks : (leg : Leg) → IsSound leg → CanWalk leg
sound-walks leg sound =
    let network = sound.network in
    let lines = network.lines in
    let windows = network.windows_each in
    let delays = network.delay_each in
    let ring = network.ring in
    record {
      some = omega arith;
      few = omega arith;
      delays = delays ∙ sym windows;
      apart = λ line d inside. (network.windows line d inside).apart;
      frames = sound.items.frames;
      commands = sound.items.commands;
      some_room = ring.0;
      room = ring.1;
      ring = network.fits_ring;
      lag = network.fits_lag;
    }

-- ---- What the counts of a walk say of the cells that were popped.
each-there : (P : LinePath → LineCounts → Type 0) (paths : List LinePath) (lines : List LineCounts) (m : ℕ)
    (path : LinePath) (d : LineCounts) → Each P paths lines →
    slice_get paths m ≡ Some path → P path (slice_index_or lines m d)
unfolding Each
each-there P [] [] m path d all here = absurd cc
each-there P [] (line ∷ lines) m path d all here = absurd all
each-there P (first ∷ paths) [] m path d all here = absurd all
each-there P (first ∷ paths) (line ∷ lines) zero path d all here = let e : first ≡ path = cc in
    subst (λ path. P path line) e all.0
each-there P (first ∷ paths) (line ∷ lines) (suc m) path d all here = each-there P paths lines m path d all.1 here

-- the first cells that all carries give are those of some carries, where these give as many
first-given : (carries : ℕ → Carried) (delay : ℕ) (containers : List Container) (x y : ℕ) →
    x ≤ length containers + delay + 1 →
    y ≤ length (cells carries delay (length containers) containers x) →
    take y (all_cells carries delay containers) ≡ take y (cells carries delay (length containers) containers x)
first-given carries delay containers x y low fits =
    let (more, e) = cells-part carries delay containers x (length containers + delay + 1) low in
    ap (take y) e ∙ take-append-le y (cells carries delay (length containers) containers x) more fits

-- ---- a line that doesn't decide a row
pub open-or : (v : Option (Option Container)) (d t : ℕ) → (IsSome v ↔ (t < d)) → is_none v ≡ nat_le d t
open-or None d t same = elim (cases_lt t d) [
  | inl low ↦ absurd (let e : false ≡ true = same.1 low in cc)
  | inr high ↦ sym (le-leb d t high)
]
open-or (Some told) d t same = let low = same.0 refl in sym (lt-leb d t low)

pub line-open : (leg : Leg) (lines : List LineCounts) (line t : ℕ) → t < leg.config.ticks →
    is_none (verdict (popped_on leg lines line) t) ≡ nat_le
    ((path_on leg line).decided (counts_at lines line).popped) t
line-open leg lines line t low =
    let scenario : Scenario = scenario_by leg in
    let delay : ℕ = slice_index_or leg.config.delays line 0 in
    let y : ℕ = (counts_at lines line).popped in
    let size : length (sent_on scenario line) ≡ leg.config.ticks =
    containers-size scenario (session_cells scenario) line scenario.ticks in
    open-or (verdict (popped_on leg lines line) t) ((path_on leg line).decided y) t
    (is_decided (carried_by scenario line) (sent_on scenario line) delay y t (omega arith))

-- the first cells of a line are those that its carries give
pub line-first : (leg : Leg) (line carries popped : ℕ) →
    carries ≤ leg.config.ticks + (path_on leg line).delay + 1 →
    popped ≤ (path_on leg line).given carries →
    take popped (cells_on (scenario_by leg) (path_on leg line).delay line)
    ≡ take popped (given (scenario_by leg) (session_cells (scenario_by leg)) line leg.config.ticks
    (path_on leg line).delay carries)
line-first leg line carries popped low fits =
    let scenario : Scenario = scenario_by leg in
    let containers : List Container = sent_on scenario line in
    let delay : ℕ = slice_index_or leg.config.delays line 0 in
    let size : length containers ≡ leg.config.ticks =
    containers-size scenario (session_cells scenario) line scenario.ticks in
    first-given (carried_by scenario line) delay containers carries popped (omega arith) fits
    ∙ ap (λ n. take popped (cells (carried_by scenario line) delay n containers carries)) size

module _ (leg : Leg) (s : Counts) (can : CanWalk leg) (walked : IsWalked leg s) where
  abbrev scenario : Scenario
  scenario = scenario_by leg

  abbrev session : List (Option Told)
  session = session_cells (scenario_by leg)

  pub fits : Fits (walk_plan leg) s
  fits = reached-fits (walk_plan leg) s (has-plan leg can) walked

  abbrev delay_of : ℕ → ℕ
  delay_of line = slice_index_or leg.config.delays line 0

  pub line-fits : (line : ℕ) → line < length leg.config.windows →
      LineFits leg.config.ticks leg.config.ring s.ticks s.rows
      (path_of (carried_by scenario line) (delay_of line) (sent_on scenario line)) (counts_at s.lines line)
  line-fits line inside =
      each-there (LineFits leg.config.ticks leg.config.ring s.ticks s.rows) (walk_plan leg).paths s.lines line
      (path_of (carried_by scenario line) (delay_of line) (sent_on scenario line))
      (record { carried = 0; popped = 0 }) fits.lines (line-path leg can line inside)

  popped-comes : (line : ℕ) → line < length leg.config.windows →
      ComesOfLine scenario session line s.ticks (popped_on leg s.lines line)
  popped-comes line inside =
      let is = line-fits line inside in
      let ticks = fits.ticks in
      let containers : List Container = sent_on scenario line in
      let carries = carried_by scenario line in
      let size : length containers ≡ leg.config.ticks = containers-size scenario session line scenario.ticks in
      let x : ℕ = (counts_at s.lines line).carried in
      let y : ℕ = (counts_at s.lines line).popped in
      let own : List Cell = cells carries (delay_of line) (length containers) containers x in
      let most = is.carries in
      let taken = is.sent in
      let now : given scenario session line s.ticks (delay_of line) x ≡ own =
      given-whole scenario session line s.ticks (delay_of line) x ticks taken
      ∙ ap (λ n. cells carries (delay_of line) n containers x) (sym size) in
      record {
        delay = delay_of line;
        carries = x;
        later = drop y own;
        taken = taken;
        first = now ∙ sym (take-append-drop y own)
            ∙ ap (λ l. l ++ drop y own) (sym
            (first-given carries (delay_of line) containers x y (omega arith) is.pops));
      }

  popped-decided : (line t : ℕ) → line < length leg.config.windows → t < s.rows →
      IsSome (verdict (popped_on leg s.lines line) t)
  popped-decided line t inside low =
      let is = line-fits line inside in
      let rows = fits.rows in
      let decides = is.decides in
      let size : length (sent_on scenario line) ≡ leg.config.ticks =
      containers-size scenario session line scenario.ticks in
      (is_decided (carried_by scenario line) (sent_on scenario line) (delay_of line) (counts_at s.lines line).popped t
      (omega arith)).1 (omega arith)

  -- ---- all lines
  popped-at : (line : ℕ) (own : List Cell) → slice_get (popped_cells leg s.lines) line ≡ Some own →
      (line < length leg.config.windows) × (popped_on leg s.lines line ≡ own)
  popped-at line own here =
      let lines : ℕ = length leg.config.windows in
      let size = length-map-range_with_len (popped_on leg s.lines) 0 lines in
      let within = slice_get_within (popped_cells leg s.lines) line own here in
      let low : line < lines = omega arith in
      let there : slice_get (popped_cells leg s.lines) line ≡ Some (popped_on leg s.lines line) =
      slice_get-map (popped_on leg s.lines) (range_with_len 0 lines) line
      ∙ ap (option_map (popped_on leg s.lines))
      (range-at 0 lines line low ∙ ap Some (let e : 0 + line ≡ line = omega arith in e)) in
      (low, cc)

  pub cells-come : ComeOfLines scenario session s.ticks (popped_cells leg s.lines)
  cells-come = record {
    made = fits.ticks;
    lines = length-map-range_with_len (popped_on leg s.lines) 0 (length leg.config.windows);
    each = λ line own here.
        let (inside, same) = popped-at line own here in
        subst (λ own. ComesOfLine scenario session line s.ticks own) same (popped-comes line inside);
  }

  pub cells-decide : (t : ℕ) → t < s.rows → AreDecidedAt (popped_cells leg s.lines) t
  cells-decide t low line own here =
      let (inside, same) = popped-at line own here in
      subst (λ own. IsSome (verdict own t)) same (popped-decided line t inside low)

  pub lag : 0 < scenario.lag
  lag = let fits_lag = can.lag in omega arith

  pub rows-are : (t : ℕ) → t < s.rows →
      row_at leg.config.options leg.config.size (popped_cells leg s.lines) t ≡
      (if is_whole_row scenario session t then Some (payload_of scenario session t) else None)
  rows-are t low =
      let rows = fits.rows in
      row-told scenario (packets scenario) s.ticks (popped_cells leg s.lines) t (has-lines leg can) lag cells-come
      (omega arith) (cells-decide t low)

  pub carriers-are : (k : ℕ) → 16 * k + 23 < s.rows →
      carriers_at leg.config.options (popped_cells leg s.lines) k ≡ known_lines scenario session k
  carriers-are k low =
      let rows = fits.rows in
      carriers-told scenario (packets scenario) s.ticks (popped_cells leg s.lines) k (has-lines leg can) lag cells-come
      (omega arith) (cells-decide (16 * k + 23) low)

  -- ---- the return path
  few-packets : (rows ticks n : ℕ) → rows ≤ ticks → n ≤ (rows - 8) / 16 → n ≤ (ticks - 8) / 16
  few-packets rows ticks n low most = omega arith

  ends : (rows n : ℕ) → n < (rows - 8) / 16 → 16 * n + 23 < rows
  ends rows n low = omega arith

  pub frames-are : (t : ℕ) → t < s.ticks →
      frame_of scenario (cells_before scenario s.backs) t ≡ frame_of scenario session t
  frames-are t low =
      let used = fits.used in
      frame-same scenario s.backs s.ticks t (few-packets s.rows leg.config.ticks s.backs fits.rows fits.backs)
      (omega arith) low

  few : s.backs ≤ packets scenario
  few = few-packets s.rows leg.config.ticks s.backs fits.rows fits.backs

  pub sources-are : (j : ℕ) → j ≤ steps_in s.ticks →
      after scenario (cells_before scenario s.backs) j ≡ after scenario session j
  sources-are j low = let used = fits.used in source-same scenario s.backs s.ticks j few (omega arith) low

  pub streams-are : (t : ℕ) → t ≤ s.ticks →
      stream_before scenario (cells_before scenario s.backs) t ≡ stream_before scenario session t
  streams-are t low = let used = fits.used in stream-same scenario s.backs s.ticks t few (omega arith) low

  told-first : (n : ℕ) → n ≤ s.backs → told_of scenario (popped_cells leg s.lines) n ≡ cells_before scenario n
  unfolding cells_before
  told-first zero low = refl
  told-first (suc n) low =
      let popped : List (List Cell) = popped_cells leg s.lines in
      let backs = fits.backs in
      let f = λ (k : ℕ). told_in (back_of scenario popped k) in
      let e : suc n ≡ n + 1 = omega arith in
      let inside : n < packets_in s.rows = omega arith in
      ap (λ k. map f (range_with_len 0 k)) e
      ∙ map-range_with_len_more f 0 n n (omega arith)
      ∙ ap (λ l. l ++ f n ∷ []) (told-first n (omega arith))
      ∙ sym (next-cell scenario s.ticks n popped (has-lines leg can) lag
      (few-packets s.rows leg.config.ticks (suc n) fits.rows inside) cells-come
      (cells-decide (16 * n + 23) (ends s.rows n inside)))

  pub backs-are : told_of scenario (popped_cells leg s.lines) s.backs ≡ cells_before scenario s.backs
  backs-are = told-first s.backs (omega arith)

  pub is-course : IsCourse scenario s.ticks s.backs (popped_cells leg s.lines)
  is-course =
      let used = fits.used in
      let most = few-packets s.rows leg.config.ticks s.backs fits.rows fits.backs in
      let agree = session-agree scenario s.backs s.backs most (omega arith) in
      record {
        most = most;
        used = omega arith;
        come = subst (λ returns. ComeOfLines scenario returns s.ticks (popped_cells leg s.lines)) (sym backs-are)
            (come-same scenario session (cells_before scenario s.backs) s.ticks s.backs (popped_cells leg s.lines)
            (omega arith) (sym agree) cells-come);
        decided = λ k low.
            let backs = fits.backs in
            cells-decide (16 * k + 23) (ends s.rows k (omega arith));
      }

-- ---- what is walked
pub begins-walked : (leg : Leg) → IsWalked leg (begin (walk_plan leg))
begins-walked leg = ([], sym (run-none (walk_plan leg) (begin (walk_plan leg))))

pub steps-walked : (leg : Leg) (s : Counts) (event : Event) → IsWalked leg s →
    IsWalked leg (step (walk_plan leg) s event).counts
unfolding run
steps-walked leg s event walked =
    Leads-then (walk_plan leg) (begin (walk_plan leg)) s (step (walk_plan leg) s event).counts walked
    (event ∷ [], refl)

pub drains-walked : (leg : Leg) (s : Counts) (k : ℕ) → IsWalked leg s →
    IsWalked leg (drain k (walk_plan leg) s)
drains-walked leg s k walked =
    Leads-then (walk_plan leg) (begin (walk_plan leg)) s (drain k (walk_plan leg) s) walked
    (Leads-drain k (walk_plan leg) s)
