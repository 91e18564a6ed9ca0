-- A session and the one without its failures: while no status says anything of them the tables are the same.
use Rattle.std.proofs.Common.{◌≡◌, ℕ, zero, suc, ◌+◌, ◌-◌, ◌*◌, ◌%◌, ◌<◌, ◌≤◌, ◌⊎◌, min, nat_le, nat_lt, ◌&&◌, not}
use Rattle.std.proofs.Common.{true, false, Bool, if◌then◌else◌, inl, inr, List, [], ◌∷◌, map, length, Option, Some, None}
use Rattle.std.proofs.Common.{slice_get, slice_index_or, refl, sym, ◌∙◌, ap, ap₂, subst, arith, leb-true}
use Rattle.std.proofs.lemmas.Bool.{cases_lt, and_parts, and_left, and_right, le-ltb, lt-leb}
use Rattle.std.proofs.lemmas.List.{get_or-map, get_or_past, length-map}
use Rattle.std.proofs.lemmas.Option.{none-some}
use Rattle.law_model.specs.Common.{Leg, Scenario, Told, scenario_by, AreWindows, is_readable}
use Rattle.law_model.specs.Common.{is_heard, is_lost, is_up, is_line_up, group_of, said, status, word, packets}
use Rattle.law_model.specs.Common.{Table, Source, after, asked_all, cell_at, decide, orders_at, table_of}
use Rattle.law_model.specs.Common.{return_cell, IsSound}
use Rattle.law_model.specs.declared.window_types.Window.{Window}
use Rattle.law_model.specs.members.Damage.{carried, carried_in}
use Rattle.law_model.specs.source.Source.{opening}
use Rattle.law_live.proofs.SamePastTableAndCellLaws.{SameBelow, with_parts, reads-same, returned-same, alike-session}
use Rattle.law_session.specs.Feedback.{lines_of, table_before}
use Rattle.law_session.proofs.FreshStatusLaws.{status-ok, line-inside}
use Rattle.law_session.proofs.HeldLineAndStatusRoundLaws.{still-word}
use Rattle.law_session.proofs.ReturnCellAndLineWordLaws.{said-heard, session-cell}
use Rattle.law_session.proofs.UpLineAndReadablePacketLaws.{heard-line}
use Rattle.law_walk.specs.Common.{session_of, IsClear}
use Rattle.law_walk.proofs.WholeRowDespiteFailureLaws.{clear-within, clear-read}
use Rattle.law_service.specs.cost_of_failures.Cost.{windows_of, FailsOnce, first_hit, SaysOf}
use Rattle.law_service.specs.cost_of_failures.Unnoticed.{begins_in, windows_but, without, IsUnnoticed}
use Rattle.law_service.proofs.QuietStepAndKeptStatusLaws.{status-up, lines-before}
use Rattle.law_service.proofs.FailureCostInRowsLaws.{is-quiet, early-read, has-word, none-before}

-- ---- windows
-- before the container from which on windows are gone the same comes
but-before : (from horizon : ℕ) (windows : List Window) (n : ℕ) → n < from →
    carried windows n ≡ carried (windows_but from horizon windows) n
unfolding carried
but-before from horizon [] n low = refl
but-before from horizon (window ∷ windows) n low =
    let rest = but-before from horizon windows n low in
    elim (begins_in from horizon window) as (λ b. begins_in from horizon window ≡ b →
    carried (window ∷ windows) n
    ≡ carried (if not b then window ∷ windows_but from horizon windows else windows_but from horizon windows) n) [
      | true ↦ λ e.
          let parts = and_parts (nat_le from window.first) (nat_lt window.first horizon) e in
          let late = leb-true from window.first parts.0 in
          let apart : nat_le window.first n ≡ false = lt-leb window.first n (omega arith) in
          (rw apart refl) ∙ rest
      | false ↦ λ e. ap (λ c. if nat_le window.first n && nat_lt n window.end then carried_in window n else c) rest
    ] refl

-- a line that stays clear has no such windows
but-clear : (from horizon start : ℕ) (windows : List Window) → AreWindows start windows →
    IsClear windows (from - 39) horizon → windows_but from horizon windows ≡ windows
unfolding AreWindows
but-clear from horizon start [] are clear = refl
but-clear from horizon start (window ∷ windows) are clear =
    let some = are.1 in
    let rest = but-clear from horizon window.end windows are.2 (λ i d inside. clear (suc i) d (omega arith)) in
    let here : (horizon ≤ window.first) ⊎ (window.end ≤ from - 39) = clear 0 window (omega arith) in
    let stays : begins_in from horizon window ≡ false = elim here [
      | inl later ↦ and_right (nat_le from window.first) _ (le-ltb window.first horizon later)
      | inr sooner ↦ and_left _ (nat_lt window.first horizon) (lt-leb from window.first (omega arith))
    ] in
    rw stays (ap (λ rest. window ∷ rest) rest)

-- ---- a status of an SQ that no line has
status-idle : (scenario : Scenario) (cells : List (Option Told)) (k sq : ℕ) → is_heard scenario k ≡ true →
    slice_get (lines_of (table_of scenario cells k).order) sq ≡ None → status scenario cells k sq ≡ false
status-idle scenario cells k sq hears none =
    elim (status scenario cells k sq) as (λ b. status scenario cells k sq ≡ b → b ≡ false) [
      | false ↦ λ e. refl
      | true ↦ λ e.
          let said = status-ok scenario cells (suc k) k sq (omega arith) (said-heard scenario cells k hears) e in
          absurd (none-some said.0 (sym none ∙ said.1.has))
    ] refl

same-oks : (f g : ℕ → Bool) → ((i : ℕ) → i < 8 → f i ≡ g i) →
    map f (0 ∷ 1 ∷ 2 ∷ 3 ∷ 4 ∷ 5 ∷ 6 ∷ 7 ∷ []) ≡ map g (0 ∷ 1 ∷ 2 ∷ 3 ∷ 4 ∷ 5 ∷ 6 ∷ 7 ∷ [])
same-oks f g same =
    rw (
      same 0 (omega arith),
      same 1 (omega arith),
      same 2 (omega arith),
      same 3 (omega arith),
      same 4 (omega arith),
      same 5 (omega arith),
      same 6 (omega arith),
      same 7 (omega arith),
    ) refl

module _ (leg : Leg) (sound : IsSound leg) (from horizon : ℕ) (once : FailsOnce leg from horizon)
    (unnoticed : IsUnnoticed leg from horizon) where
  abbrev one : Scenario
  one = scenario_by leg

  abbrev cells-one : List (Option Told)
  cells-one = session_of leg

  abbrev calm : Scenario
  calm = scenario_by (without leg from horizon)

  abbrev cells-calm : List (Option Told)
  cells-calm = session_of (without leg from horizon)

  abbrev first-calm : ℕ
  first-calm = first_hit from

  sizes : length leg.config.windows ≡ length calm.windows
  sizes = sym (length-map leg.config.windows (windows_but from horizon))

  windows-at : (line : ℕ) → slice_index_or calm.windows line [] ≡ windows_but from horizon (windows_of leg line)
  windows-at line =
      elim (cases_lt line (length leg.config.windows)) [
        | inl inside ↦ get_or-map (windows_but from horizon) leg.config.windows line [] [] inside
        | inr beyond ↦
            let size = sizes in
            get_or_past calm.windows line [] (omega arith)
            ∙ ap (windows_but from horizon) (sym (get_or_past leg.config.windows line [] beyond))
      ]

  clear-same : (line : ℕ) → line < length leg.config.windows → IsClear (windows_of leg line) (from - 39) horizon →
      slice_index_or calm.windows line [] ≡ windows_of leg line
  clear-same line inside clear =
      windows-at line
      ∙ but-clear from horizon 0 (windows_of leg line) (sound.network.windows line [] inside).apart clear

  same-below : SameBelow one (with_parts one calm) 0 (min from horizon)
  same-below =
      let made = once.made in
      let lag = sound.network.lag.0 in
      record {
        some = omega arith;
        most = omega arith;
        lines = sizes;
        windows = λ line t low. but-before from horizon (windows_of leg line) t (omega arith)
            ∙ ap (λ windows. carried windows t) (sym (windows-at line));
        orders = λ j low. refl;
        offers = λ t low. refl;
        lost = λ k low. refl;
        tells = λ k low. refl;
      }

  -- ---- a packet from the first on that can be hit
  module _ (k : ℕ) (late : first-calm ≤ k) (near : 16 * (k + leg.config.lag) + 24 < horizon)
      (tables : (i : ℕ) → i ≤ k → table_of one cells-one i ≡ table_of calm cells-calm i) where
    hears-one : is_heard one k ≡ true
    hears-one =
        (is-quiet leg sound from horizon once (k + leg.config.lag) near).hears k late (omega arith)

    hears-calm : is_heard calm k ≡ true
    hears-calm =
        let beside = once.beside in
        let size = sizes in
        (heard-line calm k).1 (
          beside.0,
          omega (arith, beside.1),
          subst (λ windows. is_readable (carried windows) k ≡ true) (sym (clear-same beside.0 beside.1 beside.2))
              (clear-read (windows_of leg beside.0) k
              (clear-within (windows_of leg beside.0) (from - 39) (16 * k) horizon (16 * k + 24)
              (omega arith) (omega arith) beside.2)),
        )

    counts : (table_of one cells-one k).count ≡ (table_of calm cells-calm k).count
    counts = ap (λ (table : Table). table.count) (tables k (omega arith))

    said-same : said one cells-one k ≡ said calm cells-calm k
    said-same = said-heard one cells-one k hears-one ∙ counts ∙ sym (said-heard calm cells-calm k hears-calm)

    -- a line has a word there, without the failures too
    word-calm : (sq line : ℕ) → slice_get (lines_of (table_before one cells-one first-calm).order) sq ≡ Some line →
        (last : ℕ) × (word calm cells-calm line k ≡ Some last)
    word-calm sq line has =
        elim (cases_lt 0 first-calm) [
          | inr none ↦ absurd (none-before leg sound from horizon once sq line (omega arith) has)
          | inl hit ↦
              let inside = line-inside one cells-one first-calm sq line has in
              let size = sizes in
              let read = reads-same one calm 0 (min from horizon) same-below line
              (first-calm - 1) (omega arith) in
              let e : suc (first-calm - 1) ≡ first-calm = omega arith in
              let still : (table_of one cells-one k).count ≡ (table_of one cells-one (first-calm - 1)).count =
              once.still k late (omega arith) ∙ ap (λ n. (table_before one cells-one n).count) (sym e) in
              still-word calm cells-calm line (first-calm - 1) k (omega arith)
              (sym read ∙ early-read leg sound from horizon once line k inside hit late (omega arith))
              (omega arith)
              (sym counts ∙ still
              ∙ ap (λ (table : Table). table.count) (tables (first-calm - 1) (omega arith)))
        ]

    up-same : (sq line : ℕ) → SaysOf leg sq k →
        slice_get (lines_of (table_before one cells-one first-calm).order) sq ≡ Some line →
        is_line_up one line k ≡ is_line_up calm line k
    up-same sq line says has =
        let inside = line-inside one cells-one first-calm sq line has in
        elim (once.each line inside) [
          | inl fails ↦ unnoticed line sq k fails.0 fails.1 has late near says
          | inr clear ↦ ap (λ windows. is_up leg.config.options (is_readable (carried windows)) k)
              (sym (clear-same line inside clear))
        ]

    status-same : (sq : ℕ) → SaysOf leg sq k → status one cells-one k sq ≡ status calm cells-calm k sq
    status-same sq says =
        let there : slice_get (lines_of (table_of one cells-one k).order) sq
        ≡ slice_get (lines_of (table_of calm cells-calm k).order) sq =
        ap (λ (table : Table). slice_get (lines_of table.order) sq) (tables k (omega arith)) in
        elim (slice_get (lines_of (table_of one cells-one k).order) sq) as (λ found.
        slice_get (lines_of (table_of one cells-one k).order) sq ≡ found →
        status one cells-one k sq ≡ status calm cells-calm k sq) [
          | None ↦ λ e. status-idle one cells-one k sq hears-one e
              ∙ sym (status-idle calm cells-calm k sq hears-calm (sym there ∙ e))
          | Some line ↦ λ e.
              let quiet = is-quiet leg sound from horizon once (k + leg.config.lag) near in
              let has = sym (ap (λ lines. slice_get lines sq) (lines-before one cells-one first-calm
              (k + leg.config.lag) quiet (suc k) (omega arith) (omega arith))) ∙ e in
              status-up one cells-one k sq line hears-one e
              (has-word leg sound from horizon once sq line k late (omega arith) has)
              ∙ up-same sq line says has
              ∙ sym (status-up calm cells-calm k sq line hears-calm (sym there ∙ e) (word-calm sq line has))
        ] refl

    return-late : return_cell one cells-one k ≡ return_cell calm cells-calm k
    return-late =
        let statuses = sound.network.options.statuses in
        ap (λ (packet : Told). if is_lost one k then None else Some packet)
        (ap₂ (λ count oks. record { rs_ack = count % 2; oks = oks }) said-same
        (same-oks (λ i. status one cells-one k (8 * group_of one k + i))
        (λ i. status calm cells-calm k (8 * group_of one k + i))
        (λ i low. status-same (8 * group_of one k + i) (omega arith))))

  -- ---- all of them
  cell-same : (j : ℕ) → 16 * j + 24 < horizon →
      ((i : ℕ) → i < j → table_of one cells-one i ≡ table_of calm cells-calm i) →
      cell_at one cells-one j ≡ cell_at calm cells-calm j
  cell-same j near tables =
      elim (nat_le leg.config.lag j) as (λ b. nat_le leg.config.lag j ≡ b →
      (if b then slice_index_or cells-one (j - leg.config.lag) None else None)
      ≡ (if b then slice_index_or cells-calm (j - leg.config.lag) None else None)) [
        | false ↦ λ e. refl
        | true ↦ λ e.
            let low = leb-true leg.config.lag j e in
            let lag = sound.network.lag.0 in
            let made = once.made in
            let k : ℕ = j - leg.config.lag in
            let same : return_cell one cells-one k ≡ return_cell calm cells-calm k =
            elim (cases_lt (min from horizon) (16 * k + 24)) [
              | inr early ↦ returned-same one calm 0 (min from horizon) same-below cells-one cells-calm
                  (alike-session one calm 0 (min from horizon) same-below) k (omega (arith, early))
              | inl late ↦ return-late k (omega arith) (omega arith) (λ i past. tables i (omega arith))
            ] in
            session-cell one (packets one) k (omega arith) (omega arith) ∙ same
            ∙ sym (session-cell calm (packets calm) k (omega arith) (omega arith))
      ] refl

  same-first : after one cells-one zero ≡ after calm cells-calm zero
  unfolding after
  same-first = ap opening sizes

  same-step : (j : ℕ) → after one cells-one j ≡ after calm cells-calm j →
      cell_at one cells-one j ≡ cell_at calm cells-calm j →
      after one cells-one (suc j) ≡ after calm cells-calm (suc j)
  unfolding after
  same-step j before cell =
      let group : ℕ = (j - leg.config.lag) % leg.config.options.statuses in
      ap₂ (λ told (source : Source). decide group told (asked_all (length one.windows) (orders_at one j) source)) cell
      before
      ∙ ap (λ size. decide group (cell_at calm cells-calm j) (asked_all size (orders_at one j) (after calm cells-calm j)))
      sizes

  same-all : (j : ℕ) → 16 * j + 8 < horizon → (i : ℕ) → i ≤ j → after one cells-one i ≡ after calm cells-calm i
  same-all zero near i low = let e : i ≡ zero = omega arith in rw e same-first
  same-all (suc j) near i low =
      let before = same-all j (omega arith) in
      elim (cases_lt i (suc j)) [
        | inl sooner ↦ before i (omega arith)
        | inr now ↦
            let e : i ≡ suc j = omega arith in
            rw e (same-step j (before j (omega arith))
            (cell-same j (omega arith) (λ n less. ap (λ (source : Source). source.table) (before (suc n) less))))
      ]

  pub same-tables : (j : ℕ) → 16 * j + 24 < horizon → table_of one cells-one j ≡ table_of calm cells-calm j
  same-tables j near = ap (λ (source : Source). source.table) (same-all (suc j) (omega arith) (suc j) (omega arith))
