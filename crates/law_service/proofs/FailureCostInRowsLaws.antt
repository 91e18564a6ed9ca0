-- What a failure costs in rows: which rows are whole or spoiled by what its windows damage, and how many.
use Rattle.std.proofs.Common.{◌≡◌, ◌↔◌, not, ℕ, zero, suc, ◌+◌, ◌-◌, ◌*◌, ◌/◌, ◌<◌, ◌≤◌, nat_lt, ◌&&◌, min, Bool, true}
use Rattle.std.proofs.Common.{false, if◌then◌else◌, inl, inr, List, [], ◌∷◌, map, filter, length, slice_get, Option}
use Rattle.std.proofs.Common.{Some, refl, sym, ◌∙◌, ap, ap₂, subst, arith}
use Rattle.std.specs.List.{list_all, range_with_len}
use Rattle.std.proofs.lemmas.Bool.{cases_Bool, cases_lt, le-ltb, lt-ltb, and_right, both_ways, false_from_ne_true}
use Rattle.std.proofs.lemmas.Option.{none-some, same_Some, slice_get_within}
use Rattle.std.proofs.lemmas.List.{get_or_past, length-map}
use Rattle.law_model.specs.Common.{Leg, lock_of, is_good, Scenario, scenario_by, carried_by, is_read, is_heard}
use Rattle.law_model.specs.Common.{packets, is_line_up, member_of, word, Told, is_norm, is_normal, active, after}
use Rattle.law_model.specs.Common.{table_of, are_known, is_whole_row, IsSound, most_lines}
use Rattle.law_model.specs.declared.window_types.Window.{Window}
use Rattle.law_model.specs.declared.lcas_states.Standing.{Standing}
use Rattle.law_model.specs.declared.lcas_states.Member.{Member}
use Rattle.law_model.specs.declared.lcas_states.Standing.TheVariants.{Add as adding, Norm as normal, Dnu as unused}
use Rattle.law_session.specs.Feedback.{lines_of, table_before}
use Rattle.law_session.specs.LineInUse.{IsInUse, known_by}
use Rattle.law_session.proofs.AddedLineWaitLaws.{sixteen}
use Rattle.law_session.proofs.FreshStatusLaws.{line-inside}
use Rattle.law_session.proofs.HeldLineAndStatusRoundLaws.{still-word, up-held}
use Rattle.law_session.proofs.UpLineAndReadablePacketLaws.{heard-line}
use Rattle.law_session.proofs.AdmittedAndExchangedLineLaws.{Has}
use Rattle.law_session.proofs.SourceOrderAndPlanLaws.{order-length}
use Rattle.law_session.proofs.ReturnCellAndLineWordLaws.{session-cell, session-law}
use Rattle.law_walk.specs.Common.{session_of, IsClear, row_from}
use Rattle.law_walk.proofs.WholeRowDespiteFailureLaws.{clear-within, clear-read, clear-good}
use Rattle.law_service.specs.cost_of_failures.Cost.{windows_of, FailsBy, StaysClear, first_hit, FailsOnce}
use Rattle.law_service.specs.cost_of_failures.Cost.{IsSpared, table_at}
use Rattle.law_service.specs.cost_of_failures.Cost.{IsSparedFor, cost_end, FailTogether, HasSq, SaysOf, end_packet}
use Rattle.law_service.specs.cost_of_failures.Cost.{Spoils, IsSpoiled, spoiled_rows, round_rows}
use Rattle.law_service.proofs.QuietStepAndKeptStatusLaws.{IsQuiet, Has-in_lines, last-said, norm-up, up-stands}
use Rattle.law_service.proofs.QuietStepAndKeptStatusLaws.{count-before}
use Rattle.law_service.proofs.FailingLineArrivalAndUseLaws.{window-some, behind-clear, spoils-or, before-clear}
use Rattle.law_service.proofs.FailingLineArrivalAndUseLaws.{spoils-arrives, spared-arrives, read-up, up-behind, latest}
use Rattle.law_service.proofs.FailingLineArrivalAndUseLaws.{next_in, in-turn, stays-normal, soonest}
use Rattle.law_service.specs.cost_of_failures.CostInNumbers.{first_told, WasUp, WasUsed, WereUsed, IsHit}

-- ---- What a failure costs: which rows are whole, and how a line stands, by what its windows damage.
-- ---- lists
norm_of : (standing : Standing) → is_norm standing ≡ true → standing ≡ normal
norm_of normal e = refl
norm_of adding e = absurd cc
norm_of unused e = absurd cc

-- a test doesn't hold of each line that carries payload exactly if there is one of which it doesn't hold
active-any : (test : ℕ → Bool) (order : List Member) →
    list_all test (map (λ (member : Member). member.line) (filter is_normal order)) ≡ false →
    (sq : ℕ) × (line : ℕ) × Has order sq line normal × (test line ≡ false)
active-any test [] e = absurd cc
active-any test (member ∷ order) e =
    elim (is_norm member.standing) as (λ b. is_norm member.standing ≡ b → list_all test
    (map (λ (m : Member). m.line) (if b then member ∷ filter is_normal order else filter is_normal order)) ≡ false →
    (sq : ℕ) × (line : ℕ) × Has (member ∷ order) sq line normal × (test line ≡ false)) [
      | false ↦ λ is e. later (active-any test order e)
      | true ↦ λ is e. elim (test member.line) as (λ b. test member.line ≡ b →
          (b && list_all test (map (λ (m : Member). m.line) (filter is_normal order))) ≡ false →
          (sq : ℕ) × (line : ℕ) × Has (member ∷ order) sq line normal × (test line ≡ false)) [
            | false ↦ λ fails e.
                (zero, member.line, ap (λ s. Some (member_of member.line s)) (norm_of member.standing is), fails)
            | true ↦ λ holds e. later (active-any test order e)
          ] refl e
    ] refl e
  where
    later : (sq : ℕ) × (line : ℕ) × Has order sq line normal × (test line ≡ false) →
        (sq : ℕ) × (line : ℕ) × Has (member ∷ order) sq line normal × (test line ≡ false)
    later found = (suc found.0, found.1, found.2, found.3)

active-not : (test : ℕ → Bool) (order : List Member) (sq line : ℕ) → Has order sq line normal → test line ≡ false →
    list_all test (map (λ (member : Member). member.line) (filter is_normal order)) ≡ false
active-not test [] sq line has e = absurd (none-some (member_of line normal) has)
active-not test (member ∷ order) zero line has e =
    let same = same_Some member (member_of line normal) has in
    let stands : is_norm member.standing ≡ true = ap (λ (m : Member). is_norm m.standing) same in
    let fails : test member.line ≡ false = ap (λ (m : Member). test m.line) same ∙ e in
    rw stands (rw fails refl)
active-not test (member ∷ order) (suc sq) line has e =
    let rest = active-not test order sq line has e in
    elim (is_norm member.standing) as (λ b. list_all test
    (map (λ (m : Member). m.line) (if b then member ∷ filter is_normal order else filter is_normal order)) ≡ false) [
      | false ↦ rest
      | true ↦ and_right (test member.line) _ rest
    ]

-- before the first step no line has an SQ
opening-empty : (scenario : Scenario) (cells : List (Option Told)) (sq line : ℕ) →
    slice_get (lines_of (table_before scenario cells zero).order) sq ≡ Some line → ⊥
unfolding after
opening-empty scenario cells sq line has = none-some line has

module _ (leg : Leg) (sound : IsSound leg) (from horizon : ℕ) (once : FailsOnce leg from horizon) where
  abbrev scenario : Scenario
  scenario = scenario_by leg

  abbrev cells : List (Option Told)
  cells = session_of leg

  abbrev first : ℕ
  first = first_hit from

  -- ---- the premises
  beyond-clear : (line a b : ℕ) → length leg.config.windows ≤ line → IsClear (windows_of leg line) a b
  beyond-clear line a b beyond =
      subst (λ windows. IsClear windows a b) (sym (get_or_past leg.config.windows line [] beyond))
      (λ k d inside. absurd (omega arith))

  pub failing-some : (line : ℕ) (window : Window) → FailsBy (windows_of leg line) window from horizon →
      window.first < window.end
  failing-some line window fails =
      elim (cases_lt line (length leg.config.windows)) [
        | inl inside ↦ window-some (windows_of leg line) 0 fails.stands.0 window
            (sound.network.windows line [] inside).apart fails.stands.1 fails.stands.2
        | inr beyond ↦
            let none : length (windows_of leg line) ≡ 0 = ap length (get_or_past leg.config.windows line [] beyond) in
            let inside = fails.stands.1 in
            absurd (omega arith)
      ]

  pub none-before : (sq line : ℕ) → first ≡ 0 →
      slice_get (lines_of (table_before scenario cells first).order) sq ≡ Some line → ⊥
  none-before sq line none has =
      opening-empty scenario cells sq line
      (subst (λ n. slice_get (lines_of (table_before scenario cells n).order) sq ≡ Some line) none has)

  -- a line that has an SQ was read in the packet before the first that a failure can damage, and no change is made
  -- since
  pub early-read : (line k : ℕ) → line < length leg.config.windows → 0 < first → first ≤ k → 16 * k + 24 < horizon →
      is_read scenario line (first - 1) ≡ true
  early-read line k inside hit low near =
      elim (once.each line inside) [
        | inr clear ↦ clear-read (windows_of leg line) (first - 1)
            (clear-within (windows_of leg line) (from - 39) (16 * (first - 1)) horizon (16 * (first - 1) + 24)
            (omega arith) (omega arith) clear)
        | inl fails ↦
            let begins = fails.1.late in
            clear-read (windows_of leg line) (first - 1)
            (clear-within (windows_of leg line) (from - 39) (16 * (first - 1)) (min fails.0.first horizon)
            (16 * (first - 1) + 24) (omega arith) (omega arith)
            (before-clear (windows_of leg line) fails.0 from horizon fails.1 (failing-some line fails.0 fails.1)))
      ]

  pub has-word : (sq line k : ℕ) → first ≤ k → 16 * k + 24 < horizon →
      slice_get (lines_of (table_before scenario cells first).order) sq ≡ Some line →
      (said : ℕ) × (word scenario cells line k ≡ Some said)
  has-word sq line k low near has =
      elim (cases_lt 0 first) [
        | inr none ↦ absurd (none-before sq line (omega arith) has)
        | inl hit ↦
            let inside = line-inside scenario cells first sq line has in
            let e : suc (first - 1) ≡ first = omega arith in
            let same : (table_of scenario cells k).count ≡ (table_of scenario cells (first - 1)).count =
            once.still k low near ∙ ap (λ n. (table_before scenario cells n).count) (sym e) in
            still-word scenario cells line (first - 1) k inside (early-read line k inside hit low near)
            (omega arith) same
      ]

  pub is-quiet : (j : ℕ) → 16 * j + 24 < horizon → IsQuiet scenario cells first j
  is-quiet j near =
      let made = once.made in
      let lag = sound.network.lag.0 in
      record {
        lag = omega arith;
        statuses = sound.network.options.statuses;
        comes = λ k low high.
            let lost = once.come k low (omega arith) in
            session-cell scenario (packets scenario) k (omega arith) (omega arith) ∙ (rw lost refl);
        hears = λ k low high.
            (heard-line scenario k).1 (
              once.beside.0,
              once.beside.1,
              clear-read (windows_of leg once.beside.0) k
                  (clear-within (windows_of leg once.beside.0) (from - 39) (16 * k) horizon (16 * k + 24)
                  (omega arith) (omega arith) once.beside.2),
            );
        still = λ k low high. once.still k low (omega arith);
        words = λ sq line k low high has. has-word sq line k low (omega arith) has;
      }

  few-lines : (j sq : ℕ) (member : Member) → slice_get (table_before scenario cells j).order sq ≡ Some member → sq < most_lines
  few-lines j sq member has =
      let inside = slice_get_within (table_before scenario cells j).order sq member has in
      let most = order-length scenario cells j in
      let same = sound.network.windows_each in
      let few = sound.network.lines.1 in
      omega arith

  -- ---- a row
  abbrev Arrives : ℕ → ℕ → Type 0
  Arrives line t = (is_read scenario line ((t - 24) / 16) && is_good (carried_by scenario line) t) ≡ true

  clear-arrives : (line t a b : ℕ) → 24 ≤ t → a ≤ row_from t → t < b → IsClear (windows_of leg line) a b →
      Arrives line t
  clear-arrives line t a b late low high clear =
      ap₂ (λ a b. a && b)
      (clear-read (windows_of leg line) ((t - 24) / 16)
      (clear-within (windows_of leg line) a (16 * ((t - 24) / 16)) b (16 * ((t - 24) / 16) + 24)
      (omega arith) (omega arith) clear))
      (clear-good (windows_of leg line) t (omega arith)
      (clear-within (windows_of leg line) a (lock_of t) b (t + 1) (omega arith) (omega arith) clear))

  -- a line that carries payload and doesn't arrive fails and spoils the row
  active-arrives : (sq line t : ℕ) → 24 ≤ t → from ≤ t → t < horizon →
      Has (table_of scenario cells ((t - 24) / 16)).order sq line normal →
      (is_read scenario line ((t - 24) / 16) && is_good (carried_by scenario line) t) ≡ false →
      IsSpoiled leg from horizon t
  active-arrives sq line t late low high has e =
      elim (cases_lt line (length leg.config.windows)) [
        | inr beyond ↦
            let whole : Arrives line t = clear-arrives line t 0 horizon late (omega arith) high
            (beyond-clear line 0 horizon beyond) in
            absurd cc
        | inl inside ↦ elim (once.each line inside) [
          | inr clear ↦
              let whole : Arrives line t = clear-arrives line t (from - 39) horizon late (omega arith) high clear in
              absurd cc
          | inl fails ↦ elim (spoils-or fails.0 t) [
            | inl spoils ↦ record { line = line; window = fails.0; fails = fails.1; used = (sq, has); spoils = spoils }
            | inr spared ↦
                let whole : Arrives line t = spared-arrives (windows_of leg line) fails.0 from horizon fails.1
                (failing-some line fails.0 fails.1) t late low high spared in
                absurd cc
          ]
        ]
      ]

  whole-under : (t : ℕ) → 24 ≤ t → from ≤ t → t < horizon →
      is_whole_row scenario cells t
      ≡ (are_known scenario cells ((t - 24) / 16) && list_all (λ line. is_good (carried_by scenario line) t)
      (active (table_of scenario cells ((t - 24) / 16))))
  whole-under t late low high =
      let k : ℕ = (t - 24) / 16 in
      let beside = once.beside in
      let early : nat_lt t 24 ≡ false = le-ltb t 24 late in
      let heard : is_heard scenario k ≡ true = (heard-line scenario k).1 (
        beside.0,
        beside.1,
        clear-read (windows_of leg beside.0) k
            (clear-within (windows_of leg beside.0) (from - 39) (16 * k) horizon (16 * k + 24)
            (omega arith) (omega arith) beside.2),
      ) in
      rw (early, heard) refl

  -- a row isn't whole only if a line that carries payload fails and spoils it
  pub cost-spoiled : (t : ℕ) → 24 ≤ t → from ≤ t → t < horizon → is_whole_row scenario cells t ≡ false →
      IsSpoiled leg from horizon t
  cost-spoiled t late low high broken =
      let k : ℕ = (t - 24) / 16 in
      let table = table_of scenario cells k in
      let reads = λ (line : ℕ). is_read scenario line k in
      let good = λ (line : ℕ). is_good (carried_by scenario line) t in
      elim (cases_Bool (list_all reads (active table))) [
        | inr e ↦
            let found = active-any reads table.order e in
            active-arrives found.0 found.1 t late low high found.2 (ap (λ b. b && good found.1) found.3)
        | inl read ↦ elim (cases_Bool (list_all good (active table))) [
          | inr e ↦
              let found = active-any good table.order e in
              active-arrives found.0 found.1 t late low high found.2
              (and_right (reads found.1) (good found.1) found.3)
          | inl fine ↦
              absurd (both_ways (is_whole_row scenario cells t) broken
              (whole-under t late low high ∙ (rw (read, fine) refl)))
        ]
      ]

  -- and just if so, where the sink stops
  pub cost-exact : (t : ℕ) → leg.config.options.infers ≡ false → 24 ≤ t → from ≤ t → t < horizon →
      (is_whole_row scenario cells t ≡ false) ↔ IsSpoiled leg from horizon t
  cost-exact t stops late low high =
      let k : ℕ = (t - 24) / 16 in
      let order = (table_of scenario cells k).order in
      let reads = λ (line : ℕ). is_read scenario line k in
      let good = λ (line : ℕ). is_good (carried_by scenario line) t in (
        cost-spoiled t late low high,
        λ spoiled.
            let line = spoiled.line in
            let (sq, has) = spoiled.used in
            whole-under t late low high ∙ elim (cases_Bool (reads line)) [
              | inr gone ↦ let lost = active-not reads order sq line has gone in rw (lost, stops) refl
              | inl read ↦
                  let bad = false_from_ne_true (good line)
                  (λ fine. spoils-arrives (windows_of leg line) spoiled.window from horizon spoiled.fails
                  (failing-some line spoiled.window spoiled.fails) t late spoiled.spoils
                  (ap₂ (λ a b. a && b) read fine)) in
                  and_right (are_known scenario cells k) _ (active-not good order sq line has bad)
            ],
      )

  -- ---- a row that no failure spoils
  -- it isn't spoiled before a failure, behind it, or once the source was told of it
  pub spoils-not : (line t : ℕ) (window : Window) → FailsBy (windows_of leg line) window from horizon →
      Spoils window t → 24 ≤ t → t < horizon → (used : IsInUse (table_of scenario cells ((t - 24) / 16)) line) →
      IsSparedFor leg used.0 window t → ⊥
  spoils-not line t window fails spoils late high used spared =
      let some = failing-some line window fails in
      let begins = fails.late in
      let j : ℕ = (t - 24) / 16 in
      let small = few-lines (suc j) used.0 (member_of line normal) used.1 in
      let last : t < 16 * end_packet window.end + 24 = elim spoils [
        | inl near ↦ let a = near.1 in omega arith
        | inr far ↦ far.1
      ] in
      elim spared [
        | inl before ↦ elim spoils [
          | inl near ↦ let a = near.0 in omega arith
          | inr far ↦ let a = far.0 in omega arith
        ]
        | inr past ↦ elim past [
          | inl ended ↦ omega arith
          | inr told ↦
              let k : ℕ = told.0 in
              let hit = told.1 in
              let group = told.2 in
              let since = told.3 in
              let n = latest leg.config.options.statuses k (j - leg.config.lag) sound.network.options.statuses
              (omega arith) in
              let above = n.1 in
              let taken = n.2 in
              let near = n.3 in
              let up = norm-up scenario cells first j (is-quiet j (omega arith)) j n.0 used.0 line (omega arith)
              (omega arith) (omega arith) (omega arith) small (sym group ∙ n.4) used.1 in
              let behind = up-behind leg.config.options (windows_of leg line) window from horizon fails some n.0
              (omega arith) up in
              omega arith
        ]
      ]

  pub cost-told : (t : ℕ) → ((line sq : ℕ) (window : Window) → FailsBy (windows_of leg line) window from horizon →
      slice_get (lines_of (table_before scenario cells first).order) sq ≡ Some line →
      IsSparedFor leg sq window t) → from ≤ t → t < horizon →
      is_whole_row scenario cells t ≡ true
  cost-told t spared low high =
      elim (cases_lt t 24) [
        | inl early ↦ rw (lt-ltb t 24 early) refl
        | inr late ↦ elim (cases_Bool (is_whole_row scenario cells t)) [
          | inl whole ↦ whole
          | inr broken ↦
              let spoiled = cost-spoiled t late low high broken in
              let j : ℕ = (t - 24) / 16 in
              let quiet = is-quiet j (omega arith) in
              let has = Has-in_lines scenario cells first j quiet j spoiled.used.0 spoiled.line normal
              (omega arith) (omega arith) spoiled.used.1 in
              absurd (spoils-not spoiled.line t spoiled.window spoiled.fails spoiled.spoils late high spoiled.used
              (spared spoiled.line spoiled.used.0 spoiled.window spoiled.fails has))
        ]
      ]

  pub few-before : (j s l : ℕ) → slice_get (lines_of (table_before scenario cells j).order) s ≡ Some l → s < most_lines
  few-before j s l has =
      let order = (table_before scenario cells j).order in
      let inside = slice_get_within (lines_of order) s l has in
      let long = length-map order (λ (member : Member). member.line) in
      let most = order-length scenario cells j in
      let same = sound.network.windows_each in
      let few = sound.network.lines.1 in
      omega arith

  pub cost-rows : (t : ℕ) → ((line : ℕ) (window : Window) →
      FailsBy (windows_of leg line) window from horizon → IsSpared leg window t) → from ≤ t → t < horizon →
      is_whole_row scenario cells t ≡ true
  cost-rows t spared low high =
      cost-told t
      (λ line sq window fails has.
      let begins = fails.late in
      let small = few-before first sq line has in
      elim (spared line window fails) [
        | inl before ↦ inl before
        | inr past ↦ elim (cases_lt t (window.end + 39)) [
          | inr ended ↦ inr (inl ended)
          | inl during ↦ elim (cases_lt 0 (first_hit window.first)) [
            | inr none ↦ absurd (none-before sq line (omega arith) has)
            | inl hit ↦
                let n : ℕ = first_hit window.first + leg.config.options.holdoff in
                let turn = in-turn leg.config.options.statuses n (sq / 8) sound.network.options.statuses
                (omega arith) in
                let near = turn.1 in
                inr (inr (next_in leg.config.options.statuses n (sq / 8), turn.0, turn.2, omega arith))
          ]
        ]
      ])
      low high

  -- ---- the return of a line
  -- a line stands as the last packet says that says a status of it
  pub cost-stands : (sq line j k : ℕ) → slice_get (lines_of (table_before scenario cells first).order) sq ≡ Some line →
      (Has (table_before scenario cells first).order sq line adding → known_by scenario first ≤ j) →
      first ≤ k → SaysOf leg sq k → k + leg.config.lag ≤ j → j < k + leg.config.options.statuses + leg.config.lag →
      16 * j + 24 < horizon →
      (Has (table_of scenario cells j).order sq line normal) ↔ (is_line_up scenario line k ≡ true)
  cost-stands sq line j k has late start group taken near within =
      let quiet = is-quiet j within in (
        λ used. norm-up scenario cells first j quiet j k sq line start taken near (omega arith)
            (few-before first sq line has) (sym group) used,
        λ up. up-stands scenario cells first j quiet j k sq line start taken near (omega arith) (few-before first)
            (sym group) has late up,
      )

  -- a line that is up from packet n on at each packet that says a status of it
  up-back : (n sq line t : ℕ) → slice_get (lines_of (table_before scenario cells first).order) sq ≡ Some line →
      first ≤ n → known_by scenario n ≤ (t - 24) / 16 → 24 ≤ t → t < horizon →
      ((k : ℕ) → n ≤ k → 16 * (k + leg.config.lag) + 24 < horizon → SaysOf leg sq k →
      is_line_up scenario line k ≡ true) →
      Has (table_of scenario cells ((t - 24) / 16)).order sq line normal
  up-back n sq line t has start low late high up =
      let j : ℕ = (t - 24) / 16 in
      let size = sixteen leg.config.options.statuses sound.network.options.statuses in
      let said = last-said scenario cells first j (is-quiet j (omega arith)) j sq (omega arith)
      (few-before first sq line has) in
      let taken = said.2 in
      let since = said.3 in
      (cost-stands sq line j said.0 has (λ added. omega arith) said.1 (sym said.4) taken since (omega arith)).1
      (up said.0 (omega arith) (omega arith) (sym said.4))

  pub cost-back : (line t : ℕ) (window : Window) → FailsBy (windows_of leg line) window from horizon →
      HasSq (table_before scenario cells first) line →
      window.end + 23 + round_rows leg leg.config.options.restore ≤ t → t < horizon →
      IsInUse (table_of scenario cells ((t - 24) / 16)) line
  cost-back line t window fails has low high =
      let some = failing-some line window fails in
      let begins = fails.late in
      let size = sixteen leg.config.options.statuses sound.network.options.statuses in
      let n : ℕ = end_packet window.end in (
        has.0,
        up-back (n + leg.config.options.restore) has.0 line t has.1 (omega arith) (omega arith) (omega arith) high
            (λ k after_end within group. read-up leg.config.options (is_read scenario line) n k
            (λ p from_end until. clear-read (windows_of leg line) p
            (clear-within (windows_of leg line) window.end (16 * p) horizon (16 * p + 24) (omega arith) (omega arith)
            (behind-clear (windows_of leg line) window from horizon fails some)))
            (omega arith)),
      )

  -- a line whose failure no status says
  pub cost-unnoticed : (sq line t : ℕ) → slice_get (lines_of (table_before scenario cells first).order) sq ≡ Some line →
      ((k : ℕ) → first ≤ k → 16 * (k + leg.config.lag) + 24 < horizon → SaysOf leg sq k →
      is_line_up scenario line k ≡ true) → from + round_rows leg 0 ≤ t → t < horizon →
      Has (table_of scenario cells ((t - 24) / 16)).order sq line normal
  cost-unnoticed sq line t has up low high =
      elim (cases_lt 0 first) [
        | inr none ↦ absurd (none-before sq line (omega arith) has)
        | inl hit ↦
            let size = sixteen leg.config.options.statuses sound.network.options.statuses in
            up-back first sq line t has (omega arith) (omega arith) (omega arith) high up
      ]

  pub cost-others : (line t : ℕ) → StaysClear (windows_of leg line) from horizon →
      HasSq (table_before scenario cells first) line →
      from + round_rows leg leg.config.options.restore ≤ t → t < horizon →
      IsInUse (table_of scenario cells ((t - 24) / 16)) line
  cost-others line t clear has low high =
      elim (cases_lt 0 first) [
        | inr none ↦ absurd (none-before has.0 line (omega arith) has.1)
        | inl hit ↦
            let size = sixteen leg.config.options.statuses sound.network.options.statuses in (
              has.0,
              up-back (first + leg.config.options.restore) has.0 line t has.1 (omega arith) (omega arith) (omega arith)
                  high
                  (λ k late within group. read-up leg.config.options (is_read scenario line) first k
                  (λ p start until. clear-read (windows_of leg line) p
                  (clear-within (windows_of leg line) (from - 39) (16 * p) horizon (16 * p + 24) (omega arith)
                  (omega arith) clear))
                  (omega arith)),
            )
      ]

-- ---- how many rows
few-rows : (test : ℕ → Bool) (bound a n : ℕ) → ((t : ℕ) → bound ≤ t → a ≤ t → t < a + n → test t ≡ false) →
    length (filter test (range_with_len a n)) ≤ bound - a
few-rows test bound a zero none = omega arith
few-rows test bound a (suc n) none =
    let rest = few-rows test bound (a + 1) n (λ t far low high. none t far (omega arith) (omega arith)) in
    elim (test a) as (λ b. test a ≡ b →
    length (if b then a ∷ filter test (range_with_len (a + 1) n) else filter test (range_with_len (a + 1) n))
    ≤ bound - a) [
      | false ↦ λ e. omega arith
      | true ↦ λ e. elim (cases_lt a bound) [
        | inl before ↦ omega arith
        | inr behind ↦ absurd (let wrong = none a behind (omega arith) (omega arith) in cc)
      ]
    ] refl

-- ---- lines that fail together
pub cost-together : (leg : Leg) (begins ends horizon t : ℕ) → IsSound leg → FailTogether leg begins ends horizon →
    cost_end leg begins ends ≤ t → t < horizon →
    is_whole_row (scenario_by leg) (session_of leg) t ≡ true
cost-together leg begins ends horizon t sound together low high =
    let some = together.some in
    cost-rows leg sound begins horizon together.fails t
    (λ line window fails.
    let same = together.same line window fails in
    let first = same.0 in
    let last = same.1 in
    inr (omega arith))
    (omega arith) high

pub cost-bill : (leg : Leg) (begins ends horizon count : ℕ) → IsSound leg → FailTogether leg begins ends horizon →
    begins + count ≤ horizon → spoiled_rows leg begins count ≤ min (ends + 39 - begins)
    (round_rows leg leg.config.options.holdoff)
cost-bill leg begins ends horizon count sound together within =
    let few = few-rows (λ t. not (is_whole_row (scenario_by leg) (session_of leg) t))
    (cost_end leg begins ends) begins count
    (λ t far low high. ap not (cost-together leg begins ends horizon t sound together far (omega arith))) in
    let some = together.some in
    omega arith

-- ---- The rows that failures spoil, in numbers: a line is in use until the source is told of its failure.
module _ (leg : Leg) (sound : IsSound leg) (from horizon : ℕ) (once : FailsOnce leg from horizon) where
  abbrev scenario-cost : Scenario
  scenario-cost = scenario_by leg

  abbrev cells-cost : List (Option Told)
  cells-cost = session_of leg

  abbrev first-cost : ℕ
  first-cost = first_hit from

  -- a line is up before its failure, and while the hold-off runs
  untold-up : (line sq k : ℕ) (window : Window) → FailsBy (windows_of leg line) window from horizon →
      slice_get (lines_of (table_before scenario-cost cells-cost first-cost).order) sq ≡ Some line →
      WasUp leg from line → first-cost ≤ k → k < first_hit window.first + leg.config.options.holdoff → 16 * k + 24 < horizon →
      is_line_up scenario-cost line k ≡ true
  untold-up line sq k window fails has up low held near =
      let some = failing-some leg sound from horizon once line window fails in
      let begins = fails.late in
      let lag = sound.network.lag.0 in
      elim (cases_lt 0 first-cost) [
        | inr none ↦ absurd (none-before leg sound from horizon once sq line (omega arith) has)
        | inl hit ↦
            let before = up (first-cost - 1) (omega arith) (omega arith) in
            let inside = line-inside scenario-cost cells-cost first-cost sq line has in
            up-held leg.config.options (is_read scenario-cost line) (first-cost - 1)
            (min (first_hit window.first + leg.config.options.holdoff - 1) k) k before.0
            (early-read leg sound from horizon once line k inside hit low near)
            (λ j later until. (
              j,
              omega arith,
              omega arith,
              clear-read (windows_of leg line) j
                  (clear-within (windows_of leg line) (from - 39) (16 * j) (min window.first horizon) (16 * j + 24)
                  (omega arith) (omega arith) (before-clear (windows_of leg line) window from horizon fails some)),
            ))
            (omega arith) (omega arith)
      ]

  -- a line that is in use in a step stays so until the source is told
  pub cost-kept : (line sq i t : ℕ) (window : Window) → FailsBy (windows_of leg line) window from horizon →
      slice_get (lines_of (table_before scenario-cost cells-cost first-cost).order) sq ≡ Some line →
      WasUp leg from line → Has (table_before scenario-cost cells-cost i).order sq line normal → first-cost ≤ i → i ≤ suc ((t - 24) / 16) →
      24 ≤ t → from ≤ t → t < horizon → t < 16 * (first_told leg window sq + leg.config.lag) + 24 →
      Has (table_of scenario-cost cells-cost ((t - 24) / 16)).order sq line normal
  cost-kept line sq i t window fails has up used since upto late low high untold =
      let j : ℕ = (t - 24) / 16 in
      let some = failing-some leg sound from horizon once line window fails in
      let begins = fails.late in
      let lag = sound.network.lag.0 in
      let small = few-before leg sound from horizon once first-cost sq line has in
      let quiet = is-quiet leg sound from horizon once j (omega arith) in
      let told : ℕ = first_told leg window sq in
      let soon : j < told + leg.config.lag = omega arith in
      let place : suc j - i + i ≡ suc j = omega arith in
      let session = session-law scenario-cost (packets scenario-cost) (omega arith) in
      let stays = stays-normal scenario-cost cells-cost session (omega arith) i sq line (suc j - i) small used
      (λ k start before.
      once.still k (omega arith) (omega arith)
      ∙ sym (count-before scenario-cost cells-cost first-cost j quiet k (omega arith) (omega arith)))
      (λ k start before group. elim (cases_lt k first-cost) [
        | inl old ↦ up k old (omega arith)
        | inr new ↦ (
          untold-up line sq k window fails has up new
              (elim (cases_lt k (first_hit window.first + leg.config.options.holdoff)) [
                | inl held ↦ held
                | inr late_on ↦
                    let soonest_told = soonest leg.config.options.statuses
                    (first_hit window.first + leg.config.options.holdoff)
                    (sq / 8) k sound.network.options.statuses late_on
                    group in
                    absurd (omega arith)
              ]) (omega arith),
          has-word leg sound from horizon once sq line k new (omega arith) has,
        )
      ]) in
      let there : Has (table_before scenario-cost cells-cost (suc j - i + i)).order sq line normal = stays in
      rw place at there

  -- one whose failure no status says is in use all the time
  pub cost-used : (line sq t : ℕ) →
      slice_get (lines_of (table_before scenario-cost cells-cost first-cost).order) sq ≡ Some line →
      WasUsed leg from sq line →
      ((k : ℕ) → first-cost ≤ k → 16 * (k + leg.config.lag) + 24 < horizon → SaysOf leg sq k →
      is_line_up scenario-cost line k ≡ true) → 24 ≤ t → from ≤ t → t < horizon →
      Has (table_of scenario-cost cells-cost ((t - 24) / 16)).order sq line normal
  cost-used line sq t has used up late low high =
      let j : ℕ = (t - 24) / 16 in
      let lag = sound.network.lag.0 in
      let small = few-before leg sound from horizon once first-cost sq line has in
      let quiet = is-quiet leg sound from horizon once j (omega arith) in
      let place : suc j - first-cost + first-cost ≡ suc j = omega arith in
      let stays = stays-normal scenario-cost cells-cost (session-law scenario-cost (packets scenario-cost) (omega arith))
      (omega arith) first-cost sq line (suc j - first-cost) small used.stands
      (λ k start before. once.still k start (omega arith)
      ∙ sym (count-before scenario-cost cells-cost first-cost j quiet k start (omega arith)))
      (λ k start before group. elim (cases_lt k first-cost) [
        | inl old ↦ used.up k old start
        | inr new ↦
            (up k new (omega arith) (sym group), has-word leg sound from horizon once sq line k new (omega arith) has)
      ]) in
      let there : Has (table_before scenario-cost cells-cost (suc j - first-cost + first-cost)).order sq line normal =
      stays in
      rw place at there

  -- a row that isn't whole is spoiled before the source is told
  pub cost-caught : (t : ℕ) → 24 ≤ t → from ≤ t → t < horizon → is_whole_row scenario-cost cells-cost t ≡ false →
      (spoiled : IsSpoiled leg from horizon t)
      × (slice_get (lines_of (table_at leg from).order) spoiled.used.0 ≡ Some spoiled.line)
      × (t < 16 * (first_told leg spoiled.window spoiled.used.0 + leg.config.lag) + 24)
  cost-caught t late low high broken =
      let spoiled = cost-spoiled leg sound from horizon once t late low high broken in
      let j : ℕ = (t - 24) / 16 in
      let sq = spoiled.used.0 in
      let quiet = is-quiet leg sound from horizon once j (omega arith) in
      let has = Has-in_lines scenario-cost cells-cost first-cost j quiet j sq spoiled.line normal (omega arith) (omega arith)
      spoiled.used.1 in (
        spoiled,
        has,
        elim (cases_lt t (16 * (first_told leg spoiled.window sq + leg.config.lag) + 24)) [
          | inl before ↦ before
          | inr behind ↦
              let small = few-before leg sound from horizon once first-cost sq spoiled.line has in
              let turn = in-turn leg.config.options.statuses
              (first_hit spoiled.window.first + leg.config.options.holdoff) (sq / 8) sound.network.options.statuses
              (omega arith) in
              absurd (spoils-not leg sound from horizon once spoiled.line t spoiled.window spoiled.fails
              spoiled.spoils late high spoiled.used
              (inr (inr (first_told leg spoiled.window sq, turn.0, turn.2, behind))))
        ],
      )

  pub cost-hit : (t : ℕ) → 24 ≤ t → from ≤ t → t < horizon → is_whole_row scenario-cost cells-cost t ≡ false →
      IsHit leg from horizon t
  cost-hit t late low high broken =
      let caught = cost-caught t late low high broken in
      let spoiled = caught.0 in
      record {
        line = spoiled.line;
        sq = spoiled.used.0;
        window = spoiled.window;
        has = caught.1;
        fails = spoiled.fails;
        spoils = spoiled.spoils;
        untold = caught.2;
      }

  pub cost-closed : (t : ℕ) → leg.config.options.infers ≡ false → WereUsed leg from horizon → 24 ≤ t → from ≤ t →
      t < horizon → (is_whole_row scenario-cost cells-cost t ≡ false) ↔ IsHit leg from horizon t
  cost-closed t stops were late low high = (
    cost-hit t late low high,
    λ hit. (cost-exact leg sound from horizon once t stops late low high).1 (record {
      line = hit.line;
      window = hit.window;
      fails = hit.fails;
      used = (
        hit.sq,
        let was = were hit.line hit.sq hit.window hit.fails hit.has in
            cost-kept hit.line hit.sq first-cost t hit.window hit.fails hit.has was.up was.stands (omega arith)
            (omega arith) late low high hit.untold,
      );
      spoils = hit.spoils;
    }),
  )

-- ---- lines that fail together
same-spoils : (a b : Window) (t : ℕ) → a.first ≡ b.first → a.end ≡ b.end → Spoils a t → Spoils b t
same-spoils a b t first-cost last (inl near) =
    let low = near.0 in
    let high = near.1 in
    inl (omega arith, omega arith)
same-spoils a b t first-cost last (inr far) =
    let low = far.0 in
    let high = far.1 in
    inr (omega arith, omega arith)

-- of the rows that the failure can spoil it spoils the first ones
pub cost-first : (leg : Leg) (begins ends horizon line t sooner : ℕ) (window : Window) → IsSound leg →
    leg.config.options.infers ≡ false → FailTogether leg begins ends horizon → WereUsed leg begins horizon →
    is_whole_row (scenario_by leg) (session_of leg) t ≡ false → t < horizon →
    FailsBy (windows_of leg line) window begins horizon → Spoils window sooner →
    24 ≤ sooner → begins ≤ sooner → sooner ≤ t →
    is_whole_row (scenario_by leg) (session_of leg) sooner ≡ false
cost-first leg begins ends horizon line t sooner window sound stops together were broken high fails spoils late low
    before =
    let hit = cost-hit leg sound begins horizon together.fails t (omega arith) (omega arith) high broken in
    let one = together.same line window fails in
    let other = together.same hit.line hit.window hit.fails in
    let untold = hit.untold in
    (cost-closed leg sound begins horizon together.fails sooner stops were late low (omega arith)).1 (record {
      line = hit.line;
      sq = hit.sq;
      window = hit.window;
      has = hit.has;
      fails = hit.fails;
      spoils = same-spoils window hit.window sooner (one.0 ∙ sym other.0) (one.1 ∙ sym other.1) spoils;
      untold = omega arith;
    })
