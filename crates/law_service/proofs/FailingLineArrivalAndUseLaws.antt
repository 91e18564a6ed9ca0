-- A line that fails once: which of its packets and containers arrive, when it is up, and how long it stays in use.
use Rattle.std.proofs.Common.{◌≡◌, ◌⊎◌, ℕ, zero, suc, ◌+◌, ◌-◌, ◌*◌, ◌/◌, ◌<◌, ◌≤◌, nat_le, nat_lt, ◌&&◌, min, max}
use Rattle.std.proofs.Common.{true, false, if◌then◌else◌, inl, inr, List, [], ◌∷◌, length, get_or, ap, ap₂, subst}
use Rattle.std.proofs.Common.{arith, ◌%◌, Bool, ◌==◌, not, Option, Some, None, slice_get, option_map, refl, sym, ◌∙◌}
use Rattle.std.proofs.Common.{eqb-true}
use Rattle.std.proofs.lemmas.Bool.{le-leb, lt-ltb, cases_lt, and_parts}
use Rattle.law_model.specs.Common.{AreWindows, carried_in, lock_of, is_good, is_readable, IsStatuses, is_up, Scenario}
use Rattle.law_model.specs.Common.{member_of, kept_of, Table, Told, is_adding, is_ok, is_fail, in_use, acknowledged_by}
use Rattle.law_model.specs.Common.{heard, told_on, admit, exchange, exchanged, Source, change_by, change, after}
use Rattle.law_model.specs.Common.{cell_at, group_of, source_at, told_at, table_of, most_lines}
use Rattle.law_model.specs.declared.window_types.Window.{Window}
use Rattle.law_model.specs.declared.window_types.Carried.TheVariants.{Whole, Fails, Vanishes}
use Rattle.law_model.specs.members.Damage.{carried}
use Rattle.law_session.proofs.UpLineAndReadablePacketLaws.{readable-whole, good-whole, up-is}
use Rattle.law_walk.specs.Common.{IsClear}
use Rattle.law_walk.proofs.WholeRowDespiteFailureLaws.{clear-within, clear-read, clear-good}
use Rattle.law_service.specs.cost_of_failures.Cost.{FailsBy, first_hit, end_packet, Spoils}
use Rattle.law_model.specs.declared.script_types.Options.{Options}
use Rattle.std.proofs.lemmas.Option.{none-some, slice_get-map}
use Rattle.law_model.specs.declared.lcas_states.Standing.{Standing}
use Rattle.law_model.specs.declared.lcas_states.Standing.TheVariants.{Norm as normal, Dnu as unused}
use Rattle.law_model.specs.declared.lcas_states.Member.{Member}
use Rattle.law_model.specs.declared.lcas_states.Command.{Command}
use Rattle.law_model.specs.declared.lcas_states.Command.TheVariants.{Add as add, Remove as remove}
use Rattle.law_model.specs.source.Table.{is_add, turn}
use Rattle.law_session.specs.Feedback.{lines_of, table_before}
use Rattle.law_session.specs.TimedMembers.{IsUpWithWord}
use Rattle.law_session.proofs.DecisionStepMemberLaws.{heard-order}
use Rattle.law_session.proofs.AdmittedAndExchangedLineLaws.{Has, Has-standing, turned-normal, turned_member}
use Rattle.law_session.proofs.AdmittedAndExchangedLineLaws.{slice_get-turned}
use Rattle.law_session.proofs.ReturnCellAndLineWordLaws.{IsSession, cell-taken, says_count, known, none_kept-at}
use Rattle.law_session.proofs.ReturnCellAndLineWordLaws.{keep-at, full-after}
use Rattle.law_session.proofs.AddedLineWaitLaws.{after-change, told_at-table, kept-is}
use Rattle.law_session.proofs.FreshStatusLaws.{status-holds}
use Rattle.law_service.proofs.QuietStepAndKeptStatusLaws.{same-told, told_on-norm}

-- ---- Which packets and containers of a line that fails once, or stays clear, arrive.
-- a container of a window doesn't arrive whole
carried_in-damaged : (window : Window) (n : ℕ) → carried_in window n ≡ Whole → ⊥
carried_in-damaged window n e =
    elim (nat_lt (n + window.slip) window.end) as (λ b. (if b then Fails else Vanishes) ≡ Whole → ⊥) [
      | true ↦ λ e. cc
      | false ↦ λ e. cc
    ] e

carried-damaged : (windows : List Window) (place : ℕ) (window : Window) (n : ℕ) → place < length windows →
    get_or windows place window ≡ window → window.first ≤ n → n < window.end → carried windows n ≡ Whole → ⊥
unfolding carried
carried-damaged [] place window n inside is low high e = omega arith
carried-damaged (first ∷ windows) zero window n inside is low high e =
    let below : nat_le first.first n ≡ true = rw is (le-leb window.first n low) in
    let above : nat_lt n first.end ≡ true = rw is (lt-ltb n window.end high) in
    let here : carried_in first n ≡ Whole = rw (below, above) at e in
    carried_in-damaged first n here
carried-damaged (first ∷ windows) (suc place) window n inside is low high e =
    elim (nat_le first.first n && nat_lt n first.end)
    as (λ b. (if b then carried_in first n else carried windows n) ≡ Whole → ⊥) [
      | true ↦ λ here. carried_in-damaged first n here
      | false ↦ λ rest. carried-damaged windows place window n (omega arith) is low high rest
    ] e

-- a window of a list of windows damages some container
pub window-some : (windows : List Window) (from place : ℕ) (window : Window) → AreWindows from windows →
    place < length windows → get_or windows place window ≡ window → window.first < window.end
unfolding AreWindows
window-some [] from place window are inside is = absurd (omega arith)
window-some (first ∷ windows) from zero window are inside is =
    let sign = are.1 in
    let here : first.first < first.end = omega arith in
    subst (λ (w : Window). w.first < w.end) is here
window-some (first ∷ windows) from (suc place) window are inside is =
    window-some windows first.end place window are.2 (omega arith) is

module _ (windows : List Window) (window : Window) (from horizon : ℕ) (fails : FailsBy windows window from horizon)
    (some : window.first < window.end) where
  -- before the failure and behind it the line is clear
  pub before-clear : IsClear windows (from - 39) (min window.first horizon)
  before-clear k d inside =
      elim (fails.alone k d inside) [
        | inl same ↦ inl (let e = ap (λ (w : Window). w.first) same in omega arith)
        | inr other ↦ elim other [
          | inl later ↦ inl (omega arith)
          | inr sooner ↦ inr sooner
        ]
      ]

  pub behind-clear : IsClear windows window.end horizon
  behind-clear k d inside =
      let late = fails.late in
      elim (fails.alone k d inside) [
        | inl same ↦ inr (let e = ap (λ (w : Window). w.end) same in omega arith)
        | inr other ↦ elim other [
          | inl later ↦ inl later
          | inr sooner ↦ inr (omega arith)
        ]
      ]

  -- a packet that is read and ends in the failure or behind it begins behind it
  pub read-behind : (k : ℕ) → window.first ≤ 16 * k + 23 → is_readable (carried windows) k ≡ true →
      window.end ≤ 16 * k
  read-behind k late read =
      elim (cases_lt (16 * k) window.end) [
        | inr behind ↦ behind
        | inl before ↦
            let whole = (readable-whole (carried windows) k).0 read in
            let n : ℕ = max (16 * k) window.first in
            absurd (carried-damaged windows fails.stands.0 window n fails.stands.1 fails.stands.2
            (omega arith) (omega arith) (whole n (omega arith) (omega arith)))
      ]

  -- a row that the failure spoils
  spoils-good : (t : ℕ) → window.first ≤ t → t < 16 * end_packet window.end + 2 → 24 ≤ t →
      is_good (carried windows) t ≡ true → ⊥
  spoils-good t low high late good =
      let whole = ((good-whole (carried windows) t).0 good).1 in
      let n : ℕ = max (16 * ((t - 2) / 16)) window.first in
      carried-damaged windows fails.stands.0 window n fails.stands.1 fails.stands.2
      (omega arith) (omega arith) (whole n (omega arith) (omega arith))

  pub spoils-arrives : (t : ℕ) → 24 ≤ t → Spoils window t →
      (is_readable (carried windows) ((t - 24) / 16) && is_good (carried windows) t) ≡ true → ⊥
  spoils-arrives t late (inl near) e =
      spoils-good t near.0 near.1 late
      (and_parts (is_readable (carried windows) ((t - 24) / 16)) (is_good (carried windows) t) e).1
  spoils-arrives t late (inr governed) e =
      let low = governed.0 in
      let high = governed.1 in
      let behind = read-behind ((t - 24) / 16) (omega arith)
      (and_parts (is_readable (carried windows) ((t - 24) / 16)) (is_good (carried windows) t) e).0 in
      omega arith

  -- and one that it doesn't
  pub spared-arrives : (t : ℕ) → 24 ≤ t → from ≤ t → t < horizon → (Spoils window t → ⊥) →
      (is_readable (carried windows) ((t - 24) / 16) && is_good (carried windows) t) ≡ true
  spared-arrives t late low high spared =
      ap₂ (λ a b. a && b)
      (elim (cases_lt t (16 * first_hit window.first + 24)) [
        | inl before ↦ clear-read windows ((t - 24) / 16)
            (clear-within windows (from - 39) (16 * ((t - 24) / 16)) (min window.first horizon)
            (16 * ((t - 24) / 16) + 24)
            (omega arith) (omega arith) before-clear)
        | inr since ↦ elim (cases_lt t (16 * end_packet window.end + 24)) [
          | inl during ↦ absurd (spared (inr (since, during)))
          | inr behind ↦ clear-read windows ((t - 24) / 16)
              (clear-within windows window.end (16 * ((t - 24) / 16)) horizon (16 * ((t - 24) / 16) + 24)
              (omega arith) (omega arith) behind-clear)
        ]
      ])
      (elim (cases_lt t window.first) [
        | inl before ↦ clear-good windows t (omega arith)
            (clear-within windows (from - 39) (lock_of t) (min window.first horizon) (t + 1) (omega arith)
            (omega arith)
            before-clear)
        | inr since ↦ elim (cases_lt t (16 * end_packet window.end + 2)) [
          | inl during ↦ absurd (spared (inl (since, during)))
          | inr behind ↦ clear-good windows t (omega arith)
              (clear-within windows window.end (lock_of t) horizon (t + 1) (omega arith) (omega arith) behind-clear)
        ]
      ])

pub spoils-or : (window : Window) (t : ℕ) → Spoils window t ⊎ (Spoils window t → ⊥)
spoils-or window t =
    elim (cases_lt t (16 * end_packet window.end + 24)) [
      | inr behind ↦ inr (λ spoils. elim spoils [
        | inl near ↦ let a = near.1 in omega arith
        | inr far ↦ let a = far.1 in
            omega arith
      ])
      | inl during ↦ elim (cases_lt t (16 * first_hit window.first + 24)) [
        | inr since ↦ inl (inr (since, during))
        | inl before ↦ elim (cases_lt t window.first) [
          | inl sooner ↦ inr (λ spoils. elim spoils [
            | inl near ↦ let a = near.0 in omega arith
            | inr far ↦ let a = far.0 in omega arith
          ])
          | inr later ↦ elim (cases_lt t (16 * end_packet window.end + 2)) [
            | inl short ↦ inl (inl (later, short))
            | inr long ↦ inr (λ spoils. elim spoils [
              | inl near ↦ let a = near.1 in omega arith
              | inr far ↦ let a = far.0 in omega arith
            ])
          ]
        ]
      ]
    ]

-- ---- When a line that fails once is up: not from the packet on with which the hold-off runs out until it is behind the
-- failure, and once it was read for the restore. And which packets say a status of an SQ.
-- a line that was read for the restore is up
pub read-up : (options : Options) (read : ℕ → Bool) (n k : ℕ) → ((j : ℕ) → n ≤ j → j ≤ k → read j ≡ true) →
    n + options.restore ≤ k → is_up options read k ≡ true
read-up options read n k each long =
    (up-is options read k).1 (
      k,
      record {
        past = omega arith;
        restored = λ j low high. each j (omega arith) high;
        held = λ j later whole. absurd (omega arith);
      },
    )

-- a packet at which a line is up that fails ends behind the failure, once the hold-off has run out
pub up-behind : (options : Options) (windows : List Window) (window : Window) (from horizon : ℕ) →
    FailsBy windows window from horizon → window.first < window.end → (k : ℕ) →
    first_hit window.first + options.holdoff ≤ k → is_up options (is_readable (carried windows)) k ≡ true →
    window.end ≤ 16 * k
up-behind options windows window from horizon fails some k late up =
    let read = is_readable (carried windows) in
    elim (cases_lt (16 * k) window.end) [
      | inr behind ↦ behind
      | inl during ↦
          let since = (up-is options read k).0 up in
          let is = since.1 in
          let past = is.past in
          elim (cases_lt since.0 (first_hit window.first)) [
            | inr hit ↦
                let behind = read-behind windows window from horizon fails some since.0 (omega arith)
                (is.restored since.0 (omega arith) (omega arith)) in
                absurd (omega arith)
            | inl before ↦
                let found = is.held (k - options.holdoff) (omega arith) (omega arith) in
                let low = found.1 in
                let high = found.2 in
                let behind = read-behind windows window from horizon fails some found.0 (omega arith) found.3 in
                absurd (omega arith)
          ]
    ]

-- the last packet up to one that says a status of the same SQs as another
pub latest : (statuses k m : ℕ) → IsStatuses statuses → k ≤ m →
    (n : ℕ) × (k ≤ n) × (n ≤ m) × (m < n + statuses) × (k % statuses ≡ n % statuses)
latest statuses k m (inl short) low = rw short (
  k + 16 * ((m - k) / 16),
  omega arith,
  omega arith,
  omega arith,
  omega arith,
)
latest statuses k m (inr long) low = rw long (
  k + 32 * ((m - k) / 32),
  omega arith,
  omega arith,
  omega arith,
  omega arith,
)

-- the next one from a packet on that says those of a group
abbrev pub next_in : ℕ → ℕ → ℕ → ℕ
next_in statuses from group = from + (group + statuses - from % statuses) % statuses

pub in-turn : (statuses from group : ℕ) → IsStatuses statuses → group < 16 →
    (from ≤ next_in statuses from group) × (next_in statuses from group < from + statuses) ×
    (next_in statuses from group % statuses ≡ group)
in-turn statuses from group (inl short) small = rw short (omega arith, omega arith, omega arith)
in-turn statuses from group (inr long) small = rw long (omega arith, omega arith, omega arith)

pub soonest : (statuses from group k : ℕ) → IsStatuses statuses → from ≤ k → group ≡ k % statuses →
    next_in statuses from group ≤ k
soonest statuses from group k (inl short) low same =
    let e : group ≡ k % 16 = rw short at same in rw short (omega arith)
soonest statuses from group k (inr long) low same =
    let e : group ≡ k % 32 = rw long at same in rw long (omega arith)

-- ---- How long a line stays in use while nothing tells the source of its failure.
-- ---- a line that isn't in ADD stays where it is in one step, but for what is kept of it
admit_on-old : (adds ok : Bool) (member : Member) (rest order : List Member) (line : ℕ) (standing : Standing) →
    is_add standing ≡ false → is_adding member ≡ adds → Has (member ∷ order) 0 line standing →
    Has (if not adds then member ∷ rest else if ok then in_use member ∷ rest else member ∷ order) 0 line standing
admit_on-old false ok member rest order line standing old e has = has
admit_on-old true ok member rest order line standing old e has =
    absurd (let other : is_adding member ≡ false = ap is_add (Has-standing member line standing has) ∙ old in cc)

admit_on-rest : (adds ok : Bool) (member : Member) (rest order : List Member) (sq line : ℕ) (standing : Standing) →
    Has order sq line standing → Has rest sq line standing →
    Has (if not adds then member ∷ rest else if ok then in_use member ∷ rest else member ∷ order) (suc sq) line standing
admit_on-rest false ok member rest order sq line standing has on = on
admit_on-rest true true member rest order sq line standing has on = on
admit_on-rest true false member rest order sq line standing has on = has

admit-old : (kept : ℕ → Option Bool) (base : ℕ) (order : List Member) (sq line : ℕ) (standing : Standing) →
    is_add standing ≡ false → Has order sq line standing → Has (admit kept base order) sq line standing
unfolding admit
admit-old kept base [] sq line standing old has = has
admit-old kept base (member ∷ order) zero line standing old has =
    admit_on-old (is_adding member) (is_ok (kept base)) member (admit kept (base + 1) order) order line standing old
    refl has
admit-old kept base (member ∷ order) (suc sq) line standing old has =
    admit_on-rest (is_adding member) (is_ok (kept base)) member (admit kept (base + 1) order) order sq line standing has
    (admit-old kept (base + 1) order sq line standing old has)

turn-unused : (kept : Option Bool) → (kept ≡ Some true → ⊥) → turn kept unused ≡ unused
turn-unused None other = refl
turn-unused (Some false) other = refl
turn-unused (Some true) other = absurd (other refl)

pub told_on-unused : (table : Table) (sq line : ℕ) → (kept_of table sq ≡ Some true → ⊥) →
    Has table.order sq line unused → Has (told_on table).order sq line unused
told_on-unused table sq line other has =
    let e : 0 + sq ≡ sq = omega arith in
    let order = admit (kept_of table) 0 table.order in
    let there : Has order sq line unused = admit-old (kept_of table) 0 table.order sq line unused refl has in
    let at : slice_get (told_on table).order sq ≡ option_map (turned_member (kept_of table sq)) (slice_get order sq) =
    rw e at (slice_get-turned (kept_of table) 0 order sq) in
    at ∙ ap (option_map (turned_member (kept_of table sq))) there
    ∙ ap (λ standing. Some (member_of line standing)) (turn-unused (kept_of table sq) other)

told_on-normal : (table : Table) (sq line : ℕ) → is_fail (kept_of table sq) ≡ false →
    Has table.order sq line normal → Has (told_on table).order sq line normal
told_on-normal table sq line fine has =
    let e : 0 + sq ≡ sq = omega arith in
    turned-normal (kept_of table) 0 (admit (kept_of table) 0 table.order) sq line (rw e fine)
    (admit-old (kept_of table) 0 table.order sq line normal refl has)

-- ---- no FAIL is kept of a line in NORM
abbrev IsNew : Source → Table → Type 0
IsNew source table = ((change source table).table ≡ table)
    ⊎ ((sq : ℕ) → kept_of (change source table).table sq ≡ None)

exchanged-new : (found : Option (List Member)) (table : Table) →
    (exchanged found table ≡ table) ⊎ ((sq : ℕ) → kept_of (exchanged found table) sq ≡ None)
exchanged-new None table = inl refl
exchanged-new (Some order) table = inr none_kept-at

change_by-new : (commands : List Command) (source : Source) (table : Table) →
    ((change_by commands source table).table ≡ table)
    ⊎ ((sq : ℕ) → kept_of (change_by commands source table).table sq ≡ None)
change_by-new [] source table = exchanged-new (exchange (kept_of table) 0 table.order) table
change_by-new (add line ∷ commands) source table = inr none_kept-at
change_by-new (remove line ∷ commands) source table = inr none_kept-at

change-new : (source : Source) (table : Table) → IsNew source table
change-new source table =
    elim table.acknowledged as (λ b.
    ((if b then change_by source.waiting source table
    else record { table = table; planned = source.planned; waiting = source.waiting }).table ≡ table)
    ⊎ ((sq : ℕ) → kept_of (if b then change_by source.waiting source table
    else record { table = table; planned = source.planned; waiting = source.waiting }).table sq ≡ None)) [
      | true ↦ change_by-new source.waiting source table
      | false ↦ inl refl
    ]

fail-of : (status : Option Bool) → ((ok : Bool) → status ≡ Some ok → ok ≡ true) → is_fail status ≡ false
fail-of None fine = refl
fail-of (Some true) fine = refl
fail-of (Some false) fine = absurd (let e = fine false refl in cc)

opening-none : (scenario : Scenario) (cells : List (Option Told)) (sq line : ℕ) →
    Has (table_before scenario cells zero).order sq line normal → ⊥
unfolding after
opening-none scenario cells sq line has = none-some (member_of line normal) has

no-fail : (scenario : Scenario) (cells : List (Option Told)) (j sq line : ℕ) →
    Has (table_before scenario cells j).order sq line normal →
    is_fail (kept_of (table_before scenario cells j) sq) ≡ false
no-fail scenario cells zero sq line has = absurd (opening-none scenario cells sq line has)
no-fail scenario cells (suc j) sq line has =
    let next : table_of scenario cells j ≡ (change (source_at scenario cells j) (told_at scenario cells j)).table =
    ap (λ (source : Source). source.table) (after-change scenario cells j) in
    let table = heard ((j - scenario.lag) % scenario.options.statuses) (cell_at scenario cells j)
    (table_before scenario cells j) in
    elim (change-new (source_at scenario cells j) (told_at scenario cells j)) [
      | inr new ↦ ap is_fail (ap (λ (t : Table). kept_of t sq) next ∙ new sq)
      | inl same ↦
          let told : table_of scenario cells j ≡ told_on table =
          next ∙ same ∙ told_at-table scenario cells j in
          fail-of (kept_of (table_of scenario cells j) sq)
          (λ ok e. told_on-norm table sq line ok (subst (λ (t : Table). Has t.order sq line normal) told has)
          (sym (ap (λ (t : Table). kept_of t sq) told) ∙ e))
    ]

-- ---- a status that a step hears of a line
module _ (scenario : Scenario) (cells : List (Option Told)) (session : IsSession scenario cells)
    (lag : 0 < scenario.lag) where
  -- it is OK if the line is up and has a word at each packet of its group that the step can take
  heard-fine : (j sq line : ℕ) → sq < most_lines → Has (table_before scenario cells j).order sq line normal →
      ((k : ℕ) → k + scenario.lag ≡ j → sq / 8 ≡ group_of scenario k → IsUpWithWord scenario cells line k) →
      is_fail (kept_of (heard ((j - scenario.lag) % scenario.options.statuses) (cell_at scenario cells j)
      (table_before scenario cells j)) sq)
      ≡ false
  heard-fine j sq line small has read =
      let table = table_before scenario cells j in
      let group = (j - scenario.lag) % scenario.options.statuses in
      let before = no-fail scenario cells j sq line has in
      elim (cell_at scenario cells j) as (λ cell. cell_at scenario cells j ≡ cell →
      is_fail (kept_of (heard group cell table) sq) ≡ false) [
        | None ↦ λ e. before
        | Some told ↦ λ e. elim (told.rs_ack == table.count % 2)
            as (λ b. (told.rs_ack == table.count % 2) ≡ b →
            is_fail (kept_of (if b then acknowledged_by group (Some told) table else table) sq) ≡ false) [
              | false ↦ λ bit. before
              | true ↦ λ bit.
                  let taken = cell-taken scenario cells j told e in
                  let k = j - scenario.lag in
                  let at : j ≡ k + scenario.lag = omega (arith, taken.0) in
                  let whole = says_count scenario cells session lag j k at told taken.1
                  (eqb-true told.rs_ack (table.count % 2) bit)
                  (known scenario cells session lag j k (omega (arith, at))) in
                  let packet = session k told taken.1 in
                  let full = full-after scenario cells j in
                  let there : slice_get (lines_of table.order) sq ≡ Some line =
                  slice_get-map (λ member. member.line) table.order sq
                  ∙ ap (option_map (λ member. member.line)) has in
                  ap is_fail (keep-at group told.oks table.statuses sq (omega arith))
                  ∙ elim (sq / 8 == group) as (λ b. (sq / 8 == group) ≡ b →
                  is_fail (if b then slice_get told.oks (sq % 8) else kept_of table sq) ≡ false) [
                    | false ↦ λ other. before
                    | true ↦ λ same.
                        let in_group = eqb-true (sq / 8) group same in
                        let seen = read k (sym at) in_group in
                        let says = status-holds scenario cells j k sq line seen.1.0 (omega (arith, at, lag)) whole there
                        seen.0 seen.1.1 in
                        ap is_fail (ap (λ t. slice_get t.oks (sq % 8)) packet
                        ∙ kept-is scenario cells true k sq in_group says)
                  ] refl
            ] refl
      ] refl

  -- and so it stays in NORM for some steps that make no change
  pub stays-normal : (first sq line d : ℕ) → sq < most_lines → Has (table_before scenario cells first).order sq line normal →
      ((k : ℕ) → first ≤ k → k < d + first →
      (table_of scenario cells k).count ≡ (table_before scenario cells k).count) →
      ((k : ℕ) → first ≤ k + scenario.lag → k + scenario.lag < d + first → sq / 8 ≡ group_of scenario k →
      IsUpWithWord scenario cells line k) →
      Has (table_before scenario cells (d + first)).order sq line normal
  stays-normal first sq line zero small has still read = let e : zero + first ≡ first = omega arith in rw e has
  stays-normal first sq line (suc d) small has still read =
      let e : suc d + first ≡ suc (d + first) = omega arith in
      let j = d + first in
      let before = stays-normal first sq line d small has (λ k low high. still k low (omega arith))
      (λ k low high group. read k low (omega arith) group) in
      let table = heard ((j - scenario.lag) % scenario.options.statuses) (cell_at scenario cells j)
      (table_before scenario cells j) in
      let same : table_of scenario cells j ≡ told_on table =
      same-told scenario cells j (still j (omega arith) (omega arith)) ∙ told_at-table scenario cells j in
      let fine = heard-fine j sq line small before (λ k at group. read k (omega arith) (omega arith) group) in
      let orders = heard-order ((j - scenario.lag) % scenario.options.statuses) (cell_at scenario cells j)
      (table_before scenario cells j) in
      let there : Has (table_of scenario cells j).order sq line normal =
      subst (λ (t : Table). Has t.order sq line normal) (sym same)
      (told_on-normal table sq line fine
      (subst (λ (order : List Member). Has order sq line normal) (sym orders) before)) in
      rw e there
