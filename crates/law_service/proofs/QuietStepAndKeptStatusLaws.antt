-- Decision steps without a change: which status is kept of a line, how the line stands, and when no change is made.
use Rattle.std.proofs.Common.{◌≡◌, ℕ, ◌+◌, Bool, true, false, if◌then◌else◌, List, [], ◌∷◌, Option, Some, None}
use Rattle.std.proofs.Common.{slice_get, option_map, refl, sym, ◌∙◌, ap, arith, ◌⊎◌, zero, suc, ◌-◌, ◌/◌, ◌%◌, ◌<◌}
use Rattle.std.proofs.Common.{◌≤◌, ◌==◌, inl, inr, slice_index_or, subst, ◌*◌, nat_lt, nat_le, not, map, filter}
use Rattle.std.proofs.Common.{length, All}
use Rattle.std.proofs.lemmas.Option.{none-some, slice_get-map}
use Rattle.law_model.specs.Common.{Scenario, member_of, kept_of, Table, Told, admit, turn, told_on, exchange}
use Rattle.law_model.specs.Common.{exchanged, Source, change_by, change, source_at, told_at, table_of, is_heard}
use Rattle.law_model.specs.Common.{is_for, is_ok, is_fail, acknowledged_by, heard, cell_at, status, return_packet}
use Rattle.law_model.specs.Common.{IsStatuses, group_of, is_line_up, word, Leg, DueCommand, scenario_by, orders_of}
use Rattle.law_model.specs.Common.{orders_at, lands_at, take_out, asked_all, after, first_of, most_lines}
use Rattle.law_model.specs.declared.lcas_states.Standing.{Standing}
use Rattle.law_model.specs.declared.lcas_states.Member.{Member}
use Rattle.law_model.specs.declared.lcas_states.Command.{Command}
use Rattle.law_model.specs.declared.lcas_states.Standing.TheVariants.{Add as adding, Norm as normal, Dnu as unused}
use Rattle.law_model.specs.declared.lcas_states.Command.TheVariants.{Add as add, Remove as remove}
use Rattle.law_session.specs.Feedback.{table_before, lines_of}
use Rattle.law_session.proofs.AdmittedAndExchangedLineLaws.{Has, Has-standing, turned_member, slice_get-turned, Known}
use Rattle.law_session.proofs.AdmittedAndExchangedLineLaws.{IsThere, turned-adding, exchange-there_plain, adding_of}
use Rattle.law_session.proofs.AddedLineWaitLaws.{after-change, told_at-count, told_at-table, heard-for, found_line}
use Rattle.law_session.proofs.AddedLineWaitLaws.{cell_at-taken, sixteen, kept-is, told_on-adding}
use Rattle.std.proofs.lemmas.Bool.{cases_Bool, cases_lt, eq-eqb, ne_eqb, le-ltb, lt-leb, and_left, and_right}
use Rattle.law_session.proofs.DecisionStepMemberLaws.{heard-order}
use Rattle.law_session.specs.LineInUse.{known_by, round_end}
use Rattle.law_session.proofs.ReturnCellAndLineWordLaws.{said-heard, stays, keep-at, full-after}
use Rattle.law_session.proofs.FreshStatusLaws.{status-fails, status-holds}
use Rattle.law_model.specs.source.Table.{is_add}
use Rattle.law_walk.specs.Common.{session_of}
use Rattle.law_service.specs.cost_of_failures.Cost.{first_hit, table_at}
use Rattle.law_service.specs.cost_of_failures.Settled.{IsSettled, MakesNoChange}

-- ---- What a decision step without a change makes of a line: its table, and its standing by the status that is kept.
-- ---- a step that counts no change makes none
exchanged-same : (found : Option (List Member)) (table : Table) → (exchanged found table).count ≡ table.count →
    exchanged found table ≡ table
exchanged-same None table same = refl
exchanged-same (Some order) table same = absurd (omega arith)

change_by-same : (commands : List Command) (source : Source) (table : Table) →
    (change_by commands source table).table.count ≡ table.count →
    (change_by commands source table).table ≡ table
change_by-same [] source table same = exchanged-same (exchange (kept_of table) 0 table.order) table same
change_by-same (add line ∷ commands) source table same = absurd (omega arith)
change_by-same (remove line ∷ commands) source table same = absurd (omega arith)

change-same : (source : Source) (table : Table) → (change source table).table.count ≡ table.count →
    (change source table).table ≡ table
change-same source table same =
    elim table.acknowledged as (λ b.
    (if b then change_by source.waiting source table
    else record { table = table; planned = source.planned; waiting = source.waiting }).table.count ≡ table.count →
    (if b then change_by source.waiting source table
    else record { table = table; planned = source.planned; waiting = source.waiting }).table ≡ table) [
      | true ↦ λ same. change_by-same source.waiting source table same
      | false ↦ λ same. refl
    ] same

pub same-told : (scenario : Scenario) (cells : List (Option Told)) (j : ℕ) →
    (table_of scenario cells j).count ≡ (table_before scenario cells j).count →
    table_of scenario cells j ≡ told_at scenario cells j
same-told scenario cells j same =
    let next : table_of scenario cells j ≡ (change (source_at scenario cells j) (told_at scenario cells j)).table =
    ap (λ (source : Source). source.table) (after-change scenario cells j) in
    let count : (change (source_at scenario cells j) (told_at scenario cells j)).table.count
    ≡ (told_at scenario cells j).count =
    sym (ap (λ (table : Table). table.count) next) ∙ same ∙ sym (told_at-count scenario cells j) in
    next ∙ change-same (source_at scenario cells j) (told_at scenario cells j) count

-- ---- the standing of a line by its status
turn-norm : (ok : Bool) (standing : Standing) → turn (Some ok) standing ≡ normal → ok ≡ true
turn-norm true standing e = refl
turn-norm false adding e = absurd cc
turn-norm false normal e = absurd cc
turn-norm false unused e = absurd cc

turn-dnu : (standing : Standing) → turn (Some true) standing ≡ unused → ⊥
turn-dnu adding e = cc
turn-dnu normal e = cc
turn-dnu unused e = cc

found-norm : (ok : Bool) (found : Option Member) (line : ℕ) →
    option_map (turned_member (Some ok)) found ≡ Some (member_of line normal) → ok ≡ true
found-norm ok None line e = absurd (none-some (member_of line normal) e)
found-norm ok (Some member) line e =
    turn-norm ok member.standing (Has-standing (turned_member (Some ok) member) line normal e)

found-dnu : (found : Option Member) (line : ℕ) →
    option_map (turned_member (Some true)) found ≡ Some (member_of line unused) → ⊥
found-dnu None line e = none-some (member_of line unused) e
found-dnu (Some member) line e =
    turn-dnu member.standing (Has-standing (turned_member (Some true) member) line unused e)

turned-at : (table : Table) (sq : ℕ) (ok : Bool) → kept_of table sq ≡ Some ok →
    slice_get (told_on table).order sq
    ≡ option_map (turned_member (Some ok)) (slice_get (admit (kept_of table) 0 table.order) sq)
turned-at table sq ok e =
    let start : 0 + sq ≡ sq = omega arith in
    let at : slice_get (told_on table).order sq
    ≡ option_map (turned_member (kept_of table sq)) (slice_get (admit (kept_of table) 0 table.order) sq) =
    rw start at (slice_get-turned (kept_of table) 0 (admit (kept_of table) 0 table.order) sq) in
    at ∙ ap (λ status. option_map (turned_member status) (slice_get (admit (kept_of table) 0 table.order) sq)) e

-- a line in NORM has no FAIL, and one in DNU no OK
pub told_on-norm : (table : Table) (sq line : ℕ) (ok : Bool) → Has (told_on table).order sq line normal →
    kept_of table sq ≡ Some ok → ok ≡ true
told_on-norm table sq line ok has e =
    found-norm ok (slice_get (admit (kept_of table) 0 table.order) sq) line (sym (turned-at table sq ok e) ∙ has)

pub told_on-dnu : (table : Table) (sq line : ℕ) → Has (told_on table).order sq line unused →
    kept_of table sq ≡ Some true → ⊥
told_on-dnu table sq line has e =
    found-dnu (slice_get (admit (kept_of table) 0 table.order) sq) line (sym (turned-at table sq true e) ∙ has)

-- ---- While no change is made and packets are heard: which status is kept of a line, and how it stands by it.
-- from step first to step last no change is made, each packet from packet first on comes back that these steps take,
-- and each line that has an SQ has a word there
pub record IsQuiet (scenario : Scenario) (cells : List (Option Told)) (first last : ℕ) : Type 0 where
  pub lag : 0 < scenario.lag
  pub statuses : IsStatuses scenario.options.statuses
  pub comes : (k : ℕ) → first ≤ k → k + scenario.lag ≤ last →
      slice_index_or cells k None ≡ Some (return_packet scenario cells k)
  pub hears : (k : ℕ) → first ≤ k → k + scenario.lag ≤ last → is_heard scenario k ≡ true
  pub still : (k : ℕ) → first ≤ k → k ≤ last →
      (table_of scenario cells k).count ≡ (table_before scenario cells first).count
  pub words : (sq line k : ℕ) → first ≤ k → k ≤ last →
      slice_get (lines_of (table_before scenario cells first).order) sq ≡ Some line →
      (said : ℕ) × (word scenario cells line k ≡ Some said)

-- ---- groups in turn
other-group : (statuses k d group : ℕ) → IsStatuses statuses → group ≡ k % statuses → 0 < d → d < statuses →
    group ≡ (d + k) % statuses → ⊥
other-group statuses k d group (inl short) same from near there =
    let e : group ≡ k % 16 = rw short at same in
    let f : group ≡ (d + k) % 16 = rw short at there in
    omega arith
other-group statuses k d group (inr long) same from near there =
    let e : group ≡ k % 32 = rw long at same in
    let f : group ≡ (d + k) % 32 = rw long at there in
    omega arith

-- the last packet up to one that says the statuses of a group
last-of : (statuses first n group : ℕ) → IsStatuses statuses → first + statuses ≤ n + 1 → group < 16 →
    (k : ℕ) × (first ≤ k) × (k ≤ n) × (n < k + statuses) × (group ≡ k % statuses)
last-of statuses first n group (inl short) low small = rw short (
  n - (n + 16 - group) % 16,
  omega arith,
  omega arith,
  omega arith,
  omega arith,
)
last-of statuses first n group (inr long) low small = rw long (
  n - (n + 32 - group) % 32,
  omega arith,
  omega arith,
  omega arith,
  omega arith,
)

ok_or_fail : (ok : Bool) → (is_ok (Some ok) ≡ true) ⊎ (is_fail (Some ok) ≡ true)
ok_or_fail true = inl refl
ok_or_fail false = inr refl

-- an exchange that is there is made, or a command is carried out
exchanged-there : (found : Option (List Member)) (table : Table) → IsThere found →
    (exchanged found table).count ≡ table.count → ⊥
exchanged-there None table there same = there
exchanged-there (Some order) table there same = omega arith

change_by-there : (commands : List Command) (source : Source) (table : Table) →
    IsThere (exchange (kept_of table) 0 table.order) → (change_by commands source table).table.count ≡ table.count → ⊥
change_by-there [] source table there same =
    exchanged-there (exchange (kept_of table) 0 table.order) table there same
change_by-there (add line ∷ commands) source table there same = omega arith
change_by-there (remove line ∷ commands) source table there same = omega arith

change-there : (source : Source) (table : Table) → table.acknowledged ≡ true →
    IsThere (exchange (kept_of table) 0 table.order) → (change source table).table.count ≡ table.count → ⊥
change-there source table e there same =
    elim table.acknowledged as (λ b. b ≡ true →
    (if b then change_by source.waiting source table
    else record { table = table; planned = source.planned; waiting = source.waiting }).table.count ≡ table.count → ⊥) [
      | true ↦ λ e same. change_by-there source.waiting source table there same
      | false ↦ λ e same. cc
    ] e same

-- the status that a packet that is heard says of a line of its table that has a word there
pub status-up : (scenario : Scenario) (cells : List (Option Told)) (k sq line : ℕ) → is_heard scenario k ≡ true →
    slice_get (lines_of (table_of scenario cells k).order) sq ≡ Some line →
    (last : ℕ) × (word scenario cells line k ≡ Some last) → status scenario cells k sq ≡ is_line_up scenario line k
status-up scenario cells k sq line hears there spoke =
    let whole = said-heard scenario cells k hears in
    elim (cases_Bool (is_line_up scenario line k)) [
      | inl up ↦ status-holds scenario cells (suc k) k sq line spoke.0 (omega arith) whole there up spoke.1 ∙ sym up
      | inr down ↦ status-fails scenario cells (suc k) k sq line (omega arith) whole there down ∙ sym down
    ]

module _ (scenario : Scenario) (cells : List (Option Told)) (first last : ℕ)
    (quiet : IsQuiet scenario cells first last) where
  pub count-before : (j : ℕ) → first ≤ j → j ≤ suc last →
      (table_before scenario cells j).count ≡ (table_before scenario cells first).count
  count-before zero low high = let e : first ≡ zero = omega arith in rw e refl
  count-before (suc j) low high =
      elim (cases_lt j first) [
        | inl sooner ↦ let e : first ≡ suc j = omega arith in rw e refl
        | inr later ↦ quiet.still j later (omega arith)
      ]

  table-told : (j : ℕ) → first ≤ j → j ≤ last → table_of scenario cells j ≡ told_at scenario cells j
  table-told j low high =
      same-told scenario cells j (quiet.still j low high ∙ sym (count-before j low (omega arith)))

  pub lines-before : (j : ℕ) → first ≤ j → j ≤ suc last →
      lines_of (table_before scenario cells j).order ≡ lines_of (table_before scenario cells first).order
  lines-before j low high =
      let place : j - first + first ≡ j = omega arith in
      let stay : (table_before scenario cells j).count ≡ (table_before scenario cells first).count →
      lines_of (table_before scenario cells j).order ≡ lines_of (table_before scenario cells first).order =
      rw place at (stays scenario cells first (j - first)) in
      stay (count-before j low high)

  -- ---- a status that is kept
  is-for : (k : ℕ) → first ≤ k → k + scenario.lag ≤ last →
      is_for (table_before scenario cells (k + scenario.lag)).count (Some (return_packet scenario cells k)) ≡ true
  is-for k low high =
      let lag = quiet.lag in
      let count = said-heard scenario cells k (quiet.hears k low high)
      ∙ quiet.still k low (omega arith)
      ∙ sym (count-before (k + scenario.lag) (omega arith) (omega arith)) in
      eq-eqb _ _ (ap (λ n. n % 2) count)

  heard-table : (k : ℕ) → first ≤ k → k + scenario.lag ≤ last →
      table_of scenario cells (k + scenario.lag)
      ≡ told_on (acknowledged_by (group_of scenario k) (Some (return_packet scenario cells k))
      (table_before scenario cells (k + scenario.lag)))
  heard-table k low high =
      let lag = quiet.lag in
      let back : k + scenario.lag - scenario.lag ≡ k = omega arith in
      let cell = cell_at-taken scenario cells (k + scenario.lag) (return_packet scenario cells k) (omega arith)
      (rw back (quiet.comes k low high)) in
      let table = table_before scenario cells (k + scenario.lag) in
      table-told (k + scenario.lag) (omega arith) high
      ∙ told_at-table scenario cells (k + scenario.lag)
      ∙ ap (λ n. told_on (heard (n % scenario.options.statuses) (cell_at scenario cells (k + scenario.lag)) table)) back
      ∙ ap (λ told. told_on (heard (group_of scenario k) told table)) cell
      ∙ ap told_on (heard-for (group_of scenario k) (Some (return_packet scenario cells k)) table (is-for k low high))

  pub kept-step : (k sq : ℕ) → first ≤ k → k + scenario.lag ≤ last → sq < most_lines →
      kept_of (table_of scenario cells (k + scenario.lag)) sq
      ≡ (if sq / 8 == group_of scenario k then slice_get (return_packet scenario cells k).oks (sq % 8)
      else kept_of (table_before scenario cells (k + scenario.lag)) sq)
  kept-step k sq low high small =
      let full = full-after scenario cells (k + scenario.lag) in
      ap (λ (table : Table). kept_of table sq) (heard-table k low high)
      ∙ keep-at (group_of scenario k) (return_packet scenario cells k).oks
      (table_before scenario cells (k + scenario.lag)).statuses sq (omega arith)

  -- the status that packet k says of a line of the order
  status-said : (k sq line : ℕ) → first ≤ k → k + scenario.lag ≤ last →
      slice_get (lines_of (table_before scenario cells first).order) sq ≡ Some line →
      status scenario cells k sq ≡ is_line_up scenario line k
  status-said k sq line low high has =
      let lag = quiet.lag in
      status-up scenario cells k sq line (quiet.hears k low high)
      (ap (λ lines. slice_get lines sq) (lines-before (suc k) (omega arith) (omega arith)) ∙ has)
      (quiet.words sq line k low (omega arith) has)

  kept-first : (k sq line : ℕ) → first ≤ k → k + scenario.lag ≤ last → sq < most_lines → sq / 8 ≡ group_of scenario k →
      slice_get (lines_of (table_before scenario cells first).order) sq ≡ Some line →
      kept_of (table_of scenario cells (k + scenario.lag)) sq ≡ Some (is_line_up scenario line k)
  kept-first k sq line low high small group has =
      let says = kept-is scenario cells (is_line_up scenario line k) k sq group
      (status-said k sq line low high has) in
      kept-step k sq low high small ∙ rw (eq-eqb (sq / 8) (group_of scenario k) group) says

  -- and it is kept until the next packet that says one of this SQ
  kept-on : (k sq line d : ℕ) → first ≤ k → d + k + scenario.lag ≤ last → d < scenario.options.statuses → sq < most_lines →
      sq / 8 ≡ group_of scenario k →
      slice_get (lines_of (table_before scenario cells first).order) sq ≡ Some line →
      kept_of (table_of scenario cells (d + k + scenario.lag)) sq ≡ Some (is_line_up scenario line k)
  kept-on k sq line zero low high near small group has =
      let e : zero + k + scenario.lag ≡ k + scenario.lag = omega arith in
      rw e (kept-first k sq line low (omega arith) small group has)
  kept-on k sq line (suc d) low high near small group has =
      let e : suc d + k + scenario.lag ≡ suc (d + k + scenario.lag) = omega arith in
      let rest = kept-on k sq line d low (omega arith) (omega arith) small group has in
      let other : (sq / 8 == group_of scenario (suc d + k)) ≡ false =
      ne_eqb (sq / 8) (group_of scenario (suc d + k))
      (other-group scenario.options.statuses k (suc d) (sq / 8) quiet.statuses group (omega arith) near) in
      let step = kept-step (suc d + k) sq (omega arith) high small in
      let same : kept_of (table_of scenario cells (suc d + k + scenario.lag)) sq
      ≡ kept_of (table_before scenario cells (suc d + k + scenario.lag)) sq =
      rw other at step in
      same ∙ rw e rest

  -- ---- how a line stands
  pub Has-in_lines : (j sq line : ℕ) (standing : Standing) → first ≤ suc j → j ≤ last →
      Has (table_of scenario cells j).order sq line standing →
      slice_get (lines_of (table_before scenario cells first).order) sq ≡ Some line
  Has-in_lines j sq line standing low high has =
      let order = (table_of scenario cells j).order in
      sym (ap (λ lines. slice_get lines sq) (lines-before (suc j) (omega arith) (omega arith)))
      ∙ slice_get-map (λ member. member.line) order sq ∙ ap (option_map (λ member. member.line)) has

  -- the line that an SQ has before the first step has it then too
  pub lines-at : (j sq line : ℕ) → first ≤ j → j ≤ last →
      slice_get (lines_of (table_before scenario cells first).order) sq ≡ Some line →
      (member : Member) × (slice_get (table_of scenario cells j).order sq ≡ Some member) × (member.line ≡ line)
  lines-at j sq line low high lines =
      let order = (table_of scenario cells j).order in
      found_line (slice_get order sq) line
      (sym (slice_get-map (λ member. member.line) order sq)
      ∙ ap (λ lines. slice_get lines sq) (lines-before (suc j) (omega arith) (omega arith)) ∙ lines)

  -- the last packet that says a status of an SQ and that step j or one before it has taken
  pub last-said : (j sq : ℕ) → known_by scenario first ≤ j → sq < most_lines →
      (k : ℕ) × (first ≤ k) × (k + scenario.lag ≤ j) × (j < k + scenario.options.statuses + scenario.lag) ×
      (sq / 8 ≡ group_of scenario k)
  last-said j sq low small =
      let size = sixteen scenario.options.statuses quiet.statuses in
      let found = last-of scenario.options.statuses first (j - scenario.lag) (sq / 8) quiet.statuses (omega arith)
      (omega arith) in
      let past = found.2 in
      let near = found.3 in
      (found.0, found.1, omega arith, omega arith, found.4)

  kept-by : (j k sq line : ℕ) → first ≤ k → k + scenario.lag ≤ j → j < k + scenario.options.statuses + scenario.lag →
      j ≤ last → sq < most_lines →
      sq / 8 ≡ group_of scenario k → slice_get (lines_of (table_before scenario cells first).order) sq ≡ Some line →
      kept_of (table_of scenario cells j) sq ≡ Some (is_line_up scenario line k)
  kept-by j k sq line start taken near high small group lines =
      let d = j - k - scenario.lag in
      let place : d + k + scenario.lag ≡ j = omega arith in
      rw place at (kept-on k sq line d start (omega arith) (omega arith) small group lines)

  pub by-told : (j : ℕ) → first ≤ j → j ≤ last → (table : Table) × (table_of scenario cells j ≡ told_on table)
      × (kept_of table ≡ kept_of (table_of scenario cells j)) × (table.order ≡ (table_before scenario cells j).order)
  by-told j low high =
      let table = heard ((j - scenario.lag) % scenario.options.statuses) (cell_at scenario cells j)
      (table_before scenario cells j) in
      let same = table-told j low high ∙ told_at-table scenario cells j in (
        table,
        same,
        sym (ap (λ (t : Table). kept_of t) same),
        heard-order ((j - scenario.lag) % scenario.options.statuses) (cell_at scenario cells j)
            (table_before scenario cells j),
      )

  -- a line in NORM was up at that packet
  pub norm-up : (j k sq line : ℕ) → first ≤ k → k + scenario.lag ≤ j →
      j < k + scenario.options.statuses + scenario.lag → j ≤ last →
      sq < most_lines → sq / 8 ≡ group_of scenario k → Has (table_of scenario cells j).order sq line normal →
      is_line_up scenario line k ≡ true
  norm-up j k sq line start taken near high small group has =
      let lag = quiet.lag in
      let lines = Has-in_lines j sq line normal (omega arith) high has in
      let table = by-told j (omega arith) high in
      told_on-norm table.0 sq line (is_line_up scenario line k)
      (subst (λ (t : Table). Has t.order sq line normal) table.1 has)
      (ap (λ kept. kept sq) table.2 ∙ kept-by j k sq line start taken near high small group lines)

  -- a line that was, and isn't in ADD, is in NORM
  up-norm : (j k sq line : ℕ) → first ≤ k → k + scenario.lag ≤ j → j < k + scenario.options.statuses + scenario.lag →
      j ≤ last →
      sq < most_lines → sq / 8 ≡ group_of scenario k →
      slice_get (lines_of (table_before scenario cells first).order) sq ≡ Some line →
      is_line_up scenario line k ≡ true → (Has (table_of scenario cells j).order sq line adding → ⊥) →
      Has (table_of scenario cells j).order sq line normal
  up-norm j k sq line start taken near high small group lines ok not_added =
      let lag = quiet.lag in
      let kept : kept_of (table_of scenario cells j) sq ≡ Some true =
      kept-by j k sq line start taken near high small group lines ∙ ap Some ok in
      let found = lines-at j sq line (omega arith) high lines in
      let stands : (standing : Standing) → found.0.standing ≡ standing →
      Has (table_of scenario cells j).order sq line standing =
      λ standing e. found.1 ∙ ap (λ l. Some (member_of l found.0.standing)) found.2
      ∙ ap (λ s. Some (member_of line s)) e in
      elim found.0.standing as (λ standing. found.0.standing ≡ standing →
      Has (table_of scenario cells j).order sq line normal) [
        | normal ↦ λ e. stands normal e
        | unused ↦ λ e.
            let table = by-told j (omega arith) high in
            absurd (told_on-dnu table.0 sq line
            (subst (λ (t : Table). Has t.order sq line unused) table.1 (stands unused e))
            (ap (λ kept. kept sq) table.2 ∙ kept))
        | adding ↦ λ e. absurd (not_added (stands adding e))
      ] refl

  -- a line that is in ADD was so before the first step
  never-added : (sq line d : ℕ) → d + first ≤ suc last →
      Has (table_before scenario cells (d + first)).order sq line adding →
      Has (table_before scenario cells first).order sq line adding
  never-added sq line zero high has = let e : zero + first ≡ first = omega arith in rw e at has
  never-added sq line (suc d) high has =
      let e : suc d + first ≡ suc (d + first) = omega arith in
      let table = by-told (d + first) (omega arith) (omega arith) in
      let there : Has (table_of scenario cells (d + first)).order sq line adding = rw e at has in
      never-added sq line d (omega arith)
      (subst (λ (order : List Member). Has order sq line adding) table.3
      (told_on-adding table.0 sq line (subst (λ (t : Table). Has t.order sq line adding) table.1 there)))

  pub added-before : (j sq line : ℕ) → first ≤ j → j ≤ last → Has (table_of scenario cells j).order sq line adding →
      Has (table_before scenario cells first).order sq line adding
  added-before j sq line low high has =
      let place : suc j - first + first ≡ suc j = omega arith in
      let there : Has (table_before scenario cells (suc j - first + first)).order sq line adding = rw place has in
      never-added sq line (suc j - first) (omega arith) there

  -- ---- a line in ADD that was up, once something is known of each line: it would have been exchanged
  known-at : (n s l : ℕ) → round_end scenario first ≤ n → n + scenario.lag ≤ last → s < most_lines →
      slice_get (lines_of (table_before scenario cells first).order) s ≡ Some l →
      (is_ok (kept_of (table_of scenario cells (n + scenario.lag)) s) ≡ true)
      ⊎ (is_fail (kept_of (table_of scenario cells (n + scenario.lag)) s) ≡ true)
  known-at n s l low high small lines =
      let said = last-said (n + scenario.lag) s (omega arith) small in
      let kept = kept-by (n + scenario.lag) said.0 s l said.1 said.2 said.3 high small said.4 lines in
      subst (λ status. (is_ok status ≡ true) ⊎ (is_fail status ≡ true)) (sym kept)
      (ok_or_fail (is_line_up scenario l said.0))

  not-added : (n k sq line : ℕ) → round_end scenario first ≤ n → n + scenario.lag ≤ last → first ≤ k → k ≤ n →
      n < k + scenario.options.statuses →
      ((s l : ℕ) → slice_get (lines_of (table_before scenario cells first).order) s ≡ Some l → s < most_lines) →
      sq / 8 ≡ group_of scenario k → slice_get (lines_of (table_before scenario cells first).order) sq ≡ Some line →
      is_line_up scenario line k ≡ true → Has (table_of scenario cells (n + scenario.lag)).order sq line adding → ⊥
  not-added n k sq line late high start taken near small group lines ok has =
      let lag = quiet.lag in
      let j = n + scenario.lag in
      let table = acknowledged_by (group_of scenario n) (Some (return_packet scenario cells n))
      (table_before scenario cells j) in
      let same : table_of scenario cells j ≡ told_on table = heard-table n (omega arith) high in
      let keeps : kept_of (table_of scenario cells j) ≡ kept_of table = ap (λ (t : Table). kept_of t) same in
      let kept = kept-by j k sq line start (omega arith) (omega arith) high (small sq line lines) group lines
      ∙ ap Some ok in
      let fine : is_ok (kept_of table sq) ≡ true =
      subst (λ status. is_ok status ≡ true) (sym kept ∙ ap (λ kept. kept sq) keeps) refl in
      let admitted : Has (admit (kept_of table) 0 table.order) sq line adding =
      turned-adding (kept_of table) 0 (admit (kept_of table) 0 table.order) sq line
      (subst (λ (t : Table). Has t.order sq line adding) same has) in
      let known : Known (kept_of table) 0 table.order sq =
      λ s l within there.
      let at : slice_get (lines_of (table_before scenario cells first).order) s ≡ Some l =
      sym (ap (λ lines. slice_get lines s) (lines-before j (omega arith) (omega arith)))
      ∙ slice_get-map (λ member. member.line) (table_before scenario cells j).order s
      ∙ ap (option_map (λ member. member.line)) there in
      let e : 0 + s ≡ s = omega arith in
      rw e (subst (λ (kept : ℕ → Option Bool). (is_ok (kept s) ≡ true) ⊎ (is_fail (kept s) ≡ true)) keeps
      (known-at n s l late high (small s l at) at)) in
      let there = exchange-there_plain (kept_of table) table.order sq line known fine admitted in
      let told : told_at scenario cells j ≡ told_on table = sym (table-told j (omega arith) high) ∙ same in
      let next : table_of scenario cells j ≡ (change (source_at scenario cells j) (told_on table)).table =
      ap (λ (source : Source). source.table) (after-change scenario cells j)
      ∙ ap (λ t. (change (source_at scenario cells j) t).table) told in
      change-there (source_at scenario cells j) (told_on table) refl there
      (sym (ap (λ (t : Table). t.count) next) ∙ ap (λ (t : Table). t.count) same)

  -- ---- a line stands as the last packet says that says a status of it: at once if it isn't in ADD, and else once
  -- something is known of each line
  pub up-stands : (j k sq line : ℕ) → first ≤ k → k + scenario.lag ≤ j →
      j < k + scenario.options.statuses + scenario.lag → j ≤ last →
      ((s l : ℕ) → slice_get (lines_of (table_before scenario cells first).order) s ≡ Some l → s < most_lines) →
      sq / 8 ≡ group_of scenario k → slice_get (lines_of (table_before scenario cells first).order) sq ≡ Some line →
      (Has (table_before scenario cells first).order sq line adding → known_by scenario first ≤ j) →
      is_line_up scenario line k ≡ true → Has (table_of scenario cells j).order sq line normal
  up-stands j k sq line start taken near high small group lines late ok =
      let lag = quiet.lag in
      up-norm j k sq line start taken near high (small sq line lines) group lines ok
      (λ has.
      let known = late (added-before j sq line (omega arith) high has) in
      let n = j - scenario.lag in
      let place : n + scenario.lag ≡ j = omega arith in
      let there : Has (table_of scenario cells (n + scenario.lag)).order sq line adding = rw place has in
      not-added n k sq line (omega arith) (omega arith) start (omega arith) (omega arith) small group lines ok there)

-- ---- If nothing is asked for and no line waits to be used, no change is made.
-- ---- no line in ADD, no exchange
exchange-idle : (kept : ℕ → Option Bool) (base : ℕ) (order : List Member) →
    ((sq line : ℕ) → Has order sq line adding → ⊥) → exchange kept base order ≡ None
unfolding exchange
exchange-idle kept base [] none = refl
exchange-idle kept base (member ∷ order) none =
    let rest = exchange-idle kept (base + 1) order (λ sq line has. none (suc sq) line has) in
    elim (is_add member.standing) as (λ b. is_add member.standing ≡ b →
    (if not b then option_map (λ rest. member ∷ rest) (exchange kept (base + 1) order)
    else if is_fail (kept base) then option_map (λ found. found.0 ∷ member ∷ found.1) (take_out kept (base + 1) order)
    else None) ≡ None) [
      | false ↦ λ e. ap (option_map (λ rest. member ∷ rest)) rest
      | true ↦ λ e. absurd (none zero member.line
          (ap (λ s. Some (member_of member.line s)) (adding_of member.standing e)))
    ] refl

-- ---- one step
abbrev IsIdle : Source → Type 0
IsIdle source = (source.waiting ≡ []) × ((sq line : ℕ) → Has source.table.order sq line adding → ⊥)

change_by-idle : (commands : List Command) (source : Source) (table : Table) → commands ≡ [] →
    exchange (kept_of table) 0 table.order ≡ None →
    ((change_by commands source table).table ≡ table) × ((change_by commands source table).waiting ≡ [])
change_by-idle [] source table none e = (ap (λ found. exchanged found table) e, refl)
change_by-idle (command ∷ commands) source table none e = absurd cc

change-idle : (source : Source) (table : Table) → source.waiting ≡ [] →
    exchange (kept_of table) 0 table.order ≡ None →
    ((change source table).table ≡ table) × ((change source table).waiting ≡ [])
change-idle source table none e =
    elim table.acknowledged as (λ b.
    ((if b then change_by source.waiting source table
    else record { table = table; planned = source.planned; waiting = source.waiting }).table ≡ table) ×
    ((if b then change_by source.waiting source table
    else record { table = table; planned = source.planned; waiting = source.waiting }).waiting ≡ [])) [
      | true ↦ change_by-idle source.waiting source table none e
      | false ↦ (refl, none)
    ]

source-idle : (scenario : Scenario) (cells : List (Option Told)) (j : ℕ) → orders_at scenario j ≡ [] →
    source_at scenario cells j ≡ after scenario cells j
source-idle scenario cells j none =
    ap (λ commands. asked_all (length scenario.windows) commands (after scenario cells j)) none

step-idle : (scenario : Scenario) (cells : List (Option Told)) (j : ℕ) → orders_at scenario j ≡ [] →
    IsIdle (after scenario cells j) →
    IsIdle (after scenario cells (suc j)) × ((table_of scenario cells j).count ≡ (table_before scenario cells j).count)
step-idle scenario cells j none idle =
    let source = source_at scenario cells j in
    let table = told_at scenario cells j in
    let same = source-idle scenario cells j none in
    let waits : source.waiting ≡ [] = ap (λ (s : Source). s.waiting) same ∙ idle.0 in
    let heard_table = heard ((j - scenario.lag) % scenario.options.statuses) (cell_at scenario cells j)
    (table_before scenario cells j) in
    let orders = heard-order ((j - scenario.lag) % scenario.options.statuses) (cell_at scenario cells j)
    (table_before scenario cells j) in
    let adds : (sq line : ℕ) → Has table.order sq line adding → ⊥ =
    λ sq line has. idle.1 sq line (subst (λ (order : List Member). Has order sq line adding) orders
    (told_on-adding heard_table sq line
    (subst (λ (t : Table). Has t.order sq line adding) (told_at-table scenario cells j) has))) in
    let changed = change-idle source table waits (exchange-idle (kept_of table) 0 table.order adds) in
    let next = after-change scenario cells j in
    let after_table : table_of scenario cells j ≡ table = ap (λ (s : Source). s.table) next ∙ changed.0 in (
      (
        ap (λ (s : Source). s.waiting) next ∙ changed.1,
        λ sq line has. adds sq line (subst (λ (t : Table). Has t.order sq line adding) after_table has),
      ),
      ap (λ (t : Table). t.count) after_table ∙ told_at-count scenario cells j,
    )

-- ---- many
steps-idle : (scenario : Scenario) (cells : List (Option Told)) (first d : ℕ) →
    ((k : ℕ) → first ≤ k → k < d + first → orders_at scenario k ≡ []) → IsIdle (after scenario cells first) →
    IsIdle (after scenario cells (d + first))
    × ((table_before scenario cells (d + first)).count ≡ (table_before scenario cells first).count)
steps-idle scenario cells first zero none idle =
    let e : zero + first ≡ first = omega arith in rw e (idle, refl)
steps-idle scenario cells first (suc d) none idle =
    let e : suc d + first ≡ suc (d + first) = omega arith in
    let before = steps-idle scenario cells first d (λ k low high. none k low (omega arith)) idle in
    let last = step-idle scenario cells (d + first) (none (d + first) (omega arith) (omega arith)) before.0 in
    rw e (last.0, last.1 ∙ before.1)

-- ---- what lands
lands-none : (orders : List DueCommand) (first horizon k : ℕ) →
    All (λ (order : DueCommand). (order.due + 8 ≤ 16 * first) ⊎ (horizon ≤ order.due)) orders → first ≤ k →
    16 * k + 8 < horizon → filter (lands_at k) orders ≡ []
lands-none [] first horizon k each low high = refl
lands-none (order ∷ orders) first horizon k each low high =
    let rest = lands-none orders first horizon k (λ i d inside. each (suc i) d (omega arith)) low high in
    let never : lands_at k order ≡ false = elim (each 0 order (omega arith)) [
      | inl sooner ↦ and_left _ (nat_le order.due (16 * k + 8)) (le-ltb (16 * k) (order.due + 8) (omega arith))
      | inr later ↦ and_right (nat_lt (16 * k) (order.due + 8)) _ (lt-leb order.due (16 * k + 8) (omega arith))
    ] in
    rw never rest

pub settled-still : (leg : Leg) (from horizon : ℕ) → IsSettled leg from horizon →
    (k : ℕ) → first_hit from ≤ k → 16 * k + 24 < horizon →
    (table_of (scenario_by leg) (session_of leg) k).count ≡ (table_at leg from).count
settled-still leg from horizon settled k low high =
    let scenario : Scenario = scenario_by leg in
    let cells : List (Option Told) = session_of leg in
    let first : ℕ = first_hit from in
    let place : suc k - first + first ≡ suc k = omega arith in
    let steps = steps-idle scenario cells first (suc k - first)
    (λ i after_first before. ap (map (λ (order : DueCommand). order.command))
    (lands-none (orders_of leg.items) first horizon i settled.lands after_first (omega arith)))
    (settled.waits, λ sq line has. settled.adds line (sq, has)) in
    let last : (table_before scenario cells (suc k - first + first)).count ≡ (table_before scenario cells first).count =
    steps.1 in
    rw place at last

-- ---- steps that carry out no command and exchange nothing
change_by-none : (commands : List Command) (source : Source) (table : Table) → first_of commands ≡ None →
    exchange (kept_of table) 0 table.order ≡ None → (change_by commands source table).table ≡ table
change_by-none [] source table none e = ap (λ found. exchanged found table) e
change_by-none (command ∷ commands) source table none e = absurd (none-some command (sym none))

change-none : (source : Source) (table : Table) →
    (if table.acknowledged then first_of source.waiting else None) ≡ None →
    exchange (kept_of table) 0 table.order ≡ None → (change source table).table ≡ table
change-none source table none e =
    elim table.acknowledged as (λ b. (if b then first_of source.waiting else None) ≡ None →
    (if b then change_by source.waiting source table
    else record { table = table; planned = source.planned; waiting = source.waiting }).table ≡ table) [
      | true ↦ λ none. change_by-none source.waiting source table none e
      | false ↦ λ none. refl
    ] none

steps-none : (leg : Leg) (first d : ℕ) → ((j : ℕ) → first ≤ j → j < d + first → MakesNoChange leg j) →
    (table_before (scenario_by leg) (session_of leg) (d + first)).count
    ≡ (table_before (scenario_by leg) (session_of leg) first).count
steps-none leg first zero none = let e : zero + first ≡ first = omega arith in rw e refl
steps-none leg first (suc d) none =
    let scenario : Scenario = scenario_by leg in
    let cells : List (Option Told) = session_of leg in
    let e : suc d + first ≡ suc (d + first) = omega arith in
    let here = none (d + first) (omega arith) (omega arith) in
    let same : table_of scenario cells (d + first) ≡ told_at scenario cells (d + first) =
    ap (λ (s : Source). s.table) (after-change scenario cells (d + first))
    ∙ change-none (source_at scenario cells (d + first)) (told_at scenario cells (d + first)) here.0 here.1 in
    let last : (table_of scenario cells (d + first)).count ≡ (table_before scenario cells (d + first)).count =
    ap (λ (t : Table). t.count) same ∙ told_at-count scenario cells (d + first) in
    let before = steps-none leg first d (λ j low high. none j low (omega arith)) in
    rw e (last ∙ before)

pub unchanged-still : (leg : Leg) (from horizon : ℕ) →
    ((j : ℕ) → first_hit from ≤ j → 16 * j + 24 < horizon → MakesNoChange leg j) →
    (k : ℕ) → first_hit from ≤ k → 16 * k + 24 < horizon →
    (table_of (scenario_by leg) (session_of leg) k).count ≡ (table_at leg from).count
unchanged-still leg from horizon none k low high =
    let first : ℕ = first_hit from in
    let place : suc k - first + first ≡ suc k = omega arith in
    let last : (table_before (scenario_by leg) (session_of leg) (suc k - first + first)).count
    ≡ (table_before (scenario_by leg) (session_of leg) first).count =
    steps-none leg first (suc k - first) (λ j after_first before. none j after_first (omega arith)) in
    rw place at last
