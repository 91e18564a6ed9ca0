-- An added line before which others can't be read is brought forward: how soon it is in use in a session.
use Rattle.std.proofs.Common.{◌≡◌, ◌⊎◌, ℕ, zero, suc, ◌+◌, ◌-◌, ◌<◌, ◌≤◌, ◌==◌, Bool, true, false, if◌then◌else◌, inl}
use Rattle.std.proofs.Common.{inr, List, [], ◌∷◌, length, Option, Some, None, refl, sym, ◌∙◌, ap, subst, arith}
use Rattle.std.proofs.lemmas.Bool.Decides.{nat_tests}
use Rattle.std.proofs.lemmas.Option.{slice_get_within}
use Rattle.std.proofs.Math.Nat.{eq-or-lt_of_le}
use Rattle.std.proofs.lemmas.List.{length-map, length-append}
use Rattle.std.proofs.lemmas.Bool.{eqb-true, eqb-false}
use Rattle.law_model.specs.Common.{IsStatuses, Scenario, is_read, is_line_up, kept_of, member_of, Table, Told, is_ok}
use Rattle.law_model.specs.Common.{is_fail, admit, told_on, carried_out, exchange, exchanged, Source, change_by}
use Rattle.law_model.specs.Common.{change, most_lines}
use Rattle.law_model.specs.Common.{source_at, told_at, first_of, table_of, cells_before, packets, session_cells}
use Rattle.law_model.specs.declared.lcas_states.Command.{Command}
use Rattle.law_model.specs.declared.lcas_states.Member.{Member}
use Rattle.law_model.specs.declared.lcas_states.Command.TheVariants.{Add as add}
use Rattle.law_model.specs.declared.lcas_states.Standing.TheVariants.{Add as adding}
use Rattle.law_model.specs.source.Source.{carried}
use Rattle.law_session.specs.LineInUse.{IsInUse, IsUsedBefore, AddsAlone, AllCome, IsSeen, AllSeen, NoneRead, known_by}
use Rattle.law_session.specs.LineInUse.{IsUsedBy, AddsUndamaged, AddsAmongSilent}
use Rattle.law_session.specs.Feedback.{lines_of, table_before}
use Rattle.law_session.proofs.DecisionStepMemberLaws.{told_on-lines}
use Rattle.law_session.proofs.ReturnCellAndLineWordLaws.{session-law, none_kept-at}
use Rattle.law_session.proofs.AdmittedAndExchangedLineLaws.{Has, IsThere, Only, Leads, LeadsIn, Known, Has-line}
use Rattle.law_session.proofs.AdmittedAndExchangedLineLaws.{exchange-leads, exchange-there_plain, turned-adding}
use Rattle.law_session.proofs.AddedLineWaitLaws.{MaySay, IsFair, Waits, waiting, moving, using, Exchanges, Alone}
use Rattle.law_session.proofs.AddedLineWaitLaws.{lines-stay, heard_at, Hears-step, next-table, next-carried, not_fail}
use Rattle.law_session.proofs.AddedLineWaitLaws.{told_on-adds, used_at, Waits-next, step-on, known-last, used-longer}
use Rattle.law_session.proofs.AddedLineWaitLaws.{used-now, used_by, sixteen, cell-comes, Waits-added}
use Rattle.law_session.proofs.AddedLineWaitLaws.{table_of-carried, told_at-count, added}
use Rattle.law_session.proofs.UpLineAndReadablePacketLaws.{some_heard}
use Rattle.law_session.proofs.SourceOrderAndPlanLaws.{line-inside, order-length}

-- ---- How soon an added line is in use where the ADD lines before it can't be read: it is brought before them.
-- the line alone is good
abbrev pub is_line : ℕ → ℕ → Bool
is_line line l = l == line

-- where an acknowledged table has an exchange, it is made
exchanged-there : (table : Table) (found : Option (List Member)) → exchange (kept_of table) 0 table.order ≡ found →
    IsThere found → Exchanges table (exchanged found table)
exchanged-there table None e there = absurd there
exchanged-there table (Some order) e there = record { order = order; found = e; changes = refl }

change_by-there : (commands : List Command) (source : Source) (table : Table) → first_of commands ≡ None →
    IsThere (exchange (kept_of table) 0 table.order) →
    Exchanges table (change_by commands source table).table
change_by-there [] source table none there = exchanged-there table (exchange (kept_of table) 0 table.order) refl there
change_by-there (command ∷ commands) source table none there = absurd (let e : None ≡ Some command = sym none in cc)

change-there : (source : Source) (table : Table) → table.acknowledged ≡ true →
    (if table.acknowledged then first_of source.waiting else None) ≡ None →
    IsThere (exchange (kept_of table) 0 table.order) → Exchanges table (change source table).table
change-there source table ack none there =
    elim table.acknowledged as (λ b. b ≡ true → (if b then first_of source.waiting else None) ≡ None →
    Exchanges table (if b then change_by source.waiting source table
    else record { table = table; planned = source.planned; waiting = source.waiting }).table) [
      | true ↦ λ ack none. change_by-there source.waiting source table none there
      | false ↦ λ ack none. absurd cc
    ] ack none

-- ---- a step that brings the line before the other ADD lines
pub record Starts (scenario : Scenario) (cells : List (Option Told)) (line i sq : ℕ) : Type 0 where
  pub rose : (table_before scenario cells i).count < (table_of scenario cells i).count
  pub waits : Waits scenario cells (λ l. true) i sq line (suc i) (table_of scenario cells i)
  pub leads : Leads (table_of scenario cells i).order sq line

only_ok : (line l : ℕ) (kept : Option Bool) → MaySay (is_line line l) kept → is_ok kept ≡ true → l ≡ line
only_ok line l kept (inl none) ok = absurd (let e : is_ok None ≡ true = rw none at ok in cc)
only_ok line l kept (inr says) ok = eqb-true l line (let e : is_ok (Some (is_line line l)) ≡ true = rw says at ok in e)

-- the SQs end with that of the line
abbrev pub Ends : List Member → ℕ → Type 0
Ends order sq = length order ≡ suc sq

Ends-lines : (a b : List Member) (sq : ℕ) → lines_of a ≡ lines_of b → Ends b sq → Ends a sq
Ends-lines a b sq same ends =
    sym (length-map a (λ member. member.line)) ∙ ap length same ∙ length-map b (λ member. member.line) ∙ ends

starts : (scenario : Scenario) (cells : List (Option Told)) (first sq line i : ℕ) → 0 < scenario.lag →
    Ends (told_on (heard_at scenario cells i)).order sq →
    (table_before scenario cells i).count ≡ (table_of scenario cells first).count →
    Waits scenario cells (is_line line) first sq line (suc i) (told_on (heard_at scenario cells i)) →
    Exchanges (told_on (heard_at scenario cells i)) (table_of scenario cells i) →
    (place : ℕ) × Starts scenario cells line i place
starts scenario cells first sq line i lag ends count next moves =
    let table = told_on (heard_at scenario cells i) in
    let only : Only (kept_of table) 0 table.order line = λ s l h ok.
    let e : 0 + s ≡ s = omega arith in
    let inside = slice_get_within table.order s (member_of l adding) h in
    only_ok line l ((kept_of table) s) (next.fine s l (omega arith) h) (rw e at ok) in
    let leads_in = exchange-leads (kept_of table) 0 table.order line only in
    let leads : (place : ℕ) × Leads moves.order place line = subst (λ found. LeadsIn found line) moves.found leads_in in
    let changes = moves.changes in
    let grown = ap (λ t. t.count) changes in
    let same = next.count in (
      leads.0,
      record {
        rose = omega arith;
        waits = record {
          count = refl;
          here = rw changes leads.1.here;
          adds = λ s l low h. h;
          fine = λ s l low h. inl (rw changes (none_kept-at s));
          tells = λ s l k low h from near group. absurd (omega arith);
        };
        leads = rw changes leads.1;
      },
    )

-- ---- one step while no line is brought forward
pub data Moves_on (scenario : Scenario) (cells : List (Option Told)) (first sq line i : ℕ) : Type 0 where
  still : Waits scenario cells (is_line line) first sq line (suc i) (table_before scenario cells (suc i)) →
      Moves_on scenario cells first sq line i
  begun : (place : ℕ) → Starts scenario cells line i place → Moves_on scenario cells first sq line i
  done : IsInUse (table_of scenario cells i) line → Moves_on scenario cells first sq line i

told_on-ends : (scenario : Scenario) (cells : List (Option Told)) (first sq line i : ℕ) →
    IsFair scenario cells (is_line line) first sq → Ends (table_of scenario cells first).order sq →
    Waits scenario cells (is_line line) first sq line i (table_before scenario cells i) → first < i →
    i ≤ known_by scenario first → Ends (told_on (heard_at scenario cells i)).order sq
told_on-ends scenario cells first sq line i fair ends waits from near =
    let hears = Hears-step scenario cells (is_line line) first sq line i fair waits near in
    Ends-lines (told_on (heard_at scenario cells i)).order (table_of scenario cells first).order sq
    (told_on-lines (heard_at scenario cells i) ∙ ap lines_of hears.order
    ∙ lines-stay scenario cells first i first (omega arith) from waits.count) ends

itself : (line : ℕ) → is_line line line ≡ true
itself line = grind (arith, nat_tests)

move-on : (scenario : Scenario) (cells : List (Option Told)) (first sq line i : ℕ) →
    IsFair scenario cells (is_line line) first sq → Ends (table_of scenario cells first).order sq →
    Waits scenario cells (is_line line) first sq line i (table_before scenario cells i) → first < i →
    i ≤ known_by scenario first → carried scenario cells i ≡ None →
    Moves_on scenario cells first sq line i
move-on scenario cells first sq line i fair ends waits from near none =
    elim (step-on scenario cells (is_line line) first sq line i fair (itself line) waits near none) [
      | waiting next ↦ still next
      | moving next moves ↦
          let start = starts scenario cells first sq line i fair.lag
          (told_on-ends scenario cells first sq line i fair ends waits from near) waits.count next moves in
          begun start.0 start.1
      | using now ↦ done now
    ]

known_either : (ok : Bool) (kept : Option Bool) → kept ≡ Some ok → (is_ok kept ≡ true) ⊎ (is_fail kept ≡ true)
known_either true kept e = inl (rw e refl)
known_either false kept e = inr (rw e refl)

-- at the last step it is brought forward
move-last : (scenario : Scenario) (cells : List (Option Told)) (first sq line i : ℕ) →
    IsFair scenario cells (is_line line) first sq → Ends (table_of scenario cells first).order sq →
    Waits scenario cells (is_line line) first sq line i (table_before scenario cells i) →
    i ≡ known_by scenario first → carried scenario cells i ≡ None →
    ((place : ℕ) × Starts scenario cells line i place) ⊎ IsInUse (table_of scenario cells i) line
move-last scenario cells first sq line i fair ends waits at none =
    let lag = fair.lag in
    let size = sixteen scenario.options.statuses fair.statuses in
    let table = heard_at scenario cells i in
    let hears = Hears-step scenario cells (is_line line) first sq line i fair waits (omega arith) in
    let has : Has table.order sq line adding = subst (λ order. Has order sq line adding) (sym hears.order) waits.here in
    let fine = not_fail (is_line line line) ((kept_of table) sq) (hears.fine sq line (omega arith) waits.here)
    (itself line) in
    elim (told_on-adds table sq line fine has) [
      | inr used ↦ inr (used_at scenario cells sq line i none used)
      | inl adds ↦
          let known : Known (kept_of table) 0 table.order sq = λ s l low h.
          let e : 0 + s ≡ s = omega arith in
          let there = subst (λ order. Has order s l adding) hears.order h in
          rw e (known_either (is_line line l) ((kept_of table) s)
          (known-last scenario cells (is_line line) first sq line i s l fair waits at low there)) in
          let ok : is_ok ((kept_of table) sq) ≡ true =
          ap is_ok (known-last scenario cells (is_line line) first sq line i sq line fair waits at
          (omega arith) waits.here) ∙ itself line in
          let there = exchange-there_plain (kept_of table) table.order sq line known ok
          (turned-adding (kept_of table) 0 (admit (kept_of table) 0 table.order) sq line adds) in
          let moves = change-there (source_at scenario cells i) (told_on table) (hears.acknowledged (omega arith))
          (next-carried scenario cells i none) there in
          let next = Waits-next scenario cells (is_line line) first sq line i table
          (table_before scenario cells i) waits hears adds in
          inl (starts scenario cells first sq line i lag
          (told_on-ends scenario cells first sq line i fair ends waits (omega arith) (omega arith)) waits.count next
          (subst (Exchanges (told_on table)) (sym (next-table scenario cells i)) moves))
    ]

-- ---- all steps up to that one
pub data Progress (scenario : Scenario) (cells : List (Option Told)) (first sq line i : ℕ) : Type 0 where
  is_still : Waits scenario cells (is_line line) first sq line i (table_before scenario cells i) →
      Progress scenario cells first sq line i
  is_used : IsUsedBefore scenario cells line first i → Progress scenario cells first sq line i
  is_begun : (start place : ℕ) → first < start → start < i → Starts scenario cells line start place →
      Progress scenario cells first sq line i

progress-next : (scenario : Scenario) (cells : List (Option Told)) (first sq line i last : ℕ) →
    IsFair scenario cells (is_line line) first sq → Ends (table_of scenario cells first).order sq →
    Alone scenario cells line first last → known_by scenario first ≤ last → first < i →
    i < known_by scenario first → Progress scenario cells first sq line i →
    Progress scenario cells first sq line (suc i)
progress-next scenario cells first sq line i last fair ends alone far from near (is_used used) =
    is_used (used-longer scenario cells line first i (suc i) (omega arith) used)
progress-next scenario cells first sq line i last fair ends alone far from near
    (is_begun start place later before starts) = is_begun start place later (omega arith) starts
progress-next scenario cells first sq line i last fair ends alone far from near (is_still waits) =
    elim (carried scenario cells i)
    as (λ c. carried scenario cells i ≡ c → Progress scenario cells first sq line (suc i)) [
      | None ↦ λ e.
          elim (move-on scenario cells first sq line i fair ends waits from (omega arith) e) [
            | still next ↦ is_still next
            | begun place starts ↦ is_begun i place from (omega arith) starts
            | done now ↦ is_used (used-now scenario cells line first i (omega arith) now)
          ]
      | Some command ↦ λ e. is_used (used-longer scenario cells line first i (suc i) (omega arith)
          (alone i command from (omega arith) e))
    ] refl

progress-many : (scenario : Scenario) (cells : List (Option Told)) (first sq line last : ℕ) →
    IsFair scenario cells (is_line line) first sq → Ends (table_of scenario cells first).order sq →
    Alone scenario cells line first last → known_by scenario first ≤ last →
    Waits scenario cells (is_line line) first sq line (suc first) (table_of scenario cells first) →
    (d : ℕ) → d + suc first ≤ known_by scenario first → Progress scenario cells first sq line (d + suc first)
progress-many scenario cells first sq line last fair ends alone far waits zero near =
    let e : zero + suc first ≡ suc first = omega arith in rw e (is_still waits)
progress-many scenario cells first sq line last fair ends alone far waits (suc d) near =
    let e : suc d + suc first ≡ suc (d + suc first) = omega arith in
    rw e (progress-next scenario cells first sq line (d + suc first) last fair ends alone far (omega arith)
    (omega arith)
    (progress-many scenario cells first sq line last fair ends alone far waits d (omega arith)))

-- the line is in use, or was brought forward by then
abbrev pub Brought : Scenario → List (Option Told) → ℕ → ℕ → ℕ → Type 0
Brought scenario cells line first i = (start : ℕ) × (place : ℕ) × (first < start) × (start < i) ×
    Starts scenario cells line start place

progress-last : (scenario : Scenario) (cells : List (Option Told)) (first sq line i last : ℕ) →
    IsFair scenario cells (is_line line) first sq → Ends (table_of scenario cells first).order sq →
    Alone scenario cells line first last → i ≤ last → i ≡ known_by scenario first →
    Progress scenario cells first sq line i →
    IsUsedBefore scenario cells line first (suc i) ⊎ Brought scenario cells line first (suc i)
progress-last scenario cells first sq line i last fair ends alone far at (is_used used) =
    inl (used-longer scenario cells line first i (suc i) (omega arith) used)
progress-last scenario cells first sq line i last fair ends alone far at (is_begun start place later before starts) =
    inr (start, place, later, omega arith, starts)
progress-last scenario cells first sq line i last fair ends alone far at (is_still waits) =
    let lag = fair.lag in
    let size = sixteen scenario.options.statuses fair.statuses in
    elim (carried scenario cells i)
    as (λ c. carried scenario cells i ≡ c →
    IsUsedBefore scenario cells line first (suc i) ⊎ Brought scenario cells line first (suc i)) [
      | None ↦ λ e.
          elim (move-last scenario cells first sq line i fair ends waits at e) [
            | inl starts ↦ inr (i, starts.0, omega arith, omega arith, starts.1)
            | inr now ↦ inl (used-now scenario cells line first i (omega arith) now)
          ]
      | Some command ↦ λ e. inl (used-longer scenario cells line first i (suc i) (omega arith)
          (alone i command (omega arith) far e))
    ] refl

-- ---- from there on
seen_there : (scenario : Scenario) (order : List Member) (s l place line k : ℕ) → s ≤ place →
    Leads order place line → Has order s l adding → IsSeen scenario line k → IsSeen scenario l k
seen_there scenario order s l place line k low leads has seen =
    elim (eq-or-lt_of_le low) [
      | inl same ↦
          let there : Has order place l adding = subst (λ q. Has order q l adding) same has in
          let line_is : l ≡ line = Has-line (member_of l adding) line adding (sym there ∙ leads.here) in
          subst (λ m. IsSeen scenario m k) (sym line_is) seen
      | inr before ↦ absurd (leads.first s l before has)
    ]

reads_line : (scenario : Scenario) (line l k : ℕ) → is_read scenario line k ≡ true →
    ((l ≡ line → ⊥) → is_read scenario l k ≡ false) → is_read scenario l k ≡ is_line line l
reads_line scenario line l k read other =
    elim (l == line) as (λ b. (l == line) ≡ b → is_read scenario l k ≡ b) [
      | true ↦ λ e. let same = eqb-true l line e in rw same read
      | false ↦ λ e. other (eqb-false l line e)
    ] refl

-- two rounds of statuses, and the lag
abbrev pub rounds : Scenario → ℕ
rounds scenario = known_by scenario scenario.options.statuses

after_start : (scenario : Scenario) (n first line start place : ℕ) → 0 < scenario.lag →
    IsStatuses scenario.options.statuses → line < length scenario.windows → first + rounds scenario ≤ n →
    ((j s l : ℕ) → Has (table_of scenario (cells_before scenario n) j).order s l adding → s < most_lines) →
    Alone scenario (cells_before scenario n) line first (known_by scenario (known_by scenario first)) →
    AllCome scenario first (rounds scenario) → AllSeen scenario line first (rounds scenario) →
    first < start → start ≤ known_by scenario first → Starts scenario (cells_before scenario n) line start place →
    IsUsedBefore scenario (cells_before scenario n) line first (known_by scenario (known_by scenario first) + 1)
after_start scenario n first line start place lag statuses known whole small alone come seen later near starts =
    let cells = cells_before scenario n in
    let size = sixteen scenario.options.statuses statuses in
    let fair : IsFair scenario cells (λ l. true) start place = record {
      lag = lag;
      statuses = statuses;
      session = session-law scenario n lag;
      rose = starts.rose;
      comes = λ k from close. cell-comes scenario n first (rounds scenario) k lag whole come (omega arith)
          (omega arith);
      hears = λ k from close. some_heard scenario.windows line k known (seen k (omega arith) (omega arith)).0;
      inside = λ s l has. line-inside scenario cells (suc start) s l has;
      reads = λ s l k low has from close. (seen_there scenario (table_of scenario cells start).order s l place line k
          low starts.leads has (seen k (omega arith) (omega arith))).0;
      ups = λ s l k low has from close right. (seen_there scenario (table_of scenario cells start).order s l place line
          k low starts.leads has (seen k (omega arith) (omega arith))).1;
      small = small start place line starts.leads.here;
    } in
    used-longer scenario cells line first (known_by scenario start + 1)
    (known_by scenario (known_by scenario first) + 1) (omega arith)
    (used_by scenario cells (λ l. true) first start place line fair (λ s l low h. refl)
    (λ i command from close e. alone i command from (omega arith) e) (omega arith) starts.waits)

pub brought : (scenario : Scenario) (n first line : ℕ) → 0 < scenario.lag →
    IsStatuses scenario.options.statuses → first + rounds scenario ≤ n →
    ((j s l : ℕ) → Has (table_of scenario (cells_before scenario n) j).order s l adding → s < most_lines) →
    AddsAlone scenario (cells_before scenario n) line first (known_by scenario (known_by scenario first)) →
    AllCome scenario first (rounds scenario) → AllSeen scenario line first (rounds scenario) →
    ((s l : ℕ) → Has (table_of scenario (cells_before scenario n) first).order s l adding → (l ≡ line → ⊥) →
    NoneRead scenario l first scenario.options.statuses) →
    IsUsedBefore scenario (cells_before scenario n) line first (known_by scenario (known_by scenario first) + 1)
brought scenario n first line lag statuses whole small adds come seen others =
    let cells = cells_before scenario n in
    let table = told_at scenario cells first in
    let sq = length table.order in
    let size = sixteen scenario.options.statuses statuses in
    let after : table_of scenario cells first ≡ carried_out (add line) table =
    table_of-carried scenario cells first (add line) adds.added in
    let count = ap (λ t. t.count) after in
    let before = told_at-count scenario cells first in
    let waits = Waits-added scenario cells (is_line line) first line lag adds.added in
    let known = line-inside scenario cells (suc first) sq line waits.here in
    let ends : Ends (table_of scenario cells first).order sq =
    rw after (length-append table.order (member_of line adding ∷ [])
    ∙ (let e : length table.order + 1 ≡ suc (length table.order) = omega arith in e)) in
    let fair : IsFair scenario cells (is_line line) first sq = record {
      lag = lag;
      statuses = statuses;
      session = session-law scenario n lag;
      rose = omega arith;
      comes = λ k from close. cell-comes scenario n first (rounds scenario) k lag whole come from (omega arith);
      hears = λ k from close. some_heard scenario.windows line k known (seen k from (omega arith)).0;
      inside = λ s l has. line-inside scenario cells (suc first) s l has;
      reads = λ s l k low has from close. reads_line scenario line l k (seen k from (omega arith)).0
          (λ other. others s l has other k from close);
      ups = λ s l k low has from close right.
          subst (λ m. is_line_up scenario m k ≡ true) (sym (eqb-true l line right)) (seen k from (omega arith)).1;
      small = small first sq line waits.here;
    } in
    let last = known_by scenario (known_by scenario first) in
    let d = known_by scenario first - suc first in
    let at : d + suc first ≡ known_by scenario first = omega arith in
    let progress = progress-many scenario cells first sq line last fair ends adds.alone (omega arith) waits d
    (omega (arith, at)) in
    elim (progress-last scenario cells first sq line (d + suc first) last fair ends adds.alone (omega (arith, at)) at
    progress) [
      | inl used ↦ used-longer scenario cells line first (suc (d + suc first)) (last + 1) (omega (arith, at)) used
      | inr there ↦ after_start scenario n first line there.0 there.1 lag statuses known whole small adds.alone come
          seen there.2 (omega (arith, there.3, at)) there.4
    ]

-- ---- How soon an added line is in use, in a whole session.
added-length : (scenario : Scenario) (cells : List (Option Told)) (first line : ℕ) →
    carried scenario cells first ≡ Some (add line) →
    length (told_at scenario cells first).order + 1 ≤ length scenario.windows
added-length scenario cells first line e =
    let table = told_at scenario cells first in
    let whole = ap (λ t. length t.order) (table_of-carried scenario cells first (add line) e)
    ∙ length-append table.order (member_of line adding ∷ []) in
    let most = order-length scenario cells (suc first) in
    omega arith

pub undamaged : (scenario : Scenario) (first line : ℕ) → AddsUndamaged scenario first line →
    IsUsedBy scenario line first (known_by scenario first)
undamaged scenario first line adds =
    let cells = session_cells scenario in
    let lag = adds.limits.lag in
    let lines = adds.limits.lines in
    let begins = adds.begins in
    let size = added-length scenario cells first line adds.adds.added in
    added scenario (packets scenario) first line lag adds.limits.statuses (omega arith) (omega arith) adds.adds
    adds.come adds.read

pub among_silent : (scenario : Scenario) (first line : ℕ) → AddsAmongSilent scenario first line →
    IsUsedBy scenario line first (known_by scenario (known_by scenario first))
among_silent scenario first line adds =
    let cells = session_cells scenario in
    let lag = adds.limits.lag in
    let lines = adds.limits.lines in
    let begins = adds.begins in
    let statuses = sixteen scenario.options.statuses adds.limits.statuses in
    brought scenario (packets scenario) first line lag adds.limits.statuses (omega arith)
    (λ j s l has.
    let inside = slice_get_within (table_of scenario cells j).order s (member_of l adding) has in
    let most = order-length scenario cells (suc j) in
    omega arith)
    adds.adds adds.come adds.read (λ s l has other. adds.others l (s, has) other)
