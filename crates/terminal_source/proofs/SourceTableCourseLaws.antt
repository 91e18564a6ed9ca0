-- The course of a source's table: what commands, decision steps and a return cell make of its fields.
use Rattle.std.proofs.Common.{◌≡◌, ℕ, ◌+◌, ◌-◌, ◌%◌, ◌<◌, ◌≤◌, ◌==◌, nat_le, nat_lt, Bool, true, false, if◌then◌else◌}
use Rattle.std.proofs.Common.{List, [], ◌∷◌, ◌++◌, length, take, slice_set, replicate, Option, Some, None, refl, sym}
use Rattle.std.proofs.Common.{◌∙◌, ap, subst, arith, zero, suc, map, fold, slice_index_or, ap₂, leb-true}
use Rattle.std.specs.List.{list_all}
use Rattle.std.proofs.Math.Seq.{take-set-lt}
use Rattle.std.proofs.lemmas.List.{length-map, take-replicate}
use Rattle.std.proofs.lemmas.Bool.{leb-false, and_right}
use Rattle.law_model.specs.Common.{Table, Told, first_table, heard, told_on, exchange, exchanged, kept_of, read_of}
use Rattle.law_model.specs.Common.{packet_read, bits_from, Source, line_of, refusal, asked, asked_by, change}
use Rattle.law_model.specs.Common.{change_by, decide, Course, count_of, IsStatuses, Scenario, orders_at, asked_all}
use Rattle.law_model.specs.Common.{cell_at, after, asks, decides, said_by, called, course_of, given_at, calls_before}
use Rattle.law_model.specs.declared.lcas_states.Command.{Command}
use Rattle.law_model.specs.declared.lcas_states.Member.{Member}
use Rattle.law_model.specs.declared.item_refusals.CommandFault.TheVariants.{UnknownLine}
use Rattle.law_model.specs.declared.lcas_states.Command.TheVariants.{Add as add, Remove as remove}
use Rattle.law_model.specs.source.Source.{opening, is_add}
use Rattle.law_model.specs.source.Course.{begun}
use Rattle.law_session.specs.Feedback.{lines_of}
use Rattle.law_session.proofs.DecisionStepMemberLaws.{told_on-lines, heard-order, heard-count}
use Rattle.law_session.proofs.SourceOrderAndPlanLaws.{Fits, opening-fits, Fits-asked, Fits-decide, Fits-room}
use Rattle.law_session.proofs.SourceOrderAndPlanLaws.{some_refusal}
use Rattle.terminal_source.specs.lcas_source.TableFields.{none_planned, IsTable, changed_by}
use Rattle.std.proofs.lemmas.List.Sums.{fold-append}
use Rattle.law_model.specs.Common.{most_lines}

-- ---- What commands and decision steps make of the fields of a source's table.
-- ---- before the first call
none-planned : (lines : ℕ) → lines ≤ most_lines → take lines none_planned ≡ replicate lines false
unfolding none_planned
none-planned lines h = take-replicate lines most_lines false h

opening-fields : (lines : ℕ) (table : Table) (planned : List Bool) (waiting : List Command) → lines ≤ most_lines →
    table ≡ first_table → planned ≡ none_planned → waiting ≡ [] →
    record { table = table; planned = take lines planned; waiting = waiting } ≡ opening lines
opening-fields lines table planned waiting few is_table is_planned is_waiting =
    ap (λ table. record { table = table; planned = take lines planned; waiting = waiting }) is_table
    ∙ ap (λ planned. record { table = first_table; planned = take lines planned; waiting = waiting }) is_planned
    ∙ ap (λ planned. record { table = first_table; planned = planned; waiting = waiting }) (none-planned lines few)
    ∙ ap (λ waiting. record { table = first_table; planned = replicate lines false; waiting = waiting }) is_waiting

pub begun-fields : (lines statuses : ℕ) (table : Table) (planned : List Bool) (waiting : List Command) → lines ≤ most_lines →
    table ≡ first_table → planned ≡ none_planned → waiting ≡ [] →
    record {
      lines = lines;
      statuses = statuses;
      source = record { table = table; planned = take lines planned; waiting = waiting };
      taken = 0;
      steps = 0;
    } ≡ begun lines statuses
begun-fields lines statuses table planned waiting few is_table is_planned is_waiting =
    ap (λ source. record { lines = lines; statuses = statuses; source = source; taken = 0; steps = 0 })
    (opening-fields lines table planned waiting few is_table is_planned is_waiting)

IsTable-begun : (lines statuses : ℕ) (group : List Bool) → lines ≤ most_lines → IsStatuses statuses →
    group ≡ bits_from 0 → IsTable (begun lines statuses) group
IsTable-begun lines statuses group few choice bits =
    record { lines = few; statuses = choice; fits = opening-fits lines; count = omega arith; taken = omega arith; bits = bits }

pub IsTable-new : (course : Course) (lines statuses : ℕ) (group : List Bool) → course ≡ begun lines statuses →
    lines ≤ most_lines → IsStatuses statuses → group ≡ bits_from 0 → IsTable course group
IsTable-new course lines statuses group is few choice bits =
    subst (λ course. IsTable course group) (sym is) (IsTable-begun lines statuses group few choice bits)

-- ---- a command
inside-of_accepted : (lines : ℕ) (command : Command) (source : Source) → refusal lines command source ≡ None →
    line_of command < lines
inside-of_accepted lines command source e =
    elim (nat_le lines (line_of command)) as (λ b. nat_le lines (line_of command) ≡ b → line_of command < lines) [
      | true ↦ λ test. absurd (some_refusal (UnknownLine lines) (rw test at e))
      | false ↦ λ test. leb-false lines (line_of command) test
    ] refl

asked-accepted : (lines : ℕ) (command : Command) (table : Table) (planned : List Bool) (waiting : List Command) →
    refusal lines command (record { table = table; planned = take lines planned; waiting = waiting }) ≡ None →
    record {
      table = table;
      planned = take lines (slice_set planned (line_of command) (is_add command));
      waiting =
          waiting ++ command ∷ [];
    }
    ≡ asked lines (record { table = table; planned = take lines planned; waiting = waiting }) command
asked-accepted lines command table planned waiting e =
    let source : Source = record { table = table; planned = take lines planned; waiting = waiting } in
    ap (λ planned. record { table = table; planned = planned; waiting = waiting ++ command ∷ [] })
    (take-set-lt lines planned (line_of command) (is_add command) (inside-of_accepted lines command source e))
    ∙ sym (ap (λ r. asked_by r command source) e)

-- the same, by what the fields were set to
pub asked-fields : (lines : ℕ) (command : Command) (table : Table) (planned : List Bool) (waiting after : List Command)
    (line : ℕ) (adds : Bool) →
    line ≡ line_of command → adds ≡ is_add command → after ≡ waiting ++ command ∷ [] →
    refusal lines command (record { table = table; planned = take lines planned; waiting = waiting }) ≡ None →
    record { table = table; planned = take lines (slice_set planned line adds); waiting = after }
    ≡ asked lines (record { table = table; planned = take lines planned; waiting = waiting }) command
asked-fields lines command table planned waiting after line adds is_line is_adds more e =
    ap (λ line. record { table = table; planned = take lines (slice_set planned line adds); waiting = after }) is_line
    ∙ ap (λ adds. record {
      table = table;
      planned = take lines (slice_set planned (line_of command) adds);
      waiting =
          after;
    }) is_adds
    ∙ ap (λ after. record {
      table = table;
      planned = take lines (slice_set planned (line_of command) (is_add command));
      waiting = after;
    }) more
    ∙ asked-accepted lines command table planned waiting e

accepted-fits : (lines : ℕ) (command : Command) (source after : Source) → after ≡ asked lines source command →
    Fits lines source → Fits lines after
accepted-fits lines command source after e fits = subst (Fits lines) (sym e) (Fits-asked lines source command fits)

-- a command is accepted
pub IsTable-asked : (course : Course) (group : List Bool) (command : Command) (after : Source) →
    after ≡ asked course.lines course.source command →
    after.table ≡ course.source.table → IsTable course group →
    IsTable (record {
      lines = course.lines;
      statuses = course.statuses;
      source = after;
      taken = course.taken;
      steps = course.steps;
    }) group
IsTable-asked course group command after e same is =
    let counts = is.count in
    let count = ap (λ table. table.count) same in
    record {
      lines = is.lines;
      statuses = is.statuses;
      fits = accepted-fits course.lines command course.source after e is.fits;
      count = omega arith;
      taken = is.taken;
      bits = is.bits;
    }

-- ---- a decision step
settled-size : (group : ℕ) (told : Option Told) (table : Table) →
    length (told_on (heard group told table)).order ≡ length table.order
settled-size group told table =
    let line : Member → ℕ = λ member. member.line in
    sym (length-map (told_on (heard group told table)).order line)
    ∙ ap length (told_on-lines (heard group told table) ∙ ap lines_of (heard-order group told table))
    ∙ length-map table.order line

pub settled-room : (lines group : ℕ) (told : Option Told) (source : Source) (line : ℕ) (commands : List Command) →
    lines ≤ most_lines → Fits lines source →
    source.waiting ≡ add line ∷ commands → length (told_on (heard group told source.table)).order < most_lines
settled-room lines group told source line commands most fits waits =
    let room = Fits-room lines source line commands fits waits in
    let same = settled-size group told source.table in
    omega arith

-- planned lines are as before
abbrev pub with_planned : List Bool → Source → Source
with_planned planned source = record { table = source.table; planned = planned; waiting = source.waiting }

change_by-planned : (commands : List Command) (source : Source) (table : Table) →
    with_planned source.planned (change_by commands (record { table = table; planned = []; waiting = commands }) table)
    ≡ change_by commands source table
change_by-planned [] source table = refl
change_by-planned (command ∷ commands) source table = refl

change-planned : (source : Source) (table : Table) →
    with_planned source.planned (changed_by source.waiting table) ≡ change source table
change-planned source table =
    elim table.acknowledged as (λ b. with_planned source.planned
    (if b then change_by source.waiting (record { table = table; planned = []; waiting = source.waiting }) table
    else record { table = table; planned = []; waiting = source.waiting })
    ≡ (if b then change_by source.waiting source table
    else record { table = table; planned = source.planned; waiting = source.waiting })) [
      | true ↦ change_by-planned source.waiting source table
      | false ↦ refl
    ]

pub decided-fields : (group : ℕ) (told : Option Told) (source : Source) (settled table : Table)
    (waiting : List Command) →
    settled ≡ told_on (heard group told source.table) → table ≡ (changed_by source.waiting settled).table →
    waiting ≡ (changed_by source.waiting settled).waiting →
    record { table = table; planned = source.planned; waiting = waiting } ≡ decide group told source
decided-fields group told source settled table waiting is_settled is_table is_waiting =
    ap (λ table. record { table = table; planned = source.planned; waiting = waiting }) is_table
    ∙ ap (λ waiting. record {
      table = (changed_by source.waiting settled).table;
      planned = source.planned;
      waiting =
          waiting;
    }) is_waiting
    ∙ change-planned source settled ∙ ap (change source) is_settled

exchanged-count : (found : Option (List Member)) (table : Table) → (exchanged found table).count ≤ table.count + 1
exchanged-count None table = omega arith
exchanged-count (Some order) table = omega arith

change_by-count : (commands : List Command) (source : Source) (table : Table) →
    (change_by commands source table).table.count ≤ table.count + 1
change_by-count [] source table = exchanged-count (exchange (kept_of table) 0 table.order) table
change_by-count (add line ∷ commands) source table = omega arith
change_by-count (remove line ∷ commands) source table = omega arith

change-count : (source : Source) (table : Table) → (change source table).table.count ≤ table.count + 1
change-count source table =
    elim table.acknowledged as (λ b.
    (if b then change_by source.waiting source table
    else record { table = table; planned = source.planned; waiting = source.waiting }).table.count ≤ table.count +
    1) [
      | true ↦ change_by-count source.waiting source table
      | false ↦ omega arith
    ]

count_of-small : (cell : Option (Option Told)) → count_of cell ≤ 1
count_of-small None = omega arith
count_of-small (Some told) = omega arith

pub IsTable-decided : (course : Course) (group bits : List Bool) (told : Option Told) (cell : Option (Option Told))
    (after : Source) →
    after ≡ decide (course.taken % course.statuses) told course.source → bits ≡ bits_from course.steps → IsTable course group →
    IsTable (record {
      lines = course.lines;
      statuses = course.statuses;
      source = after;
      taken = course.taken + count_of cell;
      steps =
          course.steps + 1;
    }) bits
IsTable-decided course group bits told cell after e next is =
    let counts = is.count in
    let takens = is.taken in
    let heard_count = heard-count (course.taken % course.statuses) told course.source.table in
    let rises = change-count course.source (told_on (heard (course.taken % course.statuses) told course.source.table)) in
    let count = ap (λ source. source.table.count) e in
    let small = count_of-small cell in
    let now : course.steps ≡ course.steps + 1 - 1 = omega arith in
    record {
      lines = is.lines;
      statuses = is.statuses;
      fits = subst (Fits course.lines) (sym e)
          (Fits-decide course.lines (course.taken % course.statuses) told course.source is.fits);
      count = omega arith;
      taken = omega arith;
      bits = next ∙ ap bits_from now;
    }

-- ---- a return cell
pub packet_read-none : (nibbles : List ℕ) → list_all (λ nibble. nat_lt nibble 16) nibbles ≡ false →
    packet_read (read_of nibbles) ≡ None
unfolding read_of
packet_read-none nibbles e =
    let test = and_right (length nibbles == 16) (list_all (λ nibble. nat_lt nibble 16) nibbles) e in
    rw test refl

-- ---- The course of the calls that a scenario makes.
-- commands, one after the other
asked-course : (commands : List Command) (course : Course) →
    fold called course (map asks commands)
    ≡ record {
      lines = course.lines;
      statuses = course.statuses;
      source = asked_all course.lines commands course.source;
      taken = course.taken;
      steps = course.steps;
    }
asked-course [] course = refl
asked-course (command ∷ commands) course = asked-course commands (called course (asks command))

given-said : (scenario : Scenario) (cells : List (Option Told)) (j : ℕ) →
    said_by (given_at scenario cells j) ≡ cell_at scenario cells j
given-said scenario cells j =
    elim (nat_le scenario.lag j) as (λ b. said_by
    (if b then Some (slice_index_or cells (j - scenario.lag) None) else None)
    ≡ (if b then slice_index_or cells (j - scenario.lag) None else None)) [ true ↦ refl | false ↦ refl ]

given-count : (scenario : Scenario) (cells : List (Option Told)) (j : ℕ) →
    j - scenario.lag + count_of (given_at scenario cells j) ≡ suc j - scenario.lag
given-count scenario cells j =
    elim (nat_le scenario.lag j) as (λ b. nat_le scenario.lag j ≡ b →
    j - scenario.lag + count_of (if b then Some (slice_index_or cells (j - scenario.lag) None) else None)
    ≡ suc j - scenario.lag) [
      | true ↦ λ e. let h = leb-true scenario.lag j e in omega arith
      | false ↦ λ e. let h = leb-false scenario.lag j e in omega arith
    ] refl

abbrev pub session_course : Scenario → List (Option Told) → ℕ → Course
session_course scenario cells j = record {
  lines = length scenario.windows;
  statuses = scenario.options.statuses;
  source = after scenario cells j;
  taken = j - scenario.lag;
  steps = j;
}

after-next : (scenario : Scenario) (cells : List (Option Told)) (j : ℕ) →
    after scenario cells (suc j) ≡ decide ((j - scenario.lag) % scenario.options.statuses) (cell_at scenario cells j)
    (asked_all (length scenario.windows) (orders_at scenario j) (after scenario cells j))
unfolding after
after-next scenario cells j = refl

after-none : (scenario : Scenario) (cells : List (Option Told)) →
    after scenario cells 0 ≡ opening (length scenario.windows)
unfolding after
after-none scenario cells = refl

one-step : (scenario : Scenario) (cells : List (Option Told)) (j : ℕ) →
    fold called (session_course scenario cells j)
    (map asks (orders_at scenario j) ++ decides (given_at scenario cells j) ∷ []) ≡ session_course scenario cells
    (suc j)
one-step scenario cells j =
    let lines = length scenario.windows in
    let statuses = scenario.options.statuses in
    let source = asked_all lines (orders_at scenario j) (after scenario cells j) in
    let steps : j + 1 ≡ suc j = omega arith in
    fold-append called (session_course scenario cells j) (map asks (orders_at scenario j))
    (decides (given_at scenario cells j) ∷ [])
    ∙ ap (λ course. called course (decides (given_at scenario cells j)))
    (asked-course (orders_at scenario j) (session_course scenario cells j))
    ∙ ap (λ told. record {
      lines = lines;
      statuses = statuses;
      source = decide ((j - scenario.lag) % statuses) told source;
      taken =
          j - scenario.lag + count_of (given_at scenario cells j);
      steps = j + 1;
    }) (given-said scenario cells j)
    ∙ ap (λ source. record {
      lines = lines;
      statuses = statuses;
      source = source;
      taken =
          j - scenario.lag + count_of (given_at scenario cells j);
      steps = j + 1;
    }) (sym (after-next scenario cells j))
    ∙ ap₂ (λ taken steps. record {
      lines = lines;
      statuses = statuses;
      source = after scenario cells (suc j);
      taken = taken;
      steps = steps;
    })
    (given-count scenario cells j) steps

pub course-of_scenario : (scenario : Scenario) (cells : List (Option Told)) (j : ℕ) →
    course_of (length scenario.windows) scenario.options.statuses (calls_before scenario cells j)
    ≡ session_course scenario cells j
unfolding calls_before
course-of_scenario scenario cells zero =
    let none : 0 - scenario.lag ≡ 0 = omega arith in
    ap₂ (λ source taken. record {
      lines = length scenario.windows;
      statuses = scenario.options.statuses;
      source = source;
      taken = taken;
      steps = 0;
    })
    (sym (after-none scenario cells)) (sym none)
course-of_scenario scenario cells (suc j) =
    fold-append called (begun (length scenario.windows) scenario.options.statuses) (calls_before scenario cells j)
    (map asks (orders_at scenario j) ++ decides (given_at scenario cells j) ∷ [])
    ∙ ap (λ course. fold called course (map asks (orders_at scenario j) ++ decides (given_at scenario cells j) ∷ []))
    (course-of_scenario scenario cells j)
    ∙ one-step scenario cells j
