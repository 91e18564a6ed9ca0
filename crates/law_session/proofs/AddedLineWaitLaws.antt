-- A line in ADD that waits from the step that adds it on: what each step hears of it, and when it is in use.
use Rattle.std.proofs.Common.{◌≡◌, ◌⊎◌, ℕ, zero, suc, ◌+◌, ◌-◌, ◌*◌, ◌/◌, ◌%◌, ◌<◌, ◌≤◌, ◌==◌, Bool, true, false}
use Rattle.std.proofs.Common.{if◌then◌else◌, inl, inr, List, [], ◌∷◌, map, length, Option, Some, None, slice_get}
use Rattle.std.proofs.Common.{slice_index_or, option_map, refl, sym, ◌∙◌, ap, subst, arith, true≢false}
use Rattle.std.proofs.lemmas.Bool.{cases_lt, eqb-true, eq-eqb, eqb-false, le-leb}
use Rattle.std.proofs.lemmas.Option.{none-some, same_Some, slice_get-map}
use Rattle.law_model.specs.Common.{Scenario, orders_at, is_read, is_heard, kept_of, member_of, Table, Told, is_ok}
use Rattle.law_model.specs.Common.{is_fail, is_for, acknowledged_by, heard, admit, told_on, changed, exchange}
use Rattle.law_model.specs.Common.{exchanged, Source, change_by, change, after, cell_at, source_at, told_at, first_of}
use Rattle.law_model.specs.Common.{IsStatuses, group_of, table_of, is_line_up, status, return_packet, carried_out}
use Rattle.law_model.specs.Common.{cells_before, most_lines}
use Rattle.law_model.specs.declared.lcas_states.Command.{Command}
use Rattle.law_model.specs.declared.lcas_states.Member.{Member}
use Rattle.law_model.specs.declared.lcas_states.Standing.TheVariants.{Add as adding, Norm as normal}
use Rattle.law_model.specs.source.Source.{carried}
use Rattle.law_session.specs.LineInUse.{IsInUse, IsUsedBefore, known_by, IsAdded, AddsAlone, AllCome, AllSeen}
use Rattle.law_session.specs.Feedback.{lines_of, table_before}
use Rattle.law_session.proofs.ReturnCellAndLineWordLaws.{IsSession, asked_all-table, rises, stays, said-count, known}
use Rattle.law_session.proofs.ReturnCellAndLineWordLaws.{says_count, cell-taken, said-heard, word-of, word-here}
use Rattle.law_session.proofs.ReturnCellAndLineWordLaws.{status-from, status-none, keep-at, full-after, session-cell}
use Rattle.law_session.proofs.ReturnCellAndLineWordLaws.{session-law, none_kept-at}
use Rattle.law_session.proofs.AdmittedAndExchangedLineLaws.{Has, IsIn, IsKept, Fine, Admitted, admit-adding}
use Rattle.law_session.proofs.AdmittedAndExchangedLineLaws.{admit-adds, admit-all, turned-adding, turned-adds}
use Rattle.law_session.proofs.AdmittedAndExchangedLineLaws.{turned-normal, exchange-none, exchange-keeps}
use Rattle.law_model.proofs.ListLaws.{slice_get-append_seam}
use Rattle.law_model.specs.declared.lcas_states.Command.TheVariants.{Add as add}
use Rattle.law_session.proofs.DecisionStepMemberLaws.{heard-count}
use Rattle.law_session.proofs.UpLineAndReadablePacketLaws.{some_heard}
use Rattle.law_session.proofs.SourceOrderAndPlanLaws.{line-inside}

-- ---- How soon an ADD line is in use.
-- no status is kept, or this one
abbrev pub MaySay : Bool → Option Bool → Type 0
MaySay ok kept = (kept ≡ None) ⊎ (kept ≡ Some ok)

-- ---- a change that a step made, and what comes back of as many packets from it on as tell all statuses
-- packet k is one of the round of statuses from packet first on
abbrev pub InRound : Scenario → ℕ → ℕ → Type 0
InRound scenario first k = k < first + scenario.options.statuses

pub record IsFair (scenario : Scenario) (cells : List (Option Told)) (good : ℕ → Bool) (first sq : ℕ) : Type 0 where
  pub lag : 0 < scenario.lag
  pub statuses : IsStatuses scenario.options.statuses
  pub session : IsSession scenario cells
  pub rose : (table_before scenario cells first).count < (table_of scenario cells first).count
  pub comes : (k : ℕ) → first ≤ k → InRound scenario first k →
      slice_index_or cells k None ≡ Some (return_packet scenario cells k)
  pub hears : (k : ℕ) → first ≤ k → InRound scenario first k → is_heard scenario k ≡ true
  pub inside : (s line : ℕ) → Has (table_of scenario cells first).order s line adding → line < length scenario.windows
  pub reads : (s line k : ℕ) → s ≤ sq → Has (table_of scenario cells first).order s line adding → first ≤ k →
      InRound scenario first k → is_read scenario line k ≡ good line
  pub ups : (s line k : ℕ) → s ≤ sq → Has (table_of scenario cells first).order s line adding → first ≤ k →
      InRound scenario first k → good line ≡ true → is_line_up scenario line k ≡ true
  pub small : sq < most_lines

-- an ADD line that waits to be used, in a table before step i
pub record Waits (scenario : Scenario) (cells : List (Option Told)) (good : ℕ → Bool) (first sq line i : ℕ)
    (table : Table) : Type 0 where
  pub count : table.count ≡ (table_of scenario cells first).count
  pub here : Has table.order sq line adding
  pub adds : (s l : ℕ) → s ≤ sq → Has table.order s l adding → Has (table_of scenario cells first).order s l adding
  pub fine : (s l : ℕ) → s ≤ sq → Has table.order s l adding → MaySay (good l) ((kept_of table) s)
  pub tells : (s l k : ℕ) → s ≤ sq → Has table.order s l adding → first ≤ k → k + scenario.lag < i →
      s / 8 ≡ group_of scenario k → (kept_of table) s ≡ Some (good l)

-- the same once the return packet of step i is heard
pub record Hears (scenario : Scenario) (cells : List (Option Told)) (good : ℕ → Bool) (first sq line i : ℕ)
    (table heard : Table) : Type 0 where
  pub count : heard.count ≡ table.count
  pub order : heard.order ≡ table.order
  pub acknowledged : first + scenario.lag ≤ i → heard.acknowledged ≡ true
  pub fine : (s l : ℕ) → s ≤ sq → Has table.order s l adding → MaySay (good l) ((kept_of heard) s)
  pub tells : (s l k : ℕ) → s ≤ sq → Has table.order s l adding → first ≤ k → k + scenario.lag < suc i →
      s / 8 ≡ group_of scenario k → (kept_of heard) s ≡ Some (good l)

-- ---- a return packet of before the change isn't for it
not_for : (scenario : Scenario) (cells : List (Option Told)) (good : ℕ → Bool) (first sq line i : ℕ) →
    IsFair scenario cells good first sq →
    Waits scenario cells good first sq line i (table_before scenario cells i) → i < first + scenario.lag →
    is_for (table_before scenario cells i).count (cell_at scenario cells i) ≡ false
not_for scenario cells good first sq line i fair waits early =
    elim (cell_at scenario cells i)
    as (λ cell. cell_at scenario cells i ≡ cell → is_for (table_before scenario cells i).count cell ≡ false) [
      | None ↦ λ e. refl
      | Some told ↦ λ e.
          elim (told.rs_ack == (table_before scenario cells i).count % 2)
          as (λ b. (told.rs_ack == (table_before scenario cells i).count % 2) ≡ b → b ≡ false) [
            | true ↦ λ bit.
                let taken = cell-taken scenario cells i told e in
                let k = i - scenario.lag in
                let at : i ≡ k + scenario.lag = omega (arith, taken.0) in
                let whole = says_count scenario cells fair.session fair.lag i k at told taken.1
                (eqb-true told.rs_ack ((table_before scenario cells i).count % 2) bit)
                (known scenario cells fair.session fair.lag i k (omega (arith, at))) in
                let low = said-count scenario cells (suc k) in
                let place : first - suc k + suc k ≡ first = omega (arith, early, taken.0, fair.lag) in
                let later : (table_before scenario cells (suc k)).count ≤ (table_before scenario cells first).count =
                rw place at (rises scenario cells (suc k) (first - suc k)) in
                let rose = fair.rose in
                let count = waits.count in
                absurd (omega arith)
            | false ↦ λ bit. refl
          ] refl
    ] refl

heard-not : (group : ℕ) (told : Option Told) (table : Table) → is_for table.count told ≡ false →
    heard group told table ≡ table
heard-not group told table e = rw e refl

pub heard-for : (group : ℕ) (told : Option Told) (table : Table) → is_for table.count told ≡ true →
    heard group told table ≡ acknowledged_by group told table
heard-for group told table e = rw e refl

Hears-early : (scenario : Scenario) (cells : List (Option Told)) (good : ℕ → Bool) (first sq line i : ℕ) →
    IsFair scenario cells good first sq →
    Waits scenario cells good first sq line i (table_before scenario cells i) → i < first + scenario.lag →
    Hears scenario cells good first sq line i (table_before scenario cells i)
    (heard ((i - scenario.lag) % scenario.options.statuses) (cell_at scenario cells i) (table_before scenario cells i))
Hears-early scenario cells good first sq line i fair waits early =
    subst (Hears scenario cells good first sq line i (table_before scenario cells i))
    (sym (heard-not (group_of scenario (i - scenario.lag)) (cell_at scenario cells i) (table_before scenario cells i)
    (not_for scenario cells good first sq line i fair waits early)))
    (record {
      count = refl;
      order = refl;
      acknowledged = λ late. absurd (omega arith);
      fine = waits.fine;
      tells = λ s l k low has from near group. waits.tells s l k low has from (omega (arith, from, near, early)) group;
    })

-- ---- a return packet of the change
slice_get-eight : (f : ℕ → Bool) (r : ℕ) → r < 8 → slice_get (map f (0 ∷ 1 ∷ 2 ∷ 3 ∷ 4 ∷ 5 ∷ 6 ∷ 7 ∷ [])) r ≡ Some (f r)
slice_get-eight f zero h = refl
slice_get-eight f (suc zero) h = refl
slice_get-eight f (suc (suc zero)) h = refl
slice_get-eight f (suc (suc (suc zero))) h = refl
slice_get-eight f (suc (suc (suc (suc zero)))) h = refl
slice_get-eight f (suc (suc (suc (suc (suc zero))))) h = refl
slice_get-eight f (suc (suc (suc (suc (suc (suc zero)))))) h = refl
slice_get-eight f (suc (suc (suc (suc (suc (suc (suc zero))))))) h = refl
slice_get-eight f (suc (suc (suc (suc (suc (suc (suc (suc r)))))))) h = absurd (omega arith)

-- the member of an order that has a line
pub found_line : (found : Option Member) (line : ℕ) → option_map (λ member. member.line) found ≡ Some line →
    (member : Member) × (found ≡ Some member) × (member.line ≡ line)
found_line None line e = absurd (none-some line e)
found_line (Some member) line e = (member, refl, ap (λ o. elim o [ None ↦ 0 | Some l ↦ l ]) e)

pub cell_at-taken : (scenario : Scenario) (cells : List (Option Told)) (i : ℕ) (told : Told) → scenario.lag ≤ i →
    slice_index_or cells (i - scenario.lag) None ≡ Some told →
    cell_at scenario cells i ≡ Some told
cell_at-taken scenario cells i told low is = rw (le-leb scenario.lag i low) is

-- the count stays the same from the change on
count-stays : (scenario : Scenario) (cells : List (Option Told)) (first i k : ℕ) → first ≤ k → k < i →
    (table_before scenario cells i).count ≡ (table_of scenario cells first).count →
    (table_of scenario cells k).count ≡ (table_before scenario cells i).count
count-stays scenario cells first i k from before same =
    let place : k - first + suc first ≡ suc k = omega arith in
    let low : (table_of scenario cells first).count ≤ (table_of scenario cells k).count =
    rw place at (rises scenario cells (suc first) (k - first)) in
    let place_on : i - suc k + suc k ≡ i = omega arith in
    let high : (table_of scenario cells k).count ≤ (table_before scenario cells i).count =
    rw place_on at (rises scenario cells (suc k) (i - suc k)) in
    omega arith

pub lines-stay : (scenario : Scenario) (cells : List (Option Told)) (first i k : ℕ) → first ≤ k → k < i →
    (table_before scenario cells i).count ≡ (table_of scenario cells first).count →
    lines_of (table_before scenario cells i).order ≡ lines_of (table_of scenario cells k).order
lines-stay scenario cells first i k from before same =
    let count = count-stays scenario cells first i k from before same in
    let place_on : i - suc k + suc k ≡ i = omega arith in
    let stay : (table_before scenario cells i).count ≡ (table_of scenario cells k).count →
    lines_of (table_before scenario cells i).order ≡ lines_of (table_of scenario cells k).order =
    rw place_on at (stays scenario cells (suc k) (i - suc k)) in
    stay (sym count)

-- the line that has an SQ had it in each packet since the change
line-there : (scenario : Scenario) (cells : List (Option Told)) (first i k s l : ℕ) → first ≤ k → k < i →
    (table_before scenario cells i).count ≡ (table_of scenario cells first).count →
    Has (table_before scenario cells i).order s l adding →
    slice_get (lines_of (table_of scenario cells k).order) s ≡ Some l
line-there scenario cells first i k s l from before same has =
    sym (ap (λ lines. slice_get lines s) (lines-stay scenario cells first i k from before same))
    ∙ slice_get-map (λ member. member.line) (table_before scenario cells i).order s
    ∙ ap (option_map (λ member. member.line)) has

-- a packet of the count of the change isn't older than it
since-change : (scenario : Scenario) (cells : List (Option Told)) (first last : ℕ) →
    (table_before scenario cells first).count < (table_of scenario cells first).count →
    (table_of scenario cells last).count ≡ (table_of scenario cells first).count → first ≤ last
since-change scenario cells first last rose same =
    elim (cases_lt last first) [
      | inl older ↦
          let place : first - suc last + suc last ≡ first = omega arith in
          let low : (table_of scenario cells last).count ≤ (table_before scenario cells first).count =
          rw place at (rises scenario cells (suc last) (first - suc last)) in
          absurd (omega arith)
      | inr since ↦ since
    ]

-- the status of an ADD line: OK where it is up and can be read, FAIL where it can't be read since the change
status-ok : (scenario : Scenario) (cells : List (Option Told)) (good : ℕ → Bool) (first sq line i k s l : ℕ) →
    IsFair scenario cells good first sq →
    Waits scenario cells good first sq line i (table_before scenario cells i) → first ≤ k → k < i →
    InRound scenario first k → s ≤ sq → Has (table_before scenario cells i).order s l adding → good l ≡ true →
    status scenario cells k s ≡ true
status-ok scenario cells good first sq line i k s l fair waits from before near low has right =
    let there = waits.adds s l low has in
    let inside = fair.inside s l there in
    status-from scenario cells k s l k (record {
      inside = inside;
      up = fair.ups s l k low there from near right;
      word = word-here scenario cells l k inside (fair.reads s l k low there from near ∙ right);
      had = line-there scenario cells first i k s l from before waits.count has;
    })

status-fail : (scenario : Scenario) (cells : List (Option Told)) (good : ℕ → Bool) (first sq line i k s l : ℕ) →
    IsFair scenario cells good first sq →
    Waits scenario cells good first sq line i (table_before scenario cells i) → first ≤ k → k < i →
    InRound scenario first k → s ≤ sq → Has (table_before scenario cells i).order s l adding → good l ≡ false →
    status scenario cells k s ≡ false
status-fail scenario cells good first sq line i k s l fair waits from before near low has wrong =
    status-none scenario cells k s (λ m last spoken.
    let word = word-of scenario cells m k last spoken.word in
    let past = word.past in
    let heard = said-heard scenario cells k (fair.hears k from near) in
    let stays = count-stays scenario cells first i k from before waits.count in
    let count : (table_of scenario cells last).count ≡ (table_of scenario cells first).count =
    word.count ∙ heard ∙ stays ∙ waits.count in
    let since = since-change scenario cells first last fair.rose count in
    let had = line-there scenario cells first i last s l since (omega arith) waits.count has in
    let same : m ≡ l = same_Some m l (sym spoken.had ∙ had) in
    let read : is_read scenario l last ≡ true = subst (λ n. is_read scenario n last ≡ true) same word.read in
    let unread = fair.reads s l last low (waits.adds s l low has) since (omega arith) in
    true≢false (sym read ∙ unread ∙ wrong))

status-is : (scenario : Scenario) (cells : List (Option Told)) (good : ℕ → Bool) (first sq line i k s l : ℕ) →
    IsFair scenario cells good first sq →
    Waits scenario cells good first sq line i (table_before scenario cells i) → first ≤ k → k < i →
    InRound scenario first k → s ≤ sq → Has (table_before scenario cells i).order s l adding →
    status scenario cells k s ≡ good l
status-is scenario cells good first sq line i k s l fair waits from before near low has =
    elim (good l) as (λ b. good l ≡ b → status scenario cells k s ≡ b) [
      | true ↦ status-ok scenario cells good first sq line i k s l fair waits from before near low has
      | false ↦ status-fail scenario cells good first sq line i k s l fair waits from before near low has
    ] refl

pub kept-is : (scenario : Scenario) (cells : List (Option Told)) (good : Bool) (k s : ℕ) → s / 8 ≡ group_of scenario k →
    status scenario cells k s ≡ good →
    slice_get (return_packet scenario cells k).oks (s % 8) ≡ Some good
kept-is scenario cells good k s group ok =
    let place : 8 * group_of scenario k + s % 8 ≡ s = omega arith in
    slice_get-eight (λ r. status scenario cells k (8 * group_of scenario k + r)) (s % 8) (omega arith)
    ∙ ap (λ n. Some (status scenario cells k n)) place ∙ ap Some ok

Hears-packet : (scenario : Scenario) (cells : List (Option Told)) (good : ℕ → Bool) (first sq line i k : ℕ) →
    IsFair scenario cells good first sq →
    Waits scenario cells good first sq line i (table_before scenario cells i) → first ≤ k → i ≡ k + scenario.lag →
    InRound scenario first k →
    Hears scenario cells good first sq line i (table_before scenario cells i)
    (acknowledged_by (group_of scenario k) (Some (return_packet scenario cells k)) (table_before scenario cells i))
Hears-packet scenario cells good first sq line i k fair waits from at near =
    let lag = fair.lag in
    let kept = (kept_of (table_before scenario cells i)) in
    let full = full-after scenario cells i in
    let small = fair.small in
    let oks = (return_packet scenario cells k).oks in
    record {
      count = refl;
      order = refl;
      acknowledged = λ late. refl;
      fine = λ s l low has.
          subst (MaySay (good l))
          (sym (keep-at (group_of scenario k) oks (table_before scenario cells i).statuses s (omega arith)))
          (elim (s / 8 == group_of scenario k) as (λ b. (s / 8 == group_of scenario k) ≡ b →
          MaySay (good l) (if b then slice_get oks (s % 8) else kept s)) [
            | true ↦ λ e. inr (kept-is scenario cells (good l) k s (eqb-true (s / 8) (group_of scenario k) e)
                (status-is scenario cells good first sq line i k s l fair waits from (omega arith) near low has))
            | false ↦ λ e. waits.fine s l low has
          ] refl);
      tells = λ s l n low has start done group.
          keep-at (group_of scenario k) oks (table_before scenario cells i).statuses s (omega arith)
          ∙ elim (s / 8 == group_of scenario k) as (λ b. (s / 8 == group_of scenario k) ≡ b →
          (if b then slice_get oks (s % 8) else kept s) ≡ Some (good l)) [
            | true ↦ λ e. kept-is scenario cells (good l) k s (eqb-true (s / 8) (group_of scenario k) e)
                (status-is scenario cells good first sq line i k s l fair waits from (omega arith) near low has)
            | false ↦ λ e.
                elim (cases_lt (n + scenario.lag) i) [
                  | inl before ↦ waits.tells s l n low has start before group
                  | inr last ↦
                      let same : n ≡ k = omega arith in
                      absurd (eqb-false (s / 8) (group_of scenario k) e (group ∙ ap (group_of scenario) same))
                ]
          ] refl;
    }

Hears-later : (scenario : Scenario) (cells : List (Option Told)) (good : ℕ → Bool) (first sq line i : ℕ) →
    IsFair scenario cells good first sq →
    Waits scenario cells good first sq line i (table_before scenario cells i) → first + scenario.lag ≤ i →
    i ≤ known_by scenario first →
    Hears scenario cells good first sq line i (table_before scenario cells i)
    (heard ((i - scenario.lag) % scenario.options.statuses) (cell_at scenario cells i) (table_before scenario cells i))
Hears-later scenario cells good first sq line i fair waits late near =
    let k = i - scenario.lag in
    let at : i ≡ k + scenario.lag = omega (arith, late) in
    let from : first ≤ k = omega (arith, late) in
    let lag = fair.lag in
    let close : InRound scenario first k = omega (arith, late, near) in
    let cell = cell_at-taken scenario cells i (return_packet scenario cells k) (omega (arith, late))
    (fair.comes k from close) in
    let count = said-heard scenario cells k (fair.hears k from close)
    ∙ count-stays scenario cells first i k from (omega (arith, at, lag)) waits.count in
    let for_it : is_for (table_before scenario cells i).count (Some (return_packet scenario cells k)) ≡ true =
    eq-eqb _ _ (ap (λ n. n % 2) count) in
    rw cell (rw (heard-for (group_of scenario k) (Some (return_packet scenario cells k)) (table_before scenario cells i)
    for_it)
    (Hears-packet scenario cells good first sq line i k fair waits from at close))

-- ---- the table when step i comes to a change
pub told_at-table : (scenario : Scenario) (cells : List (Option Told)) (i : ℕ) →
    told_at scenario cells i ≡ told_on
    (heard ((i - scenario.lag) % scenario.options.statuses) (cell_at scenario cells i) (table_before scenario cells i))
told_at-table scenario cells i =
    ap (λ table. told_on (heard ((i - scenario.lag) % scenario.options.statuses) (cell_at scenario cells i) table))
    (asked_all-table (length scenario.windows) (orders_at scenario i) (after scenario cells i))

pub after-change : (scenario : Scenario) (cells : List (Option Told)) (i : ℕ) →
    after scenario cells (suc i) ≡ change (source_at scenario cells i) (told_at scenario cells i)
unfolding after
after-change scenario cells i = refl

-- where no command is carried out: what a change may do
exchanged-keeps : (found : Option (List Member)) (table : Table) (member : Member) → IsKept found member →
    IsIn table.order member → IsIn (exchanged found table).order member
exchanged-keeps None table member kept inside = inside
exchanged-keeps (Some order) table member kept inside = kept

change_by-keeps : (commands : List Command) (source : Source) (table : Table) (member : Member) →
    first_of commands ≡ None → IsIn table.order member →
    IsIn (change_by commands source table).table.order member
change_by-keeps [] source table member none inside =
    exchanged-keeps (exchange (kept_of table) 0 table.order) table member
    (exchange-keeps (kept_of table) 0 table.order member inside.0 inside.1) inside
change_by-keeps (command ∷ commands) source table member none inside = absurd (none-some command (sym none))

change-keeps : (source : Source) (table : Table) (member : Member) →
    (if table.acknowledged then first_of source.waiting else None) ≡ None →
    IsIn table.order member → IsIn (change source table).table.order member
change-keeps source table member none inside =
    elim table.acknowledged as (λ b. (if b then first_of source.waiting else None) ≡ None →
    IsIn (if b then change_by source.waiting source table
    else record { table = table; planned = source.planned; waiting = source.waiting }).table.order member) [
      | true ↦ λ none. change_by-keeps source.waiting source table member none inside
      | false ↦ λ none. inside
    ] none

-- ---- one step
pub not_fail : (ok : Bool) (kept : Option Bool) → MaySay ok kept → ok ≡ true → is_fail kept ≡ false
not_fail ok kept (inl none) good = rw none refl
not_fail ok kept (inr says) good = rw (says, good) refl

pub told_on-adding : (table : Table) (sq line : ℕ) → Has (told_on table).order sq line adding →
    Has table.order sq line adding
told_on-adding table sq line has =
    admit-adding (kept_of table) 0 table.order sq line
    (turned-adding (kept_of table) 0 (admit (kept_of table) 0 table.order) sq line has)

pub told_on-adds : (table : Table) (sq line : ℕ) → is_fail ((kept_of table) sq) ≡ false →
    Has table.order sq line adding → Admitted (told_on table).order sq line
told_on-adds table sq line fine has =
    let e : 0 + sq ≡ sq = omega arith in
    elim (admit-adds (kept_of table) 0 table.order sq line has) [
      | inl adds ↦ inl (turned-adds (kept_of table) 0 (admit (kept_of table) 0 table.order) sq line adds)
      | inr used ↦ inr (turned-normal (kept_of table) 0 (admit (kept_of table) 0 table.order) sq line (rw e fine) used)
    ]

told_on-all : (table : Table) (sq line : ℕ) → is_fail ((kept_of table) sq) ≡ false →
    Fine (kept_of table) 0 table.order sq → Has table.order sq line adding →
    Has (told_on table).order sq line normal
told_on-all table sq line fine ok has =
    let e : 0 + sq ≡ sq = omega arith in
    turned-normal (kept_of table) 0 (admit (kept_of table) 0 table.order) sq line (rw e fine)
    (admit-all (kept_of table) 0 table.order sq line ok has)

-- the table in which step i has heard its return packet
unfoldable pub heard_at : Scenario → List (Option Told) → ℕ → Table
heard_at scenario cells i =
    heard (group_of scenario (i - scenario.lag)) (cell_at scenario cells i) (table_before scenario cells i)

pub Hears-step : (scenario : Scenario) (cells : List (Option Told)) (good : ℕ → Bool) (first sq line i : ℕ) →
    IsFair scenario cells good first sq →
    Waits scenario cells good first sq line i (table_before scenario cells i) → i ≤ known_by scenario first →
    Hears scenario cells good first sq line i (table_before scenario cells i) (heard_at scenario cells i)
unfolding heard_at
Hears-step scenario cells good first sq line i fair waits near =
    elim (cases_lt i (first + scenario.lag)) [
      | inl early ↦ Hears-early scenario cells good first sq line i fair waits early
      | inr late ↦ Hears-later scenario cells good first sq line i fair waits late near
    ]

pub next-table : (scenario : Scenario) (cells : List (Option Told)) (i : ℕ) →
    table_before scenario cells (suc i) ≡
    (change (source_at scenario cells i) (told_on (heard_at scenario cells i))).table
unfolding heard_at
next-table scenario cells i = ap (λ source. source.table) (after-change scenario cells i)
    ∙ ap (λ table. (change (source_at scenario cells i) table).table) (told_at-table scenario cells i)

pub next-carried : (scenario : Scenario) (cells : List (Option Told)) (i : ℕ) → carried scenario cells i ≡ None →
    (if (told_on (heard_at scenario cells i)).acknowledged then first_of (source_at scenario cells i).waiting else None)
    ≡ None
unfolding heard_at
next-carried scenario cells i none =
    subst (λ table. (if table.acknowledged then first_of (source_at scenario cells i).waiting else None) ≡ None)
    (told_at-table scenario cells i) none

-- lines are exchanged
pub record Exchanges (before after : Table) : Type 0 where
  pub order : List Member
  pub found : exchange (kept_of before) 0 before.order ≡ Some order
  pub changes : after ≡ changed order before.leaving before

exchanged-cases : (table : Table) (found : Option (List Member)) → exchange (kept_of table) 0 table.order ≡ found →
    (exchanged found table ≡ table) ⊎ Exchanges table (exchanged found table)
exchanged-cases table None e = inl refl
exchanged-cases table (Some order) e = inr (record { order = order; found = e; changes = refl })

change_by-cases : (commands : List Command) (source : Source) (table : Table) → first_of commands ≡ None →
    ((change_by commands source table).table ≡ table) ⊎ Exchanges table (change_by commands source table).table
change_by-cases [] source table none = exchanged-cases table (exchange (kept_of table) 0 table.order) refl
change_by-cases (command ∷ commands) source table none = absurd (none-some command (sym none))

change-cases : (source : Source) (table : Table) →
    (if table.acknowledged then first_of source.waiting else None) ≡ None →
    ((change source table).table ≡ table) ⊎ Exchanges table (change source table).table
change-cases source table none =
    elim table.acknowledged as (λ b. (if b then first_of source.waiting else None) ≡ None →
    ((if b then change_by source.waiting source table
    else record { table = table; planned = source.planned; waiting = source.waiting }).table ≡ table)
    ⊎ Exchanges table (if b then change_by source.waiting source table
    else record { table = table; planned = source.planned; waiting = source.waiting }).table) [
      | true ↦ λ none. change_by-cases source.waiting source table none
      | false ↦ λ none. inl refl
    ] none

pub Waits-next : (scenario : Scenario) (cells : List (Option Told)) (good : ℕ → Bool) (first sq line i : ℕ)
    (table before : Table) →
    Waits scenario cells good first sq line i before → Hears scenario cells good first sq line i before table →
    Has (told_on table).order sq line adding → Waits scenario cells good first sq line (suc i) (told_on table)
Waits-next scenario cells good first sq line i table before waits hears has =
    let was = λ (s l : ℕ) (h : Has (told_on table).order s l adding). subst (λ order. Has order s l adding) hears.order
    (told_on-adding table s l h) in
    record {
      count = hears.count ∙ waits.count;
      here = has;
      adds = λ s l low h. waits.adds s l low (was s l h);
      fine = λ s l low h. hears.fine s l low (was s l h);
      tells = λ s l k low h from near group. hears.tells s l k low (was s l h) from near group;
    }

-- what step i does, where it carries out no command: the line waits, or lines are exchanged while it waits, or it is in
-- use
pub data Goes_on (scenario : Scenario) (cells : List (Option Told)) (good : ℕ → Bool)
    (first sq line i : ℕ) : Type 0 where
  waiting : Waits scenario cells good first sq line (suc i) (table_before scenario cells (suc i)) →
      Goes_on scenario cells good first sq line i
  moving : Waits scenario cells good first sq line (suc i) (told_on (heard_at scenario cells i)) →
      Exchanges (told_on (heard_at scenario cells i)) (table_of scenario cells i) →
      Goes_on scenario cells good first sq line i
  using : IsInUse (table_of scenario cells i) line → Goes_on scenario cells good first sq line i

pub used_at : (scenario : Scenario) (cells : List (Option Told)) (sq line i : ℕ) → carried scenario cells i ≡ None →
    Has (told_on (heard_at scenario cells i)).order sq line normal →
    IsInUse (table_of scenario cells i) line
used_at scenario cells sq line i none used =
    subst (λ t. IsInUse t line) (sym (next-table scenario cells i))
    (change-keeps (source_at scenario cells i) (told_on (heard_at scenario cells i)) (member_of line normal)
    (next-carried scenario cells i none) (sq, used))

pub step-on : (scenario : Scenario) (cells : List (Option Told)) (good : ℕ → Bool) (first sq line i : ℕ) →
    IsFair scenario cells good first sq → good line ≡ true →
    Waits scenario cells good first sq line i (table_before scenario cells i) → i ≤ known_by scenario first →
    carried scenario cells i ≡ None →
    Goes_on scenario cells good first sq line i
step-on scenario cells good first sq line i fair right waits near none =
    let table = heard_at scenario cells i in
    let hears = Hears-step scenario cells good first sq line i fair waits near in
    let has : Has table.order sq line adding = subst (λ order. Has order sq line adding) (sym hears.order) waits.here in
    let fine = not_fail (good line) ((kept_of table) sq) (hears.fine sq line (omega arith) waits.here) right in
    elim (told_on-adds table sq line fine has) [
      | inl adds ↦
          let next = Waits-next scenario cells good first sq line i table (table_before scenario cells i) waits hears
          adds in
          elim (change-cases (source_at scenario cells i) (told_on table) (next-carried scenario cells i none)) [
            | inl same ↦ waiting (subst (Waits scenario cells good first sq line (suc i))
                (sym (next-table scenario cells i ∙ same)) next)
            | inr moves ↦ moving next (subst (Exchanges (told_on table)) (sym (next-table scenario cells i)) moves)
          ]
      | inr used ↦ using (used_at scenario cells sq line i none used)
    ]

-- none are exchanged where each ADD line up to the line is good
abbrev pub AllGood : Scenario → List (Option Told) → (ℕ → Bool) → ℕ → ℕ → Type 0
AllGood scenario cells good first sq = (s l : ℕ) → s ≤ sq → Has (table_of scenario cells first).order s l adding →
    good l ≡ true

no_exchange : (scenario : Scenario) (cells : List (Option Told)) (good : ℕ → Bool) (first sq line i : ℕ)
    (table after : Table) →
    AllGood scenario cells good first sq → Waits scenario cells good first sq line i table → Exchanges table after → ⊥
no_exchange scenario cells good first sq line i table after all waits moves =
    let none = exchange-none (kept_of table) 0 table.order sq line
    (λ s l low h. let e : 0 + s ≡ s = omega arith in
    rw e (not_fail (good l) ((kept_of table) s) (waits.fine s l low h) (all s l low (waits.adds s l low h)))) waits.here
    in
    none-some moves.order (sym none ∙ moves.found)

-- each group of statuses is told in a round
pub sixteen : (statuses : ℕ) → IsStatuses statuses → 16 ≤ statuses
sixteen statuses (inl short) = omega arith
sixteen statuses (inr long) = omega arith

pub in_round : (statuses first group : ℕ) → IsStatuses statuses → group < 16 →
    (k : ℕ) × (first ≤ k) × (k < first + statuses) × (group ≡ k % statuses)
in_round statuses first group (inl short) low = rw short (
  first + (group + 16 - first % 16) % 16,
  omega arith,
  omega arith,
  omega arith,
)
in_round statuses first group (inr long) low = rw long (
  first + (group + 32 - first % 32) % 32,
  omega arith,
  omega arith,
  omega arith,
)

-- the last step: each status is known
pub known-last : (scenario : Scenario) (cells : List (Option Told)) (good : ℕ → Bool) (first sq line i s l : ℕ) →
    IsFair scenario cells good first sq →
    Waits scenario cells good first sq line i (table_before scenario cells i) → i ≡ known_by scenario first →
    s ≤ sq → Has (table_before scenario cells i).order s l adding →
    (kept_of (heard_at scenario cells i)) s ≡ Some (good l)
known-last scenario cells good first sq line i s l fair waits at low h =
    let size = sixteen scenario.options.statuses fair.statuses in
    let hears = Hears-step scenario cells good first sq line i fair waits (omega arith) in
    let small = fair.small in
    let round = in_round scenario.options.statuses first (s / 8) fair.statuses (omega arith) in
    hears.tells s l round.0 low h round.1 (omega (arith, round.2)) round.3

step-last : (scenario : Scenario) (cells : List (Option Told)) (good : ℕ → Bool) (first sq line i : ℕ) →
    IsFair scenario cells good first sq → AllGood scenario cells good first sq →
    Waits scenario cells good first sq line i (table_before scenario cells i) → i ≡ known_by scenario first →
    carried scenario cells i ≡ None →
    IsInUse (table_of scenario cells i) line
step-last scenario cells good first sq line i fair all waits at none =
    let size = sixteen scenario.options.statuses fair.statuses in
    let table = heard_at scenario cells i in
    let hears = Hears-step scenario cells good first sq line i fair waits (omega arith) in
    let has : Has table.order sq line adding = subst (λ order. Has order sq line adding) (sym hears.order) waits.here in
    let ok : Fine (kept_of table) 0 table.order sq = λ s l low h.
    let e : 0 + s ≡ s = omega arith in
    let there = subst (λ order. Has order s l adding) hears.order h in
    rw e (ap is_ok (known-last scenario cells good first sq line i s l fair waits at low there)
    ∙ all s l low (waits.adds s l low there)) in
    let right = all sq line (omega arith) (waits.adds sq line (omega arith) waits.here) in
    let fine = not_fail (good line) ((kept_of table) sq) (hears.fine sq line (omega arith) waits.here) right in
    used_at scenario cells sq line i none (told_on-all table sq line fine ok has)

-- ---- all steps up to that one
abbrev pub State : Scenario → List (Option Told) → (ℕ → Bool) → ℕ → ℕ → ℕ → ℕ → ℕ → Type 0
State scenario cells good since first sq line i =
    Waits scenario cells good first sq line i (table_before scenario cells i) ⊎ IsUsedBefore scenario cells line since i

abbrev pub Alone : Scenario → List (Option Told) → ℕ → ℕ → ℕ → Type 0
Alone scenario cells line since last =
    (i : ℕ) (command : Command) → since < i → i ≤ last → carried scenario cells i ≡ Some command →
    IsUsedBefore scenario cells line since i

pub used-longer : (scenario : Scenario) (cells : List (Option Told)) (line since i j : ℕ) → i ≤ j →
    IsUsedBefore scenario cells line since i → IsUsedBefore scenario cells line since j
used-longer scenario cells line since i j longer used =
    let before = used.before in
    record { packet = used.packet; from = used.from; before = omega arith; in_use = used.in_use }

pub used-now : (scenario : Scenario) (cells : List (Option Told)) (line since i : ℕ) → since ≤ i →
    IsInUse (table_of scenario cells i) line → IsUsedBefore scenario cells line since (suc i)
used-now scenario cells line since i from now = record { packet = i; from = from; before = omega arith; in_use = now }

state-next : (scenario : Scenario) (cells : List (Option Told)) (good : ℕ → Bool) (since first sq line i : ℕ) →
    IsFair scenario cells good first sq → AllGood scenario cells good first sq →
    Alone scenario cells line since (known_by scenario first) → since ≤ first → first < i →
    i < known_by scenario first →
    State scenario cells good since first sq line i → State scenario cells good since first sq line (suc i)
state-next scenario cells good since first sq line i fair all alone start from near (inr used) =
    inr (used-longer scenario cells line since i (suc i) (omega arith) used)
state-next scenario cells good since first sq line i fair all alone start from near (inl waits) =
    elim (carried scenario cells i)
    as (λ c. carried scenario cells i ≡ c → State scenario cells good since first sq line (suc i)) [
      | None ↦ λ e.
          elim (step-on scenario cells good first sq line i fair
          (all sq line (omega arith) (waits.adds sq line (omega arith) waits.here)) waits (omega arith) e) [
            | waiting next ↦ inl next
            | moving next moves ↦ absurd (no_exchange scenario cells good first sq line (suc i)
                (told_on (heard_at scenario cells i)) (table_of scenario cells i) all next moves)
            | using now ↦ inr (used-now scenario cells line since i (omega arith) now)
          ]
      | Some command ↦ λ e. inr (used-longer scenario cells line since i (suc i) (omega arith)
          (alone i command (omega arith) (omega arith) e))
    ] refl

state-many : (scenario : Scenario) (cells : List (Option Told)) (good : ℕ → Bool) (since first sq line : ℕ) →
    IsFair scenario cells good first sq → AllGood scenario cells good first sq →
    Alone scenario cells line since (known_by scenario first) → since ≤ first →
    Waits scenario cells good first sq line (suc first) (table_of scenario cells first) →
    (d : ℕ) → d + suc first ≤ known_by scenario first → State scenario cells good since first sq line (d + suc first)
state-many scenario cells good since first sq line fair all alone start waits zero near =
    let e : zero + suc first ≡ suc first = omega arith in rw e (inl waits)
state-many scenario cells good since first sq line fair all alone start waits (suc d) near =
    let e : suc d + suc first ≡ suc (d + suc first) = omega arith in
    rw e (state-next scenario cells good since first sq line (d + suc first) fair all alone start (omega arith)
    (omega arith)
    (state-many scenario cells good since first sq line fair all alone start waits d (omega arith)))

state-last : (scenario : Scenario) (cells : List (Option Told)) (good : ℕ → Bool) (since first sq line i : ℕ) →
    IsFair scenario cells good first sq → AllGood scenario cells good first sq →
    Alone scenario cells line since (known_by scenario first) → since ≤ first →
    i ≡ known_by scenario first → State scenario cells good since first sq line i →
    IsUsedBefore scenario cells line since (suc i)
state-last scenario cells good since first sq line i fair all alone start at (inr used) =
    used-longer scenario cells line since i (suc i) (omega arith) used
state-last scenario cells good since first sq line i fair all alone start at (inl waits) =
    elim (carried scenario cells i)
    as (λ c. carried scenario cells i ≡ c → IsUsedBefore scenario cells line since (suc i)) [
      | None ↦ λ e. used-now scenario cells line since i (omega arith)
          (step-last scenario cells good first sq line i fair all waits at e)
      | Some command ↦ λ e. let lag = fair.lag in
          used-longer scenario cells line since i (suc i) (omega arith) (alone i command (omega arith) (omega arith) e)
    ] refl

-- after a change, an ADD line up to whose SQ each ADD line can be read is in use sixteen packets and the lag later
pub used_by : (scenario : Scenario) (cells : List (Option Told)) (good : ℕ → Bool) (since first sq line : ℕ) →
    IsFair scenario cells good first sq → AllGood scenario cells good first sq →
    Alone scenario cells line since (known_by scenario first) → since ≤ first →
    Waits scenario cells good first sq line (suc first) (table_of scenario cells first) →
    IsUsedBefore scenario cells line since (known_by scenario first + 1)
used_by scenario cells good since first sq line fair all alone start waits =
    let lag = fair.lag in
    let size = sixteen scenario.options.statuses fair.statuses in
    let d = known_by scenario first - suc first in
    let at : d + suc first ≡ known_by scenario first = omega arith in
    let last = state-last scenario cells good since first sq line (d + suc first) fair all alone start at
    (state-many scenario cells good since first sq line fair all alone start waits d (omega (arith, at))) in
    let e : suc (d + suc first) ≡ known_by scenario first + 1 = omega (arith, at) in
    rw e at last

-- ---- How soon a line that was added is in use.
-- ---- the table of a step that carries out a command
change_by-carries : (commands : List Command) (source : Source) (table : Table) (command : Command) →
    first_of commands ≡ Some command →
    (change_by commands source table).table ≡ carried_out command table
change_by-carries [] source table command e = absurd (none-some command e)
change_by-carries (first ∷ commands) source table command e = ap (λ c. carried_out c table) (same_Some first command e)

change-carries : (source : Source) (table : Table) (command : Command) →
    (if table.acknowledged then first_of source.waiting else None) ≡ Some command →
    (change source table).table ≡ carried_out command table
change-carries source table command e =
    elim table.acknowledged as (λ b. (if b then first_of source.waiting else None) ≡ Some command →
    (if b then change_by source.waiting source table
    else record { table = table; planned = source.planned; waiting = source.waiting }).table
    ≡ carried_out command table) [
      | true ↦ λ e. change_by-carries source.waiting source table command e
      | false ↦ λ e. absurd (none-some command e)
    ] e

pub table_of-carried : (scenario : Scenario) (cells : List (Option Told)) (j : ℕ) (command : Command) →
    carried scenario cells j ≡ Some command →
    table_of scenario cells j ≡ carried_out command (told_at scenario cells j)
table_of-carried scenario cells j command e =
    ap (λ source. source.table) (after-change scenario cells j)
    ∙ change-carries (source_at scenario cells j) (told_at scenario cells j) command e

pub told_at-count : (scenario : Scenario) (cells : List (Option Told)) (j : ℕ) →
    (told_at scenario cells j).count ≡ (table_before scenario cells j).count
told_at-count scenario cells j = ap (λ table. table.count) (told_at-table scenario cells j)
    ∙ heard-count (group_of scenario (j - scenario.lag)) (cell_at scenario cells j) (table_before scenario cells j)

-- ---- what comes back in a session
pub cell-comes : (scenario : Scenario) (n first count k : ℕ) → 0 < scenario.lag → first + count ≤ n →
    AllCome scenario first count → first ≤ k → k < first + count →
    slice_index_or (cells_before scenario n) k None ≡ Some (return_packet scenario (cells_before scenario n) k)
cell-comes scenario n first count k lag whole come from near =
    let lost = come k from near in
    session-cell scenario n k lag (omega arith) ∙ (rw lost refl)

-- ---- an ADD line that was just added
pub Waits-added : (scenario : Scenario) (cells : List (Option Told)) (good : ℕ → Bool) (first line : ℕ) →
    0 < scenario.lag → carried scenario cells first ≡ Some (add line) →
    Waits scenario cells good first (length (told_at scenario cells first).order) line (suc first)
    (table_of scenario cells first)
Waits-added scenario cells good first line lag e =
    let table = told_at scenario cells first in
    let after : table_of scenario cells first ≡ carried_out (add line) table =
    table_of-carried scenario cells first (add line) e in
    record {
      count = refl;
      here = rw after (slice_get-append_seam table.order (member_of line adding) []);
      adds = λ s l low h. h;
      fine = λ s l low h. inl (rw after (none_kept-at s));
      tells = λ s l k low h from near group. absurd (omega arith);
    }

IsFair-session : (scenario : Scenario) (n first sq line : ℕ) → 0 < scenario.lag →
    IsStatuses scenario.options.statuses → line < length scenario.windows → sq < most_lines →
    first + scenario.options.statuses ≤ n →
    (table_before scenario (cells_before scenario n) first).count <
    (table_of scenario (cells_before scenario n) first).count →
    AllCome scenario first scenario.options.statuses → AllSeen scenario line first scenario.options.statuses →
    ((other : ℕ) → IsAdded (table_of scenario (cells_before scenario n) first) other →
    AllSeen scenario other first scenario.options.statuses) →
    IsFair scenario (cells_before scenario n) (λ line. true) first sq
IsFair-session scenario n first sq line lag statuses known small whole rose come here read = record {
  lag = lag;
  statuses = statuses;
  session = session-law scenario n lag;
  rose = rose;
  comes = λ k from near. cell-comes scenario n first scenario.options.statuses k lag whole come from near;
  hears = λ k from near. some_heard scenario.windows line k known (here k from near).0;
  inside = λ s other has. line-inside scenario (cells_before scenario n) (suc first) s other has;
  reads = λ s other k low has from near. (read other (s, has) k from near).0;
  ups = λ s other k low has from near right. (read other (s, has) k from near).1;
  small = small;
}

pub added : (scenario : Scenario) (n first line : ℕ) → 0 < scenario.lag → IsStatuses scenario.options.statuses →
    first + scenario.options.statuses ≤ n →
    length (told_at scenario (cells_before scenario n) first).order < most_lines →
    AddsAlone scenario (cells_before scenario n) line first (known_by scenario first) →
    AllCome scenario first scenario.options.statuses →
    ((other : ℕ) → IsAdded (table_of scenario (cells_before scenario n) first) other →
    AllSeen scenario other first scenario.options.statuses) →
    IsUsedBefore scenario (cells_before scenario n) line first (known_by scenario first + 1)
added scenario n first line lag statuses whole small alone come read =
    let cells = cells_before scenario n in
    let table = told_at scenario cells first in
    let after : table_of scenario cells first ≡ carried_out (add line) table =
    table_of-carried scenario cells first (add line) alone.added in
    let count = ap (λ t. t.count) after in
    let before = told_at-count scenario cells first in
    let waits = Waits-added scenario cells (λ line. true) first line lag alone.added in
    let known = line-inside scenario cells (suc first) (length table.order) line waits.here in
    let fair = IsFair-session scenario n first (length table.order) line lag statuses known small whole (omega arith)
    come (read line (length table.order, waits.here)) read in
    used_by scenario cells (λ line. true) first first (length table.order) line fair (λ s l low h. refl) alone.alone
    (omega arith) waits
