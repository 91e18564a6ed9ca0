-- The fresh status that a step takes from a return packet, and by which a line goes out of use or comes back.
use Rattle.std.proofs.Common.{◌≡◌, ◌⊎◌, ℕ, zero, suc, ◌+◌, ◌-◌, ◌/◌, ◌%◌, ◌<◌, ◌≤◌, ◌==◌, Bool, true, false}
use Rattle.std.proofs.Common.{if◌then◌else◌, inl, inr, List, [], ◌∷◌, length, Option, Some, None, slice_get}
use Rattle.std.proofs.Common.{slice_index_or, option_map, refl, sym, ◌∙◌, ap, subst, arith, eqb-true}
use Rattle.std.proofs.lemmas.Bool.{cases_lt, both_ways, cases_Bool}
use Rattle.std.proofs.lemmas.List.{get_or_past}
use Rattle.std.proofs.lemmas.Option.{none-some, same_Some, slice_get-map}
use Rattle.law_model.specs.Common.{Scenario, kept_of, keep, planned_of, Told, acknowledged_by, heard, after, cell_at}
use Rattle.law_model.specs.Common.{is_line_up, said, status, table_of, word, is_lost, Table, told_on, exchange}
use Rattle.law_model.specs.Common.{exchanged, Source, change_by, change, source_at, told_at, group_of, return_packet}
use Rattle.law_model.specs.Common.{member_of, turn}
use Rattle.law_model.specs.declared.lcas_states.Member.{Member}
use Rattle.law_model.specs.declared.lcas_states.Standing.{Standing}
use Rattle.law_session.specs.Feedback.{lines_of, table_before, SpokeLast, WasSaid}
use Rattle.law_session.proofs.DecisionStepMemberLaws.{heard-count, heard-order, Becomes, Stands, told-stood}
use Rattle.law_session.proofs.DecisionStepMemberLaws.{told-stands, Follows, unchanged, changes, Follows-change}
use Rattle.law_session.proofs.ReturnCellAndLineWordLaws.{IsSession, known, says_count, cell-taken, stays, keep-size}
use Rattle.law_session.proofs.ReturnCellAndLineWordLaws.{keep-at, word-of, status-of, status-from, status-none}
use Rattle.law_session.proofs.ReturnCellAndLineWordLaws.{same_lines_since, none_kept-some, inside-of_some}
use Rattle.law_session.proofs.ReturnCellAndLineWordLaws.{none_kept-at}
use Rattle.law_session.proofs.AdmittedAndExchangedLineLaws.{Has, Has-standing, IsIn}
use Rattle.law_session.proofs.AddedLineWaitLaws.{heard_at, kept-is, next-table, told_at-table}
use Rattle.law_session.proofs.SourceOrderAndPlanLaws.{times-some, times, IsPlan-once, Fits-after}
use Rattle.law_model.specs.declared.lcas_states.Command.{Command}
use Rattle.law_model.specs.declared.lcas_states.Command.TheVariants.{Add as add, Remove as remove}
use Rattle.law_model.specs.declared.lcas_states.Standing.TheVariants.{Add as adding, Norm as normal, Dnu as unused}
use Rattle.law_session.specs.TimedMembers.{GoesOut, ComesBack, IsToldFailed, IsToldFine}

-- ---- What a step takes from the return packet that comes in it, and what that says of the line that has an SQ.
-- ---- a line stands once, and is one of the session's
pub Has-lines : (order : List Member) (sq line : ℕ) (standing : Standing) → Has order sq line standing →
    slice_get (lines_of order) sq ≡ Some line
Has-lines order sq line standing has =
    slice_get-map (λ member. member.line) order sq ∙ ap (option_map (λ member. member.line)) has

once-at : (xs : List ℕ) (i j l : ℕ) → times xs l ≤ 1 → slice_get xs i ≡ Some l → slice_get xs j ≡ Some l → i ≡ j
once-at [] i j l once e f = absurd (none-some l e)
once-at (x ∷ xs) zero zero l once e f = refl
once-at (x ∷ xs) zero (suc j) l once e f =
    let first = times-some (x ∷ []) zero l e in
    let rest = times-some xs j l f in
    absurd (omega arith)
once-at (x ∷ xs) (suc i) zero l once e f =
    let first = times-some (x ∷ []) zero l f in
    let rest = times-some xs i l e in
    absurd (omega arith)
once-at (x ∷ xs) (suc i) (suc j) l once e f = ap suc (once-at xs i j l (omega arith) e f)

pub one-place : (scenario : Scenario) (cells : List (Option Told)) (j s t line : ℕ) →
    slice_get (lines_of (table_before scenario cells j).order) s ≡ Some line →
    slice_get (lines_of (table_before scenario cells j).order) t ≡ Some line → s ≡ t
one-place scenario cells j s t line here there =
    let source = after scenario cells j in
    once-at (lines_of source.table.order) s t line
    (IsPlan-once (length scenario.windows) (times (lines_of source.table.order)) source.waiting (planned_of source)
    (Fits-after scenario cells j).0.1 line) here there

pub line-inside : (scenario : Scenario) (cells : List (Option Told)) (j s line : ℕ) →
    slice_get (lines_of (table_before scenario cells j).order) s ≡ Some line → line < length scenario.windows
line-inside scenario cells j s line here =
    elim (cases_lt line (length scenario.windows)) [
      | inl inside ↦ inside
      | inr beyond ↦
          let none = (Fits-after scenario cells j).0.0 line beyond in
          let some = times-some (lines_of (table_before scenario cells j).order) s line here in
          absurd (omega arith)
    ]

-- ---- the table that has heard the return packet of a step
pub heard_at-order : (scenario : Scenario) (cells : List (Option Told)) (j : ℕ) →
    (heard_at scenario cells j).order ≡ (table_before scenario cells j).order
unfolding heard_at
heard_at-order scenario cells j =
    heard-order ((j - scenario.lag) % scenario.options.statuses) (cell_at scenario cells j)
    (table_before scenario cells j)

pub heard_at-counts : (scenario : Scenario) (cells : List (Option Told)) (j : ℕ) →
    (heard_at scenario cells j).count ≡ (table_before scenario cells j).count
unfolding heard_at
heard_at-counts scenario cells j =
    heard-count ((j - scenario.lag) % scenario.options.statuses) (cell_at scenario cells j)
    (table_before scenario cells j)

-- a status that step j takes from the return packet that comes in it
pub record IsFresh (scenario : Scenario) (cells : List (Option Told)) (j sq : ℕ) (ok : Bool) : Type 0 where
  pub packet : ℕ
  pub at : j ≡ packet + scenario.lag
  pub whole : said scenario cells packet ≡ (table_before scenario cells j).count
  pub says : status scenario cells packet sq ≡ ok

-- what is kept of an SQ once the return packet is heard: what was kept before, or what it says
pub data Keeps (scenario : Scenario) (cells : List (Option Told)) (j sq : ℕ) : Type 0 where
  keeps : (kept_of (heard_at scenario cells j)) sq ≡ (kept_of (table_before scenario cells j)) sq →
      Keeps scenario cells j sq
  takes : (ok : Bool) → (kept_of (heard_at scenario cells j)) sq ≡ Some ok → IsFresh scenario cells j sq ok →
      Keeps scenario cells j sq

keep-past : (group : ℕ) (oks : List Bool) (statuses : List (Option Bool)) (sq : ℕ) → length statuses ≤ sq →
    slice_index_or (keep group oks 0 statuses) sq None ≡ slice_index_or statuses sq None
keep-past group oks statuses sq beyond =
    let size = keep-size group oks 0 statuses in
    get_or_past (keep group oks 0 statuses) sq None (omega arith) ∙ sym (get_or_past statuses sq None beyond)

pub heard-keeps : (scenario : Scenario) (cells : List (Option Told)) → IsSession scenario cells → 0 < scenario.lag →
    (j sq : ℕ) → Keeps scenario cells j sq
unfolding heard_at
heard-keeps scenario cells session lag j sq =
    let table = table_before scenario cells j in
    let group = (j - scenario.lag) % scenario.options.statuses in
    let Kept : Option Told → Type 0 = λ cell.
    ((kept_of (heard group cell table)) sq ≡ (kept_of table) sq)
    ⊎ ((ok : Bool) × ((kept_of (heard group cell table)) sq ≡ Some ok) × IsFresh scenario cells j sq ok) in
    let found : Kept (cell_at scenario cells j) = elim (cell_at scenario cells j)
    as (λ cell. cell_at scenario cells j ≡ cell →
    ((kept_of (heard group cell table)) sq ≡ (kept_of table) sq)
    ⊎ ((ok : Bool) × ((kept_of (heard group cell table)) sq ≡ Some ok) × IsFresh scenario cells j sq ok)) [
      | None ↦ λ e. inl refl
      | Some told ↦ λ e.
          elim (told.rs_ack == table.count % 2) as (λ b. (told.rs_ack == table.count % 2) ≡ b →
          ((kept_of (if b then acknowledged_by group (Some told) table else table)) sq ≡ (kept_of table) sq)
          ⊎ ((ok : Bool) × ((kept_of (if b then acknowledged_by group (Some told) table else table)) sq ≡ Some ok) ×
          IsFresh scenario cells j sq ok)) [
            | false ↦ λ bit. inl refl
            | true ↦ λ bit. elim (cases_lt sq (length table.statuses)) [
              | inr beyond ↦ inl (keep-past group told.oks table.statuses sq beyond)
              | inl inside ↦
                  let taken = cell-taken scenario cells j told e in
                  let k = j - scenario.lag in
                  let at : j ≡ k + scenario.lag = omega (arith, taken.0) in
                  let whole = says_count scenario cells session lag j k at told taken.1
                  (eqb-true told.rs_ack (table.count % 2) bit)
                  (known scenario cells session lag j k (omega (arith, at))) in
                  let packet = session k told taken.1 in
                  let kept = keep-at group told.oks table.statuses sq inside in
                  elim (sq / 8 == group) as (λ b. (sq / 8 == group) ≡ b →
                  slice_index_or (keep group told.oks 0 table.statuses) sq None ≡
                  (if b then slice_get told.oks (sq % 8) else slice_index_or table.statuses sq None) →
                  ((slice_index_or (keep group told.oks 0 table.statuses) sq None) ≡ (kept_of table) sq)
                  ⊎ ((ok : Bool) × ((slice_index_or (keep group told.oks 0 table.statuses) sq None) ≡ Some ok) ×
                  IsFresh scenario cells j sq ok)) [
                    | false ↦ λ test is. inl is
                    | true ↦ λ test is.
                        let oks = kept-is scenario cells (status scenario cells k sq) k sq
                        (eqb-true (sq / 8) group test) refl in
                        inr (
                          status scenario cells k sq,
                          is ∙ ap (λ t. slice_get t.oks (sq % 8)) packet ∙ oks,
                          record { packet = k; at = at; whole = whole; says = refl },
                        )
                  ] refl kept
            ]
          ] refl
    ] refl in
    elim found [ inl same ↦ keeps same | inr new ↦ takes new.0 new.1 new.2 ]

-- ---- what it says of the line that has the SQ
-- in a packet of the same count the lines have the SQs that they have before step j
pub lines-then : (scenario : Scenario) (cells : List (Option Told)) (j last : ℕ) → last < j →
    (table_of scenario cells last).count ≡ (table_before scenario cells j).count →
    lines_of (table_of scenario cells last).order ≡ lines_of (table_before scenario cells j).order
lines-then scenario cells j last before same =
    let e : j - suc last + suc last ≡ j = omega arith in
    let stay : (table_before scenario cells j).count ≡ (table_before scenario cells (suc last)).count →
    lines_of (table_before scenario cells j).order ≡ lines_of (table_before scenario cells (suc last)).order =
    rw e at (stays scenario cells (suc last) (j - suc last)) in
    sym (stay (sym same))

-- a line that has the SQ and by whose word it has OK
pub record IsSaidOf (scenario : Scenario) (cells : List (Option Told)) (j k sq line : ℕ) : Type 0 where
  pub up : is_line_up scenario line k ≡ true
  pub last : ℕ
  pub word : word scenario cells line k ≡ Some last
  pub has : slice_get (lines_of (table_before scenario cells j).order) sq ≡ Some line

pub status-ok : (scenario : Scenario) (cells : List (Option Told)) (j k sq : ℕ) → k < j →
    said scenario cells k ≡ (table_before scenario cells j).count → status scenario cells k sq ≡ true →
    (line : ℕ) × IsSaidOf scenario cells j k sq line
status-ok scenario cells j k sq before whole says =
    let found = status-of scenario cells k sq says in
    let spoken = found.2 in
    let is = word-of scenario cells found.0 k found.1 spoken.word in
    let past = is.past in
    let same = lines-then scenario cells j found.1 (omega arith) (is.count ∙ whole) in (
      found.0,
      record {
        up = spoken.up;
        last = found.1;
        word = spoken.word;
        has = ap (λ lines. slice_get lines sq) (sym same) ∙ spoken.had;
      },
    )

-- where the line that has the SQ isn't up, or has no word, the status isn't OK; else it is
pub status-fails : (scenario : Scenario) (cells : List (Option Told)) (j k sq line : ℕ) → k < j →
    said scenario cells k ≡ (table_before scenario cells j).count →
    slice_get (lines_of (table_before scenario cells j).order) sq ≡ Some line →
    is_line_up scenario line k ≡ false → status scenario cells k sq ≡ false
status-fails scenario cells j k sq line before whole has down =
    status-none scenario cells k sq (λ l last spoken.
    let said = status-ok scenario cells j k sq before whole (status-from scenario cells k sq l last spoken) in
    let same : said.0 ≡ line = same_Some said.0 line (sym said.1.has ∙ has) in
    both_ways (is_line_up scenario line k) down
    (subst (λ l. is_line_up scenario l k ≡ true) same said.1.up))

pub status-holds : (scenario : Scenario) (cells : List (Option Told)) (j k sq line last : ℕ) → k < j →
    said scenario cells k ≡ (table_before scenario cells j).count →
    slice_get (lines_of (table_before scenario cells j).order) sq ≡ Some line →
    is_line_up scenario line k ≡ true → word scenario cells line k ≡ Some last → status scenario cells k sq ≡ true
status-holds scenario cells j k sq line last before whole has up word =
    let is = word-of scenario cells line k last word in
    let past = is.past in
    let same = lines-then scenario cells j last (omega arith) (is.count ∙ whole) in
    status-from scenario cells k sq line last (record {
      inside = line-inside scenario cells j sq line has;
      up = up;
      word = word;
      had = ap (λ lines. slice_get lines sq) same ∙ has;
    })

-- ---- Each status that a step acts on was said of the count of changes that it has, and so of the line that still has the
-- SQ.
-- a change keeps nothing
abbrev pub KeepsStatus : Table → Table → ℕ → Bool → Type 0
KeepsStatus before after sq ok = ((kept_of before) sq ≡ Some ok) × (after.count ≡ before.count)

exchanged-kept : (found : Option (List Member)) (table : Table) (sq : ℕ) (ok : Bool) →
    (kept_of (exchanged found table)) sq ≡ Some ok → KeepsStatus table (exchanged found table) sq ok
exchanged-kept None table sq ok e = (e, refl)
exchanged-kept (Some order) table sq ok e = absurd (none_kept-some sq ok e)

change_by-kept : (commands : List Command) (source : Source) (table : Table) (sq : ℕ) (ok : Bool) →
    kept_of (change_by commands source table).table sq ≡ Some ok →
    KeepsStatus table (change_by commands source table).table sq ok
change_by-kept [] source table sq ok e = exchanged-kept (exchange (kept_of table) 0 table.order) table sq ok e
change_by-kept (add line ∷ commands) source table sq ok e = absurd (none_kept-some sq ok e)
change_by-kept (remove line ∷ commands) source table sq ok e = absurd (none_kept-some sq ok e)

change-kept : (source : Source) (table : Table) (sq : ℕ) (ok : Bool) →
    kept_of (change source table).table sq ≡ Some ok → KeepsStatus table (change source table).table sq ok
change-kept source table sq ok e =
    elim table.acknowledged as (λ b. kept_of
    (if b then change_by source.waiting source table
    else record { table = table; planned = source.planned; waiting = source.waiting }).table sq ≡ Some ok →
    KeepsStatus table (if b then change_by source.waiting source table
    else record { table = table; planned = source.planned; waiting = source.waiting }).table sq ok) [
      | true ↦ λ e. change_by-kept source.waiting source table sq ok e
      | false ↦ λ e. (e, refl)
    ] e

-- ---- one step
-- a packet that came tells of the count, and of the status
record Says (scenario : Scenario) (cells : List (Option Told)) (j sq : ℕ) (ok : Bool) : Type 0 where
  pub packet : ℕ
  pub taken : packet + scenario.lag ≤ j
  pub come : slice_index_or cells packet None ≡ Some (return_packet scenario cells packet)
  pub whole : said scenario cells packet ≡ (table_before scenario cells j).count
  pub says : status scenario cells packet sq ≡ ok

heard-kept : (scenario : Scenario) (cells : List (Option Told)) → IsSession scenario cells → 0 < scenario.lag →
    (j sq : ℕ) (ok : Bool) →
    ((kept_of (table_before scenario cells j)) sq ≡ Some ok → Says scenario cells j sq ok) →
    (kept_of (heard_at scenario cells j)) sq ≡ Some ok → Says scenario cells j sq ok
unfolding heard_at
heard-kept scenario cells session lag j sq ok before =
    let table = table_before scenario cells j in
    let group = (j - scenario.lag) % scenario.options.statuses in
    elim (cell_at scenario cells j)
    as (λ cell. cell_at scenario cells j ≡ cell → (kept_of (heard group cell table)) sq ≡ Some ok →
    Says scenario cells j sq ok) [
      | None ↦ λ e is. before is
      | Some told ↦ λ e.
          elim (told.rs_ack == table.count % 2) as (λ b. (told.rs_ack == table.count % 2) ≡ b →
          (kept_of (if b then acknowledged_by group (Some told) table else table)) sq ≡ Some ok →
          Says scenario cells j sq ok) [
            | false ↦ λ bit is. before is
            | true ↦ λ bit is_new.
                let taken = cell-taken scenario cells j told e in
                let k = j - scenario.lag in
                let at : j ≡ k + scenario.lag = omega (arith, taken.0) in
                let whole = says_count scenario cells session lag j k at told taken.1
                (eqb-true told.rs_ack (table.count % 2) bit)
                (known scenario cells session lag j k (omega (arith, at))) in
                let packet = session k told taken.1 in
                let inside : sq < length table.statuses =
                let h = inside-of_some (keep group told.oks 0 table.statuses) sq ok is_new in
                let size = keep-size group told.oks 0 table.statuses in
                omega arith in
                let is_kept = sym (keep-at group told.oks table.statuses sq inside) ∙ is_new in
                elim (sq / 8 == group) as (λ b. (sq / 8 == group) ≡ b →
                (if b then slice_get told.oks (sq % 8) else slice_index_or table.statuses sq None) ≡ Some ok →
                Says scenario cells j sq ok) [
                  | true ↦ λ test is.
                      let oks = kept-is scenario cells (status scenario cells k sq) k sq
                      (eqb-true (sq / 8) group test) refl in
                      let same : Some (status scenario cells k sq) ≡ Some ok = sym oks
                      ∙ ap (λ t. slice_get t.oks (sq % 8)) (sym packet) ∙ is in
                      record {
                        packet = k;
                        taken = omega (arith, at);
                        come = taken.1 ∙ ap Some packet;
                        whole = whole;
                        says = same_Some (status scenario cells k sq) ok same;
                      }
                  | false ↦ λ test is. before is
                ] refl is_kept
          ] refl
    ] refl

heard_at-count : (scenario : Scenario) (cells : List (Option Told)) (j : ℕ) →
    (heard_at scenario cells j).count ≡ (table_before scenario cells j).count
unfolding heard_at
heard_at-count scenario cells j =
    heard-count (group_of scenario (j - scenario.lag)) (cell_at scenario cells j) (table_before scenario cells j)

opening-kept : (scenario : Scenario) (cells : List (Option Told)) (sq : ℕ) (ok : Bool) →
    (kept_of (table_before scenario cells zero)) sq ≡ Some ok → ⊥
unfolding after
opening-kept scenario cells sq ok e = none_kept-some sq ok e

kept-says : (scenario : Scenario) (cells : List (Option Told)) → IsSession scenario cells → 0 < scenario.lag →
    (j sq : ℕ) (ok : Bool) →
    (kept_of (table_before scenario cells j)) sq ≡ Some ok → Says scenario cells j sq ok
kept-says scenario cells session lag zero sq ok e = absurd (opening-kept scenario cells sq ok e)
kept-says scenario cells session lag (suc j) sq ok e =
    let next = next-table scenario cells j in
    let kept = change-kept (source_at scenario cells j) (told_on (heard_at scenario cells j)) sq ok
    (subst (λ t. (kept_of t) sq ≡ Some ok) next e) in
    let before = heard-kept scenario cells session lag j sq ok (kept-says scenario cells session lag j sq ok) kept.0 in
    let count = ap (λ t. t.count) next ∙ kept.1 ∙ heard_at-count scenario cells j in
    let taken = before.taken in
    record {
      packet = before.packet;
      taken = omega (arith, taken);
      come = before.come;
      whole = before.whole ∙ sym count;
      says = before.says;
    }

pub told_at-kept : (scenario : Scenario) (cells : List (Option Told)) (j sq : ℕ) →
    (kept_of (told_at scenario cells j)) sq ≡ (kept_of (heard_at scenario cells j)) sq
unfolding heard_at
told_at-kept scenario cells j sq = ap (λ t. (kept_of t) sq) (told_at-table scenario cells j)

-- a line that has OK still has the SQ that it said last
spoke-last : (scenario : Scenario) (cells : List (Option Told)) (j k sq : ℕ) → k < j →
    said scenario cells k ≡ (table_before scenario cells j).count → status scenario cells k sq ≡ true →
    SpokeLast scenario cells j k sq
spoke-last scenario cells j k sq before whole ok =
    let found = status-of scenario cells k sq ok in
    let spoken = found.2 in
    let word = word-of scenario cells found.0 k found.1 spoken.word in
    let past = word.past in
    let place : j - suc found.1 + suc found.1 ≡ j = omega arith in
    let stay : (table_before scenario cells j).count ≡ (table_of scenario cells found.1).count →
    lines_of (table_before scenario cells j).order ≡ lines_of (table_of scenario cells found.1).order =
    rw place at (stays scenario cells (suc found.1) (j - suc found.1)) in
    record {
      line = found.0;
      up = spoken.up;
      last = found.1;
      word = spoken.word;
      had = spoken.had;
      has = ap (λ lines. slice_get lines sq) (stay (sym (word.count ∙ whole))) ∙ spoken.had;
    }

-- the return cells of a session, of which those that came weren't lost
pub acts_on : (scenario : Scenario) (cells : List (Option Told)) → IsSession scenario cells →
    ((k : ℕ) (told : Told) → slice_index_or cells k None ≡ Some told → is_lost scenario k ≡ false) → 0 < scenario.lag →
    (j sq : ℕ) (ok : Bool) → (kept_of (told_at scenario cells j)) sq ≡ Some ok → WasSaid scenario cells j sq ok
acts_on scenario cells session come lag j sq ok e =
    let is = sym (told_at-kept scenario cells j sq) ∙ e in
    let says = heard-kept scenario cells session lag j sq ok (kept-says scenario cells session lag j sq ok) is in
    let taken = says.taken in
    record {
      packet = says.packet;
      taken = taken;
      come = says.come;
      kept = come says.packet (return_packet scenario cells says.packet) says.come;
      whole = says.whole;
      says = says.says;
      lines = same_lines_since scenario cells j says.packet (omega (arith, taken, lag)) says.whole;
      spoke = λ good. spoke-last scenario cells j says.packet sq (omega (arith, taken, lag)) says.whole
          (says.says ∙ good);
    }

-- ---- A line that goes out of use in a step, or comes back, does so by the status that this very step takes: an older one
-- would have turned it before.
-- ---- a status that was acted on
-- no status is kept that would turn the member
pub record IsCalm (status : Option Bool) (standing : Standing) : Type 0 where
  pub stays : standing ≡ normal → status ≡ Some false → ⊥
  pub waits : standing ≡ unused → status ≡ Some true → ⊥

calm-none : (status : Option Bool) (standing : Standing) → status ≡ None → IsCalm status standing
calm-none status standing none = record {
  stays = λ e says. none-some false (sym none ∙ says);
  waits = λ e says. none-some true (sym none ∙ says);
}

turn-calm : (status : Option Bool) (was : Standing) → IsCalm status (turn status was)
turn-calm None was = calm-none None was refl
turn-calm (Some true) adding = record { stays = λ e says. cc; waits = λ e says. cc }
turn-calm (Some false) adding = record { stays = λ e says. cc; waits = λ e says. cc }
turn-calm (Some true) normal = record { stays = λ e says. cc; waits = λ e says. cc }
turn-calm (Some false) normal = record { stays = λ e says. cc; waits = λ e says. cc }
turn-calm (Some true) unused = record { stays = λ e says. cc; waits = λ e says. cc }
turn-calm (Some false) unused = record { stays = λ e says. cc; waits = λ e says. cc }

becomes-calm : (status : Option Bool) (was is : Standing) → Becomes status was is → IsCalm status is
becomes-calm status was is (inl turned) = subst (IsCalm status) (sym turned) (turn-calm status was)
becomes-calm status was is (inr admitted) =
    record { stays = λ e says. let ok = admitted.1 in cc; waits = λ e says. let now = admitted.2 in cc }

abbrev pub AreCalm : Table → Type 0
AreCalm table = (sq line : ℕ) (standing : Standing) → Has table.order sq line standing →
    IsCalm (kept_of table sq) standing

told-calm : (table : Table) → AreCalm (told_on table)
told-calm table sq line standing has =
    let stood = told-stood table sq line standing has in
    becomes-calm (kept_of table sq) stood.was standing stood.becomes

follows-calm : (told next : Table) → AreCalm told → Follows told next → AreCalm next
follows-calm told next calm (unchanged same) = subst AreCalm (sym same) calm
follows-calm told next calm (changes count none stems) = λ sq line standing has.
    calm-none (kept_of next sq) standing (ap (λ statuses. slice_index_or statuses sq None) none ∙ none_kept-at sq)

-- what the change of a step makes of the members
pub step-follows : (scenario : Scenario) (cells : List (Option Told)) (j : ℕ) →
    Follows (told_on (heard_at scenario cells j)) (table_of scenario cells j)
step-follows scenario cells j =
    subst (Follows (told_on (heard_at scenario cells j))) (sym (next-table scenario cells j))
    (Follows-change (source_at scenario cells j) (told_on (heard_at scenario cells j)))

opening-calm : (scenario : Scenario) (cells : List (Option Told)) → AreCalm (table_before scenario cells zero)
unfolding after
opening-calm scenario cells sq line standing has = absurd (none-some (member_of line standing) has)

pub before-calm : (scenario : Scenario) (cells : List (Option Told)) (j : ℕ) → AreCalm (table_before scenario cells j)
before-calm scenario cells zero = opening-calm scenario cells
before-calm scenario cells (suc j) =
    follows-calm (told_on (heard_at scenario cells j)) (table_of scenario cells j)
    (told-calm (heard_at scenario cells j)) (step-follows scenario cells j)

-- ---- a member before a step and as it is told its status
pub record Was (scenario : Scenario) (cells : List (Option Told)) (j sq line : ℕ) (is : Standing) : Type 0 where
  pub was : Standing
  pub stood : Has (table_before scenario cells j).order sq line was
  pub becomes : Becomes (kept_of (heard_at scenario cells j) sq) was is

pub told-was : (scenario : Scenario) (cells : List (Option Told)) (j sq line : ℕ) (is : Standing) →
    Has (told_on (heard_at scenario cells j)).order sq line is → Was scenario cells j sq line is
told-was scenario cells j sq line is has =
    let stood = told-stood (heard_at scenario cells j) sq line is has in
    record {
      was = stood.was;
      stood = subst (λ order. Has order sq line stood.was) (heard_at-order scenario cells j) stood.stood;
      becomes = stood.becomes;
    }

pub told-is : (scenario : Scenario) (cells : List (Option Told)) (j sq line : ℕ) (was : Standing) →
    Has (table_before scenario cells j).order sq line was → Stands (heard_at scenario cells j) sq line was
told-is scenario cells j sq line was has =
    told-stands (heard_at scenario cells j) sq line was
    (subst (λ order. Has order sq line was) (sym (heard_at-order scenario cells j)) has)

-- a member that isn't in ADD stood so when it was told its status
pub told-then : (scenario : Scenario) (cells : List (Option Told)) (j line : ℕ) (is : Standing) →
    (is ≡ adding → ⊥) → IsIn (table_of scenario cells j).order (member_of line is) →
    IsIn (told_on (heard_at scenario cells j)).order (member_of line is)
told-then scenario cells j line is other inside =
    elim (step-follows scenario cells j) [
      | unchanged same ↦ subst (λ table. IsIn table.order (member_of line is)) same inside
      | changes count none stems ↦ elim (stems (member_of line is) inside) [
        | inl adds ↦ absurd (other adds)
        | inr before ↦ before
      ]
    ]

-- a line has one place, and stands in it in one way
pub one-standing : (scenario : Scenario) (cells : List (Option Told)) (j s t line : ℕ) (a b : Standing) →
    Has (table_before scenario cells j).order s line a → Has (table_before scenario cells j).order t line b →
    (s ≡ t) × (a ≡ b)
one-standing scenario cells j s t line a b here there =
    let order = (table_before scenario cells j).order in
    let place = one-place scenario cells j s t line (Has-lines order s line a here) (Has-lines order t line b there) in
    let again = subst (λ q. Has order q line a) place here in (
      place,
      Has-standing (member_of line a) line b (sym again ∙ there),
    )

becomes-out : (status : Option Bool) → Becomes status normal unused → status ≡ Some false
becomes-out None (inl turned) = absurd cc
becomes-out (Some true) (inl turned) = absurd cc
becomes-out (Some false) (inl turned) = refl
becomes-out status (inr admitted) = absurd (let e = admitted.0 in cc)

becomes-back : (status : Option Bool) → Becomes status unused normal → status ≡ Some true
becomes-back None (inl turned) = absurd cc
becomes-back (Some true) (inl turned) = refl
becomes-back (Some false) (inl turned) = absurd cc
becomes-back status (inr admitted) = absurd (let e = admitted.0 in cc)

-- ---- a line that goes out, and one that comes back
-- the status of its SQ that the step takes
pub record Turned (scenario : Scenario) (cells : List (Option Told)) (line j : ℕ) (ok : Bool) : Type 0 where
  pub sq : ℕ
  pub has : slice_get (lines_of (table_before scenario cells j).order) sq ≡ Some line
  pub fresh : IsFresh scenario cells j sq ok

pub out-turned : (scenario : Scenario) (cells : List (Option Told)) → IsSession scenario cells → 0 < scenario.lag →
    (line j : ℕ) → GoesOut scenario cells line j → Turned scenario cells line j false
out-turned scenario cells session lag line j goes =
    let sq = goes.before.0 in
    let told = told-then scenario cells j line unused (λ e. cc) goes.now in
    let was = told-was scenario cells j told.0 line unused told.1 in
    let one = one-standing scenario cells j sq told.0 line normal was.was goes.before.1 was.stood in
    let fails = becomes-out (kept_of (heard_at scenario cells j) told.0)
    (subst (λ s. Becomes (kept_of (heard_at scenario cells j) told.0) s unused) (sym one.1) was.becomes) in
    let has = Has-lines (table_before scenario cells j).order told.0 line was.was was.stood in
    elim (heard-keeps scenario cells session lag j told.0) [
      | keeps same ↦
          let calm = before-calm scenario cells j told.0 line was.was was.stood in
          absurd (calm.stays (sym one.1) (sym same ∙ fails))
      | takes ok is fresh ↦ record {
        sq = told.0;
        has = has;
        fresh = subst (IsFresh scenario cells j told.0) (same_Some ok false (sym is ∙ fails)) fresh;
      }
    ]

pub back-turned : (scenario : Scenario) (cells : List (Option Told)) → IsSession scenario cells → 0 < scenario.lag →
    (line j : ℕ) → ComesBack scenario cells line j → Turned scenario cells line j true
back-turned scenario cells session lag line j comes =
    let sq = comes.before.0 in
    let told = told-then scenario cells j line normal (λ e. cc) comes.now in
    let was = told-was scenario cells j told.0 line normal told.1 in
    let one = one-standing scenario cells j sq told.0 line unused was.was comes.before.1 was.stood in
    let fine = becomes-back (kept_of (heard_at scenario cells j) told.0)
    (subst (λ s. Becomes (kept_of (heard_at scenario cells j) told.0) s normal) (sym one.1) was.becomes) in
    let has = Has-lines (table_before scenario cells j).order told.0 line was.was was.stood in
    elim (heard-keeps scenario cells session lag j told.0) [
      | keeps same ↦
          let calm = before-calm scenario cells j told.0 line was.was was.stood in
          absurd (calm.waits (sym one.1) (sym same ∙ fine))
      | takes ok is fresh ↦ record {
        sq = told.0;
        has = has;
        fresh = subst (IsFresh scenario cells j told.0) (same_Some ok true (sym is ∙ fine)) fresh;
      }
    ]

-- a status of its SQ that is OK is said by the line's word
pub fine-of : (scenario : Scenario) (cells : List (Option Told)) → 0 < scenario.lag → (line j sq : ℕ) →
    slice_get (lines_of (table_before scenario cells j).order) sq ≡ Some line → IsFresh scenario cells j sq true →
    IsToldFine scenario cells line j
fine-of scenario cells lag line j sq has fresh =
    let at = fresh.at in
    let said = status-ok scenario cells j fresh.packet sq (omega arith) fresh.whole fresh.says in
    let same : said.0 ≡ line = same_Some said.0 line (sym said.1.has ∙ has) in
    record {
      packet = fresh.packet;
      at = at;
      whole = fresh.whole;
      up = subst (λ l. is_line_up scenario l fresh.packet ≡ true) same said.1.up;
      last = said.1.last;
      word = subst (λ l. word scenario cells l fresh.packet ≡ Some said.1.last) same said.1.word;
    }

-- and one that isn't is said where it isn't up or has no word
why_failed : (scenario : Scenario) (cells : List (Option Told)) (line k : ℕ) (found : Option ℕ) →
    word scenario cells line k ≡ found →
    ((last : ℕ) → is_line_up scenario line k ≡ true → word scenario cells line k ≡ Some last → ⊥) →
    (is_line_up scenario line k ≡ false) ⊎ (word scenario cells line k ≡ None)
why_failed scenario cells line k None e wrong = inr e
why_failed scenario cells line k (Some last) e wrong =
    elim (cases_Bool (is_line_up scenario line k)) [ inl up ↦ absurd (wrong last up e) | inr down ↦ inl down ]

pub failed-of : (scenario : Scenario) (cells : List (Option Told)) → 0 < scenario.lag → (line j sq : ℕ) →
    slice_get (lines_of (table_before scenario cells j).order) sq ≡ Some line → IsFresh scenario cells j sq false →
    IsToldFailed scenario cells line j
failed-of scenario cells lag line j sq has fresh =
    let at = fresh.at in
    record {
      packet = fresh.packet;
      at = at;
      whole = fresh.whole;
      why = why_failed scenario cells line fresh.packet (word scenario cells line fresh.packet) refl (λ last up word.
          both_ways (status scenario cells fresh.packet sq) fresh.says
          (status-holds scenario cells j fresh.packet sq line last (omega arith) fresh.whole has up word));
    }

pub out-why : (scenario : Scenario) (cells : List (Option Told)) → IsSession scenario cells → 0 < scenario.lag →
    (line j : ℕ) → GoesOut scenario cells line j → IsToldFailed scenario cells line j
out-why scenario cells session lag line j goes =
    let turned = out-turned scenario cells session lag line j goes in
    failed-of scenario cells lag line j turned.sq turned.has turned.fresh

pub back-why : (scenario : Scenario) (cells : List (Option Told)) → IsSession scenario cells → 0 < scenario.lag →
    (line j : ℕ) → ComesBack scenario cells line j → IsToldFine scenario cells line j
back-why scenario cells session lag line j comes =
    let turned = back-turned scenario cells session lag line j comes in
    fine-of scenario cells lag line j turned.sq turned.has turned.fresh
