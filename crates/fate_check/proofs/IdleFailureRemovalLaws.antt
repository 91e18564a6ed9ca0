-- Without a failure that is idle (is_idle) the same rows are whole, by the same return cells.
use Rattle.std.proofs.Common.{◌≡◌, ◌⊎◌, ℕ, suc, ◌+◌, ◌-◌, ◌*◌, ◌/◌, ◌<◌, ◌≤◌, ◌==◌, ◌&&◌, nat_le, nat_lt, Bool, true}
use Rattle.std.proofs.Common.{false, not, List, [], ◌∷◌, ◌++◌, map, filter, length, slice_get, slice_index_or, Option}
use Rattle.std.proofs.Common.{Some, refl, sym, ◌∙◌, ap, subst, arith, inl, inr}
use Rattle.std.specs.Prelude.{◌||◌, if◌then◌else◌}
use Rattle.std.specs.List.{list_all, list_any, range_with_len}
use Rattle.std.proofs.lemmas.Bool.{cases_Bool, cases_lt, cases_eq, and_parts, and_from, and_left, and_right, and_cases}
use Rattle.std.proofs.lemmas.Bool.{or_parts, eqb-false, lt-ltb, le-ltb, lt-leb, leb-false, not-true}
use Rattle.std.proofs.lemmas.Option.{slice_get_within, get_or_from_slice_get}
use Rattle.std.proofs.lemmas.List.{length-set, get_or-set_same, get_or-set_other}
use Rattle.law_model.specs.declared.window_types.Window.{Window}
use Rattle.law_model.specs.declared.window_types.Carried.TheVariants.{Whole, Fails, Vanishes}
use Rattle.law_model.specs.declared.lcas_states.Member.{Member}
use Rattle.law_model.specs.members.Damage.{carried, carried_in, is_good, is_readable}
use Rattle.law_model.specs.session.Scenario.{Scenario, carried_by, is_read, is_heard}
use Rattle.law_model.specs.rows.SessionRows.{are_inferred, is_whole_under, is_whole_row}
use Rattle.law_model.specs.source.Table.{Told, active, is_normal}
use Rattle.law_model.specs.source.Source.{after, table_of}
use Rattle.law_session.specs.Feedback.{lines_of}
use Rattle.law_session.proofs.ClientStreamAndReplayLaws.{Alike, alike-after}
use Rattle.law_session.proofs.UpLineAndReadablePacketLaws.{readable-whole, good-whole, heard-line}
use Rattle.law_session.proofs.SourceOrderAndPlanLaws.{IsBelow, times}
use Rattle.law_row.proofs.ActivePacketsLaws.{inside, below-after}
use Rattle.law_row.proofs.LastWordAndReturnPacketLaws.{same_tests}
use Rattle.fate_check.specs.UsedLines.{is_used, has_payload}
use Rattle.fate_check.specs.IdleWindows.{is_near, is_spared, is_idle}
use Rattle.fate_check.specs.OtherFailures.{with_windows}
use Rattle.fate_check.proofs.UsedLineAndSparedRowLaws.{picked-passes}

-- Without a failure that is idle the same rows are whole, by the same return cells.
-- ---- tables: failures lead to them by the return cells alone
pub same-table : (scenario : Scenario) (cells : List (Option Told)) (line k : ℕ) (windows : List Window) →
    table_of (with_windows scenario line windows) cells k ≡ table_of scenario cells k
same-table scenario cells line k windows =
    let alike : Alike (with_windows scenario line windows) cells scenario cells (16 * (k + 1)) = record {
      lines = length-set scenario.windows line windows;
      lag = refl;
      size = refl;
      statuses = refl;
      orders = λ j low. refl;
      cells = λ j low. refl;
      offers = λ u low. refl;
      tells = λ k low. refl;
    } in
    ap (λ source. source.table)
    (alike-after (with_windows scenario line windows) cells scenario cells (16 * (k + 1)) (suc k) alike (omega arith))

-- ---- containers, one by one
abbrev is_in : Window → ℕ → Bool
is_in window n = nat_le window.first n && nat_lt n window.end

spoils : (window : Window) (n : ℕ) → carried_in window n ≡ Whole → ⊥
spoils window n whole =
    elim (nat_lt (n + window.slip) window.end) as (λ b. (if b then Fails else Vanishes) ≡ Whole → ⊥) [
      | true ↦ λ e. cc
      | false ↦ λ e. cc
    ] whole

-- outside the failure all is as it was
skips : (before after : List Window) (window : Window) (n : ℕ) → is_in window n ≡ false →
    carried (before ++ window ∷ after) n ≡ carried (before ++ after) n
unfolding carried
skips [] after window n outside = rw outside refl
skips (own ∷ before) after window n outside =
    elim (cases_Bool (is_in own n)) [
      | inl within ↦ rw within refl
      | inr beside ↦ rw beside (skips before after window n outside)
    ]

-- and what is whole stays whole
keeps : (before after : List Window) (window : Window) (n : ℕ) → carried (before ++ window ∷ after) n ≡ Whole →
    carried (before ++ after) n ≡ Whole
unfolding carried
keeps [] after window n whole =
    elim (cases_Bool (is_in window n)) [
      | inl within ↦ absurd (spoils window n (let e : carried_in window n ≡ Whole = rw within at whole in e))
      | inr beside ↦ (let e : carried after n ≡ Whole = rw beside at whole in e)
    ]
keeps (own ∷ before) after window n whole =
    elim (cases_Bool (is_in own n)) [
      | inl within ↦ absurd (spoils own n (let e : carried_in own n ≡ Whole = rw within at whole in e))
      | inr beside ↦ (
          let rest : carried (before ++ window ∷ after) n ≡ Whole = rw beside at whole in
          rw beside (keeps before after window n rest))
    ]

-- ---- packets and rows of a line
abbrev Misses : Window → ℕ → ℕ → Type 0
Misses window from end = (window.end ≤ from) ⊎ (end ≤ window.first)

outside : (window : Window) (from end n : ℕ) → Misses window from end → from ≤ n → n < end → is_in window n ≡ false
outside window from end n (inl behind) low high =
    and_right (nat_le window.first n) (nat_lt n window.end) (le-ltb n window.end (omega (arith, behind, low)))
outside window from end n (inr ahead) low high =
    and_left (nat_le window.first n) (nat_lt n window.end) (lt-leb window.first n (omega (arith, ahead, high)))

module _ (before after : List Window) (window : Window) where
  read-keeps : (k : ℕ) → is_readable (carried (before ++ window ∷ after)) k ≡ true →
      is_readable (carried (before ++ after)) k ≡ true
  read-keeps k read =
      (readable-whole (carried (before ++ after)) k).1
      (λ n low high. keeps before after window n
      ((readable-whole (carried (before ++ window ∷ after)) k).0 read n low high))

  good-keeps : (t : ℕ) → is_good (carried (before ++ window ∷ after)) t ≡ true →
      is_good (carried (before ++ after)) t ≡ true
  good-keeps t good =
      let whole = (good-whole (carried (before ++ window ∷ after)) t).0 good in
      (good-whole (carried (before ++ after)) t).1
      (whole.0, λ n low high. keeps before after window n (whole.1 n low high))

  read-back : (k : ℕ) → Misses window (16 * k) (16 * k + 24) → is_readable (carried (before ++ after)) k ≡ true →
      is_readable (carried (before ++ window ∷ after)) k ≡ true
  read-back k misses read =
      (readable-whole (carried (before ++ window ∷ after)) k).1
      (λ n low high. skips before after window n (outside window (16 * k) (16 * k + 24) n misses low high)
      ∙ (readable-whole (carried (before ++ after)) k).0 read n low high)

  good-back : (t : ℕ) → Misses window (16 * ((t - 2) / 16)) (t + 1) → is_good (carried (before ++ after)) t ≡ true →
      is_good (carried (before ++ window ∷ after)) t ≡ true
  good-back t misses good =
      let whole = (good-whole (carried (before ++ after)) t).0 good in
      (good-whole (carried (before ++ window ∷ after)) t).1 (
        whole.0,
        λ n low high. skips before after window n (outside window (16 * ((t - 2) / 16)) (t + 1) n misses low high)
            ∙ whole.1 n low high,
      )

-- ---- lists of lines
all-follow : (p q : ℕ → Bool) (lines : List ℕ) → ((line : ℕ) → p line ≡ true → q line ≡ true) →
    list_all p lines ≡ true → list_all q lines ≡ true
all-follow p q [] follow all = refl
all-follow p q (line ∷ lines) follow all =
    let parts = and_parts (p line) (list_all p lines) all in
    and_from (q line) (list_all q lines) (follow line parts.0) (all-follow p q lines follow parts.1)

-- none of them is a line
all-others : (p q : ℕ → Bool) (lines : List ℕ) (own : ℕ) → list_any (λ line. line == own) lines ≡ false →
    ((line : ℕ) → (line ≡ own → ⊥) → p line ≡ true → q line ≡ true) → list_all p lines ≡ true →
    list_all q lines ≡ true
all-others p q [] own other follow all = refl
all-others p q (line ∷ lines) own other follow all =
    let apart = or_parts (line == own) (list_any (λ line. line == own) lines) other in
    let parts = and_parts (p line) (list_all p lines) all in
    and_from (q line) (list_all q lines) (follow line (eqb-false line own apart.0) parts.0)
    (all-others p q lines own apart.1 follow parts.1)

-- one of them that passes
record Passes (p : ℕ → Bool) (lines : List ℕ) : Type 0 where
  pub line : ℕ
  pub rest : List ℕ
  pub is : lines ≡ line ∷ rest
  pub passes : p line ≡ true

first-passes : (p : ℕ → Bool) (lines : List ℕ) → nat_lt 0 (length lines) ≡ true → list_all p lines ≡ true → Passes p lines
first-passes p [] some all = absurd (let e : false ≡ true = some in cc)
first-passes p (line ∷ lines) some all =
    record { line = line; rest = lines; is = refl; passes = (and_parts (p line) (list_all p lines) all).0 }

-- a line that carries payload is one of those that are configured
first-below : (n : ℕ) (order : List Member) → IsBelow n (times (lines_of order)) → (line : ℕ) (rest : List ℕ) →
    map (λ (member : Member). member.line) (filter is_normal order) ≡ line ∷ rest → line < n
first-below n [] below line rest is = absurd cc
first-below n (member ∷ order) below line rest is =
    elim (cases_Bool (is_normal member)) [
      | inl normal ↦ (
          let here : member.line ∷ map (λ (member : Member). member.line) (filter is_normal order) ≡ line ∷ rest =
          rw normal at is in
          let same : member.line ≡ line = cc in
          subst (λ l. l < n) same (inside n member order below))
      | inr other ↦ (
          let there : map (λ (member : Member). member.line) (filter is_normal order) ≡ line ∷ rest =
          rw other at is in
          first-below n order (λ l high. let none = below l high in omega arith) line rest there)
    ]

-- ---- where the sink doesn't go on
both-pass : (p q : ℕ → Bool) (lines : List ℕ) →
    (list_all p lines && list_all q lines) ≡ list_all (λ line. p line && q line) lines
both-pass p q [] = refl
both-pass p q (line ∷ lines) =
    crossed (p line) (list_all p lines) (q line) (list_all q lines)
    ∙ ap (λ b. (p line && q line) && b) (both-pass p q lines)
  where
    crossed : (a rest b others : Bool) → ((a && rest) && (b && others)) ≡ ((a && b) && (rest && others))
    crossed true true b others = refl
    crossed true false true others = refl
    crossed true false false others = refl
    crossed false rest b others = refl

-- rows are whole by the packet and the container of each line that carries payload
whole-stops : (of : Scenario) (cells : List (Option Told)) (k t : ℕ) → of.options.infers ≡ false →
    is_whole_under of cells k t ≡ (is_heard of k
    && list_all (λ line. is_read of line k && is_good (carried_by of line) t) (active (table_of of cells k)))
whole-stops of cells k t stops =
    let reads = λ (line : ℕ). is_read of line k in
    let keeps = λ (line : ℕ). is_good (carried_by of line) t in
    let lines = active (table_of of cells k) in
    ap (λ b. (is_heard of k && (list_all reads lines || (b && are_inferred of cells k))) && list_all keeps lines) stops
    ∙ joined (is_heard of k) (list_all reads lines) (list_all keeps lines)
    ∙ ap (λ b. is_heard of k && b) (both-pass reads keeps lines)
  where
    joined : (heard read good : Bool) → ((heard && (read || false)) && good) ≡ (heard && (read && good))
    joined true true good = refl
    joined true false good = refl
    joined false read good = refl

-- ---- a scenario without a failure
-- a packet of a line with these failures can be read, and the line is good at a row
abbrev reads : ℕ → List Window → Bool
reads k windows = is_readable (carried windows) k

abbrev arrives : ℕ → ℕ → List Window → Bool
arrives k t windows = is_readable (carried windows) k && is_good (carried windows) t

module _ (scenario : Scenario) (line : ℕ) (before after : List Window) (window : Window)
    (there : slice_get scenario.windows line ≡ Some (before ++ window ∷ after)) where
  abbrev other : Scenario
  other = with_windows scenario line (before ++ after)

  within : line < length scenario.windows
  within = slice_get_within scenario.windows line (before ++ window ∷ after) there

  was-so : slice_index_or scenario.windows line [] ≡ before ++ window ∷ after
  was-so = get_or_from_slice_get scenario.windows line (before ++ window ∷ after) [] there

  is-so : slice_index_or other.windows line [] ≡ before ++ after
  is-so = get_or-set_same scenario.windows line (before ++ after) [] within

  beside : (m : ℕ) → (m ≡ line → ⊥) → slice_index_or other.windows m [] ≡ slice_index_or scenario.windows m []
  beside m apart = get_or-set_other scenario.windows line m (before ++ after) [] apart

  -- a test of the failures of a line, which passes without the failure if it did before, and the other way round
  module _ (test : List Window → Bool) where
    lifted : (test (before ++ window ∷ after) ≡ true → test (before ++ after) ≡ true) → (m : ℕ) →
        test (slice_index_or scenario.windows m []) ≡ true → test (slice_index_or other.windows m []) ≡ true
    lifted keeps m passes =
        elim (cases_eq m line) [
          | inl same ↦ (
              let own : test (before ++ window ∷ after) ≡ true =
              ap test (sym was-so) ∙ ap (λ l. test (slice_index_or scenario.windows l [])) (sym same) ∙ passes in
              ap (λ l. test (slice_index_or other.windows l [])) same ∙ ap test is-so ∙ keeps own)
          | inr apart ↦ ap test (beside m apart) ∙ passes
        ]

    lowered : (m : ℕ) → (m ≡ line → test (before ++ after) ≡ true → test (before ++ window ∷ after) ≡ true) →
        test (slice_index_or other.windows m []) ≡ true → test (slice_index_or scenario.windows m []) ≡ true
    lowered m comes_back passes =
        elim (cases_eq m line) [
          | inl same ↦ (
              let own : test (before ++ after) ≡ true =
              ap test (sym is-so) ∙ ap (λ l. test (slice_index_or other.windows l [])) (sym same) ∙ passes in
              ap (λ l. test (slice_index_or scenario.windows l [])) same ∙ ap test was-so ∙ comes_back same own)
          | inr apart ↦ ap test (sym (beside m apart)) ∙ passes
        ]

  arrives-keeps : (k t : ℕ) → arrives k t (before ++ window ∷ after) ≡ true → arrives k t (before ++ after) ≡ true
  arrives-keeps k t both =
      let parts = and_parts (reads k (before ++ window ∷ after)) (is_good (carried (before ++ window ∷ after)) t) both in
      and_from (reads k (before ++ after)) (is_good (carried (before ++ after)) t)
      (read-keeps before after window k parts.0) (good-keeps before after window t parts.1)

  arrives-back : (k t : ℕ) → Misses window (16 * k) (16 * k + 24) → Misses window (16 * ((t - 2) / 16)) (t + 1) →
      arrives k t (before ++ after) ≡ true → arrives k t (before ++ window ∷ after) ≡ true
  arrives-back k t far also both =
      let parts = and_parts (reads k (before ++ after)) (is_good (carried (before ++ after)) t) both in
      and_from (reads k (before ++ window ∷ after)) (is_good (carried (before ++ window ∷ after)) t)
      (read-back before after window k far parts.0) (good-back before after window t also parts.1)

  same-count : length other.windows ≡ length scenario.windows
  same-count = length-set scenario.windows line (before ++ after)

  heard-up : (k : ℕ) → is_heard scenario k ≡ true → is_heard other k ≡ true
  heard-up k heard =
      let found = (heard-line scenario k).0 heard in
      (heard-line other k).1 (
        found.0,
        (let low = found.1 in let count = same-count in omega (arith, low, count)),
        lifted (reads k) (read-keeps before after window k) found.0 found.2,
      )

  heard-down : (k : ℕ) → Misses window (16 * k) (16 * k + 24) → is_heard other k ≡ true → is_heard scenario k ≡ true
  heard-down k far heard =
      let found = (heard-line other k).0 heard in
      (heard-line scenario k).1 (
        found.0,
        (let low = found.1 in let count = same-count in omega (arith, low, count)),
        lowered (reads k) found.0 (λ same. read-back before after window k far) found.2,
      )

  module _ (stops : scenario.options.infers ≡ false) (cells : List (Option Told)) (k t : ℕ) where
    abbrev lines : List ℕ
    lines = active (table_of scenario cells k)

    abbrev whole_with : Scenario → List ℕ → Bool
    whole_with of lines = is_heard of k && list_all (λ m. arrives k t (slice_index_or of.windows m [])) lines

    same-lines : is_whole_under other cells k t ≡ whole_with other lines
    same-lines = whole-stops other cells k t stops
        ∙ ap (λ table. whole_with other (active table)) (same-table scenario cells line k (before ++ after))

    was-lines : is_whole_under scenario cells k t ≡ whole_with scenario lines
    was-lines = whole-stops scenario cells k t stops

    -- what was whole is whole without the failure
    up : is_whole_under scenario cells k t ≡ true → is_whole_under other cells k t ≡ true
    up whole =
        let parts = and_parts (is_heard scenario k)
        (list_all (λ m. arrives k t (slice_index_or scenario.windows m [])) lines) (sym was-lines ∙ whole) in
        same-lines
        ∙ and_from (is_heard other k) (list_all (λ m. arrives k t (slice_index_or other.windows m [])) lines)
        (heard-up k parts.0)
        (all-follow (λ m. arrives k t (slice_index_or scenario.windows m []))
        (λ m. arrives k t (slice_index_or other.windows m [])) lines
        (λ m. lifted (arrives k t) (arrives-keeps k t) m) parts.1)

    parts-of : is_whole_under other cells k t ≡ true →
        (is_heard other k ≡ true) × (list_all (λ m. arrives k t (slice_index_or other.windows m [])) lines ≡ true)
    parts-of whole =
        and_parts (is_heard other k) (list_all (λ m. arrives k t (slice_index_or other.windows m [])) lines)
        (sym same-lines ∙ whole)

    -- and the other way round, if it is far from the row
    far-down : Misses window (16 * k) (16 * k + 24) → Misses window (16 * ((t - 2) / 16)) (t + 1) →
        is_whole_under other cells k t ≡ true → is_whole_under scenario cells k t ≡ true
    far-down far also whole =
        let parts = parts-of whole in
        was-lines
        ∙ and_from (is_heard scenario k) (list_all (λ m. arrives k t (slice_index_or scenario.windows m [])) lines)
        (heard-down k far parts.0)
        (all-follow (λ m. arrives k t (slice_index_or other.windows m []))
        (λ m. arrives k t (slice_index_or scenario.windows m [])) lines
        (λ m. lowered (arrives k t) m (λ same. arrives-back k t far also)) parts.1)

    -- or if other lines carry payload, and its own doesn't
    other-down : nat_lt 0 (length lines) ≡ true → list_any (λ used. used == line) lines ≡ false →
        is_whole_under other cells k t ≡ true → is_whole_under scenario cells k t ≡ true
    other-down some apart whole =
        let all = all-others (λ m. arrives k t (slice_index_or other.windows m []))
        (λ m. arrives k t (slice_index_or scenario.windows m [])) lines line apart
        (λ m isnt. lowered (arrives k t) m (λ same. absurd (isnt same))) (parts-of whole).1 in
        let first = first-passes (λ m. arrives k t (slice_index_or scenario.windows m [])) lines some all in
        let m = first.line in
        let read = (and_parts (reads k (slice_index_or scenario.windows m []))
        (is_good (carried (slice_index_or scenario.windows m [])) t) first.passes).0 in
        was-lines
        ∙ and_from (is_heard scenario k) (list_all (λ m. arrives k t (slice_index_or scenario.windows m [])) lines)
        ((heard-line scenario k).1 (
          m,
          first-below (length scenario.windows) (table_of scenario cells k).order (below-after scenario cells k)
              m first.rest first.is,
          read,
        )) all

  -- ---- rows
  module _ (cells : List (Option Told)) (rows t : ℕ) (idle : is_idle scenario cells rows line window ≡ true)
      (taken : t < rows) (late : 24 ≤ t) where
    abbrev k : ℕ
    k = (t - 24) / 16

    parts : (not scenario.options.infers ≡ true)
        × (list_all (is_spared scenario cells line) (filter (is_near window) (range_with_len 0 rows)) ≡ true)
    parts = and_parts (not scenario.options.infers)
        (list_all (is_spared scenario cells line) (filter (is_near window) (range_with_len 0 rows))) idle

    stops : scenario.options.infers ≡ false
    stops = not-true scenario.options.infers parts.0

    now-late : nat_lt t 24 ≡ false
    now-late = le-ltb t 24 late

    far-off : is_near window t ≡ false →
        Misses window (16 * k) (16 * k + 24) × Misses window (16 * ((t - 2) / 16)) (t + 1)
    far-off off =
        elim (and_cases (nat_le window.first t) (nat_le t (window.end + 38)) off) [
          | inl before ↦ (
              let low : t < window.first = leb-false window.first t before in
              (inr (omega (arith, low, late)), inr (omega (arith, low))))
          | inr behind ↦ (
              let high : window.end + 38 < t = leb-false t (window.end + 38) behind in
              (inl (omega (arith, high, late)), inl (omega (arith, high))))
        ]

    row-down : is_whole_under other cells k t ≡ true → is_whole_under scenario cells k t ≡ true
    row-down whole =
        elim (cases_Bool (is_near window t)) [
          | inr off ↦ (let far = far-off off in far-down stops cells k t far.0 far.1 whole)
          | inl near ↦ (
              let spared : is_spared scenario cells line t ≡ true =
              picked-passes (is_near window) (is_spared scenario cells line) rows t parts.1 taken near in
              elim (cases_Bool (has_payload scenario cells t)) [
                | inl some ↦ (
                    let unused : not (is_used scenario cells line t) ≡ true = rw some at spared in
                    let apart : list_any (λ used. used == line) (active (table_of scenario cells k)) ≡ false =
                    (let e : is_used scenario cells line t ≡ false = not-true (is_used scenario cells line t) unused in
                    rw now-late at e) in
                    let payload : nat_lt 0 (length (active (table_of scenario cells k))) ≡ true = rw now-late at some in
                    other-down stops cells k t payload apart whole)
                | inr none ↦ (
                    let row : is_whole_row scenario cells t ≡ true = rw none at spared in
                    let e : is_whole_under scenario cells k t ≡ true = rw now-late at row in e)
              ])
        ]

    late-same : is_whole_row other cells t ≡ is_whole_row scenario cells t
    late-same =
        rw now-late (same_tests (is_whole_under other cells k t) (is_whole_under scenario cells k t) row-down
        (up stops cells k t))

  pub same-rows : (cells : List (Option Told)) (rows t : ℕ) → is_idle scenario cells rows line window ≡ true →
      t < rows → is_whole_row other cells t ≡ is_whole_row scenario cells t
  same-rows cells rows t idle taken =
      elim (cases_lt t 24) [
        | inl early ↦ rw (lt-ltb t 24 early) refl
        | inr late ↦ late-same cells rows t idle taken late
      ]
