-- A line that is held stays in use; a round of statuses takes out one that isn't up, and brings one back.
use Rattle.std.proofs.Common.{◌≡◌, ℕ, zero, suc, ◌+◌, ◌-◌, ◌<◌, ◌≤◌, Bool, true, false, if◌then◌else◌, inl, inr, List}
use Rattle.std.proofs.Common.{length, Option, Some, None, refl, sym, ◌∙◌, ap, subst, arith, ◌/◌, ◌%◌, slice_get}
use Rattle.std.proofs.Common.{slice_index_or}
use Rattle.std.proofs.lemmas.Bool.{both_ways, cases_Bool, cases_lt, eq-eqb}
use Rattle.std.proofs.lemmas.Option.{none-some, same_Some, slice_get-map, slice_get_within}
use Rattle.law_model.specs.declared.script_types.Options.{Options}
use Rattle.law_model.specs.declared.lcas_states.Standing.{Standing}
use Rattle.law_model.specs.declared.lcas_states.Standing.TheVariants.{Norm as normal, Add as adding, Dnu as unused}
use Rattle.law_model.specs.Common.{Scenario, is_read, is_line_up, is_up, last_read, kept_of, member_of, said, Told}
use Rattle.law_model.specs.Common.{told_on, table_of, word, word_by, status, Table, acknowledged_by, after, most_lines}
use Rattle.law_model.specs.Common.{cells_before, group_of, return_packet}
use Rattle.law_session.specs.Feedback.{table_before, lines_of}
use Rattle.law_session.specs.LineInUse.{IsInUse, IsAdded, known_by, round_end}
use Rattle.law_session.specs.TimedMembers.{IsHeld, IsToldFailed, IsUnchanged, IsOut, IsRound, IsToldFine, IsUpWithWord}
use Rattle.law_session.proofs.UpLineAndReadablePacketLaws.{some_heard, up-is}
use Rattle.law_session.proofs.ReturnCellAndLineWordLaws.{IsSession, rises, said-count, said-heard, said-rises}
use Rattle.law_session.proofs.ReturnCellAndLineWordLaws.{session-law, keep-at, full-after, none_kept-at}
use Rattle.law_session.proofs.AdmittedAndExchangedLineLaws.{Has, IsIn}
use Rattle.law_session.proofs.AddedLineWaitLaws.{heard_at, heard-for, kept-is, cell_at-taken, in_round, found_line}
use Rattle.law_session.proofs.AddedLineWaitLaws.{sixteen, cell-comes}
use Rattle.law_session.proofs.DecisionStepMemberLaws.{Becomes, unchanged, changes, told_on-lines, Follows}
use Rattle.law_session.proofs.FreshStatusLaws.{Has-lines, line-inside, heard_at-counts, keeps, takes}
use Rattle.law_session.proofs.FreshStatusLaws.{heard-keeps, IsFresh, step-follows, before-calm, told-is}
use Rattle.law_session.proofs.FreshStatusLaws.{failed-of, heard_at-order, one-place, lines-then, status-fails}
use Rattle.law_session.proofs.FreshStatusLaws.{status-holds, told-was, one-standing, fine-of}
use Rattle.std.proofs.lemmas.List.{length-map}
use Rattle.law_model.specs.declared.lcas_states.Member.{Member}
use Rattle.law_session.proofs.SourceOrderAndPlanLaws.{order-length}

-- ---- A line that is up and has a word at each packet whose return packet comes stays in use: so a line that is held does.
-- ---- one step
stays-normal : (status : Option Bool) (is : Standing) → (status ≡ Some false → ⊥) → Becomes status normal is →
    is ≡ normal
stays-normal None is fine (inl turned) = turned
stays-normal (Some true) is fine (inl turned) = turned
stays-normal (Some false) is fine (inl turned) = absurd (fine refl)
stays-normal status is fine (inr admitted) = absurd (let e = admitted.0 in cc)

pub told-used : (scenario : Scenario) (cells : List (Option Told)) → IsSession scenario cells → 0 < scenario.lag →
    (line j : ℕ) → IsInUse (table_before scenario cells j) line → (IsToldFailed scenario cells line j → ⊥) →
    IsIn (told_on (heard_at scenario cells j)).order (member_of line normal)
told-used scenario cells session lag line j used fine =
    let sq = used.0 in
    let told = told-is scenario cells j sq line normal used.1 in
    let has = Has-lines (table_before scenario cells j).order sq line normal used.1 in
    let status = kept_of (heard_at scenario cells j) sq in
    let calm = before-calm scenario cells j sq line normal used.1 in
    let not_fail : status ≡ Some false → ⊥ = λ e.
    elim (heard-keeps scenario cells session lag j sq) [
      | keeps same ↦ calm.stays refl (sym same ∙ e)
      | takes ok is fresh ↦ fine (failed-of scenario cells lag line j sq has
          (subst (IsFresh scenario cells j sq) (same_Some ok false (sym is ∙ e)) fresh))
    ] in (
      sq,
      subst (λ s. Has (told_on (heard_at scenario cells j)).order sq line s)
          (stays-normal status told.is not_fail told.becomes) told.stands,
    )

-- a step that makes no change leaves the members as they were told
pub told-stays : (scenario : Scenario) (cells : List (Option Told)) (j line : ℕ) (is : Standing) →
    (table_of scenario cells j).count ≡ (table_before scenario cells j).count →
    IsIn (told_on (heard_at scenario cells j)).order (member_of line is) →
    IsIn (table_of scenario cells j).order (member_of line is)
told-stays scenario cells j line is same inside =
    elim (step-follows scenario cells j) [
      | unchanged stays ↦ subst (λ table. IsIn table.order (member_of line is)) (sym stays) inside
      | changes count none stems ↦ let before = heard_at-counts scenario cells j in absurd (omega arith)
    ]

-- ---- counts and words while no change is made
pub rises-to : (scenario : Scenario) (cells : List (Option Told)) (a b : ℕ) → a ≤ b →
    (table_of scenario cells a).count ≤ (table_of scenario cells b).count
rises-to scenario cells a b low =
    let e : b - a + suc a ≡ suc b = omega arith in
    rw e at (rises scenario cells (suc a) (b - a))

pub unchanged-between : (scenario : Scenario) (cells : List (Option Told)) (from j to : ℕ) → from ≤ j → j ≤ to →
    IsUnchanged scenario cells from to → IsUnchanged scenario cells from j
unchanged-between scenario cells from j to low high same =
    let first = rises-to scenario cells from j low in
    let last = rises-to scenario cells j to high in
    omega arith

pub said-still : (scenario : Scenario) (cells : List (Option Told)) (r k : ℕ) → r ≤ k →
    said scenario cells r ≡ (table_of scenario cells r).count → IsUnchanged scenario cells r k →
    said scenario cells k ≡ (table_of scenario cells r).count
said-still scenario cells r k low says same =
    let e : k - r + suc r ≡ suc k = omega arith in
    let later : said scenario cells r ≤ said scenario cells k = rw e at (said-rises scenario cells (suc r) (k - r)) in
    let most = said-count scenario cells (suc k) in
    omega arith

pub last-since : (read : ℕ → Bool) (r k : ℕ) → r ≤ k → read r ≡ true →
    (last : ℕ) × (r ≤ last) × (last ≤ k) × (last_read read k ≡ Some last)
unfolding last_read
last-since read r zero low is =
    let same : r ≡ zero = omega arith in
    let here : read zero ≡ true = subst (λ x. read x ≡ true) same is in
    (zero, omega arith, omega arith, rw here refl)
last-since read r (suc k) low is =
    elim (cases_Bool (read (suc k))) [
      | inl here ↦ (suc k, low, omega arith, rw here refl)
      | inr gone ↦
          elim (cases_lt r (suc k)) [
            | inr now ↦
                let same : r ≡ suc k = omega arith in
                absurd (both_ways (read (suc k)) gone (subst (λ x. read x ≡ true) same is))
            | inl sooner ↦
                let before = last-since read r k (omega arith) is in
                (before.0, before.1, omega (arith, before.2), rw gone before.3)
          ]
    ]

pub still-word : (scenario : Scenario) (cells : List (Option Told)) (line r k : ℕ) → line < length scenario.windows →
    is_read scenario line r ≡ true → r ≤ k → IsUnchanged scenario cells r k →
    (last : ℕ) × (word scenario cells line k ≡ Some last)
still-word scenario cells line r k inside read low same =
    let found = last-since (is_read scenario line) r k low read in
    let says = said-still scenario cells r k low
    (said-heard scenario cells r (some_heard scenario.windows line r inside read)) same in
    let there = unchanged-between scenario cells r found.0 k found.1 found.2 same in (
      found.0,
      ap (word_by scenario cells (said scenario cells k)) found.3
          ∙ ap (λ b. if b then Some found.0 else None)
          (eq-eqb (table_of scenario cells found.0).count (said scenario cells k) (there ∙ sym says)),
    )

-- ---- a line stays up while the hold-off runs
pub up-held : (options : Options) (read : ℕ → Bool) (r last k : ℕ) → is_up options read r ≡ true → read r ≡ true →
    ((j : ℕ) → r < j → j + options.holdoff ≤ last →
    (i : ℕ) × (j ≤ i) × (i ≤ j + options.holdoff) × (read i ≡ true)) → r ≤ k → k ≤ last →
    is_up options read k ≡ true
up-held options read r last k up is few low high =
    let before = (up-is options read r).0 up in
    let since = before.1 in
    let past = since.past in
    (up-is options read k).1 (
      before.0,
      record {
        past = omega arith;
        restored = since.restored;
        held = λ j later whole. elim (cases_lt r j) [
          | inl behind ↦ few j behind (omega arith)
          | inr front ↦ elim (cases_lt (j + options.holdoff) r) [
            | inl sooner ↦ since.held j later (omega arith)
            | inr around ↦ (r, front, around, is)
          ]
        ];
      },
    )

-- ---- all steps
pub not_failed : (scenario : Scenario) (cells : List (Option Told)) (line j k last : ℕ) → j ≡ k + scenario.lag →
    is_line_up scenario line k ≡ true → word scenario cells line k ≡ Some last →
    IsToldFailed scenario cells line j → ⊥
not_failed scenario cells line j k last at up spoke failed =
    let there = failed.at in
    let same : failed.packet ≡ k = omega arith in
    elim (failed.why) [
      | inl down ↦ both_ways (is_line_up scenario line k)
          (subst (λ p. is_line_up scenario line p ≡ false) same down) up
      | inr none ↦ none-some last (sym (subst (λ p. word scenario cells line p ≡ None) same none) ∙ spoke)
    ]

held-on : (scenario : Scenario) (cells : List (Option Told)) → IsSession scenario cells → 0 < scenario.lag →
    (line r last : ℕ) → IsHeld scenario cells line r last → (d : ℕ) → d + (r + scenario.lag) ≤ last + scenario.lag →
    IsInUse (table_of scenario cells (d + (r + scenario.lag))) line
held-on scenario cells session lag line r last held zero inside =
    let e : zero + (r + scenario.lag) ≡ r + scenario.lag = omega arith in rw e held.used
held-on scenario cells session lag line r last held (suc d) inside =
    let e : suc d + (r + scenario.lag) ≡ suc (d + (r + scenario.lag)) = omega arith in
    let j = suc (d + (r + scenario.lag)) in
    let k = suc d + r in
    let before = held-on scenario cells session lag line r last held d (omega arith) in
    let known = line-inside scenario cells j before.0 line
    (Has-lines (table_before scenario cells j).order before.0 line normal before.1) in
    let up = up-held scenario.options (is_read scenario line) r last k held.up held.read held.few (omega arith)
    (omega arith) in
    let still = unchanged-between scenario cells r k (last + scenario.lag) (omega arith) (omega arith) held.still in
    let word = still-word scenario cells line r k known held.read (omega arith) still in
    let told = told-used scenario cells session lag line j before
    (not_failed scenario cells line j k word.0 (omega arith) up word.1) in
    let here = unchanged-between scenario cells r j (last + scenario.lag) (omega arith) (omega arith) held.still in
    let sooner = unchanged-between scenario cells r (d + (r + scenario.lag)) (last + scenario.lag) (omega arith)
    (omega arith) held.still in
    rw e (told-stays scenario cells j line normal (here ∙ sym sooner) told)

pub held-used : (scenario : Scenario) (cells : List (Option Told)) → IsSession scenario cells → 0 < scenario.lag →
    (line r last j : ℕ) → IsHeld scenario cells line r last → r + scenario.lag ≤ j → j ≤ last + scenario.lag →
    IsInUse (table_of scenario cells j) line
held-used scenario cells session lag line r last j held low high =
    let e : j - (r + scenario.lag) + (r + scenario.lag) ≡ j = omega arith in
    rw e at (held-on scenario cells session lag line r last held (j - (r + scenario.lag)) (omega arith))

-- ---- What a round of statuses makes of a line that isn't up meanwhile, and of one that is.
-- ---- a line that nothing brings into use
-- wherever it stands, it isn't in NORM, and no status is kept that would make it so
pub record IsQuiet (table : Table) (line : ℕ) : Type 0 where
  pub stands : (sq : ℕ) → Has table.order sq line normal → ⊥
  pub kept : (sq : ℕ) → slice_get (lines_of table.order) sq ≡ Some line → (kept_of table) sq ≡ Some true → ⊥

pub opening-quiet : (scenario : Scenario) (cells : List (Option Told)) (line : ℕ) →
    IsQuiet (table_before scenario cells zero) line
unfolding after
opening-quiet scenario cells line = record {
  stands = λ sq has. none-some (member_of line normal) has;
  kept = λ sq has. absurd (none-some line has);
}

never-normal : (status : Option Bool) (was : Standing) → (was ≡ normal → ⊥) → (status ≡ Some true → ⊥) →
    Becomes status was normal → ⊥
never-normal status was other bad (inr admitted) = bad admitted.1
never-normal None was other bad (inl turned) = other (sym turned)
never-normal (Some true) was other bad (inl turned) = bad refl
never-normal (Some false) adding other bad (inl turned) = cc
never-normal (Some false) normal other bad (inl turned) = other refl
never-normal (Some false) unused other bad (inl turned) = cc

never-failed : (status : Option Bool) (was : Standing) → status ≡ Some false → Becomes status was normal → ⊥
never-failed status was fails (inr admitted) = let ok = admitted.1 in cc
never-failed None was fails (inl turned) = cc
never-failed (Some true) was fails (inl turned) = cc
never-failed (Some false) adding fails (inl turned) = cc
never-failed (Some false) normal fails (inl turned) = cc
never-failed (Some false) unused fails (inl turned) = cc

quiet-follows : (line : ℕ) (told next : Table) → Follows told next → IsQuiet told line → IsQuiet next line
quiet-follows line told next (unchanged same) quiet = subst (λ table. IsQuiet table line) (sym same) quiet
quiet-follows line told next (changes count none stems) quiet = record {
  stands = λ sq has. elim (stems (member_of line normal) (sq, has)) [
    | inl adds ↦ cc
    | inr before ↦ quiet.stands before.0 before.1
  ];
  kept = λ sq has says. none-some true
      (sym (ap (λ statuses. slice_index_or statuses sq None) none ∙ none_kept-at sq) ∙ says);
}

-- the lines of a table that is told its statuses are those before the step
told-lines : (scenario : Scenario) (cells : List (Option Told)) (j : ℕ) →
    lines_of (told_on (heard_at scenario cells j)).order ≡ lines_of (table_before scenario cells j).order
told-lines scenario cells j =
    told_on-lines (heard_at scenario cells j) ∙ ap lines_of (heard_at-order scenario cells j)

pub quiet-step : (scenario : Scenario) (cells : List (Option Told)) → IsSession scenario cells → 0 < scenario.lag →
    (line j : ℕ) → IsQuiet (table_before scenario cells j) line → (IsToldFine scenario cells line j → ⊥) →
    IsQuiet (table_of scenario cells j) line
quiet-step scenario cells session lag line j quiet none =
    let not_ok : (sq : ℕ) → slice_get (lines_of (table_before scenario cells j).order) sq ≡ Some line →
    (kept_of (heard_at scenario cells j)) sq ≡ Some true → ⊥ = λ sq has says.
    elim (heard-keeps scenario cells session lag j sq) [
      | keeps same ↦ quiet.kept sq has (sym same ∙ says)
      | takes ok is fresh ↦ none (fine-of scenario cells lag line j sq has
          (subst (IsFresh scenario cells j sq) (same_Some ok true (sym is ∙ says)) fresh))
    ] in
    quiet-follows line (told_on (heard_at scenario cells j)) (table_of scenario cells j)
    (step-follows scenario cells j) (record {
      stands = λ sq has.
          let was = told-was scenario cells j sq line normal has in
          never-normal (kept_of (heard_at scenario cells j) sq) was.was
          (λ e. quiet.stands sq (subst (λ s. Has (table_before scenario cells j).order sq line s) e was.stood))
          (not_ok sq (Has-lines (table_before scenario cells j).order sq line was.was was.stood)) was.becomes;
      kept = λ sq has. not_ok sq (sym (ap (λ lines. slice_get lines sq) (told-lines scenario cells j)) ∙ has);
    })

quiet-many : (scenario : Scenario) (cells : List (Option Told)) → IsSession scenario cells → 0 < scenario.lag →
    (line from d : ℕ) → IsQuiet (table_before scenario cells from) line →
    ((j : ℕ) → from ≤ j → j < d + from → IsToldFine scenario cells line j → ⊥) →
    IsQuiet (table_before scenario cells (d + from)) line
quiet-many scenario cells session lag line from zero quiet none =
    let e : zero + from ≡ from = omega arith in rw e quiet
quiet-many scenario cells session lag line from (suc d) quiet none =
    let e : suc d + from ≡ suc (d + from) = omega arith in
    rw e (quiet-step scenario cells session lag line (d + from)
    (quiet-many scenario cells session lag line from d quiet (λ j low high. none j low (omega arith)))
    (none (d + from) (omega arith) (omega arith)))

pub quiet-on : (scenario : Scenario) (cells : List (Option Told)) → IsSession scenario cells → 0 < scenario.lag →
    (line from j : ℕ) → IsQuiet (table_before scenario cells from) line → from ≤ suc j →
    ((i : ℕ) → from ≤ i → i ≤ j → IsToldFine scenario cells line i → ⊥) →
    IsQuiet (table_of scenario cells j) line
quiet-on scenario cells session lag line from j quiet low none =
    let e : suc j - from + from ≡ suc j = omega arith in
    rw e at (quiet-many scenario cells session lag line from (suc j - from) quiet
    (λ i late near. none i late (omega arith)))

-- a line that was never up was never in use
pub never-used : (scenario : Scenario) (cells : List (Option Told)) → IsSession scenario cells → 0 < scenario.lag →
    (line e j : ℕ) → ((k : ℕ) → k ≤ e → is_line_up scenario line k ≡ false) → j ≤ e + scenario.lag →
    IsInUse (table_of scenario cells j) line → ⊥
never-used scenario cells session lag line e j down high used =
    (quiet-on scenario cells session lag line zero j (opening-quiet scenario cells line) (omega arith)
    (λ i low near fine.
    let at = fine.at in
    both_ways (is_line_up scenario line fine.packet) (down fine.packet (omega arith)) fine.up)).stands used.0 used.1

-- ---- the step of a round that takes the status of the line
kept-told : (scenario : Scenario) (cells : List (Option Told)) (j k s : ℕ) → j ≡ k + scenario.lag →
    slice_index_or cells k None ≡ Some (return_packet scenario cells k) →
    said scenario cells k ≡ (table_before scenario cells j).count → s / 8 ≡ group_of scenario k → s < most_lines →
    (kept_of (heard_at scenario cells j)) s ≡ Some (status scenario cells k s)
unfolding heard_at
kept-told scenario cells j k s at cell whole group small =
    let table = table_before scenario cells j in
    let told = return_packet scenario cells k in
    let back : j - scenario.lag ≡ k = omega arith in
    let here = cell_at-taken scenario cells j told (omega arith) (rw back cell) in
    let for_it = eq-eqb (said scenario cells k % 2) (table.count % 2) (ap (λ n. n % 2) whole) in
    let full = full-after scenario cells j in
    let is_told : heard_at scenario cells j ≡ acknowledged_by (group_of scenario k) (Some told) table =
    rw (here, back) (heard-for (group_of scenario k) (Some told) table for_it) in
    let test = eq-eqb (s / 8) (group_of scenario k) group in
    ap (λ t. (kept_of t) s) is_told
    ∙ keep-at (group_of scenario k) told.oks table.statuses s (omega arith)
    ∙ ap (λ b. if b then slice_get told.oks (s % 8) else slice_index_or table.statuses s None) test
    ∙ kept-is scenario cells (status scenario cells k s) k s group refl

record RoundStep (scenario : Scenario) (cells : List (Option Told)) (line d : ℕ) : Type 0 where
  pub packet : ℕ
  pub sq : ℕ
  pub from : d ≤ packet
  pub near : packet ≤ round_end scenario d
  pub has : slice_get (lines_of (table_before scenario cells (packet + scenario.lag)).order) sq ≡ Some line
  pub whole : said scenario cells packet ≡ (table_before scenario cells (packet + scenario.lag)).count
  pub kept : (kept_of (heard_at scenario cells (packet + scenario.lag))) sq ≡ Some (status scenario cells packet sq)

small-sq : (scenario : Scenario) (cells : List (Option Told)) (j sq line : ℕ) → length scenario.windows ≤ most_lines →
    slice_get (lines_of (table_before scenario cells j).order) sq ≡ Some line → sq < most_lines
small-sq scenario cells j sq line lines has =
    let order = (table_before scenario cells j).order in
    let inside = slice_get_within (lines_of order) sq line has in
    let size = length-map order (λ member. member.line) in
    let most = order-length scenario cells j in
    omega arith

-- the count before a step of the round is that of packet d
round-count : (scenario : Scenario) (cells : List (Option Told)) (d j : ℕ) → d < j →
    j ≤ suc (known_by scenario d) → IsUnchanged scenario cells d (known_by scenario d) →
    (table_of scenario cells d).count ≡ (table_before scenario cells j).count
round-count scenario cells d zero low high still = absurd (omega arith)
round-count scenario cells d (suc j) low high still =
    sym (unchanged-between scenario cells d j (known_by scenario d) (omega arith) (omega arith) still)

round-step : (scenario : Scenario) (n line d : ℕ) → IsRound scenario (cells_before scenario n) n line d →
    RoundStep scenario (cells_before scenario n) line d
round-step scenario n line d round =
    let cells = cells_before scenario n in
    let limits = round.limits in
    let lag = limits.lag in
    let G = scenario.options.statuses in
    let sq = round.has.0 in
    let small = small-sq scenario cells (suc d) sq line limits.lines round.has.1 in
    let in_turn = in_round G d (sq / 8) limits.statuses (omega arith) in
    let k = in_turn.0 in
    let made = round.made in
    let near : k < d + G = in_turn.2 in
    let from : d ≤ k = in_turn.1 in
    let count = round-count scenario cells d (k + scenario.lag) (omega arith) (omega arith) round.still in
    let still = unchanged-between scenario cells d k (known_by scenario d) from (omega arith) round.still in
    let whole = said-still scenario cells d k from round.said still ∙ count in
    let cell = cell-comes scenario n d G k lag (omega arith) round.come from near in
    record {
      packet = k;
      sq = sq;
      from = from;
      near = omega arith;
      has = ap (λ lines. slice_get lines sq)
          (sym (lines-then scenario cells (k + scenario.lag) d (omega arith) count)) ∙ round.has.1;
      whole = whole;
      kept = kept-told scenario cells (k + scenario.lag) k sq refl cell whole in_turn.3 small;
    }

-- ---- a line that isn't up in a round isn't in use afterwards, as long as it isn't up
quiet-round : (scenario : Scenario) (cells : List (Option Told)) (line d : ℕ) → 0 < scenario.lag →
    (step : RoundStep scenario cells line d) → is_line_up scenario line step.packet ≡ false →
    IsQuiet (table_of scenario cells (step.packet + scenario.lag)) line
quiet-round scenario cells line d lag step down =
    let j = step.packet + scenario.lag in
    let fails : (kept_of (heard_at scenario cells j)) step.sq ≡ Some false =
    step.kept ∙ ap Some (status-fails scenario cells j step.packet step.sq line
    (omega arith) step.whole step.has down) in
    let here : (sq : ℕ) → slice_get (lines_of (table_before scenario cells j).order) sq ≡ Some line →
    (kept_of (heard_at scenario cells j)) sq ≡ Some false = λ sq has.
    subst (λ s. (kept_of (heard_at scenario cells j)) s ≡ Some false)
    (one-place scenario cells j step.sq sq line step.has has) fails in
    quiet-follows line (told_on (heard_at scenario cells j)) (table_of scenario cells j)
    (step-follows scenario cells j) (record {
      stands = λ sq has.
          let was = told-was scenario cells j sq line normal has in
          never-failed (kept_of (heard_at scenario cells j) sq) was.was
          (here sq (Has-lines (table_before scenario cells j).order sq line was.was was.stood)) was.becomes;
      kept = λ sq has says.
          let there = here sq (sym (ap (λ lines. slice_get lines sq) (told-lines scenario cells j)) ∙ has) in cc;
    })

pub round-out : (scenario : Scenario) (n line d e j : ℕ) → IsRound scenario (cells_before scenario n) n line d →
    ((k : ℕ) → d ≤ k → k ≤ e → is_line_up scenario line k ≡ false) → round_end scenario d ≤ e →
    known_by scenario d ≤ j → j ≤ e + scenario.lag →
    IsInUse (table_of (scenario) (cells_before scenario n) j) line → ⊥
round-out scenario n line d e j round down long late near used =
    let cells = cells_before scenario n in
    let lag = round.limits.lag in
    let step = round-step scenario n line d round in
    let close = step.near in
    let start = quiet-round scenario cells line d lag step
    (down step.packet step.from (omega arith)) in
    (quiet-on scenario cells (session-law scenario n lag) lag line (suc (step.packet + scenario.lag)) j start
    (omega arith) (λ i low high fine.
    let at = fine.at in
    let from = step.from in
    both_ways (is_line_up scenario line fine.packet) (down fine.packet (omega arith) (omega arith)) fine.up)).stands
    used.0 used.1

-- a line that has an SQ stands there
pub lines-has : (order : List Member) (sq line : ℕ) → slice_get (lines_of order) sq ≡ Some line →
    (standing : Standing) × Has order sq line standing
lines-has order sq line has =
    let found = found_line (slice_get order sq) line (sym (slice_get-map (λ member. member.line) order sq) ∙ has) in
    (found.0.standing, found.1 ∙ ap (λ l. Some (member_of l found.0.standing)) found.2)

-- ---- a line that is up and has a word throughout a round isn't out of use at its end
-- a line stands at an SQ, not in DNU, and OK is kept of it
record IsSteady (table : Table) (line sq : ℕ) : Type 0 where
  pub is : Standing
  pub stands : Has table.order sq line is
  pub in_use : is ≡ unused → ⊥
  pub kept : (kept_of table) sq ≡ Some true

-- the same, of a line that isn't in ADD either
record IsUsed (table : Table) (line sq : ℕ) : Type 0 where
  pub is : Standing
  pub stands : Has table.order sq line is
  pub other : is ≡ adding → ⊥

never-unused : (status : Option Bool) (was : Standing) → status ≡ Some true → Becomes status was unused → ⊥
never-unused status was ok (inr admitted) = let e = admitted.2 in cc
never-unused None was ok (inl turned) = cc
never-unused (Some false) was ok (inl turned) = cc
never-unused (Some true) adding ok (inl turned) = cc
never-unused (Some true) normal ok (inl turned) = cc
never-unused (Some true) unused ok (inl turned) = cc

never-adding : (status : Option Bool) (was : Standing) → (was ≡ adding → ⊥) → Becomes status was adding → ⊥
never-adding status was other (inr admitted) = let e = admitted.2 in cc
never-adding None was other (inl turned) = other (sym turned)
never-adding (Some ok) adding other (inl turned) = other refl
never-adding (Some true) normal other (inl turned) = cc
never-adding (Some false) normal other (inl turned) = cc
never-adding (Some true) unused other (inl turned) = cc
never-adding (Some false) unused other (inl turned) = cc

-- a step that makes no change leaves the table as it was told
told-table : (scenario : Scenario) (cells : List (Option Told)) (j : ℕ) →
    (table_of scenario cells j).count ≡ (table_before scenario cells j).count →
    table_of scenario cells j ≡ told_on (heard_at scenario cells j)
told-table scenario cells j same =
    elim (step-follows scenario cells j) [
      | unchanged stays ↦ stays
      | changes count none stems ↦ let before = heard_at-counts scenario cells j in absurd (omega arith)
    ]

steady-told : (scenario : Scenario) (cells : List (Option Told)) (line j sq : ℕ) (was : Standing) →
    Has (table_before scenario cells j).order sq line was →
    (kept_of (heard_at scenario cells j)) sq ≡ Some true →
    (table_of scenario cells j).count ≡ (table_before scenario cells j).count →
    IsSteady (table_of scenario cells j) line sq
steady-told scenario cells line j sq was has ok same =
    let told = told-is scenario cells j sq line was has in
    subst (λ table. IsSteady table line sq) (sym (told-table scenario cells j same)) (record {
      is = told.is;
      stands = told.stands;
      in_use = λ e. never-unused (kept_of (heard_at scenario cells j) sq) was ok
          (subst (Becomes (kept_of (heard_at scenario cells j) sq) was) e told.becomes);
      kept = ok;
    })

steady-step : (scenario : Scenario) (cells : List (Option Told)) → IsSession scenario cells → 0 < scenario.lag →
    (line j sq : ℕ) → IsSteady (table_before scenario cells j) line sq → (IsToldFailed scenario cells line j → ⊥) →
    (table_of scenario cells j).count ≡ (table_before scenario cells j).count →
    IsSteady (table_of scenario cells j) line sq
steady-step scenario cells session lag line j sq steady fine same =
    let has = Has-lines (table_before scenario cells j).order sq line steady.is steady.stands in
    let ok : (kept_of (heard_at scenario cells j)) sq ≡ Some true =
    elim (heard-keeps scenario cells session lag j sq) [
      | keeps stays ↦ stays ∙ steady.kept
      | takes true is fresh ↦ is
      | takes false is fresh ↦ absurd (fine (failed-of scenario cells lag line j sq has fresh))
    ] in
    steady-told scenario cells line j sq steady.is steady.stands ok same

used-step : (scenario : Scenario) (cells : List (Option Told)) (line j sq : ℕ) →
    IsUsed (table_before scenario cells j) line sq →
    (table_of scenario cells j).count ≡ (table_before scenario cells j).count →
    IsUsed (table_of scenario cells j) line sq
used-step scenario cells line j sq used same =
    let told = told-is scenario cells j sq line used.is used.stands in
    subst (λ table. IsUsed table line sq) (sym (told-table scenario cells j same)) (record {
      is = told.is;
      stands = told.stands;
      other = λ e. never-adding (kept_of (heard_at scenario cells j) sq) used.is used.other
          (subst (Becomes (kept_of (heard_at scenario cells j) sq) used.is) e told.becomes);
    })

-- every step up to the last one of the round
round-same : (scenario : Scenario) (cells : List (Option Told)) (d j : ℕ) → d < j → j ≤ known_by scenario d →
    IsUnchanged scenario cells d (known_by scenario d) →
    (table_of scenario cells j).count ≡ (table_before scenario cells j).count
round-same scenario cells d j low high still =
    unchanged-between scenario cells d j (known_by scenario d) (omega arith) high still
    ∙ round-count scenario cells d j low (omega arith) still

steady-many : (scenario : Scenario) (cells : List (Option Told)) → IsSession scenario cells → 0 < scenario.lag →
    (line d sq from i : ℕ) → IsUnchanged scenario cells d (known_by scenario d) →
    ((k : ℕ) → d ≤ k → k ≤ round_end scenario d → IsUpWithWord scenario cells line k) →
    IsSteady (table_before scenario cells from) line sq → d + scenario.lag < from →
    i + from ≤ suc (known_by scenario d) →
    IsSteady (table_before scenario cells (i + from)) line sq
steady-many scenario cells session lag line d sq from zero still up steady low high =
    let e : zero + from ≡ from = omega arith in rw e steady
steady-many scenario cells session lag line d sq from (suc i) still up steady low high =
    let e : suc i + from ≡ suc (i + from) = omega arith in
    let j = i + from in
    let seen = up (j - scenario.lag) (omega arith) (omega arith) in
    rw e (steady-step scenario cells session lag line j sq
    (steady-many scenario cells session lag line d sq from i still up steady low (omega arith))
    (not_failed scenario cells line j (j - scenario.lag) seen.1.0 (omega arith) seen.0 seen.1.1)
    (round-same scenario cells d j (omega arith) (omega arith) still))

used-many : (scenario : Scenario) (cells : List (Option Told)) (line d sq i : ℕ) →
    IsUnchanged scenario cells d (known_by scenario d) → IsUsed (table_of scenario cells d) line sq →
    i + suc d ≤ suc (known_by scenario d) → IsUsed (table_before scenario cells (i + suc d)) line sq
used-many scenario cells line d sq zero still used high =
    let e : zero + suc d ≡ suc d = omega arith in rw e used
used-many scenario cells line d sq (suc i) still used high =
    let e : suc i + suc d ≡ suc (i + suc d) = omega arith in
    rw e (used-step scenario cells line (i + suc d) sq
    (used-many scenario cells line d sq i still used (omega arith))
    (round-same scenario cells d (i + suc d) (omega arith) (omega arith) still))

steady-end : (scenario : Scenario) (n line d : ℕ) → IsRound scenario (cells_before scenario n) n line d →
    ((k : ℕ) → d ≤ k → k ≤ round_end scenario d → IsUpWithWord scenario (cells_before scenario n) line k) →
    (sq : ℕ) × IsSteady (table_of scenario (cells_before scenario n) (known_by scenario d)) line sq
steady-end scenario n line d round up =
    let cells = cells_before scenario n in
    let lag = round.limits.lag in
    let step = round-step scenario n line d round in
    let from = step.from in
    let close = step.near in
    let j = step.packet + scenario.lag in
    let seen = up step.packet from close in
    let ok : (kept_of (heard_at scenario cells j)) step.sq ≡ Some true =
    step.kept ∙ ap Some (status-holds scenario cells j step.packet step.sq line seen.1.0
    (omega arith) step.whole step.has
    seen.0 seen.1.1) in
    let there = lines-has (table_before scenario cells j).order step.sq line step.has in
    let start = steady-told scenario cells line j step.sq there.0 there.1 ok
    (round-same scenario cells d j (omega arith) (omega arith) round.still) in
    let e : known_by scenario d - j + suc j ≡ suc (known_by scenario d) = omega arith in (
      step.sq,
      subst (λ i. IsSteady (table_before scenario cells i) line step.sq) e
          (steady-many scenario cells (session-law scenario n lag) lag line d step.sq (suc j) (known_by scenario d - j)
          round.still up start (omega arith) (omega arith)),
    )

pub round-back : (scenario : Scenario) (n line d : ℕ) → IsRound scenario (cells_before scenario n) n line d →
    ((k : ℕ) → d ≤ k → k ≤ round_end scenario d → IsUpWithWord scenario (cells_before scenario n) line k) →
    IsOut (table_of scenario (cells_before scenario n) (known_by scenario d)) line → ⊥
round-back scenario n line d round up out =
    let cells = cells_before scenario n in
    let steady = steady-end scenario n line d round up in
    let is = steady.1 in
    let one = one-standing scenario cells
    (suc (known_by scenario d)) steady.0 out.0 line is.is unused is.stands out.1 in
    is.in_use one.1

left-normal : (standing : Standing) → (standing ≡ unused → ⊥) → (standing ≡ adding → ⊥) → standing ≡ normal
left-normal adding out adds = absurd (adds refl)
left-normal normal out adds = refl
left-normal unused out adds = absurd (out refl)

-- and if it wasn't in ADD when the round began, it is in use
pub round-used : (scenario : Scenario) (n line d : ℕ) → IsRound scenario (cells_before scenario n) n line d →
    ((k : ℕ) → d ≤ k → k ≤ round_end scenario d → IsUpWithWord scenario (cells_before scenario n) line k) →
    (IsAdded (table_of scenario (cells_before scenario n) d) line → ⊥) →
    IsInUse (table_of scenario (cells_before scenario n) (known_by scenario d)) line
round-used scenario n line d round up other =
    let cells = cells_before scenario n in
    let steady = steady-end scenario n line d round up in
    let is = steady.1 in
    let order = (table_of scenario cells d).order in
    let sq = round.has.0 in
    let size = sixteen scenario.options.statuses round.limits.statuses in
    let there = lines-has order sq line round.has.1 in
    let start : IsUsed (table_of scenario cells d) line sq = record {
      is = there.0;
      stands = there.1;
      other = λ e. other (sq, subst (λ s. Has order sq line s) e there.1);
    } in
    let e : known_by scenario d - d + suc d ≡ suc (known_by scenario d) = omega arith in
    let used = subst (λ i. IsUsed (table_before scenario cells i) line sq) e
    (used-many scenario cells line d sq (known_by scenario d - d) round.still start (omega arith)) in
    let one = one-standing scenario cells
    (suc (known_by scenario d)) steady.0 sq line is.is used.is is.stands used.stands
    in (
      steady.0,
      subst (λ s. Has (table_of scenario cells (known_by scenario d)).order steady.0 line s)
          (left-normal is.is is.in_use (λ e. used.other (subst (λ s. s ≡ adding) one.1 e))) is.stands,
    )
