-- The rows in which a failed line carries no payload or carries it again; one that carries was read as a member.
use Rattle.std.proofs.Common.{◌≡◌, ◌⊎◌, ℕ, zero, suc, ◌+◌, ◌-◌, ◌*◌, ◌/◌, ◌<◌, ◌≤◌, nat_lt, true, false, if◌then◌else◌}
use Rattle.std.proofs.Common.{inl, inr, List, [], ◌∷◌, map, filter, Option, Some, None, slice_get, refl, sym, ◌∙◌, ap}
use Rattle.std.proofs.Common.{subst, arith, ◌==◌, Bool, Contains, slice_index_or, ◌↔◌, max, min, length, not}
use Rattle.std.proofs.lemmas.Bool.{both_ways, cases_lt, false_from_ne_true, ltb-false, le-ltb, eq-eqb, or_left}
use Rattle.std.proofs.lemmas.Bool.{or_right, cases_Bool, not-true, not_from_false}
use Rattle.std.proofs.lemmas.Option.{none-some, same_Some}
use Rattle.law_model.specs.declared.lcas_states.Command.TheVariants.{Remove as remove}
use Rattle.law_model.specs.declared.lcas_states.Member.{Member}
use Rattle.law_model.specs.declared.lcas_states.Standing.{Standing}
use Rattle.law_model.specs.declared.lcas_states.Standing.TheVariants.{Add as adding, Norm as normal, Dnu as unused}
use Rattle.law_model.specs.Common.{Scenario, active, carried_by, cells_before, first_of, is_line_up, is_norm}
use Rattle.law_model.specs.Common.{is_normal, is_read, member_of, source_at, table_of, Table, Told, told_at, told_on}
use Rattle.law_model.specs.Common.{after, is_line, is_lost, kept_of, last_read, turn, was_member}
use Rattle.law_model.specs.source.Source.{carried}
use Rattle.law_session.specs.Feedback.{table_before, lines_of}
use Rattle.law_session.specs.ReturnedCells.{AreWhole}
use Rattle.law_session.specs.LineInUse.{IsAdded, IsInUse, known_by}
use Rattle.law_session.specs.TimedMembers.{Carries, HasFailed, IsNotRemoved, IsNotRestored, IsRound, IsToldFailed}
use Rattle.law_session.specs.TimedMembers.{IsUpWithWord, restored_by, AreDamaged, IsDamagedOften, IsWholeBut}
use Rattle.law_session.specs.TimedMembers.{MissesFew, unread_behind}
use Rattle.law_session.proofs.UpLineAndReadablePacketLaws.{readable-whole, up-is}
use Rattle.law_session.proofs.ReturnCellAndLineWordLaws.{IsSession, session-law, word-here, rises, word-of}
use Rattle.law_session.proofs.ReturnCellAndLineWordLaws.{session-kept}
use Rattle.law_session.proofs.AdmittedAndExchangedLineLaws.{Has, IsIn}
use Rattle.law_session.proofs.AddedLineWaitLaws.{heard_at, next-table, sixteen, told_at-table}
use Rattle.law_session.proofs.DecisionStepMemberLaws.{change-keeps, Becomes}
use Rattle.law_session.proofs.FreshStatusLaws.{line-inside, acts_on, told_at-kept, Has-lines, lines-then}
use Rattle.law_session.proofs.FreshStatusLaws.{told-then, told-was}
use Rattle.law_session.proofs.HeldLineAndStatusRoundLaws.{not_failed, told-used, never-used, round-out, round-used}
use Rattle.law_session.proofs.HeldLineAndStatusRoundLaws.{last-since}
use Rattle.std.specs.List.{list_any, range_with_len}
use Rattle.law_model.proofs.ListLaws.{contains-parts}

-- ---- A failure in rows: from which one on its line carries nothing, and from which one on it carries payload again.
-- ---- the lines that carry payload are those in NORM
norm-of : (standing : Standing) → is_norm standing ≡ true → standing ≡ normal
norm-of adding e = absurd cc
norm-of normal e = refl
norm-of unused e = absurd cc

active-first : (member : Member) (order : List Member) (rank line : ℕ) → member.standing ≡ normal →
    ((r : ℕ) → slice_get (map (λ m. m.line) (filter is_normal order)) r ≡ Some line →
    IsIn order (member_of line normal)) →
    slice_get (member.line ∷ map (λ m. m.line) (filter is_normal order)) rank ≡ Some line →
    IsIn (member ∷ order) (member_of line normal)
active-first member order zero line stands later e =
    let same = same_Some member.line line e in
    (zero, ap (λ l. Some (member_of l member.standing)) same ∙ ap (λ s. Some (member_of line s)) stands)
active-first member order (suc rank) line stands later e = let rest = later rank e in (suc rest.0, rest.1)

pub active-has : (order : List Member) (rank line : ℕ) →
    slice_get (map (λ member. member.line) (filter is_normal order)) rank ≡ Some line →
    IsIn order (member_of line normal)
active-has [] rank line e = absurd (none-some line e)
active-has (member ∷ order) rank line e =
    elim (is_norm member.standing) as (λ b. is_norm member.standing ≡ b →
    slice_get (map (λ member. member.line) (if b then member ∷ filter is_normal order else filter is_normal order)) rank
    ≡ Some line → IsIn (member ∷ order) (member_of line normal)) [
      | true ↦ λ test is. active-first member order rank line (norm-of member.standing test)
          (λ r. active-has order r line) is
      | false ↦ λ test is. let rest = active-has order rank line is in (suc rest.0, rest.1)
    ] refl e

has-active : (order : List Member) (sq line : ℕ) → Has order sq line normal →
    (rank : ℕ) × (slice_get (map (λ member. member.line) (filter is_normal order)) rank ≡ Some line)
has-active [] sq line has = absurd (none-some (member_of line normal) has)
has-active (member ∷ order) zero line has =
    let same = same_Some member (member_of line normal) has in
    let test : is_norm member.standing ≡ true = ap (λ m. is_norm m.standing) same in
    (zero, rw test (ap (λ m. Some m.line) same))
has-active (member ∷ order) (suc sq) line has =
    let rest = has-active order sq line has in
    elim (is_norm member.standing) as (λ b. (rank : ℕ) × (slice_get
    (map (λ member. member.line) (if b then member ∷ filter is_normal order else filter is_normal order)) rank
    ≡ Some line)) [
      | true ↦ (suc rest.0, rest.1)
      | false ↦ rest
    ]

-- the table that governs a row
carries-used : (scenario : Scenario) (cells : List (Option Told)) (line t : ℕ) → Carries scenario cells line t →
    (24 ≤ t) × IsInUse (table_of scenario cells ((t - 24) / 16)) line
carries-used scenario cells line t carries =
    elim (nat_lt t 24) as (λ b. nat_lt t 24 ≡ b →
    slice_get (if b then [] else active (table_of scenario cells ((t - 24) / 16))) carries.0 ≡ Some line →
    (24 ≤ t) × IsInUse (table_of scenario cells ((t - 24) / 16)) line) [
      | true ↦ λ early is. absurd (none-some line is)
      | false ↦ λ late is. (
        ltb-false t 24 late,
        active-has (table_of scenario cells ((t - 24) / 16)).order carries.0 line is,
      )
    ] refl carries.1

used-carries : (scenario : Scenario) (cells : List (Option Told)) (line t : ℕ) → 24 ≤ t →
    IsInUse (table_of scenario cells ((t - 24) / 16)) line → Carries scenario cells line t
used-carries scenario cells line t late used =
    let found = has-active (table_of scenario cells ((t - 24) / 16)).order used.0 line used.1 in
    (found.0, rw (le-ltb t 24 late) found.1)

-- ---- a line that failed isn't up until it is restored
-- nor was it since the first packet that failed
failed-down : (scenario : Scenario) (line f d k : ℕ) → HasFailed scenario line f d → d ≤ k + scenario.options.holdoff →
    k ≤ d → (scenario.options.holdoff ≡ d) ⊎ (k ≡ d) → is_line_up scenario line k ≡ false
failed-down scenario line f d k failed low high whole =
    false_from_ne_true (is_line_up scenario line k) (λ up.
    let since = (up-is scenario.options (is_read scenario line) k).0 up in
    let is = since.1 in
    let past = is.past in
    let long = failed.long in
    let at = is.restored since.0 (omega arith) (omega arith) in
    elim (cases_lt (since.0 + scenario.options.holdoff) d) [
      | inr near ↦ both_ways (is_read scenario line since.0) (failed.missed since.0 near (omega arith)) at
      | inl far ↦ elim whole [
        | inl all ↦ absurd (omega arith)
        | inr last ↦
            let found = is.held (d - scenario.options.holdoff) (omega arith) (omega arith) in
            both_ways (is_read scenario line found.0)
            (failed.missed found.0 (omega (arith, found.1)) (omega (arith, found.2))) found.3
      ]
    ])

not-restored : (scenario : Scenario) (line f d last k : ℕ) → HasFailed scenario line f d →
    IsNotRestored scenario line d last → d ≤ k → k ≤ last → is_line_up scenario line k ≡ false
not-restored scenario line f d last k failed never low high =
    false_from_ne_true (is_line_up scenario line k) (λ up.
    let since = (up-is scenario.options (is_read scenario line) k).0 up in
    let is = since.1 in
    let past = is.past in
    let long = failed.long in
    let at = is.restored since.0 (omega arith) (omega arith) in
    elim (cases_lt d since.0) [
      | inl behind ↦ elim (cases_lt d (since.0 - scenario.options.restore)) [
        | inl far ↦
            let found = never (since.0 - scenario.options.restore) far (omega arith) in
            both_ways (is_read scenario line found.0) found.3
            (is.restored found.0 (omega (arith, found.1)) (omega (arith, found.2)))
        | inr around ↦ both_ways (is_read scenario line d) (failed.missed d (omega arith) (omega arith))
            (is.restored d (omega arith) (omega arith))
      ]
      | inr before ↦ elim (cases_lt (since.0 + scenario.options.holdoff) d) [
        | inr near ↦ both_ways (is_read scenario line since.0) (failed.missed since.0 near before) at
        | inl far ↦
            let found = is.held (d - scenario.options.holdoff) (omega arith) (omega arith) in
            both_ways (is_read scenario line found.0)
            (failed.missed found.0 (omega (arith, found.1)) (omega (arith, found.2))) found.3
      ]
    ])

-- ---- the rows in which it carries nothing
pub rows-out : (scenario : Scenario) (n line f d last t : ℕ) → IsRound scenario (cells_before scenario n) n line d →
    HasFailed scenario line f d → IsNotRestored scenario line d last →
    f + 16 * (scenario.options.statuses + scenario.lag + scenario.options.holdoff) ≤ t →
    t < 16 * (last + scenario.lag) + 40 → Carries scenario (cells_before scenario n) line t → ⊥
rows-out scenario n line f d last t round failed never low high carries =
    let cells = cells_before scenario n in
    let used = carries-used scenario cells line t carries in
    let late = used.0 in
    let lag = round.limits.lag in
    let k = (t - 24) / 16 in
    let long = failed.long in
    elim (cases_lt scenario.options.holdoff d) [
      | inl later ↦
          let begins : 16 * (d - scenario.options.holdoff - 1) + 24 ≤ f =
          failed.first (d - scenario.options.holdoff - 1) (omega arith) in
          round-out scenario n line d last k round
          (λ p from until. not-restored scenario line f d last p failed never from until) (omega arith) (omega arith)
          (omega arith) used.1
      | inr at_once ↦
          never-used scenario cells (session-law scenario n lag) lag line last k
          (λ p until. elim (cases_lt p d) [
            | inl before ↦ failed-down scenario line f d p failed (omega arith) (omega arith) (inl (omega arith))
            | inr from ↦ not-restored scenario line f d last p failed never from until
          ]) (omega arith) used.1
    ]

-- ---- the rows from which on it carries payload again
told_at-here : (scenario : Scenario) (cells : List (Option Told)) (j : ℕ) →
    told_at scenario cells j ≡ told_on (heard_at scenario cells j)
unfolding heard_at
told_at-here scenario cells j = told_at-table scenario cells j

stays-used : (scenario : Scenario) (cells : List (Option Told)) → IsSession scenario cells → 0 < scenario.lag →
    (line j : ℕ) → IsInUse (table_before scenario cells j) line → (IsToldFailed scenario cells line j → ⊥) →
    (carried scenario cells j ≡ Some (remove line) → ⊥) → IsInUse (table_of scenario cells j) line
stays-used scenario cells session lag line j used fine stays =
    let told = told-used scenario cells session lag line j used fine in
    let kept : (if (told_on (heard_at scenario cells j)).acknowledged
    then first_of (source_at scenario cells j).waiting else None) ≡ Some (remove line) → ⊥ =
    subst (λ (table : Table). (if table.acknowledged then first_of (source_at scenario cells j).waiting else None)
    ≡ Some (remove line) → ⊥) (told_at-here scenario cells j) stays in
    subst (λ table. IsInUse table line) (sym (next-table scenario cells j))
    (change-keeps (source_at scenario cells j) (told_on (heard_at scenario cells j)) (member_of line normal) kept told)

stays-many : (scenario : Scenario) (cells : List (Option Told)) → IsSession scenario cells → 0 < scenario.lag →
    (line from i : ℕ) → IsInUse (table_of scenario cells from) line →
    ((j : ℕ) → from < j → j ≤ i + from → IsToldFailed scenario cells line j → ⊥) →
    IsNotRemoved scenario cells line from (i + from) → IsInUse (table_of scenario cells (i + from)) line
stays-many scenario cells session lag line from zero used fine stays =
    let e : zero + from ≡ from = omega arith in rw e used
stays-many scenario cells session lag line from (suc i) used fine stays =
    let e : suc i + from ≡ suc (i + from) = omega arith in
    let before = stays-many scenario cells session lag line from i used
    (λ j low high. fine j low (omega arith)) (λ j low high. stays j low (omega arith)) in
    rw e (stays-used scenario cells session lag line (suc (i + from)) before
    (fine (suc (i + from)) (omega arith) (omega arith)) (stays (suc (i + from)) (omega arith) (omega arith)))

-- a line that is whole from a container on is read from the first packet on that begins there, and up once it is
-- restored
whole-read : (scenario : Scenario) (line end t k : ℕ) → AreWhole (carried_by scenario line) end t →
    (end + 15) / 16 ≤ k → 16 * k + 24 ≤ t → is_read scenario line k ≡ true
whole-read scenario line end t k whole low high =
    (readable-whole (carried_by scenario line) k).1
    (λ c from until. whole c (omega arith) (omega arith))

whole-up : (scenario : Scenario) (line end t k : ℕ) → AreWhole (carried_by scenario line) end t →
    restored_by scenario end ≤ k → 16 * k + 24 ≤ t → is_line_up scenario line k ≡ true
whole-up scenario line end t k whole low high =
    (up-is scenario.options (is_read scenario line) k).1 (
      k,
      record {
        past = omega arith;
        restored = λ j from until. whole-read scenario line end t j whole (omega arith) (omega arith);
        held = λ j later until. absurd (omega arith);
      },
    )

pub rows-back : (scenario : Scenario) (n line end t : ℕ) →
    IsRound scenario (cells_before scenario n) n line (restored_by scenario end) →
    (IsAdded (table_of scenario (cells_before scenario n) (restored_by scenario end)) line → ⊥) →
    AreWhole (carried_by scenario line) end t →
    end + 16 * (scenario.options.statuses + scenario.lag + scenario.options.restore) + 23 ≤ t →
    IsNotRemoved scenario (cells_before scenario n) line (known_by scenario (restored_by scenario end))
    ((t - 24) / 16) →
    Carries scenario (cells_before scenario n) line t
rows-back scenario n line end t round other whole late stays =
    let cells = cells_before scenario n in
    let lag = round.limits.lag in
    let session = session-law scenario n lag in
    let size = sixteen scenario.options.statuses round.limits.statuses in
    let d = restored_by scenario end in
    let k = (t - 24) / 16 in
    let known = line-inside scenario cells (suc d) round.has.0 line round.has.1 in
    let seen : (p : ℕ) → d ≤ p → p + scenario.lag ≤ k → IsUpWithWord scenario cells line p = λ p low high. (
      whole-up scenario line end t p whole low (omega arith),
      (
        p,
        word-here scenario cells line p known (whole-read scenario line end t p whole (omega arith) (omega arith)),
      ),
    ) in
    let used = round-used scenario n line d round (λ p low high. seen p low (omega arith)) other in
    let e : k - known_by scenario d + known_by scenario d ≡ k = omega arith in
    let carries = stays-many scenario cells session lag line (known_by scenario d) (k - known_by scenario d) used
    (λ j low high failed.
    let word = seen (j - scenario.lag) (omega arith) (omega arith) in
    not_failed scenario cells line j (j - scenario.lag) word.1.0 (omega arith) word.0 word.1.1 failed)
    (rw e stays) in
    used-carries scenario cells line t (omega arith) (rw e at carries)

-- ---- A line that carries payload was last read as a member: the OK by which it came out of ADD was said by a packet of it
-- that was read, and from this packet on it has been a member.
-- ---- members of an order
pub line-member : (order : List Member) (sq line : ℕ) → slice_get (lines_of order) sq ≡ Some line →
    list_any (λ member. is_line line (Some member)) order ≡ true
line-member [] sq line e = absurd (none-some line e)
line-member (member ∷ order) zero line e =
    or_left (member.line == line) (list_any (λ other. is_line line (Some other)) order)
    (eq-eqb member.line line (same_Some member.line line e))
line-member (member ∷ order) (suc sq) line e =
    or_right (member.line == line) (list_any (λ other. is_line line (Some other)) order)
    (line-member order sq line e)

contains-place : {X : Type 0} (xs : List X) (x : X) → Contains xs x → (k : ℕ) × (slice_get xs k ≡ Some x)
contains-place [] x among = absurd (omega (arith, among.1))
contains-place (first ∷ rest) x among =
    elim (contains-parts first rest x among) [
      | inl here ↦ (zero, ap Some here)
      | inr later ↦ let found = contains-place rest x later in (suc found.0, found.1)
    ]

-- ---- a line that was read as a member
-- a packet of a line that was read, from which on it was a member up to step j
record WasRead (scenario : Scenario) (cells : List (Option Told)) (line j : ℕ) : Type 0 where
  pub packet : ℕ
  pub before : packet < j
  pub read : is_read scenario line packet ≡ true
  pub stands : (p : ℕ) → packet ≤ p → p < j → was_member scenario cells line (Some p) ≡ true

-- each return cell that came wasn't lost
abbrev HaveCome : Scenario → List (Option Told) → Type 0
HaveCome scenario cells = (k : ℕ) (told : Told) → slice_index_or cells k None ≡ Some told → is_lost scenario k ≡ false

-- a line whose SQ has OK: its word is the packet
ok-read : (scenario : Scenario) (cells : List (Option Told)) → IsSession scenario cells → HaveCome scenario cells →
    0 < scenario.lag → (j sq line : ℕ) → slice_get (lines_of (table_before scenario cells j).order) sq ≡ Some line →
    kept_of (heard_at scenario cells j) sq ≡ Some true → WasRead scenario cells line j
ok-read scenario cells session come lag j sq line has ok =
    let told = acts_on scenario cells session come lag j sq true (told_at-kept scenario cells j sq ∙ ok) in
    let taken = told.taken in
    let spoke = told.spoke refl in
    let word = word-of scenario cells spoke.line told.packet spoke.last spoke.word in
    let past = word.past in
    let same : spoke.line ≡ line = same_Some spoke.line line (sym spoke.has ∙ has) in
    let count = word.count ∙ told.whole in
    record {
      packet = spoke.last;
      before = omega arith;
      read = subst (λ l. is_read scenario l spoke.last ≡ true) same word.read;
      stands = λ p low high.
          let there : p - spoke.last + suc spoke.last ≡ suc p = omega arith in
          let first : (table_of scenario cells spoke.last).count ≤ (table_of scenario cells p).count =
          rw there at (rises scenario cells (suc spoke.last) (p - spoke.last)) in
          let here : j - suc p + suc p ≡ j = omega arith in
          let last : (table_of scenario cells p).count ≤ (table_before scenario cells j).count =
          rw here at (rises scenario cells (suc p) (j - suc p)) in
          let lines = lines-then scenario cells j p high (omega arith) in
          line-member (table_of scenario cells p).order sq line (ap (λ xs. slice_get xs sq) lines ∙ has);
    }

turn-adding : (status : Option Bool) → turn status adding ≡ adding
turn-adding None = refl
turn-adding (Some ok) = refl

-- a line that isn't in ADD was so before, or has just been admitted
told-read : (scenario : Scenario) (cells : List (Option Told)) → IsSession scenario cells → HaveCome scenario cells →
    0 < scenario.lag → (j sq line : ℕ) (was is : Standing) → Has (table_before scenario cells j).order sq line was →
    Becomes (kept_of (heard_at scenario cells j) sq) was is → (is ≡ adding → ⊥) →
    ((was ≡ adding → ⊥) → WasRead scenario cells line j) → WasRead scenario cells line j
told-read scenario cells session come lag j sq line normal is has becomes other before = before (λ e. cc)
told-read scenario cells session come lag j sq line unused is has becomes other before = before (λ e. cc)
told-read scenario cells session come lag j sq line adding is has (inl turned) other before =
    absurd (other (turned ∙ turn-adding (kept_of (heard_at scenario cells j) sq)))
told-read scenario cells session come lag j sq line adding is has (inr admitted) other before =
    ok-read scenario cells session come lag j sq line
    (Has-lines (table_before scenario cells j).order sq line adding has) admitted.1

-- a line that is a member in the packet of the step, too, is one up to there
next-read : (scenario : Scenario) (cells : List (Option Told)) (line j : ℕ) → WasRead scenario cells line j →
    was_member scenario cells line (Some j) ≡ true → WasRead scenario cells line (suc j)
next-read scenario cells line j was here =
    let before = was.before in
    record {
      packet = was.packet;
      before = omega arith;
      read = was.read;
      stands = λ p low high. elim (cases_lt p j) [
        | inl sooner ↦ was.stands p low sooner
        | inr now ↦
            let same : j ≡ p = omega arith in
            subst (λ q. was_member scenario cells line (Some q) ≡ true) same here
      ];
    }

opening-read : (scenario : Scenario) (cells : List (Option Told)) (sq line : ℕ) (is : Standing) →
    Has (table_before scenario cells zero).order sq line is → ⊥
unfolding after
opening-read scenario cells sq line is has = none-some (member_of line is) has

before-read : (scenario : Scenario) (cells : List (Option Told)) → IsSession scenario cells → HaveCome scenario cells →
    0 < scenario.lag → (j sq line : ℕ) (is : Standing) → (is ≡ adding → ⊥) →
    Has (table_before scenario cells j).order sq line is → WasRead scenario cells line j
before-read scenario cells session come lag zero sq line is other has =
    absurd (opening-read scenario cells sq line is has)
before-read scenario cells session come lag (suc j) sq line is other has =
    let told = told-then scenario cells j line is other (sq, has) in
    let was = told-was scenario cells j told.0 line is told.1 in
    next-read scenario cells line j
    (told-read scenario cells session come lag j told.0 line was.was is was.stood was.becomes other
    (λ stood. before-read scenario cells session come lag j told.0 line was.was stood was.stood))
    (line-member (table_of scenario cells j).order sq line (Has-lines (table_of scenario cells j).order sq line is has))

-- ---- a line that carries payload
pub active-member : (scenario : Scenario) (n k line : ℕ) → 0 < scenario.lag →
    Contains (active (table_of scenario (cells_before scenario n) k)) line →
    was_member scenario (cells_before scenario n) line (last_read (is_read scenario line) k) ≡ true
active-member scenario n k line lag carries =
    let cells = cells_before scenario n in
    let table = table_of scenario cells k in
    let place = contains-place (active table) line carries in
    let used = active-has table.order place.0 line place.1 in
    let was = before-read scenario cells (session-law scenario n lag)
    (λ packet told. session-kept scenario n packet told lag) lag (suc k) used.0 line normal (λ e. cc) used.1 in
    let before = was.before in
    let last = last-since (is_read scenario line) was.packet k (omega arith) was.read in
    let stands = was.stands last.0 last.1 (omega (arith, last.2)) in
    ap (was_member scenario cells line) last.3 ∙ stands

-- ---- What containers that are damaged make of packets in turn.
pub short-held : (scenario : Scenario) (line first end r last : ℕ) → IsWholeBut scenario line r last first end →
    (end - first + 38) / 16 ≤ scenario.options.holdoff → MissesFew scenario line r last
short-held scenario line first end r last whole long j later inside =
    let carries = carried_by scenario line in
    elim (cases_lt first (16 * j + 24)) [
      | inr before ↦ (
        j,
        omega arith,
        omega arith,
        (readable-whole carries j).1 (λ c low high. whole c (omega arith) (omega arith) (inl (omega arith))),
      )
      | inl hit ↦ elim (cases_lt (16 * j) end) [
        | inr behind ↦ (
          j,
          omega arith,
          omega arith,
          (readable-whole carries j).1 (λ c low high. whole c (omega arith) (omega arith) (inr (omega arith))),
        )
        | inl some ↦ (
          (end + 15) / 16,
          omega arith,
          omega arith,
          (readable-whole carries ((end + 15) / 16)).1
              (λ c low high. whole c (omega arith) (omega arith) (inr (omega arith))),
        )
      ]
    ]

pub gaps-down : (scenario : Scenario) (line d last : ℕ) →
    IsDamagedOften scenario line d last (scenario.options.restore + 1) → IsNotRestored scenario line d last
gaps-down scenario line d last often j later inside =
    let carries = carried_by scenario line in
    let found = often (16 * j) (omega arith) (omega arith) in
    let low = found.1 in
    let high = found.2 in
    elim (cases_lt (j + scenario.options.restore) (found.0 / 16)) [
      | inr near ↦ (
        found.0 / 16,
        omega arith,
        near,
        false_from_ne_true (is_read scenario line (found.0 / 16)) (λ reads.
            found.3 ((readable-whole carries (found.0 / 16)).0 reads found.0 (omega arith) (omega arith))),
      )
      | inl last_of ↦ (
        j + scenario.options.restore,
        omega arith,
        omega arith,
        false_from_ne_true (is_read scenario line (j + scenario.options.restore)) (λ reads.
            found.3 ((readable-whole carries (j + scenario.options.restore)).0 reads found.0 (omega arith)
            (omega arith))),
      )
    ]

pub window-spoils : (scenario : Scenario) (line first end r last k : ℕ) → IsWholeBut scenario line r last first end →
    AreDamaged scenario line first end → first < end → r < k → k ≤ last →
    (is_read scenario line k ≡ false) ↔ ((first < 16 * k + 24) × (16 * k < end))
window-spoils scenario line first end r last k whole fails some later inside =
    let carries = carried_by scenario line in (
      λ e.
          elim (cases_lt first (16 * k + 24)) [
            | inr before ↦ absurd (both_ways (is_read scenario line k) e
                ((readable-whole carries k).1 (λ c low high. whole c (omega arith) (omega arith) (inl (omega arith)))))
            | inl hit ↦ elim (cases_lt (16 * k) end) [
              | inl during ↦ (hit, during)
              | inr behind ↦ absurd (both_ways (is_read scenario line k) e
                  ((readable-whole carries k).1 (λ c low high. whole c (omega arith) (omega arith)
                  (inr (omega arith)))))
            ]
          ],
      λ hit.
          let low = hit.0 in
          let high = hit.1 in
          false_from_ne_true (is_read scenario line k) (λ reads.
          fails (max first (16 * k)) (omega arith) (omega arith)
          ((readable-whole carries k).0 reads (max first (16 * k)) (omega arith) (omega arith))),
    )

-- how many numbers in turn pass a test that just those from one on and before another pass
count-between : (test : ℕ → Bool) (n a low high : ℕ) →
    ((k : ℕ) → a ≤ k → k < a + n → (test k ≡ true) ↔ ((low ≤ k) × (k < high))) →
    length (filter test (range_with_len a n)) ≡ min high (a + n) - max low a
count-between test zero a low high is = omega arith
count-between test (suc n) a low high is =
    let rest = count-between test n (a + 1) low high (λ k from below. is k (omega arith) (omega arith)) in
    elim (cases_Bool (test a)) [
      | inl passes ↦
          let here = (is a (omega arith) (omega arith)).0 passes in
          rw passes (omega (arith, rest, here.0, here.1))
      | inr fails ↦
          rw fails (elim (cases_lt a low) [
            | inl before ↦ omega (arith, rest)
            | inr from ↦ elim (cases_lt a high) [
              | inl below ↦ absurd (both_ways (test a) fails ((is a (omega arith) (omega arith)).1 (from, below)))
              | inr behind ↦ omega (arith, rest)
            ]
          ])
    ]

pub window-count : (scenario : Scenario) (line first end r last : ℕ) → IsWholeBut scenario line r last first end →
    AreDamaged scenario line first end → first < end → 16 * r + 24 ≤ first → end ≤ 16 * last + 16 →
    unread_behind scenario line r last ≡ (end + 15) / 16 - (first - 8) / 16
window-count scenario line first end r last whole fails some past before =
    let spoils = window-spoils scenario line first end r last in
    let counted = count-between (λ k. not (is_read scenario line k)) (last - r) (r + 1) ((first - 8) / 16)
    ((end + 15) / 16) (λ k from below. (
      λ missed.
          let hit = (spoils k whole fails some (omega arith) (omega arith)).0 (not-true (is_read scenario line k) missed) in
          (omega (arith, hit.0), omega (arith, hit.1)),
      λ hit.
          not_from_false (is_read scenario line k)
          ((spoils k whole fails some (omega arith) (omega arith)).1 (omega (arith, hit.0), omega (arith, hit.1))),
    )) in
    omega (arith, counted)

pub window-packets : (first count : ℕ) → 8 ≤ first → 0 < count →
    ((count + 23) / 16 ≤ (first + count + 15) / 16 - (first - 8) / 16)
    × ((first + count + 15) / 16 - (first - 8) / 16 ≤ (count + 38) / 16)
window-packets first count late some = (omega arith, omega arith)
