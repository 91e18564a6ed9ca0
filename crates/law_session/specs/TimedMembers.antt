-- What timers do to the members of a session: when a line goes out of use and comes back, by which of its packets were
-- read.
use Rattle.std.specs.Prelude.{◌≡◌, ◌⊎◌, ℕ, ◌+◌, ◌-◌, ◌*◌, ◌/◌, ◌<◌, ◌≤◌, ◌==◌, ◌&&◌, not, Bool, true, false, List}
use Rattle.std.specs.Prelude.{filter, length, Option, Some, None, slice_get}
use Rattle.std.specs.List.{list_any, range_with_len}
use Rattle.law_model.specs.Common.{Scenario, active_at, carried_by, is_norm, is_read, is_line_up, member_of, said}
use Rattle.law_model.specs.Common.{Table, Told, table_of, word}
use Rattle.law_model.specs.declared.lcas_states.Standing.{Standing}
use Rattle.law_model.specs.declared.lcas_states.Standing.TheVariants.{Add as adding, Norm as normal, Dnu as unused}
use Rattle.law_model.specs.declared.lcas_states.Command.TheVariants.{Remove as remove}
use Rattle.law_model.specs.source.Source.{carried}
use Rattle.law_model.specs.declared.window_types.Carried.TheVariants.{Whole}
use Rattle.law_session.specs.Feedback.{TellsOf, lines_of, table_before}
use Rattle.law_session.specs.LineInUse.{AllCome, HasLimits, IsInUse, known_by, round_end}

-- packet r is the last one up to packet k that was read
pub record IsLastRead (read : ℕ → Bool) (k r : ℕ) : Type 0 where
  pub past : r ≤ k
  pub itself : read r ≡ true
  pub none_since : (j : ℕ) → r < j → j ≤ k → read j ≡ false

-- ---- out of use and back
-- a line is in DNU
abbrev pub IsOut : Table → ℕ → Type 0
IsOut table line = (sq : ℕ) × (slice_get table.order sq ≡ Some (member_of line unused))

-- step j takes a line out of use, from NORM to DNU
pub record GoesOut (scenario : Scenario) (cells : List (Option Told)) (line j : ℕ) : Type 0 where
  pub before : IsInUse (table_before scenario cells j) line
  pub now : IsOut (table_of scenario cells j) line

-- step j brings a line back, from DNU to NORM
pub record ComesBack (scenario : Scenario) (cells : List (Option Told)) (line j : ℕ) : Type 0 where
  pub before : IsOut (table_before scenario cells j) line
  pub now : IsInUse (table_of scenario cells j) line

-- at the packet whose return packet step j takes, and which tells of the count of the table before it, a line isn't up
-- or has no word
pub record IsToldFailed (scenario : Scenario) (cells : List (Option Told)) (line j : ℕ) : Type 0 where
  pub packet : ℕ
  pub at : j ≡ packet + scenario.lag
  pub whole : TellsOf scenario cells j packet
  pub why : (is_line_up scenario line packet ≡ false) ⊎ (word scenario cells line packet ≡ None)

-- there it is up and has a word
pub record IsToldFine (scenario : Scenario) (cells : List (Option Told)) (line j : ℕ) : Type 0 where
  pub packet : ℕ
  pub at : j ≡ packet + scenario.lag
  pub whole : TellsOf scenario cells j packet
  pub up : is_line_up scenario line packet ≡ true
  pub last : ℕ
  pub word : word scenario cells line packet ≡ Some last

-- a line is up at packet k and has a word there
abbrev pub IsUpWithWord : Scenario → List (Option Told) → ℕ → ℕ → Type 0
IsUpWithWord scenario cells line k = (is_line_up scenario line k ≡ true) ×
    ((last : ℕ) × (word scenario cells line k ≡ Some last))

-- ---- a line that is held
-- no change is made in the steps behind one step up to another
abbrev pub IsUnchanged : Scenario → List (Option Told) → ℕ → ℕ → Type 0
IsUnchanged scenario cells from to = (table_of scenario cells to).count ≡ (table_of scenario cells from).count

-- behind packet r up to packet last there aren't so many packets of a line in turn that can't be read that the hold-off
-- runs out
abbrev pub MissesFew : Scenario → ℕ → ℕ → ℕ → Type 0
MissesFew scenario line r last = (j : ℕ) → r < j → j + scenario.options.holdoff ≤ last →
    (i : ℕ) × (j ≤ i) × (i ≤ j + scenario.options.holdoff) × (is_read scenario line i ≡ true)

-- packet r of a line is read, the line is up there, and in use in the step that takes the return packet of it. Behind
-- it up to packet last the hold-off doesn't run out, and no change is made until the return packet of that one is taken
pub record IsHeld (scenario : Scenario) (cells : List (Option Told)) (line r last : ℕ) : Type 0 where
  pub read : is_read scenario line r ≡ true
  pub up : is_line_up scenario line r ≡ true
  pub used : IsInUse (table_of scenario cells (r + scenario.lag)) line
  pub few : MissesFew scenario line r last
  pub still : IsUnchanged scenario cells r (last + scenario.lag)

-- ---- a round of statuses
-- a line has an SQ in packet d, whose count is said there; the return packets of a round of statuses from there on are
-- made and come, and no change is made until the last one is taken
pub record IsRound (scenario : Scenario) (cells : List (Option Told)) (n line d : ℕ) : Type 0 where
  pub limits : HasLimits scenario
  pub has : (sq : ℕ) × (slice_get (lines_of (table_of scenario cells d).order) sq ≡ Some line)
  pub said : said scenario cells d ≡ (table_of scenario cells d).count
  pub made : round_end scenario d < n
  pub come : AllCome scenario d scenario.options.statuses
  pub still : IsUnchanged scenario cells d (known_by scenario d)

-- ---- a failure, in rows
-- a line is among those that carry payload in row t
abbrev pub Carries : Scenario → List (Option Told) → ℕ → ℕ → Type 0
Carries scenario cells line t = (rank : ℕ) × (slice_get (active_at scenario cells t) rank ≡ Some line)

-- so many packets of a line in turn up to packet d can't be read that the hold-off runs out with it, and the packet
-- before them ends before container f, which is meant as the first damaged one. That it is damaged isn't asked, so what
-- holds of it holds of each later container too, and of any where no packet is before them
pub record HasFailed (scenario : Scenario) (line f d : ℕ) : Type 0 where
  pub long : scenario.options.holdoff ≤ d
  pub missed : (j : ℕ) → d ≤ j + scenario.options.holdoff → j ≤ d → is_read scenario line j ≡ false
  pub first : (k : ℕ) → k + 1 + scenario.options.holdoff ≡ d → 16 * k + 24 ≤ f

-- behind packet d up to packet last there aren't so many packets of the line in turn that can be read that it is
-- restored
abbrev pub IsNotRestored : Scenario → ℕ → ℕ → ℕ → Type 0
IsNotRestored scenario line d last = (j : ℕ) → d < j → j + scenario.options.restore ≤ last →
    (i : ℕ) × (j ≤ i) × (i ≤ j + scenario.options.restore) × (is_read scenario line i ≡ false)

-- of the containers of the packets behind r up to packet last none is damaged but from one on and before another
abbrev pub IsWholeBut : Scenario → ℕ → ℕ → ℕ → ℕ → ℕ → Type 0
IsWholeBut scenario line r last first end = (c : ℕ) → 16 * (r + 1) ≤ c → c < 16 * last + 24 →
    (c < first) ⊎ (end ≤ c) → carried_by scenario line c ≡ Whole

-- how many packets of a line behind packet r up to packet last can't be read
abbrev pub unread_behind : Scenario → ℕ → ℕ → ℕ → ℕ
unread_behind scenario line r last =
    length (filter (λ k. not (is_read scenario line k)) (range_with_len (r + 1) (last - r)))

-- each container from one on and before another is damaged
abbrev pub AreDamaged : Scenario → ℕ → ℕ → ℕ → Type 0
AreDamaged scenario line first end = (c : ℕ) → first ≤ c → c < end → carried_by scenario line c ≡ Whole → ⊥

-- of so many containers of these packets in turn as a number of packets in turn have, one is damaged wherever they
-- begin
abbrev pub IsDamagedOften : Scenario → ℕ → ℕ → ℕ → ℕ → Type 0
IsDamagedOften scenario line d last packets = (c : ℕ) → 16 * (d + 1) ≤ c → c + 16 * packets + 8 ≤ 16 * last + 24 →
    (x : ℕ) × (c ≤ x) × (x < c + 16 * packets + 8) × (carried_by scenario line x ≡ Whole → ⊥)

-- the packet with which a line is restored that is whole from a container on: the first one that begins there or later
-- is the first that can be read
abbrev pub restored_by : Scenario → ℕ → ℕ
restored_by scenario end = (end + 15) / 16 + scenario.options.restore

-- no command to remove the line is carried out in the steps behind one up to another
abbrev pub IsNotRemoved : Scenario → List (Option Told) → ℕ → ℕ → ℕ → Type 0
IsNotRemoved scenario cells line from to =
    (j : ℕ) → from < j → j ≤ to → carried scenario cells j ≡ Some (remove line) → ⊥

-- ---- how often a line goes out
abbrev pub is_dnu : Standing → Bool
is_dnu adding = false
is_dnu normal = false
is_dnu unused = true

-- a line stands in a table so that a test passes
abbrev pub stands_so : (Standing → Bool) → Table → ℕ → Bool
stands_so test table line = list_any (λ member. member.line == line && test member.standing) table.order

-- step j takes a line out of use, as a test
abbrev pub goes_out : Scenario → List (Option Told) → ℕ → ℕ → Bool
goes_out scenario cells line j =
    stands_so is_norm (table_before scenario cells j) line && stands_so is_dnu (table_of scenario cells j) line

-- how many of the first steps do
abbrev pub times_out : Scenario → List (Option Told) → ℕ → ℕ → ℕ
times_out scenario cells line steps = length (filter (goes_out scenario cells line) (range_with_len 0 steps))
