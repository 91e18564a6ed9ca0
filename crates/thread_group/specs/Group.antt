-- What contracts say of a group.
use Rattle.std.specs.Prelude.{◌≡◌, ◌⊎◌, ℕ, ◌+◌, ◌<◌, ◌==◌, not, nat_lt, Bool, true, false, if◌then◌else◌, List, [], ◌∷◌}
use Rattle.std.specs.Prelude.{◌++◌, length, slice_get, Option, Some, None}
use Rattle.law_model.specs.Common.{one_more, Container, BackCell, Leg, Scenario, offers_of, orders_of, Told}
use Rattle.law_model.specs.Common.{container_of, dues_of, used_in, held}
use Rattle.law_model.specs.declared.script_types.Item.{Item}
use Rattle.law_model.specs.declared.script_types.ItemKind.{ItemKind}
use Rattle.law_model.specs.declared.item_refusals.Refusal.{Refusal}
use Rattle.law_model.specs.declared.session_totals.Totals.{Totals}
use Rattle.thread_rings.specs.EndsOfRing.{OutEnd, out_passed, in_passed, in_misses}
use Rattle.terminal_source.specs.source_core.Terminal.{Terminal, needed}
use Rattle.terminal_source.specs.source_core.GivenScenario.{SourceStands as HasMade}
use Rattle.law_walk.specs.Common.{Numbered, is_client, kind_refusal}
use Rattle.thread_group.specs.declared.group_answers.SubmitFault.{SubmitFault}
use Rattle.thread_group.specs.declared.group_answers.SubmitFault.TheVariants.{NotNext, Early, JournalFull}
use Rattle.thread_group.specs.declared.group_answers.TickAnswer.{TickAnswer}
use Rattle.thread_group.specs.declared.group_answers.TickAnswer.TheVariants.{Ticked, Held, TxFull, BackMissing, Done}
use Rattle.terminal_group.specs.Item.{size_of as octet_count, bare_items}
use Rattle.terminal_group.specs.GivenItem.{with_kind}
use Rattle.thread_group.specs.SubmitFaults.{fault_of}
use Rattle.thread_group.specs.Journal.{entry_of, items_in, fits, IsLegal}
use Rattle.terminal_group.specs.Landed.{next_number, due_at, AreAhead, AreBehind}
use Rattle.thread_group.specs.GroupRings.{IsDrained, AreFree}
use Rattle.thread_group.specs.GroupParts.{Parts, parts, scenario_in, told_in_parts, AreSent, AreDue, AreRefused}
use Rattle.thread_group.specs.declared.group_state.GroupState.{GroupState}

abbrev pub parts_of : GroupState → Parts
parts_of g = parts g.source.core g.source.total g.landing g.journal g.source.inbox g.tx.items g.back

-- ---- what it keeps of its script
abbrev pub lines_of : GroupState → ℕ
lines_of g = (parts_of g).source.lines

abbrev pub lag_of : GroupState → ℕ
lag_of g = (parts_of g).source.lag

abbrev pub size_of : GroupState → ℕ
size_of g = (parts_of g).source.size

-- how many return packets tell all statuses
abbrev pub statuses_of : GroupState → ℕ
statuses_of g = (parts_of g).source.statuses

-- how many ticks there are
abbrev pub total_of : GroupState → ℕ
total_of g = (parts_of g).total

-- the return windows
abbrev pub lost_of : GroupState → List (ℕ × ℕ)
lost_of g = (parts_of g).inbox.lost

-- the items without the octets of frames
abbrev pub items_of : GroupState → List Item
items_of g = (parts_of g).landed.items

-- all that it keeps of its script is as in this leg
pub record IsOf (leg : Leg) (g : GroupState) : Type 0 where
  pub lines : lines_of g ≡ leg.config.lines
  pub lag : lag_of g ≡ leg.config.lag
  pub size : size_of g ≡ leg.config.size
  pub statuses : statuses_of g ≡ leg.config.options.statuses
  pub total : total_of g ≡ leg.config.ticks
  pub lost : lost_of g ≡ leg.config.lost
  pub items : items_of g ≡ bare_items leg.items

-- both are of the same script
pub record SameScript (a b : GroupState) : Type 0 where
  pub lines : lines_of b ≡ lines_of a
  pub lag : lag_of b ≡ lag_of a
  pub size : size_of b ≡ size_of a
  pub statuses : statuses_of b ≡ statuses_of a
  pub total : total_of b ≡ total_of a
  pub lost : lost_of b ≡ lost_of a
  pub items : items_of b ≡ items_of a

-- ---- what has come of it
-- how many ticks were made
abbrev pub ticks_of : GroupState → ℕ
ticks_of g = (parts_of g).source.ticks

-- how many frames and commands have landed
abbrev pub frames_of : GroupState → ℕ
frames_of g = (parts_of g).landed.frames

abbrev pub commands_of : GroupState → ℕ
commands_of g = (parts_of g).landed.commands

-- the accepted items in the order in which they landed
abbrev pub journal_of : GroupState → List Numbered
journal_of g = (parts_of g).journal.entries

-- how many entries and octets are left
abbrev pub slots_of : GroupState → ℕ
slots_of g = (parts_of g).journal.slots

abbrev pub bytes_of : GroupState → ℕ
bytes_of g = (parts_of g).journal.bytes

-- the refusals, by item
abbrev pub refusals_of : GroupState → List (ℕ × Refusal)
refusals_of g = (parts_of g).landed.refusals

-- the return cells that no decision step has taken
abbrev pub inbox_of : GroupState → List BackCell
inbox_of g = (parts_of g).inbox.cells

-- what the return cells tell that decision steps have taken
abbrev pub taken_of : GroupState → List (Option Told)
taken_of g = told_in_parts (parts_of g)

-- what the source holds
abbrev pub source_of : GroupState → Terminal
source_of g = (parts_of g).source

-- what it counts; rows and delivered frames are counted elsewhere
abbrev pub totals_of : GroupState → Totals
totals_of g = record {
  ticks = ticks_of g;
  taken = 0;
  frames = length (offers_of (items_in (journal_of g)));
  commands = length (orders_of (items_in (journal_of g)));
  refused = length (refusals_of g);
  got = 0;
}

-- ---- its journal
-- the session of the journal alone
abbrev pub replay_of : GroupState → Scenario
replay_of g = scenario_in (parts_of g)

-- the journal is legal, and the source stands where it leads; each send ring has passed the containers of the frames
-- made; and each entry
-- landed when it was due. Each item that was refused is one that the source refuses when it is due; nothing that is
-- overdue is left, and
-- nothing has landed before it was due
pub record GroupStands (g : GroupState) : Type 0 where
  pub legal : IsLegal (replay_of g) (taken_of g) (journal_of g)
  pub made : ∥ HasMade (source_of g) (replay_of g) (taken_of g) ∥₁
  pub sent : AreSent (replay_of g) (taken_of g) (ticks_of g) g.tx.items
  pub due : AreDue (items_of g) (journal_of g)
  pub refused : AreRefused (replay_of g) (taken_of g) (ticks_of g) (items_of g) (journal_of g) (refusals_of g)
  pub ahead : AreAhead (dues_of (items_of g)) (ticks_of g) (frames_of g) (commands_of g)
  pub behind : AreBehind (dues_of (items_of g)) (ticks_of g) (frames_of g) (commands_of g)

-- ---- an item that is submitted
abbrev pub is_number : Option ℕ → ℕ → Bool
is_number None number = false
is_number (Some next) number = next == number

-- the number of the next item that the client brings, or that the operator brings, where there is one
abbrev pub next_brought : GroupState → Bool → Option ℕ
next_brought g client = next_number (parts_of g).landed client

-- the number of the next item of its kind, where there is one
abbrev pub next_of : GroupState → ItemKind → Option ℕ
next_of g kind = next_number (parts_of g).landed (is_client kind)

-- why the source refuses it: as the journal leads to it
abbrev pub refusal_of : GroupState → ItemKind → Option Refusal
refusal_of g kind = kind_refusal (replay_of g) (taken_of g) (ticks_of g) (items_in (journal_of g)) kind

-- why it isn't accepted though it is due: the source refuses it, or else the journal has no room for it, with so many
-- entries and octets left
abbrev pub fault_met : Option Refusal → Bool → ℕ → ℕ → Option SubmitFault
fault_met (Some why) fits slots bytes = Some (fault_of why)
fault_met None fits slots bytes = if fits then None else Some (JournalFull slots bytes)

-- why it isn't accepted: the first cause that holds
abbrev pub fault_in : GroupState → ℕ → ItemKind → Option SubmitFault
fault_in g number kind =
    if not (is_number (next_of g kind) number) then Some (NotNext (next_of g kind))
    else if nat_lt (ticks_of g) (due_at (items_of g) number) then Some (Early (ticks_of g))
    else fault_met (refusal_of g kind) (fits (parts_of g).journal kind) (slots_of g) (bytes_of g)

-- what it adds to the journal
abbrev pub entries_by : Option SubmitFault → ℕ → ℕ → ItemKind → List Numbered
entries_by None number ticks kind = entry_of number ticks kind ∷ []
entries_by (Some fault) number ticks kind = []

-- one more of its kind has landed, where it has
abbrev pub counted_by : Bool → Bool → ℕ
counted_by true landed = if landed then 1 else 0
counted_by false landed = 0

pub record HasCounted (a b : GroupState) (kind : ItemKind) (landed : Bool) : Type 0 where
  pub frames : frames_of b ≡ frames_of a + counted_by (is_client kind) landed
  pub commands : commands_of b ≡ commands_of a + counted_by (not (is_client kind)) landed

-- an item that is accepted takes an entry and its octets of the room
abbrev pub room_for : Option SubmitFault → ℕ → ℕ
room_for None n = n
room_for (Some fault) n = 0

pub record LeavesRoom (a b : GroupState) (kind : ItemKind) (fault : Option SubmitFault) : Type 0 where
  pub slots : slots_of b + room_for fault 1 ≡ slots_of a
  pub bytes : bytes_of b + room_for fault (octet_count kind) ≡ bytes_of a

-- a session in which it lands too, where it does
abbrev pub with_landed : Scenario → ℕ → ItemKind → Bool → Scenario
with_landed scenario ticks kind true = with_kind scenario ticks kind
with_landed scenario ticks kind false = scenario

-- the ticks, the rings and the inbox are as they were
pub record SameRings (a b : GroupState) : Type 0 where
  pub ticks : ticks_of b ≡ ticks_of a
  pub inbox : inbox_of b ≡ inbox_of a
  pub tx : b.tx ≡ a.tx
  pub back : b.back ≡ a.back

-- what has landed is as it was, and so is the journal
pub record SameLanded (a b : GroupState) : Type 0 where
  pub frames : frames_of b ≡ frames_of a
  pub commands : commands_of b ≡ commands_of a
  pub journal : journal_of b ≡ journal_of a
  pub slots : slots_of b ≡ slots_of a
  pub bytes : bytes_of b ≡ bytes_of a
  pub refusals : refusals_of b ≡ refusals_of a

-- ---- a tick
abbrev pub is_ticked : TickAnswer → Bool
is_ticked Ticked = true
is_ticked (Held item) = false
is_ticked (TxFull line) = false
is_ticked (BackMissing packet) = false
is_ticked Done = false

-- the least item that is due now and hasn't landed
abbrev pub held_of : GroupState → Option ℕ
held_of g = held (ticks_of g) (frames_of g) (commands_of g) 0 (dues_of (items_of g))

-- ticks are left, and no item holds them
pub record IsFreeToTick (g : GroupState) : Type 0 where
  pub left : ticks_of g < total_of g
  pub held : held_of g ≡ None

-- return cells were moved until a look missed, or until the inbox was full: as many have come as the ticks made have
-- taken and it has room for
abbrev pub AreMoved : GroupState → GroupState → Type 0
AreMoved a b = IsDrained a.back b.back ⊎ (length (in_passed b.back) ≡ used_in (lag_of a) (ticks_of a) + (lag_of a + 1))

-- a slot of each send ring is free; the next tick needs this return cell; it isn't in the inbox, and a look at the
-- return ring missed
pub record IsMissing (packet : ℕ) (a b : GroupState) : Type 0 where
  pub room : AreFree b.tx.items
  pub needs : needed (source_of a) ≡ Some packet
  pub none : inbox_of b ≡ []
  pub missed : in_misses b.back ≡ one_more (in_misses a.back)

-- each line was pushed its container of the next frame of a session
abbrev pub ArePushedOf : Scenario → GroupState → GroupState → Type 0
ArePushedOf scenario a b = (m : ℕ) (old new : OutEnd Container) → slice_get a.tx.items m ≡ Some old →
    slice_get b.tx.items m ≡ Some new →
    out_passed new ≡ out_passed old ++ container_of scenario (taken_of b) m (ticks_of a) ∷ []

-- no line was
abbrev pub NothingPushed : GroupState → GroupState → Type 0
NothingPushed a b = (m : ℕ) (old new : OutEnd Container) → slice_get a.tx.items m ≡ Some old →
    slice_get b.tx.items m ≡ Some new →
    out_passed new ≡ out_passed old
