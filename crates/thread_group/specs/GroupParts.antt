-- The parts of a group, and what is true of them whenever the lock is free.
use Rattle.std.specs.Prelude.{◌≡◌, ℕ, ◌+◌, ◌≤◌, List, length, take, slice_get, All, Option, Some}
use Rattle.law_model.specs.Common.{Container, BackCell, Scenario, Told, containers_of, dues_of, used_in, longest_lag}
use Rattle.law_model.specs.declared.script_types.Item.{Item}
use Rattle.law_model.specs.declared.script_types.ItemKind.{ItemKind}
use Rattle.law_model.specs.declared.item_refusals.Refusal.{Refusal}
use Rattle.thread_rings.specs.EndsOfRing.{OutEnd, InEnd, out_passed, in_passed}
use Rattle.terminal_source.specs.source_core.Terminal.{Terminal}
use Rattle.terminal_source.specs.source_core.GivenScenario.{SourceStands as HasMade}
use Rattle.law_walk.specs.Common.{Numbered, is_client, kind_refusal}
use Rattle.thread_group.specs.Journal.{Journal, Setting, journal_scenario, items_in, IsLegal}
use Rattle.terminal_group.specs.Landed.{Landed, due_at, AreAhead, AreBehind}
use Rattle.terminal_group.specs.ReturnInbox.{Inbox, told_taken, HasCome}
use Rattle.law_model.specs.Common.{most_lines, most_ticks}

-- the source; how many ticks there are; what has landed; the journal; the inbox; the send rings and the return ring
pub record Parts : Type 0 where
  pub source : Terminal
  pub total : ℕ
  pub landed : Landed
  pub journal : Journal
  pub inbox : Inbox
  pub tx : List (OutEnd Container)
  pub back : InEnd BackCell

abbrev pub parts : Terminal → ℕ → Landed → Journal → Inbox → List (OutEnd Container) → InEnd BackCell → Parts
parts source total landed journal inbox tx back =
    record { source = source; total = total; landed = landed; journal = journal; inbox = inbox; tx = tx; back = back }

abbrev pub setting_in : Parts → Setting
setting_in at = record {
  lines = at.source.lines;
  lag = at.source.lag;
  ticks = at.total;
  size = at.source.size;
  statuses = at.source.statuses;
  lost = at.inbox.lost;
}

-- the session of the journal
abbrev pub scenario_in : Parts → Scenario
scenario_in at = journal_scenario (setting_in at) at.journal.entries

-- what the return cells tell that the decision steps have taken
abbrev pub told_in_parts : Parts → List (Option Told)
told_in_parts at = told_taken at.inbox.lost at.source.lag at.source.ticks (in_passed at.back)

-- each line was sent its containers of the first frames of a session, and no more
abbrev pub AreSent : Scenario → List (Option Told) → ℕ → List (OutEnd Container) → Type 0
AreSent scenario cells ticks ends =
    (m : ℕ) (out : OutEnd Container) → slice_get ends m ≡ Some out →
    out_passed out ≡ containers_of scenario cells m ticks

-- each entry landed after as many ticks as its item is due
abbrev pub AreDue : List Item → List Numbered → Type 0
AreDue items entries = (i : ℕ) (entry : Numbered) → slice_get entries i ≡ Some entry →
    entry.item.due ≡ due_at items entry.number

-- each entry landed after no more ticks than these
abbrev pub ArePast : ℕ → List Numbered → Type 0
ArePast ticks entries = (i : ℕ) (entry : Numbered) → slice_get entries i ≡ Some entry → entry.item.due ≤ ticks

-- the source refuses an item for this cause when it is due, after so many of these entries: what was submitted is of
-- the item's kind
pub record IsRefused (scenario : Scenario) (cells : List (Option Told)) (items : List Item) (entries : List Numbered)
    (number : ℕ) (why : Refusal) : Type 0 where
  pub handed : ItemKind
  pub kind : (item : Item) → slice_get items number ≡ Some item → is_client handed ≡ is_client item.kind
  pub before : ℕ
  pub within : before ≤ length entries
  pub refused : kind_refusal scenario cells (due_at items number) (items_in (take before entries)) handed ≡ Some why

-- each item that was refused was due after no more ticks than these, and the source refuses it
abbrev pub AreRefused : Scenario → List (Option Told) → ℕ → List Item → List Numbered → List (ℕ × Refusal) → Type 0
AreRefused scenario cells ticks items entries refusals =
    All (λ (refused : ℕ × Refusal). (due_at items refused.0 ≤ ticks) ×
    ∥ IsRefused scenario cells items entries refused.0 refused.1 ∥₁) refusals

-- the source was given the journal, and its containers were sent; the inbox holds the rest of the return cells. There
-- is a place for a
-- container of each line
pub record Keeps (at : Parts) (size : ℕ) : Type 0 where
  pub total : at.total ≤ most_ticks
  pub ticks : at.source.ticks ≤ at.total
  pub lines : at.source.lines ≤ most_lines
  pub lag : at.source.lag ≤ longest_lag
  pub places : size ≡ at.source.lines
  pub rings : length at.tx ≡ at.source.lines
  pub room : at.inbox.room ≡ at.source.lag + 1
  pub fits : length at.inbox.cells ≤ at.inbox.room
  pub come : HasCome at.inbox (in_passed at.back) (used_in at.source.lag at.source.ticks)
  pub made : ∥ HasMade at.source (scenario_in at) (told_in_parts at) ∥₁
  pub sent : AreSent (scenario_in at) (told_in_parts at) at.source.ticks at.tx
  pub legal : IsLegal (scenario_in at) (told_in_parts at) at.journal.entries
  pub due : AreDue at.landed.items at.journal.entries
  pub past : ArePast at.source.ticks at.journal.entries
  pub ahead : AreAhead (dues_of at.landed.items) at.source.ticks at.landed.frames at.landed.commands
  pub behind : AreBehind (dues_of at.landed.items) at.source.ticks at.landed.frames at.landed.commands
  pub refused : AreRefused (scenario_in at) (told_in_parts at) at.source.ticks at.landed.items at.journal.entries
      at.landed.refusals
