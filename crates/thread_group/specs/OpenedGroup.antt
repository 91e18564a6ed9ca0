-- What a group begins with.
use Rattle.std.specs.Prelude.{◌≡◌, [], length}
use Rattle.law_model.specs.Common.{Leg, Scenario}
use Rattle.terminal_source.specs.source_core.GivenScenario.{IsFresh, SourceStands as HasMade}
use Rattle.thread_group.specs.declared.open_group.Opened.{Opened}
use Rattle.thread_group.specs.declared.group_state.GroupState.{GroupState}
use Rattle.terminal_group.specs.Item.{bare_items}
use Rattle.terminal_group.specs.Landed.{none_landed}
use Rattle.terminal_group.specs.SourceByCounts.{IsUnusedOn}
use Rattle.thread_group.specs.Group.{IsOf, lines_of, lag_of, size_of, statuses_of, ticks_of}
use Rattle.thread_group.specs.Group.{frames_of, commands_of, journal_of, refusals_of, inbox_of, source_of}

-- the source of the leg, of which nothing has landed, an empty journal, and a box for each line
pub record IsOpened (leg : Leg) (opened : Opened) : Type 0 where
  pub source : IsUnusedOn leg.config opened.source
  pub landing : opened.landing ≡ none_landed leg.config.lines (bare_items leg.items)
  pub journal : opened.journal.entries ≡ []
  pub places : length opened.frame.items ≡ leg.config.lines

-- a group of a leg of which nothing has come
pub record IsBegun (leg : Leg) (g : GroupState) : Type 0 where
  pub of_script : IsOf leg g
  pub ticks : ticks_of g ≡ 0
  pub landed : (frames_of g ≡ 0) × (commands_of g ≡ 0)
  pub journal : journal_of g ≡ []
  pub refusals : refusals_of g ≡ []
  pub inbox : inbox_of g ≡ []
  pub made : (scenario : Scenario) → IsFresh scenario (lines_of g) (lag_of g) (size_of g) (statuses_of g) →
      HasMade (source_of g) scenario []
