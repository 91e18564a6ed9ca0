-- A terminal that has made nothing, and a return cell that is missing.
use Rattle.std.specs.Prelude.{◌≡◌, ℕ, List, [], ◌∷◌, Option, Some, None}
use Rattle.law_model.specs.Common.{BackCell, Scenario}
use Rattle.law_model.specs.declared.script_types.Config.{Config}
use Rattle.terminal_source.specs.source_core.Terminal.{Terminal}
use Rattle.terminal_source.specs.source_core.GivenScenario.{IsFresh, SourceStands as HasMade}

-- a terminal of a network, which has made nothing
pub record IsUnusedCore (config : Config) (core : Terminal) : Type 0 where
  pub lines : core.lines ≡ config.lines
  pub lag : core.lag ≡ config.lag
  pub size : core.size ≡ config.size
  pub statuses : core.statuses ≡ config.options.statuses
  pub ticks : core.ticks ≡ 0
  pub made : (scenario : Scenario) →
      IsFresh scenario config.lines config.lag config.size config.options.statuses → HasMade core scenario []

-- the return cell that a tick needs, where the inbox holds none
abbrev pub missing_by : Option ℕ → List BackCell → Option ℕ
missing_by None cells = None
missing_by (Some packet) [] = Some packet
missing_by (Some packet) (cell ∷ cells) = None
