-- A leg: one direction of a session. A session of a script is one leg, whose packets have nothing to tell; a pair of
-- sessions is two, one there and one back.
use Rattle.std.specs.Prelude.{List, []}
use Rattle.law_model.specs.declared.script_types.Config.{Config}
use Rattle.law_model.specs.declared.script_types.Item.{Item}
use Rattle.law_model.specs.declared.script_types.Script.{Script}
use Rattle.law_model.specs.source.Table.{Told}

-- the network; what lands, numbered from 0; what its control packets tell the other direction, packet by packet from
-- the first one on
pub record Leg : Type 0 where
  pub config : Config
  pub items : List Item
  pub tells : List Told

-- that of a script
abbrev pub leg_of : Script → Leg
leg_of script = record { config = script.config; items = script.items; tells = [] }
