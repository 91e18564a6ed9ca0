-- What is asked of a script and of the containers that its lines are sent, so that its walk is never stuck.
use Rattle.std.specs.Prelude.{◌≡◌, ◌↔◌, ℕ, ◌<◌, ◌≤◌, List, [], ◌∷◌, length, take, IsSome}
use Rattle.std.specs.List.Sorted.{IsNonDecreasing}
use Rattle.law_model.specs.Common.{Container, verdict, IsLine, frame_dues, command_dues, dues_of, all_cells, path_of}
use Rattle.law_model.specs.Common.{FitsRing, FitsLag}
use Rattle.law_model.specs.declared.window_types.Window.{Window}
use Rattle.law_model.specs.declared.window_types.Carried.{Carried}
use Rattle.law_model.specs.declared.script_types.Config.{Config}
use Rattle.law_model.specs.declared.script_types.Item.{Item}

-- the numbers below those decided have a verdict by the first y cells, and no others
abbrev pub IsDecided : (ℕ → Carried) → ℕ → List Container → ℕ → ℕ → Type 0
IsDecided carries delay containers y t =
    IsSome (verdict (take y (all_cells carries delay containers)) t) ↔
    (t < (path_of carries delay containers).decided y)

-- each line has a delay, and is sent a container for each tick, whose H4 octets say its place
unfoldable pub AreSentBy : ℕ → List (List Window) → List ℕ → List (List Container) → Type 0
AreSentBy total [] [] [] = Unit {0}
AreSentBy total (windows ∷ lists) (delay ∷ delays) (containers ∷ sent) =
    IsLine windows containers × (length containers ≡ total) × AreSentBy total lists delays sent
AreSentBy total lists delays sent = ⊥

-- the script passes the tests of the rings, and the due ticks of each kind of items never fall
pub record CanRun (config : Config) (items : List Item) (sent : List (List Container)) : Type 0 where
  pub some_line : 0 < length config.delays
  pub sent_all : AreSentBy config.ticks config.windows config.delays sent
  pub frames : IsNonDecreasing (frame_dues (dues_of items))
  pub commands : IsNonDecreasing (command_dues (dues_of items))
  pub some_room : 1 ≤ config.ring
  pub ring : FitsRing config
  pub lag : FitsLag config
