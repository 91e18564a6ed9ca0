-- What is said while a session runs, each time of now, and how it then stands: how many ticks have passed, the failures of
-- each line, and what has landed. This way of telling a session is this project's own.
use Rattle.std.specs.Prelude.{ℕ, ◌+◌, nat_lt, List, [], ◌∷◌, ◌++◌, length, map, Option, Some, None, slice_index_or}
use Rattle.std.specs.Prelude.{slice_set, if◌then◌else◌}
use Rattle.law_model.specs.declared.window_types.Window.{Window}
use Rattle.law_model.specs.declared.script_types.Config.{Config}
use Rattle.law_model.specs.declared.script_types.Item.{Item}
use Rattle.law_model.specs.declared.script_types.ItemKind.{ItemKind}
use Rattle.law_model.specs.Common.{dues_of, frame_dues, command_dues}

-- an item lands; the containers of a line that are made from now on are damaged; or they no longer are; some ticks pass
pub data Saying : Type 0 where
  lands : ItemKind → Saying
  cuts : ℕ → Saying
  mends : ℕ → Saying
  passes : ℕ → Saying

-- ---- how it stands
-- a line: its failures that are over or known, and the first container of one whose end isn't
pub record LineCourse : Type 0 where
  pub windows : List Window
  pub cut : Option ℕ

-- how many ticks have passed, how it stands with each line, and the items in their order
pub record Live : Type 0 where
  pub passed : ℕ
  pub courses : List LineCourse
  pub items : List Item

abbrev pub uncut : List Window → LineCourse
uncut windows = record { windows = windows; cut = None }

-- before anything is said each line has the failures that are known beforehand
abbrev pub opened : Config → Live
opened config = record { passed = 0; courses = map uncut config.windows; items = [] }

-- ---- the failures of a line
-- the containers from the first one up to the tick that is made next are those of one more failure; where there are
-- none, there was none
abbrev pub closed : ℕ → List Window → Option ℕ → List Window
closed passed windows None = windows
closed passed windows (Some start) =
    if nat_lt start passed then windows ++ record { first = start; end = passed; slip = 0 } ∷ [] else windows

-- a failure that isn't over ends now
abbrev pub windows_by : ℕ → LineCourse → List Window
windows_by passed course = closed passed course.windows course.cut

-- a line that there isn't has no failure
abbrev pub course_at : Live → ℕ → LineCourse
course_at live m = slice_index_or live.courses m (uncut [])

-- ---- what is said, one after another
abbrev pub cut_at : ℕ → LineCourse → LineCourse
cut_at passed course = record { windows = course.windows; cut = Some passed }

abbrev pub mended_at : ℕ → LineCourse → LineCourse
mended_at passed course = uncut (windows_by passed course)

abbrev pub with_course : Live → ℕ → LineCourse → Live
with_course live m course = record live { courses = slice_set live.courses m course }

-- an item is due now
abbrev pub item_at : ℕ → ItemKind → Item
item_at passed kind = record { due = passed; kind = kind }

abbrev pub live_after : Live → Saying → Live
live_after live (lands kind) = record live { items = live.items ++ item_at live.passed kind ∷ [] }
live_after live (cuts m) = with_course live m (cut_at live.passed (course_at live m))
live_after live (mends m) = with_course live m (mended_at live.passed (course_at live m))
live_after live (passes k) = record live { passed = live.passed + k }

unfoldable pub live_from : Live → List Saying → Live
live_from live [] = live
live_from live (saying ∷ said) = live_from (live_after live saying) said

-- over a configuration
abbrev pub live_of : Config → List Saying → Live
live_of config said = live_from (opened config) said

-- ---- how many frames were sent, and how many commands were given
abbrev pub frames_in : Live → ℕ
frames_in live = length (frame_dues (dues_of live.items))

abbrev pub commands_in : Live → ℕ
commands_in live = length (command_dues (dues_of live.items))
