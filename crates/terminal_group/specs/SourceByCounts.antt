-- The source side of a group that keeps counts alone of what has landed.
use Rattle.std.specs.Prelude.{◌≡◌, ℕ, ◌+◌, ◌&&◌, not, min, Bool, true, false, if◌then◌else◌, Option}
use Rattle.law_model.specs.declared.script_types.Config.{Config}
use Rattle.terminal_source.specs.source_core.Terminal.{Terminal, needed}
use Rattle.terminal_group.specs.declared.landed_counts.LandedCounts.{LandedCounts}
use Rattle.terminal_group.specs.ReturnInbox.{Inbox, empty_inbox}
use Rattle.terminal_group.specs.Source.{IsUnusedCore, missing_by}

-- the terminal; how many ticks there are; how much has landed; the inbox
pub record Counted : Type 0 where
  pub core : Terminal
  pub total : ℕ
  pub landed : LandedCounts
  pub inbox : Inbox

-- ---- what has landed
abbrev pub none_counted : LandedCounts
none_counted = record { frames = 0; commands = 0; refused_frames = 0; refused_commands = 0 }

-- a count, and one more where there is one more, up to the greatest number that it holds
abbrev pub and_one : ℕ → Bool → ℕ
and_one count more = if more then min (count + 1) 4294967295 else count

-- the counts after one more, a frame or a command, refused or not
abbrev pub with_landed : LandedCounts → Bool → Bool → LandedCounts
with_landed landed client refused = record {
  frames = and_one landed.frames client;
  commands = and_one landed.commands (not client);
  refused_frames = and_one landed.refused_frames (refused && client);
  refused_commands = and_one landed.refused_commands (refused && not client);
}

-- how many frames, or how many commands, have landed, and how many of them were refused
abbrev pub landed_in : LandedCounts → Bool → ℕ
landed_in landed true = landed.frames
landed_in landed false = landed.commands

abbrev pub refused_in : LandedCounts → Bool → ℕ
refused_in landed true = landed.refused_frames
refused_in landed false = landed.refused_commands

-- ---- the source side
-- over a network, where nothing has come
pub record IsUnusedOn (config : Config) (source : Counted) : Type 0 where
  pub core : IsUnusedCore config source.core
  pub total : source.total ≡ config.ticks
  pub landed : source.landed ≡ none_counted
  pub inbox : source.inbox ≡ empty_inbox config.lost config.lag

-- the return cell that a tick needs, where the inbox holds none
abbrev pub missing_from : Counted → Option ℕ
missing_from source = missing_by (needed source.core) source.inbox.cells

-- all but what lands is as it was
pub record SameNetwork (was now : Counted) : Type 0 where
  pub total : now.total ≡ was.total
  pub inbox : now.inbox ≡ was.inbox

-- all but what a tick changes is as it was
pub record SameCounts (was now : Counted) : Type 0 where
  pub total : now.total ≡ was.total
  pub landed : now.landed ≡ was.landed
