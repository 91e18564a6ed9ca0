-- `noise`: frames with an FCS in a stream of which bits are turned over.
use Rattle.std.specs.Prelude.{ℕ, List, codes, Option, Some, None, Result, Ok, Err, if◌then◌else◌}
use Rattle.text_lines.specs.declared.text_faults.LineFault.{LineFault}
use Rattle.text_lines.specs.LineFaults.{kind_of}
use Rattle.gfp_noise.specs.declared.noise_link.noise_keyword.NoiseKeyword.{NoiseKeyword}
use Rattle.gfp_noise.specs.declared.noise_link.noise_text_fault.NotRising.{NotRising}
use Rattle.gfp_noise.specs.noise_link.Helps.{help_of}
use Rattle.gfp_noise.specs.declared.noise_link.noise_draft.Noise.{Noise as Noises}
use Rattle.gfp_noise.specs.noise_link.Noise.{noise_of}
use Rattle.gfp_noise.specs.noise_link.NoiseReportText.{noise_text}
use Rattle.command_parts.specs.Common.{Answer, writes, refuses, line_text}
use Rattle.command_parts.specs.declared.stop_and_status.Refusal.TheVariants.{Line}
use Rattle.command_rooms.specs.declared.walk_command.WalkCommand.{WalkCommand}
use Rattle.command_rooms.specs.declared.walk_command.WalkCommand.TheVariants.{Noise}
use Rattle.command_rooms.specs.commands.Walk.{is_word}

abbrev pub noise_words : List (List ℕ) → Option WalkCommand
noise_words words = if is_word (codes "noise") words then Some Noise else None

-- of the frames and flips that a text says, or of its first faulty line
abbrev pub got_through : Result Noises (ℕ × LineFault NoiseKeyword NotRising) → Answer
got_through (Ok noise) = writes (noise_text noise)
got_through (Err at) = refuses Line (line_text at.0 (kind_of at.1) (help_of at.1))

abbrev pub noise_answer : List ℕ → Answer
noise_answer text = got_through (noise_of text)
