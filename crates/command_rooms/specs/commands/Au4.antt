-- `au4`: numbered VC-4s over a link of AU-4 frames.
use Rattle.std.specs.Prelude.{ℕ, List, codes, Option, Some, None, Result, Ok, Err, if◌then◌else◌}
use Rattle.text_lines.specs.declared.text_faults.LineFault.{LineFault}
use Rattle.text_lines.specs.LineFaults.{kind_of}
use Rattle.member_au4.specs.declared.au4_link.au4_keyword.Au4Keyword.{Au4Keyword}
use Rattle.member_au4.specs.declared.au4_link.au4_text_fault.Early.{Early}
use Rattle.member_au4.specs.au4_link.Helps.{help_of}
use Rattle.member_au4.specs.declared.au4_link.au4_draft.Link.{Link}
use Rattle.member_au4.specs.au4_link.Link.{link_of}
use Rattle.member_au4.specs.au4_link.LinkReportText.{link_text}
use Rattle.command_parts.specs.Common.{Answer, writes, refuses, line_text}
use Rattle.command_parts.specs.declared.stop_and_status.Refusal.TheVariants.{Line}
use Rattle.command_rooms.specs.declared.walk_command.WalkCommand.{WalkCommand}
use Rattle.command_rooms.specs.declared.walk_command.WalkCommand.TheVariants.{Au4}
use Rattle.command_rooms.specs.commands.Walk.{is_word}

abbrev pub au4_words : List (List ℕ) → Option WalkCommand
au4_words words = if is_word (codes "au4") words then Some Au4 else None

-- of the link that a text says, or of its first faulty line
abbrev pub carried : Result Link (ℕ × LineFault Au4Keyword Early) → Answer
carried (Ok link) = writes (link_text link)
carried (Err at) = refuses Line (line_text at.0 (kind_of at.1) (help_of at.1))

abbrev pub au4_answer : List ℕ → Answer
au4_answer text = carried (link_of text)
