-- Word by word.
use Rattle.std.proofs.Common.{◌≡◌, Some, refl}
use Rattle.text_scripts.specs.declared.script_read.script_keyword.Keyword.{Keyword}
use Rattle.text_scripts.specs.declared.script_read.script_keyword.Keyword.TheVariants as word
use Rattle.text_scripts.specs.script_read.Statements.{keyword_of}
use Rattle.command_parts.specs.ScriptHelpTexts.{keyword_text}
use Rattle.command_parts.proofs.help_laws.keyword_law.Goals as goal

known : (k : Keyword) → keyword_of (keyword_text k) ≡ Some k
known word.Container = refl
known word.Lines = refl
known word.Delays = refl
known word.Ring = refl
known word.Lag = refl
known word.Ticks = refl
known word.Sink = refl
known word.Holdoff = refl
known word.Restore = refl
known word.Statuses = refl
known word.Fail = refl
known word.Lost = refl
known word.Frame = refl
known word.Stream = refl
known word.Add = refl
known word.Remove = refl
known word.Client = refl
known word.Operator = refl
known word.Tick = refl
known word.Carry = refl
known word.Back = refl
known word.Take = refl
known word.Round = refl
known word.Drain = refl

pub returns : goal.returns
returns c = known
