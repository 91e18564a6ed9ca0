-- What the words of a command line ask of a program, as plain data.
use Rattle.std.specs.Prelude.{ℕ, List}
use Rattle.command_parts.specs.declared.stop_and_status.Refusal.{Refusal}
use Rattle.command_parts.specs.declared.stop_and_status.Refusal.TheVariants.{Line, Limit}
use Rattle.command_parts.specs.Talk.{Talk}

-- what a command makes of its input: the text that it writes on `out`; its texts on `out` and on notes; why the input
-- isn't what it
-- takes, and the note on that; or that the text would be longer than an input may be
pub data Answer : Type 0 where
  writes : (out : List ℕ) → Answer
  writes_both : (out notes : List ℕ) → Answer
  refuses : (why : Refusal) → (note : List ℕ) → Answer
  exceeds : Answer

pub data Task : Type 0 where
  -- they are no command, and the program has this usage
  none : (usage : List ℕ) → Task
  -- the input is read to its end first, and answered by its octets
  reads : (answer : List ℕ → Answer) → Task
  -- nothing is read
  makes : (answer : Answer) → Task
  -- the input is answered line by line, as it comes
  talks : (talk : Talk) → Task

-- ---- kinds of tasks and answers
abbrev pub IsCommand : Task → Type 0
IsCommand (none usage) = ⊥
IsCommand (reads answer) = Unit {0}
IsCommand (makes answer) = Unit {0}
IsCommand (talks talk) = Unit {0}

-- the input is read to its end first
abbrev pub Reads : Task → Type 0
Reads (none usage) = ⊥
Reads (reads answer) = Unit {0}
Reads (makes answer) = ⊥
Reads (talks talk) = ⊥

-- it is answered as it comes
abbrev pub Talks : Task → Type 0
Talks (none usage) = ⊥
Talks (reads answer) = ⊥
Talks (makes answer) = ⊥
Talks (talks talk) = Unit {0}

-- there is an input
abbrev pub HasInput : Task → Type 0
HasInput (none usage) = ⊥
HasInput (reads answer) = Unit {0}
HasInput (makes answer) = ⊥
HasInput (talks talk) = Unit {0}

-- the input is what the command takes
abbrev pub IsGood : Answer → Type 0
IsGood (writes out) = Unit {0}
IsGood (writes_both out notes) = Unit {0}
IsGood (refuses why note) = ⊥
IsGood exceeds = ⊥

-- nothing is written on notes where all goes well
abbrev pub IsQuiet : Answer → Type 0
IsQuiet (writes out) = Unit {0}
IsQuiet (writes_both out notes) = ⊥
IsQuiet (refuses why note) = Unit {0}
IsQuiet exceeds = Unit {0}

abbrev pub IsQuietTask : Task → Type 0
IsQuietTask (none usage) = Unit {0}
IsQuietTask (reads answer) = (text : List ℕ) → IsQuiet (answer text)
IsQuietTask (makes answer) = IsQuiet answer
IsQuietTask (talks talk) = Unit {0}

-- the status of an input that isn't what the command takes
abbrev pub refused_status : Refusal → ℕ
refused_status Line = 5
refused_status Limit = 6
