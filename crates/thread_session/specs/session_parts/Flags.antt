-- Flags by their numbers.
use Rattle.std.specs.Prelude.{ℕ}
use Rattle.thread_session.specs.declared.session_parts.stop_flag.Flag.{Flag}
use Rattle.thread_session.specs.declared.session_parts.stop_flag.Heed.{Heed}
use Rattle.thread_session.specs.declared.session_parts.stop_flag.Comes.{Comes}
use Rattle.thread_session.specs.declared.session_parts.stop_flag.Stored.{Stored}

-- which flag it is
abbrev pub flag_of : Flag → ℕ
flag_of flag = flag.stored.id

-- the flag that a thread looks at
abbrev pub heeded : Heed → ℕ
heeded heed = flag_of heed.flag.now

-- the flag by which it promises to come back
abbrev pub comes_by : Comes → ℕ
comes_by comes = flag_of comes.0.value

-- the flag that was stored, by the evidence
abbrev pub stored_flag : Stored → ℕ
stored_flag stored = flag_of stored.0.value
