-- An input that is a conversation: its lines are answered as they come.
use Rattle.std.specs.Prelude.{◌≡◌, ℕ, List, ◌++◌, Option, Some}
use Rattle.command_parts.specs.declared.stop_and_status.Refusal.{Refusal}

-- why octets end a conversation: a line isn't what the command takes, with the note on that; or there are too many
-- octets in a line, or too many lines
pub data TalkEnd : Type 0 where
  faulty : (why : Refusal) → (note : List ℕ) → TalkEnd
  long : TalkEnd

-- what is written, and why it ended there, where it did
pub record Said : Type 0 where
  pub text : List ℕ
  pub end : Option TalkEnd

abbrev pub said : List ℕ → Option TalkEnd → Said
said text end = record { text = text; end = end }

-- what is said to octets
pub record Talk : Type 0 where
  -- once they have come, and no more was asked for: a line is answered at its LF
  pub so_far : List ℕ → Said
  -- where the input ends with them: the last line may lack its LF
  pub in_all : List ℕ → Said

-- it makes sense as a conversation
pub record IsTalk (talk : Talk) : Type 0 where
  -- what was said stands, whatever follows
  pub grows : (octets more : List ℕ) → (rest : List ℕ)
      × ((talk.so_far (octets ++ more)).text ≡ (talk.so_far octets).text ++ rest)
  -- what ended it has ended it, whatever follows, also where nothing does
  pub stays : (octets more : List ℕ) (end : TalkEnd) → (talk.so_far octets).end ≡ Some end →
      talk.so_far (octets ++ more) ≡ talk.so_far octets
  pub stops : (octets : List ℕ) (end : TalkEnd) → (talk.so_far octets).end ≡ Some end →
      talk.in_all octets ≡ talk.so_far octets
  -- the end of the input takes nothing back
  pub closes : (octets : List ℕ) → (rest : List ℕ)
      × ((talk.in_all octets).text ≡ (talk.so_far octets).text ++ rest)
