-- Conversations by their lines: what is replied to each behind those before it, and at the end.
use Rattle.std.specs.Prelude.{◌≡◌, ℕ, ◌==◌, ◌||◌, nat_le, nat_lt, Bool, true, false, List, [], ◌∷◌, ◌++◌, length}
use Rattle.std.specs.Prelude.{Option, Some, None, Result, Ok, Err}
use Rattle.std.specs.List.{slice_split}
use Rattle.std.specs.Str.Lines.{strip_carriage_return}
use Rattle.command_parts.specs.declared.stop_and_status.Refusal.{Refusal}
use Rattle.command_parts.specs.Talk.{Said, Talk, TalkEnd, faulty, long, said}

-- the most octets of a line without its LF, and the most lines
abbrev pub longest_line : ℕ
longest_line = 262144

abbrev pub most_input_lines : ℕ
most_input_lines = 67108864

-- a text, or why there is none and the note on that
abbrev pub Reply : Type 0
Reply = Result (List ℕ) (Refusal × List ℕ)

-- what is replied, behind lines that were replied to
pub record Dialogue : Type 0 where
  -- to the next line
  pub reply : List (List ℕ) → List ℕ → Reply
  -- to the end of the input
  pub last : List (List ℕ) → Reply

-- ---- how far a conversation has come
-- the lines so far, and what was said to them
pub record Heard : Type 0 where
  pub dialogue : Dialogue
  pub lines : List (List ℕ)
  pub said : List ℕ

abbrev pub nothing_heard : Dialogue → Heard
nothing_heard dialogue = record { dialogue = dialogue; lines = []; said = [] }

abbrev pub heard_more : Heard → List ℕ → List ℕ → Heard
heard_more heard line text =
    record { dialogue = heard.dialogue; lines = heard.lines ++ line ∷ []; said = heard.said ++ text }

abbrev pub reply_to : Heard → List ℕ → Reply
reply_to heard line = heard.dialogue.reply heard.lines line

abbrev pub last_reply : Heard → Reply
last_reply heard = heard.dialogue.last heard.lines

-- the next line would have too many octets, or be one too many
abbrev pub is_long : Heard → List ℕ → Bool
is_long heard line = nat_lt longest_line (length line) || nat_le most_input_lines (length heard.lines)

-- ---- the course of a conversation
-- how far it came, the line at which it stands, and why it ended there, where it did
pub record TalkCourse : Type 0 where
  pub heard : Heard
  pub line : List ℕ
  pub end : Option TalkEnd

abbrev pub stands_at : Heard → List ℕ → Option TalkEnd → TalkCourse
stands_at heard line end = record { heard = heard; line = line; end = end }

abbrev pub told_end : Refusal × List ℕ → TalkEnd
told_end told = faulty told.0 told.1

-- at a line whose LF hasn't come
abbrev pub waits_by : Heard → List ℕ → Bool → TalkCourse
waits_by heard line true = stands_at heard line (Some long)
waits_by heard line false = stands_at heard line None

abbrev pub waits_at : Heard → List ℕ → TalkCourse
waits_at heard [] = stands_at heard [] None
waits_at heard (octet ∷ line) = waits_by heard (octet ∷ line) (is_long heard (octet ∷ line))

-- at a line that is replied to, and from then on
abbrev pub goes_on : Heard → List ℕ → Reply → (Heard → TalkCourse) → TalkCourse
goes_on heard line (Ok text) next = next (heard_more heard line text)
goes_on heard line (Err told) next = stands_at heard line (Some (told_end told))

-- at a line that has come; a CR before its LF is none of its octets
abbrev pub comes_to : Heard → List ℕ → Bool → (Heard → TalkCourse) → TalkCourse
comes_to heard line true next = stands_at heard line (Some long)
comes_to heard line false next =
    goes_on heard (strip_carriage_return line) (reply_to heard (strip_carriage_return line)) next

-- over the parts of octets between LFs, of which the last waits for its LF
unfoldable pub course : List (List ℕ) → Heard → TalkCourse
course [] heard = waits_at heard []
course (part ∷ []) heard = waits_at heard part
course (part ∷ next ∷ parts) heard = comes_to heard part (is_long heard part) (course (next ∷ parts))

abbrev pub parts_of : List ℕ → List (List ℕ)
parts_of octets = slice_split (λ octet. octet == 10) octets

abbrev pub course_of : List ℕ → Heard → TalkCourse
course_of octets heard = course (parts_of octets) heard

-- ---- what is said
abbrev pub said_by : TalkCourse → Said
said_by course = said course.heard.said course.end

-- at the end of the input
abbrev pub parting : Heard → Reply → Said
parting heard (Ok text) = said (heard.said ++ text) None
parting heard (Err told) = said heard.said (Some (told_end told))

abbrev pub parting_with : Heard → List ℕ → Reply → Said
parting_with heard line (Ok text) =
    parting (heard_more heard line text) (last_reply (heard_more heard line text))
parting_with heard line (Err told) = said heard.said (Some (told_end told))

-- behind a last line without an LF, where there is one
abbrev pub closed : Heard → List ℕ → Said
closed heard [] = parting heard (last_reply heard)
closed heard (octet ∷ line) = parting_with heard (octet ∷ line) (reply_to heard (octet ∷ line))

abbrev pub closed_at : Heard → List ℕ → Option TalkEnd → Said
closed_at heard line None = closed heard line
closed_at heard line (Some end) = said heard.said (Some end)

abbrev pub closed_by : TalkCourse → Said
closed_by course = closed_at course.heard course.line course.end

-- ---- the lines of octets
-- the line at which a course stands, where it isn't empty
abbrev pub last_line : List ℕ → List (List ℕ)
last_line [] = []
last_line (octet ∷ line) = (octet ∷ line) ∷ []

-- these lines were heard and the last reply was given: this is said in all
pub record IsParting (dialogue : Dialogue) (ls : List (List ℕ)) (all : Said) : Type 0 where
  pub heard : Heard
  pub dialogue_is : heard.dialogue ≡ dialogue
  pub lines : heard.lines ≡ ls
  pub says : all ≡ parting heard (last_reply heard)

-- what is said to octets by a dialogue
abbrev pub talk_of : Dialogue → Talk
talk_of dialogue = record {
  so_far = λ octets. said_by (course_of octets (nothing_heard dialogue));
  in_all = λ octets. closed_by (course_of octets (nothing_heard dialogue));
}
