-- The course of a conversation over octets: which lines it has heard, and that what it said stands.
use Rattle.std.proofs.Common.{◌≡◌, ℕ, ◌<◌, ◌==◌, Bool, true, false, List, [], ◌∷◌, ◌++◌, length, arith, refl, ap, sym}
use Rattle.std.proofs.Common.{◌∙◌, All, append_assoc, append-nil, Ok, Err, cond, subst, length-append, Option, Some}
use Rattle.std.proofs.Common.{None, nat_le, nat_lt, leb-false, if◌then◌else◌}
use Rattle.std.specs.List.{slice_split, onto_first}
use Rattle.std.specs.Str.Lines.{strip_carriage_return, lines, lines_of_parts}
use Rattle.std.proofs.lemmas.List.Splits.{slice_split_at, slice_split_none, length-slice_split}
use Rattle.std.proofs.lemmas.Bool.{ne_eqb, or_parts}
use Rattle.text_lines.specs.Cut.{Lacks}
use Rattle.command_parts.specs.Dialogue.{Heard, heard_more, Reply, reply_to, is_long, TalkCourse, waits_at, waits_by}
use Rattle.command_parts.specs.Dialogue.{goes_on, comes_to, course_of, parts_of, Dialogue, nothing_heard, last_reply}
use Rattle.command_parts.specs.Dialogue.{said_by, parting, parting_with, closed, closed_at, talk_of, closed_by}
use Rattle.command_parts.specs.Dialogue.{last_line, longest_line, most_input_lines, IsParting}
use Rattle.std.proofs.lemmas.Bool.Decides.{nat_tests}
use Rattle.command_parts.specs.Talk.{TalkEnd, IsTalk, said, Said}
unfoldable use Rattle.command_parts.specs.Dialogue.{course}

-- ---- How a conversation goes on: line by line, and what it says grows.
none_in : (text : List ℕ) → Lacks 10 text → All (λ c. (c == 10) ≡ false) text
none_in text lacks i d within = ne_eqb _ 10 (lacks i d within)

-- ---- by the parts
pub course_more : (part : List ℕ) (parts : List (List ℕ)) (heard : Heard) → 0 < length parts →
    course (part ∷ parts) heard ≡ comes_to heard part (is_long heard part) (course parts)
unfolding course
course_more part [] heard some = absurd (omega arith)
course_more part (next ∷ parts) heard some = refl

pub course_one : (part : List ℕ) (heard : Heard) → course (part ∷ []) heard ≡ waits_at heard part
unfolding course
course_one part heard = refl

-- ---- by the octets: a line with its LF, and octets without one
pub course_line : (line more : List ℕ) (heard : Heard) → Lacks 10 line →
    course_of (line ++ 10 ∷ more) heard ≡ comes_to heard line (is_long heard line) (course (parts_of more))
course_line line more heard lacks =
    let split = slice_split_at (λ c. c == 10) line 10 more (none_in line lacks) refl in
    let some : 0 < length (slice_split (λ c. c == 10) more) = omega (arith, length-slice_split (λ c. c == 10) more) in
    ap (λ (parts : List (List ℕ)). course parts heard) split
    ∙ course_more line (slice_split (λ c. c == 10) more) heard some

pub course_rest : (rest : List ℕ) (heard : Heard) → Lacks 10 rest → course_of rest heard ≡ waits_at heard rest
course_rest rest heard lacks =
    ap (λ (parts : List (List ℕ)). course parts heard) (slice_split_none (λ c. c == 10) rest (none_in rest lacks))
    ∙ course_one rest heard

-- a line is heard
pub course_heard : (line more text : List ℕ) (heard : Heard) → Lacks 10 line → is_long heard line ≡ false →
    reply_to heard (strip_carriage_return line) ≡ Ok text →
    course_of (line ++ 10 ∷ more) heard ≡ course_of more (heard_more heard (strip_carriage_return line) text)
course_heard line more text heard lacks short is =
    course_line line more heard lacks
    ∙ ap (λ (b : Bool). comes_to heard line b (course (parts_of more))) short
    ∙ ap (λ (r : Reply). goes_on heard (strip_carriage_return line) r (course (parts_of more))) is

-- ---- what was said stands first
abbrev pub Grows : Heard → TalkCourse → Type 0
Grows heard course = (rest : List ℕ) × (course.heard.said ≡ heard.said ++ rest)

stays : (heard : Heard) (line : List ℕ) (b : Bool) → Grows heard (waits_by heard line b)
stays heard line true = ([], sym (append-nil heard.said))
stays heard line false = ([], sym (append-nil heard.said))

waits_grows : (heard : Heard) (line : List ℕ) → Grows heard (waits_at heard line)
waits_grows heard [] = ([], sym (append-nil heard.said))
waits_grows heard (octet ∷ line) = stays heard (octet ∷ line) (is_long heard (octet ∷ line))

goes_grows : (heard : Heard) (line : List ℕ) (reply : Reply) (next : Heard → TalkCourse) →
    ((now : Heard) → Grows now (next now)) → Grows heard (goes_on heard line reply next)
goes_grows heard line (Ok text) next grows =
    let (rest, is) = grows (heard_more heard line text) in
    (text ++ rest, is ∙ append_assoc heard.said text rest)
goes_grows heard line (Err told) next grows = ([], sym (append-nil heard.said))

comes_grows : (heard : Heard) (line : List ℕ) (b : Bool) (next : Heard → TalkCourse) →
    ((now : Heard) → Grows now (next now)) → Grows heard (comes_to heard line b next)
comes_grows heard line true next grows = ([], sym (append-nil heard.said))
comes_grows heard line false next grows =
    goes_grows heard (strip_carriage_return line) (reply_to heard (strip_carriage_return line)) next grows

pub parts_grow : (parts : List (List ℕ)) (heard : Heard) → Grows heard (course parts heard)
unfolding course
parts_grow [] heard = waits_grows heard []
parts_grow (part ∷ []) heard = waits_grows heard part
parts_grow (part ∷ next ∷ parts) heard =
    comes_grows heard part (is_long heard part) (course (next ∷ parts)) (parts_grow (next ∷ parts))

pub course_grows : (octets : List ℕ) (heard : Heard) → (rest : List ℕ)
    × ((course_of octets heard).heard.said ≡ heard.said ++ rest)
course_grows octets heard = parts_grow (parts_of octets) heard

-- ---- What a dialogue says is a conversation: what was said stands, and what ended it has ended it.
-- ---- the parts of octets, and of more behind them
glue : List (List ℕ) → List (List ℕ) → List (List ℕ)
glue [] ys = ys
glue (x ∷ []) [] = x ∷ []
glue (x ∷ []) (y ∷ ys) = (x ++ y) ∷ ys
glue (x ∷ z ∷ xs) ys = x ∷ glue (z ∷ xs) ys

glue_last : (x y : List ℕ) (ys : List (List ℕ)) → glue (x ∷ []) (y ∷ ys) ≡ (x ++ y) ∷ ys
unfolding glue
glue_last x y ys = refl

glue_front : (x : List ℕ) (xs ys : List (List ℕ)) → 0 < length xs → glue (x ∷ xs) ys ≡ x ∷ glue xs ys
unfolding glue
glue_front x [] ys some = absurd (omega arith)
glue_front x (z ∷ xs) ys some = refl

glue_some : (xs ys : List (List ℕ)) → 0 < length ys → 0 < length (glue xs ys)
unfolding glue
glue_some [] ys some = some
glue_some (x ∷ []) [] some = absurd (omega arith)
glue_some (x ∷ []) (y ∷ ys) some = omega arith
glue_some (x ∷ z ∷ xs) ys some = omega arith

glue_onto : (c : ℕ) (xs ys : List (List ℕ)) → 0 < length xs → 0 < length ys →
    onto_first c (glue xs ys) ≡ glue (onto_first c xs) ys
unfolding glue
glue_onto c [] ys some later = absurd (omega arith)
glue_onto c (x ∷ []) [] some later = absurd (omega arith)
glue_onto c (x ∷ []) (y ∷ ys) some later = refl
glue_onto c (x ∷ z ∷ xs) ys some later = refl

glue_nothing : (ys : List (List ℕ)) → 0 < length ys → ys ≡ glue ([] ∷ []) ys
unfolding glue
glue_nothing [] some = absurd (omega arith)
glue_nothing (y ∷ ys) some = refl

glue_octet : (b : Bool) (c : ℕ) (xs ys : List (List ℕ)) → 0 < length xs → 0 < length ys →
    cond b ([] ∷ glue xs ys) (onto_first c (glue xs ys)) ≡ glue (cond b ([] ∷ xs) (onto_first c xs)) ys
glue_octet true c xs ys some later = sym (glue_front [] xs ys some)
glue_octet false c xs ys some later = glue_onto c xs ys some later

some_part : (octets : List ℕ) → 0 < length (parts_of octets)
some_part octets = omega (arith, length-slice_split (λ c. c == 10) octets)

parts_glued : (octets more : List ℕ) → parts_of (octets ++ more) ≡ glue (parts_of octets) (parts_of more)
parts_glued [] more = glue_nothing (parts_of more) (some_part more)
parts_glued (c ∷ octets) more =
    ap (λ (parts : List (List ℕ)). cond (c == 10) ([] ∷ parts) (onto_first c parts)) (parts_glued octets more)
    ∙ glue_octet (c == 10) c (parts_of octets) (parts_of more) (some_part octets) (some_part more)

-- ---- a course, and one over more octets
record Follows (c later : TalkCourse) : Type 0 where
  pub grows : (rest : List ℕ) × (later.heard.said ≡ c.heard.said ++ rest)
  pub stays : (end : TalkEnd) → c.end ≡ Some end → said_by later ≡ said_by c

longer : (heard : Heard) (x y : List ℕ) → is_long heard x ≡ true → is_long heard (x ++ y) ≡ true
longer heard x y over = let size = length-append x y in grind (arith, nat_tests)

comes_long : (heard : Heard) (line : List ℕ) (b : Bool) (next : Heard → TalkCourse) → b ≡ true →
    comes_to heard line b next ≡ waits_by heard line true
comes_long heard line true next is = refl
comes_long heard line false next is = absurd cc

pub waits_long : (heard : Heard) (line : List ℕ) → 0 < length line → is_long heard line ≡ true →
    waits_at heard line ≡ waits_by heard line true
waits_long heard [] some is = absurd (omega arith)
waits_long heard (c ∷ line) some is = ap (waits_by heard (c ∷ line)) is

-- a part that waits for its LF and is too long stays so
long_stays : (heard : Heard) (line : List ℕ) (parts : List (List ℕ)) → 0 < length line → is_long heard line ≡ true →
    course (line ∷ parts) heard ≡ waits_by heard line true
long_stays heard line [] some is = course_one line heard ∙ waits_long heard line some is
long_stays heard line (next ∷ parts) some is =
    course_more line (next ∷ parts) heard (omega arith)
    ∙ comes_long heard line (is_long heard line) (course (next ∷ parts)) is

waits_stays : (heard : Heard) (x y : List ℕ) (ys : List (List ℕ)) (b : Bool) (end : TalkEnd) → 0 < length x →
    is_long heard x ≡ b → (waits_by heard x b).end ≡ Some end →
    said_by (course ((x ++ y) ∷ ys) heard) ≡ said_by (waits_by heard x b)
waits_stays heard x y ys true end some is ended =
    ap said_by (long_stays heard (x ++ y) ys (omega (arith, length-append x y)) (longer heard x y is))
waits_stays heard x y ys false end some is ended = absurd cc

by_heard : (heard : Heard) (x : List ℕ) (b : Bool) → (waits_by heard x b).heard ≡ heard
by_heard heard x true = refl
by_heard heard x false = refl

at_heard : (heard : Heard) (x : List ℕ) → (waits_at heard x).heard ≡ heard
at_heard heard [] = refl
at_heard heard (c ∷ x) = by_heard heard (c ∷ x) (is_long heard (c ∷ x))

stays_at : (heard : Heard) (x y : List ℕ) (ys : List (List ℕ)) (end : TalkEnd) → (waits_at heard x).end ≡ Some end →
    said_by (course ((x ++ y) ∷ ys) heard) ≡ said_by (waits_at heard x)
stays_at heard [] y ys end ended = absurd cc
stays_at heard (c ∷ x) y ys end ended =
    waits_stays heard (c ∷ x) y ys (is_long heard (c ∷ x)) end (omega arith) refl ended

one_follows : (heard : Heard) (x y : List ℕ) (ys : List (List ℕ)) →
    Follows (waits_at heard x) (course ((x ++ y) ∷ ys) heard)
one_follows heard x y ys = record {
  grows = (let (rest, is) = parts_grow ((x ++ y) ∷ ys) heard in
      (rest, is ∙ ap (λ (h : Heard). h.said ++ rest) (sym (at_heard heard x))));
  stays = stays_at heard x y ys;
}

goes_follows : (heard : Heard) (line : List ℕ) (reply : Reply) (next later : Heard → TalkCourse) →
    ((now : Heard) → Follows (next now) (later now)) →
    Follows (goes_on heard line reply next) (goes_on heard line reply later)
goes_follows heard line (Ok text) next later follows = follows (heard_more heard line text)
goes_follows heard line (Err told) next later follows =
    record { grows = ([], sym (append-nil heard.said)); stays = λ end ended. refl }

comes_follows : (heard : Heard) (line : List ℕ) (b : Bool) (next later : Heard → TalkCourse) →
    ((now : Heard) → Follows (next now) (later now)) →
    Follows (comes_to heard line b next) (comes_to heard line b later)
comes_follows heard line true next later follows =
    record { grows = ([], sym (append-nil heard.said)); stays = λ end ended. refl }
comes_follows heard line false next later follows =
    goes_follows heard (strip_carriage_return line) (reply_to heard (strip_carriage_return line)) next later follows

glued_follows : (xs : List (List ℕ)) (y : List ℕ) (ys : List (List ℕ)) (heard : Heard) → 0 < length xs →
    Follows (course xs heard) (course (glue xs (y ∷ ys)) heard)
glued_follows [] y ys heard some = absurd (omega arith)
glued_follows (x ∷ []) y ys heard some =
    let Q : List (List ℕ) → Type 0 = λ (parts : List (List ℕ)). Follows (waits_at heard x) (course parts heard) in
    let R : TalkCourse → Type 0 = λ (c : TalkCourse). Follows c (course (glue (x ∷ []) (y ∷ ys)) heard) in
    subst R (sym (course_one x heard)) (subst Q (sym (glue_last x y ys)) (one_follows heard x y ys))
glued_follows (x ∷ z ∷ xs) y ys heard some =
    let Q : List (List ℕ) → Type 0 =
    λ (parts : List (List ℕ)). Follows (course (x ∷ z ∷ xs) heard) (course parts heard) in
    let R : TalkCourse → Type 0 = λ (c : TalkCourse). Follows c (course (x ∷ glue (z ∷ xs) (y ∷ ys)) heard) in
    let U : TalkCourse → Type 0 =
    λ (c : TalkCourse). Follows (comes_to heard x (is_long heard x) (course (z ∷ xs))) c in
    let here : 0 < length (z ∷ xs) = omega arith in
    subst Q (sym (glue_front x (z ∷ xs) (y ∷ ys) here))
    (subst R (sym (course_more x (z ∷ xs) heard here))
    (subst U (sym (course_more x (glue (z ∷ xs) (y ∷ ys)) heard (glue_some (z ∷ xs) (y ∷ ys) (omega arith))))
    (comes_follows heard x (is_long heard x) (course (z ∷ xs)) (course (glue (z ∷ xs) (y ∷ ys)))
    (λ now. glued_follows (z ∷ xs) y ys now here))))

glued_some : (xs ys : List (List ℕ)) (heard : Heard) → 0 < length xs → 0 < length ys →
    Follows (course xs heard) (course (glue xs ys) heard)
glued_some xs [] heard some later = absurd (omega arith)
glued_some xs (y ∷ ys) heard some later = glued_follows xs y ys heard some

octets_follow : (octets more : List ℕ) (heard : Heard) → Follows (course_of octets heard) (course_of (octets ++ more) heard)
octets_follow octets more heard =
    let Q : List (List ℕ) → Type 0 = λ (parts : List (List ℕ)). Follows (course_of octets heard) (course parts heard) in
    subst Q (sym (parts_glued octets more))
    (glued_some (parts_of octets) (parts_of more) heard (some_part octets) (some_part more))

-- ---- the end of the input
pub parting_grows : (heard : Heard) (reply : Reply) → (rest : List ℕ) × ((parting heard reply).text ≡ heard.said ++ rest)
parting_grows heard (Ok text) = (text, refl)
parting_grows heard (Err told) = ([], sym (append-nil heard.said))

with_grows : (heard : Heard) (line : List ℕ) (reply : Reply) →
    (rest : List ℕ) × ((parting_with heard line reply).text ≡ heard.said ++ rest)
with_grows heard line (Ok text) =
    let (rest, is) = parting_grows (heard_more heard line text) (last_reply (heard_more heard line text)) in
    (text ++ rest, is ∙ append_assoc heard.said text rest)
with_grows heard line (Err told) = ([], sym (append-nil heard.said))

closed_grows : (heard : Heard) (line : List ℕ) → (rest : List ℕ) × ((closed heard line).text ≡ heard.said ++ rest)
closed_grows heard [] = parting_grows heard (last_reply heard)
closed_grows heard (c ∷ line) = with_grows heard (c ∷ line) (reply_to heard (c ∷ line))

at_grows : (heard : Heard) (line : List ℕ) (end : Option TalkEnd) →
    (rest : List ℕ) × ((closed_at heard line end).text ≡ heard.said ++ rest)
at_grows heard line None = closed_grows heard line
at_grows heard line (Some end) = ([], sym (append-nil heard.said))

at_stops : (heard : Heard) (line : List ℕ) (is : Option TalkEnd) (end : TalkEnd) → is ≡ Some end →
    closed_at heard line is ≡ said heard.said is
at_stops heard line None end ended = absurd cc
at_stops heard line (Some other) end ended = refl

pub dialogue_talks : (dialogue : Dialogue) → IsTalk (talk_of dialogue)
dialogue_talks dialogue = record {
  grows = λ octets more. (octets_follow octets more (nothing_heard dialogue)).grows;
  stays = λ octets more end ended. (octets_follow octets more (nothing_heard dialogue)).stays end ended;
  stops = λ octets end ended.
      let c = course_of octets (nothing_heard dialogue) in at_stops c.heard c.line c.end end ended;
  closes = λ octets. let c = course_of octets (nothing_heard dialogue) in at_grows c.heard c.line c.end;
}

-- ---- Which lines a conversation has heard, and what stands of it at each of them.
-- what stands of whatever was heard, where it stands with each line that is replied to
abbrev pub StandsByLines : (Heard → Type 0) → Type 0
StandsByLines P = (heard : Heard) (line text : List ℕ) → P heard → length heard.lines < most_input_lines →
    reply_to heard line ≡ Ok text → P (heard_more heard line text)

room : (heard : Heard) (line : List ℕ) → is_long heard line ≡ false → length heard.lines < most_input_lines
room heard line short =
    leb-false most_input_lines (length heard.lines)
    (or_parts (nat_lt longest_line (length line)) (nat_le most_input_lines (length heard.lines)) short).1

one_line : (line : List ℕ) → last_line line ≡ lines_of_parts (line ∷ [])
one_line [] = refl
one_line (octet ∷ line) =
    let some : (length (octet ∷ line) == 0) ≡ false = ne_eqb (length (octet ∷ line)) 0 (omega arith) in
    ap (λ (b : Bool). if b then [] else (octet ∷ line) ∷ []) (sym some)

-- a course over lines behind what was heard
pub record IsCourse (P : Heard → Type 0) (heard : Heard) (ls : List (List ℕ)) (course : TalkCourse) : Type 0 where
  pub stands : P course.heard
  pub first : (rest : List (List ℕ)) × (heard.lines ++ ls ≡ course.heard.lines ++ rest)
  pub all : course.end ≡ None → heard.lines ++ ls ≡ course.heard.lines ++ last_line course.line
  pub left : course.end ≡ None → 0 < length course.line → length course.heard.lines < most_input_lines

-- ---- at the line whose LF hasn't come
waits_course : (P : Heard → Type 0) (heard : Heard) (octet : ℕ) (line : List ℕ) (b : Bool) →
    is_long heard (octet ∷ line) ≡ b → P heard →
    IsCourse P heard (last_line (octet ∷ line)) (waits_by heard (octet ∷ line) b)
waits_course P heard octet line true is stands = record {
  stands = stands;
  first = (last_line (octet ∷ line), refl);
  all = λ none. absurd cc;
  left = λ none some. absurd cc;
}
waits_course P heard octet line false is stands = record {
  stands = stands;
  first = (last_line (octet ∷ line), refl);
  all = λ none. refl;
  left = λ none some. room heard (octet ∷ line) is;
}

stands_course : (P : Heard → Type 0) (heard : Heard) (line : List ℕ) → P heard →
    IsCourse P heard (last_line line) (waits_at heard line)
stands_course P heard [] stands =
    record { stands = stands; first = ([], refl); all = λ none. refl; left = λ none some. absurd (omega (arith, some)) }
stands_course P heard (octet ∷ line) stands = waits_course P heard octet line (is_long heard (octet ∷ line)) refl stands

-- ---- at a line that has come
ended_course : (P : Heard → Type 0) (heard : Heard) (line : List ℕ) (ls : List (List ℕ)) (end : TalkEnd) → P heard →
    IsCourse P heard ls (record { heard = heard; line = line; end = Some end })
ended_course P heard line ls end stands = record {
  stands = stands;
  first = (ls, refl);
  all = λ none. absurd cc;
  left = λ none some. absurd cc;
}

more_course : (P : Heard → Type 0) (heard : Heard) (line text : List ℕ) (ls : List (List ℕ)) (course : TalkCourse) →
    IsCourse P (heard_more heard line text) ls course → IsCourse P heard (line ∷ ls) course
more_course P heard line text ls course is =
    let same = append_assoc heard.lines (line ∷ []) ls in
    record {
      stands = is.stands;
      first = (is.first.0, sym same ∙ is.first.1);
      all = λ none. sym same ∙ is.all none;
      left = is.left;
    }

goes_course : (P : Heard → Type 0) (more : StandsByLines P) (heard : Heard) (line : List ℕ) (ls : List (List ℕ))
    (reply : Reply) (next : Heard → TalkCourse) → reply_to heard line ≡ reply → length heard.lines < most_input_lines → P heard →
    ((now : Heard) → P now → IsCourse P now ls (next now)) → IsCourse P heard (line ∷ ls) (goes_on heard line reply next)
goes_course P more heard line ls (Ok text) next is left stands rest =
    more_course P heard line text ls (next (heard_more heard line text))
    (rest (heard_more heard line text) (more heard line text stands left is))
goes_course P more heard line ls (Err told) next is left stands rest =
    ended_course P heard line (line ∷ ls) _ stands

comes_course : (P : Heard → Type 0) (more : StandsByLines P) (heard : Heard) (line : List ℕ) (ls : List (List ℕ))
    (b : Bool) (next : Heard → TalkCourse) → is_long heard line ≡ b → P heard →
    ((now : Heard) → P now → IsCourse P now ls (next now)) →
    IsCourse P heard (strip_carriage_return line ∷ ls) (comes_to heard line b next)
comes_course P more heard line ls true next is stands rest =
    ended_course P heard line (strip_carriage_return line ∷ ls) _ stands
comes_course P more heard line ls false next is stands rest =
    goes_course P more heard (strip_carriage_return line) ls (reply_to heard (strip_carriage_return line)) next refl
    (room heard line is) stands rest

pub course_lines : (P : Heard → Type 0) (more : StandsByLines P) (parts : List (List ℕ)) (heard : Heard) → P heard →
    IsCourse P heard (lines_of_parts parts) (course parts heard)
unfolding course
course_lines P more [] heard stands = stands_course P heard [] stands
course_lines P more (part ∷ []) heard stands =
    subst (λ (ls : List (List ℕ)). IsCourse P heard ls (waits_at heard part)) (one_line part)
    (stands_course P heard part stands)
course_lines P more (part ∷ next ∷ parts) heard stands =
    comes_course P more heard part (lines_of_parts (next ∷ parts)) (is_long heard part) (course (next ∷ parts)) refl
    stands (λ now so. course_lines P more (next ∷ parts) now so)

-- ---- at the end of the input, where nothing ended it before
pub record IsParted (P : Heard → Type 0) (ls : List (List ℕ)) (is : Said) : Type 0 where
  pub now : Heard
  pub stands : P now
  pub lines : now.lines ≡ ls
  pub says : is ≡ parting now (last_reply now)

parted_with : (P : Heard → Type 0) (more : StandsByLines P) (heard : Heard) (line : List ℕ) (reply : Reply) →
    reply_to heard line ≡ reply → length heard.lines < most_input_lines → P heard →
    (parting_with heard line reply).end ≡ None → IsParted P (heard.lines ++ line ∷ []) (parting_with heard line reply)
parted_with P more heard line (Ok text) is left stands none =
    record { now = heard_more heard line text; stands = more heard line text stands left is; lines = refl; says = refl }
parted_with P more heard line (Err told) is left stands none = absurd cc

parted : (P : Heard → Type 0) (more : StandsByLines P) (heard : Heard) (line : List ℕ) → P heard →
    (0 < length line → length heard.lines < most_input_lines) → (closed heard line).end ≡ None →
    IsParted P (heard.lines ++ last_line line) (closed heard line)
parted P more heard [] stands left none =
    record { now = heard; stands = stands; lines = sym (append-nil heard.lines); says = refl }
parted P more heard (octet ∷ line) stands left none =
    parted_with P more heard (octet ∷ line) (reply_to heard (octet ∷ line)) refl (left (omega arith)) stands none

parted_at : (P : Heard → Type 0) (more : StandsByLines P) (heard : Heard) (ls : List (List ℕ)) (now : Heard)
    (line : List ℕ) (end : Option TalkEnd) →
    IsCourse P heard ls (record { heard = now; line = line; end = end }) → (closed_at now line end).end ≡ None →
    IsParted P (heard.lines ++ ls) (closed_at now line end)
parted_at P more heard ls now line None is none =
    subst (λ (all : List (List ℕ)). IsParted P all (closed now line)) (sym (is.all refl))
    (parted P more now line is.stands (is.left refl) none)
parted_at P more heard ls now line (Some end) is none = absurd cc

-- ---- over the octets of a text
pub course_heard_all : (P : Heard → Type 0) (more : StandsByLines P) (octets : List ℕ) (heard : Heard) → P heard →
    IsCourse P heard (lines octets) (course_of octets heard)
course_heard_all P more octets heard stands = course_lines P more (parts_of octets) heard stands

pub course_parted : (P : Heard → Type 0) (more : StandsByLines P) (octets : List ℕ) (heard : Heard) → P heard →
    (closed_by (course_of octets heard)).end ≡ None →
    IsParted P (heard.lines ++ lines octets) (closed_by (course_of octets heard))
course_parted P more octets heard stands none =
    let c : TalkCourse = course_of octets heard in
    parted_at P more heard (lines octets) c.heard c.line c.end (course_heard_all P more octets heard stands) none

-- ---- of a dialogue
abbrev IsOf : Dialogue → Heard → Type 0
IsOf dialogue heard = heard.dialogue ≡ dialogue

pub dialogue_course : (dialogue : Dialogue) (octets : List ℕ) →
    IsCourse (IsOf dialogue) (nothing_heard dialogue) (lines octets) (course_of octets (nothing_heard dialogue))
dialogue_course dialogue octets =
    course_heard_all (IsOf dialogue) (λ heard line text is left reply. is) octets (nothing_heard dialogue) refl

pub dialogue_closed : (dialogue : Dialogue) (octets : List ℕ) → ((talk_of dialogue).in_all octets).end ≡ None →
    IsParting dialogue (lines octets) ((talk_of dialogue).in_all octets)
dialogue_closed dialogue octets none =
    let is = course_parted (IsOf dialogue) (λ heard line text is left reply. is) octets (nothing_heard dialogue) refl none in
    record { heard = is.now; dialogue_is = is.stands; lines = is.lines; says = is.says }
