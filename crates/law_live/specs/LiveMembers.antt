-- What became of the lines of a group, told once where it happens: in a decision step each line whose code is another one
-- than before. Which line in use is the last, and that a removal is acknowledged, is no news. The text is this project's
-- own.
use Rattle.std.specs.Prelude.{◌≢◌, ℕ, zero, suc, ◌+◌, ◌*◌, ◌==◌, nat_le, List, [], ◌∷◌, ◌++◌, map, filter, flat_map}
use Rattle.std.specs.Prelude.{bytes_eq, codes, decimal, if◌then◌else◌}
use Rattle.std.specs.List.{range_with_len}
use Rattle.member_cells.specs.declared.control_word.Ctrl.{Ctrl}
use Rattle.law_model.specs.Common.{Leg, ctrl_text, place_in, state_of}
use Rattle.law_model.specs.declared.lcas_states.SourceState.{SourceState}
use Rattle.law_model.specs.declared.lcas_states.SourceState.TheVariants.{Idle, Add, Norm, Dnu, Remove}
use Rattle.law_walk.specs.Common.{table_in}
use Rattle.law_live.specs.LiveAnswers.{Answer, steps_made}

-- ---- the code of a line
-- one that is removed says IDLE in its packets by then
abbrev pub member_code : SourceState → List ℕ
member_code Idle = codes "idle"
member_code Add = codes "add"
member_code Norm = codes "norm"
member_code Dnu = codes "dnu"
member_code Remove = codes "idle"

-- by the table that the source has once so many ticks are made
abbrev pub code_at : Leg → ℕ → ℕ → List ℕ
code_at leg ticks m = member_code (state_of (table_in leg ticks) m)

-- ---- a decision step
-- of a line, with the ticks made by then
pub record MemberTold : Type 0 where
  pub ticks : ℕ
  pub line : ℕ
  pub code : List ℕ

-- where its code isn't the one before
abbrev pub told_of : ℕ → ℕ → List ℕ → List ℕ → List MemberTold
told_of ticks m was now = if bytes_eq was now then [] else record { ticks = ticks; line = m; code = now } ∷ []

-- of so many lines from 0
abbrev pub told_among : ℕ → (ℕ → List ℕ) → (ℕ → List ℕ) → ℕ → List MemberTold
told_among ticks was now lines = flat_map (λ m. told_of ticks m (was m) (now m)) (range_with_len 0 lines)

-- step j is made in the tick behind 16 j + 8 others
abbrev pub members_in : Leg → ℕ → List MemberTold
members_in leg j = told_among (16 * j + 9) (code_at leg (16 * j + 8)) (code_at leg (16 * j + 9)) leg.config.lines

-- ---- beside the line of each decision step, in which the packet of each line has a control word
-- EOS is told as NORM
abbrev pub plain_code : Ctrl → List ℕ
plain_code ctrl = if bytes_eq (ctrl_text ctrl) (codes "eos") then codes "norm" else ctrl_text ctrl

-- of a line in the last of so many steps, and `idle` before the first
unfoldable pub code_after : Leg → ℕ → ℕ → List ℕ
code_after leg zero m = codes "idle"
code_after leg (suc j) m = plain_code (place_in (table_in leg (16 * j + 9)).order 0 m).ctrl

-- ---- their lines
abbrev pub member_text : MemberTold → List ℕ
member_text told =
    codes "member " ++ decimal told.ticks ++ codes " " ++ decimal told.line ++ codes " " ++ told.code ++ codes "\n"

abbrev pub members_text : List MemberTold → List ℕ
members_text told = flat_map member_text told

-- ---- of all steps that are answered
abbrev pub members_told : Leg → List Answer → List MemberTold
members_told leg told = flat_map (members_in leg) (steps_made told)

-- those that are told by so many ticks
abbrev pub told_by : ℕ → List MemberTold → List MemberTold
told_by ticks told = filter (λ (one : MemberTold). nat_le one.ticks ticks) told

-- the codes of a line, one after another
abbrev pub codes_of : ℕ → List MemberTold → List (List ℕ)
codes_of m told = map (λ (one : MemberTold). one.code) (filter (λ (one : MemberTold). one.line == m) told)

-- the last of codes behind a first one
unfoldable pub last_code : List ℕ → List (List ℕ) → List ℕ
last_code was [] = was
last_code was (code ∷ codes) = last_code code codes

-- each is another one than the one before
unfoldable pub Differ : List ℕ → List (List ℕ) → Type 0
Differ was [] = Unit {0}
Differ was (code ∷ codes) = (code ≢ was) × Differ code codes
