-- G.7042, the return packets of a session: the sink tells which members are up by what their lines said last, and of
-- which count of changes. That a change ends what a line said last is this project's own.
use Rattle.std.specs.Prelude.{ℕ, zero, suc, ◌+◌, ◌*◌, ◌%◌, ◌==◌, ◌&&◌, Bool, false, if◌then◌else◌, List, [], ◌∷◌, ◌++◌}
use Rattle.std.specs.Prelude.{map, length, Option, Some, None, slice_get}
use Rattle.std.specs.List.{list_any, range_with_len}
use Rattle.law_model.specs.session.Scenario.{Scenario, is_read, is_heard, is_lost, packets}
use Rattle.law_model.specs.declared.lcas_states.Member.{Member}
use Rattle.law_model.specs.source.Table.{Told}
use Rattle.law_model.specs.source.Source.{table_of}
use Rattle.law_model.specs.members.Timers.{last_read, is_up}

-- the count of changes of the last packet before packet k that some line could read
unfoldable pub said_before : Scenario → List (Option Told) → ℕ → ℕ
said_before scenario cells zero = 0
said_before scenario cells (suc k) =
    if is_heard scenario k then (table_of scenario cells k).count else said_before scenario cells k

abbrev pub said : Scenario → List (Option Told) → ℕ → ℕ
said scenario cells k = said_before scenario cells (suc k)

-- ---- what a line said last
-- the number of the last packet of a line up to packet k that could be read, where it was of the count that is said:
-- a change ends what a line said before
abbrev pub word_by : Scenario → List (Option Told) → ℕ → Option ℕ → Option ℕ
word_by scenario cells count None = None
word_by scenario cells count (Some last) =
    if (table_of scenario cells last).count == count then Some last else None

abbrev pub word : Scenario → List (Option Told) → ℕ → ℕ → Option ℕ
word scenario cells line k =
    word_by scenario cells (said scenario cells k) (last_read (is_read scenario line) k)

-- ---- statuses
-- a line is up at packet k
abbrev pub is_line_up : Scenario → ℕ → ℕ → Bool
is_line_up scenario line k = is_up scenario.options (is_read scenario line) k

abbrev pub is_line : ℕ → Option Member → Bool
is_line line None = false
is_line line (Some member) = member.line == line

-- a line has an SQ in the packet of its word
abbrev pub stands_at : Scenario → List (Option Told) → ℕ → ℕ → Option ℕ → Bool
stands_at scenario cells line sq None = false
stands_at scenario cells line sq (Some last) = is_line line (slice_get (table_of scenario cells last).order sq)

-- the status of an SQ in return packet k is OK where some line is up and said this SQ last
abbrev pub status : Scenario → List (Option Told) → ℕ → ℕ → Bool
status scenario cells k sq =
    list_any (λ line. is_line_up scenario line k && stands_at scenario cells line sq (word scenario cells line k))
    (range_with_len 0 (length scenario.windows))

-- the groups of eight SQ come in turn
abbrev pub group_of : Scenario → ℕ → ℕ
group_of scenario k = k % scenario.options.statuses

abbrev pub return_packet : Scenario → List (Option Told) → ℕ → Told
return_packet scenario cells k = record {
  rs_ack = said scenario cells k % 2;
  oks = map (λ i. status scenario cells k (8 * group_of scenario k + i))
      (0 ∷ 1 ∷ 2 ∷ 3 ∷ 4 ∷ 5 ∷ 6 ∷ 7 ∷ []);
}

abbrev pub return_cell : Scenario → List (Option Told) → ℕ → Option Told
return_cell scenario cells k = if is_lost scenario k then None else Some (return_packet scenario cells k)

-- the first return cells of a session: each is made from the table that those before it lead to
unfoldable pub cells_before : Scenario → ℕ → List (Option Told)
cells_before scenario zero = []
cells_before scenario (suc k) = cells_before scenario k ++ return_cell scenario (cells_before scenario k) k ∷ []

abbrev pub session_cells : Scenario → List (Option Told)
session_cells scenario = cells_before scenario (packets scenario)
