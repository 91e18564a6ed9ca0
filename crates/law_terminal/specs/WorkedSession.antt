-- A worked session, computed: two lines without failures, which are both added at tick 0, and a lag of two packets.
use Rattle.std.specs.Prelude.{ℕ, ◌+◌, ◌*◌, ◌%◌, true, false, List, [], ◌∷◌, map, take, Option, Some}
use Rattle.std.specs.List.{range_with_len}
use Rattle.law_model.specs.Common.{Cell, Scenario, Told, session_cells, payload_on, nibble_at}
use Rattle.law_model.specs.declared.lcas_states.Command.TheVariants.{Add as add}
use Rattle.law_session.specs.ComputedSessions.{order, scenario_for}
use Rattle.law_terminal.specs.SessionLines.{given}

abbrev pub two_lines : Scenario
two_lines = scenario_for 2 80 ([] ∷ [] ∷ []) (order 0 (add 0) ∷ order 0 (add 1) ∷ [])

-- the H4 octets that a line sends from a frame on
abbrev pub h4_from : ℕ → ℕ → ℕ → List ℕ
h4_from line from frames =
    map (λ t. 16 * nibble_at two_lines (session_cells two_lines) line t + t % 16) (range_with_len from frames)

-- at first zeros; then ADD with SQ 0; and from packet 2 on EOS with SQ 0, and ADD with SQ 1
abbrev pub no_packet : List ℕ
no_packet = 0x00 ∷ 0x01 ∷ 0x02 ∷ 0x03 ∷ 0x04 ∷ 0x05 ∷ 0x06 ∷ 0x07 ∷ []

abbrev pub first_added : List ℕ
first_added =
    0x08 ∷ 0x09 ∷ 0x0a ∷ 0x1b ∷ 0x0c ∷ 0x0d ∷ 0x0e ∷ 0x0f ∷ 0x00 ∷ 0x11 ∷ 0x12 ∷ 0x13 ∷ 0x04 ∷ 0x05 ∷ 0x06 ∷ 0x07 ∷ []

abbrev pub first_in_use : List ℕ
first_in_use =
    0x08 ∷ 0x09 ∷ 0x0a ∷ 0x0b ∷ 0x0c ∷ 0x0d ∷ 0x0e ∷ 0x0f ∷ 0x00 ∷ 0x31 ∷ 0x32 ∷ 0x13 ∷ 0x04 ∷ 0x15 ∷ 0x56 ∷ 0x67 ∷ []

abbrev pub second_added : List ℕ
second_added =
    0x08 ∷ 0x09 ∷ 0x0a ∷ 0x0b ∷ 0x0c ∷ 0x0d ∷ 0x0e ∷ 0x1f ∷ 0x00 ∷ 0x31 ∷ 0x12 ∷ 0x13 ∷ 0x04 ∷ 0x15 ∷ 0xe6 ∷ 0xe7 ∷ []

-- the first return cells: SQ 0 is OK, of the change that adds it
abbrev pub first_told : List (Option Told)
first_told = Some (record { rs_ack = 1; oks = true ∷ false ∷ false ∷ false ∷ false ∷ false ∷ false ∷ false ∷ [] }) ∷ []

-- the cells of the first 24 frames, where nothing was told yet
abbrev pub first_cells : List (List Cell)
first_cells = map (λ line. given two_lines [] line 24 0 24) (0 ∷ 1 ∷ [])

-- what two members carry of a row of four octets, by place
abbrev pub dealt : ℕ → List ℕ
dealt line = take 4 (payload_on (1 ∷ 0 ∷ []) line 2 (10 ∷ 11 ∷ 12 ∷ 13 ∷ []))
