-- Why a row of a session isn't whole, and the longest runs of rows of one cause.
use Rattle.std.specs.Prelude.{ℕ, suc, ◌-◌, ◌/◌, ◌==◌, ◌&&◌, not, nat_lt, min, Bool, true, false, if◌then◌else◌, List}
use Rattle.std.specs.Prelude.{[], ◌∷◌, map, Option, Some, None}
use Rattle.std.specs.List.{range_with_len}
use Rattle.law_model.specs.Common.{is_good, Scenario, carried_by, is_read, is_heard, are_known, Told, active, table_of}
use Rattle.fate_engine.specs.declared.fate_law.Cause.{Cause}
use Rattle.fate_engine.specs.declared.fate_law.SpoiledRun.{SpoiledRun}
use Rattle.fate_engine.specs.declared.fate_law.Cause.TheVariants.{Packet, PacketOf, Container}

-- ---- the cause of a row
abbrev pub lesser : ℕ → Option ℕ → ℕ
lesser line None = line
lesser line (Some other) = min line other

-- the least of lines that fails a test
unfoldable pub least_failing : (ℕ → Bool) → List ℕ → Option ℕ
least_failing passes [] = None
least_failing passes (line ∷ lines) =
    if passes line then least_failing passes lines else Some (lesser line (least_failing passes lines))

abbrev pub container_cause : Option ℕ → Option Cause
container_cause None = None
container_cause (Some line) = Some (Container line)

abbrev pub packet_cause : Option ℕ → Option Cause
packet_cause None = None
packet_cause (Some line) = Some (PacketOf line)

-- by the packet that governs the row: no line has a packet that can be read; or it isn't known which lines carry
-- payload, and then one of them has no such packet; or the container of one of them isn't good. That the least line is
-- told is this project's own
abbrev pub cause_under : Scenario → List (Option Told) → ℕ → ℕ → Option Cause
cause_under scenario cells k t =
    if not (is_heard scenario k) then Some Packet
    else (if are_known scenario cells k
    then container_cause
    (least_failing (λ line. is_good (carried_by scenario line) t) (active (table_of scenario cells k)))
    else packet_cause (least_failing (λ line. is_read scenario line k) (active (table_of scenario cells k))))

-- none where the row is whole
abbrev pub row_cause : Scenario → List (Option Told) → ℕ → Option Cause
row_cause scenario cells t = if nat_lt t 24 then None else cause_under scenario cells ((t - 24) / 16) t

-- ---- runs of rows
abbrev pub same_cause : Cause → Cause → Bool
same_cause Packet Packet = true
same_cause Packet (PacketOf line) = false
same_cause Packet (Container line) = false
same_cause (PacketOf line) Packet = false
same_cause (PacketOf line) (PacketOf other) = line == other
same_cause (PacketOf line) (Container other) = false
same_cause (Container line) Packet = false
same_cause (Container line) (PacketOf other) = false
same_cause (Container line) (Container other) = line == other

-- row t in front of runs of later rows
abbrev pub spoiled_then : ℕ → Option Cause → List SpoiledRun → List SpoiledRun
spoiled_then t None runs = runs
spoiled_then t (Some cause) [] = record { first = t; end = suc t; cause = cause } ∷ []
spoiled_then t (Some cause) (run ∷ runs) =
    if run.first == suc t && same_cause cause run.cause then record { first = t; end = run.end; cause = run.cause } ∷
    runs
    else record { first = t; end = suc t; cause = cause } ∷ run ∷ runs

-- by the causes of rows that are numbered from t
unfoldable pub spoiled_runs : ℕ → List (Option Cause) → List SpoiledRun
spoiled_runs t [] = []
spoiled_runs t (cause ∷ causes) = spoiled_then t cause (spoiled_runs (suc t) causes)

-- those of the first rows of a session
abbrev pub spoiled_of : Scenario → List (Option Told) → ℕ → List SpoiledRun
spoiled_of scenario cells rows = spoiled_runs 0 (map (row_cause scenario cells) (range_with_len 0 rows))
