-- What is decided of the rows of a group stays decided.
use Rattle.std.specs.Prelude.{◌≡◌, ℕ, ◌+◌, ◌*◌, List, ◌++◌, length, slice_get, Some, IsSome}
use Rattle.law_model.specs.Common.{Cell, verdict, read_packet, governing, carriers_at, row_at, return_at}
use Rattle.law_model.specs.declared.script_types.Options.{Options}

-- each line has its cells, and maybe more after them
pub record IsLonger (cells longer : List (List Cell)) : Type 0 where
  pub size : length longer ≡ length cells
  pub each : (m : ℕ) (own : List Cell) → slice_get cells m ≡ Some own →
      (more : List Cell) × (slice_get longer m ≡ Some (own ++ more))

-- number t is decided on each line
abbrev pub AreDecidedAt : List (List Cell) → ℕ → Type 0
AreDecidedAt cells t = (m : ℕ) (own : List Cell) → slice_get cells m ≡ Some own → IsSome (verdict own t)

-- more cells change nothing of a packet whose last number is decided
abbrev pub PacketsStay : Type 0
PacketsStay = (own more : List Cell) (k : ℕ) → IsSome (verdict own (16 * k + 23)) →
    read_packet (own ++ more) k ≡ read_packet own k

-- nor of a row that is decided on each line, or of the packets that govern it
abbrev pub GoverningStay : Type 0
GoverningStay = (cells longer : List (List Cell)) (t : ℕ) → IsLonger cells longer → AreDecidedAt cells t →
    governing longer t ≡ governing cells t

abbrev pub RowsStay : Type 0
RowsStay = (options : Options) (size : ℕ) (cells longer : List (List Cell)) (t : ℕ) → IsLonger cells longer →
    AreDecidedAt cells t → row_at options size longer t ≡ row_at options size cells t

-- nor of which lines carry payload
abbrev pub CarriersStay : Type 0
CarriersStay = (options : Options) (cells longer : List (List Cell)) (k : ℕ) → IsLonger cells longer →
    AreDecidedAt cells (16 * k + 23) →
    carriers_at options longer k ≡ carriers_at options cells k

-- nor of a return packet
abbrev pub ReturnsStay : Type 0
ReturnsStay = (options : Options) (cells longer : List (List Cell)) (k : ℕ) → IsLonger cells longer →
    AreDecidedAt cells (16 * k + 23) →
    return_at options longer k ≡ return_at options cells k
