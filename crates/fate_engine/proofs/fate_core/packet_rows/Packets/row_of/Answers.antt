-- The row among those of its run.
use Rattle.std.proofs.Common.{◌≡◌, ℕ, suc, ◌+◌, ◌-◌, ◌*◌, ◌/◌, ◌<◌, ◌≤◌, List, length, Option, sym, ◌∙◌, ap}
use Rattle.std.proofs.Common.{arith}
use Rattle.std.proofs.Math.Seq.{take-length}
use Rattle.law_model.specs.Common.{Scenario, Told, place_of}
use Rattle.fate_engine.specs.Common.{ArePackets, active_in, octets_of, start_by}
use Rattle.fate_engine.proofs.PacketRowPlaceLaws.{place-in, place-last, few-rows, some-width}
use Rattle.fate_engine.proofs.fate_core.packet_rows.Packets.row_of.Goals as goal

pub returns-then-place-self-clause-beyond : goal.returns-then-place-self-clause-beyond
returns-then-place-self-clause-beyond c = λ scenario cells are.
    let last = place-last scenario cells c.args.self.now are (16 * length c.args.self.now.active + 24) (omega arith) in
    let view = ap (λ p. start_by p.size p.active (length p.active)) c.self.view_is in
    let all = ap (octets_of c.self.inside.size) (take-length (active_in c.self.inside.runs.items)) in
    let ends = c.self.invariant.ends in
    omega (arith, last, view, all, ends, c.if-place-self.true)

-- ---- the place of its row
octets : (c : goal.After-row_known-1) →
    c.args.place - c.run_at-run.result.now.start < 16 * c.run_at-run.result.now.packets * c.width.result
octets c =
    let below = c.run_at-run.ensures.below in
    let from = c.run_at-run.ensures.from in
    omega (arith, below, from, ap (λ w. 16 * c.run_at-run.result.now.packets * w) c.width.ensures)

some : (c : goal.After-row_known-1) → 0 < c.width.result
some c = some-width (c.args.place - c.run_at-run.result.now.start) c.width.result
    (16 * c.run_at-run.result.now.packets) (octets c)

rows : (c : goal.After-row_known-1) →
    (c.args.place - c.run_at-run.result.now.start) / c.width.result < 16 * c.run_at-run.result.now.packets
rows c = few-rows (c.args.place - c.run_at-run.result.now.start) c.width.result
    (16 * c.run_at-run.result.now.packets) (octets c)

placed : (c : goal.After-row_known-1) (scenario : Scenario) (cells : List (Option Told)) →
    ArePackets scenario cells c.args.self.now → (q : ℕ) → q ≤ 16 * c.run_at-run.result.now.packets →
    place_of scenario cells (c.run_at-run.result.now.row + q) ≡ c.run_at-run.result.now.start + q * c.width.result
placed c scenario cells are q small =
    place-in scenario cells c.args.self.now are c.run_at-run.result.now c.run_at-run.ensures.run
    (c.run_at-run.result.now.row + q) (omega arith) (omega (arith, small))
    ∙ ap (λ n. c.run_at-run.result.now.start + n * (c.args.self.now.size * length c.run_at-run.result.now.lines.items))
    (let e : c.run_at-run.result.now.row + q - c.run_at-run.result.now.row ≡ q = omega arith in e)
    ∙ ap (λ w. c.run_at-run.result.now.start + q * w) (sym c.width.ensures)

within-row : (x w : ℕ) → 0 < w → (x / w * w ≤ x) × (x < (x / w + 1) * w)
within-row x w some = (omega arith, omega arith)

pub returns-clause-from : goal.returns-clause-from
returns-clause-from c = λ scenario cells are.
    let q : ℕ = (c.args.place - c.run_at-run.result.now.start) / c.width.result in
    let low = rows c in
    let all = placed c scenario cells are q (omega (arith, low)) in
    let row = within-row (c.args.place - c.run_at-run.result.now.start) c.width.result (some c) in
    let from = c.run_at-run.ensures.from in
    omega (arith, all, row.0, from)

pub returns-clause-below : goal.returns-clause-below
returns-clause-below c = λ scenario cells are.
    let q : ℕ = (c.args.place - c.run_at-run.result.now.start) / c.width.result in
    let low = rows c in
    let all = placed c scenario cells are (q + 1) (omega (arith, low)) in
    let row = within-row (c.args.place - c.run_at-run.result.now.start) c.width.result (some c) in
    let from = c.run_at-run.ensures.from in
    let e : c.run_at-run.result.now.row + (q + 1) ≡ suc (c.run_at-run.result.now.row + q) = omega arith in
    omega (arith, all, row.1, from, ap (place_of scenario cells) e)
