-- By whether it is known which lines carry payload.
use Rattle.std.proofs.Common.{◌≡◌, ℕ, ◌+◌, ◌-◌, ◌*◌, ◌/◌, ◌≤◌, nat_le, true, false, sym, ◌∙◌, ap, arith, le-leb, refl, List}
use Rattle.std.proofs.Common.{Option}
use Rattle.std.specs.List.{list_any}
use Rattle.std.proofs.lemmas.Bool.{and_parts, le-ltb}
use Rattle.law_model.specs.Common.{Scenario, is_heard, are_known, is_known, Told, active, table_of, lock_of}
use Rattle.fate_engine.specs.Common.{least_failing, packet_cause, container_cause, row_cause, whole_in, whole_on}
use Rattle.fate_engine.proofs.fate_core.cause_of_row.row_cause.Goals as goal

known-cause : (scenario : Scenario) (cells : List (Option Told)) (t : ℕ) → 24 ≤ t →
    is_known scenario cells ((t - 24) / 16) ≡ true →
    container_cause (least_failing (whole_on scenario.windows (lock_of t) (t + 1 - lock_of t))
    (active (table_of scenario cells ((t - 24) / 16)))) ≡ row_cause scenario cells t
known-cause scenario cells t late known =
    let parts = and_parts (is_heard scenario ((t - 24) / 16)) (are_known scenario cells ((t - 24) / 16)) known in
    let also : nat_le 2 t ≡ true = le-leb 2 t (omega arith) in
    rw (le-ltb t 24 late, parts.0, parts.1, also) refl

hidden-cause : (scenario : Scenario) (cells : List (Option Told)) (t : ℕ) → 24 ≤ t →
    is_heard scenario ((t - 24) / 16) ≡ true → is_known scenario cells ((t - 24) / 16) ≡ false →
    packet_cause (least_failing (whole_on scenario.windows (16 * ((t - 24) / 16)) 24)
    (active (table_of scenario cells ((t - 24) / 16)))) ≡ row_cause scenario cells t
hidden-cause scenario cells t late heard hidden =
    let unknown : are_known scenario cells ((t - 24) / 16) ≡ false = rw heard at hidden in
    rw (le-ltb t 24 late, heard, unknown) refl

pub returns-then-is_known : goal.returns-then-is_known
returns-then-is_known c = λ scenario cells same are.
    let row = c.args.row in
    let packet = c.packet_of-packet.ensures.packet in
    let known : is_known scenario cells ((row - 24) / 16) ≡ true =
    ap (is_known scenario cells) (sym packet) ∙ sym (c.is_known.ensures scenario cells are) ∙ c.if-is_known.true in
    c.container_cause.ensures
    ∙ ap (λ list. container_cause (least_failing (whole_on list (lock_of row) (row + 1 - lock_of row))
    c.active-active.result.now)) (sym same)
    ∙ ap (λ lines. container_cause (least_failing (whole_on scenario.windows (lock_of row) (row + 1 - lock_of row))
    lines)) (c.active-active.ensures.lines scenario cells are ∙ ap (λ k. active (table_of scenario cells k)) packet)
    ∙ known-cause scenario cells row (omega (arith, c.if-row-lt-FIRST.false)) known

pub returns-then-is_heard : goal.returns-then-is_heard
returns-then-is_heard c = λ scenario cells same are.
    let row = c.args.row in
    let packet = c.packet_of-packet.ensures.packet in
    let hidden : is_known scenario cells ((row - 24) / 16) ≡ false =
    ap (is_known scenario cells) (sym packet) ∙ sym (c.is_known.ensures scenario cells are) ∙ c.if-is_known.false in
    let heard : is_heard scenario ((row - 24) / 16) ≡ true =
    ap (is_heard scenario) (sym packet) ∙ ap (λ lists. list_any (λ list. whole_in list (16 * c.packet_of-packet.result)
    24) lists) same ∙ sym c.is_heard.ensures ∙ c.if-is_heard.true in
    c.packet_cause.ensures
    ∙ ap (λ list. packet_cause (least_failing (whole_on list (16 * c.packet_of-packet.result) 24)
    c.active-active.result.now)) (sym same)
    ∙ ap (λ lines. packet_cause (least_failing (whole_on scenario.windows (16 * c.packet_of-packet.result) 24) lines))
    (c.active-active.ensures.lines scenario cells are)
    ∙ ap (λ k. packet_cause (least_failing (whole_on scenario.windows (16 * k) 24)
    (active (table_of scenario cells k)))) packet
    ∙ hidden-cause scenario cells row (omega (arith, c.if-row-lt-FIRST.false)) heard hidden
