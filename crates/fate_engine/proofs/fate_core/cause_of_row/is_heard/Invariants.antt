-- No line before has such a packet.
use Rattle.std.proofs.Common.{◌≡◌, ◌*◌, drop}
use Rattle.std.specs.List.{list_any}
use Rattle.fate_engine.specs.Common.{whole_in}
use Rattle.fate_engine.proofs.fate_core.cause_of_row.is_heard.Given as goal

abbrev pub invariant-loop-list : goal.invariant-loop-list
invariant-loop-list l =
    list_any (λ list. whole_in list (16 * l.packet) 24) (drop l.list-index l.list-items) ≡ list_any
    (λ list. whole_in list (16 * l.packet) 24) l.windows
