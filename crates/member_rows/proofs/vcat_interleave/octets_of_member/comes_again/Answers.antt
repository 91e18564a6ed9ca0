-- The row is compared with itself four octets later.
use Rattle.std.proofs.Common.{◌-◌, ℕ, List, length, take, drop, sym, ◌∙◌}
use Rattle.std.proofs.lemmas.List.{take_rest}
use Rattle.std.proofs.lemmas.Slice.Eq.{bytes_eq-Decides}
use Rattle.member_rows.proofs.RowPartAndLaneLaws.{is-again}
use Rattle.member_rows.proofs.vcat_interleave.octets_of_member.comes_again.Goals as goal

pub returns-then-row-gt3 : goal.returns-then-row-gt3
returns-then-row-gt3 c same =
    let row : List ℕ = c.args.row.now in
    let rest : List ℕ = take (length row - 4) (drop 4 row) in
    let front : List ℕ = take (length row - 4) row in
    is-again row (sym (take_rest row 4) ∙ (bytes_eq-Decides rest front).0 (sym c.eq.ensures ∙ same))
