-- The places done by squares, and those after them.
use Rattle.std.proofs.Common.{◌≡◌, ◌-◌, ◌*◌, ◌≤◌, [], ◌++◌, take, drop, length, ap, ◌∙◌, arith, length-drop}
use Rattle.std.proofs.lemmas.List.{take_rest, drop_all, append-nil}
use Rattle.std.proofs.lemmas.Nat.{mul-le}
use Rattle.member_cells.specs.HeldPlaces.{held}
use Rattle.member_rows.specs.vcat_interleave.MemberPayloads.{payloads_of}
use Rattle.member_rows.proofs.PutOctetAndRowSpreadLaws.{rest-size}
use Rattle.member_rows.proofs.RowPartAndLaneLaws.{rows-add}
use Rattle.member_rows.proofs.vcat_interleave.gather_members.gather_some.Goals as goal

pub gather_ranks-requires-clause-out : goal.gather_ranks-requires-clause-out
gather_ranks-requires-clause-out c =
    let x = length c.args.active.now in
    let done = c.squares_below-squares.result * 16 in
    let row = c.gather_few.new.out in
    let few = c.squares_below-squares.ensures.within c.args.places c.requires.out in
    let all : length row ≡ c.args.places * x = c.gather_few.auto.out ∙ c.requires.out in
    let fits : done * x ≤ length row = omega (arith, mul-le done x c.args.places x few (omega arith), all) in
    ap length (take_rest row (done * x))
    ∙ rest-size c.args.places done x (length (drop (done * x) row)) few
    (omega (arith, length-drop (done * x) row, fits, all))

pub returns : goal.returns
returns c =
    let x = length c.args.active.now in
    let done = c.squares_below-squares.result * 16 in
    let row = c.gather_few.new.out in
    let back = c.gather_ranks.new.out in
    let none : drop (length row - done * x) (drop (done * x) row) ≡ [] =
    drop_all (length row - done * x) (drop (done * x) row) (omega (arith, length-drop (done * x) row)) in
    ap (λ l. take (done * x) row ++ (back ++ l)) none
    ∙ ap (λ l. take (done * x) row ++ l) (append-nil back)
    ∙ rows-add done c.args.places c.args.place (payloads_of (held c.args.containers.now) c.args.active.now)
    (take (done * x) row) back
    (c.squares_below-squares.ensures.within c.args.places c.requires.out) c.gather_few.ensures c.gather_ranks.ensures
