-- The rows between the two.
use Rattle.std.proofs.Common.{◌≡◌, min, length, take, drop, ◌∙◌, ap, arith}
use Rattle.std.proofs.lemmas.List.{take_min}
use Rattle.fate_service.specs.RowStates.{dark_among}
use Rattle.fate_service.proofs.FrameTickAndRowOrderLaws.{part-at}
use Rattle.fate_service.proofs.stretch_counts.dark_in.Goals as goal

pub returns : goal.returns
returns c =
    let states = c.args.states.now in
    let first = c.args.first in
    let end = c.args.end in
    let to = c.min-to.result in
    let upto : to ≡ min end (length states) = let e = c.min-to.ensures in omega (arith, e) in
    let at : c.min.result ≡ min first to = let e = c.min.ensures in omega (arith, e) in
    c.count_dark.ensures
    ∙ ap dark_among (part-at states first to c.min.result at
    ∙ ap (λ l. drop first l) (ap (λ n. take n states) upto ∙ take_min end states))
