-- The search ends at the first window that ends above the first container.
use Rattle.std.proofs.Common.{rules, nat_le}
use Rattle.std.proofs.lemmas.Fn.{always_returns_same}
use Rattle.fate_engine.proofs.SpoiledRunAndWholeContainerLaws.{parted, some-tells, nothing-tells}
use Rattle.fate_engine.proofs.fate_core.cause_of_row.are_whole.Goals as goal

pub returns-in-Some : goal.returns-in-Some
returns-in-Some c =
    let list = c.args.windows.now in
    let from = c.args.from in
    let point = c.partition_point-passed.ensures.partitioned (λ window. nat_le window.end from)
    (always_returns_same _ _ _ (λ a r f k. search rules)) (parted list from c.requires.apart) in
    some-tells list from c.args.count c.partition_point-passed.result c.in-Some.window.now c.requires.apart
    c.requires.some point c.in-Some.ensures.value

pub returns-in-None : goal.returns-in-None
returns-in-None c =
    let list = c.args.windows.now in
    let from = c.args.from in
    let point = c.partition_point-passed.ensures.partitioned (λ window. nat_le window.end from)
    (always_returns_same _ _ _ (λ a r f k. search rules)) (parted list from c.requires.apart) in
    nothing-tells list from c.args.count c.partition_point-passed.result point c.in-None.ensures.value
