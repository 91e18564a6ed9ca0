-- The ring holds what the carry gave.
use Rattle.std.proofs.Common.{rules, ◌≡◌, ◌+◌, ◌%◌, ◌<◌, ◌≤◌, ◌∙◌, length, length-set, slice_set, ap, subst, sym, refl}
use Rattle.std.proofs.Common.{arith}
use Rattle.std.specs.Global.{Box}
use Rattle.std.proofs.lemmas.List.{length-map, map-set}
use Rattle.law_model.specs.Common.{Container}
use Rattle.member_cells.specs.HeldPlaces.{held}
use Rattle.member_path.specs.path_delay.CallsOnDelayedLine.{and_flush}
use Rattle.walk_engine.specs.Common.{Ringed, Has, with_sign}
use Rattle.walk_engine.proofs.ReceiveRingAndPopLaws.{count-few, has-more, length-with_sign, ringed-more}
use Rattle.walk_engine.proofs.walk_parts.walk_line.WalkLine.flush.Goals as goal

pub nonzero_rem-slot : goal.nonzero_rem-slot
nonzero_rem-slot c =
    let count : c.len.result ≡ length c.self.inside.signs.items = search (rules, c.len.ensures) in
    omega (arith, count, c.self.invariant.some)

pub index_mut-requires : goal.index_mut-requires
index_mut-requires c =
    let count : c.len.result ≡ length c.self.inside.signs.items = search (rules, c.len.ensures) in
    let boxes = length-map c.self.inside.places.items (λ (b : Box Container). b.value) in
    let within : c.self.inside.given % c.len.result < length c.self.inside.places.items =
    omega (arith, count, boxes, c.self.invariant.some, c.self.invariant.beside) in
    search (rules, within)

pub flush-carry-requires : goal.flush-carry-requires
flush-carry-requires c = record {
  pushed = subst (λ (line : Ringed). line.core.pushed ≡ line.core.total) (sym c.self.view_is) c.requires.pushed;
  runs = subst (λ (line : Ringed). line.core.flushed ≤ line.core.delay) (sym c.self.view_is) c.requires.runs;
}

pub overflow_add-self : goal.overflow_add-self
overflow_add-self c =
    let is = c.self.invariant in
    omega (arith, is.carries, is.pushes, is.flushes, is.total, is.delay)

pub keep-requires : goal.keep-requires
keep-requires c =
    let count : c.len.result ≡ length c.self.inside.signs.items = search (rules, c.len.ensures) in
    omega (arith, count, c.self.invariant.some)

pub overflow_add-self-2 : goal.overflow_add-self-2
overflow_add-self-2 c =
    let is = c.self.invariant in
    let few = count-few c.flush-carry.result in
    omega (arith, few, c.keep.ensures.count, is.gives, is.carries, is.pushes, is.flushes, is.total, is.delay)

pub invariant_of-self : goal.invariant_of-self
invariant_of-self c =
    let is = c.self.invariant in
    let runs = subst (λ (line : Ringed). line.core.flushed ≤ line.core.delay) (sym c.self.view_is) c.requires.runs in
    let room = subst (λ (line : Ringed). line.given < line.popped + length line.signs) (sym c.self.view_is)
    c.requires.room in
    let counts = c.flush-carry.ensures.counts in
    ringed-more _ _ c.flush-carry.result _ 0 1 _ _ _ is counts refl
    (omega (arith, is.pushes, counts.pushed, counts.total)) (omega (arith, runs, counts.flushed, counts.delay)) room
    c.keep.ensures.signs
    (length-map _ (λ (b : Box Container). b.value)
    ∙ length-set c.self.inside.places.items (c.self.inside.given % c.len.result) c.flush-carry.new.out
    ∙ sym (length-map c.self.inside.places.items (λ (b : Box Container). b.value)))
    c.keep.ensures.count

pub returns-clause-ring : goal.returns-clause-ring
returns-clause-ring c =
    ap length c.keep.ensures.signs ∙ length-with_sign c.flush-carry.result _ c.self.inside.signs.items
    ∙ ap (λ (line : Ringed). length line.signs) c.self.view_is

pub returns-clause-carried : goal.returns-clause-carried
returns-clause-carried c = ap (λ (line : Ringed). line.carried + 1) c.self.view_is

pub returns-clause-popped : goal.returns-clause-popped
returns-clause-popped c = ap (λ (line : Ringed). line.popped) c.self.view_is

pub returns-clause-has : goal.returns-clause-has
returns-clause-has c calls has =
    let own = subst (λ line. Has line calls) (sym c.self.view_is) has in
    let is = c.self.invariant in
    let room = c.requires.room in
    let given = ap (λ (line : Ringed). line.given) c.self.view_is in
    let popped = ap (λ (line : Ringed). line.popped) c.self.view_is in
    let size = ap (λ (line : Ringed). length line.signs) c.self.view_is in
    let count : c.len.result ≡ length c.self.inside.signs.items = search (rules, c.len.ensures) in
    has-more _ _ calls (and_flush calls) c.flush-carry.result
    c.flush-carry.new.out.value _ _ _ own is.some is.beside
    (omega (arith, room, given, popped, size)) (c.flush-carry.ensures.stands calls own.core) (omega arith)
    (c.flush-carry.ensures.cells calls own.core)
    (c.keep.ensures.signs ∙ ap (λ n. with_sign c.flush-carry.result
    (c.self.inside.given % n) c.self.inside.signs.items) count)
    (map-set (λ (b : Box Container). b.value) c.self.inside.places.items (c.self.inside.given % c.len.result)
    c.flush-carry.new.out
    ∙ ap (λ n. slice_set (held c.self.inside.places.items) (c.self.inside.given % n) c.flush-carry.new.out.value) count)
    c.keep.ensures.count
