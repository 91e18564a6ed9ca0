-- The ring holds what the carry gave.
use Rattle.std.proofs.Common.{rules, ◌≡◌, ◌+◌, ◌-◌, ◌%◌, ◌<◌, ◌∙◌, [], ◌∷◌, length, slice_set, ap, subst, sym, arith}
use Rattle.std.proofs.Common.{length-append, length-set, option_map, refl}
use Rattle.std.specs.Global.{Box}
use Rattle.std.proofs.lemmas.List.{map-set, length-map}
use Rattle.std.proofs.lemmas.Option.{slice_get-map}
use Rattle.law_model.specs.Common.{Container}
use Rattle.member_cells.specs.HeldPlaces.{held}
use Rattle.member_path.specs.path_delay.CallsOnDelayedLine.{and_push}
use Rattle.walk_engine.specs.Common.{Ringed, Has, with_sign}
use Rattle.walk_engine.proofs.ReceiveRingAndPopLaws.{has-more, has-changed, count-few, length-with_sign, ringed-more}
use Rattle.walk_engine.proofs.walk_parts.walk_line.WalkLine.push.Goals as goal

pub nonzero_rem-slot : goal.nonzero_rem-slot
nonzero_rem-slot c =
    let count : c.len-size.result ≡ length c.self.inside.signs.items = search (rules, c.len-size.ensures) in
    omega (arith, count, c.self.invariant.some)

pub nonzero_rem-self-inside : goal.nonzero_rem-self-inside
nonzero_rem-self-inside c =
    let count : c.len-size.result ≡ length c.self.inside.signs.items = search (rules, c.len-size.ensures) in
    omega (arith, count, c.self.invariant.some)

pub exchange-requires : goal.exchange-requires
exchange-requires c =
    let count : c.len-size.result ≡ length c.self.inside.signs.items = search (rules, c.len-size.ensures) in
    let boxes = length-map c.self.inside.places.items (λ (b : Box Container). b.value) in
    record {
      first = omega (arith, count, boxes, c.self.invariant.some, c.self.invariant.beside);
      second = omega (arith, count, boxes, c.self.invariant.some, c.self.invariant.beside);
    }

pub index_mut-requires : goal.index_mut-requires
index_mut-requires c =
    let count : c.len-size.result ≡ length c.self.inside.signs.items = search (rules, c.len-size.ensures) in
    let boxes = length-map c.self.inside.places.items (λ (b : Box Container). b.value) in
    let within : c.self.inside.given % c.len-size.result < length c.exchange.new.places.items =
    omega (arith, count, boxes, c.exchange.ensures.size, c.self.invariant.some, c.self.invariant.beside) in
    search (rules, within)

pub push-carry-requires : goal.push-carry-requires
push-carry-requires c =
    subst (λ (line : Ringed). line.core.pushed < line.core.total) (sym c.self.view_is) c.requires.left

pub overflow_add-self : goal.overflow_add-self
overflow_add-self c =
    let is = c.self.invariant in
    omega (arith, is.carries, is.pushes, is.flushes, is.total, is.delay)

pub keep-requires : goal.keep-requires
keep-requires c =
    let count : c.len-size.result ≡ length c.self.inside.signs.items = search (rules, c.len-size.ensures) in
    omega (arith, count, c.self.invariant.some)

pub overflow_add-self-2 : goal.overflow_add-self-2
overflow_add-self-2 c =
    let is = c.self.invariant in
    let few = count-few c.push-carry.result in
    omega (arith, few, c.keep.ensures.count, is.gives, is.carries, is.pushes, is.flushes, is.total, is.delay)

pub invariant_of-self : goal.invariant_of-self
invariant_of-self c =
    let is = c.self.invariant in
    let left = subst (λ (line : Ringed). line.core.pushed < line.core.total) (sym c.self.view_is) c.requires.left in
    let room = subst (λ (line : Ringed). line.given < line.popped + length line.signs) (sym c.self.view_is)
    c.requires.room in
    let counts = c.push-carry.ensures.counts in
    ringed-more _ _ c.push-carry.result _ 1 0 _ _ _ is counts refl
    (omega (arith, left, counts.pushed, counts.total)) (omega (arith, is.flushes, counts.flushed, counts.delay)) room
    c.keep.ensures.signs
    (length-map _ (λ (b : Box Container). b.value)
    ∙ length-set c.exchange.new.places.items (c.self.inside.given % c.len-size.result) c.push-carry.new.out
    ∙ c.exchange.ensures.size ∙ sym (length-map c.self.inside.places.items (λ (b : Box Container). b.value)))
    c.keep.ensures.count

pub returns-clause-ring : goal.returns-clause-ring
returns-clause-ring c =
    ap length c.keep.ensures.signs ∙ length-with_sign c.push-carry.result _ c.self.inside.signs.items
    ∙ ap (λ (line : Ringed). length line.signs) c.self.view_is

pub returns-clause-carried : goal.returns-clause-carried
returns-clause-carried c = ap (λ (line : Ringed). line.carried + 1) c.self.view_is

pub returns-clause-popped : goal.returns-clause-popped
returns-clause-popped c = ap (λ (line : Ringed). line.popped) c.self.view_is

pub returns-clause-has : goal.returns-clause-has
returns-clause-has c calls has =
    let own = subst (λ line. Has line calls) (sym c.self.view_is) has in
    let is = c.self.invariant in
    let room = c.requires.room in
    let given = ap (λ (line : Ringed). line.given) c.self.view_is in
    let popped = ap (λ (line : Ringed). line.popped) c.self.view_is in
    let size = ap (λ (line : Ringed). length line.signs) c.self.view_is in
    let grown = length-append calls.containers (c.args.container.now.value ∷ []) in
    let count : c.len-size.result ≡ length c.self.inside.signs.items = search (rules, c.len-size.ensures) in
    let few : c.self.inside.given < c.self.inside.popped + length c.self.inside.signs.items =
    omega (arith, room, given, popped, size) in
    let same = length-map c.exchange.new.places.items (λ (b : Box Container). b.value) ∙ c.exchange.ensures.size
    ∙ sym (length-map c.self.inside.places.items (λ (b : Box Container). b.value)) in
    let changed = has-changed _ calls (held c.exchange.new.places.items) own is.some is.pops few
    (λ k apart free. slice_get-map (λ (b : Box Container). b.value) c.exchange.new.places.items k
    ∙ ap (option_map (λ (b : Box Container). b.value))
    (c.exchange.ensures.others k (λ e. apart (e ∙ ap (λ n. c.self.inside.given % n) count))
    (λ e. free (e ∙ ap (λ n. (c.self.inside.popped + n - 1) % n) count)))
    ∙ sym (slice_get-map (λ (b : Box Container). b.value) c.self.inside.places.items k)) in
    has-more _ _ calls (and_push calls c.args.container.now.value) c.push-carry.result
    c.push-carry.new.out.value _ _ _ changed is.some (same ∙ is.beside)
    few (c.push-carry.ensures.stands calls own.core) (omega (arith, grown))
    (c.push-carry.ensures.cells calls own.core)
    (c.keep.ensures.signs ∙ ap (λ n. with_sign c.push-carry.result
    (c.self.inside.given % n) c.self.inside.signs.items) count)
    (map-set (λ (b : Box Container). b.value) c.exchange.new.places.items (c.self.inside.given % c.len-size.result)
    c.push-carry.new.out
    ∙ ap (λ n. slice_set (held c.exchange.new.places.items) (c.self.inside.given % n) c.push-carry.new.out.value)
    count)
    c.keep.ensures.count
