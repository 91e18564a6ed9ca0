-- Each cell leaves the line open, up to the last one.
use Rattle.std.proofs.Common.{rules, ◌≡◌, ◌+◌, ◌-◌, ◌%◌, ◌<◌, true, false, List, [], ◌∷◌, length, take, slice_set, refl, sym, ◌∙◌, ap}
use Rattle.std.proofs.Common.{subst, arith, length-set}
use Rattle.std.specs.Global.{Box}
use Rattle.std.proofs.lemmas.List.{length-map, map-set}
use Rattle.law_model.specs.Common.{Container, Cell, verdict}
use Rattle.std.proofs.lemmas.Option.{slice_get_within}
use Rattle.law_model.proofs.ListLaws.{take-one}
use Rattle.circular_buffer.proofs.Places.{slice_get-some}
use Rattle.member_cells.specs.HeldPlaces.{held}
use Rattle.member_path.specs.path_delay.CallsOnDelayedLine.{path_cells}
use Rattle.member_path.specs.cell_numbers.SignsAsCells.{cell_with}
use Rattle.member_rows.specs.realign_rows.Gather.{GatherStands as Gathers, with_cell}
use Rattle.walk_engine.specs.Common.{Ringed, Has, popped_until, leaves_open}
use Rattle.walk_engine.specs.walk_parts.Ringed.{IsRinged}
use Rattle.walk_engine.proofs.ReceiveRingAndPopLaws.{cell-read, has-popped, ringed-popped}
use Rattle.walk_engine.proofs.ReceiveRingAndPopLaws.{waits-is, with-set, set-same, until-shut, until-none, until-next}
use Rattle.walk_engine.proofs.ReceiveRingAndPopLaws.{none-some}
use Rattle.walk_engine.proofs.walk_parts.walk_line.WalkLine.pop_into.Goals as goal

pub loop-self-init : goal.loop-self-init
loop-self-init c =
    let is = c.self.invariant in
    let popped = ap (λ (line : Ringed). line.popped) c.self.view_is in
    let given = ap (λ (line : Ringed). line.given) c.self.view_is in
    let pops = is.pops in
    record {
      core = ap (λ (line : Ringed). line.core) c.self.view_is;
      signs = ap (λ (line : Ringed). line.signs) c.self.view_is;
      size = sym (length-map c.self.inside.places.items (λ (b : Box Container). b.value))
          ∙ ap (λ (line : Ringed). length line.places) c.self.view_is;
      carried = ap (λ (line : Ringed). line.carried) c.self.view_is;
      given = given;
      more = omega (arith, popped);
      pops = omega (arith, pops, given);
      lines = refl;
      rows = refl;
      has = λ calls has. subst (λ (line : Ringed). Has line calls) (sym c.self.view_is) has;
      gathers = λ calls cells next.
          subst (Gathers c.args.rows.now)
          (sym (ap (λ y. slice_set cells c.args.line (take y (path_cells calls))) popped
          ∙ set-same cells c.args.line _ next.own)) next.gathers;
      until = λ calls cells next.
          ap (λ y. popped_until (c.args.self.now.given - y) (λ y. leaves_open (path_cells calls) c.args.rows.now.rows y)
          y) popped;
    }

pub returns-then-not-waits_for-clause-popped : goal.returns-then-not-waits_for-clause-popped
returns-then-not-waits_for-clause-popped c calls cells next =
    let inv = c.loop-self.invariant in
    let shut : c.waits_for.result ≡ false = search (rules, c.if-not-waits_for.true) in
    let own : List Cell = take c.loop-self.self-inside.popped (path_cells calls) in
    let at = waits-is cells c.args.line _ c.args.rows.now.rows c.waits_for.result _ own inv.rows
    (c.waits_for.ensures.waits _ (inv.gathers calls cells next)) next.own next.before in
    sym (until-shut (c.args.self.now.given - c.loop-self.self-inside.popped)
    (λ y. leaves_open (path_cells calls) c.args.rows.now.rows y) c.loop-self.self-inside.popped (sym at ∙ shut))
    ∙ inv.until calls cells next

pub returns-then-not-waits_for-clause-decides : goal.returns-then-not-waits_for-clause-decides
returns-then-not-waits_for-clause-decides c calls cells next =
    let inv = c.loop-self.invariant in
    let shut : c.waits_for.result ≡ false = search (rules, c.if-not-waits_for.true) in
    let own : List Cell = take c.loop-self.self-inside.popped (path_cells calls) in
    let at = waits-is cells c.args.line _ c.args.rows.now.rows c.waits_for.result _ own inv.rows
    (c.waits_for.ensures.waits _ (inv.gathers calls cells next)) next.own next.before in
    none-some (verdict own c.args.rows.now.rows) false (sym shut ∙ at)

pub loop-self-preserved : goal.loop-self-preserved
loop-self-preserved c =
    let inv = c.loop-self.invariant in
    let given = inv.given in
    let more = inv.more in
    let size = inv.size in
    let test = c.loop-self-test.true in
    let known = c.self.invariant in
    let boxes = c.loop-self.self-inside.places.items in
    let y = c.loop-self.self-inside.popped in
    let signs = ap length inv.signs ∙ sym (ap (λ (line : Ringed). length line.signs) c.self.view_is) in
    let places = size ∙ sym (ap (λ (line : Ringed). length line.places) c.self.view_is) in
    let some = known.some in
    let beside = known.beside in
    let room = known.room in
    let was = ap (λ (line : Ringed). line.popped) c.self.view_is in
    let is = ap (λ (line : Ringed). line.given) c.self.view_is in
    let count : c.len.result ≡ length c.loop-self.self-inside.signs.items = search (rules, c.len.ensures) in
    record {
      core = inv.core;
      signs = inv.signs;
      size = length-set boxes (y % c.len.result) c.offer.new.container ∙ size;
      carried = inv.carried;
      given = inv.given;
      more = omega (arith, more);
      pops = omega (arith, given, test);
      lines = c.offer.ensures.lines ∙ inv.lines;
      rows = c.offer.ensures.rows ∙ inv.rows;
      has = λ calls has.
          let put = map-set (λ (b : Box Container). b.value) boxes (y % c.len.result) c.offer.new.container
          ∙ ap (λ n. slice_set (held boxes) (y % n) c.offer.new.container.value) count in
          let before = inv.has calls has in
          let inside = c.loop-self.self-inside in
          subst (λ p. Has (record {
            core = inside.core;
            signs = inside.signs.items;
            places = p;
            carried =
                inside.carried;
            given = inside.given;
            popped = y + 1;
          }) calls) (sym put)
          (has-popped _ calls c.offer.new.container.value before test
          (omega (arith, given, more, signs, room, was, is)));
      gathers = λ calls cells next.
          let path : List Cell = path_cells calls in
          let before = inv.has calls next.has in
          let count_given = before.given in
          let (cell, there) = slice_get-some path y (omega (arith, count_given, test)) in
          let read = cell-read c.loop-self.self-inside.signs.items boxes y c.len.result c.index.result.now
          c.index_mut.result.now
          (omega (arith, signs, some)) (omega (arith, signs, places, beside)) count c.index.ensures
          c.index_mut.ensures.value in
          let one : cell_with c.index.result.now c.index_mut.result.now.value ∷ [] ≡ cell ∷ [] =
          sym read ∙ before.holds y cell (omega arith) test there in
          let is : cell_with c.index.result.now c.index_mut.result.now.value ≡ cell = cc in
          let low = slice_get_within cells c.args.line _ next.own in
          subst (Gathers c.offer.new.self)
          (ap (λ x. with_cell (slice_set cells c.args.line (take y path)) c.args.line x) is
          ∙ with-set cells c.args.line (take y path) cell low
          ∙ ap (slice_set cells c.args.line) (sym (take-one path y cell there)))
          (c.offer.ensures.stands _ (inv.gathers calls cells next));
      until = λ calls cells next.
          let open' : c.waits_for.result ≡ true = search (rules, c.if-not-waits_for.false) in
          let own : List Cell = take c.loop-self.self-inside.popped (path_cells calls) in
          let at = waits-is cells c.args.line _ c.args.rows.now.rows c.waits_for.result _ own inv.rows
          (c.waits_for.ensures.waits _ (inv.gathers calls cells next)) next.own next.before in
          until-next c.args.self.now.given (λ y. leaves_open (path_cells calls) c.args.rows.now.rows y)
          c.loop-self.self-inside.popped (omega (arith, given, test)) (sym at ∙ open')
          ∙ inv.until calls cells next;
    }

pub returns-clause-popped : goal.returns-clause-popped
returns-clause-popped c calls cells next =
    let inv = c.loop-self.invariant in
    let given = inv.given in
    let test = c.loop-self-test.false in
    sym (until-none c.args.self.now.given (λ y. leaves_open (path_cells calls) c.args.rows.now.rows y)
    c.loop-self.self-inside.popped (omega (arith, given, test)))
    ∙ inv.until calls cells next

pub returns-clause-decides : goal.returns-clause-decides
returns-clause-decides c calls cells next =
    let inv = c.loop-self.invariant in
    let own : List Cell = take c.loop-self.self-inside.popped (path_cells calls) in
    none-some (verdict own c.args.rows.now.rows) c.waits_for-2.result
    (waits-is cells c.args.line _ c.args.rows.now.rows c.waits_for-2.result _ own inv.rows
    (c.waits_for-2.ensures.waits _ (inv.gathers calls cells next)) next.own next.before)

pub invariant_of-self : goal.invariant_of-self
invariant_of-self c =
    let inv = c.loop-self.invariant in
    ringed-popped _ _ (subst IsRinged c.self.view_is c.self.invariant) (record {
      core = inv.core;
      signs = inv.signs;
      size = length-map c.loop-self.self-inside.places.items (λ (b : Box Container). b.value) ∙ inv.size;
      carried = inv.carried;
      given = inv.given;
    }) inv.more inv.pops

pub invariant_of-self-then-not-waits_for : goal.invariant_of-self-then-not-waits_for
invariant_of-self-then-not-waits_for c =
    let inv = c.loop-self.invariant in
    ringed-popped _ _ (subst IsRinged c.self.view_is c.self.invariant) (record {
      core = inv.core;
      signs = inv.signs;
      size = length-map c.loop-self.self-inside.places.items (λ (b : Box Container). b.value) ∙ inv.size;
      carried = inv.carried;
      given = inv.given;
    }) inv.more inv.pops

pub nonzero_rem-slot : goal.nonzero_rem-slot
nonzero_rem-slot c =
    let count : c.len.result ≡ length c.loop-self.self-inside.signs.items = search (rules, c.len.ensures) in
    let signs = ap length c.loop-self.invariant.signs
    ∙ sym (ap (λ (line : Ringed). length line.signs) c.self.view_is) in
    omega (arith, count, signs, c.self.invariant.some)

pub index-requires : goal.index-requires
index-requires c =
    let count : c.len.result ≡ length c.loop-self.self-inside.signs.items = search (rules, c.len.ensures) in
    let signs = ap length c.loop-self.invariant.signs
    ∙ sym (ap (λ (line : Ringed). length line.signs) c.self.view_is) in
    let within : c.loop-self.self-inside.popped % c.len.result < length c.loop-self.self-inside.signs.items =
    omega (arith, count, signs, c.self.invariant.some) in
    search (rules, within)

pub index_mut-requires : goal.index_mut-requires
index_mut-requires c =
    let count : c.len.result ≡ length c.loop-self.self-inside.signs.items = search (rules, c.len.ensures) in
    let signs = ap length c.loop-self.invariant.signs
    ∙ sym (ap (λ (line : Ringed). length line.signs) c.self.view_is) in
    let places = c.loop-self.invariant.size ∙ sym (ap (λ (line : Ringed). length line.places) c.self.view_is) in
    let within : c.loop-self.self-inside.popped % c.len.result < length c.loop-self.self-inside.places.items =
    omega (arith, count, signs, places, c.self.invariant.some, c.self.invariant.beside) in
    search (rules, within)

pub offer-requires : goal.offer-requires
offer-requires c =
    let allows = c.waits_for.ensures.allows (search (rules, c.if-not-waits_for.false)) in
    record { line = allows.0; «open» = allows.1 }

pub returns-then-not-waits_for-clause-has : goal.returns-then-not-waits_for-clause-has
returns-then-not-waits_for-clause-has c = c.loop-self.invariant.has

pub returns-then-not-waits_for-clause-gathers : goal.returns-then-not-waits_for-clause-gathers
returns-then-not-waits_for-clause-gathers c = c.loop-self.invariant.gathers

pub returns-then-not-waits_for-clause-others : goal.returns-then-not-waits_for-clause-others
returns-then-not-waits_for-clause-others c =
    let inv = c.loop-self.invariant in
    record {
      core = inv.core;
      signs = inv.signs;
      size = length-map c.loop-self.self-inside.places.items (λ (b : Box Container). b.value) ∙ inv.size;
      carried = inv.carried;
      given = inv.given;
    }

pub returns-clause-has : goal.returns-clause-has
returns-clause-has c = c.loop-self.invariant.has

pub returns-clause-gathers : goal.returns-clause-gathers
returns-clause-gathers c = c.loop-self.invariant.gathers

pub returns-clause-others : goal.returns-clause-others
returns-clause-others c =
    let inv = c.loop-self.invariant in
    record {
      core = inv.core;
      signs = inv.signs;
      size = length-map c.loop-self.self-inside.places.items (λ (b : Box Container). b.value) ∙ inv.size;
      carried = inv.carried;
      given = inv.given;
    }
