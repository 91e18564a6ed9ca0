-- All lines have passed a number, and where a packet ends with it, it was read.
use Rattle.std.proofs.Common.{◌≡◌, ◌+◌, ◌%◌, length, sym, ◌∙◌, ap, subst, arith}
use Rattle.std.specs.Vec.{with_items}
use Rattle.std.specs.Global.{Box}
use Rattle.std.proofs.lemmas.List.{with_items_is, length-map}
use Rattle.law_model.specs.Common.{Container}
use Rattle.member_cells.specs.HeldPlaces.{held}
use Rattle.member_rows.specs.realign_rows.Gather.{GatherStands}
use Rattle.member_rows.specs.realign_rows.LineByLine.{ArePassed, AreRead}
use Rattle.member_rows.proofs.RowGatherLinesLaws.{passed_stands, read_stands}
use Rattle.member_rows.proofs.realign_rows.row_gather.RowGather.advance.Goals as goal
use Rattle.member_rows.proofs.realign_rows.row_gather.RowGather.advance.Goals.{then-j, else-j}

pub returns-clause-stands : goal.returns-clause-stands
returns-clause-stands c cells stands =
    let inside = c.self.inside in
    let old = inside.lines.items in
    let boxes = inside.places.items in
    let places = held boxes in
    let next = c.pass_all.new.lines in
    let j = (inside.rows % 16 + 8) % 16 in
    let number : j ≡ (inside.rows + 8) % 16 = omega arith in
    let before = subst (λ v. GatherStands v cells) (sym c.self.view_is) stands in
    let sizes = length-map boxes (λ (b : Box Container). b.value) ∙ c.self.invariant.1 in
    let passed : ArePassed (length old) j places old next =
    subst (λ xs. ArePassed (length xs) j places xs next) c.deref_mut.ensures.value
    (subst (λ ps. ArePassed (length c.deref_mut.result.now) j (held ps) c.deref_mut.result.now next)
    c.deref.ensures.value c.pass_all.ensures.passed) in
    let size : length next ≡ inside.lines.len = omega (arith, passed.size, inside.lines.ok.0) in
    let is_next : (with_items inside.lines next).items ≡ next = with_items_is inside.lines next size in
    elim c.if-j.branch [
      | then-j w ↦
          let now = w.self-inside-is in
          let packets = w.read_all.new.packets in
          let read : AreRead (length next) next packets =
          subst (λ xs. AreRead (length xs) xs packets) (w.deref-then-j.ensures.value ∙ is_next) w.read_all.ensures.read
          in
          let is_read : (with_items inside.packets packets).items ≡ packets =
          with_items_is inside.packets packets
          (omega (arith, read.size, passed.size, c.self.invariant.2, inside.packets.ok.0)) in
          rw (
            ap (λ s. s.lines.items) now ∙ is_next,
            ap (λ s. held s.places.items) now,
            ap (λ s. s.packets.items) now
                ∙ is_read,
            ap (λ s. s.rows) now,
          )
          (read_stands old next places inside.packets.items packets inside.rows j cells sizes passed number w.if-j.true
          read before)
      | else-j w ↦
          let now = w.self-inside-is in
          rw (
            ap (λ s. s.lines.items) now ∙ is_next,
            ap (λ s. held s.places.items) now,
            ap (λ s. s.packets.items) now,
            ap (λ s. s.rows) now,
          )
          (passed_stands old next places inside.packets.items inside.rows j cells sizes passed number w.if-j.false
          before)
    ]
