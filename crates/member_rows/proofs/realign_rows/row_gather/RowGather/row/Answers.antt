-- The first line that is not decided, or none.
use Rattle.std.proofs.Common.{◌≡◌, ◌<◌, length, slice_get, Some, None, sym, ◌∙◌, ap, subst, arith}
use Rattle.std.specs.Global.{Box}
use Rattle.std.proofs.lemmas.List.{length-map}
use Rattle.law_model.specs.Common.{Container, first_open}
use Rattle.member_cells.specs.HeldPlaces.{held}
use Rattle.member_path.proofs.LineNumbersAfterCellLaws.{test-open}
use Rattle.member_rows.specs.realign_rows.Gather.{Gather, GatherStands, line_count, IsOpenAt, AreDecided}
use Rattle.member_rows.specs.realign_rows.Gather.{decided_lines}
use Rattle.member_rows.proofs.RowGatherLinesLaws.{decided-most, decided-here, row_waiting, row_decided}
use Rattle.member_rows.proofs.realign_rows.row_gather.RowGather.row.Goals as goal

pub returns-then-self-len-clause-answer : goal.returns-then-self-len-clause-answer
returns-then-self-len-clause-answer c cells stands =
    let inside = c.self.inside in
    let old : Gather = record {
      lines = inside.lines.items;
      places = held inside.places.items;
      packets =
          inside.packets.items;
      rows = inside.rows;
    } in
    let before : GatherStands old cells = subst (λ v. GatherStands v cells) (sym c.self.view_is) stands in
    let decided = c.self.invariant.3 in
    let low : decided_lines inside.lines.items < length inside.lines.items =
    omega (arith, c.if-self-len.true, c.len.ensures, inside.lines.ok.0) in
    sym (subst (λ rows. first_open cells rows ≡ Some inside.decided) (ap (λ v. v.rows) c.self.view_is)
    (row_waiting old cells (length-map inside.places.items (λ (b : Box Container). b.value) ∙ c.self.invariant.1) before
    low ∙ ap Some (sym decided)))

pub returns-then-self-len-clause-allows : goal.returns-then-self-len-clause-allows
returns-then-self-len-clause-allows c =
    let inside = c.self.inside in
    let decided = c.self.invariant.3 in
    let low : inside.decided < length inside.lines.items =
    omega (arith, c.if-self-len.true, c.len.ensures, inside.lines.ok.0) in
    subst (λ v. (inside.decided < line_count v) × IsOpenAt v inside.decided) c.self.view_is (
      low,
      λ line here. test-open line.numbers
          (decided-here inside.lines.items line (subst (λ m. slice_get inside.lines.items m ≡ Some line) decided here)),
    )

pub returns-else-self-len-clause-answer : goal.returns-else-self-len-clause-answer
returns-else-self-len-clause-answer c cells stands =
    let inside = c.self.inside in
    let old : Gather = record {
      lines = inside.lines.items;
      places = held inside.places.items;
      packets =
          inside.packets.items;
      rows = inside.rows;
    } in
    let before : GatherStands old cells = subst (λ v. GatherStands v cells) (sym c.self.view_is) stands in
    let decided = c.self.invariant.3 in
    let most = decided-most inside.lines.items in
    let all : decided_lines inside.lines.items ≡ length inside.lines.items =
    omega (arith, c.if-self-len.false, c.len.ensures, inside.lines.ok.0) in
    sym (subst (λ rows. first_open cells rows ≡ None) (ap (λ v. v.rows) c.self.view_is)
    (row_decided old cells (length-map inside.places.items (λ (b : Box Container). b.value) ∙ c.self.invariant.1)
    before all))

pub returns-else-self-len-clause-allows : goal.returns-else-self-len-clause-allows
returns-else-self-len-clause-allows c =
    let inside = c.self.inside in
    let decided = c.self.invariant.3 in
    let most = decided-most inside.lines.items in
    let all : decided_lines inside.lines.items ≡ length inside.lines.items =
    omega (arith, c.if-self-len.false, c.len.ensures, inside.lines.ok.0) in
    subst AreDecided c.self.view_is all
