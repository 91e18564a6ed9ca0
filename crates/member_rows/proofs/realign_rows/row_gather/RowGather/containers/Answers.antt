-- The container of a line whose next number is whole lies in its place.
use Rattle.std.proofs.Common.{◌≡◌, slice_get, Some, sym, ◌∙◌, ap, subst}
use Rattle.std.specs.Global.{Box}
use Rattle.std.proofs.lemmas.List.{length-map}
use Rattle.law_model.specs.Common.{Container, verdict}
use Rattle.member_cells.specs.HeldPlaces.{held}
use Rattle.member_rows.specs.realign_rows.Gather.{Gather, GatherStands}
use Rattle.member_rows.proofs.RowGatherLinesLaws.{whole_container}
use Rattle.member_rows.proofs.realign_rows.row_gather.RowGather.containers.Goals as goal

pub returns-clause-whole : goal.returns-clause-whole
returns-clause-whole c cells m own container stands told is =
    let inside = c.self.inside in
    let old : Gather = record {
      lines = inside.lines.items;
      places = held inside.places.items;
      packets =
          inside.packets.items;
      rows = inside.rows;
    } in
    let before : GatherStands old cells = subst (λ v. GatherStands v cells) (sym c.self.view_is) stands in
    let is' = subst (λ rows. verdict own rows ≡ Some (Some container)) (sym (ap (λ v. v.rows) c.self.view_is)) is in
    ap (λ boxes. slice_get (held boxes) m) c.deref.ensures.value
    ∙ whole_container old cells m own container
    (length-map inside.places.items (λ (b : Box Container). b.value) ∙ c.self.invariant.1) before told is'
