-- A tick keeps what is true of the fields, makes the frame of the scenario, and leads to the next one.
use Rattle.std.proofs.Common.{rules, ◌≡◌, ℕ, ◌+◌, ◌*◌, List, take, drop, length, sym, ◌∙◌, ap, subst, arith}
use Rattle.std.specs.Prelude.{◌↔◌, IsSome}
use Rattle.std.specs.Vec.{with_items}
use Rattle.std.specs.Global.{Box}
use Rattle.std.proofs.lemmas.List.{with_items_is, length-map}
use Rattle.law_model.specs.Common.{Container, stream_of, reached, place_of, payload_of, frame_of, passed_on}
use Rattle.gfp_fill.specs.FilledStream.{FillerStands as HasWritten}
use Rattle.member_cells.specs.HeldPlaces.{held}
use Rattle.member_rows.specs.vcat_interleave.Spread.{Spreads}
use Rattle.terminal_source.specs.source_core.FrameContainers.{AreBegun}
use Rattle.terminal_source.specs.source_core.StepOfTerminal.{is_step, nibbles_by, AreMembers}
use Rattle.terminal_source.specs.source_core.Terminal.{Terminal, needed}
use Rattle.terminal_source.specs.source_core.GivenScenario.{with_cell, stream_now, SourceStands}
use Rattle.terminal_source.proofs.SourceTerminalScenarioLaws.{next-members, nibbles_by-length, IsTerminal-ticked}
use Rattle.terminal_source.proofs.SourceTerminalScenarioLaws.{frame-fits}
use Rattle.terminal_source.proofs.DealtFrameContainerLaws.{sent-frame}
use Rattle.terminal_source.proofs.TerminalTickSteps.{is-due, next-fields, Stands-ticked, row-ticked, frame-ticked}
use Rattle.terminal_source.proofs.source_core.source_terminal.SourceCore.tick.Goals as goal

pub begin_all-requires-clause-members : goal.begin_all-requires-clause-members
begin_all-requires-clause-members c =
    let f = c.self.inside in
    let lines = ap (λ (t : Terminal). t.lines) c.self.view_is ∙ sym c.requires.places in
    rw c.deref-2.ensures.0 (subst (λ n. AreMembers n c.take_step.new.active.items) lines
    (next-members f.lag f.size f.ticks f.queue f.filler f.table f.active.items c.take_step.new.active.items
    f.nibbles.items (passed_on f.told) (length f.row.items) c.take_step.ensures.active c.self.invariant))

pub fill_all-requires-clause-members : goal.fill_all-requires-clause-members
fill_all-requires-clause-members c =
    let f = c.self.inside in
    let lines = ap (λ (t : Terminal). t.lines) c.self.view_is ∙ sym c.requires.places ∙ sym c.begin_all.auto.out in
    rw c.deref-3.ensures.0 (subst (λ n. AreMembers n c.take_step.new.active.items) lines
    (next-members f.lag f.size f.ticks f.queue f.filler f.table f.active.items c.take_step.new.active.items
    f.nibbles.items (passed_on f.told) (length f.row.items) c.take_step.ensures.active c.self.invariant))

pub fill_all-requires-clause-room : goal.fill_all-requires-clause-room
fill_all-requires-clause-room c =
    let f = c.self.inside in
    let next = c.take_step.new.active.items in
    let many = ap length c.deref-3.ensures.0 in
    let fits = frame-fits f.size f.table.lines (length f.row.items) c.from-size.result
    (length c.deref-3.result.now) next c.self.invariant.room
    (next-members f.lag f.size f.ticks f.queue f.filler f.table f.active.items c.take_step.new.active.items
    f.nibbles.items (passed_on f.told) (length f.row.items) c.take_step.ensures.active c.self.invariant)
    c.from-size.ensures many in
    let same = ap length c.deref_mut-2.ensures.value in
    omega arith

pub returns : goal.returns
returns c =
    let f = c.self.inside in
    let next = c.take_step.new in
    let members = next.active.items in
    let back = subst (λ (t : Terminal). IsSome c.args.back ↔ IsSome (needed t)) (sym c.self.view_is) c.requires.back in
    let due = is-due f.lag f.ticks c.args.back back in
    let are_said = c.take_step.ensures.nibbles
    ∙ ap (nibbles_by (is_step f.ticks) next.table (passed_on f.told)) c.deref_mut.ensures.value in
    let many = ap length are_said ∙ nibbles_by-length (is_step f.ticks) next.table (passed_on f.told) f.nibbles.items in
    let is_said : (with_items f.nibbles next.nibbles).items ≡ next.nibbles =
    with_items_is f.nibbles next.nibbles (omega (arith, f.nibbles.ok.0, many)) in
    record {
      stands = λ scenario cells stands.
          let before = subst (λ core. SourceStands core scenario cells) (sym c.self.view_is) stands in
          let fields = next-fields f.lag f.size f.ticks f.queue f.filler f.table next.table f.active.items members
          f.nibbles.items next.nibbles (passed_on f.told) (passed_on next.told) c.args.back scenario cells
          c.take_step.ensures.table c.take_step.ensures.active are_said c.take_step.ensures.told due before in
          let len : c.from-size.result * length c.deref-3.result.now ≡ f.size * length members =
          ap (λ n. n * length c.deref-3.result.now) c.from-size.ensures
          ∙ ap (λ lines. f.size * length lines) c.deref-3.ensures.0 in
          rw is_said
          (Stands-ticked f.lag f.size f.ticks f.queue c.fill_all.new.queue f.filler c.fill_all.new.filler f.table next.table
          f.active.items members f.nibbles.items next.nibbles (passed_on f.told) (passed_on next.told)
          c.args.back scenario cells fields due
          (λ stream place written. subst (λ n. HasWritten c.fill_all.new.filler c.fill_all.new.queue
          (reached (place + n) stream) (place + n)) len (c.fill_all.ensures.stands stream place written)) before);
      frame = λ scenario cells stands.
          let more = with_cell cells c.args.back in
          let size = c.from-size.result in
          let lines = length c.args.out.now in
          let before = subst (λ core. SourceStands core scenario cells) (sym c.self.view_is) stands in
          let fields = next-fields f.lag f.size f.ticks f.queue f.filler f.table next.table f.active.items members
          f.nibbles.items next.nibbles (passed_on f.told) (passed_on next.told) c.args.back scenario cells
          c.take_step.ensures.table c.take_step.ensures.active are_said c.take_step.ensures.told due before in
          let stream = stream_now scenario cells f.ticks in
          let place = place_of scenario cells f.ticks in
          let next_octets : ℕ → List ℕ = λ n. take n (drop place (stream_of (reached (place + n) stream).pieces)) in
          let row : List ℕ = next_octets (size * length members) in
          let begun = subst (λ nibbles. AreBegun f.ticks nibbles members size lines (held c.begin_all.new.out))
          (c.deref.ensures.value ∙ is_said)
          (subst (λ lines_now. AreBegun f.ticks c.deref.result.now lines_now size lines (held c.begin_all.new.out))
          c.deref-2.ensures.0 c.begin_all.ensures) in
          let spreads = subst (λ lines_now. Spreads 0 size (next_octets (size * length lines_now)) lines_now
          (held c.begin_all.new.out) (held c.fill_all.new.out)) c.deref-3.ensures.0
          (c.fill_all.ensures.spreads stream place before.stream) in
          let octets : row ≡ payload_of scenario more f.ticks =
          ap (λ n. next_octets (n * length members)) c.from-size.ensures
          ∙ row-ticked f.size f.ticks members c.args.back scenario cells before.told before.size fields.members_are in
          let are_lines = c.requires.places ∙ sym (ap (λ (t : Terminal). t.lines) c.self.view_is) ∙ before.lines in
          subst (λ (t : Terminal). held c.fill_all.new.out ≡ frame_of scenario more t.ticks) c.self.view_is
          (sent-frame lines f.ticks next.nibbles members size row (held c.begin_all.new.out)
          (held c.fill_all.new.out) begun spreads
          (length-map c.begin_all.new.out (λ (b : Box Container). b.value) ∙ c.begin_all.auto.out)
          ∙ frame-ticked size f.ticks next.table members next.nibbles (passed_on next.told) row lines scenario more fields
          (c.from-size.ensures ∙ before.size) octets are_lines);
      ticks = search rules;
      kind = search rules;
    }

pub invariant_of-self : goal.invariant_of-self
invariant_of-self c =
    let f = c.self.inside in
    let said = c.take_step.new.nibbles in
    let are_said = c.take_step.ensures.nibbles
    ∙ ap (nibbles_by (is_step f.ticks) c.take_step.new.table (passed_on f.told)) c.deref_mut.ensures.value in
    let many = ap length are_said
    ∙ nibbles_by-length (is_step f.ticks) c.take_step.new.table (passed_on f.told) f.nibbles.items in
    let is_said : (with_items f.nibbles said).items ≡ said =
    with_items_is f.nibbles said (omega (arith, f.nibbles.ok.0, many)) in
    let same = ap length c.deref_mut-2.ensures.value in
    let long = c.fill_all.auto.row in
    let is_row : (with_items f.row c.fill_all.new.row).items ≡ c.fill_all.new.row =
    with_items_is f.row c.fill_all.new.row (omega (arith, f.row.ok.0, same, long)) in
    let octets : length f.row.items ≡ length c.fill_all.new.row = omega (arith, same, long) in
    let next = c.take_step.new in
    rw (is_said, is_row, ← octets)
    (IsTerminal-ticked f.lag f.size f.ticks f.queue c.fill_all.new.queue f.filler c.fill_all.new.filler f.table
    next.table f.active.items next.active.items f.nibbles.items said (passed_on f.told) (passed_on next.told)
    (length f.row.items) c.args.back
    c.take_step.ensures.table c.take_step.ensures.active are_said c.take_step.ensures.below c.self.invariant)
