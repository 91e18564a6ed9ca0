-- A frame was made, and pushed.
use Rattle.std.proofs.Common.{◌∙◌, length, sym, refl, subst, arith}
use Rattle.std.specs.Global.{Box}
use Rattle.std.proofs.lemmas.List.{length-map}
use Rattle.law_model.specs.Common.{Container}
use Rattle.member_cells.specs.HeldPlaces.{held}
use Rattle.terminal_source.specs.source_core.GivenScenario.{SourceStands as HasMade}
use Rattle.terminal_group.proofs.InboxReturnCellLaws.{cell-there}
use Rattle.thread_group.specs.GroupParts.{parts, Keeps}
use Rattle.thread_group.proofs.GroupPartsAfterStepLaws.{made-by, keeps-made, pushed-made, own-pushed, same-ends}
use Rattle.thread_group.proofs.GroupPartsAfterStepLaws.{told-made}
use Rattle.thread_group.proofs.group_state.GroupState.make_frame.Goals as goal

pub make-taken-requires-clause-places : goal.make-taken-requires-clause-places
make-taken-requires-clause-places c = c.args.self.now.keeps.places

pub make-taken-requires-clause-left : goal.make-taken-requires-clause-left
make-taken-requires-clause-left c = c.requires.free.left

pub push_frame-requires-clause-places : goal.push_frame-requires-clause-places
push_frame-requires-clause-places c =
    let same = c.make-taken.ensures.places in
    let places = c.args.self.now.keeps.places in
    let rings = c.args.self.now.keeps.rings in
    omega arith

pub push_frame-requires-clause-free : goal.push_frame-requires-clause-free
push_frame-requires-clause-free c = c.requires.slots

pub invariant_of-self : goal.invariant_of-self
invariant_of-self c =
    let g = c.args.self.now in
    let e = c.make-taken.ensures in
    let free = c.requires.free in
    let source = c.make-taken.new.self in
    let made = made-by _ _ _ _ _ c.make-taken.result _ _ g.keeps refl (cell-there _ _ c.requires.cell) e.cell
    e.inbox e.made e.frame e.ticks e.kind c.push_frame.ensures.pushed in
    let kept = keeps-made _ _ _ _ _ _ _ g.keeps made free.left free.held in
    record {
      lines = g.lines ∙ sym e.kind.lines;
      keeps = subst (Keeps _) (sym (c.push_frame.ensures.places ∙ e.places))
          (subst (λ n. Keeps (parts source.core n g.landing g.journal source.inbox c.push_frame.new.tx.items g.back)
          (length g.frame.items)) (sym e.rest.total) kept);
    }

pub returns : goal.returns
returns c =
    let g = c.args.self.now in
    let e = c.make-taken.ensures in
    let k = g.keeps in
    let made = made-by _ _ _ _ _ c.make-taken.result _ _ k refl (cell-there _ _ c.requires.cell) e.cell
    e.inbox e.made e.frame e.ticks e.kind c.push_frame.ensures.pushed in
    let places = e.places in
    let first = k.places in
    let rings = k.rings in
    let long = length-map c.make-taken.new.frame.items (λ (b : Box Container). b.value) in
    record {
      script = record {
        lines = e.kind.lines;
        lag = e.kind.lag;
        size = e.kind.size;
        statuses = e.kind.statuses;
        total = e.rest.total;
        lost =
            made.lost;
        items = refl;
      };
      landed = record { frames = refl; commands = refl; journal = refl; slots = refl; bytes = refl; refusals = refl };
      ticks = e.ticks;
      sends = same-ends (held c.make-taken.new.frame.items) _ _ (omega (arith, long)) c.push_frame.ensures.pushed;
      back = refl;
      made = λ scenario has. subst (HasMade c.make-taken.new.self.core scenario) (sym (told-made _ _ _ _ _ _ _ k made))
          (e.made scenario _ has);
      pushed = λ scenario has m old new was is. pushed-made _ _ _ _ _ _ _ k made scenario has m old new was is;
      own = λ m old new was is. own-pushed _ _ _ _ _ _ _ k made m old new was is;
    }
