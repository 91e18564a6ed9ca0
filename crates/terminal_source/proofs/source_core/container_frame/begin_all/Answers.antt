-- One line more is begun.
use Rattle.std.proofs.Common.{◌≡◌, if◌then◌else◌, [], slice_index_or, sym, ◌∙◌, ap, subst, arith, get_or-set_other}
use Rattle.std.proofs.Common.{inl, inr}
use Rattle.std.proofs.lemmas.Bool.{cases_lt}
use Rattle.std.proofs.lemmas.Grind.{get_or-set_at}
use Rattle.std.specs.Global.{Box}
use Rattle.std.proofs.lemmas.List.{length-map}
use Rattle.law_model.specs.Common.{Container}
use Rattle.member_cells.specs.HeldPlaces.{held}
use Rattle.member_rows.proofs.PutOctetAndRowSpreadLaws.{held-set}
use Rattle.terminal_source.specs.source_core.FrameContainers.{h4_by, carries, IsBegun}
use Rattle.terminal_source.proofs.DealtFrameContainerLaws.{IsBegun-as}
use Rattle.terminal_source.proofs.source_core.container_frame.begin_all.Goals as goal

pub loop-line-preserved : goal.loop-line-preserved
loop-line-preserved c line d low =
    let out = held c.loop-line.out in
    let header = h4_by c.args.ticks (slice_index_or c.args.nibbles.now line []) in
    let size = if carries c.args.active.now line then c.args.size else 0 in
    let long = length-map c.loop-line.out (λ (b : Box Container). b.value) in
    subst (λ xs. IsBegun header size (slice_index_or xs line d)) (sym (held-set c.loop-line.out c.loop-line.line _))
    (elim (cases_lt line c.loop-line.line) [
      | inl before ↦
          let other : line ≡ c.loop-line.line → ⊥ = λ e. omega arith in
          subst (IsBegun header size) (sym (get_or-set_other out c.loop-line.line line c.begin.new.container d other))
          (c.loop-line.invariant line d before)
      | inr last ↦
          let same : line ≡ c.loop-line.line = omega arith in
          IsBegun-as _ _ _ _ _ _
          (c.h4_of.ensures ∙ ap (λ n. h4_by c.args.ticks (slice_index_or c.args.nibbles.now n [])) (sym same))
          (c.filled-filled.ensures ∙ ap (λ b. if b then c.args.size else 0)
          (c.carriers-carry.ensures c.loop-line.line (omega arith))
          ∙ ap (λ n. if carries c.args.active.now n then c.args.size else 0) (sym same))
          (sym (get_or-set_at out c.loop-line.line line c.begin.new.container d same (omega (arith, long))))
          c.begin.ensures
    ])
