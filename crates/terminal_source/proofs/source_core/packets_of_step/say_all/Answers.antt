-- One line more says its packet.
use Rattle.std.proofs.Common.{◌≡◌, ◌<◌, ◌+◌, ◌-◌, ℕ, [], List, All, slice_index_or, slice_set, length, inl, inr, sym}
use Rattle.std.proofs.Common.{◌∙◌, ap, subst, arith, get_or-set_other}
use Rattle.std.proofs.lemmas.Bool.{cases_lt}
use Rattle.std.proofs.lemmas.List.FromFn.{fill_by_all}
use Rattle.std.proofs.lemmas.Grind.{get_or-set_at}
use Rattle.law_model.specs.Common.{packet_nibbles, forward_packet, telling, passed_on}
use Rattle.law_model.specs.declared.control_packet.Packet.{Packet}
use Rattle.terminal_source.proofs.source_core.packets_of_step.say_all.Goals as goal

pub loop-line-preserved : goal.loop-line-preserved
loop-line-preserved c = record { said = said; below = below } where
  told_packet : ℕ → Packet
  told_packet line =
      telling (passed_on c.args.told) (forward_packet c.args.table.now.source.table line (c.args.table.now.steps - 1))

  at_most : (line : ℕ) (d : List ℕ) (P : List ℕ → Type 0) → line < c.loop-line.line + 1 →
      (line < c.loop-line.line → P (slice_index_or c.loop-line.nibbles line d)) →
      (line ≡ c.loop-line.line → P c.said.result) →
      P (slice_index_or (slice_set c.loop-line.nibbles c.loop-line.line c.said.result) line d)
  at_most line d P low before last =
      elim (cases_lt line c.loop-line.line) [
        | inl less ↦
            let other : line ≡ c.loop-line.line → ⊥ = λ e. omega arith in
            subst P (sym (get_or-set_other c.loop-line.nibbles c.loop-line.line line c.said.result d other))
            (before less)
        | inr more ↦
            let same : line ≡ c.loop-line.line = omega arith in
            subst P (sym (get_or-set_at c.loop-line.nibbles c.loop-line.line line c.said.result d same (omega arith)))
            (last same)
      ]

  said : (line : ℕ) (d : List ℕ) → line < c.loop-line.line + 1 →
      slice_index_or (slice_set c.loop-line.nibbles c.loop-line.line c.said.result) line d
      ≡ packet_nibbles (told_packet line)
  said line d low =
      at_most line d (λ nibbles. nibbles ≡ packet_nibbles (told_packet line)) low (c.loop-line.invariant.said line d)
      (λ same. c.said.ensures.nibbles
      ∙ ap packet_nibbles (c.with_told.ensures ∙ ap (telling (passed_on c.args.told)) c.packet.ensures)
      ∙ ap (λ line. packet_nibbles (told_packet line)) (sym same))

  below : (line : ℕ) (d : List ℕ) → line < c.loop-line.line + 1 →
      All (λ nibble. nibble < 16) (slice_index_or (slice_set c.loop-line.nibbles c.loop-line.line c.said.result) line d)
  below line d low = at_most line d (All (λ nibble. nibble < 16)) low (c.loop-line.invariant.below line d)
      (λ same. c.said.ensures.below)

pub returns-clause-nibbles : goal.returns-clause-nibbles
returns-clause-nibbles c =
    fill_by_all (λ line. packet_nibbles (telling (passed_on c.args.told)
    (forward_packet c.args.table.now.source.table line (c.args.table.now.steps - 1)))) c.loop-line.nibbles
    (length c.args.nibbles.now) []
    (omega arith) (λ line low. c.loop-line.invariant.said line [] (omega arith))

pub returns-clause-below : goal.returns-clause-below
returns-clause-below c = λ line d low. c.loop-line.invariant.below line d (omega arith)
