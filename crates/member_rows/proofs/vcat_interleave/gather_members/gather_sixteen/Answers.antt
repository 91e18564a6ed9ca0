-- A rank before the square was put by an earlier one, and one within it is put now.
use Rattle.std.proofs.Common.{◌≡◌, ◌+◌, ◌-◌, ◌*◌, ◌<◌, inl, inr, length, slice_index, sym, ap, ◌∙◌, arith}
use Rattle.std.proofs.lemmas.Bool.{cases_lt}
use Rattle.std.proofs.lemmas.Grind.{div_ceil_times}
use Rattle.member_cells.specs.HeldPlaces.{held}
use Rattle.member_rows.specs.vcat_interleave.Square.{octet_at}
use Rattle.member_rows.specs.vcat_interleave.MemberPayloads.{payloads_of}
use Rattle.member_rows.proofs.RowPartAndLaneLaws.{is-row}
use Rattle.member_rows.proofs.vcat_interleave.gather_members.gather_sixteen.Goals as goal

pub loop-k-preserved : goal.loop-k-preserved
loop-k-preserved c j r h below =
    let parts = payloads_of (held c.args.containers.now) c.args.active.now in
    let x = length c.args.active.now in
    let rank = c.min-rank.result in
    let place = c.args.place in
    let out = c.put_rows.new.out in
    let i = r - rank in
    elim (cases_lt r rank) [
      | inl before ↦
          c.put_rows.ensures.others j r h (omega (arith, below)) (inl before)
          ∙ c.loop-k.invariant j r h (omega (arith, c.min-rank.ensures, before))
      | inr after ↦
          let e : r ≡ rank + i = omega (arith, after) in
          let small : i < 16 = omega (arith, c.min-rank.ensures, below, after, c.requires.least) in
          ap (λ n. slice_index out (j * x + n)) e
          ∙ c.put_rows.ensures.placed j i h small
          ∙ c.turned.ensures j i h small
          ∙ c.rows_of.ensures i j small h
          ∙ ap (λ n. octet_at parts n (place + j)) (sym e)
    ]

pub returns : goal.returns
returns c =
    is-row (held c.args.containers.now) c.args.active.now c.args.place 16 c.loop-k.out
    (c.loop-k.auto.out ∙ c.requires.out) (λ p rank low below. c.loop-k.invariant p rank low
    (omega (
      arith,
      (div_ceil_times (length c.args.active.now) 16 (omega arith)).0,
      c.div_ceil-k-end.ensures,
      c.loop-k-test.false,
    )))
