-- A row more is counted; and all of them.
use Rattle.std.proofs.Common.{◌≡◌, ◌+◌, true, false, drop, slice_index_or, sym, ◌∙◌, ap, arith, if◌then◌else◌}
use Rattle.fate_service.specs.declared.row_states.RowState.TheVariants.{Clear}
use Rattle.fate_service.specs.RowStates.{is_dark, dark_on}
use Rattle.std.proofs.lemmas.List.{at_drop_more, at_drop_all}
use Rattle.fate_service.proofs.row_states.count_dark.Goals as goal
use Rattle.fate_service.proofs.row_states.count_dark.Goals.{then-is_dark, else-is_dark}

pub loop-state-preserved : goal.loop-state-preserved
unfolding dark_on
loop-state-preserved c =
    let states = c.args.states.now in
    let i = c.loop-state.state-index in
    let n = c.loop-state.dark in
    let low = c.loop-state.invariant.1 in
    let next = at_drop_more (dark_on n) states i Clear c.loop-state-test.true in
    elim c.if-is_dark.branch [
      | then-is_dark w ↦
          let yes : is_dark (slice_index_or states i Clear) ≡ true = sym c.is_dark.ensures ∙ w.if-is_dark.true in
          let count = w.dark-is in (
            ap (λ k. dark_on k (drop (i + 1) states)) (w.dark-is ∙ sym (ap (λ b. if b then n + 1 else n) yes))
                ∙ sym next ∙ c.loop-state.invariant.0,
            omega (arith, count, low),
          )
      | else-is_dark w ↦
          let no : is_dark (slice_index_or states i Clear) ≡ false = sym c.is_dark.ensures ∙ w.if-is_dark.false in
          let count = w.dark-is in (
            ap (λ k. dark_on k (drop (i + 1) states)) (w.dark-is ∙ sym (ap (λ b. if b then n + 1 else n) no))
                ∙ sym next ∙ c.loop-state.invariant.0,
            omega (arith, count, low),
          )
    ]

pub returns : goal.returns
unfolding dark_on
returns c =
    sym (at_drop_all (dark_on c.loop-state.dark) c.args.states.now c.loop-state.state-index c.loop-state-test.false)
    ∙ c.loop-state.invariant.0
