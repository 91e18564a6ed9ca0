-- A row more; and all of them.
use Rattle.std.proofs.Common.{◌+◌, drop, sym, ◌∙◌, ap}
use Rattle.fate_service.specs.declared.row_states.RowState.TheVariants.{Clear}
use Rattle.fate_service.specs.Outages.{outages_on}
use Rattle.std.proofs.lemmas.List.{at_drop_more, at_drop_all}
use Rattle.fate_service.proofs.outages.find_outages.Goals as goal

pub loop-i-preserved : goal.loop-i-preserved
unfolding outages_on
loop-i-preserved c =
    let states = c.args.states.now in
    let i = c.loop-i.i in (
      ap (λ l. outages_on l (i + 1) (drop (i + 1) states)) c.in_ok-add_state.ensures.ok
          ∙ sym (at_drop_more (outages_on c.loop-i.outages.items i) states i Clear c.loop-i-test.true) ∙ c.loop-i.invariant.0,
      c.in_ok-add_state.ensures.few,
    )

pub returns : goal.returns
unfolding outages_on
returns c =
    sym (at_drop_all (outages_on c.loop-i.outages.items c.loop-i.i) c.args.states.now c.loop-i.i c.loop-i-test.false)
    ∙ c.loop-i.invariant.0
