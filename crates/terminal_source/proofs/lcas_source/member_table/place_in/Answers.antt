-- The line is found here, or is looked for behind this place, or has no sequence number.
use Rattle.std.proofs.Common.{◌+◌, slice_index_or, sym, ◌∙◌, ap, arith}
use Rattle.std.specs.List.{list_any}
use Rattle.std.proofs.lemmas.List.{take_rest}
use Rattle.law_model.specs.declared.lcas_states.Standing.TheVariants.{Add as adding}
use Rattle.law_model.specs.Common.{is_normal, ctrl_by}
use Rattle.terminal_source.proofs.MemberOrderExchangeLaws.{place-found, place-next, place-none}
use Rattle.terminal_source.proofs.lcas_source.member_table.place_in.Goals as goal

pub returns-then-member-line : goal.returns-then-member-line
returns-then-member-line c =
    let found = place-found c.args.members.now c.loop-sq.sq c.args.line _ (omega arith) c.if-member-line.true in
    record {
      ctrl = c.ctrl_by-ctrl.ensures
          ∙ ap (ctrl_by (slice_index_or c.args.members.now c.loop-sq.sq (record { line = 0; standing = adding })).standing)
          (c.any_normal.ensures ∙ ap (list_any is_normal) (take_rest c.args.members.now (c.loop-sq.sq + 1)))
          ∙ ap (λ place. place.ctrl) (sym found ∙ c.loop-sq.invariant);
      sq = ap (λ place. place.sq) (sym found ∙ c.loop-sq.invariant);
    }

pub loop-sq-preserved : goal.loop-sq-preserved
loop-sq-preserved c =
    sym (place-next c.args.members.now c.loop-sq.sq c.args.line _ (omega arith) c.if-member-line.false)
    ∙ c.loop-sq.invariant

pub returns-clause-ctrl : goal.returns-clause-ctrl
returns-clause-ctrl c =
    ap (λ place. place.ctrl) (sym (place-none c.args.members.now c.loop-sq.sq c.args.line (omega arith))
    ∙ c.loop-sq.invariant)

pub returns-clause-sq : goal.returns-clause-sq
returns-clause-sq c =
    ap (λ place. place.sq) (sym (place-none c.args.members.now c.loop-sq.sq c.args.line (omega arith))
    ∙ c.loop-sq.invariant)
