-- One line more has taken the row.
use Rattle.std.proofs.Common.{◌<◌, [], ◌∷◌, ◌++◌, length, sym, ◌∙◌, ap, subst, arith, inl, inr}
use Rattle.std.proofs.Common.{None, slice_index_or, slice_set, get_or-set_same, get_or-set_other}
use Rattle.std.proofs.lemmas.Bool.{cases_eq}
use Rattle.terminal_sink.specs.member_watch.Watches.{WatchStands, watch_at}
use Rattle.terminal_sink.proofs.lcas_sink.watch_packets.Goals as goal

pub loop-line-preserved : goal.loop-line-preserved
loop-line-preserved c =
    let row = c.args.row.now in
    let here = c.loop-line.line in
    let watches = c.loop-line.watches in
    let there = c.loop-line-test.true in
    let inside : here < length watches = omega arith in
    record {
      done = λ rows watched changed line low.
          let Stands = WatchStands c.args.options (rows ++ row ∷ []) line in
          elim (cases_eq here line) [
            | inl same ↦
                subst Stands
                (sym (ap (watch_at (slice_set watches here c.next.result)) (sym same)
                ∙ get_or-set_same watches here c.next.result _ inside))
                (c.next.ensures rows row line
                (subst (WatchStands c.args.options rows line)
                (ap (watch_at c.args.watches.now) (sym same) ∙ sym (c.loop-line.invariant.left here (omega arith)))
                (watched line (omega arith)))
                (ap (λ n. slice_index_or row n None) same) changed)
            | inr other ↦
                subst Stands (sym (get_or-set_other watches here line c.next.result _ (λ e. other (sym e))))
                (c.loop-line.invariant.done rows watched changed line (omega arith))
          ];
      left = λ line high.
          get_or-set_other watches here line c.next.result _ (λ e. absurd (omega arith))
          ∙ c.loop-line.invariant.left line (omega arith);
    }

pub returns : goal.returns
returns c = λ rows watched changed line low. c.loop-line.invariant.done rows watched changed line (omega arith)
