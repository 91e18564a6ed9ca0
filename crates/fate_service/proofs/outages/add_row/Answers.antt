-- The row goes on with the last outage, or begins one.
use Rattle.std.proofs.Common.{◌≡◌, ◌-◌, slice_index_or, slice_set, All, sym, ◌∙◌, subst, arith}
use Rattle.fate_service.specs.Outages.{HasFewSpoiled, with_dark}
use Rattle.fate_service.proofs.OutageAndDarkRowLaws.{dark-meets, dark-apart, dark-few}
use Rattle.fate_service.proofs.outages.add_row.Goals as goal
use Rattle.fate_service.proofs.outages.add_row.Goals.{else-n-gt0-via-then-n-gt0+else-goes_on}
use Rattle.fate_service.proofs.outages.add_row.Goals.{else-n-gt0-via-else-n-gt0}

pub returns-then-goes_on : goal.returns-then-goes_on
returns-then-goes_on c =
    let items = c.args.outages.now.items in
    let row = c.args.row in
    let spoiled = c.args.spoiled in
    let meets : slice_set items (c.len-n.result - 1) c.grown.result ≡ with_dark row spoiled items =
    dark-meets items row spoiled (c.len-n.result - 1) c.index.result.now
    c.index-then-goes_on.result.now c.grown.result
    (let n = c.len-n.ensures in let some = c.if-n-gt0.true in omega (arith, n, some)) c.index.ensures
    c.index-then-goes_on.ensures (sym c.goes_on.ensures ∙ c.if-goes_on.true) c.grown.ensures in
    record {
      ok = meets;
      few = subst (All HasFewSpoiled) (sym meets) (dark-few row spoiled items c.requires.one c.requires.few);
    }

pub returns : goal.returns
returns c =
    let items = c.args.outages.now.items in
    let row = c.args.row in
    let spoiled = c.args.spoiled in
    let apart : c.push.new.self.items ≡ with_dark row spoiled items = c.in_ok-push.ensures.items
    ∙ dark-apart items row spoiled (λ i count.
    elim c.else-n-gt0.branch [
      | else-n-gt0-via-then-n-gt0+else-goes_on w ↦ (
          let at : c.len-n.result - 1 ≡ i = (let n = c.len-n.ensures in omega (arith, n, count)) in (
            w.index.result.now,
            subst (λ k. w.index.result.now ≡ slice_index_or items k w.index.result.now) at w.index.ensures,
            sym w.goes_on.ensures ∙ w.if-goes_on.false,
          ))
      | else-n-gt0-via-else-n-gt0 w ↦ absurd (let n = c.len-n.ensures in omega (arith, n, count, w.if-n-gt0.false))
    ]) in
    record {
      ok = apart;
      few = subst (All HasFewSpoiled) (sym apart) (dark-few row spoiled items c.requires.one c.requires.few);
    }
