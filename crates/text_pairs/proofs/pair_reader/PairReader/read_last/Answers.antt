-- The whole lines, and what is left behind them.
use Rattle.std.proofs.Common.{◌≡◌, ◌∙◌, ◌-◌, List, ℕ, sym, subst, take, drop, length, arith}
use Rattle.text_lines.specs.Cut.{Lacks}
use Rattle.text_pairs.proofs.PairScriptReaderLaws.{if_ok, if_err, rest_said, tail_is, tail_fails, front_fails}
use Rattle.text_pairs.proofs.pair_reader.PairReader.read_last.Goals as goal

pub read_tail-requires-clause-lacks : goal.read_tail-requires-clause-lacks
read_tail-requires-clause-lacks c =
    subst (Lacks 10) (sym (tail_is c.args.rest.now c.in-Ok.used _ (omega arith))) c.in-Ok.ensures.cut

pub returns-in-Ok-clause-said : goal.returns-in-Ok-clause-said
returns-in-Ok-clause-said c =
    if_ok c.read_tail.result _ _ c.read_tail.ensures.said
    (λ read said. rest_said c.args.self c.in-Ok.reader c.args.rest.now _ c.in-Ok.used
    (tail_is c.args.rest.now c.in-Ok.used _ (omega arith)) c.in-Ok.ensures.said ∙ said)

pub returns-in-Ok-clause-fault : goal.returns-in-Ok-clause-fault
returns-in-Ok-clause-fault c =
    let rest : List ℕ = c.args.rest.now in
    let used : ℕ = c.in-Ok.used in
    let size : ℕ = length rest - used in
    let last : List ℕ = take size (drop used rest) in
    let is : last ≡ drop used rest = tail_is rest used size (omega arith) in
    if_err c.read_tail.result _ _ c.read_tail.ensures.fault
    (λ f told. tail_fails c.args.self c.in-Ok.reader rest last f told
    (rest_said c.args.self c.in-Ok.reader rest last used is c.in-Ok.ensures.said))

pub returns-in-Err-clause-fault : goal.returns-in-Err-clause-fault
returns-in-Err-clause-fault c = front_fails c.args.self c.args.rest.now c.in-Err.fault c.in-Err.ensures.fault
