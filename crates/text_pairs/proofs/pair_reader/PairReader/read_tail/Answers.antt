-- Nothing is left, or one line.
use Rattle.std.proofs.Common.{◌≡◌, ◌<◌, [], length, ap, arith}
use Rattle.std.proofs.lemmas.Bool.Decides.{nat_tests}
use Rattle.std.proofs.lemmas.List.{nil_from_length}
use Rattle.text_pairs.specs.Pieces.{said_after}
use Rattle.text_pairs.proofs.PairScriptReaderLaws.{one_more, if_ok, if_both, if_err, last_line, last_fails}
use Rattle.text_pairs.proofs.pair_reader.PairReader.read_tail.Goals as goal

pub returns-then-is_empty-clause-said : goal.returns-then-is_empty-clause-said
returns-then-is_empty-clause-said c =
    let none : length c.args.last.now ≡ 0 = grind (arith, nat_tests, c.if-is_empty.ensures) in
    ap (said_after c.args.self) (nil_from_length c.args.last.now none)

pub returns : goal.returns
returns c =
    let some : 0 < length c.args.last.now = grind (arith, nat_tests, c.if-is_empty.ensures) in
    record {
      reader = c.read_next.ensures.reader;
      room = if_ok c.read_next.result _ _ c.read_next.ensures.at
          (λ read at. omega (arith, at.number, some, c.requires.room));
      said = if_both c.read_next.result _ _ _ c.read_next.ensures.sound c.read_next.ensures.at
          (λ read none at. one_more c.args.self read c.args.last.now c.args.last.now []
          (last_line c.args.last.now c.requires.lacks some) none at);
      fault = if_err c.read_next.result _ _ c.read_next.ensures.fault
          (λ f stopped. last_fails c.args.self c.args.last.now f c.requires.lacks some stopped);
    }
