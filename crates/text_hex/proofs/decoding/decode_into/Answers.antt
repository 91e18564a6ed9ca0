-- The octets that were decoded stand after those before.
use Rattle.std.proofs.Common.{◌≡◌, ◌+◌, ◌-◌, ◌/◌, ◌++◌, length, take, replicate, sym, ap, ◌∙◌, arith, take_all}
use Rattle.text_hex.proofs.HexDigitLanesLaws.{written_after}
use Rattle.text_hex.proofs.decoding.decode_into.Goals as goal

pub returns-then-decode-clause-ok : goal.returns-then-decode-clause-ok
returns-then-decode-clause-ok c =
    let old = c.args.octets.now.items in
    let start = c.len-start.result in
    let half = length c.args.text.now / 2 in
    let xs = c.deref_mut.result.now in
    let before : length old ≡ start = omega (arith, c.len-start.ensures, c.args.octets.now.ok) in
    let whole : take (start + half) old ≡ old = take_all (start + half) old (omega arith) in
    let grown : xs ≡ old ++ replicate (start + half - c.args.octets.now.len) 0 =
    c.deref_mut.ensures.value ∙ c.in-Ok.ensures.items
    ∙ ap (λ l. l ++ replicate (start + half - c.args.octets.now.len) 0) whole in (
      c.decode.new.octets,
      c.decode.ensures.yes c.if-decode.true,
      written_after start c.resize.new.self.len old (replicate (start + half - c.args.octets.now.len) 0) xs
          c.decode.new.octets _ before grown
          (omega (arith, c.decode.auto.octets)) (sym c.deref_mut.ensures.len),
    )
