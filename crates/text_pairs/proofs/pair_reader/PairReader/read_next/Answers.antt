-- The line divides, or it is one of a script.
use Rattle.std.proofs.Common.{◌∙◌, List, ℕ, Option, ap, subst, sym, inr, option_map}
use Rattle.text_lines.specs.WordsOfLine.{words}
use Rattle.text_pairs.specs.PairTextLines.{Halves, HalfFault, of_script}
use Rattle.text_pairs.specs.Pieces.{line_at, halves_of, IsPairToldAt}
use Rattle.text_pairs.proofs.PairScriptReaderLaws.{divide_fault, divide_after, plain_fault, plain_at, plain_stopped}
use Rattle.text_pairs.proofs.PairScriptReaderLaws.{if_ok, if_err}
use Rattle.text_pairs.proofs.pair_reader.PairReader.read_next.Goals as goal

pub returns-then-divides : goal.returns-then-divides
returns-then-divides c =
    let h : Halves = halves_of c.args.self in
    let ws : List (List ℕ) = words c.args.line.now in
    record {
      reader = c.divide.ensures.reader;
      sound = if_ok c.divide.result _ _ c.divide.ensures.whole
          (λ read whole. sym (divide_fault h ws c.if-divides.ensures) ∙ ap (option_map of_script) whole);
      at = if_ok c.divide.result _ _ c.divide.ensures.at
          (λ read at. record { number = at.number; halves = at.halves ∙ divide_after (line_at c.args.self) h ws c.if-divides.ensures });
      fault = if_err c.divide.result _ _ c.divide.ensures.fault
          (λ f told. inr (subst (λ (o : Option HalfFault). IsPairToldAt (line_at c.args.self) o f)
          (divide_fault h ws c.if-divides.ensures) told));
    }

pub returns-in-Ok : goal.returns-in-Ok
returns-in-Ok c =
    let h : Halves = halves_of c.args.self in
    let ws : List (List ℕ) = words c.args.line.now in
    record {
      reader = record { reads = c.in-Ok.ensures.reader; there = c.requires.reader.there };
      sound = sym (plain_fault h ws c.if-divides.ensures) ∙ ap (option_map of_script) c.in-Ok.ensures.sound;
      at = record {
        number = c.in-Ok.ensures.at.number;
        halves = plain_at (line_at c.args.self) h ws c.in-Ok.reader c.if-divides.ensures c.in-Ok.ensures.at.draft;
      };
      fault = tt;
    }

pub returns-in-Err-clause-fault : goal.returns-in-Err-clause-fault
returns-in-Err-clause-fault c =
    plain_stopped (line_at c.args.self) (halves_of c.args.self) (words c.args.line.now) c.in-Err.fault
    c.if-divides.ensures c.in-Err.ensures.fault
