-- Both scripts are whole, or something is missing.
use Rattle.std.proofs.Common.{subst, Option, IfSome}
use Rattle.law_model.specs.declared.script_types.Script.{Script}
use Rattle.text_scripts.specs.script_read.ScriptInPieces.{IsUntested}
use Rattle.text_pairs.specs.Pieces.{line_at, halves_of}
use Rattle.text_pairs.proofs.PairScriptReaderLaws.{missing_told, undivided_told, divided_whole, same_back}
use Rattle.text_pairs.proofs.pair_reader.PairReader.end.Goals as goal

pub returns-in-Err-clause-fault : goal.returns-in-Err-clause-fault
returns-in-Err-clause-fault c =
    missing_told (line_at c.args.self) (halves_of c.args.self) c.in-Err.fault c.in-Err.ensures.fault

pub returns-in-Some-clause-whole : goal.returns-in-Some-clause-whole
returns-in-Some-clause-whole c =
    divided_whole (halves_of c.args.self) c.in-Some.there c.in-Ok.ensures.whole c.in-Some.is

pub returns-in-Some-clause-pair : goal.returns-in-Some-clause-pair
returns-in-Some-clause-pair c =
    rw c.in-Some.is (same_back c.in-Some.there c.in-Ok.back _ c.in-Ok.ensures.script)

pub returns-in-Some-clause-there : goal.returns-in-Some-clause-there
returns-in-Some-clause-there c =
    let there = subst (λ (o : Option Script). IfSome o IsUntested) c.in-Some.is c.requires.reader.there in
    rw c.in-Some.is there

pub returns-in-None-clause-fault : goal.returns-in-None-clause-fault
returns-in-None-clause-fault c =
    rw c.next_number-number.ensures
    (undivided_told (line_at c.args.self) (halves_of c.args.self) c.in-Ok.ensures.whole c.in-None.is)
