-- One line on, and after the last one.
use Rattle.std.proofs.Common.{◌∙◌, List, ℕ, ap, arith}
use Rattle.text_lines.specs.Language.{said_from}
use Rattle.text_scripts.specs.script_read.Script.{script_lines}
use Rattle.text_scripts.proofs.ScriptLineAndFirstFaultLaws.{line_said, line_stops}
use Rattle.text_scripts.proofs.script_read.script_reader.ScriptReader.read_rest.Goals as goal

pub returns-in-Err-clause-fault : goal.returns-in-Err-clause-fault
returns-in-Err-clause-fault c =
    line_stops _ _ _ _ _ _ _ c.loop-line.invariant.value c.in-Some.ensures.some c.in-Err.ensures.fault

pub loop-line-preserved : goal.loop-line-preserved
loop-line-preserved c = record {
  value = c.loop-line.invariant.value
      ∙ line_said c.loop-line.self.number _ _ _ _ _ _ c.in-Some.ensures.some c.in-Ok.ensures.sound
      c.in-Ok.ensures.number c.in-Ok.ensures.adds;
  reader = c.in-Ok.ensures.reader;
  small = omega (arith, c.loop-line.invariant.small, c.in-Some.ensures.moves, c.in-Ok.ensures.number);
}

pub returns-clause-said : goal.returns-clause-said
returns-clause-said c = c.loop-line.invariant.value
    ∙ ap (λ (ls : List (List ℕ)). said_from script_lines c.loop-line.self.number c.loop-line.self.draft ls)
    c.in_default.ensures.none
