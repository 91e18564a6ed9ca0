-- What the reader of scripts says at the end, in the words of any reader.
use Rattle.std.proofs.Common.{◌∙◌, ap, inl, inr}
use Rattle.text_scripts.specs.script_read.Script.{script_of}
use Rattle.command_parts.specs.Common.{told_of}
use Rattle.command_parts.proofs.SourceTextAndStopLaws.{room_for, stops_script}
use Rattle.command_parts.proofs.script_of_input.ScriptReaderPieceReader.read_end.Goals as goal

pub finish-requires-clause-room : goal.finish-requires-clause-room
finish-requires-clause-room c = room_for c.args.self c.args.rest.now c.requires

pub returns-in-Ok-clause-said : goal.returns-in-Ok-clause-said
returns-in-Ok-clause-said c all follows =
    ap told_of (ap script_of follows.is ∙ c.in-Ok.ensures.script follows.text follows.reads.stands)

pub returns-in-Err-clause-stopped : goal.returns-in-Err-clause-stopped
returns-in-Err-clause-stopped c all follows =
    elim (c.in-Err.ensures.fault follows.text follows.reads.stands) [
      | inl short ↦ stops_script (script_of all) c.in-Err.fault c.stop_of.result (inl short) c.stop_of.ensures.refused
          c.stop_of.ensures.short
      | inr told ↦ stops_script (script_of all) c.in-Err.fault c.stop_of.result (inr (ap script_of follows.is ∙ told))
          c.stop_of.ensures.refused c.stop_of.ensures.short
    ]
