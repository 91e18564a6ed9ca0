-- The walk is the script's, and so are the lines beside it.
use Rattle.std.proofs.Common.{◌∙◌, ap, rules}
use Rattle.law_model.specs.declared.script_types.Script.{Script}
use Rattle.command_rooms.proofs.turns.ready_walk.begin_script.Goals as goal

pub returns : goal.returns
returns c = record {
  valid = c.requires;
  script = c.in_ok-walk.ensures.script;
  counts = c.in_ok-walk.ensures.counts;
  events = c.in_ok-lines.ensures.items ∙ c.as_slice.ensures.value ∙ ap (λ (s : Script). s.events) c.script.view_is;
  lines = search rules;
  ticks = search rules;
}
