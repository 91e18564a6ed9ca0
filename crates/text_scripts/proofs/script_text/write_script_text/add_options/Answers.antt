-- A line behind another.
use Rattle.text_scripts.proofs.ScriptTextGrowthLaws.{options-adds}
use Rattle.text_scripts.proofs.script_text.write_script_text.add_options.Goals as goal

pub returns : goal.returns
returns g c =
    options-adds g.T.TextOut.stands_for c.args.out.now c.add_if.new.out c.add_timer.new.out c.add_timer-2.new.out
    c.add_if-2.new.out c.args.options.now c.add_if.ensures c.add_timer.ensures c.add_timer-2.ensures c.add_if-2.ensures
