-- An item more; and those that are left, where they change nothing.
use Rattle.std.proofs.Common.{arith}
use Rattle.text_scripts.proofs.ScriptTextGrowthLaws.{items-more, items-left}
use Rattle.text_scripts.proofs.script_text.write_script_text.add_items.Goals as goal

pub returns-then-is_done : goal.returns-then-is_done
returns-then-is_done g c =
    items-left g.T.TextOut.stands_for c.args.out.now c.loop-number.out c.args.items.now c.loop-number.number
    c.loop-number.invariant (c.is_done.ensures c.if-is_done.true)

pub loop-number-preserved : goal.loop-number-preserved
loop-number-preserved g c =
    items-more g.T.TextOut.stands_for c.args.out.now c.loop-number.out c.add_item.new.out c.args.items.now
    c.loop-number.number (omega arith) c.loop-number.invariant c.add_item.ensures
