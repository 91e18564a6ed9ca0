-- What the item is, is known of its head.
use Rattle.std.proofs.Common.{subst}
use Rattle.text_scripts.specs.script_text.TextOuts.{Adds}
use Rattle.text_scripts.proofs.ScriptTextGrowthLaws.{frame-item, add-item, remove-item}
use Rattle.text_scripts.proofs.script_text.write_script_text.add_item.Goals as goal

pub returns-in-Frame : goal.returns-in-Frame
returns-in-Frame g c item there =
    frame-item g.T.TextOut.stands_for c.args.out.now c.add_frame.new.out c.args.items.now c.args.number
    c.in-Frame.field-0 item c.head-head.result there c.in-Frame.is (c.head-head.ensures item there) c.add_frame.ensures

pub returns-in-Add : goal.returns-in-Add
returns-in-Add g c item there =
    subst (Adds g.T.TextOut.stands_for c.args.out.now c.add_numbers.new.out)
    (add-item c.in-Add.line item c.head-head.result c.in-Add.is (c.head-head.ensures item there)) c.add_numbers.ensures

pub returns-in-Remove : goal.returns-in-Remove
returns-in-Remove g c item there =
    subst (Adds g.T.TextOut.stands_for c.args.out.now c.add_numbers-in-Remove.new.out)
    (remove-item c.in-Remove.line item c.head-head.result c.in-Remove.is (c.head-head.ensures item there))
    c.add_numbers-in-Remove.ensures
