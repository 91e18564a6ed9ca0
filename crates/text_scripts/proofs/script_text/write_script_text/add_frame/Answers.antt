-- A piece behind another.
use Rattle.text_scripts.proofs.ScriptTextGrowthLaws.{frame-adds}
use Rattle.text_scripts.proofs.script_text.write_script_text.add_frame.Goals as goal

pub returns : goal.returns
returns g c octets there =
    frame-adds g.T.TextOut.stands_for c.args.out.now c.piece.new.self c.add_number.new.out c.piece-2.new.self
    c.digits.new.self c.piece-3.new.self c.args.due octets c.piece.ensures c.add_number.ensures c.piece-2.ensures
    (c.digits.ensures c.args.due octets there) c.piece-3.ensures
