-- An octet that ends a packet writes its line, and every other one writes nothing.
use Rattle.command_rooms.proofs.H4TextAndPacketsLaws.{none_more, one_more, one_part_decoded as one_part}
use Rattle.command_rooms.proofs.commands.decode.take_h4.Goals as goal

pub returns-in_default-clause-ok : goal.returns-in_default-clause-ok
returns-in_default-clause-ok g c before start packets stands has =
    none_more _ _ before c.args.h4 packets start _ has (c.in_default.ensures.packets before stands)

pub returns-in-Ok-clause-ok : goal.returns-in-Ok-clause-ok
returns-in-Ok-clause-ok g c before start packets stands has =
    one_more _ _ before c.args.h4 packets start _ has c.in-Some.place c.in-Some.found _ _
    (c.in-Some.ensures.packets before stands)
    c.found_line-end.ensures.line c.in-Ok.ensures.ok

pub returns-in-Err-clause-err : goal.returns-in-Err-clause-err
returns-in-Err-clause-err g c before start packets stands has =
    one_part _ _ before c.args.h4 packets start _ has c.in-Some.place c.in-Some.found _ _
    (c.in-Some.ensures.packets before stands)
    c.found_line-end.ensures.line c.in-Err.ensures.err
