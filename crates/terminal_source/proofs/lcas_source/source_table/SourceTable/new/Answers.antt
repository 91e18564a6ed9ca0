-- The fields are those of the course before the first call.
use Rattle.terminal_source.proofs.SourceTableCourseLaws.{begun-fields, IsTable-new}
use Rattle.terminal_source.proofs.lcas_source.source_table.SourceTable.new.Goals as goal

pub invariant_of-result : goal.invariant_of-result
invariant_of-result c =
    IsTable-new _ c.args.lines c.args.statuses c.new-3.result
    (begun-fields c.args.lines c.args.statuses c.new.result c.none_planned.result c.new-2.result.items c.requires.lines
    c.new.ensures c.none_planned.ensures c.new-2.ensures)
    c.requires.lines c.requires.statuses c.new-3.ensures

pub returns : goal.returns
returns c =
    begun-fields c.args.lines c.args.statuses c.new.result c.none_planned.result c.new-2.result.items c.requires.lines
    c.new.ensures c.none_planned.ensures c.new-2.ensures
