-- There is room for a line to be added, and the fields are those after the decision step.
use Rattle.std.proofs.Common.{◌%◌, ◌∙◌, ap, option_map}
use Rattle.law_model.specs.Common.{told_on, told_in, said_by}
use Rattle.terminal_source.specs.lcas_source.TableFields.{course_in}
use Rattle.terminal_source.proofs.SourceTableCourseLaws.{settled-room, decided-fields, IsTable-decided}
use Rattle.terminal_source.proofs.lcas_source.source_table.SourceTable.decide.Goals as goal

pub change-requires-clause-room : goal.change-requires-clause-room
change-requires-clause-room c = λ line commands waits.
    let f = c.self.inside in
    let course = course_in f.lines f.statuses f.table f.planned f.pending f.taken f.steps in
    let settled = c.settle.ensures ∙ ap told_on c.take-self-inside.ensures.table in
    rw settled (settled-room f.lines (f.taken % f.statuses) (said_by (option_map told_in c.args.back)) course.source line
    commands c.self.invariant.lines c.self.invariant.fits waits)

pub invariant_of-self : goal.invariant_of-self
invariant_of-self c =
    let f = c.self.inside in
    let course = course_in f.lines f.statuses f.table f.planned f.pending f.taken f.steps in
    let settled = c.settle.ensures ∙ ap told_on c.take-self-inside.ensures.table in
    let fields = decided-fields (f.taken % f.statuses) (said_by (option_map told_in c.args.back)) course.source
    c.settle.new.self c.change.new.table c.change.new.pending.items
    settled c.change.ensures.table c.change.ensures.waiting in
    rw c.take-self-inside.ensures.taken
    (IsTable-decided course f.bits c.go_on.new.bits (said_by (option_map told_in c.args.back))
    (option_map told_in c.args.back) _ fields c.go_on.ensures c.self.invariant)
