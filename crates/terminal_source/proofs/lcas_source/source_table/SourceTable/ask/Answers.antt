-- A command that is accepted waits behind the others, and its line is planned, or isn't any more.
use Rattle.std.proofs.Common.{sym, ◌∙◌, ap, refl}
use Rattle.law_model.specs.Common.{refusal, Course, asks, called}
use Rattle.terminal_source.specs.lcas_source.TableFields.{course_in}
use Rattle.terminal_source.proofs.SourceTableCourseLaws.{asked-fields, IsTable-asked}
use Rattle.terminal_source.proofs.lcas_source.source_table.SourceTable.ask.Goals as goal

pub invariant_of-self : goal.invariant_of-self
invariant_of-self c =
    let f = c.self.inside in
    let course = course_in f.lines f.statuses f.table f.planned f.pending f.taken f.steps in
    let accepted = ap (λ (course : Course). refusal course.lines c.args.command course.source) c.self.view_is
    ∙ sym c.refusal.ensures ∙ c.in_default.is in
    let fields = asked-fields f.lines c.args.command f.table f.planned f.pending.items c.push.new.self.items
    c.from.result c.is_add.result
    (c.from.ensures ∙ c.line_of.ensures) c.is_add.ensures c.push.ensures.items accepted in
    IsTable-asked course f.bits c.args.command _ fields refl c.self.invariant

pub returns-clause-asked : goal.returns-clause-asked
returns-clause-asked c =
    let f = c.self.inside in
    let accepted = ap (λ (course : Course). refusal course.lines c.args.command course.source) c.self.view_is
    ∙ sym c.refusal.ensures ∙ c.in_default.is in
    let fields = asked-fields f.lines c.args.command f.table f.planned f.pending.items c.push.new.self.items
    c.from.result c.is_add.result
    (c.from.ensures ∙ c.line_of.ensures) c.is_add.ensures c.push.ensures.items accepted in
    ap (λ source. record {
      lines = f.lines;
      statuses = f.statuses;
      source = source;
      taken = f.taken;
      steps = f.steps;
    }) fields
    ∙ ap (λ (course : Course). called course (asks c.args.command)) c.self.view_is
