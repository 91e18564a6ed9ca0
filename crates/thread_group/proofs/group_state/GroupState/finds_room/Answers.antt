-- The source is asked, and the journal where the source would take the item.
use Rattle.std.proofs.Common.{◌||◌, sym, ◌∙◌, ap, is_some}
use Rattle.terminal_group.specs.Item.{kind_of}
use Rattle.thread_group.specs.Journal.{fits}
use Rattle.thread_group.proofs.SubmitAndTickAnswerLaws.{refused-is}
use Rattle.thread_group.proofs.group_state.GroupState.finds_room.Goals as goal

pub returns-then-is_some : goal.returns-then-is_some
returns-then-is_some c =
    let g = c.args.self.now in
    let kind = kind_of c.args.item in
    let same = c.is_some.ensures ∙ ap is_some (c.refusal.ensures ∙ refused-is g kind) in
    c.if-is_some.true ∙ sym (ap (λ b. b || fits g.journal kind) (sym same ∙ c.if-is_some.true))

pub returns-else-is_some : goal.returns-else-is_some
returns-else-is_some c =
    let g = c.args.self.now in
    let kind = kind_of c.args.item in
    let same = c.is_some.ensures ∙ ap is_some (c.refusal.ensures ∙ refused-is g kind) in
    c.has_room.ensures ∙ sym (ap (λ b. b || fits g.journal kind) (sym same ∙ c.if-is_some.false))
