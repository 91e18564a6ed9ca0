-- The parts of a tick, by its answer.
use Rattle.std.proofs.Common.{◌≡◌, None, sym, ◌∙◌, ap, arith}
use Rattle.law_model.specs.Common.{dues_of, held}
use Rattle.terminal_source.specs.source_core.Terminal.{Terminal}
use Rattle.terminal_group.proofs.InboxReturnCellLaws.{missing-some}
use Rattle.thread_group.specs.Group.{frames_of, commands_of, items_of, held_of, IsFreeToTick}
use Rattle.thread_group.proofs.SubmitAndTickAnswerLaws.{ticks-done, ticks-held, ticks-full, ticks-missing, ticks-ticked}
use Rattle.thread_group.proofs.SubmitAndTickAnswerLaws.{free-before, free-looks}
use Rattle.thread_group.proofs.group_state.GroupState.tick.Goals as goal
use Rattle.thread_group.proofs.group_state.GroupState.tick.Goals.{After-held}

pub returns-then-ticks-total_ticks : goal.returns-then-ticks-total_ticks
returns-then-ticks-total_ticks c =
    let now = c.ticks-ticks.ensures ∙ ap (λ (t : Terminal). t.ticks) c.core.ensures in
    let past = c.if-ticks-total_ticks.true in
    let total = c.total_ticks.ensures in
    ticks-done c.args.self.now c.come.new.self c.come.ensures (omega arith)

-- the item that it finds
found : (c : After-held) → c.held.result ≡ held_of c.come.new.self
found c =
    let g = c.come.new.self in
    c.held.ensures ∙ ap (λ n. held n (frames_of g) (commands_of g) 0 (dues_of (items_of g)))
    (c.ticks-ticks.ensures ∙ ap (λ (t : Terminal). t.ticks) c.core.ensures)

-- where it finds none
free : (c : After-held) → c.held.result ≡ None → IsFreeToTick c.come.new.self
free c none =
    let now = c.ticks-ticks.ensures ∙ ap (λ (t : Terminal). t.ticks) c.core.ensures in
    let left = c.if-ticks-total_ticks.false in
    let total = c.total_ticks.ensures in
    record { left = omega arith; held = sym (found c) ∙ none }

pub returns-in-Some : goal.returns-in-Some
returns-in-Some c =
    let now = c.ticks-ticks.ensures ∙ ap (λ (t : Terminal). t.ticks) c.core.ensures in
    let left = c.if-ticks-total_ticks.false in
    let total = c.total_ticks.ensures in
    ticks-held c.args.self.now c.come.new.self c.in-Some.item c.come.ensures (omega arith)
    (sym c.in-Some.is ∙ found (goal.at.returns-in-Some c).After-held)

pub returns-in-Some-look : goal.returns-in-Some-look
returns-in-Some-look c =
    let left = free (goal.at.returns-in-Some-look c).After-held c.in_default.is in
    ticks-full c.args.self.now _ _ _ c.come.ensures c.look.ensures.looks (free-before _ _ c.come.ensures left)
    c.in-Some-look.ensures.full

pub returns-in-Some-missing : goal.returns-in-Some-missing
returns-in-Some-missing c =
    let left = free (goal.at.returns-in-Some-missing c).After-held c.in_default.is in
    let (needs, none) = missing-some _ _ c.in-Some-missing.packet (sym c.missing.ensures ∙ c.in-Some-missing.is) in
    ticks-missing c.args.self.now c.come.new.self c.look.new.self c.in-Some-missing.packet c.come.ensures
    c.look.ensures.looks (free-before _ _ c.come.ensures left) c.in_default-look.ensures.full (sym needs) none

pub make_frame-requires-clause-free : goal.make_frame-requires-clause-free
make_frame-requires-clause-free c =
    free-looks c.come.new.self c.look.new.self c.look.ensures.looks
    (free (goal.at.make_frame-requires-clause-free c).After-held c.in_default.is)

pub make_frame-requires-clause-cell : goal.make_frame-requires-clause-cell
make_frame-requires-clause-cell c = sym c.missing.ensures ∙ c.in_default-missing.is

pub make_frame-requires-clause-slots : goal.make_frame-requires-clause-slots
make_frame-requires-clause-slots c = c.in_default-look.ensures.full

pub returns : goal.returns
returns c =
    let left = free (goal.at.returns c).After-held c.in_default.is in
    ticks-ticked c.args.self.now _ _ _ c.come.ensures c.look.ensures.looks c.make_frame.ensures
    (free-before _ _ c.come.ensures left)
