-- An item has landed: the source has it, and it is counted; it is in the journal, or its refusal is kept.
use Rattle.std.proofs.Common.{◌≡◌, ℕ, ◌+◌, ◌≤◌, Bool, Some, if◌then◌else◌, [], ◌∷◌, ◌++◌, List, length, Option, refl}
use Rattle.std.proofs.Common.{sym, ◌∙◌, ap, subst, arith, is_some}
use Rattle.law_model.specs.Common.{Container, BackCell, dues_of}
use Rattle.law_model.specs.declared.item_refusals.Refusal.{Refusal}
use Rattle.law_model.specs.declared.script_types.ItemKind.{ItemKind}
use Rattle.terminal_source.specs.source_core.Terminal.{Terminal}
use Rattle.law_walk.specs.Common.{is_client, IsPlaced, refused_by}
use Rattle.terminal_group.specs.Item.{kind_of}
use Rattle.thread_rings.specs.EndsOfRing.{OutEnd, InEnd}
use Rattle.terminal_group.specs.ReturnInbox.{Inbox}
use Rattle.terminal_group.specs.RefusalCodes.{IsReason}
use Rattle.terminal_group.specs.SourceByCounts.{Counted, SameNetwork}
use Rattle.thread_group.specs.Journal.{Journal, entry_of}
use Rattle.thread_group.specs.GroupParts.{parts, scenario_in, told_in_parts, Keeps}
use Rattle.thread_group.specs.declared.group_state.GroupState.{GroupState}
use Rattle.terminal_group.specs.Landed.{Landed, next_number, due_at, AreBehind, HasPassed}
use Rattle.terminal_group.proofs.RefusalCodeLaws.{met-reason, reason-at}
use Rattle.terminal_group.proofs.RefusalOrderAndNextItemLaws.{next-due, behind-next}
use Rattle.thread_group.proofs.GroupPartsAfterStepLaws.{refused-put, refused-now, keeps-accepted, keeps-refused}
use Rattle.thread_group.proofs.SubmitAndTickAnswerLaws.{refused-is, lands-in, submits-accepted, submits-refused}
use Rattle.thread_group.proofs.SubmitAndTickAnswerLaws.{room-there}
use Rattle.thread_group.proofs.group_state.GroupState.land.Goals as goal

pub land-requires-clause-next : goal.land-requires-clause-next
land-requires-clause-next c =
    ap (next_number c.args.self.now.landing) c.is_frame.ensures ∙ c.requires.next

pub land-requires-clause-reason : goal.land-requires-clause-reason
land-requires-clause-reason c =
    let g = c.args.self.now in
    let kind = kind_of c.args.item in
    reason-at g.landing c.args.number kind c.land-why.result
    (λ reason e. subst (λ n. IsReason n kind reason) (sym g.lines)
    (met-reason g.source.core kind reason (sym c.land-why.ensures.met ∙ e))) c.requires.item

-- one more of the item's kind has landed
passed : (was now : Landed) (frame refused : Bool) (kind : ItemKind) → frame ≡ is_client kind →
    HasPassed was now frame refused → HasPassed was now (is_client kind) refused
passed was now frame refused kind same = subst (λ client. HasPassed was now client refused) same

pub push-requires-clause-slots : goal.push-requires-clause-slots
push-requires-clause-slots c =
    let none = sym (refused-is c.args.self.now (kind_of c.args.item)) ∙ sym c.land-why.ensures.met ∙ c.in-None.is in
    (room-there _ _ _ (c.requires.room none)).0

pub push-requires-clause-bytes : goal.push-requires-clause-bytes
push-requires-clause-bytes c =
    let none = sym (refused-is c.args.self.now (kind_of c.args.item)) ∙ sym c.land-why.ensures.met ∙ c.in-None.is in
    (room-there _ _ _ (c.requires.room none)).1

pub returns-in-None : goal.returns-in-None
returns-in-None c =
    let g = c.args.self.now in
    let kind = kind_of c.args.item in
    let e = c.land-why.ensures in
    let l = passed _ _ _ _ kind c.is_frame.ensures c.land.ensures.passed in
    submits-accepted g _ c.args.number kind
    (record { next = c.requires.next; due = c.requires.due; room = c.requires.room })
    (lands-in g _ c.args.number kind c.land-why.result _ _ c.in-None.is e.met e.kind l c.land.ensures.refusals e.rest
    e.ticks refl refl e.made)
    (c.push.ensures.entries
    ∙ ap (λ n. g.journal.entries ++ entry_of c.args.number n kind ∷ [])
    (c.ticks.ensures ∙ ap (λ (t : Terminal). t.ticks) c.core.ensures ∙ e.ticks))
    c.push.ensures.slots c.push.ensures.bytes

pub returns-in-Some : goal.returns-in-Some
returns-in-Some c =
    let g = c.args.self.now in
    let kind = kind_of c.args.item in
    let e = c.land-why.ensures in
    let l = passed _ _ _ _ kind c.is_frame.ensures c.land.ensures.passed in
    submits-refused g _ c.args.number kind c.in-Some.why c.refused.result c.refused.ensures
    (record { next = c.requires.next; due = c.requires.due; room = c.requires.room })
    (lands-in g _ c.args.number kind c.land-why.result _ _ c.in-Some.is e.met e.kind l c.land.ensures.refusals e.rest
    e.ticks refl refl e.made)
    refl refl refl

-- what has landed is due, and so is one more of its kind
landed-behind : (g : GroupState) (client : Bool) (number frames commands : ℕ) →
    next_number g.landing client ≡ Some number → due_at g.landing.items number ≤ g.source.core.ticks →
    AreBehind (dues_of g.landing.items) g.source.core.ticks g.landing.frames g.landing.commands →
    frames ≡ g.landing.frames + (if client then 1 else 0) →
    commands ≡ g.landing.commands + (if client then 0 else 1) →
    AreBehind (dues_of g.landing.items) g.source.core.ticks frames commands
landed-behind g client number frames commands next due behind more most =
    subst (λ n. AreBehind (dues_of g.landing.items) g.source.core.ticks n commands) (sym more)
    (subst (AreBehind (dues_of g.landing.items) g.source.core.ticks
    (g.landing.frames + (if client then 1 else 0))) (sym most)
    (behind-next g.landing client number g.source.core.ticks next due behind))

-- the rest of the source is as it was
rested : (was now : Counted) (landed : Landed) (journal : Journal) (tx : List (OutEnd Container)) (back : InEnd BackCell)
    (size : ℕ) → SameNetwork was now →
    Keeps (parts now.core was.total landed journal was.inbox tx back) size →
    Keeps (parts now.core now.total landed journal now.inbox tx back) size
rested was now landed journal tx back size same keeps =
    subst (λ n. Keeps (parts now.core n landed journal now.inbox tx back) size) (sym same.total)
    (subst (λ (i : Inbox). Keeps (parts now.core was.total landed journal i tx back) size) (sym same.inbox) keeps)

pub invariant_of-self-in-None : goal.invariant_of-self-in-None
invariant_of-self-in-None c =
    let g = c.args.self.now in
    let kind = kind_of c.args.item in
    let e = c.land-why.ensures in
    let l = passed _ _ _ _ kind c.is_frame.ensures c.land.ensures.passed in
    let frames = l.frames in
    let commands = l.commands in
    let due = c.requires.due in
    let late = next-due g.landing (is_client kind) c.args.number _ c.requires.next g.keeps.ahead in
    record {
      lines = l.lines ∙ g.lines ∙ sym e.kind.lines;
      keeps = rested g.source c.land-why.new.self c.land.new.self c.push.new.self g.tx.items g.back _ e.rest
          (keeps-accepted _ _ c.land-why.new.self.core c.land.new.self c.push.new.self c.args.number kind g.keeps
          l.items (omega arith) (omega arith)
          (c.push.ensures.entries
          ∙ ap (λ n. g.journal.entries ++ entry_of c.args.number n kind ∷ [])
          (c.ticks.ensures ∙ ap (λ (t : Terminal). t.ticks) c.core.ensures ∙ e.ticks)) e.ticks e.kind e.made
          (sym (refused-is g kind) ∙ sym e.met ∙ c.in-None.is) (omega arith)
          (landed-behind g (is_client kind) c.args.number _ _ c.requires.next due g.keeps.behind
          l.frames l.commands)
          (subst (λ (w : Option Refusal). IsPlaced c.args.number
          (refused_by c.args.number w) g.landing.refusals c.land.new.self.refusals) c.in-None.is
          c.land.ensures.refusals));
    }

pub invariant_of-self : goal.invariant_of-self
invariant_of-self c =
    let g = c.args.self.now in
    let e = c.land-why.ensures in
    let kind = kind_of c.args.item in
    let l = passed _ _ _ _ kind c.is_frame.ensures c.land.ensures.passed in
    let frames = l.frames in
    let commands = l.commands in
    let at = parts g.source.core g.source.total g.landing g.journal g.source.inbox g.tx.items g.back in
    let due = c.requires.due in
    let late = next-due g.landing (is_client kind) c.args.number _ c.requires.next g.keeps.ahead in
    let is = refused-now (scenario_in at)
    (told_in_parts at) g.source.core.ticks g.landing g.journal.entries c.args.number kind c.in-Some.why
    c.requires.next (omega arith)
    (sym (sym c.in-Some.is ∙ e.met ∙ refused-is g kind)) in
    record {
      lines = l.lines ∙ g.lines ∙ sym e.kind.lines;
      keeps = rested g.source c.land-why.new.self c.land.new.self g.journal g.tx.items g.back _ e.rest
          (subst (λ (core : Terminal). Keeps (parts core g.source.total c.land.new.self g.journal
          g.source.inbox g.tx.items g.back) (length g.frame.items)) (sym (e.unchanged (ap is_some c.in-Some.is)))
          (keeps-refused _ _ c.land.new.self g.keeps l.items (omega arith) (omega arith)
          (landed-behind g (is_client kind) c.args.number _ _ c.requires.next due g.keeps.behind l.frames
          l.commands) (refused-put _ _ g.source.core.ticks _ _ c.args.number _ g.landing.refusals
          c.land.new.self.refusals (subst (λ (w : Option Refusal). IsPlaced c.args.number
          (refused_by c.args.number w) g.landing.refusals c.land.new.self.refusals) c.in-Some.is
          c.land.ensures.refusals) due is g.keeps.refused)));
    }
