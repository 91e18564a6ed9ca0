-- The next item has landed, and its refusal is written.
use Rattle.std.proofs.Common.{◌≡◌, ℕ, List, slice_get, Option, None, Some, IfSome, refl, sym, ◌∙◌, ap, subst, arith, length}
use Rattle.std.proofs.Common.{◌+◌, ◌≤◌, ◌<◌, Bool, true, false, is_some, if◌then◌else◌}
use Rattle.law_model.specs.declared.script_types.Item.{Item}
use Rattle.law_model.specs.declared.script_types.ItemKind.{ItemKind}
use Rattle.law_model.specs.declared.item_refusals.Refusal.{Refusal}
use Rattle.law_model.proofs.ListLaws.{slice_get-inside}
use Rattle.law_walk.specs.Common.{IsPlaced, refused_by}
use Rattle.terminal_group.specs.Landed.{Landed, IsLanded, IsReasonAt, next_number, next_place}
use Rattle.terminal_group.specs.RefusalCodes.{IsReason, code_at, reason_by, refusals_in}
use Rattle.terminal_group.proofs.RefusalCodeLaws.{code-placed}
use Rattle.terminal_group.proofs.RefusalOrderAndNextItemLaws.{all-dues, number-there, next-kind, placed-length}
use Rattle.terminal_group.proofs.RefusalOrderAndNextItemLaws.{frame-landed, command-landed}
use Rattle.terminal_group.proofs.landed_items.Landing.land.Goals as goal

-- the next item isn't refused yet
fresh : (view landed : Landed) (frame command : ℕ) (words : List ℕ) (client : Bool) (number : ℕ) → view ≡ landed →
    IsLanded view frame command words → next_number landed client ≡ Some number → code_at words number ≡ 0
fresh view landed frame command words client number same is next =
    let (at, there) = number-there view client number (ap (λ (l : Landed). next_number l client) same ∙ next) in
    let (item, here) = slice_get-inside view.items number there in
    let kind = next-kind view client item (ap (slice_get view.items) (sym at) ∙ here) in
    is.of_landed number item here (subst (λ b. next_place view b ≤ number) (sym kind) (omega (arith, at)))

reason-of : (landed : Landed) (number : ℕ) (item : Item) (why : Option Refusal) →
    slice_get landed.items number ≡ Some item → IfSome why (IsReasonAt landed number) →
    IfSome why (IsReason landed.lines item.kind)
reason-of landed number item None there is = tt
reason-of landed number item (Some why) there is = is item there

-- its refusal gets its place
placed : (view landed : Landed) (frame command : ℕ) (words other : List ℕ) (client : Bool) (number : ℕ)
    (why : Option Refusal) → view ≡ landed → IsLanded view frame command words →
    next_number landed client ≡ Some number → IfSome why (IsReasonAt landed number) →
    ((lines : ℕ) (kind : ItemKind) → IfSome why (IsReason lines kind) →
    reason_by lines kind (code_at other number) ≡ why) →
    ((n : ℕ) → (n ≡ number → ⊥) → code_at other n ≡ code_at words n) →
    IsPlaced number (refused_by number why) (refusals_in view.lines words view.items)
    (refusals_in view.lines other view.items)
placed view landed frame command words other client number why same is next reason says others =
    let (at, there) = number-there view client number (ap (λ (l : Landed). next_number l client) same ∙ next) in
    let (item, here) = slice_get-inside view.items number there in
    code-placed view.lines (code_at words) (code_at other) view.items number item why here
    (fresh view landed frame command words client number same is next)
    (says view.lines item.kind (reason-of view number item why here
    (subst (λ (l : Landed). IfSome why (IsReasonAt l number)) (sym same) reason))) others

pub put-requires-clause-none : goal.put-requires-clause-none
put-requires-clause-none c =
    fresh _ c.args.self.now _ _ _ c.args.client c.args.number c.self.view_is c.self.invariant c.requires.next

one-low : (one : Bool) → ◌≤◌ (if one then 1 else 0) 1
one-low true = omega arith
one-low false = omega arith

refused-length : (number : ℕ) (why : Option Refusal) →
    length (refused_by number why) ≡ (if is_some why then 1 else 0)
refused-length number None = refl
refused-length number (Some why) = refl

-- one refusal more, where it is refused
counted : (number one refused : ℕ) (why : Option Refusal) (was now : List (ℕ × Refusal)) →
    IsPlaced number (refused_by number why) was now → one ≡ (if is_some why then 1 else 0) →
    (length now + refused ≡ length was + (refused + one)) × (refused + one ≤ refused + 1)
counted number one refused why was now placed is =
    let long = placed-length number (refused_by number why) was now placed in (
      omega (arith, long, refused-length number why, is),
      omega (arith, is, one-low (is_some why)),
    )

pub overflow_add-self : goal.overflow_add-self
overflow_add-self c =
    let most = c.self.invariant.most_frames in
    let few = c.self.invariant.few in
    omega (arith, all-dues c.self.inside.items, most, few)

pub overflow_add-self-then-client : goal.overflow_add-self-then-client
overflow_add-self-then-client c =
    let most = c.self.invariant.most_frames in
    let low = c.self.invariant.few_frames in
    let few = c.self.invariant.few in
    omega (arith, all-dues c.self.inside.items, most, low, few, c.one_if-refused.ensures, one-low c.is_some.result)

pub overflow_add-self-else-client : goal.overflow_add-self-else-client
overflow_add-self-else-client c =
    let most = c.self.invariant.most_commands in
    let few = c.self.invariant.few in
    omega (arith, all-dues c.self.inside.items, most, few)

pub overflow_add-self-else-client-2 : goal.overflow_add-self-else-client-2
overflow_add-self-else-client-2 c =
    let most = c.self.invariant.most_commands in
    let low = c.self.invariant.few_commands in
    let few = c.self.invariant.few in
    omega (arith, all-dues c.self.inside.items, most, low, few, c.one_if-refused.ensures, one-low c.is_some.result)

pub returns-then-client-clause-refusals : goal.returns-then-client-clause-refusals
returns-then-client-clause-refusals c =
    let f = c.self.inside in
    subst (λ (l : Landed). IsPlaced c.args.number (refused_by c.args.number c.args.why) l.refusals
    (refusals_in f.lines c.put.new.self f.items)) c.self.view_is
    (placed _ c.args.self.now f.frame f.command f.codes c.put.new.self c.args.client c.args.number c.args.why
    c.self.view_is c.self.invariant c.requires.next c.requires.reason
    (λ lines kind is. ap (reason_by lines kind) c.put.ensures.put ∙ c.code_of.ensures.says lines kind is)
    c.put.ensures.others)

pub returns-else-client-clause-refusals : goal.returns-else-client-clause-refusals
returns-else-client-clause-refusals c =
    let f = c.self.inside in
    subst (λ (l : Landed). IsPlaced c.args.number (refused_by c.args.number c.args.why) l.refusals
    (refusals_in f.lines c.put.new.self f.items)) c.self.view_is
    (placed _ c.args.self.now f.frame f.command f.codes c.put.new.self c.args.client c.args.number c.args.why
    c.self.view_is c.self.invariant c.requires.next c.requires.reason
    (λ lines kind is. ap (reason_by lines kind) c.put.ensures.put ∙ c.code_of.ensures.says lines kind is)
    c.put.ensures.others)

pub invariant_of-self : goal.invariant_of-self
invariant_of-self c =
    let f = c.self.inside in
    let (at, there) = subst (λ (l : Landed). (c.args.number ≡ next_place l true) × (c.args.number < length l.items))
    (sym c.self.view_is) (number-there c.args.self.now true c.args.number
    (subst (λ b. next_number c.args.self.now b ≡ Some c.args.number) c.if-client.true c.requires.next)) in
    let put = placed _ c.args.self.now f.frame f.command f.codes c.put.new.self c.args.client c.args.number c.args.why
    c.self.view_is c.self.invariant c.requires.next c.requires.reason
    (λ lines kind is. ap (reason_by lines kind) c.put.ensures.put ∙ c.code_of.ensures.says lines kind is)
    c.put.ensures.others in
    let (more, few) = counted c.args.number c.one_if-refused.result f.refused_frames c.args.why
    (refusals_in f.lines f.codes f.items) (refusals_in f.lines c.put.new.self f.items) put
    (c.one_if-refused.ensures ∙ ap (λ b. if b then 1 else 0) c.is_some.ensures) in
    frame-landed _ f.frame f.command c.args.number c.next_frame-self-inside.result
    (f.refused_frames + c.one_if-refused.result) f.codes c.put.new.self
    (refusals_in f.lines c.put.new.self f.items) c.self.invariant at there c.next_frame-self-inside.ensures
    c.put.ensures.others c.put.ensures.room more few

pub invariant_of-self-else-client : goal.invariant_of-self-else-client
invariant_of-self-else-client c =
    let f = c.self.inside in
    let (at, there) = subst (λ (l : Landed). (c.args.number ≡ next_place l false) × (c.args.number < length l.items))
    (sym c.self.view_is) (number-there c.args.self.now false c.args.number
    (subst (λ b. next_number c.args.self.now b ≡ Some c.args.number) c.if-client.false c.requires.next)) in
    let put = placed _ c.args.self.now f.frame f.command f.codes c.put.new.self c.args.client c.args.number c.args.why
    c.self.view_is c.self.invariant c.requires.next c.requires.reason
    (λ lines kind is. ap (reason_by lines kind) c.put.ensures.put ∙ c.code_of.ensures.says lines kind is)
    c.put.ensures.others in
    let (more, few) = counted c.args.number c.one_if-refused.result f.refused_commands c.args.why
    (refusals_in f.lines f.codes f.items) (refusals_in f.lines c.put.new.self f.items) put
    (c.one_if-refused.ensures ∙ ap (λ b. if b then 1 else 0) c.is_some.ensures) in
    command-landed _ f.frame f.command c.args.number c.next_command-self-inside.result
    (f.refused_commands + c.one_if-refused.result) f.codes c.put.new.self
    (refusals_in f.lines c.put.new.self f.items) c.self.invariant at there c.next_command-self-inside.ensures
    c.put.ensures.others c.put.ensures.room more few
