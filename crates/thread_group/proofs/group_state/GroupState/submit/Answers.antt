-- Why an item hasn't landed; where it has, all is said of the landing.
use Rattle.std.proofs.Common.{◌≡◌, ℕ, not, Bool, true, false, eqb, Option, Some, None, refl, sym, ◌∙◌, ap, arith}
use Rattle.std.proofs.Common.{eqb-true, eq-eqb}
use Rattle.std.specs.Option.{option_eq}
use Rattle.thread_group.specs.declared.group_answers.SubmitFault.TheVariants.{NotNext, Early, JournalFull}
use Rattle.terminal_group.specs.Item.{kind_of}
use Rattle.law_model.specs.declared.script_types.ItemKind.{ItemKind}
use Rattle.law_walk.specs.Common.{is_client}
use Rattle.terminal_source.specs.source_core.Terminal.{Terminal}
use Rattle.terminal_group.specs.Landed.{next_number}
use Rattle.thread_group.specs.declared.group_state.GroupState.{GroupState}
use Rattle.thread_group.specs.Group.{next_of}
use Rattle.thread_group.proofs.SubmitAndTickAnswerLaws.{submits-none, asked-next, asked-early, asked-full, room-found}
use Rattle.thread_group.proofs.group_state.GroupState.submit.Goals as goal

not-true : (b : Bool) → true ≡ not b → b ≡ false
not-true true e = absurd cc
not-true false e = refl

not-false : (b : Bool) → false ≡ not b → b ≡ true
not-false true e = refl
not-false false e = absurd cc

is-some : (x : Option ℕ) (n : ℕ) → option_eq eqb x (Some n) ≡ true → x ≡ Some n
is-some None n e = absurd cc
is-some (Some m) n e = ap Some (eqb-true m n e)

is-other : (x : Option ℕ) (n : ℕ) → option_eq eqb x (Some n) ≡ false → x ≡ Some n → ⊥
is-other None n e same = absurd cc
is-other (Some m) n e same = let equal : m ≡ n = cc in let yes = eq-eqb m n equal in
    let f : true ≡ false = sym yes ∙ e in absurd cc

-- the next of its kind, as it is asked
next-is : (g : GroupState) (kind : ItemKind) (client : Bool) (next : Option ℕ) → next ≡ next_number g.landing client →
    client ≡ is_client kind → next ≡ next_of g kind
next-is g kind client next is same = is ∙ ap (next_number g.landing) same

pub returns-then-ne : goal.returns-then-ne
returns-then-ne c =
    let g = c.args.self.now in
    let kind = kind_of c.args.item in
    let next = next-is g kind _ _ c.next-next.ensures c.is_frame-client.ensures in
    let other = is-other c.next-next.result c.args.number (not-true _ (sym c.if-ne.true ∙ c.ne.ensures)) in
    submits-none g c.args.number kind (NotNext c.next-next.result) refl
    (ap (λ (n : Option ℕ). Some (NotNext n)) next ∙ asked-next g c.args.number kind (λ e. other (next ∙ e)))

pub due-requires : goal.due-requires
due-requires c =
    sym c.next-next.ensures ∙ is-some c.next-next.result c.args.number (not-false _ (sym c.if-ne.false ∙ c.ne.ensures))

pub returns-then-now-due : goal.returns-then-now-due
returns-then-now-due c =
    let g = c.args.self.now in
    let kind = kind_of c.args.item in
    let next = sym (next-is g kind _ _ c.next-next.ensures c.is_frame-client.ensures)
    ∙ is-some c.next-next.result c.args.number (not-false _ (sym c.if-ne.false ∙ c.ne.ensures)) in
    let low = c.if-now-due.true in
    let now = c.ticks-now.ensures ∙ ap (λ (t : Terminal). t.ticks) c.core.ensures in
    let due = c.due.ensures in
    submits-none g c.args.number kind (Early c.ticks-now.result) refl
    (ap (λ n. Some (Early n)) now ∙ asked-early g c.args.number kind next (omega arith))

pub returns-then-not-finds_room : goal.returns-then-not-finds_room
returns-then-not-finds_room c =
    let g = c.args.self.now in
    let kind = kind_of c.args.item in
    let next = sym (next-is g kind _ _ c.next-next.ensures c.is_frame-client.ensures)
    ∙ is-some c.next-next.result c.args.number (not-false _ (sym c.if-ne.false ∙ c.ne.ensures)) in
    let low = c.if-now-due.false in
    let now = c.ticks-now.ensures ∙ ap (λ (t : Terminal). t.ticks) c.core.ensures in
    let due = c.due.ensures in
    submits-none g c.args.number kind (JournalFull c.slots-entries.result c.bytes-bytes.result) refl
    (ap (λ n. Some (JournalFull n c.bytes-bytes.result)) c.slots-entries.ensures
    ∙ ap (λ n. Some (JournalFull g.journal.slots n)) c.bytes-bytes.ensures
    ∙ asked-full g c.args.number kind next (omega arith) (sym c.finds_room.ensures ∙ c.if-not-finds_room.true))

pub land-requires-clause-next : goal.land-requires-clause-next
land-requires-clause-next c =
    sym (next-is c.args.self.now (kind_of c.args.item) _ _ c.next-next.ensures c.is_frame-client.ensures)
    ∙ is-some c.next-next.result c.args.number (not-false _ (sym c.if-ne.false ∙ c.ne.ensures))

pub land-requires-clause-item : goal.land-requires-clause-item
land-requires-clause-item c = c.requires

pub land-requires-clause-due : goal.land-requires-clause-due
land-requires-clause-due c =
    let low = c.if-now-due.false in
    let now = c.ticks-now.ensures ∙ ap (λ (t : Terminal). t.ticks) c.core.ensures in
    let due = c.due.ensures in
    omega arith

pub land-requires-clause-room : goal.land-requires-clause-room
land-requires-clause-room c = room-found _ _ (sym c.finds_room.ensures ∙ c.if-not-finds_room.false)

pub returns : goal.returns
returns c = c.land.ensures
