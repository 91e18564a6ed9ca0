-- The table before and after a decision step: its count of changes, its lines, and how its members stand.
use Rattle.std.proofs.Common.{◌≡◌, ℕ, ◌+◌, ◌-◌, ◌≤◌, not, Bool, true, false, if◌then◌else◌, List, [], ◌∷◌, Option}
use Rattle.std.proofs.Common.{Some, None, refl, ◌∙◌, ap, subst, arith, ◌⊎◌, zero, suc, ◌==◌, ◌&&◌, inl, inr, ◌++◌}
use Rattle.std.proofs.Common.{filter, slice_get, option_map, sym}
use Rattle.law_model.specs.Common.{kept_of, Table, Told, is_adding, is_ok, in_use, is_for, acknowledged_by, heard}
use Rattle.law_model.specs.Common.{admit, turned, told_on, changed, exchange, exchanged, Source, change_by, change}
use Rattle.law_model.specs.Common.{decide, member_of, is_fail, turn, take_out, none_kept, first_of}
use Rattle.law_model.specs.declared.lcas_states.Command.{Command}
use Rattle.law_model.specs.declared.lcas_states.Member.{Member}
use Rattle.law_model.specs.declared.lcas_states.Command.TheVariants.{Add as add, Remove as remove}
use Rattle.law_session.specs.Feedback.{lines_of}
use Rattle.std.specs.Bool.{⊤}
use Rattle.std.proofs.lemmas.Bool.{eqb-true}
use Rattle.std.proofs.lemmas.Option.{none-some, same_Some}
use Rattle.law_model.specs.declared.lcas_states.Standing.{Standing}
use Rattle.law_model.specs.declared.lcas_states.Standing.TheVariants.{Add as adding, Norm as normal}
use Rattle.law_session.proofs.AdmittedAndExchangedLineLaws.{Has, IsIn, IsKept, adding_of, admit_on, exchange_on}
use Rattle.law_session.proofs.AdmittedAndExchangedLineLaws.{turned_member, slice_get-turned, exchange-keeps}

-- ---- What a decision step does to the count of changes and to the lines of the order.
-- the count of the last change that is acknowledged
abbrev pub confirmed : Table → ℕ
confirmed table = if table.acknowledged then table.count else table.count - 1

pub turned-lines : (kept : ℕ → Option Bool) (sq : ℕ) (order : List Member) →
    lines_of (turned kept sq order) ≡ lines_of order
unfolding turned
turned-lines kept sq [] = refl
turned-lines kept sq (member ∷ order) = ap (λ rest. member.line ∷ rest) (turned-lines kept (sq + 1) order)

pub admit-lines : (kept : ℕ → Option Bool) (sq : ℕ) (order : List Member) →
    lines_of (admit kept sq order) ≡ lines_of order
unfolding admit
admit-lines kept sq [] = refl
admit-lines kept sq (member ∷ order) =
    let rest = admit-lines kept (sq + 1) order in
    elim (is_adding member) as (λ b. lines_of (if not b then member ∷ admit kept (sq + 1) order
    else if is_ok (kept sq) then in_use member ∷ admit kept (sq + 1) order else member ∷ order)
    ≡ member.line ∷ lines_of order) [
      | false ↦ ap (λ lines. member.line ∷ lines) rest
      | true ↦ elim (is_ok (kept sq))
          as (λ b. lines_of (if b then in_use member ∷ admit kept (sq + 1) order else member ∷ order)
          ≡ member.line ∷ lines_of order) [
            | true ↦ ap (λ lines. member.line ∷ lines) rest
            | false ↦ refl
          ]
    ]

-- from one table to a later one, where so much is acknowledged on the way
pub record Goes (before after : Table) (told : ℕ) : Type 0 where
  pub confirms : confirmed after ≡ told
  pub rises : before.count ≤ after.count
  pub lines : after.count ≡ before.count → lines_of after.order ≡ lines_of before.order

Goes-changed : (order : List Member) (leaving : Option ℕ) (table : Table) → table.acknowledged ≡ true →
    Goes table (changed order leaving table) (confirmed table)
Goes-changed order leaving table e = record {
  confirms = rw e (let n : table.count + 1 - 1 ≡ table.count = omega arith in n);
  rises = omega arith;
  lines = λ same. absurd (omega arith);
}

Goes-same : (table : Table) → Goes table table (confirmed table)
Goes-same table = record { confirms = refl; rises = omega arith; lines = λ same. refl }

Goes-exchanged : (found : Option (List Member)) (table : Table) → table.acknowledged ≡ true →
    Goes table (exchanged found table) (confirmed table)
Goes-exchanged None table e = Goes-same table
Goes-exchanged (Some order) table e = Goes-changed order table.leaving table e

Goes-change_by : (commands : List Command) (source : Source) (table : Table) → table.acknowledged ≡ true →
    Goes table (change_by commands source table).table (confirmed table)
Goes-change_by [] source table e = Goes-exchanged (exchange (kept_of table) 0 table.order) table e
Goes-change_by (add line ∷ commands) source table e = Goes-changed _ _ table e
Goes-change_by (remove line ∷ commands) source table e = Goes-changed _ _ table e

Goes-change : (source : Source) (table : Table) → Goes table (change source table).table (confirmed table)
Goes-change source table =
    elim table.acknowledged as (λ b. table.acknowledged ≡ b →
    Goes table (if b then change_by source.waiting source table
    else record { table = table; planned = source.planned; waiting = source.waiting }).table (confirmed table)) [
      | true ↦ λ e. Goes-change_by source.waiting source table e
      | false ↦ λ e. Goes-same table
    ] refl

-- what is acknowledged by a return cell
abbrev pub confirmed_by : Option Told → Table → ℕ
confirmed_by told table = if is_for table.count told then table.count else confirmed table

pub told_on-lines : (table : Table) → lines_of (told_on table).order ≡ lines_of table.order
told_on-lines table = turned-lines (kept_of table) 0 (admit (kept_of table) 0 table.order)
    ∙ admit-lines (kept_of table) 0 table.order

Goes-heard : (group : ℕ) (told : Option Told) (table : Table) →
    Goes table (told_on (heard group told table)) (confirmed_by told table)
Goes-heard group told table =
    elim (is_for table.count told) as (λ b. Goes table (told_on (if b then acknowledged_by group told table else table))
    (if b then table.count else confirmed table)) [
      | true ↦ record {
        confirms = refl;
        rises = omega arith;
        lines =
            λ same. told_on-lines (acknowledged_by group told table);
      }
      | false ↦ record { confirms = refl; rises = omega arith; lines = λ same. told_on-lines table }
    ]

pub heard-count : (group : ℕ) (told : Option Told) (table : Table) → (heard group told table).count ≡ table.count
heard-count group told table = elim (is_for table.count told)
    as (λ b. (if b then acknowledged_by group told table else table).count ≡ table.count) [ true ↦ refl | false ↦ refl ]

pub heard-order : (group : ℕ) (told : Option Told) (table : Table) → (heard group told table).order ≡ table.order
heard-order group told table = elim (is_for table.count told)
    as (λ b. (if b then acknowledged_by group told table else table).order ≡ table.order) [ true ↦ refl | false ↦ refl ]

Goes-then : (a b c : Table) (m n : ℕ) → Goes a b m → Goes b c n → Goes a c n
Goes-then a b c m n first second =
    let rises = first.rises in
    let rises_on = second.rises in
    record {
      confirms = second.confirms;
      rises = omega arith;
      lines = λ same. second.lines (omega arith) ∙ first.lines (omega arith);
    }

-- a decision step
pub Goes-decide : (group : ℕ) (told : Option Told) (source : Source) →
    Goes source.table (decide group told source).table (confirmed_by told source.table)
Goes-decide group told source =
    let table = told_on (heard group told source.table) in
    let first = Goes-heard group told source.table in
    let second = Goes-change source table in
    subst (Goes source.table (decide group told source).table) first.confirms
    (Goes-then source.table table (decide group told source).table _ _ first second)

-- ---- How the members of a table stand before and after a step: what they are told, and what a change makes of them.
-- ---- what a member is told
-- a member of this status is turned by it, or is an ADD line that is admitted
abbrev pub Becomes : Option Bool → Standing → Standing → Type 0
Becomes status was is = (is ≡ turn status was) ⊎ ((was ≡ adding) × (status ≡ Some true) × (is ≡ normal))

-- the same of what stands at an SQ
abbrev pub Turns : Option Bool → Option Member → Option Member → Type 0
Turns status None None = ⊤
Turns status None (Some new) = ⊥
Turns status (Some old) None = ⊥
Turns status (Some old) (Some new) = (new.line ≡ old.line) × Becomes status old.standing new.standing

abbrev pub Admits : Option Bool → Option Member → Option Member → Type 0
Admits status None None = ⊤
Admits status None (Some new) = ⊥
Admits status (Some old) None = ⊥
Admits status (Some old) (Some new) = (new.line ≡ old.line) ×
    ((new.standing ≡ old.standing)
    ⊎ ((old.standing ≡ adding) × (is_ok status ≡ true) × (new.standing ≡ normal)))

Admits-same : (status : Option Bool) (found : Option Member) → Admits status found found
Admits-same status None = tt
Admits-same status (Some member) = (refl, inl refl)

Admits-first : (status : Option Bool) (adds ok : Bool) (member : Member) (rest order : List Member) →
    is_adding member ≡ adds → is_ok status ≡ ok →
    Admits status (Some member) (slice_get (admit_on adds ok member rest order) 0)
Admits-first status false ok member rest order adds says = (refl, inl refl)
Admits-first status true true member rest order adds says = (refl, inr (adding_of member.standing adds, says, refl))
Admits-first status true false member rest order adds says = (refl, inl refl)

Admits-later : (status : Option Bool) (adds ok : Bool) (member : Member) (rest order : List Member) (sq : ℕ) →
    Admits status (slice_get order sq) (slice_get rest sq) →
    Admits status (slice_get order sq) (slice_get (admit_on adds ok member rest order) (suc sq))
Admits-later status false ok member rest order sq on = on
Admits-later status true true member rest order sq on = on
Admits-later status true false member rest order sq on = Admits-same status (slice_get order sq)

admit-admits : (kept : ℕ → Option Bool) (base : ℕ) (order : List Member) (sq : ℕ) →
    Admits (kept (base + sq)) (slice_get order sq) (slice_get (admit kept base order) sq)
unfolding admit
admit-admits kept base [] sq = tt
admit-admits kept base (member ∷ order) zero =
    let e : base + zero ≡ base = omega arith in
    rw e (Admits-first (kept base) (is_adding member) (is_ok (kept base)) member (admit kept (base + 1) order) order
    refl refl)
admit-admits kept base (member ∷ order) (suc sq) =
    let e : base + suc sq ≡ base + 1 + sq = omega arith in
    rw e (Admits-later (kept (base + 1 + sq)) (is_adding member) (is_ok (kept base)) member
    (admit kept (base + 1) order) order sq (admit-admits kept (base + 1) order sq))

ok_of : (status : Option Bool) → is_ok status ≡ true → status ≡ Some true
ok_of None e = absurd cc
ok_of (Some true) e = refl
ok_of (Some false) e = absurd cc

becomes_by : (status : Option Bool) (was is : Standing) →
    (is ≡ was) ⊎ ((was ≡ adding) × (is_ok status ≡ true) × (is ≡ normal)) → Becomes status was (turn status is)
becomes_by status was is (inl same) = inl (ap (turn status) same)
becomes_by status was is (inr admitted) =
    let ok = ok_of status admitted.1 in
    inr (admitted.0, ok, ap (turn status) admitted.2 ∙ ap (λ s. turn s normal) ok)

admits-turns : (status : Option Bool) (found admitted : Option Member) → Admits status found admitted →
    Turns status found (option_map (turned_member status) admitted)
admits-turns status None None admits = tt
admits-turns status None (Some new) admits = absurd admits
admits-turns status (Some old) None admits = absurd admits
admits-turns status (Some old) (Some new) admits =
    (admits.0, becomes_by status old.standing new.standing admits.1)

told-turns : (table : Table) (sq : ℕ) →
    Turns (kept_of table sq) (slice_get table.order sq) (slice_get (told_on table).order sq)
told-turns table sq =
    let e : 0 + sq ≡ sq = omega arith in
    let admits = rw e at (admit-admits (kept_of table) 0 table.order sq) in
    let turned = rw e at (slice_get-turned (kept_of table) 0 (admit (kept_of table) 0 table.order) sq) in
    subst (Turns (kept_of table sq) (slice_get table.order sq)) (sym turned)
    (admits-turns (kept_of table sq) (slice_get table.order sq)
    (slice_get (admit (kept_of table) 0 table.order) sq) admits)

-- how a member that stands at an SQ stood there before it was told its status, and how it stands then
pub record Stood (table : Table) (sq line : ℕ) (is : Standing) : Type 0 where
  pub was : Standing
  pub stood : Has table.order sq line was
  pub becomes : Becomes (kept_of table sq) was is

stood-of : (table : Table) (sq line : ℕ) (is : Standing) (found : Option Member) → slice_get table.order sq ≡ found →
    Turns (kept_of table sq) found (Some (member_of line is)) → Stood table sq line is
stood-of table sq line is None e turns = absurd turns
stood-of table sq line is (Some old) e turns = record {
  was = old.standing;
  stood = e ∙ ap (λ l. Some (member_of l old.standing)) (sym turns.0);
  becomes = turns.1;
}

pub told-stood : (table : Table) (sq line : ℕ) (is : Standing) → Has (told_on table).order sq line is →
    Stood table sq line is
told-stood table sq line is has =
    stood-of table sq line is (slice_get table.order sq) refl
    (subst (Turns (kept_of table sq) (slice_get table.order sq)) has (told-turns table sq))

pub record Stands (table : Table) (sq line : ℕ) (was : Standing) : Type 0 where
  pub is : Standing
  pub stands : Has (told_on table).order sq line is
  pub becomes : Becomes (kept_of table sq) was is

stands-of : (table : Table) (sq line : ℕ) (was : Standing) (found : Option Member) →
    slice_get (told_on table).order sq ≡ found →
    Turns (kept_of table sq) (Some (member_of line was)) found → Stands table sq line was
stands-of table sq line was None e turns = absurd turns
stands-of table sq line was (Some new) e turns = record {
  is = new.standing;
  stands = e ∙ ap (λ l. Some (member_of l new.standing)) turns.0;
  becomes = turns.1;
}

pub told-stands : (table : Table) (sq line : ℕ) (was : Standing) → Has table.order sq line was →
    Stands table sq line was
told-stands table sq line was has =
    stands-of table sq line was (slice_get (told_on table).order sq) refl
    (subst (λ found. Turns (kept_of table sq) found (slice_get (told_on table).order sq)) has (told-turns table sq))

-- ---- what a change makes of the members
-- each member was one before, or is an ADD line
abbrev pub Stems : List Member → List Member → Type 0
Stems old new = (member : Member) → IsIn new member → (member.standing ≡ adding) ⊎ IsIn old member

pub data Follows (told next : Table) : Type 0 where
  unchanged : next ≡ told → Follows told next
  changes : next.count ≡ told.count + 1 → next.statuses ≡ none_kept → Stems told.order next.order → Follows told next

IsIn-later : (first member : Member) (order : List Member) → IsIn order member → IsIn (first ∷ order) member
IsIn-later first member order inside = (suc inside.0, inside.1)

-- a member at the front, or behind it
IsIn-cases : (first member : Member) (order : List Member) → IsIn (first ∷ order) member →
    (first ≡ member) ⊎ IsIn order member
IsIn-cases first member order (zero, e) = inl (same_Some first member e)
IsIn-cases first member order (suc sq, e) = inr (sq, e)

IsIn-further : (first member : Member) (new old : List Member) →
    (IsIn new member → IsIn old member) → IsIn (first ∷ new) member → IsIn (first ∷ old) member
IsIn-further first member new old on inside =
    elim (IsIn-cases first member new inside) [
      | inl here ↦ (zero, ap Some here)
      | inr later ↦ IsIn-later first member old (on later)
    ]

abbrev pub ComesFrom : Option (Member × List Member) → List Member → Type 0
ComesFrom None order = ⊤
ComesFrom (Some found) order = IsIn order found.0 × ((member : Member) → IsIn found.1 member → IsIn order member)

ComesFrom-later : (found : Option (Member × List Member)) (first : Member) (order : List Member) →
    ComesFrom found order →
    ComesFrom (option_map (λ found. (found.0, first ∷ found.1)) found) (first ∷ order)
ComesFrom-later None first order comes = tt
ComesFrom-later (Some found) first order comes = (
  IsIn-later first found.0 order comes.0,
  λ member. IsIn-further first member found.1 order (comes.1 member),
)

take_out-comes : (kept : ℕ → Option Bool) (base : ℕ) (order : List Member) →
    ComesFrom (take_out kept base order) order
unfolding take_out
take_out-comes kept base [] = tt
take_out-comes kept base (first ∷ order) =
    elim (is_adding first && is_ok (kept base))
    as (λ b. ComesFrom (if b then Some (first, order) else option_map (λ found. (found.0, first ∷ found.1))
    (take_out kept (base + 1) order)) (first ∷ order)) [
      | true ↦ ((zero, refl), λ member. IsIn-later first member order)
      | false ↦ ComesFrom-later (take_out kept (base + 1) order) first order (take_out-comes kept (base + 1) order)
    ]

abbrev pub StemsIn : List Member → Option (List Member) → Type 0
StemsIn order None = ⊤
StemsIn order (Some new) = (member : Member) → IsIn new member → IsIn order member

StemsIn-later : (found : Option (List Member)) (first : Member) (order : List Member) → StemsIn order found →
    StemsIn (first ∷ order) (option_map (λ rest. first ∷ rest) found)
StemsIn-later None first order stems = tt
StemsIn-later (Some new) first order stems = λ member. IsIn-further first member new order (stems member)

StemsIn-out : (found : Option (Member × List Member)) (first : Member) (order : List Member) → ComesFrom found order →
    StemsIn (first ∷ order) (option_map (λ found. found.0 ∷ first ∷ found.1) found)
StemsIn-out None first order comes = tt
StemsIn-out (Some found) first order comes = λ member inside.
    elim (IsIn-cases found.0 member (first ∷ found.1) inside) [
      | inl taken ↦ IsIn-later first member order (subst (IsIn order) taken comes.0)
      | inr later ↦ IsIn-further first member found.1 order (comes.1 member) later
    ]

exchange_on-stems : (adds fails : Bool) (first : Member) (order : List Member) (rest : Option (List Member))
    (found : Option (Member × List Member)) →
    StemsIn order rest → ComesFrom found order → StemsIn (first ∷ order) (exchange_on adds fails first rest found)
exchange_on-stems false fails first order rest found stems comes = StemsIn-later rest first order stems
exchange_on-stems true true first order rest found stems comes = StemsIn-out found first order comes
exchange_on-stems true false first order rest found stems comes = tt

exchange-stems : (kept : ℕ → Option Bool) (base : ℕ) (order : List Member) → StemsIn order (exchange kept base order)
unfolding exchange
exchange-stems kept base [] = tt
exchange-stems kept base (first ∷ order) =
    exchange_on-stems (is_adding first) (is_fail (kept base)) first order (exchange kept (base + 1) order)
    (take_out kept (base + 1) order)
    (exchange-stems kept (base + 1) order) (take_out-comes kept (base + 1) order)

-- a line that is added stands last, and one that is removed nowhere
added-stems : (order : List Member) (line : ℕ) → Stems order (order ++ member_of line adding ∷ [])
added-stems [] line member inside =
    elim (IsIn-cases (member_of line adding) member [] inside) [
      | inl here ↦ inl (ap (λ m. m.standing) (sym here))
      | inr later ↦ absurd (none-some member later.1)
    ]
added-stems (first ∷ order) line member inside =
    elim (IsIn-cases first member (order ++ member_of line adding ∷ []) inside) [
      | inl here ↦ inr (zero, ap Some here)
      | inr later ↦ elim (added-stems order line member later) [
        | inl adds ↦ inl adds
        | inr before ↦ inr (IsIn-later first member order before)
      ]
    ]

filtered-stems : (p : Member → Bool) (order : List Member) (member : Member) → IsIn (filter p order) member →
    IsIn order member
filtered-stems p [] member inside = absurd (none-some member inside.1)
filtered-stems p (first ∷ order) member inside =
    elim (p first) as (λ b. IsIn (if b then first ∷ filter p order else filter p order) member →
    IsIn (first ∷ order) member) [
      | true ↦ IsIn-further first member (filter p order) order (filtered-stems p order member)
      | false ↦ λ later. IsIn-later first member order (filtered-stems p order member later)
    ] inside

Follows-exchanged : (found : Option (List Member)) (table : Table) → StemsIn table.order found →
    Follows table (exchanged found table)
Follows-exchanged None table stems = unchanged refl
Follows-exchanged (Some order) table stems = changes refl refl (λ member inside. inr (stems member inside))

Follows-change_by : (commands : List Command) (source : Source) (table : Table) →
    Follows table (change_by commands source table).table
Follows-change_by [] source table =
    Follows-exchanged (exchange (kept_of table) 0 table.order) table (exchange-stems (kept_of table) 0 table.order)
Follows-change_by (add line ∷ commands) source table = changes refl refl (added-stems table.order line)
Follows-change_by (remove line ∷ commands) source table =
    changes refl refl (λ member inside. inr (filtered-stems (λ m. not (m.line == line)) table.order member inside))

pub Follows-change : (source : Source) (table : Table) → Follows table (change source table).table
Follows-change source table =
    elim table.acknowledged as (λ b. Follows table (if b then change_by source.waiting source table
    else record { table = table; planned = source.planned; waiting = source.waiting }).table) [
      | true ↦ Follows-change_by source.waiting source table
      | false ↦ unchanged refl
    ]

-- ---- and which of them it lets go
added-keeps : (order : List Member) (line : ℕ) (member : Member) → IsIn order member →
    IsIn (order ++ member_of line adding ∷ []) member
added-keeps [] line member inside = absurd (none-some member inside.1)
added-keeps (first ∷ order) line member inside =
    IsIn-further first member order (order ++ member_of line adding ∷ []) (added-keeps order line member) inside

filtered-keeps : (p : Member → Bool) (order : List Member) (member : Member) → p member ≡ true → IsIn order member →
    IsIn (filter p order) member
filtered-keeps p [] member holds inside = inside
filtered-keeps p (first ∷ order) member holds inside =
    elim (p first) as (λ b. p first ≡ b → IsIn (if b then first ∷ filter p order else filter p order) member) [
      | true ↦ λ e. IsIn-further first member order (filter p order) (filtered-keeps p order member holds) inside
      | false ↦ λ e.
          elim (IsIn-cases first member order inside) [
            | inl here ↦ absurd (let f : p member ≡ false = subst (λ m. p m ≡ false) here e in cc)
            | inr later ↦ filtered-keeps p order member holds later
          ]
    ] refl

exchanged-keeps : (found : Option (List Member)) (table : Table) (member : Member) → IsKept found member →
    IsIn table.order member → IsIn (exchanged found table).order member
exchanged-keeps None table member kept inside = inside
exchanged-keeps (Some order) table member kept inside = kept

change_by-keeps : (commands : List Command) (source : Source) (table : Table) (member : Member) →
    (first_of commands ≡ Some (remove member.line) → ⊥) → IsIn table.order member →
    IsIn (change_by commands source table).table.order member
change_by-keeps [] source table member stays inside =
    exchanged-keeps (exchange (kept_of table) 0 table.order) table member
    (exchange-keeps (kept_of table) 0 table.order member inside.0 inside.1) inside
change_by-keeps (add line ∷ commands) source table member stays inside =
    added-keeps table.order line member inside
change_by-keeps (remove line ∷ commands) source table member stays inside =
    elim (member.line == line) as (λ b. (member.line == line) ≡ b →
    IsIn (filter (λ m. not (m.line == line)) table.order) member) [
      | true ↦ λ e. absurd (stays (ap (λ l. Some (remove l)) (sym (eqb-true member.line line e))))
      | false ↦ λ e. filtered-keeps (λ m. not (m.line == line)) table.order member (ap not e) inside
    ] refl

pub change-keeps : (source : Source) (table : Table) (member : Member) →
    ((if table.acknowledged then first_of source.waiting else None) ≡ Some (remove member.line) → ⊥) →
    IsIn table.order member → IsIn (change source table).table.order member
change-keeps source table member stays inside =
    elim table.acknowledged as (λ b. ((if b then first_of source.waiting else None) ≡ Some (remove member.line) → ⊥) →
    IsIn (if b then change_by source.waiting source table
    else record { table = table; planned = source.planned; waiting = source.waiting }).table.order member) [
      | true ↦ λ stays. change_by-keeps source.waiting source table member stays inside
      | false ↦ λ stays. inside
    ] stays
