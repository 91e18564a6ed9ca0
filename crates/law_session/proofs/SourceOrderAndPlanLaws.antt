-- The order of a source, in which no line stands twice, and its waiting commands, which lead to the planned set.
use Rattle.std.proofs.Common.{◌≡◌, ℕ, zero, suc, ◌+◌, ◌-◌, ◌%◌, ◌<◌, ◌≤◌, ◌==◌, ◌&&◌, not, nat_le, Bool, true, false}
use Rattle.std.proofs.Common.{if◌then◌else◌, inl, inr, List, [], ◌∷◌, ◌++◌, filter, length, Option, Some, None}
use Rattle.std.proofs.Common.{option_map, slice_get, slice_index_or, slice_set, refl, sym, ◌∙◌, ap, subst, arith}
use Rattle.std.specs.Bool.{⊤}
use Rattle.std.proofs.lemmas.Bool.{cases_lt, leb-false, eqb-true, eq-eqb, eqb-false}
use Rattle.std.proofs.lemmas.List.{length-append, length-replicate, map-append, length-map, length-set}
use Rattle.std.proofs.lemmas.List.{get_or-set_same, get_or-set_other}
use Rattle.law_model.proofs.ListLaws.{replicate-at}
use Rattle.law_model.specs.Common.{Scenario, orders_at, kept_of, member_of, Table, Told, is_adding, is_ok, is_fail}
use Rattle.law_model.specs.Common.{heard, told_on, changed, carried_out, take_out, exchange, exchanged, Source}
use Rattle.law_model.specs.Common.{planned_of, accepted, line_of, refusal, asked, asked_by, asked_all, change_by}
use Rattle.law_model.specs.Common.{change, decide, cell_at, after, most_pending}
use Rattle.law_model.specs.declared.lcas_states.Command.{Command}
use Rattle.law_model.specs.declared.item_refusals.CommandFault.{CommandFault}
use Rattle.law_model.specs.declared.item_refusals.CommandFault.TheVariants.{UnknownLine, AlreadyIn, NotIn}
use Rattle.law_model.specs.declared.item_refusals.CommandFault.TheVariants.{TooManyPending}
use Rattle.law_model.specs.declared.lcas_states.Member.{Member}
use Rattle.law_model.specs.declared.lcas_states.Command.TheVariants.{Add as add, Remove as remove}
use Rattle.law_model.specs.declared.lcas_states.Standing.TheVariants.{Add as adding}
use Rattle.law_model.specs.source.Source.{opening, is_add}
use Rattle.law_session.specs.Feedback.{lines_of}
use Rattle.law_session.proofs.DecisionStepMemberLaws.{told_on-lines, heard-order}
use Rattle.law_session.proofs.AdmittedAndExchangedLineLaws.{Has, exchange_on}
use Rattle.std.proofs.lemmas.Option.{none-some, slice_get-map}

-- No line stands twice in the order, and each is one of the session's: so the order is no longer than there are lines.
-- how often a number stands in a list
abbrev pub one : ℕ → ℕ → ℕ
one x l = if x == l then 1 else 0

abbrev pub times : List ℕ → ℕ → ℕ
times [] l = 0
times (x ∷ xs) l = one x l + times xs l

times-append : (xs ys : List ℕ) (l : ℕ) → times (xs ++ ys) l ≡ times xs l + times ys l
times-append [] ys l = let e : times ys l ≡ 0 + times ys l = omega arith in e
times-append (x ∷ xs) ys l = let rest = times-append xs ys l in
    let e : one x l + times (xs ++ ys) l ≡ one x l + times xs l + times ys l = omega (arith, rest) in e

-- ---- numbers below a bound that stand at most once
abbrev pub total : ℕ → (ℕ → ℕ) → ℕ
total zero f = 0
total (suc n) f = f n + total n f

total-at_most : (n : ℕ) (f : ℕ → ℕ) → ((l : ℕ) → f l ≤ 1) → total n f ≤ n
total-at_most zero f h = omega arith
total-at_most (suc n) f h = let rest = total-at_most n f h in let here = h n in omega arith

total-add : (n : ℕ) (f g : ℕ → ℕ) → total n (λ l. f l + g l) ≡ total n f + total n g
total-add zero f g = omega arith
total-add (suc n) f g = let rest = total-add n f g in omega arith

total-zero : (n : ℕ) → total n (λ l. 0) ≡ 0
total-zero zero = refl
total-zero (suc n) = let rest = total-zero n in omega arith

total-above : (n x : ℕ) → n ≤ x → total n (one x) ≡ 0
total-above zero x h = refl
total-above (suc n) x h =
    let rest = total-above n x (omega arith) in
    elim (x == n) as (λ b. (x == n) ≡ b → (if b then 1 else 0) + total n (one x) ≡ 0) [
      | true ↦ λ e. let same = eqb-true x n e in absurd (omega arith)
      | false ↦ λ e. omega arith
    ] refl

below : (x n : ℕ) → x < suc n → (x ≡ n → ⊥) → x < n
below x n h other = elim (cases_lt x n) [ inl less ↦ less | inr more ↦ absurd (other (omega arith)) ]

total-one : (n x : ℕ) → x < n → total n (one x) ≡ 1
total-one zero x h = absurd (omega arith)
total-one (suc n) x h =
    elim (x == n) as (λ b. (x == n) ≡ b → (if b then 1 else 0) + total n (one x) ≡ 1) [
      | true ↦ λ e. let same = eqb-true x n e in let rest = total-above n x (omega arith) in omega arith
      | false ↦ λ e. let other = eqb-false x n e in let rest = total-one n x (below x n h other) in omega arith
    ] refl

abbrev pub IsBelow : ℕ → (ℕ → ℕ) → Type 0
IsBelow n f = (l : ℕ) → n ≤ l → f l ≡ 0

pub one-self : (x : ℕ) → one x x ≡ 1
one-self x = rw (eq-eqb x x refl) refl

length-total : (n : ℕ) (xs : List ℕ) → IsBelow n (times xs) → length xs ≡ total n (times xs)
length-total n [] inside = sym (total-zero n)
length-total n (x ∷ xs) inside =
    let rest = length-total n xs (λ l high. let e = inside l high in omega arith) in
    let sums = total-add n (one x) (times xs) in
    let self = one-self x in
    elim (cases_lt x n) [
      | inl low ↦ let first = total-one n x low in
          (let e : suc (length xs) ≡ total n (times (x ∷ xs)) = omega arith in e)
      | inr high ↦ let none = inside x high in absurd (omega arith)
    ]

length-at_most : (n : ℕ) (xs : List ℕ) → IsBelow n (times xs) → ((l : ℕ) → times xs l ≤ 1) → length xs ≤ n
length-at_most n xs inside once = let whole = length-total n xs inside in let most = total-at_most n (times xs) once in
    omega arith

-- ---- an exchange only moves lines
abbrev pub SameTimes : Option (List Member) → List Member → Type 0
SameTimes None order = ⊤
SameTimes (Some new) order = (l : ℕ) → times (lines_of new) l ≡ times (lines_of order) l

abbrev pub TakesOne : Option (Member × List Member) → List Member → Type 0
TakesOne None order = ⊤
TakesOne (Some found) order = (l : ℕ) → one found.0.line l + times (lines_of found.1) l ≡ times (lines_of order) l

TakesOne-later : (found : Option (Member × List Member)) (member : Member) (order : List Member) →
    TakesOne found order →
    TakesOne (option_map (λ found. (found.0, member ∷ found.1)) found) (member ∷ order)
TakesOne-later None member order takes = tt
TakesOne-later (Some found) member order takes = λ l. let e = takes l in omega arith

take_out-one : (kept : ℕ → Option Bool) (base : ℕ) (order : List Member) → TakesOne (take_out kept base order) order
unfolding take_out
take_out-one kept base [] = tt
take_out-one kept base (member ∷ order) =
    elim (is_adding member && is_ok (kept base))
    as (λ b. TakesOne (if b then Some (member, order) else option_map (λ found. (found.0, member ∷ found.1))
    (take_out kept (base + 1) order)) (member ∷ order)) [
      | true ↦ λ l. refl
      | false ↦ TakesOne-later (take_out kept (base + 1) order) member order (take_out-one kept (base + 1) order)
    ]

SameTimes-later : (found : Option (List Member)) (member : Member) (order : List Member) → SameTimes found order →
    SameTimes (option_map (λ rest. member ∷ rest) found) (member ∷ order)
SameTimes-later None member order same = tt
SameTimes-later (Some new) member order same = λ l. let e = same l in omega arith

SameTimes-out : (found : Option (Member × List Member)) (member : Member) (order : List Member) → TakesOne found order →
    SameTimes (option_map (λ found. found.0 ∷ member ∷ found.1) found) (member ∷ order)
SameTimes-out None member order takes = tt
SameTimes-out (Some found) member order takes = λ l. let e = takes l in omega arith

exchange_on-same : (adds fails : Bool) (member : Member) (order : List Member) (rest : Option (List Member))
    (found : Option (Member × List Member)) →
    SameTimes rest order → TakesOne found order → SameTimes (exchange_on adds fails member rest found) (member ∷ order)
exchange_on-same false fails member order rest found same takes = SameTimes-later rest member order same
exchange_on-same true true member order rest found same takes = SameTimes-out found member order takes
exchange_on-same true false member order rest found same takes = tt

exchange-same : (kept : ℕ → Option Bool) (base : ℕ) (order : List Member) → SameTimes (exchange kept base order) order
unfolding exchange
exchange-same kept base [] = tt
exchange-same kept base (member ∷ order) =
    exchange_on-same (is_adding member) (is_fail (kept base)) member order (exchange kept (base + 1) order)
    (take_out kept (base + 1) order)
    (exchange-same kept (base + 1) order) (take_out-one kept (base + 1) order)

-- ---- the commands that wait can be carried out one after the other, and lead to the planned set
abbrev pub with_line : ℕ → ℕ → (ℕ → ℕ) → ℕ → ℕ
with_line line n f l = if l == line then n else f l

abbrev pub IsPlan : ℕ → (ℕ → ℕ) → List Command → (ℕ → Bool) → Type 0
IsPlan lines f [] planned = (l : ℕ) → f l ≡ (if planned l then 1 else 0)
IsPlan lines f (add line ∷ commands) planned = (line < lines) × (f line ≡ 0) ×
    IsPlan lines (with_line line 1 f) commands planned
IsPlan lines f (remove line ∷ commands) planned = (line < lines) × (f line ≡ 1) ×
    IsPlan lines (with_line line 0 f) commands planned

with_line-same : (line n : ℕ) (f g : ℕ → ℕ) → ((l : ℕ) → f l ≡ g l) → (l : ℕ) →
    with_line line n f l ≡ with_line line n g l
with_line-same line n f g same l = ap (λ x. if l == line then n else x) (same l)

IsPlan-same : (lines : ℕ) (f g : ℕ → ℕ) (commands : List Command) (planned : ℕ → Bool) → ((l : ℕ) → f l ≡ g l) →
    IsPlan lines f commands planned → IsPlan lines g commands planned
IsPlan-same lines f g [] planned same plan = λ l. sym (same l) ∙ plan l
IsPlan-same lines f g (add line ∷ commands) planned same plan = (
  plan.0,
  sym (same line) ∙ plan.1,
  IsPlan-same lines (with_line line 1 f) (with_line line 1 g) commands planned
      (with_line-same line 1 f g same) plan.2,
)
IsPlan-same lines f g (remove line ∷ commands) planned same plan = (
  plan.0,
  sym (same line) ∙ plan.1,
  IsPlan-same lines (with_line line 0 f) (with_line line 0 g) commands planned
      (with_line-same line 0 f g same) plan.2,
)

pub flag_most : (b : Bool) → (if b then 1 else 0) ≤ 1
flag_most true = omega arith
flag_most false = omega arith

with_line-once : (line n : ℕ) (f : ℕ → ℕ) → f line ≤ 1 → ((l : ℕ) → with_line line n f l ≤ 1) → (l : ℕ) → f l ≤ 1
with_line-once line n f here once l =
    elim (l == line) as (λ b. (l == line) ≡ b → (if b then n else f l) ≤ 1 → f l ≤ 1) [
      | true ↦ λ e h. let same = eqb-true l line e in rw same here
      | false ↦ λ e h. h
    ] refl (once l)

pub IsPlan-once : (lines : ℕ) (f : ℕ → ℕ) (commands : List Command) (planned : ℕ → Bool) →
    IsPlan lines f commands planned → (l : ℕ) → f l ≤ 1
IsPlan-once lines f [] planned plan l = let e = plan l in let most = flag_most (planned l) in omega arith
IsPlan-once lines f (add line ∷ commands) planned plan l =
    let none = plan.1 in with_line-once line 1 f (omega arith)
    (IsPlan-once lines (with_line line 1 f) commands planned plan.2) l
IsPlan-once lines f (remove line ∷ commands) planned plan l =
    let one = plan.1 in with_line-once line 0 f (omega arith)
    (IsPlan-once lines (with_line line 0 f) commands planned plan.2) l

-- one more command
abbrev pub planned_by : Command → (ℕ → Bool) → ℕ → Bool
planned_by command planned = λ line. if line == line_of command then is_add command else planned line

with_line-flag : (b : Bool) (n : ℕ) (planned : ℕ → Bool) (f : ℕ → ℕ) (line : ℕ) → n ≡ (if b then 1 else 0) →
    ((l : ℕ) → f l ≡ (if planned l then 1 else 0)) →
    (l : ℕ) → with_line line n f l ≡ (if (if l == line then b else planned l) then 1 else 0)
with_line-flag b n planned f line e plan l =
    elim (l == line) as (λ c. (if c then n else f l) ≡ (if (if c then b else planned l) then 1 else 0))
    [ true ↦ e | false ↦ plan l ]

IsPlan-more : (lines : ℕ) (f : ℕ → ℕ) (commands : List Command) (planned : ℕ → Bool) (command : Command) →
    line_of command < lines → planned (line_of command) ≡ not (is_add command) →
    IsPlan lines f commands planned → IsPlan lines f (commands ++ command ∷ []) (planned_by command planned)
IsPlan-more lines f [] planned (add line) inside free plan =
    (inside, plan line ∙ ap (λ b. if b then 1 else 0) free, with_line-flag true 1 planned f line refl plan)
IsPlan-more lines f [] planned (remove line) inside free plan =
    (inside, plan line ∙ ap (λ b. if b then 1 else 0) free, with_line-flag false 0 planned f line refl plan)
IsPlan-more lines f (add line ∷ commands) planned command inside free plan =
    (plan.0, plan.1, IsPlan-more lines (with_line line 1 f) commands planned command inside free plan.2)
IsPlan-more lines f (remove line ∷ commands) planned command inside free plan =
    (plan.0, plan.1, IsPlan-more lines (with_line line 0 f) commands planned command inside free plan.2)

-- ---- the source
abbrev pub standing_of : Table → ℕ → ℕ
standing_of table = times (lines_of table.order)

abbrev pub FitsTable : ℕ → Table → List Command → (ℕ → Bool) → Type 0
FitsTable lines table commands planned = IsBelow lines (standing_of table) ×
    IsPlan lines (standing_of table) commands planned

abbrev pub FitsParts : ℕ → Source → Type 0
FitsParts lines source = FitsTable lines source.table source.waiting (planned_of source)

abbrev pub Fits : ℕ → Source → Type 0
Fits lines source = FitsParts lines source × (length source.planned ≡ lines)

-- what an accepted command meets
pub record Meets (lines : ℕ) (command : Command) (source : Source) : Type 0 where
  pub inside : line_of command < lines
  pub free : planned_of source (line_of command) ≡ not (is_add command)

refusal_by : ℕ → Bool → Bool → Bool → Bool → Option CommandFault
refusal_by lines unknown adds planned full =
    if unknown then Some (UnknownLine lines)
    else if adds && planned then Some AlreadyIn
    else if not adds && not planned then Some NotIn
    else if full then Some (TooManyPending most_pending)
    else None

pub some_refusal : (fault : CommandFault) → Some fault ≡ None → ⊥
some_refusal fault e = cc

meets_flags : (lines : ℕ) (unknown adds planned full : Bool) → refusal_by lines unknown adds planned full ≡ None →
    (unknown ≡ false) × (planned ≡ not adds)
unfolding refusal_by
meets_flags lines true adds planned full e = absurd (some_refusal (UnknownLine lines) e)
meets_flags lines false true true full e = absurd (some_refusal AlreadyIn e)
meets_flags lines false true false full e = (refl, refl)
meets_flags lines false false true full e = (refl, refl)
meets_flags lines false false false full e = absurd (some_refusal NotIn e)

meets : (lines : ℕ) (command : Command) (source : Source) → refusal lines command source ≡ None →
    Meets lines command source
unfolding refusal_by
meets lines command source e =
    let flags = meets_flags lines (nat_le lines (line_of command)) (is_add command)
    (planned_of source (line_of command)) (nat_le most_pending (length source.waiting)) e in
    record { inside = leb-false lines (line_of command) flags.0; free = flags.1 }

IsPlan-planned : (lines : ℕ) (f : ℕ → ℕ) (commands : List Command) (a b : ℕ → Bool) → ((l : ℕ) → a l ≡ b l) →
    IsPlan lines f commands a → IsPlan lines f commands b
IsPlan-planned lines f [] a b same plan = λ l. plan l ∙ ap (λ c. if c then 1 else 0) (same l)
IsPlan-planned lines f (add line ∷ commands) a b same plan =
    (plan.0, plan.1, IsPlan-planned lines (with_line line 1 f) commands a b same plan.2)
IsPlan-planned lines f (remove line ∷ commands) a b same plan =
    (plan.0, plan.1, IsPlan-planned lines (with_line line 0 f) commands a b same plan.2)

flags-set : (flags : List Bool) (line : ℕ) (b : Bool) (l : ℕ) → line < length flags →
    (if l == line then b else slice_index_or flags l false) ≡ slice_index_or (slice_set flags line b) l false
flags-set flags line b l inside =
    elim (l == line) as (λ c. (l == line) ≡ c →
    (if c then b else slice_index_or flags l false) ≡ slice_index_or (slice_set flags line b) l false) [
      | true ↦ λ e. let same = eqb-true l line e in rw same (sym (get_or-set_same flags line b false inside))
      | false ↦ λ e. sym (get_or-set_other flags line l b false (eqb-false l line e))
    ] refl

pub Fits-asked : (lines : ℕ) (source : Source) (command : Command) → Fits lines source →
    Fits lines (asked lines source command)
Fits-asked lines source command fits =
    elim (refusal lines command source)
    as (λ r. refusal lines command source ≡ r → Fits lines (asked_by r command source)) [
      | None ↦ λ e.
          let met = meets lines command source e in
          let inside = met.inside in
          let size = fits.1 in (
            (
              fits.0.0,
              IsPlan-planned lines (standing_of source.table) (source.waiting ++ command ∷ [])
                  (planned_by command (planned_of source)) (planned_of (accepted command source))
                  (λ l. flags-set source.planned (line_of command) (is_add command) l (omega arith))
                  (IsPlan-more lines (standing_of source.table) source.waiting
                  (planned_of source) command met.inside met.free fits.0.1),
            ),
            length-set source.planned (line_of command) (is_add command) ∙ size,
          )
      | Some why ↦ λ e. fits
    ] refl

Fits-asked_all : (lines : ℕ) (commands : List Command) (source : Source) → Fits lines source →
    Fits lines (asked_all lines commands source)
Fits-asked_all lines [] source fits = fits
Fits-asked_all lines (command ∷ commands) source fits =
    Fits-asked_all lines commands (asked lines source command) (Fits-asked lines source command fits)

-- ---- a decision step
FitsTable-same : (lines : ℕ) (f g : Table) (commands : List Command) (planned : ℕ → Bool) →
    ((l : ℕ) → standing_of f l ≡ standing_of g l) → FitsTable lines f commands planned →
    FitsTable lines g commands planned
FitsTable-same lines f g commands planned same fits = (
  λ l high. sym (same l) ∙ fits.0 l high,
  IsPlan-same lines (standing_of f) (standing_of g) commands planned same fits.1,
)

one-other : (x l : ℕ) → (l ≡ x → ⊥) → one x l ≡ 0
one-other x l other =
    elim (x == l) as (λ b. (x == l) ≡ b → if◌then◌else◌ {A = ℕ} b 1 0 ≡ 0) [
      | true ↦ λ e. absurd (other (sym (eqb-true x l e)))
      | false ↦ λ e. refl
    ] refl

with_line-add : (line : ℕ) (f : ℕ → ℕ) → f line ≡ 0 → (l : ℕ) → with_line line 1 f l ≡ f l + one line l
with_line-add line f none l =
    elim (l == line) as (λ b. (l == line) ≡ b → (if b then 1 else f l) ≡ f l + one line l) [
      | true ↦ λ e. let same = eqb-true l line e in let self = one-self line in
          rw same (let whole : 1 ≡ f line + one line line = omega arith in whole)
      | false ↦ λ e. let none = one-other line l (eqb-false l line e) in
          (let whole : f l ≡ f l + one line l = omega arith in whole)
    ] refl

with_line-below : (lines line n : ℕ) (f : ℕ → ℕ) → line < lines → IsBelow lines f → IsBelow lines (with_line line n f)
with_line-below lines line n f inside below l high =
    elim (l == line) as (λ b. (l == line) ≡ b → (if b then n else f l) ≡ 0) [
      | true ↦ λ e. let same = eqb-true l line e in absurd (omega arith)
      | false ↦ λ e. below l high
    ] refl

standing_of-added : (line : ℕ) (table : Table) → standing_of table line ≡ 0 → (l : ℕ) →
    with_line line 1 (standing_of table) l ≡ standing_of (carried_out (add line) table) l
standing_of-added line table none l =
    with_line-add line (standing_of table) none l
    ∙ (let more : times (lines_of table.order ++ line ∷ []) l ≡ standing_of table l + (one line l + 0) =
    times-append (lines_of table.order) (line ∷ []) l in
    let e : standing_of table l + one line l ≡ times (lines_of table.order ++ line ∷ []) l = omega arith in e)
    ∙ ap (λ lines. times lines l) (sym (map-append (λ member. member.line) table.order (member_of line adding ∷ [])))

-- a line is gone
gone_same : (line x l n m : ℕ) → x ≡ line → (if l == line then 0 else n) ≡ m →
    (if l == line then 0 else one x l + n) ≡ m
gone_same line x l n m same rest =
    elim (l == line) as (λ b. (l == line) ≡ b → (if b then 0 else n) ≡ m → (if b then 0 else one x l + n) ≡ m) [
      | true ↦ λ e rest. rest
      | false ↦ λ e rest. let none = one-other x l (λ h. eqb-false l line e (h ∙ same)) in omega arith
    ] refl rest

gone_other : (line x l n m : ℕ) → (x ≡ line → ⊥) → (if l == line then 0 else n) ≡ m →
    (if l == line then 0 else one x l + n) ≡ one x l + m
gone_other line x l n m other rest =
    elim (l == line) as (λ b. (l == line) ≡ b → (if b then 0 else n) ≡ m → (if b then 0 else one x l + n)
    ≡ one x l + m) [
      | true ↦ λ e rest. let none = one-other x l (λ h. other (sym h ∙ eqb-true l line e)) in omega arith
      | false ↦ λ e rest. omega arith
    ] refl rest

times-without : (line : ℕ) (order : List Member) (l : ℕ) →
    with_line line 0 (times (lines_of order)) l ≡ times (lines_of (filter (λ member. not (member.line == line)) order))
    l
times-without line [] l = elim (l == line) as (λ b. if◌then◌else◌ {A = ℕ} b 0 0 ≡ 0) [ true ↦ refl | false ↦ refl ]
times-without line (member ∷ order) l =
    let rest = times-without line order l in
    elim (member.line == line) as (λ b. (member.line == line) ≡ b →
    with_line line 0 (times (member.line ∷ lines_of order)) l
    ≡ times (lines_of (if not b then member ∷ filter (λ member. not (member.line == line)) order else filter
    (λ member. not (member.line == line)) order)) l) [
      | true ↦ λ e. gone_same line member.line l (times (lines_of order) l) _ (eqb-true member.line line e) rest
      | false ↦ λ e. gone_other line member.line l (times (lines_of order) l) _ (eqb-false member.line line e) rest
    ] refl

Fits-exchanged : (lines : ℕ) (found : Option (List Member)) (table : Table) (commands : List Command)
    (planned : ℕ → Bool) → SameTimes found table.order →
    FitsTable lines table commands planned → FitsTable lines (exchanged found table) commands planned
Fits-exchanged lines None table commands planned same fits = fits
Fits-exchanged lines (Some order) table commands planned same fits =
    FitsTable-same lines table (changed order table.leaving table) commands planned (λ l. sym (same l)) fits

Fits-change_by : (lines : ℕ) (commands : List Command) (source : Source) (table : Table) →
    FitsTable lines table commands (planned_of source) → FitsParts lines (change_by commands source table)
Fits-change_by lines [] source table fits =
    Fits-exchanged lines (exchange (kept_of table) 0 table.order) table [] (planned_of source)
    (exchange-same (kept_of table) 0 table.order) fits
Fits-change_by lines (add line ∷ commands) source table fits =
    let plan = fits.1 in
    let same = standing_of-added line table plan.1 in (
      λ l high. sym (same l) ∙ with_line-below lines line 1 (standing_of table) plan.0 fits.0 l high,
      IsPlan-same lines (with_line line 1 (standing_of table)) (standing_of (carried_out (add line) table)) commands
          (planned_of source) same plan.2,
    )
Fits-change_by lines (remove line ∷ commands) source table fits =
    let plan = fits.1 in
    let same = times-without line table.order in (
      λ l high. sym (same l) ∙ with_line-below lines line 0 (standing_of table) plan.0 fits.0 l high,
      IsPlan-same lines (with_line line 0 (standing_of table)) (standing_of (carried_out (remove line) table)) commands
          (planned_of source) same plan.2,
    )

Fits-change : (lines : ℕ) (source : Source) (table : Table) → FitsTable lines table source.waiting (planned_of source) →
    FitsParts lines (change source table)
Fits-change lines source table fits =
    elim table.acknowledged as (λ b. FitsParts lines
    (if b then change_by source.waiting source table
    else record { table = table; planned = source.planned; waiting = source.waiting })) [
      | true ↦ Fits-change_by lines source.waiting source table fits
      | false ↦ fits
    ]

change_by-planned : (commands : List Command) (source : Source) (table : Table) →
    (change_by commands source table).planned ≡ source.planned
change_by-planned [] source table = refl
change_by-planned (command ∷ commands) source table = refl

change-planned : (source : Source) (table : Table) → (change source table).planned ≡ source.planned
change-planned source table =
    elim table.acknowledged as (λ b.
    (if b then change_by source.waiting source table
    else record { table = table; planned = source.planned; waiting = source.waiting }).planned ≡ source.planned) [
      | true ↦ change_by-planned source.waiting source table
      | false ↦ refl
    ]

pub opening-fits : (lines : ℕ) → Fits lines (opening lines)
opening-fits lines = (
  (λ l high. refl, λ l. ap (λ b. if b then 1 else 0) (sym (replicate-at lines false l))),
  length-replicate lines false,
)

pub Fits-decide : (lines group : ℕ) (told : Option Told) (source : Source) → Fits lines source →
    Fits lines (decide group told source)
Fits-decide lines group told source fits =
    let table = told_on (heard group told source.table) in
    let same = told_on-lines (heard group told source.table) ∙ ap lines_of (heard-order group told source.table) in (
      Fits-change lines source table
          (FitsTable-same lines source.table table source.waiting (planned_of source)
          (λ l. ap (λ lines. times lines l) (sym same)) fits.0),
      ap length (change-planned source table) ∙ fits.1,
    )

pub Fits-after : (scenario : Scenario) (cells : List (Option Told)) (j : ℕ) →
    Fits (length scenario.windows) (after scenario cells j)
unfolding after
Fits-after scenario cells zero = opening-fits (length scenario.windows)
Fits-after scenario cells (suc j) =
    Fits-decide (length scenario.windows) ((j - scenario.lag) % scenario.options.statuses) (cell_at scenario cells j)
    (asked_all (length scenario.windows) (orders_at scenario j) (after scenario cells j))
    (Fits-asked_all (length scenario.windows) (orders_at scenario j) (after scenario cells j)
    (Fits-after scenario cells j))

-- the order is no longer than there are lines
pub Fits-size : (lines : ℕ) (source : Source) → Fits lines source → length source.table.order ≤ lines
Fits-size lines source fits =
    let order = source.table.order in
    let most = length-at_most lines (lines_of order) fits.0.0
    (IsPlan-once lines (times (lines_of order)) source.waiting (planned_of source) fits.0.1) in
    let same = length-map order (λ member. member.line) in
    omega arith

-- an order that a line is to be added to is shorter than that
pub Fits-room : (lines : ℕ) (source : Source) (line : ℕ) (commands : List Command) → Fits lines source →
    source.waiting ≡ add line ∷ commands →
    length source.table.order < lines
Fits-room lines source line commands fits waits =
    let plan = subst (λ waiting. FitsTable lines source.table waiting (planned_of source)) waits fits.0 in
    let more = Fits-size lines (change_by (add line ∷ commands) source source.table)
    (Fits-change_by lines (add line ∷ commands) source source.table plan, fits.1) in
    let longer = length-append source.table.order (member_of line adding ∷ []) in
    omega arith

pub order-length : (scenario : Scenario) (cells : List (Option Told)) (j : ℕ) →
    length (after scenario cells j).table.order ≤ length scenario.windows
order-length scenario cells j =
    Fits-size (length scenario.windows) (after scenario cells j) (Fits-after scenario cells j)

-- a line of the order is one of the session's
pub times-some : (xs : List ℕ) (s x : ℕ) → slice_get xs s ≡ Some x → 1 ≤ times xs x
times-some [] s x e = absurd (none-some x e)
times-some (y ∷ xs) zero x e =
    let same : y ≡ x = ap (λ o. elim o [ None ↦ y | Some z ↦ z ]) e in
    let self = one-self x in
    let first : one y x ≡ 1 = rw same self in
    omega arith
times-some (y ∷ xs) (suc s) x e = let rest = times-some xs s x e in omega arith

pub line-inside : (scenario : Scenario) (cells : List (Option Told)) (j s line : ℕ) →
    Has (after scenario cells j).table.order s line adding → line < length scenario.windows
line-inside scenario cells j s line has =
    let lines = lines_of (after scenario cells j).table.order in
    let there : slice_get lines s ≡ Some line =
    slice_get-map (λ member. member.line) (after scenario cells j).table.order s
    ∙ ap (option_map (λ member. member.line)) has in
    let some = times-some lines s line there in
    elim (cases_lt line (length scenario.windows)) [
      | inl low ↦ low
      | inr high ↦ let none = (Fits-after scenario cells j).0.0 line high in absurd (omega arith)
    ]
