-- What turning, admitting and exchanging make of the lines of an order: which stays in ADD, and which is in use.
use Rattle.std.proofs.Common.{◌≡◌, ◌⊎◌, ℕ, zero, suc, ◌+◌, ◌<◌, ◌≤◌, ◌&&◌, not, Bool, true, false, if◌then◌else◌, inl}
use Rattle.std.proofs.Common.{inr, List, [], ◌∷◌, Option, Some, None, slice_get, option_map, refl, sym, ◌∙◌, ap, subst}
use Rattle.std.proofs.Common.{arith}
use Rattle.std.specs.Bool.{⊤}
use Rattle.std.proofs.lemmas.Option.{none-some, same_Some}
use Rattle.std.proofs.lemmas.Bool.{and_parts}
use Rattle.law_model.specs.Common.{member_of, is_adding, is_ok, is_fail, in_use, admit, turn, turned, take_out}
use Rattle.law_model.specs.Common.{exchange}
use Rattle.law_model.specs.declared.lcas_states.Standing.{Standing}
use Rattle.law_model.specs.declared.lcas_states.Member.{Member}
use Rattle.law_model.specs.declared.lcas_states.Standing.TheVariants.{Add as adding, Norm as normal, Dnu as unused}
use Rattle.law_model.specs.source.Table.{is_add}

-- What becomes of an ADD line in a decision step: how long it stays one, and when it is in use.
-- ---- the members of an order
abbrev pub Has : List Member → ℕ → ℕ → Standing → Type 0
Has order sq line standing = slice_get order sq ≡ Some (member_of line standing)

pub Has-line : (member : Member) (line : ℕ) (standing : Standing) → Some member ≡ Some (member_of line standing) →
    member.line ≡ line
Has-line member line standing e = ap (λ found. elim found [ None ↦ 0 | Some m ↦ m.line ]) e

pub Has-standing : (member : Member) (line : ℕ) (standing : Standing) → Some member ≡ Some (member_of line standing) →
    member.standing ≡ standing
Has-standing member line standing e = ap (λ found. elim found [ None ↦ adding | Some m ↦ m.standing ]) e

-- ---- a line that is turned
turn-adding : (status : Option Bool) (standing : Standing) → turn status standing ≡ adding → standing ≡ adding
turn-adding None standing e = e
turn-adding (Some ok) adding e = refl
turn-adding (Some true) normal e = absurd cc
turn-adding (Some false) normal e = absurd cc
turn-adding (Some true) unused e = absurd cc
turn-adding (Some false) unused e = absurd cc

turn-normal : (status : Option Bool) → is_fail status ≡ false → turn status normal ≡ normal
turn-normal None e = refl
turn-normal (Some true) e = refl
turn-normal (Some false) e = absurd cc

turn-adds : (status : Option Bool) → turn status adding ≡ adding
turn-adds None = refl
turn-adds (Some ok) = refl

abbrev pub turned_member : Option Bool → Member → Member
turned_member status member = member_of member.line (turn status member.standing)

pub slice_get-turned : (kept : ℕ → Option Bool) (base : ℕ) (order : List Member) (sq : ℕ) →
    slice_get (turned kept base order) sq ≡ option_map (turned_member (kept (base + sq))) (slice_get order sq)
unfolding turned
slice_get-turned kept base [] sq = refl
slice_get-turned kept base (member ∷ order) zero = let e : base + zero ≡ base = omega arith in rw e refl
slice_get-turned kept base (member ∷ order) (suc sq) =
    let e : base + suc sq ≡ base + 1 + sq = omega arith in rw e (slice_get-turned kept (base + 1) order sq)

was_adding : (status : Option Bool) (found : Option Member) (line : ℕ) →
    option_map (turned_member status) found ≡ Some (member_of line adding) → found ≡ Some (member_of line adding)
was_adding status None line e = absurd (none-some (member_of line adding) e)
was_adding status (Some member) line e =
    let same : member.line ≡ line = Has-line (turned_member status member) line adding e in
    let stood : member.standing ≡ adding =
    turn-adding status member.standing (Has-standing (turned_member status member) line adding e) in
    ap (λ l. Some (member_of l member.standing)) same ∙ ap (λ s. Some (member_of line s)) stood

pub turned-adding : (kept : ℕ → Option Bool) (base : ℕ) (order : List Member) (sq line : ℕ) →
    Has (turned kept base order) sq line adding → Has order sq line adding
turned-adding kept base order sq line has =
    was_adding (kept (base + sq)) (slice_get order sq) line (sym (slice_get-turned kept base order sq) ∙ has)

pub turned-adds : (kept : ℕ → Option Bool) (base : ℕ) (order : List Member) (sq line : ℕ) → Has order sq line adding →
    Has (turned kept base order) sq line adding
turned-adds kept base order sq line has =
    slice_get-turned kept base order sq ∙ ap (option_map (turned_member (kept (base + sq)))) has
    ∙ ap (λ s. Some (member_of line s)) (turn-adds (kept (base + sq)))

pub turned-normal : (kept : ℕ → Option Bool) (base : ℕ) (order : List Member) (sq line : ℕ) →
    is_fail (kept (base + sq)) ≡ false →
    Has order sq line normal → Has (turned kept base order) sq line normal
turned-normal kept base order sq line fine has =
    slice_get-turned kept base order sq ∙ ap (option_map (turned_member (kept (base + sq)))) has
    ∙ ap (λ s. Some (member_of line s)) (turn-normal (kept (base + sq)) fine)

-- ---- a line that is admitted
abbrev pub admit_on : Bool → Bool → Member → List Member → List Member → List Member
admit_on adds ok member rest order =
    if not adds then member ∷ rest else if ok then in_use member ∷ rest else member ∷ order

admit_on-first : (adds ok : Bool) (member : Member) (rest order : List Member) (line : ℕ) →
    Has (admit_on adds ok member rest order) 0 line adding → Has (member ∷ order) 0 line adding
admit_on-first false ok member rest order line has = has
admit_on-first true true member rest order line has =
    absurd (let e = Has-standing (in_use member) line adding has in cc)
admit_on-first true false member rest order line has = has

admit_on-later : (adds ok : Bool) (member : Member) (rest order : List Member) (sq line : ℕ) →
    (Has rest sq line adding → Has order sq line adding) →
    Has (admit_on adds ok member rest order) (suc sq) line adding → Has order sq line adding
admit_on-later false ok member rest order sq line back has = back has
admit_on-later true true member rest order sq line back has = back has
admit_on-later true false member rest order sq line back has = has

-- an ADD line was one before
pub admit-adding : (kept : ℕ → Option Bool) (base : ℕ) (order : List Member) (sq line : ℕ) →
    Has (admit kept base order) sq line adding → Has order sq line adding
unfolding admit
admit-adding kept base [] sq line has = has
admit-adding kept base (member ∷ order) zero line has =
    admit_on-first (is_adding member) (is_ok (kept base)) member (admit kept (base + 1) order) order line has
admit-adding kept base (member ∷ order) (suc sq) line has =
    admit_on-later (is_adding member) (is_ok (kept base)) member (admit kept (base + 1) order) order sq line
    (admit-adding kept (base + 1) order sq line) has

-- an ADD line stays one or is in use
abbrev pub Admitted : List Member → ℕ → ℕ → Type 0
Admitted order sq line = Has order sq line adding ⊎ Has order sq line normal

admit_on-adds_first : (adds ok : Bool) (member : Member) (rest order : List Member) (line : ℕ) →
    Has (member ∷ order) 0 line adding → Admitted (admit_on adds ok member rest order) 0 line
admit_on-adds_first false ok member rest order line has = inl has
admit_on-adds_first true true member rest order line has =
    inr (ap (λ l. Some (member_of l normal)) (Has-line member line adding has))
admit_on-adds_first true false member rest order line has = inl has

admit_on-adds_later : (adds ok : Bool) (member : Member) (rest order : List Member) (sq line : ℕ) →
    Has order sq line adding → Admitted rest sq line → Admitted (admit_on adds ok member rest order) (suc sq) line
admit_on-adds_later false ok member rest order sq line has on = on
admit_on-adds_later true true member rest order sq line has on = on
admit_on-adds_later true false member rest order sq line has on = inl has

pub admit-adds : (kept : ℕ → Option Bool) (base : ℕ) (order : List Member) (sq line : ℕ) → Has order sq line adding →
    Admitted (admit kept base order) sq line
unfolding admit
admit-adds kept base [] sq line has = inl has
admit-adds kept base (member ∷ order) zero line has =
    admit_on-adds_first (is_adding member) (is_ok (kept base)) member (admit kept (base + 1) order) order line has
admit-adds kept base (member ∷ order) (suc sq) line has =
    admit_on-adds_later (is_adding member) (is_ok (kept base)) member (admit kept (base + 1) order) order sq line has
    (admit-adds kept (base + 1) order sq line has)

-- where each ADD line up to an ADD line has OK, that line is in use
abbrev pub Fine : (ℕ → Option Bool) → ℕ → List Member → ℕ → Type 0
Fine kept base order sq = (s line : ℕ) → s ≤ sq → Has order s line adding → is_ok (kept (base + s)) ≡ true

Fine-rest : (kept : ℕ → Option Bool) (base : ℕ) (member : Member) (order : List Member) (sq : ℕ) →
    Fine kept base (member ∷ order) (suc sq) → Fine kept (base + 1) order sq
Fine-rest kept base member order sq fine s line low has =
    let e : base + suc s ≡ base + 1 + s = omega arith in
    let ok = fine (suc s) line (omega arith) has in rw e at ok

pub adding_of : (standing : Standing) → is_add standing ≡ true → standing ≡ adding
adding_of adding e = refl
adding_of normal e = absurd cc
adding_of unused e = absurd cc

is_adding-standing : (member : Member) → is_adding member ≡ true → member.standing ≡ adding
is_adding-standing member e = adding_of member.standing e

admit_on-all : (adds ok : Bool) (member : Member) (rest order : List Member) (sq line : ℕ) → (adds ≡ true → ok ≡ true) →
    Has rest sq line normal → Has (admit_on adds ok member rest order) (suc sq) line normal
admit_on-all false ok member rest order sq line fine has = has
admit_on-all true true member rest order sq line fine has = has
admit_on-all true false member rest order sq line fine has = absurd (let e = fine refl in cc)

admit_on-all_first : (adds ok : Bool) (member : Member) (rest order : List Member) (line : ℕ) → adds ≡ true →
    ok ≡ true →
    member.line ≡ line → Has (admit_on adds ok member rest order) 0 line normal
admit_on-all_first adds ok member rest order line a o same = rw (a, o) (ap (λ l. Some (member_of l normal)) same)

pub admit-all : (kept : ℕ → Option Bool) (base : ℕ) (order : List Member) (sq line : ℕ) → Fine kept base order sq →
    Has order sq line adding → Has (admit kept base order) sq line normal
unfolding admit
admit-all kept base [] sq line fine has = absurd (none-some (member_of line adding) has)
admit-all kept base (member ∷ order) zero line fine has =
    let e : base + zero ≡ base = omega arith in
    admit_on-all_first (is_adding member) (is_ok (kept base)) member (admit kept (base + 1) order) order line
    (ap is_add (Has-standing member line adding has)) (let ok = fine zero line (omega arith) has in rw e at ok)
    (Has-line member line adding has)
admit-all kept base (member ∷ order) (suc sq) line fine has =
    let e : base + zero ≡ base = omega arith in
    admit_on-all (is_adding member) (is_ok (kept base)) member (admit kept (base + 1) order) order sq line
    (λ adds.
    let ok = fine zero member.line (omega arith)
    (ap (λ s. Some (member_of member.line s)) (is_adding-standing member adds)) in
    rw e at ok)
    (admit-all kept (base + 1) order sq line (Fine-rest kept base member order sq fine) has)

-- ---- an exchange of ADD lines
abbrev pub AtMostFails : (ℕ → Option Bool) → ℕ → List Member → ℕ → Type 0
AtMostFails kept base order sq = (s line : ℕ) → s ≤ sq → Has order s line adding → is_fail (kept (base + s)) ≡ false

AtMostFails-rest : (kept : ℕ → Option Bool) (base : ℕ) (member : Member) (order : List Member) (sq : ℕ) →
    AtMostFails kept base (member ∷ order) (suc sq) → AtMostFails kept (base + 1) order sq
AtMostFails-rest kept base member order sq fine s line low has =
    let e : base + suc s ≡ base + 1 + s = omega arith in
    let ok = fine (suc s) line (omega arith) has in rw e at ok

abbrev pub exchange_on : Bool → Bool → Member → Option (List Member) → Option (Member × List Member) →
    Option (List Member)
exchange_on adds fails member rest found =
    if not adds then option_map (λ rest. member ∷ rest) rest
    else if fails then option_map (λ found. found.0 ∷ member ∷ found.1) found
    else None

exchange_on-none : (adds fails : Bool) (member : Member) (rest : Option (List Member))
    (found : Option (Member × List Member)) →
    (adds ≡ true → fails ≡ false) → (adds ≡ false → rest ≡ None) → exchange_on adds fails member rest found ≡ None
exchange_on-none false fails member rest found first later = rw (later refl) refl
exchange_on-none true fails member rest found first later = rw (first refl) refl

-- none is made where no ADD line up to an ADD line has FAIL
pub exchange-none : (kept : ℕ → Option Bool) (base : ℕ) (order : List Member) (sq line : ℕ) →
    AtMostFails kept base order sq →
    Has order sq line adding → exchange kept base order ≡ None
unfolding exchange
exchange-none kept base [] sq line fine has = refl
exchange-none kept base (member ∷ order) zero line fine has =
    let e : base + zero ≡ base = omega arith in
    exchange_on-none (is_adding member) (is_fail (kept base)) member (exchange kept (base + 1) order)
    (take_out kept (base + 1) order)
    (λ adds. let ok = fine zero line (omega arith) has in rw e at ok)
    (λ not. absurd (let adds : is_adding member ≡ true = ap is_add (Has-standing member line adding has) in cc))
exchange-none kept base (member ∷ order) (suc sq) line fine has =
    let e : base + zero ≡ base = omega arith in
    exchange_on-none (is_adding member) (is_fail (kept base)) member (exchange kept (base + 1) order)
    (take_out kept (base + 1) order)
    (λ adds.
    let ok = fine zero member.line (omega arith)
    (ap (λ s. Some (member_of member.line s)) (is_adding-standing member adds)) in
    rw e at ok)
    (λ not. exchange-none kept (base + 1) order sq line (AtMostFails-rest kept base member order sq fine) has)

-- it lets go of no line
abbrev pub IsIn : List Member → Member → Type 0
IsIn order member = (sq : ℕ) × (slice_get order sq ≡ Some member)

abbrev pub IsTaken : Option (Member × List Member) → Member → Type 0
IsTaken None member = ⊤
IsTaken (Some found) member = (found.0 ≡ member) ⊎ IsIn found.1 member

abbrev pub IsKept : Option (List Member) → Member → Type 0
IsKept None member = ⊤
IsKept (Some order) member = IsIn order member

IsTaken-first : (found : Option (Member × List Member)) (member : Member) →
    IsTaken (option_map (λ found. (found.0, member ∷ found.1)) found) member
IsTaken-first None member = tt
IsTaken-first (Some found) member = inr (zero, refl)

IsTaken-later : (found : Option (Member × List Member)) (first member : Member) → IsTaken found member →
    IsTaken (option_map (λ found. (found.0, first ∷ found.1)) found) member
IsTaken-later None first member taken = tt
IsTaken-later (Some found) first member (inl same) = inl same
IsTaken-later (Some found) first member (inr inside) = inr (suc inside.0, inside.1)

take_out-takes : (kept : ℕ → Option Bool) (base : ℕ) (order : List Member) (member : Member) (sq : ℕ) →
    slice_get order sq ≡ Some member → IsTaken (take_out kept base order) member
unfolding take_out
take_out-takes kept base [] member sq has = tt
take_out-takes kept base (first ∷ order) member zero has =
    elim (is_adding first && is_ok (kept base))
    as (λ b. IsTaken (if b then Some (first, order) else option_map (λ found. (found.0, first ∷ found.1))
    (take_out kept (base + 1) order)) member) [
      | true ↦ inl (same_Some first member has)
      | false ↦ subst (IsTaken (option_map (λ found. (found.0, first ∷ found.1)) (take_out kept (base + 1) order)))
          (same_Some first member has)
          (IsTaken-first (take_out kept (base + 1) order) first)
    ]
take_out-takes kept base (first ∷ order) member (suc sq) has =
    elim (is_adding first && is_ok (kept base))
    as (λ b. IsTaken (if b then Some (first, order) else option_map (λ found. (found.0, first ∷ found.1))
    (take_out kept (base + 1) order)) member) [
      | true ↦ inr (sq, has)
      | false ↦ IsTaken-later (take_out kept (base + 1) order) first member
          (take_out-takes kept (base + 1) order member sq has)
    ]

IsKept-later : (found : Option (List Member)) (first member : Member) → IsKept found member →
    IsKept (option_map (λ rest. first ∷ rest) found) member
IsKept-later None first member kept = tt
IsKept-later (Some order) first member kept = (suc kept.0, kept.1)

IsKept-first : (found : Option (List Member)) (first : Member) → IsKept (option_map (λ rest. first ∷ rest) found) first
IsKept-first None first = tt
IsKept-first (Some order) first = (zero, refl)

IsKept-between : (found : Option (Member × List Member)) (first member : Member) → IsTaken found member →
    IsKept (option_map (λ found. found.0 ∷ first ∷ found.1) found) member
IsKept-between None first member taken = tt
IsKept-between (Some found) first member (inl same) = (zero, ap Some same)
IsKept-between (Some found) first member (inr inside) = (suc (suc inside.0), inside.1)

IsKept-second : (found : Option (Member × List Member)) (first : Member) →
    IsKept (option_map (λ found. found.0 ∷ first ∷ found.1) found) first
IsKept-second None first = tt
IsKept-second (Some found) first = (suc zero, refl)

exchange_on-keeps : (adds fails : Bool) (first member : Member) (rest : Option (List Member))
    (found : Option (Member × List Member)) →
    IsKept rest member → IsTaken found member → IsKept (exchange_on adds fails first rest found) member
exchange_on-keeps false fails first member rest found kept taken = IsKept-later rest first member kept
exchange_on-keeps true true first member rest found kept taken = IsKept-between found first member taken
exchange_on-keeps true false first member rest found kept taken = tt

exchange_on-keeps_first : (adds fails : Bool) (first : Member) (rest : Option (List Member))
    (found : Option (Member × List Member)) →
    IsKept (exchange_on adds fails first rest found) first
exchange_on-keeps_first false fails first rest found = IsKept-first rest first
exchange_on-keeps_first true true first rest found = IsKept-second found first
exchange_on-keeps_first true false first rest found = tt

pub exchange-keeps : (kept : ℕ → Option Bool) (base : ℕ) (order : List Member) (member : Member) (sq : ℕ) →
    slice_get order sq ≡ Some member → IsKept (exchange kept base order) member
unfolding exchange
exchange-keeps kept base [] member sq has = tt
exchange-keeps kept base (first ∷ order) member zero has =
    subst (IsKept (exchange kept base (first ∷ order))) (same_Some first member has)
    (exchange_on-keeps_first (is_adding first) (is_fail (kept base)) first (exchange kept (base + 1) order)
    (take_out kept (base + 1) order))
exchange-keeps kept base (first ∷ order) member (suc sq) has =
    exchange_on-keeps (is_adding first) (is_fail (kept base)) first member (exchange kept (base + 1) order)
    (take_out kept (base + 1) order)
    (exchange-keeps kept (base + 1) order member sq has) (take_out-takes kept (base + 1) order member sq has)

-- ---- what an exchange brings to the front
abbrev pub Only : (ℕ → Option Bool) → ℕ → List Member → ℕ → Type 0
Only kept base order line = (s l : ℕ) → Has order s l adding → is_ok (kept (base + s)) ≡ true → l ≡ line

Only-rest : (kept : ℕ → Option Bool) (base : ℕ) (member : Member) (order : List Member) (line : ℕ) →
    Only kept base (member ∷ order) line → Only kept (base + 1) order line
Only-rest kept base member order line only s l has ok =
    let e : base + suc s ≡ base + 1 + s = omega arith in only (suc s) l has (rw e ok)

-- no ADD line stands before an ADD line
pub record Leads (order : List Member) (sq line : ℕ) : Type 0 where
  pub here : Has order sq line adding
  pub first : (s l : ℕ) → s < sq → Has order s l adding → ⊥

abbrev pub LeadsIn : Option (List Member) → ℕ → Type 0
LeadsIn None line = ⊤
LeadsIn (Some order) line = (sq : ℕ) × Leads order sq line

abbrev pub IsOut : Option (Member × List Member) → ℕ → Type 0
IsOut None line = ⊤
IsOut (Some found) line = found.0 ≡ member_of line adding

has_first : (member : Member) (order : List Member) → is_adding member ≡ true →
    Has (member ∷ order) zero member.line adding
has_first member order adds = ap (λ s. Some (member_of member.line s)) (is_adding-standing member adds)

IsOut-later : (found : Option (Member × List Member)) (first : Member) (line : ℕ) → IsOut found line →
    IsOut (option_map (λ found. (found.0, first ∷ found.1)) found) line
IsOut-later None first line out = tt
IsOut-later (Some found) first line out = out

take_out-only : (kept : ℕ → Option Bool) (base : ℕ) (order : List Member) (line : ℕ) → Only kept base order line →
    IsOut (take_out kept base order) line
unfolding take_out
take_out-only kept base [] line only = tt
take_out-only kept base (member ∷ order) line only =
    let e : base + zero ≡ base = omega arith in
    elim (is_adding member && is_ok (kept base)) as (λ b. (is_adding member && is_ok (kept base)) ≡ b →
    IsOut (if b then Some (member, order) else option_map (λ found. (found.0, member ∷ found.1))
    (take_out kept (base + 1) order)) line) [
      | true ↦ λ test.
          let adds = and_parts (is_adding member) (is_ok (kept base)) test in
          let same = only zero member.line (has_first member order adds.0) (rw e adds.1) in
          ap (λ s. member_of member.line s) (is_adding-standing member adds.0) ∙ ap (λ l. member_of l adding) same
      | false ↦ λ test. IsOut-later (take_out kept (base + 1) order) member line
          (take_out-only kept (base + 1) order line (Only-rest kept base member order line only))
    ] refl

before_none : (member : Member) (order : List Member) (sq line s l : ℕ) → is_adding member ≡ false →
    Leads order sq line → s < suc sq → Has (member ∷ order) s l adding → ⊥
before_none member order sq line zero l other leads before has =
    let adds : is_adding member ≡ true = ap is_add (Has-standing member l adding has) in cc
before_none member order sq line (suc s) l other leads before has = leads.first s l (omega arith) has

LeadsIn-later : (found : Option (List Member)) (first : Member) (line : ℕ) → is_adding first ≡ false →
    LeadsIn found line → LeadsIn (option_map (λ rest. first ∷ rest) found) line
LeadsIn-later None first line other leads = tt
LeadsIn-later (Some order) first line other leads = (
  suc leads.0,
  record {
    here = leads.1.here;
    first =
        λ s l before has. before_none first order leads.0 line s l other leads.1 before has;
  },
)

LeadsIn-out : (found : Option (Member × List Member)) (first : Member) (line : ℕ) → IsOut found line →
    LeadsIn (option_map (λ found. found.0 ∷ first ∷ found.1) found) line
LeadsIn-out None first line out = tt
LeadsIn-out (Some found) first line out =
    (zero, record { here = ap Some out; first = λ s l before has. absurd (omega arith) })

exchange_on-leads : (adds fails : Bool) (member : Member) (rest : Option (List Member))
    (found : Option (Member × List Member)) (line : ℕ) → is_adding member ≡ adds →
    LeadsIn rest line → IsOut found line → LeadsIn (exchange_on adds fails member rest found) line
exchange_on-leads false fails member rest found line e leads out = LeadsIn-later rest member line e leads
exchange_on-leads true true member rest found line e leads out = LeadsIn-out found member line out
exchange_on-leads true false member rest found line e leads out = tt

pub exchange-leads : (kept : ℕ → Option Bool) (base : ℕ) (order : List Member) (line : ℕ) → Only kept base order line →
    LeadsIn (exchange kept base order) line
unfolding exchange
exchange-leads kept base [] line only = tt
exchange-leads kept base (member ∷ order) line only =
    let only_rest = Only-rest kept base member order line only in
    exchange_on-leads (is_adding member) (is_fail (kept base)) member (exchange kept (base + 1) order)
    (take_out kept (base + 1) order) line refl
    (exchange-leads kept (base + 1) order line only_rest) (take_out-only kept (base + 1) order line only_rest)

-- ---- where an exchange is made
abbrev pub IsThere : {X : Type 0} → Option X → Type 0
IsThere None = ⊥
IsThere (Some x) = ⊤

IsThere-map : {X Y : Type 0} (f : X → Y) (found : Option X) → IsThere found → IsThere (option_map f found)
IsThere-map f None there = there
IsThere-map f (Some x) there = tt

take_out-there : (kept : ℕ → Option Bool) (base : ℕ) (order : List Member) (sq line : ℕ) → Has order sq line adding →
    is_ok (kept (base + sq)) ≡ true → IsThere (take_out kept base order)
unfolding take_out
take_out-there kept base [] sq line has ok = none-some (member_of line adding) has
take_out-there kept base (member ∷ order) zero line has ok =
    let e : base + zero ≡ base = omega arith in
    let adds : is_adding member ≡ true = ap is_add (Has-standing member line adding has) in
    let okay : is_ok (kept base) ≡ true = rw e at ok in
    rw (adds, okay) tt
take_out-there kept base (member ∷ order) (suc sq) line has ok =
    let e : base + suc sq ≡ base + 1 + sq = omega arith in
    elim (is_adding member && is_ok (kept base))
    as (λ b. IsThere {X = Member × List Member}
    (if b then Some (member, order) else option_map (λ found. (found.0, member ∷ found.1))
    (take_out kept (base + 1) order))) [
      | true ↦ tt
      | false ↦ IsThere-map {Y = Member × List Member} (λ found. (found.0, member ∷ found.1))
          (take_out kept (base + 1) order) (take_out-there kept (base + 1) order sq line has (rw e at ok))
    ]

-- each status of an ADD line up to an SQ is kept
abbrev pub Known : (ℕ → Option Bool) → ℕ → List Member → ℕ → Type 0
Known kept base order sq = (s l : ℕ) → s ≤ sq → Has order s l adding →
    (is_ok (kept (base + s)) ≡ true) ⊎ (is_fail (kept (base + s)) ≡ true)

Known-rest : (kept : ℕ → Option Bool) (base : ℕ) (member : Member) (order : List Member) (sq : ℕ) →
    Known kept base (member ∷ order) (suc sq) → Known kept (base + 1) order sq
Known-rest kept base member order sq known s l low has =
    let e : base + suc s ≡ base + 1 + s = omega arith in rw e at (known (suc s) l (omega arith) has)

turn-other : (status : Option Bool) (standing : Standing) → is_add standing ≡ false →
    is_add (turn status standing) ≡ false
turn-other None standing e = e
turn-other (Some ok) adding e = e
turn-other (Some true) normal e = refl
turn-other (Some false) normal e = refl
turn-other (Some true) unused e = refl
turn-other (Some false) unused e = refl

pub turned_exchange : (ℕ → Option Bool) → ℕ → List Member → Option (List Member)
turned_exchange kept base order = exchange kept base (turned kept base order)

turned_exchange-next : (kept : ℕ → Option Bool) (base : ℕ) (member : Member) (order : List Member) →
    turned_exchange kept base (member ∷ order) ≡ exchange_on (is_add (turn (kept base) member.standing))
    (is_fail (kept base))
    (member_of member.line (turn (kept base) member.standing)) (turned_exchange kept (base + 1) order)
    (take_out kept (base + 1) (turned kept (base + 1) order))
unfolding turned_exchange exchange turned
turned_exchange-next kept base member order = refl

exchange_on-other : (adds fails : Bool) (member : Member) (rest : Option (List Member))
    (found : Option (Member × List Member)) → adds ≡ false → IsThere rest →
    IsThere (exchange_on adds fails member rest found)
exchange_on-other true fails member rest found e there = absurd cc
exchange_on-other false fails member rest found e there = IsThere-map _ rest there

exchange_on-there : (adds fails : Bool) (member : Member) (rest : Option (List Member))
    (found : Option (Member × List Member)) → adds ≡ true → fails ≡ true → IsThere found →
    IsThere (exchange_on adds fails member rest found)
exchange_on-there adds fails member rest found a f there = rw (a, f) (IsThere-map _ found there)

failed : (kept : Option Bool) → is_ok kept ≡ false → (is_ok kept ≡ true) ⊎ (is_fail kept ≡ true) → is_fail kept ≡ true
failed kept o (inl ok) = absurd cc
failed kept o (inr fail) = fail

there_first : (adds ok : Bool) (member : Member) (rest order : List Member) (line : ℕ) → is_adding member ≡ adds →
    ok ≡ true →
    Has (admit_on adds ok member rest order) 0 line adding → ⊥
there_first false ok member rest order line e o has =
    let adds : is_adding member ≡ true = ap is_add (Has-standing member line adding has) in cc
there_first true true member rest order line e o has = let s = Has-standing (in_use member) line adding has in cc
there_first true false member rest order line e o has = cc

there_later : (adds ok : Bool) (kept : ℕ → Option Bool) (base : ℕ) (member : Member) (rest order : List Member)
    (sq line : ℕ) → is_adding member ≡ adds → is_ok (kept base) ≡ ok →
    Known kept base (member ∷ order) (suc sq) → is_ok (kept (base + suc sq)) ≡ true →
    (Has rest sq line adding → IsThere (turned_exchange kept (base + 1) rest)) →
    Has (admit_on adds ok member rest order) (suc sq) line adding →
    IsThere (turned_exchange kept base (admit_on adds ok member rest order))
there_later false ok kept base member rest order sq line a o known fine on has =
    rw (turned_exchange-next kept base member rest)
    (exchange_on-other _ _ _ (turned_exchange kept (base + 1) rest)
    (take_out kept (base + 1) (turned kept (base + 1) rest))
    (turn-other (kept base) member.standing a) (on has))
there_later true true kept base member rest order sq line a o known fine on has =
    rw (turned_exchange-next kept base (in_use member) rest)
    (exchange_on-other _ _ _ (turned_exchange kept (base + 1) rest)
    (take_out kept (base + 1) (turned kept (base + 1) rest))
    (turn-other (kept base) normal refl) (on has))
there_later true false kept base member rest order sq line a o known fine on has =
    let e : base + zero ≡ base = omega arith in
    let place : base + suc sq ≡ base + 1 + sq = omega arith in
    let stands = is_adding-standing member a in
    let adds : is_add (turn (kept base) member.standing) ≡ true =
    ap is_add (ap (turn (kept base)) stands ∙ turn-adds (kept base)) in
    let fails : is_fail (kept base) ≡ true =
    failed (kept base) o (rw e at (known zero member.line (omega arith) (has_first member order a))) in
    rw (turned_exchange-next kept base member order)
    (exchange_on-there _ _ _ (turned_exchange kept (base + 1) order)
    (take_out kept (base + 1) (turned kept (base + 1) order)) adds fails
    (take_out-there kept (base + 1) (turned kept (base + 1) order) sq line
    (turned-adds kept (base + 1) order sq line has) (rw place at fine)))

-- an ADD line with OK that isn't admitted stands after one with FAIL
pub exchange-there : (kept : ℕ → Option Bool) (base : ℕ) (order : List Member) (sq line : ℕ) →
    Known kept base order sq → is_ok (kept (base + sq)) ≡ true →
    Has (admit kept base order) sq line adding → IsThere (turned_exchange kept base (admit kept base order))
unfolding admit
exchange-there kept base [] sq line known ok has = absurd (none-some (member_of line adding) has)
exchange-there kept base (member ∷ order) zero line known ok has =
    let e : base + zero ≡ base = omega arith in
    absurd (there_first (is_adding member) (is_ok (kept base)) member (admit kept (base + 1) order) order line refl
    (rw e at ok) has)
exchange-there kept base (member ∷ order) (suc sq) line known ok has =
    let place : base + suc sq ≡ base + 1 + sq = omega arith in
    there_later (is_adding member) (is_ok (kept base)) kept base member (admit kept (base + 1) order) order sq line refl
    refl known ok
    (exchange-there kept (base + 1) order sq line (Known-rest kept base member order sq known) (rw place at ok)) has

pub exchange-there_plain : (kept : ℕ → Option Bool) (order : List Member) (sq line : ℕ) → Known kept 0 order sq →
    is_ok (kept sq) ≡ true →
    Has (admit kept 0 order) sq line adding → IsThere (exchange kept 0 (turned kept 0 (admit kept 0 order)))
unfolding turned_exchange
exchange-there_plain kept order sq line known ok has = let e : 0 + sq ≡ sq = omega arith in
    exchange-there kept 0 order sq line known (rw e ok) has
