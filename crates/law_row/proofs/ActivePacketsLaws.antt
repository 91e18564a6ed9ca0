-- The active packets that a sink reads: so it finds the lines that carry payload, in the order of SQ.
use Rattle.std.proofs.Common.{◌≡◌, ℕ, zero, suc, ◌+◌, ◌%◌, ◌<◌, ◌≤◌, ◌==◌, ◌&&◌, ◌||◌, Bool, true, false, inl}
use Rattle.std.proofs.Common.{if◌then◌else◌, inr, List, [], ◌∷◌, ◌++◌, map, filter, length, Option, Some}
use Rattle.std.proofs.Common.{slice_index_or, refl, sym, ◌∙◌, ap, arith}
use Rattle.std.specs.List.{list_any, list_all, range_with_len}
use Rattle.std.proofs.lemmas.Bool.{cases_lt, eq-eqb, eqb-true, eqb-false, ne_eqb, and_parts}
use Rattle.law_model.proofs.ListLaws.{filter-few}
use Rattle.law_model.specs.Common.{Ctrl, Told, is_norm, is_normal, Scenario, planned_of, after, table_of, group_bit}
use Rattle.law_model.specs.Common.{LineFields, ctrl_by, place_in, mst_by, is_carrying, has, lines_at, active_from}
use Rattle.law_model.specs.Common.{active_of, packet_if, packets_from, is_read, is_heard, is_readable, most_lines}
use Rattle.law_model.specs.members.Damage.{carried}
use Rattle.law_model.specs.declared.window_types.Window.{Window}
use Rattle.law_model.specs.declared.control_packet.Packet.{Packet}
use Rattle.law_model.specs.declared.lcas_states.Standing.{Standing}
use Rattle.law_model.specs.declared.lcas_states.Member.{Member}
use Rattle.member_cells.specs.declared.control_word.Ctrl.TheVariants.{Idle}
use Rattle.law_model.specs.declared.lcas_states.Standing.TheVariants.{Add as adding, Norm as normal, Dnu as unused}
use Rattle.law_session.specs.Feedback.{lines_of}
use Rattle.law_session.proofs.SourceOrderAndPlanLaws.{one, times, IsBelow, one-self, IsPlan-once, Fits-after}
use Rattle.law_session.proofs.SourceOrderAndPlanLaws.{order-length}

-- The sink counts the active packets that it reads: so it finds the lines that carry payload by the source's table.
-- ---- a packet by what it says of its line, and by what all packets of one number say
abbrev pub place_of : Ctrl → ℕ → LineFields
place_of ctrl sq = record { ctrl = ctrl; sq = sq }

abbrev pub with_place : Told → Bool → ℕ → ℕ → LineFields → Packet
with_place told chg k act place = record {
  mst = mst_by told.oks;
  rs_ack = told.rs_ack == 1;
  chg = chg;
  sq = place.sq;
  mfi2 = (k + 1) % 256;
  ctrl = place.ctrl;
  gid = group_bit k;
  act = act;
}

-- the packet of a line, where the order is the rest from an SQ on
abbrev pub packet : List Member → ℕ → Told → Bool → ℕ → ℕ → ℕ → Packet
packet order sq told chg k act line = with_place told chg k act (place_in order sq line)

-- the lines that carry payload, of an order
abbrev pub carrying : List Member → List ℕ
carrying order = map (λ member. member.line) (filter is_normal order)

-- ---- the lines of one SQ
abbrev pub all_read : (ℕ → Option Packet) → ℕ → ℕ → List (Option Packet)
all_read read a n = map read (range_with_len a n)

lines_at-none : (read : ℕ → Option Packet) (sq a n : ℕ) → ((l : ℕ) → a ≤ l → has is_carrying sq (read l) ≡ false) →
    lines_at sq a (all_read read a n) ≡ []
lines_at-none read sq a zero h = refl
lines_at-none read sq a (suc n) h = let here = h a (omega arith) in
    rw here (lines_at-none read sq (a + 1) n (λ l low. h l (omega arith)))

lines_at-one : (read : ℕ → Option Packet) (sq line : ℕ) → has is_carrying sq (read line) ≡ true →
    ((l : ℕ) → (line ≡ l → ⊥) → has is_carrying sq (read l) ≡ false) →
    (a n : ℕ) → a ≤ line → line < a + n → lines_at sq a (all_read read a n) ≡ line ∷ []
lines_at-one read sq line here others a zero low high = absurd (omega arith)
lines_at-one read sq line here others a (suc n) low high =
    elim (cases_lt a line) [
      | inl less ↦
          let no_hit = others a (λ e. omega arith) in
          rw no_hit (lines_at-one read sq line here others (a + 1) n (omega arith) (omega arith))
      | inr more ↦
          let e : line ≡ a = omega arith in
          let hit : has is_carrying sq (read a) ≡ true = ap (λ l. has is_carrying sq (read l)) (sym e) ∙ here in
          rw hit (ap (λ rest. a ∷ rest) (lines_at-none read sq (a + 1) n (λ l low. others l (λ f. omega arith)))
          ∙ ap (λ l. l ∷ []) (sym e))
    ]

lines_at-same : (f g : ℕ → Option Packet) (sq a n : ℕ) →
    ((l : ℕ) → l < a + n → has is_carrying sq (f l) ≡ has is_carrying sq (g l)) →
    lines_at sq a (all_read f a n) ≡ lines_at sq a (all_read g a n)
lines_at-same f g sq a zero same = refl
lines_at-same f g sq a (suc n) same =
    ap (λ b. if b then a ∷ lines_at sq (a + 1) (all_read f (a + 1) n) else lines_at sq (a + 1) (all_read f (a + 1) n))
    (same a (omega arith))
    ∙ ap (λ rest. if has is_carrying sq (g a) then a ∷ rest else rest)
    (lines_at-same f g sq (a + 1) n (λ l inside. same l (omega arith)))

pub active_from-same : (f g : ℕ → Option Packet) (lines sq count : ℕ) →
    ((s l : ℕ) → sq ≤ s → l < lines → has is_carrying s (f l) ≡ has is_carrying s (g l)) →
    active_from sq count (all_read f 0 lines) ≡ active_from sq count (all_read g 0 lines)
unfolding active_from
active_from-same f g lines sq zero same = refl
active_from-same f g lines sq (suc count) same =
    ap (λ front. front ++ active_from (sq + 1) count (all_read f 0 lines))
    (lines_at-same f g sq 0 lines (λ l inside. same sq l (omega arith) (omega arith)))
    ∙ ap (λ rest. lines_at sq 0 (all_read g 0 lines) ++ rest)
    (active_from-same f g lines (sq + 1) count (λ s l low inside. same s l (omega arith) inside))

active_from-none : (read : ℕ → Option Packet) (lines sq count : ℕ) → ((s l : ℕ) → has is_carrying s (read l) ≡ false) →
    active_from sq count (all_read read 0 lines) ≡ []
unfolding active_from
active_from-none read lines sq zero h = refl
active_from-none read lines sq (suc count) h =
    let first = lines_at-none read sq 0 lines (λ l low. h sq l) in rw first
    (active_from-none read lines (sq + 1) count h)

active_from-next : (read : ℕ → Option Packet) (lines sq count : ℕ) →
    active_from sq (suc count) (all_read read 0 lines) ≡ lines_at sq 0 (all_read read 0 lines) ++ active_from
    (sq + 1) count (all_read read 0 lines)
unfolding active_from
active_from-next read lines sq count = refl

and_false : (b : Bool) → false ≡ (b && false)
and_false true = refl
and_false false = refl

-- ---- what a packet carries
pub carries_if : (counts : Ctrl → Bool) (read : Bool) (p : Packet) (sq : ℕ) → has counts sq (Some p) ≡ false →
    has counts sq (packet_if read p) ≡ false
carries_if counts true p sq e = e
carries_if counts false p sq e = refl

other_sq : (carrying : Bool) (a b : ℕ) → (a ≡ b → ⊥) → (carrying && a == b) ≡ false
other_sq false a b other = refl
other_sq true a b other = ne_eqb a b other

-- no SQ before the first of an order
carries-low : (counts : Ctrl → Bool) (quiet : counts Idle ≡ false) (order : List Member) (sq : ℕ) (told : Told)
    (chg : Bool) (k act line s : ℕ) → s < sq → has counts s (Some (packet order sq told chg k act line)) ≡ false
unfolding place_in
carries-low counts quiet [] sq told chg k act line s low = rw quiet refl
carries-low counts quiet (member ∷ order) sq told chg k act line s low =
    let code = ctrl_by member.standing (list_any is_normal order) in
    elim (member.line == line) as (λ b. has counts s
    (Some (with_place told chg k act (if b then place_of code sq else place_in order (sq + 1) line))) ≡ false) [
      | true ↦ other_sq (counts code) sq s (λ e. omega arith)
      | false ↦ carries-low counts quiet order (sq + 1) told chg k act line s (omega arith)
    ]

-- a line that isn't in the order carries nothing
pub carries-absent : (counts : Ctrl → Bool) (quiet : counts Idle ≡ false) (order : List Member) (sq : ℕ) (told : Told)
    (chg : Bool) (k act line s : ℕ) → times (lines_of order) line ≡ 0 →
    has counts s (Some (packet order sq told chg k act line)) ≡ false
unfolding place_in
carries-absent counts quiet [] sq told chg k act line s absent = rw quiet refl
carries-absent counts quiet (member ∷ order) sq told chg k act line s absent =
    let code = ctrl_by member.standing (list_any is_normal order) in
    elim (member.line == line) as (λ b. (member.line == line) ≡ b →
    has counts s (Some (with_place told chg k act (if b then place_of code sq else place_in order (sq + 1) line)))
    ≡ false) [
      | true ↦ λ e.
          let same = eqb-true member.line line e in
          let here : one member.line line ≡ 1 = ap (λ l. one member.line l) (sym same) ∙ one-self member.line in
          absurd (omega arith)
      | false ↦ λ e. carries-absent counts quiet order (sq + 1) told chg k act line s (omega arith)
    ] refl

pub ctrl_carries : (standing : Standing) (more : Bool) → is_carrying (ctrl_by standing more) ≡ is_norm standing
ctrl_carries adding more = refl
ctrl_carries normal true = refl
ctrl_carries normal false = refl
ctrl_carries unused more = refl

-- ---- the first of an order, and the rest
pub head-self : (counts : Ctrl → Bool) (quiet : counts Idle ≡ false) (member : Member) (order : List Member) (sq : ℕ)
    (told : Told) (chg : Bool) (k act : ℕ) (read : Bool) →
    has counts sq (packet_if read (packet (member ∷ order) sq told chg k act member.line)) ≡
    (counts (ctrl_by member.standing (list_any is_normal order)) && read)
unfolding place_in
head-self counts quiet member order sq told chg k act true =
    let code = ctrl_by member.standing (list_any is_normal order) in
    let e = eq-eqb member.line member.line refl in
    let f = eq-eqb sq sq refl in
    rw e (rw f refl)
head-self counts quiet member order sq told chg k act false =
    and_false (counts (ctrl_by member.standing (list_any is_normal order)))

pub head-other : (counts : Ctrl → Bool) (quiet : counts Idle ≡ false) (member : Member) (order : List Member) (sq : ℕ)
    (told : Told) (chg : Bool) (k act line : ℕ) (read : Bool) → (member.line ≡ line → ⊥) →
    has counts sq (packet_if read (packet (member ∷ order) sq told chg k act line)) ≡ false
unfolding place_in
head-other counts quiet member order sq told chg k act line read other =
    let e = ne_eqb member.line line other in
    rw e (carries_if counts read (packet order (sq + 1) told chg k act line) sq
    (carries-low counts quiet order (sq + 1) told chg k act line sq (omega arith)))

pub head-rest : (counts : Ctrl → Bool) (quiet : counts Idle ≡ false) (member : Member) (order : List Member) (sq : ℕ)
    (told : Told) (chg : Bool) (k act line s : ℕ) (read : Bool) → sq + 1 ≤ s →
    times (lines_of (member ∷ order)) line ≤ 1 →
    has counts s (packet_if read (packet (member ∷ order) sq told chg k act line)) ≡ has counts s
    (packet_if read (packet order (sq + 1) told chg k act line))
unfolding place_in
head-rest counts quiet member order sq told chg k act line s read low once =
    let code = ctrl_by member.standing (list_any is_normal order) in
    elim (member.line == line) as (λ b. (member.line == line) ≡ b →
    has counts s (packet_if read
    (with_place told chg k act (if b then place_of code sq else place_in order (sq + 1) line)))
    ≡ has counts s (packet_if read (packet order (sq + 1) told chg k act line))) [
      | true ↦ λ e.
          let same = eqb-true member.line line e in
          let here : one member.line line ≡ 1 = ap (λ l. one member.line l) (sym same) ∙ one-self member.line in
          carries_if counts read (with_place told chg k act (place_of code sq)) s
          (other_sq (counts code) sq s (λ f. omega arith))
          ∙ sym (carries_if counts read (packet order (sq + 1) told chg k act line) s
          (carries-absent counts quiet order (sq + 1) told chg k act line s (omega arith)))
      | false ↦ λ e. refl
    ] refl

pub inside : (lines : ℕ) (member : Member) (order : List Member) → IsBelow lines (times (lines_of (member ∷ order))) →
    member.line < lines
inside lines member order below =
    elim (cases_lt member.line lines) [
      | inl less ↦ less
      | inr more ↦ let none = below member.line more in let here = one-self member.line in absurd (omega arith)
    ]

-- the packet of a line, where it can be read
abbrev pub read_of : List Member → ℕ → Told → Bool → ℕ → ℕ → (ℕ → Bool) → ℕ → Option Packet
read_of order sq told chg k act readable line = packet_if (readable line) (packet order sq told chg k act line)

first-lines : (member : Member) (order : List Member) (lines sq : ℕ) (told : Told) (chg : Bool) (k act : ℕ)
    (readable : ℕ → Bool) →
    member.line < lines →
    lines_at sq 0 (all_read (read_of (member ∷ order) sq told chg k act readable) 0 lines) ≡
    (if is_norm member.standing && readable member.line then member.line ∷ [] else [])
first-lines member order lines sq told chg k act readable low =
    let read = read_of (member ∷ order) sq told chg k act readable in
    let self = head-self is_carrying refl member order sq told chg k act (readable member.line)
    ∙ ap (λ b. b && readable member.line) (ctrl_carries member.standing (list_any is_normal order)) in
    elim (is_norm member.standing && readable member.line)
    as (λ b. (is_norm member.standing && readable member.line) ≡ b →
    lines_at sq 0 (all_read read 0 lines) ≡ (if b then member.line ∷ [] else [])) [
      | true ↦ λ e. lines_at-one read sq member.line (self ∙ e)
          (λ l other. head-other is_carrying refl member order sq told chg k act l (readable l) other) 0 lines
          (omega arith) (omega arith)
      | false ↦ λ e.
          lines_at-none read sq 0 lines (λ l low.
          elim (member.line == l) as (λ b. (member.line == l) ≡ b → has is_carrying sq (read l) ≡ false) [
            | true ↦ λ f. ap (λ x. has is_carrying sq (read x)) (sym (eqb-true member.line l f)) ∙ self ∙ e
            | false ↦ λ f. head-other is_carrying refl member order sq told chg k act l (readable l)
                (eqb-false member.line l f)
          ] refl)
    ] refl

first-carrying : (member : Member) (order : List Member) (readable : ℕ → Bool) →
    (if is_norm member.standing && readable member.line then member.line ∷ [] else []) ++ filter readable
    (carrying order) ≡ filter readable (carrying (member ∷ order))
first-carrying member order readable =
    elim (is_norm member.standing) as (λ n. (if n && readable member.line then member.line ∷ [] else []) ++ filter
    readable (carrying order)
    ≡ filter readable (map (λ m. m.line) (if n then member ∷ filter is_normal order else filter is_normal order))) [
      | true ↦
          elim (readable member.line) as (λ r. (if r then member.line ∷ [] else []) ++ filter readable (carrying order)
          ≡ (if r then member.line ∷ filter readable (carrying order) else filter readable (carrying order)))
          [ true ↦ refl | false ↦ refl ]
      | false ↦ refl
    ]

-- the lines that the sink takes as carrying payload are those that do and can be read, in the order of SQ
pub active_from-order : (order : List Member) (lines sq : ℕ) (told : Told) (chg : Bool) (k act count : ℕ)
    (readable : ℕ → Bool) →
    length order ≤ count → ((l : ℕ) → times (lines_of order) l ≤ 1) →
    IsBelow lines (times (lines_of order)) →
    active_from sq count (all_read (read_of order sq told chg k act readable) 0 lines)
    ≡ filter readable (carrying order)
active_from-order [] lines sq told chg k act count readable fits once below =
    active_from-none (read_of [] sq told chg k act readable) lines sq count
    (λ s l. carries_if is_carrying (readable l) (packet [] sq told chg k act l) s
    (carries-absent is_carrying refl [] sq told chg k act l s refl))
active_from-order (member ∷ order) lines sq told chg k act zero readable fits once below = absurd (omega arith)
active_from-order (member ∷ order) lines sq told chg k act (suc count) readable fits once below =
    active_from-next (read_of (member ∷ order) sq told chg k act readable) lines sq count
    ∙ ap (λ front. front ++ active_from (sq + 1) count
    (all_read (read_of (member ∷ order) sq told chg k act readable) 0 lines))
    (first-lines member order lines sq told chg k act readable (inside lines member order below))
    ∙ ap (λ rest. (if is_norm member.standing && readable member.line then member.line ∷ [] else []) ++ rest)
    (active_from-same (read_of (member ∷ order) sq told chg k act readable)
    (read_of order (sq + 1) told chg k act readable) lines (sq + 1) count
    (λ s l low within.
    head-rest is_carrying refl member order sq told chg k act l s (readable l) low (once l))
    ∙ active_from-order order lines (sq + 1) told chg k act count readable (omega arith)
    (λ l. let most = once l in omega arith) (λ l high. let none = below l high in omega arith))
    ∙ first-carrying member order readable

-- ---- the count
pub same_next : (a b : ℕ) → (suc a == suc b) ≡ (a == b)
same_next a b =
    elim (a == b) as (λ t. (a == b) ≡ t → (suc a == suc b) ≡ t) [
      | true ↦ λ e. let same = eqb-true a b e in eq-eqb (suc a) (suc b) (omega arith)
      | false ↦ λ e. let other = eqb-false a b e in ne_eqb (suc a) (suc b) (λ f. other (omega arith))
    ] refl

-- all are read exactly where as many are read as there are
pub count-all : (r : ℕ → Bool) (xs : List ℕ) → (length (filter r xs) == length xs) ≡ list_all r xs
count-all r [] = refl
count-all r (x ∷ xs) =
    elim (r x) as (λ b. (length (if b then x ∷ filter r xs else filter r xs) == suc (length xs))
    ≡ (b && list_all r xs)) [
      | true ↦ same_next (length (filter r xs)) (length xs) ∙ count-all r xs
      | false ↦
          let least = filter-few r xs in ne_eqb (length (filter r xs)) (suc (length xs)) (λ e. omega arith)
    ]

-- ---- the lines of a session stand at most once, and each is one of them
pub once-after : (scenario : Scenario) (returns : List (Option Told)) (k l : ℕ) →
    times (lines_of (table_of scenario returns k).order) l ≤ 1
once-after scenario returns k l =
    let source = after scenario returns (suc k) in
    IsPlan-once (length scenario.windows) (times (lines_of source.table.order)) source.waiting (planned_of source)
    (Fits-after scenario returns (suc k)).0.1 l

pub below-after : (scenario : Scenario) (returns : List (Option Told)) (k : ℕ) →
    IsBelow (length scenario.windows) (times (lines_of (table_of scenario returns k).order))
below-after scenario returns k = (Fits-after scenario returns (suc k)).0.0

pub active_of-filter : (scenario : Scenario) (returns : List (Option Told)) (k : ℕ) (told : Told)
    (readable : ℕ → Bool) → length scenario.windows ≤ most_lines →
    active_of (packets_from (length scenario.windows) told (table_of scenario returns k) k readable) ≡ filter readable
    (carrying (table_of scenario returns k).order)
active_of-filter scenario returns k told readable limit =
    let table = table_of scenario returns k in
    let size = order-length scenario returns (suc k) in
    active_from-order table.order (length scenario.windows) 0 told (table.count % 2 == 1) k
    (length (carrying table.order)) 256 readable (omega arith)
    (once-after scenario returns k) (below-after scenario returns k)

pub filter-all : (r : ℕ → Bool) (xs : List ℕ) → list_all r xs ≡ true → filter r xs ≡ xs
filter-all r [] e = refl
filter-all r (x ∷ xs) e =
    let parts = and_parts (r x) (list_all r xs) e in
    let here = parts.0 in
    rw here (ap (λ rest. x ∷ rest) (filter-all r xs parts.1))

pub active_of-all : (scenario : Scenario) (returns : List (Option Told)) (k : ℕ) (told : Told) (readable : ℕ → Bool) →
    length scenario.windows ≤ most_lines →
    list_all readable (carrying (table_of scenario returns k).order) ≡ true →
    active_of (packets_from (length scenario.windows) told (table_of scenario returns k) k readable) ≡ carrying
    (table_of scenario returns k).order
active_of-all scenario returns k told readable limit read =
    active_of-filter scenario returns k told readable limit
    ∙ filter-all readable (carrying (table_of scenario returns k).order) read

-- ---- some line is heard
shifted : (f : ℕ → Bool) (a n : ℕ) →
    list_any f (range_with_len (a + 1) n) ≡ list_any (λ l. f (suc l)) (range_with_len a n)
shifted f a zero = refl
shifted f a (suc n) =
    let e : a + 1 ≡ suc a = omega arith in
    ap (λ l. f l || list_any f (range_with_len (a + 1 + 1) n)) e ∙ ap (λ b. f (suc a) || b) (shifted f (a + 1) n)

any-at : {X : Type 0} (f : X → Bool) (d : X) (xs : List X) →
    list_any (λ l. f (slice_index_or xs l d)) (range_with_len 0 (length xs)) ≡ list_any f xs
any-at f d [] = refl
any-at f d (x ∷ xs) = ap (λ b. f x || b) (shifted (λ l. f (slice_index_or (x ∷ xs) l d)) 0 (length xs) ∙ any-at f d xs)

pub heard-any : (scenario : Scenario) (k : ℕ) →
    list_any (λ line. is_read scenario line k) (range_with_len 0 (length scenario.windows)) ≡ is_heard scenario k
heard-any scenario k = any-at (λ (windows : List Window). is_readable (carried windows) k) [] scenario.windows
