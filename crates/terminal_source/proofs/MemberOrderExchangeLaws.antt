-- Orders of members: an exchange and what comes of it, an order that is rewritten, and the place of a line in one.
use Rattle.std.proofs.Common.{◌≡◌, ℕ, suc, ◌+◌, ◌-◌, ◌<◌, ◌≤◌, ◌&&◌, Bool, true, false, List, [], ◌∷◌, ◌++◌, take}
use Rattle.std.proofs.Common.{drop, length, Option, Some, None, option_map, slice_index_or, refl, sym, ◌∙◌, ap}
use Rattle.std.proofs.Common.{append_assoc, add-one, arith, drop-cons, take-suc, length-drop, get_or-drop, not, cond}
use Rattle.std.proofs.Common.{nat_lt, min, position, subst, slice_set, drop-set-lt, ◌%◌, ◌==◌, eq-eqb, ne_eqb}
use Rattle.std.proofs.lemmas.List.{drop_all, get_or_default, length-take, take-append-le, take-append-drop, drop-take}
use Rattle.std.proofs.lemmas.List.{drop_more, take_more_set}
use Rattle.law_model.specs.Common.{is_adding, is_ok, take_out, is_fail, exchange, in_use, admit, turn, turned, Ctrl}
use Rattle.law_model.specs.Common.{Table, is_normal, active, bits_from, forward_packet, ctrl_by, place_in, state_by}
use Rattle.law_model.specs.Common.{state_without, state_in}
use Rattle.law_model.specs.declared.lcas_states.Member.{Member}
use Rattle.terminal_source.specs.lcas_source.Exchange.{taken_out}
use Rattle.std.specs.Prelude.{insert, remove}
use Rattle.std.specs.List.{prefix_len, list_any}
use Rattle.std.proofs.Math.Seq.{take-append_seam, drop-append_seam}
use Rattle.std.proofs.lemmas.List.Sums.{prefix_len_stops}
use Rattle.std.proofs.lemmas.Bool.{not-true, not-false, ltb-true, ltb-false}
use Rattle.law_model.specs.declared.control_packet.Packet.{Packet}
use Rattle.member_cells.specs.declared.control_word.Ctrl.TheVariants.{Idle}
use Rattle.terminal_source.proofs.GroupBitAndReturnStatusLaws.{bits_from-first}

-- ---- An exchange as it is made: the first line in ADD is looked for, and then the first later one that has OK.
-- what is taken out, with a front that it stands behind
abbrev pub behind : List Member → Option (Member × List Member) → Option (Member × List Member)
behind front found = option_map (λ found. (found.0, front ++ found.1)) found

behind-more : (front : List Member) (member : Member) (found : Option (Member × List Member)) →
    behind front (option_map (λ found. (found.0, member ∷ found.1)) found) ≡ behind (front ++ member ∷ []) found
behind-more front member None = refl
behind-more front member (Some found) =
    ap (λ order. Some (found.0, order)) (sym (append_assoc front (member ∷ []) found.1))

behind-nothing : (found : Option (Member × List Member)) → found ≡ behind [] found
behind-nothing None = refl
behind-nothing (Some found) = refl

-- the lines from one place up to another are passed
abbrev pub IsPassed : (ℕ → Option Bool) → List Member → ℕ → ℕ → Type 0
IsPassed kept order from sq = take_out kept from (drop from order) ≡ behind (take (sq - from) (drop from order))
    (take_out kept sq (drop sq order))

pub passed-none : (kept : ℕ → Option Bool) (order : List Member) (from : ℕ) → IsPassed kept order from from
passed-none kept order from = let e : from - from ≡ 0 = omega arith in
    rw e (behind-nothing (take_out kept from (drop from order)))

take_out-pass : (kept : ℕ → Option Bool) (sq : ℕ) (member : Member) (order : List Member) →
    (is_adding member && is_ok (kept sq)) ≡ false →
    take_out kept sq (member ∷ order) ≡ option_map (λ found. (found.0, member ∷ found.1)) (take_out kept (sq + 1) order)
unfolding take_out
take_out-pass kept sq member order e = rw e refl

take_out-here : (kept : ℕ → Option Bool) (sq : ℕ) (member : Member) (order : List Member) →
    (is_adding member && is_ok (kept sq)) ≡ true →
    take_out kept sq (member ∷ order) ≡ Some (member, order)
unfolding take_out
take_out-here kept sq member order e = rw e refl

take_out-none : (kept : ℕ → Option Bool) (sq : ℕ) → take_out kept sq [] ≡ None
unfolding take_out
take_out-none kept sq = refl

-- the lines between two places, and one more
between-more : (order : List Member) (from sq : ℕ) (member : Member) → from ≤ sq → sq < length order →
    take (sq + 1 - from) (drop from order) ≡ take (sq - from) (drop from order) ++ slice_index_or order sq member ∷ []
between-more order from sq member later inside =
    let e : sq + 1 - from ≡ suc (sq - from) = omega arith in
    let place : from + (sq - from) ≡ sq = omega arith in
    let size = length-drop from order in
    rw e (take-suc (drop from order) (sq - from) member (omega arith)
    ∙ ap (λ last. take (sq - from) (drop from order) ++ last ∷ [])
    (get_or-drop from order (sq - from) member ∙ ap (λ i. slice_index_or order i member) place))

pub passed-more : (kept : ℕ → Option Bool) (order : List Member) (from sq : ℕ) (member : Member) → from ≤ sq →
    sq < length order →
    (is_adding (slice_index_or order sq member) && is_ok (kept sq)) ≡ false → IsPassed kept order from sq →
    IsPassed kept order from (sq + 1)
passed-more kept order from sq member later inside test passed =
    let rest : drop sq order ≡ slice_index_or order sq member ∷ drop (sq + 1) order =
    rw add-one (drop-cons order sq member inside) in
    passed
    ∙ ap (λ found. behind (take (sq - from) (drop from order)) found)
    (ap (take_out kept sq) rest ∙ take_out-pass kept sq _ _ test)
    ∙ behind-more (take (sq - from) (drop from order)) (slice_index_or order sq member)
    (take_out kept (sq + 1) (drop (sq + 1) order))
    ∙ ap (λ front. behind front (take_out kept (sq + 1) (drop (sq + 1) order)))
    (sym (between-more order from sq member later inside))

pub passed-found : (kept : ℕ → Option Bool) (order : List Member) (from sq : ℕ) (seen member : Member) →
    sq < length order →
    (is_adding (slice_index_or order sq seen) && is_ok (kept sq)) ≡ true → IsPassed kept order from sq →
    take_out kept from (drop from order) ≡ taken_out order from sq member
passed-found kept order from sq seen member inside test passed =
    let rest : drop sq order ≡ slice_index_or order sq seen ∷ drop (sq + 1) order =
    rw add-one (drop-cons order sq seen inside) in
    passed ∙ ap (λ found. behind (take (sq - from) (drop from order)) found)
    (ap (take_out kept sq) rest ∙ take_out-here kept sq _ _ test)
    ∙ ap (λ found. Some (found, take (sq - from) (drop from order) ++ drop (sq + 1) order))
    (get_or_default order sq seen member inside)

pub passed-all : (kept : ℕ → Option Bool) (order : List Member) (from sq : ℕ) → length order ≤ sq →
    IsPassed kept order from sq →
    take_out kept from (drop from order) ≡ None
passed-all kept order from sq all passed =
    passed ∙ ap (λ found. behind (take (sq - from) (drop from order)) found)
    (ap (take_out kept sq) (drop_all sq order all) ∙ take_out-none kept sq)

-- ---- An exchange looks at the first line in ADD: what it makes, told by the place of that line and of the one that is
-- taken out.
abbrev pub is_other : Member → Bool
is_other member = not (is_adding member)

-- a front of lines that are not in ADD
abbrev pub after_front : List Member → Option (List Member) → Option (List Member)
after_front front found = option_map (λ rest. front ++ rest) found

after_front-more : (member : Member) (front : List Member) (found : Option (List Member)) →
    option_map (λ rest. member ∷ rest) (after_front front found) ≡ after_front (member ∷ front) found
after_front-more member front None = refl
after_front-more member front (Some found) = refl

after_front-nothing : (found : Option (List Member)) → found ≡ after_front [] found
after_front-nothing None = refl
after_front-nothing (Some found) = refl

exchange-pass : (kept : ℕ → Option Bool) (sq : ℕ) (member : Member) (order : List Member) → is_adding member ≡ false →
    exchange kept sq (member ∷ order) ≡ option_map (λ rest. member ∷ rest) (exchange kept (sq + 1) order)
unfolding exchange
exchange-pass kept sq member order e = rw e refl

exchange-here : (kept : ℕ → Option Bool) (sq : ℕ) (member : Member) (order : List Member) → is_adding member ≡ true →
    is_fail (kept sq) ≡ true →
    exchange kept sq (member ∷ order) ≡ option_map (λ found. found.0 ∷ member ∷ found.1) (take_out kept (sq + 1) order)
unfolding exchange
exchange-here kept sq member order adds fails = rw (adds, fails) refl

exchange-not : (kept : ℕ → Option Bool) (sq : ℕ) (member : Member) (order : List Member) → is_adding member ≡ true →
    is_fail (kept sq) ≡ false →
    exchange kept sq (member ∷ order) ≡ None
unfolding exchange
exchange-not kept sq member order adds fails = rw (adds, fails) refl

exchange-none : (kept : ℕ → Option Bool) (sq : ℕ) → exchange kept sq [] ≡ None
unfolding exchange
exchange-none kept sq = refl

exchange-front : (kept : ℕ → Option Bool) (base : ℕ) (order : List Member) →
    exchange kept base order ≡ after_front (take (prefix_len is_other order) order)
    (exchange kept (base + prefix_len is_other order) (drop (prefix_len is_other order) order))
exchange-front kept base [] = let e : base + 0 ≡ base = omega arith in
    rw e (after_front-nothing (exchange kept base []))
exchange-front kept base (member ∷ order) =
    elim (is_other member) as (λ b. is_other member ≡ b → exchange kept base (member ∷ order)
    ≡ after_front (take (cond b (1 + prefix_len is_other order) 0) (member ∷ order))
    (exchange kept (base + cond b (1 + prefix_len is_other order) 0)
    (drop (cond b (1 + prefix_len is_other order) 0) (member ∷ order)))) [
      | true ↦ λ e.
          let n = prefix_len is_other order in
          let one : 1 + n ≡ suc n = omega arith in
          let place : base + suc n ≡ base + 1 + n = omega arith in
          rw (one, place) (exchange-pass kept base member order (not-true (is_adding member) e)
          ∙ ap (option_map (λ rest. member ∷ rest)) (exchange-front kept (base + 1) order)
          ∙ after_front-more member (take n order) (exchange kept (base + 1 + n) (drop n order)))
      | false ↦ λ e. let here : base + 0 ≡ base = omega arith in
          rw here (after_front-nothing (exchange kept base (member ∷ order)))
    ] refl

-- the first line in ADD stands at a place
pub record IsFirstAdding (kept : ℕ → Option Bool) (order : List Member) (first : ℕ) : Type 0 where
  pub inside : first < length order
  pub adds : (member : Member) → is_adding (slice_index_or order first member) ≡ true
  pub front : exchange kept 0 order ≡ after_front (take first order) (exchange kept first (drop first order))

abbrev pub Finds : (ℕ → Option Bool) → List Member → Option ℕ → Type 0
Finds kept order None = exchange kept 0 order ≡ None
Finds kept order (Some first) = IsFirstAdding kept order first

position-finds : (kept : ℕ → Option Bool) (order : List Member) → Finds kept order (position is_adding order)
position-finds kept order =
    let n = prefix_len is_other order in
    let zero_first : 0 + n ≡ n = omega arith in
    let front : exchange kept 0 order ≡ after_front (take n order) (exchange kept n (drop n order)) =
    rw zero_first at (exchange-front kept 0 order) in
    elim (nat_lt n (length order)) as (λ b. nat_lt n (length order) ≡ b → Finds kept order (cond b (Some n) None)) [
      | true ↦ λ e.
          let inside = ltb-true n (length order) e in
          record {
            inside = inside;
            adds = λ member. not-false _ (prefix_len_stops is_other order member inside);
            front = front;
          }
      | false ↦ λ e.
          let all = ltb-false n (length order) e in
          front ∙ ap (after_front (take n order)) (ap (exchange kept n) (drop_all n order all) ∙ exchange-none kept n)
    ] refl

-- ---- what comes of it
pub finds-no_fail : (kept : ℕ → Option Bool) (order : List Member) (first : ℕ) (member : Member) →
    IsFirstAdding kept order first → is_fail (kept first) ≡ false →
    exchange kept 0 order ≡ None
finds-no_fail kept order first member finds known =
    finds.front ∙ ap (after_front (take first order))
    (ap (exchange kept first) (drop_more order first member finds.inside)
    ∙ exchange-not kept first _ _ (finds.adds member) known)

exchange-found : (kept : ℕ → Option Bool) (order : List Member) (first : ℕ) (member : Member)
    (found : Option (Member × List Member)) →
    IsFirstAdding kept order first → is_fail (kept first) ≡ true →
    take_out kept (first + 1) (drop (first + 1) order) ≡ found →
    exchange kept 0 order ≡ after_front (take first order)
    (option_map (λ found. found.0 ∷ slice_index_or order first member ∷ found.1) found)
exchange-found kept order first member found finds fails found_is =
    finds.front ∙ ap (after_front (take first order))
    (ap (exchange kept first) (drop_more order first member finds.inside)
    ∙ exchange-here kept first _ _ (finds.adds member) fails
    ∙ ap (option_map (λ found. found.0 ∷ slice_index_or order first member ∷ found.1)) found_is)

pub finds-no_later : (kept : ℕ → Option Bool) (order : List Member) (first : ℕ) (member : Member) →
    IsFirstAdding kept order first → is_fail (kept first) ≡ true →
    take_out kept (first + 1) (drop (first + 1) order) ≡ None → exchange kept 0 order ≡ None
finds-no_later kept order first member finds fails none = exchange-found kept order first member None finds fails none

-- a member is removed, and inserted at an earlier place
moved : (order : List Member) (first later : ℕ) (member : Member) → first + 1 ≤ later → later < length order →
    insert (remove order later) first (slice_index_or order later member)
    ≡ take first order ++ slice_index_or order later member ∷ slice_index_or order first member ∷
    (take (later - (first + 1)) (drop (first + 1) order) ++ drop (later + 1) order)
moved order first later member before inside =
    let x = slice_index_or order first member in
    let y = slice_index_or order later member in
    let middle = take (later - (first + 1)) (drop (first + 1) order) in
    let back = drop (later + 1) order in
    let whole : first + (later - first) ≡ later = omega arith in
    let size : length (take later order) ≡ later = length-take later order
    ∙ (let e : min later (length order) ≡ later = omega arith in e) in
    let first_size : length (take first order) ≡ first = length-take first order
    ∙ (let e : min first (length order) ≡ first = omega arith in e) in
    let steps : later - first ≡ suc (later - (first + 1)) = omega arith in
    let short : first ≤ length (take later order) = omega arith in
    let front : take first (take later order) ≡ take first order =
    sym (take-append-le first (take later order) (drop later order) short)
    ∙ ap (take first) (take-append-drop later order) in
    let rest : drop first (take later order) ≡ x ∷ middle =
    ap (λ n. drop first (take n order)) (sym whole) ∙ drop-take first (later - first) order
    ∙ ap (take (later - first)) (drop_more order first member (omega arith))
    ∙ ap (λ n. take n (x ∷ drop (first + 1) order)) steps in
    let before_it : take later order ≡ take first order ++ x ∷ middle =
    sym (take-append-drop first (take later order)) ∙ ap (λ f. f ++ drop first (take later order)) front
    ∙ ap (λ r. take first order ++ r) rest in
    let others : remove order later ≡ take first order ++ (x ∷ middle ++ back) =
    ap (λ front. front ++ drop (suc later) order) before_it
    ∙ append_assoc (take first order) (x ∷ middle) (drop (suc later) order)
    ∙ ap (λ n. take first order ++ (x ∷ middle ++ drop n order)) (let e : suc later ≡ later + 1 = omega arith in e) in
    ap (λ zs. insert zs first y) others
    ∙ ap (λ n. take n (take first order ++ (x ∷ middle ++ back)) ++ y ∷ drop n
    (take first order ++ (x ∷ middle ++ back))) (sym first_size)
    ∙ ap (λ front. front ++ y ∷ drop (length (take first order)) (take first order ++ (x ∷ middle ++ back)))
    (take-append_seam (take first order) (x ∷ middle ++ back))
    ∙ ap (λ back. take first order ++ y ∷ back) (drop-append_seam (take first order) (x ∷ middle ++ back))

pub finds-later : (kept : ℕ → Option Bool) (order : List Member) (first later : ℕ) (member : Member) →
    IsFirstAdding kept order first → is_fail (kept first) ≡ true →
    first + 1 ≤ later → later < length order →
    take_out kept (first + 1) (drop (first + 1) order) ≡ taken_out order (first + 1) later member →
    exchange kept 0 order ≡ Some (insert (remove order later) first (slice_index_or order later member))
finds-later kept order first later member finds fails before inside found =
    exchange-found kept order first member _ finds fails found
    ∙ ap Some (sym (moved order first later member before inside))

pub finds : (kept : ℕ → Option Bool) (order : List Member) (found : Option ℕ) → position is_adding order ≡ found →
    Finds kept order found
finds kept order found e = subst (Finds kept order) e (position-finds kept order)

-- ---- What a step does with the first line of an order.
-- a line that is not in ADD stays, and the first one in ADD becomes NORM where it has OK; else all stay
pub admit-other : (kept : ℕ → Option Bool) (sq : ℕ) (member : Member) (order : List Member) → is_adding member ≡ false →
    admit kept sq (member ∷ order) ≡ member ∷ admit kept (sq + 1) order
unfolding admit
admit-other kept sq member order other = rw other refl

pub admit-confirmed : (kept : ℕ → Option Bool) (sq : ℕ) (member : Member) (order : List Member) →
    is_adding member ≡ true → is_ok (kept sq) ≡ true →
    admit kept sq (member ∷ order) ≡ in_use member ∷ admit kept (sq + 1) order
unfolding admit
admit-confirmed kept sq member order adding ok = rw (adding, ok) refl

pub admit-open : (kept : ℕ → Option Bool) (sq : ℕ) (member : Member) (order : List Member) → is_adding member ≡ true →
    is_ok (kept sq) ≡ false →
    admit kept sq (member ∷ order) ≡ member ∷ order
unfolding admit
admit-open kept sq member order adding lacks = rw (adding, lacks) refl

pub admit-none : (kept : ℕ → Option Bool) (sq : ℕ) → admit kept sq [] ≡ []
unfolding admit
admit-none kept sq = refl

pub turned-first : (kept : ℕ → Option Bool) (sq : ℕ) (member : Member) (order : List Member) →
    turned kept sq (member ∷ order) ≡ record { line = member.line; standing = turn (kept sq) member.standing } ∷ turned
    kept (sq + 1) order
unfolding turned
turned-first kept sq member order = refl

pub turned-none : (kept : ℕ → Option Bool) (sq : ℕ) → turned kept sq [] ≡ []
unfolding turned
turned-none kept sq = refl

-- ---- A list that is rewritten from its front on, place by place, as a recursion that counts the places along gives it.
-- so far the front is rewritten, and the recursion would rewrite the rest
abbrev pub IsRewriting : {X : Type 0} → (ℕ → List X → List X) → ℕ → List X → List X → Type 0
IsRewriting rewrite i xs whole = take i xs ++ rewrite i (drop i xs) ≡ whole

-- one more place is written
pub front-written : {X : Type 0} (rewrite : ℕ → List X → List X) (i : ℕ) (xs whole : List X) (x y : X) → i < length xs →
    rewrite i (slice_index_or xs i x ∷ drop (i + 1) xs) ≡ y ∷ rewrite (i + 1) (drop (i + 1) xs) →
    IsRewriting rewrite i xs whole → IsRewriting rewrite (i + 1) (slice_set xs i y) whole
front-written rewrite i xs whole x y h step so_far =
    let rest : drop i xs ≡ slice_index_or xs i x ∷ drop (i + 1) xs = rw add-one (drop-cons xs i x h) in
    rw (take_more_set xs i y h, drop-set-lt (i + 1) xs i y (omega arith), append_assoc)
    (ap (λ tail. take i xs ++ tail) (sym step ∙ ap (rewrite i) (sym rest)) ∙ so_far)

-- the rest stays as it is
pub front-stops : {X : Type 0} (rewrite : ℕ → List X → List X) (i : ℕ) (xs whole : List X) →
    rewrite i (drop i xs) ≡ drop i xs → IsRewriting rewrite i xs whole → xs ≡ whole
front-stops rewrite i xs whole stays so_far = sym (take-append-drop i xs) ∙ ap (λ tail. take i xs ++ tail) (sym stays)
    ∙ so_far

-- all places are rewritten
pub front-ends : {X : Type 0} (rewrite : ℕ → List X → List X) (i : ℕ) (xs whole : List X) → length xs ≤ i →
    rewrite i [] ≡ [] → IsRewriting rewrite i xs whole → xs ≡ whole
front-ends rewrite i xs whole h nothing so_far =
    front-stops rewrite i xs whole (ap (rewrite i) (drop_all i xs h) ∙ nothing ∙ sym (drop_all i xs h)) so_far

-- ---- A line is looked for in the order, place by place.
place-here : (member : Member) (order : List Member) (sq line : ℕ) → (member.line == line) ≡ true →
    place_in (member ∷ order) sq line ≡ record { ctrl = ctrl_by member.standing (list_any is_normal order); sq = sq }
unfolding place_in
place-here member order sq line e = rw e refl

place-other : (member : Member) (order : List Member) (sq line : ℕ) → (member.line == line) ≡ false →
    place_in (member ∷ order) sq line ≡ place_in order (sq + 1) line
unfolding place_in
place-other member order sq line e = rw e refl

pub place-found : (order : List Member) (i line : ℕ) (member : Member) → i < length order →
    (slice_index_or order i member).line ≡ line →
    place_in (drop i order) i line
    ≡ record {
      ctrl = ctrl_by (slice_index_or order i member).standing (list_any is_normal (drop (i + 1) order));
      sq =
          i;
    }
place-found order i line member inside e =
    ap (λ rest. place_in rest i line) (drop_more order i member inside)
    ∙ place-here _ (drop (i + 1) order) i line (eq-eqb _ line e)

pub place-next : (order : List Member) (i line : ℕ) (member : Member) → i < length order →
    ((slice_index_or order i member).line ≡ line → ⊥) →
    place_in (drop i order) i line ≡ place_in (drop (i + 1) order) (i + 1) line
place-next order i line member inside other =
    ap (λ rest. place_in rest i line) (drop_more order i member inside)
    ∙ place-other _ (drop (i + 1) order) i line (ne_eqb _ line other)

pub place-none : (order : List Member) (i line : ℕ) → length order ≤ i →
    place_in (drop i order) i line ≡ record { ctrl = Idle; sq = 255 }
unfolding place_in
place-none order i line all = ap (λ rest. place_in rest i line) (drop_all i order all)

state-here : (member : Member) (order : List Member) (leaving : Option ℕ) (line : ℕ) → (member.line == line) ≡ true →
    state_in (member ∷ order) leaving line ≡ state_by member.standing
unfolding state_in
state-here member order leaving line e = rw e refl

state-other : (member : Member) (order : List Member) (leaving : Option ℕ) (line : ℕ) → (member.line == line) ≡ false →
    state_in (member ∷ order) leaving line ≡ state_in order leaving line
unfolding state_in
state-other member order leaving line e = rw e refl

pub state-found : (order : List Member) (leaving : Option ℕ) (i line : ℕ) (member : Member) → i < length order →
    (slice_index_or order i member).line ≡ line →
    state_in (drop i order) leaving line ≡ state_by (slice_index_or order i member).standing
state-found order leaving i line member inside e =
    ap (λ rest. state_in rest leaving line) (drop_more order i member inside)
    ∙ state-here _ (drop (i + 1) order) leaving line (eq-eqb _ line e)

pub state-next : (order : List Member) (leaving : Option ℕ) (i line : ℕ) (member : Member) → i < length order →
    ((slice_index_or order i member).line ≡ line → ⊥) →
    state_in (drop i order) leaving line ≡ state_in (drop (i + 1) order) leaving line
state-next order leaving i line member inside other =
    ap (λ rest. state_in rest leaving line) (drop_more order i member inside)
    ∙ state-other _ (drop (i + 1) order) leaving line (ne_eqb _ line other)

pub state-none : (order : List Member) (leaving : Option ℕ) (i line : ℕ) → length order ≤ i →
    state_in (drop i order) leaving line ≡ state_without leaving line
unfolding state_in
state-none order leaving i line all = ap (λ rest. state_in rest leaving line) (drop_all i order all)

-- ---- a packet by its parts
abbrev pub packet_with : Bool → ℕ → ℕ → Ctrl → Bool → ℕ → Packet
packet_with chg sq mfi2 ctrl gid act =
    record { mst = 0; rs_ack = false; chg = chg; sq = sq; mfi2 = mfi2; ctrl = ctrl; gid = gid; act = act }

same-packet : (chg gid chg' gid' : Bool) (sq mfi2 act sq' mfi2' act' : ℕ) (ctrl ctrl' : Ctrl) →
    chg ≡ chg' → sq ≡ sq' → mfi2 ≡ mfi2' → ctrl ≡ ctrl' → gid ≡ gid' → act ≡ act' →
    packet_with chg sq mfi2 ctrl gid act ≡ packet_with chg' sq' mfi2' ctrl' gid' act'
same-packet chg gid chg' gid' sq mfi2 act sq' mfi2' act' ctrl ctrl' is_chg is_sq is_mfi2 is_ctrl is_gid is_act = cc

pub packet-fields : (table : Table) (line steps : ℕ) (group : List Bool) (chg gid : Bool) (sq act : ℕ) (ctrl : Ctrl) →
    0 < steps → group ≡ bits_from (steps - 1) →
    chg ≡ (table.count % 2 == 1) → sq ≡ (place_in table.order 0 line).sq → ctrl ≡ (place_in table.order 0 line).ctrl →
    gid ≡ slice_index_or group 0 false →
    act ≡ length (active table) → packet_with chg sq (steps % 256) ctrl gid act ≡ forward_packet table line (steps - 1)
packet-fields table line steps group chg gid sq act ctrl made is_group is_chg is_sq is_ctrl is_gid is_act =
    let last : steps % 256 ≡ (steps - 1 + 1) % 256 = omega arith in
    let bit = is_gid ∙ ap (λ bits. slice_index_or bits 0 false) is_group ∙ bits_from-first (steps - 1) in
    same-packet _ _ _ _ _ _ _ _ _ _ _ _ is_chg is_sq last is_ctrl bit is_act
