-- Codes of two bits in words, and the refusals that they tell.
use Rattle.std.proofs.Common.{◌≡◌, ℕ, zero, suc, ◌+◌, ◌*◌, ◌^◌, ◌/◌, ◌%◌, ◌<◌, ◌≤◌, List, [], ◌∷◌, ◌++◌, length, take, drop, get_or, set}
use Rattle.std.proofs.Common.{slice_get, All, Option, Some, None, option_map, IfSome, Bool, true, false, not, ◌||◌, nat_lt}
use Rattle.std.proofs.Common.{nat_le, if◌then◌else◌, refl, sym, ◌∙◌, ap, arith, append_assoc, append-nil, replicate}
use Rattle.std.proofs.Common.{inl, inr}
use Rattle.std.proofs.lemmas.Bool.{cases_eq}
use Rattle.std.proofs.lemmas.Nat.{pow-add, shr-shr}
use Rattle.std.proofs.lemmas.List.{drop_all, get_or-set_same, get_or-set_other, length-replicate}
use Rattle.std.proofs.lemmas.List.Elements.{All-cons, All-append}
use Rattle.law_model.proofs.ListLaws.{drop-next, none-beyond, take-few}
use Rattle.law_model.specs.declared.script_types.Item.{Item}
use Rattle.law_model.specs.declared.script_types.ItemKind.{ItemKind}
use Rattle.law_model.specs.declared.script_types.ItemKind.TheVariants.{Frame, Add, Remove}
use Rattle.law_model.specs.declared.item_refusals.Refusal.{Refusal}
use Rattle.law_model.specs.declared.item_refusals.Refusal.TheVariants.{Frame as frame_refused, Command as command_refused}
use Rattle.law_model.specs.declared.item_refusals.AcceptFault.{AcceptFault}
use Rattle.law_model.specs.declared.item_refusals.AcceptFault.TheVariants.{Length, QueueFull}
use Rattle.law_model.specs.declared.item_refusals.CommandFault.{CommandFault}
use Rattle.law_model.specs.declared.item_refusals.CommandFault.TheVariants.{UnknownLine, AlreadyIn, NotIn, TooManyPending}
use Rattle.law_model.specs.Common.{Scenario, Source, Told, offers_of, orders_of, planned_of}
use Rattle.law_model.specs.Common.{most_waiting, most_pending, shortest_frame, longest_frame}
use Rattle.law_walk.specs.Common.{IsPlaced, refused_by, kind_refusal, source_met, stream_met}
use Rattle.terminal_source.specs.source_core.Terminal.{Terminal}
use Rattle.terminal_group.specs.Item.{bare_kind}
use Rattle.terminal_group.specs.GivenItem.{met_by}
use Rattle.terminal_group.specs.Landed.{Landed, IsKept, IsReasonAt}
use Rattle.terminal_group.specs.RefusalCodes.{code_in, code_at, IsReason, reasons, reason_by, refusals_from}

-- ---- a place of a word
pub none-in : (place : ℕ) → code_in 0 place ≡ 0
unfolding code_in
none-in zero = refl
none-in (suc place) = none-in place

four-more : (place : ℕ) → 2 ^ (2 * suc place) ≡ 4 * 2 ^ (2 * place)
four-more place =
    ap (λ n. 2 ^ n) (let e : 2 * suc place ≡ 2 + 2 * place = omega arith in e) ∙ pow-add 2 2 (2 * place)

code-more : (place code : ℕ) → code * 2 ^ (2 * suc place) ≡ 4 * (code * 2 ^ (2 * place))
code-more place code = ap (λ n. code * n) (four-more place) ∙ turned code (2 ^ (2 * place))
  where
    turned : (a b : ℕ) → a * (4 * b) ≡ 4 * (a * b)
    turned a b = omega arith

pub shifted : (place word : ℕ) → word / 2 ^ (2 * place) % 4 ≡ code_in word place
unfolding code_in
shifted zero word = omega arith
shifted (suc place) word =
    ap (λ n. word / 2 ^ n % 4) (let e : 2 * suc place ≡ 2 + 2 * place = omega arith in e)
    ∙ ap (λ n. n % 4) (sym (shr-shr word 2 (2 * place))) ∙ shifted place (word / 4)

quarter : (place word code : ℕ) → (word + code * 2 ^ (2 * suc place)) / 4 ≡ word / 4 + code * 2 ^ (2 * place)
quarter place word code = omega (arith, code-more place code)

pub put-here : (place word code : ℕ) → code_in word place ≡ 0 → code < 4 →
    code_in (word + code * 2 ^ (2 * place)) place ≡ code
unfolding code_in
put-here zero word code none few = omega arith
put-here (suc place) word code none few =
    ap (λ n. code_in n place) (quarter place word code) ∙ put-here place (word / 4) code none few

pub put-other : (place other word code : ℕ) → (other ≡ place → ⊥) → code_in word place ≡ 0 → code < 4 →
    code_in (word + code * 2 ^ (2 * place)) other ≡ code_in word other
unfolding code_in
put-other zero zero word code apart none few = absurd (apart refl)
put-other zero (suc other) word code apart none few =
    ap (λ n. code_in n other) (let e : (word + code * 2 ^ (2 * 0)) / 4 ≡ word / 4 = omega arith in e)
put-other (suc place) zero word code apart none few = omega (arith, code-more place code)
put-other (suc place) (suc other) word code apart none few =
    ap (λ n. code_in n other) (quarter place word code)
    ∙ put-other place other (word / 4) code (λ e. apart (ap suc e)) none few

pub put-fits : (places place word code : ℕ) → place < places → word < 2 ^ (2 * places) → code_in word place ≡ 0 →
    code < 4 → word + code * 2 ^ (2 * place) < 2 ^ (2 * places)
unfolding code_in
put-fits zero place word code inside low none few = absurd (omega arith)
put-fits (suc places) zero word code inside low none few = omega (arith, four-more places)
put-fits (suc places) (suc place) word code inside low none few =
    let four = four-more places in
    let rest = put-fits places place (word / 4) code (omega arith) (omega (arith, four)) none few in
    omega (arith, four, rest, code-more place code)

-- ---- words
-- a word that is there, whatever is read where none is
pub same-word : (words : List ℕ) (place d : ℕ) → place < length words → get_or words place d ≡ get_or words place 0
same-word [] place d inside = absurd (omega arith)
same-word (word ∷ words) zero d inside = refl
same-word (word ∷ words) (suc place) d inside = same-word words place d (omega (arith, inside))

get-zero : (n k : ℕ) → ◌≡◌ {A = ℕ} (get_or (replicate n 0) k 0) 0
get-zero zero k = refl
get-zero (suc n) zero = refl
get-zero (suc n) (suc k) = get-zero n k

pub clear-words : (n number : ℕ) → code_at (replicate n 0) number ≡ 0
clear-words n number = ap (λ w. code_in w (number % 32)) (get-zero n (number / 32)) ∙ none-in (number % 32)

pub clear-word : (words : List ℕ) (place number : ℕ) → get_or words place 0 ≡ 0 → number / 32 ≡ place →
    code_at words number ≡ 0
clear-word words place number clear at =
    ap (λ w. code_in w (number % 32)) (ap (λ p. get_or words p 0) at ∙ clear) ∙ none-in (number % 32)

-- a code more in a word
abbrev with_added : List ℕ → ℕ → ℕ → List ℕ
with_added words number code =
    set words (number / 32) (get_or words (number / 32) 0 + code * 2 ^ (2 * (number % 32)))

pub word-here : (words : List ℕ) (number code : ℕ) → number < 32 * length words → code_at words number ≡ 0 → code < 4 →
    code_at (with_added words number code) number ≡ code
word-here words number code inside none few =
    ap (λ w. code_in w (number % 32)) (get_or-set_same words (number / 32)
    (get_or words (number / 32) 0 + code * 2 ^ (2 * (number % 32))) 0 (omega (arith, inside)))
    ∙ put-here (number % 32) (get_or words (number / 32) 0) code none few

pub word-other : (words : List ℕ) (number code other : ℕ) → number < 32 * length words → code_at words number ≡ 0 →
    code < 4 → (other ≡ number → ⊥) → code_at (with_added words number code) other ≡ code_at words other
word-other words number code other inside none few apart =
    elim (cases_eq (other / 32) (number / 32)) [
      | inl same ↦
          ap (λ p. code_in (get_or (with_added words number code) p 0) (other % 32)) same
          ∙ ap (λ w. code_in w (other % 32)) (get_or-set_same words (number / 32)
          (get_or words (number / 32) 0 + code * 2 ^ (2 * (number % 32))) 0 (omega (arith, inside)))
          ∙ put-other (number % 32) (other % 32) (get_or words (number / 32) 0) code
          (λ e. apart (omega (arith, same, e))) none few
          ∙ ap (λ p. code_in (get_or words p 0) (other % 32)) (sym same)
      | inr differs ↦ ap (λ w. code_in w (other % 32)) (get_or-set_other words (number / 32) (other / 32)
          (get_or words (number / 32) 0 + code * 2 ^ (2 * (number % 32))) 0 differs)
    ]

-- ---- the refusals among items, of a group of so many lines
module _ (lines : ℕ) where
  pub codes-same : (code other : ℕ → ℕ) (items : List Item) (i : ℕ) →
      ((n : ℕ) → i ≤ n → n < i + length items → other n ≡ code n) →
      refusals_from lines other i items ≡ refusals_from lines code i items
  unfolding refusals_from
  codes-same code other [] i same = refl
  codes-same code other (item ∷ items) i same =
      ap (λ n. refused_by i (reason_by lines item.kind n) ++ refusals_from lines other (suc i) items)
      (same i (omega arith) (omega arith))
      ∙ ap (λ (l : List (ℕ × Refusal)). refused_by i (reason_by lines item.kind (code i)) ++ l)
      (codes-same code other items (suc i) (λ n low high. same n (omega arith) (omega arith)))

  refused-each : (P : ℕ → Type 0) (i : ℕ) (why : Option Refusal) → P i → All (λ (refused : ℕ × Refusal). P refused.0)
      (refused_by i why)
  refused-each P i None is = λ k d inside. absurd (omega arith)
  refused-each P i (Some why) is =
      All-cons (λ (refused : ℕ × Refusal). P refused.0) (i, why) [] is (λ k d inside. absurd (omega arith))

  pub numbers-each : (P : ℕ → Type 0) (code : ℕ → ℕ) (items : List Item) (i : ℕ) →
      ((n : ℕ) → i ≤ n → n < i + length items → P n) →
      All (λ (refused : ℕ × Refusal). P refused.0) (refusals_from lines code i items)
  unfolding refusals_from
  numbers-each P code [] i is = λ k d inside. absurd (omega arith)
  numbers-each P code (item ∷ items) i is =
      All-append (λ (refused : ℕ × Refusal). P refused.0) (refused_by i (reason_by lines item.kind (code i)))
      (refusals_from lines code (suc i) items)
      (refused-each P i (reason_by lines item.kind (code i)) (is i (omega arith) (omega arith)))
      (numbers-each P code items (suc i) (λ n low high. is n (omega arith) (omega arith)))

  -- those before an item, its own, and those behind it
  cut-from : (code : ℕ → ℕ) (items : List Item) (i k number : ℕ) (item : Item) → slice_get items k ≡ Some item →
      number ≡ i + k →
      refusals_from lines code i items
      ≡ refusals_from lines code i (take k items) ++ refused_by number (reason_by lines item.kind (code number))
      ++ refusals_from lines code (suc number) (drop (suc k) items)
  unfolding refusals_from
  cut-from code [] i k number item there at = absurd cc
  cut-from code (first ∷ items) i zero number item there at =
      let same : first ≡ item = cc in
      let here : i ≡ number = omega arith in
      ap (λ (x : Item). refused_by i (reason_by lines x.kind (code i)) ++ refusals_from lines code (suc i) items) same
      ∙ ap (λ n. refused_by n (reason_by lines item.kind (code n)) ++ refusals_from lines code (suc n) items) here
  cut-from code (first ∷ items) i (suc k) number item there at =
      let own = refused_by i (reason_by lines first.kind (code i)) in
      let front = refusals_from lines code (suc i) (take k items) in
      let put = refused_by number (reason_by lines item.kind (code number)) in
      let back = refusals_from lines code (suc number) (drop (suc k) items) in
      ap (λ (l : List (ℕ × Refusal)). own ++ l) (cut-from code items (suc i) k number item there (omega arith))
      ∙ sym (append_assoc own (front ++ put) back)
      ∙ ap (λ (l : List (ℕ × Refusal)). l ++ back) (sym (append_assoc own front put))

  -- an item that gets its code
  pub code-placed : (code other : ℕ → ℕ) (items : List Item) (number : ℕ) (item : Item) (why : Option Refusal) →
      slice_get items number ≡ Some item → code number ≡ 0 → reason_by lines item.kind (other number) ≡ why →
      ((n : ℕ) → (n ≡ number → ⊥) → other n ≡ code n) →
      IsPlaced number (refused_by number why) (refusals_from lines code 0 items) (refusals_from lines other 0 items)
  code-placed code other items number item why there none says same =
      let front : List (ℕ × Refusal) = refusals_from lines code 0 (take number items) in
      let back : List (ℕ × Refusal) = refusals_from lines code (suc number) (drop (suc number) items) in
      let few = take-few number items in
      record {
        front = front;
        back = back;
        was_so = cut-from code items 0 number number item there (omega arith)
            ∙ ap (λ n. front ++ refused_by number (reason_by lines item.kind n) ++ back) none
            ∙ ap (λ (l : List (ℕ × Refusal)). l ++ back) (append-nil front);
        is_so = cut-from other items 0 number number item there (omega arith)
            ∙ ap (λ (w : Option Refusal). refusals_from lines other 0 (take number items) ++ refused_by number w
            ++ refusals_from lines other (suc number) (drop (suc number) items)) says
            ∙ ap (λ (l : List (ℕ × Refusal)). l ++ refused_by number why
            ++ refusals_from lines other (suc number) (drop (suc number) items))
            (codes-same code other (take number items) 0 (λ n low high. same n (λ e. omega (arith, few))))
            ∙ ap (λ (l : List (ℕ × Refusal)). front ++ refused_by number why ++ l)
            (codes-same code other (drop (suc number) items) (suc number)
            (λ n low high. same n (λ e. omega arith)));
        before = numbers-each (λ n. n < number) code (take number items) 0 (λ n low high. omega (arith, few));
        after = numbers-each (λ n. number < n) code (drop (suc number) items) (suc number) (λ n low high. low);
      }

  -- ---- those from a number on
  pub codes-next : (code : ℕ → ℕ) (items : List Item) (i : ℕ) (item : Item) → slice_get items i ≡ Some item →
      refusals_from lines code i (drop i items)
      ≡ refused_by i (reason_by lines item.kind (code i)) ++ refusals_from lines code (i + 1) (drop (i + 1) items)
  unfolding refusals_from
  codes-next code items i item there =
      ap (refusals_from lines code i) (drop-next items i item there)
      ∙ ap (λ n. refused_by i (reason_by lines item.kind (code i)) ++ refusals_from lines code n (drop n items))
      (let e : suc i ≡ i + 1 = omega arith in e)

  pub codes-past : (code : ℕ → ℕ) (items : List Item) (i : ℕ) → length items ≤ i →
      refusals_from lines code i (drop i items) ≡ []
  unfolding refusals_from
  codes-past code items i few = ap (refusals_from lines code i) (drop_all i items few)

  -- where the items up to another have no code, they are those from that on
  pub codes-skipped : (code : ℕ → ℕ) (items : List Item) (gap i : ℕ) → ((n : ℕ) → i ≤ n → n < i + gap → code n ≡ 0) →
      refusals_from lines code i (drop i items) ≡ refusals_from lines code (i + gap) (drop (i + gap) items)
  unfolding refusals_from
  codes-skipped code items zero i none =
      ap (λ n. refusals_from lines code n (drop n items)) (let e : i ≡ i + 0 = omega arith in e)
  codes-skipped code items (suc gap) i none =
      one (slice_get items i) refl
      ∙ codes-skipped code items gap (suc i) (λ n low high. none n (omega arith) (omega arith))
      ∙ ap (λ n. refusals_from lines code n (drop n items)) (let e : suc i + gap ≡ i + suc gap = omega arith in e)
    where
      one : (there : Option Item) → slice_get items i ≡ there →
          refusals_from lines code i (drop i items) ≡ refusals_from lines code (suc i) (drop (suc i) items)
      one (Some item) there =
          ap (refusals_from lines code i) (drop-next items i item there)
          ∙ ap (λ n. refused_by i (reason_by lines item.kind n) ++ refusals_from lines code (suc i) (drop (suc i) items))
          (none i (omega arith) (omega arith))
      one None there =
          let few = none-beyond items i there in
          rw (drop_all i items few, drop_all (suc i) items (omega (arith, few))) refl

pub codes-none : (lines : ℕ) (code : ℕ → ℕ) (items : List Item) (i : ℕ) → ((n : ℕ) → code n ≡ 0) →
    refusals_from lines code i items ≡ []
unfolding refusals_from
codes-none lines code [] i none = refl
codes-none lines code (item ∷ items) i none =
    ap (λ n. refused_by i (reason_by lines item.kind n) ++ refusals_from lines code (suc i) items) (none i)
    ∙ codes-none lines code items (suc i) none

-- ---- why a source refuses an item
abbrev frame_why : Bool → Bool → ℕ → Option AcceptFault
frame_why short full octets =
    if short then Some (Length octets) else if full then Some (QueueFull most_waiting) else None

frame-reason : (lines : ℕ) (short full : Bool) (octets : List ℕ) (why : Refusal) →
    option_map frame_refused (frame_why short full (length octets)) ≡ Some why → IsReason lines (Frame octets) why
frame-reason lines true full octets why e = (0, e)
frame-reason lines false true octets why e = (1, e)
frame-reason lines false false octets why e = absurd cc

abbrev command_why : ℕ → Bool → Bool → Bool → Bool → Option CommandFault
command_why lines unknown already missing many =
    if unknown then Some (UnknownLine lines)
    else if already then Some AlreadyIn
    else if missing then Some NotIn
    else if many then Some (TooManyPending most_pending)
    else None

add-reason : (lines : ℕ) (unknown already many : Bool) (line : ℕ) (why : Refusal) →
    option_map command_refused (command_why lines unknown already false many) ≡ Some why → IsReason lines (Add line) why
add-reason lines true already many line why e = (0, e)
add-reason lines false true many line why e = (1, e)
add-reason lines false false true line why e = (2, e)
add-reason lines false false false line why e = absurd cc

remove-reason : (lines : ℕ) (unknown missing many : Bool) (line : ℕ) (why : Refusal) →
    option_map command_refused (command_why lines unknown false missing many) ≡ Some why →
    IsReason lines (Remove line) why
remove-reason lines true missing many line why e = (0, e)
remove-reason lines false true many line why e = (1, e)
remove-reason lines false false true line why e = (2, e)
remove-reason lines false false false line why e = absurd cc

pub met-reason : (core : Terminal) (kind : ItemKind) (why : Refusal) → met_by core kind ≡ Some why →
    IsReason core.lines kind why
met-reason core (Frame octets) why e =
    frame-reason core.lines (nat_lt (length octets) shortest_frame || nat_lt longest_frame (length octets))
    (nat_le most_waiting (length core.queue.waiting)) octets why e
met-reason core (Add line) why e =
    add-reason core.lines (nat_le core.lines line) (planned_of core.table.source line)
    (nat_le most_pending (length core.table.source.waiting)) line why e
met-reason core (Remove line) why e =
    remove-reason core.lines (nat_le core.lines line) (not (planned_of core.table.source line))
    (nat_le most_pending (length core.table.source.waiting)) line why e

bare-reasons : (lines : ℕ) (kind : ItemKind) → reasons lines (bare_kind kind) ≡ reasons lines kind
bare-reasons lines (Frame octets) =
    ap (λ n. frame_refused (Length n) ∷ frame_refused (QueueFull most_waiting) ∷ []) (length-replicate (length octets) 0)
bare-reasons lines (Add line) = refl
bare-reasons lines (Remove line) = refl

pub kind-reason : (scenario : Scenario) (cells : List (Option Told)) (due : ℕ) (earlier : List Item) (kind : ItemKind)
    (why : Refusal) → kind_refusal scenario cells due earlier kind ≡ Some why →
    IsReason (length scenario.windows) kind why
kind-reason scenario cells due earlier (Frame octets) why e =
    frame-reason (length scenario.windows) (nat_lt (length octets) shortest_frame || nat_lt longest_frame (length octets))
    (nat_le most_waiting (length (stream_met scenario cells due (offers_of earlier)).waiting)) octets why e
kind-reason scenario cells due earlier (Add line) why e =
    let source : Source = source_met scenario cells due (orders_of earlier) in
    add-reason (length scenario.windows) (nat_le (length scenario.windows) line) (planned_of source line)
    (nat_le most_pending (length source.waiting)) line why e
kind-reason scenario cells due earlier (Remove line) why e =
    let source : Source = source_met scenario cells due (orders_of earlier) in
    remove-reason (length scenario.windows) (nat_le (length scenario.windows) line) (not (planned_of source line))
    (nat_le most_pending (length source.waiting)) line why e

-- the item of a number is refused for one of its reasons
pub reason-at : (landed : Landed) (number : ℕ) (kind : ItemKind) (why : Option Refusal) →
    ((reason : Refusal) → why ≡ Some reason → IsReason landed.lines kind reason) → IsKept landed number kind →
    IfSome why (IsReasonAt landed number)
reason-at landed number kind None is kept = tt
reason-at landed number kind (Some why) is kept =
    let (place, found) = is why refl in
    λ item there. (
      place,
      ap (λ k. slice_get (reasons landed.lines k) place) (kept item there)
          ∙ ap (λ l. slice_get l place) (bare-reasons landed.lines kind) ∙ found,
    )
