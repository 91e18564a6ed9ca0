-- Journals with one entry more: their entries in order, and scenarios that stay alike and legal.
use Rattle.std.proofs.Common.{◌≡◌, ℕ, suc, ◌+◌, ◌-◌, ◌<◌, ◌≤◌, Bool, false, if◌then◌else◌, List, [], ◌∷◌, ◌++◌, map}
use Rattle.std.proofs.Common.{filter, fold, take, length, replicate, slice_get, Option, Some, None, option_map, refl}
use Rattle.std.proofs.Common.{sym, ◌∙◌, ap, subst, arith, inl, inr, length-append, zero}
use Rattle.std.proofs.Common.{nat_lt, not, ◌&&◌, true, get_or, is_none}
use Rattle.std.proofs.lemmas.Bool.{cases_lt, le-ltb, cases_Bool}
use Rattle.std.proofs.lemmas.List.{append-nil, map_push, take-append-le, take_at, length_push}
use Rattle.std.proofs.lemmas.List.Concat.{flat_map-append}
use Rattle.std.proofs.lemmas.List.Elements.{filter-append, filter_more}
use Rattle.std.proofs.lemmas.List.FromFn.{length-map-range_with_len, get_or-map-range_with_len}
use Rattle.std.proofs.lemmas.List.FromFn.{map-range_with_len_more, fill_by_all}
use Rattle.std.proofs.lemmas.Option.{slice_get_within, slice_get-get_or, get_or_from_slice_get}
use Rattle.law_model.proofs.ListLaws.{at-range}
use Rattle.check_nibbles.proofs.CellsInStepLaws.{slice_get-append, slice_get-append_seam}
use Rattle.law_model.specs.Common.{Scenario, DueCommand, DueFrame, order_of, offer_of, orders_of, offers_of, steps_in}
use Rattle.law_model.specs.Common.{lands_at, comes_at, Told, Source, asked_all, refusal, after, Stream, frame_refusal}
use Rattle.law_model.specs.Common.{refusal_while, offered, Course, container_of, containers_of, frame_of}
use Rattle.law_model.specs.Common.{default_options}
use Rattle.law_model.specs.declared.script_types.Item.{Item}
use Rattle.law_model.specs.declared.script_types.ItemKind.{ItemKind}
use Rattle.law_model.specs.declared.script_types.ItemKind.TheVariants.{Frame, Add, Remove}
use Rattle.law_model.specs.declared.lcas_states.Command.TheVariants.{Add as add, Remove as remove}
use Rattle.law_session.specs.ReturnedCells.{AgreeBefore}
use Rattle.law_session.proofs.ClientStreamAndReplayLaws.{Alike, Alike-sooner, alike-after, alike-stream, alike-frame}
use Rattle.law_model.specs.declared.item_refusals.Refusal.TheVariants.{Frame as frame_refused}
use Rattle.law_model.specs.declared.item_refusals.Refusal.TheVariants.{Command as command_refused}
use Rattle.terminal_source.specs.source_core.Terminal.{Terminal}
use Rattle.terminal_source.specs.source_core.GivenScenario.{ComesAlike, has_come, SourceStands as HasMade}
use Rattle.terminal_source.proofs.SourceTerminalScenarioLaws.{alike-landed}
use Rattle.law_walk.specs.Common.{Numbered, kind_refusal, is_client}
use Rattle.thread_group.specs.Journal.{Setting, journal_scenario, items_in, entry_of, IsLegal, of_client, of_operator}
use Rattle.terminal_group.specs.GivenItem.{met_by, with_kind}
use Rattle.law_walk.proofs.LandedItemRefusalAndTotalLaws.{offers-size, orders-size}
use Rattle.std.specs.List.Sorted.{IsNonDecreasingBy}
use Rattle.std.proofs.lemmas.Bool.Decides.{nat_tests}
use Rattle.std.proofs.lemmas.List.Sorted.{IsNonDecreasingBy-push}
use Rattle.law_model.specs.declared.item_refusals.Refusal.{Refusal}
use Rattle.law_model.specs.session.Leg.{Leg}
use Rattle.law_walk.specs.LandedOfLeg.{with_if, landed_from}
use Rattle.law_walk.specs.Promise.{numbered}
use Rattle.thread_group.specs.declared.group_answers.SubmitFault.{SubmitFault}
use Rattle.thread_group.specs.declared.group_answers.SubmitFault.TheVariants.{NotNext, Early, Frame as Frame_fault}
use Rattle.thread_group.specs.declared.group_answers.SubmitFault.TheVariants.{Command as Command_fault, JournalFull}
use Rattle.thread_group.specs.SubmitFaults.{has_landed, refusal_told}
use Rattle.thread_group.specs.Group.{counted_by, entries_by}
use Rattle.thread_group.specs.GroupParts.{ArePast}
use Rattle.thread_group.specs.GroupOfLeg.{refusal_by, accepted_frames_by, accepted_commands_by}

-- ---- What a longer journal and more return cells leave as it was, and what they add.
-- ---- one more item
pub offers-push : (items : List Item) (item : Item) →
    offers_of (items ++ item ∷ []) ≡ offers_of items ++ offer_of item.due item.kind
offers-push items item =
    flat_map-append (λ (item : Item). offer_of item.due item.kind) items (item ∷ [])
    ∙ ap (λ l. offers_of items ++ l) (append-nil (offer_of item.due item.kind))

pub orders-push : (items : List Item) (item : Item) →
    orders_of (items ++ item ∷ []) ≡ orders_of items ++ order_of item.due item.kind
orders-push items item =
    flat_map-append (λ (item : Item). order_of item.due item.kind) items (item ∷ [])
    ∙ ap (λ l. orders_of items ++ l) (append-nil (order_of item.due item.kind))

abbrev scenario_with : Setting → List DueCommand → List DueFrame → Scenario
scenario_with setting orders offers = record {
  lag = setting.lag;
  ticks = setting.ticks;
  size = setting.size;
  windows = replicate setting.lines [];
  lost = setting.lost;
  orders = orders;
  offers = offers;
  tells = [];
  options = record default_options { statuses = setting.statuses };
}

kind-told : (setting : Setting) (orders : List DueCommand) (offers : List DueFrame) (ticks : ℕ) (kind : ItemKind) →
    with_kind (scenario_with setting orders offers) ticks kind ≡ scenario_with setting (orders ++ order_of ticks kind)
    (offers ++ offer_of ticks kind)
kind-told setting orders offers ticks (Frame octets) =
    ap (λ l. scenario_with setting l (offers ++ offer_of ticks (Frame octets))) (sym (append-nil orders))
kind-told setting orders offers ticks (Add line) =
    ap (scenario_with setting (orders ++ order_of ticks (Add line))) (sym (append-nil offers))
kind-told setting orders offers ticks (Remove line) =
    ap (scenario_with setting (orders ++ order_of ticks (Remove line))) (sym (append-nil offers))

pub journal-push : (setting : Setting) (entries : List Numbered) (number ticks : ℕ) (kind : ItemKind) →
    with_kind (journal_scenario setting entries) ticks kind ≡ journal_scenario setting
    (entries ++ entry_of number ticks kind ∷ [])
journal-push setting entries number ticks kind =
    let item : Item = record { due = ticks; kind = kind } in
    let items : items_in (entries ++ entry_of number ticks kind ∷ []) ≡ items_in entries ++ item ∷ [] =
    map_push (λ (entry : Numbered). entry.item) entries (entry_of number ticks kind) in
    kind-told setting (orders_of (items_in entries)) (offers_of (items_in entries)) ticks kind
    ∙ ap (λ l. scenario_with setting l (offers_of (items_in entries) ++ offer_of ticks kind))
    (sym (ap orders_of items ∙ orders-push (items_in entries) item))
    ∙ ap (scenario_with setting (orders_of (items_in (entries ++ entry_of number ticks kind ∷ []))))
    (sym (ap offers_of items ∙ offers-push (items_in entries) item))

not-yet : {X : Type 0} (p : X → Bool) (xs : List X) (x : X) → p x ≡ false → filter p xs ≡ filter p (xs ++ x ∷ [])
not-yet p xs x late =
    sym (append-nil (filter p xs)) ∙ ap (λ l. filter p xs ++ l) (sym (ap (λ b. if b then x ∷ [] else []) late))
    ∙ sym (filter-append p xs (x ∷ []))

-- an item that lands now changes nothing of what came before
pub comes-kind : (scenario : Scenario) (ticks : ℕ) (kind : ItemKind) →
    ComesAlike scenario (with_kind scenario ticks kind) ticks
comes-kind scenario ticks (Frame octets) = record {
  lines = refl;
  lag = refl;
  size = refl;
  statuses = refl;
  offers = not-yet (λ (offer : DueFrame). has_come ticks offer.due) scenario.offers
      (record { due = ticks; frame = octets }) (le-ltb ticks ticks (omega arith));
  orders = refl;
  tells = λ k low. refl;
}
comes-kind scenario ticks (Add line) = record {
  lines = refl;
  lag = refl;
  size = refl;
  statuses = refl;
  offers = refl;
  orders = not-yet (λ (order : DueCommand). has_come ticks order.due) scenario.orders
      (record { due = ticks; command = add line }) (le-ltb ticks ticks (omega arith));
  tells = λ k low. refl;
}
comes-kind scenario ticks (Remove line) = record {
  lines = refl;
  lag = refl;
  size = refl;
  statuses = refl;
  offers = refl;
  orders = not-yet (λ (order : DueCommand). has_come ticks order.due) scenario.orders
      (record { due = ticks; command = remove line }) (le-ltb ticks ticks (omega arith));
  tells = λ k low. refl;
}

pub alike-kind : (scenario : Scenario) (cells : List (Option Told)) (ticks : ℕ) (kind : ItemKind) →
    Alike scenario cells (with_kind scenario ticks kind) cells ticks
alike-kind scenario cells ticks kind =
    alike-landed scenario (with_kind scenario ticks kind) cells cells ticks (comes-kind scenario ticks kind) refl

-- and so do return cells that come later
pub alike-cells : (scenario : Scenario) (a b : List (Option Told)) (ticks : ℕ) →
    AgreeBefore (steps_in ticks - scenario.lag) a b → Alike scenario a scenario b ticks
alike-cells scenario a b ticks agree =
    alike-landed scenario scenario a b ticks
    (record {
      lines = refl;
      lag = refl;
      size = refl;
      statuses = refl;
      offers = refl;
      orders = refl;
      tells = λ k low. refl;
    }) agree

-- ---- why an item is refused
pub refusal-alike : (one : Scenario) (a : List (Option Told)) (other : Scenario) (b : List (Option Told)) (t due : ℕ)
    (earlier : List Item) (kind : ItemKind) →
    Alike one a other b t → due ≤ t → kind_refusal one a due earlier kind ≡ kind_refusal other b due earlier kind
refusal-alike one a other b t due earlier (Frame octets) alike low =
    ap (λ (stream : Stream). option_map frame_refused
    (frame_refusal octets (fold offered stream
    (map (λ (offer : DueFrame). offer.frame) (filter (comes_at due) (offers_of earlier))))))
    (alike-stream one a other b due (Alike-sooner one a other b due t low alike))
refusal-alike one a other b t due earlier (Add line) alike low =
    ap (λ n. option_map command_refused
    (refusal n (add line) (asked_all n
    (map (λ (order : DueCommand). order.command) (filter (lands_at (steps_in due)) (orders_of earlier)))
    (after one a (steps_in due))))) alike.lines
    ∙ ap (λ (source : Source). option_map command_refused
    (refusal (length other.windows) (add line)
    (asked_all (length other.windows)
    (map (λ (order : DueCommand). order.command) (filter (lands_at (steps_in due)) (orders_of earlier))) source)))
    (alike-after one a other b t (steps_in due) alike (omega arith))
refusal-alike one a other b t due earlier (Remove line) alike low =
    ap (λ n. option_map command_refused
    (refusal n (remove line) (asked_all n
    (map (λ (order : DueCommand). order.command) (filter (lands_at (steps_in due)) (orders_of earlier)))
    (after one a (steps_in due))))) alike.lines
    ∙ ap (λ (source : Source). option_map command_refused
    (refusal (length other.windows) (remove line)
    (asked_all (length other.windows)
    (map (λ (order : DueCommand). order.command) (filter (lands_at (steps_in due)) (orders_of earlier))) source)))
    (alike-after one a other b t (steps_in due) alike (omega arith))

-- what the source says is what the session of the journal says
pub met-journal : (core : Terminal) (setting : Setting) (entries : List Numbered) (cells : List (Option Told))
    (kind : ItemKind) → HasMade core (journal_scenario setting entries) cells →
    met_by core kind ≡ kind_refusal (journal_scenario setting entries) cells core.ticks (items_in entries) kind
met-journal core setting entries cells (Frame octets) made =
    ap (λ (waiting : List (List ℕ)). option_map frame_refused (refusal_while waiting octets)) made.stream.waits
met-journal core setting entries cells (Add line) made =
    ap (λ n. option_map command_refused (refusal n (add line) core.table.source)) made.lines
    ∙ ap (λ (course : Course). option_map command_refused
    (refusal (length (journal_scenario setting entries).windows) (add line) course.source)) made.table
met-journal core setting entries cells (Remove line) made =
    ap (λ n. option_map command_refused (refusal n (remove line) core.table.source)) made.lines
    ∙ ap (λ (course : Course). option_map command_refused
    (refusal (length (journal_scenario setting entries).windows) (remove line) course.source)) made.table

-- ---- the journal stays legal
pub legal-alike : (one : Scenario) (a : List (Option Told)) (other : Scenario) (b : List (Option Told)) (t : ℕ)
    (entries : List Numbered) → Alike one a other b t →
    ((i : ℕ) (entry : Numbered) → slice_get entries i ≡ Some entry → entry.item.due ≤ t) → IsLegal one a entries →
    IsLegal other b entries
legal-alike one a other b t entries alike past legal i entry there =
    sym (refusal-alike one a other b t entry.item.due (items_in (take i entries)) entry.item.kind alike
    (past i entry there)) ∙ legal i entry there

pub push-cases : {X : Type 0} (P : ℕ → X → Type 0) (xs : List X) (x : X) →
    ((i : ℕ) (y : X) → slice_get xs i ≡ Some y → P i y) → P (length xs) x →
    (i : ℕ) (y : X) → slice_get (xs ++ x ∷ []) i ≡ Some y → P i y
push-cases P xs x each last i y there =
    elim (cases_lt i (length xs)) [
      | inl low ↦ each i y (sym (slice_get-append xs (x ∷ []) i low) ∙ there)
      | inr high ↦
          let inside = slice_get_within (xs ++ x ∷ []) i y there in
          let long = length_push xs x in
          let at : i ≡ length xs = omega arith in
          let found : Some x ≡ Some y = sym (slice_get-append_seam xs x []) ∙ ap (slice_get (xs ++ x ∷ [])) (sym at)
          ∙ there in
          let same : x ≡ y = cc in
          subst (λ n. P n y) (sym at) (subst (P (length xs)) same last)
    ]

pub legal-push : (scenario : Scenario) (cells : List (Option Told)) (entries : List Numbered) (entry : Numbered) →
    IsLegal scenario cells entries →
    kind_refusal scenario cells entry.item.due (items_in entries) entry.item.kind ≡ None →
    IsLegal scenario cells (entries ++ entry ∷ [])
legal-push scenario cells entries entry legal none =
    push-cases (λ i one. kind_refusal scenario cells one.item.due (items_in (take i (entries ++ entry ∷ [])))
    one.item.kind ≡ None) entries entry
    (λ i one there.
    let inside = slice_get_within entries i one there in
    ap (λ l. kind_refusal scenario cells one.item.due (items_in l) one.item.kind)
    (take-append-le i entries (entry ∷ []) (omega arith)) ∙ legal i one there)
    (ap (λ l. kind_refusal scenario cells entry.item.due (items_in l) entry.item.kind)
    (take_at entries (entry ∷ []) (length entries) refl) ∙ none)

-- ---- what was sent stays
pub container-in : (scenario : Scenario) (cells : List (Option Told)) (m t : ℕ) → m < length scenario.windows →
    slice_get (frame_of scenario cells t) m ≡ Some (container_of scenario cells m t)
container-in scenario cells m t low =
    at-range (λ line. container_of scenario cells line t) (length scenario.windows) m low

pub container-alike : (one : Scenario) (a : List (Option Told)) (other : Scenario) (b : List (Option Told))
    (n m t : ℕ) → Alike one a other b n → m < length one.windows → t < n →
    container_of one a m t ≡ container_of other b m t
container-alike one a other b n m t alike low before =
    let same = alike.lines in
    let frames = alike-frame one a other b t (Alike-sooner one a other b (suc t) n (omega arith) alike) in
    let found : Some (container_of one a m t) ≡ Some (container_of other b m t) =
    sym (container-in one a m t low) ∙ ap (λ l. slice_get l m) frames ∙ container-in other b m t (omega arith) in
    cc

pub sent-alike : (one : Scenario) (a : List (Option Told)) (other : Scenario) (b : List (Option Told)) (n m : ℕ) →
    Alike one a other b n → m < length one.windows →
    containers_of one a m n ≡ containers_of other b m n
sent-alike one a other b n m alike low =
    fill_by_all (container_of other b m) (containers_of one a m n) n (container_of one a m 0)
    (length-map-range_with_len (container_of one a m) 0 n)
    (λ k inside. get_or-map-range_with_len (container_of one a m) 0 n k k (container_of one a m 0) inside (omega arith)
    ∙ container-alike one a other b n m k alike low inside)

pub sent-next : (scenario : Scenario) (cells : List (Option Told)) (m n : ℕ) →
    containers_of scenario cells m (n + 1) ≡ containers_of scenario cells m n ++ container_of scenario cells m n ∷ []
sent-next scenario cells m n = map-range_with_len_more (container_of scenario cells m) 0 n n (omega arith)

-- ---- One more entry of a journal.
-- ---- items are frames and commands
pub all-kinds : (items : List Item) → length (offers_of items) + length (orders_of items) ≡ length items
all-kinds [] = refl
all-kinds (item ∷ items) =
    let rest = all-kinds items in
    let a = length-append (offer_of item.due item.kind) (offers_of items) in
    let b = length-append (order_of item.due item.kind) (orders_of items) in
    let one = one-kind item.due item.kind in
    omega arith
  where
    one-kind : (due : ℕ) (kind : ItemKind) → length (offer_of due kind) + length (order_of due kind) ≡ 1
    one-kind due (Frame octets) = refl
    one-kind due (Add line) = refl
    one-kind due (Remove line) = refl

-- ---- What the entries of a journal are: of each kind the accepted items that have landed, in their order, and none behind one
-- that landed later.
-- ---- lists
both-tests : {X : Type 0} (p q : X → Bool) (xs : List X) → filter (λ x. p x && q x) xs ≡ filter q (filter p xs)
both-tests p q [] = refl
both-tests p q (x ∷ xs) =
    let rest = both-tests p q xs in
    elim (cases_Bool (p x)) [
      | inl e ↦ rw e (elim (cases_Bool (q x)) [ inl f ↦ rw f (ap (λ l. x ∷ l) rest) | inr f ↦ rw f rest ])
      | inr e ↦ rw e rest
    ]

one-passes : {X : Type 0} (p : X → Bool) (x : X) → filter p (x ∷ []) ≡ (if p x then x ∷ [] else [])
one-passes p x = elim (cases_Bool (p x)) [ inl e ↦ rw e refl | inr e ↦ rw e refl ]

skip-if : (p : Numbered → Bool) (there : Bool) (item : Numbered) (items : List Numbered) → p item ≡ false →
    filter p (with_if there item items) ≡ filter p items
skip-if p true item items fails = rw fails refl
skip-if p false item items fails = refl

next-passes : {X : Type 0} (q : X → Bool) (xs : List X) (n : ℕ) (x : X) → slice_get xs n ≡ Some x →
    filter q (take (n + 1) xs) ≡ filter q (take n xs) ++ (if q x then x ∷ [] else [])
next-passes q xs n x there =
    filter_more q xs n x (slice_get_within xs n x there)
    ∙ ap (λ y. filter q (take n xs) ++ (if q y then y ∷ [] else [])) (get_or_from_slice_get xs n x x there)

-- ---- the items of a kind that have landed are the first
clients-first : (items : List Item) (a b i : ℕ) →
    of_client (landed_from a b i items) ≡ take a (of_client (numbered i items))
unfolding landed_from numbered
clients-first [] zero b i = refl
clients-first [] (suc a) b i = refl
clients-first (item ∷ items) zero b i =
    elim (cases_Bool (is_client item.kind)) [
      | inl e ↦ rw e (clients-first items 0 b (suc i))
      | inr e ↦ rw e (skip-if (λ (one : Numbered). is_client one.item.kind) (nat_lt 0 b)
          (record { number = i; item = item }) (landed_from 0 (b - 1) (suc i) items) e
          ∙ clients-first items 0 (b - 1) (suc i))
    ]
clients-first (item ∷ items) (suc a) b i =
    elim (cases_Bool (is_client item.kind)) [
      | inl e ↦
          let some : nat_lt 0 (suc a) ≡ true = grind (arith, nat_tests) in
          let less : suc a - 1 ≡ a = omega arith in
          rw (e, some, less) (rw e (ap (λ l. record { number = i; item = item } ∷ l) (clients-first items a b (suc i))))
      | inr e ↦ rw e (skip-if (λ (one : Numbered). is_client one.item.kind) (nat_lt 0 b)
          (record { number = i; item = item }) (landed_from (suc a) (b - 1) (suc i) items) e
          ∙ clients-first items (suc a) (b - 1) (suc i))
    ]

not-false : (b : Bool) → b ≡ true → not b ≡ false
not-false b e = rw e refl

operators-first : (items : List Item) (a b i : ℕ) →
    of_operator (landed_from a b i items) ≡ take b (of_operator (numbered i items))
unfolding landed_from numbered
operators-first [] a zero i = refl
operators-first [] a (suc b) i = refl
operators-first (item ∷ items) a zero i =
    elim (cases_Bool (is_client item.kind)) [
      | inr e ↦ rw e (operators-first items a 0 (suc i))
      | inl e ↦ rw e (skip-if (λ (one : Numbered). not (is_client one.item.kind)) (nat_lt 0 a)
          (record { number = i; item = item }) (landed_from (a - 1) 0 (suc i) items) (not-false (is_client item.kind) e)
          ∙ operators-first items (a - 1) 0 (suc i))
    ]
operators-first (item ∷ items) a (suc b) i =
    elim (cases_Bool (is_client item.kind)) [
      | inr e ↦
          let some : nat_lt 0 (suc b) ≡ true = grind (arith, nat_tests) in
          let less : suc b - 1 ≡ b = omega arith in
          rw (e, some, less) (rw e (ap (λ l. record { number = i; item = item } ∷ l)
          (operators-first items a b (suc i))))
      | inl e ↦ rw e (skip-if (λ (one : Numbered). not (is_client one.item.kind)) (nat_lt 0 a)
          (record { number = i; item = item }) (landed_from (a - 1) (suc b) (suc i) items) (not-false _ e)
          ∙ operators-first items (a - 1) (suc b) (suc i))
    ]

-- ---- an item stands among those of its kind behind as many as are before it
client-at : (items : List Item) (i k a : ℕ) (item : Item) → slice_get items k ≡ Some item →
    is_client item.kind ≡ true → length (offers_of (take k items)) ≡ a →
    slice_get (of_client (numbered i items)) a ≡ Some (record { number = i + k; item = item })
unfolding numbered
client-at [] i k a item there client before = absurd cc
client-at (first ∷ items) i zero a item there client before =
    let same : first ≡ item = cc in
    let is : is_client first.kind ≡ true = subst (λ (one : Item). is_client one.kind ≡ true) (sym same) client in
    let none : a ≡ 0 = sym before in
    let here : i + 0 ≡ i = omega arith in
    rw (is, none, here) (ap (λ (one : Item). Some (record { number = i; item = one })) same)
client-at (first ∷ items) i (suc k) a item there client before =
    let next : i + suc k ≡ suc i + k = omega arith in
    let one = offers-size first.due first.kind in
    let sum = length-append (offer_of first.due first.kind) (offers_of (take k items)) in
    elim (cases_Bool (is_client first.kind)) [
      | inl e ↦
          let size : length (offer_of first.due first.kind) ≡ 1 = one ∙ ap (λ c. if c then 1 else 0) e in
          let less : length (offers_of (take k items)) ≡ a - 1 = omega arith in
          let back : suc (a - 1) ≡ a = omega arith in
          rw (e, next) (subst (λ n. slice_get (record { number = i; item = first } ∷ of_client (numbered (suc i) items)) n
          ≡ Some (record { number = suc i + k; item = item })) back
          (client-at items (suc i) k (a - 1) item there client less))
      | inr e ↦
          let size : length (offer_of first.due first.kind) ≡ 0 = one ∙ ap (λ c. if c then 1 else 0) e in
          let less : length (offers_of (take k items)) ≡ a = omega arith in
          rw (e, next) (client-at items (suc i) k a item there client less)
    ]

operator-at : (items : List Item) (i k b : ℕ) (item : Item) → slice_get items k ≡ Some item →
    is_client item.kind ≡ false → length (orders_of (take k items)) ≡ b →
    slice_get (of_operator (numbered i items)) b ≡ Some (record { number = i + k; item = item })
unfolding numbered
operator-at [] i k b item there operator before = absurd cc
operator-at (first ∷ items) i zero b item there operator before =
    let same : first ≡ item = cc in
    let is : is_client first.kind ≡ false = subst (λ (one : Item). is_client one.kind ≡ false) (sym same) operator in
    let none : b ≡ 0 = sym before in
    let here : i + 0 ≡ i = omega arith in
    rw (is, none, here) (ap (λ (one : Item). Some (record { number = i; item = one })) same)
operator-at (first ∷ items) i (suc k) b item there operator before =
    let next : i + suc k ≡ suc i + k = omega arith in
    let one = orders-size first.due first.kind in
    let sum = length-append (order_of first.due first.kind) (orders_of (take k items)) in
    elim (cases_Bool (is_client first.kind)) [
      | inr e ↦
          let size : length (order_of first.due first.kind) ≡ 1 = one ∙ ap (λ c. if c then 0 else 1) e in
          let less : length (orders_of (take k items)) ≡ b - 1 = omega arith in
          let back : suc (b - 1) ≡ b = omega arith in
          rw (e, next) (subst (λ n. slice_get (record { number = i; item = first } ∷ of_operator (numbered (suc i) items))
          n ≡ Some (record { number = suc i + k; item = item })) back
          (operator-at items (suc i) k (b - 1) item there operator less))
      | inl e ↦
          let size : length (order_of first.due first.kind) ≡ 0 = one ∙ ap (λ c. if c then 0 else 1) e in
          let less : length (orders_of (take k items)) ≡ b = omega arith in
          rw (e, next) (operator-at items (suc i) k b item there operator less)
    ]

-- ---- what an entry adds to those of a kind
entries-none : (p : Numbered → Bool) (was now : List Numbered) (entry : Numbered) → now ≡ was →
    filter p now ≡ filter p was ++ (if p entry && false then entry ∷ [] else [])
entries-none p was now entry same =
    let none : (if p entry && false then entry ∷ [] else []) ≡ [] =
    elim (cases_Bool (p entry)) [ inl e ↦ rw e refl | inr e ↦ rw e refl ] in
    ap (filter p) same ∙ sym (ap (λ l. filter p was ++ l) none ∙ append-nil (filter p was))

entries-of : (p : Numbered → Bool) (answer : Option SubmitFault) (was now : List Numbered) (number ticks : ℕ)
    (kind : ItemKind) → has_landed answer ≡ true → now ≡ was ++ entries_by answer number ticks kind →
    filter p now ≡ filter p was ++ (if p (entry_of number ticks kind) && is_none (refusal_told answer) then
    entry_of number ticks kind ∷ [] else [])
entries-of p None was now number ticks kind landed same =
    let entry : Numbered = entry_of number ticks kind in
    let one : filter p (entry ∷ []) ≡ (if p entry && true then entry ∷ [] else []) =
    elim (cases_Bool (p entry)) [ inl e ↦ rw e refl | inr e ↦ rw e refl ] in
    ap (filter p) same ∙ filter-append p was (entry ∷ []) ∙ ap (λ l. filter p was ++ l) one
entries-of p (Some (NotNext next)) was now number ticks kind landed same = absurd cc
entries-of p (Some (Early now_)) was now number ticks kind landed same = absurd cc
entries-of p (Some (JournalFull slots bytes)) was now number ticks kind landed same = absurd cc
entries-of p (Some (Frame_fault why)) was now number ticks kind landed same =
    entries-none p was now (entry_of number ticks kind) (same ∙ append-nil was)
entries-of p (Some (Command_fault why)) was now number ticks kind landed same =
    entries-none p was now (entry_of number ticks kind) (same ∙ append-nil was)

-- ---- the accepted items of a leg that have landed
module _ (leg : Leg) (cells : List (Option Told)) where
  abbrev takes : Numbered → Bool
  takes item = is_none (refusal_by leg cells item)

  frames-landed : (a b : ℕ) → accepted_frames_by leg cells (landed_from a b 0 leg.items) ≡ filter takes
      (take a (of_client (numbered 0 leg.items)))
  frames-landed a b =
      both-tests (λ (item : Numbered). is_client item.item.kind) takes (landed_from a b 0 leg.items)
      ∙ ap (filter takes) (clients-first leg.items a b 0)

  commands-landed : (a b : ℕ) → accepted_commands_by leg cells (landed_from a b 0 leg.items) ≡ filter takes
      (take b (of_operator (numbered 0 leg.items)))
  commands-landed a b =
      both-tests (λ (item : Numbered). not (is_client item.item.kind)) takes (landed_from a b 0 leg.items)
      ∙ ap (filter takes) (operators-first leg.items a b 0)

  module _ (answer : Option SubmitFault) (was now : List Numbered) (number ticks : ℕ) (kind : ItemKind)
      (landed : has_landed answer ≡ true) (same : now ≡ was ++ entries_by answer number ticks kind)
      (told : refusal_told answer ≡ refusal_by leg cells (entry_of number ticks kind))
      (here : slice_get leg.items number ≡ Some (record { due = ticks; kind = kind })) (a b a' b' : ℕ) where
    abbrev entry : Numbered
    entry = entry_of number ticks kind

    -- what it adds, where it is of the kind and where it isn't
    abbrev added : Bool → List Numbered
    added of_kind = if of_kind && is_none (refusal_told answer) then entry ∷ [] else []

    at-zero : 0 + number ≡ number
    at-zero = omega arith

    pub frames-next : (is_client kind ≡ true → length (offers_of (take number leg.items)) ≡ a) →
        a' ≡ a + counted_by (is_client kind) true →
        of_client was ≡ accepted_frames_by leg cells (landed_from a b 0 leg.items) →
        of_client now ≡ accepted_frames_by leg cells (landed_from a' b' 0 leg.items)
    frames-next before counted have =
        let with_it = entries-of (λ (item : Numbered). is_client item.item.kind) answer was now number ticks kind landed
        same in
        let clients : List Numbered = of_client (numbered 0 leg.items) in
        elim (cases_Bool (is_client kind)) [
          | inl e ↦
              let more : a' ≡ a + 1 = counted ∙ ap (λ client. a + counted_by client true) e in
              let there : slice_get clients a ≡ Some entry =
              subst (λ n. slice_get clients a ≡ Some (record { number = n; item = entry.item })) at-zero
              (client-at leg.items 0 number a entry.item here e (before e)) in
              with_it ∙ ap (λ client. of_client was ++ added client) e
              ∙ ap (λ (why : Option Refusal). of_client was ++ (if is_none why then entry ∷ [] else [])) told
              ∙ ap (λ l. l ++ (if takes entry then entry ∷ [] else [])) (have ∙ frames-landed a b)
              ∙ sym (next-passes takes clients a entry there) ∙ ap (λ n. filter takes (take n clients)) (sym more)
              ∙ sym (frames-landed a' b')
          | inr e ↦
              let still : a' ≡ a = counted ∙ ap (λ client. a + counted_by client true) e
              ∙ (let none : a + 0 ≡ a = omega arith in none) in
              with_it ∙ ap (λ client. of_client was ++ added client) e ∙ append-nil (of_client was)
              ∙ have ∙ frames-landed a b ∙ ap (λ n. filter takes (take n clients)) (sym still)
              ∙ sym (frames-landed a' b')
        ]

    pub commands-next : (is_client kind ≡ false → length (orders_of (take number leg.items)) ≡ b) →
        b' ≡ b + counted_by (not (is_client kind)) true →
        of_operator was ≡ accepted_commands_by leg cells (landed_from a b 0 leg.items) →
        of_operator now ≡ accepted_commands_by leg cells (landed_from a' b' 0 leg.items)
    commands-next before counted have =
        let with_it = entries-of (λ (item : Numbered). not (is_client item.item.kind)) answer was now number ticks kind
        landed same in
        let operators : List Numbered = of_operator (numbered 0 leg.items) in
        elim (cases_Bool (is_client kind)) [
          | inr e ↦
              let more : b' ≡ b + 1 = counted ∙ ap (λ client. b + counted_by (not client) true) e in
              let there : slice_get operators b ≡ Some entry =
              subst (λ n. slice_get operators b ≡ Some (record { number = n; item = entry.item })) at-zero
              (operator-at leg.items 0 number b entry.item here e (before e)) in
              with_it ∙ ap (λ client. of_operator was ++ added (not client)) e
              ∙ ap (λ (why : Option Refusal). of_operator was ++ (if is_none why then entry ∷ [] else [])) told
              ∙ ap (λ l. l ++ (if takes entry then entry ∷ [] else [])) (have ∙ commands-landed a b)
              ∙ sym (next-passes takes operators b entry there) ∙ ap (λ n. filter takes (take n operators)) (sym more)
              ∙ sym (commands-landed a' b')
          | inl e ↦
              let still : b' ≡ b = counted ∙ ap (λ client. b + counted_by (not client) true) e
              ∙ (let none : b + 0 ≡ b = omega arith in none) in
              with_it ∙ ap (λ client. of_operator was ++ added (not client)) e ∙ append-nil (of_operator was)
              ∙ have ∙ commands-landed a b ∙ ap (λ n. filter takes (take n operators)) (sym still)
              ∙ sym (commands-landed a' b')
        ]

-- ---- an entry stands behind those that landed before it
pub landed-in-order : (answer : Option SubmitFault) (was now : List Numbered) (number ticks : ℕ) (kind : ItemKind) →
    now ≡ was ++ entries_by answer number ticks kind → ArePast ticks was →
    IsNonDecreasingBy (λ (entry : Numbered). entry.item.due) was →
    IsNonDecreasingBy (λ (entry : Numbered). entry.item.due) now
landed-in-order None was now number ticks kind same past order =
    subst (IsNonDecreasingBy (λ (entry : Numbered). entry.item.due)) (sym same)
    (IsNonDecreasingBy-push (λ (entry : Numbered). entry.item.due) was (entry_of number ticks kind) order
    (λ d some. past (length was - 1) (get_or was (length was - 1) d)
    (slice_get-get_or was (length was - 1) d (omega arith))))
landed-in-order (Some fault) was now number ticks kind same past order =
    subst (IsNonDecreasingBy (λ (entry : Numbered). entry.item.due)) (sym (same ∙ append-nil was)) order

-- ---- as many entries are frames, and commands, as are the client's, and the operator's
pub offers-length : (entries : List Numbered) → length (offers_of (items_in entries)) ≡ length (of_client entries)
offers-length [] = refl
offers-length (entry ∷ entries) =
    let rest = offers-length entries in
    let one = offers-size entry.item.due entry.item.kind in
    let sum = length-append (offer_of entry.item.due entry.item.kind) (offers_of (items_in entries)) in
    elim (cases_Bool (is_client entry.item.kind)) [
      | inl e ↦ let size : length (offer_of entry.item.due entry.item.kind) ≡ 1 = one
          ∙ ap (λ c. if c then 1 else 0) e in rw e (omega arith)
      | inr e ↦ let size : length (offer_of entry.item.due entry.item.kind) ≡ 0 = one
          ∙ ap (λ c. if c then 1 else 0) e in rw e (omega arith)
    ]

pub orders-length : (entries : List Numbered) → length (orders_of (items_in entries)) ≡ length (of_operator entries)
orders-length [] = refl
orders-length (entry ∷ entries) =
    let rest = orders-length entries in
    let one = orders-size entry.item.due entry.item.kind in
    let sum = length-append (order_of entry.item.due entry.item.kind) (orders_of (items_in entries)) in
    elim (cases_Bool (is_client entry.item.kind)) [
      | inr e ↦ let size : length (order_of entry.item.due entry.item.kind) ≡ 1 = one
          ∙ ap (λ c. if c then 0 else 1) e in rw e (omega arith)
      | inl e ↦ let size : length (order_of entry.item.due entry.item.kind) ≡ 0 = one
          ∙ ap (λ c. if c then 0 else 1) e in rw e (omega arith)
    ]
