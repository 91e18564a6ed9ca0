-- The text of a script, as it grows piece by piece, and its length.
use Rattle.std.proofs.Common.{◌≡◌, ℕ, suc, ◌+◌, ◌*◌, ◌<◌, List, [], ◌∷◌, ◌++◌, length, take, drop}
use Rattle.std.proofs.Common.{refl, sym, ◌∙◌, ap, ap₂, subst, arith, append_assoc, append-nil, Some, inl, inr}
use Rattle.std.proofs.Common.{take-append-drop, length-append, slice_index_or}
use Rattle.std.specs.Prelude.{min, decimal, codes, IsTrue, nat_lt}
use Rattle.std.specs.List.{flat_map, slice_get}
use Rattle.std.proofs.lemmas.Grind.{flat_map-append}
use Rattle.std.proofs.lemmas.List.{take_more, flat_map_more, length-take}
use Rattle.std.proofs.lemmas.Option.{slice_get_cases}
use Rattle.std.proofs.lemmas.Bool.{cases_lt, lt-ltb, ltb-true}
use Rattle.std.proofs.lemmas.Bool.Decides.{nat_tests}
use Rattle.hex.specs.Hex.{encode_lower, lower_digits}
use Rattle.hex.proofs.HexLemmas.{length-encode_with}
use Rattle.law_model.specs.Common.{Start, longest_input}
use Rattle.law_model.specs.declared.window_types.Window.{Window}
use Rattle.law_model.specs.declared.script_types.Item.{Item}
use Rattle.law_model.specs.declared.script_types.ItemKind.{ItemKind}
use Rattle.law_model.specs.declared.script_types.ItemKind.TheVariants.{Frame, Add, Remove}
use Rattle.law_model.specs.declared.script_items.item_list.ItemSort.TheVariants.{Frame as frame_sort, Add as add_sort, Remove as remove_sort}
use Rattle.law_model.specs.declared.script_items.item_list.ItemHead.{ItemHead}
use Rattle.law_model.specs.session.Items.{sort_of, head_of}
use Rattle.text_scripts.specs.script_text.TextOuts.{Adds}
use Rattle.law_model.specs.declared.script_types.Config.{Config}
use Rattle.law_model.specs.declared.script_types.Options.{Options}
use Rattle.law_model.specs.declared.script_types.Script.{Script}
use Rattle.text_scripts.specs.script_text.ScriptText.{spaced, number_line, container_text, network_text, sink_text}
use Rattle.text_scripts.specs.script_text.ScriptText.{timer_text, statuses_text, options_text, fail_line, failures_from}
use Rattle.text_scripts.specs.script_text.ScriptText.{lost_line, kind_line, item_line, script_text}

-- ---- one text behind another
pub adds-then : {T : Type 0} (stands_for : T → Start → List ℕ → Type 0) (old mid new : T) (text more : List ℕ) →
    Adds stands_for old mid text → Adds stands_for mid new more → Adds stands_for old new (text ++ more)
adds-then stands_for old mid new text more one other start before has =
    subst (stands_for new start) (append_assoc before text more) (other start (before ++ text) (one start before has))

-- those of a frame
pub frame-adds : {T : Type 0} (stands_for : T → Start → List ℕ → Type 0) (a b c d e f : T) (due : ℕ) (octets : List ℕ) →
    Adds stands_for a b (codes "frame") → Adds stands_for b c (spaced (decimal due)) → Adds stands_for c d (codes " ") →
    Adds stands_for d e (encode_lower octets) → Adds stands_for e f (codes "\n") →
    Adds stands_for a f (kind_line due (Frame octets))
frame-adds stands_for a b c d e f due octets one two three four five =
    let digits = encode_lower octets in
    let word = spaced (decimal due) in
    subst (Adds stands_for a f)
    (ap (λ l. codes "frame" ++ l ++ codes "\n") (ap (λ l. word ++ (codes " " ++ l)) (sym (append-nil digits))))
    (adds-then stands_for a e f (codes "frame" ++ (word ++ (codes " " ++ digits))) (codes "\n")
    (adds-then stands_for a b e (codes "frame") (word ++ (codes " " ++ digits)) one
    (adds-then stands_for b c e word (codes " " ++ digits) two
    (adds-then stands_for c d e (codes " ") digits three four))) five)

-- ---- the parts of a script
pub network-adds : {T : Type 0} (stands_for : T → Start → List ℕ → Type 0) (a b c d e f h : T) (config : Config) →
    Adds stands_for a b (container_text config.size) → Adds stands_for b c (number_line (codes "lines") (config.lines ∷ [])) →
    Adds stands_for c d (number_line (codes "delays") config.delays) →
    Adds stands_for d e (number_line (codes "ring") (config.ring ∷ [])) →
    Adds stands_for e f (number_line (codes "lag") (config.lag ∷ [])) →
    Adds stands_for f h (number_line (codes "ticks") (config.ticks ∷ [])) → Adds stands_for a h (network_text config)
unfolding network_text
network-adds P a b c d e f h config one two three four five six =
    let container = container_text config.size in
    let lines = number_line (codes "lines") (config.lines ∷ []) in
    let delays = number_line (codes "delays") config.delays in
    let ring = number_line (codes "ring") (config.ring ∷ []) in
    let lag = number_line (codes "lag") (config.lag ∷ []) in
    adds-then P a f h (container ++ lines ++ delays ++ ring ++ lag) (number_line (codes "ticks") (config.ticks ∷ []))
    (adds-then P a e f (container ++ lines ++ delays ++ ring) lag
    (adds-then P a d e (container ++ lines ++ delays) ring
    (adds-then P a c d (container ++ lines) delays (adds-then P a b c container lines one two) three) four) five) six

pub options-adds : {T : Type 0} (stands_for : T → Start → List ℕ → Type 0) (a b c d e : T) (options : Options) →
    Adds stands_for a b (sink_text options.infers) → Adds stands_for b c (timer_text (codes "holdoff") options.holdoff) →
    Adds stands_for c d (timer_text (codes "restore") options.restore) →
    Adds stands_for d e (statuses_text options.statuses) → Adds stands_for a e (options_text options)
unfolding options_text
options-adds P a b c d e options one two three four =
    let sink = sink_text options.infers in
    let holdoff = timer_text (codes "holdoff") options.holdoff in
    let restore = timer_text (codes "restore") options.restore in
    adds-then P a d e (sink ++ holdoff ++ restore) (statuses_text options.statuses)
    (adds-then P a c d (sink ++ holdoff) restore (adds-then P a b c sink holdoff one two) three) four

pub script-adds : {T : Type 0} (stands_for : T → Start → List ℕ → Type 0) (a b c d e f : T) (script : Script) →
    Adds stands_for a b (network_text script.config) → Adds stands_for b c (options_text script.config.options) →
    Adds stands_for c d (failures_from 0 script.config.windows) →
    Adds stands_for d e (flat_map lost_line script.config.lost) →
    Adds stands_for e f (flat_map item_line script.items) → Adds stands_for a f (script_text script)
unfolding script_text
script-adds P a b c d e f script one two three four five =
    let network = network_text script.config in
    let options = options_text script.config.options in
    let failures = failures_from 0 script.config.windows in
    let losses = flat_map lost_line script.config.lost in
    adds-then P a e f (network ++ options ++ failures ++ losses) (flat_map item_line script.items)
    (adds-then P a d e (network ++ options ++ failures) losses
    (adds-then P a c d (network ++ options) failures (adds-then P a b c network options one two) three) four) five

-- ---- items
-- what a kind is, by what it is without octets
kind-add : (due line : ℕ) (kind : ItemKind) → sort_of kind ≡ add_sort line →
    kind_line due kind ≡ number_line (codes "add") (due ∷ line ∷ [])
kind-add due line (Frame octets) is = absurd cc
kind-add due line (Add m) is = ap (λ n. number_line (codes "add") (due ∷ n ∷ [])) (let e : m ≡ line = cc in e)
kind-add due line (Remove m) is = absurd cc

kind-remove : (due line : ℕ) (kind : ItemKind) → sort_of kind ≡ remove_sort line →
    kind_line due kind ≡ number_line (codes "remove") (due ∷ line ∷ [])
kind-remove due line (Frame octets) is = absurd cc
kind-remove due line (Add m) is = absurd cc
kind-remove due line (Remove m) is = ap (λ n. number_line (codes "remove") (due ∷ n ∷ [])) (let e : m ≡ line = cc in e)

kind-frame : (size : ℕ) (kind : ItemKind) → sort_of kind ≡ frame_sort size → (octets : List ℕ) × (kind ≡ Frame octets)
kind-frame size (Frame octets) is = (octets, refl)
kind-frame size (Add m) is = absurd cc
kind-frame size (Remove m) is = absurd cc

-- what an item is, by its head
pub frame-item : {T : Type 0} (stands_for : T → Start → List ℕ → Type 0) (old new : T) (items : List Item) (n size : ℕ)
    (item : Item) (head : ItemHead) → slice_get items n ≡ Some item → head.sort ≡ frame_sort size → head ≡ head_of item →
    ((octets : List ℕ) → slice_get items n ≡ Some (record { due = head.due; kind = Frame octets }) →
    Adds stands_for old new (kind_line head.due (Frame octets))) → Adds stands_for old new (item_line item)
frame-item stands_for old new items n size item head there is same adds =
    let due : item.due ≡ head.due = sym (ap (λ h. h.due) same) in
    let sort : sort_of item.kind ≡ frame_sort size = sym (ap (λ h. h.sort) same) ∙ is in
    let octets = kind-frame size item.kind sort in
    let whole : item ≡ record { due = head.due; kind = Frame octets.0 } =
    ap₂ (λ (d : ℕ) (k : ItemKind). (let x : Item = record { due = d; kind = k } in x)) due octets.1 in
    subst (λ (x : Item). Adds stands_for old new (item_line x)) (sym whole) (adds octets.0 (there ∙ ap Some whole))

pub add-item : (line : ℕ) (item : Item) (head : ItemHead) → head.sort ≡ add_sort line → head ≡ head_of item →
    number_line (codes "add") (head.due ∷ line ∷ []) ≡ item_line item
add-item line item head is same =
    ap (λ (due : ℕ). number_line (codes "add") (due ∷ line ∷ [])) (ap (λ h. h.due) same)
    ∙ sym (kind-add item.due line item.kind (sym (ap (λ h. h.sort) same) ∙ is))

pub remove-item : (line : ℕ) (item : Item) (head : ItemHead) → head.sort ≡ remove_sort line → head ≡ head_of item →
    number_line (codes "remove") (head.due ∷ line ∷ []) ≡ item_line item
remove-item line item head is same =
    ap (λ (due : ℕ). number_line (codes "remove") (due ∷ line ∷ [])) (ap (λ h. h.due) same)
    ∙ sym (kind-remove item.due line item.kind (sym (ap (λ h. h.sort) same) ∙ is))

-- an item more
pub items-more : {T : Type 0} (stands_for : T → Start → List ℕ → Type 0) (old mid new : T) (items : List Item) (n : ℕ) →
    n < length items → Adds stands_for old mid (flat_map item_line (take n items)) →
    ((item : Item) → slice_get items n ≡ Some item → Adds stands_for mid new (item_line item)) →
    Adds stands_for old new (flat_map item_line (take (n + 1) items))
items-more stands_for old mid new items n within so_far one =
    elim (slice_get_cases items n).1 [
      | inl there ↦
          let item = there.0 in
          let more : flat_map item_line (take n items) ++ item_line item ≡ flat_map item_line (take (n + 1) items) =
          flat_map_more item_line [] (take n items) item
          ∙ ap (flat_map item_line) (ap (λ (x : Item). take n items ++ x ∷ []) (sym there.3) ∙ sym (take_more items n item within)) in
          subst (Adds stands_for old new) more
          (adds-then stands_for old mid new (flat_map item_line (take n items)) (item_line item) so_far (one item there.2))
      | inr past ↦ absurd (let far = past.0 in omega (arith, far, within))
    ]

-- none of those that are left changes anything
pub items-left : {T : Type 0} (stands_for : T → Start → List ℕ → Type 0) (old now : T) (items : List Item) (n : ℕ) →
    Adds stands_for old now (flat_map item_line (take n items)) → ((more : List ℕ) → Adds stands_for now now more) →
    Adds stands_for old now (flat_map item_line items)
items-left stands_for old now items n so_far done =
    subst (Adds stands_for old now)
    (sym (flat_map-append item_line (take n items) (drop n items))
    ∙ ap (flat_map item_line) (take-append-drop n items))
    (adds-then stands_for old now now (flat_map item_line (take n items)) (flat_map item_line (drop n items)) so_far
    (done (flat_map item_line (drop n items))))

-- ---- failures, line by line
pub failures-none : (before : List ℕ) → before ≡ before ++ failures_from 0 []
unfolding failures_from
failures-none before = sym (append-nil before)

pub failures-behind : (m : ℕ) (lists : List (List Window)) (windows : List Window) →
    failures_from m (lists ++ windows ∷ []) ≡ failures_from m lists ++ flat_map (fail_line (m + length lists)) windows
unfolding failures_from
failures-behind m [] windows =
    append-nil (flat_map (fail_line m) windows)
    ∙ ap (λ n. flat_map (fail_line n) windows) (let e : m ≡ m + 0 = omega arith in e)
failures-behind m (list ∷ lists) windows =
    ap (λ l. flat_map (fail_line m) list ++ l) (failures-behind (m + 1) lists windows)
    ∙ sym (append_assoc (flat_map (fail_line m) list) (failures_from (m + 1) lists)
    (flat_map (fail_line (m + 1 + length lists)) windows))
    ∙ ap (λ n. flat_map (fail_line m) list ++ failures_from (m + 1) lists ++ flat_map (fail_line n) windows)
    (let e : m + 1 + length lists ≡ m + suc (length lists) = omega arith in e)

-- the windows of a line more
pub failures-more : {T : Type 0} (stands_for : T → Start → List ℕ → Type 0) (old mid new : T) (lists : List (List Window))
    (m : ℕ) (windows : List Window) → m < length lists → windows ≡ slice_index_or lists m windows →
    Adds stands_for old mid (failures_from 0 (take m lists)) → Adds stands_for mid new (flat_map (fail_line m) windows) →
    Adds stands_for old new (failures_from 0 (take (m + 1) lists))
failures-more stands_for old mid new lists m windows within is so_far one =
    let long : 0 + length (take m lists) ≡ m = omega (arith, within, length-take m lists) in
    let more : failures_from 0 (take m lists) ++ flat_map (fail_line m) windows ≡ failures_from 0 (take (m + 1) lists) =
    ap (λ n. failures_from 0 (take m lists) ++ flat_map (fail_line n) windows) (sym long)
    ∙ sym (failures-behind 0 (take m lists) windows)
    ∙ ap (failures_from 0) (ap (λ (x : List Window). take m lists ++ x ∷ []) is ∙ sym (take_more lists m windows within)) in
    subst (Adds stands_for old new) more
    (adds-then stands_for old mid new (failures_from 0 (take m lists)) (flat_map (fail_line m) windows) so_far one)

-- ---- lengths
-- a text more, of a count that ends at a number
pub count-more : (before more : List ℕ) (old new added most : ℕ) → old ≡ min (length before) most → added ≡ length more →
    new ≡ min (old + added) most → new ≡ min (length (before ++ more)) most
count-more before more old new added most is size next =
    let long = length-append before more in
    grind (arith, is, size, next, long, nat_tests)

pub length-digits : (octets : List ℕ) → length (encode_lower octets) ≡ 2 * length octets
length-digits octets = length-encode_with lower_digits octets

-- a count that ends at one more than a number says whether a length is above it
pub count-tells : (text : List ℕ) (count : ℕ) → count ≡ min (length text) 67108865 →
    (IsTrue (nat_lt 67108864 count) → longest_input < length text) × (longest_input < length text → IsTrue (nat_lt 67108864 count))
count-tells text count is =
    elim (cases_lt 67108864 (length text)) [
      | inl more ↦ (
        λ t. more,
        λ t. lt-ltb 67108864 count (grind (arith, is, more, nat_tests)),
      )
      | inr less ↦
          let same : count ≡ length text = grind (arith, is, less, nat_tests) in (
            λ t. absurd (let above = ltb-true 67108864 count t in omega (arith, above, same, less)),
            λ t. absurd (omega (arith, t, less)),
          )
    ]
