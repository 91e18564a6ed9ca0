-- The text of a script reads as that script, line by line.
use Rattle.std.proofs.Common.{◌≡◌, ℕ, zero, suc, ◌+◌, ◌-◌, ◌<◌, ◌≤◌, nat_le, nat_lt, true, false}
use Rattle.std.proofs.Common.{List, [], ◌∷◌, ◌++◌, length, map, replicate, ap, ap₂, sym, ◌∙◌, refl, arith, subst, All}
use Rattle.std.proofs.Common.{Option, None, option_map, append_assoc, append-nil, length-append, slice_index_or, slice_set}
use Rattle.std.proofs.Common.{Ok}
use Rattle.std.specs.Prelude.{codes, decimal}
use Rattle.std.specs.List.{list_all, flat_map, AllByRecursion}
use Rattle.std.specs.List.Sorted.{IsNonDecreasing}
use Rattle.std.proofs.lemmas.Bool.{le-leb, leb-true, lt-leb, le-ltb, ne_eqb, and_parts}
use Rattle.std.proofs.lemmas.List.{length-map, map-append, get_or-append_right}
use Rattle.std.proofs.lemmas.List.Elements.{recursion_from_All}
use Rattle.std.proofs.lemmas.Fmt.{digits_decimal}
use Rattle.hex.specs.Hex.{encode_lower}
use Rattle.law_model.specs.Common.{IsValid, IsNetwork, HasFewLosses, IsItem, HasFailures}
use Rattle.law_model.specs.Common.{dues_of, frame_dues, command_dues, longest_delay, longest_slip}
use Rattle.law_model.specs.Common.{most_items, most_ticks, most_windows, most_packets, greatest, least, greatest_slip}
use Rattle.law_model.specs.session.ValidScript.{AreApart}
use Rattle.law_model.specs.members.Damage.{AreWindows}
use Rattle.law_model.specs.declared.window_types.Window.{Window}
use Rattle.law_model.specs.declared.script_types.Config.{Config}
use Rattle.law_model.specs.declared.script_types.Item.{Item}
use Rattle.law_model.specs.declared.script_types.ItemKind.{ItemKind}
use Rattle.law_model.specs.declared.script_types.ItemKind.TheVariants as item
use Rattle.law_model.specs.declared.script_types.EventLine.{EventLine}
use Rattle.law_model.specs.declared.script_types.Script.{Script}
use Rattle.text_lines.specs.Fields.{within, any, above, where_true, number_fault, fields_fault}
use Rattle.text_lines.specs.FirstFault.{AreSound}
use Rattle.text_lines.specs.WordsOfLine.{is_digit, number_of}
use Rattle.text_lines.specs.declared.text_faults.FieldFault.{FieldFault}
use Rattle.text_scripts.specs.declared.script_read.script_fault.LineFault.TheVariants as wrong
use Rattle.text_scripts.specs.declared.script_read.script_keyword.Keyword.TheVariants as word
use Rattle.text_scripts.specs.declared.script_read.script_draft.Draft.{Draft}
use Rattle.text_scripts.specs.declared.script_read.script_draft.Standing.{Standing}
use Rattle.text_scripts.specs.declared.script_read.script_draft.Statement.{Statement}
use Rattle.text_scripts.specs.declared.script_read.script_draft.Statement.TheVariants as says
use Rattle.text_scripts.specs.script_read.Statements.{words_fault, words_said, after, at_first}
use Rattle.text_scripts.specs.script_read.Statements.{windows_of, last_end, last_lost, is_longer, longer_fault}
use Rattle.text_scripts.specs.script_read.Script.{script_of, config_fault, slip_fault, windows_fault}
use Rattle.text_scripts.specs.script_read.Script.{least_lag}
use Rattle.text_scripts.specs.script_text.ScriptText.{network_text}
use Rattle.text_scripts.specs.script_text.ScriptText.{options_text, fail_line, failures_from, lost_line}
use Rattle.text_scripts.specs.script_text.ScriptText.{kind_line, item_line, script_text}
use Rattle.text_scripts.proofs.WrittenStreamLaws.{numerals, decimal_value, or_fine, where_fine, frame_sound, same_octets}
use Rattle.text_scripts.proofs.TextLineReadLaws.{IsWord, is_word, decimal_word, hex_word}
use Rattle.text_scripts.proofs.TextLineReadLaws.{number_none, fields_more, rest_fine}
use Rattle.text_scripts.proofs.ScriptLineAndFirstFaultLaws.{said_script}
use Rattle.text_scripts.proofs.NetworkTextReadLaws.{Reads, line_reads, regroup, stands_fine, place_later, four, drafted}
use Rattle.text_scripts.proofs.NetworkTextReadLaws.{network_reads, options_reads}

-- ---- a list behind its last element
last_behind : {A : Type 0} (f : A → ℕ) (xs : List A) (x : A) →
    slice_index_or (map f (xs ++ x ∷ [])) (length (xs ++ x ∷ []) - 1) 0 ≡ f x
last_behind f xs x =
    let size = length-append xs (x ∷ []) in
    let same = length-map xs f in
    let i : ℕ = length (xs ++ x ∷ []) - 1 in
    let here : i - length (map f xs) ≡ 0 = omega (arith, size, same) in
    ap (λ (l : List ℕ). slice_index_or l i 0) (map-append f xs (x ∷ []))
    ∙ get_or-append_right (map f xs) (f x ∷ []) (length (map f xs)) i 0 refl (omega (arith, size, same))
    ∙ ap (λ (k : ℕ). slice_index_or (f x ∷ []) k 0) here

at_place : (before after : List (List Window)) (x : List Window) (m : ℕ) → length before ≡ m →
    slice_index_or (before ++ x ∷ after) m [] ≡ x
at_place before after x m size =
    get_or-append_right before (x ∷ after) (length before) m [] refl (omega (arith, size))
    ∙ ap (λ (k : ℕ). slice_index_or (x ∷ after) k []) (let e : m - length before ≡ 0 = omega (arith, size) in e)

set_place : (before after : List (List Window)) (x y : List Window) (m : ℕ) → length before ≡ m →
    slice_set (before ++ x ∷ after) m y ≡ before ++ y ∷ after
set_place [] after x y zero size = refl
set_place [] after x y (suc m) size = absurd (omega (arith, size))
set_place (b ∷ before) after x y zero size = absurd (omega (arith, size))
set_place (b ∷ before) after x y (suc m) size = ap (λ (l : List (List Window)). b ∷ l) (set_place before after x y m (omega (arith, size)))

-- ---- failures
no_minus : (w : List ℕ) → list_all is_digit w ≡ true → is_longer w ≡ false
no_minus [] all = refl
no_minus (c ∷ w) all =
    let both = and_parts (is_digit c) (list_all is_digit w) all in
    let least = leb-true 48 c (and_parts (nat_le 48 c) (nat_le c 57) both.0).0 in
    rw (ne_eqb c 45 (λ e. omega (arith, e, least))) refl

slip_fine : (slip : ℕ) → slip ≤ longest_slip → longer_fault (decimal slip) ≡ None
slip_fine slip high =
    let small : slip < 10000000000 = omega (arith, high) in
    or_fine (where_true (is_longer (decimal slip)) wrong.LongerPath) (option_map wrong.Field (number_fault 5 0 longest_slip (decimal slip)))
    (where_fine (is_longer (decimal slip)) wrong.LongerPath
    (no_minus (decimal slip) (digits_decimal numerals slip (omega (arith, small)))))
    (ap (λ (f : Option FieldFault). option_map wrong.Field f) (number_none 5 0 longest_slip slip small (omega arith) high))

fail_of : ℕ → ℕ → ℕ → ℕ → Statement
fail_of m first end slip = says.Fail m (record { first = first; end = end; slip = slip })

module _ (b : Config) (m : ℕ) (before after : List (List Window)) (size : length before ≡ m) (inside : m < b.lines)
    (few : b.lines ≤ 128) (ticks : b.ticks ≤ most_ticks) (more : List ℕ) (script : Script) where
  abbrev failed : ℕ → Standing → List Window → Draft
  failed next s done = drafted next (record b { windows = before ++ done ∷ after }) s

  abbrev fail_words : Window → List (List ℕ)
  fail_words w = decimal m ∷ decimal w.first ∷ decimal w.end ∷ decimal w.slip ∷ []

  fail_fine : (next : ℕ) (s : Standing) (done : List Window) (w : Window) → 6 ≤ next → next ≤ 7 → length done < 256 →
      last_end done ≤ w.first → w.first < w.end → w.end ≤ b.ticks → w.slip ≤ longest_slip →
      words_fault (failed next s done) (codes "fail" ∷ fail_words w) ≡ None
  fail_fine next s done w low high room order some ends slip =
      let d = failed next s done in
      let ws = fail_words w in
      let small : w.end < 10000000000 = omega (arith, ends, ticks) in
      let value = decimal_value m (omega (arith, inside, few)) in
      let first = decimal_value w.first (omega (arith, some, small)) in
      let last = above b.ticks in
      let here : windows_of d (number_of (decimal m)) ≡ done =
      ap (λ (k : ℕ). slice_index_or (before ++ done ∷ after) k []) value ∙ at_place before after done m size in
      stands_fine d word.Fail ws (place_later d word.Fail low high)
      (rest_fine d word.Fail ws refl
      (or_fine (option_map wrong.Field (fields_fault (within 0 (b.lines - 1) ∷ any ∷ last ∷ []) 2 0 ws)) (longer_fault (decimal w.slip))
      (ap (λ (f : Option FieldFault). option_map wrong.Field f)
      (fields_more (within 0 (b.lines - 1)) (any ∷ last ∷ []) 2 0 (decimal m) (decimal w.first ∷ decimal w.end ∷ decimal w.slip ∷ [])
      (number_none 2 0 (b.lines - 1) m (omega (arith, inside, few)) (omega arith) (omega (arith, inside)))
      (fields_more any (last ∷ []) 3 (number_of (decimal m)) (decimal w.first) (decimal w.end ∷ decimal w.slip ∷ [])
      (number_none 3 0 9999999999 w.first (omega (arith, some, small)) (omega arith) (omega (arith, some, small)))
      (fields_more last [] 4 (number_of (decimal w.first)) (decimal w.end) (decimal w.slip ∷ [])
      (number_none 4 (number_of (decimal w.first) + 1) b.ticks w.end small (omega (arith, first, some)) ends) refl))))
      (slip_fine w.slip slip))
      (ap (λ (ws : List Window). nat_le most_windows (length ws)) here ∙ lt-leb most_windows (length done) room)
      (ap₂ (λ (k : ℕ) (ws : List Window). nat_lt k (last_end ws)) first here ∙ le-ltb w.first (last_end done) order))

  fail_says : (w : Window) → w.first < w.end → w.end ≤ b.ticks → w.slip ≤ longest_slip →
      words_said (codes "fail" ∷ fail_words w) ≡ says.Fail m w
  unfolding fail_of
  fail_says w some ends slip =
      let one = decimal_value m (omega (arith, inside, few)) in
      let two = decimal_value w.first (omega (arith, some, ends, ticks)) in
      let three = decimal_value w.end (omega (arith, ends, ticks)) in
      let four = decimal_value w.slip (omega (arith, slip)) in
      ap (λ (k : ℕ). fail_of k (number_of (decimal w.first)) (number_of (decimal w.end)) (number_of (decimal w.slip))) one
      ∙ ap (λ (k : ℕ). fail_of m k (number_of (decimal w.end)) (number_of (decimal w.slip))) two
      ∙ ap (λ (k : ℕ). fail_of m w.first k (number_of (decimal w.slip))) three ∙ ap (λ (k : ℕ). fail_of m w.first w.end k) four

  windows_read : (windows done : List Window) (from n next : ℕ) (s : Standing) → 6 ≤ next → next ≤ 7 → last_end done ≤ from →
      AreWindows from windows → AllByRecursion (λ (w : Window). w.end ≤ b.ticks) windows →
      AllByRecursion (λ (w : Window). w.slip ≤ longest_slip) windows → length done + length windows ≤ 256 →
      ((n next : ℕ) (s : Standing) → 6 ≤ next → next ≤ 7 → Reads n (failed next s (done ++ windows)) more script) →
      Reads n (failed next s done) (flat_map (fail_line m) windows ++ more) script
  unfolding AreWindows
  windows_read [] done from n next s low high order are ends slips room later =
      subst (λ (ws : List Window). Reads n (failed next s ws) more script) (append-nil done) (later n next s low high)
  windows_read (w ∷ windows) done from n next s low high order are ends slips room later =
      let some : w.first < w.end = (let is = are.1 in omega (arith, is)) in
      let rest = flat_map (fail_line m) windows ++ more in
      let order_here : last_end done ≤ w.first = (let is = are.0 in omega (arith, is, order)) in
      let end_here = ends.0 in
      let slip_here = slips.0 in
      let one : ((k : ℕ) → k < 10000000000 → IsWord (decimal k)) = decimal_word in
      let grown : slice_set (before ++ done ∷ after) m (windows_of (failed next s done) m ++ w ∷ []) ≡ before ++ (done ++ w ∷ []) ∷ after =
      set_place before after done (windows_of (failed next s done) m ++ w ∷ []) m size
      ∙ ap (λ (ws : List Window). before ++ (ws ++ w ∷ []) ∷ after) (at_place before after done m size) in
      let long = length-append done (w ∷ []) in
      let last = last_behind (λ (w : Window). w.end) done w in
      regroup n (failed next s done) (fail_line m w) (flat_map (fail_line m) windows) more script
      (line_reads n (failed next s done) (codes "fail") (fail_words w) (says.Fail m w) rest script
      (is_word (codes "fail") (omega arith) refl) (
        one m (omega (arith, inside, few)),
        (
          one w.first (omega (arith, some, end_here, ticks)),
          (one w.end (omega (arith, end_here, ticks)), (one w.slip (omega (arith, slip_here)), tt)),
        ),
      )
      (fail_fine next s done w low high (omega (arith, room)) order_here some end_here slip_here)
      (fail_says w some end_here slip_here)
      (subst (λ (lists : List (List Window)). Reads (n + 1) (drafted 7 (record b { windows = lists }) s) rest script) (sym grown)
      (windows_read windows (done ++ w ∷ []) w.end (n + 1) 7 s (omega arith) (omega arith) (omega (arith, last)) are.2 ends.1 slips.1
      (omega (arith, long, room))
      (λ n next s low high. subst (λ (ws : List Window). Reads n (failed next s ws) more script)
      (sym (append_assoc done (w ∷ []) windows)) (later n next s low high)))))

failures_read : (b : Config) (lists before : List (List Window)) (m n next : ℕ) (s : Standing) (more : List ℕ) (script : Script) →
    length before ≡ m → m + length lists ≡ b.lines → b.lines ≤ 128 → b.ticks ≤ most_ticks → 6 ≤ next → next ≤ 7 →
    AllByRecursion (HasFailures b.ticks) lists →
    ((n next : ℕ) (s : Standing) → 6 ≤ next → next ≤ 7 →
    Reads n (drafted next (record b { windows = before ++ lists }) s) more script) →
    Reads n (drafted next (record b { windows = before ++ replicate (length lists) [] }) s) (failures_from m lists ++ more) script
unfolding failures_from
failures_read b [] before m n next s more script size all few ticks low high are later = later n next s low high
failures_read b (windows ∷ lists) before m n next s more script size all few ticks low high are later =
    let rest = replicate (length lists) [] in
    let others = failures_from (m + 1) lists in
    let one = are.0 in
    let long = length-append before (windows ∷ []) in
    regroup n (drafted next (record b { windows = before ++ [] ∷ rest }) s) (flat_map (fail_line m) windows) others more script
    (windows_read b m before rest size (omega (arith, all)) few ticks (others ++ more) script windows [] 0 n next s low high
    (omega arith) one.apart (recursion_from_All (λ (w : Window). w.end ≤ b.ticks) windows one.ends)
    (recursion_from_All (λ (w : Window). w.slip ≤ longest_slip) windows one.slips) (let few = one.few in omega (arith, few))
    (λ n next s low high.
    subst (λ (l : List (List Window)). Reads n (drafted next (record b { windows = l }) s) (others ++ more) script)
    (append_assoc before (windows ∷ []) rest)
    (failures_read b lists (before ++ windows ∷ []) (m + 1) n next s more script (omega (arith, long, size)) (omega (arith, all)) few
    ticks low high are.1
    (λ n next s low high. subst (λ (l : List (List Window)). Reads n (drafted next (record b { windows = l }) s) more script)
    (sym (append_assoc before (windows ∷ []) lists)) (later n next s low high)))))

-- ---- losses
loss_of : ℕ → ℕ → Statement
loss_of first end = says.Lost first end

losses_read : (b : Config) (lost done : List (ℕ × ℕ)) (from n next : ℕ) (s : Standing) (more : List ℕ) (script : Script) → 6 ≤ next → next ≤ 7 →
    last_lost done ≤ from → AreApart from lost → AllByRecursion (λ (w : ℕ × ℕ). w.1 ≤ most_packets) lost →
    length done + length lost ≤ 256 →
    ((n next : ℕ) (s : Standing) → 6 ≤ next → next ≤ 7 → Reads n (drafted next (record b { lost = done ++ lost }) s) more script) →
    Reads n (drafted next (record b { lost = done }) s) (flat_map lost_line lost ++ more) script
unfolding AreApart loss_of
losses_read b [] done from n next s more script low high order are ends room later =
    subst (λ (l : List (ℕ × ℕ)). Reads n (drafted next (record b { lost = l }) s) more script) (append-nil done)
    (later n next s low high)
losses_read b (w ∷ lost) done from n next s more script low high order are ends room later =
    let d = drafted next (record b { lost = done }) s in
    let ws = decimal w.0 ∷ decimal w.1 ∷ [] in
    let some = are.1 in
    let begins = are.0 in
    let end = ends.0 in
    let first = decimal_value w.0 (omega (arith, some, end)) in
    let small : w.1 < 10000000000 = omega (arith, end) in
    let last = last_behind (λ (w : ℕ × ℕ). w.1) done w in
    let long = length-append done (w ∷ []) in
    let rest = flat_map lost_line lost ++ more in
    regroup n d (lost_line w) (flat_map lost_line lost) more script
    (line_reads n d (codes "lost") ws (says.Lost w.0 w.1) rest script (is_word (codes "lost") (omega arith) refl)
    (decimal_word w.0 (omega (arith, some, end)), (decimal_word w.1 small, tt))
    (stands_fine d word.Lost ws (place_later d word.Lost low high)
    (rest_fine d word.Lost ws refl
    (ap (λ (f : Option FieldFault). option_map wrong.Field f)
    (fields_more any (above most_packets ∷ []) 2 0 (decimal w.0) (decimal w.1 ∷ [])
    (number_none 2 0 9999999999 w.0 (omega (arith, some, end)) (omega arith) (omega (arith, some, end)))
    (fields_more (above most_packets) [] 3 (number_of (decimal w.0)) (decimal w.1) []
    (number_none 3 (number_of (decimal w.0) + 1) most_packets w.1 small (omega (arith, first, some)) end) refl)))
    (lt-leb most_windows (length done) (omega (arith, room)))
    (ap (λ (k : ℕ). nat_lt k (last_lost done)) first ∙ le-ltb w.0 (last_lost done) (omega (arith, order, begins)))))
    (ap₂ loss_of first (decimal_value w.1 small))
    (losses_read b lost (done ++ w ∷ []) w.1 (n + 1) 7 s more script (omega arith) (omega arith) (omega (arith, last)) are.2 ends.1
    (omega (arith, long, room))
    (λ n next s low high. subst (λ (l : List (ℕ × ℕ)). Reads n (drafted next (record b { lost = l }) s) more script)
    (sym (append_assoc done (w ∷ []) lost)) (later n next s low high))))

-- ---- items
of_items : Config → List Item → List EventLine → Script
of_items c items events = record { config = c; items = items; events = events }

-- numbers that never fall, from one on
Rises : ℕ → List ℕ → Type 0
Rises n [] = Unit {0}
Rises n (m ∷ ms) = (n ≤ m) × Rises m ms

rises : (n : ℕ) (ms : List ℕ) → All (λ m. n ≤ m) ms → IsNonDecreasing ms → Rises n ms
unfolding Rises
rises n [] least order = tt
rises n (m ∷ ms) least order = (
  least 0 m (omega arith),
  rises m ms (λ i d within. order 0 (suc i) d (omega arith) (omega (arith, within)))
      (λ i j d before within. order (suc i) (suc j) d (omega (arith, before)) (omega (arith, within))),
)

module _ (c : Config) (s : Standing) (ticks : c.ticks ≤ most_ticks) (script : Script) where
  -- a draft behind some items, with the due ticks of the last frame and of the last command
  abbrev itemed : ℕ → List Item → ℕ → ℕ → Draft
  itemed next items frame command = record {
    next = next;
    config = c;
    items = items;
    events = [];
    frame_due = frame;
    command_due = command;
    standing = s;
  }

  -- the words of a command
  module _ (next : ℕ) (items : List Item) (frame command due m : ℕ) (low : 6 ≤ next) (high : next ≤ 8) (early : due < c.ticks)
      (byte : m ≤ 255) (room : length items < most_items) (order : command ≤ due) where
    abbrev command_words : List (List ℕ)
    command_words = decimal due ∷ decimal m ∷ []

    command_each : option_map wrong.Field (fields_fault (within 0 (c.ticks - 1) ∷ within 0 255 ∷ []) 2 0 command_words) ≡ None
    command_each =
        ap (λ (f : Option FieldFault). option_map wrong.Field f)
        (fields_more (within 0 (c.ticks - 1)) (within 0 255 ∷ []) 2 0 (decimal due) (decimal m ∷ [])
        (number_none 2 0 (c.ticks - 1) due (omega (arith, early, ticks)) (omega arith) (omega (arith, early)))
        (fields_more (within 0 255) [] 3 (number_of (decimal due)) (decimal m) []
        (number_none 3 0 255 m (omega (arith, byte)) (omega arith) byte) refl))

    command_order : nat_lt (number_of (decimal due)) command ≡ false
    command_order =
        ap (λ (k : ℕ). nat_lt k command) (decimal_value due (omega (arith, early, ticks))) ∙ le-ltb due command order

    add_fine : words_fault (itemed next items frame command) (codes "add" ∷ command_words) ≡ None
    add_fine =
        let d = itemed next items frame command in
        stands_fine d word.Add command_words (place_later d word.Add low high)
        (rest_fine d word.Add command_words refl command_each (le-ltb most_items (length items + 1) (omega (arith, room))) command_order)

    remove_fine : words_fault (itemed next items frame command) (codes "remove" ∷ command_words) ≡ None
    remove_fine =
        let d = itemed next items frame command in
        stands_fine d word.Remove command_words (place_later d word.Remove low high)
        (rest_fine d word.Remove command_words refl command_each (le-ltb most_items (length items + 1) (omega (arith, room))) command_order)

  kind_reads : (kind : ItemKind) (due n next : ℕ) (done items : List Item) (frame command : ℕ) (more : List ℕ) → 6 ≤ next → next ≤ 8 →
      length done < most_items → IsItem c.ticks (record { due = due; kind = kind }) →
      Rises frame (frame_dues (dues_of (record { due = due; kind = kind } ∷ items))) →
      Rises command (command_dues (dues_of (record { due = due; kind = kind } ∷ items))) →
      ((frame command : ℕ) → Rises frame (frame_dues (dues_of items)) → Rises command (command_dues (dues_of items)) →
      Reads (n + 1) (itemed 8 (done ++ record { due = due; kind = kind } ∷ []) frame command) more script) →
      Reads n (itemed next done frame command) (kind_line due kind ++ more) script
  unfolding Rises frame_dues command_dues
  kind_reads (item.Frame octets) due n next done items frame command more low high room is frames commands later =
      let d = itemed next done frame command in
      let early : due < c.ticks = is.0 in
      let small : due < 10000000000 = omega (arith, early, ticks) in
      let bytes = is.1.1 in
      line_reads n d (codes "frame") (decimal due ∷ encode_lower octets ∷ [])
      (says.Item (record { due = due; kind = item.Frame octets })) more script (is_word (codes "frame") (omega arith) refl)
      (decimal_word due small, (hex_word octets bytes is.1.0.0, tt))
      (frame_sound d due octets
      (record { low = low; high = high; ticks = ticks; fits = is; room = room; order = frames.0 }))
      (ap₂ (λ (k : ℕ) (l : List ℕ). says.Item (record { due = k; kind = item.Frame l })) (decimal_value due small) (same_octets octets bytes))
      (later due command frames.1 commands)
  kind_reads (item.Add m) due n next done items frame command more low high room is frames commands later =
      let d = itemed next done frame command in
      let early : due < c.ticks = is.0 in
      let small : due < 10000000000 = omega (arith, early, ticks) in
      let byte = is.1 in
      let few : m < 10000000000 = omega (arith, byte) in
      line_reads n d (codes "add") (decimal due ∷ decimal m ∷ [])
      (says.Item (record { due = due; kind = item.Add m })) more script (is_word (codes "add") (omega arith) refl)
      (decimal_word due small, (decimal_word m few, tt))
      (add_fine next done frame command due m low high early byte room commands.0)
      (ap₂ (λ (k l : ℕ). says.Item (record { due = k; kind = item.Add l })) (decimal_value due small) (decimal_value m few))
      (later frame due frames commands.1)
  kind_reads (item.Remove m) due n next done items frame command more low high room is frames commands later =
      let d = itemed next done frame command in
      let early : due < c.ticks = is.0 in
      let small : due < 10000000000 = omega (arith, early, ticks) in
      let byte = is.1 in
      let few : m < 10000000000 = omega (arith, byte) in
      line_reads n d (codes "remove") (decimal due ∷ decimal m ∷ [])
      (says.Item (record { due = due; kind = item.Remove m })) more script (is_word (codes "remove") (omega arith) refl)
      (decimal_word due small, (decimal_word m few, tt))
      (remove_fine next done frame command due m low high early byte room commands.0)
      (ap₂ (λ (k l : ℕ). says.Item (record { due = k; kind = item.Remove l })) (decimal_value due small) (decimal_value m few))
      (later frame due frames commands.1)

  items_read : (items done : List Item) (n next frame command : ℕ) → 6 ≤ next → next ≤ 8 →
      length done + length items ≤ most_items → AllByRecursion (IsItem c.ticks) items →
      Rises frame (frame_dues (dues_of items)) → Rises command (command_dues (dues_of items)) →
      script ≡ record { config = c; items = done ++ items; events = [] } →
      Reads n (itemed next done frame command) (flat_map item_line items) script
  unfolding AreSound of_items
  items_read [] done n next frame command low high room are frames commands is =
      record { now = itemed next done frame command; sound = refl; whole = low; is = is ∙ ap (λ (l : List Item). of_items c l []) (append-nil done) }
  items_read (it ∷ items) done n next frame command low high room are frames commands is =
      let long = length-append done (it ∷ []) in
      kind_reads it.kind it.due n next done items frame command (flat_map item_line items) low high (omega (arith, room)) are.0 frames commands
      (λ frame command frames commands.
      items_read items (done ++ it ∷ []) (n + 1) 8 frame command (omega arith) (omega arith) (omega (arith, long, room)) are.1 frames commands
      (is ∙ ap (λ (l : List Item). of_items c l []) (sym (append_assoc done (it ∷ []) items))))

-- ---- slips, spread and lag
windows_pass : (ticks m i from : ℕ) (windows : List Window) → AreWindows from windows → windows_fault m i windows ≡ None
unfolding AreWindows
windows_pass ticks m i from [] are = refl
windows_pass ticks m i from (w ∷ windows) are =
    let sign : w.slip + w.first < w.end = are.1 in
    rw (lt-leb (w.end - w.first) w.slip (omega (arith, sign))) (windows_pass ticks m (i + 1) w.end windows are.2)

slips_pass : (ticks m : ℕ) (lists : List (List Window)) → AllByRecursion (HasFailures ticks) lists → slip_fault m lists ≡ None
slips_pass ticks m [] are = refl
slips_pass ticks m (windows ∷ lists) are =
    rw (windows_pass ticks m 0 0 windows are.0.apart) (slips_pass ticks (m + 1) lists are.1)

config_passes : (c : Config) → IsNetwork c → config_fault c ≡ None
config_passes c is =
    let ring = is.fits_ring in
    let lag = is.fits_lag in
    rw (slips_pass c.ticks 0 c.windows (recursion_from_All (HasFailures c.ticks) c.windows is.windows))
    (rw (le-leb (greatest c.delays - least c.delays + greatest_slip c.windows + 1) c.ring ring)
    (rw (le-leb (least_lag c) c.lag (omega (arith, lag))) refl))

-- ---- the script
script_reads : (script : Script) → IsValid script → HasFewLosses script → script.events ≡ [] →
    Reads 1 at_first (script_text script) script
unfolding script_text of_items
script_reads script is lost none =
    let c = script.config in
    let o = c.options in
    let network = is.sound.network in
    let items = is.sound.items in
    let few = is.sound.few in
    let each : length c.windows ≡ c.lines = network.windows_each in
    let all = recursion_from_All (HasFailures c.ticks) c.windows network.windows in
    let lines = network.lines.1 in
    let ticks = network.ticks.1 in
    let items_text = flat_map item_line script.items in
    let losses_text = flat_map lost_line c.lost ++ items_text in
    let fails_text = failures_from 0 c.windows ++ losses_text in
    let options = options_text o ++ fails_text in
    let whole : script ≡ record { config = c; items = [] ++ script.items; events = [] } =
    ap (λ (l : List EventLine). of_items c script.items l) none in
    let unfailed : Config = record c { windows = c.windows; lost = [] } in
    let failing : ((n next : ℕ) (s : Standing) → 6 ≤ next → next ≤ 7 → Reads n (drafted next unfailed s) losses_text script) =
    λ n next s low high.
    losses_read c c.lost [] 0 n next s items_text script low high (omega arith) network.lost.apart
    (recursion_from_All (λ (w : ℕ × ℕ). w.1 ≤ most_packets) c.lost network.lost.ends) (omega (arith, lost))
    (λ n next s low high.
    items_read c s ticks script script.items [] n next 0 0 low (omega (arith, high)) (omega (arith, few))
    (recursion_from_All (IsItem c.ticks) script.items items.each)
    (rises 0 (frame_dues (dues_of script.items)) (λ i d within. omega arith) items.frames)
    (rises 0 (command_dues (dues_of script.items)) (λ i d within. omega arith) items.commands) whole) in
    subst (λ (t : List ℕ). Reads 1 at_first t script)
    (sym (four (network_text c) (options_text o) (failures_from 0 c.windows) (flat_map lost_line c.lost) items_text))
    (network_reads c
    (record {
      lines = network.lines;
      delay_each = network.delay_each;
      delays = recursion_from_All (λ n. n ≤ longest_delay) c.delays network.delays;
      ring = network.ring;
      lag = network.lag;
      ticks = network.ticks;
      size = network.size;
    }) options script
    (λ n s free. options_reads n c s o fails_text script free network.options
    (λ n s. subst (λ (k : ℕ). Reads n (drafted 6 (record c { windows = replicate k []; lost = [] }) s) fails_text script)
    network.windows_each
    (failures_read (record c { lost = [] }) c.windows [] 0 n 6 s losses_text script refl (omega (arith, each)) lines ticks
    (omega arith) (omega arith) all failing))))

pub reads_back : (script : Script) → IsValid script → HasFewLosses script → script.events ≡ [] →
    script_of (script_text script) ≡ Ok script
reads_back script is lost none =
    let reads = script_reads script is lost none in
    (said_script (script_text script) script).1 (record {
      now = reads.now;
      sound = reads.sound;
      whole = reads.whole;
      passes = subst (λ (s : Script). config_fault s.config ≡ None) reads.is (config_passes script.config is.sound.network);
      is = reads.is;
    })
