-- A draft, its configuration and its items stand after each line, and make a valid script in the end.
use Rattle.std.proofs.Common.{◌≡◌, ℕ, zero, suc, ◌+◌, ◌-◌, ◌<◌, ◌≤◌, List, [], ◌∷◌, ◌++◌, length, map, ap, ◌∙◌, arith}
use Rattle.std.proofs.Common.{refl, slice_index_or, All, inl, inr, sym, slice_set, subst, drop, min, nat_le, Option}
use Rattle.std.proofs.Common.{None, Some}
use Rattle.std.specs.List.Sorted.{IsNonDecreasing}
use Rattle.std.proofs.lemmas.List.{length-append, map-append, get_or_append_left, get_or-append_right, length-set}
use Rattle.std.proofs.lemmas.List.{length-replicate, append-nil, at_drop_more}
use Rattle.std.proofs.lemmas.List.Elements.{All-append, All-push, All-set, All-get_or, All-replicate}
use Rattle.law_rates.specs.Rates.{due_of as due_at, count_of}
use Rattle.law_rates.specs.declared.rate_frames.Rate.{Rate}
use Rattle.law_model.specs.session.Items.{stream_items}
use Rattle.text_scripts.proofs.StreamItemLaws.{are_frame_items, length-stream, no_commands, stream_dues, dues_rise}
use Rattle.text_scripts.proofs.StreamItemLaws.{dues_least, dues_most, last_later, rising-append}
use Rattle.std.proofs.lemmas.Bool.{cases_lt, cases_Bool}
use Rattle.law_model.specs.Common.{Due, frame_due, command_due, due_of, dues_of, frame_dues, command_dues, AreApart}
use Rattle.law_model.specs.Common.{HasLosses, IsItem, AreItems, IsEvent, IsOptions, least_or, AreWindows, FitsRing}
use Rattle.law_model.specs.Common.{FitsLag, greatest, least, greatest_slip, HasFailures, IsValid}
use Rattle.law_model.specs.declared.window_types.Window.{Window}
use Rattle.law_model.specs.declared.script_types.Item.{Item}
use Rattle.text_scripts.specs.script_read.Statements.{last_end, last_lost, windows_of, after, after_item, at_first}
use Rattle.text_scripts.specs.script_read.Drafts.{AreInOrder, AreFailures, HasConfig, IsDraft, IsNext, IsNextLost}
use Rattle.text_scripts.specs.script_read.Drafts.{Fits}
use Rattle.law_model.specs.declared.script_types.ItemKind.{ItemKind}
use Rattle.law_model.specs.declared.script_types.Config.{Config}
use Rattle.law_model.specs.declared.script_types.Options.{Options}
use Rattle.text_scripts.specs.declared.script_read.script_draft.Draft.{Draft}
use Rattle.text_scripts.specs.declared.script_read.script_draft.Statement.{Statement}
use Rattle.std.proofs.lemmas.Bool.Decides.{nat_tests}
use Rattle.text_scripts.specs.declared.script_read.script_fault.ScriptFault.{ScriptFault}
use Rattle.text_scripts.specs.script_read.Script.{fault_or, windows_fault, slip_fault, spread_fault, least_lag}
use Rattle.text_scripts.specs.script_read.Script.{lag_fault, config_fault, script_in}
use Rattle.text_scripts.specs.script_read.ScriptInPieces.{IsUntested}
use Rattle.law_model.specs.declared.script_types.ItemKind.TheVariants as item
use Rattle.text_scripts.specs.declared.script_read.script_draft.Statement.TheVariants as says
use Rattle.text_scripts.specs.declared.script_read.script_fault.ScriptFault.TheVariants as fault
use Rattle.law_model.specs.Common.{longest_slip, most_items, most_packets, most_windows}

-- ---- One more at the end of a list: of numbers that never fall, of items, of windows.
pub All-none : {X : Type 0} (P : X → Type 0) → All P []
All-none P i d within = absurd (omega (arith, within))

-- ---- numbers that never fall
pub rising-none : IsNonDecreasing []
rising-none i j d before within = absurd (omega (arith, within))

one_more : (ns : List ℕ) (n i j d : ℕ) → IsNonDecreasing ns → All (λ m. m ≤ n) ns → i ≤ j → j < length ns + 1
    → slice_index_or (ns ++ n ∷ []) i d ≤ slice_index_or (ns ++ n ∷ []) j d
one_more ns n i j d rise most before within =
    elim (cases_lt j (length ns)) [
      | inl less ↦ rw (get_or_append_left ns (n ∷ []) d i (omega (arith, before, less)))
          (rw (get_or_append_left ns (n ∷ []) d j less) (rise i j d before less))
      | inr last ↦
          let end : slice_index_or (ns ++ n ∷ []) j d ≡ n =
          get_or-append_right ns (n ∷ []) (length ns) j d refl last
          ∙ ap (λ (k : ℕ). slice_index_or (n ∷ []) k d)
          (let e : j - length ns ≡ 0 = omega (arith, within, last) in e) in
          elim (cases_lt i (length ns)) [
            | inl less ↦ rw (get_or_append_left ns (n ∷ []) d i less) (rw end (most i d less))
            | inr same ↦ let e : i ≡ j = omega (arith, within, before, same, last) in rw e (omega arith)
          ]
    ]

pub rising-one : (ns : List ℕ) (n : ℕ) → IsNonDecreasing ns → All (λ m. m ≤ n) ns → IsNonDecreasing (ns ++ n ∷ [])
rising-one ns n rise most i j d before within =
    one_more ns n i j d rise most before (let size = length-append ns (n ∷ []) in omega (arith, within, size))

pub most-one : (ns : List ℕ) (old n : ℕ) → All (λ m. m ≤ old) ns → old ≤ n → All (λ m. m ≤ n) (ns ++ n ∷ [])
most-one ns old n most less =
    All-push (λ m. m ≤ n) ns n (λ i d within. let m = most i d within in omega (arith, m, less)) (omega arith)

pub most-up : (ns : List ℕ) (old n : ℕ) → All (λ m. m ≤ old) ns → old ≤ n → All (λ m. m ≤ n) ns
most-up ns old n most less i d within = let m = most i d within in omega (arith, m, less)

-- ---- due ticks
pub frames-append : (xs ys : List Due) → frame_dues (xs ++ ys) ≡ frame_dues xs ++ frame_dues ys
unfolding frame_dues
frames-append [] ys = refl
frames-append (frame_due due ∷ xs) ys = ap (λ (l : List ℕ). due ∷ l) (frames-append xs ys)
frames-append (command_due due ∷ xs) ys = frames-append xs ys

pub commands-append : (xs ys : List Due) → command_dues (xs ++ ys) ≡ command_dues xs ++ command_dues ys
unfolding command_dues
commands-append [] ys = refl
commands-append (frame_due due ∷ xs) ys = commands-append xs ys
commands-append (command_due due ∷ xs) ys = ap (λ (l : List ℕ). due ∷ l) (commands-append xs ys)

dues-append : (xs ys : List Item) → dues_of (xs ++ ys) ≡ dues_of xs ++ dues_of ys
dues-append xs ys = map-append (λ (item : Item). due_of item.due item.kind) xs ys

dues-one : (items : List Item) (item : Item) →
    dues_of (items ++ item ∷ []) ≡ dues_of items ++ due_of item.due item.kind ∷ []
dues-one items item = dues-append items (item ∷ [])

pub frames-one : (items : List Item) (item : Item)
    → frame_dues (dues_of (items ++ item ∷ [])) ≡ frame_dues (dues_of items) ++ frame_dues
    (due_of item.due item.kind ∷ [])
frames-one items item = ap frame_dues (dues-one items item)
    ∙ frames-append (dues_of items) (due_of item.due item.kind ∷ [])

pub commands-one : (items : List Item) (item : Item)
    → command_dues (dues_of (items ++ item ∷ [])) ≡ command_dues (dues_of items) ++ command_dues
    (due_of item.due item.kind ∷ [])
commands-one items item = ap command_dues (dues-one items item)
    ∙ commands-append (dues_of items) (due_of item.due item.kind ∷ [])

-- ---- windows
-- the end of the last one of a list, or this one where there is none
end_from : {X : Type 0} → (X → ℕ) → ℕ → List X → ℕ
end_from end last [] = last
end_from end last (w ∷ ws) = end_from end (end w) ws

end-at : {X : Type 0} (end : X → ℕ) (last : ℕ) (ws : List X) (i : ℕ) → i + 1 ≡ length ws →
    slice_index_or (map end ws) i 0 ≡ end_from end last ws
unfolding end_from
end-at end last (w ∷ []) zero size = refl
end-at end last (w ∷ v ∷ ws) (suc i) size = end-at end (end w) (v ∷ ws) i (omega arith)
end-at end last ws i size = absurd (omega arith)

end-is : {X : Type 0} (end : X → ℕ) (ws : List X) →
    slice_index_or (map end ws) (length ws - 1) 0 ≡ end_from end 0 ws
unfolding end_from
end-is end [] = refl
end-is end (w ∷ ws) = end-at end 0 (w ∷ ws) (length (w ∷ ws) - 1) (omega arith)

abbrev end_of : Window → ℕ
end_of w = w.end

order-more : (end : ℕ) (ws : List Window) (w : Window) → AreInOrder end ws → end_from end_of end ws ≤ w.first →
    w.first < w.end → AreInOrder end (ws ++ w ∷ [])
unfolding end_from AreInOrder
order-more end [] w are after some = (after, some, tt)
order-more end (v ∷ ws) w are after some = (are.0, are.1, order-more v.end ws w are.2 after some)

pub order-one : (ws : List Window) (w : Window) → AreInOrder 0 ws → last_end ws ≤ w.first → w.first < w.end →
    AreInOrder 0 (ws ++ w ∷ [])
order-one ws w are after some = order-more 0 ws w are (omega (arith, after, end-is end_of ws)) some

-- ---- return windows
pub no_losses : HasLosses []
unfolding AreApart
no_losses = record { apart = tt; ends = All-none _ }

abbrev end_of_loss : ℕ × ℕ → ℕ
end_of_loss w = w.1

apart-more : (end : ℕ) (ws : List (ℕ × ℕ)) (w : ℕ × ℕ) → AreApart end ws → end_from end_of_loss end ws ≤ w.0 →
    w.0 < w.1 → AreApart end (ws ++ w ∷ [])
unfolding end_from AreApart
apart-more end [] w are after some = (after, some, tt)
apart-more end (v ∷ ws) w are after some = (are.0, are.1, apart-more v.1 ws w are.2 after some)

pub apart-one : (ws : List (ℕ × ℕ)) (w : ℕ × ℕ) → AreApart 0 ws → last_lost ws ≤ w.0 → w.0 < w.1 →
    AreApart 0 (ws ++ w ∷ [])
apart-one ws w are after some = apart-more 0 ws w are (omega (arith, after, end-is end_of_loss ws)) some

-- ---- What a draft meets, the draft after one more line meets as well.
no_windows : (ticks : ℕ) → AreFailures ticks []
unfolding AreInOrder
no_windows ticks = record { few = omega arith; order = tt; ends = All-none _; slips = All-none _ }

no_items : (ticks : ℕ) → AreItems ticks []
unfolding frame_dues command_dues
no_items ticks = record { each = All-none _; frames = rising-none; commands = rising-none }

-- before the first line
pub IsDraft-first : IsDraft at_first
unfolding frame_dues command_dues
IsDraft-first = record {
  config = record {
    few = omega arith;
    lines = λ at. absurd (omega (arith, at));
    delay_each = λ at. absurd (omega (arith, at));
    delays = All-none _;
    ring = λ at. absurd (omega (arith, at));
    lag = λ at. absurd (omega (arith, at));
    ticks = λ at. absurd (omega (arith, at));
    size = inr refl;
    options = record { holdoff = omega arith; restore = omega arith; statuses = inl refl };
    none = λ at. All-none _;
    windows = All-none _;
    lost = no_losses;
    few_lost = omega arith;
  };
  no_items = λ at. refl;
  items = no_items 0;
  few = omega arith;
  frame_due = All-none _;
  command_due = All-none _;
  no_events = λ at. refl;
  events = All-none _;
}

-- ---- windows of a line, and of the return path
one_window : (d : Draft) (m : ℕ) (window : Window) → AreFailures d.config.ticks (windows_of d m) → IsNext d m window
    → AreFailures d.config.ticks (windows_of d m ++ window ∷ [])
one_window d m window are next = record {
  few = (let room = next.room in omega (arith, room, length-append (windows_of d m) (window ∷ [])));
  order = order-one (windows_of d m) window are.order next.order next.some;
  ends = All-push (λ (w : Window). w.end ≤ d.config.ticks) (windows_of d m) window are.ends next.ends;
  slips = All-push (λ (w : Window). w.slip ≤ longest_slip) (windows_of d m) window are.slips next.slips;
}

one_loss : (d : Draft) (first end : ℕ) → HasLosses d.config.lost → IsNextLost d first end
    → HasLosses (d.config.lost ++ (first, end) ∷ [])
one_loss d first end has next = record {
  apart = apart-one d.config.lost (first, end) has.apart next.order next.some;
  ends = All-push (λ (w : ℕ × ℕ). w.1 ≤ most_packets) d.config.lost (first, end) has.ends next.ends;
}

-- the configuration stands after its last line, but for windows, return windows and options
config_with : (next now : ℕ) (config : Config) (windows : List (List Window)) (lost : List (ℕ × ℕ)) (options : Options)
    → HasConfig next config → 6 ≤ next → 6 ≤ now → length windows ≡ length config.windows
    → All (AreFailures config.ticks) windows → HasLosses lost → length lost ≤ most_windows → IsOptions options
    → HasConfig now (record config { windows = windows; lost = lost; options = options })
config_with next now config windows lost options has whole still size are apart few_lost sound = record {
  few = has.few;
  lines = λ at. (let stands = has.lines (omega (arith, whole)) in (stands.0, omega (arith, stands.1, size)));
  delay_each = λ at. has.delay_each (omega (arith, whole));
  delays = has.delays;
  ring = λ at. has.ring (omega (arith, whole));
  lag = λ at. has.lag (omega (arith, whole));
  ticks = λ at. has.ticks (omega (arith, whole));
  size = has.size;
  options = sound;
  none = λ low. absurd (omega (arith, still, low));
  windows = are;
  lost = apart;
  few_lost = few_lost;
}

config_later : (next now : ℕ) (config : Config) → 6 ≤ next → 6 ≤ now → HasConfig next config → HasConfig now config
config_later next now config whole still has =
    config_with next now config config.windows config.lost config.options has whole still refl has.windows has.lost
    has.few_lost has.options

config_options : (d : Draft) (options : Options) → HasConfig d.next d.config → d.next ≡ 6 → IsOptions options →
    HasConfig d.next (record d.config { options = options })
config_options d options has at sound =
    config_with d.next d.next d.config d.config.windows d.config.lost options has (omega (arith, at))
    (omega (arith, at)) refl has.windows has.lost has.few_lost sound

config_fail : (d : Draft) (m : ℕ) (window : Window) → HasConfig d.next d.config → 6 ≤ d.next → IsNext d m window
    → HasConfig 7 (record d.config { windows = slice_set d.config.windows m (windows_of d m ++ window ∷ []) })
config_fail d m window has whole next =
    let size = has.lines (omega (arith, whole)) in
    let within : m < length d.config.windows = omega (arith, size.1, next.line) in
    let are = one_window d m window (All-get_or (AreFailures d.config.ticks) d.config.windows m [] within has.windows)
    next in
    config_with d.next 7 d.config (slice_set d.config.windows m (windows_of d m ++ window ∷ [])) d.config.lost
    d.config.options has whole (omega arith) (length-set d.config.windows m (windows_of d m ++ window ∷ []))
    (All-set (AreFailures d.config.ticks) d.config.windows m (windows_of d m ++ window ∷ []) are has.windows) has.lost
    has.few_lost has.options

-- ---- items
frames-command : (items : List Item) (it : Item) → due_of it.due it.kind ≡ command_due it.due
    → frame_dues (dues_of (items ++ it ∷ [])) ≡ frame_dues (dues_of items)
unfolding frame_dues
frames-command items it kind =
    frames-one items it ∙ ap (λ (due : Due). frame_dues (dues_of items) ++ frame_dues (due ∷ [])) kind
    ∙ append-nil (frame_dues (dues_of items))

commands-command : (items : List Item) (it : Item) → due_of it.due it.kind ≡ command_due it.due
    → command_dues (dues_of (items ++ it ∷ [])) ≡ command_dues (dues_of items) ++ it.due ∷ []
unfolding command_dues
commands-command items it kind =
    commands-one items it ∙ ap (λ (due : Due). command_dues (dues_of items) ++ command_dues (due ∷ [])) kind

one_frame : (ticks due : ℕ) (items : List Item) (octets : List ℕ) → AreItems ticks items →
    All (λ n. n ≤ due) (frame_dues (dues_of items))
    → IsItem ticks (record { due = due; kind = item.Frame octets }) →
    AreItems ticks (items ++ record { due = due; kind = item.Frame octets } ∷ [])
unfolding frame_dues command_dues
one_frame ticks due items octets are most is =
    let it : Item = record { due = due; kind = item.Frame octets } in
    record {
      each = All-push (IsItem ticks) items it are.each is;
      frames = subst IsNonDecreasing (sym (frames-one items it))
          (rising-one (frame_dues (dues_of items)) due are.frames most);
      commands = subst IsNonDecreasing
          (sym (commands-one items it ∙ append-nil (command_dues (dues_of items)))) are.commands;
    }

more_room : (items : List Item) (it : Item) → length items < most_items → length (items ++ it ∷ []) ≤ most_items
more_room items it room = let size = length-append items (it ∷ []) in omega (arith, room, size)

frame_after : (d : Draft) (due : ℕ) (octets : List ℕ) → IsDraft d →
    Fits d (says.Item (record { due = due; kind = item.Frame octets }))
    → IsDraft (after_item d (record { due = due; kind = item.Frame octets }) (item.Frame octets))
unfolding frame_dues command_dues
frame_after d due octets is fits =
    let it : Item = record { due = due; kind = item.Frame octets } in
    record {
      config = config_later d.next 8 d.config fits.0 (omega arith) is.config;
      no_items = λ at. absurd (omega (arith, at));
      items = one_frame d.config.ticks due d.items octets is.items
          (most-up _ d.frame_due due is.frame_due fits.2.order) fits.2.fits;
      few = more_room d.items it fits.2.room;
      frame_due = subst (All (λ n. n ≤ due)) (sym (frames-one d.items it))
          (most-one _ d.frame_due due is.frame_due fits.2.order);
      command_due = subst (All (λ n. n ≤ d.command_due))
          (sym (commands-one d.items it ∙ append-nil (command_dues (dues_of d.items)))) is.command_due;
      no_events = λ at. is.no_events fits.1;
      events = is.events;
    }

-- what is said of a command holds of an addition and of a removal
one_command : (ticks : ℕ) (items : List Item) (it : Item) → due_of it.due it.kind ≡ command_due it.due →
    AreItems ticks items
    → All (λ n. n ≤ it.due) (command_dues (dues_of items)) → IsItem ticks it → AreItems ticks (items ++ it ∷ [])
one_command ticks items it kind are most is = record {
  each = All-push (IsItem ticks) items it are.each is;
  frames = subst IsNonDecreasing (sym (frames-command items it kind)) are.frames;
  commands = subst IsNonDecreasing (sym (commands-command items it kind))
      (rising-one (command_dues (dues_of items)) it.due are.commands most);
}

command_after : (d : Draft) (it : Item) → due_of it.due it.kind ≡ command_due it.due → IsDraft d → 6 ≤ d.next →
    d.next ≤ 8
    → IsItem d.config.ticks it → d.command_due ≤ it.due → length d.items < most_items →
    IsDraft (record d { next = 8; items = d.items ++ it ∷ []; command_due = it.due })
command_after d it kind is low high fits later room = record {
  config = config_later d.next 8 d.config low (omega arith) is.config;
  no_items = λ at. absurd (omega (arith, at));
  items = one_command d.config.ticks d.items it kind is.items
      (most-up _ d.command_due it.due is.command_due later) fits;
  few = more_room d.items it room;
  frame_due = subst (All (λ n. n ≤ d.frame_due)) (sym (frames-command d.items it kind)) is.frame_due;
  command_due = subst (All (λ n. n ≤ it.due)) (sym (commands-command d.items it kind))
      (most-one _ d.command_due it.due is.command_due later);
  no_events = λ at. is.no_events high;
  events = is.events;
}

item_after : (d : Draft) (due : ℕ) (kind : ItemKind) → IsDraft d →
    Fits d (says.Item (record { due = due; kind = kind }))
    → IsDraft (after_item d (record { due = due; kind = kind }) kind)
item_after d due (item.Frame octets) is fits = frame_after d due octets is fits
item_after d due kind is fits =
    command_after d (record { due = due; kind = kind }) refl is fits.0 fits.1 fits.2.fits fits.2.order
    fits.2.room

-- ---- the frames of a stream
frames-stream : (items : List Item) (rate : Rate) →
    frame_dues (dues_of (items ++ stream_items rate)) ≡ frame_dues (dues_of items) ++ stream_dues rate
frames-stream items rate =
    ap frame_dues (dues-append items (stream_items rate)) ∙ frames-append (dues_of items) (dues_of (stream_items rate))

commands-stream : (items : List Item) (rate : Rate) →
    command_dues (dues_of (items ++ stream_items rate)) ≡ command_dues (dues_of items)
commands-stream items rate =
    ap command_dues (dues-append items (stream_items rate))
    ∙ commands-append (dues_of items) (dues_of (stream_items rate))
    ∙ ap (λ (l : List ℕ). command_dues (dues_of items) ++ l) (no_commands rate)
    ∙ append-nil (command_dues (dues_of items))

stream_after : (n : ℕ) (d : Draft) (rate : Rate) → IsDraft d → Fits d (says.Stream rate) → IsDraft (after n d (says.Stream rate))
stream_after n d rate is fits =
    let next = fits.2 in
    let late = last_later rate next.sound in
    let early = most-up _ d.frame_due rate.first is.frame_due next.order in
    record {
      config = config_later d.next 8 d.config fits.0 (omega arith) is.config;
      no_items = λ at. absurd (omega (arith, at));
      items = record {
        each = All-append (IsItem d.config.ticks) d.items (stream_items rate) is.items.each
            (are_frame_items rate d.config.ticks next.sound next.ends);
        frames = subst IsNonDecreasing (sym (frames-stream d.items rate))
            (rising-append (frame_dues (dues_of d.items)) (stream_dues rate) rate.first is.items.frames
            (dues_rise rate next.sound) early (dues_least rate next.sound));
        commands = subst IsNonDecreasing (sym (commands-stream d.items rate)) is.items.commands;
      };
      few =
          (let size = length-append d.items (stream_items rate) in
          let room = next.room in
          omega (arith, size, room, length-stream rate));
      frame_due = subst (All (λ n. n ≤ due_at rate (count_of rate - 1))) (sym (frames-stream d.items rate))
          (All-append (λ n. n ≤ due_at rate (count_of rate - 1)) (frame_dues (dues_of d.items)) (stream_dues rate)
          (most-up _ rate.first (due_at rate (count_of rate - 1)) early late) (dues_most rate next.sound));
      command_due = subst (All (λ n. n ≤ d.command_due)) (sym (commands-stream d.items rate)) is.command_due;
      no_events = λ at. is.no_events fits.1;
      events = is.events;
    }

item_config : (d : Draft) (it : Item) (kind : ItemKind) → HasConfig d.next d.config → 6 ≤ d.next →
    HasConfig (after_item d it kind).next (after_item d it kind).config
item_config d it (item.Frame octets) has whole = config_later d.next 8 d.config whole (omega arith) has
item_config d it kind has whole = config_later d.next 8 d.config whole (omega arith) has

-- ---- the lines of the configuration
-- lines without windows have none after any tick
bare : (ticks : ℕ) (lists : List (List Window)) → All (λ windows. windows ≡ []) lists → All (AreFailures ticks) lists
bare ticks lists none i d within = subst (AreFailures ticks) (sym (none i d within)) (no_windows ticks)

config_after : (n : ℕ) (d : Draft) (said : Statement) → HasConfig d.next d.config → Fits d said →
    HasConfig (after n d said).next (after n d said).config
config_after n d says.Nothing has fits = has
config_after n d (says.Container size) has fits = record {
  few = has.few;
  lines = λ at. absurd (omega (arith, at));
  delay_each = λ at. absurd (omega (arith, at));
  delays = has.delays;
  ring = λ at. absurd (omega (arith, at));
  lag = λ at. absurd (omega (arith, at));
  ticks = λ at. absurd (omega (arith, at));
  size = fits.1;
  options = has.options;
  none = λ at. has.none (omega (arith, fits.0));
  windows = has.windows;
  lost = has.lost;
  few_lost = has.few_lost;
}
config_after n d (says.Lines count) has fits = record {
  few = fits.1.1;
  lines = λ at. (fits.1.0, length-replicate count []);
  delay_each = λ at. absurd (omega (arith, at));
  delays = has.delays;
  ring = λ at. absurd (omega (arith, at));
  lag = λ at. absurd (omega (arith, at));
  ticks = λ at. absurd (omega (arith, at));
  size = has.size;
  options = has.options;
  none = λ at. All-replicate (λ (windows : List Window). windows ≡ []) count [] refl;
  windows = All-replicate (AreFailures d.config.ticks) count [] (no_windows d.config.ticks);
  lost = has.lost;
  few_lost = has.few_lost;
}
config_after n d (says.Delays delays) has fits = record {
  few = has.few;
  lines = λ at. has.lines (omega (arith, fits.0));
  delay_each = λ at. fits.1;
  delays = fits.2;
  ring = λ at. absurd (omega (arith, at));
  lag = λ at. absurd (omega (arith, at));
  ticks = λ at. absurd (omega (arith, at));
  size = has.size;
  options = has.options;
  none = λ at. has.none (omega (arith, fits.0));
  windows = has.windows;
  lost = has.lost;
  few_lost = has.few_lost;
}
config_after n d (says.Ring ring) has fits = record {
  few = has.few;
  lines = λ at. has.lines (omega (arith, fits.0));
  delay_each = λ at. has.delay_each (omega (arith, fits.0));
  delays = has.delays;
  ring = λ at. fits.1;
  lag = λ at. absurd (omega (arith, at));
  ticks = λ at. absurd (omega (arith, at));
  size = has.size;
  options = has.options;
  none = λ at. has.none (omega (arith, fits.0));
  windows = has.windows;
  lost = has.lost;
  few_lost = has.few_lost;
}
config_after n d (says.Lag lag) has fits = record {
  few = has.few;
  lines = λ at. has.lines (omega (arith, fits.0));
  delay_each = λ at. has.delay_each (omega (arith, fits.0));
  delays = has.delays;
  ring = λ at. has.ring (omega (arith, fits.0));
  lag = λ at. fits.1;
  ticks = λ at. absurd (omega (arith, at));
  size = has.size;
  options = has.options;
  none = λ at. has.none (omega (arith, fits.0));
  windows = has.windows;
  lost = has.lost;
  few_lost = has.few_lost;
}
config_after n d (says.Ticks ticks) has fits = record {
  few = has.few;
  lines = λ at. has.lines (omega (arith, fits.0));
  delay_each = λ at. has.delay_each (omega (arith, fits.0));
  delays = has.delays;
  ring = λ at. has.ring (omega (arith, fits.0));
  lag = λ at. has.lag (omega (arith, fits.0));
  ticks = λ at. fits.1;
  size = has.size;
  options = has.options;
  none = λ at. absurd (omega (arith, at));
  windows = bare ticks d.config.windows (has.none (omega (arith, fits.0)));
  lost = has.lost;
  few_lost = has.few_lost;
}
config_after n d (says.Sink infers) has fits =
    config_options d _ has fits.0 (record {
      holdoff = has.options.holdoff;
      restore = has.options.restore;
      statuses = has.options.statuses;
    })
config_after n d (says.Holdoff packets) has fits =
    config_options d _ has fits.0
    (record { holdoff = fits.1; restore = has.options.restore; statuses = has.options.statuses })
config_after n d (says.Restore packets) has fits =
    config_options d _ has fits.0
    (record { holdoff = has.options.holdoff; restore = fits.1; statuses = has.options.statuses })
config_after n d (says.Statuses count) has fits =
    config_options d _ has fits.0
    (record { holdoff = has.options.holdoff; restore = has.options.restore; statuses = fits.1 })
config_after n d (says.Fail m window) has fits = config_fail d m window has fits.0 fits.2
config_after n d (says.Lost first end) has fits =
    config_with d.next 7 d.config d.config.windows (d.config.lost ++ (first, end) ∷ []) d.config.options has fits.0
    (omega arith) refl has.windows (one_loss d first end has.lost fits.2)
    (let room = fits.2.room in omega (arith, room, length-append d.config.lost ((first, end) ∷ []))) has.options
config_after n d (says.Item it) has fits = item_config d it it.kind has fits.0
config_after n d (says.Stream rate) has fits = config_later d.next 8 d.config fits.0 (omega arith) has
config_after n d (says.Event e) has fits = config_later d.next 9 d.config fits.0 (omega arith) has

-- as long as no item has come, a draft is of its configuration alone
configured : (d new : Draft) → IsDraft d → d.next ≤ 7 → HasConfig new.next new.config → new.items ≡ d.items →
    new.events ≡ d.events → IsDraft new
unfolding frame_dues command_dues
configured d new is early has items events =
    let none : new.items ≡ [] = items ∙ is.no_items early in
    let size = ap (λ (l : List Item). length l) none in
    let quiet : new.events ≡ [] = events ∙ is.no_events (omega (arith, early)) in
    record {
      config = has;
      no_items = λ at. none;
      items = subst (AreItems new.config.ticks) (sym none) (no_items new.config.ticks);
      few = omega (arith, size);
      frame_due = rw none (All-none _);
      command_due = rw none (All-none _);
      no_events = λ at. quiet;
      events = subst (All (IsEvent new.config.lines)) (sym quiet) (All-none _);
    }

-- ---- any line
pub IsDraft-after : (n : ℕ) (d : Draft) (said : Statement) → IsDraft d → Fits d said → IsDraft (after n d said)
IsDraft-after n d says.Nothing is fits = is
IsDraft-after n d (says.Fail m window) is fits =
    configured d _ is fits.1 (config_after n d (says.Fail m window) is.config fits) refl refl
IsDraft-after n d (says.Lost first end) is fits =
    configured d _ is fits.1 (config_after n d (says.Lost first end) is.config fits) refl refl
IsDraft-after n d (says.Item it) is fits = item_after d it.due it.kind is fits
IsDraft-after n d (says.Stream rate) is fits = stream_after n d rate is fits
IsDraft-after n d (says.Event e) is fits = record {
  config = config_after n d (says.Event e) is.config fits;
  no_items = λ at. absurd (omega (arith, at));
  items = is.items;
  few = is.few;
  frame_due = is.frame_due;
  command_due = is.command_due;
  no_events = λ at. absurd (omega (arith, at));
  events = All-push (IsEvent d.config.lines) d.events e is.events fits.1;
}
IsDraft-after n d said is fits =
    configured d _ is (omega (arith, fits.0)) (config_after n d said is.config fits) refl refl

-- ---- The least of a list, one step on.
least_of_two : (n m : ℕ) (ns : List ℕ) → least_or (min n m) ns ≡ min n (least_or m ns)
least_of_two n m [] = refl
least_of_two n m (k ∷ ns) = omega arith

pub least_next : (ns : List ℕ) (i d low now : ℕ) → i < length ns → now ≡ min low (slice_index_or ns i d)
    → least_or now (drop (i + 1) ns) ≡ least_or low (drop i ns)
least_next ns i d low now within is =
    ap (λ (n : ℕ). least_or n (drop (i + 1) ns)) is ∙ least_of_two low (slice_index_or ns i d) (drop (i + 1) ns)
    ∙ sym (at_drop_more (λ (xs : List ℕ). least_or low xs) ns i d within)

-- ---- A draft that passes the tests is a script that meets all that is said of one.
no_fault : (f later : Option ScriptFault) → fault_or f later ≡ None → (f ≡ None) × (later ≡ None)
no_fault None later is = (refl, is)
no_fault (Some f) later is = absurd cc

-- ---- slips
no_slip : (m i : ℕ) (w : Window) (ws : List Window) → windows_fault m i (w ∷ ws) ≡ None
    → (w.slip < w.end - w.first) × (windows_fault m (i + 1) ws ≡ None)
no_slip m i w ws none =
    elim (cases_Bool (nat_le (w.end - w.first) w.slip)) [
      | inl far ↦ absurd (let bad : Some (fault.Slip m i w.slip) ≡ None = rw far at none in cc)
      | inr near ↦ ((let less : w.slip < w.end - w.first = grind (arith, nat_tests, near) in less), rw near at none)
    ]

signs : (m i from : ℕ) (ws : List Window) → AreInOrder from ws → windows_fault m i ws ≡ None → AreWindows from ws
unfolding AreInOrder AreWindows
signs m i from [] order none = tt
signs m i from (w ∷ ws) order none =
    let is = no_slip m i w ws none in (order.0, omega (arith, is.0), signs m (i + 1) w.end ws order.2 is.1)

-- lines in order none of whose windows slips too far
pub all_signs : (ticks m : ℕ) (lists : List (List Window)) → All (AreFailures ticks) lists → slip_fault m lists ≡ None
    → All (λ list. AreWindows 0 list) lists
all_signs ticks m [] are none i d within = absurd (omega (arith, within))
all_signs ticks m (ws ∷ lists) are none zero d within =
    signs m 0 0 ws (are zero d (omega arith)).order (no_fault (windows_fault m 0 ws) (slip_fault (m + 1) lists) none).0
all_signs ticks m (ws ∷ lists) are none (suc i) d within =
    all_signs ticks (m + 1) lists (λ j e inside. are (suc j) e (omega (arith, inside)))
    (no_fault (windows_fault m 0 ws) (slip_fault (m + 1) lists) none).1 i d (omega (arith, within))

failures : (ticks m : ℕ) (lists : List (List Window)) → All (AreFailures ticks) lists → slip_fault m lists ≡ None
    → All (HasFailures ticks) lists
failures ticks m lists are none i d within =
    let is = are i d within in
    record { few = is.few; apart = all_signs ticks m lists are none i d within; ends = is.ends; slips = is.slips }

-- ---- spread and lag
ring_fits : (c : Config) → spread_fault c ≡ None → FitsRing c
ring_fits c none =
    elim (cases_Bool (nat_le (greatest c.delays - least c.delays + greatest_slip c.windows + 1) c.ring)) [
      | inl fits ↦ (let less : greatest c.delays - least c.delays + greatest_slip c.windows + 1 ≤ c.ring =
          grind (arith, nat_tests, fits) in less)
      | inr wide ↦ absurd (let bad : Some
          (fault.Spread (greatest c.delays) (least c.delays) (greatest_slip c.windows) c.ring) ≡ None =
          rw wide at none in cc)
    ]

lag_fits : (c : Config) → lag_fault c ≡ None → FitsLag c
lag_fits c none =
    elim (cases_Bool (nat_le (least_lag c) c.lag)) [
      | inl fits ↦ (let less : least_lag c ≤ c.lag = grind (arith, nat_tests, fits) in omega (arith, less))
      | inr short ↦ absurd (let bad : Some (fault.Lag c.lag (least_lag c) (greatest c.delays) (greatest_slip c.windows))
          ≡ None = rw short at none in cc)
    ]

-- ---- the script
pub IsValid-draft : (d : Draft) → IsDraft d → 6 ≤ d.next → config_fault d.config ≡ None → IsValid (script_in d)
IsValid-draft d is whole none =
    let has = is.config in
    let lines = has.lines (omega (arith, whole)) in
    let slips = no_fault (slip_fault 0 d.config.windows) (fault_or (spread_fault d.config) (lag_fault d.config)) none in
    let rings = no_fault (spread_fault d.config) (lag_fault d.config) slips.1 in
    record {
      sound = record {
        network = record {
          lines = (lines.0, has.few);
          delay_each = has.delay_each (omega (arith, whole));
          delays = has.delays;
          windows_each = lines.1;
          windows = failures d.config.ticks 0 d.config.windows has.windows slips.0;
          lost = has.lost;
          ring = has.ring (omega (arith, whole));
          lag = has.lag (omega (arith, whole));
          ticks = has.ticks whole;
          size = has.size;
          options = has.options;
          fits_ring = ring_fits d.config rings.0;
          fits_lag = lag_fits d.config rings.1;
        };
        items = is.items;
        few = is.few;
      };
      events = is.events;
    }

-- what its lines say, before slips, spread and lag are tested
pub IsUntested-draft : (d : Draft) → IsDraft d → 6 ≤ d.next → IsUntested (script_in d)
IsUntested-draft d is whole = record {
  few = (let lines = is.config.lines (omega (arith, whole)) in omega (arith, lines.1, is.config.few));
  windows = is.config.windows;
  few_lost = is.config.few_lost;
  valid = λ none. IsValid-draft d is whole none;
}
