-- What has landed of some items (IsLanded), the next place, and the refusals among them in order.
use Rattle.std.proofs.Common.{◌≡◌, ℕ, suc, ◌+◌, ◌*◌, ◌<◌, ◌≤◌, nat_lt, Bool, true, false, List, [], ◌∷◌, ◌++◌}
use Rattle.std.proofs.Common.{length, drop, slice_get, if◌then◌else◌, All, Some, None, option_map, inl}
use Rattle.std.proofs.Common.{inr, refl, sym, ◌∙◌, ap, subst, arith, ltb-true, length-append}
use Rattle.std.proofs.lemmas.Bool.{cases_Bool, cases_lt}
use Rattle.std.proofs.lemmas.List.Elements.{All-tail}
use Rattle.law_model.specs.Common.{due_of, dues_of, frame_dues, command_dues, most_items}
use Rattle.law_model.specs.declared.script_types.Item.{Item}
use Rattle.law_model.specs.declared.script_types.ItemKind.{ItemKind}
use Rattle.law_model.specs.declared.item_refusals.Refusal.{Refusal}
use Rattle.law_model.specs.declared.script_types.ItemKind.TheVariants.{Frame, Add, Remove}
use Rattle.law_walk.specs.Common.{is_client, IsPlaced}
use Rattle.terminal_group.specs.ItemPlaces.{is_frame, is_command, place_of}
use Rattle.terminal_group.proofs.ItemPlaceAndHeldItemLaws.{place-next, place-found, due_found, frame-due, command-due}
use Rattle.std.specs.List.Sorted.{IsNonDecreasing}
use Rattle.std.proofs.lemmas.Option.{slice_get_within}
use Rattle.law_model.proofs.ListLaws.{slice_get-inside}
use Rattle.terminal_group.specs.Landed.{Landed, none_landed, next_place, next_number, due_in}
use Rattle.terminal_group.specs.Landed.{due_at, AreBefore, AreAfter, IsLanded}
use Rattle.terminal_group.specs.RefusalCodes.{code_at}
use Rattle.terminal_group.specs.Landed.{AreAhead, AreBehind}

-- What has landed of some items, and the refusals among them.
-- the item at the place of a kind is due when the kind says
frame-at : (items : List Item) (k number : ℕ) (item : Item) → number ≡ place_of is_frame k items →
    slice_get items number ≡ Some item → slice_get (frame_dues (dues_of items)) k ≡ Some item.due
frame-at items k number item at here =
    frame-due items k ∙ ap (due_found items) (sym at) ∙ ap (option_map (λ (item : Item). item.due)) here

command-at : (items : List Item) (k number : ℕ) (item : Item) → number ≡ place_of is_command k items →
    slice_get items number ≡ Some item → slice_get (command_dues (dues_of items)) k ≡ Some item.due
command-at items k number item at here =
    command-due items k ∙ ap (due_found items) (sym at) ∙ ap (option_map (λ (item : Item). item.due)) here

-- so many items of a kind are before its place
few-frames : (items : List Item) (k : ℕ) → place_of is_frame k items < length items →
    k < length (frame_dues (dues_of items))
few-frames items k there =
    let (item, here) = slice_get-inside items (place_of is_frame k items) there in
    slice_get_within (frame_dues (dues_of items)) k item.due (frame-at items k _ item refl here)

few-commands : (items : List Item) (k : ℕ) → place_of is_command k items < length items →
    k < length (command_dues (dues_of items))
few-commands items k there =
    let (item, here) = slice_get-inside items (place_of is_command k items) there in
    slice_get_within (command_dues (dues_of items)) k item.due (command-at items k _ item refl here)

-- all items are frames and commands
dues-by : (due : ℕ) (kind : ItemKind) (items : List Item) →
    length (frame_dues (dues_of items)) + length (command_dues (dues_of items)) ≡ length items →
    length (frame_dues (due_of due kind ∷ dues_of items)) + length (command_dues (due_of due kind ∷ dues_of items))
    ≡ suc (length items)
unfolding frame_dues command_dues
dues-by due (Frame octets) items rest = omega (arith, rest)
dues-by due (Add line) items rest = omega (arith, rest)
dues-by due (Remove line) items rest = omega (arith, rest)

pub all-dues : (items : List Item) →
    length (frame_dues (dues_of items)) + length (command_dues (dues_of items)) ≡ length items
unfolding frame_dues command_dues
all-dues [] = refl
all-dues (item ∷ items) = dues-by item.due item.kind items (all-dues items)

-- ---- an item has landed
pub number-there : (landed : Landed) (frame : Bool) (number : ℕ) → next_number landed frame ≡ Some number →
    (number ≡ next_place landed frame) × (number < length landed.items)
number-there landed frame number e =
    elim (cases_Bool (nat_lt (next_place landed frame) (length landed.items))) [
      | inl low ↦
          let f : Some (next_place landed frame) ≡ Some number = rw low at e in
          let same : next_place landed frame ≡ number = cc in
          let inside = ltb-true (next_place landed frame) (length landed.items) low in
          (sym same, omega arith)
      | inr none ↦ absurd (let f : None ≡ Some number = rw none at e in cc)
    ]

pub client-frame : (kind : ItemKind) → is_frame kind ≡ true → is_client kind ≡ true
client-frame (Frame octets) is = refl
client-frame (Add line) is = absurd cc
client-frame (Remove line) is = absurd cc

pub operator-command : (kind : ItemKind) → is_command kind ≡ true → is_client kind ≡ false
operator-command (Frame octets) is = absurd cc
operator-command (Add line) is = refl
operator-command (Remove line) is = refl

-- the next item of a kind is of the kind
pub next-kind : (landed : Landed) (frame : Bool) (item : Item) →
    slice_get landed.items (next_place landed frame) ≡ Some item → is_client item.kind ≡ frame
next-kind landed true item there = client-frame item.kind (place-found is_frame landed.items landed.frames item there).0
next-kind landed false item there =
    operator-command item.kind (place-found is_command landed.items landed.commands item there).0

-- ---- an item has landed, and is refused or not
pub placed-length : (number : ℕ) (put was now : List (ℕ × Refusal)) → IsPlaced number put was now →
    length now ≡ length was + length put
placed-length number put was now placed =
    let long = ap length placed.was_so in
    let size = ap length placed.is_so in
    omega (
      arith,
      length-append placed.front placed.back,
      length-append (placed.front ++ put) placed.back,
      length-append placed.front put,
      long,
      size,
    )

pub frame-landed : (landed : Landed) (frame command number next refused : ℕ) (words other : List ℕ)
    (refusals : List (ℕ × Refusal)) → IsLanded landed frame command words →
    number ≡ next_place landed true → number < length landed.items →
    next ≡ (number + 1) + place_of is_frame 0 (drop (number + 1) landed.items) →
    ((n : ℕ) → (n ≡ number → ⊥) → code_at other n ≡ code_at words n) → length other ≡ length words →
    length refusals + landed.refused_frames ≡ length landed.refusals + refused → refused ≤ landed.refused_frames + 1 →
    IsLanded (record landed { frames = landed.frames + 1; refused_frames = refused; refusals = refusals }) next command
    other
frame-landed landed frame command number next refused words other refusals is place there at same room more few =
    let next = place-next is_frame landed.items landed.frames number place there in
    let inside = few-frames landed.items landed.frames (omega (arith, place, there)) in
    record {
      frame = at ∙ next;
      command = is.command;
      few = is.few;
      frames = is.frames;
      commands = is.commands;
      most_frames = omega (arith, inside);
      most_commands = is.most_commands;
      of_landed = λ n item found late.
          let (apart, before) = left (is_client item.kind) n item found refl late in
          same n apart ∙ is.of_landed n item found before;
      refused = (let was = is.refused in omega (arith, was, more));
      few_frames = (let was = is.few_frames in omega (arith, was, few));
      few_commands = is.few_commands;
      room = (let was = is.room in omega (arith, was, room));
    }
  where
    left : (client : Bool) (n : ℕ) (item : Item) → slice_get landed.items n ≡ Some item →
        is_client item.kind ≡ client → next_place (record landed { frames = landed.frames + 1 }) client ≤ n →
        (n ≡ number → ⊥) × (next_place landed client ≤ n)
    left true n item found kind late =
        let next = place-next is_frame landed.items landed.frames number place there in
        (λ e. omega (arith, next, late, e), omega (arith, place, next, late))
    left false n item found kind late = (
      (λ e.
          let own = next-kind landed true item (ap (slice_get landed.items) (sym place ∙ sym e) ∙ found) in
          absurd (let no : true ≡ false = sym own ∙ kind in cc)),
      late,
    )

pub command-landed : (landed : Landed) (frame command number next refused : ℕ) (words other : List ℕ)
    (refusals : List (ℕ × Refusal)) → IsLanded landed frame command words →
    number ≡ next_place landed false → number < length landed.items →
    next ≡ (number + 1) + place_of is_command 0 (drop (number + 1) landed.items) →
    ((n : ℕ) → (n ≡ number → ⊥) → code_at other n ≡ code_at words n) → length other ≡ length words →
    length refusals + landed.refused_commands ≡ length landed.refusals + refused →
    refused ≤ landed.refused_commands + 1 →
    IsLanded (record landed { commands = landed.commands + 1; refused_commands = refused; refusals = refusals }) frame
    next other
command-landed landed frame command number next refused words other refusals is place there at same room more few =
    let next = place-next is_command landed.items landed.commands number place there in
    let inside = few-commands landed.items landed.commands (omega (arith, place, there)) in
    record {
      frame = is.frame;
      command = at ∙ next;
      few = is.few;
      frames = is.frames;
      commands = is.commands;
      most_frames = is.most_frames;
      most_commands = omega (arith, inside);
      of_landed = λ n item found late.
          let (apart, before) = left (is_client item.kind) n item found refl late in
          same n apart ∙ is.of_landed n item found before;
      refused = (let was = is.refused in omega (arith, was, more));
      few_frames = is.few_frames;
      few_commands = (let was = is.few_commands in omega (arith, was, few));
      room = (let was = is.room in omega (arith, was, room));
    }
  where
    left : (client : Bool) (n : ℕ) (item : Item) → slice_get landed.items n ≡ Some item →
        is_client item.kind ≡ client → next_place (record landed { commands = landed.commands + 1 }) client ≤ n →
        (n ≡ number → ⊥) × (next_place landed client ≤ n)
    left true n item found kind late = (
      (λ e.
          let own = next-kind landed false item (ap (slice_get landed.items) (sym place ∙ sym e) ∙ found) in
          absurd (let no : false ≡ true = sym own ∙ kind in cc)),
      late,
    )
    left false n item found kind late =
        let next = place-next is_command landed.items landed.commands number place there in
        (λ e. omega (arith, next, late, e), omega (arith, place, next, late))

-- nothing has landed
pub none-yet : (lines : ℕ) (items : List Item) (frame command : ℕ) (words : List ℕ) → length items ≤ most_items →
    IsNonDecreasing (frame_dues (dues_of items)) → IsNonDecreasing (command_dues (dues_of items)) →
    frame ≡ 0 + place_of is_frame 0 items → command ≡ 0 + place_of is_command 0 items →
    ((n : ℕ) → code_at words n ≡ 0) → length items ≤ 32 * length words →
    IsLanded (none_landed lines items) frame command words
none-yet lines items frame command words few frames commands first second none room = record {
  frame = omega (arith, first);
  command = omega (arith, second);
  few = few;
  frames = frames;
  commands = commands;
  most_frames = omega arith;
  most_commands = omega arith;
  of_landed = λ n item found late. none n;
  refused = refl;
  few_frames = omega arith;
  few_commands = omega arith;
  room = room;
}

-- ---- a list in two parts by a number has them in one way
split-same : (number : ℕ) (front back other rest : List (ℕ × Refusal)) → front ++ back ≡ other ++ rest →
    AreBefore number front → AreAfter number back → AreBefore number other → AreAfter number rest →
    (front ≡ other) × (back ≡ rest)
split-same number [] back [] rest e low high few many = (refl, e)
split-same number [] back (first ∷ other) rest e low high few many =
    let here = few 0 first (omega arith) in
    let after : All (λ (refused : ℕ × Refusal). number < refused.0) (first ∷ (other ++ rest)) =
    subst (All (λ (refused : ℕ × Refusal). number < refused.0)) e high in
    let there = after 0 first (omega arith) in
    absurd (omega arith)
split-same number (first ∷ front) back [] rest e low high few many =
    let here = low 0 first (omega arith) in
    let after : All (λ (refused : ℕ × Refusal). number < refused.0) (first ∷ (front ++ back)) =
    subst (All (λ (refused : ℕ × Refusal). number < refused.0)) (sym e) many in
    let there = after 0 first (omega arith) in
    absurd (omega arith)
split-same number (first ∷ front) back (second ∷ other) rest e low high few many =
    let same : first ≡ second = cc in
    let tails : front ++ back ≡ other ++ rest = ap (drop 1) e in
    let (a, b) = split-same number front back other rest tails
    (All-tail (λ (refused : ℕ × Refusal). refused.0 < number) first front low) high
    (All-tail (λ (refused : ℕ × Refusal). refused.0 < number) second other few) many in
    (ap (λ x. x ∷ front) same ∙ ap (λ l. second ∷ l) a, b)

-- so a refusal is put in its place in one way
pub placed-same : (number : ℕ) (put was now other : List (ℕ × Refusal)) → IsPlaced number put was now →
    IsPlaced number put was other → now ≡ other
placed-same number put was now other one two =
    let (a, b) = split-same number one.front one.back two.front two.back (sym one.was_so ∙ two.was_so) one.before
    one.after two.before two.after in
    one.is_so ∙ ap (λ l. l ++ put ++ one.back) a ∙ ap (λ l. two.front ++ put ++ l) b ∙ sym two.is_so

-- ---- an item that hasn't landed isn't due before the ticks made, where what hasn't landed isn't
pub next-due : (landed : Landed) (client : Bool) (number ticks : ℕ) → next_number landed client ≡ Some number →
    AreAhead (dues_of landed.items) ticks landed.frames landed.commands →
    ticks ≤ due_at landed.items number
next-due landed client number ticks e ahead =
    let (at, there) = number-there landed client number e in
    let (item, here) = slice_get-inside landed.items number there in
    let late = by_kind client at item here in
    let same : due_at landed.items number ≡ item.due = ap due_in here in
    omega arith
  where
    by_kind : (client : Bool) → number ≡ next_place landed client → (item : Item) →
        slice_get landed.items number ≡ Some item → ticks ≤ item.due
    by_kind true at item here =
        ahead.of_frames landed.frames item.due (omega arith) (frame-at landed.items landed.frames number item at here)
    by_kind false at item here =
        ahead.of_commands landed.commands item.due (omega arith)
        (command-at landed.items landed.commands number item at here)

-- and where it is due by now, all that has landed with it is
pub behind-next : (landed : Landed) (client : Bool) (number ticks : ℕ) → next_number landed client ≡ Some number →
    due_at landed.items number ≤ ticks →
    AreBehind (dues_of landed.items) ticks landed.frames landed.commands →
    AreBehind (dues_of landed.items) ticks (landed.frames + (if client then 1 else 0))
    (landed.commands + (if client then 0 else 1))
behind-next landed client number ticks e low behind =
    let (at, there) = number-there landed client number e in
    let (item, here) = slice_get-inside landed.items number there in
    let same : due_at landed.items number ≡ item.due = ap due_in here in
    by_kind client at item here (omega arith)
  where
    one-more : (dues : List ℕ) (count due : ℕ) → slice_get dues count ≡ Some due → due ≤ ticks →
        ((k due : ℕ) → k < count → slice_get dues k ≡ Some due → due ≤ ticks) →
        (k other : ℕ) → k < count + 1 → slice_get dues k ≡ Some other → other ≤ ticks
    one-more dues count due here low before k other inside there =
        elim (cases_lt k count) [
          | inl first ↦ before k other first there
          | inr last ↦
              let at : k ≡ count = omega arith in
              let found : Some other ≡ Some due = sym there ∙ ap (slice_get dues) at ∙ here in
              let same : other ≡ due = cc in
              omega arith
        ]

    by_kind : (client : Bool) → number ≡ next_place landed client → (item : Item) →
        slice_get landed.items number ≡ Some item → item.due ≤ ticks →
        AreBehind (dues_of landed.items) ticks (landed.frames + (if client then 1 else 0))
        (landed.commands + (if client then 0 else 1))
    by_kind true at item here low = record {
      of_frames = one-more (frame_dues (dues_of landed.items)) landed.frames item.due
          (frame-at landed.items landed.frames number item at here) low behind.of_frames;
      of_commands = λ k due inside there. behind.of_commands k due (omega arith) there;
    }
    by_kind false at item here low = record {
      of_frames = λ k due inside there. behind.of_frames k due (omega arith) there;
      of_commands = one-more (command_dues (dues_of landed.items)) landed.commands item.due
          (command-at landed.items landed.commands number item at here) low behind.of_commands;
    }
