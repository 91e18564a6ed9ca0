-- What a group answers to a submit or a tick: the faults in their order, and what has come of it by the answer.
use Rattle.std.proofs.Common.{◌≡◌, ℕ, ◌+◌, ◌<◌, ◌≤◌, nat_lt, nat_le, not, ◌&&◌, ◌||◌, Bool, true, false, if◌then◌else◌}
use Rattle.std.proofs.Common.{List, [], ◌∷◌, ◌++◌, Option, Some, None, option_map, refl, sym, ◌∙◌, ap, subst, arith}
use Rattle.std.proofs.Common.{is_some, append-nil, le-ltb, lt-ltb, ◌≢◌, ◌⊎◌, ◌↔◌, length, inl, inr}
use Rattle.std.proofs.Math.Logic.{∥∥₁_elim}
use Rattle.std.proofs.Props.{props}
use Rattle.std.proofs.lemmas.Bool.Decides.{nat_tests}
use Rattle.law_model.specs.Common.{Scenario, Told, Container, BackCell, dues_of, used_in, held, container_of, one_more}
use Rattle.law_model.specs.declared.script_types.ItemKind.{ItemKind}
use Rattle.law_model.specs.declared.item_refusals.Refusal.{Refusal}
use Rattle.law_model.specs.declared.item_refusals.Refusal.TheVariants.{Frame as frame_refused}
use Rattle.law_model.specs.declared.item_refusals.Refusal.TheVariants.{Command as command_refused}
use Rattle.terminal_source.specs.source_core.Terminal.{SameKind, Terminal, needed}
use Rattle.terminal_source.specs.source_core.GivenScenario.{SourceStands as HasMade}
use Rattle.law_walk.specs.Common.{is_client, IsPlaced, refused_by, Numbered}
use Rattle.thread_group.specs.declared.group_answers.SubmitFault.{SubmitFault}
use Rattle.thread_group.specs.declared.group_answers.SubmitFault.TheVariants.{NotNext, Early, JournalFull}
use Rattle.thread_group.specs.declared.group_state.GroupState.{GroupState}
use Rattle.terminal_group.specs.Item.{size_of as octet_count}
use Rattle.thread_group.specs.SubmitFaults.{fault_of, has_landed, refusal_told}
use Rattle.thread_group.specs.Journal.{entry_of, fits, journal_scenario}
use Rattle.terminal_group.specs.ReturnInbox.{Inbox, told_taken}
use Rattle.terminal_group.specs.Landed.{due_at, HasPassed}
use Rattle.terminal_group.specs.SourceByCounts.{SameNetwork}
use Rattle.terminal_group.specs.GivenItem.{met_by, with_kind}
use Rattle.thread_group.specs.GroupParts.{setting_in}
use Rattle.thread_group.specs.Group.{parts_of, GroupStands, SameScript, SameRings, items_of, frames_of, commands_of}
use Rattle.thread_group.specs.Group.{journal_of, slots_of, bytes_of, refusals_of, taken_of, source_of, ticks_of}
use Rattle.thread_group.specs.Group.{next_of, refusal_of, is_number, fault_met, fault_in, counted_by, HasCounted}
use Rattle.thread_group.specs.Group.{with_landed, lost_of, lines_of, lag_of, size_of, statuses_of, SameLanded}
use Rattle.thread_group.specs.Group.{total_of, inbox_of, held_of, replay_of, is_ticked, IsFreeToTick, AreMoved}
use Rattle.thread_group.specs.Group.{IsMissing, ArePushedOf}
use Rattle.thread_group.specs.GroupCalls.{Submits, Ticks, Comes, Looks, Makes}
use Rattle.thread_group.proofs.JournalEntryAndScenarioLaws.{met-journal}
use Rattle.terminal_group.proofs.RefusalOrderAndNextItemLaws.{next-due}
use mathlib.Core.List.{IsPrefix}
use Rattle.law_model.specs.declared.script_types.Item.{Item}
use Rattle.std.specs.Global.{Vec}
use Rattle.thread_rings.specs.EndsOfRing.{OutEnd, InEnd, out_passed, in_passed, in_misses, SameIn}
use Rattle.thread_rings.proofs.SameRingEndsLaws.{out-then}
use Rattle.std.proofs.lemmas.Option.{slice_get_within}
use Rattle.law_model.proofs.ListLaws.{slice_get-inside}
use Rattle.thread_group.specs.declared.group_answers.TickAnswer.{TickAnswer}
use Rattle.thread_group.specs.declared.group_answers.TickAnswer.TheVariants.{Ticked, Held, TxFull, BackMissing, Done}
use Rattle.thread_group.specs.GroupRings.{SameOuts, HasLooked, HaveLooked, AreFree, IsFirstFull, IsDrained}
use Rattle.thread_group.proofs.GroupPartsAfterStepLaws.{empty-come}

-- ---- What contracts say of a group, by its parts.
pub stands-of : (g : GroupState) → GroupStands g
stands-of g = record {
  legal = g.keeps.legal;
  made = g.keeps.made;
  sent = g.keeps.sent;
  due = g.keeps.due;
  refused =
      g.keeps.refused;
  ahead = g.keeps.ahead;
  behind = g.keeps.behind;
}

pub script-same : (g : GroupState) → SameScript g g
script-same g = record { lines = refl; lag = refl; size = refl; statuses = refl; total = refl; lost = refl; items = refl }

-- ---- why an item isn't accepted, by the tests in their order
abbrev pub fault_by : Option ℕ → ℕ → ℕ → ℕ → Option SubmitFault → Option SubmitFault
fault_by next number ticks due rest =
    if not (is_number next number) then Some (NotNext next)
    else if nat_lt ticks due then Some (Early ticks)
    else rest

same-number : (number : ℕ) → is_number (Some number) number ≡ true
same-number number = grind (arith, nat_tests)

other-number : (next : Option ℕ) (number : ℕ) → (next ≡ Some number → ⊥) → is_number next number ≡ false
other-number None number other = refl
other-number (Some n) number other = grind (arith, nat_tests, (λ (e : n ≡ number). other (ap Some e)))

fault-next : (next : Option ℕ) (number ticks due : ℕ) (rest : Option SubmitFault) → (next ≡ Some number → ⊥) →
    Some (NotNext next) ≡ fault_by next number ticks due rest
fault-next next number ticks due rest other = rw (other-number next number other) refl

fault-early : (next : Option ℕ) (number ticks due : ℕ) (rest : Option SubmitFault) → next ≡ Some number → ticks < due →
    Some (Early ticks) ≡ fault_by next number ticks due rest
fault-early next number ticks due rest is low =
    subst (λ n. Some (Early ticks) ≡ fault_by n number ticks due rest) (sym is)
    (rw (same-number number, lt-ltb ticks due low) refl)

fault-rest : (next : Option ℕ) (number ticks due : ℕ) (rest : Option SubmitFault) → next ≡ Some number → due ≤ ticks →
    rest ≡ fault_by next number ticks due rest
fault-rest next number ticks due rest is low =
    subst (λ n. rest ≡ fault_by n number ticks due rest) (sym is)
    (rw (same-number number, le-ltb ticks due low) refl)

-- the source is asked first, and then the journal
source-first : (why : Option Refusal) (fits : Bool) (slots bytes : ℕ) → (why ≡ None → fits ≡ true) →
    option_map fault_of why ≡ fault_met why fits slots bytes
source-first (Some why) fits slots bytes room = refl
source-first None true slots bytes room = refl
source-first None false slots bytes room = absurd (let e : false ≡ true = room refl in cc)

journal-last : (why : Option Refusal) (fits : Bool) (slots bytes : ℕ) → why ≡ None → fits ≡ false →
    Some (JournalFull slots bytes) ≡ fault_met why fits slots bytes
journal-last (Some why) fits slots bytes none full = absurd cc
journal-last None true slots bytes none full = absurd cc
journal-last None false slots bytes none full = refl

-- ---- what has landed is counted
pub counted-frame : (client : Bool) → (if client then 1 else 0) ≡ counted_by client true
counted-frame true = refl
counted-frame false = refl

pub counted-command : (client : Bool) → (if client then 0 else 1) ≡ counted_by (not client) true
counted-command true = refl
counted-command false = refl

counted-none : (client : Bool) → counted_by client false ≡ 0
counted-none true = refl
counted-none false = refl

-- a fault by which nothing has landed
pub submits-none : (g : GroupState) (number : ℕ) (kind : ItemKind) (fault : SubmitFault) →
    has_landed (Some fault) ≡ false → Some fault ≡ fault_in g number kind → Submits g g number kind (Some fault)
submits-none g number kind fault none is = record {
  fault = is;
  unchanged = λ e. refl;
  when = λ landed. absurd (let e : true ≡ false = sym landed ∙ none in cc);
  landed = subst (HasCounted g g kind) (sym none) (record {
    frames = (let e = counted-none (is_client kind) in omega arith);
    commands = (let e = counted-none (not (is_client kind)) in omega arith);
  });
  journal = sym (append-nil _);
  room = record { slots = omega arith; bytes = omega arith };
  refusals = λ landed. absurd (let e : true ≡ false = sym landed ∙ none in cc);
  script = script-same g;
  rings = record { ticks = refl; inbox = refl; tx = refl; back = refl };
  made = λ scenario cells has. subst (λ b. HasMade (g.source.core) (with_landed scenario (ticks_of g) kind b) cells)
      (sym none) has;
  stands = stands-of g;
}

-- what the source says of an item is what the session of the journal says
pub refused-is : (g : GroupState) (kind : ItemKind) → met_by (source_of g) kind ≡ refusal_of g kind
refused-is g kind = ∥∥₁_elim g.keeps.made (hlevel props)
    (λ made. met-journal (source_of g) (setting_in (parts_of g)) (journal_of g) (taken_of g) kind made)

-- what is known of an item that lands
pub record Asks (g : GroupState) (number : ℕ) (kind : ItemKind) : Type 0 where
  pub next : next_of g kind ≡ Some number
  pub due : due_at (items_of g) number ≤ ticks_of g
  pub room : refusal_of g kind ≡ None → fits (parts_of g).journal kind ≡ true

-- it is due now
pub asked-when : (g : GroupState) (number : ℕ) (kind : ItemKind) → Asks g number kind →
    due_at (items_of g) number ≡ ticks_of g
asked-when g number kind asks =
    let low = asks.due in
    let late = next-due (parts_of g).landed (is_client kind) number (ticks_of g) asks.next g.keeps.ahead in
    omega arith

abbrev pub met_in : GroupState → ItemKind → Option SubmitFault
met_in g kind = fault_met (refusal_of g kind) (fits (parts_of g).journal kind) (slots_of g) (bytes_of g)

fault-asked : (g : GroupState) (number : ℕ) (kind : ItemKind) → Asks g number kind →
    option_map fault_of (refusal_of g kind) ≡ fault_in g number kind
fault-asked g number kind asks =
    source-first (refusal_of g kind) (fits (parts_of g).journal kind) (slots_of g) (bytes_of g) asks.room
    ∙ fault-rest (next_of g kind) number (ticks_of g) (due_at (items_of g) number) (met_in g kind) asks.next asks.due

pub asked-next : (g : GroupState) (number : ℕ) (kind : ItemKind) → (next_of g kind ≡ Some number → ⊥) →
    Some (NotNext (next_of g kind)) ≡ fault_in g number kind
asked-next g number kind other =
    fault-next (next_of g kind) number (ticks_of g) (due_at (items_of g) number) (met_in g kind) other

pub asked-early : (g : GroupState) (number : ℕ) (kind : ItemKind) → next_of g kind ≡ Some number →
    ticks_of g < due_at (items_of g) number → Some (Early (ticks_of g)) ≡ fault_in g number kind
asked-early g number kind next low =
    fault-early (next_of g kind) number (ticks_of g) (due_at (items_of g) number) (met_in g kind) next low

pub asked-full : (g : GroupState) (number : ℕ) (kind : ItemKind) → next_of g kind ≡ Some number →
    due_at (items_of g) number ≤ ticks_of g →
    (is_some (refusal_of g kind) || fits (parts_of g).journal kind) ≡ false →
    Some (JournalFull (slots_of g) (bytes_of g)) ≡ fault_in g number kind
asked-full g number kind next low full =
    let (none, over) = none-fits (refusal_of g kind) (fits (parts_of g).journal kind) full in
    journal-last (refusal_of g kind) (fits (parts_of g).journal kind) (slots_of g) (bytes_of g) none over
    ∙ fault-rest (next_of g kind) number (ticks_of g) (due_at (items_of g) number) (met_in g kind) next low
  where
    none-fits : (why : Option Refusal) (fits : Bool) → (is_some why || fits) ≡ false → (why ≡ None) × (fits ≡ false)
    none-fits None fits e = (refl, e)
    none-fits (Some why) fits e = absurd cc

-- an item has room that the source takes
pub room-found : (why : Option Refusal) (fits : Bool) → (is_some why || fits) ≡ true → why ≡ None → fits ≡ true
room-found None fits e none = e
room-found (Some why) fits e none = absurd cc

pub room-there : (slots bytes size : ℕ) → (nat_lt 0 slots && nat_le size bytes) ≡ true → (0 < slots) × (size ≤ bytes)
room-there slots bytes size e = (grind (arith, nat_tests, e), grind (arith, nat_tests, e))

-- what an item that has landed leaves
pub record Lands (a b : GroupState) (number : ℕ) (kind : ItemKind) (why : Option Refusal) : Type 0 where
  pub is : why ≡ refusal_of a kind
  pub frames : frames_of b ≡ frames_of a + (if is_client kind then 1 else 0)
  pub commands : commands_of b ≡ commands_of a + (if is_client kind then 0 else 1)
  pub refusals : IsPlaced number (refused_by number why) (refusals_of a) (refusals_of b)
  pub script : SameScript a b
  pub rings : SameRings a b
  pub made : (scenario : Scenario) (cells : List (Option Told)) → HasMade (source_of a) scenario cells →
      HasMade (source_of b) (with_kind scenario (ticks_of a) kind) cells

-- its source has landed it, and the rest but its journal is as it was
pub lands-in : (a b : GroupState) (number : ℕ) (kind : ItemKind) (answer why : Option Refusal) (refused : Bool) →
    answer ≡ why → answer ≡ met_by (source_of a) kind → SameKind (source_of b) (source_of a) →
    HasPassed a.landing b.landing (is_client kind) refused →
    IsPlaced number (refused_by number answer) (refusals_of a) (refusals_of b) → SameNetwork a.source b.source →
    ticks_of b ≡ ticks_of a → b.tx ≡ a.tx → b.back ≡ a.back →
    ((scenario : Scenario) (cells : List (Option Told)) → HasMade (source_of a) scenario cells →
    HasMade (source_of b) (with_kind scenario (ticks_of a) kind) cells) → Lands a b number kind why
lands-in a b number kind answer why refused is met kept passed placed rest ticks tx back made = record {
  is = sym is ∙ met ∙ refused-is a kind;
  frames = passed.frames;
  commands = passed.commands;
  refusals = subst (λ (w : Option Refusal). IsPlaced number (refused_by number w) (refusals_of a) (refusals_of b)) is
      placed;
  script = record {
    lines = kept.lines;
    lag = kept.lag;
    size = kept.size;
    statuses = kept.statuses;
    total = rest.total;
    lost = ap (λ (i : Inbox). i.lost) rest.inbox;
    items = passed.items;
  };
  rings = record { ticks = ticks; inbox = ap (λ (i : Inbox). i.cells) rest.inbox; tx = tx; back = back };
  made = made;
}

counted : (a b : GroupState) (number : ℕ) (kind : ItemKind) (why : Option Refusal) → Lands a b number kind why →
    HasCounted a b kind true
counted a b number kind why lands = record {
  frames = lands.frames ∙ ap (λ n. frames_of a + n) (counted-frame (is_client kind));
  commands = lands.commands ∙ ap (λ n. commands_of a + n) (counted-command (is_client kind));
}

pub submits-accepted : (a b : GroupState) (number : ℕ) (kind : ItemKind) → Asks a number kind →
    Lands a b number kind None →
    journal_of b ≡ journal_of a ++ entry_of number (ticks_of a) kind ∷ [] → slots_of b + 1 ≡ slots_of a →
    bytes_of b + octet_count kind ≡ bytes_of a → Submits a b number kind None
submits-accepted a b number kind asks lands journal slots bytes = record {
  fault = ap (option_map fault_of) lands.is ∙ fault-asked a number kind asks;
  unchanged = λ e. absurd cc;
  when = λ landed. asked-when a number kind asks;
  landed = counted a b number kind None lands;
  journal = journal;
  room = record { slots = slots; bytes = bytes };
  refusals = λ landed. lands.refusals;
  script = lands.script;
  rings = lands.rings;
  made = lands.made;
  stands = stands-of b;
}

landed-fault : (why : Refusal) → has_landed (Some (fault_of why)) ≡ true
landed-fault (frame_refused fault) = refl
landed-fault (command_refused fault) = refl

told-fault : (why : Refusal) → refusal_told (Some (fault_of why)) ≡ Some why
told-fault (frame_refused fault) = refl
told-fault (command_refused fault) = refl

pub submits-refused : (a b : GroupState) (number : ℕ) (kind : ItemKind) (why : Refusal) (fault : SubmitFault) →
    fault ≡ fault_of why → Asks a number kind → Lands a b number kind (Some why) →
    journal_of b ≡ journal_of a → slots_of b ≡ slots_of a → bytes_of b ≡ bytes_of a →
    Submits a b number kind (Some fault)
submits-refused a b number kind why fault is asks lands journal slots bytes =
    let yes : has_landed (Some fault) ≡ true = ap (λ (f : SubmitFault). has_landed (Some f)) is ∙ landed-fault why in
    let told : Some why ≡ refusal_told (Some fault) =
    sym (ap (λ (f : SubmitFault). refusal_told (Some f)) is ∙ told-fault why) in
    record {
      fault = ap Some is ∙ ap (option_map fault_of) lands.is ∙ fault-asked a number kind asks;
      unchanged = λ e. absurd (let f : true ≡ false = sym yes ∙ e in cc);
      when = λ landed. asked-when a number kind asks;
      landed = subst (HasCounted a b kind) (sym yes) (counted a b number kind (Some why) lands);
      journal = journal ∙ sym (append-nil (journal_of a));
      room = record { slots = omega arith; bytes = omega arith };
      refusals = λ landed. subst (λ (w : Option Refusal). IsPlaced number (refused_by number w) (refusals_of a)
          (refusals_of b)) told lands.refusals;
      script = lands.script;
      rings = lands.rings;
      made = λ scenario cells has. subst (λ b_. HasMade (source_of b) (with_landed scenario (ticks_of a) kind b_) cells)
          (sym yes) (lands.made scenario cells has);
      stands = stands-of b;
    }

-- ---- What came of a tick, by its answer.
-- ---- one part of a tick after the other
pub script-then : (a b d : GroupState) → SameScript a b → SameScript b d → SameScript a d
script-then a b d s t = record {
  lines = t.lines ∙ s.lines;
  lag = t.lag ∙ s.lag;
  size = t.size ∙ s.size;
  statuses = t.statuses ∙ s.statuses;
  total = t.total
      ∙ s.total;
  lost = t.lost ∙ s.lost;
  items = t.items ∙ s.items;
}

pub landed-then : (a b d : GroupState) → SameLanded a b → SameLanded b d → SameLanded a d
landed-then a b d s t = record {
  frames = t.frames ∙ s.frames;
  commands = t.commands ∙ s.commands;
  journal = t.journal
      ∙ s.journal;
  slots = t.slots ∙ s.slots;
  bytes = t.bytes ∙ s.bytes;
  refusals = t.refusals ∙ s.refusals;
}

-- nothing but return cells and looks
pub record Rests (a b : GroupState) : Type 0 where
  pub script : SameScript a b
  pub landed : SameLanded a b
  pub source : source_of b ≡ source_of a
  pub looked : HaveLooked a.tx.items b.tx.items
  pub returns : SameIn a.back b.back
  pub received : IsPrefix (in_passed a.back) (in_passed b.back)
  pub moved : AreMoved a b
  pub taken : taken_of b ≡ taken_of a

same-looked : (ends : List (OutEnd Container)) → HaveLooked ends ends
same-looked ends = record {
  count = refl;
  each = λ m old new was is.
      let e : Some old ≡ Some new = sym was ∙ is in
      let same : old ≡ new = cc in
      subst (HasLooked old) same (record
      { same = (refl, refl, refl); passed = refl; free = omega arith; misses = inl refl });
}

pub rests-comes : (a b : GroupState) → Comes a b → Rests a b
rests-comes a b comes = record {
  script = comes.script;
  landed = comes.landed;
  source = comes.source;
  looked = subst (λ tx. HaveLooked a.tx.items tx) (sym (ap (λ (v : Vec (OutEnd Container)). v.items) comes.tx))
      (same-looked a.tx.items);
  returns = comes.returns;
  received = comes.received;
  moved = comes.moved;
  taken = comes.taken;
}

-- by the end of the return ring alone
moved-on : (a b d : GroupState) → d.back ≡ b.back → AreMoved a b → AreMoved a d
moved-on a b d same moved =
    subst (λ (end_ : InEnd BackCell). IsDrained a.back end_ ⊎
    (length (in_passed end_) ≡ used_in (lag_of a) (ticks_of a) + (lag_of a + 1))) (sym same) moved

pub rests-looks : (a b d : GroupState) → Comes a b → Looks b d → Rests a d
rests-looks a b d comes looks = record {
  script = script-then a b d comes.script looks.script;
  landed = landed-then a b d comes.landed looks.landed;
  source = looks.source ∙ comes.source;
  looked = subst (λ tx. HaveLooked tx d.tx.items) (ap (λ (v : Vec (OutEnd Container)). v.items) comes.tx) looks.looked;
  returns = subst (SameIn a.back) (sym looks.back) comes.returns;
  received = subst (λ end_. IsPrefix (in_passed a.back) (in_passed end_)) (sym looks.back) comes.received;
  moved = moved-on a b d looks.back comes.moved;
  taken = taken-looks b d looks ∙ comes.taken;
}
  where
    taken-looks : (b d : GroupState) → Looks b d → taken_of d ≡ taken_of b
    taken-looks b d looks =
        ap (λ (t : Terminal). told_taken (lost_of d) t.lag t.ticks (in_passed d.back)) looks.source
        ∙ ap (λ l. told_taken l (source_of b).lag (source_of b).ticks (in_passed d.back)) looks.script.lost
        ∙ ap (λ end_. told_taken (lost_of b) (source_of b).lag (source_of b).ticks (in_passed end_)) looks.back

-- the session of the journal is the same
same-replay : (a d : GroupState) → Rests a d → replay_of d ≡ replay_of a
same-replay a d rests =
    let of : ℕ → ℕ → ℕ → ℕ → ℕ → List (ℕ × ℕ) → List Numbered → Scenario =
    λ lines lag ticks size statuses lost entries. journal_scenario (record {
      lines = lines;
      lag = lag;
      ticks = ticks;
      size = size;
      statuses = statuses;
      lost = lost;
    }) entries in
    ap (λ n. of n (lag_of d) (total_of d) (size_of d) (statuses_of d) (lost_of d) (journal_of d)) rests.script.lines
    ∙ ap (λ n. of (lines_of a) n (total_of d) (size_of d) (statuses_of d) (lost_of d) (journal_of d)) rests.script.lag
    ∙ ap (λ n. of (lines_of a) (lag_of a) n (size_of d) (statuses_of d) (lost_of d) (journal_of d)) rests.script.total
    ∙ ap (λ n. of (lines_of a) (lag_of a) (total_of a) n (statuses_of d) (lost_of d) (journal_of d)) rests.script.size
    ∙ ap (λ n. of (lines_of a) (lag_of a) (total_of a) (size_of a) n (lost_of d) (journal_of d)) rests.script.statuses
    ∙ ap (λ l. of (lines_of a) (lag_of a) (total_of a) (size_of a) (statuses_of a) l (journal_of d)) rests.script.lost
    ∙ ap (of (lines_of a) (lag_of a) (total_of a) (size_of a) (statuses_of a) (lost_of a)) rests.landed.journal

-- ---- why nothing was made
record Causes (a b : GroupState) (answer : TickAnswer) : Type 0 where
  done : (answer ≡ Done) ↔ (total_of a ≤ ticks_of a)
  held : (item : ℕ) → (answer ≡ Held item) ↔ ((ticks_of a < total_of a) × (held_of a ≡ Some item))
  goes : answer ≢ Done → ((item : ℕ) → answer ≢ Held item) → IsFreeToTick a
  full : (line : ℕ) → answer ≡ TxFull line → IsFirstFull a.tx.items b.tx.items line
  missing : (packet : ℕ) → answer ≡ BackMissing packet → IsMissing packet a b

still : (a b : GroupState) (answer : TickAnswer) → (answer ≡ Ticked → ⊥) → is_ticked answer ≡ false → Rests a b →
    Causes a b answer → Ticks a b answer
still a b answer other none rests causes = record {
  done = causes.done;
  held = causes.held;
  goes = causes.goes;
  full = causes.full;
  missing = causes.missing;
  ticks = ap (λ (t : Terminal). t.ticks) rests.source ∙ (let e : ticks_of a ≡ ticks_of a + 0 = omega arith in e)
      ∙ ap (λ b_. ticks_of a + (if b_ then 1 else 0)) (sym none);
  pushed = λ e. absurd (other e);
  rest = λ e m old new was is. (rests.looked.each m old new was is).passed;
  source = λ e. rests.source;
  script = rests.script;
  landed = rests.landed;
  sends = record { count = rests.looked.count; each = λ m old new was is. (rests.looked.each m old new was is).same };
  returns = rests.returns;
  received = rests.received;
  moved = rests.moved;
  made = λ scenario has. subst (λ (t : Terminal). HasMade t scenario (taken_of b)) (sym rests.source)
      (subst (HasMade (source_of a) scenario) (sym rests.taken) has);
  alike = λ scenario e. absurd (other e);
  stands = stands-of b;
}

pub ticks-done : (a b : GroupState) → Comes a b → total_of b ≤ ticks_of b → Ticks a b Done
ticks-done a b comes low =
    let total = comes.script.total in
    let ticks = ap (λ (t : Terminal). t.ticks) comes.source in
    let past : total_of a ≤ ticks_of a = omega arith in
    still a b Done (λ e. absurd cc) refl (rests-comes a b comes) (record {
      done = (λ e. past, λ h. refl);
      held = λ item. (λ e. absurd cc, λ h. absurd (let left = h.0 in omega arith));
      goes = λ other none. absurd (other refl);
      full = λ line e. absurd cc;
      missing = λ packet e. absurd cc;
    })

-- what is held of a group is held of it later
held-same : (a b : GroupState) → SameScript a b → SameLanded a b → source_of b ≡ source_of a → held_of b ≡ held_of a
held-same a b script landed source =
    ap (λ (t : Terminal). held t.ticks (frames_of b) (commands_of b) 0 (dues_of (items_of b))) source
    ∙ ap (λ n. held (ticks_of a) n (commands_of b) 0 (dues_of (items_of b))) landed.frames
    ∙ ap (λ n. held (ticks_of a) (frames_of a) n 0 (dues_of (items_of b))) landed.commands
    ∙ ap (λ (l : List Item). held (ticks_of a) (frames_of a) (commands_of a) 0 (dues_of l)) script.items

pub ticks-held : (a b : GroupState) (i : ℕ) → Comes a b → ticks_of b < total_of b → Some i ≡ held_of b →
    Ticks a b (Held i)
ticks-held a b i comes low is =
    let total = comes.script.total in
    let ticks = ap (λ (t : Terminal). t.ticks) comes.source in
    let left : ticks_of a < total_of a = omega arith in
    let found : held_of a ≡ Some i = sym (is ∙ held-same a b comes.script comes.landed comes.source) in
    still a b (Held i) (λ e. absurd cc) refl (rests-comes a b comes) (record {
      done = (λ e. absurd cc, λ h. absurd (omega arith));
      held = λ item. (
        λ e. (left, found ∙ ap Some (let same : i ≡ item = cc in same)),
        λ h. (let two = h.1 in let e : Some i ≡ Some item = sym found ∙ two in
            ap Held (let same : i ≡ item = cc in same)),
      );
      goes = λ other none. absurd (none i refl);
      full = λ line e. absurd cc;
      missing = λ packet e. absurd cc;
    })

-- ---- ticks are left, and no item holds them
pub free-before : (a b : GroupState) → Comes a b → IsFreeToTick b → IsFreeToTick a
free-before a b comes free =
    let total = comes.script.total in
    let ticks = ap (λ (t : Terminal). t.ticks) comes.source in
    let left = free.left in
    record { left = omega arith; held = sym (held-same a b comes.script comes.landed comes.source) ∙ free.held }

pub free-looks : (b d : GroupState) → Looks b d → IsFreeToTick b → IsFreeToTick d
free-looks b d looks free =
    let total = looks.script.total in
    let ticks = ap (λ (t : Terminal). t.ticks) looks.source in
    let left = free.left in
    record { left = omega arith; held = held-same b d looks.script looks.landed looks.source ∙ free.held }

not-done : (a : GroupState) → IsFreeToTick a → total_of a ≤ ticks_of a → ⊥
not-done a free low = let left = free.left in omega arith

not-held : (a : GroupState) (item : ℕ) → IsFreeToTick a → held_of a ≡ Some item → ⊥
not-held a item free is = let e : None ≡ Some item = sym free.held ∙ is in cc

pub ticks-full : (a b d : GroupState) (line : ℕ) → Comes a b → Looks b d → IsFreeToTick a →
    IsFirstFull b.tx.items d.tx.items line → Ticks a d (TxFull line)
ticks-full a b d line comes looks free full =
    let first : IsFirstFull a.tx.items d.tx.items line =
    subst (λ tx. IsFirstFull tx d.tx.items line) (ap (λ (v : Vec (OutEnd Container)). v.items) comes.tx) full
    in
    still a d (TxFull line) (λ e. absurd cc) refl (rests-looks a b d comes looks) (record {
      done = (λ e. absurd cc, λ low. absurd (not-done a free low));
      held = λ item. (λ e. absurd cc, λ h. absurd (not-held a item free h.1));
      goes = λ other none. free;
      full = λ other e. subst (IsFirstFull a.tx.items d.tx.items) (let same : line ≡ other = cc in same) first;
      missing = λ packet e. absurd cc;
    })

-- nothing is in the inbox though all were moved: the look missed
look-missed : (a d : GroupState) → source_of d ≡ source_of a → AreMoved a d → inbox_of d ≡ [] →
    in_misses d.back ≡ one_more (in_misses a.back)
look-missed a d same (inl drained) none = drained.missed
look-missed a d same (inr full) none =
    absurd (empty-come (parts_of d) _ d.keeps none
    (full ∙ sym (ap (λ (t : Terminal). used_in t.lag t.ticks + (t.lag + 1)) same)))

pub ticks-missing : (a b d : GroupState) (packet : ℕ) → Comes a b → Looks b d → IsFreeToTick a → AreFree d.tx.items →
    Some packet ≡ needed (source_of d) → inbox_of d ≡ [] → Ticks a d (BackMissing packet)
ticks-missing a b d packet comes looks free slots needs none =
    let rests = rests-looks a b d comes looks in
    let is : IsMissing packet a d = record {
      room = slots;
      needs = sym (needs ∙ ap needed rests.source);
      none = none;
      missed = look-missed a d rests.source rests.moved none;
    } in
    still a d (BackMissing packet) (λ e. absurd cc) refl rests (record {
      done = (λ e. absurd cc, λ low. absurd (not-done a free low));
      held = λ item. (λ e. absurd cc, λ h. absurd (not-held a item free h.1));
      goes = λ no_ none_. free;
      full = λ line e. absurd cc;
      missing = λ other e. subst (λ n. IsMissing n a d) (let same : packet ≡ other = cc in same) is;
    })

-- ---- a frame was made
pub ticks-ticked : (a b d g : GroupState) → Comes a b → Looks b d → Makes d g → IsFreeToTick a → Ticks a g Ticked
ticks-ticked a b d g comes looks makes free =
    let rests = rests-looks a b d comes looks in
    let same = script-then a d g rests.script makes.script in
    let ticks = ap (λ (t : Terminal). t.ticks) rests.source in
    let has : (scenario : Scenario) → HasMade (source_of a) scenario (taken_of a) →
    HasMade (source_of d) scenario (taken_of d) =
    λ scenario made. subst (λ (t : Terminal). HasMade t scenario (taken_of d)) (sym rests.source)
    (subst (HasMade (source_of a) scenario) (sym rests.taken) made) in
    record {
      done = (λ e. absurd cc, λ low. absurd (not-done a free low));
      held = λ item. (λ e. absurd cc, λ h. absurd (not-held a item free h.1));
      goes = λ other none. free;
      full = λ line e. absurd cc;
      missing = λ packet e. absurd cc;
      ticks = makes.ticks ∙ ap (λ n. n + 1) ticks;
      pushed = λ e. after (replay_of a) rests ticks (replay-push rests);
      rest = λ other. absurd (other refl);
      source = λ other. absurd (other refl);
      script = same;
      landed = landed-then a d g rests.landed makes.landed;
      sends = ends rests;
      returns = subst (SameIn a.back) (sym makes.back) rests.returns;
      received = subst (λ end_. IsPrefix (in_passed a.back) (in_passed end_)) (sym makes.back) rests.received;
      moved = moved-on a d g makes.back rests.moved;
      made = λ scenario made. makes.made scenario (has scenario made);
      alike = λ scenario e made. after scenario rests ticks (makes.pushed scenario (has scenario made));
      stands = stands-of g;
    }
  where
    after : (scenario : Scenario) → Rests a d → ticks_of d ≡ ticks_of a → ArePushedOf scenario d g →
        ArePushedOf scenario a g
    after scenario rests ticks pushed m old new was is =
        let inside = slice_get_within a.tx.items m old was in
        let count = rests.looked.count in
        let (mid, there) = slice_get-inside d.tx.items m (omega arith) in
        pushed m mid new there is
        ∙ ap (λ l. l ++ container_of scenario (taken_of g) m (ticks_of d) ∷ [])
        (rests.looked.each m old mid was there).passed
        ∙ ap (λ n. out_passed old ++ container_of scenario (taken_of g) m n ∷ []) ticks

    replay-push : Rests a d → ArePushedOf (replay_of a) d g
    replay-push rests = subst (λ scenario. ArePushedOf scenario d g) (same-replay a d rests) makes.own

    ends : Rests a d → SameOuts a.tx.items g.tx.items
    ends rests = record {
      count = makes.sends.count ∙ rests.looked.count;
      each = λ m old new was is.
          let inside = slice_get_within a.tx.items m old was in
          let count = rests.looked.count in
          let (mid, there) = slice_get-inside d.tx.items m (omega arith) in
          out-then old mid new (rests.looked.each m old mid was there).same (makes.sends.each m mid new there is);
    }
