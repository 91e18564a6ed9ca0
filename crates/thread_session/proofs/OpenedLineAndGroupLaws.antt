-- Lines, group and sink as they are opened: a group begins bound to its script, with room for all items.
use Rattle.std.proofs.Common.{◌≡◌, inl, inr, ℕ, zero, suc, ◌+◌, ◌*◌, List, [], ◌∷◌, ◌++◌, length, slice_get, Some, None}
use Rattle.std.proofs.Common.{refl, sym, ◌∙◌, ap, subst, arith, length-append, IfOk, Result, Ok, Err, ◌≤◌, true, false}
use Rattle.std.proofs.Common.{if◌then◌else◌, take, drop, ◌^◌, ◌<◌, slice_index_or, sum_by, All, append-nil, ◌==◌}
use Rattle.std.proofs.Common.{Option, Bool, not, ◌↔◌}
use Rattle.law_model.proofs.ListLaws.{get-last}
use Rattle.law_model.specs.Common.{Container, Cell, IsValid, BackCell, leg_of, Scenario, scenario_of, offers_of}
use Rattle.law_model.specs.Common.{orders_of, used_in, containers_of, DueFrame, offer_of, IsKind, Leg, longest_offer}
use Rattle.law_model.specs.declared.window_types.Window.{Window}
use Rattle.law_model.specs.declared.script_types.Config.{Config}
use Rattle.member_path.specs.path_delay.CallsOnDelayedLine.{Line, opened, DelayStands}
use Rattle.thread_rings.specs.EndsOfRing.{OutEnd, InEnd, out_passed, in_passed, in_size, AreEnds, SameOut, SameIn}
use Rattle.thread_rings.specs.WorkerLineCalls.{IsOpened}
use Rattle.thread_rings.specs.declared.line_worker.LineWorker.{LineWorker}
use Rattle.thread_session.specs.session_parts.LinesOpened.{IsLineOf, IsLineOpened, AreOpened, slots_of}
use Rattle.std.specs.Global.{Vec}
use Rattle.thread_sink.specs.declared.sink_worker.SinkWorker.{SinkWorker}
use Rattle.thread_sink.specs.WorkerOfSink.{SinkWorkerStands as SinkStands, lines_of as sink_lines}
use Rattle.thread_sink.specs.WorkerOfSink.{size_of as sink_size, options_of as sink_options, taken_of as rows_taken}
use Rattle.thread_sink.specs.WorkerOfSink.{ticks_of as rows_of, has_failed}
use Rattle.std.specs.List.Sorted.{IsNonDecreasingBy}
use Rattle.law_model.specs.declared.script_types.Item.{Item}
use Rattle.law_model.specs.declared.script_types.Script.{Script}
use Rattle.thread_session.specs.session_run.SessionOfScript.{IsSinkOf}
use Rattle.std.proofs.lemmas.Option.{same_Some}
use Rattle.terminal_source.specs.source_core.GivenScenario.{IsFresh, SourceStands as HasMade}
use Rattle.law_walk.specs.Common.{Numbered, is_client, landed_from, landed_items, landed_scenario}
use Rattle.thread_group.specs.declared.group_state.GroupState.{GroupState}
use Rattle.terminal_group.specs.ReturnInbox.{told_from}
use Rattle.thread_group.specs.Journal.{of_client, of_operator, fits}
use Rattle.thread_group.specs.GroupRings.{SameOuts, SameIns, AreUnused}
use Rattle.thread_group.specs.GroupParts.{ArePast}
use Rattle.thread_group.specs.Group.{IsOf, lines_of, lag_of, size_of, statuses_of, lost_of, ticks_of, frames_of}
use Rattle.thread_group.specs.Group.{commands_of, journal_of, slots_of as group_slots_of, bytes_of, refusals_of}
use Rattle.thread_group.specs.Group.{taken_of, source_of, HasCounted, next_of, items_of, refusal_of, fault_met}
use Rattle.thread_group.specs.Group.{parts_of, is_number}
use Rattle.thread_group.specs.GroupOfLeg.{counts_of, refusals_by, accepted_frames_by, accepted_commands_by, octets_in}
use Rattle.thread_group.specs.GroupOfLeg.{AreItemsOf, HasJournalRoom, HasLandedOf, IsBound}
use Rattle.thread_group.proofs.JournalEntryAndScenarioLaws.{all-kinds}
use Rattle.std.proofs.lemmas.List.Sums.{sum_by-cons, sum_by-append, sum_by-le}
use Rattle.law_model.specs.declared.script_types.ItemKind.{ItemKind}
use Rattle.law_model.specs.declared.script_types.ItemKind.TheVariants.{Frame, Add, Remove}
use Rattle.std.proofs.lemmas.Bool.{cases_Bool, eqb-true, eq-eqb, le-ltb}
use Rattle.terminal_group.specs.Landed.{due_at, there_at}
use Rattle.terminal_group.specs.ItemPlaces.{is_frame, is_command, place_of}
use Rattle.thread_group.specs.declared.group_answers.SubmitFault.{SubmitFault}
use Rattle.law_model.specs.declared.item_refusals.Refusal.{Refusal}
use Rattle.law_model.specs.declared.item_refusals.Refusal.TheVariants.{Frame as frame_refused, Command as command_refused}
use Rattle.thread_group.specs.SubmitFaults.{has_landed, is_full}
use Rattle.thread_group.specs.GroupCalls.{Submits, Ticks}
use Rattle.thread_group.specs.Group.{held_of, IsFreeToTick, next_brought, counted_by}
use Rattle.thread_group.specs.declared.group_answers.TickAnswer.{TickAnswer}
use Rattle.thread_group.specs.declared.group_answers.TickAnswer.TheVariants.{Ticked, Held, TxFull, BackMissing, Done}
use Rattle.terminal_source.specs.source_core.Terminal.{Terminal}
use Rattle.law_model.specs.Common.{dues_of, held}
use Rattle.thread_group.proofs.SubmitAndTickAnswerLaws.{fault_by}
use Rattle.thread_session.specs.session_run.Turns.{HasLanded, HasTried, MayLand}

-- ---- One line more is opened.
beyond : {X : Type 0} (xs : List X) (m n : ℕ) (y : X) → slice_get xs m ≡ Some y → m ≡ n → length xs ≡ n → ⊥
beyond [] m n y there at size = absurd (let h : None ≡ Some y = there in cc)
beyond (x ∷ xs) zero n y there at size = omega (arith, at, size)
beyond (x ∷ xs) (suc m) zero y there at size = omega (arith, at)
beyond (x ∷ xs) (suc m) (suc n) y there at size = beyond xs m n y there (omega (arith, at)) (omega (arith, size))

pub opened-own : (line : Line) (delay total : ℕ) (windows : List Window) → DelayStands line (opened delay windows total) →
    IsOpened line
opened-own line delay total windows stands =
    let same : opened line.delay line.windows line.total ≡ opened delay windows total =
    rw (stands.delay, stands.windows, stands.total) refl in
    subst (DelayStands line) (sym same) stands

pub none-opened : (config : Config) → AreOpened config 0 [] [] []
none-opened config = record {
  tx_count = refl;
  workers_count = refl;
  rx_count = refl;
  unused = λ m out there. absurd cc;
  fresh = λ m into there. absurd cc;
  slots = λ m into there. absurd cc;
  silent = λ m worker there. absurd cc;
  lines = λ m worker there. absurd cc;
  sends = λ m out worker there. absurd cc;
  receives = λ m worker into there. absurd cc;
}

pub opened-more : (config : Config) (n : ℕ) (tx : List (OutEnd Container)) (workers : List LineWorker)
    (rx : List (InEnd Cell))
    (out : OutEnd Container) (worker : LineWorker) (into : InEnd Cell) → AreOpened config n tx workers rx →
    IsLineOpened config n (slots_of config n) out worker into →
    AreOpened config (n + 1) (tx ++ out ∷ []) (workers ++ worker ∷ []) (rx ++ into ∷ [])
opened-more config n tx workers rx out worker into are own = record {
  tx_count = length-append tx (out ∷ []) ∙ ap (λ (k : ℕ). k + 1) are.tx_count;
  workers_count = length-append workers (worker ∷ []) ∙ ap (λ (k : ℕ). k + 1) are.workers_count;
  rx_count = length-append rx (into ∷ []) ∙ ap (λ (k : ℕ). k + 1) are.rx_count;
  unused = λ m one there. elim (get-last tx out m one there) [
    | inl before ↦ are.unused m one before
    | inr (at, is) ↦ ap out_passed is ∙ own.unused
  ];
  fresh = λ m one there. elim (get-last rx into m one there) [
    | inl before ↦ are.fresh m one before
    | inr (at, is) ↦ ap in_passed is ∙ own.fresh
  ];
  slots = λ m one there. elim (get-last rx into m one there) [
    | inl before ↦ are.slots m one before
    | inr (at, is) ↦ ap in_size is ∙ own.slots ∙ ap (slots_of config) (sym (at ∙ are.rx_count))
  ];
  silent = λ m one there. elim (get-last workers worker m one there) [
    | inl before ↦ are.silent m one before
    | inr (at, is) ↦ ap (λ (w : LineWorker). out_passed w.producer) is ∙ own.silent
  ];
  lines = λ m one there. elim (get-last workers worker m one there) [
    | inl before ↦ are.lines m one before
    | inr (at, is) ↦ subst (λ (k : ℕ). IsLineOf config k one) (sym (at ∙ are.workers_count))
        (subst (IsLineOf config n) (sym is) own.line)
  ];
  sends = λ m one other there here. elim (get-last tx out m one there) [
    | inl before ↦ elim (get-last workers worker m other here) [
      | inl before' ↦ are.sends m one other before before'
      | inr (at, is) ↦ absurd (beyond tx m n one before (at ∙ are.workers_count) are.tx_count)
    ]
    | inr (at, is) ↦ elim (get-last workers worker m other here) [
      | inl before' ↦ absurd (beyond workers m n other before' (at ∙ are.tx_count) are.workers_count)
      | inr (at', is') ↦ subst (λ (a : OutEnd Container). AreEnds a other.consumer) (sym is)
          (subst (λ (b : LineWorker). AreEnds out b.consumer) (sym is') own.send)
    ]
  ];
  receives = λ m one other there here. elim (get-last workers worker m one there) [
    | inl before ↦ elim (get-last rx into m other here) [
      | inl before' ↦ are.receives m one other before before'
      | inr (at, is) ↦ absurd (beyond workers m n one before (at ∙ are.rx_count) are.workers_count)
    ]
    | inr (at, is) ↦ elim (get-last rx into m other here) [
      | inl before' ↦ absurd (beyond rx m n other before' (at ∙ are.workers_count) are.rx_count)
      | inr (at', is') ↦ subst (λ (a : LineWorker). AreEnds a.producer other) (sym is)
          (subst (λ (b : InEnd Cell). AreEnds worker.producer b) (sym is') own.receive)
    ]
  ];
}

-- ---- A group before anything has moved is bound to its script; and the sink's worker is the script's.
-- ---- the same ends
pub outs-self : {T : Type 0} (ends : List (OutEnd T)) → SameOuts ends ends
outs-self ends = record {
  count = refl;
  each = λ m old new was is. subst (SameOut old) (same_Some old new (sym was ∙ is)) (refl, refl, refl);
}

pub ins-self : {T : Type 0} (ends : List (InEnd T)) → SameIns ends ends
ins-self ends = record {
  count = refl;
  each = λ m old new was is. subst (SameIn old) (same_Some old new (sym was ∙ is)) (refl, refl, refl);
}

-- ---- nothing has landed
none-landed : (items : List Item) (i : ℕ) → landed_from 0 0 i items ≡ []
unfolding landed_from
none-landed [] i = refl
none-landed (item ∷ items) i = elim (is_client item.kind)
    as (λ b. (if b then landed_from 0 0 (suc i) items else landed_from 0 0 (suc i) items) ≡ [])
    [ true ↦ none-landed items (suc i) | false ↦ none-landed items (suc i) ]

-- ---- before anything has moved
module _ (script : Script) (g : GroupState) (of_script : IsOf (leg_of script) g) (ticks : ticks_of g ≡ 0)
    (frames : frames_of g ≡ 0) (commands : commands_of g ≡ 0) (journal : journal_of g ≡ []) where
  landed-none : landed_items (leg_of script) (counts_of g) ≡ []
  landed-none = ap (λ n. landed_from n (commands_of g) 0 script.items) frames
      ∙ ap (λ n. landed_from 0 n 0 script.items) commands ∙ none-landed script.items 0

  taken-none : taken_of g ≡ []
  taken-none =
      let none : used_in (lag_of g) (ticks_of g) ≡ 0 = omega (arith, ticks) in
      ap (λ n. take n (told_from (lost_of g) (in_passed g.back))) none

  pub room-begins : group_slots_of g ≡ length script.items → octets_in (offers_of script.items) ≤ bytes_of g →
      HasJournalRoom (leg_of script) g
  room-begins slots bytes =
      let all = all-kinds script.items in
      record {
        entries = subst (λ n. length (drop n (offers_of script.items)) + length
            (drop (commands_of g) (orders_of script.items)) ≤ group_slots_of g) (sym frames)
            (subst (λ n. length (offers_of script.items) + length (drop n (orders_of script.items)) ≤ group_slots_of g)
            (sym commands) (omega arith));
        octets = subst (λ n. octets_in (drop n (offers_of script.items)) ≤ bytes_of g) (sym frames) (omega arith);
      }

  pub landed-begins : refusals_of g ≡ [] → AreUnused g.tx.items → length script.config.windows ≡ script.config.lines →
      ((scenario : Scenario) → IsFresh scenario (lines_of g) (lag_of g) (size_of g) (statuses_of g) →
      HasMade (source_of g) scenario []) → HasLandedOf (leg_of script) g
  landed-begins refusals unused windows made = record {
    entries = subst (AreItemsOf (leg_of script)) (sym journal) (λ i entry there. absurd cc);
    past = subst (ArePast (ticks_of g)) (sym landed-none) (λ i entry there. absurd cc);
    most_frames = omega (arith, frames);
    most_commands = omega (arith, commands);
    refusals = refusals ∙ sym (ap (refusals_by (leg_of script) (taken_of g)) landed-none);
    frames = ap of_client journal
        ∙ sym (ap (accepted_frames_by (leg_of script) (taken_of g)) landed-none);
    commands = ap of_operator journal
        ∙ sym (ap (accepted_commands_by (leg_of script) (taken_of g)) landed-none);
    order = subst (IsNonDecreasingBy (λ (entry : Numbered). entry.item.due)) (sym journal)
        (λ i j d low inside. absurd (omega arith));
    sent = λ m out there. unused m out there ∙ sym (ap (containers_of (scenario_of script) (taken_of g) m) ticks);
    made = ∣ subst (HasMade (source_of g) (landed_scenario (leg_of script) (counts_of g))) (sym taken-none)
        (made (landed_scenario (leg_of script) (counts_of g)) (record {
          of_lines = windows ∙ sym of_script.lines;
          of_lag = sym of_script.lag;
          of_size = sym of_script.size;
          of_statuses = sym of_script.statuses;
          no_offers = ap (λ n. take n (offers_of script.items)) frames;
          no_orders = ap (λ n. take n (orders_of script.items)) commands;
          no_tells = refl;
        })) ∣₁;
  }

  pub bound-begins : HasJournalRoom (leg_of script) g → HasLandedOf (leg_of script) g →
      IsBound (leg_of script) g.tx.items (g.back ∷ []) g
  bound-begins room landed = record {
    of_script = of_script;
    sends = outs-self g.tx.items;
    returns = ins-self (g.back ∷ []);
    room = room;
    landed = landed;
  }

-- ---- what is opened
module _ {E : Type 0} (script : Script) (valid : IsValid script) where
  pub group-opened : (entries bytes : ℕ) (tx : Vec (OutEnd Container)) (back : InEnd BackCell)
      (r : Result GroupState E) → entries ≡ length script.items →
      octets_in (offers_of script.items) ≤ bytes → AreUnused tx.items →
      IfOk r (λ g. IsOf (leg_of script) g) → IfOk r (λ g. ticks_of g ≡ 0) →
      IfOk r (λ g. (frames_of g ≡ 0) × (commands_of g ≡ 0)) → IfOk r (λ g. journal_of g ≡ []) →
      IfOk r (λ g. (group_slots_of g ≡ entries) × (bytes_of g ≡ bytes)) → IfOk r (λ g. refusals_of g ≡ []) →
      IfOk r (λ g. (g.tx ≡ tx) × (g.back ≡ back)) →
      IfOk r (λ g. (scenario : Scenario) → IsFresh scenario (lines_of g) (lag_of g) (size_of g) (statuses_of g) →
      HasMade (source_of g) scenario []) →
      IfOk r (λ g. IsBound (leg_of script) g.tx.items (g.back ∷ []) g)
  group-opened entries bytes tx back (Ok g) count size unused of_script ticks landed journal room refusals ends made =
      bound-begins script g of_script ticks landed.0 landed.1 journal
      (room-begins script g of_script ticks landed.0 landed.1 journal (room.0 ∙ count) (omega (arith, size, room.1)))
      (landed-begins script g of_script ticks landed.0 landed.1 journal refusals
      (subst (λ (v : Vec (OutEnd Container)). AreUnused v.items) (sym ends.0) unused)
      valid.sound.network.windows_each made)
  group-opened entries bytes tx back (Err e) count size unused of_script ticks landed journal room refusals ends made =
      tt

  pub sink-opened : (r : Result SinkWorker E) → IfOk r (λ s. sink_lines s ≡ script.config.lines) →
      IfOk r (λ s. sink_size s ≡ script.config.size) → IfOk r (λ s. sink_options s ≡ script.config.options) →
      IfOk r (λ s. rows_of s ≡ script.config.ticks) → IfOk r (λ s. rows_taken s ≡ 0) →
      IfOk r (λ s. has_failed s ≡ false) → IfOk r (λ s. SinkStands s) →
      IfOk r (λ s. IsSinkOf script s)
  sink-opened (Ok s) lines size options rows taken failed stands = record {
    lines = lines;
    size = size;
    options = options;
    rows = rows;
    taken = taken;
    failed = failed;
    stands = stands;
  }
  sink-opened (Err e) lines size options rows taken failed stands = tt

-- ---- The octets of all frames of a script.
-- those of one item
abbrev pub own_octets : Item → ℕ
own_octets item = octets_in (offers_of (item ∷ []))

octets-sum : (items : List Item) → octets_in (offers_of items) ≡ sum_by own_octets items
octets-sum [] = refl
octets-sum (item ∷ items) =
    let one : octets_in (offers_of (item ∷ [])) ≡ octets_in (offer_of item.due item.kind) =
    ap octets_in (append-nil (offer_of item.due item.kind)) in
    sum_by-append (λ (offer : DueFrame). length offer.frame) (offer_of item.due item.kind) (offers_of items)
    ∙ ap (λ n. n + octets_in (offers_of items)) (sym one) ∙ ap (λ n. own_octets item + n) (octets-sum items)
    ∙ sym (sum_by-cons own_octets item items)

own-few : (item : Item) → IsKind item.kind → own_octets item ≤ longest_offer
own-few item is = by_kind item.due item.kind is where
  by_kind : (due : ℕ) (kind : ItemKind) → IsKind kind → octets_in (offer_of due kind ++ []) ≤ longest_offer
  by_kind due (Frame octets) is = let most = is.0.1 in omega arith
  by_kind due (Add line) is = omega arith
  by_kind due (Remove line) is = omega arith

pub octets-few : (items : List Item) → All (λ (item : Item). IsKind item.kind) items →
    octets_in (offers_of items) ≤ longest_offer * length items
octets-few items each =
    let sum = octets-sum items in
    let most = sum_by-le own_octets longest_offer items (λ k d inside. own-few (slice_index_or items k d) (each k d inside)) in
    omega arith

-- ---- An item that a group took was the next one of its kind.
next-landed : (next : Option ℕ) (number ticks due : ℕ) (rest : Option SubmitFault) →
    has_landed (fault_by next number ticks due rest) ≡ true → next ≡ Some number
next-landed None number ticks due rest landed = absurd cc
next-landed (Some n) number ticks due rest landed =
    elim (cases_Bool (n == number)) [
      | inl same ↦ ap Some (eqb-true n number same)
      | inr other ↦ absurd (let f : false ≡ true = rw other at landed in cc)
    ]

pub has-landed : (leg : Leg) (tx : List (OutEnd Container)) (back : List (InEnd BackCell)) (was now : GroupState)
    (number : ℕ) (kind : ItemKind) (answer : Option SubmitFault) → IsBound leg tx back was →
    Submits was now number kind answer → has_landed answer ≡ true → HasLanded leg tx back number kind
has-landed leg tx back was now number kind answer bound call landed = record {
  was = was;
  now = now;
  bound = bound;
  next =
      next-landed (next_of was kind) number (ticks_of was) (due_at (items_of was) number)
      (fault_met (refusal_of was kind) (fits (parts_of was).journal kind) (group_slots_of was) (bytes_of was))
      (sym (ap has_landed call.fault) ∙ landed);
  counted = subst (HasCounted was now kind) landed call.landed;
}

-- ---- An item lands exactly where it is the next one of its kind, and due.
met-lands : (why : Option Refusal) (fits : Bool) (slots bytes : ℕ) → is_full (fault_met why fits slots bytes) ≡ false →
    has_landed (fault_met why fits slots bytes) ≡ true
met-lands (Some (frame_refused why)) fits slots bytes room = refl
met-lands (Some (command_refused why)) fits slots bytes room = refl
met-lands None true slots bytes room = refl
met-lands None false slots bytes room = absurd cc

fault-lands : (next : Option ℕ) (number ticks due : ℕ) (why : Option Refusal) (fits : Bool) (slots bytes : ℕ) →
    next ≡ Some number → due ≤ ticks →
    is_full (fault_by next number ticks due (fault_met why fits slots bytes)) ≡ false →
    has_landed (fault_by next number ticks due (fault_met why fits slots bytes)) ≡ true
fault-lands next number ticks due why fits slots bytes is low =
    let first : not (is_number next number) ≡ false =
    ap (λ (o : Option ℕ). not (is_number o number)) is ∙ ap not (eq-eqb number number refl) in
    rw (first, le-ltb ticks due low) (met-lands why fits slots bytes)

pub lands-where : (was now : GroupState) (number : ℕ) (kind : ItemKind) (answer : Option SubmitFault) →
    Submits was now number kind answer → is_full answer ≡ false → (has_landed answer ≡ true) ↔ MayLand was number kind
lands-where was now number kind answer call room = (
  (λ landed. record {
    next =
        next-landed (next_of was kind) number (ticks_of was) (due_at (items_of was) number)
        (fault_met (refusal_of was kind) (fits (parts_of was).journal kind) (group_slots_of was) (bytes_of was))
        (sym (ap has_landed call.fault) ∙ landed);
    due = let e = call.when landed in omega (arith, e);
  }),
  (λ may. ap has_landed call.fault
      ∙ fault-lands (next_of was kind) number (ticks_of was) (due_at (items_of was) number) (refusal_of was kind)
      (fits (parts_of was).journal kind) (group_slots_of was) (bytes_of was) may.next may.due
      (sym (ap is_full call.fault) ∙ room)),
)

-- ---- What a tick answers holds of the group after it.
pub still-held : (a b : GroupState) (answer : TickAnswer) (item : ℕ) → Ticks a b answer → answer ≡ Held item →
    held_of b ≡ Some item
still-held a b answer item call is =
    let source = call.source (λ e. let f : Held item ≡ Ticked = sym is ∙ e in absurd cc) in
    ap (λ (t : Terminal). held t.ticks (frames_of b) (commands_of b) 0 (dues_of (items_of b))) source
    ∙ ap (λ n. held (ticks_of a) n (commands_of b) 0 (dues_of (items_of b))) call.landed.frames
    ∙ ap (λ n. held (ticks_of a) (frames_of a) n 0 (dues_of (items_of b))) call.landed.commands
    ∙ ap (λ (l : List Item). held (ticks_of a) (frames_of a) (commands_of a) 0 (dues_of l)) call.script.items
    ∙ ((call.held item).0 is).1

pub has-tried : (a b : GroupState) (answer : TickAnswer) → Ticks a b answer → IsFreeToTick a → HasTried a b
has-tried a b Ticked call free = inl call.ticks
has-tried a b (Held item) call free =
    absurd (let e : None ≡ Some item = sym free.held ∙ ((call.held item).0 refl).1 in cc)
has-tried a b (TxFull line) call free = inr (inl (line, call.full line refl))
has-tried a b (BackMissing packet) call free = inr (inr (packet, call.missing packet refl))
has-tried a b Done call free = absurd (let past = call.done.0 refl in let left = free.left in omega arith)

next-same : (a b : GroupState) → items_of b ≡ items_of a → frames_of b ≡ frames_of a → commands_of b ≡ commands_of a →
    (client : Bool) → next_brought b client ≡ next_brought a client
next-same a b items frames commands true =
    ap (λ n. there_at (place_of is_frame n (items_of b)) (items_of b)) frames
    ∙ ap (λ (l : List Item). there_at (place_of is_frame (frames_of a) l) l) items
next-same a b items frames commands false =
    ap (λ n. there_at (place_of is_command n (items_of b)) (items_of b)) commands
    ∙ ap (λ (l : List Item). there_at (place_of is_command (commands_of a) l) l) items

-- what lands after a tick that an item held counts from before it
pub lands-held : (items : List Item) (a m b : GroupState) (first number : ℕ) (item : Item) → Ticks a m (Held first) →
    ((x : Item) → slice_get items first ≡ Some x → MayLand m first x.kind → HasCounted m b x.kind true) →
    held_of a ≡ Some number → slice_get items number ≡ Some item → MayLand a number item.kind →
    HasCounted a b item.kind true
lands-held items a m b first number item call lands is there may =
    let e : number ≡ first = same_Some _ _ (sym is ∙ ((call.held first).0 refl).1) in
    let source = call.source (λ t. let f : Held first ≡ Ticked = t in absurd cc) in
    let client = is_client item.kind in
    let counted = lands item (ap (slice_get items) (sym e) ∙ there) (record {
      next = next-same a m call.script.items call.landed.frames call.landed.commands client ∙ may.next ∙ ap Some e;
      due = let due = may.due in
          let at : due_at (items_of m) first ≡ due_at (items_of a) number =
          ap (λ (l : List Item). due_at l first) call.script.items ∙ ap (due_at (items_of a)) (sym e) in
          let now : ticks_of m ≡ ticks_of a = ap (λ (t : Terminal). t.ticks) source in
          omega (arith, due, at, now);
    }) in
    record {
      frames = counted.frames ∙ ap (λ n. n + counted_by client true) call.landed.frames;
      commands = counted.commands ∙ ap (λ n. n + counted_by (not client) true) call.landed.commands;
    }
