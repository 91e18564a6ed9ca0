-- What each step of a group (an item lands, rings are looked at, a frame is made) leaves true of its parts.
use Rattle.std.proofs.Common.{◌≡◌, ℕ, ◌≤◌, List, [], ◌∷◌, ◌++◌, take, length, slice_get, get_or, All, Option, Some}
use Rattle.std.proofs.Common.{sym, ◌∙◌, ap, subst, arith, append_assoc, is_some, Bool, true, false, ◌+◌, ◌-◌, ◌<◌}
use Rattle.std.proofs.Common.{drop, None, refl, length-take, length-drop}
use Rattle.std.proofs.Math.Logic.{∥∥₁_map, ∥∥₁_elim}
use Rattle.std.proofs.lemmas.List.{append-nil, take-append-le, take_all, length-append, length-replicate, length-map}
use Rattle.std.proofs.lemmas.List.Elements.{All-cons, All-append}
use Rattle.law_model.proofs.ListLaws.{All-front, All-after, slice_get-inside}
use Rattle.law_model.specs.Common.{Scenario, Told, Container, BackCell, steps_in, told_in, container_of, containers_of}
use Rattle.law_model.specs.Common.{frame_of, dues_of, frame_dues, command_dues, used_in, held, most_lines, most_ticks}
use Rattle.law_model.specs.declared.script_types.Item.{Item}
use Rattle.law_model.specs.declared.script_types.ItemKind.{ItemKind}
use Rattle.law_model.specs.declared.item_refusals.Refusal.{Refusal}
use Rattle.law_session.proofs.ClientStreamAndReplayLaws.{Alike}
use Rattle.law_walk.specs.Common.{Numbered, is_client, kind_refusal, IsPlaced}
use Rattle.thread_group.specs.Journal.{items_in, Journal, Setting, journal_scenario, entry_of, IsLegal}
use Rattle.terminal_group.specs.Landed.{Landed, next_number, due_at, AreAhead, AreBehind}
use Rattle.thread_group.specs.GroupParts.{IsRefused, AreRefused, Parts, setting_in, scenario_in, told_in_parts}
use Rattle.thread_group.specs.GroupParts.{AreSent, AreDue, ArePast, Keeps}
use Rattle.thread_group.proofs.JournalEntryAndScenarioLaws.{refusal-alike, journal-push, alike-kind, alike-cells}
use Rattle.thread_group.proofs.JournalEntryAndScenarioLaws.{legal-alike, push-cases, legal-push, container-in}
use Rattle.thread_group.proofs.JournalEntryAndScenarioLaws.{sent-alike, sent-next}
use Rattle.terminal_group.proofs.RefusalOrderAndNextItemLaws.{number-there, next-kind}
use Rattle.std.proofs.Props.{props}
use Rattle.std.proofs.lemmas.Option.{slice_get_within}
use Rattle.thread_rings.specs.EndsOfRing.{OutEnd, InEnd, out_passed, in_passed}
use Rattle.terminal_source.specs.source_core.Terminal.{Terminal, SameKind, needed_at}
use Rattle.terminal_source.specs.source_core.GivenScenario.{IsFresh, with_cell, SourceStands as HasMade}
use Rattle.law_walk.proofs.LandedItemRefusalAndTotalLaws.{ahead-next}
use Rattle.terminal_group.specs.GivenItem.{with_kind}
use Rattle.terminal_group.specs.ReturnInbox.{Inbox, empty_inbox, come_from, told_from, told_taken, HasCome, cell_for}
use Rattle.terminal_group.specs.ReturnInbox.{rest_for, Takes}
use Rattle.thread_group.specs.GroupRings.{AreUnused, SameOuts, HaveLooked, ArePushed, HasMoved}
use Rattle.terminal_group.proofs.InboxReturnCellLaws.{come-length, taken-more, takes}
use Rattle.law_model.specs.Common.{longest_lag}

-- ---- Items that were refused: what more of a journal, of return cells and of ticks leaves of them, and one more of them.
-- sessions that are alike up to some ticks refuse the same, whatever is entered later
pub refused-on : (one : Scenario) (a : List (Option Told)) (other : Scenario) (b : List (Option Told)) (t now : ℕ)
    (items : List Item) (entries more : List Numbered) (refusals : List (ℕ × Refusal)) →
    Alike one a other b t → t ≤ now → AreRefused one a t items entries refusals →
    AreRefused other b now items (entries ++ more) refusals
refused-on one a other b t now items entries more refusals alike later all k d inside =
    let (low, is) = all k d inside in
    let due : ℕ = due_at items (get_or refusals k d).0 in
    let long = length-append entries more in (
      omega arith,
      ∥∥₁_map is (λ r. record {
        handed = r.handed;
        kind = r.kind;
        before = r.before;
        within = let within = r.within in omega arith;
        refused = ap (λ (l : List Numbered). kind_refusal other b due (items_in l) r.handed)
            (take-append-le r.before entries more r.within)
            ∙ sym (refusal-alike one a other b t due (items_in (take r.before entries)) r.handed alike low) ∙ r.refused;
      }),
    )

-- one more item is refused, and its refusal is put in its place
pub refused-put : (scenario : Scenario) (cells : List (Option Told)) (ticks : ℕ) (items : List Item)
    (entries : List Numbered) (number : ℕ) (why : Refusal) (was now : List (ℕ × Refusal)) →
    IsPlaced number ((number, why) ∷ []) was now → due_at items number ≤ ticks →
    IsRefused scenario cells items entries number why →
    AreRefused scenario cells ticks items entries was → AreRefused scenario cells ticks items entries now
refused-put scenario cells ticks items entries number why was now placed low is all =
    let own : List (ℕ × Refusal) = (number, why) ∷ [] in
    let Refused = λ (refused : ℕ × Refusal). (due_at items refused.0 ≤ ticks) ×
    ∥ IsRefused scenario cells items entries refused.0 refused.1 ∥₁ in
    let same : now ≡ placed.front ++ (number, why) ∷ placed.back = placed.is_so
    ∙ append_assoc placed.front own placed.back in
    let old : All Refused (placed.front ++ placed.back) = subst (All Refused) placed.was_so all in
    subst (All Refused) (sym same)
    (All-append Refused placed.front ((number, why) ∷ placed.back) (All-front Refused placed.front placed.back old)
    (All-cons Refused (number, why) placed.back (low, ∣ is ∣₁) (All-after Refused placed.front placed.back old)))

-- where none is, they are as they were
pub none-refused : (number : ℕ) (was now : List (ℕ × Refusal)) → IsPlaced number [] was now → now ≡ was
none-refused number was now placed = placed.is_so ∙ ap (λ l. l ++ placed.back) (append-nil placed.front)
    ∙ sym placed.was_so

-- the next item is refused now, when it is due
pub refused-now : (scenario : Scenario) (cells : List (Option Told)) (ticks : ℕ) (landed : Landed)
    (entries : List Numbered) (number : ℕ) (kind : ItemKind) (why : Refusal) →
    next_number landed (is_client kind) ≡ Some number → due_at landed.items number ≡ ticks →
    kind_refusal scenario cells ticks (items_in entries) kind ≡ Some why →
    IsRefused scenario cells landed.items entries number why
refused-now scenario cells ticks landed entries number kind why next due is = record {
  handed = kind;
  kind = λ item there.
      let (at, inside) = number-there landed (is_client kind) number next in
      sym (next-kind landed (is_client kind) item (ap (slice_get landed.items) (sym at) ∙ there));
  before = length entries;
  within = omega arith;
  refused = ap (λ (l : List Numbered). kind_refusal scenario cells (due_at landed.items number) (items_in l) kind)
      (take_all (length entries) entries (omega arith))
      ∙ ap (λ n. kind_refusal scenario cells n (items_in entries) kind) due ∙ is;
}

-- ---- What each step leaves true of the parts of a group.
-- ---- nothing has come of a group
pub keeps-begin : (at : Parts) (size : ℕ) → at.total ≤ most_ticks → at.source.ticks ≡ 0 → at.source.lines ≤ most_lines →
    at.source.lag ≤ longest_lag → size ≡ at.source.lines → length at.tx ≡ at.source.lines →
    AreUnused at.tx → in_passed at.back ≡ [] → at.landed.frames ≡ 0 → at.landed.commands ≡ 0 → at.landed.refusals ≡ [] →
    at.journal.entries ≡ [] → at.inbox ≡ empty_inbox at.inbox.lost at.source.lag →
    ((scenario : Scenario) → IsFresh scenario at.source.lines at.source.lag at.source.size at.source.statuses →
    HasMade at.source scenario []) → Keeps at size
unfolding come_from
keeps-begin at size total none lines lag places rings unused passed no_frame no_command no_refusal entries inbox make =
    let setting = setting_in at in
    let used : used_in at.source.lag at.source.ticks ≡ 0 = omega arith in
    let told : told_in_parts at ≡ [] = ap (λ n. take n (told_from at.inbox.lost (in_passed at.back))) used in
    let fresh : IsFresh (journal_scenario setting []) at.source.lines at.source.lag at.source.size at.source.statuses =
    record {
      of_lines = length-replicate at.source.lines [];
      of_lag = refl;
      of_size = refl;
      of_statuses = refl;
      no_offers = refl;
      no_orders = refl;
      no_tells = refl;
    } in
    let scenario : scenario_in at ≡ journal_scenario setting [] = ap (journal_scenario setting) entries in
    let no_entry : (i : ℕ) (entry : Numbered) → slice_get at.journal.entries i ≡ Some entry → ⊥ =
    λ i entry there. (let h : None ≡ Some entry = sym (ap (λ (l : List Numbered). slice_get l i) entries) ∙ there in
    absurd cc) in
    let few = ap length passed in
    let come = ap (λ (i : Inbox). i.come) inbox in
    record {
      total = total;
      ticks = omega arith;
      lines = lines;
      lag = lag;
      places = places;
      rings = rings;
      room = ap (λ (i : Inbox). i.room) inbox;
      fits = (let few = ap (λ (i : Inbox). length i.cells) inbox in omega arith);
      come = record {
        come = omega arith;
        within = omega arith;
        cells = ap (λ (i : Inbox). i.cells) inbox
            ∙ sym (ap (λ n. drop n (come_from at.inbox.lost 0 (in_passed at.back))) used
            ∙ ap (come_from at.inbox.lost 0) passed);
      };
      made = ∣ subst (λ (s : Scenario). HasMade at.source s (told_in_parts at)) (sym scenario)
          (subst (HasMade at.source (journal_scenario setting [])) (sym told)
          (make (journal_scenario setting []) fresh)) ∣₁;
      sent = λ m out there. unused m out there ∙ sym (ap (containers_of (scenario_in at) (told_in_parts at) m) none);
      legal = λ i entry there. absurd (no_entry i entry there);
      due = λ i entry there. absurd (no_entry i entry there);
      past = λ i entry there. absurd (no_entry i entry there);
      ahead = record { of_frames = λ k due low there. omega arith; of_commands = λ k due low there. omega arith };
      behind = record {
        of_frames = λ k due low there. absurd (omega arith);
        of_commands = λ k due low there. absurd
            (omega arith);
      };
      refused = λ k d inside. let none = ap length no_refusal in absurd (omega arith);
    }

-- ---- an item has landed
ahead-more : (items other : List Item) (ticks frames commands more most : ℕ) → other ≡ items → frames ≤ more →
    commands ≤ most → AreAhead (dues_of items) ticks frames commands → AreAhead (dues_of other) ticks more most
ahead-more items other ticks frames commands more most same low high ahead = record {
  of_frames = λ k due after there. ahead.of_frames k due (omega arith)
      (ap (λ (l : List Item). slice_get (frame_dues (dues_of l)) k) (sym same) ∙ there);
  of_commands = λ k due after there. ahead.of_commands k due (omega arith)
      (ap (λ (l : List Item). slice_get (command_dues (dues_of l)) k) (sym same) ∙ there);
}

pub keeps-refused : (at : Parts) (size : ℕ) (landed : Landed) → Keeps at size → landed.items ≡ at.landed.items →
    at.landed.frames ≤ landed.frames → at.landed.commands ≤ landed.commands →
    AreBehind (dues_of at.landed.items) at.source.ticks landed.frames landed.commands →
    AreRefused (scenario_in at) (told_in_parts at) at.source.ticks at.landed.items at.journal.entries landed.refusals →
    Keeps (record at { landed = landed }) size
keeps-refused at size landed k items frames commands behind refused = record {
  total = k.total;
  ticks = k.ticks;
  lines = k.lines;
  lag = k.lag;
  places = k.places;
  rings = k.rings;
  room = k.room;
  fits = k.fits;
  come = k.come;
  made = k.made;
  sent = k.sent;
  legal = k.legal;
  due = λ i entry there. k.due i entry there ∙ ap (λ (l : List Item). due_at l entry.number) (sym items);
  past = k.past;
  ahead = ahead-more _ landed.items _ _ _ landed.frames landed.commands items frames commands k.ahead;
  behind = subst (λ (l : List Item). AreBehind (dues_of l) at.source.ticks landed.frames landed.commands)
      (sym items) behind;
  refused = subst (λ (l : List Item). AreRefused (scenario_in at)
      (told_in_parts at) at.source.ticks l at.journal.entries landed.refusals) (sym items) refused;
}

-- the setting of a source of this kind
abbrev setting_by : Terminal → ℕ → List (ℕ × ℕ) → Setting
setting_by source total lost = record {
  lines = source.lines;
  lag = source.lag;
  ticks = total;
  size = source.size;
  statuses = source.statuses;
  lost = lost;
}

same-setting : (one other : Terminal) (total : ℕ) (lost was : List (ℕ × ℕ)) → SameKind other one → lost ≡ was →
    setting_by other total lost ≡ setting_by one total was
same-setting one other total lost was kind same =
    let of : ℕ → ℕ → ℕ → ℕ → List (ℕ × ℕ) → Setting = λ lines lag size statuses lost.
    record { lines = lines; lag = lag; ticks = total; size = size; statuses = statuses; lost = lost } in
    ap (λ n. of n other.lag other.size other.statuses lost) kind.lines
    ∙ ap (λ n. of one.lines n other.size other.statuses lost) kind.lag
    ∙ ap (λ n. of one.lines one.lag n other.statuses lost) kind.size
    ∙ ap (λ n. of one.lines one.lag one.size n lost) kind.statuses
    ∙ ap (of one.lines one.lag one.size one.statuses) same

windows-long : (at : Parts) → length (scenario_in at).windows ≡ at.source.lines
windows-long at = length-replicate at.source.lines []

-- the line of a send ring is one of the session's
line-low : (at : Parts) (size m : ℕ) (out : OutEnd Container) → Keeps at size → slice_get at.tx m ≡ Some out →
    m < length (scenario_in at).windows
line-low at size m out k there =
    let inside = slice_get_within at.tx m out there in
    let rings = k.rings in
    let long = windows-long at in
    omega arith

pub keeps-accepted : (at : Parts) (size : ℕ) (source : Terminal) (landed : Landed) (journal : Journal) (number : ℕ)
    (kind : ItemKind) → Keeps at size →
    landed.items ≡ at.landed.items → at.landed.frames ≤ landed.frames → at.landed.commands ≤ landed.commands →
    journal.entries ≡ at.journal.entries ++ entry_of number at.source.ticks kind ∷ [] → source.ticks ≡ at.source.ticks →
    SameKind source at.source →
    ((scenario : Scenario) (cells : List (Option Told)) → HasMade at.source scenario cells →
    HasMade source (with_kind scenario at.source.ticks kind) cells) →
    kind_refusal (scenario_in at) (told_in_parts at) at.source.ticks (items_in at.journal.entries) kind ≡ None →
    at.source.ticks ≡ due_at at.landed.items number →
    AreBehind (dues_of at.landed.items) at.source.ticks landed.frames landed.commands →
    IsPlaced number [] at.landed.refusals landed.refusals →
    Keeps (record at { source = source; landed = landed; journal = journal }) size
keeps-accepted at size source landed journal number kind k items frames commands entries ticks same make none due behind
    placed =
    let next : Parts = record at { source = source; landed = landed; journal = journal } in
    let entry : Numbered = entry_of number at.source.ticks kind in
    let one : Scenario = scenario_in at in
    let other : Scenario = with_kind one at.source.ticks kind in
    let cells : List (Option Told) = told_in_parts at in
    let told : told_in_parts next ≡ cells =
    ap (λ n. told_taken at.inbox.lost n source.ticks (in_passed at.back)) same.lag
    ∙ ap (λ n. told_taken at.inbox.lost at.source.lag n (in_passed at.back)) ticks in
    let scenario : scenario_in next ≡ other =
    ap (λ (s : Setting). journal_scenario s journal.entries)
    (same-setting at.source source at.total at.inbox.lost at.inbox.lost same refl)
    ∙ ap (journal_scenario (setting_in at)) entries
    ∙ sym (journal-push (setting_in at) at.journal.entries number at.source.ticks kind) in
    let alike = alike-kind one cells at.source.ticks kind in
    let lines = same.lines in
    let lag = same.lag in
    let now = ticks in
    let few = k.ticks in
    let legal : IsLegal other cells (at.journal.entries ++ entry ∷ []) =
    legal-push other cells at.journal.entries entry
    (legal-alike one cells other cells at.source.ticks at.journal.entries alike k.past k.legal)
    (sym (refusal-alike one cells other cells at.source.ticks at.source.ticks (items_in at.journal.entries) kind alike
    (omega arith)) ∙ none) in
    record {
      total = k.total;
      ticks = omega arith;
      lines = let most = k.lines in omega arith;
      lag = let most = k.lag in omega arith;
      places = k.places ∙ sym same.lines;
      rings = k.rings ∙ sym same.lines;
      room = k.room ∙ ap (λ n. n + 1) (sym same.lag);
      fits = k.fits;
      come = subst (HasCome at.inbox (in_passed at.back))
          (sym (ap (λ n. used_in n source.ticks) same.lag ∙ ap (used_in at.source.lag) ticks)) k.come;
      made = ∥∥₁_map k.made (λ m. subst (λ (s : Scenario). HasMade source s (told_in_parts next)) (sym scenario)
          (subst (HasMade source other) (sym told) (make one cells m)));
      sent = λ m out there.
          k.sent m out there ∙ sent-alike one cells other cells at.source.ticks m alike (line-low at size m out k there)
          ∙ sym (ap (λ (s : Scenario). containers_of s (told_in_parts next) m source.ticks) scenario
          ∙ ap (λ c. containers_of other c m source.ticks) told ∙ ap (containers_of other cells m) ticks);
      legal = subst (λ (s : Scenario). IsLegal s (told_in_parts next) journal.entries) (sym scenario)
          (subst (λ c. IsLegal other c journal.entries) (sym told) (subst (IsLegal other cells) (sym entries) legal));
      due = subst (AreDue landed.items) (sym entries)
          (push-cases (λ i (e : Numbered). e.item.due ≡ due_at landed.items e.number) at.journal.entries entry
          (λ i e there. k.due i e there ∙ ap (λ (l : List Item). due_at l e.number) (sym items))
          (due ∙ ap (λ (l : List Item). due_at l number) (sym items)));
      past = subst (ArePast source.ticks) (sym entries)
          (push-cases (λ i (e : Numbered). e.item.due ≤ source.ticks) at.journal.entries entry
          (λ i e there. let low = k.past i e there in omega arith) (omega arith));
      ahead = subst (λ n. AreAhead (dues_of landed.items) n landed.frames landed.commands) (sym ticks)
          (ahead-more _ landed.items _ _ _ landed.frames landed.commands items frames commands k.ahead);
      behind = subst (λ n. AreBehind (dues_of landed.items) n landed.frames landed.commands) (sym ticks)
          (subst (λ (l : List Item). AreBehind (dues_of l) at.source.ticks landed.frames landed.commands)
          (sym items) behind);
      refused = subst (λ (s : Scenario). AreRefused s (told_in_parts next) source.ticks landed.items
          journal.entries landed.refusals) (sym scenario)
          (subst (λ c. AreRefused other c source.ticks landed.items journal.entries landed.refusals)
          (sym told) (subst (λ l. AreRefused other cells source.ticks landed.items l landed.refusals)
          (sym entries) (subst (λ (l : List Item). AreRefused other cells source.ticks l
          (at.journal.entries ++ entry ∷ []) landed.refusals) (sym items)
          (subst (AreRefused other cells source.ticks at.landed.items (at.journal.entries ++ entry ∷ []))
          (sym (none-refused _ _ _ placed)) (refused-on one cells other cells _ source.ticks at.landed.items
          at.journal.entries (entry ∷ []) at.landed.refusals alike (omega arith) k.refused)))));
    }

-- ---- return cells were moved
pub told-moved : (at : Parts) (size : ℕ) (inbox : Inbox) (back : InEnd BackCell) → Keeps at size →
    HasMoved at.inbox inbox at.back back →
    told_in_parts (record at { inbox = inbox; back = back }) ≡ told_in_parts at
told-moved at size inbox back k moved =
    ap (λ l. told_taken l at.source.lag at.source.ticks (in_passed back)) moved.lost
    ∙ ap (told_taken at.inbox.lost at.source.lag at.source.ticks) (sym moved.received.1)
    ∙ taken-more at.inbox.lost at.source.lag at.source.ticks (in_passed at.back) moved.received.0 k.come.within

pub keeps-moved : (at : Parts) (size : ℕ) (inbox : Inbox) (back : InEnd BackCell) → Keeps at size →
    HasMoved at.inbox inbox at.back back → Keeps (record at { inbox = inbox; back = back }) size
keeps-moved at size inbox back k moved =
    let next : Parts = record at { inbox = inbox; back = back } in
    let told = told-moved at size inbox back k moved in
    let scenario : scenario_in next ≡ scenario_in at =
    ap (λ (s : Setting). journal_scenario s at.journal.entries)
    (same-setting at.source at.source at.total inbox.lost at.inbox.lost
    (record { lines = refl; lag = refl; size = refl; statuses = refl }) moved.lost) in
    record {
      total = k.total;
      ticks = k.ticks;
      lines = k.lines;
      lag = k.lag;
      places = k.places;
      rings = k.rings;
      room = moved.room ∙ k.room;
      fits = moved.within k.fits;
      come = moved.come (used_in at.source.lag at.source.ticks) k.come;
      made = ∥∥₁_map k.made (λ m. subst (λ (s : Scenario). HasMade at.source s (told_in_parts next)) (sym scenario)
          (subst (HasMade at.source (scenario_in at)) (sym told) m));
      sent = subst (λ (s : Scenario). AreSent s (told_in_parts next) at.source.ticks at.tx) (sym scenario)
          (subst (λ c. AreSent (scenario_in at) c at.source.ticks at.tx) (sym told) k.sent);
      legal = subst (λ (s : Scenario). IsLegal s (told_in_parts next) at.journal.entries) (sym scenario)
          (subst (λ c. IsLegal (scenario_in at) c at.journal.entries) (sym told) k.legal);
      due = k.due;
      past = k.past;
      ahead = k.ahead;
      behind = k.behind;
      refused = subst (λ (s : Scenario). AreRefused s
          (told_in_parts next) at.source.ticks at.landed.items at.journal.entries at.landed.refusals) (sym scenario)
          (subst (λ c. AreRefused
          (scenario_in at) c at.source.ticks at.landed.items at.journal.entries at.landed.refusals)
          (sym told) k.refused);
    }

-- where the inbox is full, as many have come as the ticks have taken and it has room for
pub full-come : (at : Parts) (size : ℕ) → Keeps at size → length at.inbox.cells ≡ at.inbox.room →
    length (in_passed at.back) ≡ used_in at.source.lag at.source.ticks + (at.source.lag + 1)
full-come at size k full =
    let left = ap length k.come.cells ∙ length-drop (used_in at.source.lag at.source.ticks)
    (come_from at.inbox.lost 0 (in_passed at.back)) in
    let long = come-length at.inbox.lost 0 (in_passed at.back) in
    let low = k.come.within in
    let room = k.room in
    omega arith

-- and as long as nothing is in it, not so many have come
pub empty-come : (at : Parts) (size : ℕ) → Keeps at size → at.inbox.cells ≡ [] → length (in_passed at.back)
    ≡ used_in at.source.lag at.source.ticks + (at.source.lag + 1) → ⊥
empty-come at size k none many =
    let left = ap length k.come.cells ∙ length-drop (used_in at.source.lag at.source.ticks)
    (come_from at.inbox.lost 0 (in_passed at.back)) in
    let long = come-length at.inbox.lost 0 (in_passed at.back) in
    let size = ap length none in
    omega arith

-- ---- send rings were looked at
pub keeps-looked : (at : Parts) (size : ℕ) (tx : List (OutEnd Container)) → Keeps at size → HaveLooked at.tx tx →
    Keeps (record at { tx = tx }) size
keeps-looked at size tx k looked = record {
  total = k.total;
  ticks = k.ticks;
  lines = k.lines;
  lag = k.lag;
  places = k.places;
  rings = looked.count ∙ k.rings;
  room = k.room;
  fits = k.fits;
  come = k.come;
  made = k.made;
  sent = λ m out there.
      let inside = slice_get_within tx m out there in
      let count = looked.count in
      let (old, was) = slice_get-inside at.tx m (omega arith) in
      (looked.each m old out was there).passed ∙ k.sent m old was;
  legal = k.legal;
  due = k.due;
  past = k.past;
  ahead = k.ahead;
  behind = k.behind;
  refused = k.refused;
}

-- ---- a frame was made
told-size : (at : Parts) (size : ℕ) → Keeps at size → used_in at.source.lag at.source.ticks ≤ length (told_in_parts at)
told-size at size k =
    let come = k.come.within in
    let long = come-length at.inbox.lost 0 (in_passed at.back) in
    let size = length-map (come_from at.inbox.lost 0 (in_passed at.back)) told_in in
    let first = length-take (used_in at.source.lag at.source.ticks) (told_from at.inbox.lost (in_passed at.back)) in
    omega arith

agree-cell : (n : ℕ) (cells : List (Option Told)) (cell : Option BackCell) → n ≤ length cells →
    take n cells ≡ take n (with_cell cells cell)
agree-cell n cells None low = refl
agree-cell n cells (Some cell) low = sym (take-append-le n cells (told_in cell ∷ []) low)

-- the parts before a frame is made, and what it is made of
pub record Made (at : Parts) (source : Terminal) (inbox : Inbox) (tx : List (OutEnd Container))
    (cell : Option BackCell) (frame : List Container) : Type 0 where
  pub takes : Takes at.inbox inbox (in_passed at.back) at.source.lag at.source.ticks cell
  pub lost : inbox.lost ≡ at.inbox.lost
  pub room : inbox.room ≡ at.inbox.room
  pub fewer : length inbox.cells ≤ length at.inbox.cells
  pub make : (scenario : Scenario) (cells : List (Option Told)) → HasMade at.source scenario cells →
      HasMade source scenario (with_cell cells cell)
  pub frame_is : (scenario : Scenario) (cells : List (Option Told)) → HasMade at.source scenario cells →
      frame ≡ frame_of scenario (with_cell cells cell) at.source.ticks
  pub ticks : source.ticks ≡ at.source.ticks + 1
  pub same : SameKind source at.source
  pub pushed : ArePushed frame at.tx tx

module _ (at : Parts) (size : ℕ) (source : Terminal) (inbox : Inbox) (tx : List (OutEnd Container))
    (cell : Option BackCell) (frame : List Container)
    (k : Keeps at size) (made : Made at source inbox tx cell frame) where
  abbrev next : Parts
  next = record at { source = source; inbox = inbox; tx = tx }

  pub told-made : told_in_parts (record at { source = source; inbox = inbox; tx = tx }) ≡ with_cell
      (told_in_parts at) cell
  told-made =
      ap (λ n. told_taken inbox.lost n source.ticks (in_passed at.back)) made.same.lag
      ∙ ap (λ n. told_taken inbox.lost at.source.lag n (in_passed at.back)) made.ticks
      ∙ made.takes.told

  -- each line was pushed its container of any session that the source has made so far
  pub pushed-made : (scenario : Scenario) → HasMade at.source scenario (told_in_parts at) →
      (m : ℕ) (old new : OutEnd Container) → slice_get at.tx m ≡ Some old → slice_get tx m ≡ Some new →
      out_passed new ≡ out_passed old ++ container_of scenario
      (told_in_parts (record at { source = source; inbox = inbox; tx = tx })) m at.source.ticks ∷ []
  pushed-made scenario has m old new was is =
      let inside = slice_get_within at.tx m old was in
      let rings = k.rings in
      let lines = has.lines in
      let there : slice_get frame m ≡ Some
      (container_of scenario (with_cell (told_in_parts at) cell) m at.source.ticks) =
      ap (λ (l : List Container). slice_get l m) (made.frame_is scenario (told_in_parts at) has) ∙ container-in scenario
      (with_cell (told_in_parts at) cell) m at.source.ticks (omega arith) in
      (made.pushed.each m (container_of scenario
      (with_cell (told_in_parts at) cell) m at.source.ticks) old new there was is).passed
      ∙ ap (λ c. out_passed old ++ container_of scenario c m at.source.ticks ∷ []) (sym told-made)

  pub own-pushed : (m : ℕ) (old new : OutEnd Container) → slice_get at.tx m ≡ Some old → slice_get tx m ≡ Some new →
      out_passed new ≡ out_passed old ++ container_of (scenario_in at)
      (told_in_parts (record at { source = source; inbox = inbox; tx = tx })) m at.source.ticks ∷ []
  own-pushed m old new was is =
      ∥∥₁_elim k.made (hlevel props) (λ has. pushed-made (scenario_in at) has m old new was is)

  pub keeps-made : at.source.ticks < at.total → held at.source.ticks at.landed.frames at.landed.commands 0
      (dues_of at.landed.items) ≡ None →
      Keeps (record at { source = source; inbox = inbox; tx = tx }) size
  keeps-made left none =
      let one : Scenario = scenario_in at in
      let cells : List (Option Told) = with_cell (told_in_parts at) cell in
      let told : told_in_parts next ≡ cells = told-made in
      let scenario : scenario_in next ≡ one =
      ap (λ (s : Setting). journal_scenario s at.journal.entries)
      (same-setting at.source source at.total inbox.lost at.inbox.lost made.same made.lost) in
      let alike = alike-cells one (told_in_parts at) cells at.source.ticks
      (agree-cell (steps_in at.source.ticks - at.source.lag) (told_in_parts at) cell (told-size at size k)) in
      let now = made.ticks in
      let lines = made.same.lines in
      let lag = made.same.lag in
      record {
        total = k.total;
        ticks = omega arith;
        lines = let most = k.lines in omega arith;
        lag = let most = k.lag in omega arith;
        places = k.places ∙ sym made.same.lines;
        rings = made.pushed.count ∙ k.rings ∙ sym made.same.lines;
        room = made.room ∙ k.room ∙ ap (λ n. n + 1) (sym made.same.lag);
        fits = (let fewer = made.fewer in let room = made.room in let fits = k.fits in omega arith);
        come = subst (HasCome inbox (in_passed at.back))
            (sym (ap (λ n. used_in n source.ticks) made.same.lag ∙ ap (used_in at.source.lag) made.ticks))
            made.takes.come;
        made = ∥∥₁_map k.made (λ m. subst (λ (s : Scenario). HasMade source s (told_in_parts next)) (sym scenario)
            (subst (HasMade source one) (sym told) (made.make one (told_in_parts at) m)));
        sent = λ m new there.
            let inside = slice_get_within tx m new there in
            let count = made.pushed.count in
            let (old, was) = slice_get-inside at.tx m (omega arith) in
            own-pushed m old new was there
            ∙ ap (λ (l : List Container). l ++ container_of one (told_in_parts next) m at.source.ticks ∷ [])
            (k.sent m old was ∙ sent-alike one _ one cells _ m alike (line-low at size m old k was))
            ∙ ap (λ c. containers_of one cells m at.source.ticks ++ container_of one c m at.source.ticks ∷ []) told
            ∙ sym (ap (λ (s : Scenario). containers_of s (told_in_parts next) m source.ticks) scenario
            ∙ ap (λ c. containers_of one c m source.ticks) told
            ∙ ap (containers_of one cells m) made.ticks ∙ sent-next one cells m at.source.ticks);
        legal = subst (λ (s : Scenario). IsLegal s (told_in_parts next) at.journal.entries) (sym scenario)
            (subst (λ c. IsLegal one c at.journal.entries) (sym told)
            (legal-alike one (told_in_parts at) one cells at.source.ticks at.journal.entries alike k.past k.legal));
        due = k.due;
        past = λ i entry there. let low = k.past i entry there in omega arith;
        ahead = subst (λ n. AreAhead (dues_of at.landed.items) n at.landed.frames at.landed.commands) (sym made.ticks)
            (let later = ahead-next
            (dues_of at.landed.items) at.source.ticks at.landed.frames at.landed.commands none in
            record { of_frames = later.of_frames; of_commands = later.of_commands });
        behind = record {
          of_frames = λ i due low there. let past = k.behind.of_frames i due low there in omega arith;
          of_commands = λ i due low there. let past = k.behind.of_commands i due low there in omega arith;
        };
        refused = subst (λ (s : Scenario). AreRefused s (told_in_parts next) source.ticks at.landed.items
            at.journal.entries at.landed.refusals) (sym scenario)
            (subst (λ c. AreRefused one c source.ticks at.landed.items at.journal.entries at.landed.refusals)
            (sym told) (subst (λ l. AreRefused one cells source.ticks at.landed.items l at.landed.refusals)
            (append-nil at.journal.entries) (refused-on one _ one cells at.source.ticks source.ticks
            at.landed.items at.journal.entries [] at.landed.refusals alike (omega arith) k.refused)));
      }

-- the count of return cells stays small
pub few-come : (at : Parts) (size : ℕ) → Keeps at size → at.inbox.come + at.inbox.room < 4294967295
few-come at size k =
    let come = k.come.come in
    let low = k.come.within in
    let left = ap length k.come.cells ∙ length-drop (used_in at.source.lag at.source.ticks)
    (come_from at.inbox.lost 0 (in_passed at.back)) in
    let long = come-length at.inbox.lost 0 (in_passed at.back) in
    let fits = k.fits in
    let room = k.room in
    let lag = k.lag in
    let ticks = k.ticks in
    let total = k.total in
    omega arith

-- ---- what a frame is made of
fewer-rest : (needs : Bool) (cells : List BackCell) → length (rest_for needs cells) ≤ length cells
fewer-rest true cells = let size = length-drop 1 cells in omega arith
fewer-rest false cells = omega arith

pub takes-by : (at : Parts) (size : ℕ) (inbox : Inbox) (cell : Option BackCell) (needs : Bool) → Keeps at size →
    needs ≡ is_some (needed_at at.source.lag at.source.ticks) →
    (is_some (needed_at at.source.lag at.source.ticks) ≡ true → 0 < length at.inbox.cells) →
    cell ≡ cell_for needs at.inbox.cells → inbox ≡ record at.inbox { cells = rest_for needs at.inbox.cells } →
    Takes at.inbox inbox (in_passed at.back) at.source.lag at.source.ticks cell
takes-by at size inbox cell needs k same there first left =
    takes at.inbox inbox (in_passed at.back) at.source.lag at.source.ticks cell k.come there
    (first ∙ ap (λ b. cell_for b at.inbox.cells) same)
    (left ∙ ap (λ b. record at.inbox { cells = rest_for b at.inbox.cells }) same)

pub made-by : (at : Parts) (size : ℕ) (source : Terminal) (inbox : Inbox) (tx : List (OutEnd Container))
    (cell : Option BackCell) (frame : List Container) (needs : Bool) → Keeps at size →
    needs ≡ is_some (needed_at at.source.lag at.source.ticks) →
    (is_some (needed_at at.source.lag at.source.ticks) ≡ true → 0 < length at.inbox.cells) →
    cell ≡ cell_for needs at.inbox.cells → inbox ≡ record at.inbox { cells = rest_for needs at.inbox.cells } →
    ((scenario : Scenario) (cells : List (Option Told)) → HasMade at.source scenario cells →
    HasMade source scenario (with_cell cells cell)) →
    ((scenario : Scenario) (cells : List (Option Told)) → HasMade at.source scenario cells → frame ≡ frame_of scenario
    (with_cell cells cell) at.source.ticks) →
    source.ticks ≡ at.source.ticks + 1 → SameKind source at.source → ArePushed frame at.tx tx →
    Made at source inbox tx cell frame
made-by at size source inbox tx cell frame needs k same there first left make frame_is ticks kind pushed = record {
  takes = takes-by at size inbox cell needs k same there first left;
  lost = ap (λ (i : Inbox). i.lost) left;
  room = ap (λ (i : Inbox). i.room) left;
  fewer = (let size = ap (λ (i : Inbox). length i.cells) left in let low = fewer-rest needs at.inbox.cells in
      omega arith);
  make = make;
  frame_is = frame_is;
  ticks = ticks;
  same = kind;
  pushed = pushed;
}

pub same-ends : (frame : List Container) (a b : List (OutEnd Container)) → length frame ≡ length a →
    ArePushed frame a b → SameOuts a b
same-ends frame a b long pushed = record {
  count = pushed.count;
  each = λ m old new was is.
      let inside = slice_get_within a m old was in
      let (container, there) = slice_get-inside frame m (omega arith) in
      (pushed.each m container old new there was is).same;
}
