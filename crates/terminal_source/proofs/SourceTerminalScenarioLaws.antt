-- The scenario of a source terminal: a new one, and what frames, commands and return packets make of it.
use Rattle.std.proofs.Common.{◌≡◌, ◌≤◌, ℕ, zero, suc, ◌-◌, List, Option, refl, ◌∙◌, ap, arith, ◌<◌, ◌%◌, ◌^◌, ◌==◌}
use Rattle.std.proofs.Common.{not, Bool, true, false, [], ◌∷◌, map, length, slice_index_or, sym, ◌+◌, ◌*◌, ◌&&◌}
use Rattle.std.proofs.Common.{nat_le, nat_lt, if◌then◌else◌, ◌++◌, filter, fold, All, ap₂, subst, replicate}
use Rattle.std.proofs.Common.{option_map, eqb-true, mul-le-mul_left, take, drop, None, take-append-drop, le-ltb}
use Rattle.law_model.specs.Common.{Scenario, steps_in, packet_nibbles, Told, active, table_of, forward_packet, telling}
use Rattle.law_model.specs.Common.{telling_at, bits, number, bit_nibble, oks_in, untold, mst_by, DueCommand, DueFrame}
use Rattle.law_model.specs.Common.{orders_at, frames_at, lands_at, comes_at, asked, asked_all, after, Course, called}
use Rattle.law_model.specs.Common.{asks, Stream, offered, stream_before, place_of, BackCell, told_in, said_by, cell_at}
use Rattle.law_session.proofs.ClientStreamAndReplayLaws.{Alike, alike-after, alike-place, alike-stream, map-same}
use Rattle.terminal_source.specs.source_core.GivenScenario.{nibbles_after, active_now, told_next, with_frame}
use Rattle.terminal_source.specs.source_core.GivenScenario.{with_command, with_told, stream_now, source_now}
use Rattle.terminal_source.specs.source_core.GivenScenario.{course_now, nibbles_now, SourceStands, IsFresh, has_come}
use Rattle.terminal_source.specs.source_core.GivenScenario.{first_items, ComesAlike}
use Rattle.std.proofs.lemmas.List.FromFn.{fill_by_all, length-map-range_with_len}
use Rattle.law_model.proofs.ListLaws.{not-not}
use Rattle.check_remainder.proofs.NumberAndOctetBitsLaws.{length-bits, number-bits}
use Rattle.std.specs.List.{range_with_len}
use Rattle.std.proofs.lemmas.Bool.Decides.{nat_tests}
use Rattle.std.proofs.lemmas.List.{map-append, append-nil, length-replicate, get_or-replicate}
use Rattle.std.proofs.lemmas.List.Elements.{filter-append, All-append, All-replicate}
use Rattle.std.proofs.lemmas.List.Sums.{fold-append}
use Rattle.law_model.specs.declared.lcas_states.Command.{Command}
use Rattle.gfp_fill.specs.Queue.{Held, unbegun}
use Rattle.gfp_fill.specs.SentAreas.{Sender}
use Rattle.gfp_fill.specs.FilledStream.{FillerStands as HasWritten, unsent}
use Rattle.terminal_source.specs.source_core.StepOfTerminal.{terminal_of, AreNibbles, AreMembers, IsTerminal, is_step}
use Rattle.terminal_source.specs.source_core.StepOfTerminal.{table_by, active_by, nibbles_by}
use Rattle.law_model.specs.source.Source.{opening}
use Rattle.law_model.specs.source.Course.{begun}
use Rattle.law_session.proofs.SourceOrderAndPlanLaws.{opening-fits, Fits, Fits-asked, Fits-decide}
use Rattle.std.proofs.lemmas.Bool.{eqb-false}
use Rattle.terminal_source.proofs.DealtFrameContainerLaws.{active-members}
use Rattle.law_session.specs.ReturnedCells.{AgreeBefore}
use Rattle.law_session.proofs.ReturnCellAndLineWordLaws.{Agree-first}
use Rattle.terminal_source.proofs.TerminalTickSteps.{filter-none}
use Rattle.law_model.specs.Common.{most_lines}

-- ---- What a terminal holds of two sessions that are alike so far.
pub alike-active : (one : Scenario) (a : List (Option Told)) (other : Scenario) (b : List (Option Told)) (t : ℕ) →
    Alike one a other b t → active_now one a t ≡ active_now other b t
alike-active one a other b t alike =
    ap (λ source. active source.table) (alike-after one a other b t (steps_in t - 1) alike (omega arith))

nibbles-by : (one : Scenario) (a : List (Option Told)) (other : Scenario) (b : List (Option Told)) (t line j : ℕ) →
    Alike one a other b t → j ≤ steps_in t → nibbles_after one a line j ≡ nibbles_after other b line j
nibbles-by one a other b t line zero alike low = refl
nibbles-by one a other b t line (suc k) alike low =
    ap (λ source. packet_nibbles (telling (telling_at one k) (forward_packet source.table line k)))
    (alike-after one a other b t (suc k) alike low)
    ∙ ap (λ told. packet_nibbles (telling told (forward_packet (table_of other b k) line k)))
    (alike.tells k (omega arith))

pub alike-nibbles : (one : Scenario) (a : List (Option Told)) (other : Scenario) (b : List (Option Told)) (t line : ℕ) →
    Alike one a other b t →
    nibbles_after one a line (steps_in t) ≡ nibbles_after other b line (steps_in t)
alike-nibbles one a other b t line alike = nibbles-by one a other b t line (steps_in t) alike (omega arith)

-- ---- What the packets of a terminal tell: a return packet that is passed on, and the list of what is told.
-- ---- a return packet that is passed on
not-at : (bs : List Bool) (place : ℕ) → slice_index_or bs place false ≡ not (slice_index_or (map not bs) place true)
not-at [] place = refl
not-at (b ∷ bs) zero = sym (not-not b)
not-at (b ∷ bs) (suc place) = not-at bs place

-- member status goes on as it came
pub mst-passed : (mst : ℕ) → mst < 256 → mst_by (oks_in mst) ≡ mst
mst-passed mst small =
    ap number (sym (fill_by_all (λ place. not (slice_index_or (oks_in mst) place true)) (bits 8 mst) 8 false
    (length-bits 8 mst) (λ place low. not-at (bits 8 mst) place)))
    ∙ number-bits 8 mst ∙ (let same : mst % 2 ^ 8 ≡ mst = omega arith in same)

-- and so does RS-Ack
pub rs_ack-passed : (rs_ack : Bool) → (bit_nibble rs_ack == 1) ≡ rs_ack
rs_ack-passed true = refl
rs_ack-passed false = refl

-- ---- what is told
pub next-length : (n : ℕ) (told : Told) (tells : List Told) → length (told_next n told tells) ≡ suc n
unfolding told_next
next-length zero told tells = refl
next-length (suc n) told [] = ap suc (next-length n told [])
next-length (suc n) told (first ∷ tells) = ap suc (next-length n told tells)

pub next-here : (n : ℕ) (told : Told) (tells : List Told) → slice_index_or (told_next n told tells) n untold ≡ told
unfolding told_next
next-here zero told tells = refl
next-here (suc n) told [] = next-here n told []
next-here (suc n) told (first ∷ tells) = next-here n told tells

pub next-before : (n k : ℕ) (told : Told) (tells : List Told) → k < n →
    slice_index_or (told_next n told tells) k untold ≡ slice_index_or tells k untold
unfolding told_next
next-before zero k told tells low = absurd (omega arith)
next-before (suc n) zero told [] low = refl
next-before (suc n) zero told (first ∷ tells) low = refl
next-before (suc n) (suc k) told [] low = next-before n k told [] (omega arith)
next-before (suc n) (suc k) told (first ∷ tells) low = next-before n k told tells (omega arith)

-- ---- What a frame, a command and a return packet that is passed on make of a terminal's scenario.
-- ---- what lands when
comes-later : (due u t : ℕ) → u < t → t ≤ due → (nat_le due u && nat_le u due) ≡ false
comes-later due u t low high = grind (arith, nat_tests, low, high)

comes-now : (t : ℕ) → (nat_le t t && nat_le t t) ≡ true
comes-now t = grind (arith, nat_tests)

lands-later : (due j : ℕ) → j < steps_in due → (nat_lt (16 * j) (due + 8) && nat_le due (16 * j + 8)) ≡ false
lands-later due j low = grind (arith, nat_tests, low)

pub lands-now : (due : ℕ) → (nat_lt (16 * steps_in due) (due + 8) && nat_le due (16 * steps_in due + 8)) ≡ true
lands-now due = grind (arith, nat_tests)

-- ---- a scenario of other items, or of which the packets tell something else, which is alike so far
alike-again : (scenario : Scenario) (offers : List DueFrame) (orders : List DueCommand) (tells : List Told)
    (cells : List (Option Told)) (t : ℕ) →
    ((j : ℕ) → j < steps_in t → orders_at (record scenario { orders = orders }) j ≡ orders_at scenario j) →
    ((u : ℕ) → u < t → frames_at (record scenario { offers = offers }) u ≡ frames_at scenario u) →
    ((k : ℕ) → k < steps_in t → telling_at (record scenario { tells = tells }) k ≡ telling_at scenario k) →
    Alike (record scenario { offers = offers; orders = orders; tells = tells }) cells scenario cells t
alike-again scenario offers orders tells cells t same_orders same_offers same_tells = record {
  lines = refl;
  lag = refl;
  size = refl;
  statuses = refl;
  orders = same_orders;
  cells = λ j low. refl;
  offers = same_offers;
  tells = same_tells;
}

module _ (scenario : Scenario) (offers : List DueFrame) (orders : List DueCommand) (tells : List Told)
    (cells : List (Option Told)) (t : ℕ)
    (alike : Alike (record scenario { offers = offers; orders = orders; tells = tells }) cells scenario cells t) where
  abbrev more : Scenario
  more = record scenario { offers = offers; orders = orders; tells = tells }

  again-course : orders_at more (steps_in t) ≡ orders_at scenario (steps_in t) →
      course_now scenario cells t ≡ course_now more cells t
  again-course same = sym (ap₂ (λ commands source. record {
    lines = length scenario.windows;
    statuses = scenario.options.statuses;
    source = asked_all (length scenario.windows) commands source;
    taken = steps_in t - scenario.lag;
    steps = steps_in t;
  }) same (alike-after more cells scenario cells t (steps_in t) alike (omega arith)))

  again-stream : frames_at more t ≡ frames_at scenario t → (sender : Sender) (queue : Held) →
      HasWritten sender queue (stream_now scenario cells t) (place_of scenario cells t) →
      HasWritten sender queue (stream_now more cells t) (place_of more cells t)
  again-stream same sender queue written =
      subst (λ s. HasWritten sender queue s (place_of more cells t))
      (sym (ap₂ (fold offered) (alike-stream more cells scenario cells t alike) same))
      (subst (HasWritten sender queue (stream_now scenario cells t))
      (sym (alike-place more cells scenario cells t alike)) written)

  again-nibbles : nibbles_now scenario cells t ≡ nibbles_now more cells t
  again-nibbles = map-same (λ line. nibbles_after scenario cells line (steps_in t))
      (λ line. nibbles_after more cells line (steps_in t))
      (λ line. sym (alike-nibbles more cells scenario cells t line alike)) (range_with_len 0 (length scenario.windows))

-- ---- a frame
abbrev pub offer_now : ℕ → List ℕ → DueFrame
offer_now t frame = record { due = t; frame = frame }

frames-if : (scenario : Scenario) (t u : ℕ) (frame : List ℕ) (b : Bool) → comes_at u (offer_now t frame) ≡ b →
    frames_at (with_frame scenario t frame) u ≡ frames_at scenario u ++ map (λ (offer : DueFrame). offer.frame)
    (if b then offer_now t frame ∷ [] else [])
frames-if scenario t u frame b e =
    ap (map (λ (offer : DueFrame). offer.frame)) (filter-append (comes_at u) scenario.offers (offer_now t frame ∷ []))
    ∙ map-append (λ (offer : DueFrame). offer.frame) (filter (comes_at u) scenario.offers)
    (filter (comes_at u) (offer_now t frame ∷ []))
    ∙ ap (λ c. frames_at scenario u ++ map (λ (offer : DueFrame). offer.frame)
    (if c then offer_now t frame ∷ [] else [])) e

frames-before : (scenario : Scenario) (t u : ℕ) (frame : List ℕ) → u < t →
    frames_at (with_frame scenario t frame) u ≡ frames_at scenario u
frames-before scenario t u frame low =
    frames-if scenario t u frame false (comes-later t u t low (omega arith)) ∙ append-nil (frames_at scenario u)

frames-now : (scenario : Scenario) (t : ℕ) (frame : List ℕ) →
    frames_at (with_frame scenario t frame) t ≡ frames_at scenario t ++ frame ∷ []
frames-now scenario t frame = frames-if scenario t t frame true (comes-now t)

with_frame-alike : (scenario : Scenario) (cells : List (Option Told)) (t : ℕ) (frame : List ℕ) →
    Alike (with_frame scenario t frame) cells scenario cells t
with_frame-alike scenario cells t frame = alike-again scenario (with_frame scenario t frame).offers scenario.orders
    scenario.tells cells t (λ j low. refl) (λ u low. frames-before scenario t u frame low) (λ k low. refl)

stream-with : (scenario : Scenario) (cells : List (Option Told)) (t : ℕ) (frame : List ℕ) →
    stream_now (with_frame scenario t frame) cells t ≡ offered (stream_now scenario cells t) frame
stream-with scenario cells t frame =
    ap₂ (fold offered)
    (alike-stream (with_frame scenario t frame) cells scenario cells t (with_frame-alike scenario cells t frame))
    (frames-now scenario t frame)
    ∙ fold-append offered (stream_before scenario cells t) (frames_at scenario t) (frame ∷ [])

All-one : {X : Type 0} (P : X → Type 0) (x : X) → P x → All P (x ∷ [])
All-one P x p zero d low = p
All-one P x p (suc k) d low = absurd (omega arith)

pub Stands-with_frame : (lag size ticks : ℕ) (queue after : Held) (sender : Sender) (table : Course) (active : List ℕ)
    (nibbles : List (List ℕ)) (told : Told) (scenario : Scenario) (cells : List (Option Told)) (frame : List ℕ) →
    ((stream : Stream) (place : ℕ) → HasWritten sender queue stream place →
    HasWritten sender after (offered stream frame) place) →
    SourceStands (terminal_of lag size ticks queue sender table active nibbles told) scenario cells →
    SourceStands (terminal_of lag size ticks after sender table active nibbles told) (with_frame scenario ticks frame) cells
Stands-with_frame lag size ticks queue next sender table active nibbles told scenario cells frame pushes stands =
    let more = with_frame scenario ticks frame in
    let alike = with_frame-alike scenario cells ticks frame in
    record {
      lines = stands.lines;
      lag = stands.lag;
      size = stands.size;
      statuses = stands.statuses;
      offers = All-append (λ (offer : DueFrame). offer.due ≤ ticks) scenario.offers
          (offer_now ticks frame ∷ []) stands.offers
          (All-one (λ (offer : DueFrame). offer.due ≤ ticks) (offer_now ticks frame) (omega arith));
      orders = stands.orders;
      told = stands.told;
      table = stands.table ∙ again-course scenario more.offers more.orders more.tells cells ticks alike refl;
      stream = subst (λ s. HasWritten sender next s (place_of more cells ticks))
          (sym (stream-with scenario cells ticks frame))
          (subst (λ place. HasWritten sender next (offered (stream_now scenario cells ticks) frame) place)
          (sym (alike-place more cells scenario cells ticks alike))
          (pushes (stream_now scenario cells ticks) (place_of scenario cells ticks) stands.stream));
      active = stands.active ∙ sym (alike-active more cells scenario cells ticks alike);
      nibbles = stands.nibbles ∙ again-nibbles scenario more.offers more.orders more.tells cells ticks alike;
      tells = stands.tells;
      telling = stands.telling;
    }

-- ---- a command
abbrev pub order_now : ℕ → Command → DueCommand
order_now t command = record { due = t; command = command }

orders-if : (scenario : Scenario) (t j : ℕ) (command : Command) (b : Bool) → lands_at j (order_now t command) ≡ b →
    orders_at (with_command scenario t command) j ≡ orders_at scenario j ++ map (λ (order : DueCommand). order.command)
    (if b then order_now t command ∷ [] else [])
orders-if scenario t j command b e =
    ap (map (λ (order : DueCommand). order.command))
    (filter-append (lands_at j) scenario.orders (order_now t command ∷ []))
    ∙ map-append (λ (order : DueCommand). order.command) (filter (lands_at j) scenario.orders)
    (filter (lands_at j) (order_now t command ∷ []))
    ∙ ap (λ c. orders_at scenario j ++ map (λ (order : DueCommand). order.command)
    (if c then order_now t command ∷ [] else [])) e

orders-before : (scenario : Scenario) (t j : ℕ) (command : Command) → j < steps_in t →
    orders_at (with_command scenario t command) j ≡ orders_at scenario j
orders-before scenario t j command low = orders-if scenario t j command false (lands-later t j low)
    ∙ append-nil (orders_at scenario j)

orders-now : (scenario : Scenario) (t : ℕ) (command : Command) →
    orders_at (with_command scenario t command) (steps_in t) ≡ orders_at scenario (steps_in t) ++ command ∷ []
orders-now scenario t command = orders-if scenario t (steps_in t) command true (lands-now t)

with_command-alike : (scenario : Scenario) (cells : List (Option Told)) (t : ℕ) (command : Command) →
    Alike (with_command scenario t command) cells scenario cells t
with_command-alike scenario cells t command = alike-again scenario scenario.offers (with_command scenario t command).orders
    scenario.tells cells t (λ j low. orders-before scenario t j command low) (λ u low. refl) (λ k low. refl)

source-with : (scenario : Scenario) (cells : List (Option Told)) (t : ℕ) (command : Command) →
    source_now (with_command scenario t command) cells t ≡ asked (length scenario.windows)
    (source_now scenario cells t) command
source-with scenario cells t command =
    let lines = length scenario.windows in
    let more = with_command scenario t command in
    ap (λ orders. asked_all lines orders (after more cells (steps_in t))) (orders-now scenario t command)
    ∙ ap (asked_all lines (orders_at scenario (steps_in t) ++ command ∷ []))
    (alike-after more cells scenario cells t (steps_in t) (with_command-alike scenario cells t command) (omega arith))
    ∙ fold-append (asked lines) (after scenario cells (steps_in t)) (orders_at scenario (steps_in t)) (command ∷ [])

pub Stands-with_command : (lag size ticks : ℕ) (queue : Held) (sender : Sender) (table next : Course) (active : List ℕ)
    (nibbles : List (List ℕ)) (told : Told) (scenario : Scenario) (cells : List (Option Told)) (command : Command) →
    next ≡ called table (asks command) →
    SourceStands (terminal_of lag size ticks queue sender table active nibbles told) scenario cells →
    SourceStands (terminal_of lag size ticks queue sender next active nibbles told)
    (with_command scenario ticks command) cells
Stands-with_command lag size ticks queue sender table next active nibbles told scenario cells command is stands =
    let more = with_command scenario ticks command in
    let alike = with_command-alike scenario cells ticks command in
    record {
      lines = ap (λ (course : Course). course.lines) is ∙ stands.lines;
      lag = stands.lag;
      size = stands.size;
      statuses = ap (λ (course : Course). course.statuses) is ∙ stands.statuses;
      offers = stands.offers;
      orders = All-append (λ (order : DueCommand). order.due ≤ ticks) scenario.orders
          (order_now ticks command ∷ []) stands.orders
          (All-one (λ (order : DueCommand). order.due ≤ ticks) (order_now ticks command) (omega arith));
      told = stands.told;
      table = is ∙ ap (λ course. called course (asks command)) stands.table ∙ sym (ap (λ source. record {
        lines = length scenario.windows;
        statuses = scenario.options.statuses;
        source = source;
        taken = steps_in ticks - scenario.lag;
        steps = steps_in ticks;
      }) (source-with scenario cells ticks command));
      stream = again-stream scenario more.offers more.orders more.tells cells ticks alike refl sender queue stands.stream;
      active = stands.active ∙ sym (alike-active more cells scenario cells ticks alike);
      nibbles = stands.nibbles ∙ again-nibbles scenario more.offers more.orders more.tells cells ticks alike;
      tells = stands.tells;
      telling = stands.telling;
    }

-- ---- what the packets of the next decision step tell
with_told-alike : (scenario : Scenario) (cells : List (Option Told)) (t : ℕ) (said : Told) →
    Alike (with_told scenario (steps_in t) said) cells scenario cells t
with_told-alike scenario cells t said = alike-again scenario scenario.offers scenario.orders
    (with_told scenario (steps_in t) said).tells cells t (λ j low. refl) (λ u low. refl)
    (λ k low. next-before (steps_in t) k said scenario.tells low)

pub Stands-with_told : (lag size ticks : ℕ) (queue : Held) (sender : Sender) (table : Course) (active : List ℕ)
    (nibbles : List (List ℕ)) (told said : Told) (scenario : Scenario) (cells : List (Option Told)) →
    SourceStands (terminal_of lag size ticks queue sender table active nibbles told) scenario cells →
    SourceStands (terminal_of lag size ticks queue sender table active nibbles said)
    (with_told scenario (steps_in ticks) said) cells
Stands-with_told lag size ticks queue sender table active nibbles told said scenario cells stands =
    let more = with_told scenario (steps_in ticks) said in
    let alike = with_told-alike scenario cells ticks said in
    let size_of = next-length (steps_in ticks) said scenario.tells in
    record {
      lines = stands.lines;
      lag = stands.lag;
      size = stands.size;
      statuses = stands.statuses;
      offers = stands.offers;
      orders = stands.orders;
      told = stands.told;
      table = stands.table ∙ again-course scenario more.offers more.orders more.tells cells ticks alike refl;
      stream = again-stream scenario more.offers more.orders more.tells cells ticks alike refl sender queue stands.stream;
      active = stands.active ∙ sym (alike-active more cells scenario cells ticks alike);
      nibbles = stands.nibbles ∙ again-nibbles scenario more.offers more.orders more.tells cells ticks alike;
      tells = omega arith;
      telling = sym (next-here (steps_in ticks) said scenario.tells);
    }

-- ---- A terminal to which nothing was given.
-- no line carries payload
none-members : (lines : ℕ) → AreMembers lines []
none-members lines = record {
  among = λ rank low. absurd (omega arith);
  distinct = λ rank other before low. absurd (omega arith);
  most = omega arith;
}

zeros-below : (lines : ℕ) → AreNibbles (replicate lines (replicate 16 0))
zeros-below lines =
    All-replicate (λ nibbles. All (λ nibble. nibble < 16) nibbles) lines (replicate 16 0)
    (All-replicate (λ nibble. nibble < 16) 16 0 (omega arith))

pub IsTerminal-new : (lag size lines statuses : ℕ) (queue : Held) (sender : Sender) (table : Course) (active : List ℕ)
    (nibbles : List (List ℕ)) (told : Told) (octets : ℕ) →
    lines ≤ most_lines → size ≤ 2340 → table ≡ begun lines statuses → active ≡ [] →
    nibbles ≡ replicate lines (replicate 16 0) → octets ≡ size * lines →
    IsTerminal (terminal_of lag size 0 queue sender table active nibbles told) octets
IsTerminal-new lag size lines statuses queue sender table active nibbles told octets few small is_table none zeros room =
    subst (λ table. IsTerminal (terminal_of lag size 0 queue sender table active nibbles told) octets) (sym is_table)
    (subst (λ active. IsTerminal (terminal_of lag size 0 queue sender (begun lines statuses) active nibbles told) octets)
    (sym none)
    (subst (λ nibbles. IsTerminal (terminal_of lag size 0 queue sender (begun lines statuses) [] nibbles told) octets)
    (sym zeros) (record {
      lines = few;
      size = small;
      room = room;
      fits = opening-fits lines;
      steps = refl;
      active = none-members lines;
      nibbles = length-replicate lines (replicate 16 0);
      below = zeros-below lines;
    })))

-- ---- the scenario
no-orders : (scenario : Scenario) (j : ℕ) → scenario.orders ≡ [] → orders_at scenario j ≡ []
no-orders scenario j none = ap (λ orders. map (λ (order : DueCommand). order.command) (filter (lands_at j) orders)) none

no-frames : (scenario : Scenario) (t : ℕ) → scenario.offers ≡ [] → frames_at scenario t ≡ []
no-frames scenario t none = ap (λ offers. map (λ (offer : DueFrame). offer.frame) (filter (comes_at t) offers)) none

source-new : (scenario : Scenario) → scenario.orders ≡ [] → source_now scenario [] 0 ≡ opening (length scenario.windows)
unfolding after
source-new scenario none = ap (λ orders. asked_all (length scenario.windows) orders (after scenario [] 0))
    (no-orders scenario 0 none)

course-new : (scenario : Scenario) (lines statuses : ℕ) → scenario.orders ≡ [] → length scenario.windows ≡ lines →
    scenario.options.statuses ≡ statuses → begun lines statuses ≡ course_now scenario [] 0
course-new scenario lines statuses none are_lines are_statuses =
    let count : 0 - scenario.lag ≡ 0 = omega arith in
    sym (ap (λ source. record {
      lines = length scenario.windows;
      statuses = scenario.options.statuses;
      source = source;
      taken = 0 - scenario.lag;
      steps = 0;
    }) (source-new scenario none)
    ∙ ap (λ taken. record {
      lines = length scenario.windows;
      statuses = scenario.options.statuses;
      source = opening (length scenario.windows);
      taken = taken;
      steps = 0;
    }) count
    ∙ ap₂ begun are_lines are_statuses)

stream-new : (scenario : Scenario) → scenario.offers ≡ [] → stream_now scenario [] 0 ≡ unsent []
unfolding stream_before
stream-new scenario none = ap (fold offered (stream_before scenario [] 0)) (no-frames scenario 0 none)

place-new : (scenario : Scenario) → place_of scenario [] 0 ≡ 0
unfolding place_of
place-new scenario = refl

active-new : (scenario : Scenario) → active_now scenario [] 0 ≡ []
unfolding after
active-new scenario = refl

nibbles-new : (scenario : Scenario) (lines : ℕ) → length scenario.windows ≡ lines →
    replicate lines (replicate 16 0) ≡ nibbles_now scenario [] 0
nibbles-new scenario lines are_lines =
    fill_by_all (λ line. nibbles_after scenario [] line (steps_in 0)) (replicate lines (replicate 16 0))
    (length scenario.windows) []
    (length-replicate lines (replicate 16 0) ∙ sym are_lines)
    (λ line low. get_or-replicate lines line (replicate 16 0) [] (omega arith))

pub Stands-new : (lag size lines statuses : ℕ) (queue : Held) (sender : Sender) (table : Course) (active : List ℕ)
    (nibbles : List (List ℕ)) (told : Told) (scenario : Scenario) →
    queue ≡ unbegun [] → HasWritten sender (unbegun []) (unsent []) 0 → table ≡ begun lines statuses → active ≡ [] →
    nibbles ≡ replicate lines (replicate 16 0) → told ≡ untold →
    IsFresh scenario lines lag size statuses → SourceStands (terminal_of lag size 0 queue sender table active nibbles told) scenario []
Stands-new lag size lines statuses queue sender table active nibbles told scenario is_queue written is_table none zeros silent
    fresh =
    record {
      lines = ap (λ (course : Course). course.lines) is_table ∙ sym fresh.of_lines;
      lag = sym fresh.of_lag;
      size = sym fresh.of_size;
      statuses = ap (λ (course : Course). course.statuses) is_table ∙ sym fresh.of_statuses;
      offers = subst (All (λ (offer : DueFrame). offer.due ≤ 0)) (sym fresh.no_offers)
          (λ k d low. absurd (omega arith));
      orders = subst (All (λ (order : DueCommand). order.due ≤ 0)) (sym fresh.no_orders)
          (λ k d low. absurd (omega arith));
      told = omega arith;
      table = is_table ∙ course-new scenario lines statuses fresh.no_orders fresh.of_lines fresh.of_statuses;
      stream = subst (λ queue. HasWritten sender queue (stream_now scenario [] 0) (place_of scenario [] 0))
          (sym is_queue)
          (subst (λ stream. HasWritten sender (unbegun []) stream (place_of scenario [] 0))
          (sym (stream-new scenario fresh.no_offers))
          (subst (HasWritten sender (unbegun []) (unsent [])) (sym (place-new scenario)) written));
      active = none ∙ sym (active-new scenario);
      nibbles = zeros ∙ nibbles-new scenario lines fresh.of_lines;
      tells = let none_told = ap length fresh.no_tells in omega arith;
      telling = silent ∙ ap (λ tells. slice_index_or tells (steps_in 0) untold) (sym fresh.no_tells);
    }

-- ---- What is true of a terminal's fields, call by call.
-- a command
pub IsTerminal-asked : (lag size ticks : ℕ) (queue : Held) (sender : Sender) (table next : Course) (active : List ℕ)
    (nibbles : List (List ℕ)) (told : Told) (octets : ℕ) (command : Command) →
    next ≡ called table (asks command) →
    IsTerminal (terminal_of lag size ticks queue sender table active nibbles told) octets →
    IsTerminal (terminal_of lag size ticks queue sender next active nibbles told) octets
IsTerminal-asked lag size ticks queue sender table next active nibbles told octets command is fields =
    subst (λ course. IsTerminal (terminal_of lag size ticks queue sender course active nibbles told) octets) (sym is)
    (record {
      lines = fields.lines;
      size = fields.size;
      room = fields.room;
      fits = Fits-asked table.lines table.source command fields.fits;
      steps = fields.steps;
      active = fields.active;
      nibbles = fields.nibbles;
      below = fields.below;
    })

-- ---- a tick
pub table_by-lines : (b : Bool) (back : Option BackCell) (table : Course) → (table_by b back table).lines ≡ table.lines
table_by-lines true back table = refl
table_by-lines false back table = refl

table_by-fits : (b : Bool) (back : Option BackCell) (table : Course) → Fits table.lines table.source →
    Fits table.lines (table_by b back table).source
table_by-fits true back table fits =
    Fits-decide table.lines (table.taken % table.statuses) (said_by (option_map told_in back)) table.source fits
table_by-fits false back table fits = fits

-- how many decision steps are made after a tick
table_by-steps : (t : ℕ) (b : Bool) (back : Option BackCell) (table : Course) → is_step t ≡ b →
    table.steps ≡ steps_in t → (table_by b back table).steps ≡ steps_in (t + 1)
table_by-steps t true back table e steps = let at = eqb-true (t % 16) 8 e in omega arith
table_by-steps t false back table e steps = let other = eqb-false (t % 16) 8 e in omega arith

pub active_by-members : (b : Bool) (table : Course) (active : List ℕ) → Fits table.lines table.source →
    AreMembers table.lines active → AreMembers table.lines (active_by b table active)
active_by-members true table active fits members = active-members table.lines table.source fits
active_by-members false table active fits members = members

pub nibbles_by-length : (b : Bool) (table : Course) (told : Told) (nibbles : List (List ℕ)) →
    length (nibbles_by b table told nibbles) ≡ length nibbles
nibbles_by-length true table told nibbles = length-map-range_with_len _ 0 (length nibbles)
nibbles_by-length false table told nibbles = refl

pub IsTerminal-ticked : (lag size ticks : ℕ) (queue later : Held) (sender further : Sender) (table next : Course)
    (active members : List ℕ) (nibbles said : List (List ℕ)) (told left : Told) (octets : ℕ) (back : Option BackCell) →
    next ≡ table_by (is_step ticks) back table → members ≡ active_by (is_step ticks) table active →
    said ≡ nibbles_by (is_step ticks) next told nibbles → AreNibbles said →
    IsTerminal (terminal_of lag size ticks queue sender table active nibbles told) octets →
    IsTerminal (terminal_of lag size (ticks + 1) later further next members said left) octets
IsTerminal-ticked lag size ticks queue later sender further table next active members nibbles said told left octets back
    is_next is_members is_said below fields =
    let b = is_step ticks in
    let lines = ap (λ (course : Course). course.lines) is_next ∙ table_by-lines b back table in
    let many = ap length is_said ∙ nibbles_by-length b next told nibbles in
    let few = fields.lines in
    let had = fields.nibbles in
    record {
      lines = omega arith;
      size = fields.size;
      room = fields.room ∙ ap (λ n. size * n) (sym lines);
      fits = subst (λ n. Fits n next.source) (sym lines)
          (subst (λ (course : Course). Fits table.lines course.source) (sym is_next)
          (table_by-fits b back table fields.fits));
      steps = ap (λ (course : Course). course.steps) is_next ∙ table_by-steps ticks b back table refl fields.steps;
      active = subst (λ n. AreMembers n members) (sym lines)
          (subst (AreMembers table.lines) (sym is_members)
          (active_by-members b table active fields.fits fields.active));
      nibbles = omega arith;
      below = below;
    }

-- the lines that carry payload after a decision step
pub next-members : (lag size ticks : ℕ) (queue : Held) (sender : Sender) (table : Course) (active members : List ℕ)
    (nibbles : List (List ℕ)) (told : Told) (octets : ℕ) →
    members ≡ active_by (is_step ticks) table active →
    IsTerminal (terminal_of lag size ticks queue sender table active nibbles told) octets →
    AreMembers table.lines members
next-members lag size ticks queue sender table active members nibbles told octets is fields =
    subst (AreMembers table.lines) (sym is) (active_by-members (is_step ticks) table active fields.fits fields.active)

-- the octets of a frame fit the room
pub frame-fits : (size lines octets n x : ℕ) (active : List ℕ) → octets ≡ size * lines → AreMembers lines active →
    n ≡ size → x ≡ length active → n * x ≤ octets
frame-fits size lines octets n x active room members is_size is_many =
    let most = members.most in
    let fits : size * length active ≤ size * lines = mul-le-mul_left size most in
    let same : n * x ≡ size * length active = ap (λ n. n * x) is_size ∙ ap (λ x. size * x) is_many in
    omega arith

-- ---- What lands later changes nothing of what was sent before.
filter-filter : {X : Type 0} (fine all : X → Bool) (xs : List X) → ((x : X) → fine x ≡ true → all x ≡ true) →
    filter fine (filter all xs) ≡ filter fine xs
filter-filter fine all [] within = refl
filter-filter fine all (x ∷ xs) within =
    elim (all x) as (λ b. all x ≡ b →
    filter fine (if b then x ∷ filter all xs else filter all xs) ≡ filter fine (x ∷ xs)) [
      | true ↦ λ e. ap (λ rest. if fine x then x ∷ rest else rest) (filter-filter fine all xs within)
      | false ↦ λ e. filter-filter fine all xs within
          ∙ sym (ap (λ b. if b then x ∷ filter fine xs else filter fine xs) (outside (fine x) refl e))
    ] refl where
      outside : (b : Bool) → fine x ≡ b → all x ≡ false → fine x ≡ false
      outside true is none = let there = within x is in cc
      outside false is none = is

same-parts : {X : Type 0} (fine all : X → Bool) (xs ys : List X) → ((x : X) → fine x ≡ true → all x ≡ true) →
    filter all xs ≡ filter all ys → filter fine xs ≡ filter fine ys
same-parts fine all xs ys within same = sym (filter-filter fine all xs within) ∙ ap (filter fine) same
    ∙ filter-filter fine all ys within

lands-within : (due j t : ℕ) → j < steps_in t → (nat_lt (16 * j) (due + 8) && nat_le due (16 * j + 8)) ≡ true →
    nat_lt due t ≡ true
lands-within due j t low lands = grind (arith, nat_tests, low, lands)

comes-within : (due u t : ℕ) → u < t → (nat_le due u && nat_le u due) ≡ true → nat_lt due t ≡ true
comes-within due u t low comes = grind (arith, nat_tests, low, comes)

cells-same : (one other : Scenario) (a b : List (Option Told)) (n : ℕ) → one.lag ≡ other.lag →
    AgreeBefore (n - one.lag) a b → (j : ℕ) → j < n → cell_at one a j ≡ cell_at other b j
cells-same one other a b n lag agree j low =
    Agree-first one a b n agree j low ∙ ap (λ lag. if nat_le lag j then slice_index_or b (j - lag) None else None) lag

pub alike-landed : (one other : Scenario) (a b : List (Option Told)) (t : ℕ) → ComesAlike one other t →
    AgreeBefore (steps_in t - one.lag) a b → Alike one a other b t
alike-landed one other a b t comes agree = record {
  lines = comes.lines;
  lag = comes.lag;
  size = comes.size;
  statuses = comes.statuses;
  orders = λ j low. ap (map (λ (order : DueCommand). order.command))
      (same-parts (lands_at j) (λ (order : DueCommand). has_come t order.due) one.orders other.orders
      (λ order lands. lands-within order.due j t low lands) comes.orders);
  cells = λ j low. cells-same one other a b (steps_in t) comes.lag agree j low;
  offers = λ u low. ap (map (λ (offer : DueFrame). offer.frame))
      (same-parts (comes_at u) (λ (offer : DueFrame). has_come t offer.due) one.offers other.offers
      (λ offer here. comes-within offer.due u t low here) comes.offers);
  tells = comes.tells;
}

-- ---- the first items of a session, where none of the others is due yet
prefix-alike : {X : Type 0} (all : X → Bool) (n : ℕ) (xs : List X) → All (λ x. all x ≡ false) (drop n xs) →
    filter all (take n xs) ≡ filter all xs
prefix-alike all n xs none =
    sym (append-nil (filter all (take n xs)))
    ∙ ap (λ rest. filter all (take n xs) ++ rest) (sym (filter-none all (drop n xs) none))
    ∙ sym (filter-append all (take n xs) (drop n xs)) ∙ ap (filter all) (take-append-drop n xs)

pub first-alike : (scenario : Scenario) (n m t : ℕ) →
    All (λ (order : DueCommand). t ≤ order.due) (drop n scenario.orders) →
    All (λ (offer : DueFrame). t ≤ offer.due) (drop m scenario.offers) →
    ComesAlike (first_items scenario n m) scenario t
first-alike scenario n m t orders offers = record {
  lines = refl;
  lag = refl;
  size = refl;
  statuses = refl;
  offers = prefix-alike (λ (offer : DueFrame). has_come t offer.due) m scenario.offers
      (λ k d low. le-ltb (slice_index_or (drop m scenario.offers) k d).due t (offers k d low));
  orders = prefix-alike (λ (order : DueCommand). has_come t order.due) n scenario.orders
      (λ k d low. le-ltb (slice_index_or (drop n scenario.orders) k d).due t (orders k d low));
  tells = λ k low. refl;
}
