-- A row of one way that is taken or waits (TakesRow), and what the other way hears of it (Hears, Meets).
use Rattle.std.proofs.Common.{◌≡◌, ℕ, ◌+◌, ◌-◌, ◌*◌, ◌/◌, ◌%◌, ◌==◌, ◌&&◌, ◌<◌, ◌≤◌, nat_le, nat_lt, true, false, Bool}
use Rattle.std.proofs.Common.{List, [], ◌∷◌, ◌++◌, length, map, Option, Some, None, option_map, refl}
use Rattle.std.proofs.Common.{sym, ◌∙◌, ap, subst, arith, inl, inr}
use Rattle.std.specs.List.{range_with_len}
use Rattle.std.proofs.lemmas.Bool.{cases_Bool, and_parts, eqb-true, ltb-true, le-leb, le-ltb}
use Rattle.std.proofs.lemmas.List.{append-nil, map-append, drop_all}
use Rattle.law_model.specs.Common.{BackCell, Leg, told_by, told_in, leader, governing, read_packets, Plan, Counts}
use Rattle.law_model.specs.Common.{LineCounts, Step, begin, in_return, is_back_full, pop_lines, take_popped, take_row}
use Rattle.law_model.specs.Common.{used_in, Start}
use Rattle.law_model.specs.declared.control_packet.Packet.{Packet}
use Rattle.law_model.specs.declared.script_types.Script.{Script}
use Rattle.law_model.specs.declared.walk_events.StallCause.TheVariants.{Done, Waiting as Stall_waiting}
use Rattle.law_model.specs.session.Scenario.{packets_in}
use Rattle.law_progress.proofs.RoundProgressAndDrainLaws.{Leads-then}
use Rattle.terminal_sink.specs.declared.sink_core.sink_terminal.TakeAnswer.{TakeAnswer}
use Rattle.terminal_sink.specs.declared.sink_core.sink_terminal.TakeAnswer.TheVariants.{Taken, Waiting}
use Rattle.terminal_sink.specs.sink_core.TakenAndGiven.{rows_taken}
use Rattle.terminal_group.specs.ReturnInbox.{Inbox, with_come}
use Rattle.law_walk.specs.Common.{walk_plan, IsWalked, popped_cells, said_packet, back_cell, delivered_of}
use Rattle.law_walk.proofs.AcceptedFrameAndDrainedWalkLaws.{counts-within}
use Rattle.law_walk.proofs.WalkPlanAndPoppedCellLaws.{sound-walks}
use Rattle.law_pair.specs.Common.{way_of, take_said, take_one}
use Rattle.law_pair.proofs.PairWayAndPacketLaws.{reads-told}
use Rattle.law_pair.proofs.NextItemAndOneWayEventLaws.{take-leads}
use Rattle.walk_engine.specs.Common.{answer_by, GivesRows, Parts, counts_of, line_counts, take_cause}
use Rattle.walk_engine.specs.Common.{take_moved, said_at, take_by, Takes, windows_in}
use Rattle.law_walk.specs.DeliveredFrames.{delivered_since}
use Rattle.walk_engine.specs.walk_core.WayParts.{WayStands}
use Rattle.walk_engine.proofs.WayEventAndToldSourceLaws.{stands-back}
use Rattle.pair_engine.specs.LivePairs.{LiveBeside, WayLives, WayWalking, way_walked}
use Rattle.pair_engine.specs.ToldAndHeard.{IsSaid, Meets, Said, cell_shown, heard_cells, untold_packets}
use Rattle.pair_engine.specs.WayCalls.{TakesRow, EndsPacket, Hears, Keeps}
use Rattle.pair_engine.proofs.LiveWayLaws.{meets-same, noted-same, seen-lives}
use Rattle.pair_engine.proofs.ShownCellLaws.{back-said, shown-same}
use Rattle.pair_engine.proofs.PairTickAndToldPacketLaws.{counts_with, said-size, heard-size}
use Rattle.law_walk.proofs.WalkRingAndWaitingTakeLaws as return_laws

-- A row of one way, and what the other one hears.
-- ---- frames
pub gives-none : {Out : Type 0} (stands_for : Out → Start → List (List ℕ) → Type 0) (out : Out) (leg : Leg)
    (rows : ℕ) → GivesRows stands_for out out leg rows rows
gives-none stands_for out leg rows start given stood =
    let none : delivered_since leg rows rows ≡ [] = drop_all (length (delivered_of leg rows)) (delivered_of leg rows)
    (omega arith) in
    subst (stands_for out start) (sym (ap (λ frames. given ++ frames) none ∙ append-nil given)) stood

pub gives-same : {Out : Type 0} (stands_for : Out → Start → List (List ℕ) → Type 0) (out : Out) (leg : Leg)
    (rows now : ℕ) → now ≡ rows → GivesRows stands_for out out leg rows now
gives-same stands_for out leg rows now same =
    subst (GivesRows stands_for out out leg rows) (sym same) (gives-none stands_for out leg rows)

-- ---- numbers
not-full : (s : Counts) → s.backs ≡ packets_in s.rows → is_back_full s ≡ false
not-full s said =
    let none : nat_le 4 (in_return s) ≡ false = grind (arith, said) in
    ap (λ c. nat_le 23 s.rows && s.rows % 16 == 7 && c) none ∙ and-false (nat_le 23 s.rows && s.rows % 16 == 7)
  where
    and-false : (b : Bool) → (b && false) ≡ false
    and-false true = refl
    and-false false = refl

pub cause-none : (total : ℕ) (s : Counts) → s.backs ≡ packets_in s.rows → s.rows < total →
    None ≡ take_cause total s
cause-none total s said low =
    let open_ : nat_le total s.rows ≡ false = grind (arith, low) in
    let room = not-full s said in
    rw (open_, room) refl

pub one-done : (plan : Plan) (s : Counts) → plan.ticks ≤ s.rows →
    take_one plan s ≡ record { counts = s; cause = Some Done }
one-done plan s past = let shut : nat_le plan.ticks s.rows ≡ true = le-leb plan.ticks s.rows past in rw shut refl

abbrev popped_in : Plan → Counts → Option ℕ
popped_in plan s = (pop_lines s.rows 0 plan.paths s.lines).waiting

-- a row that is tried, in the walk and in the pair
row-tried : (plan : Plan) (s : Counts) → s.backs ≡ packets_in s.rows → s.rows < plan.ticks →
    (take_row plan s ≡ take_popped s (pop_lines s.rows 0 plan.paths s.lines).lines (popped_in plan s))
    × (take_one plan s ≡ take_said s (pop_lines s.rows 0 plan.paths s.lines).lines (popped_in plan s))
row-tried plan s said low =
    let open_ : nat_le plan.ticks s.rows ≡ false = grind (arith, low) in
    let room = not-full s said in
    (rw (open_, room) refl, rw open_ refl)

abbrev lines_in : Plan → Counts → List LineCounts
lines_in plan s = (pop_lines s.rows 0 plan.paths s.lines).lines

-- it waits for a line, or it is taken
waits-both : (plan : Plan) (s : Counts) (line : ℕ) → s.backs ≡ packets_in s.rows → s.rows < plan.ticks →
    popped_in plan s ≡ Some line → take_one plan s ≡ take_row plan s
waits-both plan s line said low is =
    let (walk, pair) = row-tried plan s said low in
    pair ∙ ap (take_said s (lines_in plan s)) is ∙ sym (walk ∙ ap (take_popped s (lines_in plan s)) is)

abbrev walk_taken : Plan → Counts → Step
walk_taken plan s = record { counts = record s { lines = lines_in plan s; rows = s.rows + 1 }; cause = None }

abbrev pair_taken : Plan → Counts → Step
pair_taken plan s = record {
  counts = record s { lines = lines_in plan s; rows = s.rows + 1; backs = packets_in (s.rows + 1) };
  cause = None;
}

takes-both : (plan : Plan) (s : Counts) → s.backs ≡ packets_in s.rows → s.rows < plan.ticks →
    popped_in plan s ≡ None → (take_row plan s ≡ walk_taken plan s) × (take_one plan s ≡ pair_taken plan s)
takes-both plan s said low is =
    let (walk, pair) = row-tried plan s said low in
    (walk ∙ ap (take_popped s (lines_in plan s)) is, pair ∙ ap (take_said s (lines_in plan s)) is)

-- ---- what is said and heard over a row
-- a row that ends no packet
pub no-packet : (t : ℕ) → (nat_lt 22 t && t % 16 == 7) ≡ false → packets_in (t + 1) ≡ packets_in t
no-packet t e = return_laws.packets-next t
    ∙ rw e (let z : packets_in t + 0 ≡ packets_in t = omega arith in z)

pub one-packet : (t : ℕ) → (nat_lt 22 t && t % 16 == 7) ≡ true →
    (packets_in (t + 1) ≡ packets_in t + 1) × (16 * packets_in t + 23 ≡ t)
one-packet t e =
    let (late, place) = and_parts (nat_lt 22 t) (t % 16 == 7) e in
    let h = ltb-true 22 t late in
    let at = eqb-true (t % 16) 7 place in
    (return_laws.packets-next t ∙ rw e refl, omega (arith, h, at))

-- rows that end no packet change nothing
rows-quiet : (script other : Script) (rows next other_rows ticks : ℕ) (said : Said) (inbox : Inbox) →
    packets_in next ≡ packets_in rows → Meets script other rows other_rows ticks said inbox →
    Meets script other next other_rows ticks said inbox
rows-quiet script other rows next other_rows ticks said inbox same is =
    let u = used_in script.config.lag ticks in
    record {
      packets = is.packets
          ∙ ap (λ n. map (said_packet (way_of script other)) (range_with_len u (n - u))) (sym same);
      room = is.room;
      heard = is.heard;
    }

heard-quiet : (script other : Script) (rows other_rows next ticks : ℕ) (said : Said) (inbox : Inbox) →
    packets_in next ≡ packets_in other_rows → Meets script other rows other_rows ticks said inbox →
    Meets script other rows next ticks said inbox
heard-quiet script other rows other_rows next ticks said inbox same is =
    let u = used_in (2 * script.config.lag) ticks in
    record {
      packets = is.packets;
      room = is.room;
      heard = record {
        lost = is.heard.lost;
        room = is.heard.room;
        come = is.heard.come ∙ ap (λ n. n - script.config.lag) (sym same);
        tells = is.heard.tells ∙ ap (λ n. map told_in (map (back_cell (way_of script other))
            (range_with_len u (n - script.config.lag - u)))) (sym same);
        shown = is.heard.shown ∙ ap (λ n. map cell_shown (map (back_cell (way_of script other))
            (range_with_len u (n - script.config.lag - u)))) (sym same);
      };
    }

-- a row that says a return packet
rows-said : (script other : Script) (rows other_rows ticks : ℕ) (said now : Said) (inbox : Inbox) (packet : Packet) →
    used_in script.config.lag ticks ≤ packets_in rows → packets_in (rows + 1) ≡ packets_in rows + 1 →
    packet ≡ said_packet (way_of script other) (packets_in rows) →
    now.packets ≡ said.packets ++ packet ∷ [] → now.room ≡ said.room →
    Meets script other rows other_rows ticks said inbox → Meets script other (rows + 1) other_rows ticks now inbox
rows-said script other rows other_rows ticks said now inbox packet low next same says room is = record {
  packets = says ∙ ap (λ ps. ps ++ packet ∷ []) is.packets
      ∙ ap (λ p. untold_packets (way_of script other) script.config.lag ticks rows ++ p ∷ []) same
      ∙ sym (return_laws.ring-says (way_of script other)
      (counts_with ticks rows (used_in script.config.lag ticks)) (rows + 1) low next);
  room = room ∙ is.room;
  heard = is.heard;
}

module _ (script other : Script) (own beside : WayWalking) (are : LiveBeside script other own beside) (row : ℕ)
    (at_row : row ≡ own.core.sink.taken) where
  abbrev leg : Leg
  leg = way_of script other

  abbrev lag : ℕ
  lag = script.config.lag

  abbrev s : Counts
  s = way_walked own

  abbrev is : WayStands (way_of script other) (packets_in own.core.sink.taken) own.core
  is = are.own_way.stands

  -- ---- all rows are taken
  pub done-row : script.config.ticks ≤ row →
      TakesRow script other own beside own beside (answer_by (Some Done) None)
  done-row past =
      let step = one-done (walk_plan leg) s (omega (arith, past, at_row)) in
      record {
        own_way = are.own_way;
        other_way = are.other_way;
        own_counts = sym (ap (λ (x : Step). x.counts) step);
        other_counts = refl;
        moved = sym (ap (λ (x : Step). answer_by x.cause None) step);
      }

  module _ (low : row < script.config.ticks) where
    pub tries : None ≡ take_cause (way_of script other).config.ticks (way_walked own)
    tries = cause-none script.config.ticks s refl (omega (arith, low, at_row))

    -- ---- the direction after it
    module _ (now : Parts) (answer : TakeAnswer)
        (takes : Takes (way_of script other) (packets_in own.core.sink.taken) own.core now answer)
        (rest : now ≡ record own.core { lines = now.lines; rows = now.rows; sink = now.sink; got = now.got })
        (damage : windows_in now.lines ≡ windows_in own.core.lines) where
      abbrev own_now : Said → WayWalking
      own_now said = record own { core = now; said = said }

      same-ticks : now.source.core.ticks ≡ own.core.source.core.ticks
      same-ticks = ap (λ (p : Parts). p.source.core.ticks) rest

      same-inbox : now.source.inbox ≡ own.core.source.inbox
      same-inbox = ap (λ (p : Parts). p.source.inbox) rest

      inside : own.core.sink.taken < script.config.ticks
      inside = omega (arith, low, at_row)

      now-beside : (said : Said) (rows : ℕ) → now.sink.taken ≡ rows →
          WayStands (way_of script other) (packets_in now.sink.taken) now →
          Meets script other rows beside.core.sink.taken own.core.source.core.ticks said
          own.core.source.inbox → WayLives script other beside.core.sink.taken (own_now said)
      now-beside said rows same stands meets = record {
        lag = are.own_way.lag;
        stands = stands;
        meets = meets-same script other beside.core.sink.taken rows now.sink.taken own.core.source.core.ticks
            now.source.core.ticks said said own.core.source.inbox now.source.inbox refl same-ticks same-inbox same
            meets;
        noted = noted-same leg own.last own.last own.core.source.core.ticks now.source.core.ticks refl same-ticks
            are.own_way.noted;
      }

      -- ---- it waits
      module _ (line : ℕ) (waits : answer ≡ Waiting line) where
        rows-same : now.sink.taken ≡ own.core.sink.taken
        rows-same = takes.rows ∙ ap (λ a. own.core.sink.taken + rows_taken a) waits
            ∙ (let z : own.core.sink.taken + 0 ≡ own.core.sink.taken = omega arith in z)

        waiting-is : popped_in (walk_plan (way_of script other)) (way_walked own) ≡ Some line
        waiting-is = by (popped_in (walk_plan leg) s) (sym waits ∙ takes.answers)
          where
            by : (found : Option ℕ) →
                Waiting line ≡ take_by (way_of script other) own.core.sink.taken found →
                found ≡ Some line
            by None same = absurd cc
            by (Some other_line) same = ap Some (let e : other_line ≡ line = cc in e)

        step-is : take_one (walk_plan (way_of script other)) (way_walked own)
            ≡ take_row (walk_plan (way_of script other)) (way_walked own)
        step-is = waits-both (walk_plan leg) s line refl inside waiting-is

        pub waits-row : TakesRow script other own beside (own_now own.said) beside
            (answer_by (Some (Stall_waiting line)) None)
        waits-row = record {
          own_way = now-beside own.said own.core.sink.taken rows-same
              (subst (λ n. WayStands leg (packets_in n) now) (sym rows-same) takes.makes.stands)
              are.own_way.meets;
          other_way = seen-lives other script own.core.sink.taken now.sink.taken beside rows-same are.other_way;
          own_counts = ap (λ n. counts_of now (packets_in n)) rows-same ∙ takes.makes.counts
              ∙ sym (ap (λ (x : Step). x.counts) step-is);
          other_counts = refl;
          moved = sym (ap take_moved waits) ∙ takes.makes.moved
              ∙ sym (ap (λ (x : Step). answer_by x.cause None) step-is);
        }

      -- ---- it is taken
      module _ (back : Option Packet) (taken : answer ≡ Taken back) where
        rows-next : now.sink.taken ≡ own.core.sink.taken + 1
        rows-next = takes.rows ∙ ap (λ a. own.core.sink.taken + rows_taken a) taken

        by-waits : (found : Option ℕ) →
            Taken back ≡ take_by (way_of script other) own.core.sink.taken found →
            (found ≡ None) × (back ≡ said_at (way_of script other) own.core.sink.taken)
        by-waits None same = (refl, cc)
        by-waits (Some line) same = absurd cc

        found-none : (popped_in (walk_plan (way_of script other)) (way_walked own) ≡ None)
            × (back ≡ said_at (way_of script other) own.core.sink.taken)
        found-none = by-waits (popped_in (walk_plan leg) s) (sym taken ∙ takes.answers)

        pub said-is : back ≡ said_at (way_of script other) own.core.sink.taken
        said-is = found-none.1

        both : (take_row (walk_plan (way_of script other)) (way_walked own)
            ≡ walk_taken (walk_plan (way_of script other)) (way_walked own))
            × (take_one (walk_plan (way_of script other)) (way_walked own)
            ≡ pair_taken (walk_plan (way_of script other)) (way_walked own))
        both = takes-both (walk_plan leg) s refl inside found-none.0

        counts-next : counts_of now (packets_in now.sink.taken)
            ≡ (take_one (walk_plan (way_of script other)) (way_walked own)).counts
        counts-next =
            ap (λ n. record (counts_of now 0) { backs = packets_in n }) rows-next
            ∙ ap (λ (c : Counts). record c { backs = packets_in (own.core.sink.taken + 1) }) takes.makes.counts
            ∙ ap (λ (x : Step). record x.counts { backs = packets_in (own.core.sink.taken + 1) }) both.0
            ∙ sym (ap (λ (x : Step). x.counts) both.1)

        pub stands-next : WayStands (way_of script other) (packets_in now.sink.taken) now
        stands-next =
            stands-back leg (packets_in own.core.sink.taken) (packets_in now.sink.taken) now now.source.inbox
            takes.makes.stands
            (subst (IsWalked leg) (sym counts-next)
            (Leads-then (walk_plan leg) (begin (walk_plan leg)) s _ is.walked
            (take-leads (walk_plan leg) s refl).leads))

        moved-next : answer_by None None ≡ answer_by
            (take_one (walk_plan (way_of script other)) (way_walked own)).cause None
        moved-next = sym (ap (λ (x : Step). answer_by x.cause None) both.1)

        -- the row ends no packet
        module _ (none : back ≡ None) where
          ends-not : (nat_lt 22 own.core.sink.taken && own.core.sink.taken % 16 == 7) ≡ false
          ends-not =
              elim (cases_Bool (nat_lt 22 own.core.sink.taken && own.core.sink.taken % 16 == 7)) [
                | inr e ↦ e
                | inl e ↦ absurd (let f : None ≡ Some (said_packet leg (packets_in own.core.sink.taken)) =
                    sym none ∙ said-is ∙ rw e refl in cc)
              ]

          same-packets : packets_in now.sink.taken ≡ packets_in own.core.sink.taken
          same-packets = ap packets_in rows-next ∙ no-packet own.core.sink.taken ends-not

          pub quiet-row : TakesRow script other own beside (own_now own.said) beside (answer_by None None)
          quiet-row = record {
            own_way = now-beside own.said now.sink.taken refl stands-next
                (rows-quiet script other own.core.sink.taken now.sink.taken beside.core.sink.taken
                own.core.source.core.ticks own.said own.core.source.inbox same-packets are.own_way.meets);
            other_way = record {
              lag = are.other_way.lag;
              stands = are.other_way.stands;
              meets = heard-quiet other script beside.core.sink.taken own.core.sink.taken now.sink.taken
                  beside.core.source.core.ticks beside.said beside.core.source.inbox same-packets
                  are.other_way.meets;
              noted = are.other_way.noted;
            };
            own_counts = counts-next;
            other_counts = refl;
            moved = moved-next;
          }

        -- the row ends one
        module _ (packet : Packet) (some : back ≡ Some packet) where
          ends-packet : (nat_lt 22 own.core.sink.taken && own.core.sink.taken % 16 == 7) ≡ true
          ends-packet =
              elim (cases_Bool (nat_lt 22 own.core.sink.taken && own.core.sink.taken % 16 == 7)) [
                | inl e ↦ e
                | inr e ↦ absurd (let f : Some packet ≡ None = sym some ∙ said-is ∙ rw e refl in cc)
              ]

          packet-is : packet ≡ said_packet (way_of script other) (packets_in own.core.sink.taken)
          packet-is =
              let f : Some packet ≡ Some (said_packet leg (packets_in own.core.sink.taken)) =
              sym some ∙ said-is ∙ rw ends-packet refl in
              cc

          pub say-room : length own.said.packets < own.said.room
          say-room =
              let size = ap length are.own_way.meets.packets
              ∙ said-size leg lag own.core.source.core.ticks own.core.sink.taken in
              let room = are.own_way.meets.room in
              let (next, at) = one-packet own.core.sink.taken ends-packet in
              let can = sound-walks leg is.sound in
              let (rows, ticks) = counts-within leg (counts_of now (packets_in now.sink.taken)) can
              stands-next.walked in
              let more = rows-next in
              let same = same-ticks in
              let some_lag = are.pair.there_way.valid.sound.network.lag.0 in
              omega (arith, size, room, at, rows, more, same, some_lag)

          -- once it was said
          module _ (said : Said) (says : said.packets ≡ own.said.packets ++ packet ∷ [])
              (room : said.room ≡ own.said.room) where
            pub said-ends : EndsPacket script other own (own_now said) beside row
            said-ends = record {
              are = are;
              lag = are.own_way.lag;
              stands = stands-next;
              ticks = same-ticks;
              was_row = sym at_row;
              row_is = rows-next ∙ ap (λ n. n + 1) (sym at_row);
              ends = subst (λ n. (nat_lt 22 n && n % 16 == 7) ≡ true) (sym at_row) ends-packet;
            }

            own-said : WayLives script other beside.core.sink.taken (own_now said)
            own-said = now-beside said (own.core.sink.taken + 1) rows-next stands-next
                (rows-said script other own.core.sink.taken beside.core.sink.taken
                own.core.source.core.ticks own.said said own.core.source.inbox packet are.told
                (one-packet own.core.sink.taken ends-packet).0 packet-is says room are.own_way.meets)

            pub said-row : (beside_now : WayWalking) → Hears script other (own_now said) beside beside_now →
                TakesRow script other own beside (own_now said) beside_now (answer_by None None)
            said-row beside_now hears = record {
              own_way = seen-lives script other beside.core.sink.taken beside_now.core.sink.taken (own_now said)
                  (ap (λ (s : Counts). s.rows) hears.counts) own-said;
              other_way = hears.lives;
              own_counts = counts-next;
              other_counts = hears.counts;
              moved = moved-next;
            }

-- ---- the other way hears what the packets tell
module _ (script other : Script) (was own beside : WayWalking) (row : ℕ)
    (is : EndsPacket script other was own beside row) where
  abbrev was_leg : Leg
  was_leg = way_of script other

  abbrev other_leg : Leg
  other_leg = way_of other script

  packet-row : (packets_in (row + 1) ≡ packets_in row + 1) × (16 * packets_in row + 23 ≡ row)
  packet-row = one-packet row is.ends

  low-row : (row + 1 ≤ beside.core.source.core.ticks) × (beside.core.source.core.ticks ≤ other.config.ticks)
  low-row =
      let (rows, ticks) =
      counts-within was_leg (way_walked own) (sound-walks was_leg is.stands.sound) is.stands.walked in
      let more = is.row_is in
      let other_is = is.are.other_way.stands in
      let (other_rows, other_ticks) = counts-within other_leg (way_walked beside) (sound-walks other_leg other_is.sound)
      other_is.walked in
      let together = is.are.together in
      let same = is.ticks in
      (omega (arith, rows, more, together, same), other_ticks)

  -- nothing is heard yet: the first packets tell none
  early-heard : row < 16 * script.config.lag + 23 →
      (script.config.lag ≡ other.config.lag) → packets_in row + 1 ≤ script.config.lag
  early-heard low same = let at = packet-row.1 in omega (arith, low, at)

  beside-own : (core : Parts) → WayStands (way_of other script) (packets_in core.sink.taken) core →
      Meets other script core.sink.taken (row + 1) core.source.core.ticks beside.said core.source.inbox →
      core.source.core.ticks ≡ beside.core.source.core.ticks →
      WayLives other script own.core.sink.taken (record beside { core = core })
  beside-own core stands meets at = record {
    lag = is.are.other_way.lag;
    stands = stands;
    meets = subst (λ n. Meets other script core.sink.taken n core.source.core.ticks beside.said core.source.inbox)
        (sym is.row_is) meets;
    noted = noted-same other_leg beside.last beside.last beside.core.source.core.ticks core.source.core.ticks refl at
        is.are.other_way.noted;
  }

  was-meets : Meets other script beside.core.sink.taken row beside.core.source.core.ticks beside.said
      beside.core.source.inbox
  was-meets = subst (λ n. Meets other script beside.core.sink.taken n beside.core.source.core.ticks beside.said
      beside.core.source.inbox) is.was_row is.are.other_way.meets

  pub hears-early : row < 16 * script.config.lag + 23 → Hears script other own beside beside
  hears-early low =
      let same = is.are.pair.lag in
      let few = early-heard low same in
      let next = packet-row.0 in
      let none : packets_in (row + 1) - other.config.lag ≡ packets_in row - other.config.lag =
      omega (arith, few, next, same) in
      let u = used_in (2 * other.config.lag) beside.core.source.core.ticks in
      record {
        counts = refl;
        lives = beside-own beside.core is.are.other_way.stands (record {
          packets = was-meets.packets;
          room = was-meets.room;
          heard = record {
            lost = was-meets.heard.lost;
            room = was-meets.heard.room;
            come = was-meets.heard.come ∙ sym none;
            tells = was-meets.heard.tells ∙ ap (λ n. map told_in (map (back_cell other_leg)
                (range_with_len u (n - u)))) (sym none);
            shown = was-meets.heard.shown ∙ ap (λ n. map cell_shown (map (back_cell other_leg)
                (range_with_len u (n - u)))) (sym none);
          };
        }) refl;
      }

  module _ (late : 16 * script.config.lag + 23 ≤ row) where
    abbrev k : ℕ
    k = packets_in row - other.config.lag

    k-is : (packets_in row ≡ packets_in row - other.config.lag + script.config.lag)
        × (packets_in (row + 1) - other.config.lag ≡ packets_in row - other.config.lag + 1)
    k-is =
        let (next, at) = packet-row in
        let same = is.are.pair.lag in
        let high = late in
        (omega (arith, next, at, same, high), omega (arith, next, at, same, high))

    used-low : used_in (2 * other.config.lag) beside.core.source.core.ticks
        ≤ packets_in row - other.config.lag
    used-low =
        let told = subst (λ n. used_in script.config.lag was.core.source.core.ticks ≤ packets_in n) is.was_row
        is.are.told in
        let together = is.are.together in
        let same = is.are.pair.lag in
        omega (arith, told, together, same)

    pub put-room : length beside.core.source.inbox.cells < beside.core.source.inbox.room
    put-room =
        let size = heard-size other_leg other.config.lag beside.core.source.core.ticks row
        beside.core.source.inbox.cells was-meets.heard.tells in
        let room = was-meets.heard.room in
        let (low, high) = low-row in
        let (next, at) = packet-row in
        omega (arith, size, room, low, high, at)

    pub put-few : beside.core.source.inbox.come < 4294967295
    put-few =
        let come = was-meets.heard.come in
        let (low, high) = low-row in
        let ticks = is.are.other_way.stands.sound.network.ticks.1 in
        omega (arith, come, low, high, ticks)

    -- the cell is the session's
    cell-is : (cell : BackCell) (row_read : List (Option Packet)) →
        row_read ≡ governing (popped_cells (way_of script other) (map line_counts own.core.lines))
        own.core.sink.taken →
        told_in cell ≡ option_map told_by (leader row_read) →
        told_in cell ≡ told_in (back_cell (way_of other script) (packets_in row - other.config.lag))
    cell-is cell row_read reads told =
        let cells = popped_cells was_leg (map line_counts own.core.lines) in
        let (next, at) = packet-row in
        let (low, high) = low-row in
        let (whole, more) = k-is in
        let same = is.are.pair.lag in
        let ends : 16 * k + 23 < other.config.ticks = omega (arith, at, low, high) in
        let past : nat_lt (row + 1) 24 ≡ false = le-ltb (row + 1) 24 (omega (arith, at)) in
        let quotient : (row + 1 - 24) / 16 ≡ k + script.config.lag = omega (arith, at, whole) in
        let row_is : governing cells own.core.sink.taken ≡ read_packets cells (k + script.config.lag) =
        ap (governing cells) is.row_is ∙ rw past (ap (read_packets cells) quotient) in
        let own_row = is.row_is in
        told ∙ ap (λ (r : List (Option Packet)). option_map told_by (leader r)) (reads ∙ row_is)
        ∙ reads-told other script (way_walked own) k is.are.pair.there_way is.stands.walked
        (omega (arith, at, low, high))
        (omega (arith, at, whole, own_row))
        ∙ sym (return_laws.cell-told other_leg (sound-walks other_leg is.are.other_way.stands.sound) k ends)

    box : BackCell → Inbox
    box cell = with_come beside.core.source.inbox cell

    come-in : (inbox : Inbox) (cell : BackCell) → inbox.lost ≡ [] →
        with_come inbox cell ≡ record inbox { cells = inbox.cells ++ cell ∷ []; come = inbox.come + 1 }
    come-in inbox cell none = rw none refl

    -- and the same is shown of both
    shown-is : (cell : BackCell) → IsSaid cell →
        told_in cell ≡ told_in (back_cell (way_of other script) (packets_in row - other.config.lag)) →
        cell_shown cell ≡ cell_shown (back_cell (way_of other script) (packets_in row - other.config.lag))
    shown-is cell said same = shown-same cell (back_cell other_leg k) said (back-said other_leg k) same

    pub hears-late : (cell : BackCell) (row_read : List (Option Packet)) (now : Parts) → IsSaid cell →
        row_read ≡ governing (popped_cells (way_of script other) (map line_counts own.core.lines))
        own.core.sink.taken →
        told_in cell ≡ option_map told_by (leader row_read) →
        now ≡ record beside.core
        { source = record beside.core.source { inbox = with_come beside.core.source.inbox cell } } →
        Hears script other own beside (record beside { core = now })
    hears-late cell row_read now said reads told put =
        let other_lag : ℕ = other.config.lag in
        let ticks : ℕ = beside.core.source.core.ticks in
        let inbox : Inbox = record beside.core.source.inbox
        { cells = beside.core.source.inbox.cells ++ cell ∷ []; come = beside.core.source.inbox.come + 1 } in
        let inbox_is = come-in beside.core.source.inbox cell was-meets.heard.lost in
        let core : Parts = record beside.core { source = record beside.core.source { inbox = inbox } } in
        let now_is : now ≡ core =
        put ∙ ap (λ (i : Inbox). record beside.core { source = record beside.core.source { inbox = i } }) inbox_is in
        let (whole, more) = k-is in
        subst (λ (p : Parts). Hears script other own beside (record beside { core = p }))
        (sym now_is) (record {
          counts = refl;
          lives = beside-own core
              (stands-back other_leg (packets_in beside.core.sink.taken) (packets_in beside.core.sink.taken) beside.core
              inbox is.are.other_way.stands is.are.other_way.stands.walked)
              (record {
                packets = was-meets.packets;
                room = was-meets.room;
                heard = record {
                  lost = was-meets.heard.lost;
                  room = was-meets.heard.room;
                  come = ap (λ n. n + 1) was-meets.heard.come ∙ sym more;
                  tells = map-append told_in beside.core.source.inbox.cells (cell ∷ [])
                      ∙ ap (λ told. told ++ told_in cell ∷ []) was-meets.heard.tells
                      ∙ ap (λ told. map told_in (heard_cells other_leg other_lag ticks row) ++ told ∷ [])
                      (cell-is cell row_read reads told)
                      ∙ sym (map-append told_in (heard_cells other_leg other_lag ticks row)
                      (back_cell other_leg k ∷ []))
                      ∙ ap (map told_in) (sym (return_laws.inbox-comes other_leg (counts_with ticks row k) used-low))
                      ∙ ap (λ n. map told_in (map (back_cell other_leg)
                      (range_with_len (used_in (2 * other_lag) ticks) (n - used_in (2 * other_lag) ticks)))) (sym more);
                  shown = map-append cell_shown beside.core.source.inbox.cells (cell ∷ [])
                      ∙ ap (λ shown. shown ++ cell_shown cell ∷ []) was-meets.heard.shown
                      ∙ ap (λ shown. map cell_shown (heard_cells other_leg other_lag ticks row) ++ shown ∷ [])
                      (shown-is cell said (cell-is cell row_read reads told))
                      ∙ sym (map-append cell_shown (heard_cells other_leg other_lag ticks row)
                      (back_cell other_leg k ∷ []))
                      ∙ ap (map cell_shown)
                      (sym (return_laws.inbox-comes other_leg (counts_with ticks row k) used-low))
                      ∙ ap (λ n. map cell_shown (map (back_cell other_leg)
                      (range_with_len (used_in (2 * other_lag) ticks) (n - used_in (2 * other_lag) ticks)))) (sym more);
                };
              }) refl;
        })

-- nothing lands with a row, and no line has other windows
pub taken-keeps : (own now : WayWalking) →
    now.core
    ≡ record own.core { lines = now.core.lines; rows = now.core.rows; sink = now.core.sink; got = now.core.got } →
    windows_in now.core.lines ≡ windows_in own.core.lines → Keeps own now
taken-keeps own now rest damage = record {
  frames = ap (λ (p : Parts). p.source.landed.frames) rest;
  commands = ap (λ (p : Parts). p.source.landed.commands) rest;
  windows = damage;
}
