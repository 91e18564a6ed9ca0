-- The course of a session agrees with the session's own return cells, and each event keeps it.
use Rattle.std.proofs.Common.{◌≡◌, ℕ, zero, suc, ◌+◌, ◌-◌, ◌*◌, ◌/◌, ◌<◌, ◌≤◌, List, [], ◌∷◌, ◌++◌, take, map, length}
use Rattle.std.proofs.Common.{Option, refl, sym, ◌∙◌, ap, arith, take_all, take-take, if◌then◌else◌, Some, None}
use Rattle.std.proofs.Common.{IsSome}
use Rattle.std.proofs.Common.{min, nat_lt, false, inl, inr, drop, replicate, slice_get, subst, take-append-drop}
use Rattle.std.specs.List.{range_with_len}
use Rattle.std.proofs.lemmas.List.FromFn.{take-map-range_with_len, map-range_with_len_more}
use Rattle.law_model.specs.Common.{Cell, cells, Scenario, carried_by, is_read, packets, steps_in, Told, told_in}
use Rattle.law_model.specs.Common.{cells_before, session_cells, telling_at, packets_from, container_of, after}
use Rattle.law_model.specs.Common.{stream_before, return_cell, payload_of, row_at, return_at, is_whole_row, frame_of}
use Rattle.law_model.specs.Common.{carriers_at, known_lines, End, packet_nibbles, path, verdict, is_lost}
use Rattle.law_session.specs.ReturnedCells.{AgreeBefore}
use Rattle.law_session.proofs.ReturnCellAndLineWordLaws.{table_of-take, cells_before-length, cells_before-prefix}
use Rattle.law_session.proofs.ReturnCellAndLineWordLaws.{Agree}
use Rattle.law_session.proofs.ReturnCellAndLineWordLaws.{Agree-first, after-agree, return_cell-agree, Agree-take}
use Rattle.law_row.specs.Received.{HasPackets}
use Rattle.law_terminal.specs.SessionLines.{HasLines, ComesOfLine, ComeOfLines, given}
use Rattle.law_terminal.specs.Course.{back_of, told_of, IsCourse, packet_by}
use Rattle.law_terminal.proofs.ContainerPayloadLaws.{same-range, container-same}
use Rattle.law_terminal.proofs.ArrivedCellAndRowLaws.{has-packets, back-said, row-told, carriers-told, back-told}
use Rattle.law_terminal.proofs.ArrivedCellAndRowLaws.{packet-told, given-whole}
use Rattle.law_line.specs.StableRows.{AreDecidedAt, IsLonger}
use Rattle.law_session.proofs.ClientStreamAndReplayLaws.{stream_before-agree}
use Rattle.std.proofs.lemmas.Bool.{cases_eq}
use Rattle.std.proofs.lemmas.List.{length-replicate}
use Rattle.std.proofs.lemmas.Option.{slice_get_within}
use Rattle.member_cells.specs.declared.containers_and_cells.BackCell.TheVariants.{Packet as Nibbles, Lost}
use Rattle.law_model.proofs.ListLaws.{is-some, slice_get-inside}
use Rattle.law_line.proofs.ReadingVerdictLaws.{verdict-stays}
use Rattle.law_line.proofs.DecidedPacketAndRowLaws.{returns_stay}

-- ---- Return cells that the sink made of what came, told to the source which made what came, are those of the session.
-- lists of which the first cells are the same agree on fewer of them
pub agree-sooner : (m n : ℕ) (a b : List (Option Told)) → m ≤ n → AgreeBefore n a b → AgreeBefore m a b
agree-sooner m n a b sooner same = sym (take-take m n a sooner) ∙ ap (take m) same ∙ take-take m n b sooner

-- ---- packets that were read
-- packets up to packet k are the same by return cells that agree on the first k: the first of them comes a lag later
packets-agree : (scenario : Scenario) (a b : List (Option Told)) (cells : List (List Cell)) (k : ℕ) →
    0 < scenario.lag → AgreeBefore k a b → HasPackets scenario a cells k → HasPackets scenario b cells k
packets-agree scenario a b cells k lag agree has j low =
    let m : ℕ = j + 1 - scenario.lag in
    let same = table_of-take scenario a b j (agree-sooner m k a b (omega arith) agree) in
    has j low
    ∙ ap (λ table. packets_from (length scenario.windows) (telling_at scenario j) table j
    (λ line. is_read scenario line j)) same

-- ---- a course
told-next : (scenario : Scenario) (cells : List (List Cell)) (k : ℕ) →
    told_of scenario cells (suc k) ≡ told_of scenario cells k ++ told_in (back_of scenario cells k) ∷ []
told-next scenario cells k =
    let f = λ (k : ℕ). told_in (back_of scenario cells k) in
    let e : suc k ≡ k + 1 = omega arith in
    ap (λ n. map f (range_with_len 0 n)) e ∙ map-range_with_len_more f 0 k k (omega arith)

told-first : (scenario : Scenario) (cells : List (List Cell)) (k n : ℕ) → k ≤ n →
    take k (told_of scenario cells n) ≡ told_of scenario cells k
told-first scenario cells k n low =
    take-map-range_with_len (λ k. told_in (back_of scenario cells k)) 0 n k low

ends : (ticks n k : ℕ) → k < n → n ≤ (ticks - 8) / 16 → 16 * k + 23 < ticks
ends ticks n k low most = omega arith

module _ (scenario : Scenario) (frames n : ℕ) (cells : List (List Cell)) (lines : HasLines scenario)
    (lag : 0 < scenario.lag) (course : IsCourse scenario frames n cells) where
  -- what was told by packet k is of the session, so packet k is, and what is told of it
  told-before : (k : ℕ) → k ≤ n → told_of scenario cells k ≡ cells_before scenario k
  unfolding cells_before
  told-before zero within = refl
  told-before (suc k) within =
      let before = told-before k (omega arith) in
      let agree : AgreeBefore k (told_of scenario cells n) (cells_before scenario k) =
      told-first scenario cells k n (omega arith) ∙ before
      ∙ sym (take_all k (cells_before scenario k) (let e = cells_before-length scenario k in omega arith)) in
      let has = packets-agree scenario (told_of scenario cells n) (cells_before scenario k) cells k lag agree
      (has-packets scenario (told_of scenario cells n) lines frames cells course.come k
      (ends scenario.ticks n k (omega arith) course.most) (course.decided k (omega arith))) in
      told-next scenario cells k
      ∙ ap (λ told. told ++ told_in (back_of scenario cells k) ∷ []) before
      ∙ ap (λ cell. cells_before scenario k ++ cell ∷ []) (back-said scenario k k cells lag has)

  pub course-returns : told_of scenario cells n ≡ cells_before scenario n
  course-returns = told-before n (omega arith)

-- ---- the session's own return cells
pub session-agree : (scenario : Scenario) (n m : ℕ) → n ≤ packets scenario → m ≤ n →
    AgreeBefore m (cells_before scenario n) (session_cells scenario)
session-agree scenario n m most sooner =
    let all : ℕ = packets scenario in
    let e : n + (all - n) ≡ all = omega arith in
    let first : take n (session_cells scenario) ≡ cells_before scenario n =
    ap (λ k. take n (cells_before scenario k)) (sym e) ∙ cells_before-prefix scenario n (all - n) in
    ap (take m) (sym first) ∙ take-take m n (session_cells scenario) sooner

needs : (lag frames n t : ℕ) → (frames + 7) / 16 ≤ n + lag → t < frames → (t + 8) / 16 - lag ≤ n
needs lag frames n t used low = omega arith

pub frames-same : (scenario : Scenario) (a b : List (Option Told)) (frames n : ℕ) → steps_in frames ≤ n + scenario.lag →
    AgreeBefore n a b →
    (line t : ℕ) → t < frames → container_of scenario a line t ≡ container_of scenario b line t
frames-same scenario a b frames n used agree line t low =
    let m : ℕ = (t + 8) / 16 - scenario.lag in
    container-same scenario a b line t (agree-sooner m n a b (needs scenario.lag frames n t used low) agree)

comes-same : (scenario : Scenario) (a b : List (Option Told)) (line frames : ℕ) (own : List Cell) →
    ((t : ℕ) → t < frames → container_of scenario a line t ≡ container_of scenario b line t) →
    ComesOfLine scenario a line frames own → ComesOfLine scenario b line frames own
comes-same scenario a b line frames own same comes = record {
  delay = comes.delay;
  carries = comes.carries;
  later = comes.later;
  taken = comes.taken;
  first = ap (λ containers. cells (carried_by scenario line) comes.delay scenario.ticks containers comes.carries)
      (sym (same-range (container_of scenario a line) (container_of scenario b line) frames same))
      ∙ comes.first;
}

pub come-same : (scenario : Scenario) (a b : List (Option Told)) (frames n : ℕ) (cells : List (List Cell)) →
    steps_in frames ≤ n + scenario.lag → AgreeBefore n a b →
    ComeOfLines scenario a frames cells → ComeOfLines scenario b frames cells
come-same scenario a b frames n cells used agree come = record {
  made = come.made;
  lines = come.lines;
  each = λ line own here. comes-same scenario a b line frames own (frames-same scenario a b frames n used agree line)
      (come.each line own here);
}

-- ---- A course by the session's own return cells.
module _ (scenario : Scenario) (frames n : ℕ) (cells : List (List Cell)) (lines : HasLines scenario)
    (lag : 0 < scenario.lag) (course : IsCourse scenario frames n cells) where
  course-agree : AgreeBefore n (told_of scenario cells n) (session_cells scenario)
  course-agree =
      ap (take n) (course-returns scenario frames n cells lines lag course)
      ∙ session-agree scenario n n course.most (omega arith)

  pub course-containers : (line t : ℕ) → t < frames →
      container_of scenario (told_of scenario cells n) line t ≡ container_of scenario (session_cells scenario) line t
  course-containers = frames-same scenario (told_of scenario cells n) (session_cells scenario) frames n course.used
      course-agree

  pub course-come : ComeOfLines scenario (session_cells scenario) frames cells
  course-come = come-same scenario (told_of scenario cells n) (session_cells scenario) frames n cells course.used
      course-agree course.come

  pub course-rows : (t : ℕ) → t < scenario.ticks → AreDecidedAt cells t →
      row_at scenario.options scenario.size cells t
      ≡ (if is_whole_row scenario (session_cells scenario) t then Some (payload_of scenario (session_cells scenario) t)
      else None)
  course-rows t low decided = row-told scenario (packets scenario) frames cells t lines lag course-come low decided

  pub course-carriers : (k : ℕ) → 16 * k + 23 < scenario.ticks → AreDecidedAt cells (16 * k + 23) →
      carriers_at scenario.options cells k ≡ known_lines scenario (session_cells scenario) k
  course-carriers k low decided = carriers-told scenario (packets scenario) frames cells k lines lag course-come low
      decided

  pub course-cell : (k : ℕ) → 16 * k + 23 < scenario.ticks → AreDecidedAt cells (16 * k + 23) →
      told_in (back_of scenario cells k) ≡ return_cell scenario (session_cells scenario) k
  course-cell k low decided = back-told scenario (packets scenario) frames k cells lines lag course-come low decided

  pub course-packet : (k : ℕ) → 16 * k + 23 < scenario.ticks → AreDecidedAt cells (16 * k + 23) →
      return_at scenario.options cells k ≡ packet_by scenario (session_cells scenario) k
  course-packet k low decided = packet-told scenario (session_cells scenario) frames cells k lines course-come low
      decided

-- ---- the frames by the return cells that had come
pub frame-same : (scenario : Scenario) (n frames t : ℕ) → n ≤ packets scenario → steps_in frames ≤ n + scenario.lag →
    t < frames →
    frame_of scenario (cells_before scenario n) t ≡ frame_of scenario (session_cells scenario) t
frame-same scenario n frames t most used low =
    let agree = session-agree scenario n n most (omega arith) in
    same-range (λ line. container_of scenario (cells_before scenario n) line t)
    (λ line. container_of scenario (session_cells scenario) line t) (length scenario.windows)
    (λ line inside. frames-same scenario (cells_before scenario n) (session_cells scenario) frames n used agree line t
    low)

-- ---- the source by the return cells that had come
steps-agree : (scenario : Scenario) (n j : ℕ) → n ≤ packets scenario → j ≤ n + scenario.lag →
    Agree scenario (cells_before scenario n) (session_cells scenario) j
steps-agree scenario n j most used =
    Agree-first scenario (cells_before scenario n) (session_cells scenario) j
    (session-agree scenario n (j - scenario.lag) most (omega arith))

pub source-same : (scenario : Scenario) (n frames j : ℕ) → n ≤ packets scenario → steps_in frames ≤ n + scenario.lag →
    j ≤ steps_in frames →
    after scenario (cells_before scenario n) j ≡ after scenario (session_cells scenario) j
source-same scenario n frames j most used low =
    after-agree scenario (cells_before scenario n) (session_cells scenario) j
    (steps-agree scenario n j most (omega arith))

pub stream-same : (scenario : Scenario) (n frames t : ℕ) → n ≤ packets scenario → steps_in frames ≤ n + scenario.lag →
    t ≤ frames →
    stream_before scenario (cells_before scenario n) t ≡ stream_before scenario (session_cells scenario) t
stream-same scenario n frames t most used low =
    stream_before-agree scenario (cells_before scenario n) (session_cells scenario) t
    (steps-agree scenario n ((t - 8) / 16) most (omega arith))

-- ---- the next return cell
lasts : (ticks k : ℕ) → k < (ticks - 8) / 16 → 16 * k + 23 < ticks
lasts ticks k low = omega arith

pub next-cell : (scenario : Scenario) (frames k : ℕ) (cells : List (List Cell)) → HasLines scenario → 0 < scenario.lag →
    k < packets scenario →
    ComeOfLines scenario (session_cells scenario) frames cells → AreDecidedAt cells (16 * k + 23) →
    cells_before scenario (suc k) ≡ cells_before scenario k ++ told_in (back_of scenario cells k) ∷ []
unfolding cells_before
next-cell scenario frames k cells lines lag low come decided =
    let m : ℕ = k + 1 - scenario.lag in
    let agree : take m (session_cells scenario) ≡ take m (cells_before scenario k) =
    sym (session-agree scenario k m (omega arith) (omega arith)) in
    let same = return_cell-agree scenario (session_cells scenario) (cells_before scenario k) k
    (Agree-take scenario (session_cells scenario) (cells_before scenario k) k agree) in
    let told = back-told scenario (packets scenario) frames k cells lines lag come
    (lasts scenario.ticks k low) decided in
    ap (λ cell. cells_before scenario k ++ cell ∷ []) (sym same ∙ sym told)

-- ---- What each event of a session leaves of its course.
-- ---- the start
none-given : (scenario : Scenario) (returns : List (Option Told)) (line : ℕ) → given scenario returns line 0 0 0 ≡ []
unfolding path
none-given scenario returns line =
    ap (λ b. if b then End ∷ [] else []) (let e : nat_lt scenario.ticks 0 ≡ false = grind arith in e)

none-comes : (scenario : Scenario) (returns : List (Option Told)) (line : ℕ) (own : List Cell) → own ≡ [] →
    ComesOfLine scenario returns line 0 own
none-comes scenario returns line own none = record {
  delay = 0;
  carries = 0;
  later = [];
  taken = omega arith;
  first = none-given scenario returns line ∙ ap (λ l. l ++ []) (sym none);
}

none-own : (n line : ℕ) (own : List Cell) → slice_get (replicate {A = List Cell} n []) line ≡ Some own → own ≡ []
none-own zero line own here = absurd cc
none-own (suc n) zero own here = cc
none-own (suc n) (suc line) own here = none-own n line own here

pub course-opens : (scenario : Scenario) → IsCourse scenario 0 0 (replicate (length scenario.windows) [])
course-opens scenario = record {
  most = omega arith;
  used = omega arith;
  come = record {
    made = omega arith;
    lines = length-replicate {A = List Cell} (length scenario.windows) [];
    each = λ line own here. none-comes scenario [] line own (none-own (length scenario.windows) line own here);
  };
  decided = λ k low. absurd (omega arith);
}

-- ---- a frame is made
comes-more : (scenario : Scenario) (returns : List (Option Told)) (line frames : ℕ) (own : List Cell) →
    suc frames ≤ scenario.ticks →
    ComesOfLine scenario returns line frames own → ComesOfLine scenario returns line (suc frames) own
comes-more scenario returns line frames own made comes =
    let taken = comes.taken in
    record {
      delay = comes.delay;
      carries = comes.carries;
      later = comes.later;
      taken = omega arith;
      first = given-whole scenario returns line (suc frames) comes.delay comes.carries made (omega arith)
          ∙ sym (given-whole scenario returns line frames comes.delay comes.carries (omega arith) taken)
          ∙ comes.first;
    }

pub course-ticks : (scenario : Scenario) (frames n : ℕ) (cells : List (List Cell)) → frames < scenario.ticks →
    steps_in (suc frames) ≤ n + scenario.lag →
    IsCourse scenario frames n cells → IsCourse scenario (suc frames) n cells
course-ticks scenario frames n cells made used course =
    let returns : List (Option Told) = told_of scenario cells n in
    let come = course.come in
    record {
      most = course.most;
      used = used;
      come = record {
        made = omega arith;
        lines = come.lines;
        each = λ line own here. comes-more scenario returns line frames own (omega arith) (come.each line own here);
      };
      decided = course.decided;
    }

-- ---- cells come
pub decided-longer : (cells longer : List (List Cell)) (t : ℕ) → IsLonger cells longer → AreDecidedAt cells t →
    AreDecidedAt longer t
decided-longer cells longer t are decided line own here =
    let size = are.size in
    let within = slice_get_within longer line own here in
    let (before, there) = slice_get-inside cells line (omega arith) in
    let (more, is) = are.each line before there in
    let same : own ≡ before ++ more = cc in
    let (told, said) = is-some (verdict before t) (decided line before there) in
    subst (λ own. IsSome (verdict own t)) (sym same)
    (subst (λ v. IsSome v) (sym (verdict-stays before more t told said)) refl)

told-longer : (scenario : Scenario) (cells longer : List (List Cell)) (n : ℕ) → IsLonger cells longer →
    ((k : ℕ) → k < n → AreDecidedAt cells (16 * k + 23)) →
    told_of scenario longer n ≡ told_of scenario cells n
told-longer scenario cells longer n are decided =
    same-range (λ k. told_in (back_of scenario longer k)) (λ k. told_in (back_of scenario cells k)) n
    (λ k low. ap (λ packet. told_in (if is_lost scenario k then Lost else Nibbles (packet_nibbles packet)))
    (returns_stay scenario.options cells longer k are (decided k low)))

pub course-comes : (scenario : Scenario) (frames n : ℕ) (cells longer : List (List Cell)) → IsLonger cells longer →
    ComeOfLines scenario (told_of scenario cells n) frames longer → IsCourse scenario frames n cells →
    IsCourse scenario frames n longer
course-comes scenario frames n cells longer are come course = record {
  most = course.most;
  used = course.used;
  come = subst (λ returns. ComeOfLines scenario returns frames longer)
      (sym (told-longer scenario cells longer n are course.decided)) come;
  decided = λ k low. decided-longer cells longer (16 * k + 23) are (course.decided k low);
}

-- ---- a return cell comes
told-more : (scenario : Scenario) (cells : List (List Cell)) (n : ℕ) →
    AgreeBefore n (told_of scenario cells n) (told_of scenario cells (suc n))
told-more scenario cells n =
    let f = λ (k : ℕ). told_in (back_of scenario cells k) in
    take-map-range_with_len f 0 n n (omega arith) ∙ sym (take-map-range_with_len f 0 (suc n) n (omega arith))

pub course-backs : (scenario : Scenario) (frames n : ℕ) (cells : List (List Cell)) → n < packets scenario →
    AreDecidedAt cells (16 * n + 23) →
    IsCourse scenario frames n cells → IsCourse scenario frames (suc n) cells
course-backs scenario frames n cells most decided course =
    let used = course.used in
    record {
      most = omega arith;
      used = omega arith;
      come = come-same scenario (told_of scenario cells n) (told_of scenario cells (suc n)) frames n cells used
          (told-more scenario cells n) course.come;
      decided = λ k low. elim (cases_eq k n) [
        | inl last ↦ subst (λ k. AreDecidedAt cells (16 * k + 23)) (sym last) decided
        | inr other ↦ course.decided k (omega arith)
      ];
    }

-- ---- the first cells that a line gives have come of it
pub comes-first : (scenario : Scenario) (returns : List (Option Told)) (line frames delay carries popped : ℕ) →
    min carries scenario.ticks ≤ frames →
    ComesOfLine scenario returns line frames (take popped (given scenario returns line frames delay carries))
comes-first scenario returns line frames delay carries popped taken = record {
  delay = delay;
  carries = carries;
  later = drop popped (given scenario returns line frames delay carries);
  taken = taken;
  first = sym (take-append-drop popped (given scenario returns line frames delay carries));
}
