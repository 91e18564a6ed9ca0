-- A line carries, by its numbers: why it stalls, what the send rings hold (HasSent), what a carry leaves.
use Rattle.std.proofs.Common.{◌≡◌, ◌≢◌, ℕ, zero, suc, ◌+◌, ◌-◌, ◌%◌, min, take, None, ◌<◌, ◌≤◌, List, [], ◌∷◌, map}
use Rattle.std.proofs.Common.{length, slice_get, slice_set, slice_index_or, Some, refl, sym, ◌∙◌, ap, subst, arith}
use Rattle.std.proofs.Common.{inl, inr, swap, length-set, option_map, ◌&&◌, nat_le, nat_lt, true, false, Option}
use Rattle.std.specs.Global.{Vec, Box}
use Rattle.std.proofs.lemmas.Bool.{cases_eq, cases_lt, cases_Bool, lt-leb, lt-ltb, le-ltb}
use Rattle.std.proofs.lemmas.List.{length-map, map-set, get_or-set_same, length-take}
use Rattle.std.proofs.lemmas.Option.{get_or_from_slice_get, slice_get_within, slice_get-map, same_Some}
use Rattle.std.proofs.lemmas.List.Edits.{length-swap}
use Rattle.law_model.proofs.ListLaws.{at-index}
use Rattle.law_model.specs.Common.{scenario_by, session_cells, container_of, Container, Leg, LineCounts}
use Rattle.law_model.specs.Common.{frame_of, carried_by, cells, LinePath, Plan, Counts, Step, step, carry_at, carry_on}
use Rattle.law_model.specs.Common.{in_send, in_receive, IsSound}
use Rattle.law_terminal.proofs.ContainerPayloadLaws.{containers-size, range-at}
use Rattle.law_walk.specs.Common.{sent_at, sent_on, counts_at, walk_plan, CanWalk, cells_on, popped_on}
use Rattle.law_walk.specs.Common.{popped_cells, delay_on, taken_by, cells_by, path_on}
use Rattle.law_walk.proofs.WalkRingAndWaitingTakeLaws.{taken-cells, taken-next, receive-size}
use Rattle.circular_buffer.proofs.Places.{slice_get-some, slice_get-set_same, slice_get-set_other}
use Rattle.walk_engine.specs.Common.{Ringed, line_counts, frame_in, HasSent, IsCarriedAt, ring_of, answer_by, moved_of}
use Rattle.walk_engine.specs.Common.{counts_after, Parts, counts_of, calls_on, HasLine, carry_cause, CanCarry}
use Rattle.walk_engine.specs.Common.{IsSentOn, AgreesAt, IsKnownOn, calls_of, windows_in}
use Rattle.walk_engine.specs.Common.{windows_of, Makes, Walking, LiveStands}
use Rattle.std.proofs.Math.Seq.{map-set_same}
use Rattle.law_model.specs.declared.walk_events.StallCause.{StallCause}
use Rattle.law_model.specs.declared.walk_events.StallCause.TheVariants.{Done, Empty, RxFull}
use Rattle.law_model.specs.declared.walk_events.Event.TheVariants.{Carry}
use Rattle.std.specs.List.{range_with_len}
use Rattle.law_model.specs.declared.window_types.Window.{Window}
use Rattle.law_model.specs.members.Damage.{carried}
use Rattle.member_path.specs.failure_window.AgreeingWindows.{AgreeBelow}
use Rattle.member_path.proofs.DelayedPathCellLaws.{calls-agree}
use Rattle.member_path.specs.path_delay.CallsOnDelayedLine.{and_push, and_flush, carries_of, path_cells, IsEnded}
use Rattle.law_walk.proofs.WalkPlanAndPoppedCellLaws.{line-path, sound-walks, line-fits, has-paths}
use Rattle.law_progress.specs.Progress.{LineFits}
use Rattle.law_session.proofs.ClientStreamAndReplayLaws.{map-same}
use Rattle.walk_engine.specs.declared.walk_core.step_answers.Moved.TheVariants.{Yes, Stalled}
use Rattle.walk_engine.specs.walk_core.WayParts.{WayStands}
use Rattle.walk_engine.specs.walk_core.Carry.{HasReceiveRoom}
use Rattle.walk_engine.proofs.WayEventAndToldSourceLaws.{walked-next, source-stays, counted-stays}
use Rattle.walk_engine.proofs.WayEventAndToldSourceLaws.{sink-stays, set-each}

-- ---- What the send rings hold while lines carry, and where the places of two frames change their containers.
-- ---- lines that have carried more
pub sent-later : (leg : Leg) (ticks : ℕ) (counts more : List LineCounts) (sent : List (List Container)) →
    HasSent leg ticks counts sent →
    ((m : ℕ) → (counts_at counts m).carried ≤ (counts_at more m).carried) → HasSent leg ticks more sent
sent-later leg ticks counts more sent has grows = record {
  places = has.places;
  lines = has.lines;
  frames = λ t m frame inside late low high told. has.frames t m frame inside
      (let g = grows m in omega (arith, g, late)) low high told;
}

pub set-carries : (lines : List LineCounts) (m k : ℕ) (line more : LineCounts) → slice_get lines m ≡ Some line →
    line.carried ≤ more.carried →
    (counts_at lines k).carried ≤ (counts_at (slice_set lines m more) k).carried
set-carries [] m k line more there grows = absurd cc
set-carries (x ∷ lines) zero zero line more there grows = let same : x ≡ line = cc in
    subst (λ (l : LineCounts). l.carried ≤ more.carried) (sym same) grows
set-carries (x ∷ lines) zero (suc k) line more there grows = omega arith
set-carries (x ∷ lines) (suc m) zero line more there grows = omega arith
set-carries (x ∷ lines) (suc m) (suc k) line more there grows = set-carries lines m k line more there grows

pub counts-here : (lines : List LineCounts) (m : ℕ) (line : LineCounts) → slice_get lines m ≡ Some line →
    counts_at lines m ≡ line
counts-here lines m line there = get_or_from_slice_get lines m line _ there

counts-set : (lines : List LineCounts) (m : ℕ) (line more : LineCounts) → slice_get lines m ≡ Some line →
    counts_at (slice_set lines m more) m ≡ more
counts-set lines m line more there = get_or-set_same lines m more _ (slice_get_within lines m line there)

-- ---- a line that has carried one container more
other-place : (x t ticks : ℕ) → x + 1 ≤ t → t < ticks → ticks ≤ x + 32 → t % 32 ≡ x % 32 → ⊥
other-place x t ticks later low few same = omega (arith, later, low, few, same)

pub sent-carried : (leg : Leg) (ticks m : ℕ) (counts : List LineCounts) (line more : LineCounts)
    (sent after : List (List Container)) → HasSent leg ticks counts sent →
    slice_get counts m ≡ Some line → more.carried ≡ line.carried + 1 → ticks ≤ line.carried + 32 →
    IsCarriedAt (line.carried % 32) m sent after →
    HasSent leg ticks (slice_set counts m more) after
sent-carried leg ticks m counts line more sent after has there one few changed = record {
  places = changed.places ∙ has.places;
  lines = λ k frame told. let found = changed.lines k frame told in found.2 ∙ has.lines k found.0 found.1;
  frames = λ t k frame inside late low high told.
      let found = changed.lines (t % 32) frame told in
      let grown = set-carries counts m k line more there (omega (arith, one)) in
      let same : slice_get frame k ≡ slice_get found.0 k = elim (cases_eq k m) [
        | inl own ↦
            let at = ap (λ (l : LineCounts). l.carried)
            (ap (counts_at (slice_set counts m more)) own ∙ counts-set counts m line more there) in
            found.3 k (λ place. absurd (other-place line.carried t ticks (omega (arith, late, at, one)) low few place))
        | inr apart ↦ found.3 k (λ place. apart)
      ] in
      same ∙ has.frames t k found.0 inside (omega (arith, grown, late)) low high found.1;
}

-- a frame of which the box of a line is another one, and frames of which none is
pub changed-at : (sent : List (Vec (Box Container))) (place m : ℕ) (row other : Vec (Box Container))
    (container : Box Container) → slice_get sent place ≡ Some row →
    other.items ≡ slice_set row.items m container →
    IsCarriedAt place m (map frame_in sent) (map frame_in (slice_set sent place other))
changed-at sent place m row other container there put = record {
  places =
      length-map (slice_set sent place other) frame_in ∙ length-set sent place other
      ∙ sym (length-map sent frame_in);
  lines = λ k frame told. elim (cases_eq k place) [
    | inl same ↦ (
      frame_in row,
      slice_get-map frame_in sent k ∙ ap (λ j. option_map frame_in (slice_get sent j)) same
          ∙ ap (option_map frame_in) there,
      ap length (is k frame same told) ∙ length-set (frame_in row) m container.value,
      λ line apart. ap (λ xs. slice_get xs line) (is k frame same told)
          ∙ slice_get-set_other (frame_in row) m line container.value (apart same),
    )
    | inr apart ↦ (
      frame,
      slice_get-map frame_in sent k ∙ ap (option_map frame_in) (sym (slice_get-set_other sent place k other apart))
          ∙ sym (slice_get-map frame_in (slice_set sent place other) k) ∙ told,
      refl,
      λ line away. refl,
    )
  ];
} where
  is : (k : ℕ) (frame : List Container) → k ≡ place →
      slice_get (map frame_in (slice_set sent place other)) k ≡ Some frame →
      frame ≡ slice_set (frame_in row) m container.value
  is k frame same told =
      let now = sym told ∙ slice_get-map frame_in (slice_set sent place other) k
      ∙ ap (λ j. option_map frame_in (slice_get (slice_set sent place other) j)) same
      ∙ ap (option_map frame_in) (slice_get-set_same sent place other (slice_get_within sent place row there)) in
      same_Some frame (frame_in other) now ∙ ap (map (λ (b : Box Container). b.value)) put
      ∙ map-set (λ (b : Box Container). b.value) row.items m container

pub unchanged-at : (place m : ℕ) (sent : List (List Container)) → IsCarriedAt place m sent sent
unchanged-at place m sent = record { places = refl; lines = λ k frame told. (frame, told, refl, λ line apart. refl) }

-- ---- two places that change their containers
set-from : {X : Type 0} (xs ys : List X) (a b k : ℕ) (d x : X) → length ys ≡ length xs → a < length xs →
    b < length xs → slice_get (slice_set ys b (slice_index_or xs a d)) k ≡ Some x →
    (k ≢ b → (j : ℕ) × (slice_get xs j ≡ Some x)) → (j : ℕ) × (slice_get xs j ≡ Some x)
set-from xs ys a b k d x size low under told other =
    elim (cases_eq k b) [
      | inl same ↦
          let (y, there) = slice_get-some xs a low in
          let is = get_or_from_slice_get xs a y d there in
          let put = slice_get-set_same ys b (slice_index_or xs a d) (omega (arith, under, size)) in (
            a,
            there ∙ ap Some (sym is) ∙ sym put
                ∙ sym (ap (slice_get (slice_set ys b (slice_index_or xs a d))) same) ∙ told,
          )
      | inr apart ↦ other apart
    ]

swap-from : {X : Type 0} (xs : List X) (a b k : ℕ) (x : X) → a < length xs → b < length xs →
    slice_get (swap xs a b) k ≡ Some x → (j : ℕ) × (slice_get xs j ≡ Some x)
swap-from [] a b k x low under told = absurd (omega (arith, low))
swap-from (d ∷ ys) a b k x low under told =
    let first : List _ = slice_set (d ∷ ys) a (slice_index_or (d ∷ ys) b d) in
    set-from (d ∷ ys) first a b k d x (length-set (d ∷ ys) a (slice_index_or (d ∷ ys) b d)) low under told
    (λ apart. let told' = sym (slice_get-set_other first b k (slice_index_or (d ∷ ys) a d) apart) ∙ told in
    set-from (d ∷ ys) (d ∷ ys) b a k d x refl under low told'
    (λ other. (k, sym (slice_get-set_other (d ∷ ys) a k (slice_index_or (d ∷ ys) b d) other) ∙ told')))

pub counts-of : (lines : List Ringed) (m : ℕ) (line : Ringed) → slice_get lines m ≡ Some line →
    counts_at (map line_counts lines) m ≡ line_counts line
counts-of lines m line there = counts-here (map line_counts lines) m (line_counts line)
    (slice_get-map line_counts lines m ∙ ap (option_map line_counts) there)

-- where each line has carried all frames
pub sent-swapped : (leg : Leg) (ticks : ℕ) (lines : List Ringed) (sent : List (Vec (Box Container)))
    (a b : ℕ) → length lines ≡ leg.config.lines →
    HasSent leg ticks (map line_counts lines) (map frame_in sent) → a < length sent → b < length sent →
    ((m : ℕ) (line : Ringed) → slice_get lines m ≡ Some line → ticks ≤ line.carried) →
    HasSent leg ticks (map line_counts lines) (map frame_in (swap sent a b))
sent-swapped leg ticks lines sent a b size has low under all = record {
  places = length-map (swap sent a b) frame_in ∙ length-swap sent a b ∙ sym (length-map sent frame_in) ∙ has.places;
  lines = λ k frame told.
      let inside = slice_get_within _ k frame told in
      let (row, there) = slice_get-some (swap sent a b) k
      (let e = length-map (swap sent a b) frame_in in omega (arith, inside, e)) in
      let same : Some (frame_in row) ≡ Some frame = sym
      (slice_get-map frame_in (swap sent a b) k ∙ ap (option_map frame_in) there) ∙ told in
      let (j, was) = swap-from sent a b k row low under there in
      has.lines j frame (slice_get-map frame_in sent j ∙ ap (option_map frame_in) was ∙ same);
  frames = λ t m frame inside late before high told.
      let (line, there) = slice_get-some lines m (omega (arith, inside, size)) in
      let carried = all m line there in
      let is = ap (λ (l : LineCounts). l.carried) (counts-of lines m line there) in
      absurd (omega (arith, late, is, carried, before));
}

-- ---- A line carries, by its numbers.
pub map-get : {X Y : Type 0} (f : X → Y) (xs : List X) (m : ℕ) (x : X) → slice_get xs m ≡ Some x →
    slice_get (map f xs) m ≡ Some (f x)
map-get f xs m x e = slice_get-map f xs m ∙ ap (option_map f) e

-- a line in numbers
pub record AreNumbers (leg : Leg) (m : ℕ) (line : Ringed) : Type 0 where
  pub total : line.core.total ≡ leg.config.ticks
  pub delay : line.core.delay ≡ delay_on leg m
  pub pushed : line.core.pushed ≡ min line.carried leg.config.ticks
  pub flushed : line.core.flushed ≡ line.carried - leg.config.ticks
  pub given : line.given ≡ (path_on leg m).given line.carried

pub carries : (leg : Leg) (m x : ℕ) → carries_of (calls_on leg m x) ≡ x
carries leg m x =
    let e = length-take (min x leg.config.ticks) (sent_on (scenario_by leg) m) in
    let all = containers-size (scenario_by leg) (session_cells (scenario_by leg)) m leg.config.ticks in
    omega (arith, e, all)

-- what its carries gave is the same by its own windows and by the leg's
pub path-same : (leg : Leg) (m : ℕ) (line : Ringed) → HasLine leg m line →
    path_cells (calls_of leg m line) ≡ path_cells (calls_on leg m line.carried)
path-same leg m line has =
    let pushed = has.has.core.pushed in
    calls-agree (calls_on leg m line.carried) line.core.windows line.core.pushed has.agrees (omega (arith, pushed))

pub below : (a b : ℕ) → a ≤ b → (a ≡ b → ⊥) → a < b
below a b within apart = elim (cases_lt a b)
    [ inl low ↦ low | inr high ↦ absurd (apart (let e : a ≡ b = omega (arith, within, high) in e)) ]

pub agree-more : (windows others : List Window) (n k : ℕ) → AgreeBelow windows others n →
    carried windows n ≡ carried others n → k ≤ n + 1 → AgreeBelow windows others k
agree-more windows others n k agree own few t low = elim (cases_eq t n) [
  | inl same ↦ subst (λ i. carried windows i ≡ carried others i) (sym same) own
  | inr apart ↦ agree t (below t n (omega (arith, low, few)) apart)
]

pub windows-at : (lines : List Ringed) (m : ℕ) (line : Ringed) → slice_get lines m ≡ Some line →
    slice_index_or (windows_in lines) m [] ≡ line.core.windows
windows-at lines m line e =
    get_or_from_slice_get (windows_in lines) m line.core.windows [] (map-get windows_of lines m line e)

pub windows-set : (lines : List Ringed) (m : ℕ) (line after : Ringed) → slice_get lines m ≡ Some line →
    after.core.windows ≡ line.core.windows → windows_in (slice_set lines m after) ≡ windows_in lines
windows-set lines m line after e same =
    map-set_same windows_of lines m after line (same ∙ sym (ap windows_of (get_or_from_slice_get lines m line line e)))

-- the cells that its carries gave
pub cells-are : (leg : Leg) (m x : ℕ) → path_cells (calls_on leg m x) ≡ cells_by leg m x
cells-are leg m x =
    ap (cells (carried_by (scenario_by leg) m) (delay_on leg m) leg.config.ticks (taken_by leg m x))
    (carries leg m x)
    ∙ taken-cells leg m x

pub numbers : (leg : Leg) (m : ℕ) (line : Ringed) → HasLine leg m line → AreNumbers leg m line
numbers leg m line has = record {
  total = has.has.core.total;
  delay = has.has.core.delay;
  pushed = has.has.core.pushed ∙ (let e = length-take (min line.carried leg.config.ticks)
      (sent_on (scenario_by leg) m) in
      let all = containers-size (scenario_by leg) (session_cells (scenario_by leg)) m leg.config.ticks in
      omega (arith, e, all));
  flushed = has.has.core.flushed;
  given = has.has.given ∙ ap length (path-same leg m line has) ∙ ap length (cells-are leg m line.carried) ∙ receive-size leg m line.carried 0
      ∙ (let e : (path_on leg m).given line.carried - 0 ≡ (path_on leg m).given line.carried = omega arith in e);
}

pub all-carried : (leg : Leg) (m : ℕ) (line : Ringed) → HasLine leg m line →
    line.core.pushed ≡ line.core.total → leg.config.ticks ≤ line.carried
all-carried leg m line has all = let n = numbers leg m line has in let a = n.pushed in let b = n.total in
    omega (arith, a, b, all)

pub not-carried : (leg : Leg) (m : ℕ) (line : Ringed) → HasLine leg m line →
    line.core.pushed < line.core.total → line.carried < leg.config.ticks
not-carried leg m line has left = let n = numbers leg m line has in let a = n.pushed in let b = n.total in
    omega (arith, a, b, left)

module _ (leg : Leg) (m ticks : ℕ) (line : Ringed) (has : HasLine leg m line)
    (pops : line.popped ≤ (path_on leg m).given line.carried)
    (room : (path_on leg m).given line.carried ≤ line.popped + leg.config.ring) where
  cause : Option StallCause
  cause = carry_cause leg.config.ticks leg.config.ring ticks m (path_on leg m) (line_counts line)

  on : (IsEnded line.core → ⊥) → nat_lt (leg.config.ticks + delay_on leg m) line.carried ≡ false
  on open' =
      let n = numbers leg m line has in
      let a = n.delay in let b = n.flushed in
      elim (cases_lt (leg.config.ticks + delay_on leg m) line.carried) [
        | inl past ↦ absurd (open' (omega (arith, past, a, b)))
        | inr early ↦ grind (arith, early)
      ]

  wet : ((line.core.pushed < line.core.total) → ticks ≤ line.carried → ⊥) →
      nat_lt line.carried leg.config.ticks && nat_le (ticks - min line.carried leg.config.ticks) 0 ≡ false
  wet not_dry =
      let n = numbers leg m line has in
      let a = n.pushed in let b = n.total in
      elim (cases_lt line.carried leg.config.ticks) [
        | inl left ↦ elim (cases_lt line.carried ticks) [
          | inl more ↦ (let e = lt-leb (ticks - min line.carried leg.config.ticks) 0 (omega (arith, left, more)) in
              let f = lt-ltb line.carried leg.config.ticks left in rw (f, e) refl)
          | inr dry ↦ absurd (not_dry (omega (arith, left, a, b)) dry)
        ]
        | inr all ↦ (let e = le-ltb line.carried leg.config.ticks all in rw e refl)
      ]

  pub cause-full : (IsEnded line.core → ⊥) → ((line.core.pushed < line.core.total) → ticks ≤ line.carried → ⊥) →
      line.given ≡ line.popped + ring_of line →
      Some (RxFull m) ≡ carry_cause leg.config.ticks leg.config.ring ticks m (path_on leg m)
      (line_counts line)
  cause-full open' not_dry full =
      let n = numbers leg m line has in
      let a = n.given in let b = has.ring in
      let e : nat_le leg.config.ring ((path_on leg m).given line.carried - line.popped) ≡ true = grind
      (arith, full, a, b) in
      rw (on open', wet not_dry, e) refl

  pub cause-none : (IsEnded line.core → ⊥) → ((line.core.pushed < line.core.total) → ticks ≤ line.carried → ⊥) →
      (line.given ≡ line.popped + ring_of line → ⊥) →
      None ≡ carry_cause leg.config.ticks leg.config.ring ticks m (path_on leg m) (line_counts line)
  cause-none open' not_dry not_full =
      let n = numbers leg m line has in
      let a = n.given in let b = has.ring in
      elim (cases_lt ((path_on leg m).given line.carried) (line.popped + leg.config.ring)) [
        | inl some ↦ (let e : nat_le leg.config.ring ((path_on leg m).given line.carried - line.popped)
            ≡ false = grind (arith, some, pops) in rw (on open', wet not_dry, e) refl)
        | inr all ↦ absurd (not_full (omega (arith, all, room, a, b)))
      ]

-- ---- one carry more
pub calls-push : (leg : Leg) (m : ℕ) (line : Ringed) → line.carried < leg.config.ticks →
    and_push (calls_on leg m line.carried) (sent_at leg m line.carried) ≡ calls_on leg m (line.carried + 1)
calls-push leg m line low =
    ap (λ (containers : List Container). record (calls_on leg m line.carried) { containers = containers })
    (sym (taken-next leg m line.carried low))
    ∙ ap (λ n. record (calls_on leg m (line.carried + 1)) { flushes = n })
    (let e : line.carried - leg.config.ticks ≡ line.carried + 1 - leg.config.ticks = omega (arith, low) in
    e)

pub calls-flush : (leg : Leg) (m : ℕ) (line : Ringed) → leg.config.ticks ≤ line.carried →
    and_flush (calls_on leg m line.carried) ≡ calls_on leg m (line.carried + 1)
calls-flush leg m line past =
    ap (λ n. record (calls_on leg m line.carried) {
      containers = take n (sent_on (scenario_by leg) m);
      flushes = suc (line.carried - leg.config.ticks);
    })
    (let e : min line.carried leg.config.ticks ≡ min (line.carried + 1) leg.config.ticks = omega
    (arith, past) in e)
    ∙ ap (λ n. record (calls_on leg m (line.carried + 1)) { flushes = n })
    (let e : suc (line.carried - leg.config.ticks) ≡ line.carried + 1 - leg.config.ticks = omega
    (arith, past) in e)

-- ---- the step
stalls : (plan : Plan) (s : Counts) (m : ℕ) (path : LinePath) (line : LineCounts) (cause : StallCause) →
    Some cause ≡ carry_cause plan.ticks plan.ring s.ticks m path line →
    ((carry_on plan s m path line).counts ≡ s) × ((carry_on plan s m path line).cause ≡ Some cause)
stalls plan s m path line cause e =
    elim (cases_Bool (nat_lt (plan.ticks + path.delay) line.carried)) [
      | inl a ↦ rw a (refl, let f : Some cause ≡ Some Done = rw a at e in sym f)
      | inr a ↦ rw a (elim (cases_Bool (nat_lt line.carried plan.ticks && nat_le (in_send plan.ticks s.ticks line) 0)) [
        | inl b ↦ rw b (refl, let f : Some cause ≡ Some (Empty m) = rw (a, b) at e in sym f)
        | inr b ↦ rw b (elim (cases_Bool (nat_le plan.ring (in_receive path line))) [
          | inl d ↦ rw d (refl, let f : Some cause ≡ Some (RxFull m) = rw (a, b, d) at e in sym f)
          | inr d ↦ absurd (let f : Some cause ≡ None = rw (a, b, d) at e in cc)
        ])
      ])
    ]

goes : (plan : Plan) (s : Counts) (m : ℕ) (path : LinePath) (line : LineCounts) →
    None ≡ carry_cause plan.ticks plan.ring s.ticks m path line →
    carry_on plan s m path line ≡ record {
      counts = record s {
        lines = slice_set s.lines m
            (record { carried = line.carried + 1; popped = line.popped });
      };
      cause = None;
    }
goes plan s m path line e =
    elim (cases_Bool (nat_lt (plan.ticks + path.delay) line.carried)) [
      | inl a ↦ absurd (let f : None ≡ Some Done = rw a at e in cc)
      | inr a ↦ rw a (elim (cases_Bool (nat_lt line.carried plan.ticks && nat_le (in_send plan.ticks s.ticks line) 0)) [
        | inl b ↦ absurd (let f : None ≡ Some (Empty m) = rw (a, b) at e in cc)
        | inr b ↦ rw b (elim (cases_Bool (nat_le plan.ring (in_receive path line))) [
          | inl d ↦ absurd (let f : None ≡ Some (RxFull m) = rw (a, b, d) at e in cc)
          | inr d ↦ rw d refl
        ])
      ])
    ]

pub frame-at : (leg : Leg) (m x : ℕ) → m < length leg.config.windows →
    slice_get (frame_of (scenario_by leg) (session_cells (scenario_by leg)) x) m ≡ Some (sent_at leg m x)
frame-at leg m x inside =
    map-get (λ line. container_of (scenario_by leg) (session_cells (scenario_by leg)) line x)
    (range_with_len 0 (length leg.config.windows)) m m
    (range-at 0 (length leg.config.windows) m inside ∙ ap Some (let e : 0 + m ≡ m = omega arith in e))

-- ---- of a walk
popped-same : (lines : List LineCounts) (m k : ℕ) (line : LineCounts) (x : LineCounts) →
    slice_get lines m ≡ Some line → x.popped ≡ line.popped →
    (counts_at (slice_set lines m x) k).popped ≡ (counts_at lines k).popped
popped-same [] m k line x e same = absurd cc
popped-same (y ∷ lines) zero zero line x e same = same ∙ (let h : line ≡ y = cc in ap (λ (l : LineCounts). l.popped) h)
popped-same (y ∷ lines) zero (suc k) line x e same = refl
popped-same (y ∷ lines) (suc m) zero line x e same = refl
popped-same (y ∷ lines) (suc m) (suc k) line x e same = popped-same lines m k line x e same

cells-same : (leg : Leg) (lines : List LineCounts) (m : ℕ) (line : LineCounts) (x : LineCounts) →
    slice_get lines m ≡ Some line → x.popped ≡ line.popped →
    popped_cells leg lines ≡ popped_cells leg (slice_set lines m x)
cells-same leg lines m line x e same =
    map-same (popped_on leg lines) (popped_on leg (slice_set lines m x))
    (λ k. ap (λ n. take n (cells_on (scenario_by leg) (delay_on leg k) k))
    (sym (popped-same lines m k line x e same))) (range_with_len 0 (length leg.config.windows))

module _ (leg : Leg) (backs : ℕ) (parts : Parts) (is : WayStands leg backs parts)
    (m : ℕ) (low : m < leg.config.lines) (line : Ringed) (there : slice_get parts.lines m ≡ Some line) where
  here : slice_get (counts_of parts backs).lines m ≡ Some (line_counts line)
  here = map-get line_counts parts.lines m line there

  can : CanWalk leg
  can = sound-walks leg is.sound

  windows : m < length leg.config.windows
  windows = let e = is.sound.network.windows_each in omega (arith, low, e)

  pub step-is : step (walk_plan leg) (counts_of parts backs) (Carry m) ≡ carry_on (walk_plan leg)
      (counts_of parts backs) m (path_on leg m) (line_counts line)
  step-is =
      ap (λ p. carry_at (walk_plan leg) (counts_of parts backs) m p
      (slice_get (counts_of parts backs).lines m)) (line-path leg (sound-walks leg is.sound) m windows)
      ∙ ap (carry_at (walk_plan leg) (counts_of parts backs) m (Some (path_on leg m))) here

  pub line-has : HasLine leg m line
  line-has = is.lines.each m line there

  pub line-room : HasReceiveRoom leg m line
  line-room =
      let fits = line-fits leg (counts_of parts backs) (sound-walks leg is.sound) is.walked m windows in
      let same = counts-here (counts_of parts backs).lines m (line_counts line) here in
      record {
        pops = subst (λ (l : LineCounts). l.popped ≤ (path_on leg m).given l.carried) same fits.pops;
        room = subst (λ (l : LineCounts). (path_on leg m).given l.carried ≤ l.popped + leg.config.ring) same
            fits.receive;
      }

  line-send : parts.source.core.ticks ≤ line.carried + 32
  line-send =
      let fits = line-fits leg (counts_of parts backs) (sound-walks leg is.sound) is.walked m windows in
      let same = counts-here (counts_of parts backs).lines m (line_counts line) here in
      let send = subst (λ (l : LineCounts). parts.source.core.ticks ≤ min l.carried leg.config.ticks + 32) same
      fits.send in
      omega (arith, send)

  pub carry-stays : (cause : StallCause) →
      Some cause ≡ carry_cause leg.config.ticks leg.config.ring parts.source.core.ticks m (path_on leg m)
      (line_counts line) →
      (counts_of parts backs ≡ counts_after leg (counts_of parts backs) (Carry m))
      × (Stalled cause ≡ moved_of leg (counts_of parts backs) (Carry m))
  carry-stays cause e =
      let told = stalls (walk_plan leg) (counts_of parts backs) m (path_on leg m) (line_counts line) cause e in (
        sym (ap (λ (x : Step). x.counts) step-is ∙ told.0),
        ap (λ o. answer_by o None)
            (sym (ap (λ (x : Step). x.cause) step-is ∙ told.1)),
      )

  module _ (after : Ringed) (none : None ≡ carry_cause leg.config.ticks leg.config.ring parts.source.core.ticks m
      (path_on leg m) (line_counts line))
      (has : HasLine leg m after) (more : after.carried ≡ line.carried + 1)
      (popped : after.popped ≡ line.popped) (damage : after.core.windows ≡ line.core.windows) where
    moves : (step (walk_plan leg) (counts_of parts backs)
        (Carry m) ≡ record {
          counts = record
              (counts_of parts backs) {
                lines = slice_set (counts_of parts backs).lines m
                    (record { carried = line.carried + 1; popped = line.popped });
              };
          cause = None;
        })
    moves = step-is ∙ goes (walk_plan leg) (counts_of parts backs) m (path_on leg m) (line_counts line) none

    lines-are : map line_counts (slice_set parts.lines m after) ≡ slice_set (counts_of parts backs).lines m
        (record { carried = line.carried + 1; popped = line.popped })
    lines-are =
        map-set line_counts parts.lines m after
        ∙ ap (slice_set (counts_of parts backs).lines m)
        (ap (λ n. record { carried = n; popped = after.popped }) more
        ∙ ap (λ n. record { carried = line.carried + 1; popped = n }) popped)

    pub carry-counts : counts_of (record parts { lines = slice_set parts.lines m after }) backs
        ≡ counts_after leg (counts_of parts backs) (Carry m)
    carry-counts = ap (λ lines. record (counts_of parts backs) { lines = lines }) lines-are
        ∙ sym (ap (λ (x : Step). x.counts) moves)

    pub carry-moved : Yes ≡ moved_of leg (counts_of parts backs) (Carry m)
    carry-moved = ap (λ o. answer_by o None) (sym (ap (λ (x : Step). x.cause) moves))

    module _ (sent : List (List Container)) (changed : IsCarriedAt (line.carried % 32) m parts.sent sent) where
      pub carry-kept : WayStands leg backs (record parts { lines = slice_set parts.lines m after; sent = sent })
      carry-kept =
          let cells : popped_cells leg (counts_of parts backs).lines ≡ popped_cells leg
          (map line_counts (slice_set parts.lines m after)) =
          cells-same leg (counts_of parts backs).lines m (line_counts line) (line_counts after) here popped
          ∙ ap (popped_cells leg) (sym (map-set line_counts parts.lines m after)) in
          record {
            sound = is.sound;
            total = is.total;
            walked = walked-next leg (counts_of parts backs) _ (Carry m) is.walked carry-counts;
            source = source-stays leg (counts_of parts backs) _ _ _ parts.source.core is.source;
            sent = subst (λ ls. HasSent leg parts.source.core.ticks ls sent) (sym lines-are)
                (sent-carried leg parts.source.core.ticks m (counts_of parts backs).lines (line_counts line)
                (record { carried = line.carried + 1; popped = line.popped }) parts.sent sent
                is.sent here refl line-send changed);
            lines = record {
              size = length-set parts.lines m after ∙ is.lines.size;
              each = set-each (HasLine leg) parts.lines m after has is.lines.each;
            };
            agrees = λ t before. subst (AgreesAt leg t) (sym (windows-set parts.lines m line after there damage))
                (is.agrees t before);
            sink = sink-stays leg (counts_of parts backs) _ parts.rows parts.sink cells is.sink;
            landed = counted-stays leg (counts_of parts backs) _ _ _ parts.source.landed is.landed;
            counted = is.counted;
          }

      -- by a number that is the line's
      pub carry-kept_at : (k : ℕ) → k ≡ m → WayStands leg backs
          (record parts { lines = slice_set parts.lines k after; sent = sent })
      carry-kept_at k same = subst (λ (j : ℕ). WayStands leg backs
          (record parts { lines = slice_set parts.lines j after; sent = sent }))
          (sym same) carry-kept

      pub carry-counts_at : (k : ℕ) → k ≡ m →
          counts_of (record parts { lines = slice_set parts.lines k after; sent = sent }) backs
          ≡ counts_after leg (counts_of parts backs) (Carry m)
      carry-counts_at k same = ap (λ (j : ℕ). counts_of
          (record parts { lines = slice_set parts.lines j after; sent = sent }) backs) same ∙ carry-counts

-- a place of the send rings
pub frame-size : (leg : Leg) (ticks : ℕ) (counts : List LineCounts) (sent : List (Vec (Box Container))) →
    HasSent leg ticks counts (map frame_in sent) → (k : ℕ) (frame : Vec (Box Container)) →
    slice_get sent k ≡ Some frame →
    length frame.items ≡ leg.config.lines
frame-size leg ticks counts sent has k frame e =
    sym (length-map frame.items (λ (b : Box Container). b.value))
    ∙ has.lines k (frame_in frame) (map-get frame_in sent k frame e)

pub sent-places : (leg : Leg) (ticks : ℕ) (counts : List LineCounts) (sent : List (Vec (Box Container))) →
    HasSent leg ticks counts (map frame_in sent) → length sent ≡ 32
sent-places leg ticks counts sent has = sym (length-map sent frame_in) ∙ has.places

-- the container that a carry takes
pub is-sent : (leg : Leg) (ticks : ℕ) (counts : List LineCounts) (sent : List (Vec (Box Container)))
    (m x : ℕ) → HasSent leg ticks counts (map frame_in sent) →
    m < leg.config.lines → (counts_at counts m).carried ≤ x → (x < leg.config.ticks → x < ticks) →
    (x < leg.config.ticks → ticks ≤ x + 32) → IsSentOn leg m x sent
is-sent leg ticks counts sent m x has own late some room low frame e =
    has.frames x m (frame_in frame) own late (some low) (room low) (map-get frame_in sent (x % 32) frame e)

module _ (leg : Leg) (backs : ℕ) (parts : Parts) (is : WayStands leg backs parts)
    (m : ℕ) (low : m < leg.config.lines) (line : Ringed) (there : slice_get parts.lines m ≡ Some line) where
  fits-line : LineFits leg.config.ticks leg.config.ring parts.source.core.ticks parts.sink.taken
      (path_on leg m) (line_counts line)
  fits-line =
      let e = is.sound.network.windows_each in
      let fits = line-fits leg (counts_of parts backs) (sound-walks leg is.sound) is.walked m
      (omega (arith, low, e)) in
      subst (LineFits leg.config.ticks leg.config.ring parts.source.core.ticks parts.sink.taken
      (path_on leg m)) (counts-here (counts_of parts backs).lines m (line_counts line)
      (map-get line_counts parts.lines m line there)) fits

  pub line-sent : (sent : List (Vec (Box Container))) → map frame_in sent ≡ parts.sent →
      CanCarry line parts.source.core.ticks → IsSentOn leg m line.carried sent
  line-sent sent same can =
      let n = numbers leg m line (is.lines.each m line there) in
      let a = n.pushed in let b = n.total in
      let fits = fits-line in
      let send = fits.send in
      is-sent leg parts.source.core.ticks (map line_counts parts.lines) sent m line.carried
      (subst (HasSent leg parts.source.core.ticks (map line_counts parts.lines)) (sym same) is.sent)
      low (let own = ap (λ (l : LineCounts). l.carried) (counts-of parts.lines m line there) in omega (arith, own))
      (λ left. can.wet (omega (arith, a, b, left))) (λ left. omega (arith, send, left))

  pub room-left : (line.given ≡ line.popped + ring_of line → ⊥) → line.given < line.popped + ring_of line
  room-left apart =
      let n = numbers leg m line (is.lines.each m line there) in
      let a = n.given in let b = (is.lines.each m line there).ring in
      let fits = fits-line in
      let room = fits.receive in
      below line.given (line.popped + ring_of line) (omega (arith, a, b, room)) apart

  -- the containers that it has carried were made
  pub sends-made : min line.carried leg.config.ticks ≤ parts.source.core.ticks
  sends-made = fits-line.sent

  pub known-on : CanCarry line parts.source.core.ticks → IsKnownOn leg m line
  known-on can left =
      is.agrees line.carried (can.wet left) m low
      ∙ ap (λ w. carried w line.carried) (windows-at parts.lines m line there)

-- ---- What a carry of a line leaves of one direction, where the line was read at its number.
-- a line that has carried one container more, of the send rings as they were and as they are
pub record IsOn (m : ℕ) (was line : Ringed) (before : List (Vec (Box Container)))
    (after : List (List Container)) : Type 0 where
  pub has : (leg : Leg) → HasLine leg m was → IsSentOn leg m was.carried before → IsKnownOn leg m was →
      HasLine leg m line
  pub windows : (leg : Leg) → HasLine leg m was → line.core.windows ≡ was.core.windows
  pub carried : line.carried ≡ was.carried + 1
  pub popped : line.popped ≡ was.popped
  pub sent : IsCarriedAt (was.carried % 32) m (map frame_in before) after

module _ (leg : Leg) (backs : ℕ) (was parts : Parts) (view : parts ≡ was) (stands : WayStands leg backs was) (m k : ℕ)
    (at : k ≡ m) (inside : m < length was.lines) (line : Ringed) (read : line ≡ slice_index_or parts.lines k line) where
  is : WayStands leg backs parts
  is = subst (WayStands leg backs) (sym view) stands

  low : m < leg.config.lines
  low = let size = stands.lines.size in omega (arith, inside, size)

  there : (other : Ringed) → other ≡ slice_index_or parts.lines k other → slice_get parts.lines m ≡ Some other
  there other found = at-index parts.lines m other (subst (λ (p : Parts). m < length p.lines) (sym view) inside)
      (found ∙ ap (λ j. slice_index_or parts.lines j other) at)

  -- the line is the one of that number
  pub line-read : WayStands leg backs parts × (m < leg.config.lines) × (slice_get parts.lines m ≡ Some line)
  line-read = (is, low, there line read)

  module _ (ticks : ℕ) (now : ticks ≡ parts.source.core.ticks) (found : Option StallCause)
      (clause : (leg : Leg) → HasLine leg m line → HasReceiveRoom leg m line →
      found ≡ carry_cause leg.config.ticks leg.config.ring ticks m (path_on leg m) (line_counts line))
    where
      cause-is : found
          ≡ carry_cause leg.config.ticks leg.config.ring parts.source.core.ticks m (path_on leg m)
          (line_counts line)
      cause-is =
          clause leg
          (line-has leg backs parts is m low line (there line read))
          (line-room leg backs parts is m low line (there line read))
          ∙ ap (λ n. carry_cause leg.config.ticks leg.config.ring n m (path_on leg m)
          (line_counts line)) now

      pub line-stays : (cause : StallCause) → found ≡ Some cause →
          Makes leg backs (Carry m) was was (Stalled cause)
      line-stays cause e =
          let stays = carry-stays leg backs parts is m low line (there line read) cause (sym e ∙ cause-is) in
          subst (λ (p : Parts). Makes leg backs (Carry m) p p (Stalled cause)) view
          (record { stands = is; counts = stays.0; moved = stays.1 })

      module _ (none : found ≡ None) (can : CanCarry line ticks) (own : Ringed)
          (own_read : own ≡ slice_index_or parts.lines k own) where
        own-is : own ≡ line
        own-is = same_Some own line (sym (there own own_read) ∙ there line read)

        own-can : CanCarry own parts.source.core.ticks
        own-can = subst (λ l. CanCarry l parts.source.core.ticks) (sym own-is) (subst (CanCarry line) now can)

        pub line-free : (own.core.flushed ≤ own.core.delay) × (own.given < own.popped + ring_of own)
        line-free = (own-can.runs, room-left leg backs parts is m low own (there own own_read) own-can.room)

        none-is : None
            ≡ carry_cause leg.config.ticks leg.config.ring parts.source.core.ticks m (path_on leg m)
            (line_counts own)
        none-is =
            sym none ∙ cause-is
            ∙ ap (λ l. carry_cause leg.config.ticks leg.config.ring parts.source.core.ticks m
            (path_on leg m)
            (line_counts l)) (sym own-is)

        module _ (before : List (Vec (Box Container))) (same : map frame_in before ≡ parts.sent) (after : Ringed)
            (sent : List (List Container))
            (on : IsOn k own after before sent) where
          by : IsOn m own after before sent
          by = subst (λ j. IsOn j own after before sent) at on

          has : HasLine leg m after
          has =
              by.has leg
              (line-has leg backs parts is m low own (there own own_read))
              (line-sent leg backs parts is m low own
              (there own own_read) before same own-can)
              (known-on leg backs parts is m low own (there own own_read) own-can)

          damage : after.core.windows ≡ own.core.windows
          damage = by.windows leg (line-has leg backs parts is m low own (there own own_read))

          changed : IsCarriedAt (own.carried % 32) m parts.sent sent
          changed = subst (λ was. IsCarriedAt (own.carried % 32) m was sent) same by.sent

          pub line-carried : Makes leg backs (Carry m) was
              (record parts { lines = slice_set parts.lines k after; sent = sent }) Yes
              × (windows_in (slice_set parts.lines k after) ≡ windows_in was.lines)
          line-carried = (
            subst (λ (p : Parts). Makes leg backs (Carry m) p
                (record parts { lines = slice_set parts.lines k after; sent = sent }) Yes) view (record {
                  stands = carry-kept_at leg backs parts is m low own
                      (there own own_read) after none-is has by.carried by.popped damage
                      sent changed k at;
                  counts = carry-counts_at leg backs parts is m low own
                      (there own own_read) after none-is has by.carried by.popped damage
                      sent changed k at;
                  moved = carry-moved leg backs parts is m low own
                      (there own own_read) after none-is has by.carried by.popped damage;
                }),
            subst (λ j. windows_in (slice_set parts.lines j after) ≡ windows_in parts.lines) (sym at)
                (windows-set parts.lines m own after (there own own_read) damage)
                ∙ ap (λ (p : Parts). windows_in p.lines) view,
          )

-- a leg has a path for each line
pub paths-size : (leg : Leg) → IsSound leg → length (walk_plan leg).paths ≡ leg.config.lines
paths-size leg sound = has-paths leg (sound-walks leg sound) ∙ sound.network.windows_each

-- a walk of which a line has carried, or stalled
pub carried-live : (leg : Leg) (was : Walking) (now : Parts) → LiveStands leg was →
    WayStands leg was.way.source.inbox.come now → now ≡ record was.way { sent = now.sent; lines = now.lines } →
    LiveStands leg (record was { way = now })
carried-live leg was now is stands rest =
    subst (λ (p : Parts). LiveStands leg (record was { way = p })) (sym rest) (record {
      stands = subst (WayStands leg was.way.source.inbox.come) rest stands;
      back = record { ring = is.back.ring; lost = is.back.lost; inbox = is.back.inbox; room = is.back.room };
      noted = is.noted;
      quiet = is.quiet;
    })
