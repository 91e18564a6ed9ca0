-- What one step of a sink and several steps change: rings, popped cells, return cells, frames given and counted.
use Rattle.std.proofs.Common.{◌≡◌, ℕ, zero, suc, ◌+◌, ◌<◌, List, [], ◌∷◌, ◌++◌, length, map, get_or, slice_set}
use Rattle.std.proofs.Common.{slice_get, Some, refl, sym, ◌∙◌, ap, subst, arith, length-append, ◌%◌, ◌≤◌, ◌==◌, nat_lt}
use Rattle.std.proofs.Common.{inl, inr, ap₂, append_assoc, append-nil, ◌-◌, ◌^◌, min, Bool, true, false, Option}
use Rattle.std.proofs.Common.{Result, Ok, Err, OnOk, OnErr, is_err}
use Rattle.law_model.specs.Common.{Cell, BackCell, delineate_within, hunt_within, segments_on, Start, Appends}
use Rattle.law_model.specs.Common.{AppendsPart}
use Rattle.member_rows.specs.realign_rows.Gather.{with_cell, Gather, GatherStands as Gathers}
use Rattle.thread_sink.specs.ReceivedByRings.{popped, received, back_cells, backs, AreSameIns}
use Rattle.std.proofs.lemmas.Bool.{cases_Bool}
use Rattle.std.proofs.lemmas.Bool.Decides.{nat_tests}
use Rattle.std.proofs.lemmas.List.{length-map, append_cancel_left}
use Rattle.std.proofs.lemmas.Option.{slice_get_within}
use Rattle.law_model.specs.declared.script_types.Options.{Options}
use Rattle.law_line.specs.StableRows.{IsLonger, AreDecidedAt}
use Rattle.law_model.proofs.ListLaws.{slice_get-inside}
use Rattle.thread_rings.specs.EndsOfRing.{InEnd, OutEnd, in_passed, SameIn}
use Rattle.thread_rings.proofs.SameRingEndsLaws.{in-then, out-then}
use Rattle.terminal_sink.specs.sink_core.TakenAndGiven.{given_frames, added_frames, back_at}
use Rattle.terminal_sink.specs.sink_core.Core.{Core, SinkStands}
use Rattle.terminal_sink.proofs.ReceivedRowAndGivenFrameLaws.{stands-longer, frames-stay, back-stays, with_cell-longer}
use Rattle.terminal_sink.proofs.ReceivedRowAndGivenFrameLaws.{frames-grow}
use Rattle.thread_sink.specs.SinkParts.{Parts, parts, Keeps, Later, Gives}
use Rattle.thread_sink.specs.Step.{TookCell}
use Rattle.octet_io.proofs.AppendedTextAndPrefixLaws.{Appends-none}
use Rattle.thread_sink.specs.Told.{count_of, Writes}

-- ---- One of the rings of the lines is touched.
module _ {A : Type 0} where
  pub map-with_cell : (f : A → List Cell) (xs : List A) (m : ℕ) (was now : A) (cell : Cell) → m < length xs →
      was ≡ get_or xs m was →
      f now ≡ f was ++ cell ∷ [] → map f (slice_set xs m now) ≡ with_cell (map f xs) m cell
  map-with_cell f [] m was now cell within is e = absurd (omega arith)
  map-with_cell f (x ∷ xs) zero was now cell within is e =
      ap (λ own. own ∷ map f xs) (e ∙ ap (λ a. f a ++ cell ∷ []) is)
  map-with_cell f (x ∷ xs) (suc m) was now cell within is e =
      ap (λ rest. f x ∷ rest) (map-with_cell f xs m was now cell (omega arith) is e)

  pub map-still : (f : A → List Cell) (xs : List A) (m : ℕ) (was now : A) → m < length xs → was ≡ get_or xs m was →
      f now ≡ f was → map f (slice_set xs m now) ≡ map f xs
  map-still f [] m was now within is e = absurd (omega arith)
  map-still f (x ∷ xs) zero was now within is e = ap (λ own. own ∷ map f xs) (e ∙ ap f is)
  map-still f (x ∷ xs) (suc m) was now within is e =
      ap (λ rest. f x ∷ rest) (map-still f xs m was now (omega arith) is e)

  pub set-there : (xs : List A) (m : ℕ) (now : A) → m < length xs → slice_get (slice_set xs m now) m ≡ Some now
  set-there [] m now within = absurd (omega arith)
  set-there (x ∷ xs) zero now within = refl
  set-there (x ∷ xs) (suc m) now within = set-there xs m now (omega arith)

  pub set-was : (xs : List A) (m : ℕ) (was : A) → m < length xs → was ≡ get_or xs m was → slice_get xs m ≡ Some was
  set-was [] m was within is = absurd (omega arith)
  set-was (x ∷ xs) zero was within is = ap Some (sym is)
  set-was (x ∷ xs) (suc m) was within is = set-was xs m was (omega arith) is

  pub set-length : (xs : List A) (m : ℕ) (now : A) → length (slice_set xs m now) ≡ length xs
  set-length [] m now = refl
  set-length (x ∷ xs) zero now = refl
  set-length (x ∷ xs) (suc m) now = ap suc (set-length xs m now)

  some-is : (x y : A) → Some x ≡ Some y → x ≡ y
  some-is x y e = cc

  pub set-each : (R : A → A → Type 0) → ((a : A) → R a a) → (xs : List A) (k : ℕ) (was now : A) → k < length xs →
      was ≡ get_or xs k was → R was now →
      (m : ℕ) (old new : A) → slice_get xs m ≡ Some old → slice_get (slice_set xs k now) m ≡ Some new → R old new
  set-each R self [] k was now within is r m old new a b = absurd (omega arith)
  set-each R self (x ∷ xs) zero was now within is r zero old new a b =
      subst (λ n. R old n) (some-is now new b) (subst (λ o. R o now) (is ∙ some-is x old a) r)
  set-each R self (x ∷ xs) zero was now within is r (suc m) old new a b =
      subst (R old) (some-is old new (sym a ∙ b)) (self old)
  set-each R self (x ∷ xs) (suc k) was now within is r zero old new a b =
      subst (R old) (some-is old new (sym a ∙ b)) (self old)
  set-each R self (x ∷ xs) (suc k) was now within is r (suc m) old new a b =
      set-each R self xs k was now (omega arith) is r m old new a b

pub popped-with_cell : (cells : List (List Cell)) (m : ℕ) (cell : Cell) → m < length cells →
    popped (with_cell cells m cell) ≡ popped cells + 1
unfolding popped
popped-with_cell [] m cell within = absurd (omega arith)
popped-with_cell (own ∷ cells) zero cell within = omega (arith, length-append own (cell ∷ []))
popped-with_cell (own ∷ cells) (suc m) cell within = let next = popped-with_cell cells m cell (omega arith) in
    omega (arith, next)

-- ---- What a step changes, and what several steps change.
-- ---- longer lists of cells
pub longer-same : (cells longer : List (List Cell)) → longer ≡ cells → IsLonger cells longer
longer-same cells longer same =
    subst (IsLonger cells) (sym same)
    (record { size = refl; each = λ m own here. ([], here ∙ ap Some (sym (append-nil own))) })

longer-then : (a b c : List (List Cell)) → IsLonger a b → IsLonger b c → IsLonger a c
longer-then a b c s t = record {
  size = t.size ∙ s.size;
  each = λ m own here.
      let (more, then) = s.each m own here in
      let (rest, last) = t.each m (own ++ more) then in
      (more ++ rest, last ∙ ap Some (append_assoc own more rest));
}

-- ---- the same ends
pub ends-refl : (a : List (InEnd Cell)) → AreSameIns a a
ends-refl a = record {
  count = refl;
  each =
      λ m old new here then. subst (SameIn old) (some-is old new (sym here ∙ then)) (refl, refl, refl);
}
  where
    some-is : (x y : InEnd Cell) → Some x ≡ Some y → x ≡ y
    some-is x y e = cc

ends-then : (a b c : List (InEnd Cell)) → AreSameIns a b → AreSameIns b c → AreSameIns a c
ends-then a b c s t = record {
  count = t.count ∙ s.count;
  each = λ m old new here last.
      let inside = slice_get_within a m old here in
      let size = s.count in
      let (middle, then) = slice_get-inside b m (omega (arith, inside, size)) in
      in-then old middle new (s.each m old middle here then) (t.each m middle new then last);
}

-- ---- the return cells stay
pub backs-stay : (options : Options) (n : ℕ) (cells longer : List (List Cell)) → IsLonger cells longer →
    ((t : ℕ) → t < n → AreDecidedAt cells t) → backs options longer n ≡ backs options cells n
unfolding backs
backs-stay options zero cells longer more decided = refl
backs-stay options (suc n) cells longer more decided =
    ap₂ (λ a b. a ++ back_cells b) (backs-stay options n cells longer more (λ t low. decided t (omega arith)))
    (back-stays options n cells longer more (decided n (omega arith)))

pub backs-more : (options : Options) (cells : List (List Cell)) (t next : ℕ) → next ≡ t + 1 →
    backs options cells next ≡ backs options cells t ++ back_cells (back_at options cells t)
unfolding backs
backs-more options cells t next is = let e : next ≡ suc t = omega (arith, is) in ap (backs options cells) e

-- ---- frames of some rows, and then of more
added-then : (options : Options) (size : ℕ) (cells longer : List (List Cell)) (a b c : ℕ) → a ≤ b → b ≤ c →
    IsLonger cells longer → ((t : ℕ) → t < b → AreDecidedAt cells t) →
    added_frames options size cells a b ++ added_frames options size longer b c ≡ added_frames options size longer a c
added-then options size cells longer a b c low high more decided =
    append_cancel_left (given_frames options size longer a)
    (added_frames options size cells a b ++ added_frames options size longer b c)
    (added_frames options size longer a c)
    (sym (append_assoc (given_frames options size longer a) (added_frames options size cells a b)
    (added_frames options size longer b c))
    ∙ ap (λ l. (l ++ added_frames options size cells a b) ++ added_frames options size longer b c)
    (frames-stay options size a cells longer more (λ t early. decided t (omega (arith, low, early))))
    ∙ ap (λ l. l ++ added_frames options size longer b c)
    (sym (frames-grow options size a b cells low) ∙ sym (frames-stay options size b cells longer more decided))
    ∙ sym (frames-grow options size b c longer high)
    ∙ frames-grow options size a c longer (omega (arith, low, high)))

pub gives-then : {A : Type 0} (stands_for : A → Start → List (List ℕ) → Type 0) (first middle last : A)
    (a b c : Parts) → Keeps b → Later a b → Later b c →
    Gives stands_for first middle a b → Gives stands_for middle last b c → Gives stands_for first last a c
gives-then stands_for first middle last a b c keeps before after one two start frames stands =
    let more = added_frames b.core.options b.core.size (received b.rx) a.core.taken b.core.taken in
    let rest = added_frames c.core.options c.core.size (received c.rx) b.core.taken c.core.taken in
    subst (stands_for last start)
    (append_assoc frames more rest ∙ ap (λ l. frames ++ l)
    (ap₂ (λ options size. added_frames options size (received b.rx) a.core.taken b.core.taken ++ rest)
    (sym after.options) (sym after.size)
    ∙ added-then c.core.options c.core.size _ _ a.core.taken b.core.taken c.core.taken before.taken
    after.taken after.longer keeps.stands.decided)) (two start (frames ++ more) (one start frames stands))

-- the frames of all rows, and those before
pub given-then : (a b : Parts) → Keeps a → Later a b →
    given_frames b.core.options b.core.size (received b.rx) b.core.taken
    ≡ given_frames a.core.options a.core.size (received a.rx) a.core.taken
    ++ added_frames b.core.options b.core.size (received b.rx) a.core.taken b.core.taken
given-then a b keeps later =
    frames-grow b.core.options b.core.size a.core.taken b.core.taken (received b.rx) later.taken
    ∙ ap (λ l. l ++ added_frames b.core.options b.core.size (received b.rx) a.core.taken b.core.taken)
    (frames-stay b.core.options b.core.size a.core.taken (received a.rx) _ later.longer keeps.stands.decided
    ∙ ap₂ (λ options size. given_frames options size (received a.rx) a.core.taken) later.options later.size)

-- ---- later
pub later-refl : (a : Parts) → Later a a
later-refl a = record {
  lines = refl;
  size = refl;
  options = refl;
  taken = omega arith;
  popped = omega arith;
  longer = longer-same (received a.rx) (received a.rx) refl;
  ends = ends-refl a.rx;
  back = (refl, refl, refl);
}

pub later-then : (a b c : Parts) → Later a b → Later b c → Later a c
later-then a b c s t = record {
  lines = t.lines ∙ s.lines;
  size = t.size ∙ s.size;
  options = t.options ∙ s.options;
  taken = omega (arith, s.taken, t.taken);
  popped = omega (arith, s.popped, t.popped);
  longer = longer-then (received a.rx) (received b.rx) (received c.rx) s.longer t.longer;
  ends = ends-then a.rx b.rx c.rx s.ends t.ends;
  back = out-then a.back b.back c.back s.back t.back;
}

-- ---- a cell is popped
pub popped-more : (was now : Gather) (rx after : List (InEnd Cell)) (line : ℕ) → TookCell rx after was now line →
    line < length rx →
    popped (received after) ≡ popped (received rx) + 1
popped-more was now rx after line took within =
    ap popped took.passed ∙ popped-with_cell (received rx) line took.cell
    (let size = length-map rx in_passed in omega (arith, size, within))

pub later-cell : (was now : Gather) (core : Core) (rx after : List (InEnd Cell)) (back : OutEnd BackCell) (line : ℕ) →
    TookCell rx after was now line → line < length rx →
    AreSameIns rx after → Later (parts was core rx back) (parts now core after back)
later-cell was now core rx after back line took within ends = record {
  lines = refl;
  size = refl;
  options = refl;
  taken = omega arith;
  popped = (let more = popped-more was now rx after line took within in omega (arith, more));
  longer = subst (IsLonger (received rx)) (sym took.passed) (with_cell-longer (received rx) line took.cell);
  ends = ends;
  back = (refl, refl, refl);
}

pub keeps-cell : (was now : Gather) (core : Core) (rx after : List (InEnd Cell)) (back : OutEnd BackCell) (line : ℕ) →
    TookCell rx after was now line →
    AreSameIns rx after → Keeps (parts was core rx back) → Keeps (parts now core after back)
keeps-cell was now core rx after back line took ends keeps =
    let longer = with_cell-longer (received rx) line took.cell in
    record {
      gathers = subst (Gathers now) (sym took.passed) (took.grew.gathers (received rx) keeps.gathers);
      stands = subst (SinkStands core) (sym took.passed) (stands-longer core _ _ longer keeps.stands);
      lines = took.grew.lines ∙ keeps.lines;
      rings = ends.count ∙ keeps.rings;
      rows = took.grew.rows ∙ keeps.rows;
      sent = keeps.sent ∙ sym (ap (λ cells. backs core.options cells core.taken) took.passed
          ∙ backs-stay core.options core.taken (received rx) (with_cell (received rx) line took.cell) longer keeps.stands.decided);
    }

-- ---- a return packet has room
pub back-room : (options : Options) (cells : List (List Cell)) (t free : ℕ) → (22 < t → t % 16 ≡ 7 → 0 < free) →
    length (back_cells (back_at options cells t)) ≤ free
back-room options cells t free room =
    elim (cases_Bool (nat_lt 22 t)) [
      | inr early ↦ rw early (omega arith)
      | inl late ↦
          elim (cases_Bool (t % 16 == 7)) [
            | inr other ↦ rw (late, other) (omega arith)
            | inl last ↦
                let a : 22 < t = grind (arith, nat_tests, late) in
                let b : t % 16 ≡ 7 = grind (arith, nat_tests, last) in
                let some = room a b in
                rw (late, last) (omega (arith, some))
          ]
    ]

-- ---- no row was taken
pub backs-none : (options : Options) (cells : List (List Cell)) (t : ℕ) → t ≡ 0 → backs options cells t ≡ []
unfolding backs
backs-none options cells t none = ap (backs options cells) none

pub frames-none : (options : Options) (size : ℕ) (cells : List (List Cell)) (t : ℕ) → t ≡ 0 →
    length (given_frames options size cells t) ≡ 0
unfolding segments_on delineate_within hunt_within
frames-none options size cells t none = ap (λ n. length (given_frames options size cells n)) none
    ∙ (let e : length (given_frames options size cells 0) ≡ 0 = refl in e)

-- ---- Frames are counted, and their lines told.
pub count-more : (frames : List (List ℕ)) (frame : List ℕ) (count next : ℕ) → count ≡ count_of frames →
    next ≡ min (count + 1) (2 ^ 64 - 1) → next ≡ count_of (frames ++ frame ∷ [])
count-more frames frame count next is more = omega (arith, is, more, length-append frames (frame ∷ []))

-- counts of some frames and of more
pub counts-then : (before more all : List (List ℕ)) (a b c : ℕ) → all ≡ before ++ more → a ≡ count_of before →
    b ≡ count_of more → c ≡ min (a + b) (2 ^ 64 - 1) → c ≡ count_of all
counts-then before more all a b c is one two sum =
    let size = ap length is in
    omega (arith, size, one, two, sum, length-append before more)

-- what is told at the end is written
pub told-end : {K E : Type 0} (written : K → Option (List ℕ)) (faults : K → ℕ) (end_ : Result (Unit {0}) E)
    (old new : K) (text : List ℕ) →
    OnOk end_ (Appends written faults old new text) → OnErr end_ (AppendsPart written faults old new text) →
    Writes written faults false (is_err end_) old new text
told-end written faults (Ok done) old new text whole part = whole
told-end written faults (Err fault) old new text whole part = part

-- of no frames nothing is written
pub writes-none : {K : Type 0} (written : K → Option (List ℕ)) (faults : K → ℕ) (failed : Bool) (now : K) →
    Writes written faults failed failed now now []
writes-none written faults true now = (refl, refl)
writes-none written faults false now = Appends-none written faults now
