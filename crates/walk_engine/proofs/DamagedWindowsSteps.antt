-- What a direction or a walk is where a line gets other windows, as by a cut or a mend (IsDamaged).
use Rattle.std.proofs.Common.{◌≡◌, ℕ, zero, suc, ◌<◌, ◌≤◌, List, [], ◌∷◌, length, map, slice_get, slice_set}
use Rattle.std.proofs.Common.{slice_index_or, Some, refl, sym, ◌∙◌, ap, ap₂, subst, arith}
use Rattle.std.proofs.lemmas.List.{length-set, map-set}
use Rattle.std.proofs.lemmas.Option.{get_or_from_slice_get}
use Rattle.std.proofs.Math.Seq.{map-set_same}
use Rattle.law_model.specs.Common.{Leg}
use Rattle.law_model.specs.declared.window_types.Window.{Window}
use Rattle.law_model.specs.members.Damage.{carried}
use Rattle.member_path.specs.path_delay.CallsOnDelayedLine.{with_windows}
use Rattle.law_walk.specs.Common.{IsWalked}
use Rattle.walk_engine.specs.Common.{Has, HasCounted, HasLine, HasSent, HasSource, Walking, LiveStands, Parts}
use Rattle.walk_engine.specs.Common.{AgreesAt, HasBack, Ringed, calls_of, calls_on, counts_of, line_counts, path_of}
use Rattle.walk_engine.specs.Common.{ring_of, windows_in, windows_of}
use Rattle.walk_engine.specs.walk_core.WayParts.{HasSink, WayStands}
use Rattle.walk_engine.proofs.LineCarryAndSendRingLaws.{line-read, line-has, numbers, sends-made, windows-at}
use Rattle.walk_engine.proofs.WayEventAndToldSourceLaws.{set-each}

-- What is left of one direction where a line gets other windows, which say the same of each container so far.
agree-set : (all : List (List Window)) (m k t : ℕ) (windows : List Window) →
    carried windows t ≡ carried (slice_index_or all m []) t →
    carried (slice_index_or (slice_set all m windows) k []) t ≡ carried (slice_index_or all k []) t
agree-set [] m k t windows same = refl
agree-set (y ∷ all) zero zero t windows same = same
agree-set (y ∷ all) zero (suc k) t windows same = refl
agree-set (y ∷ all) (suc m) zero t windows same = refl
agree-set (y ∷ all) (suc m) (suc k) t windows same = agree-set all m k t windows same

module _ (leg : Leg) (backs : ℕ) (parts : Parts) (is : WayStands leg backs parts) (m : ℕ) (low : m < leg.config.lines)
    (line : Ringed) (there : slice_get parts.lines m ≡ Some line) where
  own : HasLine leg m line
  own = line-has leg backs parts is m low line there

  -- none was pushed that isn't made
  pushed-made : line.core.pushed ≤ parts.source.core.ticks
  pushed-made =
      let n = (numbers leg m line own).pushed in
      let made = sends-made leg backs parts is m low line there in omega (arith, n, made)

  total-is : line.core.total ≡ parts.source.total
  total-is = (numbers leg m line own).total ∙ sym is.total

  module _ (after : Ringed) (windows : List Window) (has : Has after (with_windows (calls_of leg m line) windows))
      (same : (t : ℕ) → t < parts.source.core.ticks → carried windows t ≡ carried line.core.windows t)
      (ring : ring_of after ≡ ring_of line) (more : after.carried ≡ line.carried) (popped : after.popped ≡ line.popped)
    where
      damaged-is : after.core.windows ≡ windows
      damaged-is = has.core.windows

      counts-same : line_counts after ≡ line_counts line
      counts-same = ap₂ (λ x y. record { carried = x; popped = y }) more popped

      lines-same : map line_counts (slice_set parts.lines m after) ≡ map line_counts parts.lines
      lines-same = map-set_same line_counts parts.lines m after line
          (counts-same ∙ sym (ap line_counts (get_or_from_slice_get parts.lines m line line there)))

      has-after : HasLine leg m after
      has-after = record {
        has = subst (Has after) (ap (λ n. with_windows (calls_on leg m n) windows) (sym more)
            ∙ ap (with_windows (calls_on leg m after.carried)) (sym damaged-is)) has;
        agrees = λ t before.
            let now = has.core.pushed in
            let was = own.has.core.pushed in
            let made = pushed-made in
            own.agrees t (omega (arith, before, now, was))
            ∙ sym (same t (omega (arith, before, now, was, made)))
            ∙ ap (λ w. carried w t) (sym damaged-is);
        ring = ring ∙ own.ring;
      }

      agrees-after : (t : ℕ) → t < parts.source.core.ticks → AgreesAt leg t (windows_in (slice_set parts.lines m after))
      agrees-after t before k inside =
          is.agrees t before k inside
          ∙ sym (ap (λ all. carried (slice_index_or all k []) t) (map-set windows_of parts.lines m after)
          ∙ agree-set (windows_in parts.lines) m k t after.core.windows
          (ap (λ w. carried w t) damaged-is ∙ same t before
          ∙ ap (λ w. carried w t) (sym (windows-at parts.lines m line there))))

      damaged-counts : (n : ℕ) → counts_of (record parts { lines = slice_set parts.lines m after }) n
          ≡ counts_of parts n
      damaged-counts n = ap (λ lines. record (counts_of parts n) { lines = lines }) lines-same

      damaged-kept : WayStands leg backs (record parts { lines = slice_set parts.lines m after })
      damaged-kept = record {
        sound = is.sound;
        total = is.total;
        walked = subst (IsWalked leg) (sym (damaged-counts backs)) is.walked;
        source = subst (λ s. HasSource leg s parts.source.core) (sym (damaged-counts backs)) is.source;
        sent = subst (λ lines. HasSent leg parts.source.core.ticks lines parts.sent) (sym lines-same) is.sent;
        lines = record {
          size = length-set parts.lines m after ∙ is.lines.size;
          each = set-each (HasLine leg) parts.lines m after has-after is.lines.each;
        };
        agrees = agrees-after;
        sink = subst (λ s. HasSink leg s parts.rows parts.sink) (sym (damaged-counts backs)) is.sink;
        landed = subst (λ s. HasCounted leg s parts.source.landed) (sym (damaged-counts backs)) is.landed;
        counted = is.counted;
      }

-- a line of which the windows were read
pub record IsReadOf (was : Parts) (m : ℕ) (line : Ringed) : Type 0 where
  pub windows : slice_index_or (windows_in was.lines) m [] ≡ line.core.windows
  pub pushed : line.core.pushed ≤ was.source.core.ticks
  pub total : line.core.total ≡ was.source.total

-- what a direction is where a line got other windows
pub record IsDamaged (leg : Leg) (backs : ℕ) (was now : Parts) (all : List (List Window)) : Type 0 where
  pub stands : WayStands leg backs now
  pub counts : (n : ℕ) → counts_of now n ≡ counts_of was n
  pub windows : windows_in now.lines ≡ all

module _ (leg : Leg) (backs : ℕ) (was parts : Parts) (view : parts ≡ was) (stands : WayStands leg backs was) (m k : ℕ)
    (at : k ≡ m) (inside : m < length was.lines) (line : Ringed) (read : line ≡ slice_index_or parts.lines k line) where
  readof : WayStands leg backs parts × (m < leg.config.lines) × (slice_get parts.lines m ≡ Some line)
  readof = line-read leg backs was parts view stands m k at inside line read

  pub line-was : IsReadOf was m line
  line-was =
      let (is, low, there) = readof in
      subst (λ (p : Parts). IsReadOf p m line) view (record {
        windows = windows-at parts.lines m line there;
        pushed = pushed-made leg backs parts is m low line there;
        total = total-is leg backs parts is m low line there;
      })

  -- the windows by those that it had, how many ticks were made and how many there are
  module _ (by : List Window → ℕ → ℕ → List Window) (after : Ringed) (ticks : ℕ) (made : ticks ≡ parts.source.core.ticks)
      (has : Has line (calls_of leg m line) →
      Has after (with_windows (calls_of leg m line) (by line.core.windows ticks leg.config.ticks)))
      (same : (t : ℕ) → t < ticks → carried (by line.core.windows ticks leg.config.ticks) t ≡ carried line.core.windows t)
      (ring : ring_of after ≡ ring_of line) (more : after.carried ≡ line.carried) (popped : after.popped ≡ line.popped)
    where
      abbrev windows : List Window
      windows = by line.core.windows ticks leg.config.ticks

      damaged : Has after (with_windows (calls_of leg m line) windows)
      damaged = let (is, low, there) = readof in has (line-has leg backs parts is m low line there).has

      before : (t : ℕ) → t < parts.source.core.ticks → carried windows t ≡ carried line.core.windows t
      before t low = same t (omega (arith, low, made))

      windows-by : windows_in (slice_set parts.lines m after) ≡ slice_set (windows_in was.lines) m
          (by (slice_index_or (windows_in was.lines) m []) was.source.core.ticks was.source.total)
      windows-by =
          let own = line-was in
          map-set windows_of parts.lines m after ∙ ap (slice_set (windows_in parts.lines) m) (damaged.core.windows
          ∙ ap (λ n. by line.core.windows n leg.config.ticks) made
          ∙ ap₂ (by line.core.windows) (ap (λ (p : Parts). p.source.core.ticks) view) (sym stands.total)
          ∙ ap (λ w. by w was.source.core.ticks was.source.total) (sym own.windows))
          ∙ ap (λ (p : Parts). slice_set (windows_in p.lines) m
          (by (slice_index_or (windows_in was.lines) m []) was.source.core.ticks was.source.total)) view

      pub line-damaged : IsDamaged leg backs was (record parts { lines = slice_set parts.lines k after })
          (slice_set (windows_in was.lines) m
          (by (slice_index_or (windows_in was.lines) m []) was.source.core.ticks was.source.total))
      line-damaged =
          let (is, low, there) = readof in
          subst (λ j. IsDamaged leg backs was (record parts { lines = slice_set parts.lines j after })
          (slice_set (windows_in was.lines) m
          (by (slice_index_or (windows_in was.lines) m []) was.source.core.ticks was.source.total))) (sym at) (record {
            stands = damaged-kept leg backs parts is m low line there after windows damaged before ring more popped;
            counts = λ n. damaged-counts leg backs parts is m low line there after windows damaged before ring more popped n
                ∙ ap (λ (p : Parts). counts_of p n) view;
            windows = windows-by;
          })

-- a walk of which a line has other windows
pub damaged-live : (leg : Leg) (was : Walking) (now : Parts) → LiveStands leg was →
    WayStands leg was.way.source.inbox.come now → now ≡ record was.way { lines = now.lines } →
    counts_of now was.way.source.inbox.come ≡ counts_of was.way was.way.source.inbox.come →
    LiveStands leg (record was { way = now })
damaged-live leg was now is stands rest same =
    subst (λ (p : Parts). LiveStands leg (record was { way = p })) (sym rest) (record {
      stands = subst (WayStands leg was.way.source.inbox.come) rest stands;
      back = subst (λ s. HasBack leg s (path_of was.ring was.way.source.inbox))
          (sym (sym (ap (λ (p : Parts). counts_of p was.way.source.inbox.come) rest) ∙ same)) is.back;
      noted = is.noted;
      quiet = is.quiet;
    })
