-- A line with failures is a path in numbers, and the paths of a script that passes the tests of rings make a plan.
use Rattle.std.proofs.Common.{◌≡◌, ℕ, zero, suc, ◌+◌, ◌-◌, ◌<◌, ◌≤◌, min, inl, inr, List, [], ◌∷◌, ◌++◌, length, take}
use Rattle.std.proofs.Common.{slice_get, Option, Some, None, refl, sym, ◌∙◌, ap, subst, arith, length-append}
use Rattle.std.proofs.Common.{length-take}
use Rattle.std.proofs.lemmas.Bool.{cases_lt, le-ltb, lt-ltb}
use Rattle.std.proofs.lemmas.List.{append-nil, take-append-le, take_all, take-take}
use Rattle.std.proofs.Math.Seq.{take-length}
use Rattle.std.proofs.lemmas.Option.{slice_get_within}
use Rattle.law_model.specs.Common.{Container, Cell, End, slip_of, cells_of, path, cells, LineLock, unlocked, locked}
use Rattle.law_model.specs.Common.{over, Reading, reading_of, verdict_or, verdict_in, verdict, IsLine, expected}
use Rattle.law_model.specs.Common.{LinePath, decided_by, decided_in, all_cells, path_of, paths_of, plan_of, greatest}
use Rattle.law_model.specs.Common.{least_or, least, greatest_slip}
use Rattle.law_model.specs.declared.window_types.Window.{Window}
use Rattle.law_model.specs.declared.window_types.Carried.{Carried}
use Rattle.law_model.specs.declared.window_types.Carried.TheVariants.{Whole, Fails, Vanishes}
use Rattle.law_model.specs.declared.script_types.Config.{Config}
use Rattle.law_model.specs.declared.script_types.Item.{Item}
use Rattle.law_model.specs.members.Damage.{carried}
use Rattle.law_model.specs.members.CellVerdicts.{begun}
use Rattle.law_model.proofs.ListLaws.{slice_get-inside, take-part, is-some}
use Rattle.law_line.proofs.ReadingVerdictLaws.{length-upto, line_read, verdict-stays, cells-part}
use Rattle.law_line.proofs.ContainerLockAndSlipLaws.{lost-slip_of}
use Rattle.law_line.proofs.DecidedPacketAndRowLaws.{end-reading}
use Rattle.law_model.proofs.WindowAndPathLaws.{path-append}
use Rattle.law_progress.specs.Progress.{IsPath, IsSound, IsPlan, AllPaths}
use Rattle.law_progress.specs.AskedOfLines.{IsDecided, AreSentBy, CanRun}
use Rattle.law_line.proofs.ReadingVerdictLaws as invariant

-- A line with failures is a path in numbers, and a script that passes the tests of the rings is a plan.
-- ---- a cell each, at most
fate-few : (fate : Carried) (container : Container) → length (cells_of fate container) ≤ 1
fate-few Whole container = omega arith
fate-few Fails container = omega arith
fate-few Vanishes container = omega arith

path-few : (carries : ℕ → Carried) (n : ℕ) (xs : List Container) → length (path carries n xs) ≤ length xs
unfolding path
path-few carries n [] = omega arith
path-few carries n (x ∷ xs) = let one = fate-few (carries n) x in let rest = path-few carries (suc n) xs in
    omega (arith, one, rest, length-append (cells_of (carries n) x) (path carries (suc n) xs))

-- the first y cells are those of some containers
abbrev Cut : (ℕ → Carried) → ℕ → List Container → ℕ → Type 0
Cut carries n xs y = (k : ℕ) × (k ≤ length xs) × (take y (path carries n xs) ≡ path carries n (take k xs)) ×
    (length (path carries n (take k xs)) ≡ y)

cut : (carries : ℕ → Carried) (n : ℕ) (xs : List Container) (y : ℕ) → y ≤ length (path carries n xs) →
    Cut carries n xs y
unfolding path
cut carries n xs zero h = (0, omega arith, refl, refl)
cut carries n [] (suc y) h = absurd (omega arith)
cut carries n (x ∷ xs) (suc y) h = by-fate (carries n) refl h (cut carries (suc n) xs)
  where
    by-fate : (fate : Carried) → carries n ≡ fate → suc y ≤ length (cells_of fate x ++ path carries (suc n) xs) →
        ((y : ℕ) → y ≤ length (path carries (suc n) xs) → Cut carries (suc n) xs y) → Cut carries n (x ∷ xs) (suc y)
    by-fate Whole is h further =
        let (k, low, same, size) = further y (omega (arith, h)) in
        (suc k, omega (arith, low), rw is (ap (λ l. cells_of Whole x ++ l) same), rw is (ap suc size))
    by-fate Fails is h further =
        let (k, low, same, size) = further y (omega (arith, h)) in
        (suc k, omega (arith, low), rw is (ap (λ l. cells_of Fails x ++ l) same), rw is (ap suc size))
    by-fate Vanishes is h further =
        let (k, low, same, size) = further (suc y) h in
        (suc k, omega (arith, low), rw is same, rw is size)

-- ---- decided numbers have a verdict
some-decided : (total t : ℕ) (lock : LineLock) (verdicts : List (Option Container)) → t < total →
    t < decided_by total lock (length verdicts) →
    (told : Option Container) × (verdict_in (record { lock = lock; verdicts = verdicts }) t ≡ Some told)
some-decided total t unlocked verdicts h d = let (v, e) = slice_get-inside verdicts t d in (v, rw e refl)
some-decided total t (begun octet) verdicts h d = let (v, e) = slice_get-inside verdicts t d in (v, rw e refl)
some-decided total t (locked mfi1) verdicts h d = let (v, e) = slice_get-inside verdicts t d in (v, rw e refl)
some-decided total t over verdicts h d = by (slice_get verdicts t)
  where
    by : (v : Option (Option Container)) → (told : Option Container) × (verdict_or v (Some None) ≡ Some told)
    by (Some told) = (told, refl)
    by None = (None, refl)

decided-open : (verdicts : List (Option Container)) (t : ℕ) (v : Option (Option Container)) (told : Option Container) →
    slice_get verdicts t ≡ v → verdict_or v None ≡ Some told → t < length verdicts
decided-open verdicts t (Some v) told e h = slice_get_within verdicts t v e
decided-open verdicts t None told e h = absurd cc

decided-some : (total t : ℕ) (lock : LineLock) (verdicts : List (Option Container)) (told : Option Container) →
    t < total → verdict_in (record { lock = lock; verdicts = verdicts }) t ≡ Some told →
    t < decided_by total lock (length verdicts)
decided-some total t unlocked verdicts told h e = decided-open verdicts t (slice_get verdicts t) told refl e
decided-some total t (begun octet) verdicts told h e = decided-open verdicts t (slice_get verdicts t) told refl e
decided-some total t (locked mfi1) verdicts told h e = decided-open verdicts t (slice_get verdicts t) told refl e
decided-some total t over verdicts told h e = h

pub is_decided : (carries : ℕ → Carried) (containers : List Container) (delay y t : ℕ) → t < length containers →
    IsDecided carries delay containers y t
is_decided carries containers delay y t h =
    let reading : Reading = reading_of (take y (all_cells carries delay containers)) in (
      λ some. let (told, e) = is-some (verdict_in reading t) some in
          decided-some (length containers) t reading.lock reading.verdicts told h e,
      λ d. let (told, e) = some-decided (length containers) t reading.lock reading.verdicts h d in rw e refl,
    )

module _ (windows : List Window) (containers : List Container) (delay : ℕ) (line : IsLine windows containers) where
  abbrev total : ℕ
  total = length containers

  abbrev first : ℕ → List Cell
  first k = path (carried windows) 0 (take k containers)

  abbrev all : List Cell
  all = all_cells (carried windows) delay containers

  abbrev given : ℕ → ℕ
  given x = length (cells (carried windows) delay (length containers) containers x)

  abbrev dec : List Cell → ℕ
  dec cells = decided_in (length containers) (reading_of cells)

  -- ---- what cells are there
  size-take : (k : ℕ) → k ≤ total → length (take k containers) ≡ k
  size-take k h = length-take k containers ∙ (let e : min k (length containers) ≡ k = omega arith in e)

  open-cells : (x : ℕ) → x - delay ≤ total →
      cells (carried windows) delay (length containers) containers x ≡ first (x - delay)
  open-cells x h = rw (le-ltb (length containers) (x - delay) h) (append-nil (first (x - delay)))

  all-cells : all ≡ first total ++ End ∷ []
  all-cells =
      let k : length containers + delay + 1 - delay ≡ length containers + 1 = omega arith in
      rw (
        k,
        lt-ltb (length containers) (length containers + 1) (omega arith),
        take_all (length containers + 1) containers (omega arith),
        take_all (length containers) containers (omega arith),
      ) refl

  more-cells : (j k : ℕ) → j ≤ k → k ≤ total → (more : List Cell) × (first k ≡ first j ++ more) × (length more ≤ k - j)
  more-cells j k h top =
      let (rest, e) = take-part containers j k h in
      let a = size-take j (omega arith) in let b = size-take k top in
      let sizes : length (take k containers) ≡ length (take j containers) + length rest = ap length e
      ∙ length-append (take j containers) rest in
      let few = path-few (carried windows) (0 + length (take j containers)) rest in (
        path (carried windows) (0 + length (take j containers)) rest,
        ap (path (carried windows) 0) e
            ∙ path-append (carried windows) 0 (take j containers) rest,
        omega (arith, a, b, sizes, few),
      )

  first-few : (j k : ℕ) → j ≤ k → k ≤ total → (length (first j) ≤ length (first k)) ×
      (length (first k) ≤ length (first j) + (k - j))
  first-few j k h top =
      let (more, e, few) = more-cells j k h top in
      let sizes : length (first k) ≡ length (first j) + length more = ap length e ∙ length-append (first j) more in
      (omega (arith, sizes), omega (arith, sizes, few))

  take-all : (k y : ℕ) → k ≤ total → y ≤ length (first k) → take y all ≡ take y (first k)
  take-all k y top h =
      let (more, e, few) = more-cells k total top (omega arith) in
      let longer = (first-few k total top (omega arith)).0 in
      ap (take y) all-cells ∙ take-append-le y (first total) (End ∷ []) (omega (arith, h, longer)) ∙ ap (take y) e
      ∙ take-append-le y (first k) more h

  -- ---- what they decide
  read : (k : ℕ) → k ≤ total → (dec (first k) ≤ k) × (k ≤ dec (first k) + slip_of windows)
  read k top =
      let reads = line_read windows containers line k in
      let n = size-take k top in
      let count : length (reading_of (first k)).verdicts ≡ reads.decided = ap length reads.verdicts
      ∙ length-upto (expected (carried windows) containers) reads.decided in
      let below = reads.below in let near = reads.near in
      let most = lost-slip_of windows (length (take k containers)) line.apart in
      by (reading_of (first k)).lock (length (reading_of (first k)).verdicts) (length (take k containers)) reads.decided
      reads.fits (omega (arith, count, below, n)) (omega (arith, count, near, most, n))
    where
      by : (lock : LineLock) (count n decided : ℕ) → invariant.Fits (carried windows) n decided lock → count ≤ k →
          k ≤ count + slip_of windows →
          (decided_by (length containers) lock count ≤ k) ×
          (k ≤ decided_by (length containers) lock count + slip_of windows)
      by unlocked count n decided fits low high = (low, high)
      by (begun octet) count n decided fits low high = (low, high)
      by (locked mfi1) count n decided fits low high = (low, high)
      by over count n decided fits low high = absurd fits

  whole-over : dec all ≡ total
  whole-over =
      let reading : Reading = reading_of (first total) in
      let reads = line_read windows containers line total in
      let ends : reading_of (first total ++ End ∷ []) ≡ record { lock = over; verdicts = reading.verdicts } =
      end-reading (first total) [] in
      ap dec all-cells ∙ ap (decided_in (length containers)) ends

  -- ---- the first y cells are those of some containers, or all
  data Place (x y : ℕ) : Type 0 where
    inside : (k : ℕ) → k ≤ total → k ≤ x - delay → take y all ≡ first k → length (first k) ≡ y → Place x y
    whole : x ≡ total + delay + 1 → take y all ≡ all → y ≡ given x → Place x y

  inside-of : (x y top : ℕ) → top ≤ total → top ≤ x - delay → y ≤ length (first top) → Place x y
  inside-of x y top low lower h =
      let (k, few, same, size) = cut (carried windows) 0 (take top containers) y h in
      let n = size-take top low in
      let e : take k (take top containers) ≡ take k containers = take-take k top containers (omega (arith, few, n)) in
      inside k (omega (arith, few, n, low)) (omega (arith, few, n, lower))
      (take-all top y low h ∙ same ∙ ap (path (carried windows) 0) e)
      (ap (λ l. length (path (carried windows) 0 l)) (sym e) ∙ size)

  place : (x y : ℕ) → x ≤ total + delay + 1 → y ≤ given x → Place x y
  place x y most h =
      elim (cases_lt (x - delay) (total + 1)) [
        | inl open_ ↦ inside-of x y (x - delay) (omega (arith, open_)) (omega arith)
            (let e = ap length (open-cells x (omega (arith, open_))) in omega (arith, e, h))
        | inr ends ↦
            let e : x ≡ total + delay + 1 = omega (arith, ends, most) in
            let sizes : given x ≡ length (first total) + 1 = ap given e ∙ ap length all-cells
            ∙ length-append (first total) (End ∷ []) in
            elim (cases_lt y (length (first total) + 1)) [
              | inl less ↦ inside-of x y total (omega arith) (omega (arith, ends)) (omega (arith, less))
              | inr more ↦ let full : y ≡ given x = omega (arith, more, sizes, h) in
                  whole e (take_all y all (let f = ap given e in omega (arith, f, full))) full
            ]
      ]

  one : (x : ℕ) → x ≤ total + delay → (given x ≤ given (x + 1)) × (given (x + 1) ≤ given x + 1)
  one x h =
      let (more, e) = cells-part (carried windows) delay containers x (x + 1) (omega arith) in
      let sizes : given (x + 1) ≡ given x + length more = ap length e
      ∙ length-append (cells (carried windows) delay (length containers) containers x) more in
      let now = ap length (open-cells x (omega (arith, h))) in (
        omega (arith, sizes),
        elim (cases_lt x (total + delay)) [
          | inl less ↦
              let next = ap length (open-cells (x + 1) (omega (arith, less))) in
              let few = (first-few (x - delay) (x + 1 - delay) (omega arith) (omega (arith, less))).1 in
              omega (arith, now, next, few)
          | inr last ↦
              let next : given (x + 1) ≡ length (first total) + 1 =
              ap given (let f : x + 1 ≡ total + delay + 1 = omega (arith, h, last) in f) ∙ ap length all-cells
              ∙ length-append (first total) (End ∷ []) in
              let same = ap (λ k. length (first k)) (let f : x - delay ≡ total = omega (arith, h, last) in f) in
              omega (arith, now, next, same)
        ],
      )

  late : (x : ℕ) → x ≤ total + delay → x ≤ dec (take (given x) all) + slip_of windows + delay
  late x h =
      let k : ℕ = x - delay in
      let size = ap length (open-cells x (omega (arith, h))) in
      let same : take (given x) all ≡ first k =
      ap (λ y. take y all) size ∙ take-all k (length (first k)) (omega (arith, h)) (omega arith)
      ∙ take-length (first k) in
      let told = ap dec same in
      let near = (read k (omega (arith, h))).1 in
      omega (arith, told, near)

  early : (x y : ℕ) → x ≤ total + delay + 1 → y ≤ given x → dec (take y all) ≤ x - delay
  early x y most h = by (place x y most h)
    where
      by : Place x y → dec (take y all) ≤ x - delay
      by (inside k top low same size) = let told = ap dec same in let few = (read k top).0 in
          omega (arith, told, few, low)
      by (whole e same full) = let told = ap dec same ∙ whole-over in omega (arith, told, e)

  left : (x y : ℕ) → x ≤ total + delay + 1 → y ≤ given x → given x ≤ y + ((x - delay) - dec (take y all))
  left x y most h = by (place x y most h)
    where
      by : Place x y → given x ≤ y + ((x - delay) - dec (take y all))
      by (whole e same full) = omega (arith, full)
      by (inside k top low same size) =
          let told = ap dec same in let few = (read k top).0 in
          elim (cases_lt (x - delay) (total + 1)) [
            | inl open_ ↦
                let now = ap length (open-cells x (omega (arith, open_))) in
                let cells_ = (first-few k (x - delay) low (omega (arith, open_))).1 in
                omega (arith, told, few, now, cells_, size, low)
            | inr ends ↦
                let e : x ≡ total + delay + 1 = omega (arith, ends, most) in
                let now : given x ≡ length (first total) + 1 = ap given e ∙ ap length all-cells
                ∙ length-append (first total) (End ∷ []) in
                let cells_ = (first-few k total top (omega arith)).1 in
                omega (arith, told, few, now, cells_, size, top, e)
          ]

  most : (y : ℕ) → dec (take y all) ≤ total
  most y = elim (cases_lt (given (total + delay + 1)) y) [
    | inl beyond ↦ let told = ap dec (take_all y all (omega (arith, beyond))) ∙ whole-over in omega (arith, told)
    | inr h ↦ by (place (total + delay + 1) y (omega arith) (omega (arith, h)))
  ]
    where
      by : Place (total + delay + 1) y → dec (take y all) ≤ total
      by (inside k top low same size) = let told = ap dec same in let few = (read k top).0 in
          omega (arith, told, few, top)
      by (whole e same full) = let told = ap dec same ∙ whole-over in omega (arith, told)

  rises : (y : ℕ) → dec (take y all) ≤ dec (take (suc y) all)
  rises y = by (dec (take y all)) refl
    where
      by : (d : ℕ) → dec (take y all) ≡ d → dec (take y all) ≤ dec (take (suc y) all)
      by zero e = omega (arith, e)
      by (suc t) e =
          let top = most y in
          let inside_ : t < total = omega (arith, e, top) in
          let reading : Reading = reading_of (take y all) in
          let further : Reading = reading_of (take (suc y) all) in
          let (told, is) = some-decided (length containers) t reading.lock reading.verdicts inside_
          (omega (arith, e)) in
          let (more, longer) = take-part all y (suc y) (omega arith) in
          let stays : verdict (take (suc y) all) t ≡ Some told = ap (λ cells. verdict cells t) longer
          ∙ verdict-stays (take y all) more t told is in
          let now = decided-some (length containers) t further.lock further.verdicts told inside_ stays in
          omega (arith, e, now)

  pub is_path : IsPath (length containers) (slip_of windows) (path_of (carried windows) delay containers)
  is_path = record {
    one = one;
    late = late;
    ended = ap dec (take_all (given (total + delay + 1)) all (omega arith))
        ∙ whole-over;
    early = early;
    left = left;
    rises = rises;
    most = most;
  }

-- ---- plans
-- a path with some slip is one with a greater slip
wider : (ticks slip more : ℕ) (path : LinePath) → slip ≤ more → IsPath ticks slip path → IsPath ticks more path
wider ticks slip more path h is = record {
  one = is.one;
  late = λ x low. let e = is.late x low in omega (arith, e, h);
  ended = is.ended;
  early = is.early;
  left = is.left;
  rises = is.rises;
  most = is.most;
}

-- the least of more numbers is no greater
pub least-first : (n : ℕ) (ns : List ℕ) → least_or n ns ≤ n
least-first n [] = omega arith
least-first n (m ∷ ns) = omega arith

fast-slow : (n : ℕ) (ns : List ℕ) → least (n ∷ ns) ≤ greatest (n ∷ ns)
fast-slow n ns = let first = least-first n ns in omega arith

-- a bound from below of the delays, of which there may be none
abbrev pub IsLeast : ℕ → List ℕ → Type 0
IsLeast fast [] = Unit {0}
IsLeast fast (n ∷ ns) = (fast ≤ n) × IsLeast fast ns

IsLeast-or : (fast n : ℕ) (ns : List ℕ) → fast ≤ least_or n ns → IsLeast fast (n ∷ ns)
IsLeast-or fast n [] h = (h, tt)
IsLeast-or fast n (m ∷ ns) h = (omega arith, IsLeast-or fast m ns (omega arith))

IsLeast-least : (ns : List ℕ) → IsLeast (least ns) ns
IsLeast-least [] = tt
IsLeast-least (n ∷ ns) = IsLeast-or (least (n ∷ ns)) n ns (omega arith)

sound : (ticks slow fast slip : ℕ) (lists : List (List Window)) (delays : List ℕ) (sent : List (List Container)) →
    AreSentBy ticks lists delays sent →
    greatest delays ≤ slow → IsLeast fast delays → greatest_slip lists ≤ slip →
    AllPaths (IsSound ticks slow fast slip) (paths_of lists delays sent)
unfolding AreSentBy AllPaths
sound ticks slow fast slip [] [] [] each s f m = tt
sound ticks slow fast slip [] [] (containers ∷ sent) each s f m = absurd each
sound ticks slow fast slip [] (delay ∷ delays) sent each s f m = absurd each
sound ticks slow fast slip (windows ∷ lists) [] sent each s f m = absurd each
sound ticks slow fast slip (windows ∷ lists) (delay ∷ delays) [] each s f m = absurd each
sound ticks slow fast slip (windows ∷ lists) (delay ∷ delays) (containers ∷ sent) each s f m =
    let path = path_of (carried windows) delay containers in (
      record {
        is_path = subst (λ ticks. IsPath ticks slip path) each.1
            (wider (length containers) (slip_of windows) slip path (omega (arith, m))
            (is_path windows containers delay each.0));
        most = omega (arith, s);
        least = f.0;
      },
      sound ticks slow fast slip lists delays sent each.2 (omega (arith, s)) f.1 (omega (arith, m)),
    )

paths-length : (ticks : ℕ) (lists : List (List Window)) (delays : List ℕ) (sent : List (List Container)) →
    AreSentBy ticks lists delays sent → length (paths_of lists delays sent) ≡ length delays
unfolding AreSentBy
paths-length ticks [] [] [] each = refl
paths-length ticks [] [] (containers ∷ sent) each = absurd each
paths-length ticks [] (delay ∷ delays) sent each = absurd each
paths-length ticks (windows ∷ lists) [] sent each = absurd each
paths-length ticks (windows ∷ lists) (delay ∷ delays) [] each = absurd each
paths-length ticks (windows ∷ lists) (delay ∷ delays) (containers ∷ sent) each =
    ap suc (paths-length ticks lists delays sent each.2)

least-greatest : (ns : List ℕ) → least ns ≤ greatest ns
least-greatest [] = omega arith
least-greatest (n ∷ ns) = fast-slow n ns

pub can_run-plan : (config : Config) (items : List Item) (sent : List (List Container)) → CanRun config items sent →
    IsPlan (plan_of config items sent)
can_run-plan config items sent can =
    let size = paths-length config.ticks config.windows config.delays sent can.sent_all in
    let some_line = can.some_line in
    let ring = can.ring in
    let between = least-greatest config.delays in
    record {
      slow = greatest config.delays;
      fast = least config.delays;
      slip = greatest_slip config.windows;
      is = record {
        some = omega arith;
        paths = sound config.ticks (greatest config.delays) (least config.delays)
            (greatest_slip config.windows) config.windows config.delays sent can.sent_all
            (omega arith) (IsLeast-least config.delays) (omega arith);
        frames = can.frames;
        commands = can.commands;
        ring = can.some_room;
        spread = omega (arith, ring, between);
        lag = can.lag;
      };
    }
