-- No receive ring is too short, in the numbers of a walk.
use Rattle.std.proofs.Common.{◌≡◌, ℕ, zero, suc, ◌+◌, ◌-◌, ◌<◌, ◌≤◌, List, [], ◌∷◌, length, slice_get, Some, arith}
use Rattle.std.proofs.Common.{slice_index_or, refl, ap, subst, inl, inr}
use Rattle.std.proofs.lemmas.Bool.{cases_lt}
use Rattle.law_model.specs.Common.{Container, LinePath, LineCounts, Counts, Plan, FitsRing, greatest, greatest_slip}
use Rattle.law_model.specs.Common.{in_receive, path_of, plan_of, slip_of}
use Rattle.law_model.specs.session.Plan.{least, least_or, paths_of}
use Rattle.law_model.specs.members.Damage.{carried}
use Rattle.law_model.specs.declared.window_types.Window.{Window}
use Rattle.law_model.specs.declared.script_types.Config.{Config}
use Rattle.law_model.specs.declared.script_types.Item.{Item}
use Rattle.law_progress.specs.Progress.{IsPath, IsReached, LineFits, Fits}
use Rattle.law_progress.specs.AskedOfLines.{AreSentBy, CanRun}
use Rattle.law_progress.proofs.EventBoundAndStallCauseLaws.{each-at}
use Rattle.law_progress.proofs.LinePathInNumbersLaws.{can_run-plan, is_path, least-first}
use Rattle.law_progress.proofs.RoundProgressAndDrainLaws.{reached-fits}
use Rattle.thread_session.specs.session_parts.LinesOpened.{slots_of}
use Rattle.thread_session.specs.session_parts.ShortRings.{IsLineAt, IsWaitedFor}

-- no delay is less than the least
least-or-at : (n : ℕ) (ns : List ℕ) (m : ℕ) → m < length ns → least_or n ns ≤ slice_index_or ns m 0
least-or-at n [] m h = omega arith
least-or-at n (x ∷ xs) zero h = let e = least-first x xs in omega arith
least-or-at n (x ∷ xs) (suc m) h = let e = least-or-at x xs m (omega arith) in omega arith

least-at : (ns : List ℕ) (m : ℕ) → m < length ns → least ns ≤ slice_index_or ns m 0
least-at [] m h = omega arith
least-at (x ∷ xs) zero h = least-first x xs
least-at (x ∷ xs) (suc m) h = least-or-at x xs m (omega arith)

pub enough : (config : Config) (m : ℕ) → FitsRing config → m < length config.delays →
    greatest config.delays - slice_index_or config.delays m 0 + greatest_slip config.windows + 1 ≤ slots_of config m
enough config m fits inside =
    let low = least-at config.delays m inside in omega (arith, fits)

-- ---- a line of a plan
record IsLineOf (total : ℕ) (lists : List (List Window)) (delays : List ℕ) (m : ℕ) (path : LinePath) : Type 0 where
  inside : m < length delays
  delay : path.delay ≡ slice_index_or delays m 0
  most : path.delay ≤ greatest delays
  slip : ℕ
  slips : slip ≤ greatest_slip lists
  is_path : IsPath total slip path

line-of : (total : ℕ) (lists : List (List Window)) (delays : List ℕ) (sent : List (List Container)) (m : ℕ)
    (path : LinePath) → AreSentBy total lists delays sent → slice_get (paths_of lists delays sent) m ≡ Some path →
    IsLineOf total lists delays m path
unfolding AreSentBy
line-of total [] delays sent m path each at = absurd cc
line-of total (windows ∷ lists) [] sent m path each at = absurd each
line-of total (windows ∷ lists) (delay ∷ delays) [] m path each at = absurd each
line-of total (windows ∷ lists) (delay ∷ delays) (containers ∷ sent) zero path each at =
    let own : LinePath = path_of (carried windows) delay containers in
    let same : own ≡ path = cc in
    subst (IsLineOf total (windows ∷ lists) (delay ∷ delays) 0) same (record {
      inside = omega arith;
      delay = refl;
      most = omega arith;
      slip = slip_of windows;
      slips = omega arith;
      is_path = subst (λ n. IsPath n (slip_of windows) own) each.1 (is_path windows containers delay each.0);
    })
line-of total (windows ∷ lists) (delay ∷ delays) (containers ∷ sent) (suc m) path each at =
    let rest = line-of total lists delays sent m path each.2 at in
    record {
      inside = omega (arith, rest.inside);
      delay = rest.delay;
      most = omega (arith, rest.most);
      slip = rest.slip;
      slips = omega (arith, rest.slips);
      is_path = rest.is_path;
    }

-- ---- two lines, in numbers
past : (total slip other_slip ring ticks rows : ℕ) (a b : LinePath) (waits other : LineCounts) →
    IsPath total slip a → IsPath total other_slip b → LineFits total ring ticks rows a waits →
    LineFits total ring ticks rows b other → rows < total → ticks ≤ waits.carried →
    a.decided (a.given waits.carried) ≤ rows → other.carried ≤ ticks →
    b.given other.carried - other.popped ≤ (a.delay + slip) - b.delay
past total slip other_slip ring ticks rows a b waits other path own fits_a fits_b left all undecided made =
    let last : waits.carried ≤ total + a.delay =
    elim (cases_lt (total + a.delay) waits.carried) [
      | inl h ↦ let e : waits.carried ≡ total + a.delay + 1 = omega (arith, h, fits_a.carries) in
          absurd (omega (arith, left, undecided, path.ended, ap (λ x. a.decided (a.given x)) e))
      | inr h ↦ h
    ] in
    let slow = path.late waits.carried last in
    let behind = own.left other.carried other.popped fits_b.carries fits_b.pops in
    omega (arith, slow, behind, all, undecided, made, fits_b.decides)

pub held : (config : Config) (items : List Item) (sent : List (List Container)) → CanRun config items sent →
    (s : Counts) → IsReached (plan_of config items sent) s → s.rows < config.ticks →
    (a b : ℕ) (path : LinePath) (line : LineCounts) → IsWaitedFor a (plan_of config items sent) s →
    IsLineAt b path line (plan_of config items sent) s → line.carried ≤ s.ticks →
    in_receive path line ≤ greatest config.delays - slice_index_or config.delays b 0 + greatest_slip config.windows
held config items sent can s reached left a b path line waits at made =
    let plan : Plan = plan_of config items sent in
    let fits : Fits plan s = reached-fits plan s (can_run-plan config items sent can) reached in
    let own = line-of config.ticks config.windows config.delays sent a waits.path can.sent_all waits.is.path_at in
    let other = line-of config.ticks config.windows config.delays sent b path can.sent_all at.path_at in
    let most = past config.ticks own.slip other.slip config.ring s.ticks s.rows waits.path path waits.line line
    own.is_path other.is_path
    (each-at _ plan.paths s.lines a waits.path waits.line fits.lines waits.is.path_at waits.is.line_at)
    (each-at _ plan.paths s.lines b path line fits.lines at.path_at at.line_at) left waits.all waits.undecided made in
    omega (arith, most, own.most, own.slips, other.delay, other.most)
