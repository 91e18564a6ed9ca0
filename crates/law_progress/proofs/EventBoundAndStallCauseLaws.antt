-- What each event of a walk does: it moves and keeps the bounds of the lines, or it stalls for a cause.
use Rattle.std.proofs.Common.{◌≡◌, ℕ, zero, suc, ◌+◌, ◌*◌, ◌<◌, ◌≤◌, List, [], ◌∷◌, length, slice_get, slice_set, Some}
use Rattle.std.proofs.Common.{ap, subst, arith, ◌-◌, ◌%◌, ◌==◌, ◌&&◌, nat_le, nat_lt, Bool, true, false, ◌⊎◌, inl, inr}
use Rattle.std.proofs.Common.{Option, None, refl, sym, ◌∙◌}
use Rattle.law_model.specs.Common.{LinePath, LineCounts, sum_delays, frame_dues, command_dues, Plan, Counts, in_send}
use Rattle.law_model.specs.Common.{in_receive, in_return, in_inbox, used_in, land_due, accept, command, held, full}
use Rattle.law_model.specs.Common.{is_missing, tick_full, tick_held, tick, carry_on, carry_at, carry, pop, popped_line}
use Rattle.law_model.specs.Common.{Popped, pop_lines, take_popped, is_back_full, take_row}
use Rattle.law_progress.specs.Progress.{AllPaths, Each, sum_lines, IsPath, IsSound, IsPlanOf, LineFits, Fits, made}
use Rattle.std.proofs.lemmas.Bool.{leb-true, leb-false, ltb-true, ltb-false, cases_Bool, cases_lt, eqb-true, and_parts}
use Rattle.std.proofs.lemmas.Bool.{cases_eq}
use Rattle.std.proofs.lemmas.Option.{slice_get_within}
use Rattle.law_model.specs.session.Scenario.{packets_in}
use Rattle.law_model.specs.session.Counts.{back}

-- ---- Lists of lines beside their paths.
pub each-map : (P Q : LinePath → LineCounts → Type 0) (paths : List LinePath) (lines : List LineCounts) →
    ((path : LinePath) (line : LineCounts) → P path line → Q path line) → Each P paths lines → Each Q paths lines
unfolding Each
each-map P Q [] [] f h = tt
each-map P Q [] (line ∷ lines) f h = absurd h
each-map P Q (path ∷ paths) [] f h = absurd h
each-map P Q (path ∷ paths) (line ∷ lines) f h = (f path line h.0, each-map P Q paths lines f h.1)

pub each-with : (A : LinePath → Type 0) (P : LinePath → LineCounts → Type 0) (paths : List LinePath)
    (lines : List LineCounts) → AllPaths A paths → Each P paths lines →
    Each (λ path line. A path × P path line) paths lines
unfolding Each AllPaths
each-with A P [] [] all h = tt
each-with A P [] (line ∷ lines) all h = absurd h
each-with A P (path ∷ paths) [] all h = absurd h
each-with A P (path ∷ paths) (line ∷ lines) all h = ((all.0, h.0), each-with A P paths lines all.1 h.1)

pub each-at : (P : LinePath → LineCounts → Type 0) (paths : List LinePath) (lines : List LineCounts) (m : ℕ)
    (path : LinePath) (line : LineCounts) → Each P paths lines → slice_get paths m ≡ Some path →
    slice_get lines m ≡ Some line → P path line
unfolding Each
each-at P [] [] m path line h p l = absurd cc
each-at P [] (other ∷ lines) m path line h p l = absurd h
each-at P (first ∷ paths) [] m path line h p l = absurd h
each-at P (first ∷ paths) (other ∷ lines) zero path line h p l =
    let e : first ≡ path = cc in let f : other ≡ line = cc in
    subst (λ line. P path line) f (subst (λ path. P path other) e h.0)
each-at P (first ∷ paths) (other ∷ lines) (suc m) path line h p l = each-at P paths lines m path line h.1 p l

pub each-set : (P : LinePath → LineCounts → Type 0) (paths : List LinePath) (lines : List LineCounts) (m : ℕ)
    (path : LinePath) (line : LineCounts) → Each P paths lines → slice_get paths m ≡ Some path → P path line →
    Each P paths (slice_set lines m line)
unfolding Each
each-set P [] [] m path line h p new = h
each-set P [] (other ∷ lines) m path line h p new = absurd h
each-set P (first ∷ paths) [] m path line h p new = absurd h
each-set P (first ∷ paths) (other ∷ lines) zero path line h p new =
    let e : path ≡ first = cc in (subst (λ path. P path line) e new, h.1)
each-set P (first ∷ paths) (other ∷ lines) (suc m) path line h p new =
    (h.0, each-set P paths lines m path line h.1 p new)

-- some line is there where a path is
pub each-some : (P : LinePath → LineCounts → Type 0) (paths : List LinePath) (lines : List LineCounts) →
    0 < length paths → Each P paths lines → (path : LinePath) × (line : LineCounts) × P path line
unfolding Each
each-some P [] lines some h = absurd (omega arith)
each-some P (path ∷ paths) [] some h = absurd h
each-some P (path ∷ paths) (line ∷ lines) some h = (path, line, h.0)

pub sum-set : (lines : List LineCounts) (m : ℕ) (line new : LineCounts) → slice_get lines m ≡ Some line →
    new.carried ≡ line.carried + 1 → new.popped ≡ line.popped → sum_lines (slice_set lines m new) ≡ sum_lines lines + 1
unfolding sum_lines
sum-set [] m line new h c p = absurd cc
sum-set (other ∷ lines) zero line new h c p =
    let e : other ≡ line = cc in
    let f : other.carried ≡ line.carried = ap (λ l. l.carried) e in
    let g : other.popped ≡ line.popped = ap (λ l. l.popped) e in
    omega (arith, c, p, f, g)
sum-set (other ∷ lines) (suc m) line new h c p = let rest = sum-set lines m line new h c p in omega (arith, rest)

-- the measure of lines is bounded
pub sum-bounded : (total : ℕ) (paths : List LinePath) (lines : List LineCounts) →
    Each (λ path line. (line.carried ≤ total + path.delay + 1) × (line.popped ≤ total + 1)) paths lines →
    sum_lines lines ≤ length paths * (2 * total) + sum_delays paths + 2 * length paths
unfolding Each sum_lines sum_delays
sum-bounded total [] [] h = omega arith
sum-bounded total [] (line ∷ lines) h = absurd h
sum-bounded total (path ∷ paths) [] h = absurd h
sum-bounded total (path ∷ paths) (line ∷ lines) h =
    let rest = sum-bounded total paths lines h.1 in let c = h.0.0 in let p = h.0.1 in
    let e : suc (length paths) * (2 * total) ≡ length paths * (2 * total) + 2 * total = grind arith in
    omega (arith, rest, c, p, e)

-- ---- What each event does: it moves and keeps the bounds, or changes nothing and stands for a cause.
-- the next counts are the same for this reason, or within their bounds and more
abbrev pub Kept : Plan → Counts → Type 0 → Counts → Type 0
Kept plan s Why next = ((next ≡ s) × Why) ⊎ (Fits plan next × (made s < made next))

abbrev pub NotLanded : ℕ → Option ℕ → Type 0
NotLanded ticks due = (d : ℕ) → due ≡ Some d → ticks < d

land-kept : (plan : Plan) (s next : Counts) (ticks : ℕ) (due : Option ℕ) →
    ((d : ℕ) → due ≡ Some d → Fits plan next × (made s < made next)) →
    Kept plan s (NotLanded ticks due) (land_due ticks due s next).counts
land-kept plan s next ticks None moves = inl (refl, λ d e. absurd cc)
land-kept plan s next ticks (Some due) moves =
    elim (cases_Bool (nat_lt ticks due)) [
      | inl e ↦ rw e (inl (
        refl,
        λ d same. let early = ltb-true ticks due e in let f : due ≡ d = cc in
            omega (arith, early, f),
      ))
      | inr e ↦ rw e (inr (moves due refl))
    ]

pub accept-kept : (plan : Plan) (s : Counts) → Fits plan s →
    Kept plan s (NotLanded s.ticks (slice_get (frame_dues plan.items) s.frames)) (accept plan s).counts
accept-kept plan s fits =
    land-kept plan s (record s { frames = s.frames + 1 }) s.ticks (slice_get (frame_dues plan.items) s.frames) (λ d e.
    let within = slice_get_within (frame_dues plan.items) s.frames d e in (
      record {
        ticks = fits.ticks;
        rows = fits.rows;
        frames = omega (arith, within);
        commands = fits.commands;
        lines =
            fits.lines;
        backs = fits.backs;
        returns = fits.returns;
        used = fits.used;
      },
      omega arith,
    ))

pub command-kept : (plan : Plan) (s : Counts) → Fits plan s →
    Kept plan s (NotLanded s.ticks (slice_get (command_dues plan.items) s.commands)) (command plan s).counts
command-kept plan s fits =
    land-kept plan s (record s { commands = s.commands + 1 }) s.ticks (slice_get (command_dues plan.items) s.commands)
    (λ d e.
    let within = slice_get_within (command_dues plan.items) s.commands d e in (
      record {
        ticks = fits.ticks;
        rows = fits.rows;
        frames = fits.frames;
        commands = omega (arith, within);
        lines =
            fits.lines;
        backs = fits.backs;
        returns = fits.returns;
        used = fits.used;
      },
      omega arith,
    ))

-- ---- Back
pub back-kept : (plan : Plan) (s : Counts) → Fits plan s → Kept plan s (packets_in s.rows ≤ s.backs) (back s).counts
back-kept plan s fits =
    let backs = fits.backs in let returns = fits.returns in let used = fits.used in
    elim (cases_Bool (nat_le (in_return s) 0)) [
      | inl e ↦ rw e (inl (refl, let none = leb-true (in_return s) 0 e in omega (arith, none)))
      | inr e ↦ rw e (let some = leb-false (in_return s) 0 e in
          inr (
            record {
              ticks = fits.ticks;
              rows = fits.rows;
              frames = fits.frames;
              commands = fits.commands;
              lines =
                  fits.lines;
              backs = omega (arith, some);
              returns = omega (arith, returns);
              used = omega (arith, used);
            },
            omega arith,
          ))
    ]

-- ---- Tick
pub record IsMissing (plan : Plan) (s : Counts) : Type 0 where
  pub late : 16 * plan.lag + 8 ≤ s.ticks
  pub place : s.ticks % 16 ≡ 8
  pub none : in_inbox plan s ≤ 0

pub data TickWhy (plan : Plan) (s : Counts) : Type 0 where
  done : plan.ticks ≤ s.ticks → TickWhy plan s
  waits : (item : ℕ) → held s.ticks s.frames s.commands 0 plan.items ≡ Some item → TickWhy plan s
  fills : (line : ℕ) → full plan.ticks s.ticks 0 s.lines ≡ Some line → TickWhy plan s
  misses : IsMissing plan s → TickWhy plan s

missing-true : (plan : Plan) (s : Counts) → is_missing plan s ≡ true → IsMissing plan s
missing-true plan s e =
    let a : Bool = nat_le (16 * plan.lag + 8) s.ticks in let b : Bool = s.ticks % 16 == 8 in
    let c : Bool = nat_le (in_inbox plan s) 0 in
    let ab : (a && b) ≡ true = (and_parts (a && b) c e).0 in
    record {
      late = leb-true (16 * plan.lag + 8) s.ticks ((and_parts a b ab).0);
      place = eqb-true (s.ticks % 16) 8 ((and_parts a b ab).1);
      none = leb-true (in_inbox plan s) 0 ((and_parts (a && b) c e).1);
    }

-- where no cell is missing, one more tick uses none that isn't there
used-more : (lag ticks backs : ℕ) → used_in lag ticks ≤ backs →
    nat_le (16 * lag + 8) ticks && ticks % 16 == 8 && nat_le (backs - used_in lag ticks) 0 ≡ false →
    used_in lag (ticks + 1) ≤ backs
used-more lag ticks backs used e =
    elim (cases_Bool (nat_le (16 * lag + 8) ticks)) [
      | inr early ↦ let h = leb-false (16 * lag + 8) ticks early in omega (arith, h)
      | inl late ↦ elim (cases_Bool (ticks % 16 == 8)) [
        | inr other ↦ let h : ticks % 16 ≡ 8 → ⊥ = grind (arith, other) in elim (cases_lt (ticks % 16) 8) [
          | inl less ↦ omega (arith, less, used)
          | inr more ↦ elim (cases_lt 8 (ticks % 16)) [
            | inl above ↦ omega (arith, above, used)
            | inr below ↦ absurd (h (omega (arith, more, below)))
          ]
        ]
        | inl place ↦ elim (cases_Bool (nat_le (backs - used_in lag ticks) 0)) [
          | inl none ↦ absurd (let f : true ≡ false = rw (late, place, none) at e in cc)
          | inr some ↦ let h = leb-false (backs - used_in lag ticks) 0 some in omega (arith, h)
        ]
      ]
    ]

none-full : (total ring ticks rows m : ℕ) (paths : List LinePath) (lines : List LineCounts) →
    full total ticks m lines ≡ None →
    Each (LineFits total ring ticks rows) paths lines → Each (LineFits total ring (ticks + 1) rows) paths lines
unfolding Each full
none-full total ring ticks rows m [] [] none h = tt
none-full total ring ticks rows m [] (line ∷ lines) none h = absurd h
none-full total ring ticks rows m (path ∷ paths) [] none h = absurd h
none-full total ring ticks rows m (path ∷ paths) (line ∷ lines) none h =
    elim (cases_Bool (nat_le 32 (in_send total ticks line))) [
      | inl e ↦ absurd (let f : Some m ≡ None = rw e at none in cc)
      | inr e ↦
          let room = leb-false 32 (in_send total ticks line) e in
          let fits : LineFits total ring ticks rows path line = h.0 in
          let sent = fits.sent in (
            record {
              carries = fits.carries;
              sent = omega (arith, sent);
              send = omega (arith, room);
              pops = fits.pops;
              receive = fits.receive;
              decides = fits.decides;
            },
            none-full total ring ticks rows (suc m) paths lines (rw e at none) h.1,
          )
    ]

pub tick-kept : (plan : Plan) (s : Counts) → Fits plan s → Kept plan s (TickWhy plan s) (tick plan s).counts
tick-kept plan s fits =
    elim (cases_Bool (nat_le plan.ticks s.ticks)) [
      | inl e ↦ rw e (inl (refl, done (leb-true plan.ticks s.ticks e)))
      | inr e ↦ rw e (by-held (held s.ticks s.frames s.commands 0 plan.items) refl (leb-false plan.ticks s.ticks e))
    ]
  where
    by-full : (found : Option ℕ) → full plan.ticks s.ticks 0 s.lines ≡ found → s.ticks < plan.ticks →
        Kept plan s (TickWhy plan s) (tick_full found plan s).counts
    by-full (Some line) is open_ = inl (refl, fills line is)
    by-full None is open_ =
        elim (cases_Bool (is_missing plan s)) [
          | inl e ↦ rw e (inl (refl, misses (missing-true plan s e)))
          | inr e ↦ rw e (inr (
            record {
              ticks = omega (arith, open_);
              rows = fits.rows;
              frames = fits.frames;
              commands = fits.commands;
              lines = none-full plan.ticks plan.ring s.ticks s.rows 0 plan.paths s.lines is fits.lines;
              backs = fits.backs;
              returns = fits.returns;
              used = used-more plan.lag s.ticks s.backs fits.used e;
            },
            omega arith,
          ))
        ]

    by-held : (found : Option ℕ) → held s.ticks s.frames s.commands 0 plan.items ≡ found → s.ticks < plan.ticks →
        Kept plan s (TickWhy plan s) (tick_held found plan s).counts
    by-held (Some item) is open_ = inl (refl, waits item is)
    by-held None is open_ = by-full (full plan.ticks s.ticks 0 s.lines) refl open_

-- ---- Carry
pub data CarryWhy (plan : Plan) (s : Counts) (path : LinePath) (line : LineCounts) : Type 0 where
  ended : plan.ticks + path.delay < line.carried → CarryWhy plan s path line
  empty : line.carried < plan.ticks → s.ticks ≤ line.carried → CarryWhy plan s path line
  fills : plan.ring ≤ in_receive path line → CarryWhy plan s path line

abbrev pub NoCarry : Plan → Counts → ℕ → Type 0
NoCarry plan s m = (path : LinePath) (line : LineCounts) → slice_get plan.paths m ≡ Some path →
    slice_get s.lines m ≡ Some line → CarryWhy plan s path line

carried-fits : (total ring ticks rows slip : ℕ) (path : LinePath) (line : LineCounts) → IsPath total slip path →
    LineFits total ring ticks rows path line →
    line.carried ≤ total + path.delay → (line.carried < total → line.carried < ticks) →
    path.given line.carried < line.popped + ring →
    LineFits total ring ticks rows path (record line { carried = line.carried + 1 })
carried-fits total ring ticks rows slip path line is fits more sends room =
    let one = is.one line.carried more in
    let up = one.0 in let few = one.1 in let pops = fits.pops in let sent = fits.sent in let send = fits.send in
    record {
      carries = omega (arith, more);
      sent = elim (cases_lt line.carried total)
          [ inl h ↦ let ahead = sends h in omega (arith, ahead) | inr h ↦ omega (arith, h, sent) ];
      send = omega (arith, send);
      pops = omega (arith, up, pops);
      receive = omega (arith, few, room);
      decides = fits.decides;
    }

module _ (slow fast slip : ℕ) (plan : Plan) (s : Counts) (is : IsPlanOf slow fast slip plan) (fits : Fits plan s)
    (m : ℕ) where
  carried : (path : LinePath) (line : LineCounts) → slice_get plan.paths m ≡ Some path →
      slice_get s.lines m ≡ Some line →
      line.carried ≤ plan.ticks + path.delay → (line.carried < plan.ticks → line.carried < s.ticks) →
      path.given line.carried < line.popped + plan.ring →
      Fits plan (record s { lines = slice_set s.lines m (record line { carried = line.carried + 1 }) })
      × (made s < made (record s { lines = slice_set s.lines m (record line { carried = line.carried + 1 }) }))
  carried path line p l more sends room =
      let both = each-at (λ path line. IsSound plan.ticks slow fast slip path ×
      LineFits plan.ticks plan.ring s.ticks s.rows path line) plan.paths s.lines m path line
      (each-with (IsSound plan.ticks slow fast slip) (LineFits plan.ticks plan.ring s.ticks s.rows) plan.paths s.lines
      is.paths fits.lines) p l in
      let sound : IsSound plan.ticks slow fast slip path = both.0 in
      let new = carried-fits plan.ticks plan.ring s.ticks s.rows slip path line sound.is_path both.1 more sends room in
      let sum = sum-set s.lines m line (record line { carried = line.carried + 1 }) l refl refl in (
        record {
          ticks = fits.ticks;
          rows = fits.rows;
          frames = fits.frames;
          commands = fits.commands;
          lines = each-set (LineFits plan.ticks plan.ring s.ticks s.rows) plan.paths s.lines m path
              (record line { carried = line.carried + 1 }) fits.lines p new;
          backs = fits.backs;
          returns = fits.returns;
          used = fits.used;
        },
        omega (arith, sum),
      )

  why : (path other : LinePath) (line that : LineCounts) → Some path ≡ Some other → Some line ≡ Some that →
      CarryWhy plan s path line → CarryWhy plan s other that
  why path other line that p l w =
      let e : path ≡ other = cc in let f : line ≡ that = cc in
      subst (λ line. CarryWhy plan s other line) f (subst (λ path. CarryWhy plan s path line) e w)

  on : (path : LinePath) (line : LineCounts) → slice_get plan.paths m ≡ Some path → slice_get s.lines m ≡ Some line →
      Kept plan s (CarryWhy plan s path line) (carry_on plan s m path line).counts
  on path line p l =
      elim (cases_Bool (nat_lt (plan.ticks + path.delay) line.carried)) [
        | inl e ↦ rw e (inl (refl, ended (ltb-true (plan.ticks + path.delay) line.carried e)))
        | inr e ↦ let more = ltb-false (plan.ticks + path.delay) line.carried e in
            rw e (elim (cases_Bool (nat_lt line.carried plan.ticks && nat_le (in_send plan.ticks s.ticks line) 0)) [
              | inl f ↦
                  let open_ = ltb-true line.carried plan.ticks
                  (and_parts (nat_lt line.carried plan.ticks) (nat_le (in_send plan.ticks s.ticks line) 0) f).0
                  in
                  let none = leb-true (in_send plan.ticks s.ticks line) 0
                  (and_parts (nat_lt line.carried plan.ticks) (nat_le (in_send plan.ticks s.ticks line) 0) f).1
                  in
                  rw f (inl (refl, empty open_ (omega (arith, open_, none))))
              | inr f ↦ rw f (elim (cases_Bool (nat_le plan.ring (in_receive path line))) [
                | inl g ↦ rw g (inl (refl, fills (leb-true plan.ring (in_receive path line) g)))
                | inr g ↦ let room = leb-false plan.ring (in_receive path line) g in
                    rw g (inr (carried path line p l more (λ open_. sends line open_ f) (omega (arith, room))))
              ])
            ])
      ]
    where
      sends : (line : LineCounts) → line.carried < plan.ticks →
          (nat_lt line.carried plan.ticks && nat_le (in_send plan.ticks s.ticks line) 0) ≡ false →
          line.carried < s.ticks
      sends line open_ f = elim (cases_Bool (nat_le (in_send plan.ticks s.ticks line) 0)) [
        | inl none ↦ let less : nat_lt line.carried plan.ticks ≡ true = grind (arith, open_) in
            absurd (let g : true ≡ false = rw (less, none) at f in cc)
        | inr some ↦ let h = leb-false (in_send plan.ticks s.ticks line) 0 some in omega (arith, h, open_)
      ]

  pub carry-kept : Kept plan s (NoCarry plan s m) (carry plan s m).counts
  carry-kept = by (slice_get plan.paths m) (slice_get s.lines m) refl refl
    where
      by : (path : Option LinePath) (line : Option LineCounts) → slice_get plan.paths m ≡ path →
          slice_get s.lines m ≡ line → Kept plan s (NoCarry plan s m) (carry_at plan s m path line).counts
      by (Some path) (Some line) p l = elim (on path line p l) [
        | inl same ↦ inl (same.0, λ other that q k. why path other line that (sym p ∙ q) (sym l ∙ k) same.1)
        | inr more ↦ inr more
      ]
      by (Some path) None p l = inl (refl, λ other that q k. absurd (let e : Some that ≡ None = sym k ∙ l in cc))
      by None line p l = inl (refl, λ other that q k. absurd (let e : Some other ≡ None = sym q ∙ p in cc))

-- ---- What Take does: it pops cells line by line, and takes the row where each line decides it.
-- ---- one line
record PopFits (path : LinePath) (t end from new : ℕ) : Type 0 where
  starts : from ≤ new
  within : new ≤ end
  rises : path.decided from ≤ path.decided new
  ends : (t < path.decided new) ⊎ (new ≡ end)

pop-fits : (path : LinePath) (t end : ℕ) → ((y : ℕ) → path.decided y ≤ path.decided (suc y)) → (k y : ℕ) → y + k ≡ end →
    PopFits path t end y (pop k path t y)
unfolding pop
pop-fits path t end rises zero y h =
    record { starts = omega arith; within = omega (arith, h); rises = omega arith; ends = inr (omega (arith, h)) }
pop-fits path t end rises (suc k) y h =
    elim (cases_Bool (nat_le (path.decided y) t)) [
      | inl e ↦ rw e (
          let rest = pop-fits path t end rises k (suc y) (omega (arith, h)) in let up = rises y in
          let starts = rest.starts in let more = rest.rises in
          record {
            starts = omega (arith, starts);
            within = rest.within;
            rises = omega (arith, up, more);
            ends =
                rest.ends;
          })
      | inr e ↦ rw e (record {
        starts = omega arith;
        within = omega (arith, h);
        rises = omega arith;
        ends =
            inl (leb-false (path.decided y) t e);
      })
    ]

-- ---- all lines
pub record IsStuck (t : ℕ) (paths : List LinePath) (lines : List LineCounts) : Type 0 where
  pub m : ℕ
  pub path : LinePath
  pub line : LineCounts
  pub path_at : slice_get paths m ≡ Some path
  pub line_at : slice_get lines m ≡ Some line
  pub all : line.popped ≡ path.given line.carried
  pub open_ : path.decided line.popped ≤ t

pub record PopsFit (total ring ticks t : ℕ) (paths : List LinePath) (lines : List LineCounts)
    (popped : Popped) : Type 0 where
  pub each : Each (LineFits total ring ticks t) paths popped.lines
  pub more : sum_lines lines ≤ sum_lines popped.lines
  pub all : popped.waiting ≡ None → Each (LineFits total ring ticks (t + 1)) paths popped.lines
  pub waits : (m : ℕ) → popped.waiting ≡ Some m →
      (sum_lines lines < sum_lines popped.lines) ⊎ ((popped.lines ≡ lines) × IsStuck t paths lines)

module _ (total slow fast slip ring ticks t : ℕ) where
  popped-fits : (path : LinePath) (line : LineCounts) → IsSound total slow fast slip path →
      LineFits total ring ticks t path line →
      PopFits path t (path.given line.carried) line.popped (popped_line path t line).popped
  popped-fits path line sound fits = let pops = fits.pops in
      pop-fits path t (path.given line.carried) sound.is_path.rises (in_receive path line) line.popped
      (omega (arith, pops))

  line-fits : (rows new : ℕ) (path : LinePath) (line : LineCounts) → LineFits total ring ticks t path line →
      PopFits path t (path.given line.carried) line.popped new → rows ≤ path.decided new →
      LineFits total ring ticks rows path (record line { popped = new })
  line-fits rows new path line fits pops decides =
      let starts = pops.starts in let receive = fits.receive in
      record {
        carries = fits.carries;
        sent = fits.sent;
        send = fits.send;
        pops = pops.within;
        receive =
            omega (arith, starts, receive);
        decides = decides;
      }

  popped-same : (line : LineCounts) (new : ℕ) → new ≡ line.popped → record line { popped = new } ≡ line
  popped-same line new e = ap (λ y. record line { popped = y }) e

  one-waits : (m : ℕ) (path : LinePath) (paths : List LinePath) (line : LineCounts) (lines : List LineCounts) →
      LineFits total ring ticks t path line → Each (LineFits total ring ticks t) paths lines →
      (new : ℕ) → PopFits path t (path.given line.carried) line.popped new → path.decided new ≤ t →
      PopsFit total ring ticks t (path ∷ paths) (line ∷ lines)
      (record { lines = record line { popped = new } ∷ lines; waiting = Some m })
  unfolding Each sum_lines
  one-waits m path paths line lines fits rest new pops low =
      let starts = pops.starts in let rises = pops.rises in let decides = fits.decides in
      record {
        each = (line-fits t new path line fits pops (omega (arith, rises, decides)), rest);
        more = omega (arith, starts);
        all = λ e. absurd cc;
        waits = λ k e. elim (cases_eq new line.popped) [
          | inr other ↦ inl (omega (arith, starts, other))
          | inl same ↦ inr (
            ap (λ line. line ∷ lines) (popped-same line new same),
            record {
              m = 0;
              path = path;
              line = line;
              path_at = refl;
              line_at = refl;
              all = elim pops.ends [ inl past ↦ omega (arith, past, low) | inr full ↦ sym same ∙ full ];
              open_ = subst (λ y. path.decided y ≤ t) same low;
            },
          )
        ];
      }

  one-passes : (path : LinePath) (paths : List LinePath) (line : LineCounts) (lines : List LineCounts) (rest : Popped) →
      LineFits total ring ticks t path line → PopsFit total ring ticks t paths lines rest →
      (new : ℕ) → PopFits path t (path.given line.carried) line.popped new → t < path.decided new →
      PopsFit total ring ticks t (path ∷ paths) (line ∷ lines)
      (record { lines = record line { popped = new } ∷ rest.lines; waiting = rest.waiting })
  unfolding Each sum_lines
  one-passes path paths line lines rest fits others new pops past =
      let starts = pops.starts in let rises = pops.rises in let decides = fits.decides in let more = others.more in
      record {
        each = (line-fits t new path line fits pops (omega (arith, rises, decides)), others.each);
        more = omega (arith, starts, more);
        all = λ e. (line-fits (t + 1) new path line fits pops (omega (arith, past)), others.all e);
        waits = λ k e. elim (others.waits k e) [
          | inl less ↦ inl (omega (arith, starts, less))
          | inr (equal, stuck) ↦ elim (cases_eq new line.popped) [
            | inr other ↦ inl (omega (arith, starts, other, more))
            | inl same ↦ inr (
              ap (λ line. line ∷ rest.lines) (popped-same line new same) ∙ ap (λ lines. line ∷ lines) equal,
              record {
                m = suc stuck.m;
                path = stuck.path;
                line = stuck.line;
                path_at = stuck.path_at;
                line_at = stuck.line_at;
                all = stuck.all;
                open_ = stuck.open_;
              },
            )
          ]
        ];
      }

  pops-fit : (m : ℕ) (paths : List LinePath) (lines : List LineCounts) → AllPaths (IsSound total slow fast slip) paths →
      Each (LineFits total ring ticks t) paths lines →
      PopsFit total ring ticks t paths lines (pop_lines t m paths lines)
  unfolding Each AllPaths pop_lines sum_lines
  pops-fit m [] [] sound fits = record { each = tt; more = omega arith; all = λ e. tt; waits = λ k e. absurd cc }
  pops-fit m [] (line ∷ lines) sound fits = absurd fits
  pops-fit m (path ∷ paths) [] sound fits = absurd fits
  pops-fit m (path ∷ paths) (line ∷ lines) sound fits =
      let pops = popped-fits path line sound.0 fits.0 in
      elim (cases_Bool (nat_le (path.decided (popped_line path t line).popped) t)) [
        | inl e ↦ rw e (one-waits m path paths line lines fits.0 fits.1 (popped_line path t line).popped pops
            (leb-true (path.decided (popped_line path t line).popped) t e))
        | inr e ↦ rw e (one-passes path paths line lines (pop_lines t (suc m) paths lines) fits.0
            (pops-fit (suc m) paths lines sound.1 fits.1) (popped_line path t line).popped pops
            (leb-false (path.decided (popped_line path t line).popped) t e))
      ]

-- ---- Take
pub data TakeWhy (plan : Plan) (s : Counts) : Type 0 where
  done : plan.ticks ≤ s.rows → TakeWhy plan s
  fills : 4 ≤ in_return s → TakeWhy plan s
  waits : IsStuck s.rows plan.paths s.lines → TakeWhy plan s

-- where the return ring isn't full at a packet row, one more row fits it
return-more : (rows backs : ℕ) → packets_in rows ≤ backs + 4 →
    (nat_le 23 rows && rows % 16 == 7 && nat_le 4 (packets_in rows - backs)) ≡ false → packets_in (rows + 1) ≤ backs + 4
return-more rows backs fits e =
    elim (cases_Bool (nat_le 23 rows)) [
      | inr early ↦ let h = leb-false 23 rows early in omega (arith, h)
      | inl late ↦ elim (cases_Bool (rows % 16 == 7)) [
        | inr other ↦ let h : rows % 16 ≡ 7 → ⊥ = grind (arith, other) in elim (cases_lt (rows % 16) 7) [
          | inl less ↦ omega (arith, less, fits)
          | inr more ↦ elim (cases_lt 7 (rows % 16)) [
            | inl above ↦ omega (arith, above, fits)
            | inr below ↦ absurd (h (omega (arith, more, below)))
          ]
        ]
        | inl place ↦ elim (cases_Bool (nat_le 4 (packets_in rows - backs))) [
          | inl none ↦ absurd (let f : true ≡ false = rw (late, place, none) at e in cc)
          | inr some ↦ let h = leb-false 4 (packets_in rows - backs) some in omega (arith, h)
        ]
      ]
    ]

module _ (slow fast slip : ℕ) (plan : Plan) (s : Counts) (is : IsPlanOf slow fast slip plan) (fits : Fits plan s) where
  pub take-kept : Kept plan s (TakeWhy plan s) (take_row plan s).counts
  take-kept =
      elim (cases_Bool (nat_le plan.ticks s.rows)) [
        | inl e ↦ rw e (inl (refl, done (leb-true plan.ticks s.rows e)))
        | inr e ↦ rw e (elim (cases_Bool (is_back_full s)) [
          | inl f ↦ rw f (inl (
            refl,
            fills
                (leb-true 4 (in_return s) (and_parts (nat_le 23 s.rows && s.rows % 16 == 7)
                (nat_le 4 (in_return s)) f).1),
          ))
          | inr f ↦ rw f (by-take (pop_lines s.rows 0 plan.paths s.lines)
              (pops-fit plan.ticks slow fast slip plan.ring s.ticks s.rows 0 plan.paths s.lines is.paths fits.lines)
              (leb-false plan.ticks s.rows e) f)
        ])
      ]
    where
      by-waiting : (lines : List LineCounts) (waiting : Option ℕ) →
          PopsFit plan.ticks plan.ring s.ticks s.rows plan.paths s.lines (record { lines = lines; waiting = waiting }) →
          s.rows < plan.ticks → is_back_full s ≡ false →
          Kept plan s (TakeWhy plan s) (take_popped s lines waiting).counts
      by-waiting lines (Some m) pops open_ room = elim (pops.waits m refl) [
        | inl less ↦ inr (
          record {
            ticks = fits.ticks;
            rows = fits.rows;
            frames = fits.frames;
            commands = fits.commands;
            lines = pops.each;
            backs = fits.backs;
            returns = fits.returns;
            used = fits.used;
          },
          omega (arith, less),
        )
        | inr (same, stuck) ↦ inl (ap (λ lines. record s { lines = lines }) same, waits stuck)
      ]
      by-waiting lines None pops open_ room =
          let more = pops.more in let backs = fits.backs in
          inr (
            record {
              ticks = fits.ticks;
              rows = omega (arith, open_);
              frames = fits.frames;
              commands = fits.commands;
              lines = pops.all refl;
              backs = omega (arith, backs);
              returns = return-more s.rows s.backs fits.returns room;
              used = fits.used;
            },
            omega (arith, more),
          )

      by-take : (popped : Popped) → PopsFit plan.ticks plan.ring s.ticks s.rows plan.paths s.lines popped →
          s.rows < plan.ticks → is_back_full s ≡ false →
          Kept plan s (TakeWhy plan s) (take_popped s popped.lines popped.waiting).counts
      by-take popped pops open_ room = by-waiting popped.lines popped.waiting pops open_ room
