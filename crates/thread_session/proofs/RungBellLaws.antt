-- Bells: one that was rung for after its owner's note says so until the next note.
use Rattle.std.proofs.Common.{◌≡◌, ℕ, List, [], ◌∷◌, ◌++◌, All, true, false, refl, sym, ◌∙◌, ap, subst, inl, inr}
use Rattle.std.proofs.lemmas.Bool.{cases_Bool}
use Rattle.std.proofs.lemmas.List.Elements.{All-head, All-tail, All-cons, All-nil}
use Rattle.std.proofs.lemmas.List.Sums.{fold-append}
use Rattle.thread_session.specs.session_parts.Bells.{BellNow, BellStep, bell_by, bell_after, is_note, is_stop, quiet}
use Rattle.thread_session.specs.session_parts.Bells.{rung, asleep, notes, looks, hears, stops_hearing, sleeps, moves}
use Rattle.thread_session.specs.session_parts.Bells.{rings, rings_from_behind, HaveNoNote, AreHeard, waiting}
use Rattle.thread_session.specs.session_parts.Bells.{waiting_for_behind}

-- No ring is lost: a bell that was rung for after its owner's note says so until the next note.
abbrev NotNote : BellStep → Type 0
NotNote step = is_note step ≡ false

abbrev NotStop : BellStep → Type 0
NotStop step = is_stop step ≡ false

-- ---- one step
kept-rung : (bell : BellNow) (step : BellStep) → NotNote step → bell.word ≡ rung → (bell_by bell step).word ≡ rung
kept-rung bell notes none is = absurd (let e : true ≡ false = none in cc)
kept-rung bell looks none is = is
kept-rung bell hears none is = is
kept-rung bell stops_hearing none is = is
kept-rung bell sleeps none is = rw is refl
kept-rung bell (moves who) none is = is
kept-rung bell (rings who) none is = refl
kept-rung bell (rings_from_behind who) none is = elim (cases_Bool bell.heard) [ inl e ↦ rw e refl | inr e ↦ rw e is ]

kept-heard : (bell : BellNow) (step : BellStep) → NotStop step → bell.heard ≡ true → (bell_by bell step).heard ≡ true
kept-heard bell notes none is = is
kept-heard bell looks none is = is
kept-heard bell hears none is = refl
kept-heard bell stops_hearing none is = absurd (let e : true ≡ false = none in cc)
kept-heard bell sleeps none is = is
kept-heard bell (moves who) none is = is
kept-heard bell (rings who) none is = is
kept-heard bell (rings_from_behind who) none is = rw is refl

-- ---- any steps
stays-rung : (bell : BellNow) (steps : List BellStep) → HaveNoNote steps → bell.word ≡ rung →
    (bell_after bell steps).word ≡ rung
stays-rung bell [] none is = is
stays-rung bell (step ∷ steps) none is =
    stays-rung (bell_by bell step) steps (All-tail NotNote step steps none)
    (kept-rung bell step (All-head NotNote step steps none) is)

stays-heard : (bell : BellNow) (steps : List BellStep) → AreHeard steps → bell.heard ≡ true →
    (bell_after bell steps).heard ≡ true
stays-heard bell [] none is = is
stays-heard bell (step ∷ steps) none is =
    stays-heard (bell_by bell step) steps (All-tail NotStop step steps none)
    (kept-heard bell step (All-head NotStop step steps none) is)

-- the last of several parts
last-part : (P : BellStep → Type 0) (first more : List BellStep) → All P (first ++ more) → All P more
last-part P [] more all = all
last-part P (step ∷ first) more all = last-part P first more (All-tail P step (first ++ more) all)

first-part : (P : BellStep → Type 0) (first more : List BellStep) → All P (first ++ more) → All P first
first-part P [] more all = All-nil P
first-part P (step ∷ first) more all =
    All-cons P step first (All-head P step (first ++ more) all) (first-part P first more (All-tail P step (first ++ more) all))

-- rung for among steps, a bell says so after them
rung-within : (bell : BellNow) (rest more : List BellStep) (who : ℕ) → HaveNoNote (rest ++ rings who ∷ more) →
    (bell_after bell (rest ++ rings who ∷ more)).word ≡ rung
rung-within bell rest more who none =
    ap (λ (now : BellNow). now.word) (fold-append bell_by bell rest (rings who ∷ more))
    ∙ stays-rung (bell_by (bell_after bell rest) (rings who)) more
    (All-tail NotNote (rings who) more (last-part NotNote rest (rings who ∷ more) none)) refl

behind-rings : (bell : BellNow) (who : ℕ) → bell.heard ≡ true → (bell_by bell (rings_from_behind who)).word ≡ rung
behind-rings bell who is = rw is refl

behind-within : (bell : BellNow) (rest more : List BellStep) (who : ℕ) → bell.heard ≡ true →
    HaveNoNote (rest ++ rings_from_behind who ∷ more) → AreHeard (rest ++ rings_from_behind who ∷ more) →
    (bell_after bell (rest ++ rings_from_behind who ∷ more)).word ≡ rung
behind-within bell rest more who heard none hearing =
    ap (λ (now : BellNow). now.word) (fold-append bell_by bell rest (rings_from_behind who ∷ more))
    ∙ stays-rung (bell_by (bell_after bell rest) (rings_from_behind who)) more
    (All-tail NotNote (rings_from_behind who) more
    (last-part NotNote rest (rings_from_behind who ∷ more) none))
    (behind-rings (bell_after bell rest) who
    (stays-heard bell rest (first-part NotStop rest (rings_from_behind who ∷ more) hearing) heard))

-- ---- an owner that waits
abbrev noted : BellNow → BellNow
noted bell = record bell { word = quiet }

after-look : (bell : BellNow) (between since : List BellStep) →
    bell_after bell (waiting between since) ≡ bell_after (bell_after (noted bell) between) since
after-look bell between since = fold-append bell_by (noted bell) between (looks ∷ since)

pub rung-since : (bell : BellNow) (between since rest more : List BellStep) (who : ℕ) → HaveNoNote between →
    HaveNoNote since → since ≡ rest ++ rings who ∷ more → (bell_after bell (waiting between since)).word ≡ rung
rung-since bell between since rest more who none none_since is =
    ap (λ (now : BellNow). now.word) (after-look bell between since)
    ∙ ap (λ (steps : List BellStep). (bell_after (bell_after (noted bell) between) steps).word) is
    ∙ rung-within (bell_after (noted bell) between) rest more who (subst HaveNoNote is none_since)

more-append : (first more last : List BellStep) → first ++ (more ++ last) ≡ (first ++ more) ++ last
more-append [] more last = refl
more-append (step ∷ first) more last = ap (λ (steps : List BellStep). step ∷ steps) (more-append first more last)

pub none-lost : (bell : BellNow) (between since first later : List BellStep) (who : ℕ) → HaveNoNote between →
    HaveNoNote since → since ≡ first ++ moves who ∷ later → (bell_after bell (waiting between since)).word ≡ asleep →
    (rest more : List BellStep) → later ≡ rest ++ rings who ∷ more → ⊥
none-lost bell between since first later who none none_since is sleeping rest more rung_later =
    let whole : since ≡ (first ++ moves who ∷ rest) ++ rings who ∷ more =
    is ∙ ap (λ (steps : List BellStep). first ++ moves who ∷ steps) rung_later
    ∙ more-append first (moves who ∷ rest) (rings who ∷ more) in
    absurd (let wrong : asleep ≡ rung = sym sleeping
    ∙ rung-since bell between since (first ++ moves who ∷ rest) more who none none_since whole in cc)

pub behind-since : (bell : BellNow) (between since rest more : List BellStep) (who : ℕ) → HaveNoNote between →
    HaveNoNote since → AreHeard between → AreHeard since → since ≡ rest ++ rings_from_behind who ∷ more →
    (bell_after bell (waiting_for_behind between since)).word ≡ rung
behind-since bell between since rest more who none none_since hearing hearing_since is =
    let hearer : BellNow = record bell { heard = true } in
    let at_look : BellNow = bell_after (noted hearer) between in
    ap (λ (now : BellNow). now.word) (after-look hearer between since)
    ∙ ap (λ (steps : List BellStep). (bell_after at_look steps).word) is
    ∙ behind-within at_look rest more who (stays-heard (noted hearer) between hearing refl)
    (subst HaveNoNote is none_since) (subst AreHeard is hearing_since)
