-- Lists of alarms by the post they came through and by line: those got and those kept are all that were posted.
use Rattle.std.proofs.Common.{◌≡◌, ◌≢◌, ℕ, zero, suc, ◌+◌, ◌*◌, ◌==◌, ◌<◌, ◌≤◌, Bool, true, false, if◌then◌else◌, List}
use Rattle.std.proofs.Common.{[], ◌∷◌, ◌++◌, length, refl, sym, ap, ◌∙◌, subst, arith, suc-mul, eq-eqb, ne_eqb, ◌⊎◌}
use Rattle.std.proofs.Common.{inl, inr, map, slice_get, Some, ap₂, length-append, append-nil, append_assoc}
use Rattle.std.proofs.Common.{IsPermutation, take, get_or, take-suc}
use native.Mathlib.Decide.{ℕ_discrete, dec_le}
use Rattle.thread_rings.specs.declared.alarm_kinds.Alarm.{Alarm}
use Rattle.thread_alarms.specs.declared.alarm_log.tagged_alarm.Tagged.{Tagged}
use Rattle.thread_alarms.specs.alarm_log.Alarms.{through, alarms_of, of_line, in_row}
use Rattle.std.proofs.lemmas.List.{nil_from_length}
use Rattle.thread_rings.specs.declared.alarm_kinds.AlarmKind.TheVariants.{Ends}
use Rattle.thread_alarms.specs.declared.alarm_log.queue_rule.Known.{Known}
use Rattle.thread_alarms.specs.alarm_log.Views.{IsNew, AreApart, AreBelow, AreHeard}
use Rattle.std.proofs.lemmas.List.Sorted.{IsPermutation-refl, IsPermutation-cons, IsPermutation-trans}
use Rattle.std.proofs.lemmas.List.Sorted.{IsPermutation-middle, IsPermutation-append_left, IsPermutation-append_right}
use Rattle.std.proofs.lemmas.List.Sorted.{IsPermutation-append_comm}
use Rattle.std.proofs.lemmas.Grind.{flat_map-append}
use Rattle.thread_alarms.specs.alarm_text.AlarmTextLines.{alarm_text, alarm_texts}

-- ---- Laws of lists of alarms, by post and by line.
-- one value changed of a function on numbers
abbrev pub at_key : {A : Type 0} → ℕ → A → (ℕ → A) → ℕ → A
at_key n a f p = if p == n then a else f p

pub at_key-same : {A : Type 0} (n : ℕ) (a : A) (f : ℕ → A) (p : ℕ) → p ≡ n → at_key n a f p ≡ a
at_key-same n a f p e = ap (λ b. if b then a else f p) (eq-eqb p n e)

pub at_key-other : {A : Type 0} (n : ℕ) (a : A) (f : ℕ → A) (p : ℕ) → p ≢ n → at_key n a f p ≡ f p
at_key-other n a f p e = ap (λ b. if b then a else f p) (ne_eqb p n e)

pub through-own : (n : ℕ) (x : Tagged) (xs : List Tagged) → x.from ≡ n → through n (x ∷ xs) ≡ x.alarm ∷ through n xs
through-own n x xs e = ap (λ b. if b then x.alarm ∷ through n xs else through n xs) (eq-eqb x.from n e)

pub through-other : (n : ℕ) (x : Tagged) (xs : List Tagged) → x.from ≢ n → through n (x ∷ xs) ≡ through n xs
through-other n x xs e = ap (λ b. if b then x.alarm ∷ through n xs else through n xs) (ne_eqb x.from n e)

through-joins-by : (b : Bool) (a : Alarm) (l m : List Alarm)
    → (if b then a ∷ (l ++ m) else (l ++ m)) ≡ (if b then a ∷ l else l) ++ m
through-joins-by true a l m = refl
through-joins-by false a l m = refl

pub through-append : (n : ℕ) (xs ys : List Tagged) → through n (xs ++ ys) ≡ through n xs ++ through n ys
through-append n [] ys = refl
through-append n (x ∷ xs) ys =
    ap (λ l. if x.from == n then x.alarm ∷ l else l) (through-append n xs ys)
    ∙ through-joins-by (x.from == n) x.alarm (through n xs) (through n ys)

pub line-append : (m : ℕ) (xs ys : List Alarm) → of_line m (xs ++ ys) ≡ of_line m xs ++ of_line m ys
line-append m [] ys = refl
line-append m (a ∷ xs) ys =
    ap (λ l. if a.line == m then a ∷ l else l) (line-append m xs ys)
    ∙ through-joins-by (a.line == m) a (of_line m xs) (of_line m ys)

pub alarms-append : (xs ys : List Tagged) → alarms_of (xs ++ ys) ≡ alarms_of xs ++ alarms_of ys
alarms-append [] ys = refl
alarms-append (x ∷ xs) ys = ap (λ l. x.alarm ∷ l) (alarms-append xs ys)

pub alarms-length : (xs : List Tagged) → length (alarms_of xs) ≡ length xs
alarms-length [] = refl
alarms-length (x ∷ xs) = ap suc (alarms-length xs)

-- those that came through another post
abbrev pub without : ℕ → List Tagged → List Tagged
without n [] = []
without n (x ∷ xs) = if x.from == n then without n xs else x ∷ without n xs

pub without-own : (n : ℕ) (x : Tagged) (xs : List Tagged) → x.from ≡ n → without n (x ∷ xs) ≡ without n xs
without-own n x xs e = ap (λ b. if b then without n xs else x ∷ without n xs) (eq-eqb x.from n e)

pub without-other : (n : ℕ) (x : Tagged) (xs : List Tagged) → x.from ≢ n → without n (x ∷ xs) ≡ x ∷ without n xs
without-other n x xs e = ap (λ b. if b then without n xs else x ∷ without n xs) (ne_eqb x.from n e)

pub parts-length : (n : ℕ) (xs : List Tagged) → length xs ≡ length (through n xs) + length (without n xs)
parts-length n [] = refl
parts-length n (x ∷ xs) = elim (ℕ_discrete x.from n) [
  | yes e ↦ let t = ap length (through-own n x xs e) in let w = ap length (without-own n x xs e) in
      omega (arith, t, w, parts-length n xs)
  | no ne ↦ let t = ap length (through-other n x xs ne) in let w = ap length (without-other n x xs ne) in
      omega (arith, t, w, parts-length n xs)
]

pub without-same : (n : ℕ) (xs : List Tagged) → through n (without n xs) ≡ []
without-same n [] = refl
without-same n (x ∷ xs) = elim (ℕ_discrete x.from n) [
  | yes e ↦ ap (through n) (without-own n x xs e) ∙ without-same n xs
  | no ne ↦ ap (through n) (without-other n x xs ne) ∙ through-other n x (without n xs) ne ∙ without-same n xs
]

pub without-rest : (n p : ℕ) (xs : List Tagged) → p ≢ n → through p (without n xs) ≡ through p xs
without-rest n p [] apart = refl
without-rest n p (x ∷ xs) apart = elim (ℕ_discrete x.from n) [
  | yes e ↦ ap (through p) (without-own n x xs e) ∙ without-rest n p xs apart
      ∙ sym (through-other p x xs (λ f. apart (sym f ∙ e)))
  | no ne ↦ ap (through p) (without-other n x xs ne) ∙ ap (λ l. if x.from == p then x.alarm ∷ l else l)
      (without-rest n p xs apart)
]

-- alarms that came through no post
pub through-none : (xs : List Tagged) → ((p : ℕ) → through p xs ≡ []) → length xs ≡ 0
through-none [] none = refl
through-none (x ∷ xs) none = let h = ap length (sym (through-own x.from x xs refl) ∙ none x.from) in
    absurd (omega (arith, h))

-- at most so many through each of so many posts
pub room-through : (n most : ℕ) (xs : List Tagged) → ((p : ℕ) → n ≤ p → through p xs ≡ [])
    → ((p : ℕ) → length (through p xs) ≤ most) → length xs ≤ n * most
room-through zero most xs none each = let h = through-none xs (λ p. none p (omega arith)) in omega (arith, h)
room-through (suc n) most xs none each =
    let rest : length (without n xs) ≤ n * most =
    room-through n most (without n xs)
    (λ p above. elim (ℕ_discrete p n) [
      | yes e ↦ subst (λ (k : ℕ). through k (without n xs) ≡ []) (sym e) (without-same n xs)
      | no ne ↦ without-rest n p xs ne ∙ none p (omega (arith, above, ne))
    ])
    (λ p. elim (ℕ_discrete p n) [
      | yes e ↦ let h = ap length (subst (λ (k : ℕ). through k (without n xs) ≡ []) (sym e) (without-same n xs)) in
          omega (arith, h)
      | no ne ↦ let h = ap length (without-rest n p xs ne) in omega (arith, h, each p)
    ]) in
    let all = parts-length n xs in
    omega (arith, rest, all, each n, suc-mul n most)

-- and where fewer came through one of the posts, at most so many less
pub room-less : (n most m : ℕ) (xs : List Tagged) → ((p : ℕ) → n ≤ p → through p xs ≡ [])
    → ((p : ℕ) → length (through p xs) ≤ most)
    → m < n → length xs + most ≤ n * most + length (through m xs)
room-less zero most m xs none each below = absurd (omega (arith, below))
room-less (suc n) most m xs none each below =
    let none' : (p : ℕ) → n ≤ p → through p (without n xs) ≡ [] = λ p above. elim (ℕ_discrete p n) [
      | yes e ↦ subst (λ (k : ℕ). through k (without n xs) ≡ []) (sym e) (without-same n xs)
      | no ne ↦ without-rest n p xs ne ∙ none p (omega (arith, above, ne))
    ] in
    let each' : (p : ℕ) → length (through p (without n xs)) ≤ most = λ p. elim (ℕ_discrete p n) [
      | yes e ↦ let h = ap length (subst (λ (k : ℕ). through k (without n xs) ≡ []) (sym e) (without-same n xs)) in
          omega (arith, h)
      | no ne ↦ let h = ap length (without-rest n p xs ne) in omega (arith, h, each p)
    ] in
    let all = parts-length n xs in
    let times = suc-mul n most in
    elim (ℕ_discrete m n) [
      | yes e ↦
          let rest = room-through n most (without n xs) none' each' in
          let here = ap (λ k. length (through k xs)) e in
          omega (arith, rest, all, here, times)
      | no ne ↦
          let rest = room-less n most m (without n xs) none' each' (omega (arith, below, ne)) in
          let same = ap length (without-rest n m xs ne) in
          omega (arith, rest, all, each n, times, same)
    ]

-- ---- Once the queue is empty and all posts have ended, the alarms that were got, and then those that the posts kept,
-- are for each line posted through one post alone those posted, and there is room for them. Posts are anything with
-- a number, what was put and what is kept.
-- ---- the alarms of a line
line-own : (m : ℕ) (a : Alarm) (l : List Alarm) → a.line ≡ m → of_line m (a ∷ l) ≡ a ∷ of_line m l
line-own m a l e = ap (λ b. if b then a ∷ of_line m l else of_line m l) (eq-eqb a.line m e)

line-other : (m : ℕ) (a : Alarm) (l : List Alarm) → a.line ≢ m → of_line m (a ∷ l) ≡ of_line m l
line-other m a l e = ap (λ b. if b then a ∷ of_line m l else of_line m l) (ne_eqb a.line m e)

-- where there is none, the first is not one, and there is none in the rest
line-none : (m : ℕ) (a : Alarm) (l : List Alarm) → of_line m (a ∷ l) ≡ [] → (a.line ≢ m) × (of_line m l ≡ [])
line-none m a l none =
    let first : a.line ≢ m = λ e. let h = ap length (sym (line-own m a l e) ∙ none) in omega (arith, h) in
    (first, sym (line-other m a l first) ∙ none)

none-left : {A : Type 0} (xs ys : List A) → xs ++ ys ≡ [] → xs ≡ []
none-left [] ys e = refl
none-left (x ∷ xs) ys e = let h = ap length e in absurd (omega (arith, h))

none-right : {A : Type 0} (xs ys : List A) → xs ++ ys ≡ [] → ys ≡ []
none-right [] ys e = e
none-right (x ∷ xs) ys e = let h = ap length e in absurd (omega (arith, h))

-- where the alarms of a line came through one post alone, they are those of the line that came through it
pub by-line : (m n : ℕ) (xs : List Tagged) → ((p : ℕ) → p ≢ n → of_line m (through p xs) ≡ [])
    → of_line m (alarms_of xs) ≡ of_line m (through n xs)
by-line m n [] alone = refl
by-line m n (x ∷ xs) alone = elim (ℕ_discrete x.from n) [
  | yes e ↦
      let rest = by-line m n xs (λ p apart. ap (of_line m) (sym (through-other p x xs (λ f. apart (sym f ∙ e))))
      ∙ alone p apart) in
      ap (λ l. if x.alarm.line == m then x.alarm ∷ l else l) rest ∙ ap (of_line m) (sym (through-own n x xs e))
  | no ne ↦
      let here = line-none m x.alarm (through x.from xs) (ap (of_line m) (sym (through-own x.from x xs refl))
      ∙ alone x.from ne) in
      let rest = by-line m n xs (λ p apart. elim (ℕ_discrete x.from p) [
        | yes f ↦ subst (λ k. of_line m (through k xs) ≡ []) f here.1
        | no nf ↦ ap (of_line m) (sym (through-other p x xs nf)) ∙ alone p apart
      ]) in
      line-other m x.alarm (alarms_of xs) here.0 ∙ rest ∙ ap (of_line m) (sym (through-other n x xs ne))
]

module _ {P : Type 0} (from : P → ℕ) (put kept : P → List Alarm) where
  abbrev pub known : P → Known
  known p = record { from = from p; put = put p }

  -- the number is that of no post
  abbrev pub NotAmong : ℕ → List P → Type 0
  NotAmong n [] = Unit {0}
  NotAmong n (q ∷ qs) = (from q ≢ n) × NotAmong n qs

  among : (n : ℕ) (posts : List P) → NotAmong n posts ⊎ ((j : ℕ) × (q : P) × (slice_get posts j ≡ Some q)
      × (from q ≡ n))
  among n [] = inl tt
  among n (q ∷ qs) = elim (ℕ_discrete (from q) n) [
    | yes e ↦ inr (0, q, refl, e)
    | no ne ↦ elim (among n qs) [
      | inl none ↦ inl (ne, none)
      | inr found ↦ inr (suc found.0, found.1, found.2, found.3)
    ]
  ]

  heard-at : (xs : List Tagged) (posts : List P) (j : ℕ) (q : P) → AreHeard xs (map known posts)
      → slice_get posts j ≡ Some q → through (from q) xs ≡ put q
  heard-at xs [] j q heard there = absurd cc
  heard-at xs (p ∷ ps) zero q heard there = let same : p ≡ q = cc in
      subst (λ (r : P). through (from r) xs ≡ put r) same heard.0
  heard-at xs (p ∷ ps) (suc j) q heard there = heard-at xs ps j q heard.1 there

  -- ---- the alarms of a line in what was kept
  none-kept : (m : ℕ) (posts : List P) → ((j : ℕ) (q : P) → slice_get posts j ≡ Some q → of_line m (kept q) ≡ [])
      → of_line m (in_row (map kept posts)) ≡ []
  none-kept m [] none = refl
  none-kept m (q ∷ qs) none =
      line-append m (kept q) (in_row (map kept qs)) ∙ ap₂ (λ a b. a ++ b) (none 0 q refl)
      (none-kept m qs (λ j r there. none (suc j) r there))

  one-kept : (m : ℕ) (posts : List P) (i : ℕ) (f : P) → slice_get posts i ≡ Some f
      → ((j : ℕ) (q : P) → slice_get posts j ≡ Some q → (j ≡ i → ⊥) → of_line m (kept q) ≡ [])
      → of_line m (in_row (map kept posts)) ≡ of_line m (kept f)
  one-kept m [] i f there alone = absurd cc
  one-kept m (q ∷ qs) zero f there alone =
      let same : q ≡ f = cc in
      line-append m (kept q) (in_row (map kept qs))
      ∙ ap₂ (λ a b. a ++ b) (ap (λ r. of_line m (kept r)) same)
      (none-kept m qs (λ j r at. alone (suc j) r at (λ e. omega (arith, e))))
      ∙ append-nil (of_line m (kept f))
  one-kept m (q ∷ qs) (suc i) f there alone =
      line-append m (kept q) (in_row (map kept qs))
      ∙ ap₂ (λ a b. a ++ b) (alone 0 q refl (λ e. omega (arith, e)))
      (one-kept m qs i f there (λ j r at apart. alone (suc j) r at (λ e. apart (omega (arith, e)))))

  -- ---- the list in the end
  pub finished : (m : ℕ) (posts : List P) (xs : List Tagged) (i : ℕ) (f : P) → slice_get posts i ≡ Some f
      → ((j : ℕ) (q : P) → slice_get posts j ≡ Some q → (j ≡ i → ⊥) → of_line m (put q ++ kept q) ≡ [])
      → AreHeard xs (map known posts) → ((n : ℕ) → NotAmong n posts → through n xs ≡ [])
      → of_line m (alarms_of xs ++ in_row (map kept posts)) ≡ of_line m (put f ++ kept f)
  finished m posts xs i f there alone heard rest =
      let apart : (n : ℕ) → n ≢ from f → of_line m (through n xs) ≡ [] = λ n ne. elim (among n posts) [
        | inl none ↦ ap (of_line m) (rest n none)
        | inr found ↦
            let other : (found.0 ≡ i → ⊥) = λ e. ne (sym found.3
            ∙ ap from (let a : slice_get posts i ≡ Some found.1 =
            subst (λ k. slice_get posts k ≡ Some found.1) e found.2 in cc)) in
            ap (λ k. of_line m (through k xs)) (sym found.3)
            ∙ ap (of_line m) (heard-at xs posts found.0 found.1 heard found.2)
            ∙ none-left (of_line m (put found.1)) (of_line m (kept found.1))
            (sym (line-append m (put found.1) (kept found.1)) ∙ alone found.0 found.1 found.2 other)
      ] in
      line-append m (alarms_of xs) (in_row (map kept posts))
      ∙ ap₂ (λ a b. a ++ b)
      (by-line m (from f) xs apart ∙ ap (of_line m) (heard-at xs posts i f heard there))
      (one-kept m posts i f there (λ j q at other. none-right (of_line m (put q)) (of_line m (kept q))
      (sym (line-append m (put q) (kept q)) ∙ alone j q at other)))
      ∙ sym (line-append m (put f) (kept f))

  -- ---- and its room
  abbrev put_size : ℕ → List P → ℕ
  put_size n [] = 0
  put_size n (q ∷ qs) = if from q == n then length (put q) else put_size n qs

  abbrev put_sizes : List P → ℕ
  put_sizes [] = 0
  put_sizes (q ∷ qs) = length (put q) + put_sizes qs

  size-own : (n : ℕ) (q : P) (qs : List P) → from q ≡ n → put_size n (q ∷ qs) ≡ length (put q)
  size-own n q qs e = ap (λ b. if b then length (put q) else put_size n qs) (eq-eqb (from q) n e)

  size-other : (n : ℕ) (q : P) (qs : List P) → from q ≢ n → put_size n (q ∷ qs) ≡ put_size n qs
  size-other n q qs e = ap (λ b. if b then length (put q) else put_size n qs) (ne_eqb (from q) n e)

  heard-size : (xs : List Tagged) (posts : List P) (n : ℕ) → AreHeard xs (map known posts)
      → (NotAmong n posts → through n xs ≡ []) → length (through n xs) ≤ put_size n posts
  heard-size xs [] n heard rest = let h = ap length (rest tt) in omega (arith, h)
  heard-size xs (q ∷ qs) n heard rest = elim (ℕ_discrete (from q) n) [
    | yes e ↦ let h = ap length (subst (λ k. through k xs ≡ put q) e heard.0) in let s = size-own n q qs e in
        omega (arith, h, s)
    | no ne ↦ let h = heard-size xs qs n heard.1 (λ none. rest (ne, none)) in let s = size-other n q qs ne in
        omega (arith, h, s)
  ]

  covered : (posts : List P) (xs : List Tagged) → ((n : ℕ) → length (through n xs) ≤ put_size n posts)
      → length xs ≤ put_sizes posts
  covered [] xs each = let h =
      through-none xs (λ n. nil_from_length (through n xs) (let e = each n in omega (arith, e))) in omega (arith, h)
  covered (q ∷ qs) xs each =
      let n = from q in
      let own = each n in
      let size = size-own n q qs refl in
      let parts = parts-length n xs in
      let rest : length (without n xs) ≤ put_sizes qs =
      covered qs (without n xs) (λ p. elim (ℕ_discrete p n) [
        | yes e ↦ let h = ap length (subst (λ k. through k (without n xs) ≡ []) (sym e) (without-same n xs)) in
            omega (arith, h)
        | no ne ↦ let h = ap length (without-rest n p xs ne) in let s = size-other p q qs (λ f. ne (sym f)) in let e =
            each p in omega (arith, h, s, e)
      ]) in
      omega (arith, own, size, parts, rest)

  limited : (most : ℕ) (posts : List P) → ((j : ℕ) (q : P) → slice_get posts j ≡ Some q
      → length (put q) + length (kept q) ≤ most)
      → put_sizes posts + length (in_row (map kept posts)) ≤ length posts * most
  limited most [] each = omega arith
  limited most (q ∷ qs) each =
      let first = each 0 q refl in
      let rest = limited most qs (λ j r there. each (suc j) r there) in
      let l = length-append (kept q) (in_row (map kept qs)) in
      let s = suc-mul (length qs) most in
      omega (arith, first, rest, l, s)

  pub has-room : (most : ℕ) (posts : List P) (xs : List Tagged)
      → ((j : ℕ) (q : P) → slice_get posts j ≡ Some q → length (put q) + length (kept q) ≤ most)
      → AreHeard xs (map known posts) → ((n : ℕ) → NotAmong n posts → through n xs ≡ [])
      → length xs + length (in_row (map kept posts)) ≤ length posts * most
  has-room most posts xs each heard rest =
      let got = covered posts xs (λ n. heard-size xs posts n heard (rest n)) in
      let all = limited most posts each in
      omega (arith, got, all)

  -- ---- n posts with numbers below n, each with another number, have all of these numbers
  abbrev tagged : Alarm → List P → List Tagged
  tagged a posts = map (λ q. record { from = from q; alarm = a }) posts

  tagged-length : (a : Alarm) (posts : List P) → length (tagged a posts) ≡ length posts
  tagged-length a [] = refl
  tagged-length a (q ∷ qs) = ap suc (tagged-length a qs)

  tagged-none : (a : Alarm) (posts : List P) (n : ℕ) → NotAmong n posts → through n (tagged a posts) ≡ []
  tagged-none a [] n out = refl
  tagged-none a (q ∷ qs) n out = through-other n (record { from = from q; alarm = a }) (tagged a qs) out.0
      ∙ tagged-none a qs n out.1

  new-among : (posts : List P) (n : ℕ) → IsNew n (map known posts) → NotAmong n posts
  new-among [] n new = tt
  new-among (q ∷ qs) n new = (new.0, new-among qs n new.1)

  tagged-once : (a : Alarm) (posts : List P) → AreApart (map known posts) → (n : ℕ)
      → length (through n (tagged a posts)) ≤ 1
  tagged-once a [] apart n = omega arith
  tagged-once a (q ∷ qs) apart n = elim (ℕ_discrete (from q) n) [
    | yes e ↦
        let one = ap length (through-own n (record { from = from q; alarm = a }) (tagged a qs) e) in
        let rest = ap length (tagged-none a qs n (subst (λ k. NotAmong k qs) e (new-among qs (from q) apart.0))) in
        omega (arith, one, rest)
    | no ne ↦ let one = ap length (through-other n (record { from = from q; alarm = a }) (tagged a qs) ne) in
        omega (arith, one, tagged-once a qs apart.1 n)
  ]

  below-among : (posts : List P) (n p : ℕ) → AreBelow n (map known posts) → n ≤ p → NotAmong p posts
  below-among [] n p below above = tt
  below-among (q ∷ qs) n p below above = (
    (λ e. let b = below.0 in omega (arith, b, e, above)),
    below-among qs n p below.1 above,
  )

  pub all-there : (n : ℕ) (posts : List P) (xs : List Tagged) → length posts ≡ n → AreApart (map known posts)
      → AreBelow n (map known posts)
      → ((p : ℕ) → n ≤ p → through p xs ≡ []) → (p : ℕ) → NotAmong p posts → through p xs ≡ []
  all-there n posts xs count apart below none p out = elim (dec_le n p) [
    | yes above ↦ none p above
    | no less ↦
        let a : Alarm = record { line = 0; place = 0; kind = Ends } in
        let few = room-less n 1 p (tagged a posts) (λ k above. tagged-none a posts k
        (below-among posts n k below above)) (tagged-once a posts apart)
        (omega (arith, less)) in
        let gone = ap length (tagged-none a posts p out) in
        let size = tagged-length a posts in
        absurd (omega (arith, few, size, count, gone))
  ]

-- ---- Once the queue is empty and all posts have ended, what was got and what the posts kept are, in some order, all that was
-- posted. Posts are anything with a number, what was put and what is kept.
-- those that came through a post, and those that came through another
parts : (n : ℕ) (xs : List Tagged) → IsPermutation (through n xs ++ alarms_of (without n xs)) (alarms_of xs)
parts n [] = IsPermutation-refl []
parts n (x ∷ xs) = elim (ℕ_discrete x.from n) [
  | yes e ↦
      subst (λ l. IsPermutation (l ++ alarms_of (without n (x ∷ xs))) (alarms_of (x ∷ xs))) (sym (through-own n x xs e))
      (subst (λ l. IsPermutation (x.alarm ∷ through n xs ++ alarms_of l) (alarms_of (x ∷ xs)))
      (sym (without-own n x xs e))
      (IsPermutation-cons x.alarm (through n xs ++ alarms_of (without n xs)) (alarms_of xs) (parts n xs)))
  | no ne ↦
      subst (λ l. IsPermutation (l ++ alarms_of (without n (x ∷ xs))) (alarms_of (x ∷ xs)))
      (sym (through-other n x xs ne))
      (subst (λ l. IsPermutation (through n xs ++ alarms_of l) (alarms_of (x ∷ xs))) (sym (without-other n x xs ne))
      (IsPermutation-trans (through n xs ++ x.alarm ∷ alarms_of (without n xs))
      (x.alarm ∷ (through n xs ++ alarms_of (without n xs))) (alarms_of (x ∷ xs))
      (IsPermutation-middle (through n xs) x.alarm (alarms_of (without n xs)))
      (IsPermutation-cons x.alarm (through n xs ++ alarms_of (without n xs)) (alarms_of xs) (parts n xs))))
]

-- what was put through posts with other numbers is heard without those of this number too
heard-without : (n : ℕ) (xs : List Tagged) (ks : List Known) → IsNew n ks → AreHeard xs ks → AreHeard (without n xs) ks
heard-without n xs [] new heard = tt
heard-without n xs (k ∷ ks) new heard =
    (without-rest n k.from xs new.0 ∙ heard.0, heard-without n xs ks new.1 heard.1)

module _ {P : Type 0} (from : P → ℕ) (put kept : P → List Alarm) where
  -- all that was put was got
  all-got : (posts : List P) (xs : List Tagged) → AreHeard xs (map (known from put kept) posts)
      → AreApart (map (known from put kept) posts) → ((n : ℕ) → NotAmong from put kept n posts → through n xs ≡ [])
      → IsPermutation (in_row (map put posts)) (alarms_of xs)
  all-got [] xs heard apart rest =
      let none : xs ≡ [] = nil_from_length xs (through-none xs (λ n. rest n tt)) in
      subst (λ l. IsPermutation [] (alarms_of l)) (sym none) (IsPermutation-refl [])
  all-got (q ∷ qs) xs heard apart rest =
      let n = from q in
      let others : IsPermutation (in_row (map put qs)) (alarms_of (without n xs)) =
      all-got qs (without n xs) (heard-without n xs (map (known from put kept) qs) apart.0 heard.1) apart.1
      (λ m out. elim (ℕ_discrete m n) [
        | yes e ↦ subst (λ k. through k (without n xs) ≡ []) (sym e) (without-same n xs)
        | no ne ↦ without-rest n m xs ne ∙ rest m ((λ e. ne (sym e)), out)
      ]) in
      IsPermutation-trans (put q ++ in_row (map put qs)) (put q ++ alarms_of (without n xs)) (alarms_of xs)
      (IsPermutation-append_right (put q) (in_row (map put qs)) (alarms_of (without n xs)) others)
      (subst (λ l. IsPermutation (l ++ alarms_of (without n xs)) (alarms_of xs)) heard.0 (parts n xs))

  -- post by post, or first all that was put and then all that is kept
  regrouped : (posts : List P) →
      IsPermutation (in_row (map (λ q. put q ++ kept q) posts)) (in_row (map put posts) ++ in_row (map kept posts))
  regrouped [] = IsPermutation-refl []
  regrouped (q ∷ qs) =
      let puts = in_row (map put qs) in
      let keeps = in_row (map kept qs) in
      let rest = in_row (map (λ q. put q ++ kept q) qs) in
      let inner : IsPermutation (kept q ++ rest) (puts ++ (kept q ++ keeps)) =
      IsPermutation-trans (kept q ++ rest) (kept q ++ (puts ++ keeps)) (puts ++ (kept q ++ keeps))
      (IsPermutation-append_right (kept q) rest (puts ++ keeps) (regrouped qs))
      (subst (λ l. IsPermutation l (puts ++ (kept q ++ keeps))) (append_assoc (kept q) puts keeps)
      (subst (λ l. IsPermutation ((kept q ++ puts) ++ keeps) l) (append_assoc puts (kept q) keeps)
      (IsPermutation-append_left keeps (kept q ++ puts) (puts ++ kept q) (IsPermutation-append_comm (kept q) puts)))) in
      subst (λ l. IsPermutation l ((put q ++ puts) ++ (kept q ++ keeps))) (sym (append_assoc (put q) (kept q) rest))
      (subst (λ l. IsPermutation (put q ++ (kept q ++ rest)) l) (sym (append_assoc (put q) puts (kept q ++ keeps)))
      (IsPermutation-append_right (put q) (kept q ++ rest) (puts ++ (kept q ++ keeps)) inner))

  pub whole : (posts : List P) (xs : List Tagged) → AreHeard xs (map (known from put kept) posts)
      → AreApart (map (known from put kept) posts) → ((n : ℕ) → NotAmong from put kept n posts → through n xs ≡ [])
      → IsPermutation (in_row (map (λ q. put q ++ kept q) posts)) (alarms_of xs ++ in_row (map kept posts))
  whole posts xs heard apart rest =
      IsPermutation-trans (in_row (map (λ q. put q ++ kept q) posts)) (in_row (map put posts) ++ in_row (map kept posts))
      (alarms_of xs ++ in_row (map kept posts)) (regrouped posts)
      (IsPermutation-append_left (in_row (map kept posts)) (in_row (map put posts)) (alarms_of xs)
      (all-got posts xs heard apart rest))

-- ---- The texts of one alarm more, and of one line more.
pub alarms_more : (m : ℕ) (alarms : List Alarm) (alarm : Alarm) →
    alarm_texts (of_line m (alarms ++ alarm ∷ []))
    ≡ alarm_texts (of_line m alarms) ++ alarm_texts (of_line m (alarm ∷ []))
alarms_more m alarms alarm =
    ap alarm_texts (line-append m alarms (alarm ∷ []))
    ∙ flat_map-append alarm_text (of_line m alarms) (of_line m (alarm ∷ []))

pub own_text : (m : ℕ) (alarm : Alarm) → (alarm.line == m) ≡ true →
    alarm_texts (of_line m (alarm ∷ [])) ≡ alarm_text alarm
own_text m alarm own = rw own (append-nil (alarm_text alarm))

pub other_text : (m : ℕ) (alarm : Alarm) (before : List ℕ) → (alarm.line == m) ≡ false →
    before ++ alarm_texts (of_line m (alarm ∷ [])) ≡ before
other_text m alarm before other = rw other (append-nil before)

pub text_next : (m : ℕ) (alarms : List Alarm) (i : ℕ) (d : Alarm) → i < length alarms →
    alarm_texts (of_line m (take (i + 1) alarms))
    ≡ alarm_texts (of_line m (take i alarms)) ++ alarm_texts (of_line m (get_or alarms i d ∷ []))
text_next m alarms i d within =
    let more : i + 1 ≡ suc i = omega arith in
    ap (λ (k : ℕ). alarm_texts (of_line m (take k alarms))) more
    ∙ ap (λ l. alarm_texts (of_line m l)) (take-suc alarms i d within)
    ∙ alarms_more m (take i alarms) (get_or alarms i d)
