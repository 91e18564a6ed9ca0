-- Lists of shares that workers are dealt to and taken back from, and lists pair by pair.
use Rattle.std.proofs.Common.{◌≡◌, ◌⊎◌, inl, inr, ℕ, zero, suc, ◌<◌, Bool, true, false, if◌then◌else◌, List, [], ◌∷◌}
use Rattle.std.proofs.Common.{◌++◌, length, filter, get_or, slice_get, Some, refl, sym, ◌∙◌, ap, subst, arith}
use Rattle.std.proofs.Common.{append_assoc, set, ◌+◌, length-set, ◌≤◌, ◌%◌, ◌==◌, take, drop, reverse, drop-cons}
use Rattle.std.proofs.Common.{eq-eqb, ne_eqb, replicate, vec_capacity}
use Rattle.std.specs.List.{AllZip}
use Rattle.std.proofs.lemmas.Option.{slice_get_read, slice_get-get_or, slice_get_within, get_or_from_slice_get}
use Rattle.member_rows.proofs.RowGatherLinesLaws.{set-other}
use Rattle.thread_session.specs.session_parts.LineRingsLaid.{PairsBelow}
use Rattle.std.proofs.lemmas.Bool.{cases_lt}
use Rattle.std.proofs.lemmas.List.{length_push, reverse-append}
use Rattle.check_nibbles.proofs.CellsInStepLaws.{slice_get-append, slice_get-append_seam}
use Rattle.thread_session.specs.declared.session_parts.stop_flag.Flag.{Flag}
use Rattle.thread_session.specs.declared.session_parts.line_thread.Held.{Held}
use Rattle.thread_session.specs.session_parts.Flags.{flag_of}
use Rattle.thread_session.specs.session_parts.HeldShares.{IsToldBy, AreToldBy}
use Rattle.std.specs.Global.{Vec}
use Rattle.law_model.proofs.ListLaws.{slice_get-inside, take-next, get-last}
use Rattle.thread_alarms.specs.declared.watched_line.served_line.ServedLine.{ServedLine}
use Rattle.thread_alarms.specs.watched_line.ServedWithPosts.{AreServedLater, IsServedLater, line_of}
use Rattle.thread_session.specs.session_parts.ServedLines.{AreNumbered, AreBack, share_of, AreDealt, SharesLater}
use Rattle.thread_session.specs.session_parts.ServedLines.{HaveRoom}
use Rattle.law_model.specs.Common.{Cell}
use Rattle.thread_rings.specs.EndsOfRing.{InEnd, in_passed}
use Rattle.thread_sink.specs.ReceivedByRings.{received}

-- ---- Workers are dealt to shares and taken back, over lists of anything.
module _ {A : Type 0} where
  pub some-is : (x y : A) → Some x ≡ Some y → x ≡ y
  some-is x y e = cc

  -- ---- an element of a list in which one was set
  pub set-found : (xs : List A) (i w : ℕ) (now found : A) → i < length xs → slice_get (set xs i now) w ≡ Some found →
      ((w ≡ i) × (found ≡ now)) ⊎ ((w ≡ i → ⊥) × (slice_get xs w ≡ Some found))
  set-found [] i w now found within e = absurd (omega arith)
  set-found (x ∷ xs) zero zero now found within e = inl (refl, some-is found now (sym e))
  set-found (x ∷ xs) zero (suc w) now found within e = inr ((λ same. omega (arith, same)), e)
  set-found (x ∷ xs) (suc i) zero now found within e = inr ((λ same. omega (arith, same)), e)
  set-found (x ∷ xs) (suc i) (suc w) now found within e = elim (set-found xs i w now found (omega arith) e) [
    | inl (same, is) ↦ inl (ap suc same, is)
    | inr (other, is) ↦ inr ((λ same. other (omega (arith, same))), is)
  ]

  -- setting what is there changes nothing
  pub set-same : (xs : List A) (i : ℕ) (d : A) → i < length xs → set xs i (get_or xs i d) ≡ xs
  set-same [] i d within = absurd (omega arith)
  set-same (x ∷ xs) zero d within = refl
  set-same (x ∷ xs) (suc i) d within = ap (λ l. x ∷ l) (set-same xs i d (omega arith))

  -- ---- a filter of one more
  pub filter-first : (p : A → Bool) (x : A) (xs : List A) → p x ≡ true → filter p (x ∷ xs) ≡ x ∷ filter p xs
  filter-first p x xs e = rw e refl

  pub filter-skips : (p : A → Bool) (x : A) (xs : List A) → p x ≡ false → filter p (x ∷ xs) ≡ filter p xs
  filter-skips p x xs e = rw e refl

  pub filter-last : (p : A → Bool) (xs : List A) (x : A) → p x ≡ true → filter p (xs ++ x ∷ []) ≡ filter p xs ++ x ∷ []
  filter-last p [] x e = filter-first p x [] e
  filter-last p (y ∷ ys) x e = elim (p y)
      as (λ b. (if b then y ∷ filter p (ys ++ x ∷ []) else filter p (ys ++ x ∷ [])) ≡
      (if b then y ∷ filter p ys else filter p ys) ++ x ∷ [])
      [ true ↦ ap (λ l. y ∷ l) (filter-last p ys x e) | false ↦ filter-last p ys x e ]

  pub filter-without : (p : A → Bool) (xs : List A) (x : A) → p x ≡ false → filter p (xs ++ x ∷ []) ≡ filter p xs
  filter-without p [] x e = filter-skips p x [] e
  filter-without p (y ∷ ys) x e =
      elim (p y) as (λ b. (if b then y ∷ filter p (ys ++ x ∷ []) else filter p (ys ++ x ∷ [])) ≡
      (if b then y ∷ filter p ys else filter p ys))
      [ true ↦ ap (λ l. y ∷ l) (filter-without p ys x e) | false ↦ filter-without p ys x e ]

  -- ---- the last of two lists beside each other
  pub zip-last : (R : A → A → Type 0) (xs : List A) (x : A) (ys : List A) → AllZip R (xs ++ x ∷ []) ys →
      (rest : List A) × (last : A) × (ys ≡ rest ++ last ∷ []) × AllZip R xs rest × R x last
  zip-last R [] x [] zipped = absurd zipped
  zip-last R [] x (y ∷ []) zipped = ([], y, refl, tt, zipped.0)
  zip-last R [] x (y ∷ z ∷ zs) zipped = absurd zipped.1
  zip-last R (w ∷ ws) x [] zipped = absurd zipped
  zip-last R (w ∷ ws) x (y ∷ ys) zipped =
      let (rest, last, is, all, one) = zip-last R ws x ys zipped.1 in
      (y ∷ rest, last, ap (λ l. y ∷ l) is, (zipped.0, all), one)

  -- ---- at one place of two lists beside each other
  pub zip-at : (R : A → A → Type 0) (xs ys : List A) (w : ℕ) (y : A) → AllZip R xs ys → slice_get ys w ≡ Some y →
      (x : A) × (slice_get xs w ≡ Some x) × R x y
  zip-at R [] [] w y zipped e = absurd cc
  zip-at R [] (z ∷ zs) w y zipped e = absurd zipped
  zip-at R (x ∷ xs) [] w y zipped e = absurd zipped
  zip-at R (x ∷ xs) (z ∷ zs) zero y zipped e = (x, refl, subst (R x) (some-is z y e) zipped.0)
  zip-at R (x ∷ xs) (z ∷ zs) (suc w) y zipped e = zip-at R xs zs w y zipped.1 e

-- ---- a worker is dealt
module _ {A S : Type 0} (items : S → List A) (test : ℕ → A → Bool) where
  pub dealt-step : (shares : List S) (i : ℕ) (own now : S) (x : A) (rest whole : List A) → i < length shares →
      own ≡ get_or shares i own →
      items now ≡ items own ++ x ∷ [] → test i x ≡ true → ((w : ℕ) → (w ≡ i → ⊥) → test w x ≡ false) →
      ((w : ℕ) (share : S) → slice_get shares w ≡ Some share →
      items share ++ filter (test w) (x ∷ rest) ≡ filter (test w) whole) →
      (w : ℕ) (share : S) → slice_get (set shares i now) w ≡ Some share →
      items share ++ filter (test w) rest ≡ filter (test w) whole
  dealt-step shares i own now x rest whole within there grew mine others dealt w share e =
      elim (set-found shares i w now share within e) [
        | inl (same, is) ↦
            rw (same, is, grew) (append_assoc (items own) (x ∷ []) (filter (test i) rest)
            ∙ ap (λ l. items own ++ l) (sym (filter-first (test i) x rest mine))
            ∙ dealt i own (was-there shares i own within there))
        | inr (other, is) ↦ ap (λ l. items share ++ l) (sym (filter-skips (test w) x rest (others w other)))
            ∙ dealt w share is
      ]
    where
      was-there : (xs : List S) (m : ℕ) (was : S) → m < length xs → was ≡ get_or xs m was → slice_get xs m ≡ Some was
      was-there [] m was within is = absurd (omega arith)
      was-there (y ∷ ys) zero was within is = ap Some (sym is)
      was-there (y ∷ ys) (suc m) was within is = was-there ys m was (omega arith) is

-- ---- a worker is taken back
module _ {A S : Type 0} (items : S → List A) (test : ℕ → A → Bool) (R : A → A → Type 0) where
  pub back-step : (shares : List S) (i : ℕ) (now : S) (past : List A) (x : A) → i < length shares →
      AllZip R (filter (test i) past) (items now) →
      ((w : ℕ) → (w ≡ i → ⊥) → test w x ≡ false) →
      ((w : ℕ) (share : S) → slice_get shares w ≡ Some share →
      AllZip R (filter (test w) (past ++ x ∷ [])) (items share)) →
      (w : ℕ) (share : S) → slice_get (set shares i now) w ≡ Some share → AllZip R (filter (test w) past) (items share)
  back-step shares i now past x within mine others back w share e = elim (set-found shares i w now share within e) [
    | inl (same, is) ↦ rw (same, is) mine
    | inr (other, is) ↦ subst (λ l. AllZip R l (items share)) (filter-without (test w) past x (others w other))
        (back w share is)
  ]

-- ---- Two lists beside each other.
module _ {A : Type 0} (R : A → A → Type 0) where
  pub zip-refl : ((a : A) → R a a) → (xs : List A) → AllZip R xs xs
  zip-refl self [] = tt
  zip-refl self (x ∷ xs) = (self x, zip-refl self xs)

  pub zip-then : ((a b c : A) → R a b → R b c → R a c) → (xs ys zs : List A) → AllZip R xs ys → AllZip R ys zs →
      AllZip R xs zs
  zip-then step [] [] [] s t = tt
  zip-then step [] [] (z ∷ zs) s t = absurd t
  zip-then step [] (y ∷ ys) zs s t = absurd s
  zip-then step (x ∷ xs) [] zs s t = absurd s
  zip-then step (x ∷ xs) (y ∷ ys) [] s t = absurd t
  zip-then step (x ∷ xs) (y ∷ ys) (z ∷ zs) s t = (step x y z s.0 t.0, zip-then step xs ys zs s.1 t.1)

module _ {A B : Type 0} (R : A → B → Type 0) where
  pub zip-set : (xs : List A) (ys : List B) (i : ℕ) (d new : B) → i < length ys →
      ((x : A) → R x (get_or ys i d) → R x new) →
      AllZip R xs ys → AllZip R xs (set ys i new)
  zip-set [] [] i d new within step zipped = absurd (omega arith)
  zip-set [] (y ∷ ys) i d new within step zipped = absurd zipped
  zip-set (x ∷ xs) [] i d new within step zipped = absurd zipped
  zip-set (x ∷ xs) (y ∷ ys) zero d new within step zipped = (step x zipped.0, zipped.1)
  zip-set (x ∷ xs) (y ∷ ys) (suc i) d new within step zipped =
      (zipped.0, zip-set xs ys i d new (omega arith) step zipped.1)

  pub zip-length : (xs : List A) (ys : List B) → AllZip R xs ys → length ys ≡ length xs
  zip-length [] [] zipped = refl
  zip-length [] (y ∷ ys) zipped = absurd zipped
  zip-length (x ∷ xs) [] zipped = absurd zipped
  zip-length (x ∷ xs) (y ∷ ys) zipped = ap suc (zip-length xs ys zipped.1)

  -- the first of the second list
  pub zip-first : (xs : List A) (y : B) (ys : List B) → AllZip R xs (y ∷ ys) → (x : A) × (rest : List A) ×
      (xs ≡ x ∷ rest) × R x y × AllZip R rest ys
  zip-first [] y ys zipped = absurd zipped
  zip-first (x ∷ xs) y ys zipped = (x, xs, refl, zipped.0, zipped.1)

  pub zip-none : (xs : List A) → AllZip R xs [] → xs ≡ []
  zip-none [] zipped = refl
  zip-none (x ∷ xs) zipped = absurd zipped

-- ---- One pair more of two lists is laid beside each other.
pub below-it : (m n : ℕ) → m < n + 1 → (m ≡ n → ⊥) → m < n
below-it m n low other = omega (arith, low, other)

module _ {A B : Type 0} (R : A → B → A → B → Type 0) where
  pub pairs-none : (as_ : List A) (bs : List B) → PairsBelow R 0 as_ bs as_ bs
  pairs-none as_ bs = record {
    first_count = refl;
    second_count = refl;
    each = λ m a b a' b' low. absurd (omega (arith, low));
    first_rest = λ m low. refl;
    second_rest = λ m low. refl;
  }

-- the next pair, and what it becomes
module _ {A B : Type 0} (R : A → B → A → B → Type 0) (n : ℕ) (as_ : List A) (bs : List B) (as' : List A) (bs' : List B)
    (a : A) (b : B) (same : length as_ ≡ length bs) (inside : n < length as_)
    (is_a : a ≡ get_or as' n a) (is_b : b ≡ get_or bs' n b) (below : PairsBelow R n as_ bs as' bs') where
  within : (n < length as') × (n < length bs')
  within = (omega (arith, inside, below.first_count), omega (arith, inside, same, below.second_count))

  -- it is as it was
  pub pairs-left : (slice_get as_ n ≡ Some a) × (slice_get bs n ≡ Some b)
  pairs-left = (
    sym (below.first_rest n (omega arith)) ∙ slice_get_read as' (length as') n a refl within.0 is_a,
    sym (below.second_rest n (omega arith)) ∙ slice_get_read bs' (length bs') n b refl within.1 is_b,
  )

  pub pairs-next : (a' : A) (b' : B) → R a b a' b' → PairsBelow R (n + 1) as_ bs (set as' n a') (set bs' n b')
  pairs-next a' b' laid = record {
    first_count = length-set as' n a' ∙ below.first_count;
    second_count = length-set bs' n b' ∙ below.second_count;
    each = λ m x y x' y' low was was' now now'. elim (set-found as' n m a' x' within.0 now) [
      | inl (at, is) ↦ elim (set-found bs' n m b' y' within.1 now') [
        | inl (at', is') ↦
            let from : x ≡ a = some-is x a (sym was ∙ ap (slice_get as_) at ∙ pairs-left.0) in
            let from' : y ≡ b = some-is y b (sym was' ∙ ap (slice_get bs) at ∙ pairs-left.1) in
            rw (from, from', is, is') laid
        | inr (other, is') ↦ absurd (other at)
      ]
      | inr (other, is) ↦ below.each m x y x' y' (below-it m n low other) was was' is
          (sym (set-other bs' n m b' other) ∙ now')
    ];
    first_rest = λ m low. set-other as' n m a' (λ e. absurd (omega (arith, e, low)))
        ∙ below.first_rest m (omega (arith, low));
    second_rest = λ m low. set-other bs' n m b' (λ e. absurd (omega (arith, e, low)))
        ∙ below.second_rest m (omega (arith, low));
  }

-- ---- One of a list after the other is changed.
-- the first ones of a list became those of another, and the others are as they were
pub record EachBelow {A : Type 0} (R : A → A → Type 0) (n : ℕ) (was now : List A) : Type 0 where
  pub each : (m : ℕ) (a b : A) → m < n → slice_get was m ≡ Some a → slice_get now m ≡ Some b → R a b
  pub rest : (m : ℕ) → n ≤ m → slice_get now m ≡ slice_get was m

module _ {A : Type 0} (R : A → A → Type 0) where
  pub each-none : (xs : List A) → EachBelow R 0 xs xs
  each-none xs = record {
    each = λ m a b low. absurd (omega (arith, low));
    rest = λ m low. refl;
  }

  -- one more
  pub each-next : (n : ℕ) (was now : List A) (d new : A) → n < length now → R (get_or now n d) new →
      EachBelow R n was now → EachBelow R (n + 1) was (set now n new)
  each-next n was now d new within is below = record {
    each = λ m a b low before after. elim (set-found now n m new b within after) [
      | inl (at, same) ↦
          let there : slice_get was n ≡ Some (get_or now n d) =
          sym (below.rest n (omega arith)) ∙ slice_get-get_or now n d within in
          let from : a ≡ get_or now n d = some-is a (get_or now n d) (sym before ∙ ap (slice_get was) at ∙ there) in
          rw (from, same) is
      | inr (other, found) ↦ below.each m a b (below-it m n low other) before found
    ];
    rest = λ m low. set-other now n m new (λ e. absurd (omega (arith, e, low))) ∙ below.rest m (omega (arith, low));
  }

-- ---- Each thread that serves a share looks at the flag of its place.
-- one more
pub told-push : (flags : List Flag) (held : List Held) (flag : Flag) (one : Held) →
    slice_get flags (length held) ≡ Some flag → IsToldBy (flag_of flag) one → AreToldBy flags held →
    AreToldBy flags (held ++ one ∷ [])
told-push flags held flag one at by told w other found is there =
    elim (cases_lt w (length held)) [
      | inl low ↦ told w other found is (sym (slice_get-append held (one ∷ []) w low) ∙ there)
      | inr high ↦
          let inside = slice_get_within (held ++ one ∷ []) w found there in
          let long = length_push held one in
          let last : w ≡ length held = omega arith in
          let e : Some one ≡ Some found = sym (slice_get-append_seam held one [])
          ∙ ap (slice_get (held ++ one ∷ [])) (sym last) ∙ there in
          let same : one ≡ found = cc in
          let f : Some flag ≡ Some other = sym at ∙ ap (slice_get flags) (sym last) ∙ is in
          let flag_same : flag ≡ other = cc in
          subst (IsToldBy (flag_of other)) same (subst (λ (g : Flag). IsToldBy (flag_of g) one) flag_same by)
    ]

-- one is changed, which goes on looking at its flag
pub told-set : (flags : List Flag) (held : List Held) (i : ℕ) (d new : Held) → i < length held →
    ((flag : ℕ) → IsToldBy flag (get_or held i d) → IsToldBy flag new) → AreToldBy flags held →
    AreToldBy flags (set held i new)
told-set flags held i d new within step told w flag found is there =
    elim (set-found held i w new found within there) [
      | inl (at, same) ↦ subst (IsToldBy (flag_of flag)) (sym same)
          (step (flag_of flag) (told w flag (get_or held i d) is
          (ap (slice_get held) at ∙ slice_get-get_or held i d within)))
      | inr (other, before) ↦ told w flag found is before
    ]

-- ---- The last worker of a share is that of the next line, last line first.
-- a share gave its last worker, and the lines took it
abbrev pub Moves : Vec ServedLine → Vec ServedLine → List ServedLine → List ServedLine → Type 0
Moves own now lines after = (rest : List ServedLine) (last : ServedLine) → own.items ≡ rest ++ last ∷ [] →
    (now.items ≡ rest) × (after ≡ lines ++ last ∷ [])

pub taken-back : (workers : List ServedLine) (m n place : ℕ) (shares : List (Vec ServedLine)) (own now : Vec ServedLine)
    (lines after : List ServedLine) →
    m < length workers → AreNumbered 0 workers → place ≡ m % n → place < length shares → own ≡ get_or shares place own →
    Moves own now lines after →
    AreBack (take (suc m) workers) n shares × AreServedLater (drop (suc m) workers) (reverse lines) →
    AreBack (take m workers) n (set shares place now) × AreServedLater (drop m workers) (reverse after)
taken-back workers m n place shares own now lines after within numbers is inside there moves had =
    let (x, found) = slice_get-inside workers m within in
    let number : line_of x ≡ m = let h = numbers m x found in omega (arith, h) in
    let more : take (suc m) workers ≡ take m workers ++ x ∷ [] = take-next workers m x found in
    let test : (line_of x % n == place) ≡ true =
    eq-eqb (line_of x % n) place (ap (λ (k : ℕ). k % n) number ∙ sym is) in
    let back : AreBack (take m workers ++ x ∷ []) n shares = subst (λ l. AreBack l n shares) more had.0 in
    let mine : AreServedLater (share_of n place (take m workers) ++ x ∷ []) own.items =
    subst (λ l. AreServedLater l own.items)
    (filter-last (λ (worker : ServedLine). line_of worker % n == place) (take m workers) x test)
    (back place own (slice_get_read shares (length shares) place own refl inside there)) in
    let (rest, last, ends, all, one) = zip-last IsServedLater (share_of n place (take m workers)) x own.items mine in
    let moved = moves rest last ends in
    let first : drop m workers ≡ x ∷ drop (suc m) workers =
    drop-cons workers m x within ∙ ap (λ (w : ServedLine). w ∷ drop (suc m) workers)
    (get_or_from_slice_get workers m x x found) in
    let turned : reverse after ≡ last ∷ reverse lines = ap reverse moved.1 ∙ reverse-append lines (last ∷ []) in (
      back-step (λ (share : Vec ServedLine). share.items) (λ w (worker : ServedLine). line_of worker % n == w)
          IsServedLater shares place now (take m workers) x inside
          (subst (AreServedLater (share_of n place (take m workers))) (sym moved.0) all)
          (λ w other. ne_eqb (line_of x % n) w (λ e. other (sym e ∙ ap (λ (k : ℕ). k % n) number ∙ sym is)))
          back,
      subst (λ l. AreServedLater l (reverse after)) (sym first)
          (subst (AreServedLater (x ∷ drop (suc m) workers)) (sym turned) (one, had.1)),
    )

-- ---- Workers that were dealt come back from the shares.
pub back-dealt : (workers : List ServedLine) (n : ℕ) (dealt back : List (Vec ServedLine)) → AreDealt workers n dealt →
    SharesLater dealt back → AreBack workers n back
back-dealt workers n dealt back deal later w share there =
    let (was, found, is) = zip-at (λ (a b : Vec ServedLine). AreServedLater a.items b.items) dealt back w share later
    there in
    subst (λ l. AreServedLater l share.items) (deal w was found) is

-- ---- Shares that are empty and have room, and rings through which nothing has passed.
-- ---- one share more
pub room-none : (most : ℕ) → HaveRoom most []
room-none most w share there = absurd cc

pub room-more : (most : ℕ) (shares : List (Vec ServedLine)) (next : Vec ServedLine) → HaveRoom most shares →
    next.items ≡ [] → most ≤ vec_capacity next → HaveRoom most (shares ++ next ∷ [])
room-more most shares next room empty has w share there = elim (get-last shares next w share there) [
  | inl before ↦ room w share before
  | inr (at, is) ↦ subst (λ (one : Vec ServedLine). (one.items ≡ []) × (most ≤ vec_capacity one)) (sym is) (empty, has)
]

-- ---- rings through which nothing has passed
pub none-received : (n : ℕ) (rx : List (InEnd Cell)) → length rx ≡ n →
    ((m : ℕ) (into : InEnd Cell) → slice_get rx m ≡ Some into → in_passed into ≡ []) →
    received rx ≡ replicate n []
none-received zero [] size fresh = refl
none-received zero (x ∷ rx) size fresh = absurd (omega (arith, size))
none-received (suc n) [] size fresh = absurd (omega (arith, size))
none-received (suc n) (x ∷ rx) size fresh =
    ap (λ (l : List Cell). l ∷ received rx) (fresh 0 x refl)
    ∙ ap (λ (l : List (List Cell)). [] ∷ l)
    (none-received n rx (omega (arith, size)) (λ m into there. fresh (suc m) into there))
