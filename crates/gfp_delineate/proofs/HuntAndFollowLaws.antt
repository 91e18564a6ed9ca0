-- The search for a header and the runs that follow it, with any readers of headers, and what both find of a segment.
use Rattle.std.proofs.Common.{◌≡◌, ℕ, zero, suc, ◌+◌, ◌-◌, ◌<◌, ◌≤◌, Bool, true, List, [], ◌∷◌, ◌++◌, length, drop}
use Rattle.std.proofs.Common.{Option, Some, None, refl, sym, ◌∙◌, ap, inl, inr, arith, length-append, length-drop}
use Rattle.std.proofs.Common.{zero-add, take_at, le-leb, false, not, take}
use Rattle.std.proofs.lemmas.Bool.{lt-leb, cases_lt}
use Rattle.law_model.specs.Common.{Confirmed, header_with, confirm_by, confirm_with, hunt_by, hunt_within, hunt_with}
use Rattle.law_model.specs.Common.{Followed, area_then, no_area, follow_by, follow_within, follow_with, Run}
use Rattle.law_model.specs.Common.{Delineated, no_run, run_then, delineate_by, delineate_within, delineate_with}
use Rattle.std.specs.Prelude.{IfSome}

-- ---- The laws of the search, with any reader of headers: what is found depends neither on the number of its first place
-- nor on how
-- many steps it may take.
-- a view of what is confirmed, but for its place
abbrev pub viewed : {X : Type 0} → (Bool → List ℕ → X) → Option Confirmed → Option X
viewed view None = None
viewed view (Some confirmed) = Some (view confirmed.refused confirmed.octets)

module _ (read : List ℕ → Option ℕ) where
  -- ---- the header in front of octets
  -- there is none in fewer than four octets
  pub no_header : (octets : List ℕ) → length octets < 4 → header_with read octets ≡ None
  unfolding header_with
  no_header octets short = rw (lt-leb 4 (length octets) short) refl

  -- four octets and more are read
  pub header-window : (window more : List ℕ) → length window ≡ 4 → header_with read (window ++ more) ≡ read window
  unfolding header_with
  header-window window more size =
      rw (le-leb 4 (length (window ++ more)) (omega (arith, length-append window more, size)))
      (ap read (take_at window more 4 size))

  -- a list that begins with a header has at least four
  pub header_long : (octets : List ℕ) (pli : ℕ) → header_with read octets ≡ Some pli → 4 ≤ length octets
  header_long octets pli found =
      elim (cases_lt (length octets) 4)
      [ inl short ↦ (let none = no_header octets short in absurd cc) | inr long ↦ long ]

  -- ---- two searches that find alike
  module _ (X : Type 0) (view : Bool → List ℕ → X) (Alike : Bool → Bool → Type 0) (both : Alike true true)
      (same : (r s : Bool) (octets : List ℕ) → Alike r s → view r octets ≡ view s octets) where
    -- in fewer octets
    abbrev Agree : ℕ → (Bool → ℕ → List ℕ → Option Confirmed) → (Bool → ℕ → List ℕ → Option Confirmed) → Type 0
    Agree n f g = (r s : Bool) (p q : ℕ) (more : List ℕ) → Alike r s → length more < n →
        viewed view (f r p more) ≡ viewed view (g s q more)

    confirm_by-alike : (header : Option ℕ) (n : ℕ) (r s : Bool) (p q : ℕ) (octets : List ℕ)
        (f g : Bool → ℕ → List ℕ → Option Confirmed) → Alike r s → 4 ≤ length octets → length octets ≤ n → Agree n f g →
        viewed view (confirm_by header r p octets f) ≡ viewed view (confirm_by header s q octets g)
    confirm_by-alike None n r s p q octets f g alike some within agree =
        agree true true (p + 1) (q + 1) (drop 1 octets) both (omega (arith, length-drop 1 octets, some, within))
    confirm_by-alike (Some pli) n r s p q octets f g alike some within agree = ap (λ x. Some x) (same r s octets alike)

    confirm-alike : (n : ℕ) (r s : Bool) (p q : ℕ) (octets : List ℕ) (f g : Bool → ℕ → List ℕ → Option Confirmed) →
        Alike r s → length octets ≤ n → Agree n f g →
        viewed view (confirm_with read r p octets f) ≡ viewed view (confirm_with read s q octets g)
    confirm-alike n r s p q octets f g alike within agree =
        elim (cases_lt (length octets) 4) [
          | inl short ↦ rw (lt-leb 4 (length octets) short) refl
          | inr some ↦ rw (le-leb 4 (length octets) some)
              (confirm_by-alike (header_with read octets) n r s p q octets f g alike some within agree)
        ]

    hunt_by-alike : (header : Option ℕ) (n : ℕ) (r s : Bool) (p q : ℕ) (octets : List ℕ)
        (f g : Bool → ℕ → List ℕ → Option Confirmed) → Alike r s → 0 < length octets → length octets ≤ n → Agree n f g →
        viewed view (hunt_by read header r p octets f) ≡ viewed view (hunt_by read header s q octets g)
    hunt_by-alike None n r s p q octets f g alike some within agree =
        agree r s (p + 1) (q + 1) (drop 1 octets) alike (omega (arith, length-drop 1 octets, some, within))
    hunt_by-alike (Some pli) n r s p q octets f g alike some within agree =
        confirm-alike n r s (p + (4 + pli)) (q + (4 + pli)) (drop (4 + pli) octets) f g alike
        (omega (arith, length-drop (4 + pli) octets, within)) agree

    hunt_within-nil : (k : ℕ) (r : Bool) (p : ℕ) → hunt_within read k r p [] ≡ None
    unfolding hunt_within
    hunt_within-nil zero r p = refl
    hunt_within-nil (suc k) r p = rw (no_header [] (omega arith)) (hunt_within-nil k r (p + 1))

    hunt_within-alike : (k m : ℕ) (r s : Bool) (p q : ℕ) (octets : List ℕ) → Alike r s → length octets ≤ k →
        length octets ≤ m → viewed view (hunt_within read k r p octets) ≡ viewed view (hunt_within read m s q octets)
    unfolding hunt_within
    hunt_within-alike k m r s p q [] alike enough also =
        ap (viewed view) (hunt_within-nil k r p ∙ sym (hunt_within-nil m s q))
    hunt_within-alike zero m r s p q (o ∷ octets) alike enough also = absurd (omega arith)
    hunt_within-alike (suc k) zero r s p q (o ∷ octets) alike enough also = absurd (omega arith)
    hunt_within-alike (suc k) (suc m) r s p q (o ∷ octets) alike enough also =
        hunt_by-alike (header_with read (o ∷ octets)) (suc (length octets)) r s p q (o ∷ octets) (hunt_within read k)
        (hunt_within read m) alike (omega arith) (omega arith)
        (λ r s p q more alike fewer. hunt_within-alike k m r s p q more alike (omega (arith, enough, fewer))
        (omega (arith, also, fewer)))

  -- ---- a search
  -- whether a header was refused before what is found, and the octets from there on
  abbrev pub search : Bool → List ℕ → Option (Bool × List ℕ)
  search refused octets = viewed (λ r octets. (r, octets)) (hunt_with read refused 0 octets)

  search-within : (k : ℕ) (refused : Bool) (p : ℕ) (octets : List ℕ) → length octets ≤ k →
      viewed (λ r octets. (r, octets)) (hunt_within read k refused p octets) ≡ search refused octets
  search-within k refused p octets enough =
      hunt_within-alike (Bool × List ℕ) (λ r octets. (r, octets)) (λ r s. r ≡ s) refl
      (λ r s octets alike. ap (λ r. (r, octets)) alike) k (length octets) refused refused p 0 octets refl enough
      (omega arith)

  -- the octets that are found don't depend on whether a header was refused before
  pub search_octets-same : (r s : Bool) (octets : List ℕ) →
      viewed (λ _ octets. octets) (hunt_with read r 0 octets) ≡ viewed (λ _ octets. octets) (hunt_with read s 0 octets)
  search_octets-same r s octets =
      hunt_within-alike (List ℕ) (λ _ octets. octets) (λ r s. Unit {0}) tt (λ r s octets alike. refl) (length octets)
      (length octets) r s 0 0 octets tt (omega arith) (omega arith)

  -- no header begins a list, and the search goes on
  pub search-on : (refused : Bool) (o : ℕ) (octets : List ℕ) → header_with read (o ∷ octets) ≡ None →
      search refused (o ∷ octets) ≡ search refused octets
  unfolding hunt_within
  search-on refused o octets none = rw none (search-within (length octets) refused 1 octets (omega arith))

  pub search-few : (refused : Bool) (octets : List ℕ) → length octets < 4 → search refused octets ≡ None
  unfolding hunt_within
  search-few refused [] few = refl
  search-few refused (o ∷ octets) few = search-on refused o octets (no_header (o ∷ octets) few)
      ∙ search-few refused octets (omega arith)

  -- a header begins a list
  search-header : (refused : Bool) (octets : List ℕ) (pli : ℕ) (result : Option (Bool × List ℕ)) →
      header_with read octets ≡ Some pli →
      ((k : ℕ) → length octets ≤ suc k →
      viewed (λ r octets. (r, octets))
      (confirm_with read refused (4 + pli) (drop (4 + pli) octets) (hunt_within read k)) ≡ result) →
      search refused octets ≡ result
  unfolding hunt_within
  search-header refused [] pli result found confirmed = let none = no_header [] (omega arith) in absurd (cc)
  search-header refused (o ∷ octets) pli result found confirmed =
      rw (found, zero-add) (confirmed (length octets) (omega arith))

  -- after its area there are not four octets
  pub search-short : (refused : Bool) (octets : List ℕ) (pli : ℕ) → header_with read octets ≡ Some pli →
      length octets < 8 + pli → search refused octets ≡ None
  search-short refused octets pli found short =
      search-header refused octets pli None found
      (λ k enough. let few : length (drop (4 + pli) octets) < 4 = omega (arith, length-drop (4 + pli) octets, short) in
      rw (lt-leb 4 (length (drop (4 + pli) octets)) few) refl)

  -- after its area there is no header
  pub search-refused : (refused : Bool) (octets : List ℕ) (pli : ℕ) → header_with read octets ≡ Some pli →
      8 + pli ≤ length octets → header_with read (drop (4 + pli) octets) ≡ None →
      search refused octets ≡ search true (drop 1 (drop (4 + pli) octets))
  search-refused refused octets pli found some none =
      let after : List ℕ = drop (4 + pli) octets in
      let size : length after ≡ length octets - (4 + pli) = length-drop (4 + pli) octets in
      search-header refused octets pli (search true (drop 1 after)) found
      (λ k enough.
      let four : 4 ≤ length after = omega arith in
      rw (le-leb 4 (length after) four, none)
      (search-within k true (4 + pli + 1) (drop 1 after) (omega (arith, length-drop 1 after))))

  -- after its area there is a header
  pub search-confirmed : (refused : Bool) (octets : List ℕ) (pli next : ℕ) → header_with read octets ≡ Some pli →
      header_with read (drop (4 + pli) octets) ≡ Some next →
      search refused octets ≡ Some (refused, drop (4 + pli) octets)
  search-confirmed refused octets pli next found also =
      let after : List ℕ = drop (4 + pli) octets in
      let four : 4 ≤ length after = header_long after next also in
      search-header refused octets pli (Some (refused, after)) found
      (λ k enough. rw (le-leb 4 (length after) four, also) refl)

-- ---- The laws of runs, with any readers of headers: what is found does not depend on how many steps it may take.
-- ---- a run
module _ (read : List ℕ → Option ℕ) where
  follow_by-same : (header : Option ℕ) (n : ℕ) (octets : List ℕ) (f g : List ℕ → Followed) → length octets ≤ n → 0 < n →
      ((more : List ℕ) → length more < n → f more ≡ g more) → follow_by header octets f ≡ follow_by header octets g
  follow_by-same None n octets f g within some same = refl
  follow_by-same (Some pli) n octets f g within some same =
      let fewer : length (drop (4 + pli) octets) < n = omega (arith, length-drop (4 + pli) octets, within, some) in
      rw (same (drop (4 + pli) octets) fewer) refl

  follow_within-same : (k m : ℕ) (octets : List ℕ) → length octets < k → length octets < m →
      follow_within read k octets ≡ follow_within read m octets
  unfolding follow_within
  follow_within-same zero m octets enough also = absurd (omega arith)
  follow_within-same (suc k) zero octets enough also = absurd (omega arith)
  follow_within-same (suc k) (suc m) [] enough also = rw (no_header read [] (omega arith)) refl
  follow_within-same (suc k) (suc m) (o ∷ octets) enough also =
      follow_by-same (header_with read (o ∷ octets)) (suc (length octets)) (o ∷ octets) (follow_within read k)
      (follow_within read m) (omega arith) (omega arith)
      (λ more fewer. follow_within-same k m more (omega (arith, enough, fewer)) (omega (arith, also, fewer)))

  -- a run from a header on
  follow-open : (octets : List ℕ) →
      follow_with read octets ≡ follow_by (header_with read octets) octets (follow_with read)
  unfolding follow_within
  follow-open [] = rw (no_header read [] (omega arith)) refl
  follow-open (o ∷ octets) =
      follow_by-same (header_with read (o ∷ octets)) (suc (length octets)) (o ∷ octets)
      (follow_within read (suc (length octets))) (follow_with read) (omega arith) (omega arith)
      (λ more fewer. follow_within-same (suc (length octets)) (suc (length more)) more fewer (omega arith))

  -- it is open while its next header is not whole
  pub follow-few : (octets : List ℕ) → length octets < 4 → follow_with read octets ≡ no_area None
  follow-few octets few = follow-open octets ∙ rw (no_header read octets few, lt-leb 4 (length octets) few) refl

  -- it ends where four octets are no header
  pub follow-lost : (octets : List ℕ) → header_with read octets ≡ None → 4 ≤ length octets →
      follow_with read octets ≡ no_area (Some (drop 1 octets))
  follow-lost octets none long = follow-open octets ∙ rw (none, le-leb 4 (length octets) long) refl

  -- it is open while the octets are fewer than a header says
  pub follow-part : (octets : List ℕ) (pli : ℕ) → header_with read octets ≡ Some pli → length octets < 4 + pli →
      follow_with read octets ≡ no_area None
  follow-part octets pli found short = follow-open octets ∙ rw (found, lt-leb (4 + pli) (length octets) short) refl

  -- a whole area is one of its areas
  pub follow-whole : (octets : List ℕ) (pli : ℕ) → header_with read octets ≡ Some pli → 4 + pli ≤ length octets →
      follow_with read octets ≡ area_then (take pli (drop 4 octets)) (follow_with read (drop (4 + pli) octets))
  follow-whole octets pli found long = follow-open octets ∙ rw (found, le-leb (4 + pli) (length octets) long) refl

  -- ---- what comes after a run is shorter
  abbrev pub Shorter : ℕ → Option (List ℕ) → Type 0
  Shorter n octets = IfSome octets (λ octets. length octets < n)

  Shorter-weaker : (n m : ℕ) (octets : Option (List ℕ)) → n ≤ m → Shorter n octets → Shorter m octets
  Shorter-weaker n m None le shorter = shorter
  Shorter-weaker n m (Some octets) le shorter = omega (arith, le, shorter)

  follow_by-shorter : (header : Option ℕ) (octets : List ℕ) (f : List ℕ → Followed) →
      ((more : List ℕ) → Shorter (length more) (f more).after) →
      Shorter (length octets) (follow_by header octets f).after
  follow_by-shorter None octets f shorter = elim (cases_lt (length octets) 4) [
    | inl few ↦ rw (lt-leb 4 (length octets) few) tt
    | inr long ↦ rw (le-leb 4 (length octets) long) (omega (arith, length-drop 1 octets))
  ]
  follow_by-shorter (Some pli) octets f shorter = elim (cases_lt (length octets) (4 + pli)) [
    | inl few ↦ rw (lt-leb (4 + pli) (length octets) few) tt
    | inr long ↦ rw (le-leb (4 + pli) (length octets) long)
        (Shorter-weaker (length (drop (4 + pli) octets)) (length octets) (f (drop (4 + pli) octets)).after
        (omega (arith, length-drop (4 + pli) octets)) (shorter (drop (4 + pli) octets)))
  ]

  follow_within-shorter : (k : ℕ) (octets : List ℕ) → Shorter (length octets) (follow_within read k octets).after
  unfolding follow_within
  follow_within-shorter zero octets = tt
  follow_within-shorter (suc k) octets =
      follow_by-shorter (header_with read octets) octets (follow_within read k) (follow_within-shorter k)

  -- ---- what a search finds is no longer
  abbrev NoLonger : ℕ → Option Confirmed → Type 0
  NoLonger n found = IfSome found (λ confirmed. length confirmed.octets ≤ n)

  NoLonger-weaker : (n m : ℕ) (found : Option Confirmed) → n ≤ m → NoLonger n found → NoLonger m found
  NoLonger-weaker n m None le shorter = shorter
  NoLonger-weaker n m (Some confirmed) le shorter = omega (arith, le, shorter)

  confirm_by-shorter : (header : Option ℕ) (r : Bool) (p : ℕ) (octets : List ℕ)
      (f : Bool → ℕ → List ℕ → Option Confirmed) →
      ((r : Bool) (p : ℕ) (more : List ℕ) → NoLonger (length more) (f r p more)) →
      NoLonger (length octets) (confirm_by header r p octets f)
  confirm_by-shorter None r p octets f shorter =
      NoLonger-weaker (length (drop 1 octets)) (length octets) (f true (p + 1) (drop 1 octets))
      (omega (arith, length-drop 1 octets)) (shorter true (p + 1) (drop 1 octets))
  confirm_by-shorter (Some pli) r p octets f shorter = let same : length octets ≤ length octets = omega arith in same

  confirm-shorter : (r : Bool) (p : ℕ) (octets : List ℕ) (f : Bool → ℕ → List ℕ → Option Confirmed) →
      ((r : Bool) (p : ℕ) (more : List ℕ) → NoLonger (length more) (f r p more)) →
      NoLonger (length octets) (confirm_with read r p octets f)
  confirm-shorter r p octets f shorter = elim (cases_lt (length octets) 4) [
    | inl few ↦ rw (lt-leb 4 (length octets) few) tt
    | inr long ↦ rw (le-leb 4 (length octets) long) (confirm_by-shorter (header_with read octets) r p octets f shorter)
  ]

  hunt_by-shorter : (header : Option ℕ) (r : Bool) (p : ℕ) (octets : List ℕ) (f : Bool → ℕ → List ℕ → Option Confirmed)
      → ((r : Bool) (p : ℕ) (more : List ℕ) → NoLonger (length more) (f r p more)) →
      NoLonger (length octets) (hunt_by read header r p octets f)
  hunt_by-shorter None r p octets f shorter =
      NoLonger-weaker (length (drop 1 octets)) (length octets) (f r (p + 1) (drop 1 octets))
      (omega (arith, length-drop 1 octets)) (shorter r (p + 1) (drop 1 octets))
  hunt_by-shorter (Some pli) r p octets f shorter =
      let after : List ℕ = drop (4 + pli) octets in
      NoLonger-weaker (length after) (length octets) (confirm_with read r (p + (4 + pli)) after f)
      (omega (arith, length-drop (4 + pli) octets)) (confirm-shorter r (p + (4 + pli)) after f shorter)

  hunt_within-shorter : (k : ℕ) (r : Bool) (p : ℕ) (octets : List ℕ) →
      NoLonger (length octets) (hunt_within read k r p octets)
  unfolding hunt_within
  hunt_within-shorter zero r p octets = tt
  hunt_within-shorter (suc k) r p octets =
      hunt_by-shorter (header_with read octets) r p octets (hunt_within read k) (hunt_within-shorter k)

-- ---- a segment
module _ (seek follow : List ℕ → Option ℕ) where
  -- what is found from the place on that a search found
  abbrev pub delineate_from : Option (Bool × List ℕ) → Delineated
  delineate_from None = no_run
  delineate_from (Some found) =
      run_then (record { settled = not found.0; areas = (follow_with follow found.1).areas })
      (follow_with follow found.1).after (delineate_with seek follow false)

  abbrev Same : ℕ → (List ℕ → Delineated) → (List ℕ → Delineated) → Type 0
  Same n f g = (more : List ℕ) → length more < n → f more ≡ g more

  run_then-same : (run : Run) (after : Option (List ℕ)) (n : ℕ) (f g : List ℕ → Delineated) → Shorter follow n after →
      Same n f g → run_then run after f ≡ run_then run after g
  run_then-same run None n f g shorter same = refl
  run_then-same run (Some octets) n f g shorter same = rw (same octets shorter) refl

  delineate_by-same : (found : Option Confirmed) (n : ℕ) (f g : List ℕ → Delineated) → NoLonger seek n found →
      Same n f g → delineate_by (follow_with follow) found f ≡ delineate_by (follow_with follow) found g
  delineate_by-same None n f g shorter same = refl
  delineate_by-same (Some found) n f g shorter same =
      run_then-same (record { settled = not found.refused; areas = (follow_with follow found.octets).areas })
      (follow_with follow found.octets).after n f g
      (Shorter-weaker follow (length found.octets) n (follow_with follow found.octets).after shorter
      (follow_within-shorter follow (suc (length found.octets)) found.octets)) same

  delineate_within-same : (k m : ℕ) (refused : Bool) (octets : List ℕ) → length octets < k → length octets < m →
      delineate_within seek follow k refused octets ≡ delineate_within seek follow m refused octets
  unfolding delineate_within
  delineate_within-same zero m refused octets enough also = absurd (omega arith)
  delineate_within-same (suc k) zero refused octets enough also = absurd (omega arith)
  delineate_within-same (suc k) (suc m) refused octets enough also =
      delineate_by-same (hunt_with seek refused 0 octets) (length octets) (delineate_within seek follow k true)
      (delineate_within seek follow m true)
      (hunt_within-shorter seek (length octets) refused 0 octets)
      (λ more fewer. delineate_within-same k m true more (omega (arith, enough, fewer)) (omega (arith, also, fewer)))

  delineate_by-viewed : (found : Option Confirmed) →
      delineate_by (follow_with follow) found (delineate_with seek follow false) ≡ delineate_from
      (viewed (λ r octets. (r, octets)) found)
  delineate_by-viewed None = refl
  delineate_by-viewed (Some found) = refl

  -- what is found of a segment begins with what a search finds
  pub delineate-open : (first : Bool) (octets : List ℕ) →
      delineate_with seek follow first octets ≡ delineate_from (search seek (not first) octets)
  unfolding delineate_within
  delineate-open first octets =
      delineate_by-same (hunt_with seek (not first) 0 octets) (length octets)
      (delineate_within seek follow (length octets) true) (delineate_with seek follow false)
      (hunt_within-shorter seek (length octets) (not first) 0 octets)
      (λ more fewer. delineate_within-same (length octets) (suc (length more)) true more fewer (omega arith))
      ∙ delineate_by-viewed (hunt_with seek (not first) 0 octets)

  -- ---- the state SYNC is that of the octets alone
  abbrev sync_from : Option (List ℕ) → Bool
  sync_from None = false
  sync_from (Some octets) = (run_then (record { settled = true; areas = [] }) (follow_with follow octets).after
      (delineate_with seek follow false)).sync

  sync-run_then : (run other : Run) (after : Option (List ℕ)) (search_on : List ℕ → Delineated) →
      (run_then run after search_on).sync ≡ (run_then other after search_on).sync
  sync-run_then run other None search_on = refl
  sync-run_then run other (Some octets) search_on = refl

  sync-viewed : (found : Option Confirmed) →
      (delineate_from (viewed (λ r octets. (r, octets)) found)).sync ≡ sync_from (viewed (λ _ octets. octets) found)
  sync-viewed None = refl
  sync-viewed (Some found) =
      sync-run_then (record { settled = not found.refused; areas = (follow_with follow found.octets).areas })
      (record { settled = true; areas = [] }) (follow_with follow found.octets).after
      (delineate_with seek follow false)

  sync-open : (first : Bool) (octets : List ℕ) →
      (delineate_with seek follow first octets).sync ≡ sync_from
      (viewed (λ _ octets. octets) (hunt_with seek (not first) 0 octets))
  sync-open first octets = ap (λ found. found.sync) (delineate-open first octets)
      ∙ sync-viewed (hunt_with seek (not first) 0 octets)

  -- whether the segment is the first or a later one
  pub sync-same : (first other : Bool) (octets : List ℕ) →
      (delineate_with seek follow first octets).sync ≡ (delineate_with seek follow other octets).sync
  sync-same first other octets = sync-open first octets
      ∙ ap sync_from (search_octets-same seek (not first) (not other) octets) ∙ sym (sync-open other octets)
