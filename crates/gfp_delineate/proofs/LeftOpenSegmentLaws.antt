-- The search or the run that the octets of a segment leave open, and what becomes of it with more octets.
use Rattle.std.proofs.Common.{◌≡◌, ℕ, ◌+◌, ◌<◌, ◌≤◌, Bool, true, false, not, List, [], ◌∷◌, ◌++◌, length, take, drop}
use Rattle.std.proofs.Common.{Option, Some, None, refl, sym, ◌∙◌, ap, ap₂, arith, append_assoc, length-append}
use Rattle.std.proofs.lemmas.List.{take_at, drop_at, append-nil, drop-append-le}
use Rattle.law_model.proofs.ListLaws.{not-not}
use Rattle.law_model.specs.Common.{header_with, Followed, area_then, no_area, follow_with, Run, Delineated, run_then}
use Rattle.law_model.specs.Common.{runs_then, delineate_with}
use Rattle.gfp_delineate.specs.LeftOpen.{LeftOpen, searching, running, found_with, Leaves}
use Rattle.gfp_delineate.proofs.HuntAndFollowLaws.{header-window, search, search-on, search-few, search-short}
use Rattle.gfp_delineate.proofs.HuntAndFollowLaws.{search-refused, search-confirmed, follow-few, follow-lost}
use Rattle.gfp_delineate.proofs.HuntAndFollowLaws.{follow-part, follow-whole, delineate_from, delineate-open}
use Rattle.gfp_delineate.proofs.HuntAndFollowLaws.{sync-same}

-- What becomes of what is open with more octets, with any readers of headers.
-- ---- what is found after runs
runs_then-twice : (runs more : List Run) (found : Delineated) →
    runs_then runs (runs_then more found) ≡ runs_then (runs ++ more) found
runs_then-twice runs more found =
    ap (λ all. record { runs = all; sync = found.sync }) (sym (append_assoc runs more found.runs))

module _ (seek follow : List ℕ → Option ℕ) where
  -- ---- one search
  -- what is open becomes something else without a further octet, and these runs end
  pub record Becomes (old : LeftOpen) (ended : List Run) (new : LeftOpen) : Type 0 where
    pub same : (more : List ℕ) → found_with seek follow old more ≡ runs_then ended (found_with seek follow new more)

  -- a search in octets finds what a later search finds
  becomes-search : (settled other : Bool) (last next : List ℕ) →
      ((more : List ℕ) → search seek (not settled) (last ++ more) ≡ search seek (not other) (next ++ more)) →
      Becomes (searching settled last) [] (searching other next)
  becomes-search settled other last next alike = record {
    same = λ more. delineate-open seek follow settled (last ++ more) ∙ ap (delineate_from seek follow) (alike more)
        ∙ sym (delineate-open seek follow other (next ++ more));
  }

  -- a search in octets finds a run
  becomes-run : (settled : Bool) (last next : List ℕ) →
      ((more : List ℕ) → search seek (not settled) (last ++ more) ≡ Some (not settled, next ++ more)) →
      Becomes (searching settled last) [] (running settled [] next)
  becomes-run settled last next found = record {
    same = λ more. delineate-open seek follow settled (last ++ more) ∙ ap (delineate_from seek follow) (found more)
        ∙ ap (λ b. run_then (record { settled = b; areas = (follow_with follow (next ++ more)).areas })
        (follow_with follow (next ++ more)).after (delineate_with seek follow false)) (not-not settled);
  }

  -- four octets are no header
  pub Becomes-on : (settled : Bool) (window : List ℕ) → length window ≡ 4 → seek window ≡ None →
      Becomes (searching settled window) [] (searching settled (drop 1 window))
  Becomes-on settled [] four none = absurd (omega arith)
  Becomes-on settled (o ∷ window) four none =
      becomes-search settled settled (o ∷ window) window
      (λ more. search-on seek (not settled) o (window ++ more) (header-window seek (o ∷ window) more four ∙ none))

  -- after a header and its area
  module _ (header gone window : List ℕ) (size : length header ≡ 4) where
    after_area : (more : List ℕ) → drop (4 + length gone) ((header ++ (gone ++ window)) ++ more) ≡ window ++ more
    after_area more =
        let all : length (header ++ gone) ≡ 4 + length gone = omega (arith, length-append header gone, size) in
        ap (drop (4 + length gone)) (ap (λ l. l ++ more) (sym (append_assoc header gone window))
        ∙ append_assoc (header ++ gone) window more)
        ∙ drop_at (header ++ gone) (window ++ more) (4 + length gone) all

    in_front : (more : List ℕ) → header_with seek ((header ++ (gone ++ window)) ++ more) ≡ seek header
    in_front more = ap (header_with seek) (append_assoc header (gone ++ window) more)
        ∙ header-window seek header ((gone ++ window) ++ more) size

    -- where four octets after it are no header, the search goes on
    pub Becomes-refused : (settled : Bool) → seek header ≡ Some (length gone) → length window ≡ 4 → seek window ≡ None →
        Becomes (searching settled (header ++ (gone ++ window))) [] (searching false (drop 1 window))
    Becomes-refused settled found four none =
        becomes-search settled false (header ++ (gone ++ window)) (drop 1 window)
        (λ more.
        let octets : List ℕ = (header ++ (gone ++ window)) ++ more in
        let long : 8 + length gone ≤ length octets =
        omega (
          arith,
          length-append (header ++ (gone ++ window)) more,
          length-append header (gone ++ window),
          length-append gone window,
          size,
          four,
        ) in
        let within : 1 ≤ length window = omega (arith, four) in
        search-refused seek (not settled) octets (length gone) (in_front more ∙ found) long
        (ap (header_with seek) (after_area more) ∙ header-window seek window more four ∙ none)
        ∙ ap (λ l. search seek true (drop 1 l)) (after_area more)
        ∙ ap (search seek true) (drop-append-le 1 window more within))

    -- where they are one, a run begins there
    pub Becomes-confirmed : (settled : Bool) (pli : ℕ) → seek header ≡ Some (length gone) → length window ≡ 4 →
        seek window ≡ Some pli →
        Becomes (searching settled (header ++ (gone ++ window))) [] (running settled [] window)
    Becomes-confirmed settled pli found four also =
        becomes-run settled (header ++ (gone ++ window)) window
        (λ more.
        search-confirmed seek (not settled) ((header ++ (gone ++ window)) ++ more) (length gone) pli
        (in_front more ∙ found)
        (ap (header_with seek) (after_area more) ∙ header-window seek window more four ∙ also)
        ∙ ap (λ l. Some (not settled, l)) (after_area more))

  -- ---- one run
  -- what is found of a run by what is found from its last octets on
  abbrev run_by : Bool → List (List ℕ) → Followed → Delineated
  run_by settled before found = run_then (record { settled = settled; areas = before ++ found.areas }) found.after
      (delineate_with seek follow false)

  -- four octets that are no header end a run
  pub Becomes-lost : (settled : Bool) (before : List (List ℕ)) (window : List ℕ) → length window ≡ 4 →
      follow window ≡ None →
      Becomes (running settled before window) (record { settled = settled; areas = before } ∷ [])
      (searching false (drop 1 window))
  Becomes-lost settled before window four none = record {
    same = λ more.
        let within : 1 ≤ length window = omega (arith, four) in
        ap (run_by settled before)
        (follow-lost follow (window ++ more) (header-window follow window more four ∙ none)
        (omega (arith, length-append window more, four))
        ∙ ap (λ l. no_area (Some l)) (drop-append-le 1 window more within))
        ∙ ap (λ all. runs_then (record { settled = settled; areas = all } ∷ [])
        (delineate_with seek follow false (drop 1 window ++ more))) (append-nil before);
  }

  -- a whole area is one more of the run
  pub Becomes-area : (settled : Bool) (before : List (List ℕ)) (header area : List ℕ) → length header ≡ 4 →
      follow header ≡ Some (length area) →
      Becomes (running settled before (header ++ area)) [] (running settled (before ++ area ∷ []) [])
  Becomes-area settled before header area size found = record {
    same = λ more.
        let octets : List ℕ = (header ++ area) ++ more in
        let long : 4 + length area ≤ length octets =
        omega (arith, length-append (header ++ area) more, length-append header area, size) in
        let front : header_with follow octets ≡ follow header = ap (header_with follow) (append_assoc header area more)
        ∙ header-window follow header (area ++ more) size in
        let all : length (header ++ area) ≡ 4 + length area = omega (arith, length-append header area, size) in
        let whole : follow_with follow octets ≡ area_then area (follow_with follow more) =
        follow-whole follow octets (length area) (front ∙ found) long
        ∙ ap₂ (λ one rest. area_then one (follow_with follow rest))
        (ap (take (length area)) (ap (drop 4) (append_assoc header area more) ∙ drop_at header (area ++ more) 4 size)
        ∙ take_at area more (length area) refl)
        (drop_at (header ++ area) more (4 + length area) all) in
        ap (run_by settled before) whole
        ∙ ap (λ areas. run_then (record { settled = settled; areas = areas }) (follow_with follow more).after
        (delineate_with seek follow false))
        (sym (append_assoc before (area ∷ []) (follow_with follow more).areas));
  }

  -- ---- what is open where no more octets come
  pub record Rests (standing : LeftOpen) (open_runs : List Run) (sync : Bool) : Type 0 where
    pub now : found_with seek follow standing [] ≡ record { runs = open_runs; sync = sync }

  rests-search : (settled : Bool) (last : List ℕ) → search seek (not settled) last ≡ None →
      Rests (searching settled last) [] false
  rests-search settled last none = record {
    now = ap (delineate_with seek follow settled) (append-nil last) ∙ delineate-open seek follow settled last
        ∙ ap (delineate_from seek follow) none;
  }

  -- fewer than four octets to be searched
  pub Rests-few : (settled : Bool) (last : List ℕ) → length last < 4 → Rests (searching settled last) [] false
  Rests-few settled last few = rests-search settled last (search-few seek (not settled) last few)

  -- a header after whose area no four octets follow
  pub Rests-unconfirmed : (settled : Bool) (header last : List ℕ) (pli : ℕ) → length header ≡ 4 →
      seek header ≡ Some pli → length last < 4 + pli → Rests (searching settled (header ++ last)) [] false
  Rests-unconfirmed settled header last pli size found short =
      rests-search settled (header ++ last)
      (search-short seek (not settled) (header ++ last) pli (header-window seek header last size ∙ found)
      (omega (arith, length-append header last, size, short)))

  rests-run : (settled : Bool) (before : List (List ℕ)) (last : List ℕ) → follow_with follow last ≡ no_area None →
      Rests (running settled before last) (record { settled = settled; areas = before } ∷ []) true
  rests-run settled before last none = record {
    now = ap (run_by settled before) (ap (follow_with follow) (append-nil last) ∙ none)
        ∙ ap (λ all. record { runs = record { settled = settled; areas = all } ∷ []; sync = true }) (append-nil before);
  }

  -- a run of whose next header a part has come
  pub Rests-header : (settled : Bool) (before : List (List ℕ)) (last : List ℕ) → length last < 4 →
      Rests (running settled before last) (record { settled = settled; areas = before } ∷ []) true
  Rests-header settled before last few = rests-run settled before last (follow-few follow last few)

  -- a run of which a header and part of its area have come
  pub Rests-area : (settled : Bool) (before : List (List ℕ)) (header come : List ℕ) (pli : ℕ) → length header ≡ 4 →
      follow header ≡ Some pli → length come < pli →
      Rests (running settled before (header ++ come)) (record { settled = settled; areas = before } ∷ []) true
  Rests-area settled before header come pli size found short =
      rests-run settled before (header ++ come)
      (follow-part follow (header ++ come) pli (header-window follow header come size ∙ found)
      (omega (arith, length-append header come, size, short)))

  -- ---- more octets
  -- what is open with more octets after the last ones
  abbrev pub longer : LeftOpen → List ℕ → LeftOpen
  longer (searching settled last) octets = searching settled (last ++ octets)
  longer (running settled before last) octets = running settled before (last ++ octets)

  found-longer : (standing : LeftOpen) (octets more : List ℕ) →
      found_with seek follow standing (octets ++ more) ≡ found_with seek follow (longer standing octets) more
  found-longer (searching settled last) octets more =
      ap (delineate_with seek follow settled) (sym (append_assoc last octets more))
  found-longer (running settled before last) octets more =
      ap (λ octets. run_by settled before (follow_with follow octets)) (sym (append_assoc last octets more))

  pub Leaves-longer : (first : Bool) (octets : List ℕ) (ended : List Run) (standing : LeftOpen) (more : List ℕ) →
      Leaves seek follow first octets ended standing →
      Leaves seek follow first (octets ++ more) ended (longer standing more)
  Leaves-longer first octets ended standing more leaves = record {
    finds = λ further. ap (delineate_with seek follow first) (append_assoc octets more further)
        ∙ leaves.finds (more ++ further) ∙ ap (runs_then ended) (found-longer standing more further);
  }

  pub Leaves-becomes : (first : Bool) (octets : List ℕ) (ended more : List Run) (old new : LeftOpen) →
      Leaves seek follow first octets ended old → Becomes old more new →
      Leaves seek follow first octets (ended ++ more) new
  Leaves-becomes first octets ended more old new leaves becomes = record {
    finds = λ further. leaves.finds further ∙ ap (runs_then ended) (becomes.same further)
        ∙ runs_then-twice ended more (found_with seek follow new further);
  }

  -- the same where no run ends
  pub Leaves-goes_on : (first : Bool) (octets : List ℕ) (ended : List Run) (old new : LeftOpen) →
      Leaves seek follow first octets ended old → Becomes old [] new → Leaves seek follow first octets ended new
  Leaves-goes_on first octets ended old new leaves becomes = record {
    finds = λ further. leaves.finds further ∙ ap (runs_then ended) (becomes.same further);
  }

  -- nothing has come
  pub Leaves-none : (first : Bool) → Leaves seek follow first [] [] (searching first [])
  Leaves-none first = record { finds = λ more. refl }

  -- ---- the octets that have come
  module _ (first : Bool) (octets : List ℕ) (ended : List Run) (standing : LeftOpen) (open_runs : List Run)
      (sync : Bool) (leaves : Leaves seek follow first octets ended standing)
      (rests : Rests standing open_runs sync) where
    delineate-Leaves : delineate_with seek follow first octets ≡ record { runs = ended ++ open_runs; sync = sync }
    delineate-Leaves = ap (delineate_with seek follow first) (sym (append-nil octets)) ∙ leaves.finds []
        ∙ ap (runs_then ended) rests.now

    pub runs-Leaves : (delineate_with seek follow first octets).runs ≡ ended ++ open_runs
    runs-Leaves = ap (λ found. found.runs) delineate-Leaves

    -- the state, be it the first segment or another
    pub sync-Leaves : (other : Bool) → (delineate_with seek follow other octets).sync ≡ sync
    sync-Leaves other = sync-same seek follow other first octets ∙ ap (λ found. found.sync) delineate-Leaves
