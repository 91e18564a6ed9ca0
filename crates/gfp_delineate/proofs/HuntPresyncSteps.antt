-- What more octets do in HUNT or in PRESYNC, where no run begins.
use Rattle.std.proofs.Common.{◌≡◌, ℕ, ◌+◌, ◌-◌, ◌<◌, ◌≤◌, Bool, List, [], ◌∷◌, ◌++◌, length, drop, Some, None, sym}
use Rattle.std.proofs.Common.{◌∙◌, refl, ap, subst, arith, append_assoc, length-append, length-drop, append-nil}
use Rattle.law_model.specs.Common.{head, Run}
use Rattle.gfp_delineate.specs.declared.hunt_presync_sync.Phase.{Phase}
use Rattle.gfp_delineate.specs.declared.hunt_presync_sync.Phase.TheVariants.{Hunt, PresyncArea, PresyncHeader}
use Rattle.gfp_delineate.specs.LeftOpen.{searching, Leaves}
use Rattle.gfp_delineate.specs.ReceivedAreas.{ends, reader, Progress, Searches, Headed, IsIn, InHunt, InPresyncArea}
use Rattle.gfp_delineate.specs.ReceivedAreas.{InPresyncHeader}
use Rattle.gfp_delineate.proofs.LeftOpenSegmentLaws.{Becomes-on, Leaves-longer, Leaves-goes_on}
use Rattle.gfp_delineate.proofs.ReceiverProgressLaws.{ends_of, ends-hunt, ends-presync, nothing, length-shifted}
use Rattle.gfp_delineate.proofs.ReceiverProgressLaws.{window-more, window-whole, window-none, Takes, Taken, Takes-in}

-- More octets in HUNT or in PRESYNC, where no run begins.
-- in another phase, and with one more octet in the window
abbrev pub in_phase : Progress → Phase → Progress
in_phase old phase = record old { phase = phase }

abbrev pub shifted : Progress → ℕ → Phase → Progress
shifted old octet phase = record old { phase = phase; window = drop 1 old.window ++ octet ∷ [] }

-- a search with more octets, with another phase and window
searches-more : (old : Progress) (first : Bool) (octets : List ℕ) (ended : List Run) (settled : Bool)
    (last next more : List ℕ) (phase : Phase) (window : List ℕ) →
    Searches old first octets ended settled last → length window ≡ 4 → last ++ more ≡ next →
    Searches (record old { phase = phase; window = window }) first (octets ++ more) ended settled next
searches-more old first octets ended settled last next more phase window is four same = record {
  leaves = subst (λ last. Leaves head (reader old.corrects) first (octets ++ more) ended (searching settled last)) same
      (Leaves-longer head (reader old.corrects) first octets ended (searching settled last) more is.leaves);
  given = is.given;
  window = four;
}

-- ---- the phases that are reached
module _ (base : Progress) (longest : ℕ) (first : Bool) (octets more : List ℕ) (limit : base.longest ≡ longest)
    (ended : List Run) (settled : Bool) (was : ends longest base.corrects first octets ≡ ends_of longest ended) where
  -- no area has ended
  reached : (phase : Phase) → IsIn phase (in_phase base phase) first (octets ++ more) →
      ends longest base.corrects first (octets ++ more) ≡ ends_of longest ended →
      Taken (in_phase base phase) longest base.corrects first octets more []
  reached phase is now = record {
    stands = record { limit = limit; setting = refl; phase = is };
    outcome = nothing longest base.corrects first octets more (ends_of longest ended) was now;
  }

  pub to-hunt : (have : ℕ) → have < 4 →
      Searches (in_phase base (Hunt have)) first (octets ++ more) ended settled (drop (4 - have) base.window) →
      Taken (in_phase base (Hunt have)) longest base.corrects first octets more []
  to-hunt have part is =
      reached (Hunt have) (record { ended = ended; settled = settled; part = part; search = is })
      (ends-hunt (in_phase base (Hunt have)) longest first (octets ++ more) ended settled have part is)

  to-presync-area : (header come : List ℕ) (left : ℕ) → Headed head header come left → 0 < left →
      Searches (in_phase base (PresyncArea left)) first (octets ++ more) ended settled (header ++ come) →
      Taken (in_phase base (PresyncArea left)) longest base.corrects first octets more []
  to-presync-area header come left headed part is =
      reached (PresyncArea left) (record {
        ended = ended;
        settled = settled;
        header = header;
        come = come;
        headed = headed;
        part = part;
        search = is;
      })
      (ends-presync (in_phase base (PresyncArea left)) longest first (octets ++ more) ended settled header come
      (length come + left) headed.size headed.found (omega arith) is)

  to-presync-header : (header come : List ℕ) (have : ℕ) → Headed head header come 0 → have < 4 →
      Searches (in_phase base (PresyncHeader have)) first (octets ++ more) ended settled
      (header ++ (come ++ drop (4 - have) base.window)) →
      Taken (in_phase base (PresyncHeader have)) longest base.corrects first octets more []
  to-presync-header header come have headed part is =
      reached (PresyncHeader have) (record {
        ended = ended;
        settled = settled;
        header = header;
        come = come;
        headed = headed;
        part = part;
        search = is;
      }) (ends-presync _ longest first _ _ _ header (come ++ drop (4 - have) base.window) (length come + 0)
      headed.size headed.found (omega (
        arith,
        length-append come (drop (4 - have) base.window),
        length-drop
            (4 - have) base.window,
        is.window,
      )) is)

-- ---- the steps
module _ (old : Progress) (longest : ℕ) (first : Bool) (octets : List ℕ) (limit : old.longest ≡ longest) where
  -- HUNT: an octet before the fourth
  hunt-part : (octet have : ℕ) → have < 3 → InHunt have old first octets →
      Taken (shifted old octet (Hunt (have + 1))) longest old.corrects first octets (octet ∷ []) []
  hunt-part octet have more is =
      let new : Progress = shifted old octet (Hunt (have + 1)) in
      to-hunt new _ first octets (octet ∷ []) limit _ _ (ends-hunt old longest _ _ _ _ have is.part is.search)
      (have + 1) (omega arith) (searches-more old first octets is.ended is.settled _ _ (octet ∷ [])
      (Hunt (have + 1)) new.window is.search (length-shifted old.window is.search.window octet)
      (window-more old.window is.search.window have octet is.part))

  -- the fourth
  module _ (octet have : ℕ) (whole : have ≡ 3) (is : InHunt have old first octets) where
    hunt_was : ends longest old.corrects first octets ≡ ends_of longest is.ended
    hunt_was = ends-hunt old longest first octets is.ended is.settled have is.part is.search

    hunt_four : length (drop 1 old.window ++ octet ∷ []) ≡ 4
    hunt_four = length-shifted old.window is.search.window octet

    hunt_window : drop (4 - have) old.window ++ octet ∷ [] ≡ drop 1 old.window ++ octet ∷ []
    hunt_window = window-whole old.window is.search.window have octet whole

    -- no header stands here
    hunt-none : head (drop 1 old.window ++ octet ∷ []) ≡ None →
        Taken (shifted old octet (Hunt 3)) longest old.corrects first octets (octet ∷ []) []
    hunt-none none =
        let new : Progress = shifted old octet (Hunt 3) in
        let all : Searches new first (octets ++ octet ∷ []) is.ended is.settled new.window =
        searches-more old first _ _ _ _ _ (octet ∷ []) (Hunt 3) new.window is.search hunt_four hunt_window in
        to-hunt new _ first octets (octet ∷ []) limit is.ended is.settled hunt_was 3 (omega arith) (record {
          leaves = Leaves-goes_on head (reader old.corrects) first (octets ++ octet ∷ []) is.ended _ _
              all.leaves (Becomes-on head (reader old.corrects) is.settled new.window hunt_four none);
          given = all.given;
          window = hunt_four;
        })

    -- the header of an idle
    hunt-idle : head (drop 1 old.window ++ octet ∷ []) ≡ Some 0 →
        Taken (shifted old octet (PresyncHeader 0)) longest old.corrects first octets (octet ∷ []) []
    hunt-idle found =
        let window : List ℕ = drop 1 old.window ++ octet ∷ [] in
        let none : window ≡ window ++ ([] ++ drop (4 - 0) window) = sym (append-nil window)
        ∙ ap (λ l. window ++ l) (sym (window-none window hunt_four)) in
        to-presync-header (shifted old octet (PresyncHeader 0)) longest first octets (octet ∷ []) limit
        is.ended is.settled hunt_was window [] 0 (record { size = hunt_four; found = found }) (omega arith)
        (searches-more old first octets is.ended is.settled (drop (4 - have) old.window) _ (octet ∷ [])
        (PresyncHeader 0) window is.search hunt_four (hunt_window ∙ none))

    -- the header of a client frame
    hunt-client : (pli : ℕ) → 0 < pli → head (drop 1 old.window ++ octet ∷ []) ≡ Some pli →
        Taken (shifted old octet (PresyncArea pli)) longest old.corrects first octets (octet ∷ []) []
    hunt-client pli some found =
        let window : List ℕ = drop 1 old.window ++ octet ∷ [] in
        to-presync-area (shifted old octet (PresyncArea pli)) longest first octets
        (octet ∷ []) limit is.ended is.settled hunt_was window [] pli
        (record { size = hunt_four; found = found ∙ ap (λ n. Some n) (let e : pli ≡ 0 + pli = omega arith in e) }) some
        (searches-more old first octets is.ended is.settled (drop (4 - have) old.window) (window ++ []) (octet ∷ [])
        (PresyncArea pli) window is.search hunt_four (hunt_window ∙ sym (append-nil window)))

  -- PRESYNC: octets of the area
  module _ (more : List ℕ) (left : ℕ) (is : InPresyncArea left old first octets) where
    skip_was : ends longest old.corrects first octets ≡ ends_of longest is.ended
    skip_was = ends-presync old longest first octets is.ended is.settled is.header is.come
        (length is.come + left) is.headed.size is.headed.found (omega (arith, is.part)) is.search

    -- but not all that are left
    skip-part : length more < left →
        Taken (in_phase old (PresyncArea (left - length more))) longest old.corrects first octets more []
    skip-part few =
        let count : length is.come + left ≡ length (is.come ++ more) + (left - length more) =
        omega (arith, length-append is.come more, few) in
        to-presync-area old longest first octets more limit is.ended _ skip_was is.header (is.come ++ more)
        (left - length more) (record {
          size = is.headed.size;
          found = is.headed.found ∙ ap (λ n. Some n) count;
        }) (omega (arith, few)) (searches-more old first _ _ _ _ _ more (PresyncArea (left - length more))
        old.window is.search is.search.window (append_assoc is.header is.come more))

    -- all that are left
    skip-last : length more ≡ left → Taken (in_phase old (PresyncHeader 0)) longest old.corrects first octets more []
    skip-last all =
        let come : List ℕ = is.come ++ more in
        let count : length is.come + left ≡ length come + 0 = omega (arith, length-append is.come more, all) in
        let none : come ≡ come ++ drop (4 - 0) old.window = sym (append-nil come)
        ∙ ap (λ l. come ++ l) (sym (window-none old.window is.search.window)) in
        to-presync-header old longest first octets more limit is.ended is.settled skip_was is.header come 0
        (record { size = is.headed.size; found = is.headed.found ∙ ap (λ n. Some n) count }) (omega arith)
        (searches-more old first octets is.ended is.settled _ _ more (PresyncHeader 0) old.window is.search
        is.search.window (append_assoc is.header is.come more ∙ ap (λ l. is.header ++ l) none))

  -- PRESYNC: an octet of the header after it, before the fourth
  confirm-part : (octet have : ℕ) → have < 3 → InPresyncHeader have old first octets →
      Taken (shifted old octet (PresyncHeader (have + 1))) longest old.corrects first octets (octet ∷ []) []
  confirm-part octet have more is =
      let new : Progress = shifted old octet (PresyncHeader (have + 1)) in
      let last = drop (4 - have) old.window in
      let few : length (is.come ++ last) < 4 + (length is.come + 0) =
      omega (arith, length-append is.come last, length-drop (4 - have) old.window, is.search.window, is.part) in
      to-presync-header new longest first octets (octet ∷ []) limit is.ended is.settled
      (ends-presync old longest first octets is.ended _ is.header (is.come ++ last) (length is.come + 0)
      is.headed.size is.headed.found few is.search) is.header is.come (have + 1) is.headed (omega arith)
      (searches-more old _ _ _ _ _ (is.header ++ (is.come ++ drop (4 - (have + 1)) new.window)) (octet ∷ [])
      (PresyncHeader (have + 1)) new.window is.search (length-shifted old.window is.search.window octet)
      (append_assoc is.header (is.come ++ last) (octet ∷ [])
      ∙ ap (λ l. is.header ++ l) (append_assoc is.come last (octet ∷ [])
      ∙ ap (λ l. is.come ++ l) (window-more old.window is.search.window have octet is.part))))

-- ---- the same for all octets that may have come
module _ (old : Progress) (octet have : ℕ) where
  pub Takes-hunt-part : have < 3 → old.phase ≡ Hunt have →
      Takes old (shifted old octet (Hunt (have + 1))) (octet ∷ []) []
  Takes-hunt-part more was =
      Takes-in old (shifted old octet (Hunt (have + 1))) (octet ∷ []) [] (Hunt have) was
      (λ longest first octets limit is. hunt-part old longest first octets limit octet have more is)

  pub Takes-hunt-none : 3 ≤ have → old.phase ≡ Hunt have → head (drop 1 old.window ++ octet ∷ []) ≡ None →
      Takes old (shifted old octet (Hunt 3)) (octet ∷ []) []
  Takes-hunt-none all was none =
      Takes-in old (shifted old octet (Hunt 3)) (octet ∷ []) [] (Hunt have) was
      (λ longest first octets limit is. hunt-none _ _ _ _ limit octet _ (omega (arith, is.part, all)) is none)

  pub Takes-hunt-idle : 3 ≤ have → old.phase ≡ Hunt have → head (drop 1 old.window ++ octet ∷ []) ≡ Some 0 →
      Takes old (shifted old octet (PresyncHeader 0)) (octet ∷ []) []
  Takes-hunt-idle all was found =
      Takes-in old (shifted old octet (PresyncHeader 0)) (octet ∷ []) [] (Hunt have) was
      (λ longest first octets limit is. hunt-idle old longest first octets limit octet have
      (omega (arith, is.part, all)) is found)

  pub Takes-hunt-client : (pli : ℕ) → 0 < pli → 3 ≤ have → old.phase ≡ Hunt have →
      head (drop 1 old.window ++ octet ∷ []) ≡ Some pli →
      Takes old (shifted old octet (PresyncArea pli)) (octet ∷ []) []
  Takes-hunt-client pli some all was found =
      Takes-in old (shifted old octet (PresyncArea pli)) (octet ∷ []) [] (Hunt have) was
      (λ longest first octets limit is. hunt-client old longest first octets limit octet have
      (omega (arith, is.part, all)) is pli some found)

  pub Takes-confirm-part : have < 3 → old.phase ≡ PresyncHeader have →
      Takes old (shifted old octet (PresyncHeader (have + 1))) (octet ∷ []) []
  Takes-confirm-part more was =
      Takes-in old (shifted old octet (PresyncHeader (have + 1))) (octet ∷ []) [] (PresyncHeader have) was
      (λ longest first octets limit is. confirm-part old longest first octets limit octet have more is)

module _ (old : Progress) (more : List ℕ) (left : ℕ) (was : old.phase ≡ PresyncArea left) where
  pub Takes-skip-part : length more < left → Takes old (in_phase old (PresyncArea (left - length more))) more []
  Takes-skip-part few =
      Takes-in old (in_phase old (PresyncArea (left - length more))) more [] (PresyncArea left) was
      (λ longest first octets limit is. skip-part old longest first octets limit more left is few)

  pub Takes-skip-last : length more ≡ left → Takes old (in_phase old (PresyncHeader 0)) more []
  Takes-skip-last all =
      Takes-in old (in_phase old (PresyncHeader 0)) more [] (PresyncArea left) was
      (λ longest first octets limit is. skip-last old longest first octets limit more left is all)
