-- What more octets do in SYNC: of a header, of an area that is kept or dropped, and where a run begins.
use Rattle.std.proofs.Common.{◌≡◌, ℕ, ◌+◌, ◌-◌, ◌<◌, ◌≤◌, Bool, true, false, List, [], ◌∷◌, ◌++◌, length, drop, inl}
use Rattle.std.proofs.Common.{inr, Some, refl, sym, ◌∙◌, ap, subst, arith, append_assoc, zero, suc, None}
use Rattle.std.proofs.Common.{length-append, length-drop, Option}
use Rattle.std.specs.Prelude.{◌⊎◌, ◌↔◌, IsTrue}
use Rattle.std.proofs.lemmas.List.{append-nil, drop_all, drop-append-le, drop-drop}
use Rattle.std.proofs.lemmas.Bool.{cases_lt, lt-ltb, le-ltb, le-leb, lt-leb}
use Rattle.gfp_scramble.specs.Descrambler.{Descrambling, IsKnown, unknown, Continues, DescramblesTo}
use Rattle.law_model.specs.Common.{head, descrambled_octets, joined, Run, is_settled}
use Rattle.law_model.proofs.ScrambledBitAndAreaLaws.{length-descrambled_octets, joined-push, length-descrambled_single}
use Rattle.gfp_delineate.specs.declared.hunt_presync_sync.AreaWhy.{AreaWhy}
use Rattle.gfp_delineate.specs.declared.hunt_presync_sync.AreaWhy.TheVariants.{Unsettled, TooLong}
use Rattle.gfp_delineate.specs.declared.hunt_presync_sync.Phase.{Phase}
use Rattle.gfp_delineate.specs.declared.hunt_presync_sync.Phase.TheVariants.{SyncHeader, SyncArea, SyncPassing, Hunt}
use Rattle.gfp_delineate.specs.declared.hunt_presync_sync.Phase.TheVariants.{PresyncHeader}
use Rattle.gfp_delineate.specs.LeftOpen.{running, Leaves, searching}
use Rattle.gfp_delineate.specs.ReceivedAreas.{AreaEnd, keeping, passing, end_of, reader, ends, area_ends, run_ends}
use Rattle.gfp_delineate.specs.ReceivedAreas.{Progress, Follows, Headed, InSyncHeader, InPresyncHeader, InSyncArea}
use Rattle.gfp_delineate.specs.ReceivedAreas.{InSyncPassing, Adds}
use Rattle.gfp_delineate.proofs.LeftOpenSegmentLaws.{Becomes-area, Leaves-longer, Leaves-goes_on, Becomes-refused}
use Rattle.gfp_delineate.proofs.LeftOpenSegmentLaws.{Becomes-confirmed, Becomes-lost, Leaves-becomes}
use Rattle.gfp_delineate.proofs.AreaOutcomeLaws.{run_outcomes-push, run_outcomes-none, outcomes_of-push}
use Rattle.gfp_delineate.proofs.ReceiverProgressLaws.{ends_of, ends_with, ends-header, ends-area, length-shifted}
use Rattle.gfp_delineate.proofs.ReceiverProgressLaws.{window-few, window-more, window-none, Takes, Taken, Takes-in}
use Rattle.gfp_delineate.proofs.ReceiverProgressLaws.{ends-presync, Takes-none, Takes-then, nothing, Adds-in}
use Rattle.gfp_delineate.proofs.HuntPresyncSteps.{in_phase, shifted, to-hunt}
use Rattle.law_model.proofs.CoreHeaderLaws.{head-core_header, idle_header, idles, core_header-idle, idles-suc}
use Rattle.gfp_delineate.proofs.CorrectedHeaderBitLaws.{reader-head}
use Rattle.gfp_scramble.specs.Descrambler as descrambler

-- ---- More octets in SYNC, or the one by which a run begins.
-- ---- the phases that are reached
module _ (base : Progress) (longest : ℕ) (first : Bool) (octets more : List ℕ) (limit : base.longest ≡ longest)
    (ended : List Run) (settled : Bool) (before : List (List ℕ)) (come : List AreaEnd)
    (was : ends longest base.corrects first octets ++ come ≡ ends_with longest ended settled before) where
  pub to-header : (have : ℕ) → have < 4 →
      Follows (in_phase base (SyncHeader have)) first (octets ++ more) ended settled before
      (drop (4 - have) base.window) [] →
      Taken (in_phase base (SyncHeader have)) longest base.corrects first octets more come
  to-header have part run = record {
    stands = record {
      limit = limit;
      setting = refl;
      phase =
          record { ended = ended; settled = settled; before = before; part = part; run = run };
    };
    outcome = ends-header longest base.corrects first (octets ++ more) ended settled before (drop
        (4 - have) base.window)
        (window-few base.window run.window have part) run.leaves ∙ sym was;
  }

  pub to-area : (header part_come : List ℕ) (left : ℕ) → Headed (reader base.corrects) header part_come left →
      0 < left →
      length part_come + left ≤ base.longest →
      Follows (in_phase base (SyncArea left)) first (octets ++ more) ended settled before
      (header ++ part_come) part_come →
      (settled ≡ true) ⊎ (6 ≤ length (joined before)) →
      base.area ≡ drop (length (joined before)) (descrambled_octets (joined before ++ part_come)) →
      Taken (in_phase base (SyncArea left)) longest base.corrects first octets more come
  to-area header part_come left headed part fits run known kept = record {
    stands = record {
      limit = limit;
      setting = refl;
      phase = record {
        ended = ended;
        settled = settled;
        before = before;
        header = header;
        come = part_come;
        headed =
            headed;
        part = part;
        fits = fits;
        run = run;
        known = known;
        kept = kept;
      };
    };
    outcome = ends-area longest base.corrects _ _ _ settled before _ _ left headed part run.leaves ∙ sym was;
  }

  pub to-passing : (header part_come : List ℕ) (left : ℕ) (why : AreaWhy) → Headed
      (reader base.corrects) header part_come left → 0 < left →
      Follows (in_phase base (SyncPassing left why)) first (octets ++ more) ended settled before
      (header ++ part_come) part_come →
      ((area : List ℕ) → length area ≡ length part_come + left →
      area_ends base.longest settled (length (joined before)) area ≡ passing why ∷ []) →
      Taken (in_phase base (SyncPassing left why)) longest base.corrects first octets more come
  to-passing header part_come left why headed part run dropped = record {
    stands = record {
      limit = limit;
      setting = refl;
      phase = record {
        ended = ended;
        settled = settled;
        before = before;
        header = header;
        come = part_come;
        headed =
            headed;
        part = part;
        run = run;
        dropped = dropped;
      };
    };
    outcome = ends-area longest base.corrects _ _ _ settled before _ _ left headed part run.leaves ∙ sym was;
  }

-- ---- the octets before the fourth of a header
pub follow-part : (old : Progress) (longest : ℕ) (first : Bool) (octets : List ℕ) (octet : ℕ) → old.longest ≡ longest →
    (have : ℕ) → have < 3 → InSyncHeader have old first octets →
    Taken (shifted old octet (SyncHeader (have + 1))) longest old.corrects first octets (octet ∷ []) []
follow-part old longest first octets octet limit have more is =
    let new : Progress = shifted old octet (SyncHeader (have + 1)) in
    let last = drop (4 - have) old.window in
    to-header new longest first octets (octet ∷ []) limit is.ended is.settled is.before []
    (append-nil (ends longest old.corrects first octets)
    ∙ ends-header longest old.corrects first octets is.ended is.settled is.before last
    (window-few old.window is.run.window have is.part) is.run.leaves)
    (have + 1) (omega arith)
    (record {
      leaves = subst (λ last. Leaves head (reader old.corrects) first (octets ++ octet ∷ []) is.ended
          (running is.settled is.before last)) (window-more old.window is.run.window have octet is.part)
          (Leaves-longer head (reader old.corrects) first octets is.ended _ (octet ∷ []) is.run.leaves);
      given = is.run.given;
      window = length-shifted old.window is.run.window octet;
    })

-- ---- what comes of an area
pub settled-known : (settled : Bool) (before : ℕ) → (settled ≡ true) ⊎ (6 ≤ before) → is_settled settled before ≡ true
settled-known true before known = refl
settled-known false before (inl start) = absurd cc
settled-known false before (inr enough) = le-leb 6 before enough

settled-unknown : (settled : Bool) (before : ℕ) → settled ≡ false → before < 6 → is_settled settled before ≡ false
settled-unknown settled before unsettled few = rw (unsettled, lt-leb 6 before few) refl

-- where it has octets
area_ends-some : (longest before : ℕ) (settled b : Bool) (area : List ℕ) → 0 < length area →
    is_settled settled before ≡ b → area_ends longest settled before area ≡ end_of longest b area ∷ []
area_ends-some longest before settled b [] some is = absurd (omega arith)
area_ends-some longest before settled b (o ∷ area) some is = ap (λ b. end_of longest b (o ∷ area) ∷ []) is

area_ends-long : (longest before : ℕ) (settled : Bool) (area : List ℕ) → (settled ≡ true) ⊎ (6 ≤ before) →
    longest < length area → area_ends longest settled before area ≡ passing (TooLong (length area)) ∷ []
area_ends-long longest before settled area known long =
    area_ends-some longest before settled true area (omega (arith, long)) (settled-known settled before known)
    ∙ rw (lt-ltb longest (length area) long) refl

pub area_ends-fitting : (longest before : ℕ) (settled : Bool) (area : List ℕ) → (settled ≡ true) ⊎ (6 ≤ before) →
    0 < length area → length area ≤ longest →
    area_ends longest settled before area ≡ keeping area ∷ []
area_ends-fitting longest before settled area known some fits =
    area_ends-some longest before settled true area some (settled-known settled before known)
    ∙ rw (le-ltb longest (length area) fits) refl

area_ends-idle : (longest before : ℕ) (settled : Bool) (area : List ℕ) → length area ≡ 0 →
    area_ends longest settled before area ≡ []
area_ends-idle longest before settled [] none = refl
area_ends-idle longest before settled (o ∷ area) none = absurd (omega arith)

-- one more area of a run
pub ends_with-push : (longest : ℕ) (ended : List Run) (settled : Bool) (before : List (List ℕ)) (area : List ℕ)
    (come : List AreaEnd) →
    area_ends longest settled (length (joined before))
    (drop (length (joined before)) (descrambled_octets (joined before ++ area))) ≡ come →
    ends_with longest ended settled before ++ come ≡ ends_with longest ended settled (before ++ area ∷ [])
ends_with-push longest ended settled before area come outcome =
    append_assoc (ends_of longest ended) (run_ends longest (record { settled = settled; areas = before })) come
    ∙ ap (λ l. ends_of longest ended ++ l)
    (ap (λ l. run_ends longest (record { settled = settled; areas = before }) ++ l) (sym outcome)
    ∙ sym (run_outcomes-push (end_of longest) settled before area))

-- ---- a header that is whole
-- whether a descrambler knows the octets that come
abbrev pub Knows : Bool → Descrambling → Type 0
Knows known descrambling = (settled : Bool) (octets : List ℕ) → descrambler.DescramblerStands descrambling settled octets →
    IsTrue known ↔ IsKnown settled octets

unknown-settled : (settled : Bool) (octets : List ℕ) → (IsTrue false ↔ IsKnown settled octets) → settled ≡ false
unknown-settled true octets knows = let wrong : IsTrue false = knows.1 (inl refl) in absurd cc
unknown-settled false octets knows = refl

unknown-few : (settled : Bool) (octets : List ℕ) → (IsTrue false ↔ IsKnown settled octets) → length octets < 6
unknown-few settled octets knows =
    elim (cases_lt (length octets) 6)
    [ inl few ↦ few | inr enough ↦ (let wrong : IsTrue false = knows.1 (inr enough) in absurd cc) ]

-- with this window, and nothing kept
abbrev pub followed : Progress → List ℕ → Phase → Progress
followed old window phase = record old { phase = phase; window = window; area = [] }

-- the header is in the window
module _ (old : Progress) (longest : ℕ) (first : Bool) (octets more : List ℕ) (limit : old.longest ≡ longest)
    (ended : List Run) (settled : Bool) (before : List (List ℕ)) (window : List ℕ)
    (was : ends longest old.corrects first octets ≡ ends_with longest ended settled before) (four : length window ≡ 4)
    (leaves : Leaves head (reader old.corrects) first (octets ++ more) ended (running settled before window))
    (given : descrambler.DescramblerStands old.descrambling settled (joined before ++ [])) where
  -- an idle, whatever is in the window afterwards, and whatever is kept
  pub followed-idle : (left area : List ℕ) → length left ≡ 4 → reader old.corrects window ≡ Some 0 →
      Taken (record old { phase = SyncHeader 0; window = left; area = area }) longest old.corrects first octets more []
  followed-idle left area left_four found =
      let now : Leaves head (reader old.corrects) first (octets ++ more) ended (running settled before (window ++ [])) =
      subst (λ last. Leaves head (reader old.corrects) first (octets ++ more) ended (running settled before last))
      (sym (append-nil window)) leaves in
      let next : Leaves head (reader old.corrects) first (octets ++ more) ended (running settled
      (before ++ [] ∷ []) []) =
      Leaves-goes_on head (reader old.corrects) first (octets ++ more) ended _ _ now
      (Becomes-area head (reader old.corrects) settled before window [] four found) in
      to-header (record old { phase = SyncHeader 0; window = left; area = area }) longest first octets more limit ended
      settled (before ++ [] ∷ []) []
      (ap (λ l. l ++ []) was
      ∙ ends_with-push longest ended settled before [] []
      (area_ends-idle longest (length (joined before)) settled
      (drop (length (joined before)) (descrambled_octets (joined before ++ [])))
      (length-descrambled_single (joined before) [])))
      0 (omega arith)
      (record {
        leaves = subst (λ last. Leaves head (reader old.corrects) first (octets ++ more) ended
            (running settled (before ++ [] ∷ []) last)) (sym (window-none left left_four)) next;
        given = subst (λ all. descrambler.DescramblerStands old.descrambling settled all)
            (sym (append-nil (joined before ++ [])) ∙ ap (λ l. l ++ []) (sym (joined-push before []))) given;
        window = left_four;
      })

  -- a run with a header and nothing of its area
  follows-header : (phase : Phase) →
      Follows (followed old window phase) first (octets ++ more) ended settled before (window ++ []) []
  follows-header phase = record {
    leaves = subst (λ last. Leaves head (reader old.corrects) first (octets ++ more) ended
        (running settled before last))
        (sym (append-nil window)) leaves;
    given = given;
    window = four;
  }

  headed-by : (pli : ℕ) → reader old.corrects window ≡ Some pli → Headed (reader old.corrects) window [] pli
  headed-by pli found = record {
    size = four;
    found = found
        ∙ ap (λ n. Some n) (let e : pli ≡ 0 + pli = omega arith in e);
  }

  size_same : length (joined before ++ []) ≡ length (joined before)
  size_same = ap length (append-nil (joined before))

  was_more : ends longest old.corrects first octets ++ [] ≡ ends_with longest ended settled before
  was_more = append-nil (ends longest old.corrects first octets) ∙ was

  -- an area whose octets aren't known
  pub followed-unknown : (pli : ℕ) → 0 < pli → reader old.corrects window ≡ Some pli → Knows false old.descrambling →
      Taken (followed old window (SyncPassing pli Unsettled)) longest old.corrects first octets more []
  followed-unknown pli some found knows =
      to-passing (followed old window (SyncPassing pli Unsettled)) _ first octets more limit ended _ before []
      was_more window [] pli Unsettled (headed-by pli found) some (follows-header (SyncPassing pli Unsettled))
      (λ area size. area_ends-some old.longest (length (joined before)) settled false area
      (omega (arith, some, size)) (settled-unknown settled (length (joined before))
      (unknown-settled settled (joined before ++ []) (knows settled (joined before ++ []) given)) (omega (
        arith,
        size_same,
        unknown-few settled (joined before ++ [])
            (knows settled (joined before ++ []) given),
      ))))

  known-before : Knows true old.descrambling → (settled ≡ true) ⊎ (6 ≤ length (joined before))
  known-before knows = subst (λ n. (settled ≡ true) ⊎ (6 ≤ n)) size_same
      ((knows settled (joined before ++ []) given).0 refl)

  -- an area that is too long
  pub followed-long : (pli : ℕ) → old.longest < pli → reader old.corrects window ≡ Some pli →
      Knows true old.descrambling →
      Taken (followed old window (SyncPassing pli (TooLong pli))) longest old.corrects first octets more []
  followed-long pli long found knows =
      to-passing (followed old window (SyncPassing pli (TooLong pli))) longest first octets more limit ended settled
      before [] was_more
      window [] pli (TooLong pli) (headed-by pli found) (omega (arith, long))
      (follows-header (SyncPassing pli (TooLong pli)))
      (λ area size.
      let same : length area ≡ pli = omega (arith, size) in
      area_ends-long old.longest (length (joined before)) settled area (known-before knows) (omega (arith, long, same))
      ∙ ap (λ n. passing (TooLong n) ∷ []) same)

  -- an area that is kept
  pub followed-kept : (pli : ℕ) → 0 < pli → pli ≤ old.longest → reader old.corrects window ≡ Some pli →
      Knows true old.descrambling → Taken (followed old window (SyncArea pli)) longest old.corrects first octets more []
  followed-kept pli some fits found knows =
      to-area (followed old window (SyncArea pli)) longest first octets more limit ended settled before [] was_more
      window [] pli (headed-by pli found) some (omega (arith, fits)) (follows-header (SyncArea pli))
      (known-before knows)
      (sym (drop_all (length (joined before)) (descrambled_octets (joined before ++ []))
      (omega (arith, length-descrambled_octets (joined before ++ []), size_same))))

-- ---- the same for all octets that may have come
pub Takes-follow-part : (old : Progress) (octet have : ℕ) → have < 3 → old.phase ≡ SyncHeader have →
    Takes old (shifted old octet (SyncHeader (have + 1))) (octet ∷ []) []
Takes-follow-part old octet have more was =
    Takes-in old (shifted old octet (SyncHeader (have + 1))) (octet ∷ []) [] (SyncHeader have) was
    (λ longest first octets limit is. follow-part old longest first octets octet limit have more is)

-- ---- A header that confirms, or one in SYNC, is whole.
-- four octets were no header, and the descrambler forgot
abbrev pub lost : Progress → ℕ → Descrambling → Progress
lost old octet forgot = record old { phase = Hunt 3; window = drop 1 old.window ++ octet ∷ []; descrambling = forgot }

-- a header in its place: with more octets a run of these areas is open, and these four are its last
pub record Heads (old : Progress) (longest : ℕ) (first : Bool) (octets more window : List ℕ) : Type 0 where
  pub ended : List Run
  pub settled : Bool
  pub before : List (List ℕ)
  pub was : ends longest old.corrects first octets ≡ ends_with longest ended settled before
  pub four : length window ≡ 4
  pub leaves : Leaves head (reader old.corrects) first (octets ++ more) ended (running settled before window)
  pub given : descrambler.DescramblerStands old.descrambling settled (joined before ++ [])

module _ (old : Progress) (longest : ℕ) (first : Bool) (octets : List ℕ) (octet : ℕ)
    (limit : old.longest ≡ longest) where
  -- a search begins anew
  lost-by : (ended : List Run) (forgot : Descrambling) →
      ends longest old.corrects first octets ≡ ends_of longest ended →
      length (drop 1 old.window ++ octet ∷ []) ≡ 4 →
      Leaves head (reader old.corrects) first (octets ++ octet ∷ []) ended (searching false (drop 1
      (drop 1 old.window ++ octet ∷ []))) →
      descrambler.DescramblerStands forgot false [] → Taken (lost old octet forgot) longest old.corrects first octets
      (octet ∷ []) []
  lost-by ended forgot was four leaves given =
      to-hunt (lost old octet forgot) longest first octets (octet ∷ []) limit ended false was 3 (omega arith)
      (record { leaves = leaves; given = given; window = four })

  -- PRESYNC
  module _ (is : InPresyncHeader 3 old first octets) where
    presync-leaves : Leaves head (reader old.corrects) first (octets ++ octet ∷ []) is.ended
        (searching is.settled (is.header ++ (is.come ++ (drop 1 old.window ++ octet ∷ []))))
    presync-leaves =
        let last : List ℕ = drop (4 - 3) old.window in
        subst (λ last. Leaves head (reader old.corrects) first (octets ++ octet ∷ []) is.ended
        (searching is.settled last))
        (append_assoc is.header (is.come ++ last) (octet ∷ [])
        ∙ ap (λ l. is.header ++ l) (append_assoc is.come last (octet ∷ [])))
        (Leaves-longer head (reader old.corrects) first octets is.ended _ (octet ∷ []) is.search.leaves)

    presync-was : ends longest old.corrects first octets ≡ ends_of longest is.ended
    presync-was =
        let last : List ℕ = drop (4 - 3) old.window in
        ends-presync old longest first octets is.ended is.settled is.header (is.come ++ last)
        (length is.come + 0) is.headed.size is.headed.found
        (omega (arith, length-append is.come last, length-drop (4 - 3) old.window, is.search.window)) is.search

    presync-found : head is.header ≡ Some (length is.come)
    presync-found = is.headed.found ∙ ap (λ n. Some n) (let e : length is.come + 0 ≡ length is.come = omega arith in e)

    confirm-lost : (forgot : Descrambling) → head (drop 1 old.window ++ octet ∷ []) ≡ None →
        descrambler.DescramblerStands forgot false [] → Taken (lost old octet forgot) longest old.corrects first octets
        (octet ∷ []) []
    confirm-lost forgot none given =
        let window : List ℕ = drop 1 old.window ++ octet ∷ [] in
        let four = length-shifted old.window is.search.window octet in
        lost-by is.ended forgot presync-was four (Leaves-goes_on head (reader old.corrects) first _ is.ended _
        _ presync-leaves (Becomes-refused head (reader old.corrects) is.header is.come window is.headed.size
        is.settled presync-found four none)) given

    confirm-found : (pli : ℕ) → head (drop 1 old.window ++ octet ∷ []) ≡ Some pli →
        Heads old longest first octets (octet ∷ []) (drop 1 old.window ++ octet ∷ [])
    confirm-found pli found =
        let window : List ℕ = drop 1 old.window ++ octet ∷ [] in
        let four = length-shifted old.window is.search.window octet in
        record {
          ended = is.ended;
          settled = is.settled;
          before = [];
          was = presync-was ∙ sym (append-nil (ends_of longest is.ended))
              ∙ ap (λ l. ends_of longest is.ended ++ l)
              (sym (run_outcomes-none (end_of longest) is.settled));
          four = four;
          leaves = Leaves-goes_on head (reader old.corrects) first (octets ++ octet ∷ []) is.ended _ _
              presync-leaves (Becomes-confirmed head (reader old.corrects) is.header is.come window
              is.headed.size is.settled pli presync-found four found);
          given = is.search.given;
        }

  -- SYNC
  module _ (is : InSyncHeader 3 old first octets) where
    sync-leaves : Leaves head (reader old.corrects) first (octets ++ octet ∷ []) is.ended
        (running is.settled is.before (drop 1 old.window ++ octet ∷ []))
    sync-leaves =
        Leaves-longer head (reader old.corrects) first octets is.ended _ (octet ∷ []) is.run.leaves

    sync-was : ends longest old.corrects first octets ≡ ends_with longest is.ended is.settled is.before
    sync-was = ends-header longest old.corrects first octets is.ended is.settled is.before (drop (4 - 3) old.window)
        (window-few old.window is.run.window 3 is.part) is.run.leaves

    follow-lost : (forgot : Descrambling) → reader old.corrects (drop 1 old.window ++ octet ∷ []) ≡ None →
        descrambler.DescramblerStands forgot false [] → Taken (lost old octet forgot) longest old.corrects first octets
        (octet ∷ []) []
    follow-lost forgot none given =
        let window : List ℕ = drop 1 old.window ++ octet ∷ [] in
        let four = length-shifted old.window is.run.window octet in
        let run : Run = record { settled = is.settled; areas = is.before } in
        lost-by _ forgot (sync-was ∙ sym (outcomes_of-push (end_of longest) is.ended run)) four
        (Leaves-becomes head (reader old.corrects) first (octets ++ octet ∷ []) is.ended (run ∷ []) _ _
        sync-leaves (Becomes-lost head (reader old.corrects) is.settled is.before window four none)) given

    follow-found : Heads old longest first octets (octet ∷ []) (drop 1 old.window ++ octet ∷ [])
    follow-found = record {
      ended = is.ended;
      settled = is.settled;
      before = is.before;
      was = sync-was;
      four = length-shifted old.window is.run.window octet;
      leaves = sync-leaves;
      given = is.run.given;
    }

-- ---- the same for all octets that may have come, where the fourth octet of a header is the next
module _ (old : Progress) (octet : ℕ) (corrects : Bool)
    (place : ((old.phase ≡ PresyncHeader 3) × (corrects ≡ false))
    ⊎ ((old.phase ≡ SyncHeader 3) × (corrects ≡ old.corrects))) where
  -- it is none
  pub Takes-lost : (forgot : Descrambling) → reader corrects (drop 1 old.window ++ octet ∷ []) ≡ None →
      descrambler.DescramblerStands forgot false [] → Takes old (lost old octet forgot) (octet ∷ []) []
  Takes-lost forgot none given =
      let here : Bool → Type 0 = λ corrects. reader corrects (drop 1 old.window ++ octet ∷ []) ≡ None in
      elim place [
        | inl was ↦ Takes-in old (lost old octet forgot) (octet ∷ []) [] (PresyncHeader 3) was.0
            (λ longest first octets limit is.
            confirm-lost old longest first octets octet limit is forgot (subst here was.1 none) given)
        | inr was ↦ Takes-in old (lost old octet forgot) (octet ∷ []) [] (SyncHeader 3) was.0
            (λ longest first octets limit is.
            follow-lost old longest first octets octet limit is forgot (subst here was.1 none) given)
      ]

  -- it is one, and in SYNC it is the same one
  module _ (pli : ℕ) (found : reader corrects (drop 1 old.window ++ octet ∷ []) ≡ Some pli) where
    abbrev here : Bool → Type 0
    here corrects = reader corrects (drop 1 old.window ++ octet ∷ []) ≡ Some pli

    found-follow : here old.corrects
    found-follow = elim place [
      | inl was ↦ reader-head old.corrects (drop 1 old.window ++ octet ∷ []) pli (subst here was.1 found)
      | inr was ↦ subst here was.1 found
    ]

    takes-found : (new : Progress) →
        ((longest : ℕ) (first : Bool) (octets : List ℕ) → old.longest ≡ longest →
        Heads old longest first octets (octet ∷ []) (drop 1 old.window ++ octet ∷ []) →
        Taken new longest old.corrects first octets (octet ∷ []) []) →
        Takes old new (octet ∷ []) []
    takes-found new taken = elim place [
      | inl was ↦ Takes-in old new (octet ∷ []) [] (PresyncHeader 3) was.0
          (λ longest first octets limit is. taken longest first octets limit
          (confirm-found old longest first octets octet limit is pli (subst here was.1 found)))
      | inr was ↦ Takes-in old new (octet ∷ []) [] (SyncHeader 3) was.0
          (λ longest first octets limit is. taken longest first octets limit
          (follow-found old longest first octets octet limit is))
    ]

  pub Takes-idle : reader corrects (drop 1 old.window ++ octet ∷ []) ≡ Some 0 →
      Takes old (followed old (drop 1 old.window ++ octet ∷ []) (SyncHeader 0)) (octet ∷ []) []
  Takes-idle found =
      let window : List ℕ = drop 1 old.window ++ octet ∷ [] in
      takes-found 0 found (followed old window (SyncHeader 0))
      (λ longest first octets limit is. followed-idle old longest first octets
      (octet ∷ []) limit is.ended is.settled is.before window is.was is.four is.leaves is.given window [] is.four
      (found-follow 0 found))

  module _ (pli : ℕ) (found : reader corrects (drop 1 old.window ++ octet ∷ []) ≡ Some pli) where
    pub Takes-unknown : 0 < pli → Knows false old.descrambling →
        Takes old (followed old (drop 1 old.window ++ octet ∷ []) (SyncPassing pli Unsettled)) (octet ∷ []) []
    Takes-unknown some knows =
        let window : List ℕ = drop 1 old.window ++ octet ∷ [] in
        takes-found pli found (followed old window (SyncPassing pli Unsettled))
        (λ longest first octets limit is. followed-unknown old longest first octets (octet ∷ []) limit
        is.ended _ is.before window is.was is.four is.leaves is.given pli some (found-follow pli found) knows)

    pub Takes-long : old.longest < pli → Knows true old.descrambling →
        Takes old (followed old (drop 1 old.window ++ octet ∷ []) (SyncPassing pli (TooLong pli))) (octet ∷ []) []
    Takes-long long knows =
        let window : List ℕ = drop 1 old.window ++ octet ∷ [] in
        takes-found pli found (followed old window (SyncPassing pli (TooLong pli)))
        (λ longest first octets limit is. followed-long old longest first octets
        (octet ∷ []) limit is.ended is.settled is.before window is.was is.four is.leaves is.given pli long
        (found-follow pli found)
        knows)

    pub Takes-kept : 0 < pli → pli ≤ old.longest → Knows true old.descrambling →
        Takes old (followed old (drop 1 old.window ++ octet ∷ []) (SyncArea pli)) (octet ∷ []) []
    Takes-kept some fits knows =
        let window : List ℕ = drop 1 old.window ++ octet ∷ [] in
        takes-found pli found (followed old window (SyncArea pli))
        (λ longest first octets limit is. followed-kept old longest first octets (octet ∷ []) limit is.ended _
        is.before window is.was is.four is.leaves is.given pli some fits (found-follow pli found) knows)

-- ---- more octets of headers in SYNC
-- three octets of one
pub Takes-three : (old : Progress) (a b c : ℕ) → old.phase ≡ SyncHeader 0 →
    Takes old (shifted (shifted (shifted old a (SyncHeader 1)) b (SyncHeader 2)) c (SyncHeader 3)) (a ∷ b ∷ c ∷ []) []
Takes-three old a b c was =
    let one : Progress = shifted old a (SyncHeader 1) in
    let two : Progress = shifted one b (SyncHeader 2) in
    Takes-then old one (shifted two c (SyncHeader 3)) (a ∷ []) (b ∷ c ∷ []) []
    (Takes-follow-part old a 0 (omega arith) was)
    (Takes-then one two (shifted two c (SyncHeader 3)) (b ∷ []) (c ∷ []) []
    (Takes-follow-part one b 1 (omega arith) refl) (Takes-follow-part two c 2 (omega arith) refl))

-- headers of idles
module _ (old : Progress) (was : old.phase ≡ SyncHeader 0) where
  one-idle : (longest : ℕ) (first : Bool) (octets : List ℕ) → old.longest ≡ longest → InSyncHeader 0 old first octets →
      Taken (in_phase old (SyncHeader 0)) longest old.corrects first octets idle_header []
  one-idle longest first octets limit is =
      let last : List ℕ = drop (4 - 0) old.window in
      let none : last ≡ [] = window-none old.window is.run.window in
      followed-idle old longest first octets idle_header limit is.ended is.settled is.before idle_header
      (ends-header longest old.corrects first octets is.ended is.settled is.before last
      (window-few old.window is.run.window 0 is.part) is.run.leaves) refl
      (subst (λ l. Leaves head (reader old.corrects) first (octets ++ idle_header) is.ended
      (running is.settled is.before (l ++ idle_header))) none
      (Leaves-longer head _ first octets is.ended _ idle_header is.run.leaves)) is.run.given old.window
      old.area is.run.window (reader-head old.corrects idle_header 0
      (ap head (sym core_header-idle) ∙ head-core_header 0 (omega arith, inl refl)))

  takes-one : Takes old old idle_header []
  takes-one =
      subst (λ new. Takes old new idle_header []) (ap (in_phase old) (sym was))
      (Takes-in old (in_phase old (SyncHeader 0)) idle_header [] (SyncHeader 0) was one-idle)

  pub Takes-idles : (n : ℕ) → Takes old old (idles n) []
  Takes-idles zero = Takes-none old
  Takes-idles (suc n) = subst (λ more. Takes old old more []) (sym (idles-suc n))
      (Takes-then old old old idle_header (idles n) [] takes-one (Takes-idles n))

-- ---- More octets of an area in SYNC.
-- with another descrambler and another area
abbrev pub holding : Progress → Phase → Descrambling → List ℕ → Progress
holding old phase descrambling area = record old { phase = phase; descrambling = descrambling; area = area }

-- with these octets a descrambler becomes another, and descrambles them to others
pub record Descrambles (old new : Descrambling) (more plain : List ℕ) : Type 0 where
  pub stands : Continues old new more
  pub answer : DescramblesTo old more plain

-- two lists that agree from a place on agree from each later one
drop_further : (u n : ℕ) (xs ys : List ℕ) → u ≤ n → drop u xs ≡ drop u ys → drop n xs ≡ drop n ys
drop_further u n xs ys within same =
    let place : u + (n - u) ≡ n = omega arith in
    ap (λ k. drop k xs) (sym place) ∙ sym (drop-drop (n - u) u xs)
    ∙ ap (drop (n - u)) same ∙ drop-drop (n - u) u ys ∙ ap (λ k. drop k ys) place

-- where a descrambler knows these octets, there are as many as it doesn't know
unknown_within : (settled : Bool) (octets : List ℕ) → IsKnown settled octets → unknown settled ≤ length octets
unknown_within true octets known = omega arith
unknown_within false octets (inl start) = absurd cc
unknown_within false octets (inr enough) = enough

-- a run with more octets of an area
follows-more : (old : Progress) (first : Bool) (octets : List ℕ) (ended : List Run) (settled : Bool)
    (before : List (List ℕ)) (header come more : List ℕ) (phase : Phase) (next : Descrambling) (area : List ℕ) →
    Follows old first octets ended settled before (header ++ come) come → Continues old.descrambling next more →
    Follows (holding old phase next area) first (octets ++ more) ended settled before (header ++ (come ++ more))
    (come ++ more)
follows-more old first octets ended settled before header come more phase next area run passes = record {
  leaves = subst (λ last. Leaves head (reader old.corrects) first (octets ++ more) ended
      (running settled before last)) (append_assoc header come more)
      (Leaves-longer head (reader old.corrects) first octets ended _ more run.leaves);
  given = subst (λ all. descrambler.DescramblerStands next settled all) (append_assoc (joined before) come more)
      (passes settled (joined before ++ come) run.given);
  window = run.window;
}

-- a run whose area is whole
follows-whole : (base : Progress) (first : Bool) (octets : List ℕ) (ended : List Run) (settled : Bool)
    (before : List (List ℕ)) (header area : List ℕ) → Headed (reader base.corrects) header area 0 →
    Follows base first octets ended settled before (header ++ area) area →
    Follows base first octets ended settled (before ++ area ∷ []) (drop (4 - 0) base.window) []
follows-whole base first octets ended settled before header area headed run =
    let found : reader base.corrects header ≡ Some (length area) = headed.found
    ∙ ap (λ n. Some n) (let e : length area + 0 ≡ length area = omega arith in e) in
    record {
      leaves = subst (λ last. Leaves head (reader base.corrects) first octets ended
          (running settled (before ++ area ∷ []) last)) (sym (window-none base.window run.window))
          (Leaves-goes_on head (reader base.corrects) first octets ended _ _ run.leaves
          (Becomes-area head (reader base.corrects) settled before header area headed.size found));
      given = subst (λ all. descrambler.DescramblerStands base.descrambling settled all)
          (sym (joined-push before area) ∙ sym (append-nil (joined (before ++ area ∷ [])))) run.given;
      window = run.window;
    }

-- a header with more octets of its area
headed-more : (read : List ℕ → Option ℕ) (header come more : List ℕ) (left rest : ℕ) → length more + rest ≡ left →
    Headed read header come left →
    Headed read header (come ++ more) rest
headed-more read header come more left rest parts headed = record {
  size = headed.size;
  found = headed.found ∙ ap (λ n. Some n)
      (let e : length come + left ≡ length (come ++ more) + rest = omega (arith, length-append come more, parts) in e);
}

-- an area goes on, whatever its octets are
area-goes_on : (old : Progress) (longest : ℕ) (first : Bool) (octets more : List ℕ) (left : ℕ) (ended : List Run)
    (settled : Bool) (before : List (List ℕ)) (header come : List ℕ) → length more < left → Headed
    (reader old.corrects) header come left →
    Follows old first octets ended settled before (header ++ come) come →
    ends longest old.corrects first (octets ++ more) ≡ ends longest old.corrects first octets ++ []
area-goes_on old longest first octets more left ended settled before header come few headed run =
    nothing longest old.corrects first octets more (ends_with longest ended settled before)
    (ends-area longest old.corrects first octets ended settled before header come left headed
    (omega (arith, few)) run.leaves) (ends-area longest old.corrects first (octets ++ more) ended settled
    before header _ _ (headed-more _ header come more left (left - length more) (omega (arith, few)) headed)
    (omega (arith, few)) (subst (λ last. Leaves head (reader old.corrects) first (octets ++ more) ended
    (running settled before last)) (append_assoc header come more)
    (Leaves-longer head (reader old.corrects) first octets ended _ more run.leaves)))

module _ (old : Progress) (longest : ℕ) (first : Bool) (octets more : List ℕ) (limit : old.longest ≡ longest) (left : ℕ)
    (next : Descrambling) where
  -- an area is whole, whatever comes of it
  whole-area : (area : List ℕ) (ended : List Run) (settled : Bool) (before : List (List ℕ)) (header come : List ℕ)
      (told : List AreaEnd) → length more ≡ left → 0 < left → Headed (reader old.corrects) header come left →
      Follows old first octets ended settled before (header ++ come) come → Continues old.descrambling next more →
      area_ends longest settled (length (joined before))
      (drop (length (joined before)) (descrambled_octets (joined before ++ (come ++ more)))) ≡ told →
      Taken (holding old (SyncHeader 0) next area) longest old.corrects first octets more told
  whole-area area ended settled before header come told all part headed run passes outcome =
      let whole : List ℕ = come ++ more in
      let base : Progress = holding old (SyncHeader 0) next area in
      to-header base longest first octets more limit ended settled (before ++ whole ∷ []) told
      (ap (λ l. l ++ told) (ends-area longest old.corrects first _ ended settled before _ come left headed
      part run.leaves) ∙ ends_with-push longest ended settled before whole told outcome) 0 (omega arith)
      (follows-whole base first _ ended _ _ _ whole (headed-more _ _ come more left 0 (omega (arith, all))
      headed) (follows-more old first octets ended _ _ header come more (SyncHeader 0) next area run passes))

  -- ---- an area that is kept
  module _ (plain : List ℕ) (is : InSyncArea left old first octets)
      (descrambles : Descrambles old.descrambling next more plain) where
    -- what is kept
    kept-more : old.area ++ plain ≡ drop (length (joined is.before))
        (descrambled_octets (joined is.before ++ (is.come ++ more)))
    kept-more =
        let before : List ℕ = joined is.before in
        let all : List ℕ = before ++ is.come in
        let size : length all ≡ length before + length is.come = length-append before is.come in
        ap (λ l. l ++ plain) is.kept
        ∙ sym (drop-append-le (length before) (descrambled_octets all) plain
        (omega (arith, length-descrambled_octets all, size)))
        ∙ sym (drop_further (unknown is.settled) (length before) (descrambled_octets (all ++ more))
        (descrambled_octets all ++ plain)
        (unknown_within is.settled before is.known) (descrambles.answer is.settled all is.run.given))
        ∙ ap (λ l. drop (length before) (descrambled_octets l)) (append_assoc before is.come more)

    keep-part : length more < left →
        Taken (holding old (SyncArea (left - length more)) next
        (old.area ++ plain)) longest old.corrects first octets more []
    keep-part few =
        let come : List ℕ = is.come ++ more in
        to-area (holding old (SyncArea (left - length more)) next (old.area ++ plain)) longest first octets more limit
        is.ended is.settled is.before []
        (append-nil (ends longest old.corrects first octets)
        ∙ ends-area longest old.corrects first octets is.ended is.settled is.before is.header is.come left
        is.headed is.part is.run.leaves) is.header come (left - length more)
        (headed-more _ is.header is.come more left (left - length more) (omega (arith, few)) is.headed)
        (omega (arith, few)) (omega (arith, is.fits, few, length-append is.come more))
        (follows-more old first octets is.ended is.settled is.before is.header is.come more
        (SyncArea (left - length more)) next (old.area ++ plain) is.run descrambles.stands) is.known kept-more

    -- what comes of it
    kept-outcome : length more ≡ left →
        area_ends longest is.settled (length (joined is.before))
        (drop (length (joined is.before)) (descrambled_octets (joined is.before ++ (is.come ++ more))))
        ≡ keeping (old.area ++ plain) ∷ []
    kept-outcome all =
        let area : List ℕ = old.area ++ plain in
        let whole : List ℕ = is.come ++ more in
        let size : length area ≡ length whole = ap length kept-more
        ∙ length-descrambled_single (joined is.before) whole in
        ap (area_ends longest is.settled (length (joined is.before))) (sym kept-more)
        ∙ area_ends-fitting longest (length (joined is.before)) is.settled area is.known
        (omega (arith, size, length-append is.come more, is.part, all))
        (omega (arith, size, length-append is.come more, is.fits, is.part, all, limit))

    keep-whole : (area : List ℕ) (told : List AreaEnd) → length more ≡ left →
        keeping (old.area ++ plain) ∷ [] ≡ told →
        Taken (holding old (SyncHeader 0) next area) longest old.corrects first octets more told
    keep-whole area told all outcome =
        whole-area area is.ended is.settled is.before is.header is.come told all is.part is.headed is.run
        descrambles.stands (kept-outcome all ∙ outcome)

  -- ---- an area that is dropped
  module _ (why : AreaWhy) (is : InSyncPassing left why old first octets)
      (passes : Continues old.descrambling next more)
    where
      pass-part : length more < left →
          Taken (holding old (SyncPassing
          (left - length more) why) next old.area) longest old.corrects first octets more []
      pass-part few =
          let come : List ℕ = is.come ++ more in
          to-passing (holding old (SyncPassing (left - length more) why) next old.area) longest first octets more limit
          is.ended is.settled is.before []
          (append-nil (ends longest old.corrects first octets)
          ∙ ends-area longest old.corrects first octets is.ended is.settled is.before is.header is.come left
          is.headed is.part is.run.leaves) is.header come (left - length more) why
          (headed-more _ _ _ more _ (left - length more) (omega (arith, few)) is.headed) (omega (arith, few))
          (follows-more old _ _ _ _ _ is.header _ more (SyncPassing (left - length more) why) next old.area
          is.run passes) (λ area size. is.dropped area (omega (arith, size, few, length-append is.come more)))

      pass-whole : length more ≡ left →
          Taken (holding old (SyncHeader 0) next old.area) longest old.corrects first octets more (passing why ∷ [])
      pass-whole all =
          let whole : List ℕ = is.come ++ more in
          let area : List ℕ = drop (length (joined is.before)) (descrambled_octets (joined is.before ++ whole)) in
          let size : length area ≡ length is.come + left =
          omega (arith, length-descrambled_single (joined is.before) whole, length-append is.come more, all) in
          whole-area old.area is.ended is.settled is.before is.header is.come (passing why ∷ []) all is.part is.headed
          is.run passes
          (ap (λ most. area_ends most is.settled (length (joined is.before)) area) (sym limit) ∙ is.dropped area size)

-- ---- the same for all octets that may have come
module _ (old : Progress) (more : List ℕ) (left : ℕ) where
  -- those that leave some of the area bring nothing
  pub Adds-area : length more < left → old.phase ≡ SyncArea left → Adds old more []
  Adds-area few was =
      Adds-in old more [] (SyncArea left) was
      (λ longest first octets is.
      area-goes_on old longest first octets more left is.ended _ is.before _ is.come few is.headed is.run)

  pub Adds-passing : (why : AreaWhy) → length more < left → old.phase ≡ SyncPassing left why → Adds old more []
  Adds-passing why few was =
      Adds-in old more [] (SyncPassing left why) was
      (λ longest first octets is.
      area-goes_on old longest first octets more left is.ended _ is.before _ is.come few is.headed is.run)

  module _ (next : Descrambling) (plain : List ℕ) (was : old.phase ≡ SyncArea left)
      (descrambles : Descrambles old.descrambling next more plain) where
    pub Takes-keep-part : length more < left →
        Takes old (holding old (SyncArea (left - length more)) next (old.area ++ plain)) more []
    Takes-keep-part few =
        Takes-in old (holding old (SyncArea (left - length more)) next (old.area ++ plain)) more [] _ was
        (λ longest first octets limit is. keep-part old _ first _ more limit left next _ is descrambles few)

    pub Takes-keep-whole : (told : List AreaEnd) → length more ≡ left →
        keeping (old.area ++ plain) ∷ [] ≡ told →
        Takes old (holding old (SyncHeader 0) next (old.area ++ plain)) more told
    Takes-keep-whole told all outcome =
        Takes-in old (holding old (SyncHeader 0) next (old.area ++ plain)) more told (SyncArea left) was
        (λ longest first octets limit is. keep-whole old longest first octets more limit left next plain is descrambles
        (old.area ++ plain) told all outcome)

  module _ (next : Descrambling) (why : AreaWhy) (was : old.phase ≡ SyncPassing left why)
      (passes : Continues old.descrambling next more) where
    pub Takes-pass-part : length more < left →
        Takes old (holding old (SyncPassing (left - length more) why) next old.area) more []
    Takes-pass-part few =
        Takes-in old (holding old (SyncPassing (left - length more) why) next old.area) more [] _ was
        (λ longest first octets limit is. pass-part old _ first octets more limit left next why is passes few)

    pub Takes-pass-whole : length more ≡ left →
        Takes old (holding old (SyncHeader 0) next old.area) more (passing why ∷ [])
    Takes-pass-whole all =
        Takes-in old (holding old (SyncHeader 0) next old.area) more (passing why ∷ []) (SyncPassing left why) was
        (λ longest first octets limit is. pass-whole old longest first octets more limit left next why is passes all)
