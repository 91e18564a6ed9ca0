-- How far a receiver is in each phase: the areas that ended, its window and the state SYNC, with more octets.
use Rattle.std.proofs.Common.{◌≡◌, ℕ, ◌+◌, ◌-◌, ◌<◌, Bool, true, false, List, [], ◌∷◌, ◌++◌, length, drop, Some, sym}
use Rattle.std.proofs.Common.{◌∙◌, ap, subst, arith, length-append, length-drop, flat_map, append-nil, drop-drop}
use Rattle.std.proofs.Common.{Option, append_assoc}
use Rattle.std.proofs.lemmas.List.{drop-append-le, drop_all}
use Rattle.law_model.specs.Common.{head, Run}
use Rattle.gfp_delineate.specs.declared.hunt_presync_sync.Phase.{Phase}
use Rattle.gfp_delineate.specs.declared.hunt_presync_sync.Phase.TheVariants.{Hunt, PresyncArea, PresyncHeader}
use Rattle.gfp_delineate.specs.declared.hunt_presync_sync.Phase.TheVariants.{SyncHeader, SyncArea, SyncPassing}
use Rattle.gfp_delineate.specs.LeftOpen.{LeftOpen, searching, running, Leaves}
use Rattle.gfp_delineate.specs.ReceivedAreas.{AreaEnd, end_of, run_ends, ends, reader, is_sync_by, Progress, Searches}
use Rattle.gfp_delineate.specs.ReceivedAreas.{Headed, InHunt, IsIn, IsAt, Goes, Adds}
use Rattle.gfp_delineate.proofs.LeftOpenSegmentLaws.{Rests, Rests-few, Rests-unconfirmed, Rests-header, Rests-area}
use Rattle.gfp_delineate.proofs.LeftOpenSegmentLaws.{Leaves-none, runs-Leaves, sync-Leaves}
use Rattle.gfp_delineate.proofs.AreaOutcomeLaws.{outcomes_of-push}
use Rattle.gfp_scramble.specs.Descrambler as descrambler

-- ---- What a receiver knows in each phase, seen in outcomes and in the state SYNC.
-- ---- outcomes
-- those of the runs that ended
abbrev pub ends_of : ℕ → List Run → List AreaEnd
ends_of longest ended = flat_map (run_ends longest) ended

-- and those of the run that goes on
abbrev pub ends_with : ℕ → List Run → Bool → List (List ℕ) → List AreaEnd
ends_with longest ended settled before =
    ends_of longest ended ++ run_ends longest (record { settled = settled; areas = before })

module _ (longest : ℕ) (corrects first : Bool) (octets : List ℕ) (ended : List Run) (standing : LeftOpen)
    (leaves : Leaves head (reader corrects) first octets ended standing) where
  ends-search : Rests head (reader corrects) standing [] false →
      ends longest corrects first octets ≡ ends_of longest ended
  ends-search rests =
      ap (ends_of longest) (runs-Leaves head (reader corrects) first octets ended standing [] false leaves rests
      ∙ append-nil ended)

  ends-run : (settled : Bool) (before : List (List ℕ)) →
      Rests head (reader corrects) standing (record { settled = settled; areas = before } ∷ []) true →
      ends longest corrects first octets ≡ ends_with longest ended settled before
  ends-run settled before rests =
      let run : Run = record { settled = settled; areas = before } in
      ap (ends_of longest) (runs-Leaves head (reader corrects) first octets ended standing (run ∷ []) true leaves rests)
      ∙ outcomes_of-push (end_of longest) ended run

-- ---- what is open in each phase
part-few : (have : ℕ) (window : List ℕ) → have < 4 → length window ≡ 4 → length (drop (4 - have) window) < 4
part-few have window part four = omega (arith, length-drop (4 - have) window, part, four)

-- HUNT and PRESYNC
module _ (progress : Progress) (longest : ℕ) (first : Bool) (octets : List ℕ) (ended : List Run) (settled : Bool) where
  pub ends-hunt : (have : ℕ) → have < 4 →
      Searches progress first octets ended settled (drop (4 - have) progress.window) →
      ends longest progress.corrects first octets ≡ ends_of longest ended
  ends-hunt have part search =
      ends-search longest progress.corrects first octets ended _ search.leaves
      (Rests-few head (reader progress.corrects) settled (drop (4 - have) progress.window)
      (part-few have progress.window part search.window))

  pub ends-presync : (header last : List ℕ) (pli : ℕ) → length header ≡ 4 → head header ≡ Some pli →
      length last < 4 + pli → Searches progress first octets ended settled (header ++ last) →
      ends longest progress.corrects first octets ≡ ends_of longest ended
  ends-presync header last pli size found short search =
      ends-search longest progress.corrects first octets ended (searching settled (header ++ last)) search.leaves
      (Rests-unconfirmed head (reader progress.corrects) settled header last pli size found short)

-- SYNC
module _ (longest : ℕ) (corrects first : Bool) (octets : List ℕ) (ended : List Run) (settled : Bool)
    (before : List (List ℕ)) where
  pub ends-header : (last : List ℕ) → length last < 4 →
      Leaves head (reader corrects) first octets ended (running settled before last) →
      ends longest corrects first octets ≡ ends_with longest ended settled before
  ends-header last few leaves =
      ends-run longest corrects first octets ended (running settled before last) leaves settled before
      (Rests-header head (reader corrects) settled before last few)

  pub ends-area : (header come : List ℕ) (left : ℕ) → Headed (reader corrects) header come left → 0 < left →
      Leaves head (reader corrects) first octets ended (running settled before (header ++ come)) →
      ends longest corrects first octets ≡ ends_with longest ended settled before
  ends-area header come left headed part leaves =
      ends-run longest corrects first octets ended (running settled before (header ++ come)) leaves settled before
      (Rests-area head (reader corrects) settled before header come (length come + left) headed.size headed.found
      (omega (arith, part)))

-- no outcome
pub nothing : (longest : ℕ) (corrects first : Bool) (octets more : List ℕ) (all : List AreaEnd) →
    ends longest corrects first octets ≡ all → ends longest corrects first (octets ++ more) ≡ all →
    ends longest corrects first (octets ++ more) ≡ ends longest corrects first octets ++ []
nothing longest corrects first octets more all was now = now ∙ sym was ∙ sym (append-nil
    (ends longest corrects first octets))

-- ---- the window
module _ (window : List ℕ) (four : length window ≡ 4) where
  -- fewer than four octets of it
  pub window-few : (have : ℕ) → have < 4 → length (drop (4 - have) window) < 4
  window-few have part = part-few have window part four

  -- with one more octet
  pub length-shifted : (octet : ℕ) → length (drop 1 window ++ octet ∷ []) ≡ 4
  length-shifted octet = omega (arith, length-append (drop 1 window) (octet ∷ []), length-drop 1 window)

  pub window-more : (have octet : ℕ) → have < 4 →
      drop (4 - have) window ++ octet ∷ [] ≡ drop (4 - (have + 1)) (drop 1 window ++ octet ∷ [])
  window-more have octet more =
      let less : 1 + (4 - (have + 1)) ≡ 4 - have = omega arith in
      ap (λ front. front ++ octet ∷ [])
      (ap (λ count. drop count window) (sym less) ∙ sym (drop-drop (4 - (have + 1)) 1 window))
      ∙ sym (drop-append-le (4 - (have + 1)) (drop 1 window) (octet ∷ []) (omega (arith, length-drop 1 window)))

  -- the fourth octet
  pub window-whole : (have octet : ℕ) → have ≡ 3 → drop (4 - have) window ++ octet ∷ [] ≡ drop 1 window ++ octet ∷ []
  window-whole have octet whole = ap (λ have. drop (4 - have) window ++ octet ∷ []) whole

  -- no octet
  pub window-none : drop (4 - 0) window ≡ []
  window-none = drop_all 4 window (omega (arith, four))

-- ---- the state
-- a phase of SYNC
abbrev pub in_sync : Phase → Bool
in_sync (Hunt have) = false
in_sync (PresyncArea left) = false
in_sync (PresyncHeader have) = false
in_sync (SyncHeader have) = true
in_sync (SyncArea left) = true
in_sync (SyncPassing left why) = true

is_sync-search : (corrects first : Bool) (octets : List ℕ) (ended : List Run) (standing : LeftOpen) →
    Leaves head (reader corrects) first octets ended standing → Rests head (reader corrects) standing [] false →
    is_sync_by corrects octets ≡ false
is_sync-search corrects first octets ended standing leaves rests =
    sync-Leaves head (reader corrects) first octets ended standing [] false leaves rests false

is_sync-run : (corrects first : Bool) (octets : List ℕ) (ended : List Run) (standing : LeftOpen) (run : Run) →
    Leaves head (reader corrects) first octets ended standing → Rests head (reader corrects) standing (run ∷ []) true →
    is_sync_by corrects octets ≡ true
is_sync-run corrects first octets ended standing run leaves rests =
    sync-Leaves head (reader corrects) first octets ended standing (run ∷ []) true leaves rests false

is_sync-IsIn : (phase : Phase) (progress : Progress) (first : Bool) (octets : List ℕ) →
    IsIn phase progress first octets → is_sync_by progress.corrects octets ≡ in_sync phase
is_sync-IsIn (Hunt have) progress first octets is =
    let last : List ℕ = drop (4 - have) progress.window in
    is_sync-search progress.corrects first octets is.ended (searching is.settled last) is.search.leaves
    (Rests-few head (reader progress.corrects) is.settled last (part-few have progress.window is.part is.search.window))
is_sync-IsIn (PresyncArea left) progress first octets is =
    is_sync-search progress.corrects first octets is.ended (searching is.settled
    (is.header ++ is.come)) is.search.leaves
    (Rests-unconfirmed head (reader progress.corrects) is.settled is.header is.come
    (length is.come + left) is.headed.size is.headed.found
    (omega arith))
is_sync-IsIn (PresyncHeader have) progress first octets is =
    let last : List ℕ = is.come ++ drop (4 - have) progress.window in
    is_sync-search progress.corrects first octets is.ended (searching is.settled (is.header ++ last)) is.search.leaves
    (Rests-unconfirmed head (reader progress.corrects) is.settled is.header last
    (length is.come + 0) is.headed.size is.headed.found
    (omega (
      arith,
      length-append is.come (drop (4 - have) progress.window),
      part-few have progress.window is.part is.search.window,
    )))
is_sync-IsIn (SyncHeader have) progress first octets is =
    let last : List ℕ = drop (4 - have) progress.window in
    is_sync-run progress.corrects first octets is.ended _ (record { settled = is.settled; areas = is.before })
    is.run.leaves (Rests-header head (reader progress.corrects) is.settled is.before last
    (part-few have progress.window is.part is.run.window))
is_sync-IsIn (SyncArea left) progress first octets is =
    is_sync-run progress.corrects first octets is.ended _ (record { settled = is.settled; areas = is.before })
    is.run.leaves (Rests-area head (reader progress.corrects) is.settled is.before is.header is.come
    (length is.come + left) is.headed.size is.headed.found (omega (arith, is.part)))
is_sync-IsIn (SyncPassing left why) progress first octets is =
    is_sync-run progress.corrects first octets is.ended _ (record { settled = is.settled; areas = is.before })
    is.run.leaves (Rests-area head (reader progress.corrects) is.settled is.before is.header is.come
    (length is.come + left) is.headed.size is.headed.found (omega (arith, is.part)))

pub is_sync-IsAt : (progress : Progress) (longest : ℕ) (corrects first : Bool) (octets : List ℕ) →
    IsAt progress longest corrects first octets → is_sync_by corrects octets ≡ in_sync progress.phase
is_sync-IsAt progress longest corrects first octets at =
    ap (λ corrects. is_sync_by corrects octets) (sym at.setting)
    ∙ is_sync-IsIn progress.phase progress first octets at.phase

-- ---- no octet has come
pub IsAt-start : (progress : Progress) (longest : ℕ) (corrects first : Bool) → progress.phase ≡ Hunt 0 →
    progress.longest ≡ longest → progress.corrects ≡ corrects → length progress.window ≡ 4 →
    descrambler.DescramblerStands progress.descrambling first [] →
    IsAt progress longest corrects first []
IsAt-start progress longest corrects first begun limit setting four given =
    let is : InHunt 0 progress first [] = record {
      ended = [];
      settled = first;
      part = omega arith;
      search = record {
        leaves = subst (λ last. Leaves head (reader progress.corrects) first [] [] (searching first last))
            (sym (window-none progress.window four)) (Leaves-none head (reader progress.corrects) first);
        given = given;
        window = four;
      };
    } in
    record { limit = limit; setting = setting; phase = subst (λ phase. IsIn phase progress first []) (sym begun) is }

-- ---- What more octets make of how far a receiver is, whatever came before them.
-- it is as far as they lead, and these areas end
pub record Takes (old new : Progress) (more : List ℕ) (come : List AreaEnd) : Type 0 where
  pub stands : Goes old new more
  pub outcome : Adds old more come

-- seen in the value and in the fields of a receiver
pub seen : (old view : Progress) (new : Progress → Progress) (more : List ℕ) (come : List AreaEnd) → view ≡ old →
    Takes old (new old) more come → Goes old (new view) more × Adds old more come
seen old view new more come same takes =
    let all : Takes old (new view) more come =
    subst (λ (seen : Progress). Takes old (new seen) more come) (sym same) takes in
    (all.stands, all.outcome)

-- what a reader says of the last four octets
pub read-window : (read : List ℕ → Option ℕ) (old view : Progress) (octet : ℕ) (window : List ℕ)
    (result found : Option ℕ) → view ≡ old →
    window ≡ drop 1 view.window ++ octet ∷ [] → result ≡ read window → result ≡ found →
    read (drop 1 old.window ++ octet ∷ []) ≡ found
read-window read old view octet window result found same shifted said is =
    ap (λ (seen : Progress). read (drop 1 seen.window ++ octet ∷ [])) (sym same) ∙ ap read (sym shifted)
    ∙ sym said ∙ is

-- the two parts apart and together
pub told : (old new : Progress) (more : List ℕ) (come : List AreaEnd) → Takes old new more come → Goes old new more ×
    Adds old more come
told old new more come takes = (takes.stands, takes.outcome)

pub tell : (old new : Progress) (more : List ℕ) (come : List AreaEnd) → Goes old new more × Adds old more come →
    Takes old new more come
tell old new more come parts = record { stands = parts.0; outcome = parts.1 }

-- ---- octets of a segment of which these have come
pub record Taken (new : Progress) (longest : ℕ) (corrects first : Bool) (octets more : List ℕ)
    (come : List AreaEnd) : Type 0 where
  pub stands : IsAt new longest corrects first (octets ++ more)
  pub outcome : ends longest corrects first (octets ++ more) ≡ ends longest corrects first octets ++ come

pub Takes-in : (old new : Progress) (more : List ℕ) (come : List AreaEnd) (phase : Phase) → old.phase ≡ phase →
    ((longest : ℕ) (first : Bool) (octets : List ℕ) → old.longest ≡ longest → IsIn phase old first octets →
    Taken new longest old.corrects first octets more come) → Takes old new more come
Takes-in old new more come phase was taken =
    let all : (longest : ℕ) (corrects first : Bool) (octets : List ℕ) → IsAt old longest corrects first octets →
    Taken new longest corrects first octets more come =
    λ longest corrects first octets at.
    subst (λ corrects. Taken new longest corrects first octets more come) at.setting
    (taken longest first octets at.limit (subst (λ phase. IsIn phase old first octets) was at.phase)) in
    record {
      stands = λ longest corrects first octets at. (all longest corrects first octets at).stands;
      outcome = λ longest corrects first octets at. (all longest corrects first octets at).outcome;
    }

pub Adds-in : (old : Progress) (more : List ℕ) (come : List AreaEnd) (phase : Phase) → old.phase ≡ phase →
    ((longest : ℕ) (first : Bool) (octets : List ℕ) → IsIn phase old first octets →
    ends longest old.corrects first (octets ++ more) ≡ ends longest old.corrects first octets ++ come) →
    Adds old more come
Adds-in old more come phase was added = λ longest corrects first octets at.
    subst (λ corrects. ends longest corrects first (octets ++ more) ≡ ends longest corrects first octets ++ come)
    at.setting (added longest first octets (subst (λ phase. IsIn phase old first octets) was at.phase))

-- ---- one part after another
pub Takes-none : (progress : Progress) → Takes progress progress [] []
Takes-none progress = record {
  stands = λ longest corrects first octets at. subst (λ all. IsAt progress longest corrects first all) (sym
      (append-nil octets)) at;
  outcome = λ longest corrects first octets at. ap (ends longest corrects first) (append-nil octets)
      ∙ sym (append-nil (ends longest corrects first octets));
}

pub Adds-then : (old middle : Progress) (part more : List ℕ) (come : List AreaEnd) → Takes old middle part [] →
    Adds middle more come → Adds old (part ++ more) come
Adds-then old middle part more come one other = λ longest corrects first octets at.
    ap (ends longest corrects first) (sym (append_assoc octets part more))
    ∙ other longest corrects first (octets ++ part) (one.stands longest corrects first octets at)
    ∙ ap (λ l. l ++ come) (one.outcome longest corrects first octets at ∙ append-nil
    (ends longest corrects first octets))

pub Takes-then : (old middle new : Progress) (part more : List ℕ) (come : List AreaEnd) → Takes old middle part [] →
    Takes middle new more come → Takes old new (part ++ more) come
Takes-then old middle new part more come one other = record {
  stands = λ longest corrects first octets at.
      subst (λ all. IsAt new longest corrects first all) (append_assoc octets part more)
      (other.stands longest corrects first (octets ++ part) (one.stands longest corrects first octets at));
  outcome = Adds-then old middle part more come one other.outcome;
}
