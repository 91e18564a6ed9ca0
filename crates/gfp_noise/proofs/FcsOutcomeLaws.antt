-- What comes of an area by its FCS and by how it ended, and the report of such outcomes.
use Rattle.std.proofs.Common.{◌≡◌, ◌≢◌, ℕ, ◌-◌, ◌^◌, ◌<◌, ◌≤◌, Bool, true, false, List, ◌++◌, length, map, take, drop}
use Rattle.std.proofs.Common.{Some, inl, inr, refl, sym, ◌∙◌, ap, ap₂, subst, arith, w32, mod-eq_of_lt, length-drop}
use Rattle.std.proofs.Common.{length-take, nat_lt, if◌then◌else◌, ◌↔◌, IsTrue, IfSome, option_to_list, bytes_eq, le-leb}
use Rattle.std.proofs.Common.{le-ltb, take_all, ◌+◌, [], ◌∷◌, append-nil}
use Rattle.std.specs.Int.{to_be_bytes}
use Rattle.std.proofs.lemmas.Slice.Eq.{bytes_eq-Decides}
use Rattle.std.proofs.lemmas.Bool.{lt-leb, cases_lt}
use Rattle.check_remainder.proofs.NumberAndOctetBitsLaws.{number-bits, octet_bits-bytes_high_first}
use Rattle.law_model.specs.Common.{number, head, longest_extended_area, longest_frame, delineate_within, hunt_within}
use Rattle.check_crc32.specs.Crc32.{fcs_of}
use Rattle.gfp_model.specs.declared.fcs_model.FcsWhy.TheVariants.{TooLong, Fcs}
use Rattle.gfp_model.specs.fcs_model.NearHeader.{near}
use Rattle.gfp_model.specs.fcs_model.Fcs.{FcsOutcome, delivery, dropping, word_of, by_check, by_size, by_type}
use Rattle.gfp_model.specs.fcs_model.Fcs.{fcs_type_fault, fcs_outcome, frame_in}
use Rattle.gfp_delineate.specs.declared.hunt_presync_sync.AreaWhy.TheVariants.{TooLong as IsLong}
use Rattle.gfp_delineate.specs.declared.hunt_presync_sync.AreaStep.{AreaStep}
use Rattle.gfp_delineate.specs.declared.hunt_presync_sync.AreaStep.TheVariants.{Area}
use Rattle.gfp_delineate.specs.ReceivedAreas.{AreaEnd, keeping, passing, end_of, ends_told, Progress, Adds}
use Rattle.gfp_delineate.proofs.AreaOutcomeLaws.{outcomes_more-map}
use Rattle.gfp_noise.specs.declared.gfp_fcs.fcs_delineator.FcsStep.{FcsStep}
use Rattle.gfp_noise.specs.declared.gfp_fcs.fcs_delineator.FcsStep.TheVariants.{Frame}
use Rattle.gfp_noise.specs.gfp_fcs.Delineator.{FcsReceiver, fcs_outcomes, info_of, frame_of, outcomes_told, told_fcs}
use Rattle.gfp_noise.specs.gfp_fcs.Delineator.{fcs_of_end, FcsReceiverStands}
use Rattle.std.proofs.lemmas.List.Concat.{flat_map-append}
use Rattle.gfp_model.specs.declared.fcs_model.FcsWhy.{FcsWhy}
use Rattle.text_report.specs.ReportLines.{got_texts}
use Rattle.gfp_noise.specs.declared.noise_link.noise_draft.Noise.{Noise}
use Rattle.gfp_noise.specs.noise_link.NoiseReportText.{received, delivered, why_in, causes, counts_text, outcomes_text}
use Rattle.gfp_noise.specs.noise_link.NoiseReportText.{noise_text}

-- ---- What comes of an area, by its size and its FCS, and by how it ended.
-- ---- a whole area
-- the number of four octets
word-is : (n : ℕ) → n < 2 ^ 32 → word_of (to_be_bytes w32 n) ≡ n
word-is n small = ap number (octet_bits-bytes_high_first 4 n) ∙ number-bits 32 n ∙ mod-eq_of_lt small

-- other octets
eq_by : (a b : List ℕ) (same : Bool) → bytes_eq a b ≡ same → a ≢ b → bytes_eq a b ≡ false
eq_by a b true e other = absurd (other ((bytes_eq-Decides a b).0 e))
eq_by a b false e other = e

-- the last four octets
pub last-four : (area : List ℕ) → 12 ≤ length area →
    take 4 (take (length area - (length area - 4)) (drop (length area - 4) area)) ≡ drop (length area - 4) area
last-four area room =
    let last : List ℕ = drop (length area - 4) area in
    let size : length last ≡ length area - (length area - 4) = length-drop (length area - 4) area in
    ap (take 4) (take_all (length area - (length area - 4)) last (omega (arith, size)))
    ∙ take_all 4 last (omega (arith, size, room))

module _ (area : List ℕ) (room : 12 ≤ length area) (said found : ℕ) (fits : said < 2 ^ 32) (also : found < 2 ^ 32)
    (last : to_be_bytes w32 said ≡ drop (length area - 4) area) (check : to_be_bytes w32 found ≡ fcs_of (info_of area))
  where
    sized : by_size area ≡ by_check (to_be_bytes w32 said) (info_of area)
    sized = rw (le-ltb (length area) 12 room) (ap (λ said. by_check said (info_of area)) (sym last))

    pub sized-right : said ≡ found → by_size area ≡ delivery (info_of area)
    sized-right same =
        let is : bytes_eq (to_be_bytes w32 said) (fcs_of (info_of area)) ≡ true =
        (bytes_eq-Decides (to_be_bytes w32 said) (fcs_of (info_of area))).1 (ap (to_be_bytes w32) same ∙ check) in
        sized ∙ rw is refl

    pub sized-wrong : said ≢ found → by_size area ≡ dropping (Fcs said found)
    sized-wrong other =
        let differ : to_be_bytes w32 said ≢ fcs_of (info_of area) = λ e.
        other (sym (word-is said fits) ∙ ap word_of (e ∙ sym check) ∙ word-is found also) in
        sized
        ∙ rw (eq_by (to_be_bytes w32 said) (fcs_of (info_of area))
        (bytes_eq (to_be_bytes w32 said) (fcs_of (info_of area))) refl differ)
        (ap₂ (λ said found. dropping (Fcs said found)) (word-is said fits)
        (ap word_of (sym check) ∙ word-is found also))

-- ---- how an area ended
by_length : (long : Bool) (area : List ℕ) →
    (if long then dropping (TooLong (length area)) else by_type (fcs_type_fault (take 4 area)) area)
    ≡ fcs_of_end (if long then passing (IsLong (length area)) else keeping area)
by_length true area = refl
by_length false area = refl

fcs_outcome-end : (settled : Bool) (area : List ℕ) → fcs_outcome settled area ≡ fcs_of_end (end_of longest_extended_area settled area)
fcs_outcome-end true area = by_length (nat_lt longest_extended_area (length area)) area
fcs_outcome-end false area = refl

-- what more octets bring, of the areas that end with them
pub outcomes-ends : (was : FcsReceiver) (octets more : List ℕ) (come : List AreaEnd) (told : List FcsOutcome) →
    told ≡ map fcs_of_end come → Adds was.progress more come → FcsReceiverStands was octets →
    fcs_outcomes (octets ++ more) ≡ fcs_outcomes octets ++ told
outcomes-ends was octets more come told same adds stands =
    outcomes_more-map (end_of longest_extended_area) fcs_outcome fcs_of_end fcs_outcome-end head near
    true octets more come (adds longest_extended_area true true octets stands)
    ∙ ap (λ l. fcs_outcomes octets ++ l) (sym same)

-- ---- what an answer tells, where a frame is held exactly at the answer Frame
frame-held : (progress : Progress) (holds : Bool) → IsTrue holds → 12 ≤ length progress.area →
    frame_of (record { progress = progress; holds = holds }) ≡ Some (info_of progress.area)
frame-held progress true held room = rw (le-leb 12 (length progress.area) room) refl
frame-held progress false held room = absurd cc

outcomes-held : (progress : Progress) (holds : Bool) (step : FcsStep) → (IsTrue holds ↔ (step ≡ Frame)) →
    (step ≡ Frame → 12 ≤ length progress.area) →
    outcomes_told (Some (info_of progress.area)) step ≡ told_fcs (record { progress = progress; holds = holds }) step
outcomes-held progress holds Frame held room =
    ap (λ frame. map delivery (option_to_list frame)) (sym (frame-held progress holds (held.1 refl) (room refl)))
outcomes-held progress holds step held room = refl

pub told-ends : (progress : Progress) (holds : Bool) (end : AreaStep) (step : FcsStep) (area : List ℕ) →
    (IsTrue holds ↔ (step ≡ Frame)) → area ≡ progress.area →
    outcomes_told (Some (info_of area)) step ≡ map fcs_of_end (ends_told area end) →
    (step ≡ Frame → 12 ≤ length area) →
    told_fcs (record { progress = progress; holds = holds }) step ≡ map fcs_of_end (ends_told progress.area end)
told-ends progress holds end step area held same is room =
    sym (outcomes-held progress holds step held
    (λ e. subst (λ (area : List ℕ). 12 ≤ length area) same (room e)))
    ∙ subst (λ area. outcomes_told (Some (info_of area)) step ≡ map fcs_of_end (ends_told area end)) same is

-- it is no longer than a frame may be
pub short-ends : (progress : Progress) (holds : Bool) (end : AreaStep) (step : FcsStep) →
    (IsTrue holds ↔ (step ≡ Frame)) → progress.longest ≡ longest_extended_area → (step ≡ Frame → end ≡ Area) →
    (end ≡ Area → length progress.area ≤ progress.longest) →
    IfSome (frame_of (record { progress = progress; holds = holds })) (λ frame. length frame ≤ longest_frame)
short-ends progress false end step held limit frame greatest = tt
short-ends progress true end step held limit frame greatest =
    let area : List ℕ = progress.area in
    elim (cases_lt (length area) 12) [
      | inl few ↦ rw (lt-leb 12 (length area) few) tt
      | inr room ↦ rw (le-leb 12 (length area) room)
          (omega (arith, length-take (length area - 8) (drop 4 area), limit, greatest (frame (held.0 refl))))
    ]

-- ---- The text of what was received.
-- nothing comes of no octets
pub none-come : fcs_outcomes [] ≡ []
unfolding delineate_within hunt_within
none-come = refl

-- the lines of all frames, and then the counts
pub text-is : (noise : Noise) (octets line : List ℕ) (frames flips got dropped : ℕ) → octets ≡ received noise
    → frames ≡ length noise.frames → flips ≡ length noise.flips → got ≡ length (delivered (fcs_outcomes octets))
    → dropped ≡ length (causes (fcs_outcomes octets)) → line ≡ counts_text frames flips got dropped
    → got_texts (delivered (fcs_outcomes octets)) ++ line ≡ noise_text noise
text-is noise octets line frames flips got dropped stream sent turned came lost is =
    ap (λ l. got_texts (delivered (fcs_outcomes octets)) ++ l)
    (is
    ∙ ap (λ n. counts_text n flips got dropped) sent
    ∙ ap (λ n. counts_text (length noise.frames) n got dropped) turned
    ∙ ap (λ n. counts_text (length noise.frames) (length noise.flips) n dropped) came
    ∙ ap (λ n. counts_text (length noise.frames) (length noise.flips) (length (delivered (fcs_outcomes octets))) n)
    lost)
    ∙ ap (λ l. outcomes_text (length noise.frames) (length noise.flips) (fcs_outcomes l)) stream

-- ---- one outcome more
pub delivered-frame : (outcomes all : List FcsOutcome) (frame : List ℕ) → all ≡ outcomes ++ delivery frame ∷ []
    → delivered all ≡ delivered outcomes ++ frame ∷ []
delivered-frame outcomes all frame e = ap delivered e ∙ flat_map-append frame_in outcomes (delivery frame ∷ [])

pub causes-frame : (outcomes all : List FcsOutcome) (frame : List ℕ) → all ≡ outcomes ++ delivery frame ∷ []
    → causes all ≡ causes outcomes
causes-frame outcomes all frame e =
    ap causes e ∙ flat_map-append why_in outcomes (delivery frame ∷ []) ∙ append-nil (causes outcomes)

pub delivered-drop : (outcomes all : List FcsOutcome) (why : FcsWhy) → all ≡ outcomes ++ dropping why ∷ []
    → delivered all ≡ delivered outcomes
delivered-drop outcomes all why e =
    ap delivered e ∙ flat_map-append frame_in outcomes (dropping why ∷ []) ∙ append-nil (delivered outcomes)

pub causes-drop : (outcomes all : List FcsOutcome) (why : FcsWhy) → all ≡ outcomes ++ dropping why ∷ []
    → causes all ≡ causes outcomes ++ why ∷ []
causes-drop outcomes all why e = ap causes e ∙ flat_map-append why_in outcomes (dropping why ∷ [])
