-- Numbered VC-4s, and how many begin, end, come whole or are cut in the parts of a stream.
use Rattle.std.proofs.Common.{◌≡◌, ℕ, ◌+◌, ◌*◌, ◌<◌, ◌≤◌, ◌↔◌, List, [], ◌∷◌, ◌++◌, map, take, refl, ◌∙◌, ap, arith}
use Rattle.std.proofs.Common.{zero, suc, ◌-◌, ◌%◌, length, sym, ap₂, append_assoc, append-nil, length-append, drop}
use Rattle.std.proofs.Common.{flat_map, fold, length-take-le, length-drop, Option}
use Rattle.member_au4.specs.declared.au4_pointer.au_frame.Action.{Action}
use Rattle.member_au4.specs.declared.au4_pointer.au_frame.Action.TheVariants.{Keep, Up, Down, New}
use Rattle.member_au4.specs.au4_pointer.PointerWord.{next_value}
use Rattle.member_au4.specs.au4_pointer.StreamPart.{Part, begins, ends, next_part, first_part, parts_from, flow, begun}
use Rattle.member_au4.specs.au4_pointer.StreamPart.{part_after, ending, whole}
use Rattle.member_au4.specs.au4_pointer.Source.{last_octets}
use Rattle.member_au4.specs.au4_pointer.SentFrames.{sent_from, sent, datas_from, datas}
use Rattle.member_au4.proofs.PointerSourceAndSinkLaws.{longer, data-of-framed}
use Rattle.std.specs.Int.{w64, to_be_bytes}
use Rattle.std.proofs.lemmas.List.FromFn.{map-range_with_len_more}
use Rattle.member_au4.specs.au4_link.Vcs.{rising, vc_of, first_vcs, IsFed}
use Rattle.member_au4.proofs.VcsOfStreamPartLaws.{begun-after}
use Rattle.member_au4.specs.au4_link.LinkReportText.{in_progress, cut_by, cuts_from, cuts, cut_after, back_of}
use Rattle.member_au4.specs.au4_link.LinkReportText.{end_text, counts_text, HasVcs}
use Rattle.law_model.specs.Common.{Start}
use Rattle.member_au4.specs.au4_pointer.SourceToSink.{Carries}
use Rattle.member_au4.specs.declared.au4_link.numbered_vcs.NumberedVcs.{NumberedVcs}
use Rattle.member_au4.specs.declared.au4_link.au4_report.VcTexts.{VcTexts}
use Rattle.member_au4.specs.au4_pointer.Source as source
use Rattle.member_au4.specs.au4_pointer.Sink as sink

-- ---- The data of the frames of a part, and how many VC-4s begin and end in it.
data-from : (value : ℕ) (part : Part) (actions : List Action) (vcs : List (List ℕ))
    → datas_from (take part.size (flow part vcs)) actions (sent_from value part actions vcs)
    ≡ map (λ (p : Part). take p.size (flow p vcs)) (parts_from part actions)
data-from value part [] vcs = refl
data-from value part (Keep ∷ actions) vcs =
    ap (λ l. datas_from l actions (sent_from value (next_part part Keep) actions vcs))
    (longer part.size 2349 (flow part vcs)) ∙ data-from value (next_part part Keep) actions vcs
data-from value part (Up ∷ actions) vcs =
    ap (λ l. datas_from l actions (sent_from (next_value value Up) (next_part part Up) actions vcs))
    (longer part.size 2346 (flow part vcs)) ∙ data-from (next_value value Up) (next_part part Up) actions vcs
data-from value part (Down ∷ actions) vcs =
    ap (λ l. datas_from l actions (sent_from (next_value value Down) (next_part part Down) actions vcs))
    (ap (λ l. take part.size (flow part vcs) ++ l) (data-of-framed value Down
    (last_octets (next_part part Down) Down vcs)) ∙ longer part.size 2352 (flow part vcs))
    ∙ data-from (next_value value Down) (next_part part Down) actions vcs
data-from value part (New p ∷ actions) vcs = ap (λ l. take part.size (flow part vcs) ∷ l)
    (data-from p (next_part part (New p)) actions vcs)

pub all-data : (start : ℕ) (actions : List Action) (vcs : List (List ℕ))
    → datas_from [] actions (sent start actions vcs) ≡ datas start actions vcs
all-data start actions vcs = data-from start (first_part start) actions vcs

-- ---- how many
pub begins-when : (part : Part) (k : ℕ) → (k < begins part) ↔ (3 * part.value + 2349 * k < part.size)
begins-when part k = (λ h. omega (arith, h), λ h. omega (arith, h))

pub ends-when : (part : Part) (k : ℕ) → (k < ends part) ↔ (3 * part.value + 2349 * (k + 1) ≤ part.size)
ends-when part k = (λ h. omega (arith, h), λ h. omega (arith, h))

-- ---- Numbered VC-4s.
-- ---- octets that rise
rising_more : (count n : ℕ) → 0 < count → rising count n ≡ n % 256 ∷ rising (count - 1) (n + 1)
unfolding rising
rising_more zero n some = absurd (omega (arith, some))
rising_more (suc count) n some = ap (λ k. n % 256 ∷ rising k (n + 1)) (let e : count ≡ suc count - 1 = omega arith in e)

rising_same : (count n m : ℕ) → n % 256 ≡ m % 256 → rising count n ≡ rising count m
unfolding rising
rising_same zero n m e = refl
rising_same (suc count) n m e = ap₂ (λ o r. o ∷ r) e (rising_same count (n + 1) (m + 1) (omega (arith, e)))

-- one octet on
pub rising_next : (all before : List ℕ) (count i n now : ℕ) → all ≡ before ++ rising (count - i) n → i < count
    → n < 256 → now % 256 ≡ (n + 1) % 256 → all ≡ (before ++ n ∷ []) ++ rising (count - (i + 1)) now
rising_next all before count i n now is within small moves =
    is ∙ ap (λ l. before ++ l) (rising_more (count - i) n (omega (arith, within)))
    ∙ ap (λ k. before ++ n % 256 ∷ rising k (n + 1)) (let e : count - i - 1 ≡ count - (i + 1) = omega arith in e)
    ∙ ap (λ o. before ++ o ∷ rising (count - (i + 1)) (n + 1)) (let e : n % 256 ≡ n = omega (arith, small) in e)
    ∙ ap (λ r. before ++ n ∷ r) (rising_same (count - (i + 1)) (n + 1) now (sym moves))
    ∙ sym (append_assoc before (n ∷ []) (rising (count - (i + 1)) now))

-- after the last one
pub rising_end : (all before : List ℕ) (count i n : ℕ) → all ≡ before ++ rising (count - i) n → count ≤ i → before ≡ all
unfolding rising
rising_end all before count i n is past =
    sym (is ∙ ap (λ k. before ++ rising k n) (let e : count - i ≡ 0 = omega (arith, past) in e) ∙ append-nil before)

-- ---- a VC-4
pub vc_is : (number first size : ℕ) → size ≡ 2341 → first % 256 ≡ (number + 8) % 256
    → to_be_bytes w64 number ++ rising size first ≡ vc_of number
unfolding vc_of
vc_is number first size is same =
    ap (λ n. to_be_bytes w64 number ++ rising n first) is
    ∙ ap (λ r. to_be_bytes w64 number ++ r) (rising_same 2341 first (number + 8) same)

-- ---- all that were fed
pub fed_none : IsFed 0 []
unfolding first_vcs
fed_none few = (refl, refl)

first_more : (count : ℕ) → first_vcs (count + 1) ≡ first_vcs count ++ vc_of count ∷ []
unfolding first_vcs
first_more count = map-range_with_len_more vc_of 0 count count (omega arith)

pub fed_more : (next now : ℕ) (vcs : List (List ℕ)) (vc : List ℕ) → IsFed next vcs → vc ≡ vc_of next
    → now ≡ (next + 1) % 18446744073709551616 → IsFed now (vcs ++ vc ∷ [])
fed_more next now vcs vc fed is moves few =
    let long : length (vcs ++ vc ∷ []) ≡ length vcs + 1 = length-append vcs (vc ∷ []) in
    let was = fed (omega (arith, few, long)) in (
      omega (arith, was.0, moves, long, few),
      ap₂ (λ l v. l ++ v ∷ []) was.1 (is ∙ ap vc_of was.0) ∙ sym (first_more (length vcs)) ∙ ap first_vcs (sym long),
    )

-- ---- All VC-4s that begin come whole, are cut, or are in progress at the end.
-- ---- counts
fewer : (part : Part) → ends part ≤ begins part
fewer part = omega arith

length-ending : (part : Part) (vcs : List (List ℕ)) → begun part ≤ length vcs → length (ending vcs part) ≡ ends part
length-ending part vcs enough =
    length-take-le (ends part) (drop part.first vcs)
    (let long = length-drop part.first vcs in
    let less = fewer part in
    let e : ends part ≤ length (drop part.first vcs) = omega (arith, long, less, enough) in
    e)

counted-from : (part : Part) (actions : List Action) (vcs : List (List ℕ))
    → begun (fold next_part part actions) ≤ length vcs
    → length (flat_map (ending vcs) (parts_from part actions)) + cuts_from part actions
    + in_progress (fold next_part part actions) + part.first ≡ begun (fold next_part part actions)
counted-from part [] vcs enough =
    let size : length (ending vcs part ++ []) ≡ ends part = ap length (append-nil (ending vcs part))
    ∙ length-ending part vcs enough in
    let less = fewer part in
    omega (arith, size, less)
counted-from part (New p ∷ more) vcs enough =
    let next = next_part part (New p) in
    let rest = counted-from next more vcs enough in
    let after = begun-after next more in
    let low : begun part ≤ length vcs = omega (arith, after, enough) in
    let size = length-ending part vcs low in
    let less = fewer part in
    let both = length-append (ending vcs part) (flat_map (ending vcs) (parts_from next more)) in
    omega (arith, rest, size, less, both)
counted-from part (a ∷ more) vcs enough =
    let rest = counted-from (next_part part a) more vcs enough in omega (arith, rest)

pub counted : (start : ℕ) (actions : List Action) (vcs : List (List ℕ)) → begun (part_after start actions) ≤ length vcs
    → length (whole start actions vcs) + cuts start actions + in_progress (part_after start actions)
    ≡ begun (part_after start actions)
counted start actions vcs enough =
    let all = counted-from (first_part start) actions vcs enough in omega (arith, all)

-- ---- one frame more
cuts-on : (part : Part) (actions : List Action) (a : Action)
    → cuts_from part (actions ++ a ∷ []) ≡ cuts_from part actions + cut_by (fold next_part part actions) a
cuts-on part [] a = omega arith
cuts-on part (b ∷ actions) a = let rest = cuts-on (next_part part b) actions a in omega (arith, rest)

pub cuts-more : (start : ℕ) (actions : List Action) (a : Action) (vcs : List (List ℕ)) (cut back next : ℕ)
    → begun (part_after start actions) ≤ length vcs → cut ≡ cuts start actions
    → next ≡ begun (part_after start actions) → back ≡ length (whole start actions vcs)
    → cut_after cut next back a ≡ cuts start (actions ++ a ∷ [])
cuts-more start actions (New p) vcs cut back next enough is fed came =
    let on = cuts-on (first_part start) actions (New p) in
    let all = counted start actions vcs enough in
    omega (arith, on, all, fed, came)
cuts-more start actions a vcs cut back next enough is fed came =
    let on = cuts-on (first_part start) actions a in omega (arith, on, is)

-- ---- there are few
two-more : (part : Part) (a : Action) → begun (next_part part a) ≤ begun part + 2
two-more part Keep = omega arith
two-more part a = omega arith

few-from : (part : Part) (actions : List Action) → begun (fold next_part part actions) ≤ begun part + 2 * length actions
few-from part [] = omega arith
few-from part (a ∷ actions) =
    let one = two-more part a in
    let rest = few-from (next_part part a) actions in
    omega (arith, one, rest)

pub begun-few : (start : ℕ) (actions : List Action) → begun (part_after start actions) ≤ 2 * length actions
begun-few start actions = let all = few-from (first_part start) actions in omega (arith, all)

-- ---- What one frame does to numbered VC-4s and the lines of those that come.
abbrev pub feeds : NumberedVcs → Start → List (List ℕ) → Type 0
feeds feed start vcs = IsFed feed.next vcs

abbrev pub gives : {K : Type 0} → (K → Option (List ℕ)) → (K → ℕ) → VcTexts K → Start → List (List ℕ) → Type 0
gives written faults out start vcs = HasVcs written faults out.lines out.back start vcs

-- what was asked of the feed are the first VC-4s, and the counts are those of the frames
pub record Counted (start : ℕ) (actions : List Action) (asked : List (List ℕ)) (next back : ℕ) : Type 0 where
  pub first : asked ≡ first_vcs next
  pub enough : begun (part_after start actions) ≤ length asked
  pub fed : next ≡ begun (part_after start actions)
  pub came : back ≡ length (whole start actions asked)
  pub low : back ≤ next

pub counted-by : {K : Type 0} (written : K → Option (List ℕ)) (faults : K → ℕ) (src : source.Source) (snk : sink.Sink)
    (feed : NumberedVcs) (out : VcTexts K) (behind to : Start) (start : ℕ) (actions : List Action)
    (asked : List (List ℕ))
    → Carries feeds (gives written faults) src snk feed out behind to start actions asked → length actions ≤ 100000
    → Counted start actions asked feed.next out.back
counted-by written faults src snk feed out behind to start actions asked c few =
    let size = c.sends.count in
    let less = begun-few start actions in
    let fed = c.fed (omega (arith, size, less, few)) in
    let enough : begun (part_after start actions) ≤ length asked = omega (arith, size) in
    let all = counted start actions asked enough in
    let came = c.given.count (let e : length (whole start actions asked) < 18446744073709551616 =
    omega (arith, all, size, less, few) in e) in
    record {
      first = fed.1 ∙ ap first_vcs (sym fed.0);
      enough = enough;
      fed = fed.0 ∙ size;
      came = came;
      low = (let is = fed.0 in omega (arith, came, all, is, size));
    }

-- after the last frame
pub all-back : (start : ℕ) (actions taken : List Action) (next : ℕ) → taken ≡ actions
    → next ≡ begun (part_after start taken) → whole start taken (first_vcs next) ≡ back_of start actions
all-back start actions taken next all fed =
    ap (λ n. whole start taken (first_vcs n)) fed ∙ ap (λ l. back_of start l) all

pub all-counts : (start : ℕ) (actions taken : List Action) (next back cut : ℕ) → taken ≡ actions
    → Counted start taken (first_vcs next) next back → cut ≡ cuts start taken
    → end_text (length actions) next back cut ≡ counts_text start actions
all-counts start actions taken next back cut all k is =
    let size = length actions in
    ap (λ n. end_text size n back cut) (k.fed ∙ ap (λ l. begun (part_after start l)) all)
    ∙ ap (λ b. end_text size (begun (part_after start actions)) b cut)
    (k.came ∙ ap length (all-back start actions taken next all k.fed))
    ∙ ap (λ m. end_text size (begun (part_after start actions)) (length (back_of start actions)) m)
    (is ∙ ap (cuts start) all)
