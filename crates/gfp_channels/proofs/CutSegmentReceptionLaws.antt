-- The segments between the cuts of a stream, octet by octet, and what is received and written of them.
use Rattle.std.proofs.Common.{◌≡◌, ℕ, ◌+◌, ◌-◌, true, List, [], ◌∷◌, ◌++◌, take, drop, All, refl, sym, ◌∙◌, ap, arith}
use Rattle.std.proofs.Common.{append-nil, take-append-drop, drop-drop, suc, ◌<◌, ◌≤◌, false, Bool, length, get_or, ap₂}
use Rattle.std.proofs.Common.{subst, append_assoc, le-leb, take_all, length-drop, flat_map, inl, inr, Option}
use Rattle.std.proofs.Common.{length-append}
use Rattle.std.proofs.lemmas.List.Elements.{All-nil, All-cons}
use Rattle.law_model.specs.Common.{StreamRow, octets_of_rows, hunt_within, delineate_within, Segment, Segments, broken}
use Rattle.law_model.specs.Common.{longer, no_rows, segments_on, Start}
use Rattle.gfp_model.specs.declared.linear_model.Cut.{Cut}
use Rattle.gfp_model.specs.linear_model.ChannelStream.{cut_rows, cut_outcomes, segment_outcomes}
use Rattle.gfp_channels.specs.channel_law.FramesOfChannel.{AreOrdered}
use Rattle.std.proofs.lemmas.Bool.{lt-leb, cases_lt}
use Rattle.std.proofs.lemmas.List.{drop_all, take-append-le, drop-append-le, length_push}
use Rattle.std.proofs.lemmas.List.Concat.{flat_map-append}
use Rattle.gfp_model.specs.linear_model.ChannelArea.{LinearOutcome, linear_outcomes, ChannelFrame, frame_in}
use Rattle.gfp_channels.specs.channel_link.Plan.{AreCuts}
use Rattle.gfp_channels.specs.channel_link.Run.{open_segment, ended_outcomes, ended_by, longer_by, Received, ReceivedIn}
use Rattle.gfp_channels.specs.declared.channel_link.channel_draft.ChannelPlan.{ChannelPlan}
use Rattle.gfp_channels.specs.declared.channel_link.channel_run.Refusal.{Refusal}
use Rattle.gfp_channels.specs.channel_link.ChannelReportText.{got_text, refusal_text, counts_text, delivered, refused}
use Rattle.gfp_channels.specs.channel_link.ChannelReportText.{plan_text}
use Rattle.text_got.specs.declared.got_text.GotLines.{GotLines}
use Rattle.text_got.specs.TextSoFar.{HasText}
use Rattle.gfp_channels.specs.gfp_linear.Delineator.{LinearReceiver, StandsIn}
use Rattle.gfp_channels.specs.declared.channel_link.channel_reception.Reception.{Reception}

-- ---- Octets with cuts are the octets of rows, and where there is no cut they are one whole row.
pub none-ordered : AreOrdered 0 []
unfolding AreOrdered
none-ordered = tt

pub cut-octets : (place : ℕ) (cuts : List Cut) (octets : List ℕ) → AreOrdered place cuts →
    octets_of_rows (cut_rows place cuts octets) ≡ octets
unfolding cut_rows AreOrdered
cut-octets place [] octets ordered = append-nil octets
cut-octets place (cut ∷ cuts) octets ordered =
    let front : ℕ = cut.first - place in
    let gone : ℕ = cut.end - cut.first in
    let after : List ℕ = drop front octets in
    let both : front + gone ≡ cut.end - place = omega (arith, ordered.0, ordered.1) in
    ap (λ l. take front octets ++ (take gone after ++ l))
    (cut-octets cut.end cuts (drop (cut.end - place) octets) ordered.2
    ∙ ap (λ n. drop n octets) (sym both) ∙ sym (drop-drop gone front octets))
    ∙ ap (λ l. take front octets ++ l) (take-append-drop gone after)
    ∙ take-append-drop front octets

pub all-whole : (octets : List ℕ) → All (λ (row : StreamRow). row.whole ≡ true) (cut_rows 0 [] octets)
unfolding cut_rows
all-whole octets =
    All-cons (λ (row : StreamRow). row.whole ≡ true) (record { whole = true; octets = octets }) [] refl
    (All-nil (λ (row : StreamRow). row.whole ≡ true))

-- ---- The segments between the cuts of a stream, octet by octet.
-- nothing comes of no octets
pub none-come : (first : Bool) → linear_outcomes first [] ≡ []
unfolding delineate_within hunt_within
none-come first = refl

-- ---- one cut
abbrev pub begun : ℕ → Bool → List ℕ → Segment
begun place first octets = record { first = first; base = place; octets = octets }

open-before : (place : ℕ) (first : Bool) (cut : Cut) (cuts : List Cut) (octets : List ℕ)
    → length octets ≤ cut.first - place → open_segment place first (cut ∷ cuts) octets ≡ begun place first octets
unfolding open_segment
open-before place first cut cuts octets less = rw (le-leb (length octets) (cut.first - place) less) refl

open-behind : (place : ℕ) (first : Bool) (cut : Cut) (cuts : List Cut) (octets : List ℕ)
    → cut.first - place < length octets
    → open_segment place first (cut ∷ cuts) octets ≡ open_segment cut.end false cuts (drop (cut.end - place) octets)
unfolding open_segment
open-behind place first cut cuts octets more = rw (lt-leb (length octets) (cut.first - place) more) refl

ended-before : (place : ℕ) (first : Bool) (cut : Cut) (cuts : List Cut) (octets : List ℕ)
    → length octets ≤ cut.first - place → ended_outcomes place first (cut ∷ cuts) octets ≡ []
unfolding ended_outcomes
ended-before place first cut cuts octets less = rw (le-leb (length octets) (cut.first - place) less) refl

ended-behind : (place : ℕ) (first : Bool) (cut : Cut) (cuts : List Cut) (octets : List ℕ)
    → cut.first - place < length octets
    → ended_outcomes place first (cut ∷ cuts) octets ≡ linear_outcomes first (take (cut.first - place) octets)
    ++ ended_outcomes cut.end false cuts (drop (cut.end - place) octets)
unfolding ended_outcomes
ended-behind place first cut cuts octets more = rw (lt-leb (length octets) (cut.first - place) more) refl

count-before : (n : ℕ) (cut : Cut) (cuts : List Cut) → n < cut.end → ended_by n (cut ∷ cuts) ≡ 0
unfolding ended_by
count-before n cut cuts less = rw (lt-leb cut.end n less) refl

count-behind : (n : ℕ) (cut : Cut) (cuts : List Cut) → cut.end ≤ n → ended_by n (cut ∷ cuts) ≡ ended_by n cuts + 1
unfolding ended_by
count-behind n cut cuts more = rw (le-leb cut.end n more) refl

-- ---- no octets
pub open-none : (place : ℕ) (first : Bool) (cuts : List Cut) → open_segment place first cuts [] ≡ begun place first []
unfolding open_segment
open-none place first [] = refl
open-none place first (cut ∷ cuts) = open-before place first cut cuts [] (omega arith)

pub ended-none : (place : ℕ) (first : Bool) (cuts : List Cut) → ended_outcomes place first cuts [] ≡ []
unfolding ended_outcomes
ended-none place first [] = refl
ended-none place first (cut ∷ cuts) = ended-before place first cut cuts [] (omega arith)

-- no cut ends before the place from which on they lie
pub count-none : (place most n : ℕ) (cuts : List Cut) → AreCuts place most cuts → n ≤ place → ended_by n cuts ≡ 0
unfolding AreCuts ended_by
count-none place most n [] are less = refl
count-none place most n (cut ∷ cuts) are less =
    count-before n cut cuts (let low = are.0 in let some = are.1 in omega (arith, low, some, less))

-- ---- all that came of octets
abbrev pub come_of : ℕ → Bool → List Cut → List ℕ → List LinearOutcome
come_of place first cuts octets = ended_outcomes place first cuts octets
    ++ linear_outcomes (open_segment place first cuts octets).first (open_segment place first cuts octets).octets

pub come-none : (place : ℕ) (first : Bool) (cuts : List Cut) → come_of place first cuts [] ≡ []
come-none place first cuts =
    ap₂ (λ a (s : Segment). a ++ linear_outcomes s.first s.octets)
    (ended-none place first cuts) (open-none place first cuts)
    ∙ none-come first

-- those before a cut, and those behind it
come-cut : (place : ℕ) (first : Bool) (cut : Cut) (cuts : List Cut) (octets : List ℕ)
    → place ≤ cut.first → cut.first < cut.end
    → come_of place first (cut ∷ cuts) octets ≡ linear_outcomes first (take (cut.first - place) octets)
    ++ come_of cut.end false cuts (drop (cut.end - place) octets)
come-cut place first cut cuts octets low some =
    let at : ℕ = cut.first - place in
    let front : List LinearOutcome = linear_outcomes first (take at octets) in
    let rest : List ℕ = drop (cut.end - place) octets in
    elim (cases_lt at (length octets)) [
      | inl more ↦
          ap₂ (λ a (s : Segment). a ++ linear_outcomes s.first s.octets)
          (ended-behind place first cut cuts octets more) (open-behind place first cut cuts octets more)
          ∙ append_assoc front (ended_outcomes cut.end false cuts rest)
          (linear_outcomes (open_segment cut.end false cuts rest).first (open_segment cut.end false cuts rest).octets)
      | inr less ↦
          ap₂ (λ a (s : Segment). a ++ linear_outcomes s.first s.octets)
          (ended-before place first cut cuts octets less) (open-before place first cut cuts octets less)
          ∙ ap (linear_outcomes first) (sym (take_all at octets less))
          ∙ sym (ap (λ l. front ++ come_of cut.end false cuts l)
          (drop_all (cut.end - place) octets (omega (arith, less, some, low)))
          ∙ ap (λ l. front ++ l) (come-none cut.end false cuts) ∙ append-nil front)
    ]

-- where the octets end within the cut or before it, what came is what came of the octets before it
come-within : (place : ℕ) (first : Bool) (cut : Cut) (cuts : List Cut) (octets : List ℕ)
    → place ≤ cut.first → cut.first < cut.end → place + length octets ≤ cut.end
    → come_of place first (cut ∷ cuts) octets ≡ linear_outcomes first (take (cut.first - place) octets)
come-within place first cut cuts octets low some within =
    let front : List LinearOutcome = linear_outcomes first (take (cut.first - place) octets) in
    come-cut place first cut cuts octets low some
    ∙ ap (λ l. front ++ come_of cut.end false cuts l)
    (drop_all (cut.end - place) octets (omega (arith, low, some, within)))
    ∙ ap (λ l. front ++ l) (come-none cut.end false cuts) ∙ append-nil front

-- and where they end within it, a segment behind it is open, without an octet
open-within : (place : ℕ) (first : Bool) (cut : Cut) (cuts : List Cut) (octets : List ℕ)
    → place ≤ cut.first → cut.first < place + length octets → place + length octets ≤ cut.end
    → open_segment place first (cut ∷ cuts) octets ≡ begun cut.end false []
open-within place first cut cuts octets low more within =
    open-behind place first cut cuts octets (omega (arith, low, more))
    ∙ ap (open_segment cut.end false cuts) (drop_all (cut.end - place) octets (omega (arith, low, more, within)))
    ∙ open-none cut.end false cuts

-- ---- one octet more
-- it arrives, and comes to the segment that is open
pub record Arrives (place : ℕ) (first : Bool) (cuts : List Cut) (octets : List ℕ) (o : ℕ) : Type 0 where
  pub goes_on : open_segment place first cuts (octets ++ o ∷ []) ≡ longer_by (open_segment place first cuts octets) o
  pub ended : ended_outcomes place first cuts (octets ++ o ∷ []) ≡ ended_outcomes place first cuts octets
  pub count : ended_by (place + length octets + 1) cuts ≡ ended_by (place + length octets) cuts

-- or it is one of a cut: a segment behind the cut is open, without an octet; nothing more comes; and the cut is counted
-- where this is its last octet
pub record Skips (place : ℕ) (first : Bool) (cuts : List Cut) (cut : Cut) (octets : List ℕ) (o : ℕ) : Type 0 where
  pub fresh : open_segment place first cuts (octets ++ o ∷ []) ≡ begun cut.end false []
  pub come : come_of place first cuts (octets ++ o ∷ []) ≡ come_of place first cuts octets
  pub counted : cut.end ≤ place + length octets + 1
      → ended_by (place + length octets + 1) cuts ≡ ended_by (place + length octets) cuts + 1
  pub uncounted : place + length octets + 1 < cut.end
      → ended_by (place + length octets + 1) cuts ≡ ended_by (place + length octets) cuts
  pub was : cut.first < place + length octets → open_segment place first cuts octets ≡ begun cut.end false []

-- behind a cut that has ended it is one more for the other cuts
module _ (place : ℕ) (first : Bool) (cut : Cut) (cuts : List Cut) (octets : List ℕ) (o : ℕ)
    (low : place ≤ cut.first) (some : cut.first < cut.end) (more : cut.end ≤ place + length octets) where
  on : drop (cut.end - place) (octets ++ o ∷ []) ≡ drop (cut.end - place) octets ++ o ∷ []
  on = drop-append-le (cut.end - place) octets (o ∷ []) (omega (arith, more))

  front : take (cut.first - place) (octets ++ o ∷ []) ≡ take (cut.first - place) octets
  front = take-append-le (cut.first - place) octets (o ∷ []) (omega (arith, more, some))

  past : cut.first - place < length octets
  past = omega (arith, more, some, low)

  past-now : cut.first - place < length (octets ++ o ∷ [])
  past-now = omega (arith, length_push octets o, past)

  same : cut.end + length (drop (cut.end - place) octets) ≡ place + length octets
  same = omega (arith, length-drop (cut.end - place) octets, more, low, some)

  open-now : open_segment place first (cut ∷ cuts) (octets ++ o ∷ [])
      ≡ open_segment cut.end false cuts (drop (cut.end - place) octets ++ o ∷ [])
  open-now = open-behind place first cut cuts (octets ++ o ∷ []) past-now ∙ ap (open_segment cut.end false cuts) on

  count-was : ended_by (place + length octets) (cut ∷ cuts)
      ≡ ended_by (cut.end + length (drop (cut.end - place) octets)) cuts + 1
  count-was = count-behind (place + length octets) cut cuts more ∙ ap (λ n. ended_by n cuts + 1) (sym same)

  count-now : ended_by (place + length octets + 1) (cut ∷ cuts)
      ≡ ended_by (cut.end + length (drop (cut.end - place) octets) + 1) cuts + 1
  count-now = count-behind (place + length octets + 1) cut cuts (omega (arith, more))
      ∙ ap (λ n. ended_by (n + 1) cuts + 1) (sym same)

  arrives-behind : Arrives cut.end false cuts (drop (cut.end - place) octets) o → Arrives place first (cut ∷ cuts) octets o
  arrives-behind arrives = record {
    goes_on = open-now ∙ arrives.goes_on
        ∙ ap (λ s. longer_by s o) (sym (open-behind place first cut cuts octets past));
    ended = ended-behind place first cut cuts (octets ++ o ∷ []) past-now
        ∙ ap₂ (λ a b. linear_outcomes first a ++ b) front (ap (ended_outcomes cut.end false cuts) on ∙ arrives.ended)
        ∙ sym (ended-behind place first cut cuts octets past);
    count = count-now ∙ ap (λ n. n + 1) arrives.count ∙ sym count-was;
  }

  skips-behind : (c : Cut) → Skips cut.end false cuts c (drop (cut.end - place) octets) o
      → Skips place first (cut ∷ cuts) c octets o
  skips-behind c skips = record {
    fresh = open-now ∙ skips.fresh;
    come = come-cut place first cut cuts (octets ++ o ∷ []) low some
        ∙ ap₂ (λ a b. linear_outcomes first a ++ b) front (ap (come_of cut.end false cuts) on ∙ skips.come)
        ∙ sym (come-cut place first cut cuts octets low some);
    counted = λ last. count-now ∙ ap (λ n. n + 1) (skips.counted (omega (arith, last, same)) ∙ sym count-was);
    uncounted = λ within. count-now ∙ ap (λ n. n + 1) (skips.uncounted (omega (arith, within, same))) ∙ sym count-was;
    was = λ begins. open-behind place first cut cuts octets past ∙ skips.was (omega (arith, begins, same));
  }

-- before the next cut
arrives-before : (place : ℕ) (first : Bool) (cut : Cut) (cuts : List Cut) (octets : List ℕ) (o : ℕ)
    → cut.first < cut.end → place + length octets < cut.first → Arrives place first (cut ∷ cuts) octets o
arrives-before place first cut cuts octets o some less =
    let size = length_push octets o in
    record {
      goes_on = open-before place first cut cuts (octets ++ o ∷ []) (omega (arith, size, less))
          ∙ ap (λ s. longer_by s o) (sym (open-before place first cut cuts octets (omega (arith, less))));
      ended = ended-before place first cut cuts (octets ++ o ∷ []) (omega (arith, size, less))
          ∙ sym (ended-before place first cut cuts octets (omega (arith, less)));
      count = count-before (place + length octets + 1) cut cuts (omega (arith, less, some))
          ∙ sym (count-before (place + length octets) cut cuts (omega (arith, less, some)));
    }

-- in the cut that comes next
skips-here : (place most : ℕ) (first : Bool) (cut : Cut) (cuts : List Cut) (octets : List ℕ) (o : ℕ)
    → AreCuts place most (cut ∷ cuts) → cut.first ≤ place + length octets → place + length octets < cut.end
    → Skips place first (cut ∷ cuts) cut octets o
unfolding AreCuts
skips-here place most first cut cuts octets o are begins ends =
    let size = length_push octets o in
    let low = are.0 in
    let some = are.1 in
    let now : List ℕ = octets ++ o ∷ [] in
    record {
      fresh = open-within place first cut cuts now low (omega (arith, size, begins)) (omega (arith, size, ends));
      come = come-within place first cut cuts now low some (omega (arith, size, ends))
          ∙ ap (linear_outcomes first) (take-append-le (cut.first - place) octets (o ∷ []) (omega (arith, begins, low)))
          ∙ sym (come-within place first cut cuts octets low some (omega (arith, ends)));
      counted = λ last. count-behind (place + length octets + 1) cut cuts last
          ∙ ap (λ n. n + 1) (count-none cut.end most (place + length octets + 1) cuts are.3 (omega (arith, ends))
          ∙ sym (count-before (place + length octets) cut cuts ends));
      uncounted = λ more. count-before (place + length octets + 1) cut cuts more
          ∙ sym (count-before (place + length octets) cut cuts ends);
      was = λ past. open-within place first cut cuts octets low past (omega (arith, ends));
    }

-- the cut that comes next begins later, or there is none
pub arrives : (place most n k : ℕ) (first : Bool) (cuts : List Cut) (d : Cut) (octets : List ℕ) (o : ℕ)
    → AreCuts place most cuts → n ≡ place + length octets → k ≡ ended_by n cuts
    → (k < length cuts → n < (get_or cuts k d).first) → Arrives place first cuts octets o
unfolding AreCuts open_segment ended_outcomes ended_by
arrives place most n k first [] d octets o are at count later = record { goes_on = refl; ended = refl; count = refl }
arrives place most n k first (cut ∷ cuts) d octets o are at count later =
    elim (cases_lt n cut.end) [
      | inl less ↦
          let none : k ≡ 0 = count ∙ count-before n cut cuts less in
          let before : n < cut.first =
          subst (λ (i : ℕ). n < (get_or (cut ∷ cuts) i d).first) none (later (omega (arith, none))) in
          arrives-before place first cut cuts octets o are.1 (omega (arith, at, before))
      | inr more ↦
          let low = are.0 in
          let some = are.1 in
          let rest = length-drop (cut.end - place) octets in
          let next : k ≡ suc (ended_by n cuts) = omega (arith, count, count-behind n cut cuts more) in
          let others : ended_by n cuts < length cuts → n < (get_or cuts (ended_by n cuts) d).first =
          λ inside. subst (λ (i : ℕ). n < (get_or (cut ∷ cuts) i d).first) next (later (omega (arith, next, inside))) in
          arrives-behind place first cut cuts octets o low some (omega (arith, at, more))
          (arrives cut.end most n (ended_by n cuts) false cuts d (drop (cut.end - place) octets) o are.3
          (omega (arith, at, rest, more, low, some)) refl others)
    ]

-- it has begun
pub skips : (place most n k : ℕ) (first : Bool) (cuts : List Cut) (d : Cut) (octets : List ℕ) (o : ℕ)
    → AreCuts place most cuts → n ≡ place + length octets → k ≡ ended_by n cuts → k < length cuts
    → (get_or cuts k d).first ≤ n → Skips place first cuts (get_or cuts k d) octets o
unfolding AreCuts
skips place most n k first [] d octets o are at count inside begins = absurd (omega (arith, inside))
skips place most n k first (cut ∷ cuts) d octets o are at count inside begins =
    elim (cases_lt n cut.end) [
      | inl less ↦
          let none : k ≡ 0 = count ∙ count-before n cut cuts less in
          let here : cut.first ≤ n = subst (λ (i : ℕ). (get_or (cut ∷ cuts) i d).first ≤ n) none begins in
          subst (λ (i : ℕ). Skips place first (cut ∷ cuts) (get_or (cut ∷ cuts) i d) octets o) (sym none)
          (skips-here place most first cut cuts octets o are (omega (arith, at, here)) (omega (arith, at, less)))
      | inr more ↦
          let low = are.0 in
          let some = are.1 in
          let rest = length-drop (cut.end - place) octets in
          let next : k ≡ suc (ended_by n cuts) = omega (arith, count, count-behind n cut cuts more) in
          subst (λ (i : ℕ). Skips place first (cut ∷ cuts) (get_or (cut ∷ cuts) i d) octets o) (sym next)
          (skips-behind place first cut cuts octets o low some (omega (arith, at, more)) (get_or cuts (ended_by n cuts) d)
          (skips cut.end most n (ended_by n cuts) false cuts d (drop (cut.end - place) octets) o are.3
          (omega (arith, at, rest, more, low, some)) refl (omega (arith, next, inside))
          (subst (λ (i : ℕ). (get_or (cut ∷ cuts) i d).first ≤ n) next begins)))
    ]

-- ---- the segments of rows
abbrev segments_come : Segments → List LinearOutcome
segments_come come = flat_map segment_outcomes (come.ended ++ come.last ∷ [])

come-rows : (come : Segments) (place most : ℕ) (cuts : List Cut) (octets : List ℕ) → AreCuts place most cuts
    → come.last.octets ≡ [] → segments_come (segments_on come (cut_rows place cuts octets))
    ≡ flat_map segment_outcomes come.ended ++ come_of place come.last.first cuts octets
unfolding AreCuts segments_on cut_rows open_segment ended_outcomes
come-rows come place most [] octets are none =
    flat_map-append segment_outcomes come.ended _
    ∙ ap (λ l. flat_map segment_outcomes come.ended ++ (linear_outcomes come.last.first (l ++ octets) ++ [])) none
    ∙ ap (λ l. flat_map segment_outcomes come.ended ++ l) (append-nil (linear_outcomes come.last.first octets))
come-rows come place most (cut ∷ cuts) octets are none =
    let at : ℕ = cut.first - place in
    let front : List ℕ = take at octets in
    let lost : List ℕ = take (cut.end - cut.first) (drop at octets) in
    let rest : List ℕ = drop (cut.end - place) octets in
    let before : List LinearOutcome = flat_map segment_outcomes come.ended in
    let now : Segments = broken (longer come front) lost in
    come-rows now cut.end most cuts rest are.3 refl
    ∙ ap (λ l. l ++ come_of cut.end false cuts rest)
    (flat_map-append segment_outcomes come.ended _
    ∙ ap (λ l. before ++ (linear_outcomes come.last.first (l ++ front) ++ [])) none
    ∙ ap (λ l. before ++ l) (append-nil (linear_outcomes come.last.first front)))
    ∙ append_assoc before (linear_outcomes come.last.first front) (come_of cut.end false cuts rest)
    ∙ ap (λ l. before ++ l) (sym (come-cut place come.last.first cut cuts octets are.0 are.1))

-- all that came of octets is the outcomes of their segments
pub come-all : (most : ℕ) (cuts : List Cut) (octets : List ℕ) → AreCuts 0 most cuts
    → come_of 0 true cuts octets ≡ cut_outcomes cuts octets
come-all most cuts octets are = sym (come-rows no_rows 0 most cuts octets are refl)

-- ---- The text of what was received.
-- ---- outcomes more
pub frames-more : (before outcomes told all : List LinearOutcome) → all ≡ outcomes ++ told
    → flat_map frame_in (before ++ all) ≡ flat_map frame_in (before ++ outcomes) ++ flat_map frame_in told
frames-more before outcomes told all is =
    ap (λ l. flat_map frame_in (before ++ l)) is
    ∙ ap (flat_map frame_in) (sym (append_assoc before outcomes told))
    ∙ flat_map-append frame_in (before ++ outcomes) told

-- none of which is a delivery
pub frames-same : (before outcomes told all : List LinearOutcome) → all ≡ outcomes ++ told → flat_map frame_in told ≡ []
    → flat_map frame_in (before ++ all) ≡ flat_map frame_in (before ++ outcomes)
frames-same before outcomes told all is none =
    frames-more before outcomes told all is ∙ ap (λ l. flat_map frame_in (before ++ outcomes) ++ l) none
    ∙ append-nil (flat_map frame_in (before ++ outcomes))

pub texts-more : (frames : List ChannelFrame) (frame : ChannelFrame)
    → flat_map got_text (frames ++ frame ∷ []) ≡ flat_map got_text frames ++ got_text frame
texts-more frames frame =
    flat_map-append got_text frames (frame ∷ [])
    ∙ ap (λ l. flat_map got_text frames ++ l) (append-nil (got_text frame))

-- ---- all lines
pub text-is : (plan : ChannelPlan) (frames : List ChannelFrame) (refusals : List Refusal) (line : List ℕ) (a b c : ℕ)
    → frames ≡ delivered plan → refusals ≡ refused plan
    → a ≡ length plan.offers - length refusals → b ≡ length refusals → c ≡ length frames
    → line ≡ counts_text a b c
    → (flat_map got_text frames ++ flat_map refusal_text refusals) ++ line ≡ plan_text plan
text-is plan frames refusals line a b c came lost taken left got is =
    let told : List ChannelFrame → List Refusal → List ℕ = λ f r. flat_map got_text f ++ flat_map refusal_text r
    ++ counts_text (length plan.offers - length r) (length r) (length f) in
    ap (λ l. flat_map got_text frames ++ flat_map refusal_text refusals ++ l)
    (is ∙ (λ k. counts_text (taken k) (left k) (got k)))
    ∙ (λ k. told (came k) (lost k))

-- ---- What one octet does to what was received.
-- nothing was sent
pub received-none : {K : Type 0} (written : K → Option (List ℕ)) (faults : K → ℕ) (reception : Reception K)
    (start : Start) (most : ℕ) (cuts : List Cut)
    → AreCuts 0 most cuts → reception.place ≡ 0 → reception.ended ≡ 0 → reception.got ≡ 0
    → StandsIn reception.delineator true [] → HasText written faults reception.lines start []
    → Received written faults reception start cuts []
received-none written faults reception start most cuts are place ended got stands text =
    let goes_on : Segment = record { first = true; base = 0; octets = [] } in
    let none : ReceivedIn written faults reception start [] goes_on = record {
      stands = stands;
      text = subst (λ l. HasText written faults reception.lines start (flat_map got_text (flat_map frame_in l)))
          (sym (none-come true)) text;
      got = got ∙ ap (λ l. length (flat_map frame_in l)) (sym (none-come true));
    } in
    record {
      place = place;
      ended = ended ∙ sym (count-none 0 most 0 cuts are (omega arith));
      goes_on = subst (λ l. ReceivedIn written faults reception start l (open_segment 0 true cuts []))
          (sym (ended-none 0 true cuts))
          (subst (ReceivedIn written faults reception start []) (sym (open-none 0 true cuts)) none);
    }

-- an octet arrived
pub received-next : {K : Type 0} (written : K → Option (List ℕ)) (faults : K → ℕ) (old new : Reception K)
    (start : Start) (most : ℕ) (cuts : List Cut) (d : Cut) (sent : List ℕ) (o : ℕ)
    → AreCuts 0 most cuts → Received written faults old start cuts sent
    → (old.ended < length cuts → old.place < (get_or cuts old.ended d).first)
    → ReceivedIn written faults new start (ended_outcomes 0 true cuts sent)
    (longer_by (open_segment 0 true cuts sent) o)
    → new.place ≡ old.place + 1 → new.ended ≡ old.ended
    → Received written faults new start cuts (sent ++ o ∷ [])
received-next written faults old new start most cuts d sent o are was later goes_on place ended =
    let steps = arrives 0 most old.place old.ended true cuts d sent o are (omega (arith, was.place))
    (was.ended ∙ ap (λ n. ended_by n cuts) (sym was.place)) later in
    let size = length-append sent (o ∷ []) in
    let none : length sent ≡ 0 + length sent = omega arith in
    let one : 0 + length sent + 1 ≡ length (sent ++ o ∷ []) = omega (arith, size) in
    record {
      place = place ∙ ap (λ n. n + 1) was.place ∙ sym size;
      ended = ended ∙ was.ended ∙ ap (λ n. ended_by n cuts) none ∙ sym steps.count
          ∙ ap (λ n. ended_by n cuts) one;
      goes_on = subst (λ l. ReceivedIn written faults new start l (open_segment 0 true cuts (sent ++ o ∷ [])))
          (sym steps.ended)
          (subst (ReceivedIn written faults new start (ended_outcomes 0 true cuts sent)) (sym steps.goes_on) goes_on);
    }

-- of an octet no frame came
pub received-nothing : {K : Type 0} (written : K → Option (List ℕ)) (faults : K → ℕ) (old : Reception K)
    (delineator : LinearReceiver) (start : Start) (before told : List LinearOutcome) (segment : Segment) (o : ℕ)
    → ReceivedIn written faults old start before segment
    → StandsIn delineator segment.first (segment.octets ++ o ∷ [])
    → linear_outcomes segment.first (segment.octets ++ o ∷ []) ≡ linear_outcomes segment.first segment.octets ++ told
    → flat_map frame_in told ≡ []
    → ReceivedIn written faults (record old { delineator = delineator }) start before (longer_by segment o)
received-nothing written faults old delineator start before told segment o was stands outcome none =
    let same = frames-same before (linear_outcomes segment.first segment.octets) told
    (linear_outcomes segment.first (segment.octets ++ o ∷ [])) outcome none in
    record {
      stands = stands;
      text = subst (λ f. HasText written faults old.lines start (flat_map got_text f)) (sym same) was.text;
      got = was.got ∙ ap length (sym same);
    }

-- an octet of a cut was sent
pub received-cut : {K : Type 0} (written : K → Option (List ℕ)) (faults : K → ℕ) (old new : Reception K)
    (start : Start) (cuts : List Cut) (cut : Cut) (sent : List ℕ) (o : ℕ)
    → Received written faults old start cuts sent → Skips 0 true cuts cut sent o
    → StandsIn new.delineator false [] → new.lines ≡ old.lines → new.got ≡ old.got → new.place ≡ old.place + 1
    → new.ended ≡ ended_by (length sent + 1) cuts
    → Received written faults new start cuts (sent ++ o ∷ [])
received-cut {K = K} written faults old new start cuts cut sent o was skips stands lines got place ended =
    let size = length-append sent (o ∷ []) in
    let now : List ℕ = sent ++ o ∷ [] in
    record {
      place = place ∙ ap (λ n. n + 1) was.place ∙ sym size;
      ended = ended ∙ ap (λ n. ended_by n cuts) (sym size);
      goes_on = record {
        stands = subst (λ (s : Segment). StandsIn new.delineator s.first s.octets) (sym skips.fresh) stands;
        text = subst (λ (g : GotLines K). HasText written faults g start
            (flat_map got_text (flat_map frame_in (come_of 0 true cuts now)))) (sym lines)
            (subst (λ l. HasText written faults old.lines start (flat_map got_text (flat_map frame_in l)))
            (sym skips.come) was.goes_on.text);
        got = got ∙ was.goes_on.got ∙ ap (λ l. length (flat_map frame_in l)) (sym skips.come);
      };
    }

-- all that was sent
pub received-text : {K : Type 0} (written : K → Option (List ℕ)) (faults : K → ℕ) (reception : Reception K)
    (start : Start) (most : ℕ) (cuts : List Cut) (sent : List ℕ) (frames : List ChannelFrame)
    → AreCuts 0 most cuts → Received written faults reception start cuts sent
    → frames ≡ flat_map frame_in (cut_outcomes cuts sent)
    → HasText written faults reception.lines start (flat_map got_text frames)
received-text written faults reception start most cuts sent frames are was is =
    subst (λ f. HasText written faults reception.lines start (flat_map got_text f))
    (ap (flat_map frame_in) (come-all most cuts sent are) ∙ sym is) was.goes_on.text

pub received-got : {K : Type 0} (written : K → Option (List ℕ)) (faults : K → ℕ) (reception : Reception K)
    (start : Start) (most : ℕ) (cuts : List Cut) (sent : List ℕ) (frames : List ChannelFrame)
    → AreCuts 0 most cuts → Received written faults reception start cuts sent
    → frames ≡ flat_map frame_in (cut_outcomes cuts sent) → reception.got ≡ length frames
received-got written faults reception start most cuts sent frames are was is =
    was.goes_on.got ∙ ap length (ap (flat_map frame_in) (come-all most cuts sent are) ∙ sym is)

-- no frame is counted where nothing was sent
pub received-few : {K : Type 0} (written : K → Option (List ℕ)) (faults : K → ℕ) (reception : Reception K)
    (start : Start) (cuts : List Cut) → Received written faults reception start cuts [] → reception.got ≡ 0
received-few written faults reception start cuts was =
    was.goes_on.got ∙ ap (λ l. length (flat_map frame_in l)) (come-none 0 true cuts)
