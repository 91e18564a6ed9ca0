-- What is told of a text, as it grows.
use Rattle.std.proofs.Common.{◌≡◌, ℕ, ◌+◌, ◌-◌, ◌≤◌, ◌/◌, ◌%◌, Bool, true, false, List, [], ◌∷◌, ◌++◌, Option, refl, sym}
use Rattle.std.proofs.Common.{◌∙◌, ap, append-nil, take, drop, take-add, arith, slice_index}
use Rattle.hex.specs.Hex.{encode_lower, encode_with, lower_digits}
use Rattle.std.proofs.lemmas.Grind.{flat_map-append}
use Rattle.octet_io.proofs.AppendedTextAndPrefixLaws.{AppendsPart-longer}
use Rattle.text_report.specs.ReportLines.{got_text, got_texts}
use Rattle.text_got.specs.TextSoFar.{Holds, Seen, seen, known_of, faults_of, WritesOrWaits}
use Rattle.text_got.proofs.WaitingTextInBlockLaws.{Holds-then}

pub texts-more : (frames : List (List ℕ)) (frame : List ℕ) →
    got_texts frames ++ got_text frame ≡ got_texts (frames ++ frame ∷ [])
texts-more frames frame = sym (flat_map-append got_text frames (frame ∷ [])
    ∙ ap (λ l. got_texts frames ++ l) (append-nil (got_text frame)))

-- after a fault a longer text is told as the shorter one was
pub told-stopped : (failed : Bool) (first now : Seen) (waiting after text next : List ℕ) → failed ≡ true →
    WritesOrWaits failed first now waiting text
    → WritesOrWaits failed first now after (text ++ next)
told-stopped true first now waiting after text next is told =
    AppendsPart-longer known_of faults_of first now text next told
told-stopped false first now waiting after text next is told = absurd cc

-- more is written or waits
pub told-more : {K : Type 0} (written : K → Option (List ℕ)) (faults : K → ℕ) (failed : Bool) (first : Seen)
    (old new : K) (waiting after text next : List ℕ) → failed ≡ false
    → Holds written faults old new after (waiting ++ next) →
    WritesOrWaits failed first (seen (written old) (faults old)) waiting text
    → WritesOrWaits failed first (seen (written new) (faults new)) after (text ++ next)
told-more written faults false first old new waiting after text next is more told =
    Holds-then known_of faults_of first (seen (written old) (faults old)) (seen (written new) (faults new)) waiting
    after text next told
    (record {
      put = more.put;
      appends = record { appended = more.appends.appended; quiet = more.appends.quiet };
      all =
          more.all;
    })
told-more written faults true first old new waiting after text next is more told = absurd cc

-- ---- digits
encode-append : (digits xs ys : List ℕ) → encode_with digits (xs ++ ys) ≡ encode_with digits xs ++ encode_with digits ys
unfolding encode_with
encode-append digits [] ys = refl
encode-append digits (x ∷ xs) ys =
    ap (λ l. slice_index digits (x / 16) ∷ slice_index digits (x % 16) ∷ l) (encode-append digits xs ys)

pub digits-append : (xs ys : List ℕ) → encode_lower (xs ++ ys) ≡ encode_lower xs ++ encode_lower ys
digits-append xs ys = encode-append lower_digits xs ys

pub digits-none : (before : List ℕ) → before ≡ before ++ encode_lower []
unfolding encode_with
digits-none before = sym (append-nil before)

pub digits-then : (octets : List ℕ) (at end : ℕ) → at ≤ end
    → encode_lower (take end octets) ≡ encode_lower (take at octets) ++ encode_lower (take (end - at) (drop at octets))
digits-then octets at end low =
    ap (λ n. encode_lower (take n octets)) (let e : end ≡ at + (end - at) = omega (arith, low) in e)
    ∙ ap encode_lower (take-add at (end - at) octets)
    ∙ digits-append (take at octets) (take (end - at) (drop at octets))
