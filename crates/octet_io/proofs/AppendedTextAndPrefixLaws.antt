-- Texts that are put piece by piece: a whole text, a prefix of one, and the fault before its end.
use Rattle.std.proofs.Common.{◌≡◌, ℕ, ◌+◌, ◌<◌, List, [], ◌++◌, length, take, drop, Option, None, Some, refl, sym, ap}
use Rattle.std.proofs.Common.{◌∙◌, append_assoc, append-nil, length-append, take-append-drop, length-drop, arith}
use Rattle.std.proofs.Math.Seq.{take-add}
use Rattle.std.specs.Io.KnownBytes.{append_known}
use Rattle.octet_io.specs.FaultCounts.{one_more}
use Rattle.octet_io.specs.Transfer.{Appends, AppendsPart}

append_known-nil : (old : Option (List ℕ)) → append_known old [] ≡ old
append_known-nil None = refl
append_known-nil (Some octets) = ap Some (append-nil octets)

append_known-twice : (old : Option (List ℕ)) (a b : List ℕ) →
    append_known (append_known old a) b ≡ append_known old (a ++ b)
append_known-twice None a b = refl
append_known-twice (Some octets) a b = ap Some (append_assoc octets a b)

-- nothing is appended at first
pub Appends-none : {K : Type 0} (written : K → Option (List ℕ)) (faults : K → ℕ) (sink : K) →
    Appends written faults sink sink []
Appends-none written faults sink = record { appended = sym (append_known-nil (written sink)); quiet = refl }

-- a text, and then the next one
pub Appends-then : {K : Type 0} (written : K → Option (List ℕ)) (faults : K → ℕ) (old middle new : K)
    (text next : List ℕ)
    → Appends written faults old middle text → Appends written faults middle new next →
    Appends written faults old new (text ++ next)
Appends-then written faults old middle new text next before then =
    record {
      appended = then.appended ∙ ap (λ known. append_known known next) before.appended
          ∙ append_known-twice (written old) text next;
      quiet = then.quiet ∙ before.quiet;
    }

-- a text, and then a prefix of the next one
pub AppendsPart-then : {K : Type 0} (written : K → Option (List ℕ)) (faults : K → ℕ) (old middle new : K)
    (text next : List ℕ)
    → Appends written faults old middle text → AppendsPart written faults middle new next →
    AppendsPart written faults old new (text ++ next)
AppendsPart-then written faults old middle new text next before stops =
    record {
      part = text ++ stops.part;
      rest = stops.rest;
      prefix = append_assoc text stops.part stops.rest ∙ ap (λ octets. text ++ octets) stops.prefix;
      cut = stops.cut;
      appended = stops.appended ∙ ap (λ known. append_known known stops.part) before.appended
          ∙ append_known-twice (written old) text stops.part;
      counted = stops.counted ∙ ap one_more before.quiet;
    }

-- a prefix of a text is one of a longer text
pub AppendsPart-longer : {K : Type 0} (written : K → Option (List ℕ)) (faults : K → ℕ) (old new : K)
    (text more : List ℕ)
    → AppendsPart written faults old new text → AppendsPart written faults old new (text ++ more)
AppendsPart-longer written faults old new text more stops =
    record {
      part = stops.part;
      rest = stops.rest ++ more;
      prefix = sym (append_assoc stops.part stops.rest more) ∙ ap (λ octets. octets ++ more) stops.prefix;
      cut = (let some = stops.cut in omega (arith, length-append stops.rest more));
      appended = stops.appended;
      counted = stops.counted;
    }

-- the next octets of a text are put
pub Appends-more : {K : Type 0} (written : K → Option (List ℕ)) (faults : K → ℕ) (old middle new : K) (text : List ℕ)
    (at n : ℕ)
    → Appends written faults old middle (take at text) →
    written new ≡ append_known (written middle) (take n (drop at text)) → faults new ≡ faults middle
    → Appends written faults old new (take (at + n) text)
Appends-more written faults old middle new text at n before put quiet =
    record {
      appended = put ∙ ap (λ known. append_known known (take n (drop at text))) before.appended
          ∙ append_known-twice (written old) (take at text) (take n (drop at text))
          ∙ ap (append_known (written old)) (sym (take-add at n text));
      quiet = quiet ∙ before.quiet;
    }

-- a fault comes before the end of a text
pub AppendsPart-stop : {K : Type 0} (written : K → Option (List ℕ)) (faults : K → ℕ) (old middle new : K)
    (text : List ℕ) (at : ℕ)
    → at < length text → Appends written faults old middle (take at text) → written new ≡ written middle →
    faults new ≡ one_more (faults middle)
    → AppendsPart written faults old new text
AppendsPart-stop written faults old middle new text at within before stays counted =
    record {
      part = take at text;
      rest = drop at text;
      prefix = take-append-drop at text;
      cut = omega (arith, within, length-drop at text);
      appended = stays ∙ before.appended;
      counted = counted ∙ ap one_more before.quiet;
    }
