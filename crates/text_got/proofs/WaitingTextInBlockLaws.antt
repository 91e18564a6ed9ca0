-- A text of which a prefix is put and the rest waits.
use Rattle.std.proofs.Common.{◌≡◌, ℕ, ◌+◌, ◌≤◌, List, [], ◌++◌, length, take, Option, sym, ap, ◌∙◌, append_assoc}
use Rattle.std.proofs.Common.{append-nil}
use Rattle.std.proofs.Math.Seq.{take-append-add}
use Rattle.std.proofs.lemmas.List.{take-append-le, length-take-le}
use borrow.Rule.Slice.PartMut.{put_mid, post_of}
use Rattle.law_model.specs.Common.{Appends}
use Rattle.octet_io.proofs.AppendedTextAndPrefixLaws.{Appends-none, Appends-then}
use Rattle.text_got.specs.TextSoFar.{Holds}

-- nothing is put, and all waits
pub Holds-waits : {K : Type 0} (written : K → Option (List ℕ)) (faults : K → ℕ) (sink : K) (waiting text : List ℕ) →
    waiting ≡ text
    → Holds written faults sink sink waiting text
Holds-waits written faults sink waiting text is =
    record { put = []; appends = Appends-none written faults sink; all = is }

-- a text, and what was put of it before a further text is added
text_then : (put waiting text next : List ℕ) → put ++ waiting ≡ text → put ++ (waiting ++ next) ≡ text ++ next
text_then put waiting text next is = sym (append_assoc put waiting next) ∙ ap (λ (t : List ℕ). t ++ next) is

-- a further text is added
pub Holds-then : {K : Type 0} (written : K → Option (List ℕ)) (faults : K → ℕ) (start old new : K)
    (waiting after text next : List ℕ)
    → Holds written faults start old waiting text → Holds written faults old new after (waiting ++ next) →
    Holds written faults start new after (text ++ next)
Holds-then written faults start old new waiting after text next before then =
    record {
      put = before.put ++ then.put;
      appends = Appends-then written faults start old new before.put then.put before.appends then.appends;
      all = append_assoc before.put then.put after ∙ ap (λ (t : List ℕ). before.put ++ t) then.all
          ∙ text_then before.put waiting text next before.all;
    }

-- all that waited is put
pub Holds-all : {K : Type 0} (written : K → Option (List ℕ)) (faults : K → ℕ) (old new : K) (put text : List ℕ) →
    put ≡ text
    → Appends written faults old new put → Holds written faults old new [] text
Holds-all written faults old new put text is appends =
    record { put = put; appends = appends; all = append-nil put ∙ is }

-- the front of a block, after a line was put together behind what waits
pub front_added : (len n k : ℕ) (octets out waiting text : List ℕ) → len ≤ length octets → n ≤ length out →
    waiting ≡ take len octets → take n out ≡ text
    → take (len + n) (put_mid len k octets out) ≡ waiting ++ text
front_added len n k octets out waiting text within room before is =
    ap (λ (m : ℕ). take (m + n) (put_mid len k octets out)) (sym (length-take-le len octets within))
    ∙ take-append-add (take len octets) (out ++ post_of len k octets) n
    ∙ ap (λ (t : List ℕ). take len octets ++ t) (take-append-le n out (post_of len k octets) room ∙ is)
    ∙ ap (λ (t : List ℕ). t ++ text) (sym before)
