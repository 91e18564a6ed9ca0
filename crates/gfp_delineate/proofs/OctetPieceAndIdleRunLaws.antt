-- A piece of octets: its front, its last six in a descrambler, repeated octets, and a run of idles.
use Rattle.std.proofs.Common.{◌≡◌, ℕ, ◌+◌, ◌-◌, ◌<◌, ◌≤◌, List, [], ◌∷◌, ◌++◌, length, take, drop, get_or, refl, sym}
use Rattle.std.proofs.Common.{◌∙◌, ap, arith, take-add, length-append, length-take, length-drop, drop_at, take_all}
use Rattle.std.proofs.Common.{◌*◌, min, Bool, true, false, append_assoc, if◌then◌else◌, take-append-drop, zero, suc}
use Rattle.std.proofs.Common.{inl, subst}
use Rattle.std.proofs.lemmas.List.{take-append-le, append-nil}
use Rattle.std.proofs.lemmas.Slice.{take-put_mid}
use borrow.Rule.Slice.PartMut.{put_mid}
use Rattle.std.proofs.Math.Seq.{drop-append-add}
use Rattle.law_model.specs.Common.{octet_bits, head}
use Rattle.check_remainder.proofs.NumberAndOctetBitsLaws.{octet_bits-append, length-octet_bits}
use Rattle.gfp_scramble.specs.Descrambler.{Descrambling, DescramblerStands, Continues}
use Rattle.std.specs.Int.{to_le_bytes, w64}
use Rattle.law_model.proofs.CoreHeaderLaws.{idle_header, idles, idles-more, head-core_header, core_header-idle}
use Rattle.gfp_delineate.specs.Repeated.{repeated, idles_from}
use Rattle.gfp_delineate.specs.declared.hunt_presync_sync.Phase.TheVariants.{SyncHeader}
use Rattle.gfp_delineate.specs.LeftOpen.{running, Leaves}
use Rattle.gfp_delineate.specs.ReceivedAreas.{reader, ends, Progress}
use Rattle.gfp_delineate.proofs.CorrectedHeaderBitLaws.{reader-head}
use Rattle.gfp_delineate.proofs.LeftOpenSegmentLaws.{Leaves-longer}
use Rattle.gfp_delineate.proofs.ReceiverProgressLaws.{ends-header, window-few, window-none, Takes, Takes-in}
use Rattle.gfp_delineate.proofs.ReceiverProgressLaws.{Takes-none, Takes-then}
use Rattle.gfp_delineate.proofs.HuntPresyncSteps.{in_phase}
use Rattle.gfp_delineate.proofs.SyncHeaderAreaSteps.{to-header, followed-idle}

-- ---- The octets of a vector after a place, once they were written through, and the first octets of a piece.
pub written_after : (old n len : ℕ) (xs ys more : List ℕ) → n ≡ old → len ≡ length xs → n ≤ length xs →
    length ys ≡ length xs - n →
    drop old (take len (put_mid n (length xs - n) xs ys ++ more)) ≡ ys
written_after old n len xs ys more same e h size =
    let zs = put_mid n (length xs - n) xs ys in
    let long : len ≤ length zs = omega (
      arith,
      length-append (take n xs) (ys ++ drop (length xs - n) (drop n xs)),
      length-append ys (drop (length xs - n) (drop n xs)),
      length-take n xs,
    ) in
    ap (λ m. drop m (take len (put_mid n (length xs - n) xs ys ++ more))) (sym same)
    ∙ ap (drop n) (take-append-le len zs more long ∙ take-put_mid n (length xs - n) xs ys len (omega arith) h)
    ∙ drop_at (take n xs) ys n (omega (arith, length-take n xs))

pub take_one : (piece : List ℕ) → 0 < length piece → take 1 piece ≡ get_or piece 0 0 ∷ []
take_one [] some = absurd (omega arith)
take_one (a ∷ rest) some = refl

pub take_four : (piece : List ℕ) → 4 ≤ length piece →
    take 4 piece ≡ (get_or piece 0 0 ∷ get_or piece 1 0 ∷ get_or piece 2 0 ∷ []) ++ get_or piece 3 0 ∷ []
take_four [] some = absurd (omega arith)
take_four (a ∷ []) some = absurd (omega arith)
take_four (a ∷ b ∷ []) some = absurd (omega arith)
take_four (a ∷ b ∷ c ∷ []) some = absurd (omega arith)
take_four (a ∷ b ∷ c ∷ d ∷ rest) some = refl

-- the octets before a place, and some of those from there on
pub taken_more : (at n : ℕ) (piece : List ℕ) → n ≤ length (take (length piece - at) (drop at piece)) →
    take at piece ++ take n (take (length piece - at) (drop at piece)) ≡ take (at + n) piece
taken_more at n piece within =
    ap (λ l. take at piece ++ take n l)
    (take_all (length piece - at) (drop at piece) (omega (arith, length-drop at piece)))
    ∙ sym (take-add at n piece)

-- a part of one octet that isn't empty
pub part_of_one : (n octet : ℕ) → 0 < n → n ≤ 1 → take n (octet ∷ []) ≡ octet ∷ []
part_of_one n octet some within = let one : n ≡ 1 = omega arith in ap (λ n. take n (octet ∷ [])) one

-- ---- Of many octets, a descrambler keeps what the last six of them are.
-- the octets of a list after a place that lies in its second part
drop_past : (k n : ℕ) (xs ys : List Bool) → length xs + n ≡ k → drop k (xs ++ ys) ≡ drop n ys
drop_past k n xs ys place = ap (λ k. drop k (xs ++ ys)) (sym place) ∙ drop-append-add xs ys n

-- the last 43 bits of 48 and more
last_bits : (before : List Bool) (front last : List ℕ) → length before ≡ 43 → length last ≡ 6 →
    drop (8 * length (front ++ last)) (before ++ octet_bits (front ++ last)) ≡ drop 5 (octet_bits last)
last_bits before front last size six =
    ap (λ l. drop (8 * length (front ++ last)) l)
    (ap (λ l. before ++ l) (octet_bits-append front last)
    ∙ sym (append_assoc before (octet_bits front) (octet_bits last)))
    ∙ drop_past (8 * length (front ++ last)) 5 (before ++ octet_bits front) (octet_bits last)
    (omega (
      arith,
      length-append before (octet_bits front),
      length-octet_bits front,
      length-append front last,
      size,
      six,
    ))

given_all : (settled : Bool) (given n : ℕ) → given ≡ 6 → 6 ≤ n → given ≡ (if settled then 6 else min n 6)
given_all true given n six enough = six
given_all false given n six enough = omega (arith, six, enough)

pub Continues-last : (old new : Descrambling) (piece : List ℕ) → 6 ≤ length piece →
    DescramblerStands new false (drop (length piece - 6) piece) → Continues old new piece
Continues-last old new piece enough last = λ settled octets stands.
    let part : List ℕ = drop (length piece - 6) piece in
    let front : List ℕ = octets ++ take (length piece - 6) piece in
    let six : length part ≡ 6 = omega (arith, length-drop (length piece - 6) piece, enough) in
    let whole : octets ++ piece ≡ front ++ part =
    ap (λ l. octets ++ l) (sym (take-append-drop (length piece - 6) piece))
    ∙ sym (append_assoc octets (take (length piece - 6) piece) part) in
    record {
      before = stands.before;
      size = stands.size;
      zeros = stands.zeros;
      last = last.last ∙ last_bits last.before [] part last.size six
          ∙ sym (last_bits stands.before front part stands.size six)
          ∙ ap (λ all. drop (8 * length all) (stands.before ++ octet_bits all)) (sym whole);
      given = given_all settled new.given (length (octets ++ piece))
          (last.given ∙ (let e : min (length part) 6 ≡ 6 = omega (arith, six) in e))
          (omega (arith, length-append octets piece, enough));
    }

-- ---- Octets again and again.
-- so often, and so often again
pub repeated-add : (a b : ℕ) (octets : List ℕ) → repeated (a + b) octets ≡ repeated a octets ++ repeated b octets
repeated-add zero b octets = let e : 0 + b ≡ b = omega arith in ap (λ n. repeated n octets) e
repeated-add (suc a) b octets =
    let e : suc a + b ≡ suc (a + b) = omega arith in
    ap (λ n. repeated n octets) e
    ∙ ap (λ l. octets ++ l) (repeated-add a b octets)
    ∙ sym (append_assoc octets (repeated a octets) (repeated b octets))

pub repeated-once : (octets : List ℕ) → repeated 1 octets ≡ octets
repeated-once octets = append-nil octets

-- two headers of idles as the octets of a word
two-idles : to_le_bytes w64 0xe031abb6e031abb6 ≡ idle_header ++ idle_header
two-idles = refl

pub repeated-idles : (n : ℕ) → repeated n (to_le_bytes w64 0xe031abb6e031abb6) ≡ idles (2 * n)
repeated-idles zero = refl
repeated-idles (suc n) =
    (let e : suc n ≡ n + 1 = omega arith in ap (λ n. repeated n (to_le_bytes w64 0xe031abb6e031abb6)) e)
    ∙ repeated-add n 1 (to_le_bytes w64 0xe031abb6e031abb6)
    ∙ ap (λ l. l ++ repeated 1 (to_le_bytes w64 0xe031abb6e031abb6)) (repeated-idles n)
    ∙ ap (λ l. idles (2 * n) ++ l) (repeated-once (to_le_bytes w64 0xe031abb6e031abb6) ∙ two-idles)
    ∙ sym (append_assoc (idles (2 * n)) idle_header idle_header)
    ∙ ap (λ l. l ++ idle_header) (sym (idles-more (2 * n)))
    ∙ sym (idles-more (2 * n + 1))
    ∙ (let e : 2 * n + 1 + 1 ≡ 2 * suc n = omega arith in ap idles e)

-- ---- Idle frames that go on from a place in a header, to the same place in the header behind them.
module _ (old : Progress) (place : ℕ) (part : place < 4) (was : old.phase ≡ SyncHeader place)
    (begins : drop (4 - place) old.window ≡ take place idle_header) where
  -- the rest of a header
  takes-rest : Takes old (in_phase old (SyncHeader 0)) (drop place idle_header) []
  takes-rest =
      Takes-in old (in_phase old (SyncHeader 0)) (drop place idle_header) [] (SyncHeader place) was
      (λ longest first octets limit is.
      let last : List ℕ = drop (4 - place) old.window in
      let whole : last ++ drop place idle_header ≡ idle_header = ap (λ l. l ++ drop place idle_header) begins
      ∙ take-append-drop place idle_header in
      followed-idle old longest first octets (drop place idle_header) limit is.ended is.settled is.before idle_header
      (ends-header longest old.corrects first octets is.ended is.settled is.before last
      (window-few old.window is.run.window place is.part) is.run.leaves)
      refl
      (subst (λ l. Leaves head (reader old.corrects) first (octets ++ drop place idle_header) is.ended
      (running is.settled is.before l))
      whole
      (Leaves-longer head (reader old.corrects) first octets is.ended (running is.settled is.before last)
      (drop place idle_header) is.run.leaves))
      is.run.given old.window old.area is.run.window
      (reader-head old.corrects idle_header 0
      (ap head (sym core_header-idle) ∙ head-core_header 0 (omega arith, inl refl))))

  -- the front of the next one
  takes-front : Takes (in_phase old (SyncHeader 0)) old (take place idle_header) []
  takes-front =
      subst (λ new. Takes (in_phase old (SyncHeader 0)) new (take place idle_header) []) (ap (in_phase old) (sym was))
      (Takes-in (in_phase old (SyncHeader 0)) (in_phase old (SyncHeader place)) (take place idle_header) []
      (SyncHeader 0) refl
      (λ longest first octets limit is.
      let last : List ℕ = drop (4 - 0) old.window in
      to-header old longest first octets (take place idle_header) limit is.ended is.settled is.before []
      (append-nil (ends longest old.corrects first octets)
      ∙ ends-header longest old.corrects first octets is.ended is.settled is.before last
      (window-few old.window is.run.window 0 is.part) is.run.leaves)
      place part
      (record {
        leaves = subst (λ l. Leaves head (reader old.corrects) first (octets ++ take place idle_header)
            is.ended (running is.settled is.before l))
            (ap (λ l. l ++ take place idle_header) (window-none old.window is.run.window) ∙ sym begins)
            (Leaves-longer head _ first octets is.ended _ (take place idle_header) is.run.leaves);
        given = is.run.given;
        window = is.run.window;
      })))

  takes-turns : (count : ℕ) → Takes old old (repeated count (drop place idle_header ++ take place idle_header)) []
  takes-turns zero = Takes-none old
  takes-turns (suc count) =
      Takes-then old old old _ _ [] (Takes-then old _ old _ _ [] takes-rest takes-front) (takes-turns count)

  pub Takes-idles_from : (count : ℕ) → Takes old old (idles_from place count) []
  Takes-idles_from count =
      subst (λ header. Takes old old (repeated count (drop place header ++ take place header)) [])
      (sym core_header-idle) (takes-turns count)
