-- The VC-4s in a part of a stream: their octets, and those that begin and end in it; and parts of the array of one.
use Rattle.std.proofs.Common.{◌≡◌, ℕ, zero, suc, ◌+◌, ◌-◌, ◌*◌, List, [], ◌∷◌, ◌++◌, length, drop, refl, ◌∙◌, ap}
use Rattle.std.proofs.Common.{arith, length-append, ◌/◌, ◌<◌, ◌≤◌, take, sym, ap₂, append_assoc, replicate, subst, set}
use Rattle.std.specs.List.{concat, fold}
use Rattle.std.proofs.lemmas.List.Elements.{All-head, All-tail, All-nil, All-cons, All-drop, All-take}
use Rattle.member_au4.specs.au4_pointer.StreamPart.{AreVcs, Part, begun, next_part, flow, ending, octets_of, begins}
use Rattle.std.proofs.lemmas.List.{length-drop, length-take-le, take_at, drop_at, drop-drop, take-append-drop}
use Rattle.std.proofs.lemmas.List.{length-replicate, length-take, drop-append-le, take_rest, append-nil, drop_all}
use Rattle.std.proofs.lemmas.List.{length-set}
use Rattle.member_au4.specs.au4_pointer.Sink.{pieces, vcs_in}
use Rattle.std.proofs.Math.Seq.{take-append-add}
use Rattle.std.proofs.lemmas.List.Folds.{concat-append}
use Rattle.law_model.proofs.ListLaws.{drop-part, take-written}
use Rattle.member_au4.specs.declared.au4_pointer.au_frame.Action.{Action}
use Rattle.member_au4.specs.declared.au4_pointer.au_frame.Action.TheVariants.{Keep, New}
use Rattle.member_au4.specs.au4_pointer.Source.{due, IsValid, last_octets}
use Rattle.std.proofs.lemmas.Slice.{take-put_mid_below}
use borrow.Rule.Slice.PartMut.{mid_of, put_mid}

-- ---- Laws of lists.
-- what is dropped of two lists
pub drop-both : {X : Type 0} → (n : ℕ) (xs ys : List X) → drop n (xs ++ ys) ≡ drop n xs ++ drop (n - length xs) ys
drop-both zero xs ys = ap (λ k. xs ++ drop k ys) (let e : 0 ≡ 0 - length xs = omega arith in e)
drop-both (suc n) [] ys = ap (λ k. drop k ys) (let e : suc n ≡ suc n - 0 = omega arith in e)
drop-both (suc n) (x ∷ xs) ys = drop-both n xs ys ∙ ap (λ k. drop n xs ++ drop k ys)
    (let e : n - length xs ≡ suc n - suc (length xs) = omega arith in e)

-- the octets of VC-4s
pub length-vcs : (vcs : List (List ℕ)) → AreVcs vcs → length (concat vcs) ≡ 2349 * length vcs
length-vcs [] all = refl
length-vcs (vc ∷ vcs) all = length-append vc (concat vcs) ∙ (let e : length vc + length (concat vcs)
    ≡ 2349 * suc (length vcs) = omega (
      arith,
      All-head (λ vc. length vc ≡ 2349) vc vcs all,
      length-vcs vcs (All-tail (λ vc. length vc ≡ 2349) vc vcs all),
    ) in e)

-- ---- The VC-4s that are whole in the data of a part.
pieces-split : (vcs : List (List ℕ)) (kept : List ℕ) → AreVcs vcs → pieces (length vcs) (concat vcs ++ kept) ≡ vcs
pieces-split [] kept are = refl
pieces-split (vc ∷ vcs) kept are =
    let long = All-head (λ v. length v ≡ 2349) vc vcs are in
    let all : (vc ++ concat vcs) ++ kept ≡ vc ++ (concat vcs ++ kept) = append_assoc vc (concat vcs) kept in
    ap₂ (λ x y. x ∷ pieces (length vcs) y) (ap (take 2349) all ∙ take_at vc (concat vcs ++ kept) 2349 long)
    (ap (drop 2349) all ∙ drop_at vc (concat vcs ++ kept) 2349 long)
    ∙ ap (λ l. vc ∷ l) (pieces-split vcs kept (All-tail (λ v. length v ≡ 2349) vc vcs are))

are-pieces : (n : ℕ) (octets : List ℕ) → 2349 * n ≤ length octets → AreVcs (pieces n octets)
are-pieces zero octets fits = All-nil (λ v. length v ≡ 2349)
are-pieces (suc n) octets fits =
    All-cons (λ v. length v ≡ 2349) (take 2349 octets) (pieces n (drop 2349 octets))
    (length-take-le 2349 octets (omega (arith, fits)))
    (are-pieces n (drop 2349 octets) (omega (arith, fits, length-drop 2349 octets)))

pub are-vcs : (begin : ℕ) (octets : List ℕ) → AreVcs (vcs_in begin octets)
are-vcs begin octets =
    are-pieces ((length octets - 3 * begin) / 2349) (drop (3 * begin) octets)
    (omega (arith, length-drop (3 * begin) octets))

-- they are known from what they leave
pub vcs-split : (begin : ℕ) (octets : List ℕ) (vcs : List (List ℕ)) (kept : List ℕ) → AreVcs vcs → length kept < 2349
    → drop (3 * begin) octets ≡ concat vcs ++ kept → vcs_in begin octets ≡ vcs
vcs-split begin octets vcs kept are few split =
    let count : (length octets - 3 * begin) / 2349 ≡ length vcs =
    omega (
      arith,
      ap length split,
      length-drop (3 * begin) octets,
      length-append (concat vcs) kept,
      length-vcs vcs are,
      few,
    ) in
    ap₂ pieces count split ∙ pieces-split vcs kept are

-- pieces, and what they leave
pub pieces-concat : (n : ℕ) (octets : List ℕ) → 2349 * n ≤ length octets
    → concat (pieces n octets) ++ drop (2349 * n) octets ≡ octets
pieces-concat zero octets fits = refl
pieces-concat (suc n) octets fits =
    append_assoc (take 2349 octets) (concat (pieces n (drop 2349 octets))) (drop (2349 * suc n) octets)
    ∙ ap (λ l. take 2349 octets ++ (concat (pieces n (drop 2349 octets)) ++ l))
    (ap (λ k. drop k octets) (let e : 2349 * suc n ≡ 2349 + 2349 * n = omega arith in e)
    ∙ sym (drop-drop (2349 * n) 2349 octets))
    ∙ ap (λ l. take 2349 octets ++ l) (pieces-concat n (drop 2349 octets)
    (omega (arith, fits, length-drop 2349 octets)))
    ∙ take-append-drop 2349 octets

-- as many as there are
pub whole-pieces : (octets : List ℕ) → concat (pieces (length octets / 2349) octets)
    ++ drop (2349 * (length octets / 2349)) octets ≡ octets
whole-pieces octets = pieces-concat (length octets / 2349) octets (omega arith)

pub few-left : (octets : List ℕ) → length (drop (2349 * (length octets / 2349)) octets) < 2349
few-left octets = omega (arith, length-drop (2349 * (length octets / 2349)) octets)

pub all-pieces : (octets : List ℕ) → AreVcs (pieces (length octets / 2349) octets)
all-pieces octets = are-pieces (length octets / 2349) octets (omega arith)

-- ---- The VC-4s that are whole in a part are those that end in it.
-- the first octets of VC-4s
first-octets : (vcs : List (List ℕ)) (m : ℕ) → AreVcs vcs → m / 2349 ≤ length vcs
    → take m (concat vcs) ≡ concat (take (m / 2349) vcs) ++ take (m - 2349 * (m / 2349))
    (concat (drop (m / 2349) vcs))
first-octets vcs m are fits =
    let e = m / 2349 in
    let front = take e vcs in
    let back = concat (drop e vcs) in
    let all : concat vcs ≡ concat front ++ back = ap concat (sym (take-append-drop e vcs))
    ∙ concat-append front (drop e vcs) in
    let long : length (concat front) ≡ 2349 * e = length-vcs front (All-take (λ v. length v ≡ 2349) e vcs are)
    ∙ ap (λ n. 2349 * n) (length-take-le e vcs fits) in
    ap₂ take (let s : m ≡ 2349 * e + (m - 2349 * e) = omega arith in s ∙ ap (λ n. n + (m - 2349 * e)) (sym long)) all
    ∙ take-append-add (concat front) back (m - 2349 * e)

pub part-given : (part : Part) (vcs : List (List ℕ)) → AreVcs vcs → begun part ≤ length vcs
    → vcs_in part.value (take part.size (flow part vcs)) ≡ ending vcs part
part-given part vcs are enough =
    let lead = 3 * part.value in
    let m = part.size - lead in
    let due = drop part.first vcs in
    let zeros : List ℕ = replicate lead 0 in
    let kept = take (m - 2349 * (m / 2349)) (concat (drop (m / 2349) due)) in
    let fits : m / 2349 ≤ length due = omega (arith, length-drop part.first vcs, enough) in
    let they = All-drop (λ v. length v ≡ 2349) part.first vcs are in
    let split : drop lead (take part.size (flow part vcs)) ≡ concat (ending vcs part) ++ kept =
    drop-part lead part.size (flow part vcs) ∙ ap (take m)
    (drop_at zeros (concat due) lead (length-replicate {A = ℕ} lead 0)) ∙ first-octets due m they fits in
    let few : length kept < 2349 =
    omega (arith, length-take (m - 2349 * (m / 2349)) (concat (drop (m / 2349) due))) in
    vcs-split part.value (take part.size (flow part vcs)) (ending vcs part) kept
    (All-take (λ v. length v ≡ 2349) (m / 2349) due they) few split

-- ---- more parts begin no fewer
pub begun-more : (part : Part) (a : Action) → begun part ≤ begun (next_part part a)
begun-more part Keep = omega arith
begun-more part a = omega arith

pub begun-after : (part : Part) (actions : List Action) → begun part ≤ begun (fold next_part part actions)
begun-after part [] = omega arith
begun-after part (a ∷ actions) = omega (arith, begun-more part a, begun-after (next_part part a) actions)

-- ---- The octets of a part, with one frame more.
pub length-flow : (part : Part) (asked : List (List ℕ)) → AreVcs asked
    → length (flow part asked) ≡ 3 * part.value + 2349 * (length asked - part.first)
length-flow part asked vcs =
    let behind = drop part.first asked in
    length-append (replicate (3 * part.value) 0) (concat behind)
    ∙ ap₂ (λ m n. m + n) (length-replicate {A = ℕ} (3 * part.value) 0)
    (length-vcs behind (All-drop (λ vc. length vc ≡ 2349) part.first asked vcs)
    ∙ ap (λ n. 2349 * n) (length-drop part.first asked))

pub flow-more : (part : Part) (asked vcs : List (List ℕ)) → part.first ≤ length asked
    → flow part (asked ++ vcs) ≡ flow part asked ++ concat vcs
flow-more part asked vcs fits =
    let zeros : List ℕ = replicate (3 * part.value) 0 in
    ap (λ l. zeros ++ concat l) (drop-append-le part.first asked vcs fits)
    ∙ ap (λ l. zeros ++ l) (concat-append (drop part.first asked) vcs)
    ∙ sym (append_assoc zeros (concat (drop part.first asked)) (concat vcs))

-- ---- how many VC-4s begin
begin-more : (n m lead b k r : ℕ) → b ≡ (n - lead + 2348) / 2349 → m + r + n ≡ lead + 2349 * b + 2349 * k
    → (0 < k → r < 2349) → b + k ≡ (n + m - lead + 2348) / 2349
begin-more n m lead b zero r is sent few = omega (arith, is, sent)
begin-more n m lead b (suc k) r is sent few =
    let less : r < 2349 = few (omega arith) in
    omega (arith, is, sent, less)

reach : (n lead b : ℕ) → b ≡ (n - lead + 2348) / 2349 → n ≤ lead + 2349 * b
reach n lead b is = omega (arith, is)

-- with a frame more within the part
pub record Longer (part : Part) (m : ℕ) (vcs : List (List ℕ)) (octets rest : List ℕ) : Type 0 where
  pub count : length vcs ≡ part.first + (part.size + m - 3 * part.value + 2348) / 2349
  pub sent : octets ≡ take m (drop part.size (flow part vcs))
  pub left : rest ≡ drop (part.size + m) (flow part vcs)

pub longer : (part : Part) (m : ℕ) (asked vcs : List (List ℕ)) (octets rest : List ℕ) → AreVcs asked → AreVcs vcs
    → length asked ≡ begun part → length octets ≡ m
    → octets ++ rest ≡ drop part.size (flow part asked) ++ concat vcs → (0 < length vcs → length rest < 2349)
    → Longer part m (asked ++ vcs) octets rest
longer part m asked vcs octets rest are more count size sent few =
    let n = part.size in
    let lead = 3 * part.value in
    let here = flow part asked in
    let long : length here ≡ lead + 2349 * begins part = length-flow part asked are
    ∙ ap (λ k. lead + 2349 * k) (let e : length asked - part.first ≡ begins part = omega (arith, count) in e) in
    let fits : n ≤ length here = subst (λ k. n ≤ k) (sym long) (reach n lead (begins part) refl) in
    let all : flow part (asked ++ vcs) ≡ here ++ concat vcs = flow-more part asked vcs (omega (arith, count)) in
    let behind : drop n (flow part (asked ++ vcs)) ≡ octets ++ rest = ap (drop n) all
    ∙ drop-append-le n here (concat vcs) fits ∙ sym sent in
    let sum : m + length rest + n ≡ lead + 2349 * begins part + 2349 * length vcs =
    omega (
      arith,
      ap length sent,
      length-append octets rest,
      length-append (drop n here) (concat vcs),
      length-drop n here,
      length-vcs vcs more,
      size,
      long,
      fits,
    ) in
    record {
      count = length-append asked vcs ∙ ap (λ k. k + length vcs) count
          ∙ (let e : part.first + begins part + length vcs ≡ part.first + (begins part + length vcs) = omega arith in
          e)
          ∙ ap (λ k. part.first + k) (begin-more n m lead (begins part) (length vcs) (length rest) refl sum few);
      sent = sym (ap (take m) behind ∙ take_at octets rest m size);
      left = sym (ap (λ l. l) (sym (drop-drop m n (flow part (asked ++ vcs)))) ∙ ap (drop m) behind
          ∙ drop_at octets rest m size);
    }

-- ---- with any frame more
pub record Further (part : Part) (a : Action) (vcs : List (List ℕ)) (octets rest : List ℕ) : Type 0 where
  pub count : length vcs ≡ begun part
  pub sent : octets ≡ last_octets part a vcs
  pub left : rest ≡ drop part.size (flow part vcs)

less : (n m : ℕ) → n ≡ n + m - m
less n m = omega arith

one-begins : (p r k : ℕ) → p ≤ 782 → 2349 + r ≡ 3 * p + 2349 * k → (0 < k → r < 2349)
    → k ≡ (2349 - 3 * p + 2348) / 2349
one-begins p r zero small sum few = absurd (omega (arith, small, sum))
one-begins p r (suc k) small sum few = let below : r < 2349 = few (omega arith) in omega (arith, small, sum, below)

pub further : (part : Part) (a : Action) (asked vcs : List (List ℕ)) (octets rest : List ℕ) → IsValid a → AreVcs asked
    → AreVcs vcs → length asked ≡ begun part → length octets ≡ octets_of a
    → octets ++ rest ≡ due (drop part.size (flow part asked)) a ++ concat vcs → (0 < length vcs → length rest < 2349)
    → Further (next_part part a) a (asked ++ vcs) octets rest
further part (New p) asked vcs octets rest valid are more count size sent few =
    let zeros : List ℕ = replicate (3 * p) 0 in
    let behind : flow (next_part part (New p)) (asked ++ vcs) ≡ octets ++ rest =
    ap (λ l. zeros ++ concat l) (drop_at asked vcs (begun part) count) ∙ sym sent in
    let sum : 2349 + length rest ≡ 3 * p + 2349 * length vcs =
    omega (
      arith,
      ap length sent,
      length-append octets rest,
      length-append zeros (concat vcs),
      length-replicate {A = ℕ} (3 * p) 0,
      length-vcs vcs more,
      size,
    ) in
    record {
      count = length-append asked vcs ∙ ap (λ k. k + length vcs) count
          ∙ ap (λ k. begun part + k) (one-begins p (length rest) (length vcs) valid sum few);
      sent = sym (ap (take 2349) behind ∙ take_at octets rest 2349 size);
      left = sym (ap (drop 2349) behind ∙ drop_at octets rest 2349 size);
    }
further part a asked vcs octets rest valid are more count size sent few =
    let l = longer part (octets_of a) asked vcs octets rest are more count size sent few in
    record {
      count = l.count;
      sent = l.sent ∙ ap (λ n. take (octets_of a) (drop n (flow part (asked ++ vcs))))
          (less part.size (octets_of a));
      left = l.left;
    }

-- ---- Parts of arrays that are written.
-- all that is behind a place
pub rest-of : (at : ℕ) (vc : List ℕ) → length vc ≡ 2349 → mid_of at (2349 - at) vc ≡ drop at vc
rest-of at vc long = ap (λ n. take (n - at) (drop at vc)) (sym long) ∙ take_rest vc at

-- all that is behind three octets
pub behind_three : (body : List ℕ) → length body ≡ 2349 → mid_of 3 2346 body ≡ drop 3 body
behind_three body long = rest-of 3 body long

-- nothing is behind all
pub none_left : (n : ℕ) (vc : List ℕ) → length vc ≡ 2349 → replicate n 0 ++ drop 2349 vc ≡ replicate n 0
none_left n vc long =
    ap (λ l. replicate n 0 ++ l) (drop_all 2349 vc (omega (arith, long))) ∙ append-nil (replicate n 0)

-- what is kept, with octets more
pub kept-more : (kept n : ℕ) (vc out piece : List ℕ) → kept ≤ length vc → n ≤ length out → take n out ≡ take n piece
    → take (kept + n) (put_mid kept (2349 - kept) vc out) ≡ take kept vc ++ take n piece
kept-more kept n vc out piece fits some same = take-written kept n vc out _ fits some
    ∙ ap (λ l. take kept vc ++ l) same

-- an array of which a part was written is as long
pub length-kept : (kept : ℕ) (vc out : List ℕ) → length vc ≡ 2349 → kept ≤ 2349
    → length out ≡ length (mid_of kept (2349 - kept) vc) → length (put_mid kept (2349 - kept) vc out) ≡ 2349
length-kept kept vc out long fits same =
    let back : List ℕ = drop (2349 - kept) (drop kept vc) in
    let size : length out ≡ 2349 - kept = omega (
      arith,
      same,
      ap length (rest-of kept vc long),
      length-drop kept vc,
      long,
    ) in
    length-append (take kept vc) (out ++ back)
    ∙ (let e : length (take kept vc) + length (out ++ back) ≡ 2349 =
    omega (
      arith,
      length-take-le kept vc (omega (arith, long, fits)),
      length-append out back,
      length-drop (2349 - kept) (drop kept vc),
      length-drop kept vc,
      size,
      long,
      fits,
    ) in e)

-- ---- three zeros, and what is written behind them
zeros-first : (body : List ℕ) → 3 ≤ length body → take 3 (set (set (set body 0 0) 1 0) 2 0) ≡ 0 ∷ 0 ∷ 0 ∷ []
zeros-first (x ∷ y ∷ z ∷ body) h = refl
zeros-first body h = absurd (omega (arith, h))

pub behind : (body piece : List ℕ) → length body ≡ 2349 → length piece ≡ 2346
    → drop 3 (put_mid 3 2346 body piece) ≡ piece
behind body piece long size =
    let back : List ℕ = drop 2346 (drop 3 body) in
    drop_at (take 3 body) (piece ++ back) 3 (length-take-le 3 body (omega (arith, long)))
    ∙ ap (λ l. piece ++ l) (drop_all 2346 (drop 3 body) (omega (arith, long, length-drop 3 body))) ∙ append-nil piece

pub three-zeros : (body piece : List ℕ) → length body ≡ 2349 → length piece ≡ 2346 → let out =
    put_mid 3 2346 (set (set (set body 0 0) 1 0) 2 0) piece in out ≡ 0 ∷ 0 ∷ 0 ∷ drop 3 out
three-zeros body piece long size =
    let was = set (set (set body 0 0) 1 0) 2 0 in
    let out = put_mid 3 2346 was piece in
    let same : length was ≡ 2349 = length-set (set (set body 0 0) 1 0) 2 0 ∙ length-set (set body 0 0) 1 0
    ∙ length-set body 0 0 ∙ long in
    sym (take-append-drop 3 out)
    ∙ ap (λ l. l ++ drop 3 out) (take-put_mid_below 3 2346 was piece 3 (omega arith) (omega (arith, same))
    ∙ zeros-first body (omega (arith, long)))
