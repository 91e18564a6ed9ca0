-- The draft of a link, the actions that it accepts, and what a text of a link says.
use Rattle.std.proofs.Common.{◌≡◌, ℕ, zero, suc, ◌+◌, ◌-◌, ◌<◌, ◌≤◌, Bool, true, nat_le, if◌then◌else◌, List, [], ◌∷◌}
use Rattle.std.proofs.Common.{◌++◌, length, replicate, Option, None, Some, refl, sym, ◌∙◌, ap, subst, arith}
use Rattle.std.proofs.Common.{append_assoc, append-nil, length-append, fold, nat_lt, map}
use Rattle.std.proofs.lemmas.Bool.Decides.{nat_tests}
use Rattle.std.proofs.lemmas.List.{length-replicate, replicate-append-replicate, length-map}
use Rattle.std.proofs.lemmas.List.Sums.{fold-append}
use Rattle.member_au4.specs.declared.au4_pointer.au_frame.Action.{Action}
use Rattle.member_au4.specs.declared.au4_pointer.au_frame.Action.TheVariants.{Keep, Up, Down, New}
use Rattle.member_au4.specs.declared.au4_pointer.pointer_source.PointerFault.{PointerFault}
use Rattle.member_au4.specs.declared.au4_pointer.pointer_source.PointerFault.TheVariants.{Range}
use Rattle.member_au4.specs.au4_pointer.PointerWord.{next_wait, new_wait, move_wait, too_soon, fault_after}
use Rattle.member_au4.specs.au4_pointer.SentFrames.{AreAccepted, AreTaken}
use Rattle.member_au4.proofs.PointerSourceAndSinkLaws.{accepted-more, all-whole, all-taken}
use Rattle.member_au4.specs.au4_link.LinkTextLines.{least_next, place, last_named, too_early, with_action, after}
use Rattle.member_au4.specs.au4_link.LinkTextLines.{at_first, link_table}
use Rattle.std.proofs.lemmas.Bool.{ltb-false}
use Rattle.text_lines.specs.WordsOfLine.{word_at, number_at}
use Rattle.text_lines.specs.Fields.{within, fields_fault}
use Rattle.text_lines.specs.LanguageTable.{next_by, said_in, formed}
use Rattle.text_lines.proofs.TextLineAndWordLaws.{where_none, number_ok, one_field, two_fields}
use Rattle.text_lines.proofs.LineLanguageAndTableLaws.{IsPlaced, IsSound, Keeps, said_valid}
use Rattle.member_au4.specs.declared.au4_link.au4_keyword.Au4Keyword.{Au4Keyword}
use Rattle.member_au4.specs.declared.au4_link.au4_draft.Au4Draft.{Au4Draft}
use Rattle.member_au4.specs.au4_link.Link.{link_in, IsLink, link_of}
use Rattle.std.specs.Prelude.{Ok}
use Rattle.std.specs.List.{range_with_len}
use Rattle.std.specs.Int.{w64, to_be_bytes}
use Rattle.std.proofs.lemmas.List.FromFn.{length-range_with_len}
use Rattle.std.proofs.lemmas.List.Elements.{All-nil, All-cons}
use Rattle.member_au4.specs.au4_pointer.StreamPart.{AreVcs, begun, part_after, whole}
use Rattle.member_au4.specs.au4_pointer.Sink.{given}
use Rattle.member_au4.specs.declared.au4_link.au4_draft.Link.{Link}
use Rattle.member_au4.specs.au4_link.Vcs.{rising, vc_of, first_vcs}
use Rattle.member_au4.specs.au4_link.LinkReportText.{vc_texts, end_text, cuts, back_of, link_text}
use Rattle.member_au4.specs.au4_link.Carried.{link_vcs, link_frames, carried_text}
use Rattle.member_au4.specs.declared.au4_link.au4_keyword.Au4Keyword.TheVariants as word

-- ---- Which actions are accepted: three Keep behind one that isn't, or none before.
-- an action that a frame may have
abbrev pub IsAct : ℕ → Action → Type 0
IsAct frame Keep = ⊥
IsAct frame Up = 1 ≤ frame
IsAct frame Down = 1 ≤ frame
IsAct frame (New p) = p ≤ 782

-- ---- how long is to wait
at-most : (w : ℕ) (actions : List Action) → w ≤ 3 → fold next_wait w actions ≤ 3
at-most w [] small = small
at-most w (Keep ∷ more) small = at-most (w - 1) more (omega (arith, small))
at-most w (a ∷ more) small = at-most 3 more (omega arith)

keeps : (w n : ℕ) → fold next_wait w (replicate n Keep) ≡ w - n
keeps w zero = omega arith
keeps w (suc n) = keeps (w - 1) n ∙ (let e : w - 1 - n ≡ w - suc n = omega arith in e)

wait-behind : (actions : List Action) (n : ℕ) → new_wait (actions ++ replicate n Keep) ≡ new_wait actions - n
wait-behind actions n = fold-append next_wait 0 actions (replicate n Keep) ∙ keeps (new_wait actions) n

-- there is none, where the next frame may be named
no-wait : (actions : List Action) (frame : ℕ) → least_next actions ≤ frame
    → new_wait (actions ++ replicate (frame - length actions) Keep) ≡ 0
no-wait [] frame early = wait-behind [] (frame - 0) ∙ (let e : 0 - (frame - 0) ≡ 0 = omega arith in e)
no-wait (a ∷ more) frame early =
    let actions = a ∷ more in
    let most : new_wait actions ≤ 3 = at-most 0 actions (omega arith) in
    wait-behind actions (frame - length actions)
    ∙ (let e : new_wait actions - (frame - length actions) ≡ 0 = omega (arith, most, early) in e)

move-is : (actions : List Action) → 0 < length actions → move_wait actions ≡ new_wait actions
move-is [] some = absurd (omega (arith, some))
move-is (a ∷ more) some = refl

none-soon : (left : ℕ) → left ≡ 0 → too_soon left ≡ None
none-soon left e = ap too_soon e

new-within : (p : ℕ) (soon : Option PointerFault) → p ≤ 782 → (if nat_le p 782 then soon else Some (Range p)) ≡ soon
new-within p soon small =
    let yes : nat_le p 782 ≡ true = grind (arith, nat_tests, small) in
    ap (λ (b : Bool). if b then soon else Some (Range p)) yes

module _ (actions : List Action) (frame : ℕ) (inside : length actions ≤ frame)
    (early : least_next actions ≤ frame) where
  abbrev before : List Action
  before = actions ++ replicate (frame - length actions) Keep

  size : length before ≡ frame
  size =
      length-append actions (replicate (frame - length actions) Keep)
      ∙ ap (λ n. length actions + n) (length-replicate {A = Action} (frame - length actions) Keep)
      ∙ (let e : length actions + (frame - length actions) ≡ frame = omega (arith, inside) in e)

  moves : 1 ≤ frame → too_soon (move_wait before) ≡ None
  moves some =
      none-soon (move_wait before)
      (move-is before (let e : 0 < length before = omega (arith, size, some) in e) ∙ no-wait actions frame early)

  pub act-accepted : (a : Action) → IsAct frame a → fault_after before a ≡ None
  act-accepted Keep is = absurd is
  act-accepted (New p) is =
      new-within p (too_soon (new_wait before)) is ∙ none-soon (new_wait before) (no-wait actions frame early)
  act-accepted a is = moves is

-- ---- all are accepted
pub accepted-keeps : (actions : List Action) (n : ℕ) → AreAccepted actions → AreAccepted (actions ++ replicate n Keep)
accepted-keeps actions zero accepted = subst AreAccepted (sym (append-nil actions)) accepted
accepted-keeps actions (suc n) accepted =
    subst AreAccepted (append_assoc actions (Keep ∷ []) (replicate n Keep))
    (accepted-keeps (actions ++ Keep ∷ []) n (accepted-more actions Keep accepted refl))

pub accepted-none : AreAccepted []
accepted-none before after a is = absurd (let e = ap length is in omega (arith, e, length-append before (a ∷ after)))

-- ---- What a draft meets, the draft after one more line meets as well.
-- ---- actions
-- Keep up to a frame, one more
pub keep_one : (before all new : List Action) (n more : ℕ) → new ≡ all ++ Keep ∷ [] → all ≡ before ++ replicate n Keep
    → more ≡ n + 1 → new ≡ before ++ replicate more Keep
keep_one before all new n more grown is size =
    grown ∙ ap (λ l. l ++ Keep ∷ []) is ∙ append_assoc before (replicate n Keep) (Keep ∷ [])
    ∙ ap (λ l. before ++ l) (replicate-append-replicate {A = Action} n 1 Keep)
    ∙ ap (λ k. before ++ replicate k Keep) (sym size)

pub length-kept : (actions : List Action) (frame : ℕ) → length actions ≤ frame
    → length (actions ++ replicate (frame - length actions) Keep) ≡ frame
length-kept actions frame inside =
    length-append actions (replicate (frame - length actions) Keep)
    ∙ ap (λ n. length actions + n) (length-replicate {A = Action} (frame - length actions) Keep)
    ∙ (let e : length actions + (frame - length actions) ≡ frame = omega (arith, inside) in e)

-- ---- a draft
-- what is said where the next line may stand from a place on
pub record IsDraft (next : ℕ) (d : Au4Draft) : Type 0 where
  pub start : d.start ≤ 782
  pub none : next ≤ 1 → d.actions ≡ []
  pub some : 2 ≤ next → 1 ≤ d.frames
  pub few : d.frames ≤ 100000
  pub inside : length d.actions ≤ d.frames
  pub accepted : AreAccepted d.actions

-- a frame that a line names isn't before the least that may be named
far : (actions : List Action) (frame : ℕ) → least_next actions ≤ frame → length actions ≤ frame
far [] frame least = omega arith
far (a ∷ actions) frame least = omega (arith, least)

act-more : (next : ℕ) (d : Au4Draft) (frame : ℕ) (a : Action) → IsDraft next d → 2 ≤ next → frame < d.frames
    → least_next d.actions ≤ frame → IsAct frame a → IsDraft 2 (with_action d frame a)
act-more next d frame a is late below least act =
    let kept = d.actions ++ replicate (frame - length d.actions) Keep in
    let long = length-append kept (a ∷ []) in
    let behind = far d.actions frame least in
    record {
      start = is.start;
      none = λ low. absurd (omega (arith, low));
      some = λ at. is.some late;
      few = is.few;
      inside = (let size = length-kept d.actions frame behind in omega (arith, long, size, below));
      accepted =
          accepted-more kept a (accepted-keeps d.actions (frame - length d.actions) is.accepted)
          (act-accepted d.actions frame behind least a act);
    }

-- a frame that moves
move-more : (next : ℕ) (d : Au4Draft) (ws : List (List ℕ)) (a : Action) → IsDraft next d → 2 ≤ next → length ws ≡ 1
    → fields_fault (within 1 (d.frames - 1) ∷ []) 2 0 ws ≡ None → too_early d ws ≡ None
    → (1 ≤ number_at 0 ws → IsAct (number_at 0 ws) a) → IsDraft 2 (with_action d (number_at 0 ws) a)
move-more next d ws a is late size none early act =
    let frame = number_ok 2 1 (d.frames - 1) (word_at 0 ws) (one_field (within 1 (d.frames - 1)) 2 ws size none) in
    let some = is.some late in
    act-more next d (number_at 0 ws) a is late (omega (arith, some, frame.1))
    (ltb-false (number_at 0 ws) (least_next d.actions)
    (where_none (nat_lt (number_at 0 ws) (least_next d.actions)) (last_named d) early))
    (act frame.0)

-- ---- a line more
draft-first : IsDraft 0 at_first
draft-first = record {
  start = omega arith;
  none = λ low. refl;
  some = λ at. absurd (omega (arith, at));
  few = omega arith;
  inside = omega arith;
  accepted = accepted-none;
}

draft-after : (next : ℕ) (d : Au4Draft) (k : Au4Keyword) (ws : List (List ℕ)) → IsDraft next d → IsPlaced 2 next (place k)
    → IsSound link_table d k ws → IsDraft (next_by link_table k) (after d k ws)
draft-after next d word.Start ws is at fine =
    let first : next ≡ 0 = at.early (omega arith) in
    record {
      start = (number_ok 2 0 782 (word_at 0 ws) (one_field (within 0 782) 2 ws fine.count fine.each)).1;
      none = λ low. is.none (omega (arith, first));
      some = λ late. absurd (omega (arith, late));
      few = is.few;
      inside = is.inside;
      accepted = is.accepted;
    }
draft-after next d word.Frames ws is at fine =
    let count = number_ok 2 1 100000 (word_at 0 ws) (one_field (within 1 100000) 2 ws fine.count fine.each) in
    let second : next ≡ 1 = at.early (omega arith) in
    let none = ap length (is.none (omega (arith, second))) in
    record {
      start = is.start;
      none = λ low. absurd (omega (arith, low));
      some = λ late. count.0;
      few = count.1;
      inside = omega (arith, none);
      accepted = is.accepted;
    }
draft-after next d word.Up ws is at fine =
    move-more next d ws Up is (at.late (omega arith)) fine.count fine.each fine.own (λ some. some)
draft-after next d word.Down ws is at fine =
    move-more next d ws Down is (at.late (omega arith)) fine.count fine.each fine.own (λ some. some)
draft-after next d word.New ws is at fine =
    let two = two_fields (within 0 (d.frames - 1)) (within 0 782) 2 0 ws fine.count fine.each in
    let frame = number_ok 2 0 (d.frames - 1) (word_at 0 ws) two.0 in
    let value = number_ok 3 0 782 (word_at 1 ws) two.1 in
    let late = at.late (omega arith) in
    let some = is.some late in
    act-more next d (number_at 0 ws) (New (number_at 1 ws)) is late (omega (arith, some, frame.1))
    (ltb-false (number_at 0 ws) (least_next d.actions)
    (where_none (nat_lt (number_at 0 ws) (least_next d.actions)) (last_named d) fine.own))
    value.1

pub link-keeps : Keeps link_table IsDraft
link-keeps = record { first = draft-first; after = draft-after }

-- ---- a link
pub link-whole : (next : ℕ) (d : Au4Draft) → 2 ≤ next → IsDraft next d → IsLink (link_in d)
link-whole next d late is =
    let size = length-kept d.actions d.frames is.inside in
    let some = is.some late in
    let few = is.few in
    record {
      start = is.start;
      some = omega (arith, size, some);
      few = omega (arith, size, few);
      accepted = accepted-keeps d.actions (d.frames - length d.actions) is.accepted;
    }

-- ---- What a text says is a link, and what comes of numbered VC-4s over it.
-- ---- the text
pub valid_link : (text : List ℕ) (link : Link) → link_of text ≡ Ok link → IsLink link
valid_link text link said = said_valid link_table IsDraft link-keeps link_in IsLink link-whole text link said

-- the actions of what its lines say are of its frames
pub draft-inside : (text : List ℕ) (d : Au4Draft) → said_in link_table text ≡ Ok d → length d.actions ≤ d.frames
draft-inside text d said =
    said_valid link_table IsDraft link-keeps (λ (d : Au4Draft). d) (λ (d : Au4Draft). length d.actions ≤ d.frames)
    (λ next d late is. is.inside) text d (ap (formed (λ (d : Au4Draft). d)) said)

-- ---- numbered VC-4s
length-rising : (count n : ℕ) → length (rising count n) ≡ count
unfolding rising
length-rising zero n = refl
length-rising (suc count) n = ap suc (length-rising count (n + 1))

vc-size : (i : ℕ) → length (vc_of i) ≡ 2349
unfolding vc_of
vc-size i =
    length-append (to_be_bytes w64 i) (rising 2341 (i + 8))
    ∙ ap (λ (n : ℕ). length (to_be_bytes w64 i) + n) (length-rising 2341 (i + 8))

vcs-from : (count first : ℕ) → AreVcs (map vc_of (range_with_len first count))
vcs-from zero first = All-nil (λ vc. length vc ≡ 2349)
vcs-from (suc count) first =
    All-cons (λ vc. length vc ≡ 2349) (vc_of first) (map vc_of (range_with_len (first + 1) count)) (vc-size first)
    (vcs-from count (first + 1))

pub first-size : (count : ℕ) → AreVcs (first_vcs count)
unfolding first_vcs
first-size count = vcs-from count 0

pub first-count : (count : ℕ) → length (first_vcs count) ≡ count
unfolding first_vcs
first-count count = length-map (range_with_len 0 count) vc_of ∙ length-range_with_len 0 count

-- ---- over a link
enough : (link : Link) → begun (part_after link.start link.actions) ≤ length (link_vcs link)
enough link =
    let all = first-count (begun (part_after link.start link.actions)) in omega (arith, all)

pub link-taken : (text : List ℕ) (link : Link) → link_of text ≡ Ok link → AreTaken (link_frames link)
link-taken text link said =
    let is = valid_link text link said in
    all-taken link.start link.actions (link_vcs link) is.start is.accepted
    (first-size (begun (part_after link.start link.actions))) (enough link)

pub link-given : (text : List ℕ) (link : Link) → link_of text ≡ Ok link →
    given (link_frames link) ≡ whole link.start link.actions (link_vcs link)
link-given text link said =
    let is = valid_link text link said in
    all-whole link.start link.actions (link_vcs link) is.start is.accepted
    (first-size (begun (part_after link.start link.actions))) (enough link)

pub link-written : (text : List ℕ) (link : Link) → link_of text ≡ Ok link → link_text link ≡ carried_text link
link-written text link said =
    let count = begun (part_after link.start link.actions) in
    ap (λ (n : ℕ). vc_texts (back_of link.start link.actions)
    ++ end_text (length link.actions) n (length (back_of link.start link.actions)) (cuts link.start link.actions))
    (sym (first-count count))
    ∙ ap (λ (came : List (List ℕ)). vc_texts came
    ++ end_text (length link.actions) (length (link_vcs link)) (length came) (cuts link.start link.actions))
    (sym (link-given text link said))
