-- The numbers of the channels with a frame (busy_from), whose turn it is, and what a turn does to queues.
use Rattle.std.proofs.Common.{◌≡◌, ◌≢◌, ℕ, zero, suc, ◌+◌, ◌-◌, ◌<◌, ◌≤◌, List, [], ◌∷◌, ◌++◌, length, take, drop, All}
use Rattle.std.proofs.Common.{Bool, true, false, ◌↔◌, Some, None, refl, sym, ◌∙◌, ap, ap₂, subst, arith, append_assoc}
use Rattle.std.proofs.Common.{append-nil, length-take-le, length-append, length-take, length-drop, slice_index_or}
use Rattle.std.proofs.Common.{slice_set, insert, remove, replicate, le-leb, le-ltb, take-append-drop, take_at, drop_at}
use Rattle.std.proofs.Common.{eq-eqb, Option, nat_le, if◌then◌else◌, IfSome, ◌==◌, eqb-true, get_or-take, get_or-drop}
use Rattle.std.proofs.Common.{get_or-set_same}
use Rattle.std.proofs.lemmas.Bool.{lt-leb}
use Rattle.std.proofs.lemmas.List.{get_or_default, set_split}
use Rattle.std.proofs.Math.Seq.{drop-cons}
use Rattle.std.proofs.lemmas.List.Elements.{All-nil, All-cons, All-head, All-tail, All-weaker, All-get_or}
use Rattle.gfp_model.specs.linear_model.Channels.{Channels, turn, first_busy, or_else, with_queue, waiting_of}
use Rattle.gfp_model.specs.linear_model.Channels.{channel_refusal, pushed_by, pushed, served, oldest}
use Rattle.gfp_channels.specs.gfp_linear.Queue.{busy_from, first_from, first_of, turn_among, IsRising}
use Rattle.law_model.specs.Common.{longest_frame}
use Rattle.std.proofs.lemmas.List.Concat.{flat_map-append}
use Rattle.gfp_model.specs.linear_model.ChannelStream.{LinearPiece, idle, client, size, Shared, next_by, one_more}
use Rattle.gfp_model.specs.linear_model.ChannelStream.{reaching, reached, of_channel, frames_of, accepted_of}

-- ---- The numbers of the channels with a frame: how a turn is found among them, and what one more frame or one less does.
-- ---- in parts
one_of : List (List ℕ) → ℕ → List ℕ
one_of [] cid = []
one_of (frame ∷ frames) cid = cid ∷ []

busy-cons : (cid : ℕ) (queue : List (List ℕ)) (queues : List (List (List ℕ))) →
    busy_from cid (queue ∷ queues) ≡ one_of queue cid ++ busy_from (cid + 1) queues
unfolding busy_from one_of
busy-cons cid [] queues = refl
busy-cons cid (frame ∷ frames) queues = refl

busy-append : (cid : ℕ) (queues more : List (List (List ℕ))) →
    busy_from cid (queues ++ more) ≡ busy_from cid queues ++ busy_from (cid + length queues) more
unfolding busy_from
busy-append cid [] more = ap (λ n. busy_from n more) (let e : cid ≡ cid + 0 = omega arith in e)
busy-append cid (queue ∷ queues) more =
    let place : cid + 1 + length queues ≡ cid + length (queue ∷ queues) = omega arith in
    busy-cons cid queue (queues ++ more)
    ∙ ap (λ l. one_of queue cid ++ l) (busy-append (cid + 1) queues more
    ∙ ap (λ n. busy_from (cid + 1) queues ++ busy_from n more) place)
    ∙ sym (append_assoc (one_of queue cid) (busy_from (cid + 1) queues)
    (busy_from (cid + length (queue ∷ queues)) more))
    ∙ ap (λ l. l ++ busy_from (cid + length (queue ∷ queues)) more) (sym (busy-cons cid queue queues))

-- ---- what is true of each
-- each of them has a frame
abbrev pub HasFrame : ℕ → List (List (List ℕ)) → ℕ → Type 0
HasFrame cid queues n = (cid ≤ n) × (n < cid + length queues) × (0 < length (slice_index_or queues (n - cid) []))

one_behind : (cid : ℕ) (queue : List (List ℕ)) (queues : List (List (List ℕ))) (n : ℕ) →
    HasFrame (cid + 1) queues n → HasFrame cid (queue ∷ queues) n
one_behind cid queue queues n has =
    let place : n - cid ≡ suc (n - (cid + 1)) = omega (arith, has.0) in (
      omega (arith, has.0),
      omega (arith, has.1),
      subst (λ (k : ℕ). 0 < length (slice_index_or (queue ∷ queues) k [])) (sym place) has.2,
    )

pub busy-some : (cid : ℕ) (queues : List (List (List ℕ))) → All (HasFrame cid queues) (busy_from cid queues)
unfolding busy_from
busy-some cid [] = All-nil (HasFrame cid [])
busy-some cid ([] ∷ queues) =
    All-weaker (HasFrame (cid + 1) queues) (HasFrame cid ([] ∷ queues)) (one_behind cid [] queues)
    (busy_from (cid + 1) queues) (busy-some (cid + 1) queues)
busy-some cid ((frame ∷ frames) ∷ queues) =
    let none : cid - cid ≡ 0 = omega arith in
    All-cons (HasFrame cid ((frame ∷ frames) ∷ queues)) cid (busy_from (cid + 1) queues) (
      omega arith,
      omega arith,
      subst (λ (k : ℕ). 0 < length (slice_index_or ((frame ∷ frames) ∷ queues) k [])) (sym none) (omega arith),
    )
    (All-weaker (HasFrame (cid + 1) queues) (HasFrame cid ((frame ∷ frames) ∷ queues))
    (one_behind cid (frame ∷ frames) queues) (busy_from (cid + 1) queues) (busy-some (cid + 1) queues))

pub busy-least : (cid : ℕ) (queues : List (List (List ℕ))) → All (λ n. cid ≤ n) (busy_from cid queues)
busy-least cid queues =
    All-weaker (HasFrame cid queues) (λ n. cid ≤ n) (λ n (h : HasFrame cid queues n). h.0) (busy_from cid queues)
    (busy-some cid queues)

busy-below : (cid : ℕ) (queues : List (List (List ℕ))) → All (λ n. n < cid + length queues) (busy_from cid queues)
busy-below cid queues =
    All-weaker (HasFrame cid queues) (λ n. n < cid + length queues) (λ n (h : HasFrame cid queues n). h.1)
    (busy_from cid queues) (busy-some cid queues)

pub busy-rising : (cid : ℕ) (queues : List (List (List ℕ))) → IsRising (busy_from cid queues)
unfolding busy_from IsRising
busy-rising cid [] = tt
busy-rising cid ([] ∷ queues) = busy-rising (cid + 1) queues
busy-rising cid ((frame ∷ frames) ∷ queues) = (
  All-weaker (λ n. cid + 1 ≤ n) (λ n. cid < n) (λ n h. omega (arith, h)) (busy_from (cid + 1) queues)
      (busy-least (cid + 1) queues),
  busy-rising (cid + 1) queues,
)

-- ---- what is found by halves
-- all up to one that is below
pub rising-below : (busy : List ℕ) (k least : ℕ) → IsRising busy → k < length busy →
    slice_index_or busy k 0 < least → All (λ cid. cid < least) (take (suc k) busy)
unfolding IsRising
rising-below [] k least rising inside low = absurd (omega arith)
rising-below (cid ∷ cids) zero least rising inside low = All-cons (λ c. c < least) cid [] low (All-nil (λ c. c < least))
rising-below (cid ∷ cids) (suc k) least rising inside low =
    let more : k < length cids = omega arith in
    let above : cid < slice_index_or cids k 0 = All-get_or (λ c. cid < c) cids k 0 more rising.0 in
    All-cons (λ c. c < least) cid (take (suc k) cids) (omega (arith, above, low))
    (rising-below cids k least rising.1 more low)

-- all from one that isn't
pub rising-from : (busy : List ℕ) (k least : ℕ) → IsRising busy → k < length busy →
    least ≤ slice_index_or busy k 0 → All (λ cid. least ≤ cid) (drop k busy)
unfolding IsRising
rising-from [] k least rising inside high = absurd (omega arith)
rising-from (cid ∷ cids) zero least rising inside high =
    All-cons (λ c. least ≤ c) cid cids high
    (All-weaker (λ c. cid < c) (λ c. least ≤ c) (λ c h. omega (arith, h, high)) cids rising.0)
rising-from (cid ∷ cids) (suc k) least rising inside high =
    rising-from cids k least rising.1 (omega arith) high

-- ---- turns
pub first_busy-is : (cid : ℕ) (queues : List (List (List ℕ))) → first_busy cid queues ≡ first_of (busy_from cid queues)
unfolding first_busy busy_from
first_busy-is cid [] = refl
first_busy-is cid ([] ∷ queues) = first_busy-is (cid + 1) queues
first_busy-is cid ((frame ∷ frames) ∷ queues) = refl

first_from-behind : (least : ℕ) (a b : List ℕ) → All (λ n. n < least) a → first_from least (a ++ b) ≡ first_from least b
unfolding first_from
first_from-behind least [] b low = refl
first_from-behind least (n ∷ a) b low =
    rw (lt-leb least n (All-head (λ n. n < least) n a low))
    (first_from-behind least a b (All-tail (λ n. n < least) n a low))

first_from-here : (least : ℕ) (b : List ℕ) → All (λ n. least ≤ n) b → first_from least b ≡ first_of b
unfolding first_from
first_from-here least [] high = refl
first_from-here least (n ∷ b) high = rw (le-leb least n (All-head (λ n. least ≤ n) n b high)) refl

either : (a b : List ℕ) → or_else (first_of b) (first_of (a ++ b)) ≡ or_else (first_of b) (first_of a)
either a [] = ap first_of (append-nil a)
either a (n ∷ b) = refl

-- the turn is found among the channels with a frame
pub turn-among : (channels : Channels) → channels.next ≤ length channels.waiting →
    turn channels ≡ turn_among channels.next (busy_from 0 channels.waiting)
turn-among channels inside =
    let next : ℕ = channels.next in
    let front : List (List (List ℕ)) = take next channels.waiting in
    let back : List (List (List ℕ)) = drop next channels.waiting in
    let a : List ℕ = busy_from 0 front in
    let b : List ℕ = busy_from next back in
    let long : length front ≡ next = length-take-le next channels.waiting inside in
    let place : 0 + length front ≡ next = omega (arith, long) in
    let parts : busy_from 0 channels.waiting ≡ a ++ b =
    ap (busy_from 0) (sym (take-append-drop next channels.waiting)) ∙ busy-append 0 front back
    ∙ ap (λ n. a ++ busy_from n back) place in
    let low : All (λ n. n < next) a = subst (λ (k : ℕ). All (λ n. n < k) a) place (busy-below 0 front) in
    let found : first_from next (a ++ b) ≡ first_of b =
    first_from-behind next a b low ∙ first_from-here next b (busy-least next back) in
    ap (λ t. or_else t (first_busy 0 front)) (first_busy-is next back)
    ∙ ap (λ t. or_else (first_of b) t) (first_busy-is 0 front)
    ∙ sym (either a b)
    ∙ ap (λ t. or_else t (first_of (a ++ b))) (sym found)
    ∙ ap (turn_among next) (sym parts)

first_from-at : (least n : ℕ) (busy : List ℕ) (cid : ℕ) → All (λ c. c < least) (take n busy) →
    All (λ c. least ≤ c) (drop n busy) → n < length busy → first_from least busy ≡ Some (slice_index_or busy n cid)
first_from-at least n busy cid low high inside =
    ap (first_from least) (sym (take-append-drop n busy)) ∙ first_from-behind least (take n busy) (drop n busy) low
    ∙ first_from-here least (drop n busy) high ∙ ap first_of (drop-cons busy n cid inside)

first_from-none : (least : ℕ) (busy : List ℕ) → All (λ c. c < least) busy → first_from least busy ≡ None
unfolding first_from
first_from-none least busy low =
    ap (first_from least) (sym (append-nil busy)) ∙ first_from-behind least busy [] low

-- it is the first that isn't below, or else the first of all
pub turn-at : (next n : ℕ) (busy : List ℕ) (cid : ℕ) → All (λ c. c < next) (take n busy) →
    All (λ c. next ≤ c) (drop n busy) → n < length busy → turn_among next busy ≡ Some (slice_index_or busy n cid)
turn-at next n busy cid low high inside =
    ap (λ t. or_else t (first_of busy)) (first_from-at next n busy cid low high inside)

first-at : (busy : List ℕ) (cid : ℕ) → 0 < length busy → first_of busy ≡ Some (slice_index_or busy 0 cid)
first-at [] cid some = absurd (omega arith)
first-at (c ∷ busy) cid some = refl

pub turn-first : (next : ℕ) (busy : List ℕ) (cid : ℕ) → All (λ c. c < next) busy → 0 < length busy →
    turn_among next busy ≡ Some (slice_index_or busy 0 cid)
turn-first next busy cid low some =
    ap (λ t. or_else t (first_of busy)) (first_from-none next busy low) ∙ first-at busy cid some

pub turn-none : (next : ℕ) (busy : List ℕ) → length busy ≡ 0 → turn_among next busy ≡ None
unfolding first_from
turn-none next [] none = refl
turn-none next (c ∷ busy) none = absurd (omega (arith, none))

-- where all channels are silent there is none
pub none-busy : (cid n : ℕ) → busy_from cid (replicate n []) ≡ []
unfolding busy_from
none-busy cid zero = refl
none-busy cid (suc n) = none-busy (cid + 1) n

-- ---- one queue is another one
-- what an edit of the vector does
pub set-with : (cid : ℕ) (queue : List (List ℕ)) (queues : List (List (List ℕ))) → cid < length queues →
    slice_set queues cid queue ≡ with_queue cid queue queues
unfolding with_queue
set-with cid queue [] inside = absurd (omega arith)
set-with zero queue (other ∷ queues) inside = refl
set-with (suc cid) queue (other ∷ queues) inside = ap (λ l. other ∷ l) (set-with cid queue queues (omega arith))

with_queue-parts : (cid : ℕ) (queue : List (List ℕ)) (queues : List (List (List ℕ))) → cid < length queues →
    with_queue cid queue queues ≡ take cid queues ++ queue ∷ drop (suc cid) queues
with_queue-parts cid queue queues inside = sym (set-with cid queue queues inside) ∙ set_split queues cid queue inside

queues-parts : (cid : ℕ) (queues : List (List (List ℕ))) → cid < length queues →
    queues ≡ take cid queues ++ slice_index_or queues cid [] ∷ drop (suc cid) queues
queues-parts cid queues inside =
    sym (take-append-drop cid queues) ∙ ap (λ l. take cid queues ++ l) (drop-cons queues cid [] inside)

-- the numbers in front of a channel and behind it
front_of : ℕ → List (List (List ℕ)) → List ℕ
front_of cid queues = busy_from 0 (take cid queues)

back_of : ℕ → List (List (List ℕ)) → List ℕ
back_of cid queues = busy_from (cid + 1) (drop (suc cid) queues)

busy-parts : (cid : ℕ) (queue : List (List ℕ)) (queues : List (List (List ℕ))) → cid < length queues →
    busy_from 0 (take cid queues ++ queue ∷ drop (suc cid) queues)
    ≡ front_of cid queues ++ (one_of queue cid ++ back_of cid queues)
unfolding front_of back_of
busy-parts cid queue queues inside =
    let long : length (take cid queues) ≡ cid = length-take-le cid queues (omega arith) in
    let place : 0 + length (take cid queues) ≡ cid = omega (arith, long) in
    busy-append 0 (take cid queues) (queue ∷ drop (suc cid) queues)
    ∙ ap (λ n. busy_from 0 (take cid queues) ++ busy_from n (queue ∷ drop (suc cid) queues)) place
    ∙ ap (λ l. busy_from 0 (take cid queues) ++ l) (busy-cons cid queue (drop (suc cid) queues))

-- how many are in front is told by what is below and what isn't
pub count-only : (cid n : ℕ) (a b : List ℕ) → All (λ c. c < cid) a → All (λ c. cid ≤ c) b → n ≤ length (a ++ b) →
    All (λ c. c < cid) (take n (a ++ b)) → All (λ c. cid ≤ c) (drop n (a ++ b)) → n ≡ length a
count-only cid zero [] b low high within below from = refl
count-only cid (suc n) [] [] low high within below from = absurd (omega arith)
count-only cid (suc n) [] (c ∷ b) low high within below from =
    let less : c < cid = All-head (λ c. c < cid) c (take n b) below in
    let more : cid ≤ c = All-head (λ c. cid ≤ c) c b high in
    absurd (omega (arith, less, more))
count-only cid zero (c ∷ a) b low high within below from =
    let less : c < cid = All-head (λ c. c < cid) c a low in
    let more : cid ≤ c = All-head (λ c. cid ≤ c) c (a ++ b) from in
    absurd (omega (arith, less, more))
count-only cid (suc n) (c ∷ a) b low high within below from =
    ap suc (count-only cid n a b (All-tail (λ c. c < cid) c a low) high (omega arith)
    (All-tail (λ c. c < cid) c (take n (a ++ b)) below) from)

-- and where a channel is among rising numbers, by its number
place-only : (cid at d : ℕ) (a b : List ℕ) → All (λ c. c < cid) a → All (λ c. cid < c) b →
    at < length (a ++ cid ∷ b) → slice_index_or (a ++ cid ∷ b) at d ≡ cid → at ≡ length a
place-only cid zero d [] b low high inside is = refl
place-only cid (suc at) d [] b low high inside is =
    let more : cid < slice_index_or b at d = All-get_or (λ c. cid < c) b at d (omega arith) high in
    absurd (omega (arith, more, is))
place-only cid zero d (c ∷ a) b low high inside is =
    let less : c < cid = All-head (λ c. c < cid) c a low in
    absurd (omega (arith, less, is))
place-only cid (suc at) d (c ∷ a) b low high inside is =
    ap suc (place-only cid at d a b (All-tail (λ c. c < cid) c a low) high (omega arith) is)

busy-few : (cid : ℕ) (queues : List (List (List ℕ))) → length (busy_from cid queues) ≤ length queues
unfolding busy_from
busy-few cid [] = omega arith
busy-few cid ([] ∷ queues) = let few = busy-few (cid + 1) queues in omega (arith, few)
busy-few cid ((frame ∷ frames) ∷ queues) = let few = busy-few (cid + 1) queues in omega (arith, few)

-- what an access of the vector finds
pub queue-at : (cid at : ℕ) (queue : List (List ℕ)) (queues : List (List (List ℕ))) → at < length queues → at ≡ cid →
    queue ≡ slice_index_or queues at queue → queue ≡ slice_index_or queues cid []
queue-at cid at queue queues inside same is =
    is ∙ sym (get_or_default queues at [] queue inside) ∙ ap (λ k. slice_index_or queues k []) same

-- ---- a frame is accepted
abbrev pub channels_of : ℕ → List (List (List ℕ)) → Channels
channels_of next queues = record { waiting = queues; next = next }

pub accepted : (cid : ℕ) (frame : List ℕ) (channels : Channels) → cid < length channels.waiting →
    64 ≤ length frame → length frame ≤ longest_frame → length (waiting_of cid channels) < 16 →
    channel_refusal cid frame channels ≡ None
accepted cid frame channels inside least most room =
    rw (
      lt-leb (length channels.waiting) cid inside,
      le-ltb (length frame) 64 least,
      le-ltb longest_frame (length frame) most,
      lt-leb 16 (length (waiting_of cid channels)) room,
    ) refl

-- a test that says whether a queue has none
pub silent-told : (queue : List (List ℕ)) (told : Bool) → (told ≡ true) ↔ (queue ≡ []) → told ≡ false → queue ≢ []
silent-told queue told says other is = let yes : told ≡ true = says.1 is in absurd cc

-- the queue of a channel is edited as it is described
pub pushed-is : (cid next : ℕ) (frame : List ℕ) (queues : List (List (List ℕ))) (queue : List (List ℕ)) →
    cid < length queues → 64 ≤ length frame → length frame ≤ longest_frame → length (slice_index_or queues cid []) < 16 →
    queue ≡ slice_index_or queues cid [] ++ frame ∷ [] →
    channels_of next (slice_set queues cid queue) ≡ pushed cid frame (channels_of next queues)
pushed-is cid next frame queues queue inside least most room is =
    ap (channels_of next) (set-with cid queue queues inside ∙ ap (λ q. with_queue cid q queues) is)
    ∙ sym (ap (λ r. pushed_by r cid frame (channels_of next queues))
    (accepted cid frame (channels_of next queues) inside least most room))

-- the queue of a channel without its oldest frame
pub served-is : (cid next : ℕ) (frame : List ℕ) (rest : List (List ℕ)) (queues : List (List (List ℕ))) →
    cid < length queues → slice_index_or queues cid [] ≡ frame ∷ rest →
    channels_of (cid + 1) (slice_set queues cid rest) ≡ served cid (channels_of next queues)
served-is cid next frame rest queues inside is =
    ap (channels_of (cid + 1)) (set-with cid rest queues inside
    ∙ ap (λ q. with_queue cid q queues) (sym (ap (drop 1) is)))

module _ (cid : ℕ) (queues : List (List (List ℕ))) (inside : cid < length queues) where
  front : List ℕ
  front = front_of cid queues

  back : List ℕ
  back = back_of cid queues

  low : All (λ c. c < cid) front
  unfolding front front_of
  low =
      let long : 0 + length (take cid queues) ≡ cid =
      omega (arith, length-take-le cid queues (let e : cid ≤ length queues = omega arith in e)) in
      subst (λ (k : ℕ). All (λ n. n < k) (busy_from 0 (take cid queues))) long (busy-below 0 (take cid queues))

  high : All (λ c. cid < c) back
  unfolding back back_of
  high =
      All-weaker (λ n. cid + 1 ≤ n) (λ n. cid < n) (λ n h. omega (arith, h))
      (busy_from (cid + 1) (drop (suc cid) queues)) (busy-least (cid + 1) (drop (suc cid) queues))

  was : (queue : List (List ℕ)) → slice_index_or queues cid [] ≡ queue →
      busy_from 0 queues ≡ front ++ (one_of queue cid ++ back)
  unfolding front back
  was queue is =
      ap (busy_from 0) (queues-parts cid queues inside ∙ ap (λ q. take cid queues ++ q ∷ drop (suc cid) queues) is)
      ∙ busy-parts cid queue queues inside

  is_now : (queue : List (List ℕ)) →
      busy_from 0 (with_queue cid queue queues) ≡ front ++ (one_of queue cid ++ back)
  unfolding front back
  is_now queue = ap (busy_from 0) (with_queue-parts cid queue queues inside) ∙ busy-parts cid queue queues inside

  -- fewer than there are channels, where this one is silent
  pub busy-room : slice_index_or queues cid [] ≡ [] → length (busy_from 0 queues) < length queues
  unfolding front back front_of back_of one_of
  busy-room is =
      let before : busy_from 0 queues ≡ front ++ back = was [] is in
      let a = busy-few 0 (take cid queues) in
      let b = busy-few (cid + 1) (drop (suc cid) queues) in
      omega (
        arith,
        ap length before,
        length-append front back,
        a,
        b,
        length-take cid queues,
        length-drop (suc cid) queues,
        inside,
      )

  -- a channel that had a frame and has one
  pub busy-kept : (first other : List ℕ) (frames more : List (List ℕ)) →
      slice_index_or queues cid [] ≡ first ∷ frames →
      busy_from 0 (with_queue cid (other ∷ more) queues) ≡ busy_from 0 queues
  unfolding one_of
  busy-kept first other frames more is = is_now (other ∷ more) ∙ sym (was (first ∷ frames) is)

  -- as where one more frame waits of it
  pub busy-pushed : (queue : List (List ℕ)) (frame : List ℕ) → slice_index_or queues cid [] ≡ queue → queue ≢ [] →
      busy_from 0 (with_queue cid (queue ++ frame ∷ []) queues) ≡ busy_from 0 queues
  busy-pushed [] frame is some = absurd (some refl)
  busy-pushed (first ∷ frames) frame is some = busy-kept first first frames (frames ++ frame ∷ []) is

  -- and as where one less does, if it isn't the last
  pub busy-less : (frame : List ℕ) (rest : List (List ℕ)) → slice_index_or queues cid [] ≡ frame ∷ rest → rest ≢ [] →
      busy_from 0 (with_queue cid rest queues) ≡ busy_from 0 queues
  busy-less frame [] is some = absurd (some refl)
  busy-less frame (other ∷ more) is some = busy-kept frame other (other ∷ more) more is

  -- one that had none and has one
  pub busy-added : (n : ℕ) (frame : List ℕ) (frames : List (List ℕ)) → slice_index_or queues cid [] ≡ [] →
      n ≤ length (busy_from 0 queues) → All (λ c. c < cid) (take n (busy_from 0 queues)) →
      All (λ c. cid ≤ c) (drop n (busy_from 0 queues)) →
      busy_from 0 (with_queue cid (frame ∷ frames) queues) ≡ insert (busy_from 0 queues) n cid
  unfolding one_of
  busy-added n frame frames is within below from =
      let before : busy_from 0 queues ≡ front ++ back = was [] is in
      let count : n ≡ length front =
      count-only cid n front back low (All-weaker (λ c. cid < c) (λ c. cid ≤ c) (λ c h. omega (arith, h)) back high)
      (subst (λ (l : List ℕ). n ≤ length l) before within)
      (subst (λ (l : List ℕ). All (λ c. c < cid) (take n l)) before below)
      (subst (λ (l : List ℕ). All (λ c. cid ≤ c) (drop n l)) before from) in
      is_now (frame ∷ frames)
      ∙ ap₂ (λ a b. a ++ cid ∷ b) (sym (take_at front back n (sym count))) (sym (drop_at front back n (sym count)))
      ∙ ap (λ l. insert l n cid) (sym before)

  -- one that had one and has none
  pub busy-removed : (at d : ℕ) (frame : List ℕ) (frames : List (List ℕ)) →
      slice_index_or queues cid [] ≡ frame ∷ frames → at < length (busy_from 0 queues) →
      slice_index_or (busy_from 0 queues) at d ≡ cid →
      busy_from 0 (with_queue cid [] queues) ≡ remove (busy_from 0 queues) at
  unfolding one_of
  busy-removed at d frame frames is within here =
      let before : busy_from 0 queues ≡ front ++ cid ∷ back = was (frame ∷ frames) is in
      let count : at ≡ length front =
      place-only cid at d front back low high (subst (λ (l : List ℕ). at < length l) before within)
      (subst (λ (l : List ℕ). slice_index_or l at d ≡ cid) before here) in
      let rest : drop (suc at) (front ++ cid ∷ back) ≡ back =
      ap (λ l. drop (suc at) l) (sym (append_assoc front (cid ∷ []) back))
      ∙ drop_at (front ++ cid ∷ []) back (suc at)
      (let e : length (front ++ cid ∷ []) ≡ suc at = omega (arith, length-append front (cid ∷ []), count) in e) in
      is_now []
      ∙ ap₂ (λ a b. a ++ b) (sym (take_at front (cid ∷ back) at (sym count))) (sym rest)
      ∙ ap (λ l. remove l at) (sym before)

-- that at a place of them too
pub some-at : (queues : List (List (List ℕ))) (at d : ℕ) → at < length (busy_from 0 queues) →
    (slice_index_or (busy_from 0 queues) at d < length queues)
    × (0 < length (slice_index_or queues (slice_index_or (busy_from 0 queues) at d) []))
some-at queues at d inside =
    let cid : ℕ = slice_index_or (busy_from 0 queues) at d in
    let has : HasFrame 0 queues cid = All-get_or (HasFrame 0 queues) (busy_from 0 queues) at d inside
    (busy-some 0 queues) in
    let same : cid - 0 ≡ cid = omega arith in
    (omega (arith, has.1), subst (λ (k : ℕ). 0 < length (slice_index_or queues k [])) same has.2)

-- the channel at a place among those with a frame
pub record IsNext (queues : List (List (List ℕ))) (at cid : ℕ) : Type 0 where
  pub inside : cid < length queues
  pub place : at < length (busy_from 0 queues)
  pub here : slice_index_or (busy_from 0 queues) at cid ≡ cid
  pub some : 0 < length (slice_index_or queues cid [])

pub is-next : (queues : List (List (List ℕ))) (busy : List ℕ) (at cid : ℕ) → busy ≡ busy_from 0 queues →
    at < length (busy_from 0 queues) → cid ≡ slice_index_or busy at cid → IsNext queues at cid
is-next queues busy at cid numbers place is =
    let here : slice_index_or (busy_from 0 queues) at cid ≡ cid =
    sym (is ∙ ap (λ l. slice_index_or l at cid) numbers) in
    let has = some-at queues at cid place in
    record {
      inside = subst (λ (k : ℕ). k < length queues) here has.0;
      place = place;
      here = here;
      some = subst (λ (k : ℕ). 0 < length (slice_index_or queues k [])) here has.1;
    }

pub none-next : (queues : List (List (List ℕ))) (at cid : ℕ) → IsNext queues at cid →
    slice_index_or queues cid [] ≡ [] → ⊥
none-next queues at cid next none = omega (arith, next.some, ap length none)

-- ---- What turns do to the frames of one channel: those that are begun and those that wait are together the same, in order.
-- ---- whose turn it is has a frame
first-of : (P : ℕ → Type 0) (cids : List ℕ) → All P cids → IfSome (first_of cids) P
first-of P [] all = tt
first-of P (cid ∷ cids) all = All-head P cid cids all

first-has : (cid : ℕ) (queues : List (List (List ℕ))) → IfSome (first_busy cid queues) (HasFrame cid queues)
first-has cid queues =
    subst (λ (n : Option ℕ). IfSome n (HasFrame cid queues)) (sym (first_busy-is cid queues))
    (first-of (HasFrame cid queues) (busy_from cid queues) (busy-some cid queues))

-- ---- another queue
pub same-queue : (cid : ℕ) (queue : List (List ℕ)) (queues : List (List (List ℕ))) → cid < length queues →
    slice_index_or (with_queue cid queue queues) cid [] ≡ queue
same-queue cid queue queues inside =
    ap (λ l. slice_index_or l cid []) (sym (set-with cid queue queues inside))
    ∙ get_or-set_same queues cid queue [] inside

pub other-queue : (cid other : ℕ) (queue : List (List ℕ)) (queues : List (List (List ℕ))) → other ≢ cid →
    slice_index_or (with_queue other queue queues) cid [] ≡ slice_index_or queues cid []
unfolding with_queue
other-queue cid other queue [] differ = refl
other-queue zero zero queue (first ∷ queues) differ = absurd (differ refl)
other-queue (suc cid) zero queue (first ∷ queues) differ = refl
other-queue zero (suc other) queue (first ∷ queues) differ = refl
other-queue (suc cid) (suc other) queue (first ∷ queues) differ =
    other-queue cid other queue queues (λ e. differ (ap suc e))

-- ---- whose turn it is, among all
abbrev pub IsBusy : Channels → ℕ → Type 0
IsBusy channels cid = (cid < length channels.waiting) × (0 < length (waiting_of cid channels))

from-back : (channels : Channels) (n : Option ℕ) → IfSome n (HasFrame channels.next (drop channels.next channels.waiting)) →
    IfSome n (IsBusy channels)
from-back channels None has = tt
from-back channels (Some n) has =
    let next : ℕ = channels.next in
    let place : next + (n - next) ≡ n = omega (arith, has.0) in (
      omega (arith, has.0, has.1, length-drop next channels.waiting),
      subst (λ (k : ℕ). 0 < length (slice_index_or channels.waiting k [])) place
          (subst (λ (q : List (List ℕ)). 0 < length q) (get_or-drop next channels.waiting (n - next) []) has.2),
    )

from-front : (channels : Channels) (n : Option ℕ) → IfSome n (HasFrame 0 (take channels.next channels.waiting)) →
    IfSome n (IsBusy channels)
from-front channels None has = tt
from-front channels (Some n) has =
    let next : ℕ = channels.next in
    let place : n - 0 ≡ n = omega arith in
    let few : n < next = omega (arith, has.1, length-take next channels.waiting) in (
      omega (arith, has.1, length-take next channels.waiting),
      subst (λ (q : List (List ℕ)). 0 < length q) (get_or-take next channels.waiting n [] few)
          (subst (λ (k : ℕ). 0 < length (slice_index_or (take next channels.waiting) k [])) place has.2),
    )

either-has : (P : ℕ → Type 0) (a b : Option ℕ) → IfSome a P → IfSome b P → IfSome (or_else a b) P
either-has P None b first other = other
either-has P (Some n) b first other = first

pub turn-busy : (channels : Channels) → IfSome (turn channels) (IsBusy channels)
turn-busy channels =
    let next : ℕ = channels.next in
    either-has (IsBusy channels) (first_busy next (drop next channels.waiting))
    (first_busy 0 (take next channels.waiting))
    (from-back channels (first_busy next (drop next channels.waiting)) (first-has next (drop next channels.waiting)))
    (from-front channels (first_busy 0 (take next channels.waiting)) (first-has 0 (take next channels.waiting)))

-- ---- one more piece
first-rest : (queue : List (List ℕ)) → 0 < length queue → slice_index_or queue 0 [] ∷ drop 1 queue ≡ queue
first-rest [] some = absurd (omega arith)
first-rest (frame ∷ frames) some = refl

frames-more : (cid : ℕ) (pieces : List LinearPiece) (piece : LinearPiece) →
    frames_of cid (pieces ++ piece ∷ []) ≡ frames_of cid pieces ++ of_channel cid piece
frames-more cid pieces piece =
    flat_map-append (of_channel cid) pieces (piece ∷ [])
    ∙ ap (λ l. frames_of cid pieces ++ l) (append-nil (of_channel cid piece))

-- a frame of the channel
kept-same : (cid : ℕ) (shared : Shared) → IsBusy shared.channels cid →
    accepted_of cid (next_by (Some cid) shared) ≡ accepted_of cid shared
kept-same cid shared has =
    let frame : List ℕ = oldest cid shared.channels in
    let rest : List (List ℕ) = drop 1 (waiting_of cid shared.channels) in
    let one : of_channel cid (client cid frame) ≡ frame ∷ [] =
    ap (λ b. if b then frame ∷ [] else []) (eq-eqb cid cid refl) in
    ap₂ ◌++◌ (frames-more cid shared.pieces (client cid frame) ∙ ap (λ l. frames_of cid shared.pieces ++ l) one)
    (same-queue cid rest shared.channels.waiting has.0)
    ∙ append_assoc (frames_of cid shared.pieces) (frame ∷ []) rest
    ∙ ap (λ l. frames_of cid shared.pieces ++ l) (first-rest (waiting_of cid shared.channels) has.1)

-- one of another channel
kept-other : (cid other : ℕ) (shared : Shared) → (other == cid) ≡ false →
    accepted_of cid (next_by (Some other) shared) ≡ accepted_of cid shared
kept-other cid other shared differ =
    let frame : List ℕ = oldest other shared.channels in
    let rest : List (List ℕ) = drop 1 (waiting_of other shared.channels) in
    let none : of_channel cid (client other frame) ≡ [] = ap (λ b. if b then frame ∷ [] else []) differ in
    ap₂ ◌++◌ (frames-more cid shared.pieces (client other frame)
    ∙ ap (λ l. frames_of cid shared.pieces ++ l) none ∙ append-nil (frames_of cid shared.pieces))
    (other-queue cid other rest shared.channels.waiting (λ same. let yes = eq-eqb other cid same in absurd cc))

kept-by : (cid : ℕ) (shared : Shared) (n : Option ℕ) → IfSome n (IsBusy shared.channels) →
    accepted_of cid (next_by n shared) ≡ accepted_of cid shared
kept-by cid shared None has =
    ap (λ l. l ++ waiting_of cid shared.channels)
    (frames-more cid shared.pieces idle ∙ append-nil (frames_of cid shared.pieces))
kept-by cid shared (Some other) has =
    elim (other == cid) as (λ b. (other == cid) ≡ b →
    accepted_of cid (next_by (Some other) shared) ≡ accepted_of cid shared) [
      | true ↦ λ e. subst (λ (k : ℕ). accepted_of k (next_by (Some other) shared) ≡ accepted_of k shared)
          (eqb-true other cid e) (kept-same other shared has)
      | false ↦ λ e. kept-other cid other shared e
    ] refl

-- ---- any number of them
reaching-keeps : (steps place : ℕ) (shared : Shared) (cid : ℕ) →
    accepted_of cid (reaching steps place shared) ≡ accepted_of cid shared
unfolding reaching
reaching-keeps zero place shared cid = refl
reaching-keeps (suc steps) place shared cid =
    elim (nat_le place (size shared.pieces))
    as (λ b. accepted_of cid (if b then shared else reaching steps place (one_more shared)) ≡ accepted_of cid shared) [
      | true ↦ refl
      | false ↦ reaching-keeps steps place (one_more shared) cid
          ∙ kept-by cid shared (turn shared.channels) (turn-busy shared.channels)
    ]

-- what is begun of a channel, followed by what waits of it, is what was begun before, followed by what waited
pub reached-keeps : (place : ℕ) (shared : Shared) (cid : ℕ) →
    accepted_of cid (reached place shared) ≡ accepted_of cid shared
reached-keeps place shared cid = reaching-keeps place place shared cid
