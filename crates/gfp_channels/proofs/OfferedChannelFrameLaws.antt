-- Offered frames: which are refused, what waits after those that are accepted, and that it may be sent.
use Rattle.std.proofs.Common.{◌≡◌, ℕ, zero, suc, ◌<◌, ◌≤◌, true, false, List, [], ◌∷◌, ◌++◌, length, drop, All, Option}
use Rattle.std.proofs.Common.{Some, None, refl, ap, ap₂, arith, inl, inr, IfSome, nat_le, nat_lt, ◌||◌, if◌then◌else◌}
use Rattle.std.proofs.Common.{slice_index_or, le-leb, le-ltb, lt-ltb, sym, ◌∙◌, subst, eq-eqb, append_assoc}
use Rattle.std.proofs.Common.{append-nil, ◌+◌, length-append}
use Rattle.std.proofs.lemmas.Bool.{cases_lt, lt-leb, cases_Bool, eqb-true}
use Rattle.std.proofs.lemmas.List.Elements.{All-nil, All-cons, All-head, All-tail, All-append, All-drop, All-get_or}
use Rattle.std.proofs.lemmas.List.Elements.{All-replicate}
use Rattle.std.proofs.lemmas.List.{length-replicate}
use Rattle.gfp_model.specs.declared.linear_model.ChannelFault.{ChannelFault}
use Rattle.gfp_model.specs.declared.linear_model.ChannelFault.TheVariants.{Unknown, Length, QueueFull}
use Rattle.gfp_model.specs.linear_model.Channels.{Channels, silent, turn, waiting_of, with_queue, oldest}
use Rattle.gfp_model.specs.linear_model.Channels.{channel_refusal, pushed_by, pushed, with_frame}
use Rattle.gfp_model.specs.linear_model.ChannelStream.{idle, client, size, Shared, unsent, next_by, one_more, reaching}
use Rattle.gfp_model.specs.linear_model.ChannelStream.{reached}
use Rattle.gfp_channels.proofs.BusyChannelTurnLaws.{IsBusy, turn-busy, same-queue, other-queue}
use Rattle.gfp_channels.specs.channel_law.FramesOfChannel.{IsChannelFrame, AreSound}
use Rattle.gfp_channels.proofs.LinearExtensionLaws.{IsSent}
use Rattle.law_model.specs.Common.{longest_frame}
use Rattle.std.specs.Prelude.{◌==◌}
use Rattle.gfp_model.specs.linear_model.ChannelArea.{ChannelFrame}
use Rattle.gfp_channels.specs.channel_law.Offers.{after_frames, accepted_one, accepted_frames}
use Rattle.gfp_channels.specs.declared.channel_link.channel_draft.Offer.{Offer}
use Rattle.gfp_channels.specs.declared.channel_link.channel_run.Refusal.{Refusal}
use Rattle.gfp_channels.specs.channel_link.ChannelReportText.{after_offers, refusal_where, refusals}

-- ---- What is accepted may be sent, and so may each piece that turns begin; and what an answer depends on.
-- ---- one queue is another one
length-with_queue : (cid : ℕ) (queue : List (List ℕ)) (queues : List (List (List ℕ))) →
    length (with_queue cid queue queues) ≡ length queues
unfolding with_queue
length-with_queue cid queue [] = refl
length-with_queue zero queue (other ∷ queues) = refl
length-with_queue (suc cid) queue (other ∷ queues) = ap suc (length-with_queue cid queue queues)

All-with_queue : (P : List (List ℕ) → Type 0) (cid : ℕ) (queue : List (List ℕ)) (queues : List (List (List ℕ))) →
    P queue → All P queues → All P (with_queue cid queue queues)
unfolding with_queue
All-with_queue P cid queue [] is all = all
All-with_queue P zero queue (other ∷ queues) is all = All-cons P queue queues is (All-tail P other queues all)
All-with_queue P (suc cid) queue (other ∷ queues) is all =
    All-cons P other (with_queue cid queue queues) (All-head P other queues all)
    (All-with_queue P cid queue queues is (All-tail P other queues all))

queue_sound : (cid : ℕ) (queues : List (List (List ℕ))) → All (All IsChannelFrame) queues →
    All IsChannelFrame (slice_index_or queues cid [])
queue_sound cid [] all = All-nil IsChannelFrame
queue_sound zero (queue ∷ queues) all = All-head (All IsChannelFrame) queue queues all
queue_sound (suc cid) (queue ∷ queues) all = queue_sound cid queues (All-tail (All IsChannelFrame) queue queues all)

-- ---- what is accepted
pub silent_sound : (n : ℕ) → n ≤ 256 → AreSound (silent n)
silent_sound n few =
    let none : List (List ℕ) = [] in
    record {
      few = omega (arith, length-replicate n none);
      frames = All-replicate (All IsChannelFrame) n none (All-nil IsChannelFrame);
    }

-- a frame that is accepted is one of a channel that there is
pub accepted_inside : (cid : ℕ) (frame : List ℕ) (channels : Channels) → channel_refusal cid frame channels ≡ None →
    cid < length channels.waiting
accepted_inside cid frame channels none = elim (cases_lt cid (length channels.waiting)) [
  | inl is ↦ is
  | inr out ↦ absurd (let e : channel_refusal cid frame channels ≡ Some (Unknown (length channels.waiting)) =
      rw (le-leb (length channels.waiting) cid out) refl in cc)
]

accepted_frame : (cid : ℕ) (frame : List ℕ) (channels : Channels) → All (λ o. o < 256) frame →
    channel_refusal cid frame channels ≡ None → IsChannelFrame frame
accepted_frame cid frame channels octets none =
    let inside = accepted_inside cid frame channels none in
    elim (cases_lt (length frame) 64) [
      | inl short ↦ absurd (let e : channel_refusal cid frame channels ≡ Some (Length (length frame)) =
          rw (lt-leb (length channels.waiting) cid inside, lt-ltb (length frame) 64 short) refl in cc)
      | inr least ↦ elim (cases_lt longest_frame (length frame)) [
        | inl long ↦ absurd (let e : channel_refusal cid frame channels ≡ Some (Length (length frame)) =
            rw (
              lt-leb (length channels.waiting) cid inside,
              le-ltb (length frame) 64 least,
              lt-ltb longest_frame (length frame) long,
            ) refl in cc)
        | inr most ↦ record { least = least; most = most; octets = octets }
      ]
    ]

pub pushed_sound : (cid : ℕ) (frame : List ℕ) (channels : Channels) → All (λ o. o < 256) frame →
    AreSound channels → AreSound (pushed cid frame channels)
pushed_sound cid frame channels octets sound = by (channel_refusal cid frame channels) refl
  where
    by : (refusal : Option ChannelFault) → channel_refusal cid frame channels ≡ refusal →
        AreSound (pushed_by refusal cid frame channels)
    by (Some refusal) is = sound
    by None is =
        let queue : List (List ℕ) = waiting_of cid channels in
        record {
          few = omega (arith, length-with_queue cid (queue ++ frame ∷ []) channels.waiting, sound.few);
          frames = All-with_queue (All IsChannelFrame) cid (queue ++ frame ∷ []) channels.waiting
              (All-append IsChannelFrame queue (frame ∷ []) (queue_sound cid channels.waiting sound.frames)
              (All-cons IsChannelFrame frame [] (accepted_frame cid frame channels octets is)
              (All-nil IsChannelFrame)))
              sound.frames;
        }

-- ---- what is begun
pub record MaySend (shared : Shared) : Type 0 where
  pub pieces : All IsSent shared.pieces
  pub channels : AreSound shared.channels

next_sent : (n : Option ℕ) (shared : Shared) → IfSome n (IsBusy shared.channels) → MaySend shared →
    MaySend (next_by n shared)
next_sent None shared busy may = record {
  pieces = All-append IsSent shared.pieces (idle ∷ []) may.pieces (All-cons IsSent idle [] tt (All-nil IsSent));
  channels = may.channels;
}
next_sent (Some cid) shared busy may =
    let queue : List (List ℕ) = waiting_of cid shared.channels in
    let queues : List (List (List ℕ)) = shared.channels.waiting in
    let each : All IsChannelFrame queue = queue_sound cid queues may.channels.frames in
    let first : IsChannelFrame (oldest cid shared.channels) = All-get_or IsChannelFrame queue 0 [] busy.1 each in
    record {
      pieces = All-append IsSent shared.pieces (client cid (oldest cid shared.channels) ∷ []) may.pieces
          (All-cons IsSent (client cid (oldest cid shared.channels)) []
          (omega (arith, busy.0, may.channels.few), first) (All-nil IsSent));
      channels = record {
        few = omega (arith, length-with_queue cid (drop 1 queue) queues, may.channels.few);
        frames = All-with_queue (All IsChannelFrame) cid (drop 1 queue) queues (All-drop IsChannelFrame 1 queue each)
            may.channels.frames;
      };
    }

reaching_sent : (steps place : ℕ) (shared : Shared) → MaySend shared → MaySend (reaching steps place shared)
unfolding reaching
reaching_sent zero place shared may = may
reaching_sent (suc steps) place shared may =
    elim (nat_le place (size shared.pieces))
    as (λ b. MaySend (if b then shared else reaching steps place (one_more shared))) [
      | true ↦ may
      | false ↦ reaching_sent steps place (one_more shared)
          (next_sent (turn shared.channels) shared (turn-busy shared.channels) may)
    ]

pub reached_sent : (place : ℕ) (shared : Shared) → MaySend shared → MaySend (reached place shared)
reached_sent place shared may = reaching_sent place place shared may

pub unsent_may : (channels : Channels) → AreSound channels → MaySend (unsent channels)
unsent_may channels sound = record {
  pieces = All-cons IsSent idle (idle ∷ []) tt (All-cons IsSent idle [] tt (All-nil IsSent));
  channels = sound;
}

-- ---- what an answer depends on
pub refusal-same : (cid : ℕ) (frame : List ℕ) (one other : Channels) →
    length one.waiting ≡ length other.waiting → length (waiting_of cid one) ≡ length (waiting_of cid other) →
    channel_refusal cid frame one ≡ channel_refusal cid frame other
refusal-same cid frame one other many wait =
    ap₂ (λ (n : ℕ) (m : ℕ). if nat_le n cid then Some (Unknown n)
    else if nat_lt (length frame) 64 || nat_lt longest_frame (length frame) then Some (Length (length frame))
    else if nat_le 16 m then Some (QueueFull 16) else None) many wait

-- ---- What waits of a channel after frames are offered is what waited before, and behind it those that were accepted.
-- one frame more of the channel, or of another one
waiting-same : (cid : ℕ) (frame : List ℕ) (channels : Channels) → cid < length channels.waiting →
    waiting_of cid (with_frame cid frame channels) ≡ waiting_of cid channels ++ (if cid == cid then frame ∷ [] else [])
waiting-same cid frame channels there =
    same-queue cid (waiting_of cid channels ++ frame ∷ []) channels.waiting there
    ∙ ap (λ b. waiting_of cid channels ++ (if b then frame ∷ [] else [])) (sym (eq-eqb cid cid refl))

waiting-other : (cid other : ℕ) (frame : List ℕ) (channels : Channels) → (other == cid) ≡ false →
    waiting_of cid (with_frame other frame channels)
    ≡ waiting_of cid channels ++ (if other == cid then frame ∷ [] else [])
waiting-other cid other frame channels differ =
    other-queue cid other (waiting_of other channels ++ frame ∷ []) channels.waiting
    (λ same. let yes = eq-eqb other cid same in absurd cc)
    ∙ sym (append-nil (waiting_of cid channels))
    ∙ ap (λ b. waiting_of cid channels ++ (if b then frame ∷ [] else [])) (sym differ)

waiting-more : (cid other : ℕ) (frame : List ℕ) (channels : Channels) → other < length channels.waiting →
    waiting_of cid (with_frame other frame channels)
    ≡ waiting_of cid channels ++ (if other == cid then frame ∷ [] else [])
waiting-more cid other frame channels there = elim (cases_Bool (other == cid)) [
  | inl same ↦ subst (λ (k : ℕ). waiting_of k (with_frame other frame channels)
      ≡ waiting_of k channels ++ (if other == k then frame ∷ [] else [])) (eqb-true other cid same)
      (waiting-same other frame channels there)
  | inr differ ↦ waiting-other cid other frame channels differ
]

waiting-pushed : (cid : ℕ) (offer : ChannelFrame) (channels : Channels) (refusal : Option ChannelFault) →
    channel_refusal offer.cid offer.frame channels ≡ refusal →
    waiting_of cid (pushed_by refusal offer.cid offer.frame channels)
    ≡ waiting_of cid channels ++ accepted_one refusal cid offer
waiting-pushed cid offer channels (Some refusal) is = sym (append-nil (waiting_of cid channels))
waiting-pushed cid offer channels None is =
    waiting-more cid offer.cid offer.frame channels (accepted_inside offer.cid offer.frame channels is)

pub waiting-accepted : (cid : ℕ) (channels : Channels) (offers : List ChannelFrame) →
    waiting_of cid (after_frames channels offers) ≡ waiting_of cid channels ++ accepted_frames cid channels offers
unfolding after_frames accepted_frames
waiting-accepted cid channels [] = sym (append-nil (waiting_of cid channels))
waiting-accepted cid channels (offer ∷ offers) =
    let refusal : Option ChannelFault = channel_refusal offer.cid offer.frame channels in
    let next : Channels = pushed offer.cid offer.frame channels in
    waiting-accepted cid next offers
    ∙ ap (λ l. l ++ accepted_frames cid next offers) (waiting-pushed cid offer channels refusal refl)
    ∙ append_assoc (waiting_of cid channels) (accepted_one refusal cid offer) (accepted_frames cid next offers)

-- where none waited before
none-waits : (cid n : ℕ) → waiting_of cid (silent n) ≡ []
none-waits cid zero = refl
none-waits zero (suc n) = refl
none-waits (suc cid) (suc n) = none-waits cid n

pub waiting-all : (cid n : ℕ) (offers : List ChannelFrame) →
    waiting_of cid (after_frames (silent n) offers) ≡ accepted_frames cid (silent n) offers
waiting-all cid n offers =
    waiting-accepted cid (silent n) offers ∙ ap (λ l. l ++ accepted_frames cid (silent n) offers) (none-waits cid n)

-- each may be sent
abbrev pub AreOctets : ChannelFrame → Type 0
AreOctets offer = All (λ o. o < 256) offer.frame

pub after_sound : (channels : Channels) (offers : List ChannelFrame) → All AreOctets offers → AreSound channels →
    AreSound (after_frames channels offers)
unfolding after_frames
after_sound channels [] octets sound = sound
after_sound channels (offer ∷ offers) octets sound =
    after_sound (pushed offer.cid offer.frame channels) offers (All-tail AreOctets offer offers octets)
    (pushed_sound offer.cid offer.frame channels (All-head AreOctets offer offers octets) sound)

-- ---- Frames that are offered one after another: one more, all, and how many are refused.
-- ---- one frame on
pub after-next : (channels new : Channels) (offer : Offer) (all rest : List Offer) → all ≡ offer ∷ rest
    → new ≡ pushed offer.cid offer.frame channels → after_offers new rest ≡ after_offers channels all
unfolding after_offers
after-next channels new offer all rest first is =
    ap (λ c. after_offers c rest) is ∙ ap (after_offers channels) (sym first)

-- what was refused so far, and what of the rest will be
pub refusals-next : (item next : ℕ) (channels new : Channels) (offer : Offer) (all rest : List Offer)
    (refused : List Refusal)
    → all ≡ offer ∷ rest → new ≡ pushed offer.cid offer.frame channels → next ≡ item + 1
    → (refused ++ refusal_where item (channel_refusal offer.cid offer.frame channels)) ++ refusals next new rest
    ≡ refused ++ refusals item channels all
unfolding refusals
refusals-next item next channels new offer all rest refused first is on =
    append_assoc refused (refusal_where item (channel_refusal offer.cid offer.frame channels)) (refusals next new rest)
    ∙ ap (λ (c : Channels). refused ++ (refusal_where item (channel_refusal offer.cid offer.frame channels)
    ++ refusals next c rest)) is
    ∙ ap (λ (n : ℕ). refused ++ (refusal_where item (channel_refusal offer.cid offer.frame channels)
    ++ refusals n (pushed offer.cid offer.frame channels) rest)) on
    ∙ ap (λ l. refused ++ refusals item channels l) (sym first)

-- ---- none is left
pub after-all : (channels : Channels) (rest : List Offer) → rest ≡ [] → after_offers channels rest ≡ channels
unfolding after_offers
after-all channels rest none = ap (after_offers channels) none

pub refusals-all : (item : ℕ) (channels : Channels) (rest : List Offer) → rest ≡ [] → refusals item channels rest ≡ []
unfolding refusals
refusals-all item channels rest none = ap (refusals item channels) none

-- ---- how many
where-few : (item : ℕ) (why : Option ChannelFault) → length (refusal_where item why) ≤ 1
where-few item None = omega arith
where-few item (Some why) = omega arith

pub refusals-few : (item : ℕ) (channels : Channels) (offers : List Offer)
    → length (refusals item channels offers) ≤ length offers
unfolding refusals
refusals-few item channels [] = omega arith
refusals-few item channels (offer ∷ offers) =
    let why : Option ChannelFault = channel_refusal offer.cid offer.frame channels in
    let rest : List Refusal = refusals (item + 1) (pushed offer.cid offer.frame channels) offers in
    omega (
      arith,
      where-few item why,
      refusals-few (item + 1) (pushed offer.cid offer.frame channels) offers,
      length-append (refusal_where item why) rest,
    )
