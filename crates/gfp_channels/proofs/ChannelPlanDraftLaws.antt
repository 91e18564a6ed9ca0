-- Plans of channels: the draft of one line by line, what a text says, and what a plan delivers.
use Rattle.std.proofs.Common.{◌≡◌, ℕ, ◌+◌, ◌<◌, ◌≤◌, nat_lt, List, [], ◌∷◌, ◌++◌, All, refl, sym, subst, arith, length}
use Rattle.std.proofs.Common.{map, take, ◌∙◌, ap}
use Rattle.std.specs.List.{fold}
use Rattle.std.proofs.lemmas.Bool.{ltb-false}
use Rattle.std.proofs.lemmas.List.Sums.{fold-append}
use Rattle.std.proofs.lemmas.List.Elements.{All-nil, All-cons, All-append, All-map}
use Rattle.text_lines.specs.WordsOfLine.{word_at, number_at}
use Rattle.text_lines.specs.Fields.{within, any, above, digits}
use Rattle.text_lines.specs.LanguageTable.{next_by}
use Rattle.text_lines.proofs.TextLineAndWordLaws.{where_none, number_ok, digits_ok, one_field, two_fields}
use Rattle.text_lines.proofs.LineLanguageAndTableLaws.{IsPlaced, IsSound, Keeps, said_valid}
use Rattle.gfp_model.specs.declared.linear_model.Cut.{Cut}
use Rattle.gfp_channels.specs.declared.channel_link.channel_keyword.ChannelKeyword.{ChannelKeyword}
use Rattle.gfp_channels.specs.declared.channel_link.channel_draft.ChannelDraft.{ChannelDraft}
use Rattle.gfp_channels.specs.channel_link.ChannelTextLines.{place, overlap, offer_said, cut_said, with_cut, after}
use Rattle.gfp_channels.specs.channel_link.ChannelTextLines.{at_first, plan_table}
use Rattle.gfp_channels.specs.channel_link.Plan.{AreCuts, IsOfOctets, IsPlan, plan_in, plan_of}
use Rattle.gfp_model.specs.linear_model.Channels.{Channels, silent, waiting_of, pushed}
use Rattle.gfp_model.specs.linear_model.ChannelStream.{stream_to}
use Rattle.gfp_channels.specs.channel_law.FramesOfChannel.{AreSound, AreOrdered, delivered_of}
use Rattle.gfp_channels.specs.channel_law.Offers.{after_frames}
use Rattle.gfp_channels.proofs.OfferedChannelFrameLaws.{silent_sound, AreOctets, waiting-all, after_sound}
use Rattle.gfp_channels.proofs.ChannelDeliveryLaws.{carried-take, delivered-all, delivered-kept}
use Rattle.gfp_channels.specs.declared.channel_link.channel_draft.Offer.{Offer}
use Rattle.gfp_channels.specs.declared.channel_link.channel_draft.ChannelPlan.{ChannelPlan}
use Rattle.gfp_channels.specs.channel_link.ChannelReportText.{after_offers, delivered, plan_text}
use Rattle.gfp_channels.specs.channel_link.FramesOfPlan.{plan_channels, HasTrueStarts, as_frame, accepted_by}
use Rattle.gfp_channels.specs.channel_link.FramesOfPlan.{carried_by, kept_by, delivered_by, IsPlanReport}
use Rattle.std.specs.Prelude.{Ok}
use Rattle.gfp_channels.specs.declared.channel_link.channel_keyword.ChannelKeyword.TheVariants as word

-- ---- What a draft meets, the draft after one more line meets as well.
-- where the last cut ends, from a place on
abbrev end_behind : ℕ → List Cut → ℕ
end_behind place cuts = fold (λ n cut. cut.end) place cuts

-- what is said where the next line may stand from a place on
pub record IsDraft (next : ℕ) (d : ChannelDraft) : Type 0 where
  pub channels : 1 ≤ next → (1 ≤ d.channels) × (d.channels ≤ 256)
  pub octets : 2 ≤ next → 1 ≤ d.octets
  pub few : d.octets ≤ 100000000
  pub frames : All IsOfOctets d.offers
  pub none : next ≤ 2 → d.cuts ≡ []
  pub cuts : AreCuts 0 d.octets d.cuts
  pub end : d.end ≡ end_behind 0 d.cuts

-- ---- a cut more
cuts-more : (place most : ℕ) (cuts : List Cut) (cut : Cut) → AreCuts place most cuts → end_behind place cuts ≤ cut.first
    → cut.first < cut.end → cut.end ≤ most → AreCuts place most (cuts ++ cut ∷ [])
unfolding AreCuts
cuts-more place most [] cut are behind some inside = (behind, some, inside, tt)
cuts-more place most (first ∷ cuts) cut are behind some inside =
    (are.0, are.1, are.2, cuts-more first.end most cuts cut are.3 behind some inside)

cut-more : (next : ℕ) (d : ChannelDraft) (cut : Cut) → IsDraft next d → 2 ≤ next → d.end ≤ cut.first → cut.first < cut.end
    → cut.end ≤ d.octets → IsDraft 3 (with_cut d cut)
cut-more next d cut is late behind some inside = record {
  channels = λ at. is.channels (omega (arith, late));
  octets = λ at. is.octets late;
  few = is.few;
  frames = is.frames;
  none = λ low. absurd (omega (arith, low));
  cuts = cuts-more 0 d.octets d.cuts cut is.cuts (subst (λ n. n ≤ cut.first) is.end behind) some inside;
  end = sym (fold-append (λ n cut. cut.end) 0 d.cuts (cut ∷ []));
}

no-cuts : (most : ℕ) (cuts : List Cut) → cuts ≡ [] → AreCuts 0 most cuts
unfolding AreCuts
no-cuts most cuts none = subst (AreCuts 0 most) (sym none) tt

-- ---- a line more
draft-first : IsDraft 0 at_first
unfolding AreCuts
draft-first = record {
  channels = λ at. absurd (omega (arith, at));
  octets = λ at. absurd (omega (arith, at));
  few = omega arith;
  frames = All-nil IsOfOctets;
  none = λ low. refl;
  cuts = tt;
  end = refl;
}

draft-after : (next : ℕ) (d : ChannelDraft) (k : ChannelKeyword) (ws : List (List ℕ)) → IsDraft next d → IsPlaced 2 next (place k)
    → IsSound plan_table d k ws → IsDraft (next_by plan_table k) (after d k ws)
draft-after next d word.Channels ws is at fine =
    let count = number_ok 2 1 256 (word_at 0 ws) (one_field (within 1 256) 2 ws fine.count fine.each) in
    let first : next ≡ 0 = at.early (omega arith) in
    record {
      channels = λ late. count;
      octets = λ late. absurd (omega (arith, late));
      few = is.few;
      frames = is.frames;
      none = λ low. is.none (omega (arith, first));
      cuts = is.cuts;
      end = is.end;
    }
draft-after next d word.Octets ws is at fine =
    let count = number_ok 2 1 100000000 (word_at 0 ws) (one_field (within 1 100000000) 2 ws fine.count fine.each) in
    let second : next ≡ 1 = at.early (omega arith) in
    let none = is.none (omega (arith, second)) in
    record {
      channels = λ late. is.channels (omega (arith, second));
      octets = λ late. count.0;
      few = count.1;
      frames = is.frames;
      none = λ low. none;
      cuts = no-cuts (number_at 0 ws) d.cuts none;
      end = is.end;
    }
draft-after next d word.Frame ws is at fine =
    let two = two_fields (within 0 255) (digits 1 65535) 2 0 ws fine.count fine.each in
    let late = at.late (omega arith) in
    let fits = at.fits in
    record {
      channels = λ most. is.channels (omega (arith, late));
      octets = λ most. is.octets late;
      few = is.few;
      frames =
          All-append IsOfOctets d.offers (offer_said ws ∷ []) is.frames
          (All-cons IsOfOctets (offer_said ws) [] (digits_ok 3 1 65535 (word_at 1 ws) two.1).each (All-nil IsOfOctets));
      none = λ low. is.none fits;
      cuts = is.cuts;
      end = is.end;
    }
draft-after next d word.Cut ws is at fine =
    let two = two_fields any (above d.octets) 2 0 ws fine.count fine.each in
    let end = number_ok 3 (number_at 0 ws + 1) d.octets (word_at 1 ws) two.1 in
    cut-more next d (cut_said ws) is (at.late (omega arith))
    (ltb-false (number_at 0 ws) d.end (where_none (nat_lt (number_at 0 ws) d.end) (overlap d) fine.own))
    (let some : number_at 0 ws < number_at 1 ws = omega (arith, end.0) in some) end.1

pub plan-keeps : Keeps plan_table IsDraft
plan-keeps = record { first = draft-first; after = draft-after }

-- ---- What is delivered of each channel of a plan, by the laws of channels.
-- the channels after offers
after-same : (channels : Channels) (offers : List Offer) →
    after_offers channels offers ≡ after_frames channels (map as_frame offers)
unfolding after_offers after_frames
after-same channels [] = refl
after-same channels (offer ∷ offers) = after-same (pushed offer.cid offer.frame channels) offers

plan-waiting : (plan : ChannelPlan) (cid : ℕ) → waiting_of cid (plan_channels plan) ≡ accepted_by plan cid
plan-waiting plan cid =
    ap (waiting_of cid) (after-same (silent plan.channels) plan.offers)
    ∙ waiting-all cid plan.channels (map as_frame plan.offers)

plan-sound : (plan : ChannelPlan) → IsPlan plan → AreSound (plan_channels plan)
plan-sound plan is =
    subst AreSound (sym (after-same (silent plan.channels) plan.offers))
    (after_sound (silent plan.channels) (map as_frame plan.offers) (All-map AreOctets as_frame plan.offers is.frames)
    (silent_sound plan.channels is.most))

-- its cuts are one after the other
ordered : (place most : ℕ) (cuts : List Cut) → AreCuts place most cuts → AreOrdered place cuts
unfolding AreCuts AreOrdered
ordered place most [] are = tt
ordered place most (cut ∷ cuts) are = (are.0, omega (arith, are.1), ordered cut.end most cuts are.3)

pub plan-carried : (plan : ChannelPlan) (cid : ℕ) →
    carried_by plan cid ≡ take (length (carried_by plan cid)) (accepted_by plan cid)
plan-carried plan cid =
    carried-take plan.octets cid (plan_channels plan)
    ∙ ap (take (length (carried_by plan cid))) (plan-waiting plan cid)

pub plan-uncut : (plan : ChannelPlan) (cid : ℕ) → IsPlan plan → plan.cuts ≡ [] →
    delivered_by plan cid ≡ carried_by plan cid
plan-uncut plan cid is none =
    ap (λ (cuts : List Cut). delivered_of cid cuts (stream_to plan.octets (plan_channels plan))) none
    ∙ delivered-all plan.octets (plan_channels plan) (plan-sound plan is) cid

pub plan-kept : (plan : ChannelPlan) (cid : ℕ) → IsPlan plan → HasTrueStarts plan →
    delivered_by plan cid ≡ kept_by plan cid
plan-kept plan cid is starts =
    delivered-kept plan.octets (plan_channels plan) (plan-sound plan is) cid plan.cuts
    (ordered 0 plan.octets plan.cuts is.cuts) starts

-- ---- What a text says is a plan of channels.
whole_plan : (next : ℕ) (d : ChannelDraft) → 2 ≤ next → IsDraft next d → IsPlan (plan_in d)
whole_plan next d late is =
    let channels = is.channels (omega (arith, late)) in
    record {
      some = channels.0;
      most = channels.1;
      long = is.octets late;
      short = is.few;
      frames = is.frames;
      cuts = is.cuts;
    }

pub valid_plan : (text : List ℕ) (plan : ChannelPlan) → plan_of text ≡ Ok plan → IsPlan plan
valid_plan text plan said = said_valid plan_table IsDraft plan-keeps plan_in IsPlan whole_plan text plan said

-- ---- what is written
pub plan_report : (text : List ℕ) (plan : ChannelPlan) → plan_of text ≡ Ok plan → IsPlanReport plan (plan_text plan)
plan_report text plan said =
    let is = valid_plan text plan said in
    record {
      told = delivered plan;
      lines = refl;
      uncut = λ none cid. plan-uncut plan cid is none;
      kept = λ starts cid. plan-kept plan cid is starts;
    }
