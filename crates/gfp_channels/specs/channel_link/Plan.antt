-- The plan that a text says, or its first fault.
use Rattle.std.specs.Prelude.{⊤, ◌≤◌, ◌<◌, ◌^◌, ℕ, List, [], ◌∷◌, All, Result}
use Rattle.text_lines.specs.LanguageTable.{said_in, formed}
use Rattle.text_lines.specs.declared.text_faults.LineFault.{LineFault}
use Rattle.gfp_model.specs.declared.linear_model.Cut.{Cut}
use Rattle.gfp_channels.specs.declared.channel_link.channel_keyword.ChannelKeyword.{ChannelKeyword}
use Rattle.gfp_channels.specs.declared.channel_link.channel_text_fault.Overlap.{Overlap}
use Rattle.gfp_channels.specs.declared.channel_link.channel_draft.ChannelDraft.{ChannelDraft}
use Rattle.gfp_channels.specs.declared.channel_link.channel_draft.Offer.{Offer}
use Rattle.gfp_channels.specs.declared.channel_link.channel_draft.ChannelPlan.{ChannelPlan}
use Rattle.gfp_channels.specs.channel_link.ChannelTextLines.{plan_table}

abbrev pub plan_in : ChannelDraft → ChannelPlan
plan_in d = record { channels = d.channels; octets = d.octets; offers = d.offers; cuts = d.cuts }

-- a plan, or the number of the first faulty line, counted from 1, and what is wrong with it
abbrev pub plan_of : List ℕ → Result ChannelPlan (ℕ × LineFault ChannelKeyword Overlap)
plan_of text = formed plan_in (said_in plan_table text)

-- cuts that have octets, none of which is before a place or behind another one, and each begins where the one before it
-- ends or later
unfoldable pub AreCuts : ℕ → ℕ → List Cut → Type 0
AreCuts place most [] = ⊤
AreCuts place most (cut ∷ cuts) =
    (place ≤ cut.first) × (cut.first < cut.end) × (cut.end ≤ most) × AreCuts cut.end most cuts

-- an offered frame is octets
abbrev pub IsOfOctets : Offer → Type 0
IsOfOctets offer = All (λ octet. octet < 2 ^ 8) offer.frame

pub record IsPlan (plan : ChannelPlan) : Type 0 where
  pub some : 1 ≤ plan.channels
  pub most : plan.channels ≤ 256
  pub long : 1 ≤ plan.octets
  pub short : plan.octets ≤ 100000000
  pub frames : All IsOfOctets plan.offers
  pub cuts : AreCuts 0 plan.octets plan.cuts
