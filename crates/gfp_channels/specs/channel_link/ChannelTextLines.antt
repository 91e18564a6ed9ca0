-- The lines of a text of channels, as a table. This language is this project's own.
use Rattle.std.specs.Prelude.{ℕ, ◌==◌, nat_lt, List, [], ◌∷◌, ◌++◌, Option, Some, None, codes, bytes_eq, if◌then◌else◌}
use Rattle.text_lines.specs.WordsOfLine.{word_at, number_at, octets_of}
use Rattle.text_lines.specs.Fields.{Field, within, any, above, digits, where_true}
use Rattle.text_lines.specs.Language.{Language}
use Rattle.text_lines.specs.LanguageTable.{Table, Told, language_of}
use Rattle.text_lines.specs.declared.text_faults.LineFault.{LineFault}
use Rattle.gfp_model.specs.declared.linear_model.Cut.{Cut}
use Rattle.gfp_channels.specs.declared.channel_link.channel_keyword.ChannelKeyword.{ChannelKeyword}
use Rattle.gfp_channels.specs.declared.channel_link.channel_keyword.ChannelKeyword.TheVariants as word
use Rattle.gfp_channels.specs.declared.channel_link.channel_text_fault.Overlap.{Overlap}
use Rattle.gfp_channels.specs.declared.channel_link.channel_draft.Offer.{Offer}
use Rattle.gfp_channels.specs.declared.channel_link.channel_draft.ChannelDraft.{ChannelDraft}

-- the words that may begin a line
abbrev pub keyword_of : List ℕ → Option ChannelKeyword
keyword_of w =
    if bytes_eq w (codes "channels") then Some word.Channels
    else if bytes_eq w (codes "octets") then Some word.Octets
    else if bytes_eq w (codes "frame") then Some word.Frame
    else if bytes_eq w (codes "cut") then Some word.Cut
    else None

-- the place of a line in a text: 0 and 1 are the lines that have to be there, 2 is that of frames and 3 that of cuts
abbrev pub place : ChannelKeyword → ℕ
place word.Channels = 0
place word.Octets = 1
place word.Frame = 2
place word.Cut = 3

-- the line that has to stand at a place before that of frames
abbrev pub awaited : ℕ → ChannelKeyword
awaited next = if next == 0 then word.Channels else word.Octets

-- what the words after a keyword have to be: a frame may be of a channel that there isn't, and of any length
abbrev pub fields : ChannelDraft → ChannelKeyword → List Field
fields d word.Channels = within 1 256 ∷ []
fields d word.Octets = within 1 100000000 ∷ []
fields d word.Frame = within 0 255 ∷ digits 1 65535 ∷ []
fields d word.Cut = any ∷ above d.octets ∷ []

-- a cut begins before the one before it ends
abbrev pub overlap : ChannelDraft → Overlap
overlap d = record { end = d.end }

abbrev pub early : ChannelDraft → ChannelKeyword → List (List ℕ) → Option Overlap
early d word.Channels ws = None
early d word.Octets ws = None
early d word.Frame ws = None
early d word.Cut ws = where_true (nat_lt (number_at 0 ws) d.end) (overlap d)

-- ---- what a line without a fault says, and what it adds
abbrev pub offer_said : List (List ℕ) → Offer
offer_said ws = record { cid = number_at 0 ws; frame = octets_of (word_at 1 ws) }

abbrev pub cut_said : List (List ℕ) → Cut
cut_said ws = record { first = number_at 0 ws; end = number_at 1 ws }

abbrev pub with_offer : ChannelDraft → Offer → ChannelDraft
with_offer d offer = record d { offers = d.offers ++ offer ∷ [] }

abbrev pub with_cut : ChannelDraft → Cut → ChannelDraft
with_cut d cut = record d { end = cut.end; cuts = d.cuts ++ cut ∷ [] }

abbrev pub after : ChannelDraft → ChannelKeyword → List (List ℕ) → ChannelDraft
after d word.Channels ws = record d { channels = number_at 0 ws }
after d word.Octets ws = record d { octets = number_at 0 ws }
after d word.Frame ws = with_offer d (offer_said ws)
after d word.Cut ws = with_cut d (cut_said ws)

-- before the first line
abbrev pub at_first : ChannelDraft
at_first = record { channels = 0; octets = 0; end = 0; offers = []; cuts = [] }

-- ---- the table
abbrev pub plan_table : Table ChannelDraft ChannelKeyword Overlap
plan_table = record {
  first = at_first;
  keyword = keyword_of;
  place = place;
  must = 2;
  awaited = awaited;
  fields = fields;
  own = early;
  after = after;
}

abbrev pub plan_lines : Language (Told ChannelDraft ChannelKeyword) (LineFault ChannelKeyword Overlap)
plan_lines = language_of plan_table
