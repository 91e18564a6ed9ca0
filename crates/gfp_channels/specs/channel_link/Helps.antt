-- What is said of how to write a faulty line of a text of channels.
use Rattle.std.specs.Prelude.{List, ℕ, ◌++◌, codes, decimal}
use Rattle.text_lines.specs.declared.text_faults.LineFault.{LineFault}
use Rattle.text_help.specs.LineHelpTexts.{fault_text}
use Rattle.gfp_channels.specs.declared.channel_link.channel_keyword.ChannelKeyword.{ChannelKeyword}
use Rattle.gfp_channels.specs.declared.channel_link.channel_keyword.ChannelKeyword.TheVariants as word
use Rattle.gfp_channels.specs.declared.channel_link.channel_text_fault.Overlap.{Overlap}

abbrev pub keyword_text : ChannelKeyword → List ℕ
keyword_text word.Channels = codes "channels"
keyword_text word.Octets = codes "octets"
keyword_text word.Frame = codes "frame"
keyword_text word.Cut = codes "cut"

abbrev pub overlap_text : Overlap → List ℕ
overlap_text before = codes "the cut before ends at " ++ decimal before.end

abbrev pub help_of : LineFault ChannelKeyword Overlap → List ℕ
help_of fault = fault_text keyword_text (codes "channels, octets, frame, cut") overlap_text fault
