-- Items without octets, with streams among them of which no item is kept.
use Rattle.std.specs.Prelude.{◌≤◌, ◌+◌, List, length}
use Rattle.law_rates.specs.Rates.{RateFrame}
use Rattle.law_model.specs.Common.{most_items}
use Rattle.law_model.specs.session.Items.{stream_item}
use Rattle.law_model.specs.session.Streams.{mixed, AreStreams, FitStreams, streamed_in}
use Rattle.law_model.specs.declared.script_types.Item.{Item}
use Rattle.law_model.specs.declared.script_items.streams.Stream.{Stream}
use Rattle.terminal_group.specs.Item.{bare}

-- what a frame of a stream is
abbrev pub bare_frame : RateFrame → Item
bare_frame frame = bare (stream_item frame)

abbrev pub bare_mixed : List Item → List Stream → List Item
bare_mixed singles streams = mixed bare_frame singles streams

-- the streams stand among the single items, and there are no more of both than a script has
pub record AreBare (singles : List Item) (streams : List Stream) : Type 0 where
  pub apart : AreStreams 0 0 streams
  pub fit : FitStreams 0 (length singles) streams
  pub few : length singles + streamed_in streams ≤ most_items
