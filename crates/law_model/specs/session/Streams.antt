-- Streams among single items: what items they are together, and where the item of a number stands.
use Rattle.std.specs.Prelude.{◌≡◌, ℕ, ◌+◌, ◌-◌, ◌<◌, ◌≤◌, nat_lt, List, [], ◌∷◌, ◌++◌, map, take, drop, length, if◌then◌else◌}
use Rattle.std.specs.Prelude.{Option, Some, None}
use Rattle.law_rates.specs.Rates.{RateFrame, IsRate, count_of, frames}
use Rattle.law_model.specs.declared.script_items.streams.Stream.{Stream}
use Rattle.law_model.specs.declared.script_items.streams.Place.{Place}
use Rattle.law_model.specs.declared.script_items.streams.Place.TheVariants.{Single, Streamed}

-- ---- single items with streams among them, from the item of a number on, where a frame is such an item
unfoldable pub mixed_from : {A : Type 0} → (RateFrame → A) → ℕ → List A → List Stream → List A
mixed_from item_of from singles [] = singles
mixed_from item_of from singles (stream ∷ streams) =
    take (stream.first - from) singles
    ++ (map item_of (frames stream.rate)
    ++ mixed_from item_of stream.behind (drop (stream.first - from) singles) streams)

abbrev pub mixed : {A : Type 0} → (RateFrame → A) → List A → List Stream → List A
mixed item_of singles streams = mixed_from item_of 0 singles streams

-- ---- streams one after another
-- the number of the item behind the last, or that from which they stand
unfoldable pub behind_of : ℕ → List Stream → ℕ
behind_of from [] = from
behind_of from (stream ∷ streams) = behind_of stream.behind streams

-- how many items they have
unfoldable pub streamed_in : List Stream → ℕ
streamed_in [] = 0
streamed_in (stream ∷ streams) = count_of stream.rate + streamed_in streams

-- a stream from the item of a number on, where so many items of streams are before that
pub record IsStream (from earlier : ℕ) (stream : Stream) : Type 0 where
  pub rate : IsRate stream.rate
  pub first : from ≤ stream.first
  pub behind : stream.behind ≡ stream.first + count_of stream.rate
  pub before : stream.before ≡ earlier

unfoldable pub AreStreams : ℕ → ℕ → List Stream → Type 0
AreStreams from earlier [] = Unit {0}
AreStreams from earlier (stream ∷ streams) =
    IsStream from earlier stream × AreStreams stream.behind (earlier + count_of stream.rate) streams

-- so many single items reach to the last of them
abbrev pub FitStreams : ℕ → ℕ → List Stream → Type 0
FitStreams from singles streams = behind_of from streams ≤ from + (singles + streamed_in streams)

-- ---- where the item of a number stands
-- the stream that has it
unfoldable pub stream_at : List Stream → ℕ → Option Stream
stream_at [] number = None
stream_at (stream ∷ streams) number =
    if nat_lt number stream.first then None
    else (if nat_lt number stream.behind then Some stream else stream_at streams number)

-- how many items have the streams that end before it
unfoldable pub streamed_before : List Stream → ℕ → ℕ
streamed_before [] number = 0
streamed_before (stream ∷ streams) number =
    if nat_lt number stream.behind then 0 else count_of stream.rate + streamed_before streams number

-- what is known of the first stream that ends above it, where so many items of streams are before all these
pub record IsFirstAbove (streams : List Stream) (earlier number : ℕ) (stream : Stream) : Type 0 where
  pub before : stream.before ≡ earlier + streamed_before streams number
  pub outside : number < stream.first → stream_at streams number ≡ None
  pub inside : stream.first ≤ number → stream_at streams number ≡ Some stream

abbrev pub IsPlace : List Stream → ℕ → Place → Type 0
IsPlace streams number (Single index) =
    (stream_at streams number ≡ None) × (index + streamed_before streams number ≡ number)
IsPlace streams number (Streamed stream) = stream_at streams number ≡ Some stream.now
