-- The numbers of a command that words are lie within their bounds.
use Rattle.std.proofs.Common.{◌≡◌, ◌≤◌, ℕ, Bool, List, length, Option, Some, None, IfSome}
use Rattle.std.proofs.Common.{subst, inl, inr, ◌<◌, true, false, ◌&&◌, nat_le, [], ◌∷◌}
use Rattle.std.proofs.Common.{if◌then◌else◌, map}
use Rattle.law_model.specs.Common.{IsWithin}
use Rattle.command_rooms.specs.commands.Live.{asks, live_words}
use Rattle.command_rooms.specs.commands.WordsOfPairs.{pair_words, is_way, one_way_words, asks_pair}
use Rattle.command_rooms.specs.commands.WordsOfPairs.{live_pair_words}
use Rattle.walk_live.specs.declared.asked.Asked.TheVariants.{Nothing, Steps, Members}
use Rattle.command_rooms.specs.declared.walk_command.WalkCommand.{WalkCommand}
use Rattle.std.specs.Prelude.{String, string_bytes, nat_lt, drop, ◌==◌, bytes_eq, codes}
use Rattle.std.specs.Option.{option_or}
use Rattle.std.specs.declared.alloc.Global.{Global}
use Rattle.std.proofs.lemmas.Bool.{cases_Bool, ltb-true}
use Rattle.command_words.specs.CommandLineWords.{number_in, are_plain}
use Rattle.command_rooms.specs.declared.walk_command.WalkCommand.TheVariants.{Walk, Trace, Fates, Capture, Gfp}
use Rattle.command_rooms.specs.declared.walk_command.WalkCommand.TheVariants.{Frames, Decode, Noise, Au4, Channels}
use Rattle.command_rooms.specs.declared.walk_command.WalkCommand.TheVariants.{Pair, Check, Live, LivePair, OneWay}
use Rattle.law_pair.specs.declared.pair_events.Way.TheVariants.{There, Back}
use Rattle.command_rooms.specs.commands.Walk.{word_at, is_word, walk_words}
use Rattle.command_rooms.specs.commands.Trace.{trace_words}
use Rattle.command_rooms.specs.commands.Fates.{fates_words}
use Rattle.command_rooms.specs.commands.Check.{check_words}
use Rattle.command_rooms.specs.commands.H4.{line_of, h4_words}
use Rattle.command_rooms.specs.commands.Service.{interval_of, service_words}
use Rattle.command_rooms.specs.commands.Capture.{capture_words}
use Rattle.command_rooms.specs.commands.Gfp.{gfp_words}
use Rattle.command_rooms.specs.commands.Frames.{frames_words}
use Rattle.command_rooms.specs.commands.Decode.{decode_words}
use Rattle.command_rooms.specs.commands.Noise.{noise_words}
use Rattle.command_rooms.specs.commands.Au4.{au4_words}
use Rattle.command_rooms.specs.commands.Channels.{channels_words}
use Rattle.command_rooms.specs.commands.Make.{load_of, make_words}
use Rattle.command_rooms.specs.commands.Stream.{sizes_in, ticks_of, rate_of, numbers_in, stream_words}
use Rattle.command_rooms.proofs.StreamSizeLaws.{FitRate, number-fits, sizes-fit}
use Rattle.command_rooms.specs.CommandOfWords.{command_of, command_in, Fits}
use Rattle.law_model.specs.Common.{most_drawn_ticks, most_ticks}

-- ---- numbers
or-fits : (f g : Option WalkCommand) → IfSome f Fits → IfSome g Fits → IfSome (option_or f g) Fits
or-fits None g a b = b
or-fits (Some command) g a b = a

if-fits : (test : Bool) (f : Option WalkCommand) → IfSome f Fits → IfSome (if test then f else None) Fits
if-fits true f fits = fits
if-fits false f fits = tt

either-fits : (test : Bool) (f g : Option WalkCommand) → IfSome f Fits → IfSome g Fits →
    IfSome (if test then f else g) Fits
either-fits true f g fits other = fits
either-fits false f g fits other = other

load-fits : (number lines ticks : Option ℕ) → IfSome lines (IsWithin 1 64) → IfSome ticks (IsWithin 1 most_drawn_ticks) →
    IfSome (load_of number lines ticks) Fits
load-fits (Some number) (Some lines) (Some ticks) a b = (a, b)
load-fits (Some number) (Some lines) None a b = tt
load-fits (Some number) None ticks a b = tt
load-fits None lines ticks a b = tt

-- the ticks from one to before another
abbrev AreTicks : ℕ × ℕ → Type 0
AreTicks ticks = (ticks.0 < ticks.1) × (ticks.1 ≤ most_ticks)

ticks-fit : (first end : Option ℕ) → IfSome end (IsWithin 0 most_ticks) → IfSome (ticks_of first end) AreTicks
ticks-fit (Some first) (Some end) a =
    elim (cases_Bool (nat_lt first end)) [
      | inl less ↦ rw less (ltb-true first end less, a.1)
      | inr not ↦ rw not tt
    ]
ticks-fit (Some first) None a = tt
ticks-fit None end a = tt

rate-fits : (sizes : Option (List ℕ)) (mbits : Option ℕ) (ticks : Option (ℕ × ℕ)) (number : Option ℕ) →
    IfSome sizes FitRate → IfSome mbits (IsWithin 1 400000) → IfSome ticks AreTicks →
    IfSome (rate_of sizes mbits ticks number) Fits
rate-fits (Some sizes) (Some mbits) (Some ticks) (Some number) a b c =
    record { some = a.0; few = a.1; sizes = a.2; moves = b.0; slow = b.1; before = c.0; end = c.1 }
rate-fits (Some sizes) (Some mbits) (Some ticks) None a b c = tt
rate-fits (Some sizes) (Some mbits) None number a b c = tt
rate-fits (Some sizes) None ticks number a b c = tt
rate-fits None mbits ticks number a b c = tt

-- ---- words
line-fits : (line : Option ℕ) → IfSome line (IsWithin 0 127) → IfSome (line_of line) Fits
line-fits (Some line) within = within.1
line-fits None within = tt

h4-fits : (words : List (List ℕ)) → IfSome (h4_words words) Fits
h4-fits words =
    if-fits (length words == 2 && bytes_eq (word_at 0 words) (codes "h4")) (line_of (number_in 0 127 (word_at 1 words)))
    (line-fits (number_in 0 127 (word_at 1 words)) (number-fits 0 127 (word_at 1 words)))

interval-fits : (interval : Option ℕ) → IfSome interval (IsWithin 1 most_ticks) → IfSome (interval_of interval) Fits
interval-fits (Some interval) within = within
interval-fits None within = tt

service-fits : (words : List (List ℕ)) → IfSome (service_words words) Fits
service-fits words =
    if-fits (length words == 2 && bytes_eq (word_at 0 words) (codes "service"))
    (interval_of (number_in 1 most_ticks (word_at 1 words)))
    (interval-fits (number_in 1 most_ticks (word_at 1 words)) (number-fits 1 most_ticks (word_at 1 words)))

live-fits : (words : List (List ℕ)) → IfSome (live_words words) Fits
live-fits words =
    let last = if asks (codes "told") words then Some (Live Members) else None in
    either-fits (is_word (codes "live") words) (Some (Live Nothing))
    (if asks (codes "trace") words then Some (Live Steps) else last) tt
    (either-fits (asks (codes "trace") words) (Some (Live Steps)) last tt
    (if-fits (asks (codes "told") words) (Some (Live Members)) tt))

live-pair-fits : (words : List (List ℕ)) → IfSome (live_pair_words words) Fits
live-pair-fits words =
    let last = if asks_pair (codes "told") words then Some (LivePair Members) else None in
    either-fits (asks (codes "pair") words) (Some (LivePair Nothing))
    (if asks_pair (codes "trace") words then Some (LivePair Steps) else last) tt
    (either-fits (asks_pair (codes "trace") words) (Some (LivePair Steps)) last tt
    (if-fits (asks_pair (codes "told") words) (Some (LivePair Members)) tt))

one-way-fits : (words : List (List ℕ)) → IfSome (one_way_words words) Fits
one-way-fits words =
    either-fits (is_way (codes "there") words) (Some (OneWay There))
    (if is_way (codes "back") words then Some (OneWay Back) else None) tt
    (if-fits (is_way (codes "back") words) (Some (OneWay Back)) tt)

make-fits : (words : List (List ℕ)) → IfSome (make_words words) Fits
make-fits words =
    let number = number_in 0 18446744073709551615 (word_at 1 words) in
    let lines = number_in 1 64 (word_at 2 words) in
    let ticks = number_in 1 most_drawn_ticks (word_at 3 words) in
    if-fits (length words == 4 && bytes_eq (word_at 0 words) (codes "make")) (load_of number lines ticks)
    (load-fits number lines ticks (number-fits 1 64 (word_at 2 words)) (number-fits 1 most_drawn_ticks (word_at 3 words)))

numbers-fit : (ws : List (List ℕ)) → IfSome (numbers_in ws) Fits
numbers-fit ws =
    let sizes = sizes_in (word_at 0 ws) in
    let mbits = number_in 1 400000 (word_at 1 ws) in
    let first = number_in 0 most_ticks (word_at 2 ws) in
    let end = number_in 0 most_ticks (word_at 3 ws) in
    let number = number_in 0 18446744073709551615 (word_at 4 ws) in
    if-fits (length ws == 5) (rate_of sizes mbits (ticks_of first end) number)
    (rate-fits sizes mbits (ticks_of first end) number (sizes-fit (word_at 0 ws))
    (number-fits 1 400000 (word_at 1 ws))
    (ticks-fit first end (number-fits 0 most_ticks (word_at 3 ws))))

stream-fits : (words : List (List ℕ)) → IfSome (stream_words words) Fits
stream-fits words =
    if-fits (nat_le 1 (length words) && bytes_eq (word_at 0 words) (codes "stream")) (numbers_in (drop 1 words))
    (numbers-fit (drop 1 words))

word-fits : (name : List ℕ) (words : List (List ℕ)) (command : WalkCommand) → Fits command →
    IfSome (if is_word name words then Some command else None) Fits
word-fits name words command = if-fits (is_word name words) (Some command)

-- the first that is there
abbrev Fitting : Type 0
Fitting = (f : Option WalkCommand) × IfSome f Fits

abbrev or-any : Option WalkCommand → List Fitting → Option WalkCommand
or-any f [] = f
or-any f (g ∷ more) = or-any (option_or f g.0) more

any-fits : (f : Option WalkCommand) → IfSome f Fits → (more : List Fitting) → IfSome (or-any f more) Fits
any-fits f a [] = a
any-fits f a (g ∷ more) = any-fits (option_or f g.0) (or-fits f g.0 a g.1) more

named-fits : (words : List (List ℕ)) → IfSome (command_of words) Fits
named-fits words =
    any-fits (walk_words words) (word-fits (codes "walk") words Walk tt)
    ((trace_words words, word-fits (codes "trace") words Trace tt)
    ∷ (fates_words words, word-fits (codes "fates") words Fates tt)
    ∷ (check_words words, word-fits (codes "check") words Check tt)
    ∷ (h4_words words, h4-fits words)
    ∷ (service_words words, service-fits words)
    ∷ (capture_words words, word-fits (codes "capture") words Capture tt)
    ∷ (gfp_words words, word-fits (codes "gfp") words Gfp tt)
    ∷ (frames_words words, word-fits (codes "frames") words Frames tt)
    ∷ (decode_words words, word-fits (codes "decode") words Decode tt)
    ∷ (noise_words words, word-fits (codes "noise") words Noise tt)
    ∷ (au4_words words, word-fits (codes "au4") words Au4 tt)
    ∷ (channels_words words, word-fits (codes "channels") words Channels tt)
    ∷ (pair_words words, word-fits (codes "pair") words Pair tt)
    ∷ (one_way_words words, one-way-fits words)
    ∷ (live_words words, live-fits words)
    ∷ (live_pair_words words, live-pair-fits words)
    ∷ (make_words words, make-fits words)
    ∷ (stream_words words, stream-fits words)
    ∷ [])

pub fits : (words : List (String Global)) (command : WalkCommand) → command_in words ≡ Some command → Fits command
fits words command is =
    let P : Option WalkCommand → Type 0 = λ o. IfSome o Fits in
    subst P is (if-fits (are_plain (map string_bytes words)) (command_of (map string_bytes words))
    (named-fits (map string_bytes words)))
