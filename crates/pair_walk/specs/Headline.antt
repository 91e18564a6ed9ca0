-- The headline of a pair: what the reports of its two ways tell, in the words of whoever wrote the two scripts.
use Rattle.std.specs.Prelude.{◌≡◌, ℕ, List, Ok}
use Rattle.law_model.specs.declared.script_types.Script.{Script}
use Rattle.law_walk.specs.Common.{numbered}
use Rattle.law_pair.specs.Common.{way_of}
use Rattle.law_headline.specs.Headline.{IsHeadline}
use Rattle.text_pairs.specs.declared.script_pair.ScriptPair.{ScriptPair}
use Rattle.text_pairs.specs.PairOfText.{pair_of}

-- of the way of a script, beside the other one: with all its ticks, all its rows and all its items
abbrev pub IsWayHeadline : Script → Script → List ℕ → Type 0
IsWayHeadline script other written =
    let all = script.config.ticks in IsHeadline (way_of script other) all all (numbered 0 script.items) written

-- of the octets of two scripts, and of those that are written of the way there and of the way back. Each headline has
-- its own premise, of the lines of its way
abbrev pub IsPairHeadline : List ℕ → List ℕ → List ℕ → Type 0
IsPairHeadline text there back =
    (pair : ScriptPair) × (pair_of text ≡ Ok pair)
    × IsWayHeadline pair.there pair.back there × IsWayHeadline pair.back pair.there back
