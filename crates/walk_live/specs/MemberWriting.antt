-- Lines of members behind any first words. Those of a walk begin with `member `.
use Rattle.std.specs.Prelude.{ℕ, List, ◌++◌, codes, decimal, flat_map}
use Rattle.law_live.specs.Common.{MemberTold}

abbrev pub worded_member : List ℕ → MemberTold → List ℕ
worded_member words told =
    words ++ decimal told.ticks ++ codes " " ++ decimal told.line ++ codes " " ++ told.code ++ codes "\n"

abbrev pub worded_members : List ℕ → List MemberTold → List ℕ
worded_members words told = flat_map (worded_member words) told
