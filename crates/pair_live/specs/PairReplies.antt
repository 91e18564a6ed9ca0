-- What is answered to what is said of both ways, by what is asked for: the answers of law_live, where of each way its
-- decision steps are told as a walk tells its own, with the word of the way.
use Rattle.std.specs.Prelude.{ℕ, ◌+◌, ◌*◌, ◌%◌, ◌==◌, List, [], ◌∷◌, ◌++◌, length, flat_map, Option, codes, decimal}
use Rattle.law_model.specs.Common.{BackCell, Table, active, bit_text}
use Rattle.law_model.specs.declared.script_types.Config.{Config}
use Rattle.law_model.specs.declared.script_types.Script.{Script}
use Rattle.law_walk.specs.Common.{cell_taken, table_in}
use Rattle.law_pair.specs.declared.pair_events.Way.{Way}
use Rattle.law_pair.specs.declared.pair_events.Way.TheVariants.{There, Back}
use Rattle.law_live.specs.Common.{PairSaying, Telling, changed_number, leg_on, member_way_text, members_in}
use Rattle.law_live.specs.Common.{pair_answers, pair_answers_from, pair_answers_text, pair_counts, queue_way_text}
use Rattle.law_live.specs.Common.{script_on, way_word}
use Rattle.text_captures.specs.packet_trace.StepText.{back_text, place_texts}
use Rattle.walk_live.specs.declared.asked.Asked.{Asked}
use Rattle.walk_live.specs.declared.asked.Asked.TheVariants.{Nothing, Steps, Members}

-- ---- a decision step
-- its line has the parts of one in a trace
abbrev pub step_way_text : Way → ℕ → Option BackCell → Table → ℕ → List ℕ
step_way_text way packet back table lines =
    codes "packet " ++ way_word way ++ codes " " ++ decimal packet ++ codes " chg " ++ bit_text (table.count % 2 == 1)
    ++ codes " act " ++ decimal (length (active table))
    ++ codes " back " ++ back_text back ++ place_texts table lines ++ codes "\n"

-- of step j of a way: nothing, its line, or the lines of members whose codes are others than before
abbrev pub step_line_on : Asked → Script → Script → Way → ℕ → List ℕ
step_line_on Nothing one other way j = []
step_line_on Steps one other way j =
    let leg = leg_on one other way in
    step_way_text way j (cell_taken leg j) (table_in leg (16 * j + 9)) leg.config.lines
step_line_on Members one other way j = flat_map (member_way_text way) (members_in (leg_on one other way) j)

-- ---- a pass
-- by how many frames of a way wait before and behind it: that number, where it is another one
abbrev pub queue_lines_on : Asked → Way → ℕ → ℕ → List ℕ
queue_lines_on Nothing way was now = []
queue_lines_on Steps way was now = []
queue_lines_on Members way was now = flat_map (queue_way_text way) (changed_number was now)

abbrev pub pair_telling : Asked → Script → Script → Way → Telling
pair_telling asked one other way =
    record { step = step_line_on asked one other way; queue = queue_lines_on asked way }

-- ---- what is answered to all that was said, and to more that is said behind it
abbrev pub pair_answered : Asked → Script → Script → List PairSaying → List ℕ
pair_answered asked one other said = pair_answers_text (pair_telling asked one other) (pair_answers one other said)

abbrev pub pair_answered_since : Asked → Script → Script → List PairSaying → List PairSaying → List ℕ
pair_answered_since asked one other said more =
    pair_answers_text (pair_telling asked one other)
    (pair_answers_from one other (pair_counts one other said) more)

-- to more over two configurations: of the scripts of which that is all
abbrev pub pair_answer_of : Asked → Config → Config → List PairSaying → List PairSaying → List ℕ
pair_answer_of asked there back said more =
    pair_answered_since asked (script_on there There (said ++ more)) (script_on back Back (said ++ more)) said more

-- to one saying
abbrev pub pair_answer_to : Asked → Config → Config → List PairSaying → PairSaying → List ℕ
pair_answer_to asked there back said saying = pair_answer_of asked there back said (saying ∷ [])
