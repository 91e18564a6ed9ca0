-- Worked conversations with both ways, computed: their scripts, which return packets are lost, and what is answered.
use Rattle.std.specs.Prelude.{ℕ, Option, List, [], ◌∷◌, map, flat_map}
use Rattle.law_model.specs.declared.item_refusals.AcceptFault.TheVariants.{Length}
use Rattle.law_model.specs.declared.item_refusals.CommandFault.TheVariants.{UnknownLine, NotIn}
use Rattle.law_model.specs.declared.item_refusals.Refusal.TheVariants.{Frame as frame_fault, Command as command_fault}
use Rattle.law_model.specs.declared.script_types.Config.{Config}
use Rattle.law_model.specs.declared.script_types.Item.{Item}
use Rattle.law_model.specs.declared.script_types.ItemKind.TheVariants.{Frame, Add, Remove}
use Rattle.law_model.specs.declared.script_types.Script.{Script}
use Rattle.law_walk.specs.Common.{cell_taken, plain}
use Rattle.law_model.specs.Common.{BackCell}
use Rattle.law_pair.specs.declared.pair_events.Way.{Way}
use Rattle.law_pair.specs.declared.pair_events.Way.TheVariants.{There, Back}
use Rattle.law_pair.specs.PairCounts.{PairPlan, PairCounts, pair_begin}
use Rattle.law_live.specs.PairSayings.{PairSaying, lands_on, cuts_on, mends_on, both_pass, script_on}
use Rattle.law_live.specs.PairSayingCounts.{both_from, turns_for}
use Rattle.law_live.specs.LiveAnswers.{Telling, refused_item, got_at, queue_at}
use Rattle.law_live.specs.LiveQueue.{changed_number}
use Rattle.law_live.specs.PairAnswers.{PairAnswer, leg_on, way_told, both_at}
use Rattle.law_live.specs.PairAnswers.{pair_answers, pair_answers_text, queue_way_text}

-- ---- over one line without delay each way, a lag of one packet and so many ticks
abbrev pub one_each : ℕ → Config
one_each ticks = plain ([] ∷ []) 1 1 ticks

-- the script of a way, and the due ticks of its items
abbrev pub script_each : ℕ → Way → List PairSaying → Script
script_each ticks way said = script_on (one_each ticks) way said

abbrev pub dues_each : ℕ → Way → List PairSaying → List ℕ
dues_each ticks way said = map (λ (item : Item). item.due) (script_each ticks way said).items

-- the return packets of a way that are lost, and the return cell that a decision step of it took
abbrev pub lost_each : ℕ → Way → List PairSaying → List (ℕ × ℕ)
lost_each ticks way said =
    (leg_on (script_each ticks There said) (script_each ticks Back said) way).config.lost

abbrev pub cell_each : ℕ → Way → List PairSaying → ℕ → Option BackCell
cell_each ticks way said j = cell_taken (leg_on (script_each ticks There said) (script_each ticks Back said) way) j

-- what is answered
abbrev pub answers_each : ℕ → List PairSaying → List PairAnswer
answers_each ticks said = pair_answers (script_each ticks There said) (script_each ticks Back said) said

-- the text of answers, where queues are told and decision steps aren't
abbrev pub queues_only : Way → Telling
queues_only way = record {
  step = λ j. [];
  queue = λ was now. flat_map (queue_way_text way) (changed_number was now);
}

abbrev pub plain_text : List PairAnswer → List ℕ
plain_text told = pair_answers_text queues_only told

-- ---- what is said
-- a line there is added, and later the line back is cut
abbrev pub cut_back : List PairSaying
cut_back = lands_on There (Add 0) ∷ both_pass 40 ∷ cuts_on Back 0 ∷ both_pass 30 ∷ []

-- the line back is cut for a tick, and then a frame is sent there
abbrev pub cut_for_a_tick : List PairSaying
cut_for_a_tick =
    lands_on There (Add 0) ∷ both_pass 100 ∷ cuts_on Back 0 ∷ both_pass 1 ∷ mends_on Back 0 ∷ lands_on There (Frame [])
    ∷ both_pass 1 ∷ []

-- an item that is refused there, and two back
abbrev pub three_refused : List PairSaying
three_refused = lands_on Back (Remove 0) ∷ lands_on There (Frame (0 ∷ [])) ∷ lands_on Back (Add 1) ∷ []

abbrev pub three_refusals : List PairAnswer
three_refusals =
    way_told Back (refused_item 0 (command_fault NotIn)) ∷ way_told There (refused_item 0 (frame_fault (Length 1)))
    ∷ way_told Back (refused_item 1 (command_fault (UnknownLine 1))) ∷ []

-- no frame waits in either way, before the ticks and behind them
abbrev pub nine_passed : List PairAnswer
nine_passed = way_told There (queue_at 0 0) ∷ way_told Back (queue_at 0 0) ∷ both_at 9 ∷ []

-- frames come out there and back, two wait back before and one behind, and one more there
abbrev pub frames_and_queues : List PairAnswer
frames_and_queues =
    way_told There (got_at 57 (170 ∷ [])) ∷ way_told Back (got_at 57 (187 ∷ [])) ∷ way_told There (queue_at 0 1)
    ∷ way_told Back (queue_at 2 1) ∷ both_at 57 ∷ []

-- ---- in numbers
-- what rounds lead to, and how many of them as many ticks take, where nothing lands
abbrev pub ticks_after : PairPlan → List PairSaying → PairCounts
ticks_after pair said = both_from pair (pair_begin pair) said

abbrev pub turns_of : ℕ → PairPlan → ℕ
turns_of k pair = turns_for k pair (pair_begin pair)
