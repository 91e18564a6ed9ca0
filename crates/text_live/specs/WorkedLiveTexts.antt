-- Live texts worked by hand: the scripts that say the same as two of them, what is answered to the items of a third,
-- and what is wrong with lines of one word.
use Rattle.std.specs.Prelude.{ℕ, List, [], ◌∷◌, ◌++◌, replicate, map, Option, codes}
use Rattle.text_lines.specs.WordsOfLine.{words}
use Rattle.law_model.specs.Common.{vc4_size, default_options}
use Rattle.law_model.specs.declared.script_types.EventLine.TheVariants.{Client, Operator, Round}
use Rattle.law_model.specs.declared.script_types.ItemKind.TheVariants.{Add, Frame}
use Rattle.law_model.specs.declared.script_types.Script.{Script}
use Rattle.law_model.specs.declared.item_refusals.AcceptFault.TheVariants.{Length}
use Rattle.law_model.specs.declared.item_refusals.CommandFault.TheVariants.{AlreadyIn, NotIn, UnknownLine}
use Rattle.law_model.specs.declared.item_refusals.Refusal.TheVariants as refusal
use Rattle.law_live.specs.LiveAnswers.{Answer, refused_item}
use Rattle.text_live.specs.declared.live_fault.LiveLineFault.{LiveLineFault}
use Rattle.text_live.specs.declared.live_fault.LiveLineFault.TheVariants.{Behind, Count, First}
use Rattle.text_live.specs.declared.live_keyword.EarlierPart.TheVariants.{Configuration, Windows}
use Rattle.text_live.specs.declared.live_keyword.LiveKeyword.TheVariants as word
use Rattle.text_live.specs.LiveLines.{LineWrong, line_fault}
use Rattle.text_live.specs.Sayings.{said_in}

-- a frame of one octet in tick 40
abbrev pub frame_lines : List (List ℕ)
frame_lines =
    codes "lines 1" ∷ codes "delays 0" ∷ codes "ring 1" ∷ codes "lag 1" ∷ codes "ticks 1000" ∷ codes "add 0"
    ∷ codes "pass 40" ∷ codes "frame aa" ∷ codes "pass 1" ∷ []

abbrev pub frame_script : Script
frame_script = record {
  config = record {
    lines = 1;
    delays = 0 ∷ [];
    windows = [] ∷ [];
    lost = [];
    ring = 1;
    lag = 1;
    ticks = 1000;
    size = vc4_size;
    options = default_options;
  };
  items = record { due = 0; kind = Add 0 } ∷ record { due = 40; kind = Frame (170 ∷ []) } ∷ [];
  events = Round 43 ∷ Client 1 ∷ Operator 1 ∷ [];
}

-- line 1 is cut where its failure that was known before ends, and mended; line 0 is cut for one tick; two lines are cut
-- and mended, or cut, without a tick behind it
abbrev pub cut_lines : List (List ℕ)
cut_lines =
    codes "lines 2" ∷ codes "delays 0 3" ∷ codes "ring 8" ∷ codes "lag 2" ∷ codes "ticks 5000"
    ∷ codes "fail 1 300 310 2" ∷ codes "add 0" ∷ codes "pass 310" ∷ codes "cut 1" ∷ codes "pass 6" ∷ codes "cut 0"
    ∷ codes "mend 1" ∷ codes "pass 1" ∷ codes "mend 0" ∷ codes "cut 0" ∷ codes "mend 0" ∷ codes "pass 9"
    ∷ codes "cut 1" ∷ []

abbrev pub cut_script : Script
cut_script = record {
  config = record {
    lines = 2;
    delays = 0 ∷ 3 ∷ [];
    windows = (record { first = 316; end = 317; slip = 0 } ∷ [])
        ∷ (record { first = 300; end = 310; slip = 2 } ∷ record { first = 310; end = 316; slip = 0 } ∷ []) ∷ [];
    lost = [];
    ring = 8;
    lag = 2;
    ticks = 5000;
    size = vc4_size;
    options = default_options;
  };
  items = record { due = 0; kind = Add 0 } ∷ [];
  events = Round 326 ∷ Client 1 ∷ Operator 1 ∷ [];
}

-- items on two lines, all of which are refused but the first
abbrev pub refused_lines : List (List ℕ)
refused_lines =
    codes "lines 2" ∷ codes "delays 0 0" ∷ codes "ring 1" ∷ codes "lag 1" ∷ codes "ticks 1000" ∷ codes "add 0"
    ∷ codes "add 0" ∷ codes "remove 1" ∷ codes "frame 00" ∷ codes "add 2" ∷ []

abbrev pub refused_answers : List Answer
refused_answers =
    refused_item 1 (refusal.Command AlreadyIn) ∷ refused_item 2 (refusal.Command NotIn)
    ∷ refused_item 3 (refusal.Frame (Length 1)) ∷ refused_item 4 (refusal.Command (UnknownLine 2)) ∷ []

-- lines of one word behind a live line, and what is wrong with each
abbrev pub begun_lines : List (List ℕ)
begun_lines =
    codes "lines 1" ∷ codes "delays 0" ∷ codes "ring 1" ∷ codes "lag 1" ∷ codes "ticks 1000" ∷ codes "add 0" ∷ []

abbrev pub lone_words : List (List ℕ)
lone_words =
    codes "container" ∷ codes "lines" ∷ codes "delays" ∷ codes "ring" ∷ codes "lag" ∷ codes "ticks" ∷ codes "sink"
    ∷ codes "holdoff" ∷ codes "restore" ∷ codes "statuses" ∷ codes "fail" ∷ codes "lost" ∷ codes "frame" ∷ codes "add"
    ∷ codes "remove" ∷ codes "cut" ∷ codes "mend" ∷ codes "pass" ∷ codes "stream" ∷ codes "drain" ∷ []

abbrev pub lone_faults : List LiveLineFault
lone_faults =
    replicate 10 (Behind Configuration) ++ replicate 2 (Behind Windows)
    ++ Count word.Frame 0 ∷ Count word.Add 0 ∷ Count word.Remove 0 ∷ Count word.Cut 0 ∷ Count word.Mend 0
    ∷ Count word.Pass 0 ∷ First ∷ First ∷ []

abbrev pub faults_behind : List (List ℕ) → List (List ℕ) → List (Option LineWrong)
faults_behind ls behind = map (λ line. line_fault (said_in ls) (words line)) behind
