-- Worked texts, by computation.
use Rattle.std.proofs.Common.{◌≡◌, map, refl}
use Rattle.std.specs.Fmt.{digits}
use Rattle.hex.specs.Hex.{decode_pairs}
use Rattle.text_lines.specs.WordsOfLine.{words}
use Rattle.text_lines.specs.Language.{said_from}
use Rattle.law_model.specs.Common.{command_dues, frame_dues, slip_after}
use Rattle.law_live.specs.LiveSayings.{live_from}
use Rattle.pair_live.specs.PairSayingsOfLines.{scripts_of_live}
use Rattle.pair_live.specs.WorkedPairTexts.{fault_behind, fault_in, word_texts, word_faults, order_texts, order_faults}
use Rattle.pair_live.specs.WorkedPairTexts.{opening_texts, opening_faults, cut_back_lines, cut_back_scripts}

pub words_worked : map fault_behind word_texts ≡ word_faults
unfolding decode_pairs digits words said_from live_from frame_dues command_dues slip_after
words_worked = refl

pub order_worked : map fault_behind order_texts ≡ order_faults
unfolding decode_pairs digits words said_from live_from frame_dues command_dues slip_after
order_worked = refl

pub opening_worked : map fault_in opening_texts ≡ opening_faults
unfolding decode_pairs digits words said_from live_from frame_dues command_dues slip_after
opening_worked = refl

pub scripts_worked : scripts_of_live cut_back_lines ≡ cut_back_scripts
unfolding decode_pairs digits words said_from live_from frame_dues command_dues slip_after
scripts_worked = refl
