-- PLI and its check have four octets; the rest is computed.
use Rattle.std.proofs.Common.{refl, length}
use Rattle.law_model.specs.Common.{bits, number_behind, add_front, divide, hec_of, client, area_of}
use Rattle.text_captures.proofs.WrittenCaptureFrameLaws.{pattern-on}
use Rattle.text_captures.proofs.capture_file.gfp_law.Goals as goal

pub returns-clause-header : goal.returns-clause-header
returns-clause-header c frame = pattern-on (length (area_of (client frame)))

pub returns-clause-area : goal.returns-clause-area
returns-clause-area c frame = refl

pub returns-clause-worked : goal.returns-clause-worked
unfolding hec_of bits divide add_front number_behind
returns-clause-worked c = refl
